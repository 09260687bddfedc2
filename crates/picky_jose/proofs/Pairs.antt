-- The pair of an ECDSA signature, and refusals of a signature as those of a token.
use Rattle.std.specs.Prelude.{◌≢◌, ◌*◌, IfSome}
use Rattle.std.proofs.Common.{◌≡◌, ℕ, ◌+◌, ◌<◌, List, [], length, take, drop, inl, inr, refl, ap, arith, length-drop}
use Rattle.std.proofs.lemmas.List.{length-take-le}
use Rattle.picky_asn1_bits.proofs.Numbers.{IsShortest-unsigned_spelling}
use Rattle.picky_contract.specs.Refusals.{Table, named}
use Rattle.picky_key_der.specs.declared.error.SignatureError.{SignatureError}
use Rattle.picky_key_der.specs.declared.error.SignatureError.TheVariants.{UnsupportedAlgorithm, BadSignature, Ec, NoSignature, OutOfMemory}
use Rattle.picky_key_der.specs.Ecdsa.{pair_value, ecdsa_pair, ecdsa_pair_lawful, halves_of, halves_table, signature_fault}
use Rattle.picky_key.specs.Signatures.{SignatureFault, own_fault}
use Rattle.picky_jose.specs.Faults.{jws_fault, jws_error_of, signature}
use Rattle.picky_jose.specs.Signatures.{pair_table}

-- a signature that has no two halves of the size is refused with its size
pub size_refused : (size : ℕ) (s : List ℕ) (e : SignatureError) → IfSome (signature_fault e) (halves_table size s).refuses → IfSome (own_fault e) (pair_table size s).refuses
unfolding halves_table pair_table
size_refused size s UnsupportedAlgorithm (inl h) = absurd (cc (h.0))
size_refused size s UnsupportedAlgorithm (inr h) = absurd h.2
size_refused size s BadSignature (inl h) = absurd (cc (h.0))
size_refused size s BadSignature (inr h) = absurd h.2
size_refused size s (Ec expected got) (inl h) = inl (cc (h.0), h.1)
size_refused size s (Ec expected got) (inr h) = absurd h.2
size_refused size s NoSignature (inl h) = absurd (cc (h.0))
size_refused size s NoSignature (inr h) = absurd h.2
size_refused size s OutOfMemory h = tt

some : (bytes : List ℕ) → 0 < length bytes → bytes ≢ []
some bytes h none = let zero : length bytes ≡ 0 = ap length none in omega arith

formed : (size : ℕ) (s : List ℕ) → 0 < size → length s ≡ 2 * size → ecdsa_pair.in_form (pair_value (halves_of size s))
unfolding ecdsa_pair
formed size s more both =
    let first : length (take size s) ≡ size = length-take-le size s (omega arith) in
    let second : length (drop size s) + size ≡ length s = omega (arith, length-drop size s) in
    (IsShortest-unsigned_spelling (take size s) (some (take size s) (omega arith)), IsShortest-unsigned_spelling (drop size s) (some (drop size s) (omega arith)))

-- the pair of two halves that have bytes has an encoding
pub pair_accepted : (size : ℕ) (s : List ℕ) → 0 < size → length s ≡ 2 * size → ¬ (ecdsa_pair.Refused (pair_value (halves_of size s)))
pair_accepted size s more both refused = ecdsa_pair_lawful.writable.accepted (pair_value (halves_of size s)) (formed size s more both) refused

-- a refusal of a signature is one of the token
pub carried : {X : Type 0} (e : SignatureError) (t : Table X SignatureFault) → IfSome (own_fault e) t.refuses → IfSome (jws_fault (jws_error_of e)) (named signature t).refuses
carried UnsupportedAlgorithm t h = (_, h, refl)
carried BadSignature t h = (_, h, refl)
carried (Ec expected got) t h = (_, h, refl)
carried NoSignature t h = (_, h, refl)
carried OutOfMemory t h = tt
