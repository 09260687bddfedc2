-- ECDSA signatures (RFC 3279 section 2.2.3): ECDSA-Sig-Value ::= SEQUENCE { r INTEGER, s INTEGER }; and the form of fixed size, both numbers in the size of the field (RFC 7518 section 3.4).
use Rattle.std.specs.Prelude.{◌≡◌, ◌≤◌, ℕ, ◌-◌, ◌*◌, List, ◌++◌, length, take, drop, replicate, ◌≤ℤ◌, pos, Option, Some, None}
use Rattle.std.proofs.Common.{refl}
use Rattle.picky_asn1_bits.specs.Integer.{int_of, IsShortest, without_sign_byte, unsigned_spelling}
use Rattle.picky_contract.specs.Refusals.{Table, need, done, ◌>>=◌}
use Rattle.picky_der.specs.Length.{IsBytes}
use Rattle.picky_der.specs.Form.{Form}
use Rattle.picky_fields.specs.Fields.{integer, one, ◌and◌, sequence}
use Rattle.picky_fields.specs.laws.Fields.{Lawful, one_lawful, and_lawful, sequence_lawful}
use Rattle.picky_fields.specs.laws.Plain.{integer_lawful}
use Rattle.picky_key_der.specs.declared.ecdsa.EcdsaSignatureValue.{EcdsaSignatureValue}
use Rattle.picky_key_der.specs.declared.error.SignatureError.{SignatureError}
use Rattle.picky_key_der.specs.declared.error.SignatureError.TheVariants.{Ec, OutOfMemory}

-- ---- in DER

-- the octets of both numbers
abbrev pub PairValue : Type 0
PairValue = List ℕ × List ℕ

abbrev pub pair_value : EcdsaSignatureValue → PairValue
pair_value v = (v.r.0, v.s.0)

unfoldable pub ecdsa_pair : Form PairValue
ecdsa_pair = sequence (one integer and one integer)

pub ecdsa_pair_lawful : Lawful ecdsa_pair
unfolding ecdsa_pair
ecdsa_pair_lawful = sequence_lawful (and_lawful (λ _ _. refl) (one_lawful integer_lawful) (one_lawful integer_lawful))

-- ---- in a fixed size

-- the refusal, none for want of memory
abbrev pub signature_fault : SignatureError → Option SignatureError
signature_fault OutOfMemory = None
signature_fault e = Some e

-- a number that is at least zero, in its shortest spelling
abbrev pub IsNumber : List ℕ → Type 0
IsNumber octets = (pos 0 ≤ℤ int_of octets) × IsShortest octets

-- the bytes with as many 00 in front as make up the size
abbrev pub padded : ℕ → List ℕ → List ℕ
padded size bytes = replicate (size - length bytes) 0 ++ bytes

-- the pair whose numbers are the two halves, each in its shortest spelling
abbrev pub halves_of : ℕ → List ℕ → EcdsaSignatureValue
halves_of size bytes = record { r = record { 0 = unsigned_spelling (take size bytes) }; s = record { 0 = unsigned_spelling (drop size bytes) } }

unfoldable pub halves_table : ℕ → List ℕ → Table EcdsaSignatureValue SignatureError
halves_table size bytes = do
  fits ← need (length bytes ≡ 2 * size) (Ec (2 * size) (length bytes))
  done (halves_of size bytes)

-- the bytes are twice the size, and the pair is of their halves
abbrev pub AreHalves : ℕ → List ℕ → EcdsaSignatureValue → Type 0
AreHalves size bytes pair = (length bytes ≡ 2 * size) × (pair ≡ halves_of size bytes)

-- the bytes of a number in the size
unfoldable pub number_table : ℕ → List ℕ → Table (List ℕ) SignatureError
number_table size octets = do
  fits ← need (length (without_sign_byte octets) ≤ size) (Ec size (length (without_sign_byte octets)))
  done (padded size (without_sign_byte octets))

-- the bytes of both numbers, each in the size
unfoldable pub fixed_table : ℕ → EcdsaSignatureValue → Table (List ℕ) SignatureError
fixed_table size pair = do
  r ← number_table size pair.r.0
  s ← number_table size pair.s.0
  done (r ++ s)

-- neither number has more bytes than the size
abbrev pub Fits : ℕ → EcdsaSignatureValue → Type 0
Fits size pair = (length (without_sign_byte pair.r.0) ≤ size) × (length (without_sign_byte pair.s.0) ≤ size)

abbrev pub fixed_of : ℕ → EcdsaSignatureValue → List ℕ
fixed_of size pair = padded size (without_sign_byte pair.r.0) ++ padded size (without_sign_byte pair.s.0)

abbrev pub ArePadded : ℕ → EcdsaSignatureValue → List ℕ → Type 0
ArePadded size pair bytes = Fits size pair × (bytes ≡ fixed_of size pair)

-- A pair of numbers that fit the size goes to the fixed size and back unchanged.
abbrev pub ComesBack : Type 0
ComesBack = (size : ℕ) (pair : EcdsaSignatureValue) → IsBytes pair.r.0 → IsBytes pair.s.0 → IsNumber pair.r.0 → IsNumber pair.s.0 → Fits size pair → (length (fixed_of size pair) ≡ 2 * size) × (halves_of size (fixed_of size pair) ≡ pair)
