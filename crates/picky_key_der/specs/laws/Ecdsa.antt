-- Pairs in a fixed size, and back.
use Rattle.std.proofs.Common.{◌≡◌, ℕ, zero, suc, ◌+◌, ◌-◌, ◌<◌, ◌≤◌, true, false, List, [], ◌∷◌, ◌++◌, length, take, drop, refl, sym, ap, ◌∙◌, arith, length-append, inl, inr, Result, Ok, Err, IfOk}
use Rattle.std.specs.Prelude.{replicate, nat_lt, if◌then◌else◌, ◌==◌}
use Rattle.std.proofs.Math.Seq.{take-append_seam, drop-append_seam}
use Rattle.std.proofs.lemmas.Bool.{cases_lt, cases_eq, le-ltb, lt-ltb}
use Rattle.std.proofs.lemmas.Bool.Decides.{nat_tests}
use Rattle.std.proofs.lemmas.List.{length-replicate}
use Rattle.picky_asn1_bits.proofs.Numbers.{positive}
use Rattle.picky_asn1_bits.specs.Integer.{IsShortest, repeats_sign, shortened, without_sign_byte, unsigned_spelling}
use Rattle.picky_contract.specs.Refusals.{Meets, OkOrMemory}
use Rattle.picky_contract.specs.laws.Tables.{Exact, need_exact, done_exact, then_exact, complete}
use Rattle.picky_der.specs.Length.{IsBytes}
use Rattle.picky_der.specs.Strings.{is_shortest}
use Rattle.picky_der.specs.laws.Strings.{shortest-true, shortest-from}
use Rattle.picky_key_der.specs.declared.ecdsa.EcdsaSignatureValue.{EcdsaSignatureValue}
use Rattle.picky_key_der.specs.declared.error.SignatureError.{SignatureError}
use Rattle.picky_key_der.specs.Ecdsa.{IsNumber, padded, fixed_of, Fits, ArePadded, ComesBack, number_table, fixed_table, signature_fault}

-- ---- shortest spellings

pub shortest_to : (octets : List ℕ) → is_shortest octets ≡ true → IsShortest octets
shortest_to octets h = shortest-true octets h

pub shortest_back : (octets : List ℕ) → IsShortest octets → is_shortest octets ≡ true
shortest_back octets h = shortest-from octets h

-- ---- 00 in front

shortened_zeros : (k c : ℕ) (bs : List ℕ) → shortened (replicate (suc k) 0 ++ c ∷ bs) ≡ shortened (0 ∷ c ∷ bs)
shortened_zeros zero c bs = refl
shortened_zeros (suc k) c bs = shortened_zeros k c bs

low_front : (c : ℕ) (bs : List ℕ) → c < 128 → (if nat_lt c 128 then c ∷ bs else 0 ∷ c ∷ bs) ≡ c ∷ bs
low_front c bs lt = rw (lt-ltb c 128 lt) refl

high_front : (c : ℕ) (bs : List ℕ) → 128 ≤ c → (if nat_lt c 128 then c ∷ bs else 0 ∷ c ∷ bs) ≡ 0 ∷ c ∷ bs
high_front c bs le = rw (le-ltb c 128 le) refl

low_second : (c : ℕ) (bs : List ℕ) → c < 128 → shortened (0 ∷ c ∷ bs) ≡ shortened (c ∷ bs)
low_second c bs lt = rw (lt-ltb c 128 lt) refl

spelled : (k c : ℕ) (bs : List ℕ) → unsigned_spelling (replicate k 0 ++ c ∷ bs) ≡ shortened (0 ∷ c ∷ bs)
spelled zero c bs = elim (cases_lt c 128) [
  | inl lt ↦ ap shortened (low_front c bs lt) ∙ sym (low_second c bs lt)
  | inr le ↦ ap shortened (high_front c bs le)
]
spelled (suc k) c bs = shortened_zeros k c bs

low_alone : (b : ℕ) → b < 128 → shortened (0 ∷ b ∷ []) ≡ b ∷ []
low_alone b lt = rw (lt-ltb b 128 lt) refl

high_second : (c : ℕ) (bs : List ℕ) → 128 ≤ c → shortened (0 ∷ c ∷ bs) ≡ 0 ∷ c ∷ bs
high_second c bs le = rw (le-ltb c 128 le) refl

no_repeat : (b c : ℕ) → b < 128 → (b == 0) ≡ false → repeats_sign b c ≡ false
no_repeat b c lt some = rw some (grind (arith, nat_tests))

low_kept : (b c : ℕ) (bs : List ℕ) → b < 128 → (b == 0) ≡ false → shortened (0 ∷ b ∷ c ∷ bs) ≡ b ∷ c ∷ bs
low_kept b c bs lt some = rw (lt-ltb b 128 lt) (rw (no_repeat b c lt some) refl)

two_spelled : (size b c : ℕ) (bs : List ℕ) → b < 128 → (b ≡ 0 → 128 ≤ c) → unsigned_spelling (padded size (without_sign_byte (b ∷ c ∷ bs))) ≡ b ∷ c ∷ bs
two_spelled size b c bs lt high = elim (cases_eq b 0) [
  | inl none ↦ rw none (spelled (size - length (c ∷ bs)) c bs ∙ high_second c bs (high none))
  | inr some ↦ (let e : (b == 0) ≡ false = grind (arith, nat_tests) in rw e (spelled (size - length (b ∷ c ∷ bs)) b (c ∷ bs) ∙ low_kept b c bs lt e))
]

number_back : (size : ℕ) (octets : List ℕ) → IsBytes octets → IsNumber octets → unsigned_spelling (padded size (without_sign_byte octets)) ≡ octets
number_back size [] small number = absurd number.1
number_back size (b ∷ []) small number = spelled (size - 1) b [] ∙ low_alone b ((positive b [] small).1 number.0)
number_back size (b ∷ c ∷ bs) small number = two_spelled size b c bs ((positive b (c ∷ bs) small).1 number.0) number.1.0

-- ---- both numbers

length_padded : (size : ℕ) (bytes : List ℕ) → length bytes ≤ size → length (padded size bytes) ≡ size
length_padded size bytes fits =
    let zeros : length (replicate {A = ℕ} (size - length bytes) 0) ≡ size - length bytes = length-replicate (size - length bytes) 0 in
    let both : length (padded size bytes) ≡ length (replicate {A = ℕ} (size - length bytes) 0) + length bytes = length-append (replicate (size - length bytes) 0) bytes in
    omega arith

take_first : (size : ℕ) (front back : List ℕ) → length front ≡ size → take size (front ++ back) ≡ front
take_first size front back e = rw (← e) (take-append_seam front back)

drop_first : (size : ℕ) (front back : List ℕ) → length front ≡ size → drop size (front ++ back) ≡ back
drop_first size front back e = rw (← e) (drop-append_seam front back)

abbrev pair_of : List ℕ → List ℕ → EcdsaSignatureValue
pair_of r s = record { r = record { 0 = r }; s = record { 0 = s } }

pub pairs_come_back : ComesBack
pairs_come_back size pair r-bytes s-bytes r s fits =
    let front : List ℕ = padded size (without_sign_byte pair.r.0) in
    let back : List ℕ = padded size (without_sign_byte pair.s.0) in
    let front-size : length front ≡ size = length_padded size (without_sign_byte pair.r.0) fits.0 in
    let back-size : length back ≡ size = length_padded size (without_sign_byte pair.s.0) fits.1 in
    let r-is : unsigned_spelling (take size (front ++ back)) ≡ pair.r.0 = ap unsigned_spelling (take_first size front back front-size) ∙ number_back size pair.r.0 r-bytes r in
    let s-is : unsigned_spelling (drop size (front ++ back)) ≡ pair.s.0 = ap unsigned_spelling (drop_first size front back front-size) ∙ number_back size pair.s.0 s-bytes s in
    let both : length (front ++ back) ≡ length front + length back = length-append front back in
    (omega arith, ap (λ (x : List ℕ). pair_of x (unsigned_spelling (drop size (front ++ back)))) r-is ∙ ap (λ (x : List ℕ). pair_of pair.r.0 x) s-is)

-- ---- what the tables say

number_exact : (size : ℕ) (octets : List ℕ) → Exact (number_table size octets)
unfolding number_table
number_exact size octets = then_exact _ _ (need_exact _ _) (λ _. done_exact _)

fixed_exact : (size : ℕ) (pair : EcdsaSignatureValue) → Exact (fixed_table size pair)
unfolding fixed_table
fixed_exact size pair = then_exact _ _ (number_exact size pair.r.0) (λ r. then_exact _ _ (number_exact size pair.s.0) (λ s. done_exact (r ++ s)))

number_holds : (size : ℕ) (octets bytes : List ℕ) → (number_table size octets).holds bytes → (length (without_sign_byte octets) ≤ size) × (bytes ≡ padded size (without_sign_byte octets))
unfolding number_table
number_holds size octets bytes h = (h.1, h.2)

number_of : (size : ℕ) (octets : List ℕ) → length (without_sign_byte octets) ≤ size → (number_table size octets).holds (padded size (without_sign_byte octets))
unfolding number_table
number_of size octets fits = (tt, fits, refl)

holds_padded : (size : ℕ) (pair : EcdsaSignatureValue) (bytes : List ℕ) → (fixed_table size pair).holds bytes → ArePadded size pair bytes
unfolding fixed_table
holds_padded size pair bytes h =
    let r = number_holds size pair.r.0 h.0 h.1 in
    let s = number_holds size pair.s.0 h.2.0 h.2.1 in
    ((r.0, s.0), h.2.2 ∙ ap (λ (x : List ℕ). x ++ h.2.0) r.1 ∙ ap (λ (x : List ℕ). padded size (without_sign_byte pair.r.0) ++ x) s.1)

padded_holds : (size : ℕ) (pair : EcdsaSignatureValue) → Fits size pair → (fixed_table size pair).holds (fixed_of size pair)
unfolding fixed_table
padded_holds size pair fits = (padded size (without_sign_byte pair.r.0), number_of size pair.r.0 fits.0, (padded size (without_sign_byte pair.s.0), number_of size pair.s.0 fits.1, refl))

pub fixed_found : {X : Type 0} (view : X → List ℕ) (size : ℕ) (pair : EcdsaSignatureValue) (r : Result X SignatureError) → Meets view signature_fault r (fixed_table size pair) → IfOk r (λ v. ArePadded size pair (view v))
fixed_found view size pair (Ok v) m = holds_padded size pair (view v) ((fixed_exact size pair).holds (view v) m)
fixed_found view size pair (Err e) m = tt

pub fixed_every : {X : Type 0} (view : X → List ℕ) (size : ℕ) (pair : EcdsaSignatureValue) (r : Result X SignatureError) → Meets view signature_fault r (fixed_table size pair) → Fits size pair → OkOrMemory view signature_fault r (fixed_of size pair)
fixed_every view size pair r m fits = complete view signature_fault r (fixed_table size pair) (fixed_exact size pair) m (fixed_of size pair) (padded_holds size pair fits)
