-- A shortest spelling is the only one of its number, and no other has fewer bytes.
use Rattle.std.proofs.Common.{◌≡◌, ◌≢◌, ℕ, suc, ◌+◌, ◌*◌, ◌/◌, ◌%◌, ◌^◌, ◌<◌, ◌≤◌, List, [], ◌∷◌, length, pos, ◌-ℤ◌, ◌≤ℤ◌, refl, sym, ap, subst, ◌∙◌, ◌⊎◌, inl, inr, arith}
use Rattle.std.specs.Prelude.{All, ℤ}
use Rattle.std.proofs.Math.Nat.{pow-suc, pow-le-pow_right, le_antisymm}
use Rattle.std.proofs.lemmas.Nat.{mul-add-lt, div-mul-add, mod-mul-add, mul-le}
use Rattle.std.proofs.lemmas.Int.{ints}
use Rattle.std.proofs.lemmas.Bool.{cases_lt, cases_eq}
use Rattle.std.proofs.lemmas.List.{get_or_past}
use Rattle.picky_asn1_bits.specs.Integer.{unsigned_of, int_of, IsShortest}
use Rattle.picky_asn1_bits.proofs.Numbers.{IsBytes, unsigned_lt, int_of_low, int_of_high, positive}

pub IsBytes-All : (bytes : List ℕ) → All (λ b. b < 256) bytes → IsBytes bytes
IsBytes-All bytes all i = elim (cases_lt i (length bytes)) [
  | inl within ↦ all i 0 within
  | inr past ↦ rw (get_or_past bytes i 0 past) (omega arith)
]

-- as many bytes of the same number are the same
same_bytes : (s t : List ℕ) → IsBytes s → IsBytes t → length s ≡ length t → unsigned_of s ≡ unsigned_of t → s ≡ t
same_bytes [] [] small others long same = refl
same_bytes [] (c ∷ cs) small others long same = absurd (omega arith)
same_bytes (b ∷ bs) [] small others long same = absurd (omega arith)
same_bytes (b ∷ bs) (c ∷ cs) small others long same =
    let l : length bs ≡ length cs = omega arith in
    let w : 256 ^ length bs ≡ 256 ^ length cs = ap (λ (n : ℕ). 256 ^ n) l in
    let low = unsigned_lt bs (λ i. small (suc i)) in
    let low2 : unsigned_of cs < 256 ^ length bs = rw w (unsigned_lt cs (λ i. others (suc i))) in
    let e : b * 256 ^ length bs + unsigned_of bs ≡ c * 256 ^ length bs + unsigned_of cs = same ∙ ap (λ (n : ℕ). c * n + unsigned_of cs) (sym w) in
    let first : b ≡ c = sym (div-mul-add b (256 ^ length bs) (unsigned_of bs) low) ∙ ap (λ (n : ℕ). n / 256 ^ length bs) e ∙ div-mul-add c (256 ^ length bs) (unsigned_of cs) low2 in
    let last : unsigned_of bs ≡ unsigned_of cs = sym (mod-mul-add b (256 ^ length bs) (unsigned_of bs) low) ∙ ap (λ (n : ℕ). n % 256 ^ length bs) e ∙ mod-mul-add c (256 ^ length bs) (unsigned_of cs) low2 in
    let rest : bs ≡ cs = same_bytes bs cs (λ i. small (suc i)) (λ i. others (suc i)) l last in
    cc

-- a number by the bounds of its first byte
number_from : (least b : ℕ) (bs : List ℕ) → least ≤ b → least * 256 ^ length bs ≤ unsigned_of (b ∷ bs)
number_from least b bs le = omega (arith, mul-le least (256 ^ length bs) b (256 ^ length bs) le (omega arith))

number_below : (b most : ℕ) (bs : List ℕ) → b < most → IsBytes (b ∷ bs) → unsigned_of (b ∷ bs) < 256 ^ length bs * most
number_below b most bs lt small = mul-add-lt b (256 ^ length bs) (unsigned_of bs) most lt (unsigned_lt bs (λ i. small (suc i)))

-- a shortest spelling of two bytes or more is out of the range of one byte fewer
shortest_low : (b c : ℕ) (bs : List ℕ) → IsShortest (b ∷ c ∷ bs) → 256 ^ length (c ∷ bs) ≤ 2 * unsigned_of (b ∷ c ∷ bs)
shortest_low b c bs shortest = elim (cases_eq b 0) [
  | inl zero_is ↦
      let p : 256 ^ length (c ∷ bs) ≡ 256 ^ length bs * 256 = pow-suc 256 (length bs) in
      let l : 128 * 256 ^ length bs ≤ unsigned_of (c ∷ bs) = number_from 128 c bs (shortest.0 zero_is) in
      omega arith
  | inr other ↦ omega (arith, number_from 1 b (c ∷ bs) (omega arith))
]

shortest_high : (b c : ℕ) (bs : List ℕ) → IsBytes (b ∷ c ∷ bs) → IsShortest (b ∷ c ∷ bs) → 256 ^ length (c ∷ bs) + 2 * unsigned_of (b ∷ c ∷ bs) < 2 * 256 ^ length (b ∷ c ∷ bs)
shortest_high b c bs small shortest =
    let p : 256 ^ length (b ∷ c ∷ bs) ≡ 256 ^ length (c ∷ bs) * 256 = pow-suc 256 (length (c ∷ bs)) in
    elim (cases_eq b 255) [
      | inl ones ↦
          let q : 256 ^ length (c ∷ bs) ≡ 256 ^ length bs * 256 = pow-suc 256 (length bs) in
          let l : unsigned_of (c ∷ bs) < 256 ^ length bs * 128 = number_below c 128 bs (shortest.1 ones) (λ i. small (suc i)) in
          let e : unsigned_of (b ∷ c ∷ bs) ≡ 255 * 256 ^ length (c ∷ bs) + unsigned_of (c ∷ bs) = ap (λ (x : ℕ). x * 256 ^ length (c ∷ bs) + unsigned_of (c ∷ bs)) ones in
          omega arith
      | inr other ↦
          let first : b < 256 = small 0 in
          omega (arith, number_below b 255 (c ∷ bs) (omega arith) small)
    ]

-- two spellings of one number: their signs are the same, and so are their numbers of bytes, less a power where they are below zero
abbrev BothLow : (b c : ℕ) (bs cs : List ℕ) → Type 0
BothLow b c bs cs = (b < 128) × (c < 128) × (unsigned_of (b ∷ bs) ≡ unsigned_of (c ∷ cs))

abbrev BothHigh : (b c : ℕ) (bs cs : List ℕ) → Type 0
BothHigh b c bs cs = (128 ≤ b) × (128 ≤ c) × (unsigned_of (b ∷ bs) + 256 ^ length (c ∷ cs) ≡ unsigned_of (c ∷ cs) + 256 ^ length (b ∷ bs))

agree : (b c : ℕ) (bs cs : List ℕ) → IsBytes (b ∷ bs) → IsBytes (c ∷ cs) → int_of (b ∷ bs) ≡ int_of (c ∷ cs) → BothLow b c bs cs ⊎ BothHigh b c bs cs
agree b c bs cs small others same = elim (cases_lt b 128) [
  | inl low ↦
      let other : c < 128 = (positive c cs others).1 (subst (λ (z : ℤ). pos 0 ≤ℤ z) same ((positive b bs small).0 low)) in
      let e : pos (unsigned_of (b ∷ bs)) ≡ pos (unsigned_of (c ∷ cs)) = sym (int_of_low b bs low) ∙ same ∙ int_of_low c cs other in
      inl (low, other, omega (arith, ints))
  | inr high ↦ elim (cases_lt c 128) [
    | inl low ↦
        let other : b < 128 = (positive b bs small).1 (subst (λ (z : ℤ). pos 0 ≤ℤ z) (sym same) ((positive c cs others).0 low)) in
        absurd (omega arith)
    | inr other ↦
        let e : pos (unsigned_of (b ∷ bs)) -ℤ pos (256 ^ length (b ∷ bs)) ≡ pos (unsigned_of (c ∷ cs)) -ℤ pos (256 ^ length (c ∷ cs)) =
        sym (int_of_high b bs high) ∙ same ∙ int_of_high c cs other in
        inr (high, other, omega (arith, ints))
  ]
]

-- no spelling of its number has fewer bytes
pub IsShortest-fewest : (s t : List ℕ) → IsBytes s → IsBytes t → IsShortest s → t ≢ [] → int_of s ≡ int_of t → length s ≤ length t
IsShortest-fewest [] t small others shortest some same = absurd shortest
IsShortest-fewest (b ∷ bs) [] small others shortest some same = absurd (some refl)
IsShortest-fewest (b ∷ []) (c ∷ cs) small others shortest some same = omega arith
IsShortest-fewest (b ∷ d ∷ bs) (c ∷ cs) small others shortest some same = elim (cases_lt (length cs) (length (d ∷ bs))) [
  | inr enough ↦ omega arith
  | inl fewer ↦
      let power : 256 ^ length (c ∷ cs) ≤ 256 ^ length (d ∷ bs) = pow-le-pow_right (omega arith) (omega arith) in
      let p : 256 ^ length (c ∷ cs) ≡ 256 ^ length cs * 256 = pow-suc 256 (length cs) in
      elim (agree b c (d ∷ bs) cs small others same) [
        | inl low ↦
            let far = shortest_low b d bs shortest in
            let near = number_below c 128 cs low.1 others in
            let e = low.2 in
            absurd (omega arith)
        | inr high ↦
            let far = shortest_high b d bs small shortest in
            let near = number_from 128 c cs high.1 in
            let e = high.2 in
            absurd (omega arith)
      ]
]

-- it is the only one of its number
pub IsShortest-one : (s t : List ℕ) → IsBytes s → IsBytes t → IsShortest s → IsShortest t → int_of s ≡ int_of t → s ≡ t
IsShortest-one [] t small others shortest other same = absurd shortest
IsShortest-one (b ∷ bs) [] small others shortest other same = absurd other
IsShortest-one (b ∷ bs) (c ∷ cs) small others shortest other same =
    let long : length (b ∷ bs) ≡ length (c ∷ cs) =
    le_antisymm (IsShortest-fewest (b ∷ bs) (c ∷ cs) small others shortest (λ (h : (c ∷ cs) ≡ []). cc) same)
    (IsShortest-fewest (c ∷ cs) (b ∷ bs) others small other (λ (h : (b ∷ bs) ≡ []). cc) (sym same)) in
    let power : 256 ^ length (b ∷ bs) ≡ 256 ^ length (c ∷ cs) = ap (λ (n : ℕ). 256 ^ n) long in
    same_bytes (b ∷ bs) (c ∷ cs) small others long (elim (agree b c bs cs small others same) [
      | inl low ↦ low.2
      | inr high ↦ let e = high.2 in omega arith
    ])
