-- The arcs and the numbers that are encoded.
use Rattle.std.proofs.Common.{◌≡◌, ◌≢◌, ◌↔◌, ℕ, suc, ◌+◌, ◌-◌, ◌*◌, ◌/◌, ◌^◌, ◌<◌, ◌≤◌, min, List, [], ◌∷◌, length, get_or, set, refl, sym, ap, ◌∙◌, arith}
use Rattle.std.specs.Prelude.{All, insert, slice_get, is_some, unwrap_or, Option, Some}
use Rattle.std.specs.List.{flat_map}
use Rattle.std.proofs.lemmas.List.Elements.{All-cons, All-head, All-tail, All-from_get_or}
use Rattle.std.proofs.lemmas.Bool.{false≢true}
use Rattle.picky_asn1_oid.specs.Arcs.{FitsArc, IsArcs, base128, subidentifiers}
use Rattle.picky_asn1_oid.specs.Numbers.{AreNumbersOf, arcs_from}
use Rattle.picky_asn1_oid.specs.Fault.{IsContentsOf}
pub use Rattle.picky_asn1_oid.specs.laws.Arcs.{arcs_from-subidentifiers, subidentifiers_fit}

-- ---- which numbers are arcs

others_fit : (others : List ℕ) → ((i : ℕ) → get_or others i 0 < 2 ^ 128) → All FitsArc others
others_fit others fits = All-from_get_or FitsArc others 0 (λ i within. fits i)

pub arcs_low : (numbers : List ℕ) → 2 ≤ length numbers → get_or numbers 0 0 < 2 → ((i : ℕ) → get_or numbers i 0 < 2 ^ 128) → (get_or numbers 1 0 < 40) ↔ IsArcs numbers
arcs_low [] two low fits = absurd (omega arith)
arcs_low (a ∷ []) two low fits = absurd (omega arith)
arcs_low (a ∷ b ∷ others) two low fits =
    ((λ below. (omega arith, (λ _. below), omega arith, others_fit others (λ i. fits (suc (suc i))))), (λ arcs. arcs.1 low))

pub arcs_two : (numbers : List ℕ) → 2 ≤ length numbers → get_or numbers 0 0 ≡ 2 → ((i : ℕ) → get_or numbers i 0 < 2 ^ 128) → (get_or numbers 1 0 ≤ 340282366920938463463374607431768211375) ↔ IsArcs numbers
arcs_two [] two is fits = absurd (omega arith)
arcs_two (a ∷ []) two is fits = absurd (omega arith)
arcs_two (a ∷ b ∷ others) two is fits =
    ((λ below. (omega arith, (λ low. absurd (omega arith)), omega arith, others_fit others (λ i. fits (suc (suc i))))), (λ arcs. let f = arcs.2 in omega arith))

-- ---- back and forth

subidentifiers_some : (arcs : List ℕ) → IsArcs arcs → subidentifiers arcs ≡ [] → ⊥
subidentifiers_some [] arcs none = arcs
subidentifiers_some (a ∷ []) arcs none = arcs
subidentifiers_some (a ∷ b ∷ others) arcs none = absurd (let l = ap length none in omega arith)

joined_again : (n : ℕ) → 40 * min (n / 40) 2 + (n - 40 * min (n / 40) 2) ≡ n
joined_again n = omega arith

IsArcs-arcs_from : (numbers : List ℕ) → numbers ≢ [] → All FitsArc numbers → IsArcs (arcs_from numbers)
IsArcs-arcs_from [] some fit = absurd (some refl)
IsArcs-arcs_from (n ∷ others) some fit =
    let fits : n < 2 ^ 128 = All-head FitsArc n others fit in
    (omega arith, (λ low. omega arith), omega arith, All-tail FitsArc n others fit)

subidentifiers-arcs_from : (numbers : List ℕ) → numbers ≢ [] → subidentifiers (arcs_from numbers) ≡ numbers
subidentifiers-arcs_from [] some = absurd (some refl)
subidentifiers-arcs_from (n ∷ others) some = ap (λ (k : ℕ). k ∷ others) (joined_again n)

-- the numbers of contents, as arcs
pub arcs_read : (bytes numbers arcs : List ℕ) → AreNumbersOf bytes numbers → ((y : List ℕ) → AreNumbersOf bytes y → y ≡ numbers) → numbers ≢ [] → arcs ≡ arcs_from numbers → IsContentsOf bytes arcs × ((y : List ℕ) → IsContentsOf bytes y → y ≡ arcs)
arcs_read bytes numbers arcs are only some is = (
  rw is (
    IsArcs-arcs_from numbers some are.0,
    ap (λ (l : List ℕ). flat_map base128 l) (subidentifiers-arcs_from numbers some) ∙ are.1,
  ),
  (λ y contents.
      sym (arcs_from-subidentifiers y contents.0)
      ∙ ap arcs_from (only (subidentifiers y) (subidentifiers_fit y contents.0, contents.1))
      ∙ sym is),
)

-- where bytes are no numbers, they are no contents
pub no_arcs : (bytes : List ℕ) → ((y : List ℕ) → AreNumbersOf bytes y → ⊥) → (y : List ℕ) → IsContentsOf bytes y → ⊥
no_arcs bytes none y contents = none (subidentifiers y) (subidentifiers_fit y contents.0, contents.1)

-- no bytes are no contents
pub empty_no_arcs : (bytes : List ℕ) → ((y : List ℕ) → AreNumbersOf bytes y → y ≡ []) → (y : List ℕ) → IsContentsOf bytes y → ⊥
empty_no_arcs bytes only y contents =
    subidentifiers_some y contents.0 (only (subidentifiers y) (subidentifiers_fit y contents.0, contents.1))

-- what the two writes make of the numbers
pub arcs_written : (numbers : List ℕ) (joined first : ℕ) → numbers ≢ [] → joined ≡ get_or numbers 0 0 → first ≡ min (joined / 40) 2 → insert (set numbers 0 (joined - 40 * first)) 0 first ≡ arcs_from numbers
arcs_written [] joined first some j f = absurd (some refl)
arcs_written (n ∷ others) joined first some j f =
    rw (f, j) refl

-- the first number, if there is one
pub got_first : (numbers : List ℕ) (joined : ℕ) → Some joined ≡ slice_get numbers 0 → (numbers ≢ []) × (joined ≡ get_or numbers 0 0)
got_first [] joined got = absurd (false≢true (ap is_some (sym got)))
got_first (n ∷ others) joined got = ((λ (h : (n ∷ others) ≡ []). cc), ap (λ (o : Option ℕ). unwrap_or o 0) got)

-- each arc fits 128 bits
pub arcs_fit : (arcs : List ℕ) → IsArcs arcs → All FitsArc arcs
arcs_fit [] arcs = absurd arcs
arcs_fit (a ∷ []) arcs = absurd arcs
arcs_fit (a ∷ b ∷ others) arcs =
    let joined = arcs.2 in
    All-cons FitsArc a (b ∷ others) (omega arith) (All-cons FitsArc b others (omega arith) arcs.3)
