-- Numbers in groups of seven bits, one after another.
use Rattle.std.proofs.Common.{◌≡◌, ◌≢◌, ℕ, List, [], ◌∷◌, ◌++◌, length, refl, sym, ap, ◌∙◌, arith, append_assoc}
use Rattle.std.specs.Prelude.{All}
use Rattle.std.specs.List.{flat_map}
use Rattle.std.proofs.lemmas.List.Elements.{All-nil, All-head, All-tail, All-push}
use Rattle.std.proofs.lemmas.Grind.{common_steps}
use Rattle.picky_asn1_oid.specs.Arcs.{FitsArc, base128}
use Rattle.picky_asn1_oid.specs.Numbers.{AreNumbersOf}

-- these numbers have been taken from the front of the bytes; any numbers that are all of them begin with these
pub record HasTaken (bytes numbers rest : List ℕ) : Type 0 where
  pub fit : All FitsArc numbers
  pub stand : flat_map base128 numbers ++ rest ≡ bytes
  pub only : (all : List ℕ) → AreNumbersOf bytes all → (others : List ℕ) × (all ≡ numbers ++ others) × AreNumbersOf rest others

pub HasTaken-none : (bytes : List ℕ) → HasTaken bytes [] bytes
HasTaken-none bytes = record { fit = All-nil FitsArc; stand = refl; only = λ all a. (all, refl, a) }

flat_map-push : (xs : List ℕ) (n : ℕ) → flat_map base128 (xs ++ n ∷ []) ≡ flat_map base128 xs ++ base128 n
flat_map-push xs n = grind (arith, common_steps)

-- one more number is taken
pub HasTaken-more : (bytes numbers rest : List ℕ) (n : ℕ) (after : List ℕ) → HasTaken bytes numbers rest → FitsArc n → base128 n ++ after ≡ rest → ((m : ℕ) (tail : List ℕ) → FitsArc m → base128 m ++ tail ≡ rest → (n ≡ m) × (after ≡ tail)) → rest ≢ [] → HasTaken bytes (numbers ++ n ∷ []) after
HasTaken-more bytes numbers rest n after taken fits stands only some = record {
  fit = All-push FitsArc numbers n taken.fit fits;
  stand =
      ap (λ (l : List ℕ). l ++ after) (flat_map-push numbers n)
      ∙ append_assoc (flat_map base128 numbers) (base128 n) after
      ∙ ap (λ (l : List ℕ). flat_map base128 numbers ++ l) stands
      ∙ taken.stand;
  only = λ all a. let t = taken.only all a in next all t.0 t.1 t.2;
}
  where
    next : (all others : List ℕ) → all ≡ numbers ++ others → AreNumbersOf rest others → (later : List ℕ) × (all ≡ (numbers ++ n ∷ []) ++ later) × AreNumbersOf after later
    next all [] all_is are = absurd (some (sym are.1))
    next all (m ∷ later) all_is are =
        let same = only m (flat_map base128 later) (All-head FitsArc m later are.0) are.1 in (
          later,
          all_is ∙ ap (λ (k : ℕ). numbers ++ k ∷ later) (sym same.0) ∙ sym (append_assoc numbers (n ∷ []) later),
          (All-tail FitsArc m later are.0, sym same.1),
        )

-- where no number stands in front, no numbers are all of the bytes
pub HasTaken-stuck : (bytes numbers rest : List ℕ) → HasTaken bytes numbers rest → rest ≢ [] → ((m : ℕ) (tail : List ℕ) → FitsArc m → base128 m ++ tail ≡ rest → ⊥) → (all : List ℕ) → AreNumbersOf bytes all → ⊥
HasTaken-stuck bytes numbers rest taken some none all a = let t = taken.only all a in next t.0 t.2
  where
    next : (others : List ℕ) → AreNumbersOf rest others → ⊥
    next [] are = some (sym are.1)
    next (m ∷ later) are = none m (flat_map base128 later) (All-head FitsArc m later are.0) are.1

pub base128_some : (n : ℕ) (tail : List ℕ) → base128 n ++ tail ≡ [] → ⊥
unfolding base128
base128_some n tail e = grind (arith, common_steps, ap length e)

-- at the end these are all
pub HasTaken-all : (bytes numbers : List ℕ) → HasTaken bytes numbers [] → AreNumbersOf bytes numbers × ((all : List ℕ) → AreNumbersOf bytes all → all ≡ numbers)
HasTaken-all bytes numbers taken =
    ((taken.fit, grind (arith, common_steps, taken.stand)), (λ all a. let t = taken.only all a in next all t.0 t.1 t.2))
  where
    next : (all others : List ℕ) → all ≡ numbers ++ others → AreNumbersOf [] others → all ≡ numbers
    next all [] all_is are = grind (arith, common_steps)
    next all (m ∷ later) all_is are = absurd (base128_some m (flat_map base128 later) are.1)

-- a list of no length is empty
pub none_left : (rest : List ℕ) → length rest ≡ 0 → rest ≡ []
none_left [] none = refl
none_left (b ∷ bs) none = absurd (omega arith)
