-- A text has one cut at its first, or last, such byte.
use Rattle.std.proofs.Common.{◌≡◌, ◌≢◌, ℕ, ◌<◌, ◌≤◌, ◌+◌, List, ◌∷◌, length, take, drop, eqb, Option, Some, None, IfSome, IsSomeAnd, sym, subst, ◌∙◌, Bor}
use Rattle.std.specs.Option.{MatchOption}
use Rattle.std.specs.Str.{NoCharPasses}
use Rattle.std.specs.Str.Pattern.{RFindsChar}
use Rattle.std.proofs.lemmas.List.{take-append-drop}
use Rattle.std.proofs.lemmas.List.Elements.{All-from_get_or}
use Rattle.std.proofs.lemmas.Str.Pattern.{IsSplitOnceResult, split_parts, split_after, NoCharPasses-char, drop_at_char}
use Rattle.picky_contract.specs.Text.{Lacks, IsCutAtFirst, IsCutAtLast}
pub use Rattle.picky_contract.specs.laws.Cuts.{lacks-inside, last-once}

pub found_first : (c : ℕ) (bs : List ℕ) (r : Option (Bor (List ℕ) × Bor (List ℕ))) → IsSplitOnceResult c bs r → c < 128
    → IfSome r (λ x. IsCutAtFirst c bs x.0.now x.1.now)
found_first c bs None h lt = tt
found_first c bs (Some x) h lt =
    let p = split_parts c bs (Some x) h lt in
    record { joined = p.0; lacks = All-from_get_or (λ b. b ≢ c) x.0.now 0 p.1 }

pub every_first : (c : ℕ) (bs : List ℕ) (r : Option (Bor (List ℕ) × Bor (List ℕ))) → IsSplitOnceResult c bs r → c < 128
    → (front back : List ℕ) → IsCutAtFirst c bs front back → IsSomeAnd r (λ x. (x.0.now ≡ front) × (x.1.now ≡ back))
every_first c bs None h lt front back cut = split_after c bs front back None h lt cut.joined (λ i l. cut.lacks i 0 l)
every_first c bs (Some x) h lt front back cut = split_after c bs front back (Some x) h lt cut.joined (λ i l. cut.lacks i 0 l)

-- the clause of `rsplit_once` at a character
abbrev pub IsSplitLastResult : ℕ → List ℕ → Option (Bor (List ℕ) × Bor (List ℕ)) → Type 0
IsSplitLastResult c bs r = MatchOption r (RFindsChar c bs None) (λ x. (i : ℕ) × (j : ℕ) × RFindsChar c bs (Some (i, j)) × (x.0.now ≡ take i bs) × (x.1.now ≡ drop j bs) × (i ≤ j) × (length x.0.now ≡ i) × (length x.1.now + j ≡ length bs))

lacks_from_none : (c : ℕ) (bs : List ℕ) → NoCharPasses (λ d. eqb d c) bs → c < 128 → Lacks c bs
lacks_from_none c bs h lt = All-from_get_or (λ b. b ≢ c) bs 0 (λ i l. NoCharPasses-char c bs i h lt l)

pub found_last : (c : ℕ) (bs : List ℕ) (r : Option (Bor (List ℕ) × Bor (List ℕ))) → IsSplitLastResult c bs r → c < 128
    → IfSome r (λ x. IsCutAtLast c bs x.0.now x.1.now)
found_last c bs None h lt = tt
found_last c bs (Some x) (i, j, finds, front, back, le, front_len, back_len) lt =
    let at : drop i bs ≡ c ∷ drop j bs = drop_at_char c bs i j finds.1 lt in
    record {
      joined = rw (front, back, ← at) (sym (take-append-drop i bs));
      lacks = subst (Lacks c) (sym back) (lacks_from_none c (drop j bs) finds.0 lt);
    }

pub every_last : (c : ℕ) (bs : List ℕ) (r : Option (Bor (List ℕ) × Bor (List ℕ))) → IsSplitLastResult c bs r → c < 128
    → (front back : List ℕ) → IsCutAtLast c bs front back → IsSomeAnd r (λ x. (x.0.now ≡ front) × (x.1.now ≡ back))
every_last c bs None h lt front back cut = lacks-inside c front back (subst (Lacks c) cut.joined (lacks_from_none c bs h lt))
every_last c bs (Some x) h lt front back cut =
    let p : IsCutAtLast c bs x.0.now x.1.now = found_last c bs (Some x) h lt in
    last-once c x.0.now x.1.now front back (sym p.joined ∙ cut.joined) p.lacks cut.lacks
