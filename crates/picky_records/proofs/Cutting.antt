-- Texts that are cut at each mark, read from their first mark on.
use Rattle.std.proofs.Common.{◌≡◌, ℕ, ◌<◌, List, [], ◌∷◌, ◌++◌, length, length-append, refl, sym, ap, ◌∙◌, append_assoc, arith, inl, inr, map}
use Rattle.std.specs.Prelude.{◌≢◌}
use Rattle.std.proofs.lemmas.Bool.{eq-eqb, ne_eqb, cases_eq}
use Rattle.std.proofs.lemmas.List.{append-nil, map-append}
use Rattle.std.proofs.lemmas.List.Elements.{All-head, All-tail, All-cons, All-nil}
use Rattle.std.specs.Borrow.{Bor}
use Rattle.picky_contract.specs.Text.{Lacks, IsCutAtFirst}
use Rattle.picky_records.specs.Cutting.{ended_after, left_after, lines_in, left_in, fields_in, space, line_feed}

ended_cut : (c : ℕ) (acc front back : List ℕ) → Lacks c front → ended_after c acc (front ++ c ∷ back) ≡ (acc ++ front) ∷ ended_after c [] back
unfolding ended_after
ended_cut c acc [] back lacks = rw (eq-eqb c c refl) (ap (λ (x : List ℕ). x ∷ ended_after c [] back) (sym (append-nil acc)))
ended_cut c acc (b ∷ front) back lacks =
    rw (ne_eqb b c (All-head (λ x. x ≢ c) b front lacks))
    (ended_cut c (acc ++ b ∷ []) front back (All-tail (λ x. x ≢ c) b front lacks) ∙ ap (λ (x : List ℕ). x ∷ ended_after c [] back) (append_assoc acc (b ∷ []) front))

left_cut : (c : ℕ) (acc front back : List ℕ) → Lacks c front → left_after c acc (front ++ c ∷ back) ≡ left_after c [] back
unfolding left_after
left_cut c acc [] back lacks = rw (eq-eqb c c refl)
left_cut c acc (b ∷ front) back lacks =
    rw (ne_eqb b c (All-head (λ x. x ≢ c) b front lacks)) (left_cut c (acc ++ b ∷ []) front back (All-tail (λ x. x ≢ c) b front lacks))

ended_uncut : (c : ℕ) (acc text : List ℕ) → Lacks c text → ended_after c acc text ≡ []
unfolding ended_after
ended_uncut c acc [] lacks = refl
ended_uncut c acc (b ∷ text) lacks =
    rw (ne_eqb b c (All-head (λ x. x ≢ c) b text lacks)) (ended_uncut c (acc ++ b ∷ []) text (All-tail (λ x. x ≢ c) b text lacks))

left_uncut : (c : ℕ) (acc text : List ℕ) → Lacks c text → left_after c acc text ≡ acc ++ text
unfolding left_after
left_uncut c acc [] lacks = sym (append-nil acc)
left_uncut c acc (b ∷ text) lacks =
    rw (ne_eqb b c (All-head (λ x. x ≢ c) b text lacks))
    (left_uncut c (acc ++ b ∷ []) text (All-tail (λ x. x ≢ c) b text lacks) ∙ append_assoc acc (b ∷ []) text)

-- the text has no cut
abbrev pub IsUncut : ℕ → List ℕ → Type 0
IsUncut c text = (front back : List ℕ) → IsCutAtFirst c text front back → ⊥

lacks_mark : (c : ℕ) (text : List ℕ) → IsUncut c text → Lacks c text
lacks_mark c [] uncut = All-nil (λ x. x ≢ c)
lacks_mark c (b ∷ text) uncut = elim (cases_eq b c) [
  | inl e ↦ absurd (uncut [] text (record { joined = ap (λ (x : ℕ). x ∷ text) e; lacks = All-nil (λ x. x ≢ c) }))
  | inr apart ↦ All-cons (λ x. x ≢ c) b text apart (lacks_mark c text (λ front back cut.
      uncut (b ∷ front) back (record { joined = ap (λ (x : List ℕ). b ∷ x) cut.joined; lacks = All-cons (λ x. x ≢ c) b front apart cut.lacks })))
]

-- ---- documents

pub lines_cut : (text front back : List ℕ) → IsCutAtFirst line_feed text front back → lines_in text ≡ front ∷ lines_in back
lines_cut text front back cut = ap (λ (t : List ℕ). lines_in t) cut.joined ∙ ended_cut line_feed [] front back cut.lacks

pub left_same : (text front back : List ℕ) → IsCutAtFirst line_feed text front back → left_in text ≡ left_in back
left_same text front back cut = ap (λ (t : List ℕ). left_in t) cut.joined ∙ left_cut line_feed [] front back cut.lacks

pub no_lines : (text : List ℕ) → IsUncut line_feed text → lines_in text ≡ []
no_lines text uncut = ended_uncut line_feed [] text (lacks_mark line_feed text uncut)

pub all_left : (text : List ℕ) → IsUncut line_feed text → left_in text ≡ text
all_left text uncut = left_uncut line_feed [] text (lacks_mark line_feed text uncut)

-- ---- lines

pub fields_cut : (text front back : List ℕ) → IsCutAtFirst space text front back → fields_in text ≡ front ∷ fields_in back
fields_cut text front back cut =
    let ended = ended_cut space [] front back cut.lacks in
    let left = left_cut space [] front back cut.lacks in
    ap (λ (t : List ℕ). fields_in t) cut.joined ∙ ap (λ (x : List (List ℕ)). x ++ left_after space [] (front ++ space ∷ back) ∷ []) ended
    ∙ ap (λ (x : List ℕ). front ∷ (ended_after space [] back ++ x ∷ [])) left

pub one_field : (text : List ℕ) → IsUncut space text → fields_in text ≡ text ∷ []
one_field text uncut =
    let lacks = lacks_mark space text uncut in
    ap (λ (x : List (List ℕ)). x ++ left_after space [] text ∷ []) (ended_uncut space [] text lacks) ∙ ap (λ (x : List ℕ). x ∷ []) (left_uncut space [] text lacks)

-- what stands behind a mark is shorter
pub shorter : (c : ℕ) (text front back : List ℕ) → IsCutAtFirst c text front back → length back < length text
shorter c text front back cut = omega (arith, ap (λ (t : List ℕ). length t) cut.joined, length-append front (c ∷ back))

-- ---- the fields that are read so far, in a loop

abbrev pub texts : List (Bor (List ℕ)) → List (List ℕ)
texts vs = map (λ v. v.now) vs

-- one field more
pub fields_turn : (vs ws : List (Bor (List ℕ))) (v : Bor (List ℕ)) (text back line : List ℕ) → ws ≡ vs ++ v ∷ [] → IsCutAtFirst space text v.now back
    → texts vs ++ fields_in text ≡ fields_in line → texts ws ++ fields_in back ≡ fields_in line
fields_turn vs ws v text back line pushed cut so_far =
    ap (λ (x : List (Bor (List ℕ))). texts x ++ fields_in back) pushed
    ∙ ap (λ (x : List (List ℕ)). x ++ fields_in back) (map-append (λ (t : Bor (List ℕ)). t.now) vs (v ∷ []))
    ∙ append_assoc (texts vs) (v.now ∷ []) (fields_in back)
    ∙ ap (λ (x : List (List ℕ)). texts vs ++ x) (sym (fields_cut text v.now back cut)) ∙ so_far

-- the last field
pub fields_end : (vs ws : List (Bor (List ℕ))) (v : Bor (List ℕ)) (line : List ℕ) → ws ≡ vs ++ v ∷ [] → IsUncut space v.now
    → texts vs ++ fields_in v.now ≡ fields_in line → texts ws ≡ fields_in line
fields_end vs ws v line pushed uncut so_far =
    ap texts pushed ∙ map-append (λ (t : Bor (List ℕ)). t.now) vs (v ∷ [])
    ∙ ap (λ (x : List (List ℕ)). texts vs ++ x) (sym (one_field v.now uncut)) ∙ so_far
