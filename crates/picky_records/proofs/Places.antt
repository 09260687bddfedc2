-- Conflicts that are found by what lines are looked up by.
use Rattle.std.specs.Prelude.{◌≡◌, ◌⊎◌, ◌||◌, ℕ, Bool, true, false, cond, List, [], ◌∷◌, ◌++◌, Option, Some, None, slice_get}
use Rattle.std.proofs.Common.{refl, sym, ap, subst, ◌∙◌, inl, inr, true≢false, zero, suc}
use Rattle.std.specs.BTreeMap.{BTreeMap, get, Updates}
use Rattle.std.specs.Option.{is_some}
use Rattle.std.specs.Ordering.{nat_cmp}
use Rattle.std.specs.Cmp.Lexicographic.{slice_cmp}
use Rattle.std.specs.Str.{bytes_eq}
use Rattle.std.proofs.lemmas.Option.{none-some, same_Some}
use Rattle.std.proofs.lemmas.Slice.Eq.{bytes_eq-Decides}
use Rattle.std.proofs.lemmas.Map.Text.{is_eq-slice_cmp}
use Rattle.picky_key_der.specs.declared.public.PublicKeyKind.{PublicKeyKind}
use Rattle.picky_key_private.specs.declared.private.PrivateKey.{PrivateKey}
use Rattle.picky_key.specs.declared.provider.WrapScheme.{WrapScheme}
use Rattle.picky_records.specs.declared.line.Line.{Line}
use Rattle.picky_records.specs.declared.line.Line.TheVariants.{Sig, Pair, Unwrap, Agree}
use Rattle.picky_records.specs.Lines.{first, AreSound, some_conflicts, conflicts_with, part_conflicts, pair_in, unwrapped_in, secret_in, other_key, other_bytes}
use Rattle.picky_records.specs.Meanings.{Has}
use Rattle.picky_records.specs.Questions.{pair_key, unwrap_key, agree_key, Knows, KnowsPart, KnowsLine, KnowsLines, Keeps, Learns, part_question, question_of, part_answered, is_answered_by}
use Rattle.picky_records.specs.laws.Answers.{pair_is, pair_of, unwrapped_is, unwrapped_of, secret_is, secret_of, secret_swap, one_pair, one_unwrapped, one_secret}
use Rattle.picky_records.specs.laws.Laws.{answer_of}

-- ---- conflicts with lines, one by one

or_true : (x : Bool) → (x || true) ≡ true
or_true true = refl
or_true false = refl

any_true : (ls : List Line) (m line : Line) → Has ls m → conflicts_with m line ≡ true → some_conflicts ls line ≡ true
any_true [] m line has h = absurd has
any_true (l ∷ ls) m line (inl here) h = ap (λ (b : Bool). b || some_conflicts ls line) (subst (λ x. conflicts_with x line ≡ true) (sym here) h)
any_true (l ∷ ls) m line (inr later) h = ap (λ (b : Bool). conflicts_with l line || b) (any_true ls m line later h) ∙ or_true (conflicts_with l line)

any_false : (ls : List Line) (line : Line) → ((m : Line) → Has ls m → conflicts_with m line ≡ false) → some_conflicts ls line ≡ false
any_false [] line none = refl
any_false (l ∷ ls) line none =
    ap (λ (b : Bool). b || some_conflicts ls line) (none l (inl refl)) ∙ any_false ls line (λ m has. none m (inr has))

-- ---- a line that answers decides

-- where all lines of a list that answer a question answer alike, one that answers decides
by_one : {Y : Type 0} (g : Line → Option Y) (other : Option Y → Bool) (ls : List Line) (line m : Line) → other None ≡ false → ((l : Line) → conflicts_with l line ≡ other (g l))
    → ((l : Line) (z : Y) → Has ls l → g l ≡ Some z → first g ls ≡ Some z) → Has ls m → is_some (g m) ≡ true → some_conflicts ls line ≡ conflicts_with m line
by_one {Y} g other ls line m none is one has some = at (g m) refl some
  where
    quiet : (y : Y) → g m ≡ Some y → other (Some y) ≡ false → (l : Line) → Has ls l → (o : Option Y) → g l ≡ o → conflicts_with l line ≡ false
    quiet y own calm l in_list None e = is l ∙ ap other e ∙ none
    quiet y own calm l in_list (Some z) e =
        let same : Some z ≡ Some y = sym (one l z in_list e) ∙ one m y has own in
        is l ∙ ap other (e ∙ same) ∙ calm

    decide : (y : Y) → g m ≡ Some y → (b : Bool) → other (Some y) ≡ b → some_conflicts ls line ≡ b
    decide y own true e = any_true ls m line has (is m ∙ ap other own ∙ e)
    decide y own false e = any_false ls line (λ l in_list. quiet y own e l in_list (g l) refl)

    at : (o : Option Y) → g m ≡ o → is_some o ≡ true → some_conflicts ls line ≡ conflicts_with m line
    at None own h = absurd (true≢false (sym h))
    at (Some y) own h = decide y own (other (Some y)) refl ∙ sym (is m ∙ ap other own)

by_part : (ls : List Line) (m : Line) (t : WrapScheme) (k : PrivateKey) (w c : List ℕ) (o : Option PublicKeyKind) → k.public_part ≡ o → AreSound ls → Has ls m
    → part_answered m t o w ≡ true → some_conflicts ls (Unwrap t k w c) ≡ conflicts_with m (Unwrap t k w c)
by_part ls m t k w c None part sound has some = absurd (true≢false (sym some))
by_part ls m t k w c (Some q) part sound has some =
    by_one (unwrapped_in t q w) (λ o. other_bytes o c) ls (Unwrap t k w c) m refl (λ l. ap (λ o. part_conflicts l t o w c) part)
    (λ l z in_list h.
    let p = unwrapped_is t q w z l h in
    answer_of (unwrapped_in t q w) (Unwrap t p.0 w z) z (unwrapped_of t q w z p.0 p.2) (λ x apart d e. one_unwrapped t q w z d p.0 x p.2 apart e) ls sound
    (subst (λ x. Has ls x) p.1 in_list))
    has some

by_secret : (ls : List Line) (a b : PublicKeyKind) (z : List ℕ) (l : Line) → AreSound ls → Has ls l → secret_in a b l ≡ Some z → first (secret_in a b) ls ≡ Some z
by_secret ls a b z l sound in_list h = elim (secret_is a b z l h) [
  | inl is ↦ answer_of (secret_in a b) (Agree a b z) z (secret_of a b z) (λ x apart d e. one_secret a b z d x apart e) ls sound (subst (λ x. Has ls x) is in_list)
  | inr is ↦ answer_of (secret_in a b) (Agree b a z) z (secret_swap a b (Agree b a z) ∙ secret_of b a z)
      (λ x apart d e. one_secret b a z d x apart (secret_swap b a x ∙ e)) ls sound (subst (λ x. Has ls x) is in_list)
]

pub decided : (ls : List Line) (m line : Line) → AreSound ls → Has ls m → is_answered_by m line ≡ true → some_conflicts ls line ≡ conflicts_with m line
decided ls m (Sig k a msg s) sound has some = absurd (true≢false (sym some))
decided ls m (Pair k q) sound has some = by_one (pair_in k) (λ o. other_key o q) ls (Pair k q) m refl (λ l. refl)
    (λ l z in_list h. answer_of (pair_in k) (Pair k z) z (pair_of k z) (λ x apart d e. one_pair k z d x apart e) ls sound (subst (λ x. Has ls x) (pair_is k z l h) in_list))
    has some
decided ls m (Unwrap t k w c) sound has some = by_part ls m t k w c k.public_part refl sound has some
decided ls m (Agree a b s) sound has some = by_one (secret_in a b) (λ o. other_bytes o s) ls (Agree a b s) m refl (λ l. refl)
    (λ l z in_list h. by_secret ls a b z l sound in_list h) has some

pub place_has : (ls : List Line) (i : ℕ) (m : Line) → slice_get ls i ≡ Some m → Has ls m
place_has [] i m h = absurd (none-some m h)
place_has (l ∷ ls) zero m h = inl (same_Some l m h)
place_has (l ∷ ls) (suc i) m h = inr (place_has ls i m h)

-- ---- what isn't found conflicts with nothing

lost : (m : BTreeMap (List ℕ) ℕ) (key : List ℕ) → get (slice_cmp nat_cmp) m key ≡ None → Knows m key → ⊥
lost m key none known = true≢false (sym known ∙ ap is_some none)

calm_key : (o : Option PublicKeyKind) (q : PublicKeyKind) → ((r : PublicKeyKind) → o ≡ Some r → ⊥) → other_key o q ≡ false
calm_key None q none = refl
calm_key (Some r) q none = absurd (none r refl)

calm_bytes : (o : Option (List ℕ)) (c : List ℕ) → ((d : List ℕ) → o ≡ Some d → ⊥) → other_bytes o c ≡ false
calm_bytes None c none = refl
calm_bytes (Some d) c none = absurd (none d refl)

part_known : (m : BTreeMap (List ℕ) ℕ) (t : WrapScheme) (o : Option PublicKeyKind) (q : PublicKeyKind) (w : List ℕ) → o ≡ Some q → KnowsPart m t o w → Knows m (unwrap_key t q w)
part_known m t None q w e known = absurd (none-some q e)
part_known m t (Some r) q w e known = subst (λ (x : PublicKeyKind). Knows m (unwrap_key t x w)) (same_Some r q e) known

calm_part : (m : BTreeMap (List ℕ) ℕ) (l : Line) (t : WrapScheme) (w c : List ℕ) (o : Option PublicKeyKind) (key : List ℕ) → KnowsLine m l → part_question t o w ≡ Some key
    → get (slice_cmp nat_cmp) m key ≡ None → part_conflicts l t o w c ≡ false
calm_part m l t w c None key known is none = refl
calm_part m l t w c (Some q) key known is none = calm_bytes (unwrapped_in t q w l) c (λ d h.
    let p = unwrapped_is t q w d l h in
    let line : KnowsLine m (Unwrap t p.0 w d) = subst (λ x. KnowsLine m x) p.1 known in
    lost m key none (subst (λ (x : List ℕ). Knows m x) (same_Some (unwrap_key t q w) key is) (part_known m t p.0.public_part q w p.2 line)))

calm : (m : BTreeMap (List ℕ) ℕ) (l line : Line) (key : List ℕ) → KnowsLine m l → question_of line ≡ Some key → get (slice_cmp nat_cmp) m key ≡ None → conflicts_with l line ≡ false
calm m l (Sig k a msg s) key known is none = refl
calm m l (Pair k q) key known is none = calm_key (pair_in k l) q (λ r h.
    let line : KnowsLine m (Pair k r) = subst (λ x. KnowsLine m x) (pair_is k r l h) known in
    lost m key none (subst (λ (x : List ℕ). Knows m x) (same_Some (pair_key k.bytes) key is) line))
calm m l (Unwrap t k w c) key known is none = calm_part m l t w c k.public_part key known is none
calm m l (Agree a b s) key known is none = calm_bytes (secret_in a b l) s (λ d h.
    let same : agree_key a b ≡ key = same_Some (agree_key a b) key is in
    elim (secret_is a b d l h) [
      | inl at ↦ (let line : KnowsLine m (Agree a b d) = subst (λ x. KnowsLine m x) at known in lost m key none (subst (λ (x : List ℕ). Knows m x) same line.0))
      | inr at ↦ (let line : KnowsLine m (Agree b a d) = subst (λ x. KnowsLine m x) at known in lost m key none (subst (λ (x : List ℕ). Knows m x) same line.1))
    ])

pub not_found : (m : BTreeMap (List ℕ) ℕ) (ls : List Line) (line : Line) (key : List ℕ) → KnowsLines m ls → question_of line ≡ Some key → get (slice_cmp nat_cmp) m key ≡ None
    → some_conflicts ls line ≡ false
not_found m ls line key knows is none = any_false ls line (λ l has. calm m l line key (knows.knows l has) is none)

asks_nothing : (l line : Line) → question_of line ≡ None → conflicts_with l line ≡ false
asks_nothing l (Sig k a m s) h = refl
asks_nothing l (Pair k q) h = absurd (none-some (pair_key k.bytes) (sym h))
asks_nothing l (Unwrap t k w c) h = at k.public_part h
  where
    at : (o : Option PublicKeyKind) → part_question t o w ≡ None → part_conflicts l t o w c ≡ false
    at None e = refl
    at (Some q) e = absurd (none-some (unwrap_key t q w) (sym e))
asks_nothing l (Agree a b s) h = absurd (none-some (agree_key a b) (sym h))

pub not_asked : (ls : List Line) (line : Line) → question_of line ≡ None → some_conflicts ls line ≡ false
not_asked ls line none = any_false ls line (λ l has. asks_nothing l line none)

-- ---- one line more

pub keeps_line : (m n : BTreeMap (List ℕ) ℕ) (line : Line) → Keeps m n → KnowsLine m line → KnowsLine n line
keeps_line m n (Sig k a msg s) keeps known = tt
keeps_line m n (Pair k q) keeps known = keeps (pair_key k.bytes) known
keeps_line m n (Unwrap t k w c) keeps known = at k.public_part known
  where
    at : (o : Option PublicKeyKind) → KnowsPart m t o w → KnowsPart n t o w
    at None h = tt
    at (Some q) h = keeps (unwrap_key t q w) h
keeps_line m n (Agree a b s) keeps known = (keeps (agree_key a b) known.0, keeps (agree_key b a) known.1)

has_last : (ls : List Line) (line l : Line) → Has (ls ++ line ∷ []) l → Has ls l ⊎ (line ≡ l)
has_last [] line l (inl here) = inr here
has_last [] line l (inr later) = absurd later
has_last (x ∷ ls) line l (inl here) = inl (inl here)
has_last (x ∷ ls) line l (inr later) = elim (has_last ls line l later) [ inl has ↦ inl (inr has) | inr is ↦ inr is ]

pub knows_more : (m n : BTreeMap (List ℕ) ℕ) (ls now : List Line) (line : Line) → KnowsLines m ls → Learns m n line → now ≡ ls ++ line ∷ [] → KnowsLines n now
knows_more m n ls now line knows learns pushed = record {
  knows = λ l has. elim (has_last ls line l (subst (λ (x : List Line). Has x l) pushed has)) [
    | inl in_list ↦ keeps_line m n l learns.keeps (knows.knows l in_list)
    | inr is ↦ subst (λ x. KnowsLine n x) is learns.finds
  ];
}

kept : (b : Bool) (v : ℕ) (o : Option ℕ) → is_some o ≡ true → is_some (cond b (Some v) o) ≡ true
kept true v o h = refl
kept false v o h = h

-- what was put is there, and what was there is still
pub put_keeps : (m n : BTreeMap (List ℕ) ℕ) (key : List ℕ) (v : ℕ) → Updates (slice_cmp nat_cmp) m n key (Some v) → Keeps m n
put_keeps m n key v updates = λ k known.
    let new = updates.0 k ∙ ap (λ (b : Bool). cond b (Some v) (get (slice_cmp nat_cmp) m k)) (is_eq-slice_cmp key k) in
    ap is_some new ∙ kept (bytes_eq key k) v (get (slice_cmp nat_cmp) m k) known

pub put_has : (m n : BTreeMap (List ℕ) ℕ) (key : List ℕ) (v : ℕ) → Updates (slice_cmp nat_cmp) m n key (Some v) → Knows n key
put_has m n key v updates =
    let new = updates.0 key ∙ ap (λ (b : Bool). cond b (Some v) (get (slice_cmp nat_cmp) m key)) (is_eq-slice_cmp key key ∙ (bytes_eq-Decides key key).1 refl) in
    ap is_some new

-- ---- what a line teaches

pub learns_nothing : (m : BTreeMap (List ℕ) ℕ) (line : Line) → question_of line ≡ None → Learns m m line
learns_nothing m (Sig k a msg s) h = record { keeps = λ key known. known; finds = tt }
learns_nothing m (Pair k q) h = absurd (none-some (pair_key k.bytes) (sym h))
learns_nothing m (Unwrap t k w c) h = record { keeps = λ key known. known; finds = at k.public_part h }
  where
    at : (o : Option PublicKeyKind) → part_question t o w ≡ None → KnowsPart m t o w
    at None e = tt
    at (Some q) e = absurd (none-some (unwrap_key t q w) (sym e))
learns_nothing m (Agree a b s) h = absurd (none-some (agree_key a b) (sym h))

pub learns_one : (m n : BTreeMap (List ℕ) ℕ) (line : Line) (key : List ℕ) → question_of line ≡ Some key → ((a b : PublicKeyKind) (s : List ℕ) → line ≡ Agree a b s → ⊥) → Keeps m n → Knows n key
    → Learns m n line
learns_one m n (Sig k a msg s) key h other keeps known = record { keeps = keeps; finds = tt }
learns_one m n (Pair k q) key h other keeps known = record { keeps = keeps; finds = subst (λ (x : List ℕ). Knows n x) (sym (same_Some (pair_key k.bytes) key h)) known }
learns_one m n (Unwrap t k w c) key h other keeps known = record { keeps = keeps; finds = at k.public_part h }
  where
    at : (o : Option PublicKeyKind) → part_question t o w ≡ Some key → KnowsPart n t o w
    at None e = tt
    at (Some q) e = subst (λ (x : List ℕ). Knows n x) (sym (same_Some (unwrap_key t q w) key e)) known
learns_one m n (Agree a b s) key h other keeps known = absurd (other a b s refl)

pub learns_both : (m n o : BTreeMap (List ℕ) ℕ) (line : Line) (a b : PublicKeyKind) (s key swapped : List ℕ) → question_of line ≡ Some key → line ≡ Agree a b s → swapped ≡ agree_key b a
    → Keeps m n → Knows n key → Keeps n o → Knows o swapped → Learns m o line
learns_both m n o line a b s key swapped h is turned keeps known again other =
    let asked : question_of (Agree a b s) ≡ Some key = subst (λ l. question_of l ≡ Some key) is h in
    subst (λ l. Learns m o l) (sym is) (record {
      keeps = λ k was. again k (keeps k was);
      finds = (
        subst (λ (x : List ℕ). Knows o x) (sym (same_Some (agree_key a b) key asked)) (again key known),
        subst (λ (x : List ℕ). Knows o x) turned other,
      );
    })
