-- The lines of a given string, read one after another.
use Rattle.std.proofs.Common.{◌≡◌, ℕ, ◌+◌, ◌<◌, List, [], ◌∷◌, ◌++◌, length, take, drop, get_or, map, Option, Some, None, sym, ap, subst, ◌∙◌, inl, inr}
use Rattle.std.specs.Prelude.{◌==◌}
use Rattle.std.specs.List.{AllZip}
use Rattle.std.specs.Str.Lines.{lines}
use Rattle.std.proofs.lemmas.Bool.{cases_Bool, eqb-true, eqb-false}
use Rattle.std.proofs.lemmas.List.{take-append-drop, drop_more, map-append}
use Rattle.picky_contract.specs.Refusals.{Finds}
use Rattle.picky_contract.specs.Text.{Lacks, IsCutAtFirst}
use Rattle.picky_http.specs.Content.{Content, given_content, listed_table}
use Rattle.picky_http.specs.Faults.{bad_line}
use Rattle.picky_http.specs.Given.{Keyed, IsKeyed, Gives, Entry, IsEntry, entries_table}
use Rattle.picky_http.specs.Parts.{part_named}
use Rattle.picky_http.specs.laws.Given.{keyed_same, entry_same, entries_give, entries_refuse, entries_push}
use Rattle.picky_http.proofs.Splits.{lacks_nil, lacks_cons}

-- a text without a cut lacks the byte
pub uncut_lacks : (c : ℕ) (text : List ℕ) → ((front back : List ℕ) → ¬ (IsCutAtFirst c text front back)) → Lacks c text
uncut_lacks c [] none = lacks_nil c
uncut_lacks c (b ∷ bs) none =
    elim (cases_Bool (b == c)) [
      | inl e ↦ absurd (none [] bs (record { joined = ap (λ (x : ℕ). x ∷ bs) (eqb-true b c e); lacks = lacks_nil c }))
      | inr e ↦ lacks_cons c b bs (eqb-false b c e) (uncut_lacks c bs (λ front back h. none (b ∷ front) back (record { joined = ap (λ (x : List ℕ). b ∷ x) h.joined; lacks = lacks_cons c b front (eqb-false b c e) h.lacks })))
    ]

-- what the key and the value give is what the line gives
pub found_entry : {X : Type 0} (view : X → Entry) (line : List ℕ) (k : Keyed) (o : Option X) → IsKeyed line k → Finds view (Gives (part_named k.key) k.value) o → Finds view (IsEntry line) o
found_entry view line k None is none = λ e h.
    none e (subst (λ (l : Keyed). Gives (part_named l.key) l.value e) (keyed_same line k h.keyed is h.is_keyed) h.gives)
found_entry view line k (Some x) is found =
    let here : IsEntry line (view x) = record { keyed = k; is_keyed = is; gives = found.0 } in
    (here, λ e h. entry_same line (view x) e here h)

-- the line at hand stands behind those that were read
pub line_at : (all front : List (List ℕ)) (n : ℕ) (line : List ℕ) → n < length all → line ≡ get_or all n line → front ≡ take n all → all ≡ front ++ line ∷ drop (n + 1) all
line_at all front n line l e f =
    sym (take-append-drop n all)
    ∙ ap (λ (t : List (List ℕ)). take n all ++ t) (drop_more all n line l)
    ∙ ap (λ (x : List ℕ). take n all ++ x ∷ drop (n + 1) all) (sym e)
    ∙ ap (λ (t : List (List ℕ)). t ++ line ∷ drop (n + 1) all) (sym f)

pub listed_refuses : (text : List ℕ) (front back : List (List ℕ)) (entries : List Entry) (line copy : List ℕ) → lines text ≡ front ++ line ∷ back → AllZip IsEntry front entries
    → ((e : Entry) → ¬ (IsEntry line e)) → copy ≡ line → (listed_table text).refuses (bad_line copy)
unfolding listed_table
listed_refuses text front back entries line copy all h none same =
    inl (subst (λ (c : List ℕ). (entries_table (lines text)).refuses (bad_line c)) (sym same)
    (subst (λ (ls : List (List ℕ)). (entries_table ls).refuses (bad_line line)) (sym all) (entries_refuse front entries line back h none)))

pub listed_gives : (text : List ℕ) (read : List (List ℕ)) (entries : List Entry) (c : Content) → read ≡ lines text → AllZip IsEntry read entries → c ≡ given_content text entries → (listed_table text).gives c
unfolding listed_table
listed_gives text read entries c all h is =
    (entries, entries_give (lines text) entries (subst (λ (ls : List (List ℕ)). AllZip IsEntry ls entries) all h), is)

-- one line more was read
pub read_push : {A : Type 0} (see : A → List ℕ) (read : List A) (line : A) (entries : List Entry) (e : Entry) → AllZip IsEntry (map see read) entries → IsEntry (see line) e
    → AllZip IsEntry (map see (read ++ line ∷ [])) (entries ++ e ∷ [])
read_push see read line entries e h k =
    subst (λ (ls : List (List ℕ)). AllZip IsEntry ls (entries ++ e ∷ [])) (sym (map-append see read (line ∷ []))) (entries_push (map see read) entries (see line) e h k)
