-- A line gives one entry, and the entries of lines are found one after another.
use Rattle.std.proofs.Common.{◌≡◌, ℕ, List, [], ◌∷◌, ◌++◌, Option, Some, None, map, refl, sym, ap, subst, ◌∙◌, inl, inr}
use Rattle.std.specs.List.{AllZip}
use Rattle.std.specs.Str.{trim}
use Rattle.picky_contract.specs.Text.{Lacks}
use Rattle.picky_contract.specs.laws.Cuts.{first-once, lacks-inside}
use Rattle.picky_contract.specs.laws.Tables.{Exact, the_exact, done_exact, then_exact}
use Rattle.picky_http_text.specs.laws.Numbers.{number_same}
use Rattle.picky_http.specs.Algorithms.{or_else}
use Rattle.picky_http.specs.Content.{given_content, with_entry}
use Rattle.picky_http.specs.Faults.{bad_line}
use Rattle.picky_http.specs.Given.{IsUpTo, Keyed, IsKeyed, Entry, created_at, expires_at, Gives, IsEntry, entry_part, created_of, expires_of, last_number, entries_table}
use Rattle.picky_http.specs.Parts.{part_named}
use Rattle.picky_http.specs.Signing.{Part, Named, Target, Created, Expires, colon}

-- ---- a line

up_to_same : (c : ℕ) (text a b : List ℕ) → IsUpTo c text a → IsUpTo c text b → b ≡ a
up_to_same c text a b (ha, inl e) (hb, inl f) = sym f ∙ e
up_to_same c text a b (ha, inl e) (hb, inr (back, f)) = absurd (lacks-inside c b back (subst (Lacks c) (sym e ∙ f) ha))
up_to_same c text a b (ha, inr (back, e)) (hb, inl f) = absurd (lacks-inside c a back (subst (Lacks c) (sym f ∙ e) hb))
up_to_same c text a b (ha, inr (x, e)) (hb, inr (y, f)) = (first-once c b y a x (sym f ∙ e) hb ha).0

pub keyed_same : (line : List ℕ) (k l : Keyed) → IsKeyed line k → IsKeyed line l → l ≡ k
keyed_same line k l a b =
    let cut = first-once colon l.key b.behind k.key a.behind (sym b.cut.joined ∙ a.cut.joined) b.cut.lacks a.cut.lacks in
    let inner : b.inner ≡ a.inner = up_to_same colon a.behind a.inner b.inner a.up_to (subst (λ (t : List ℕ). IsUpTo colon t b.inner) cut.1 b.up_to) in
    let key : l.key ≡ k.key = cut.0 in
    let value : l.value ≡ k.value = b.trimmed ∙ ap trim inner ∙ sym a.trimmed in
    λ i. record { key = key i; value = value i }

pub gives_same : (part : Part) (value : List ℕ) (d e : Entry) → Gives part value d → Gives part value e → e ≡ d
gives_same (Named name) value d e a b = b ∙ sym a
gives_same Target value d e a b = b ∙ sym a
gives_same Created value d e a b = b.2 ∙ ap created_at (number_same value b.0 a.0 b.1 a.1) ∙ sym a.2
gives_same Expires value d e a b = b.2 ∙ ap expires_at (number_same value b.0 a.0 b.1 a.1) ∙ sym a.2

pub entry_same : (line : List ℕ) (d e : Entry) → IsEntry line d → IsEntry line e → e ≡ d
entry_same line d e a b =
    gives_same (part_named a.keyed.key) a.keyed.value d e a.gives
    (subst (λ (k : Keyed). Gives (part_named k.key) k.value e) (keyed_same line a.keyed b.keyed a.is_keyed b.is_keyed) b.gives)

-- ---- lines

pub entries_exact : (lines : List (List ℕ)) → Exact (entries_table lines)
entries_exact [] = done_exact []
entries_exact (line ∷ lines) =
    then_exact _ _ (the_exact (IsEntry line) (bad_line line)) (λ entry.
    then_exact _ _ (entries_exact lines) (λ entries.
    done_exact (entry ∷ entries)))

pub to_entries : (lines : List (List ℕ)) (entries : List Entry) → (entries_table lines).holds entries → AllZip IsEntry lines entries
to_entries [] entries h = subst (λ (es : List Entry). AllZip IsEntry [] es) (sym h) tt
to_entries (line ∷ lines) entries (entry, is, (rest, held, e)) = subst (λ (es : List Entry). AllZip IsEntry (line ∷ lines) es) (sym e) (is, to_entries lines rest held)

pub from_entries : (lines : List (List ℕ)) (entries : List Entry) → AllZip IsEntry lines entries → (entries_table lines).holds entries
from_entries [] [] h = refl
from_entries [] (e ∷ es) h = absurd h
from_entries (line ∷ lines) [] h = absurd h
from_entries (line ∷ lines) (e ∷ es) h = (e, h.0, (es, from_entries lines es h.1, refl))

pub entries_give : (lines : List (List ℕ)) (entries : List Entry) → AllZip IsEntry lines entries → (entries_table lines).gives entries
entries_give [] [] h = refl
entries_give [] (e ∷ es) h = absurd h
entries_give (line ∷ lines) [] h = absurd h
entries_give (line ∷ lines) (e ∷ es) h = (e, (h.0, λ d k. entry_same line e d h.0 k), (es, entries_give lines es h.1, refl))

-- the first line that gives nothing is refused
pub entries_refuse : (front : List (List ℕ)) (entries : List Entry) (line : List ℕ) (back : List (List ℕ)) → AllZip IsEntry front entries → ((e : Entry) → ¬ (IsEntry line e))
    → (entries_table (front ++ line ∷ back)).refuses (bad_line line)
entries_refuse [] es line back h none = inl (refl, none)
entries_refuse (l ∷ ls) [] line back h none = absurd h
entries_refuse (l ∷ ls) (e ∷ es) line back h none =
    inr (e, (h.0, λ d k. entry_same l e d h.0 k), inl (entries_refuse ls es line back h.1 none))

-- ---- one line more

pub entries_push : (lines : List (List ℕ)) (entries : List Entry) (line : List ℕ) (e : Entry) → AllZip IsEntry lines entries → IsEntry line e → AllZip IsEntry (lines ++ line ∷ []) (entries ++ e ∷ [])
entries_push [] [] line e h k = (k, tt)
entries_push [] (d ∷ ds) line e h k = absurd h
entries_push (l ∷ ls) [] line e h k = absurd h
entries_push (l ∷ ls) (d ∷ ds) line e h k = (h.0, entries_push ls ds line e h.1 k)

or_else_joins : (a b c : Option ℕ) → or_else (or_else a b) c ≡ or_else a (or_else b c)
or_else_joins (Some n) b c = refl
or_else_joins None b c = refl

or_else_none : (a : Option ℕ) → or_else None a ≡ or_else a None
or_else_none (Some n) = refl
or_else_none None = refl

last_push : (number : Entry → Option ℕ) (entries : List Entry) (e : Entry) → last_number number (entries ++ e ∷ []) ≡ or_else (number e) (last_number number entries)
last_push number [] e = or_else_none (number e)
last_push number (d ∷ ds) e = ap (λ (o : Option ℕ). or_else o (number d)) (last_push number ds e) ∙ or_else_joins (number e) (last_number number ds) (number d)

parts_push : (entries : List Entry) (e : Entry) → map entry_part (entries ++ e ∷ []) ≡ map entry_part entries ++ entry_part e ∷ []
parts_push [] e = refl
parts_push (d ∷ ds) e = ap (λ (ps : List Part). entry_part d ∷ ps) (parts_push ds e)

pub given_push : (text : List ℕ) (entries : List Entry) (e : Entry) → with_entry (given_content text entries) e ≡ given_content text (entries ++ e ∷ [])
given_push text entries e =
    let parts = parts_push entries e in
    let created = last_push created_of entries e in
    let expires = last_push expires_of entries e in
    λ i. record { headers = sym parts i; created = sym created i; expires = sym expires i; message = text }
