-- What stands under a name, and under no name of a list, in an object that was written from a table.
use Rattle.std.proofs.Common.{◌≡◌, ℕ, List, [], ◌∷◌, Bool, true, false, ◌&&◌, ◌||◌, cond, Option, Some, None, option_map, Ordering, Less, Equal, Greater, nat_cmp, is_eq, true≢false, refl, sym, ap, ◌∙◌, inl}
use Rattle.std.specs.Cmp.Lexicographic.{slice_cmp}
use Rattle.std.specs.Ordering.{match_ordering}
use Rattle.std.specs.Str.{bytes_eq}
use Rattle.std.proofs.lemmas.Map.Text.{is_eq-slice_cmp}
use Rattle.std.proofs.lemmas.Slice.Eq.{bytes_eq-Decides}
use Rattle.serde_json.specs.Data.{Data, object, Members, no_members, member, put}
use Rattle.serde_json.specs.Find.{get_member}
use Rattle.serde_json.proofs.Views.{get_member-put, get_member-put_other}
use Rattle.picky_members.specs.Members.{IsMember, IsOptional, IsSpelledEither}
use Rattle.picky_members.specs.Names.{Pair, is_among, members_without, others, holds_any}
use Rattle.picky_members.specs.Writing.{put_all, put_some, put_table, pairs_of, in_name_order}

-- ---- look-ups, which compute where the names are literals

abbrev pub over : Option Data → Option Data → Option Data
over None m = m
over (Some d) m = Some d

abbrev pub found : List ℕ → List (List ℕ × Option Data) → Option Data → Option Data
found name [] m = m
found name (row ∷ table) m = found name table (cond (bytes_eq name row.0) (over row.1 m) m)

over-None : (o : Option Data) → over o None ≡ o
over-None None = refl
over-None (Some d) = refl

same_cond : {A : Type 0} (b : Bool) (x : A) → x ≡ cond b x x
same_cond true x = refl
same_cond false x = refl

get_some_at : (b : Bool) (k n : List ℕ) (d : Data) (ms : Members) → bytes_eq k n ≡ b → get_member k (put n d ms) ≡ cond b (Some d) (get_member k ms)
get_some_at true k n d ms e = rw ((bytes_eq-Decides k n).0 e) (get_member-put n d ms)
get_some_at false k n d ms e = get_member-put_other k n d ms (λ same. true≢false (sym ((bytes_eq-Decides k n).1 same) ∙ e))

get_some : (k n : List ℕ) (o : Option Data) (ms : Members) → get_member k (put_some n o ms) ≡ cond (bytes_eq k n) (over o (get_member k ms)) (get_member k ms)
get_some k n None ms = same_cond (bytes_eq k n) (get_member k ms)
get_some k n (Some d) ms = get_some_at _ k n d ms refl

get_table : (k : List ℕ) (table : List (List ℕ × Option Data)) (ms : Members) → get_member k (put_table table ms) ≡ found k table (get_member k ms)
get_table k [] ms = refl
get_table k (row ∷ table) ms = get_table k table (put_some row.0 row.1 ms) ∙ ap (found k table) (get_some k row.0 row.1 ms)

-- the row of a name, where no member had it before; the premise is `refl` at a literal table
pub written : (k : List ℕ) (table : List (List ℕ × Option Data)) (ms : Members) (o : Option Data) → found k table None ≡ over o None → get_member k ms ≡ None
    → get_member k (put_table table ms) ≡ o
written k table ms o row none = get_table k table ms ∙ ap (found k table) none ∙ row ∙ over-None o

-- a name that the table doesn't have
pub kept : (k : List ℕ) (table : List (List ℕ × Option Data)) (ms : Members) (m : Option Data) → found k table (get_member k ms) ≡ get_member k ms → get_member k ms ≡ m
    → get_member k (put_table table ms) ≡ m
kept k table ms m row is = get_table k table ms ∙ row ∙ is

-- ---- fields

pub member_written : {A : Type 0} (R : Data → A → Type 0) (tree : A → Data) (m : Option Data) (x : A) → ((y : A) → R (tree y) y) → m ≡ Some (tree x) → IsMember R m x
unfolding IsMember
member_written R tree m x back is = (tree x, is, back x)

pub optional_written : {A : Type 0} (R : Data → A → Type 0) (tree : A → Data) (m : Option Data) (o : Option A) → ((y : A) → R (tree y) y) → m ≡ option_map tree o → IsOptional R m o
optional_written R tree m None back is = inl is
optional_written R tree m (Some x) back is = member_written R tree m x back is

pub spelled_written : {A : Type 0} (R : Data → A → Type 0) (tree : A → Data) (m n : Option Data) (o : Option A) → ((y : A) → R (tree y) y) → m ≡ option_map tree o → n ≡ None
    → IsSpelledEither R m n o
spelled_written R tree m n o back is none = inl (none, optional_written R tree m o back is)

-- ---- the other members

-- no member has one of the names
abbrev pub NoneAmong : List (List ℕ) → Members → Type 0
NoneAmong names no_members = Unit {0}
NoneAmong names (member k d ms) = (is_among names k ≡ false) × NoneAmong names ms

NoneAmong-match : (names : List (List ℕ)) (o : Ordering) (a b c : Members) → NoneAmong names a → NoneAmong names b → NoneAmong names c → NoneAmong names (match_ordering o a b c)
NoneAmong-match names Less a b c x y z = x
NoneAmong-match names Equal a b c x y z = y
NoneAmong-match names Greater a b c x y z = z

NoneAmong-put : (names : List (List ℕ)) (k : List ℕ) (d : Data) (ms : Members) → is_among names k ≡ false → NoneAmong names ms → NoneAmong names (put k d ms)
NoneAmong-put names k d no_members h r = (h, tt)
NoneAmong-put names k d (member l e ms) h r = NoneAmong-match names _ (member k d (member l e ms)) (member l d ms) (member l e (put k d ms)) (h, r) r (r.0, NoneAmong-put names k d ms h r.1)

left_false : (a b : Bool) → (a || b) ≡ false → a ≡ false
left_false true b e = absurd (true≢false e)
left_false false b e = refl

right_false : (a b : Bool) → (a || b) ≡ false → b ≡ false
right_false true b e = absurd (true≢false e)
right_false false b e = e

pub NoneAmong-put_all : (names : List (List ℕ)) (ps : List Pair) (ms : Members) → holds_any names ps ≡ false → NoneAmong names ms → NoneAmong names (put_all ps ms)
NoneAmong-put_all names [] ms h r = r
NoneAmong-put_all names (p ∷ ps) ms h r = NoneAmong-put_all names ps (put p.0 p.1 ms) (right_false _ _ h) (NoneAmong-put names p.0 p.1 ms (left_false _ _ h) r)

same_name : (k l : List ℕ) → slice_cmp nat_cmp k l ≡ Equal → k ≡ l
same_name k l e = (bytes_eq-Decides k l).0 (sym (is_eq-slice_cmp k l) ∙ ap is_eq e)

get_none_at : (names : List (List ℕ)) (o : Ordering) (k l : List ℕ) (d : Data) (r : Option Data) → slice_cmp nat_cmp k l ≡ o → is_among names k ≡ true → is_among names l ≡ false → r ≡ None
    → match_ordering o r (Some d) r ≡ None
get_none_at names Less k l d r e h n none = none
get_none_at names Equal k l d r e h n none = absurd (true≢false (sym h ∙ ap (is_among names) (same_name k l e) ∙ n))
get_none_at names Greater k l d r e h n none = none

-- nothing stands under one of the names
pub get_none : (names : List (List ℕ)) (k : List ℕ) (ms : Members) → is_among names k ≡ true → NoneAmong names ms → get_member k ms ≡ None
get_none names k no_members h r = refl
get_none names k (member l d ms) h r = get_none_at names _ k l d _ refl h r.0 (get_none names k ms h r.1)

all_others : (names : List (List ℕ)) (ms : Members) → NoneAmong names ms → members_without names ms ≡ pairs_of ms
all_others names no_members r = refl
all_others names (member k d ms) r = rw r.0 (ap (λ ps. (k, d) ∷ ps) (all_others names ms r.1))

known_at : (names : List (List ℕ)) (o : Ordering) (k l : List ℕ) (d e : Data) (ms : Members) → slice_cmp nat_cmp k l ≡ o → is_among names k ≡ true
    → members_without names (put k d ms) ≡ members_without names ms
    → members_without names (match_ordering o (member k d (member l e ms)) (member l d ms) (member l e (put k d ms))) ≡ members_without names (member l e ms)
known_at names Less k l d e ms c h later = rw h refl
known_at names Equal k l d e ms c h later =
    let also : is_among names l ≡ true = ap (is_among names) (sym (same_name k l c)) ∙ h in
    rw also refl
known_at names Greater k l d e ms c h later = ap (λ ps. cond (is_among names l) ps ((l, e) ∷ ps)) later

known_put : (names : List (List ℕ)) (k : List ℕ) (d : Data) (ms : Members) → is_among names k ≡ true → members_without names (put k d ms) ≡ members_without names ms
known_put names k d no_members h = rw h refl
known_put names k d (member l e ms) h = known_at names _ k l d e ms refl h (known_put names k d ms h)

known_some : (names : List (List ℕ)) (k : List ℕ) (o : Option Data) (ms : Members) → is_among names k ≡ true → members_without names (put_some k o ms) ≡ members_without names ms
known_some names k None ms h = refl
known_some names k (Some d) ms h = known_put names k d ms h

-- the table's names are among the names
abbrev pub all_among : List (List ℕ) → List (List ℕ × Option Data) → Bool
all_among names [] = true
all_among names (row ∷ table) = is_among names row.0 && all_among names table

left_true : (a b : Bool) → (a && b) ≡ true → a ≡ true
left_true true b e = refl
left_true false b e = e

right_true : (a b : Bool) → (a && b) ≡ true → b ≡ true
right_true true b e = e
right_true false b e = absurd (true≢false (sym e))

known_table : (names : List (List ℕ)) (table : List (List ℕ × Option Data)) (ms : Members) → all_among names table ≡ true → members_without names (put_table table ms) ≡ members_without names ms
known_table names [] ms h = refl
known_table names (row ∷ table) ms h = known_table names table (put_some row.0 row.1 ms) (right_true _ _ h) ∙ known_some names row.0 row.1 ms (left_true _ _ h)

-- what is written beside the table is what is found beside it, in the order of the names
pub others_written : (names : List (List ℕ)) (table : List (List ℕ × Option Data)) (ps : List Pair) → all_among names table ≡ true → holds_any names ps ≡ false
    → others names (object (put_table table (put_all ps no_members))) ≡ in_name_order ps
others_written names table ps known free =
    known_table names table (put_all ps no_members) known ∙ all_others names (put_all ps no_members) (NoneAmong-put_all names ps no_members free tt)
