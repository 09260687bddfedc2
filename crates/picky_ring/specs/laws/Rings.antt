-- The table of a ring says one thing, and it is the ring of the set.
use Rattle.std.proofs.Common.{◌≡◌, ℕ, List, [], ◌∷◌, ◌++◌, Option, Some, None, Bool, true, false, cond, IfOk, Result, Ok, Err, refl, sym, ap, subst, ◌∙◌, append_assoc}
use Rattle.std.proofs.lemmas.List.{append-nil}
use Rattle.std.proofs.lemmas.Cmp.{eq_by_cmp_equiv}
use Rattle.std.specs.List.{AllZip}
use Rattle.std.specs.Prelude.{IsTrue}
use Rattle.std.specs.FinMap.{get, insert, empty, from_entries_push, get-empty, get-insert, get-from_entries, slice_cmp-IsAntisymmetric, nat_cmp-IsAntisymmetric}
use Rattle.std.specs.Ordering.{nat_cmp, eq_by_cmp}
use Rattle.std.specs.Cmp.Lexicographic.{slice_cmp, nat_list_cmp_total}
use Rattle.picky_contract.specs.Refusals.{Meets, OkOrMemory}
use Rattle.picky_contract.specs.laws.Tables.{Exact, need_exact, done_exact, then_exact, named_exact, complete, Single, need_single, done_single, then_single, named_single}
use Rattle.picky_key.specs.Family.{is_of_family}
use Rattle.picky_jwk_key.specs.Refusals.{public_table}
use Rattle.picky_jwk_key.specs.laws.Public.{public_exact, public_holds, public_from, one_key}
use Rattle.picky_jwk.specs.Jwk.{Jwk}
use Rattle.picky_ring.specs.declared.ring.KeysFault.{KeysFault}
use Rattle.picky_ring.specs.declared.ring.RingEntry.{RingEntry}
use Rattle.picky_ring.specs.declared.ring.RingEntry.TheVariants.{Verify}
use Rattle.picky_ring.specs.Refusals.{of_jwk, wrong_family, duplicate_name, keys_fault, entry_table, added_table, key_table, keys_table, ring_table}
use Rattle.picky_ring.specs.Ring.{Named, EntryOf, ring_with, AreApart, RingOfJwks}
use Rattle.picky_ring.specs.Taken.{Taken, taken}
use Rattle.picky_ring.specs.TextMap.{TextMap}

-- ---- it says one thing

entry_exact : (t : Taken) → Exact (entry_table t)
unfolding entry_table
entry_exact t =
    then_exact _ _ (named_exact of_jwk (public_table t.key) (public_exact t.key)) (λ key.
    then_exact _ _ (need_exact (IsTrue (is_of_family t.algorithm key)) (wrong_family t.name)) (λ _.
    done_exact (Verify key t.algorithm)))

pub added_exact : (ring : TextMap RingEntry) (name : List ℕ) (entry : RingEntry) → Exact (added_table ring name entry)
unfolding added_table
added_exact ring name entry = then_exact _ _ (need_exact (get ring name ≡ None) (duplicate_name name)) (λ _. done_exact (insert ring name entry))

key_exact : (ring : TextMap RingEntry) (t : Taken) → Exact (key_table ring t)
unfolding key_table
key_exact ring t = then_exact _ _ (entry_exact t) (λ entry. added_exact ring t.name entry)

keys_exact : (ring : TextMap RingEntry) (ts : List Taken) → Exact (keys_table ring ts)
keys_exact ring [] = done_exact ring
keys_exact ring (t ∷ ts) = then_exact _ _ (key_exact ring t) (λ more. keys_exact more ts)

pub ring_exact : (keys : List Jwk) → Exact (ring_table keys)
unfolding ring_table
ring_exact keys = keys_exact empty (taken keys)

-- ---- names

-- no entry has the name of one before
AreFresh : List Named → List Named → Type 0
AreFresh before [] = Unit {0}
AreFresh before (e ∷ es) = (get (ring_with before) e.0 ≡ None) × AreFresh before es

-- each entry has a name that none before it has
AreNew : List Named → List Named → Type 0
AreNew before [] = Unit {0}
AreNew before (e ∷ es) = (get (ring_with before) e.0 ≡ None) × AreNew (before ++ e ∷ []) es

-- an entry whose name is new is pushed
pushed : (before : List Named) (name : List ℕ) (entry : RingEntry) → get (ring_with before) name ≡ None → ring_with (before ++ (name, entry) ∷ []) ≡ insert (ring_with before) name entry
pushed before name entry new =
    from_entries_push nat_list_cmp_total (slice_cmp-IsAntisymmetric nat_cmp-IsAntisymmetric) before name entry (sym (get-from_entries nat_list_cmp_total before name) ∙ new)

-- whether two names are one
same : List ℕ → List ℕ → Bool
same a b = eq_by_cmp (slice_cmp nat_cmp) a b

turned : (a b : List ℕ) → same a b ≡ same b a
unfolding same
turned a b = (eq_by_cmp_equiv nat_list_cmp_total).symm a b

after : (ring : TextMap RingEntry) (name : List ℕ) (entry : RingEntry) (q : List ℕ) → get (insert ring name entry) q ≡ cond (same q name) (Some entry) (get ring q)
unfolding same
after ring name entry q = get-insert nat_list_cmp_total ring name entry q

no_hit : (b : Bool) (x : RingEntry) (o : Option RingEntry) → cond b (Some x) o ≡ None → (b ≡ false) × (o ≡ None)
no_hit true x o h = absurd cc
no_hit false x o h = (refl, h)

miss : (b : Bool) (x : RingEntry) (o : Option RingEntry) → b ≡ false → o ≡ None → cond b (Some x) o ≡ None
miss b x o off none = rw off none

-- a name that an inserted ring hasn't
absent : (ring : TextMap RingEntry) (name : List ℕ) (entry : RingEntry) (q : List ℕ) → get (insert ring name entry) q ≡ None → (same q name ≡ false) × (get ring q ≡ None)
absent ring name entry q h = no_hit (same q name) entry (get ring q) (sym (after ring name entry q) ∙ h)

absent_from : (ring : TextMap RingEntry) (name : List ℕ) (entry : RingEntry) (q : List ℕ) → same q name ≡ false → get ring q ≡ None → get (insert ring name entry) q ≡ None
absent_from ring name entry q off none = after ring name entry q ∙ miss (same q name) entry (get ring q) off none

fresh_pop : (before : List Named) (e : Named) (es : List Named) → get (ring_with before) e.0 ≡ None → AreFresh (before ++ e ∷ []) es → AreFresh before es × (get (ring_with es) e.0 ≡ None)
unfolding AreFresh
fresh_pop before e [] new h = (tt, get-empty (slice_cmp nat_cmp) e.0)
fresh_pop before e (f ∷ fs) new (h, hs) =
    let here = absent (ring_with before) e.0 e.1 f.0 (subst (λ (r : TextMap RingEntry). get r f.0 ≡ None) (pushed before e.0 e.1 new) h) in
    let rest = fresh_pop before e fs new hs in
    ((here.1, rest.0), absent_from (ring_with fs) f.0 f.1 e.0 (turned e.0 f.0 ∙ here.0) rest.1)

fresh_push : (before : List Named) (e : Named) (es : List Named) → get (ring_with before) e.0 ≡ None → AreFresh before es → get (ring_with es) e.0 ≡ None → AreFresh (before ++ e ∷ []) es
unfolding AreFresh
fresh_push before e [] new h none = tt
fresh_push before e (f ∷ fs) new (h, hs) none =
    let there = absent (ring_with fs) f.0 f.1 e.0 none in
    let here = absent_from (ring_with before) e.0 e.1 f.0 (turned f.0 e.0 ∙ there.0) h in
    (subst (λ (r : TextMap RingEntry). get r f.0 ≡ None) (sym (pushed before e.0 e.1 new)) here, fresh_push before e fs new hs there.1)

fresh_first : (es : List Named) → AreFresh [] es
unfolding AreFresh
fresh_first [] = tt
fresh_first (e ∷ es) = (get-empty (slice_cmp nat_cmp) e.0, fresh_first es)

new_apart : (before es : List Named) → AreNew before es → AreFresh before es × AreApart es
unfolding AreFresh AreNew
new_apart before [] h = (tt, tt)
new_apart before (e ∷ es) (new, later) =
    let rest = new_apart (before ++ e ∷ []) es later in
    let popped = fresh_pop before e es new rest.0 in
    ((new, popped.0), (popped.1, rest.1))

apart_new : (before es : List Named) → AreFresh before es → AreApart es → AreNew before es
unfolding AreFresh AreNew
apart_new before [] fresh apart = tt
apart_new before (e ∷ es) (new, fresh) (none, apart) = (new, apart_new (before ++ e ∷ []) es (fresh_push before e es new fresh none) apart)

-- ---- entries

to_entry : (t : Taken) (entry : RingEntry) → (entry_table t).holds entry → EntryOf t (t.name, entry)
unfolding entry_table
to_entry t entry (key, is_key, (u, fits, is)) = record { key = key; is_key = public_holds t.key key is_key; fits = fits; is = ap (λ (x : RingEntry). (t.name, x)) is }

from_entry : (t : Taken) (e : Named) (h : EntryOf t e) → (entry_table t).holds (Verify h.key t.algorithm)
unfolding entry_table
from_entry t e h = (h.key, public_from t.key h.key h.is_key, (tt, h.fits, refl))

-- ---- rings

-- the ring of entries before and of those of these keys
record Continues (before : List Named) (ts : List Taken) (r : TextMap RingEntry) : Type 0 where
  entries : List Named
  each : AllZip EntryOf ts entries
  new : AreNew before entries
  is : r ≡ ring_with (before ++ entries)

one_more : (before : List Named) (ring : TextMap RingEntry) (name : List ℕ) (entry : RingEntry) → ring ≡ ring_with before → get ring name ≡ None → insert ring name entry ≡ ring_with (before ++ (name, entry) ∷ [])
one_more before ring name entry is new =
    ap (λ (r : TextMap RingEntry). insert r name entry) is ∙ sym (pushed before name entry (subst (λ (r : TextMap RingEntry). get r name ≡ None) is new))

to_keys : (before : List Named) (ring : TextMap RingEntry) (ts : List Taken) (r : TextMap RingEntry) → ring ≡ ring_with before → (keys_table ring ts).holds r → Continues before ts r
unfolding key_table added_table AreNew
to_keys before ring [] r is h = record { entries = []; each = tt; new = tt; is = h ∙ is ∙ ap ring_with (sym (append-nil before)) }
to_keys before ring (t ∷ ts) r is (more, (entry, has_entry, (u, new, more_is)), rest) =
    let e : Named = (t.name, entry) in
    let later = to_keys (before ++ e ∷ []) more ts r (more_is ∙ one_more before ring t.name entry is new) rest in
    record {
      entries = e ∷ later.entries;
      each = (to_entry t entry has_entry, later.each);
      new = (subst (λ (q : TextMap RingEntry). get q t.name ≡ None) is new, later.new);
      is = later.is ∙ ap ring_with (append_assoc before (e ∷ []) later.entries);
    }

from_keys : (before : List Named) (ring : TextMap RingEntry) (ts : List Taken) (es : List Named) (r : TextMap RingEntry) → ring ≡ ring_with before → AllZip EntryOf ts es → AreNew before es
    → r ≡ ring_with (before ++ es) → (keys_table ring ts).holds r
unfolding key_table added_table AreNew
from_keys before ring [] [] r is each new r_is = r_is ∙ ap ring_with (append-nil before) ∙ sym is
from_keys before ring [] (e ∷ es) r is each new r_is = absurd each
from_keys before ring (t ∷ ts) [] r is each new r_is = absurd each
from_keys before ring (t ∷ ts) (e ∷ es) r is (h, hs) (new, news) r_is =
    let entry : RingEntry = Verify h.key t.algorithm in
    let absent_here : get ring t.name ≡ None = subst (λ (q : TextMap RingEntry). get q t.name ≡ None) (sym is) (subst (λ (x : Named). get (ring_with before) x.0 ≡ None) h.is new) in
    let more : insert ring t.name entry ≡ ring_with (before ++ e ∷ []) =
    one_more before ring t.name entry is absent_here ∙ ap (λ (x : Named). ring_with (before ++ x ∷ [])) (sym h.is) in (
      insert ring t.name entry,
      (entry, from_entry t e h, (tt, absent_here, refl)),
      from_keys (before ++ e ∷ []) (insert ring t.name entry) ts es r more hs news (r_is ∙ ap ring_with (sym (append_assoc before (e ∷ []) es))),
    )

pub ring_holds : (keys : List Jwk) (r : TextMap RingEntry) → (ring_table keys).holds r → RingOfJwks keys r
unfolding ring_table
ring_holds keys r h =
    let all = to_keys [] empty (taken keys) r refl h in
    record { entries = all.entries; each = all.each; apart = (new_apart [] all.entries all.new).1; is = all.is }

pub ring_from : (keys : List Jwk) (r : TextMap RingEntry) → RingOfJwks keys r → (ring_table keys).holds r
unfolding ring_table
ring_from keys r h = from_keys [] empty (taken keys) h.entries r refl h.each (apart_new [] h.entries (fresh_first h.entries) h.apart) h.is

pub ring_found : {X : Type 0} (view : X → TextMap RingEntry) (keys : List Jwk) (r : Result X KeysFault) → Meets view keys_fault r (ring_table keys) → IfOk r (λ x. RingOfJwks keys (view x))
ring_found view keys (Ok x) m = ring_holds keys (view x) ((ring_exact keys).holds (view x) m)
ring_found view keys (Err e) m = tt

pub ring_every : {X : Type 0} (view : X → TextMap RingEntry) (keys : List Jwk) (r : Result X KeysFault) → Meets view keys_fault r (ring_table keys) → (y : TextMap RingEntry) → RingOfJwks keys y → OkOrMemory view keys_fault r y
ring_every view keys r m y h = complete view keys_fault r (ring_table keys) (ring_exact keys) m y (ring_from keys y h)

-- ---- at most one ring

entry_single : (t : Taken) → Single (entry_table t)
unfolding entry_table
entry_single t =
    then_single _ _ (named_single of_jwk (public_table t.key) (record { same = λ p q h k. one_key t.key p q (public_holds t.key p h) (public_holds t.key q k) })) (λ key.
    then_single _ _ (need_single (IsTrue (is_of_family t.algorithm key)) (wrong_family t.name)) (λ _.
    done_single (Verify key t.algorithm)))

key_single : (ring : TextMap RingEntry) (t : Taken) → Single (key_table ring t)
unfolding key_table added_table
key_single ring t =
    then_single _ _ (entry_single t) (λ entry.
    then_single _ _ (need_single (get ring t.name ≡ None) (duplicate_name t.name)) (λ _.
    done_single (insert ring t.name entry)))

keys_single : (ring : TextMap RingEntry) (ts : List Taken) → Single (keys_table ring ts)
keys_single ring [] = done_single ring
keys_single ring (t ∷ ts) = then_single _ _ (key_single ring t) (λ more. keys_single more ts)

-- a set has one ring at most
pub one_ring : (keys : List Jwk) (a b : TextMap RingEntry) → RingOfJwks keys a → RingOfJwks keys b → b ≡ a
unfolding ring_table
one_ring keys a b h k = (keys_single empty (taken keys)).same a b (ring_from keys a h) (ring_from keys b k)
