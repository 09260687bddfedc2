-- Keys of a set, one after another.
use Rattle.std.proofs.Common.{◌≡◌, ◌<◌, ◌≤◌, ◌+◌, ℕ, List, [], ◌∷◌, length, get_or, drop, drop-cons, add-one, map, Option, Some, None, IfSome, refl, sym, ap, ◌∙◌, subst}
use Rattle.std.proofs.Math.ListN.{drop_of_length-le}
use Rattle.std.specs.List.{cons_option}
use Rattle.picky_contract.specs.Refusals.{Table}
use Rattle.picky_contract.specs.laws.Tables.{Leads, leads_on, leads_refuses, up}
use Rattle.picky_jwk.specs.Views.{jwk_view}
use Rattle.picky_jwk.specs.declared.jwk.Jwk.{Jwk}
use Rattle.picky_ring.specs.declared.ring.RingEntry.{RingEntry}
use Rattle.picky_ring.specs.Refusals.{KeysRefusal, key_table, turn_table, keys_table}
use Rattle.picky_ring.specs.Taken.{Taken, taken_as, taken}
use Rattle.picky_ring.specs.TextMap.{TextMap}

abbrev Whole : Type 1
Whole = Table (TextMap RingEntry) KeysRefusal

step_leads : (ring more : TextMap RingEntry) (o : Option Taken) (ts : List Taken) (whole : Whole) → (turn_table ring o).gives more → Leads (keys_table ring (cons_option o ts)) whole → Leads (keys_table more ts) whole
step_leads ring more None ts whole is l = subst (λ (r : TextMap RingEntry). Leads (keys_table r ts) whole) (sym is) l
step_leads ring more (Some t) ts whole g l = leads_on (key_table ring t) (λ r. keys_table r ts) whole more g l

step_refuses : (ring : TextMap RingEntry) (o : Option Taken) (ts : List Taken) (whole : Whole) (f : KeysRefusal) → (turn_table ring o).refuses f → Leads (keys_table ring (cons_option o ts)) whole → whole.refuses f
step_refuses ring None ts whole f due l = absurd due
step_refuses ring (Some t) ts whole f due l = leads_refuses (key_table ring t) (λ r. keys_table r ts) whole f due l

-- the table of the keys that are left
abbrev pub left_table : TextMap RingEntry → List Jwk → Whole
left_table ring ks = keys_table ring (taken (map jwk_view ks))

here : (ks : List Jwk) (i : ℕ) (k : Jwk) (ring : TextMap RingEntry) (whole : Whole) → i < length ks → k ≡ get_or ks i k → Leads (left_table ring (drop i ks)) whole → Leads (left_table ring (k ∷ drop (i + 1) ks)) whole
here ks i k ring whole lt is l =
    let parts : drop i ks ≡ get_or ks i k ∷ drop (i + 1) ks = rw (add-one) (drop-cons ks i k lt) in
    let next : drop i ks ≡ k ∷ drop (i + 1) ks = parts ∙ ap (λ (j : Jwk). j ∷ drop (i + 1) ks) (sym is) in
    subst (λ (l : List Jwk). Leads (left_table ring l) whole) next l

-- one key more
pub turn_leads : (ks : List Jwk) (i : ℕ) (k : Jwk) (ring more : TextMap RingEntry) (whole : Whole) → i < length ks → k ≡ get_or ks i k → (turn_table ring (taken_as (jwk_view k))).gives more
    → Leads (left_table ring (drop i ks)) whole → Leads (left_table more (drop (i + 1) ks)) whole
turn_leads ks i k ring more whole lt is g l = step_leads ring more (taken_as (jwk_view k)) (taken (map jwk_view (drop (i + 1) ks))) whole g (here ks i k ring whole lt is l)

-- a key that is refused
pub turn_refuses : (ks : List Jwk) (i : ℕ) (k : Jwk) (ring : TextMap RingEntry) (whole : Whole) (o : Option KeysRefusal) → i < length ks → k ≡ get_or ks i k → IfSome o (turn_table ring (taken_as (jwk_view k))).refuses
    → Leads (left_table ring (drop i ks)) whole → IfSome o whole.refuses
turn_refuses ks i k ring whole o lt is due l =
    up o _ _ (λ f r. step_refuses ring (taken_as (jwk_view k)) (taken (map jwk_view (drop (i + 1) ks))) whole f r (here ks i k ring whole lt is l)) due

-- no key is left
pub end_meets : (ks : List Jwk) (i : ℕ) (ring : TextMap RingEntry) (whole : Whole) → length ks ≤ i → Leads (left_table ring (drop i ks)) whole → whole.gives ring
end_meets ks i ring whole past l =
    let none : drop i ks ≡ [] = drop_of_length-le ks past in
    (subst (λ (k : List Jwk). Leads (left_table ring k) whole) none l).gives ring refl
