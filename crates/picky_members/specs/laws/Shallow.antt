-- How deep an object that was written from a table nests.
use Rattle.std.proofs.Common.{ℕ, ◌+◌, ◌≤◌, List, [], ◌∷◌, Option, None, Some, option_map, map, Ordering, Less, Equal, Greater, arith}
use Rattle.std.specs.Ordering.{match_ordering}
use Rattle.serde_json.specs.Data.{Data, Members, no_members, member, put, items_depth, members_depth, depth}
use Rattle.serde_json.specs.View.{items_of}
use Rattle.picky_members.specs.Writing.{list_tree}
use Rattle.picky_members.specs.Writing.{put_some, put_table}

shallow_match : (o : Ordering) (a b c : Members) (n : ℕ) → members_depth a ≤ n → members_depth b ≤ n → members_depth c ≤ n → members_depth (match_ordering o a b c) ≤ n
shallow_match Less a b c n p q r = p
shallow_match Equal a b c n p q r = q
shallow_match Greater a b c n p q r = r

shallow_put : (k : List ℕ) (d : Data) (ms : Members) (n : ℕ) → depth d ≤ n → members_depth ms ≤ n → members_depth (put k d ms) ≤ n
shallow_put k d no_members n p q = omega arith
shallow_put k d (member l e ms) n p q =
    shallow_match _ (member k d (member l e ms)) (member l d ms) (member l e (put k d ms)) n (omega arith) (omega arith) (omega (arith, shallow_put k d ms n p (omega arith)))

-- the tree, where there is one, nests no deeper
abbrev pub Shallow : ℕ → Option Data → Type 0
Shallow n None = Unit {0}
Shallow n (Some d) = depth d ≤ n

shallow_some : (k : List ℕ) (o : Option Data) (ms : Members) (n : ℕ) → Shallow n o → members_depth ms ≤ n → members_depth (put_some k o ms) ≤ n
shallow_some k None ms n p q = q
shallow_some k (Some d) ms n p q = shallow_put k d ms n p q

abbrev pub AllShallow : ℕ → List (List ℕ × Option Data) → Type 0
AllShallow n [] = Unit {0}
AllShallow n (row ∷ table) = Shallow n row.1 × AllShallow n table

pub shallow_table : (table : List (List ℕ × Option Data)) (ms : Members) (n : ℕ) → AllShallow n table → members_depth ms ≤ n → members_depth (put_table table ms) ≤ n
shallow_table [] ms n h q = q
shallow_table (row ∷ table) ms n h q = shallow_table table (put_some row.0 row.1 ms) n h.1 (shallow_some row.0 row.1 ms n h.0 q)

pub shallow_option : {A : Type 0} (tree : A → Data) (n : ℕ) → ((x : A) → depth (tree x) ≤ n) → (o : Option A) → Shallow n (option_map tree o)
shallow_option tree n each None = tt
shallow_option tree n each (Some x) = each x

shallow_items : {A : Type 0} (tree : A → Data) (n : ℕ) → ((x : A) → depth (tree x) ≤ n) → (xs : List A) → items_depth (items_of (map tree xs)) ≤ n
shallow_items tree n each [] = omega arith
shallow_items tree n each (x ∷ xs) = omega (arith, each x, shallow_items tree n each xs)

pub shallow_list : {A : Type 0} (tree : A → Data) (n : ℕ) → ((x : A) → depth (tree x) ≤ n) → (xs : List A) → depth (list_tree tree xs) ≤ n + 1
shallow_list tree n each xs = omega (arith, shallow_items tree n each xs)
