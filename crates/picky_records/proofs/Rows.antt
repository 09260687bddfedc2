-- Rows that are read one by one, each after those before it.
use Rattle.std.proofs.Common.{List, [], ◌∷◌, ◌++◌, refl, inl, inr}
use Rattle.picky_contract.specs.Refusals.{Table, ◌>>=◌}
use Rattle.picky_contract.specs.laws.Tables.{Leads}
use Rattle.picky_records.specs.Reading.{each_after}

-- the table of what is left: the rows of the items, and then what follows
abbrev pub rest_of : {A X F Y : Type 0} → (List X → A → Table X F) → (List X → Table Y F) → List X → List A → Table Y F
rest_of each next before items = each_after each before items >>= next

-- one item more
pub leads_turn : {A X F Y : Type 0} (each : List X → A → Table X F) (next : List X → Table Y F) (before : List X) (item : A) (items : List A) (x : X) (whole : Table Y F)
    → (each before item).gives x → Leads (rest_of each next before (item ∷ items)) whole → Leads (rest_of each next (before ++ x ∷ []) items) whole
unfolding each_after
leads_turn each next before item items x whole h l = record {
  gives = λ y g. l.gives y (g.0, (x, h, g.1), g.2);
  refuses = λ f r. elim r [
    | inl s ↦ l.refuses f (inl (inr (x, h, s)))
    | inr s ↦ l.refuses f (inr (s.0, (x, h, s.1), s.2))
  ];
}

-- an item that is refused
pub refuses_turn : {A X F Y : Type 0} (each : List X → A → Table X F) (next : List X → Table Y F) (before : List X) (item : A) (items : List A) (whole : Table Y F) (f : F)
    → (each before item).refuses f → Leads (rest_of each next before (item ∷ items)) whole → whole.refuses f
unfolding each_after
refuses_turn each next before item items whole f r l = l.refuses f (inl (inl r))

-- no item is left
pub leads_end : {A X F Y : Type 0} (each : List X → A → Table X F) (next : List X → Table Y F) (before : List X) (whole : Table Y F)
    → Leads (rest_of each next before []) whole → Leads (next before) whole
unfolding each_after
leads_end each next before whole l = record {
  gives = λ y g. l.gives y (before, refl, g);
  refuses = λ f r. l.refuses f (inr (before, refl, r));
}
