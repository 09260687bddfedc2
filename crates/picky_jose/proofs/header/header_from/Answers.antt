use Rattle.std.proofs.Common.{inl, inr, refl, sym, ◌∙◌}
use Rattle.serde_json.specs.View.{view}
use Rattle.picky_jose.specs.Refusals.{header_table}
use Rattle.picky_jose.proofs.header.header_from.Goals as goal

pub returns-in_default-2 : goal.returns-in_default-2
unfolding header_table
returns-in_default-2 c =
    let bytes = rw c.in-Some.is at c.in_ok-bytes.ensures in
    let none = rw (c.deref.ensures.value, c.in_default-2.is) at c.in_ok-tree.ensures in
    inr (c.in-Some.bytes.items, bytes, inl (refl, none))

pub returns-in_default-3 : goal.returns-in_default-3
unfolding header_table
returns-in_default-3 c =
    let free = sym c.has_float.ensures ∙ c.if-has_float.false in
    let bytes = rw c.in-Some.is at c.in_ok-bytes.ensures in
    let tree = rw (c.deref.ensures.value, c.in-Some-2.is) at c.in_ok-tree.ensures in
    let none = rw c.in_default-3.is at c.in_ok-header.ensures in
    inr (c.in-Some.bytes.items, bytes, inr (view c.in-Some-2.tree, tree, inr (tt, free, (refl, none))))
