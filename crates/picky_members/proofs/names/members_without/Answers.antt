use Rattle.std.proofs.Common.{◌≡◌, ◌∷◌, ◌++◌, false, string_bytes, sym, ap, ◌∙◌}
use Rattle.std.specs.String.{string_eq}
use Rattle.indexmap.proofs.CallerLemmas.{insert_entry-new}
use Rattle.serde_json.specs.View.{view, members_view}
use Rattle.picky_members.specs.Names.{Pair, is_among, members_without, pairs_view, names_view}
use Rattle.picky_members.specs.laws.Pairs.{next_is_new, next_taken}
use Rattle.picky_members.proofs.names.members_without.Goals as goal

pub loop-name-preserved-in-Continue-1 : goal.loop-name-preserved-in-Continue-1
loop-name-preserved-in-Continue-1 c =
    let names = names_view c.args.names.now in
    let p : Pair = (string_bytes c.in-Some.name.now, view c.in-Some.member.now) in
    let back = members_without names (members_view c.next.new.self) in
    let free : is_among names p.0 ≡ false = ap (is_among names) (sym c.as_str.ensures.value) ∙ sym c.is_among.ensures ∙ c.if-not-is_among.true in
    let same : pairs_view c.loop-name.additional.entries ++ p ∷ back ≡ members_without names (members_view c.args.members.now.entries) = rw (c.in-Some.ensures.steps, free) at c.loop-name.invariant in
    let one = c.in_ok-add_copy.ensures in
    let none = next_is_new names c.args.members.now.entries c.loop-name.additional.entries one.name p back c.iter-name-items.ensures.ordered same one.spelled in
    let last = one.added ∙ insert_entry-new string_eq c.loop-name.additional one.name one.tree none in
    next_taken c.loop-name.additional.entries c.add_copy.new.additional.entries one.name one.tree p back _ last one.spelled one.seen same
