use Rattle.std.proofs.Common.{◌≡◌, Some, length, refl, sym, ◌∙◌}
use Rattle.std.specs.Prelude.{slice_get}
use Rattle.std.proofs.lemmas.Option.{slice_get_read}
use Rattle.picky_records.proofs.Places.{decided, place_has}
use Rattle.picky_records.proofs.seen.conflicts_at.Goals as goal

pub returns : goal.returns
returns c =
    let found : slice_get c.args.lines.now c.args.place ≡ Some c.in-Some.earlier.now =
    slice_get_read c.args.lines.now (length c.args.lines.now) c.args.place c.in-Some.earlier.now refl c.in-Some.ensures.lookup.3.0 c.in-Some.ensures.lookup.1 in
    c.conflicts_with.ensures
    ∙ sym (decided c.args.lines.now c.in-Some.earlier.now c.args.line.now c.requires (place_has c.args.lines.now c.args.place c.in-Some.earlier.now found)
    (sym c.is_answered_by.ensures ∙ c.if-is_answered_by.true))
