use Rattle.picky_records.proofs.Places.{knows_more}
use Rattle.picky_records.proofs.seen.Seen.with.Goals as goal

pub invariant_of-result : goal.invariant_of-result
invariant_of-result c =
    knows_more c.self.inside.places c.in_ok-places.places c.self.inside.lines.items c.in_ok-lines.lines.items c.args.line c.self.invariant c.in_ok-places.ensures c.in_ok-lines.ensures
