use Rattle.picky_records.proofs.Places.{put_keeps, put_has}
use Rattle.picky_records.proofs.seen.put.Goals as goal

pub returns : goal.returns
returns c = record {
  keeps = put_keeps c.args.places c.insert.new.self c.args.key c.args.place c.in_ok-insert.ensures.updates;
  has = put_has c.args.places c.insert.new.self c.args.key c.args.place c.in_ok-insert.ensures.updates;
}
