use Rattle.std.proofs.Common.{arith, refl}
use Rattle.picky_asn1_date.proofs.Places.{written, written_all}
use Rattle.picky_asn1_date.proofs.text.write_pairs.Goals as goal

pub loop-number-preserved : goal.loop-number-preserved
loop-number-preserved c = written c.args.numbers.now c.loop-number.text.items c.extend_from_slice.new.self.items c.loop-number.number-index _ (omega arith) refl c.loop-number.invariant c.in_ok-extend_from_slice.ensures.items

pub returns : goal.returns
returns c = written_all c.args.numbers.now c.loop-number.text.items c.push.new.self.items c.loop-number.number-index (omega arith) c.loop-number.invariant c.in_ok-push.ensures.items
