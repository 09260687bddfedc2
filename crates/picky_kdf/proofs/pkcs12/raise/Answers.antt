use Rattle.std.proofs.Common.{arith, refl}
use Rattle.picky_kdf.proofs.Numbers.{raised_all, raised_more, raised_none}
use Rattle.picky_kdf.proofs.pkcs12.raise.Goals as goal

pub loop-i-init : goal.loop-i-init
loop-i-init c = (raised_none c.args.block.now c.args.b.now _ refl c.requires, omega arith)

pub loop-i-preserved : goal.loop-i-preserved
loop-i-preserved c = (
  raised_more c.args.block.now c.args.b.now c.loop-i.block c.loop-i.i c.loop-i.carry c.from.result c.from-in-loop-i.result (omega arith) (omega arith) c.requires c.loop-i.invariant.0 c.from.ensures c.from-in-loop-i.ensures,
  omega arith,
)

pub returns : goal.returns
returns c = raised_all c.args.block.now c.args.b.now c.loop-i.block c.loop-i.i c.loop-i.carry (omega arith) c.loop-i.invariant.0
