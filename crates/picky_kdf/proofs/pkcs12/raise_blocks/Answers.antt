use Rattle.std.proofs.Common.{arith, ◌≡◌, ◌+◌, ◌-◌, ◌*◌, length}
use Rattle.picky_kdf.proofs.Blocks.{block_length, blocks_all, blocks_more}
use Rattle.picky_kdf.proofs.pkcs12.raise_blocks.Goals as goal

pub loop-j-preserved : goal.loop-j-preserved
loop-j-preserved c =
    let v = length c.args.b.now in
    let part : c.loop-j.j * v + v - c.loop-j.j * v ≡ v = omega arith in
    blocks_more c.args.text.now c.loop-j.text c.args.b.now c.raise.new.block c.loop-j.j v _ _ part
    (block_length c.loop-j.text c.loop-j.j v _ (length c.args.text.now) c.loop-j.auto.text c.loop-j-test.true part)
    c.loop-j.invariant c.raise.ensures

pub returns : goal.returns
returns c = blocks_all c.args.text.now c.loop-j.text c.args.b.now c.loop-j.j (length c.args.b.now) (omega arith) c.requires.whole c.loop-j.invariant
