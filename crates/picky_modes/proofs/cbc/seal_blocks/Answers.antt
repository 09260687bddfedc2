use Rattle.std.proofs.Common.{◌≡◌, ◌+◌, ◌-◌, ◌*◌, ◌≤◌, ◌∙◌, ap, arith, length, refl, sym}
use Rattle.picky_modes.proofs.Chains.{IsSealedTo-more, fits-block}
use Rattle.picky_modes.proofs.cbc.seal_blocks.Goals as goal

pub loop-k-preserved : goal.loop-k-preserved
loop-k-preserved g c =
    let v = length c.args.chain.now in
    let fits : v * c.loop-k.k + v ≤ length c.args.buffer.now = fits-block v c.loop-k.k (length c.args.buffer.now) c.loop-k-test.true in
    let size : length c.seal_block.new.block ≡ v = sym (ap length c.seal_block.ensures.chain) ∙ c.seal_block.auto.chain ∙ c.loop-k.auto.chain in
    IsSealedTo-more (g.C.BlockCipher.enciphered c.args.cipher.now) v c.args.chain.now c.args.buffer.now c.loop-k.buffer c.loop-k.chain c.seal_block.new.block c.seal_block.new.chain c.loop-k.k (v * c.loop-k.k + v - v * c.loop-k.k)
    c.requires.some refl fits c.loop-k.auto.buffer c.loop-k.invariant size (omega arith) c.seal_block.ensures.sealed c.seal_block.ensures.chain
