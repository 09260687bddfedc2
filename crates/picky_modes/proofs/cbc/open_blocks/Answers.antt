use Rattle.std.proofs.Common.{◌≡◌, ◌+◌, ◌-◌, ◌*◌, ◌≤◌, ◌∙◌, arith, length, refl, rules}
use Rattle.picky_modes.specs.Blocks.{IsBytes}
use Rattle.picky_modes.proofs.Chains.{IsOpenedTo-more, IsOpenedTo-none, fits-block, length-read}
use Rattle.picky_modes.proofs.cbc.open_blocks.Goals as goal

pub loop-k-preserved : goal.loop-k-preserved
loop-k-preserved g c =
    let v = length c.args.chain.now in
    let fits : v * c.loop-k.k + v ≤ length c.args.buffer.now = fits-block v c.loop-k.k (length c.args.buffer.now) c.loop-k-test.true in
    let width : v * c.loop-k.k + v - v * c.loop-k.k ≡ v = omega arith in
    let size : length c.open_block.new.block ≡ v = c.open_block.auto.block ∙ length-read v c.loop-k.buffer c.loop-k.k (omega arith) in
    let bytes : IsBytes c.open_block.new.chain = search rules in
    IsOpenedTo-more (g.C.BlockCipher.enciphered c.args.cipher.now) v c.args.chain.now c.args.buffer.now c.loop-k.buffer c.loop-k.chain c.open_block.new.block c.open_block.new.chain c.loop-k.k (v * c.loop-k.k + v - v * c.loop-k.k)
    c.requires.some refl fits c.loop-k.auto.buffer c.loop-k.invariant size width c.open_block.ensures.back (λ x block e. c.open_block.ensures.alone x (record { size = block.size ∙ c.requires.size; bytes = block.bytes }) e) c.open_block.ensures.chain bytes

pub loop-k-init : goal.loop-k-init
loop-k-init g c =
    let bytes : IsBytes c.args.chain.now = search rules in
    IsOpenedTo-none (g.C.BlockCipher.enciphered c.args.cipher.now) (length c.args.chain.now) c.args.chain.now c.args.buffer.now (record { size = refl; bytes = bytes })

pub open_block-requires-clause-bytes : goal.open_block-requires-clause-bytes
open_block-requires-clause-bytes g c = c.loop-k.invariant.last_block.bytes
