use Rattle.std.proofs.Common.{arith}
use Rattle.picky_aes.specs.Cipher.{cipher}
use Rattle.picky_modes.proofs.Steps.{IsUnwrappedTo-all, IsUnwrappedTo-more, IsUnwrappedTo-none}
use Rattle.picky_modes.proofs.wrap.unwrap_registers.Goals as goal

pub loop-t-init : goal.loop-t-init
loop-t-init c = IsUnwrappedTo-none (cipher c.args.aes.now) c.args.n c.args.registers.now

pub loop-t-preserved : goal.loop-t-preserved
loop-t-preserved c =
    IsUnwrappedTo-more (cipher c.args.aes.now) c.args.n c.args.registers.now c.loop-t.registers c.unwrap_once.new.registers c.loop-t.t
    (λ y h. let k = c.encrypts_to_blocks.ensures.block y (record { size = h.size; bytes = h.bytes }) in record { size = k.size; bytes = k.bytes })
    c.requires.some c.loop-t-test.true c.requires.fits c.loop-t.auto.registers c.unwrap_once.ensures.back c.unwrap_once.ensures.alone c.loop-t.invariant

pub returns : goal.returns
returns c =
    let all = IsUnwrappedTo-all (cipher c.args.aes.now) c.args.n c.args.registers.now c.loop-t.registers c.loop-t.t (omega arith) c.loop-t.invariant in
    record { back = all.0; alone = all.1 }
