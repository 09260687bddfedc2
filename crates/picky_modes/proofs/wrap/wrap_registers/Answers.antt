use Rattle.std.proofs.Common.{◌≡◌, ◌*◌, sym, ap, ◌∙◌, arith}
use Rattle.picky_aes.specs.Cipher.{cipher}
use Rattle.picky_modes.specs.KeyWrap.{wrap_steps}
use Rattle.picky_modes.proofs.Steps.{steps-after, steps-none}
use Rattle.picky_modes.proofs.wrap.wrap_registers.Goals as goal

pub loop-t-init : goal.loop-t-init
loop-t-init c = sym (steps-none (cipher c.args.aes.now) c.args.n c.args.registers.now)

pub loop-t-preserved : goal.loop-t-preserved
loop-t-preserved c = steps-after (cipher c.args.aes.now) c.args.n c.args.registers.now _ _ c.loop-t.t c.loop-t.invariant c.wrap_once.ensures

pub returns : goal.returns
returns c =
    let all : c.loop-t.t ≡ 6 * c.args.n = omega arith in
    c.loop-t.invariant ∙ ap (wrap_steps (cipher c.args.aes.now) c.args.n c.args.registers.now) all
