use Rattle.std.proofs.Common.{◌≡◌, ◌++◌, ◌∙◌, ap, length}
use Rattle.std.proofs.lemmas.Slice.{pushed}
use Rattle.picky_aes.specs.Cipher.{cipher}
use Rattle.picky_modes.specs.KeyWrap.{initial_value}
use Rattle.picky_modes.proofs.Wrapped.{wrapped-is, written-over}
use Rattle.picky_modes.proofs.wrap.key_wrap.Goals as goal

pub returns-clause-wrapped : goal.returns-clause-wrapped
returns-clause-wrapped c =
    let before : c.as_mut_slice.result.now ≡ initial_value ++ c.args.plain.now =
    c.as_mut_slice.ensures.value
    ∙ pushed c.args.plain.now (pushed initial_value c.in_ok-registers.ensures.items c.in_ok-extend_from_slice.was c.extend_from_slice.ensures.items) c.in_ok-extend_from_slice-2.was c.extend_from_slice-2.ensures.items in
    let size : length c.wrap_registers.new.registers ≡ length c.extend_from_slice-2.new.self.items = c.wrap_registers.auto.registers ∙ ap length c.as_mut_slice.ensures.value in
    written-over _ c.wrap_registers.new.registers _ c.extend_from_slice-2.new.self.ok.0 size
    ∙ wrapped-is (cipher c.args.aes.now) c.args.plain.now c.as_mut_slice.result.now _ before c.wrap_registers.ensures
