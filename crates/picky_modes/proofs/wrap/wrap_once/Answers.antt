use Rattle.std.proofs.Common.{◌≡◌, ◌≤◌, ◌∙◌, arith, length}
use Rattle.std.proofs.lemmas.List.{length-take-le}
use Rattle.picky_aes.specs.Cipher.{cipher}
use Rattle.picky_modes.proofs.Registers.{step-made}
use Rattle.picky_modes.proofs.wrap.wrap_once.Goals as goal

pub returns : goal.returns
returns c =
    let room : 8 ≤ length c.encrypt_block.new.block = omega (arith, c.encrypt_block.array_long) in
    let eight : length c.xor_into.new.block ≡ 8 = c.xor_into.auto.block ∙ length-take-le 8 c.encrypt_block.new.block room in
    step-made (cipher c.args.aes.now) c.args.n c.args.t c.args.registers.now c.joined_registers-joined.result c.encrypt_block.new.block c.xor_into.new.block c.to_be_bytes.result _ _
    c.encrypt_block.array_long eight c.joined_registers-joined.ensures c.encrypt_block.ensures c.replace_register.ensures c.xor_into.ensures c.to_be_bytes.ensures c.replace_register-2.ensures
