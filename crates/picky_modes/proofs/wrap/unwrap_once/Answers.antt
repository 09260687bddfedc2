use Rattle.std.proofs.Common.{length, ◌∙◌}
use Rattle.picky_aes.specs.Cipher.{cipher}
use Rattle.picky_modes.proofs.Registers.{IsUndone, register-fits, step-alone, step-back, undone-made}
use Rattle.picky_modes.proofs.wrap.unwrap_once.Goals as goal

pub returns : goal.returns
returns c =
    let s = c.args.registers.now in
    let undone : IsUndone (cipher c.args.aes.now) c.args.n c.args.t s c.decrypt_block.new.block c.replace_register-2.new.registers =
    undone-made (cipher c.args.aes.now) c.args.n c.args.t s c.joined_registers-joined.result c.xor_into.new.block c.to_be_bytes.result c.decrypt_block.new.block _ _
    (register-fits c.args.n c.args.t (length s) c.requires.some c.requires.fits) c.decrypt_block.array_long c.joined_registers-joined.ensures c.xor_into.ensures c.to_be_bytes.ensures
    c.decrypt_block.ensures.back c.replace_register.ensures c.replace_register-2.ensures in
    record {
      back = step-back (cipher c.args.aes.now) c.args.n c.args.t s c.decrypt_block.new.block c.replace_register-2.new.registers c.requires.some c.requires.fits undone;
      alone = λ x block e. step-alone (cipher c.args.aes.now) c.args.n c.args.t s c.decrypt_block.new.block c.replace_register-2.new.registers x
          (λ y h. let k = c.encrypts_to_blocks.ensures.block y (record { size = h.size; bytes = h.bytes }) in record { size = k.size; bytes = k.bytes })
          c.requires.some c.requires.fits undone
          (λ y h ey. c.decrypt_block.ensures.alone y (record { size = h.size; bytes = h.bytes }) (ey ∙ c.decrypt_block.ensures.back)) block e;
    }
