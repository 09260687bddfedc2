use Rattle.std.proofs.Common.{◌≡◌, ◌∙◌, ap, length, sym}
use Rattle.picky_contract.specs.Sums.{add_bytes}
use Rattle.picky_modes.specs.Blocks.{IsBlock}
use Rattle.picky_modes.proofs.BlockLemmas.{IsBlock-xor, xor_twice}
use Rattle.picky_modes.proofs.cbc.open_block.Goals as goal

pub returns-clause-back : goal.returns-clause-back
returns-clause-back g c =
    let size : length c.decipher.new.block ≡ length c.args.chain.now = c.decipher.auto.block ∙ c.requires.same in
    ap (λ b. g.C.BlockCipher.enciphered c.args.cipher.now (add_bytes b c.args.chain.now)) c.xor_into.ensures
    ∙ ap (g.C.BlockCipher.enciphered c.args.cipher.now) (xor_twice c.decipher.new.block c.args.chain.now size)
    ∙ c.decipher.ensures.back

pub returns-clause-alone : goal.returns-clause-alone
returns-clause-alone g c =
    let chain : IsBlock (g.C.BlockCipher.size c.args.cipher.now) c.args.chain.now = record { size = c.requires.size; bytes = c.requires.bytes } in
    λ x block e.
    sym (xor_twice x c.args.chain.now (block.size ∙ sym c.requires.size))
    ∙ ap (λ b. add_bytes b c.args.chain.now) (c.decipher.ensures.alone (add_bytes x c.args.chain.now) (IsBlock-xor _ x c.args.chain.now block chain) e)
    ∙ sym c.xor_into.ensures
