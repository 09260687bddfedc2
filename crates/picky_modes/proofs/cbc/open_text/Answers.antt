use Rattle.std.proofs.Common.{arith, length}
use Rattle.std.proofs.lemmas.Bool.Decides.{nat_tests}
use Rattle.picky_modes.specs.Cbc.{IsWholeBlocks}
use Rattle.picky_modes.proofs.Decryption.{IsDecryption-of, IsDecryption-other}
use Rattle.picky_modes.proofs.cbc.open_text.Goals as goal
use Rattle.picky_modes.proofs.cbc.open_text.Goals.{then-is_empty-via-then-is_empty, then-is_empty-via-else-is_empty+then-buffer-size-ne0}

pub returns-then-is_empty : goal.returns-then-is_empty
returns-then-is_empty g c =
    let refused : ¬ (IsWholeBlocks (length c.args.chain.now) (length c.args.buffer.now)) = λ whole. elim c.then-is_empty.branch [
      | then-is_empty-via-then-is_empty w ↦ grind (arith, nat_tests)
      | then-is_empty-via-else-is_empty+then-buffer-size-ne0 w ↦ w.if-buffer-size-ne0.true whole.whole
    ] in
    IsDecryption-other _ _ _ _ c.requires.some refused

pub returns : goal.returns
returns g c =
    let whole : IsWholeBlocks (length c.args.chain.now) (length c.args.buffer.now) = record { some = grind (arith, nat_tests); whole = c.if-buffer-size-ne0.false } in
    IsDecryption-of _ _ _ _ _ _ c.requires.some c.requires.small whole c.open_blocks.ensures.back c.open_blocks.ensures.alone c.text_length.ensures.text c.text_length.ensures.every
