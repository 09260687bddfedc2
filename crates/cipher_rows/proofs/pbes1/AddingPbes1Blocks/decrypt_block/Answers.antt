use Rattle.std.proofs.Common.{◌≡◌, ◌∙◌, ap, length, rules, sym}
use Rattle.cipher_rows.specs.Added.{added}
use Rattle.cipher_rows.proofs.Twice.{added_twice}
use Rattle.cipher_rows.proofs.pbes1.AddingPbes1Blocks.decrypt_block.Goals as goal

pub returns : goal.returns
returns c =
    let key = c.args.key.now in
    let size : length c.args.block.now ≡ 8 = search rules in
    record {
      back = ap (added key) c.add.ensures ∙ added_twice key c.args.block.now size;
      alone = λ x h e. sym (added_twice key x h.size) ∙ ap (added key) e ∙ sym c.add.ensures;
    }
