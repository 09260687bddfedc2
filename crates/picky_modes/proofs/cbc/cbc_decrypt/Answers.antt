use Rattle.std.proofs.Common.{◌≡◌, length, rules}
use Rattle.picky_modes.proofs.cbc.cbc_decrypt.Goals as goal

pub returns : goal.returns
returns c =
    let size : length c.args.iv.now ≡ 16 = search rules in
    rw size at c.open_text.ensures
