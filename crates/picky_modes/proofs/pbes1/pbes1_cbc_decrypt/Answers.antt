use Rattle.std.proofs.Common.{◌≡◌, length, rules}
use Rattle.picky_modes.proofs.pbes1.pbes1_cbc_decrypt.Goals as goal

pub returns : goal.returns
returns g c =
    let size : length c.args.iv.now ≡ 8 = search rules in
    rw size at c.open_text.ensures
