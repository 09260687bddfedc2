use Rattle.picky_kdf.proofs.Sums.{first-iterated}
use Rattle.picky_kdf.proofs.pkcs5.key_sum.Goals as goal

pub returns : goal.returns
returns c = λ password keyed.
    c.add_macs.ensures c.args.hash password c.args.salt.now c.args.number keyed
    (first-iterated c.args.hash password c.args.salt.now c.args.number c.to_be_bytes.result c.mac_of_two-front.result c.to_be_bytes.ensures (c.mac_of_two-front.ensures password keyed))
