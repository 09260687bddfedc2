use Rattle.std.proofs.Common.{◌<◌, ◌^◌, rules}
use Rattle.picky_gate.proofs.Moments.{too_big}
use Rattle.picky_gate.proofs.words.read_number.Goals as goal

pub returns-in_default-2 : goal.returns-in_default-2
returns-in_default-2 c =
    let bound : c.args.last < 2 ^ 64 = search rules in
    λ n number. too_big c.args.last c.args.text.now _ _ n bound c.parse.ensures.value.0 number.digits number.some c.in_default.is number.value number.fits
