use Rattle.std.proofs.Common.{ap, string_bytes}
use Rattle.picky_jose.specs.Faults.{jwt_fault}
use Rattle.picky_jose.specs.Views.{jws_content, unchecked_content}
use Rattle.picky_jws_header.specs.Views.{header_view}
use Rattle.picky_gate.specs.Refusals.{cause_of}
use Rattle.picky_gate.proofs.Vouching.{claimed_gives, claimed_meets}
use Rattle.picky_gate.proofs.token.claimed.Goals as goal

pub returns-in-Ok : goal.returns-in-Ok
returns-in-Ok c =
    claimed_gives c.args.validator.now (string_bytes c.args.name.0) (jws_content c.args.jws) (unchecked_content c.from.result) _ _ c.from.ensures (ap header_view c.in-Ok.ensures.header) c.in-Ok.ensures.first

pub returns-in-Err : goal.returns-in-Err
returns-in-Err c =
    claimed_meets c.args.validator.now (string_bytes c.args.name.0) (jws_content c.args.jws) (unchecked_content c.from.result) (jwt_fault c.in-Err.error) (cause_of c.from-in-Err.result) c.from.ensures c.in-Err.ensures.first c.from-in-Err.ensures
