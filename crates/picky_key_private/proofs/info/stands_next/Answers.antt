use Rattle.std.specs.Prelude.{◌==◌}
use Rattle.picky_key_private.proofs.Next.{some_next, none_next}
use Rattle.picky_key_private.proofs.info.stands_next.Goals as goal

pub returns-in-Ok : goal.returns-in-Ok
returns-in-Ok c = some_next (λ b. b == c.args.tag.0) c.args.reader.now.left _ c.in-Ok.ensures.answers

pub returns-in-Err : goal.returns-in-Err
returns-in-Err c = none_next (λ b. b == c.args.tag.0) c.args.reader.now.left _ c.in-Err.ensures.answers
