use Rattle.std.proofs.Common.{arith, Bor, List, ℕ}
use Rattle.std.proofs.lemmas.Grind.{common_steps}
use Rattle.picky_http_request.proofs.Fields.{join_texts_more, join_texts_first}
use Rattle.picky_http_request.proofs.join.join.Goals as goal
use Rattle.picky_http_request.proofs.join.join.Goals.{then-i-gt0+in_ok-push_str, else-i-gt0}

pub loop-i-preserved : goal.loop-i-preserved
loop-i-preserved c =
    elim c.if-i-gt0.branch [
      | then-i-gt0+in_ok-push_str w ↦
          grind (arith, common_steps, λ (d : Bor (List ℕ)). join_texts_more c.args.separator.now (λ t. t.now) c.args.texts.now c.loop-i.i d c.loop-i-test.true w.if-i-gt0.true)
      | else-i-gt0 w ↦
          grind (arith, common_steps, λ (d : Bor (List ℕ)). join_texts_first c.args.separator.now (λ t. t.now) c.args.texts.now c.loop-i.i d c.loop-i-test.true (omega arith))
    ]
