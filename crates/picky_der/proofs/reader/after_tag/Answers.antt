use Rattle.std.proofs.Common.{◌≤◌, List, ℕ, ap, length, arith}
use Rattle.std.proofs.lemmas.List.{length-append}
use Rattle.picky_der.specs.Reading.{contents_at}
use Rattle.picky_der.specs.laws.Steps.{IfOk-answers}
use Rattle.picky_der.specs.laws.Headers.{length_shorter, contents_takes}
use Rattle.picky_der.proofs.reader.after_tag.Goals as goal

pub returns-clause-shorter : goal.returns-clause-shorter
returns-clause-shorter c =
    let bytes = c.args.bytes.now in
    let len = c.in_ok-len.len in
    let rest = c.in_ok-len.rest.now in
    let fewer = length_shorter bytes len rest c.in_ok-len.ensures.answers in
    IfOk-answers {Y = List ℕ × List ℕ} (λ x. (x.0.now, x.1.now)) (λ x. length x.1 ≤ length bytes) c.contents.result (contents_at len rest) c.contents.ensures.answers
    (λ x e. let k = contents_takes len rest x.0 x.1 e in omega (arith, ap length k.0, length-append x.0 x.1))
