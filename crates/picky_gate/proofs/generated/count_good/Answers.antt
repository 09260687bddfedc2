use Rattle.std.proofs.Common.{◌<◌, ◌^◌, arith, rules}
use Rattle.picky_gate.specs.Generated.{IsGood}
use Rattle.picky_gate.proofs.Counting.{stepped, counts_more, few_more}
use Rattle.picky_gate.proofs.generated.count_good.Goals as goal

pub loop-number-preserved : goal.loop-number-preserved
loop-number-preserved c =
    let less : c.loop-number.number < c.args.count = search rules in
    let wide : c.args.count < 2 ^ 64 = search rules in
    let i = c.loop-number.number in
    let step = stepped c.args.seed i c.next_word-word.result c.loop-number.words c.next_word-word.new.self c.loop-number.invariant.words c.next_word-word.ensures (omega (arith, less, wide)) in
    record {
      words = step.1;
      below = omega (arith, less);
      counted = counts_more c.args.seed i c.next_word-word.result c.loop-number.good c.in_ok-good.good c.loop-number.invariant.counted step.0 c.in_ok-good.ensures;
      few = few_more (IsGood c.next_word-word.result i) i c.loop-number.good c.in_ok-good.good c.in_ok-good.ensures c.loop-number.invariant.few;
    }
