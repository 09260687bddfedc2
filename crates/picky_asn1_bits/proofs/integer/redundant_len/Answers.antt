use Rattle.std.proofs.Common.{◌∙◌, sym, arith}
use Rattle.picky_asn1_bits.proofs.Numbers.{shortened-drop}
use Rattle.picky_asn1_bits.proofs.integer.redundant_len.Goals as goal

pub returns-after-loop-start-clause-rest : goal.returns-after-loop-start-clause-rest
returns-after-loop-start-clause-rest c =
    sym (shortened-drop c.args.bytes.now c.loop-start.start c.loop-start.invariant.0 (λ more. absurd (omega arith)))
    ∙ c.loop-start.invariant.1
