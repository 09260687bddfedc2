use Rattle.std.proofs.Common.{arith, ◌∙◌}
use Rattle.std.proofs.lemmas.List.{length-set}
use Rattle.std.proofs.lemmas.List.Edits.{fill_by_more}
use Rattle.std.proofs.lemmas.List.FromFn.{fill_by_all}
use Rattle.picky_kdf.proofs.Cycles.{byte_at}
use Rattle.picky_kdf.proofs.pkcs12.cycled.Goals as goal

pub loop-i-preserved : goal.loop-i-preserved
loop-i-preserved c = record {
  size = length-set c.loop-i.out c.loop-i.i _ ∙ c.loop-i.invariant.size;
  filled = fill_by_more (byte_at c.args.text.now) c.loop-i.out c.loop-i.i 0 (omega arith) c.loop-i.invariant.filled;
}

pub returns : goal.returns
returns c =
    fill_by_all (byte_at c.args.text.now) c.loop-i.out 128 0 (omega arith) (λ k within. c.loop-i.invariant.filled k (omega arith))
