use Rattle.std.proofs.Common.{arith, ◌∙◌}
use Rattle.std.proofs.lemmas.List.{length-set}
use Rattle.picky_aes.proofs.WordBack.{columns_more}
use Rattle.picky_aes.proofs.key_schedule.unmixed_words.Goals as goal

pub loop-i-preserved : goal.loop-i-preserved
loop-i-preserved c = record {
  size = length-set c.loop-i.words c.loop-i.i _ ∙ c.loop-i.invariant.size;
  columns = columns_more c.args.keys.now c.loop-i.words c.loop-i.i _ (omega arith) c.loop-i.invariant.columns c.unmixed_column.ensures;
}

pub returns : goal.returns
returns c = record { columns = λ k h. c.loop-i.invariant.columns k (omega arith) }
