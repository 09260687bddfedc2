use Rattle.std.specs.Cow.{cow_str_bytes}
use Rattle.std.proofs.lemmas.Result.{IfOk-weaker}
use Rattle.picky_contract.specs.laws.Tables.{found, complete}
use Rattle.picky_jose.specs.Faults.{jws_fault}
use Rattle.picky_jose.specs.Refusals.{reading_of, token_table}
use Rattle.picky_jose.specs.laws.Readings.{token_exact, from_reading, to_reading}
use Rattle.picky_jose.proofs.jws.RawJws.decode.Goals as goal

pub returns-clause-found : goal.returns-clause-found
returns-clause-found c =
    IfOk-weaker c.read.result _ _ (λ x h. to_reading (reading_of x) (cow_str_bytes c.args.compact_repr) h)
    (found reading_of jws_fault c.read.result (token_table (cow_str_bytes c.args.compact_repr)) (token_exact (cow_str_bytes c.args.compact_repr)) c.read.ensures.reads)

pub returns-clause-every : goal.returns-clause-every
returns-clause-every c = λ x r.
    complete reading_of jws_fault c.read.result (token_table (cow_str_bytes c.args.compact_repr)) (token_exact (cow_str_bytes c.args.compact_repr)) c.read.ensures.reads x (from_reading x (cow_str_bytes c.args.compact_repr) r)
