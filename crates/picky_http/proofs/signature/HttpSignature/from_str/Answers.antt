use Rattle.std.proofs.lemmas.Result.{IfOk-weaker}
use Rattle.picky_contract.specs.laws.Tables.{found, complete}
use Rattle.picky_http.specs.Faults.{http_fault}
use Rattle.picky_http.specs.Reading.{reading_of}
use Rattle.picky_http.specs.Refusals.{reading_table}
use Rattle.picky_http.specs.laws.Readings.{reading_exact, from_reading, to_reading}
use Rattle.picky_http.proofs.signature.HttpSignature.from_str.Goals as goal

pub returns-clause-found : goal.returns-clause-found
returns-clause-found c =
    IfOk-weaker c.read.result _ _ (λ x h. to_reading c.args.text.now (reading_of x) h)
    (found reading_of http_fault c.read.result (reading_table c.args.text.now) (reading_exact c.args.text.now) c.read.ensures)

pub returns-clause-every : goal.returns-clause-every
returns-clause-every c = λ r h.
    complete reading_of http_fault c.read.result (reading_table c.args.text.now) (reading_exact c.args.text.now) c.read.ensures r (from_reading c.args.text.now r h)
