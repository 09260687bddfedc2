use Rattle.picky_http.specs.laws.Printing.{printed_back, flagged_back}
use Rattle.picky_http.proofs.laws.printed_reads_back.Goals as goal

pub returns-clause-itself : goal.returns-clause-itself
returns-clause-itself c = printed_back

pub returns-clause-flagged : goal.returns-clause-flagged
returns-clause-flagged c = flagged_back
