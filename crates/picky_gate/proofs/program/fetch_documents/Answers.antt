use Rattle.picky_gate.specs.Asked.{admit_of}
use Rattle.picky_gate.proofs.Fetching.{keys_unfetched, records_unfetched, request_unfetched}
use Rattle.picky_gate.proofs.program.fetch_documents.Goals as goal

pub returns-in-Err-clause-asks : goal.returns-in-Err-clause-asks
returns-in-Err-clause-asks g c = keys_unfetched _ (admit_of c.args.words) _ c.in-Err.unfetched c.in-Err.ensures.asks

pub returns-in-Err-fetch_one-clause-asks : goal.returns-in-Err-fetch_one-clause-asks
returns-in-Err-fetch_one-clause-asks g c =
    records_unfetched _ (admit_of c.args.words) _ c.in-Err-fetch_one.unfetched _ c.in-Ok.ensures.asks.fetched c.in-Err-fetch_one.ensures.asks

pub returns-in-Err-fetch_request-clause-asks : goal.returns-in-Err-fetch_request-clause-asks
returns-in-Err-fetch_request-clause-asks g c =
    request_unfetched _ _ _ (admit_of c.args.words) _ c.in-Err-fetch_request.unfetched _ _ c.in-Ok.ensures.asks.fetched c.in-Ok-fetch_one.ensures.asks.fetched c.in-Err-fetch_request.ensures.asks
