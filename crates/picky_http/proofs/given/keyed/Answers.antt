use Rattle.picky_http.specs.Given.{Keyed, IsKeyed}
use Rattle.picky_http.specs.laws.Given.{keyed_same}
use Rattle.picky_http.proofs.given.keyed.Goals as goal

pub returns : goal.returns
returns c =
    let k : Keyed = record { key = c.in_ok-key.key.now; value = c.trim.result.now } in
    let is : IsKeyed c.args.line.now k = record {
      behind = c.in_ok-key.behind.now;
      cut = c.in_ok-key.ensures.found;
      inner = c.up_to_colon.result.now;
      up_to = c.up_to_colon.ensures;
      trimmed = c.trim.ensures.trim;
    } in
    (is, λ l h. keyed_same c.args.line.now k l is h)
