use Rattle.std.proofs.Common.{inr, Global}
use Rattle.std.specs.Cow.{cow_str_bytes}
use Rattle.picky_contract.specs.laws.Tables.{leads_meets}
use Rattle.picky_http.specs.Faults.{http_fault}
use Rattle.picky_http.specs.Reading.{reading_of}
use Rattle.picky_http.specs.Verifying.{signed_table, rows_table, source_of}
use Rattle.picky_http.proofs.check.check_rows.Goals as goal

pub returns-in-Ok : goal.returns-in-Ok
unfolding rows_table
returns-in-Ok g c =
    let signs = g.P.KeyProvider.signs c.args.provider.now in
    let key = c.args.method.now.key.now in
    let algorithm = c.args.method.now.algorithm in
    let source = source_of g.Q.HttpRequest.answer g.Q.HttpRequest.method g.Q.HttpRequest.target c.args.way.now in
    let r = reading_of c.args.signature.now in
    let message = cow_str_bytes {Z = Global} c.in-Ok.text in
    let told = rw c.as_str.ensures.value at c.check_signed.ensures in
    leads_meets (λ u. u) http_fault c.check_signed.result (signed_table signs key algorithm message r) (rows_table signs key algorithm source c.args.now c.args.leeway r)
    (record {
      gives = λ y h. (_, c.in_ok-check_expires.ensures, (_, c.in_ok-check_created.ensures, (message, c.in-Ok.ensures, h)));
      refuses = λ f h. inr (_, c.in_ok-check_expires.ensures, inr (_, c.in_ok-check_created.ensures, inr (message, c.in-Ok.ensures, h)));
    })
    told
