use Rattle.std.proofs.Common.{inl, inr, refl, ap, option_map}
use Rattle.picky_contract.specs.laws.Tables.{leads_meets}
use Rattle.picky_http.specs.Faults.{http_fault}
use Rattle.picky_http.specs.Verifying.{rows_table, verify_table, source_by, setup_of, using_of, origin_of}
use Rattle.picky_http.proofs.Setting.{set_once, not_set}
use Rattle.picky_http.proofs.verifier.HttpSignatureVerifier.decide.Goals as goal

pub returns-in_default-way : goal.returns-in_default-way
unfolding verify_table
returns-in_default-way g c =
    let s = setup_of c.args.self.now in
    let m = using_of c.in-Some.method in
    inr (m, set_once s.method m (ap (option_map using_of) c.in-Some.is), inr (_, c.in_ok-check_algorithm.ensures, inl (refl, not_set s.way (ap (option_map origin_of) c.in_default-way.is))))

pub returns : goal.returns
unfolding verify_table
returns g c =
    let s = setup_of c.args.self.now in
    let signs = g.P.KeyProvider.signs c.args.provider.now in
    let m = using_of c.in-Some.method in
    let w = origin_of c.in-Some-way.way in
    let source = source_by g.Q.HttpRequest.answer g.Q.HttpRequest.method g.Q.HttpRequest.target w in
    let method = set_once s.method m (ap (option_map using_of) c.in-Some.is) in
    let way = set_once s.way w (ap (option_map origin_of) c.in-Some-way.is) in
    leads_meets (λ u. u) http_fault c.check_rows.result (rows_table signs m.key m.algorithm source s.now s.leeway s.reading)
    (verify_table signs g.Q.HttpRequest.answer g.Q.HttpRequest.method g.Q.HttpRequest.target s)
    (record {
      gives = λ y h. (m, method, (_, c.in_ok-check_algorithm.ensures, (w, way, h)));
      refuses = λ f h. inr (m, method, inr (_, c.in_ok-check_algorithm.ensures, inr (w, way, h)));
    })
    c.check_rows.ensures
