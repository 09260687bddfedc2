use Rattle.picky_http_text.specs.laws.Places.{place_is_span}
use Rattle.picky_http_text.specs.laws.Values.{value_same, value_none}
use Rattle.picky_http.proofs.Values.{cleaned_at}
use Rattle.picky_http.proofs.read.value_span.Goals as goal

pub of-requires : goal.of-requires
of-requires c = place_is_span c.args.text.now c.in-Some.ensures.0 c.in-Some.raw c.in-Some.ensures.2

pub returns-in-None-clause-found : goal.returns-in-None-clause-found
returns-in-None-clause-found c = λ v. value_none c.args.text.now c.args.key.now v c.in-None.ensures

pub returns-in-Some-clause-value : goal.returns-in-Some-clause-value
returns-in-Some-clause-value c =
    let got = c.in-Some.ensures in
    let place = cleaned_at c.args.text.now got.0 c.of.result.now c.in-Some.raw c.clean_span.result c.shifted.result got.2 c.of.ensures c.clean_span.ensures c.shifted.ensures.start c.shifted.ensures.end in
    (got.0, got.1, place.clean)

pub returns-in-Some-clause-found : goal.returns-in-Some-clause-found
returns-in-Some-clause-found c =
    let got = c.in-Some.ensures in
    let place = cleaned_at c.args.text.now got.0 c.of.result.now c.in-Some.raw c.clean_span.result c.shifted.result got.2 c.of.ensures c.clean_span.ensures c.shifted.ensures.start c.shifted.ensures.end in
    ((got.0, got.1, place.clean), λ v h. value_same c.args.text.now c.args.key.now v _ h (got.0, got.1, place.clean))

pub returns-in-Some-clause-fits : goal.returns-in-Some-clause-fits
returns-in-Some-clause-fits c =
    let got = c.in-Some.ensures in
    let place = cleaned_at c.args.text.now got.0 c.of.result.now c.in-Some.raw c.clean_span.result c.shifted.result got.2 c.of.ensures c.clean_span.ensures c.shifted.ensures.start c.shifted.ensures.end in
    place.fits
