use Rattle.std.proofs.Common.{◌≡◌, List, ℕ, ap, ◌∙◌}
use Rattle.picky_http_text.specs.laws.Places.{place_is_span, place_slice}
use Rattle.picky_http.specs.Reading.{is_legacy, IsSigned, signed_view}
use Rattle.picky_http.specs.laws.Readings.{signed_same, unsigned}
use Rattle.picky_http.proofs.Values.{cleaned_at}
use Rattle.picky_http.proofs.read.signed_span.Goals as goal

pub of-requires : goal.of-requires
of-requires c = place_is_span c.args.text.now c.in-Some.ensures.0 c.in-Some.raw c.in-Some.ensures.2

pub of-requires-in-Some : goal.of-requires-in-Some
of-requires-in-Some c = place_is_span c.args.text.now c.in-Some.ensures.0 c.in-Some.raw c.in-Some.ensures.2

pub of-requires-in-Some-2 : goal.of-requires-in-Some-2
of-requires-in-Some-2 c =
    let got = c.in-Some.ensures in
    let place = cleaned_at c.args.text.now got.0 c.of.result.now c.in-Some.raw c.clean_span.result c.shifted-span.result got.2 c.of.ensures c.clean_span.ensures c.shifted-span.ensures.start c.shifted-span.ensures.end in
    place.fits

pub returns-in-None-clause-found : goal.returns-in-None-clause-found
returns-in-None-clause-found c = λ s h. unsigned c.args.text.now s c.in-None.ensures h

pub returns-in-Some-clause-found : goal.returns-in-Some-clause-found
returns-in-Some-clause-found c =
    let text = c.args.text.now in
    let got = c.in-Some.ensures in
    let span = c.shifted-span.result in
    let place = cleaned_at text got.0 c.of.result.now c.in-Some.raw c.clean_span.result span got.2 c.of.ensures c.clean_span.ensures c.shifted-span.ensures.start c.shifted-span.ensures.end in
    let raw : c.of-in-Some.result.now ≡ got.0 = c.of-in-Some.ensures ∙ place_slice text got.0 c.in-Some.raw got.2 in
    let is : IsSigned text (signed_view text (span, c.is_legacy-legacy.result)) = record {
      raw = got.0;
      is_raw = got.1;
      clean = place.clean;
      form = c.is_legacy-legacy.ensures ∙ ap (λ (r : List ℕ). is_legacy r c.of-in-Some-2.result.now) raw ∙ ap (is_legacy got.0) c.of-in-Some-2.ensures;
    } in
    (is, λ s h. signed_same text s (signed_view text (span, c.is_legacy-legacy.result)) h is)

pub returns-in-Some-clause-fits : goal.returns-in-Some-clause-fits
returns-in-Some-clause-fits c =
    let got = c.in-Some.ensures in
    let place = cleaned_at c.args.text.now got.0 c.of.result.now c.in-Some.raw c.clean_span.result c.shifted-span.result got.2 c.of.ensures c.clean_span.ensures c.shifted-span.ensures.start c.shifted-span.ensures.end in
    place.fits
