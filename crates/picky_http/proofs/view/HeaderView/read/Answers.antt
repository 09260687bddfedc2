use Rattle.std.proofs.Common.{inl, inr, refl, option_map}
use Rattle.picky_http.specs.Reading.{at, headers_key, algorithm_key}
use Rattle.picky_http.specs.Refusals.{shown_table}
use Rattle.picky_http.specs.laws.Readings.{optional_same}
use Rattle.picky_http.proofs.view.HeaderView.read.Goals as goal

pub returns-in_default-value_span : goal.returns-in_default-value_span
unfolding shown_table
returns-in_default-value_span c =
    let none = rw c.in_default-value_span.is at c.value_span.ensures.found in
    inr (_, c.in-Some.ensures, inr (_, c.in-Some-number_under.ensures, inr (_, c.in-Some-signed_span.ensures.found, inl (refl, none))))

pub returns : goal.returns
unfolding shown_table
returns c =
    let text = c.args.text.now in
    let headers = option_map (at text) c.value_span-2.result in
    let algorithm = option_map (at text) c.value_span-3.result in (
      _,
      c.in-Some.ensures,
      (
        _,
        c.in-Some-number_under.ensures,
        (
          _,
          c.in-Some-signed_span.ensures.found,
          (
            _,
            c.in-Some-value_span.ensures.found,
            (
              headers,
              (c.value_span-2.ensures.value, λ y h. optional_same text headers_key y headers h c.value_span-2.ensures.value),
              (algorithm, (c.value_span-3.ensures.value, λ y h. optional_same text algorithm_key y algorithm h c.value_span-3.ensures.value), refl),
            ),
          ),
        ),
      ),
    )
