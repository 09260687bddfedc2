use Rattle.std.proofs.Common.{List, ℕ, Some, None, subst, sym}
use Rattle.picky_http_text.specs.Numbers.{IsNumber}
use Rattle.picky_http.specs.Reading.{at}
use Rattle.picky_http.specs.laws.Readings.{optional_number_same, no_number}
use Rattle.picky_http.proofs.read.number_under.Goals as goal

pub returns-in-None : goal.returns-in-None
returns-in-None c = (c.in-None.ensures.value, λ y h. optional_number_same c.args.text.now c.args.key.now y None h c.in-None.ensures.value)

pub returns-in-None-number_of : goal.returns-in-None-number_of
returns-in-None-number_of c =
    no_number c.args.text.now c.args.key.now (at c.args.text.now c.in-Some.span) c.in-Some.ensures.value
    (λ n x. c.in-None-number_of.ensures n (subst (λ (z : List ℕ). IsNumber z n) (sym c.of.ensures) x))

pub returns-in-Some-number_of : goal.returns-in-Some-number_of
returns-in-Some-number_of c =
    let n = c.in-Some-number_of.n in
    let number = subst (λ (z : List ℕ). IsNumber z n) c.of.ensures c.in-Some-number_of.ensures.0 in
    let value = at c.args.text.now c.in-Some.span in (
      (value, c.in-Some.ensures.value, number),
      λ y h. optional_number_same c.args.text.now c.args.key.now y (Some n) h (value, c.in-Some.ensures.value, number),
    )
