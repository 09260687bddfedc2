use Rattle.std.proofs.Common.{◌≡◌, ◌∙◌, sym, ap, arith}
use Rattle.std.specs.Fmt.{decimal}
use Rattle.std.proofs.lemmas.Bool.{false≢true}
use Rattle.std.proofs.lemmas.Fmt.{parse-decimal_wide}
use Rattle.picky_asn1_oid.proofs.Dots.{same_ok}
use Rattle.picky_asn1_oid.proofs.text.arc_of.Goals as goal

pub returns-in_default : goal.returns-in_default
returns-in_default c =
    λ y is. c.in_default.not-Ok y (parse-decimal_wide 128 y c.args.text.now c.parse.result is.0 (omega arith) (sym is.1) c.parse.ensures.value.0)

pub returns-then-same_text : goal.returns-then-same_text
returns-then-same_text c = (
  (omega arith, sym c.in_ok-printed.ensures.ok ∙ sym c.as_str.ensures.value ∙ c.same_text.ensures.0 c.if-same_text.true),
  (λ y is. same_ok c.parse.result y c.in-Ok.number (parse-decimal_wide 128 y c.args.text.now c.parse.result is.0 (omega arith) (sym is.1) c.parse.ensures.value.0) c.in-Ok.is),
)

pub returns : goal.returns
returns c =
    λ y is.
    let e : y ≡ c.in-Ok.number = same_ok c.parse.result y c.in-Ok.number (parse-decimal_wide 128 y c.args.text.now c.parse.result is.0 (omega arith) (sym is.1) c.parse.ensures.value.0) c.in-Ok.is in
    false≢true (sym c.if-same_text.false ∙ c.same_text.ensures.1 (c.as_str.ensures.value ∙ c.in_ok-printed.ensures.ok ∙ ap decimal (sym e) ∙ is.1))
