use Rattle.std.proofs.Common.{◌++◌, sym, subst, ap, ◌∙◌, string_bytes, chars}
use lib.Utf8.{encode}
use Rattle.std.proofs.lemmas.Str.{chars-nil, IsUtf8-string_bytes}
use Rattle.picky_asn1_text.specs.Bmp.{IsBmp, two_bytes_each}
use Rattle.picky_asn1_text.proofs.Pairs.{text_push, bmp_uncons, plane_scalar}
use Rattle.picky_asn1_text.proofs.texts.BmpString.to_utf8.Goals as goal

pub loop-unit-init : goal.loop-unit-init
loop-unit-init c = (
  c.as_bytes-left.ensures.in_set,
  sym c.as_bytes-left.ensures.bytes ∙ ap (λ text. two_bytes_each text ++ c.as_bytes-left.result.now) (sym (ap chars c.new-text.ensures.bytes ∙ chars-nil)),
)

pub loop-unit-preserved : goal.loop-unit-preserved
loop-unit-preserved c =
    let parts = bmp_uncons c.in-Some.unit c.in-Some.rest.now (subst IsBmp c.in-Some.ensures.found c.loop-unit.invariant.0) in
    (parts.1, text_push c.args.self.now (string_bytes c.loop-unit.text) (string_bytes c.push.new.self) c.loop-unit.left.now c.in-Some.rest.now c.in-Some.unit (IsUtf8-string_bytes c.loop-unit.text) (plane_scalar c.in-Some.unit parts.0) c.loop-unit.invariant.1 c.in-Some.ensures.found (c.in_ok-push.ensures.bytes ∙ ap (λ d. string_bytes c.loop-unit.text ++ encode d) c.character_of.ensures))
