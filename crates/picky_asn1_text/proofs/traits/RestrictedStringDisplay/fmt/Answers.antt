use Rattle.std.proofs.Common.{◌≡◌, sym, subst, ap, ◌∙◌, IsUtf8}
use Rattle.std.specs.Fmt.{HasWritten}
use Rattle.picky_asn1_tag.specs.Hex.{hex_text}
use Rattle.picky_asn1_text.specs.Print.{text_or_hex}
use Rattle.picky_asn1_text.proofs.Printing.{text_shown, hex_shown}
use Rattle.picky_asn1_text.proofs.traits.RestrictedStringDisplay.fmt.Goals as goal

pub returns-in-Ok-clause-writes : goal.returns-in-Ok-clause-writes
returns-in-Ok-clause-writes g c = λ plain ok.
    let e : c.in-Ok.text.now ≡ text_or_hex c.args.self.now = c.in-Ok.ensures.cases.0 ∙ sym (text_shown c.as_bytes.result.now c.in-Ok.ensures.cases.1) ∙ ap text_or_hex c.as_bytes.ensures.bytes in
    subst (λ text. HasWritten g.W.Write.write_str_gives c.args.f.now text c.write_str.new.self) e (c.write_str.ensures.writes plain ok)

pub returns-in-Err-clause-writes : goal.returns-in-Err-clause-writes
returns-in-Err-clause-writes g c = λ plain ok.
    let outside : ¬ (IsUtf8 c.args.self.now) = subst (λ bytes. ¬ (IsUtf8 bytes)) c.as_bytes.ensures.bytes c.in-Err.ensures.cases.0 in
    let e : hex_text c.as_bytes-in-Err.result.now ≡ text_or_hex c.args.self.now = ap hex_text c.as_bytes-in-Err.ensures.bytes ∙ sym (hex_shown c.args.self.now outside) in
    subst (λ text. HasWritten g.W.Write.write_str_gives c.args.f.now text c.write.new.self) e (c.write.ensures.writes plain ok)
