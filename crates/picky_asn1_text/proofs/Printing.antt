-- Which of the two forms is printed.
use Rattle.std.proofs.Common.{◌≡◌, ℕ, List, Bool, true, false, sym, refl, IsUtf8, cond}
use Rattle.std.specs.Str.{is_utf8}
use Rattle.std.proofs.lemmas.Str.{is_utf8-from_IsUtf8, IsUtf8-from_is_utf8}
use Rattle.picky_asn1_tag.specs.Hex.{hex_text}
use Rattle.picky_asn1_text.specs.Print.{text_or_hex}

by_test : (bytes : List ℕ) (b : Bool) → b ≡ is_utf8 bytes → ¬ (IsUtf8 bytes) → cond b bytes (hex_text bytes) ≡ hex_text bytes
by_test bytes true e outside = absurd (outside (IsUtf8-from_is_utf8 bytes (sym e)))
by_test bytes false e outside = refl

pub text_shown : (bytes : List ℕ) → IsUtf8 bytes → text_or_hex bytes ≡ bytes
text_shown bytes u = rw (is_utf8-from_IsUtf8 bytes u) refl

pub hex_shown : (bytes : List ℕ) → ¬ (IsUtf8 bytes) → text_or_hex bytes ≡ hex_text bytes
hex_shown bytes outside = by_test bytes (is_utf8 bytes) refl outside
