-- How restricted strings print (own).
use Rattle.std.specs.Prelude.{ℕ, List, if◌then◌else◌}
use Rattle.std.specs.Str.{is_utf8}
use Rattle.picky_asn1_tag.specs.Hex.{hex_text}

-- the bytes where they are UTF-8, else `0x` and their hexadecimal digits
abbrev pub text_or_hex : List ℕ → List ℕ
text_or_hex bytes = if is_utf8 bytes then bytes else hex_text bytes
