-- Whether two private keys are the same (own).
use Rattle.std.specs.Prelude.{◌&&◌, Bool}
use Rattle.std.specs.Str.{bytes_eq}
use Rattle.picky_key_der.specs.Kinds.{same_kind}
use Rattle.picky_key_private.specs.declared.private.PrivateKey.{PrivateKey}
use Rattle.picky_key_private.specs.Parts.{same_part}

-- whether both are one key, by contents
abbrev pub same_private : PrivateKey → PrivateKey → Bool
same_private a b = bytes_eq a.bytes b.bytes && (same_kind a.kind b.kind && same_part a.public_part b.public_part)
