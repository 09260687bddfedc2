-- Public parts of private keys (own).
use Rattle.std.specs.Prelude.{Bool, true, false, not, Option, Some, None}
use Rattle.picky_key_der.specs.declared.kind.PrivateKeyKind.{PrivateKeyKind}
use Rattle.picky_key_der.specs.declared.kind.PrivateKeyKind.TheVariants as private
use Rattle.picky_key_der.specs.declared.public.PublicKeyKind.{PublicKeyKind}
use Rattle.picky_key_der.specs.Kinds.{kind_of, same_kind, same_public}

-- the part is of the kind, and an RSA key has one
abbrev pub part_fits : PrivateKeyKind → Option PublicKeyKind → Bool
part_fits kind None = not (same_kind kind private.Rsa)
part_fits kind (Some part) = same_kind (kind_of part) kind

-- whether both parts are one public key, or neither is there
abbrev pub same_part : Option PublicKeyKind → Option PublicKeyKind → Bool
same_part None None = true
same_part (Some a) (Some b) = same_public a b
same_part _ _ = false
