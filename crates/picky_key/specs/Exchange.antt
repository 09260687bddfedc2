-- An ephemeral key with its secret, without where they lie (own).
use Rattle.std.specs.Prelude.{ℕ, List}
use Rattle.picky_key_der.specs.declared.public.PublicKeyKind.{PublicKeyKind}
use Rattle.picky_key.specs.declared.provider.Ephemeral.{Ephemeral}

abbrev pub exchange_of : Ephemeral → PublicKeyKind × List ℕ
exchange_of e = (e.epk, e.secret.items)
