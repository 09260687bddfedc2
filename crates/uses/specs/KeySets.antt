-- The key of a name in a set (RFC 7517, sections 4.5 and 5).
use Rattle.std.specs.Prelude.{ℕ, Bool, false, List, Option, Some, None}
use Rattle.std.specs.List.{find}
use Rattle.std.specs.Str.{bytes_eq}
use Rattle.picky_key_der.specs.declared.public.PublicKeyKind.{PublicKeyKind}
use Rattle.picky_members.specs.Members.{TextOf}
use Rattle.picky_jwk_key.specs.Public.{KeyOfJwk}
use Rattle.picky_jwk.specs.Jwk.{Jwk, JwkSetOf}

-- whether the text is there, and is this
abbrev pub is_text : List ℕ → Option (List ℕ) → Bool
is_text text None = false
is_text text (Some other) = bytes_eq other text

-- whether this is the name of the key
abbrev pub has_name : List ℕ → Jwk → Bool
has_name name k = is_text name k.kid

-- the public key is that of the key, and there is none where there is no key
abbrev pub IsPublicOf : Option Jwk → Option PublicKeyKind → Type 0
IsPublicOf None None = Unit {0}
IsPublicOf None (Some p) = ⊥
IsPublicOf (Some k) None = ⊥
IsPublicOf (Some k) (Some p) = KeyOfJwk k.key p

-- the text tells a set of keys, and this is the public key of the first that has the name, or none
pub record NamesKey (json name : List ℕ) (p : Option PublicKeyKind) : Type 0 where
  pub keys : List Jwk
  pub told : TextOf JwkSetOf json keys
  pub is : IsPublicOf (find (has_name name) keys) p
