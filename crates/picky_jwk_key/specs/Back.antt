-- Public keys that come back from what is written of them (RFC 7518 section 6; RFC 8037 section 2).
use Rattle.std.specs.Prelude.{◌≡◌}
use Rattle.picky_base64.specs.Base64.{AreBytes}
use Rattle.picky_key_der.specs.declared.public.PublicKeyKind.{PublicKeyKind}
use Rattle.picky_key_der.specs.declared.public.PublicKeyKind.TheVariants.{Rsa, Ec, Ed}
use Rattle.picky_key_der.specs.Ecdsa.{IsNumber}
use Rattle.picky_key_der.specs.Public.{IsKept}
use Rattle.picky_jwk_key.specs.Keys.{Key}
use Rattle.picky_jwk_key.specs.Public.{KeyOfJwk}
use Rattle.picky_jwk_key.specs.Refusals.{jwk_table}

-- RSA numbers are at least zero and in their shortest spelling, and all parts are bytes
abbrev pub IsSound : PublicKeyKind → Type 0
IsSound (Rsa n e) = (AreBytes n.0 × IsNumber n.0) × (AreBytes e.0 × IsNumber e.0)
IsSound (Ec curve point) = AreBytes point
IsSound (Ed algorithm bytes) = AreBytes bytes

-- what is written of a public key tells that public key, and no other
abbrev pub ComeBack : Type 0
ComeBack = (p : PublicKeyKind) (k : Key) → IsKept p → IsSound p → (jwk_table p).holds k → KeyOfJwk k p × ((q : PublicKeyKind) → KeyOfJwk k q → q ≡ p)
