-- What a hasher holds: the message that it has taken in so far (FIPS 180-4, section 6).
use Rattle.std.specs.Prelude.{ℕ, List}
use Rattle.sha1.specs.Sha1 as S1
use Rattle.sha2.specs.Hashers.{Holds224, Holds256, Holds384, Holds512}
use Rattle.picky_kdf.specs.declared.hash.Pkcs12HashAlgorithm.{Pkcs12HashAlgorithm}
use Rattle.picky_kdf.specs.declared.hash.Pkcs12HashAlgorithm.TheVariants.{Sha1, Sha224, Sha256, Sha384, Sha512}
use Rattle.picky_kdf.specs.declared.hash.Hasher.{Hasher}
use Rattle.picky_kdf.specs.declared.hash.Hasher.TheVariants as H

-- the hasher runs this hash function and holds this message
abbrev pub IsHolding : Pkcs12HashAlgorithm → Hasher → List ℕ → Type 0
IsHolding Sha1 (H.Sha1 hasher) message = S1.Holds hasher message
IsHolding Sha224 (H.Sha224 hasher) message = Holds224 hasher message
IsHolding Sha256 (H.Sha256 hasher) message = Holds256 hasher message
IsHolding Sha384 (H.Sha384 hasher) message = Holds384 hasher message
IsHolding Sha512 (H.Sha512 hasher) message = Holds512 hasher message
IsHolding hash hasher message = ⊥
