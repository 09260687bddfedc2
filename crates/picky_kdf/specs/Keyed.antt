-- What the two hashers of HMAC hold under a key: the key's padded blocks (RFC 2104, section 4).
use Rattle.std.specs.Prelude.{ℕ, List}
use Rattle.picky_kdf.specs.Hasher.{IsHolding}
use Rattle.picky_kdf.specs.Hmac.{padded_key}
use Rattle.picky_kdf.specs.declared.hash.Pkcs12HashAlgorithm.{Pkcs12HashAlgorithm}
use Rattle.picky_kdf.specs.declared.mac.KeyedHashers.{KeyedHashers}

-- the inner hasher holds K xor ipad, and the outer one K xor opad
pub record IsKeyed (hash : Pkcs12HashAlgorithm) (hashers : KeyedHashers) (key : List ℕ) : Type 0 where
  pub inner : IsHolding hash hashers.inner (padded_key hash 0x36 key)
  pub outer : IsHolding hash hashers.outer (padded_key hash 0x5C key)
