-- The key of a password (RFC 8018, section 5.2).
use Rattle.std.specs.Prelude.{ℕ, List}
use Rattle.picky_kdf.specs.Pbkdf2.{pbkdf2}
use Rattle.picky_kdf.specs.declared.hash.Pkcs12HashAlgorithm.TheVariants.{Sha256}

-- the 32 bytes that PBKDF2 derives with HMAC by SHA-256, of 600,000 iterations
abbrev pub key_of : List ℕ → List ℕ → List ℕ
key_of password salt = pbkdf2 Sha256 password salt 600000 32
