-- The five hash functions that a PKCS #12 store may name (FIPS 180-4, sections 1 and 6), with their sizes in bytes.
use Rattle.std.specs.Prelude.{ℕ, List}
use Rattle.sha1.specs.Sha1.{sha1}
use Rattle.sha2.specs.Sha256.{sha224, sha256}
use Rattle.sha2.specs.Sha512.{sha384, sha512}
use Rattle.picky_kdf.specs.declared.hash.Pkcs12HashAlgorithm.{Pkcs12HashAlgorithm}
use Rattle.picky_kdf.specs.declared.hash.Pkcs12HashAlgorithm.TheVariants.{Sha1, Sha224, Sha256, Sha384, Sha512}

-- the hash of a message
abbrev pub digest : Pkcs12HashAlgorithm → List ℕ → List ℕ
digest Sha1 message = sha1 message
digest Sha224 message = sha224 message
digest Sha256 message = sha256 message
digest Sha384 message = sha384 message
digest Sha512 message = sha512 message

-- the bytes of a hash
abbrev pub digest_size : Pkcs12HashAlgorithm → ℕ
digest_size Sha1 = 20
digest_size Sha224 = 28
digest_size Sha256 = 32
digest_size Sha384 = 48
digest_size Sha512 = 64

-- the bytes that a hash function takes in at a time
abbrev pub block_size : Pkcs12HashAlgorithm → ℕ
block_size Sha1 = 64
block_size Sha224 = 64
block_size Sha256 = 64
block_size Sha384 = 128
block_size Sha512 = 128
