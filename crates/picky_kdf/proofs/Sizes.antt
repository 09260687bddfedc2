-- The sizes of hashes and blocks are bounded, and a hash is shorter than a block.
use Rattle.std.proofs.Common.{◌<◌, ◌≤◌, arith}
use Rattle.picky_kdf.specs.Hash.{block_size, digest_size}
use Rattle.picky_kdf.specs.declared.hash.Pkcs12HashAlgorithm.{Pkcs12HashAlgorithm}
use Rattle.picky_kdf.specs.declared.hash.Pkcs12HashAlgorithm.TheVariants.{Sha1, Sha224, Sha256, Sha384, Sha512}

pub block_size-le : (hash : Pkcs12HashAlgorithm) → block_size hash ≤ 128
block_size-le Sha1 = omega arith
block_size-le Sha224 = omega arith
block_size-le Sha256 = omega arith
block_size-le Sha384 = omega arith
block_size-le Sha512 = omega arith

pub block_size-ge : (hash : Pkcs12HashAlgorithm) → 64 ≤ block_size hash
block_size-ge Sha1 = omega arith
block_size-ge Sha224 = omega arith
block_size-ge Sha256 = omega arith
block_size-ge Sha384 = omega arith
block_size-ge Sha512 = omega arith

pub digest_size-lt : (hash : Pkcs12HashAlgorithm) → digest_size hash < block_size hash
digest_size-lt Sha1 = omega arith
digest_size-lt Sha224 = omega arith
digest_size-lt Sha256 = omega arith
digest_size-lt Sha384 = omega arith
digest_size-lt Sha512 = omega arith

pub digest_size-le : (hash : Pkcs12HashAlgorithm) → digest_size hash ≤ 64
digest_size-le Sha1 = omega arith
digest_size-le Sha224 = omega arith
digest_size-le Sha256 = omega arith
digest_size-le Sha384 = omega arith
digest_size-le Sha512 = omega arith

pub digest_size-ge : (hash : Pkcs12HashAlgorithm) → 20 ≤ digest_size hash
digest_size-ge Sha1 = omega arith
digest_size-ge Sha224 = omega arith
digest_size-ge Sha256 = omega arith
digest_size-ge Sha384 = omega arith
digest_size-ge Sha512 = omega arith
