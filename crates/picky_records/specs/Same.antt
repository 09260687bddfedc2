-- Whether schemes and algorithms are the same (own).
use Rattle.std.specs.Prelude.{◌==◌, ℕ, Bool, true, false}
use Rattle.picky_key.specs.declared.algorithm.HashAlgorithm.{HashAlgorithm}
use Rattle.picky_key.specs.declared.algorithm.HashAlgorithm.TheVariants as hash
use Rattle.picky_key.specs.declared.algorithm.SignatureAlgorithm.{SignatureAlgorithm}
use Rattle.picky_key.specs.declared.algorithm.SignatureAlgorithm.TheVariants as algorithm
use Rattle.picky_key.specs.declared.provider.WrapScheme.{WrapScheme}
use Rattle.picky_key.specs.declared.provider.WrapScheme.TheVariants as scheme

-- a number for each scheme, and for each hash
abbrev pub scheme_number : WrapScheme → ℕ
scheme_number scheme.RsaPkcs1v15 = 1
scheme_number scheme.RsaOaep = 2
scheme_number scheme.RsaOaep256 = 3

abbrev pub hash_number : HashAlgorithm → ℕ
hash_number hash.MD5 = 1
hash_number hash.SHA1 = 2
hash_number hash.SHA2_224 = 3
hash_number hash.SHA2_256 = 4
hash_number hash.SHA2_384 = 5
hash_number hash.SHA2_512 = 6
hash_number hash.SHA3_384 = 7
hash_number hash.SHA3_512 = 8

-- whether both are one
abbrev pub same_scheme : WrapScheme → WrapScheme → Bool
same_scheme a b = scheme_number a == scheme_number b

abbrev pub same_algorithm : SignatureAlgorithm → SignatureAlgorithm → Bool
same_algorithm (algorithm.RsaPkcs1v15 a) (algorithm.RsaPkcs1v15 b) = hash_number a == hash_number b
same_algorithm (algorithm.Ecdsa a) (algorithm.Ecdsa b) = hash_number a == hash_number b
same_algorithm algorithm.Ed25519 algorithm.Ed25519 = true
same_algorithm _ _ = false
