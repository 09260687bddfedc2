-- Algorithms by their words in a records document and in what the program prints (own).
use Rattle.std.specs.Prelude.{ℕ, List, ◌++◌, codes}
use Rattle.picky_key.specs.declared.algorithm.HashAlgorithm.{HashAlgorithm}
use Rattle.picky_key.specs.declared.algorithm.HashAlgorithm.TheVariants as hash
use Rattle.picky_key.specs.declared.algorithm.SignatureAlgorithm.{SignatureAlgorithm}
use Rattle.picky_key.specs.declared.algorithm.SignatureAlgorithm.TheVariants.{RsaPkcs1v15, Ecdsa, Ed25519}

abbrev pub hash_word : HashAlgorithm → List ℕ
hash_word hash.MD5 = codes "md5"
hash_word hash.SHA1 = codes "sha1"
hash_word hash.SHA2_224 = codes "sha224"
hash_word hash.SHA2_256 = codes "sha256"
hash_word hash.SHA2_384 = codes "sha384"
hash_word hash.SHA2_512 = codes "sha512"
hash_word hash.SHA3_384 = codes "sha3-384"
hash_word hash.SHA3_512 = codes "sha3-512"

abbrev pub algorithm_word : SignatureAlgorithm → List ℕ
algorithm_word (RsaPkcs1v15 h) = codes "rsa-" ++ hash_word h
algorithm_word (Ecdsa h) = codes "ecdsa-" ++ hash_word h
algorithm_word Ed25519 = codes "ed25519-sha512"
