-- Algorithms of header texts by their names (draft-cavage-http-signatures-12, section 2.1.3 and appendix E.2; own for the other hashes).
use Rattle.std.specs.Prelude.{ℕ, Bool, true, false, if◌then◌else◌, List, [], ◌∷◌, codes, Option, Some, None, option_map, string_bytes}
use Rattle.std.specs.Str.{bytes_eq}
use Rattle.picky_key.specs.declared.algorithm.HashAlgorithm.{HashAlgorithm}
use Rattle.picky_key.specs.declared.algorithm.HashAlgorithm.TheVariants as hash
use Rattle.picky_key.specs.declared.algorithm.SignatureAlgorithm.{SignatureAlgorithm}
use Rattle.picky_key.specs.declared.algorithm.SignatureAlgorithm.TheVariants.{RsaPkcs1v15, Ecdsa, Ed25519}
use Rattle.picky_http.specs.declared.algorithm.HttpSigAlgorithm.{HttpSigAlgorithm}
use Rattle.picky_http.specs.declared.algorithm.HttpSigAlgorithm.TheVariants as of_algorithm

-- an algorithm that is known, or another text
pub data Algorithm : Type 0 where
  known : SignatureAlgorithm → Algorithm
  custom : List ℕ → Algorithm

abbrev pub algorithm_view : HttpSigAlgorithm → Algorithm
algorithm_view (of_algorithm.Known a) = known a
algorithm_view (of_algorithm.Custom text) = custom (string_bytes text)

-- the algorithm of the entry under the text
abbrev pub under : {A : Type 0} → List ℕ → List (List ℕ × A) → Option A
under text [] = None
under text (entry ∷ entries) = if bytes_eq text entry.0 then Some entry.1 else under text entries

-- the hashes of RSASSA-PKCS1-v1_5 by its names
abbrev pub rsa_names : List (List ℕ × HashAlgorithm)
rsa_names =
    (codes "rsa-md5", hash.MD5)
    ∷ (codes "rsa-sha1", hash.SHA1)
    ∷ (codes "rsa-sha224", hash.SHA2_224)
    ∷ (codes "rsa-sha2-224", hash.SHA2_224)
    ∷ (codes "rsa-sha256", hash.SHA2_256)
    ∷ (codes "rsa-sha2-256", hash.SHA2_256)
    ∷ (codes "rsa-sha384", hash.SHA2_384)
    ∷ (codes "rsa-sha2-384", hash.SHA2_384)
    ∷ (codes "rsa-sha512", hash.SHA2_512)
    ∷ (codes "rsa-sha2-512", hash.SHA2_512)
    ∷ (codes "rsa-sha3-384", hash.SHA3_384)
    ∷ (codes "rsa-sha3-512", hash.SHA3_512)
    ∷ []

-- the other algorithms by their names
abbrev pub other_names : List (List ℕ × SignatureAlgorithm)
other_names =
    (codes "ecdsa-sha256", Ecdsa hash.SHA2_256)
    ∷ (codes "ecdsa-sha384", Ecdsa hash.SHA2_384)
    ∷ (codes "ed25519-sha512", Ed25519)
    ∷ []

abbrev pub known_rsa : List ℕ → Option HashAlgorithm
known_rsa text = under text rsa_names

abbrev pub or_else : {A : Type 0} → Option A → Option A → Option A
or_else (Some a) b = Some a
or_else None b = b

-- the algorithm that a text names, where it is known
abbrev pub known_algorithm : List ℕ → Option SignatureAlgorithm
known_algorithm text = or_else (under text other_names) (option_map RsaPkcs1v15 (known_rsa text))

abbrev pub known_or : List ℕ → Option SignatureAlgorithm → Algorithm
known_or text (Some a) = known a
known_or text None = custom text

-- the algorithm that a text names: a known one, or else the text itself
abbrev pub algorithm_named : List ℕ → Algorithm
algorithm_named text = known_or text (known_algorithm text)

-- the name that is written
abbrev pub rsa_name : HashAlgorithm → List ℕ
rsa_name hash.MD5 = codes "rsa-md5"
rsa_name hash.SHA1 = codes "rsa-sha1"
rsa_name hash.SHA2_224 = codes "rsa-sha224"
rsa_name hash.SHA2_256 = codes "rsa-sha256"
rsa_name hash.SHA2_384 = codes "rsa-sha384"
rsa_name hash.SHA2_512 = codes "rsa-sha512"
rsa_name hash.SHA3_384 = codes "rsa-sha3-384"
rsa_name hash.SHA3_512 = codes "rsa-sha3-512"

abbrev pub algorithm_name : SignatureAlgorithm → List ℕ
algorithm_name (RsaPkcs1v15 h) = rsa_name h
algorithm_name (Ecdsa hash.SHA2_256) = codes "ecdsa-sha256"
algorithm_name (Ecdsa hash.SHA2_384) = codes "ecdsa-sha384"
algorithm_name (Ecdsa _) = codes "ECDSA unsupported algorithm"
algorithm_name Ed25519 = codes "ed25519-sha512"

abbrev pub algorithm_text : Algorithm → List ℕ
algorithm_text (known a) = algorithm_name a
algorithm_text (custom text) = text

abbrev pub as_known : Algorithm → Option SignatureAlgorithm
as_known (known a) = Some a
as_known (custom text) = None

abbrev pub is_known : Algorithm → Bool
is_known (known a) = true
is_known (custom text) = false

abbrev pub custom_text : Algorithm → Option (List ℕ)
custom_text (known a) = None
custom_text (custom text) = Some text
