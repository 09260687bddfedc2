-- Private keys in DER: PrivateKeyInfo, also OneAsymmetricKey ::= SEQUENCE { version INTEGER, privateKeyAlgorithm AlgorithmIdentifier, privateKey OCTET STRING, attributes [0] OPTIONAL, publicKey [1] BIT STRING OPTIONAL } (RFC 5208 section 5; RFC 5958 section 2), and what the octets hold: RSAPrivateKey (RFC 8017 appendix A.1.2), ECPrivateKey (RFC 5915 section 3) or CurvePrivateKey (RFC 8410 section 7).
use Rattle.std.specs.Prelude.{◌≡◌, ℕ, ◌==◌, Bool, true, false, if◌then◌else◌, nat_lt, List, [], ◌∷◌, Option, Result, Ok, Err}
use Rattle.picky_der.specs.declared.fault.DerError.{DerError}
use Rattle.picky_der.specs.declared.fault.DerError.TheVariants.{BadValue}
use Rattle.picky_der.specs.Form.{Form}
use Rattle.picky_der.specs.Primitive.{Contents, primitive_form}
use Rattle.picky_fields.specs.declared.algorithm.AlgorithmIdentifier.{AlgorithmIdentifier}
use Rattle.picky_fields.specs.Algorithm.{algorithm}
use Rattle.picky_fields.specs.Fields.{Fields, identifier, integer, octet_string, one, only, optional, ◌and◌, sequence, explicit}
use Rattle.picky_key_der.specs.Public.{whole_bits}

-- ---- the outer value

-- the version of these contents octets: 0, or 1 where there is a public key (RFC 5958 section 2; which of them stands there isn't compared with it)
abbrev pub version_of : List ℕ → Result ℕ DerError
version_of [] = Err BadValue
version_of (b ∷ []) = if nat_lt b 2 then Ok b else Err BadValue
version_of (b ∷ c ∷ bs) = Err BadValue

abbrev pub IsVersion : ℕ → Type 0
IsVersion n = nat_lt n 2 ≡ true

abbrev pub version_contents : Contents ℕ
version_contents = record { in_form = IsVersion; Octets = λ octets n. octets ≡ n ∷ []; octets = λ n. n ∷ []; decode = version_of }

unfoldable pub version : Form ℕ
version = primitive_form (record { 0 = 2 }) version_contents

-- the attributes, kept as the contents of their tag stand
abbrev pub kept_contents : Contents (List ℕ)
kept_contents = record { in_form = λ _. Unit {0}; Octets = λ octets x. octets ≡ x; octets = λ x. x; decode = λ octets. Ok octets }

unfoldable pub attributes : Form (List ℕ)
attributes = primitive_form (record { 0 = 160 }) kept_contents

-- whether the first octet is a count of unused bits from 0 to 7, and 0 where no octet follows (X.690 section 8.6.2)
abbrev pub is_counted : List ℕ → Bool
is_counted [] = false
is_counted (count ∷ []) = count == 0
is_counted (count ∷ b ∷ bs) = nat_lt count 8

-- a BIT STRING as its count and its bits
abbrev pub counted_of : List ℕ → Result (List ℕ) DerError
counted_of octets = if is_counted octets then Ok octets else Err BadValue

abbrev pub counted_contents : Contents (List ℕ)
counted_contents = record { in_form = λ x. is_counted x ≡ true; Octets = λ octets x. octets ≡ x; octets = λ x. x; decode = counted_of }

-- the public key, an implicit BIT STRING
unfoldable pub public_bits : Form (List ℕ)
public_bits = primitive_form (record { 0 = 129 }) counted_contents

abbrev pub InfoValue : Type 0
InfoValue = (((ℕ × AlgorithmIdentifier) × List ℕ) × Option (List ℕ)) × Option (List ℕ)

unfoldable pub info_fields : Fields InfoValue
info_fields = one version and one algorithm and one octet_string and optional attributes and optional public_bits

unfoldable pub private_info : Form InfoValue
private_info = sequence info_fields

-- ---- what the octets hold

abbrev pub NumbersValue : Type 0
NumbersValue = ((List ℕ × List ℕ) × List ℕ) × (((((List ℕ × List ℕ) × List ℕ) × List ℕ) × List ℕ) × List ℕ)

-- version, modulus, public exponent
unfoldable pub public_numbers : Fields ((List ℕ × List ℕ) × List ℕ)
public_numbers = one integer and one integer and one integer

-- private exponent, two primes, two exponents, a coefficient
unfoldable pub private_numbers : Fields (((((List ℕ × List ℕ) × List ℕ) × List ℕ) × List ℕ) × List ℕ)
private_numbers = one integer and one integer and one integer and one integer and one integer and one integer

-- all nine numbers, in order
unfoldable pub rsa_fields : Fields NumbersValue
rsa_fields = public_numbers and private_numbers

unfoldable pub rsa_private : Form NumbersValue
rsa_private = sequence rsa_fields

abbrev pub EcValue : Type 0
EcValue = ((Unit {0} × List ℕ) × Option (List ℕ)) × Option (List ℕ)

abbrev pub is_one : ℕ → Bool
is_one n = n == 1

-- version 1, the number, a curve, a point
unfoldable pub ec_fields : Fields EcValue
ec_fields = only 1 is_one version and one octet_string and optional (explicit 0 identifier) and optional (explicit 1 whole_bits)

unfoldable pub ec_private : Form EcValue
ec_private = sequence ec_fields
