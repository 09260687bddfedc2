-- Public keys: SubjectPublicKeyInfo ::= SEQUENCE { algorithm AlgorithmIdentifier, subjectPublicKey BIT STRING } (RFC 5280 section 4.1.2.7), and what the bits hold: RSAPublicKey ::= SEQUENCE { modulus INTEGER, publicExponent INTEGER } (RFC 8017 appendix A.1.1), a point (RFC 5480 section 2.2) or the bytes of an Edwards curve key (RFC 8410 section 4).
use Rattle.std.specs.Prelude.{◌≡◌, ℕ, ◌*◌, ◌==◌, ◌&&◌, ◌||◌, Bool, true, false, List, [], ◌∷◌, length, Option, Some, None}
use Rattle.picky_contract.specs.Refusals.{Table, the, need, done, ◌>>=◌}
use Rattle.picky_der.specs.Form.{Form, whole}
use Rattle.picky_der.specs.Primitive.{Contents, primitive_form}
use Rattle.picky_der.specs.Reading.{whole_bytes, end_at}
use Rattle.picky_fields.specs.declared.algorithm.AlgorithmIdentifier.{AlgorithmIdentifier}
use Rattle.picky_fields.specs.Algorithm.{algorithm}
use Rattle.picky_fields.specs.Fields.{identifier, integer, one, ◌and◌, sequence, null_or_none}
use Rattle.picky_key_der.specs.declared.algorithm.EcCurve.{EcCurve}
use Rattle.picky_key_der.specs.declared.algorithm.EcCurve.TheVariants.{NistP256, NistP384, NistP521}
use Rattle.picky_key_der.specs.declared.algorithm.EdAlgorithm.{EdAlgorithm}
use Rattle.picky_key_der.specs.declared.algorithm.EdAlgorithm.TheVariants.{Ed25519, X25519}
use Rattle.picky_key_der.specs.declared.algorithm.KeyFamily.{KeyFamily}
use Rattle.picky_key_der.specs.declared.algorithm.KeyFamily.TheVariants as families
use Rattle.picky_key_der.specs.declared.algorithm.NamedEcCurve.{NamedEcCurve}
use Rattle.picky_key_der.specs.declared.algorithm.NamedEcCurve.TheVariants.{Known, Unsupported}
use Rattle.picky_key_der.specs.declared.algorithm.KeyAlgorithm.{KeyAlgorithm}
use Rattle.picky_key_der.specs.declared.algorithm.KeyAlgorithm.TheVariants as keys
use Rattle.picky_key_der.specs.declared.error.KeyError.{KeyError}
use Rattle.picky_key_der.specs.declared.error.KeyError.TheVariants.{UnsupportedAlgorithm, BadSize, BadPoint}
use Rattle.picky_key_der.specs.declared.kind.PrivateKeyKind.{PrivateKeyKind}
use Rattle.picky_key_der.specs.declared.kind.PrivateKeyKind.TheVariants as private
use Rattle.picky_key_der.specs.declared.public.PublicKeyKind.{PublicKeyKind}
use Rattle.picky_key_der.specs.declared.public.PublicKeyKind.TheVariants.{Rsa, Ec, Ed}
use Rattle.picky_key_der.specs.Errors.{read}
use Rattle.picky_key_der.specs.Identifiers.{algorithm_of, curve_of}

-- ---- the outer value

-- the bytes of a BIT STRING whose count of unused bits is 0 (X.690 section 8.6.2)
abbrev pub bits_contents : Contents (List ℕ)
bits_contents = record { in_form = λ _. Unit {0}; Octets = λ octets x. octets ≡ 0 ∷ x; octets = λ x. 0 ∷ x; decode = whole_bytes }

unfoldable pub whole_bits : Form (List ℕ)
whole_bits = primitive_form (record { 0 = 3 }) bits_contents

abbrev pub InformationValue : Type 0
InformationValue = AlgorithmIdentifier × List ℕ

unfoldable pub information : Form InformationValue
information = sequence (one algorithm and one whole_bits)

-- modulus and exponent
unfoldable pub rsa_public : Form (List ℕ × List ℕ)
rsa_public = sequence (one integer and one integer)

-- ---- what is kept

-- the size of the field of a curve in bytes (FIPS 186-5; SP 800-186 section 3.2.1)
abbrev pub field_size : EcCurve → ℕ
field_size NistP256 = 32
field_size NistP384 = 48
field_size NistP521 = 66

-- 04 and two, or 02 or 03 and one, field sizes (SEC 1 section 2.3.3)
abbrev pub is_point : ℕ → List ℕ → Bool
is_point field [] = false
is_point field (b ∷ bs) = (b == 4 && length bs == 2 * field) || ((b == 2 || b == 3) && length bs == field)

-- the same of a known curve; any bytes of another
abbrev pub is_point_of : NamedEcCurve → List ℕ → Bool
is_point_of (Known curve) point = is_point (field_size curve) point
is_point_of (Unsupported oid) point = true

-- a known curve, or an identifier of none of them
abbrev pub IsNamed : NamedEcCurve → Type 0
IsNamed (Known curve) = Unit {0}
IsNamed (Unsupported oid) = curve_of oid ≡ Unsupported oid

-- the curve of a kind, where it has one, is so named
abbrev pub HasName : PrivateKeyKind → Type 0
HasName private.Rsa = Unit {0}
HasName (private.Ec curve) = IsNamed curve
HasName (private.Ed _) = Unit {0}

-- the point is one of its curve, or there are 32 bytes
abbrev pub IsKept : PublicKeyKind → Type 0
IsKept (Rsa _ _) = Unit {0}
IsKept (Ec curve point) = IsNamed curve × (is_point_of curve point ≡ true)
IsKept (Ed _ bytes) = length bytes ≡ 32

-- the family of a key
abbrev pub family_of : PublicKeyKind → KeyFamily
family_of (Rsa _ _) = families.Rsa
family_of (Ec _ _) = families.Ec
family_of (Ed Ed25519 _) = families.Ed25519
family_of (Ed X25519 _) = families.X25519

-- ---- reading, and the refusals in their order

-- the bytes of the parameters, none where there are none
abbrev pub parameters_of : Option (List ℕ) → List ℕ
parameters_of None = []
parameters_of (Some p) = p

-- the parameters are NULL or absent
unfoldable pub rsa_kind_table : List ℕ → Table PrivateKeyKind KeyError
rsa_kind_table parameters = do
  null ← read (whole null_or_none.reading parameters)
  done private.Rsa

-- the parameters are the identifier of a curve
unfoldable pub ec_kind_table : List ℕ → Table PrivateKeyKind KeyError
ec_kind_table parameters = do
  oid ← read (whole identifier.reading parameters)
  done (private.Ec (curve_of oid))

-- there are no parameters
unfoldable pub ed_kind_table : EdAlgorithm → List ℕ → Table PrivateKeyKind KeyError
ed_kind_table ed parameters = do
  absent ← read (end_at parameters)
  done (private.Ed ed)

abbrev pub told_table : KeyAlgorithm → List ℕ → Table PrivateKeyKind KeyError
told_table keys.Rsa parameters = rsa_kind_table parameters
told_table keys.Ec parameters = ec_kind_table parameters
told_table (keys.Ed ed) parameters = ed_kind_table ed parameters

-- what an algorithm and its parameters say of a key
unfoldable pub kind_table : AlgorithmIdentifier → Table PrivateKeyKind KeyError
kind_table algorithm = do
  told ← the (λ a. algorithm_of algorithm.oid ≡ Some a) (UnsupportedAlgorithm algorithm.oid)
  told_table told (parameters_of algorithm.parameters)

abbrev pub rsa_key : List ℕ × List ℕ → PublicKeyKind
rsa_key pair = Rsa (record { 0 = pair.0 }) (record { 0 = pair.1 })

-- the bits hold modulus and exponent
unfoldable pub rsa_held_table : List ℕ → Table PublicKeyKind KeyError
rsa_held_table bits = do
  pair ← read (whole rsa_public.reading bits)
  done (rsa_key pair)

-- the bits are a point of the curve
unfoldable pub point_table : NamedEcCurve → List ℕ → Table PublicKeyKind KeyError
point_table curve bits = do
  fits ← need (is_point_of curve bits ≡ true) BadPoint
  done (Ec curve bits)

-- there are 32 bytes
unfoldable pub ed_held_table : EdAlgorithm → List ℕ → Table PublicKeyKind KeyError
ed_held_table ed bits = do
  fits ← need (length bits ≡ 32) (BadSize 32 (length bits))
  done (Ed ed bits)

-- what the bits of a public key of a kind say
abbrev pub held_table : PrivateKeyKind → List ℕ → Table PublicKeyKind KeyError
held_table private.Rsa bits = rsa_held_table bits
held_table (private.Ec curve) bits = point_table curve bits
held_table (private.Ed ed) bits = ed_held_table ed bits

unfoldable pub public_table : List ℕ → Table PublicKeyKind KeyError
public_table bytes = do
  outer ← read (whole information.reading bytes)
  kind ← kind_table outer.0
  held_table kind outer.1
