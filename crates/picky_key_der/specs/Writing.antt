-- The encoding of public keys: SubjectPublicKeyInfo (RFC 5280 section 4.1.2.7; RFC 8017 appendix A.1; RFC 5480 section 2; RFC 8410 section 4), and keys made of the coordinates of a point (SEC 1 section 2.3.3).
use Rattle.std.specs.Prelude.{◌≤◌, ℕ, List, [], ◌∷◌, ◌++◌, length}
use Rattle.picky_asn1_bits.specs.Integer.{IsShortest}
use Rattle.picky_asn1_oid.specs.Arcs.{contents_of}
use Rattle.picky_contract.specs.Refusals.{Table, need, done, ◌>>=◌}
use Rattle.picky_der.specs.Length.{value_of, without_zeros}
use Rattle.picky_der.specs.declared.fault.DerError.TheVariants.{BadValue}
use Rattle.picky_key_der.specs.declared.algorithm.TheConstants.{RSA_ENCRYPTION, EC_PUBLIC_KEY, X25519_ALGORITHM, ED25519_ALGORITHM, SECP256R1, SECP384R1, SECP521R1}
use Rattle.picky_key_der.specs.declared.algorithm.EcCurve.{EcCurve}
use Rattle.picky_key_der.specs.declared.algorithm.EcCurve.TheVariants.{NistP256, NistP384, NistP521}
use Rattle.picky_key_der.specs.declared.algorithm.EdAlgorithm.{EdAlgorithm}
use Rattle.picky_key_der.specs.declared.algorithm.EdAlgorithm.TheVariants.{Ed25519, X25519}
use Rattle.picky_key_der.specs.declared.algorithm.NamedEcCurve.{NamedEcCurve}
use Rattle.picky_key_der.specs.declared.algorithm.NamedEcCurve.TheVariants.{Known, Unsupported}
use Rattle.picky_key_der.specs.declared.error.KeyError.{KeyError}
use Rattle.picky_key_der.specs.declared.error.KeyError.TheVariants.{Der, BadSize}
use Rattle.picky_key_der.specs.declared.public.PublicKeyKind.{PublicKeyKind}
use Rattle.picky_key_der.specs.declared.public.PublicKeyKind.TheVariants.{Rsa, Ec, Ed}
use Rattle.picky_key_der.specs.Ecdsa.{padded}
use Rattle.picky_key_der.specs.Public.{field_size}

-- the contents octets of a curve's identifier
abbrev pub curve_contents : NamedEcCurve → List ℕ
curve_contents (Known NistP256) = SECP256R1
curve_contents (Known NistP384) = SECP384R1
curve_contents (Known NistP521) = SECP521R1
curve_contents (Unsupported oid) = contents_of oid

-- the contents octets of an Edwards algorithm's identifier
abbrev pub ed_contents : EdAlgorithm → List ℕ
ed_contents Ed25519 = ED25519_ALGORITHM
ed_contents X25519 = X25519_ALGORITHM

-- SEQUENCE { SEQUENCE { identifier, parameters }, BIT STRING }
abbrev pub information_der : List ℕ → List ℕ → List ℕ → List ℕ
information_der oid parameters bits = value_of 48 (value_of 48 (value_of 6 oid ++ parameters) ++ value_of 3 (0 ∷ bits))

-- an INTEGER in its shortest spelling
unfoldable pub integer_table : List ℕ → Table (List ℕ) KeyError
integer_table octets = do
  shortest ← need (IsShortest octets) (Der BadValue)
  done (value_of 2 octets)

-- SEQUENCE { modulus INTEGER, publicExponent INTEGER }
unfoldable pub rsa_bits_table : List ℕ → List ℕ → Table (List ℕ) KeyError
rsa_bits_table modulus exponent = do
  n ← integer_table modulus
  e ← integer_table exponent
  done (value_of 48 (n ++ e))

unfoldable pub rsa_der_table : List ℕ → List ℕ → Table (List ℕ) KeyError
rsa_der_table modulus exponent = do
  bits ← rsa_bits_table modulus exponent
  done (information_der RSA_ENCRYPTION (value_of 5 []) bits)

-- the encoding of a key; a number of an RSA key that isn't in its shortest spelling has none
abbrev pub public_der_table : PublicKeyKind → Table (List ℕ) KeyError
public_der_table (Rsa modulus exponent) = rsa_der_table modulus.0 exponent.0
public_der_table (Ec curve point) = done (information_der EC_PUBLIC_KEY (value_of 6 (curve_contents curve)) point)
public_der_table (Ed algorithm bytes) = done (information_der (ed_contents algorithm) [] bytes)

-- a coordinate: its number fits the field
unfoldable pub coordinate_table : ℕ → List ℕ → Table (List ℕ) KeyError
coordinate_table size bytes = do
  fits ← need (length (without_zeros bytes) ≤ size) (BadSize size (length (without_zeros bytes)))
  done (padded size (without_zeros bytes))

-- the key with the point of these coordinates, x looked at first
unfoldable pub components_table : EcCurve → List ℕ → List ℕ → Table PublicKeyKind KeyError
components_table curve x y = do
  first ← coordinate_table (field_size curve) x
  second ← coordinate_table (field_size curve) y
  done (Ec (Known curve) (4 ∷ first ++ second))

-- ---- what is written

-- the numbers of an RSA key are in their shortest spellings
abbrev pub HasNumbers : PublicKeyKind → Type 0
HasNumbers (Rsa modulus exponent) = IsShortest modulus.0 × IsShortest exponent.0
HasNumbers (Ec curve point) = Unit {0}
HasNumbers (Ed algorithm bytes) = Unit {0}

abbrev pub rsa_bits_of : List ℕ → List ℕ → List ℕ
rsa_bits_of modulus exponent = value_of 48 (value_of 2 modulus ++ value_of 2 exponent)

-- the encoding of a key
abbrev pub public_der_of : PublicKeyKind → List ℕ
public_der_of (Rsa modulus exponent) = information_der RSA_ENCRYPTION (value_of 5 []) (rsa_bits_of modulus.0 exponent.0)
public_der_of (Ec curve point) = information_der EC_PUBLIC_KEY (value_of 6 (curve_contents curve)) point
public_der_of (Ed algorithm bytes) = information_der (ed_contents algorithm) [] bytes

-- the number of big-endian bytes needs no more bytes than the field
abbrev pub FitsField : EcCurve → List ℕ → Type 0
FitsField curve bytes = length (without_zeros bytes) ≤ field_size curve

-- the key with the uncompressed point of these coordinates
abbrev pub of_coordinates : EcCurve → List ℕ → List ℕ → PublicKeyKind
of_coordinates curve x y = Ec (Known curve) (4 ∷ padded (field_size curve) (without_zeros x) ++ padded (field_size curve) (without_zeros y))
