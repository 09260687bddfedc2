-- Public keys by their grammar: the bytes of a SubjectPublicKeyInfo and the key that they hold (RFC 5280 section 4.1.2.7; RFC 8017 appendix A.1; RFC 5480 section 2; RFC 8410 sections 3 and 4).
use Rattle.std.specs.Prelude.{◌≡◌, ℕ, ◌<◌, ◌^◌, true, List, [], length}
use Rattle.picky_asn1_oid.specs.Arcs.{IsArcs}
use Rattle.picky_der.specs.Form.{Form}
use Rattle.picky_fields.specs.declared.algorithm.AlgorithmIdentifier.{AlgorithmIdentifier}
use Rattle.picky_fields.specs.Fields.{identifier, null_or_none}
use Rattle.picky_key_der.specs.declared.algorithm.EcCurve.TheVariants.{NistP256, NistP384, NistP521}
use Rattle.picky_key_der.specs.declared.algorithm.EdAlgorithm.{EdAlgorithm}
use Rattle.picky_key_der.specs.declared.algorithm.EdAlgorithm.TheVariants.{Ed25519, X25519}
use Rattle.picky_key_der.specs.declared.algorithm.NamedEcCurve.{NamedEcCurve}
use Rattle.picky_key_der.specs.declared.algorithm.NamedEcCurve.TheVariants.{Known, Unsupported}
use Rattle.picky_key_der.specs.declared.kind.PrivateKeyKind.{PrivateKeyKind}
use Rattle.picky_key_der.specs.declared.kind.PrivateKeyKind.TheVariants as private
use Rattle.picky_key_der.specs.declared.public.PublicKeyKind.{PublicKeyKind}
use Rattle.picky_key_der.specs.declared.public.PublicKeyKind.TheVariants.{Rsa, Ec, Ed}
use Rattle.picky_key_der.specs.Identifiers.{rsa_encryption, ec_public_key, x25519, ed25519, secp256r1, secp384r1, secp521r1}
use Rattle.picky_key_der.specs.Kinds.{kind_of}
use Rattle.picky_key_der.specs.Public.{information, rsa_public, is_point_of, IsNamed, IsKept, parameters_of}
use Rattle.picky_key_der.specs.Writing.{public_der_of, HasNumbers}

-- all the bytes are a spelling of the value
abbrev pub Spelled : {X : Type 0} → Form X → List ℕ → X → Type 0
Spelled f bytes x = f.in_form x × f.Spells bytes x

-- the identifier of a curve
abbrev pub curve_arcs : NamedEcCurve → List ℕ
curve_arcs (Known NistP256) = secp256r1
curve_arcs (Known NistP384) = secp384r1
curve_arcs (Known NistP521) = secp521r1
curve_arcs (Unsupported oid) = oid

-- the identifier of an Edwards algorithm
abbrev pub edwards_arcs : EdAlgorithm → List ℕ
edwards_arcs Ed25519 = ed25519
edwards_arcs X25519 = x25519

-- The algorithm is that of the kind: rsaEncryption with NULL or absent parameters, id-ecPublicKey with the identifier of the curve, or an Edwards algorithm with none.
abbrev pub IsAlgorithm : AlgorithmIdentifier → PrivateKeyKind → Type 0
IsAlgorithm a private.Rsa = (a.oid ≡ rsa_encryption) × null_or_none.Spells (parameters_of a.parameters) tt
IsAlgorithm a (private.Ec curve) = (a.oid ≡ ec_public_key) × (IsNamed curve × Spelled identifier (parameters_of a.parameters) (curve_arcs curve))
IsAlgorithm a (private.Ed algorithm) = (a.oid ≡ edwards_arcs algorithm) × (parameters_of a.parameters ≡ [])

-- The bits are those of the key: a SEQUENCE of modulus and exponent, a point of the curve, or 32 bytes.
abbrev pub HoldsKey : PublicKeyKind → List ℕ → Type 0
HoldsKey (Rsa modulus exponent) bits = Spelled rsa_public bits (modulus.0, exponent.0)
HoldsKey (Ec curve point) bits = (bits ≡ point) × (is_point_of curve point ≡ true)
HoldsKey (Ed algorithm bytes) bits = (bits ≡ bytes) × (length bytes ≡ 32)

-- the bytes are a SubjectPublicKeyInfo of the key
pub record IsPublicKey (bytes : List ℕ) (key : PublicKeyKind) : Type 0 where
  pub algorithm : AlgorithmIdentifier
  pub bits : List ℕ
  pub outer : Spelled information bytes (algorithm, bits)
  pub kind : IsAlgorithm algorithm (kind_of key)
  pub held : HoldsKey key bits

-- ---- what is written

-- the identifier of a curve that isn't known has arcs
abbrev pub HasArcs : PublicKeyKind → Type 0
HasArcs (Ec (Unsupported oid) point) = IsArcs oid
HasArcs _ = Unit {0}

-- What is written of a key is a SubjectPublicKeyInfo of it, where it fits 2^64 bytes.
abbrev pub WrittenIsKey : Type 0
WrittenIsKey = (key : PublicKeyKind) → IsKept key → HasArcs key → HasNumbers key → length (public_der_of key) < 2 ^ 64 → IsPublicKey (public_der_of key) key
