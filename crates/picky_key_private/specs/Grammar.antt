-- Private keys by their grammar: PKCS #8 bytes, what their octets hold, and the key that they are (RFC 5958 section 2; RFC 8017 appendix A.1.2; RFC 5915 section 3; RFC 8410 section 7).
use Rattle.std.specs.Prelude.{◌≡◌, ℕ, List, ◌∷◌, length, Option, Some, None}
use Rattle.picky_fields.specs.Fields.{octet_string}
use Rattle.picky_key_der.specs.declared.algorithm.EdAlgorithm.{EdAlgorithm}
use Rattle.picky_key_der.specs.declared.algorithm.NamedEcCurve.{NamedEcCurve}
use Rattle.picky_key_der.specs.declared.kind.PrivateKeyKind.{PrivateKeyKind}
use Rattle.picky_key_der.specs.declared.kind.PrivateKeyKind.TheVariants.{Rsa, Ec, Ed}
use Rattle.picky_key_der.specs.declared.public.PublicKeyKind.{PublicKeyKind}
use Rattle.picky_key_der.specs.Grammar.{Spelled, IsAlgorithm, HoldsKey}
use Rattle.picky_key_der.specs.Kinds.{kind_of}
use Rattle.picky_key_der.specs.Public.{rsa_key}
use Rattle.picky_key_private.specs.declared.private.PrivateKey.{PrivateKey}
use Rattle.picky_key_private.specs.Forms.{InfoValue, private_info, NumbersValue, rsa_private, EcValue, ec_private}
use Rattle.picky_key_private.specs.Reading.{first_of}

-- the bits are a public key of the kind, where they are there
abbrev pub HoldsPart : PrivateKeyKind → Option (List ℕ) → Option PublicKeyKind → Type 0
HoldsPart kind None part = part ≡ None
HoldsPart kind (Some bits) part = (key : PublicKeyKind) × (kind_of key ≡ kind) × HoldsKey key bits × (part ≡ Some key)

-- the bytes of a BIT STRING without unused bits, where it is there
abbrev pub AreWhole : Option (List ℕ) → Option (List ℕ) → Type 0
AreWhole None bytes = bytes ≡ None
AreWhole (Some bits) bytes = (held : List ℕ) × (bits ≡ 0 ∷ held) × (bytes ≡ Some held)

-- nine numbers, the second and third of which are the public key
pub record HoldsNumbers (octets : List ℕ) (part : Option PublicKeyKind) : Type 0 where
  pub numbers : NumbersValue
  pub inner : Spelled rsa_private octets numbers
  pub part_is : part ≡ Some (rsa_key (numbers.0.0.1, numbers.0.1))

-- a number of a curve; the point beside it is the public key, or else the one after the attributes
pub record HoldsNumber (curve : NamedEcCurve) (octets : List ℕ) (bits : Option (List ℕ)) (part : Option PublicKeyKind) : Type 0 where
  pub number : EcValue
  pub inner : Spelled ec_private octets number
  pub behind : Option (List ℕ)
  pub whole : AreWhole bits behind
  pub first : Option PublicKeyKind
  pub beside : HoldsPart (Ec curve) number.1 first
  pub second : Option PublicKeyKind
  pub after : HoldsPart (Ec curve) behind second
  pub part_is : part ≡ first_of first second

-- the 32 bytes of an Edwards key; the public key is the one after the attributes
pub record HoldsSecret (algorithm : EdAlgorithm) (octets : List ℕ) (bits : Option (List ℕ)) (part : Option PublicKeyKind) : Type 0 where
  pub secret : List ℕ
  pub inner : Spelled octet_string octets secret
  pub size : length secret ≡ 32
  pub behind : Option (List ℕ)
  pub whole : AreWhole bits behind
  pub after : HoldsPart (Ed algorithm) behind part

abbrev pub HoldsPrivate : PrivateKeyKind → List ℕ → Option (List ℕ) → Option PublicKeyKind → Type 0
HoldsPrivate Rsa octets bits part = HoldsNumbers octets part
HoldsPrivate (Ec curve) octets bits part = HoldsNumber curve octets bits part
HoldsPrivate (Ed algorithm) octets bits part = HoldsSecret algorithm octets bits part

-- the bytes are the PKCS #8 of the key
pub record IsPrivateKey (bytes : List ℕ) (key : PrivateKey) : Type 0 where
  pub kept : key.bytes ≡ bytes
  pub info : InfoValue
  pub outer : Spelled private_info bytes info
  pub kind : IsAlgorithm info.0.0.0.1 key.kind
  pub held : HoldsPrivate key.kind info.0.0.1 info.1 key.public_part
