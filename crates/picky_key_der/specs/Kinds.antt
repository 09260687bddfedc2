-- What both keys of a pair share, and the tests whether kinds and keys are the same (own).
use Rattle.std.specs.Prelude.{◌&&◌, Bool, true, false}
use Rattle.std.specs.Str.{bytes_eq}
use Rattle.picky_key_der.specs.declared.algorithm.EcCurve.{EcCurve}
use Rattle.picky_key_der.specs.declared.algorithm.EcCurve.TheVariants.{NistP256, NistP384, NistP521}
use Rattle.picky_key_der.specs.declared.algorithm.EdAlgorithm.{EdAlgorithm}
use Rattle.picky_key_der.specs.declared.algorithm.EdAlgorithm.TheVariants.{Ed25519, X25519}
use Rattle.picky_key_der.specs.declared.algorithm.NamedEcCurve.{NamedEcCurve}
use Rattle.picky_key_der.specs.declared.algorithm.NamedEcCurve.TheVariants.{Known, Unsupported}
use Rattle.picky_key_der.specs.declared.kind.PrivateKeyKind.{PrivateKeyKind}
use Rattle.picky_key_der.specs.declared.kind.PrivateKeyKind.TheVariants as private
use Rattle.picky_key_der.specs.declared.public.PublicKeyKind.{PublicKeyKind}
use Rattle.picky_key_der.specs.declared.public.PublicKeyKind.TheVariants as public

-- the kind that a public key shares with its private key
abbrev pub kind_of : PublicKeyKind → PrivateKeyKind
kind_of (public.Rsa modulus exponent) = private.Rsa
kind_of (public.Ec curve point) = private.Ec curve
kind_of (public.Ed algorithm bytes) = private.Ed algorithm

-- whether both are one known curve
abbrev pub same_known : EcCurve → EcCurve → Bool
same_known NistP256 NistP256 = true
same_known NistP384 NistP384 = true
same_known NistP521 NistP521 = true
same_known _ _ = false

-- whether both are one curve; two that aren't known are one where their identifiers are
abbrev pub same_curve : NamedEcCurve → NamedEcCurve → Bool
same_curve (Known a) (Known b) = same_known a b
same_curve (Unsupported a) (Unsupported b) = bytes_eq a b
same_curve _ _ = false

-- whether both are one Edwards algorithm
abbrev pub same_edwards : EdAlgorithm → EdAlgorithm → Bool
same_edwards Ed25519 Ed25519 = true
same_edwards X25519 X25519 = true
same_edwards _ _ = false

-- whether both are one kind
abbrev pub same_kind : PrivateKeyKind → PrivateKeyKind → Bool
same_kind private.Rsa private.Rsa = true
same_kind (private.Ec a) (private.Ec b) = same_curve a b
same_kind (private.Ed a) (private.Ed b) = same_edwards a b
same_kind _ _ = false

-- whether both are one public key, by contents
abbrev pub same_public : PublicKeyKind → PublicKeyKind → Bool
same_public (public.Rsa n e) (public.Rsa m d) = bytes_eq n.0 m.0 && bytes_eq e.0 d.0
same_public (public.Ec curve point) (public.Ec other at) = same_curve curve other && bytes_eq point at
same_public (public.Ed algorithm bytes) (public.Ed other at) = same_edwards algorithm other && bytes_eq bytes at
same_public _ _ = false
