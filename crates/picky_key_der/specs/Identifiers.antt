-- The identifiers of keys, each with its name in the standard and its contents octets.
--
-- | Name | Arcs | Standard |
-- |---|---|---|
-- | rsaEncryption | 1.2.840.113549.1.1.1 | RFC 8017 appendix A.1 |
-- | id-ecPublicKey | 1.2.840.10045.2.1 | RFC 5480 section 2.1.1 |
-- | id-X25519 | 1.3.101.110 | RFC 8410 section 3 |
-- | id-Ed25519 | 1.3.101.112 | RFC 8410 section 3 |
-- | secp256r1, which is P-256 | 1.2.840.10045.3.1.7 | RFC 5480 section 2.1.1.1 |
-- | secp384r1, which is P-384 | 1.3.132.0.34 | RFC 5480 section 2.1.1.1 |
-- | secp521r1, which is P-521 | 1.3.132.0.35 | RFC 5480 section 2.1.1.1 |
use Rattle.std.specs.Prelude.{ℕ, List, [], ◌∷◌, Option, Some, None, if◌then◌else◌}
use Rattle.std.proofs.Common.{refl, rules}
use Rattle.picky_asn1_oid.specs.Arcs.{continued, base128}
use Rattle.picky_fields.specs.Choice.{has_contents}
use Rattle.picky_fields.specs.laws.Identifiers.{Known}
use Rattle.picky_key_der.specs.declared.algorithm.TheConstants.{RSA_ENCRYPTION, EC_PUBLIC_KEY, X25519_ALGORITHM, ED25519_ALGORITHM, SECP256R1, SECP384R1, SECP521R1}
use Rattle.picky_key_der.specs.declared.algorithm.EcCurve.TheVariants.{NistP256, NistP384, NistP521}
use Rattle.picky_key_der.specs.declared.algorithm.EdAlgorithm.TheVariants.{Ed25519, X25519}
use Rattle.picky_key_der.specs.declared.algorithm.NamedEcCurve.{NamedEcCurve}
use Rattle.picky_key_der.specs.declared.algorithm.NamedEcCurve.TheVariants.{Known as OnKnown, Unsupported}
use Rattle.picky_key_der.specs.declared.algorithm.KeyAlgorithm.{KeyAlgorithm}
use Rattle.picky_key_der.specs.declared.algorithm.KeyAlgorithm.TheVariants.{Rsa, Ec, Ed}

abbrev pub rsa_encryption : List ℕ
rsa_encryption = 1 ∷ 2 ∷ 840 ∷ 113549 ∷ 1 ∷ 1 ∷ 1 ∷ []

abbrev pub ec_public_key : List ℕ
ec_public_key = 1 ∷ 2 ∷ 840 ∷ 10045 ∷ 2 ∷ 1 ∷ []

abbrev pub x25519 : List ℕ
x25519 = 1 ∷ 3 ∷ 101 ∷ 110 ∷ []

abbrev pub ed25519 : List ℕ
ed25519 = 1 ∷ 3 ∷ 101 ∷ 112 ∷ []

abbrev pub secp256r1 : List ℕ
secp256r1 = 1 ∷ 2 ∷ 840 ∷ 10045 ∷ 3 ∷ 1 ∷ 7 ∷ []

abbrev pub secp384r1 : List ℕ
secp384r1 = 1 ∷ 3 ∷ 132 ∷ 0 ∷ 34 ∷ []

abbrev pub secp521r1 : List ℕ
secp521r1 = 1 ∷ 3 ∷ 132 ∷ 0 ∷ 35 ∷ []

-- the algorithm with this identifier
abbrev pub algorithm_of : List ℕ → Option KeyAlgorithm
algorithm_of arcs =
    if has_contents RSA_ENCRYPTION arcs then Some Rsa
    else if has_contents EC_PUBLIC_KEY arcs then Some Ec
    else if has_contents ED25519_ALGORITHM arcs then Some (Ed Ed25519)
    else if has_contents X25519_ALGORITHM arcs then Some (Ed X25519)
    else None

-- the curve with this identifier; any other identifier is kept
abbrev pub curve_of : List ℕ → NamedEcCurve
curve_of arcs =
    if has_contents SECP256R1 arcs then OnKnown NistP256
    else if has_contents SECP384R1 arcs then OnKnown NistP384
    else if has_contents SECP521R1 arcs then OnKnown NistP521
    else Unsupported arcs

-- ---- the constants are these identifiers

pub rsa_known : Known rsa_encryption RSA_ENCRYPTION
unfolding base128 continued
rsa_known = record { are_arcs = search rules; contents = refl }

pub ec_known : Known ec_public_key EC_PUBLIC_KEY
unfolding base128 continued
ec_known = record { are_arcs = search rules; contents = refl }

pub x25519_known : Known x25519 X25519_ALGORITHM
unfolding base128 continued
x25519_known = record { are_arcs = search rules; contents = refl }

pub ed25519_known : Known ed25519 ED25519_ALGORITHM
unfolding base128 continued
ed25519_known = record { are_arcs = search rules; contents = refl }

pub secp256r1_known : Known secp256r1 SECP256R1
unfolding base128 continued
secp256r1_known = record { are_arcs = search rules; contents = refl }

pub secp384r1_known : Known secp384r1 SECP384R1
unfolding base128 continued
secp384r1_known = record { are_arcs = search rules; contents = refl }

pub secp521r1_known : Known secp521r1 SECP521R1
unfolding base128 continued
secp521r1_known = record { are_arcs = search rules; contents = refl }
