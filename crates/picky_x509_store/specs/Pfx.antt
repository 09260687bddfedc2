-- A store: PFX ::= SEQUENCE { version INTEGER, authSafe ContentInfo, macData MacData OPTIONAL } (RFC 7292 section 4), ContentInfo ::= SEQUENCE { contentType OBJECT IDENTIFIER, content [0] EXPLICIT ANY DEFINED BY contentType OPTIONAL } (RFC 2315 section 7); the content of data is an OCTET STRING, and stands there.
use Rattle.std.specs.Prelude.{ℕ, ◌^◌, List, Option, ◌⊎◌}
use Rattle.std.proofs.Common.{◌≡◌, refl, arith, inl, inr}
use Rattle.picky_der.specs.Form.{Form}
use Rattle.picky_der.specs.Raw.{raw_form}
use Rattle.picky_fields.specs.Fields.{Fields, natural, identifier, octet_string, explicit, one, optional, ◌and◌, seen, sequence}
use Rattle.picky_fields.specs.Choice.{Cases, case, otherwise, told_by}
use Rattle.picky_fields.specs.laws.Fields.{Lawful, one_lawful, and_lawful, one_to_one, seen_lawful, sequence_lawful, explicit_lawful}
use Rattle.picky_fields.specs.laws.Choice.{LawfulCases, case_lawful, otherwise_lawful, told_lawful}
use Rattle.picky_fields.specs.laws.Optional.{optional_lawful}
use Rattle.picky_fields.specs.laws.Plain.{natural_lawful, identifier_lawful, octets_lawful, raw_lawful}
use Rattle.picky_x509_algorithms.specs.declared.known_identifier.KnownIdentifier.TheVariants as known
use Rattle.picky_x509_algorithms.specs.Identifiers.{arcs, is_known}
use Rattle.picky_x509_algorithms.specs.laws.Identifiers.{tells}
use Rattle.picky_x509_store.specs.declared.mac.MacData.{MacData}
use Rattle.picky_x509_store.specs.declared.pfx.RawPfx.{RawPfx}
use Rattle.picky_x509_store.specs.declared.pfx.RawAuthenticatedSafe.{RawAuthenticatedSafe}
use Rattle.picky_x509_store.specs.declared.pfx.RawAuthenticatedSafe.TheVariants.{Data, Unknown}
use Rattle.picky_x509_store.specs.Mac.{mac_data, mac_data_lawful}

abbrev pub SafeValue : Type 0
SafeValue = List ℕ ⊎ (List ℕ × Option (List ℕ))

abbrev pub safe_of : SafeValue → RawAuthenticatedSafe
safe_of (inl octets) = Data octets
safe_of (inr p) = Unknown p.0 p.1

abbrev pub safe_parts : RawAuthenticatedSafe → SafeValue
safe_parts (Data octets) = inl octets
safe_parts (Unknown t c) = inr (t, c)

unfoldable pub safe_cases : Cases (List ℕ) SafeValue
safe_cases = case (arcs known.Data) (is_known known.Data) (one (explicit 0 octet_string)) (otherwise (optional (explicit 0 raw_form)))

unfoldable pub safe_fields : Fields RawAuthenticatedSafe
safe_fields = seen safe_of safe_parts (told_by identifier safe_cases)

unfoldable pub safe : Form RawAuthenticatedSafe
safe = sequence safe_fields

abbrev pub pfx_of : (ℕ × RawAuthenticatedSafe) × Option MacData → RawPfx
pfx_of x = record { version = x.0.0; auth_safe = x.0.1; mac_data = x.1 }

abbrev pub pfx_parts : RawPfx → (ℕ × RawAuthenticatedSafe) × Option MacData
pfx_parts p = ((p.version, p.auth_safe), p.mac_data)

-- a version: an INTEGER of 8 bits without a sign
unfoldable pub version : Form ℕ
version = natural (2 ^ 8)

unfoldable pub pfx_fields : Fields RawPfx
pfx_fields = seen pfx_of pfx_parts (one version and one safe and optional mac_data)

unfoldable pub pfx : Form RawPfx
pfx = sequence pfx_fields

-- ---- laws

safe_back : (s : RawAuthenticatedSafe) → safe_of (safe_parts s) ≡ s
safe_back (Data octets) = refl
safe_back (Unknown t c) = refl

safe_forth : (x : SafeValue) → safe_parts (safe_of x) ≡ x
safe_forth (inl octets) = refl
safe_forth (inr p) = refl

safe_cases_lawful : LawfulCases identifier safe_cases
unfolding safe_cases
safe_cases_lawful =
    let octets = one_lawful (explicit_lawful 0 (omega arith) octets_lawful) in
    let other = optional_lawful (explicit_lawful 0 (omega arith) raw_lawful) in
    case_lawful (tells known.Data) octets (otherwise_lawful other)

pub safe_lawful : Lawful safe
unfolding safe safe_fields
safe_lawful = sequence_lawful (seen_lawful (one_to_one {to = safe_of} {from = safe_parts} safe_back safe_forth) (told_lawful identifier_lawful safe_cases_lawful))

version_lawful : Lawful version
unfolding version
version_lawful = natural_lawful (2 ^ 8) (omega arith)

pub pfx_lawful : Lawful pfx
unfolding pfx pfx_fields
pfx_lawful =
    let front = and_lawful (λ _ _. refl) (one_lawful version_lawful) (one_lawful safe_lawful) in
    sequence_lawful (seen_lawful (one_to_one {to = pfx_of} {from = pfx_parts} (λ _. refl) (λ _. refl)) (and_lawful (λ _ _. refl) front (optional_lawful mac_data_lawful)))
