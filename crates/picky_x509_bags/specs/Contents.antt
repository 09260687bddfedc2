-- Parts of a store: ContentInfo ::= SEQUENCE { contentType OBJECT IDENTIFIER, content [0] EXPLICIT ANY DEFINED BY contentType OPTIONAL } (RFC 2315 section 7), where data is an OCTET STRING of the bags and encryptedData an encrypted part (RFC 7292 section 4.1).
use Rattle.std.specs.Prelude.{ℕ, List, Option, ◌⊎◌}
use Rattle.std.proofs.Common.{◌≡◌, ap, arith, inl, inr}
use Rattle.picky_der.specs.Form.{Form}
use Rattle.picky_der.specs.Raw.{raw_form}
use Rattle.picky_fields.specs.Fields.{Fields, explicit, identifier, one, optional, sequence}
use Rattle.picky_fields.specs.Choice.{Cases, case, otherwise, told_by}
use Rattle.picky_fields.specs.laws.Fields.{Lawful, explicit_lawful, one_lawful, sequence_lawful}
use Rattle.picky_fields.specs.laws.Choice.{LawfulCases, case_lawful, otherwise_lawful, told_lawful}
use Rattle.picky_fields.specs.laws.Optional.{optional_lawful}
use Rattle.picky_fields.specs.laws.Plain.{identifier_lawful, raw_lawful}
use Rattle.picky_asn1_wrapper.specs.Enclosed.{enclosed_form}
use Rattle.picky_asn1_wrapper.specs.laws.Enclosed.{enclosed_readable, enclosed_writable}
use Rattle.picky_x509_algorithms.specs.declared.known_identifier.KnownIdentifier.TheVariants as known
use Rattle.picky_x509_algorithms.specs.Identifiers.{arcs, is_known}
use Rattle.picky_x509_algorithms.specs.laws.Identifiers.{tells}
use Rattle.picky_x509_store.specs.declared.encrypted.EncryptedSafeContents.{EncryptedSafeContents}
use Rattle.picky_x509_store.specs.Encrypted.{encrypted, encrypted_lawful}
use Rattle.picky_x509_bags.specs.declared.contents.SafeContentsInfo.{SafeContentsInfo}
use Rattle.picky_x509_bags.specs.declared.contents.SafeContentsInfo.TheVariants.{Data, EncryptedData, Unknown}

abbrev pub ContentsValue : Type 0 → Type 0
ContentsValue X = X ⊎ (EncryptedSafeContents ⊎ (List ℕ × Option (List ℕ)))

-- a part, where bags are seen as this says
abbrev pub contents_seen : {B X : Type 0} → (B → X) → SafeContentsInfo B → ContentsValue X
contents_seen view (Data bags) = inl (view bags)
contents_seen view (EncryptedData part) = inr (inl part)
contents_seen view (Unknown id content) = inr (inr (id, content))

-- bags in an OCTET STRING
unfoldable pub in_octets : {X : Type 0} → Form X → Form X
in_octets f = enclosed_form (record { 0 = 4 }) f

unfoldable pub contents_cases : {X : Type 0} → Form X → Cases (List ℕ) (ContentsValue X)
contents_cases f =
    case (arcs known.Data) (is_known known.Data) (one (explicit 0 (in_octets f)))
    (case (arcs known.EncryptedData) (is_known known.EncryptedData) (one (explicit 0 encrypted))
    (otherwise (optional (explicit 0 raw_form))))

-- the type of a part, and what stands behind it
unfoldable pub contents_fields : {X : Type 0} → Form X → Fields (ContentsValue X)
contents_fields f = told_by identifier (contents_cases f)

-- the parts whose bags have the form f
unfoldable pub contents : {X : Type 0} → Form X → Form (ContentsValue X)
contents f = sequence (contents_fields f)

-- ---- laws

-- parts that mean the same stand for the same
module _ {B M A : Type 0} (meaning : B → M) (stands_for : B → A) (same : (x y : B) → meaning x ≡ meaning y → stands_for x ≡ stands_for y) where
  pub contents_same : (x y : SafeContentsInfo B) → contents_seen meaning x ≡ contents_seen meaning y → contents_seen stands_for x ≡ contents_seen stands_for y
  contents_same (Data x) (Data y) e = ap (λ (a : A). inl a) (same x y cc)
  contents_same (Data x) (EncryptedData q) e = absurd cc
  contents_same (Data x) (Unknown t c) e = absurd cc
  contents_same (EncryptedData p) (Data y) e = absurd cc
  contents_same (EncryptedData p) (EncryptedData q) e = cc
  contents_same (EncryptedData p) (Unknown t c) e = absurd cc
  contents_same (Unknown s b) (Data y) e = absurd cc
  contents_same (Unknown s b) (EncryptedData q) e = absurd cc
  contents_same (Unknown s b) (Unknown t c) e = cc

pub in_octets_lawful : {X : Type 0} {f : Form X} → Lawful f → Lawful (in_octets f)
unfolding in_octets
in_octets_lawful {f = f} law = record { readable = enclosed_readable f law.readable (record { 0 = 4 }); writable = enclosed_writable f law.writable (record { 0 = 4 }) (λ h. absurd (omega arith)) }

contents_cases_lawful : {X : Type 0} {f : Form X} → Lawful f → LawfulCases identifier (contents_cases f)
unfolding contents_cases
contents_cases_lawful law =
    let bags = one_lawful (explicit_lawful 0 (omega arith) (in_octets_lawful law)) in
    let part = one_lawful (explicit_lawful 0 (omega arith) encrypted_lawful) in
    let other = optional_lawful (explicit_lawful 0 (omega arith) raw_lawful) in
    case_lawful (tells known.Data) bags (case_lawful (tells known.EncryptedData) part (otherwise_lawful other))

pub contents_lawful : {X : Type 0} {f : Form X} → Lawful f → Lawful (contents f)
unfolding contents contents_fields
contents_lawful law = sequence_lawful (told_lawful identifier_lawful (contents_cases_lawful law))
