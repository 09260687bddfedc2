-- The identifiers that containers know are identifiers, and tell themselves from all others.
use Rattle.std.proofs.Common.{◌≡◌, ℕ, List, [], ◌∷◌, Some, Result, refl, rules, inl, inr}
use Rattle.picky_asn1_oid.specs.Arcs.{IsArcs, contents_of}
use Rattle.picky_der.specs.declared.fault.DerError.{DerError}
use Rattle.picky_der.specs.Form.{IsValue, Writes}
use Rattle.picky_der.specs.laws.Steps.{chosen}
use Rattle.picky_fields.specs.Fields.{Tells, identifier}
use Rattle.picky_fields.specs.Names.{Names}
use Rattle.picky_fields.specs.laws.Identifiers as known
use Rattle.picky_fields.specs.laws.Choice.{LawfulCases, otherwise_lawful}
use Rattle.picky_fields.specs.laws.Optional.{optional_last_lawful}
use Rattle.picky_fields.specs.laws.Plain.{raw_lawful}
use Rattle.picky_x509_algorithms.specs.declared.known_identifier.KnownIdentifier.{KnownIdentifier}
use Rattle.picky_x509_algorithms.specs.declared.known_identifier.KnownIdentifier.TheVariants.{Data, EncryptedData, KeyBag, Pkcs8ShroudedKeyBag, CertBag, CrlBag, SecretBag, SafeContentsBag, X509Certificate, FriendlyName, LocalKeyId, PbeWithShaAnd3KeyTripleDesCbc, PbeWithShaAnd40BitRc2Cbc, Pbkdf2, Pbes2, HmacWithSha1, HmacWithSha224, HmacWithSha256, HmacWithSha384, HmacWithSha512, Aes128Cbc, Aes192Cbc, Aes256Cbc, Sha1, Sha224, Sha256, Sha384, Sha512}
use Rattle.picky_x509_algorithms.specs.Identifiers.{arcs, is_known, first_known, other_algorithm}

pub arcs_are : (known : KnownIdentifier) → IsArcs (arcs known)
unfolding arcs
arcs_are Data = search rules
arcs_are EncryptedData = search rules
arcs_are KeyBag = search rules
arcs_are Pkcs8ShroudedKeyBag = search rules
arcs_are CertBag = search rules
arcs_are CrlBag = search rules
arcs_are SecretBag = search rules
arcs_are SafeContentsBag = search rules
arcs_are X509Certificate = search rules
arcs_are FriendlyName = search rules
arcs_are LocalKeyId = search rules
arcs_are PbeWithShaAnd3KeyTripleDesCbc = search rules
arcs_are PbeWithShaAnd40BitRc2Cbc = search rules
arcs_are Pbkdf2 = search rules
arcs_are Pbes2 = search rules
arcs_are HmacWithSha1 = search rules
arcs_are HmacWithSha224 = search rules
arcs_are HmacWithSha256 = search rules
arcs_are HmacWithSha384 = search rules
arcs_are HmacWithSha512 = search rules
arcs_are Aes128Cbc = search rules
arcs_are Aes192Cbc = search rules
arcs_are Aes256Cbc = search rules
arcs_are Sha1 = search rules
arcs_are Sha224 = search rules
arcs_are Sha256 = search rules
arcs_are Sha384 = search rules
arcs_are Sha512 = search rules

is_it : (id : KnownIdentifier) → known.Known (arcs id) (contents_of (arcs id))
is_it id = record { are_arcs = arcs_are id; contents = refl }

-- of its arcs alone the test of an identifier holds
pub tells : (id : KnownIdentifier) → Tells identifier.in_form (arcs id) (is_known id)
unfolding is_known
tells id = known.known_tells (arcs id) (contents_of (arcs id)) (is_it id)

pub known_writes : (id : KnownIdentifier) (r : Result (Unit {0}) DerError) (old new : List ℕ) → Writes (IsValue (record { 0 = 6 }) (contents_of (arcs id))) ⊥ r old new → Writes (λ s. identifier.Encodes s (arcs id)) ⊥ r old new
known_writes id r old new w = known.known_writes (arcs id) (contents_of (arcs id)) (is_it id) r old new w

module _ {N : Type 0} (id : N → KnownIdentifier) where
  some_is : (m n : N) → Some m ≡ Some n → m ≡ n
  some_is m n e = cc

  -- an identifier with a name is that of the name
  first_alone : (ns : List N) (oid : List ℕ) (n : N) → identifier.in_form oid → first_known id ns oid ≡ Some n → oid ≡ arcs (id n)
  first_alone [] oid n formed e = absurd cc
  first_alone (m ∷ ms) oid n formed e = elim (chosen (is_known (id m) oid) (Some m) (first_known id ms oid) (Some n) e) [
    | inl h ↦
        let same : m ≡ n = some_is m n h.1 in
        rw (← same) ((tells (id m)).alone oid formed h.0)
    | inr h ↦ first_alone ms oid n formed h.1
  ]

  -- names by their identifiers
  pub names_of : (ns : List N) → ((n : N) → first_known id ns (arcs (id n)) ≡ Some n) → Names identifier.in_form (λ n. arcs (id n)) (first_known id ns)
  names_of ns named = record { formed = λ n. arcs_are (id n); named = named; alone = λ oid n formed e. first_alone ns oid n formed e }

pub other_lawful : LawfulCases identifier other_algorithm
unfolding other_algorithm
other_lawful = otherwise_lawful (optional_last_lawful raw_lawful)
