-- What a bag holds: a value behind the identifier of its kind, in an explicit tag 0 (RFC 7292 sections 4.2.1 to 4.2.6).
use Rattle.std.specs.Prelude.{ℕ, List, ◌⊎◌}
use Rattle.std.proofs.Common.{inl, inr}
use Rattle.picky_der.specs.Form.{Form}
use Rattle.picky_der.specs.Raw.{raw_form}
use Rattle.picky_fields.specs.Choice.{Cases, case, otherwise}
use Rattle.picky_fields.specs.Fields.{explicit, one}
use Rattle.picky_asn1_wrapper.specs.Lists.{list_form}
use Rattle.picky_x509_algorithms.specs.declared.known_identifier.KnownIdentifier.TheVariants as known
use Rattle.picky_x509_algorithms.specs.Identifiers.{arcs, is_known}
use Rattle.picky_x509_bags.specs.declared.certificate.CertificateBag.{CertificateBag}
use Rattle.picky_x509_bags.specs.declared.encrypted_key.EncryptedKeyBag.{EncryptedKeyBag}
use Rattle.picky_x509_bags.specs.declared.secret.SecretBag.{SecretBag}
use Rattle.picky_x509_bags.specs.Certificate.{certificate}
use Rattle.picky_x509_bags.specs.EncryptedKey.{encrypted_key}
use Rattle.picky_x509_bags.specs.Secret.{secret}
use Rattle.picky_x509_safe_bags.specs.declared.safe_bag.SafeBag.{SafeBag}
use Rattle.picky_x509_safe_bags.specs.declared.safe_bag.SafeBagKind.{SafeBagKind, Key, EncryptedKey, Certificate, Crl, Secret, SafeContents, Unknown, out-SafeBagKind}
use Rattle.picky_x509_safe_bags.specs.declared.safe_bag.SafeBagKind.TheOpen.{SafeBagKind-F}

-- ---- kinds that hold no bags

-- a key, an encrypted key, a certificate, a list of revoked certificates, a secret, or any value with its identifier
abbrev pub OtherValue : Type 0
OtherValue = List ℕ ⊎ (EncryptedKeyBag ⊎ (CertificateBag ⊎ (List ℕ ⊎ (SecretBag ⊎ (List ℕ × List ℕ)))))

abbrev pub other_of : OtherValue → SafeBagKind
other_of (inl key) = Key key
other_of (inr (inl bag)) = EncryptedKey bag
other_of (inr (inr (inl bag))) = Certificate bag
other_of (inr (inr (inr (inl crl)))) = Crl crl
other_of (inr (inr (inr (inr (inl bag))))) = Secret bag
other_of (inr (inr (inr (inr (inr p))))) = Unknown p.0 p.1

unfoldable pub other_cases : Cases (List ℕ) OtherValue
other_cases =
    case (arcs known.KeyBag) (is_known known.KeyBag) (one (explicit 0 raw_form))
    (case (arcs known.Pkcs8ShroudedKeyBag) (is_known known.Pkcs8ShroudedKeyBag) (one (explicit 0 encrypted_key))
    (case (arcs known.CertBag) (is_known known.CertBag) (one (explicit 0 certificate))
    (case (arcs known.CrlBag) (is_known known.CrlBag) (one (explicit 0 raw_form))
    (case (arcs known.SecretBag) (is_known known.SecretBag) (one (explicit 0 secret))
    (otherwise (one (explicit 0 raw_form)))))))

-- ---- all kinds

abbrev pub HeldValue : Type 0
HeldValue = List SafeBag ⊎ OtherValue

abbrev pub kind_of : HeldValue → SafeBagKind
kind_of (inl bags) = SafeContents bags
kind_of (inr other) = other_of other

-- one layer of a bag, where inner bags are anything
abbrev pub held_in : {A X : Type 0} → SafeBagKind-F A X → List X ⊎ OtherValue
held_in (SafeBagKind-F.Key key) = inr (inl key)
held_in (SafeBagKind-F.EncryptedKey bag) = inr (inr (inl bag))
held_in (SafeBagKind-F.Certificate bag) = inr (inr (inr (inl bag)))
held_in (SafeBagKind-F.Crl crl) = inr (inr (inr (inr (inl crl))))
held_in (SafeBagKind-F.Secret bag) = inr (inr (inr (inr (inr (inl bag)))))
held_in (SafeBagKind-F.SafeContents bags) = inl bags
held_in (SafeBagKind-F.Unknown id value) = inr (inr (inr (inr (inr (inr (id, value))))))

abbrev pub held : SafeBagKind → HeldValue
held kind = held_in (out-SafeBagKind kind)

-- the bags in a bag, in a SEQUENCE
abbrev pub bag_list : Form SafeBag → Form (List SafeBag)
bag_list inner = list_form (record { 0 = 48 }) inner

-- bags behind their identifier, whose form is this, and other values behind theirs
unfoldable pub held_cases : Form SafeBag → Cases (List ℕ) HeldValue
held_cases inner = case (arcs known.SafeContentsBag) (is_known known.SafeContentsBag) (one (explicit 0 (bag_list inner))) other_cases
