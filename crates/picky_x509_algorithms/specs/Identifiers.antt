-- The identifiers that containers know, each with its name in the standard, and what stands behind an identifier that is none of them.
--
-- | Name | Arcs | Standard |
-- |---|---|---|
-- | id-data, id-encryptedData | 1.2.840.113549.1.7.1, .6 | RFC 5652 sections 4 and 8 |
-- | keyBag, pkcs8ShroudedKeyBag, certBag, crlBag, secretBag, safeContentsBag | 1.2.840.113549.1.12.10.1.1 to .6 | RFC 7292 section 4.2 |
-- | x509Certificate | 1.2.840.113549.1.9.22.1 | RFC 7292 section 4.2.3 |
-- | friendlyName, localKeyId | 1.2.840.113549.1.9.20, .21 | RFC 2985 section 5.5 |
-- | pbeWithSHAAnd3-KeyTripleDES-CBC, pbeWithSHAAnd40BitRC2-CBC | 1.2.840.113549.1.12.1.3, .6 | RFC 7292 appendix C |
-- | id-PBKDF2, id-PBES2 | 1.2.840.113549.1.5.12, .13 | RFC 8018 appendix A |
-- | id-hmacWithSHA1, 224, 256, 384, 512 | 1.2.840.113549.2.7 to .11 | RFC 8018 appendix B.1 |
-- | aes128-CBC-PAD, aes192-CBC-PAD, aes256-CBC-PAD | 2.16.840.1.101.3.4.1.2, .22, .42 | RFC 8018 appendix B.2.5 |
-- | id-sha1; id-sha256, 384, 512, 224 | 1.3.14.3.2.26; 2.16.840.1.101.3.4.2.1 to .4 | RFC 8017 appendix B.1 |
use Rattle.std.specs.Prelude.{ℕ, Bool, if◌then◌else◌, List, [], ◌∷◌, Option, Some, None}
use Rattle.picky_asn1_oid.specs.Arcs.{contents_of}
use Rattle.picky_der.specs.Raw.{raw_form}
use Rattle.picky_fields.specs.Fields.{optional_last}
use Rattle.picky_fields.specs.Choice.{Cases, otherwise, has_contents}
use Rattle.picky_x509_algorithms.specs.declared.known_identifier.KnownIdentifier.{KnownIdentifier}
use Rattle.picky_x509_algorithms.specs.declared.known_identifier.KnownIdentifier.TheVariants.{Data, EncryptedData, KeyBag, Pkcs8ShroudedKeyBag, CertBag, CrlBag, SecretBag, SafeContentsBag, X509Certificate, FriendlyName, LocalKeyId, PbeWithShaAnd3KeyTripleDesCbc, PbeWithShaAnd40BitRc2Cbc, Pbkdf2, Pbes2, HmacWithSha1, HmacWithSha224, HmacWithSha256, HmacWithSha384, HmacWithSha512, Aes128Cbc, Aes192Cbc, Aes256Cbc, Sha1, Sha224, Sha256, Sha384, Sha512}

-- 1.2.840.113549, of RSA Data Security
abbrev pub pkcs : List ℕ → List ℕ
pkcs more = 1 ∷ 2 ∷ 840 ∷ 113549 ∷ more

-- 2.16.840.1.101.3.4, the algorithms of NIST
abbrev pub nist : List ℕ → List ℕ
nist more = 2 ∷ 16 ∷ 840 ∷ 1 ∷ 101 ∷ 3 ∷ 4 ∷ more

-- the arcs of an identifier
unfoldable pub arcs : KnownIdentifier → List ℕ
arcs Data = pkcs (1 ∷ 7 ∷ 1 ∷ [])
arcs EncryptedData = pkcs (1 ∷ 7 ∷ 6 ∷ [])
arcs KeyBag = pkcs (1 ∷ 12 ∷ 10 ∷ 1 ∷ 1 ∷ [])
arcs Pkcs8ShroudedKeyBag = pkcs (1 ∷ 12 ∷ 10 ∷ 1 ∷ 2 ∷ [])
arcs CertBag = pkcs (1 ∷ 12 ∷ 10 ∷ 1 ∷ 3 ∷ [])
arcs CrlBag = pkcs (1 ∷ 12 ∷ 10 ∷ 1 ∷ 4 ∷ [])
arcs SecretBag = pkcs (1 ∷ 12 ∷ 10 ∷ 1 ∷ 5 ∷ [])
arcs SafeContentsBag = pkcs (1 ∷ 12 ∷ 10 ∷ 1 ∷ 6 ∷ [])
arcs X509Certificate = pkcs (1 ∷ 9 ∷ 22 ∷ 1 ∷ [])
arcs FriendlyName = pkcs (1 ∷ 9 ∷ 20 ∷ [])
arcs LocalKeyId = pkcs (1 ∷ 9 ∷ 21 ∷ [])
arcs PbeWithShaAnd3KeyTripleDesCbc = pkcs (1 ∷ 12 ∷ 1 ∷ 3 ∷ [])
arcs PbeWithShaAnd40BitRc2Cbc = pkcs (1 ∷ 12 ∷ 1 ∷ 6 ∷ [])
arcs Pbkdf2 = pkcs (1 ∷ 5 ∷ 12 ∷ [])
arcs Pbes2 = pkcs (1 ∷ 5 ∷ 13 ∷ [])
arcs HmacWithSha1 = pkcs (2 ∷ 7 ∷ [])
arcs HmacWithSha224 = pkcs (2 ∷ 8 ∷ [])
arcs HmacWithSha256 = pkcs (2 ∷ 9 ∷ [])
arcs HmacWithSha384 = pkcs (2 ∷ 10 ∷ [])
arcs HmacWithSha512 = pkcs (2 ∷ 11 ∷ [])
arcs Aes128Cbc = nist (1 ∷ 2 ∷ [])
arcs Aes192Cbc = nist (1 ∷ 22 ∷ [])
arcs Aes256Cbc = nist (1 ∷ 42 ∷ [])
arcs Sha1 = 1 ∷ 3 ∷ 14 ∷ 3 ∷ 2 ∷ 26 ∷ []
arcs Sha224 = nist (2 ∷ 4 ∷ [])
arcs Sha256 = nist (2 ∷ 1 ∷ [])
arcs Sha384 = nist (2 ∷ 2 ∷ [])
arcs Sha512 = nist (2 ∷ 3 ∷ [])

-- whether these arcs are the identifier's
unfoldable pub is_known : KnownIdentifier → List ℕ → Bool
is_known known oid = has_contents (contents_of (arcs known)) oid

-- the first of these names whose identifier this is
abbrev pub first_known : {N : Type 0} → (N → KnownIdentifier) → List N → List ℕ → Option N
first_known id [] oid = None
first_known id (n ∷ ns) oid = if is_known (id n) oid then Some n else first_known id ns oid

-- after any other identifier: any one value, which may be absent (RFC 5280 section 4.1.1.2)
unfoldable pub other_algorithm : Cases (List ℕ) (List ℕ × Option (List ℕ))
other_algorithm = otherwise (optional_last raw_form)
