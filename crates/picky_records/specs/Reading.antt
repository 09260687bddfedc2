-- What a records document records, and the refusal of its first bad line (own).
use Rattle.std.specs.Prelude.{◌≡◌, ◌+◌, ℕ, Bool, true, false, List, [], ◌∷◌, ◌++◌, Option, Some, None, IsTrue, codes, length, if◌then◌else◌}
use Rattle.std.specs.Str.{bytes_eq}
use Rattle.picky_contract.specs.Refusals.{Table, the, need, done, ◌>>=◌}
use Rattle.picky_base64.specs.Base64.{B64}
use Rattle.picky_base64.specs.declared.Form.TheVariants.{Url}
use Rattle.picky_key_der.specs.declared.public.PublicKeyKind.{PublicKeyKind}
use Rattle.picky_key_der.specs.Grammar.{IsPublicKey}
use Rattle.picky_key_private.specs.declared.private.PrivateKey.{PrivateKey}
use Rattle.picky_key_private.specs.Grammar.{IsPrivateKey}
use Rattle.picky_key.specs.declared.algorithm.HashAlgorithm.TheVariants.{MD5, SHA1, SHA2_224, SHA2_256, SHA2_384, SHA2_512, SHA3_384, SHA3_512}
use Rattle.picky_key.specs.declared.algorithm.SignatureAlgorithm.{SignatureAlgorithm}
use Rattle.picky_key.specs.declared.algorithm.SignatureAlgorithm.TheVariants.{RsaPkcs1v15, Ecdsa, Ed25519}
use Rattle.picky_key.specs.declared.provider.WrapScheme.{WrapScheme}
use Rattle.picky_key.specs.declared.provider.WrapScheme.TheVariants as scheme
use Rattle.picky_key.specs.SignatureForms.{is_signature_for}
use Rattle.picky_key.specs.Words.{algorithm_word}
use Rattle.picky_records.specs.declared.error.RecordFault.{RecordFault}
use Rattle.picky_records.specs.declared.error.RecordFault.TheVariants.{OutOfMemory, BadLine, Family, Conflict}
use Rattle.picky_records.specs.declared.line.Line.{Line}
use Rattle.picky_records.specs.declared.line.Line.TheVariants.{Sig, Pair, Unwrap, Agree}
use Rattle.picky_records.specs.Lines.{in_family, conflicts}
use Rattle.picky_records.specs.Cutting.{lines_in, left_in, fields_in}

-- why a document isn't read, want of memory aside
abbrev pub fault : RecordFault → Option RecordFault
fault OutOfMemory = None
fault e = Some e

-- ---- names

-- the first of these whose word is the name
abbrev pub named_in : {A : Type 0} → (A → List ℕ) → List A → List ℕ → Option A
named_in word [] name = None
named_in word (a ∷ all) name = if bytes_eq name (word a) then Some a else named_in word all name

abbrev pub algorithms : List SignatureAlgorithm
algorithms =
    RsaPkcs1v15 MD5 ∷ RsaPkcs1v15 SHA1 ∷ RsaPkcs1v15 SHA2_224 ∷ RsaPkcs1v15 SHA2_256 ∷ RsaPkcs1v15 SHA2_384 ∷ RsaPkcs1v15 SHA2_512 ∷ RsaPkcs1v15 SHA3_384 ∷ RsaPkcs1v15 SHA3_512
    ∷ Ecdsa MD5 ∷ Ecdsa SHA1 ∷ Ecdsa SHA2_224 ∷ Ecdsa SHA2_256 ∷ Ecdsa SHA2_384 ∷ Ecdsa SHA2_512 ∷ Ecdsa SHA3_384 ∷ Ecdsa SHA3_512
    ∷ Ed25519 ∷ []

abbrev pub algorithm_named : List ℕ → Option SignatureAlgorithm
algorithm_named name = named_in algorithm_word algorithms name

abbrev pub scheme_word : WrapScheme → List ℕ
scheme_word scheme.RsaPkcs1v15 = codes "RSA1_5"
scheme_word scheme.RsaOaep = codes "RSA-OAEP"
scheme_word scheme.RsaOaep256 = codes "RSA-OAEP-256"

abbrev pub schemes : List WrapScheme
schemes = scheme.RsaPkcs1v15 ∷ scheme.RsaOaep ∷ scheme.RsaOaep256 ∷ []

abbrev pub scheme_named : List ℕ → Option WrapScheme
scheme_named name = named_in scheme_word schemes name

-- ---- the forms of a line; n is its number

-- the bytes are the subject public key information of the key (RFC 5280 section 4.1.2.7), or its PKCS #8 (RFC 5958 section 2)
abbrev pub IsSpki : List ℕ → PublicKeyKind → Type 0
IsSpki = IsPublicKey

abbrev pub IsPkcs8 : List ℕ → PrivateKey → Type 0
IsPkcs8 = IsPrivateKey

-- strict base64url of a key's bytes
unfoldable pub public_field : ℕ → List ℕ → Table PublicKeyKind RecordFault
public_field n text = do
  bytes ← the (B64 Url text) (BadLine n)
  the (IsSpki bytes) (BadLine n)

unfoldable pub private_field : ℕ → List ℕ → Table PrivateKey RecordFault
private_field n text = do
  bytes ← the (B64 Url text) (BadLine n)
  the (IsPkcs8 bytes) (BadLine n)

-- `sig ALG SPKI MESSAGE SIGNATURE`
unfoldable pub sig_table : ℕ → List ℕ → List ℕ → List ℕ → List ℕ → Table Line RecordFault
sig_table n name spki message signature = do
  algorithm ← the (λ a. algorithm_named name ≡ Some a) (BadLine n)
  key ← public_field n spki
  said ← the (B64 Url message) (BadLine n)
  signed ← the (B64 Url signature) (BadLine n)
  wanted ← need (IsTrue (is_signature_for algorithm key signed)) (BadLine n)
  done (Sig key algorithm said signed)

-- `pair PKCS8 SPKI`
unfoldable pub pair_table : ℕ → List ℕ → List ℕ → Table Line RecordFault
pair_table n pkcs8 spki = do
  private ← private_field n pkcs8
  public ← public_field n spki
  done (Pair private public)

-- `unwrap SCHEME PKCS8 WRAPPED CEK`
unfoldable pub unwrap_table : ℕ → List ℕ → List ℕ → List ℕ → List ℕ → Table Line RecordFault
unwrap_table n name pkcs8 wrapped content_key = do
  scheme ← the (λ s. scheme_named name ≡ Some s) (BadLine n)
  private ← private_field n pkcs8
  closed ← the (B64 Url wrapped) (BadLine n)
  opened ← the (B64 Url content_key) (BadLine n)
  done (Unwrap scheme private closed opened)

-- `agree SPKI SPKI SECRET`
unfoldable pub agree_table : ℕ → List ℕ → List ℕ → List ℕ → Table Line RecordFault
agree_table n one other secret = do
  first ← public_field n one
  second ← public_field n other
  shared ← the (B64 Url secret) (BadLine n)
  done (Agree first second shared)

-- nothing holds, and the refusal is due
abbrev pub refused : {X F : Type 0} → F → Table X F
refused f = record { holds = λ _. ⊥; gives = λ _. ⊥; refuses = λ g. g ≡ f }

-- the line of this form, where the first field is its word; else of no form
abbrev pub when : Bool → ℕ → Table Line RecordFault → Table Line RecordFault
when true n form = form
when false n form = refused (BadLine n)

abbrev pub either : Bool → Table Line RecordFault → Table Line RecordFault → Table Line RecordFault
either true form other = form
either false form other = other

-- the form that the first field and the number of fields say
unfoldable pub form_table : ℕ → List (List ℕ) → Table Line RecordFault
form_table n (word ∷ a ∷ b ∷ []) = when (bytes_eq word (codes "pair")) n (pair_table n a b)
form_table n (word ∷ a ∷ b ∷ c ∷ []) = when (bytes_eq word (codes "agree")) n (agree_table n a b c)
form_table n (word ∷ a ∷ b ∷ c ∷ d ∷ []) =
    either (bytes_eq word (codes "sig")) (sig_table n a b c d) (when (bytes_eq word (codes "unwrap")) n (unwrap_table n a b c d))
form_table n _ = refused (BadLine n)

-- ---- the rows of a line, after those before it

-- what is asked of a line in form, where these stand before it
unfoldable pub standing : List Line → ℕ → Line → Table Line RecordFault
standing before n line = do
  family ← need (IsTrue (in_family line)) (Family n)
  free ← need (conflicts before line ≡ false) (Conflict n)
  done line

unfoldable pub row : List Line → List ℕ → Table Line RecordFault
row before text = do
  line ← form_table (length before + 1) (fields_in text)
  family ← need (IsTrue (in_family line)) (Family (length before + 1))
  free ← need (conflicts before line ≡ false) (Conflict (length before + 1))
  done line

-- the rows of each item in order, each after the values of those before it
unfoldable pub each_after : {A X F : Type 0} → (List X → A → Table X F) → List X → List A → Table (List X) F
each_after each before [] = done before
each_after each before (item ∷ items) = each before item >>= λ x. each_after each (before ++ x ∷ []) items

-- no text is left without its LF
unfoldable pub left_table : List ℕ → List Line → Table (List Line) RecordFault
left_table left lines = do
  ended ← need (left ≡ []) (BadLine (length lines + 1))
  done lines

-- each line in order, and then no text without its LF
unfoldable pub records_table : List ℕ → Table (List Line) RecordFault
records_table doc = each_after row [] (lines_in doc) >>= left_table (left_in doc)
