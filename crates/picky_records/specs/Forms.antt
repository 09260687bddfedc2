-- The forms of a line, field by field (own).
use Rattle.std.specs.Prelude.{◌≡◌, ℕ, true, List, [], ◌∷◌, codes}
use Rattle.picky_base64.specs.Base64.{B64}
use Rattle.picky_base64.specs.declared.Form.TheVariants.{Url}
use Rattle.picky_key_der.specs.declared.public.PublicKeyKind.{PublicKeyKind}
use Rattle.picky_key_private.specs.declared.private.PrivateKey.{PrivateKey}
use Rattle.picky_key.specs.declared.algorithm.SignatureAlgorithm.{SignatureAlgorithm}
use Rattle.picky_key.specs.declared.provider.WrapScheme.{WrapScheme}
use Rattle.picky_key.specs.SignatureForms.{is_signature_for}
use Rattle.picky_key.specs.Words.{algorithm_word}
use Rattle.picky_records.specs.declared.line.Line.{Line}
use Rattle.picky_records.specs.declared.line.Line.TheVariants.{Sig, Pair, Unwrap, Agree}
use Rattle.picky_records.specs.Reading.{IsSpki, IsPkcs8, scheme_word}

-- the field spells the bytes of a key
pub record SpellsPublic (field : List ℕ) (key : PublicKeyKind) : Type 0 where
  pub bytes : List ℕ
  pub spelled : B64 Url field bytes
  pub reads : IsSpki bytes key

pub record SpellsPrivate (field : List ℕ) (key : PrivateKey) : Type 0 where
  pub bytes : List ℕ
  pub spelled : B64 Url field bytes
  pub reads : IsPkcs8 bytes key

-- the fields are `sig ALG SPKI MESSAGE SIGNATURE`; the signature isn't empty, and for ECDSA the DER of a pair that fits the key's field
pub record IsSig (fields : List (List ℕ)) (k : PublicKeyKind) (a : SignatureAlgorithm) (m s : List ℕ) : Type 0 where
  pub name : List ℕ
  pub spki : List ℕ
  pub message : List ℕ
  pub signature : List ℕ
  pub are : fields ≡ codes "sig" ∷ name ∷ spki ∷ message ∷ signature ∷ []
  pub named : name ≡ algorithm_word a
  pub key : SpellsPublic spki k
  pub said : B64 Url message m
  pub signed : B64 Url signature s
  pub wanted : is_signature_for a k s ≡ true

-- the fields are `pair PKCS8 SPKI`
pub record IsPair (fields : List (List ℕ)) (k : PrivateKey) (q : PublicKeyKind) : Type 0 where
  pub pkcs8 : List ℕ
  pub spki : List ℕ
  pub are : fields ≡ codes "pair" ∷ pkcs8 ∷ spki ∷ []
  pub private : SpellsPrivate pkcs8 k
  pub public : SpellsPublic spki q

-- the fields are `unwrap SCHEME PKCS8 WRAPPED CEK`
pub record IsUnwrap (fields : List (List ℕ)) (t : WrapScheme) (k : PrivateKey) (w c : List ℕ) : Type 0 where
  pub name : List ℕ
  pub pkcs8 : List ℕ
  pub wrapped : List ℕ
  pub content_key : List ℕ
  pub are : fields ≡ codes "unwrap" ∷ name ∷ pkcs8 ∷ wrapped ∷ content_key ∷ []
  pub named : name ≡ scheme_word t
  pub private : SpellsPrivate pkcs8 k
  pub closed : B64 Url wrapped w
  pub opened : B64 Url content_key c

-- the fields are `agree SPKI SPKI SECRET`
pub record IsAgree (fields : List (List ℕ)) (a b : PublicKeyKind) (s : List ℕ) : Type 0 where
  pub one : List ℕ
  pub other : List ℕ
  pub secret : List ℕ
  pub are : fields ≡ codes "agree" ∷ one ∷ other ∷ secret ∷ []
  pub first : SpellsPublic one a
  pub second : SpellsPublic other b
  pub shared : B64 Url secret s

-- the fields are the line's
abbrev pub IsForm : List (List ℕ) → Line → Type 0
IsForm fields (Sig k a m s) = IsSig fields k a m s
IsForm fields (Pair k q) = IsPair fields k q
IsForm fields (Unwrap t k w c) = IsUnwrap fields t k w c
IsForm fields (Agree a b s) = IsAgree fields a b s
