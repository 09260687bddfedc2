-- The records of a document, and the provider that they are (own).
use Rattle.std.specs.Prelude.{◌≡◌, ◌⊎◌, ◌↔◌, ℕ, true, false, List, [], ◌∷◌, ◌++◌, Option, Some, None}
use Rattle.picky_key_der.specs.declared.public.PublicKeyKind.{PublicKeyKind}
use Rattle.picky_key_private.specs.declared.private.PrivateKey.{PrivateKey}
use Rattle.picky_key.specs.declared.algorithm.SignatureAlgorithm.{SignatureAlgorithm}
use Rattle.picky_key.specs.declared.provider.WrapScheme.{WrapScheme}
use Rattle.picky_records.specs.declared.line.Line.{Line}
use Rattle.picky_records.specs.declared.line.Line.TheVariants.{Sig, Pair, Unwrap, Agree}
use Rattle.picky_records.specs.Lines.{in_family, conflicts}
use Rattle.picky_records.specs.Cutting.{lines_in, left_in, fields_in}
use Rattle.picky_records.specs.Forms.{IsForm}
use Rattle.picky_records.specs.Meanings.{Has, signs_by, public_by, unwrap_by, agree_by, sign_by, wrap_by, ephemeral_by}

-- ---- the lines of a document

-- the text is a line in form, in its family, and without conflict with the lines before it
pub record IsLine (before : List Line) (text : List ℕ) (line : Line) : Type 0 where
  pub form : IsForm (fields_in text) line
  pub family : in_family line ≡ true
  pub free : conflicts before line ≡ false

-- each text is a line after those before it
abbrev pub AreLines : List Line → List (List ℕ) → List Line → Type 0
AreLines before [] [] = Unit {0}
AreLines before (text ∷ texts) (line ∷ lines) = IsLine before text line × AreLines (before ++ line ∷ []) texts lines
AreLines before _ _ = ⊥

-- the document is these lines, each ended by LF
pub record AreRecords (doc : List ℕ) (lines : List Line) : Type 0 where
  pub lines_are : AreLines [] (lines_in doc) lines
  pub ended : left_in doc ≡ []

-- ---- the provider

-- seven meanings
pub record Provider : Type 1 where
  pub signs : PublicKeyKind → SignatureAlgorithm → List ℕ → List ℕ → Type 0
  pub public_of : PrivateKey → Option PublicKeyKind
  pub unwrap : PrivateKey → WrapScheme → List ℕ → Option (List ℕ)
  pub agree : PrivateKey → PublicKeyKind → Option (List ℕ)
  pub sign_of : PrivateKey → SignatureAlgorithm → List ℕ → Option (List ℕ)
  pub wrap_of : PublicKeyKind → WrapScheme → List ℕ → List ℕ → Option (List ℕ)
  pub ephemeral_of : PublicKeyKind → List ℕ → Option (PublicKeyKind × List ℕ)

-- y is what the first line gives that fits
pub record IsFirst {Y : Type 0} (fits : Line → Y → Type 0) (lines : List Line) (y : Y) : Type 0 where
  pub front : List Line
  pub line : Line
  pub back : List Line
  pub joined : lines ≡ front ++ line ∷ back
  pub here : fits line y
  pub none : (l : Line) (z : Y) → Has front l → fits l z → ⊥

-- an unwrap line whose key has the public part q
pub record IsUnwrapOf (q : PublicKeyKind) (t : WrapScheme) (w c : List ℕ) (line : Line) : Type 0 where
  pub private : PrivateKey
  pub is : line ≡ Unwrap t private w c
  pub part : private.public_part ≡ Some q

-- an agree line of the receiver, with the other key and the secret
abbrev pub IsAgreeOf : PublicKeyKind → Line → PublicKeyKind × List ℕ → Type 0
IsAgreeOf r line (e, s) = (line ≡ Agree r e s) ⊎ (line ≡ Agree e r s)

-- the provider answers by these lines
pub record AnswersBy (lines : List Line) (p : Provider) : Type 0 where
  -- a `sig` line has that key, algorithm, message and signature
  pub signs : (k : PublicKeyKind) (a : SignatureAlgorithm) (m s : List ℕ) → p.signs k a m s ↔ Has lines (Sig k a m s)
  -- the key's own public part, else its `pair` line's, else none
  pub own_part : (k : PrivateKey) (q : PublicKeyKind) → k.public_part ≡ Some q → p.public_of k ≡ Some q
  pub public_of : (k : PrivateKey) (q : PublicKeyKind) → k.public_part ≡ None → (p.public_of k ≡ Some q) ↔ Has lines (Pair k q)
  -- the content key of the `unwrap` line whose key has the same public part, else none
  pub unwrap : (k : PrivateKey) (t : WrapScheme) (w c : List ℕ)
      → (p.unwrap k t w ≡ Some c) ↔ ((q : PublicKeyKind) × (p.public_of k ≡ Some q) × ((l : Line) × Has lines l × IsUnwrapOf q t w c l))
  -- the secret of the `agree` line for the two keys, in either order, else none
  pub agree : (k : PrivateKey) (peer : PublicKeyKind) (s : List ℕ)
      → (p.agree k peer ≡ Some s) ↔ ((q : PublicKeyKind) × (p.public_of k ≡ Some q) × (Has lines (Agree q peer s) ⊎ Has lines (Agree peer q s)))
  -- the signature of the first `sig` line with the public key, the algorithm and the message, else none
  pub sign_of : (k : PrivateKey) (a : SignatureAlgorithm) (m s : List ℕ)
      → (p.sign_of k a m ≡ Some s) ↔ ((q : PublicKeyKind) × (p.public_of k ≡ Some q) × IsFirst (λ l x. l ≡ Sig q a m x) lines s)
  -- the wrapped key of the first `unwrap` line whose key has that public part, with the scheme and the content key, else none
  pub wrap_of : (q : PublicKeyKind) (t : WrapScheme) (seed c w : List ℕ) → (p.wrap_of q t seed c ≡ Some w) ↔ IsFirst (λ l x. IsUnwrapOf q t x c l) lines w
  -- the other key and the secret of the first `agree` line with the receiver on either side, else none
  pub ephemeral_of : (r : PublicKeyKind) (seed : List ℕ) (e : PublicKeyKind) (s : List ℕ)
      → (p.ephemeral_of r seed ≡ Some (e, s)) ↔ IsFirst (IsAgreeOf r) lines (e, s)

-- the document is the records of the provider
pub record RecordsOf (doc : List ℕ) (p : Provider) : Type 0 where
  pub lines : List Line
  pub are : AreRecords doc lines
  pub answers : AnswersBy lines p

-- the provider of these lines
abbrev pub provider_of : List Line → Provider
provider_of ls = record {
  signs = signs_by ls;
  public_of = public_by ls;
  unwrap = unwrap_by ls;
  agree = agree_by ls;
  sign_of = sign_by ls;
  wrap_of = wrap_by ls;
  ephemeral_of = ephemeral_by ls;
}
