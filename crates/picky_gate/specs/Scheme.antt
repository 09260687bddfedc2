-- Kinds of authorization text, by their scheme words (RFC 6750, section 2.1, for tokens; own for header texts,
-- whose grammar begins with the scheme word).
use Rattle.std.specs.Prelude.{◌≡◌, ◌==◌, ℕ, List, ◌++◌, codes}
use Rattle.std.specs.List.{count_by}
use Rattle.picky_jose.specs.Token.{dot}
use Rattle.picky_gate.specs.declared.scheme.Scheme.{Scheme as Lent}
use Rattle.picky_gate.specs.declared.scheme.Scheme.TheVariants as lent

-- a token, which stands after its scheme word, or a header text, whole
pub data Scheme : Type 0 where
  bearer : List ℕ → Scheme
  header_text : List ℕ → Scheme

-- the text begins with the scheme word of header texts
pub record IsHeader (text : List ℕ) : Type 0 where
  pub rest : List ℕ
  pub joined : text ≡ codes "Signature " ++ rest

-- the text is a header text, whole
abbrev pub IsHeaderScheme : List ℕ → Scheme → Type 0
IsHeaderScheme text (bearer token) = ⊥
IsHeaderScheme text (header_text whole) = (whole ≡ text) × IsHeader text

-- the text is of this kind
abbrev pub IsScheme : List ℕ → Scheme → Type 0
IsScheme text (bearer token) = text ≡ codes "Bearer " ++ token
IsScheme text (header_text whole) = (whole ≡ text) × IsHeader text

-- how many dots a token has
abbrev pub dots_in : List ℕ → ℕ
dots_in token = count_by (λ b. b == dot) token

-- the kind that the code found, without where its text lies
abbrev pub scheme_view : Lent → Scheme
scheme_view (lent.Token token) = bearer token.now
scheme_view (lent.Header text) = header_text text.now
