-- Byte lists of the sets below 80 are UTF-8, each byte a character of its own (RFC 3629, section 3).
use Rattle.std.proofs.Common.{◌≡◌, ℕ, ◌<◌, ◌⊎◌, inl, inr, List, [], ◌∷◌, get_or, All, IsUtf8, refl, arith, ltb, zero, suc}
use Rattle.std.specs.Prelude.{codes}
use Rattle.std.specs.List.{list_all}
use Rattle.std.proofs.lemmas.Bool.Decides.{Decides-by_and, Decides-ltb}
use Rattle.std.proofs.lemmas.List.Elements.{All-head, All-tail, All-weaker, All-contains}
use Rattle.std.proofs.lemmas.Str.{IsUtf8-from_ascii}
use Rattle.picky_asn1_text.specs.CharSets.{IsDigit, IsCapitalLetter, IsSmallLetter, IsPrintableSign, IsNumeric, IsPrintable, IsIa5}

ascii : (bytes : List ℕ) → IsIa5 bytes → (i : ℕ) → get_or bytes i 0 < 0x80
ascii [] h i = omega arith
ascii (b ∷ bytes) h zero = All-head (λ x. x < 0x80) b bytes h
ascii (b ∷ bytes) h (suc i) = ascii bytes (All-tail (λ x. x < 0x80) b bytes h) i

pub ia5_utf8 : (bytes : List ℕ) → IsIa5 bytes → IsUtf8 bytes
ia5_utf8 bytes h = IsUtf8-from_ascii bytes (ascii bytes h)

numeric : (b : ℕ) → IsDigit b ⊎ (b ≡ 0x20) → b < 0x80
numeric b h = elim h [ inl d ↦ omega arith | inr e ↦ omega arith ]

pub numeric_utf8 : (bytes : List ℕ) → IsNumeric bytes → IsUtf8 bytes
numeric_utf8 bytes h = ia5_utf8 bytes (All-weaker (λ b. IsDigit b ⊎ (b ≡ 0x20)) (λ b. b < 0x80) numeric bytes h)

signs_small : All (λ b. b < 0x80) (codes " '()+,-./:=?")
signs_small = (Decides-by_and (λ b. ltb b 0x80) (λ b. b < 0x80) (list_all (λ b. ltb b 0x80)) (λ b. Decides-ltb b 0x80) refl (λ _ _. refl) (codes " '()+,-./:=?")).0 refl

printable : (b : ℕ) → IsCapitalLetter b ⊎ IsSmallLetter b ⊎ IsDigit b ⊎ IsPrintableSign b → b < 0x80
printable b h = elim h [
  | inl capital ↦ omega arith
  | inr rest ↦ elim rest [
    | inl small ↦ omega arith
    | inr other ↦ elim other [
      | inl digit ↦ omega arith
      | inr sign ↦ All-contains (λ x. x < 0x80) (codes " '()+,-./:=?") b signs_small sign
    ]
  ]
]

pub printable_utf8 : (bytes : List ℕ) → IsPrintable bytes → IsUtf8 bytes
printable_utf8 bytes h = ia5_utf8 bytes (All-weaker (λ b. IsCapitalLetter b ⊎ IsSmallLetter b ⊎ IsDigit b ⊎ IsPrintableSign b) (λ b. b < 0x80) printable bytes h)
