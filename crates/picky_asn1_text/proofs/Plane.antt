-- The texts whose bytes a BMP string holds.
use Rattle.std.proofs.Common.{◌≡◌, ◌↔◌, inl, inr, ℕ, ◌/◌, ◌%◌, ◌<◌, true, List, [], ◌∷◌, refl, sym, ap, subst, ◌∙◌, All, arith, chars, encode_utf8_all, IsUtf8}
use Rattle.std.specs.Cmp.Derive.{both_true}
use Rattle.std.proofs.lemmas.List.Elements.{All-head, All-tail, All-weaker}
use Rattle.std.proofs.lemmas.Str.{chars-encodes, encodes-chars, scalars-chars}
use lib.Utf8.{scalars}
use Rattle.picky_asn1_text.specs.Bmp.{IsBmpCharacter, two_bytes_each, IsBmp, IsBmpOf, IsWithinPlane}
use Rattle.picky_asn1_text.proofs.Pairs.{same_number, plane_scalar, plane_characters}

pub two_bytes_same : (cs ds : List ℕ) → two_bytes_each cs ≡ two_bytes_each ds → cs ≡ ds
two_bytes_same [] [] e = refl
two_bytes_same [] (d ∷ ds) e = absurd (cc)
two_bytes_same (c ∷ cs) [] e = absurd (cc)
two_bytes_same (c ∷ cs) (d ∷ ds) e =
    let high : c / 256 ≡ d / 256 = cc in
    let low : c % 256 ≡ d % 256 = cc in
    let rest : two_bytes_each cs ≡ two_bytes_each ds = cc in
    let head : c ≡ d = same_number c d high low in
    let tail : cs ≡ ds = two_bytes_same cs ds rest in
    cc

pub texts_same : (text again bytes : List ℕ) → IsUtf8 text → IsUtf8 again → IsBmpOf text bytes → IsBmpOf again bytes → again ≡ text
texts_same text again bytes u v p q =
    let same : chars again ≡ chars text = two_bytes_same (chars again) (chars text) (sym q ∙ p) in
    sym (encodes-chars again v) ∙ ap encode_utf8_all same ∙ encodes-chars text u

small : (c : ℕ) → IsBmpCharacter c → c < 0x1_0000
small c h = elim h [ inl low ↦ omega arith | inr high ↦ omega arith ]

pub within : (text bytes : List ℕ) → IsUtf8 text → IsBmpOf text bytes → (IsBmp bytes ↔ IsWithinPlane text)
within text bytes u p = (
  (λ b.
      let same : b.0 ≡ chars text = two_bytes_same b.0 (chars text) (sym b.2 ∙ p) in
      subst (All (λ c. c < 0x1_0000)) same (All-weaker IsBmpCharacter (λ c. c < 0x1_0000) small b.0 b.1)),
  (λ h. (chars text, plane_characters (chars text) (scalars-chars text u) h, p)),
)

plane_scalars : (cs : List ℕ) → All IsBmpCharacter cs → scalars cs ≡ true
plane_scalars [] h = refl
plane_scalars (c ∷ cs) h = both_true (plane_scalar c (All-head IsBmpCharacter c cs h)) (plane_scalars cs (All-tail IsBmpCharacter c cs h))

pub text_of : (bytes : List ℕ) → IsBmp bytes → (text : List ℕ) × IsUtf8 text × IsBmpOf text bytes
text_of bytes b =
    let s = plane_scalars b.0 b.1 in
    (encode_utf8_all b.0, (b.0, (s, refl)), b.2 ∙ ap two_bytes_each (sym (chars-encodes b.0 s)))
