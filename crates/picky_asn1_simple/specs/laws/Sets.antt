-- The contents octets of a set that a test decides, and the tests of the sets.
use Rattle.std.proofs.Common.{◌≡◌, ◌≢◌, ℕ, ◌+◌, ◌*◌, ◌/◌, ◌%◌, ◌<◌, ◌⊎◌, Bool, true, false, cond, ltb, leb, eqb, List, [], ◌∷◌, All, Ok, Err, refl, sym, ap, subst, ◌∙◌, arith}
use Rattle.std.specs.Prelude.{◌||◌, ◌&&◌, codes}
use Rattle.std.specs.Bool.{Decides}
use Rattle.std.specs.List.{list_all, list_any}
use Rattle.std.specs.Cmp.{nat_eq_equiv}
use Rattle.std.specs.Int.{is_in_range, IsInRange}
use Rattle.std.specs.Str.{IsUtf8, is_utf8}
use Rattle.std.proofs.lemmas.Bool.Decides.{Decides-by_and, Decides-ltb, Decides-eqb, Decides-and, Decides-or}
use Rattle.std.proofs.lemmas.Bool.{eqb-true, leb-true, le-leb, ltb-true, lt-ltb, and_parts}
use Rattle.std.proofs.lemmas.List.Elements.{All-nil, All-cons, All-head, All-tail}
use Rattle.std.proofs.lemmas.Map.Views.{Contains-from_any, list_any-from_Contains}
use Rattle.std.proofs.lemmas.Str.{IsUtf8-from_is_utf8, is_utf8-from_IsUtf8}
use Rattle.picky_asn1_tag.specs.declared.tag.Tag.{Tag}
use Rattle.picky_asn1_text.specs.Bmp.{IsBmp, IsBmpCharacter, two_bytes_each}
use Rattle.picky_asn1_text.specs.CharSets.{IsIa5, IsNumeric, IsPrintable, IsDigit, IsCapitalLetter, IsSmallLetter, IsPrintableSign}
use Rattle.picky_der.specs.declared.fault.DerError.TheVariants.{BadValue}
use Rattle.picky_der.specs.Form.{Readable, Writable, Tagged}
use Rattle.picky_der.specs.Primitive.{Decodes, primitive_form}
use Rattle.picky_der.specs.laws.Steps.{need_ok, ok_is}
use Rattle.picky_der.specs.laws.Primitives.{primitive_readable, primitive_writable, primitive_tagged}
use Rattle.picky_asn1_simple.specs.Sets.{tested_of, tested_contents, is_ia5, is_numeric, is_printable_octet, is_printable, is_bmp_character, is_bmp}

module _ (InSet : List ℕ → Type 0) (test : List ℕ → Bool) (decides : (octets : List ℕ) → Decides (test octets) (InSet octets)) where
  tested_done : (octets x : List ℕ) → tested_of test octets ≡ Ok x → InSet x × (octets ≡ x)
  tested_done octets x e =
      let a = need_ok (test octets) BadValue (Ok octets) x e in
      let same : octets ≡ x = ok_is octets x a.1 in
      (subst InSet same ((decides octets).0 a.0), same)

  tested_back : (octets x : List ℕ) → InSet x → octets ≡ x → tested_of test octets ≡ Ok x
  tested_back octets x h e = rw (e, (decides x).1 h) refl

  tested_decodes : Decodes (tested_contents InSet test)
  tested_decodes = record {
    takes = λ octets x _ e. tested_done octets x e;
    again = tested_back;
    has_octets = λ _ _. refl;
    one = λ s t x _ p q. p ∙ sym q;
  }

  pub tested_readable : (tag : Tag) → Readable (primitive_form tag (tested_contents InSet test))
  tested_readable tag = primitive_readable tag (tested_contents InSet test) tested_decodes

  pub tested_writable : (tag : Tag) → tag.0 % 32 ≢ 31 → Writable (primitive_form tag (tested_contents InSet test))
  tested_writable tag one_byte = primitive_writable tag (tested_contents InSet test) tested_decodes one_byte

  -- what a check that passed, or didn't, makes of the octets
  pub tested_ok : (octets x : List ℕ) → InSet octets → x ≡ octets → tested_of test octets ≡ Ok x
  tested_ok octets x h e = rw ((decides octets).1 h) (ap (λ (t : List ℕ). Ok t) (sym e))

  pub tested_bad : (octets : List ℕ) → ¬ (InSet octets) → tested_of test octets ≡ Err BadValue
  tested_bad octets h = elim (test octets) as (λ b. test octets ≡ b → cond b (Ok octets) (Err BadValue) ≡ Err BadValue) [
    | true ↦ λ e. absurd (h ((decides octets).0 e))
    | false ↦ λ e. refl
  ] refl

pub tested_tagged : (tag : Tag) (InSet : List ℕ → Type 0) (test : List ℕ → Bool) → Tagged tag (primitive_form tag (tested_contents InSet test))
tested_tagged tag InSet test = primitive_tagged tag (tested_contents InSet test)

-- ---- the sets

pub ia5_decides : (octets : List ℕ) → Decides (is_ia5 octets) (IsIa5 octets)
ia5_decides octets = Decides-by_and (λ b. ltb b 0x80) (λ b. b < 0x80) (list_all (λ b. ltb b 0x80)) (λ b. Decides-ltb b 0x80) refl (λ _ _. refl) octets

pub utf8_decides : (octets : List ℕ) → Decides (is_utf8 octets) (IsUtf8 octets)
utf8_decides octets = (IsUtf8-from_is_utf8 octets, is_utf8-from_IsUtf8 octets)

range_decides : (low high c : ℕ) → Decides (is_in_range low high c) (IsInRange low high c)
range_decides low high c = Decides-and (leb low c) (leb c high) (leb-true low c, le-leb low c) (leb-true c high, le-leb c high)

numeric_octet : (b : ℕ) → Decides (is_in_range 0x30 0x39 b || eqb b 0x20) (IsDigit b ⊎ (b ≡ 0x20))
numeric_octet b = Decides-or (is_in_range 0x30 0x39 b) (eqb b 0x20) (range_decides 0x30 0x39 b) (Decides-eqb b 0x20)

pub numeric_decides : (octets : List ℕ) → Decides (is_numeric octets) (IsNumeric octets)
numeric_decides octets = Decides-by_and (λ b. is_in_range 0x30 0x39 b || eqb b 0x20) (λ b. IsDigit b ⊎ (b ≡ 0x20)) (list_all (λ b. is_in_range 0x30 0x39 b || eqb b 0x20)) numeric_octet refl (λ _ _. refl) octets

sign_decides : (b : ℕ) → Decides (list_any (λ c. eqb b c) (codes " '()+,-./:=?")) (IsPrintableSign b)
sign_decides b = (λ h. Contains-from_any {eq = eqb} eqb-true b (codes " '()+,-./:=?") h, λ h. list_any-from_Contains {eq = eqb} nat_eq_equiv b (codes " '()+,-./:=?") h)

printable_octet : (b : ℕ) → Decides (is_printable_octet b) (IsCapitalLetter b ⊎ IsSmallLetter b ⊎ IsDigit b ⊎ IsPrintableSign b)
printable_octet b =
    let sign = list_any (λ c. eqb b c) (codes " '()+,-./:=?") in
    let digit = is_in_range 0x30 0x39 b in
    let small = is_in_range 0x61 0x7A b in
    Decides-or (is_in_range 0x41 0x5A b) (small || (digit || sign)) (range_decides 0x41 0x5A b)
    (Decides-or small (digit || sign) (range_decides 0x61 0x7A b)
    (Decides-or digit sign (range_decides 0x30 0x39 b) (sign_decides b)))

pub printable_decides : (octets : List ℕ) → Decides (is_printable octets) (IsPrintable octets)
printable_decides octets = Decides-by_and is_printable_octet (λ b. IsCapitalLetter b ⊎ IsSmallLetter b ⊎ IsDigit b ⊎ IsPrintableSign b) (list_all is_printable_octet) printable_octet refl (λ _ _. refl) octets

bmp_character : (c : ℕ) → Decides (is_bmp_character c) (IsBmpCharacter c)
bmp_character c = Decides-or (ltb c 0xD800) (is_in_range 0xE000 0xFFFF c) (Decides-ltb c 0xD800) (range_decides 0xE000 0xFFFF c)

-- the two octets of a number
pair_of : (high low : ℕ) → low < 256 → ((high * 256 + low) / 256 ≡ high) × ((high * 256 + low) % 256 ≡ low)
pair_of high low h = (omega (arith, h), omega (arith, h))

bmp_pair : (high low : ℕ) (rest : List ℕ) → low < 256 → IsBmpCharacter (high * 256 + low) → IsBmp rest → IsBmp (high ∷ low ∷ rest)
bmp_pair high low rest h c b =
    let p = pair_of high low h in
    ((high * 256 + low) ∷ b.0, All-cons IsBmpCharacter (high * 256 + low) b.0 c b.1, rw (p.0, p.1, b.2) refl)

bmp_from_test : (octets : List ℕ) → is_bmp octets ≡ true → IsBmp octets
bmp_from_test [] h = ([], All-nil IsBmpCharacter, refl)
bmp_from_test (high ∷ []) h = absurd cc
bmp_from_test (high ∷ low ∷ rest) h =
    let both = and_parts (ltb low 0x100 && is_bmp_character (high * 0x100 + low)) (is_bmp rest) h in
    let pair = and_parts (ltb low 0x100) (is_bmp_character (high * 0x100 + low)) both.0 in
    bmp_pair high low rest (ltb-true low 0x100 pair.0) ((bmp_character (high * 0x100 + low)).0 pair.1) (bmp_from_test rest both.1)

bmp_test_of : (characters : List ℕ) → All IsBmpCharacter characters → is_bmp (two_bytes_each characters) ≡ true
bmp_test_of [] all = refl
bmp_test_of (c ∷ cs) all =
    let small : c % 256 < 256 = omega arith in
    let whole : c / 256 * 256 + c % 256 ≡ c = omega arith in
    rw (lt-ltb (c % 256) 256 small, whole, (bmp_character c).1 (All-head IsBmpCharacter c cs all), bmp_test_of cs (All-tail IsBmpCharacter c cs all)) refl

pub bmp_decides : (octets : List ℕ) → Decides (is_bmp octets) (IsBmp octets)
bmp_decides octets = (bmp_from_test octets, λ h. subst (λ x. is_bmp x ≡ true) (sym h.2) (bmp_test_of h.0 h.1))
