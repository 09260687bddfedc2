-- Decimal numbers and base64 texts are bare.
use Rattle.std.proofs.Common.{◌≡◌, ℕ, suc, ◌+◌, ◌*◌, ◌/◌, ◌%◌, ◌<◌, ◌≤◌, ◌^◌, Bool, true, false, not, List, [], ◌∷◌, length, get_or, refl, arith, inl, decimal, zero}
use Rattle.std.specs.List.{list_all, list_any}
use Rattle.std.proofs.lemmas.Bool.{not-true}
use Rattle.std.specs.Str.Parse.{AllDigits}
use Rattle.std.proofs.lemmas.Fmt.{decimal_is_IsNumeral}
use Rattle.std.proofs.lemmas.Str.Parse.{digit_from_value}
use Rattle.picky_base64.specs.Base64.{alphabet, symbol, encoding, AreBytes, B64}
use Rattle.picky_base64.specs.declared.Form.{Form}
use Rattle.picky_base64.specs.declared.Form.TheVariants.{Url, Standard}
use Rattle.picky_http_text.specs.Numbers.{IsNumber}
use Rattle.picky_http.specs.Printing.{IsBare}
use Rattle.picky_http.specs.Reading.{is_standard_byte}
use Rattle.picky_http.specs.laws.Bare.{Passes, both_are, is_plain_byte, bare_plain}

-- ---- numbers

digit_plain : (b : ℕ) → 48 ≤ b → b ≤ 57 → is_plain_byte b ≡ true
digit_plain b low high = grind arith

digits_plain : (ds : List ℕ) → AllDigits 10 ds → Passes is_plain_byte ds
digits_plain [] h = tt
digits_plain (d ∷ ds) h = let r = digit_from_value d h.0 in (digit_plain d r.0 r.1, digits_plain ds h.1)

pub decimal_bare : (n : ℕ) → n < 2 ^ 64 → IsBare (decimal n)
decimal_bare n small = bare_plain (decimal n) (digits_plain (decimal n) (decimal_is_IsNumeral n small).0.1)

pub decimal_number : (n : ℕ) → n < 2 ^ 64 → IsNumber (decimal n) n
decimal_number n small =
    let r = decimal_is_IsNumeral n small in
    record { digits = decimal n; written = inl refl; numeral = r.0; value = r.1; fits = small }

-- ---- base64 texts

all_at : (test : ℕ → Bool) (xs : List ℕ) (i : ℕ) → list_all test xs ≡ true → i < length xs → test (get_or xs i 0) ≡ true
all_at test [] i h l = absurd (omega arith)
all_at test (x ∷ xs) zero h l = (both_are (test x) (list_all test xs) h).0
all_at test (x ∷ xs) (suc i) h l = all_at test xs i (both_are (test x) (list_all test xs) h).1 (omega arith)

sizes : (form : Form) → length (alphabet form) ≡ 64
sizes Url = refl
sizes Standard = refl

symbol_passes : (test : ℕ → Bool) (form : Form) (n : ℕ) → list_all test (alphabet form) ≡ true → n < 64 → test (symbol form n) ≡ true
symbol_passes test form n h l = all_at test (alphabet form) n h (omega (arith, sizes form))

top_symbol : (a b c : ℕ) → a < 256 → b < 256 → c < 256 → (a * 65536 + b * 256 + c) / 262144 < 64
top_symbol a b c ha hb hc = omega arith

low_symbol : (n : ℕ) → n % 64 < 64
low_symbol n = omega arith

-- a test of each symbol, and in the standard form of `=`
pub record Symbols (test : ℕ → Bool) (form : Form) : Type 0 where
  pub symbols : list_all test (alphabet form) ≡ true
  pub padding : form ≡ Standard → test 61 ≡ true

pub spelled_passes : (test : ℕ → Bool) (form : Form) (bytes : List ℕ) → Symbols test form → AreBytes bytes → Passes test (encoding form bytes)
unfolding encoding
spelled_passes test form [] s fits = tt
spelled_passes test Url (a ∷ []) s fits =
    (symbol_passes test Url (a * 65536 / 262144) s.symbols (omega (arith, fits 0)), (symbol_passes test Url (a * 65536 / 4096 % 64) s.symbols (omega arith), tt))
spelled_passes test Standard (a ∷ []) s fits =
    let pad = s.padding refl in
    (symbol_passes test Standard (a * 65536 / 262144) s.symbols (omega (arith, fits 0)), (symbol_passes test Standard (a * 65536 / 4096 % 64) s.symbols (omega arith), (pad, (pad, tt))))
spelled_passes test Url (a ∷ b ∷ []) s fits =
    let n = a * 65536 + b * 256 in
    (symbol_passes test Url (n / 262144) s.symbols (omega (arith, fits 0, fits 1)), (symbol_passes test Url (n / 4096 % 64) s.symbols (omega arith), (symbol_passes test Url (n / 64 % 64) s.symbols (omega arith), tt)))
spelled_passes test Standard (a ∷ b ∷ []) s fits =
    let n = a * 65536 + b * 256 in
    (symbol_passes test Standard (n / 262144) s.symbols (omega (arith, fits 0, fits 1)), (symbol_passes test Standard (n / 4096 % 64) s.symbols (omega arith), (symbol_passes test Standard (n / 64 % 64) s.symbols (omega arith), (s.padding refl, tt))))
spelled_passes test form (a ∷ b ∷ c ∷ rest) s fits =
    let n = a * 65536 + b * 256 + c in (
      symbol_passes test form (n / 262144) s.symbols (top_symbol a b c (fits 0) (fits 1) (fits 2)),
      (
        symbol_passes test form (n / 4096 % 64) s.symbols (low_symbol (n / 4096)),
        (
          symbol_passes test form (n / 64 % 64) s.symbols (low_symbol (n / 64)),
          (
            symbol_passes test form (n % 64) s.symbols (low_symbol n),
            spelled_passes test form rest s (λ i. fits (suc (suc (suc i)))),
          ),
        ),
      ),
    )

plain_symbols : (form : Form) → Symbols is_plain_byte form
plain_symbols Url = record { symbols = refl; padding = λ e. refl }
plain_symbols Standard = record { symbols = refl; padding = λ e. refl }

pub base64_bare : (form : Form) (text bytes : List ℕ) → B64 form text bytes → IsBare text
base64_bare form text bytes b = rw b.spelled (bare_plain (encoding form bytes) (spelled_passes is_plain_byte form bytes (plain_symbols form) b.fits))

-- base64url holds no `/`, `+` or `=`
url_only : Symbols (λ b. not (is_standard_byte b)) Url
url_only = record { symbols = refl; padding = λ e. absurd (cc) }

none_any : (test : ℕ → Bool) (bytes : List ℕ) → Passes (λ b. not (test b)) bytes → list_any test bytes ≡ false
none_any test [] h = refl
none_any test (b ∷ bs) h = rw (not-true (test b) h.0) (none_any test bs h.1)

pub url_standard : (text bytes : List ℕ) → B64 Url text bytes → list_any is_standard_byte text ≡ false
url_standard text bytes b = rw b.spelled (none_any is_standard_byte (encoding Url bytes) (spelled_passes (λ c. not (is_standard_byte c)) Url bytes url_only b.fits))
