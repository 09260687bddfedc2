-- Texts without comma, double quote and outer white space, and the quotes around them.
use Rattle.std.proofs.Common.{◌≡◌, ◌≢◌, ℕ, ◌<◌, ◌≤◌, Bool, true, false, cond, not, ◌&&◌, ◌||◌, ◌==◌, nat_lt, nat_le, List, [], ◌∷◌, ◌++◌, length, refl, sym, ◌∙◌, ap, subst, arith, lit<, append-nil, length-append, IsUtf8, IsAscii, encode_utf8_all}
use Rattle.std.specs.List.{AllByRecursion, list_all}
use Rattle.std.specs.Str.{chars, trim, trim_start, trim_end, skip_leading_whitespace, drop_trailing_whitespace}
use Rattle.std.specs.Char.{is_whitespace}
use Rattle.std.proofs.lemmas.Bool.{false≢true}
use Rattle.std.proofs.lemmas.Str.{encodes-chars, chars-IsAscii, chars-append, IsUtf8-append, IsUtf8-from_ascii, IsUtf8-nil}
use Rattle.std.proofs.lemmas.Str.Ascii.{IsAscii-cons, IsAscii-nil, IsAscii-from_all}
use Rattle.std.proofs.lemmas.List.Elements.{All-from_recursion, All-cons, All-push, All-head}
use Rattle.picky_contract.specs.Text.{Lacks}
use Rattle.picky_contract.specs.laws.Cuts.{lacks-inside}
use Rattle.picky_http_text.specs.Clean.{IsUnquoted, IsClean}
use Rattle.picky_http.specs.Printing.{IsBare, quoted}

-- ---- tests that hold of each byte

abbrev pub Passes : (ℕ → Bool) → List ℕ → Type 0
Passes test bytes = AllByRecursion (λ (b : ℕ). test b ≡ true) bytes

pub both_are : (s t : Bool) → (s && t) ≡ true → (s ≡ true) × (t ≡ true)
both_are true t h = (refl, h)
both_are false t h = absurd (false≢true h)

-- of the bytes of a literal, by computing
pub passes_from : (test : ℕ → Bool) (bytes : List ℕ) → list_all test bytes ≡ true → Passes test bytes
passes_from test [] h = tt
passes_from test (b ∷ bs) h = let r = both_are (test b) (list_all test bs) h in (r.0, passes_from test bs r.1)

pub passes_append : (test : ℕ → Bool) (xs ys : List ℕ) → Passes test xs → Passes test ys → Passes test (xs ++ ys)
passes_append test [] ys h k = k
passes_append test (x ∷ xs) ys h k = (h.0, passes_append test xs ys h.1 k)

pub passes_also : (p q : ℕ → Bool) (bytes : List ℕ) → ((b : ℕ) → p b ≡ true → q b ≡ true) → Passes p bytes → Passes q bytes
passes_also p q [] f h = tt
passes_also p q (b ∷ bs) f h = (f b h.0, passes_also p q bs f h.1)

-- a byte that passes isn't one that fails
without_from : (test : ℕ → Bool) (c : ℕ) (bytes : List ℕ) → test c ≡ false → Passes test bytes → AllByRecursion (λ (b : ℕ). b ≢ c) bytes
without_from test c [] k h = tt
without_from test c (b ∷ bs) k h = (λ e. false≢true (sym k ∙ ap test (sym e) ∙ h.0), without_from test c bs k h.1)

pub passes_lack : (test : ℕ → Bool) (c : ℕ) (bytes : List ℕ) → test c ≡ false → Passes test bytes → Lacks c bytes
passes_lack test c bytes k h = All-from_recursion (λ (b : ℕ). b ≢ c) bytes (without_from test c bytes k h)

-- ---- what is trimmed already

-- no white space at either end
pub record IsFramed (cs : List ℕ) : Type 0 where
  pub first : ℕ
  pub more : List ℕ
  pub begins : cs ≡ first ∷ more
  pub first_shows : is_whitespace first ≡ false
  pub front : List ℕ
  pub last : ℕ
  pub ends : cs ≡ front ++ last ∷ []
  pub last_shows : is_whitespace last ≡ false

skip_kept : (cs : List ℕ) → IsFramed cs → skip_leading_whitespace cs ≡ cs
skip_kept cs f =
    ap skip_leading_whitespace f.begins
    ∙ ap (λ (t : Bool). cond t (skip_leading_whitespace f.more) (f.first ∷ f.more)) f.first_shows
    ∙ sym f.begins

-- the test says whether x is white space, and l is what stays of the characters behind it
stays : (test : Bool) (x c : ℕ) (cs l : List ℕ) → l ≡ cs ++ c ∷ [] → cond (test && length l == 0) [] (x ∷ l) ≡ x ∷ (cs ++ c ∷ [])
stays false x c cs l e = ap (λ (k : List ℕ). x ∷ k) e
stays true x c cs l e =
    let full : (length l == 0) ≡ false = let n = ap length e ∙ length-append cs (c ∷ []) in grind arith in
    ap (λ (t : Bool). cond t [] (x ∷ l)) full ∙ ap (λ (k : List ℕ). x ∷ k) e

drop_at_last : (c : ℕ) (cs : List ℕ) → is_whitespace c ≡ false → drop_trailing_whitespace (cs ++ c ∷ []) ≡ cs ++ c ∷ []
drop_at_last c [] h = ap (λ (t : Bool). cond (t && length (drop_trailing_whitespace []) == 0) [] (c ∷ [])) h
drop_at_last c (x ∷ cs) h = stays (is_whitespace x) x c cs (drop_trailing_whitespace (cs ++ c ∷ [])) (drop_at_last c cs h)

drop_kept : (cs : List ℕ) → IsFramed cs → drop_trailing_whitespace cs ≡ cs
drop_kept cs f = ap drop_trailing_whitespace f.ends ∙ drop_at_last f.last f.front f.last_shows ∙ sym f.ends

pub trim_kept : (bytes : List ℕ) → IsUtf8 bytes → IsFramed (chars bytes) → trim bytes ≡ bytes
unfolding trim_start trim_end
trim_kept bytes u f =
    let start : trim_start bytes ≡ bytes = ap encode_utf8_all (skip_kept (chars bytes) f) ∙ encodes-chars bytes u in
    let end : trim_end bytes ≡ bytes = ap encode_utf8_all (drop_kept (chars bytes) f) ∙ encodes-chars bytes u in
    ap trim_end start ∙ end

-- ---- texts of plain bytes

-- a byte of ASCII that shows, but for comma and double quote
abbrev pub is_plain_byte : ℕ → Bool
is_plain_byte b = nat_le 33 b && (nat_lt b 127 && (not (b == 44) && not (b == 34)))

-- such a byte or a space
abbrev pub is_line_byte : ℕ → Bool
is_line_byte b = b == 32 || is_plain_byte b

plain_range : (b : ℕ) → is_plain_byte b ≡ true → (33 ≤ b) × (b < 127)
plain_range b h = (grind arith, grind arith)

above_13 : (b : ℕ) → 33 ≤ b → (nat_lt 8 b && nat_lt b 14) ≡ false
above_13 b h = grind arith

below_8192 : (b : ℕ) → b < 127 → (nat_lt 8191 b && nat_lt b 8203) ≡ false
below_8192 b h = grind arith

pub is_other : (b c : ℕ) → b ≢ c → (b == c) ≡ false
is_other b c h = grind arith

pub shows : (b : ℕ) → is_plain_byte b ≡ true → is_whitespace b ≡ false
shows b h =
    let range = plain_range b h in
    rw (above_13 b range.0, is_other b 32 (omega arith), is_other b 133 (omega arith), is_other b 160 (omega arith), is_other b 5760 (omega arith), below_8192 b range.1, is_other b 8232 (omega arith), is_other b 8233 (omega arith), is_other b 8239 (omega arith), is_other b 8287 (omega arith), is_other b 12288 (omega arith)) refl

line_ascii : (b : ℕ) → is_line_byte b ≡ true → b < 128
line_ascii b h = grind arith

pub plain_line : (b : ℕ) → is_plain_byte b ≡ true → is_line_byte b ≡ true
plain_line b h = grind arith

bytes_ascii : (bytes : List ℕ) → Passes is_line_byte bytes → AllByRecursion (λ (b : ℕ). b < 128) bytes
bytes_ascii [] h = tt
bytes_ascii (b ∷ bs) h = (line_ascii b h.0, bytes_ascii bs h.1)

pub line_is_ascii : (bytes : List ℕ) → Passes is_line_byte bytes → IsAscii bytes
line_is_ascii bytes h = IsAscii-from_all bytes (All-from_recursion (λ (b : ℕ). b < 128) bytes (bytes_ascii bytes h))

pub bare_line : (bytes : List ℕ) → Passes is_line_byte bytes → IsFramed bytes → IsBare bytes
bare_line bytes h f =
    let ascii = line_is_ascii bytes h in
    let utf8 = IsUtf8-from_ascii bytes ascii in
    record {
      utf8 = utf8;
      no_comma = passes_lack is_line_byte 44 bytes refl h;
      no_quote = passes_lack is_line_byte 34 bytes refl h;
      trimmed = trim_kept bytes utf8 (subst IsFramed (sym (chars-IsAscii bytes ascii)) f);
    }

-- the last byte
ends_in : (b : ℕ) (bs : List ℕ) → Passes is_plain_byte (b ∷ bs) → (front : List ℕ) × (last : ℕ) × (b ∷ bs ≡ front ++ last ∷ []) × (is_plain_byte last ≡ true)
ends_in b [] h = ([], b, refl, h.0)
ends_in b (c ∷ cs) h = let (front, last, e, is) = ends_in c cs h.1 in (b ∷ front, last, ap (λ (t : List ℕ). b ∷ t) e, is)

pub plain_framed : (b : ℕ) (bs : List ℕ) → Passes is_plain_byte (b ∷ bs) → IsFramed (b ∷ bs)
plain_framed b bs h =
    let (front, last, e, is) = ends_in b bs h in
    record { first = b; more = bs; begins = refl; first_shows = shows b h.0; front = front; last = last; ends = e; last_shows = shows last is }

nothing_trimmed : trim [] ≡ []
unfolding trim_start trim_end chars
nothing_trimmed = refl

pub bare_plain : (bytes : List ℕ) → Passes is_plain_byte bytes → IsBare bytes
bare_plain [] h = record {
  utf8 = IsUtf8-nil;
  no_comma = passes_lack is_plain_byte 44 [] refl tt;
  no_quote = passes_lack is_plain_byte 34 [] refl tt;
  trimmed = nothing_trimmed;
}
bare_plain (b ∷ bs) h = bare_line (b ∷ bs) (passes_also is_plain_byte is_line_byte (b ∷ bs) plain_line h) (plain_framed b bs h)

-- ---- a value between quotes

quote_utf8 : IsUtf8 (34 ∷ [])
quote_utf8 = IsUtf8-from_ascii (34 ∷ []) (IsAscii-cons 34 [] (lit< tt) IsAscii-nil)

quote_char : chars (34 ∷ []) ≡ 34 ∷ []
unfolding chars
quote_char = refl

quoted_chars : (value : List ℕ) → IsUtf8 value → chars (34 ∷ (value ++ 34 ∷ [])) ≡ 34 ∷ (chars value ++ 34 ∷ [])
quoted_chars value u =
    chars-append (34 ∷ []) (value ++ 34 ∷ []) quote_utf8
    ∙ ap (λ (t : List ℕ). t ++ chars (value ++ 34 ∷ [])) quote_char
    ∙ ap (λ (t : List ℕ). 34 ∷ t) (chars-append value (34 ∷ []) u ∙ ap (λ (t : List ℕ). chars value ++ t) quote_char)

pub quoted_trimmed : (legacy : Bool) (value : List ℕ) → IsBare value → trim (quoted legacy value) ≡ quoted legacy value
quoted_trimmed true value b = b.trimmed
quoted_trimmed false value b =
    let utf8 = IsUtf8-append (34 ∷ []) (value ++ 34 ∷ []) quote_utf8 (IsUtf8-append value (34 ∷ []) b.utf8 quote_utf8) in
    trim_kept (34 ∷ (value ++ 34 ∷ [])) utf8 (record {
      first = 34;
      more = chars value ++ 34 ∷ [];
      begins = quoted_chars value b.utf8;
      first_shows = refl;
      front = 34 ∷ chars value;
      last = 34;
      ends = quoted_chars value b.utf8;
      last_shows = refl;
    })

pub quoted_no_comma : (legacy : Bool) (value : List ℕ) → IsBare value → Lacks 44 (quoted legacy value)
quoted_no_comma true value b = b.no_comma
quoted_no_comma false value b = All-cons (λ (x : ℕ). x ≢ 44) 34 (value ++ 34 ∷ []) (omega arith) (All-push (λ (x : ℕ). x ≢ 44) value 34 b.no_comma (omega arith))

no_first : (value more : List ℕ) → Lacks 34 value → value ≢ 34 ∷ more
no_first value more h e = All-head (λ (x : ℕ). x ≢ 34) 34 more (subst (Lacks 34) e h) refl

no_last : (value more : List ℕ) → Lacks 34 value → value ≢ more ++ 34 ∷ []
no_last value more h e = lacks-inside 34 more [] (subst (Lacks 34) e h)

unquoted : (legacy : Bool) (value : List ℕ) → IsBare value → IsUnquoted (quoted legacy value) value
unquoted true value b = record { before = 0; after = 0; cut = sym (append-nil value); no_quote_first = λ more. no_first value more b.no_quote; no_quote_last = λ more. no_last value more b.no_quote }
unquoted false value b = record { before = 1; after = 1; cut = refl; no_quote_first = λ more. no_first value more b.no_quote; no_quote_last = λ more. no_last value more b.no_quote }

-- what is quoted is cleaned to itself
pub quoted_clean : (legacy : Bool) (value : List ℕ) → IsBare value → IsClean (quoted legacy value) value
quoted_clean legacy value b = (value, unquoted legacy value b, sym b.trimmed)
