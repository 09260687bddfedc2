-- The encoding by 24 bits is the one by bytes that `base64` has.
use Rattle.std.proofs.Common.{◌≡◌, ℕ, suc, ◌+◌, ◌*◌, ◌/◌, ◌%◌, ◌<◌, cond, List, [], ◌∷◌, ◌++◌, ◌↔◌, Ok, Err, length, replicate, refl, sym, ap, ◌∙◌, arith}
use Rattle.base64.specs.Rfc4648.{encode_symbols, padding_len, encode}
use Rattle.base64.specs.GeneralPurpose.{engine_symbols, engine_padding, engine_config, config_padding, encode_of, decode_of, IsConsistent}
use Rattle.base64.specs.Engines.{standard, url_safe_no_pad}
use Rattle.base64.proofs.EngineFacts.{decode_of-encode_of}
use Rattle.base64.specs.declared.engine.general_purpose.GeneralPurpose.{GeneralPurpose}
use Rattle.base64.specs.declared.decode.DecodeError.{DecodeError}
use Rattle.picky_base64.specs.declared.Form.{Form}
use Rattle.picky_base64.specs.declared.Form.TheVariants.{Url, Standard}
use Rattle.picky_base64.specs.Base64.{alphabet, pads, symbol, encoding, AreBytes, B64}

-- the four numbers of six bits in three bytes
first : (a b c n : ℕ) → b < 256 → c < 256 → n ≡ a * 65536 + b * 256 + c → n / 262144 ≡ a / 4
first a b c n hb hc e = omega arith

second : (a b c n : ℕ) → b < 256 → c < 256 → n ≡ a * 65536 + b * 256 + c → n / 4096 % 64 ≡ a % 4 * 16 + b / 16
second a b c n hb hc e = omega arith

third : (a b c n : ℕ) → b < 256 → c < 256 → n ≡ a * 65536 + b * 256 + c → n / 64 % 64 ≡ b % 16 * 4 + c / 64
third a b c n hb hc e = omega arith

fourth : (a b c n : ℕ) → n ≡ a * 65536 + b * 256 + c → n % 64 ≡ c % 64
fourth a b c n e = omega arith

padding_more : (n : ℕ) → padding_len (suc (suc (suc n))) ≡ padding_len n
padding_more n = omega arith

-- the end of an encoding
abbrev tail : Form → ℕ → List ℕ
tail form n = cond (pads form) (replicate (padding_len n) 61) []

one : (form : Form) (a : ℕ) → symbol form (a * 65536 / 262144) ∷ symbol form (a * 65536 / 4096 % 64) ∷ tail form 1 ≡ symbol form (a / 4) ∷ symbol form (a % 4 * 16) ∷ tail form 1
one form a =
    let h : a * 65536 / 262144 ≡ a / 4 = omega arith in
    let k : a * 65536 / 4096 % 64 ≡ a % 4 * 16 = omega arith in
    rw (h, k) refl

two : (form : Form) (a b : ℕ) → b < 256
    → symbol form ((a * 65536 + b * 256) / 262144) ∷ symbol form ((a * 65536 + b * 256) / 4096 % 64) ∷ symbol form ((a * 65536 + b * 256) / 64 % 64) ∷ tail form 2
    ≡ symbol form (a / 4) ∷ symbol form (a % 4 * 16 + b / 16) ∷ symbol form (b % 16 * 4) ∷ tail form 2
two form a b lt =
    let h = first a b 0 (a * 65536 + b * 256) lt (omega arith) (omega arith) in
    let k = second a b 0 (a * 65536 + b * 256) lt (omega arith) (omega arith) in
    let l : (a * 65536 + b * 256) / 64 % 64 ≡ b % 16 * 4 = omega arith in
    rw (h, k, l) refl

pub encode_lem : (form : Form) (m : List ℕ) → AreBytes m → encoding form m ≡ encode (alphabet form) 61 (pads form) m
unfolding encoding encode_symbols
encode_lem Url [] fits = refl
encode_lem Standard [] fits = refl
encode_lem Url (a ∷ []) fits = one Url a
encode_lem Standard (a ∷ []) fits = one Standard a
encode_lem Url (a ∷ b ∷ []) fits = two Url a b (fits 1)
encode_lem Standard (a ∷ b ∷ []) fits = two Standard a b (fits 1)
encode_lem form (a ∷ b ∷ c ∷ rest) fits =
    let n = a * 65536 + b * 256 + c in
    let again : encoding form rest ≡ encode_symbols (alphabet form) rest ++ tail form (length rest) = encode_lem form rest (λ i. fits (suc (suc (suc i)))) in
    rw (first a b c (a * 65536 + b * 256 + c) (fits 1) (fits 2) refl, second a b c (a * 65536 + b * 256 + c) (fits 1) (fits 2) refl, third a b c (a * 65536 + b * 256 + c) (fits 1) (fits 2) refl, fourth a b c (a * 65536 + b * 256 + c) refl, again, padding_more (length rest)) refl

-- an engine of a form writes its encoding
pub encode_of_lem : (form : Form) (e : GeneralPurpose) (m : List ℕ) → engine_symbols e ≡ alphabet form → engine_padding e ≡ 61 → config_padding (engine_config e) ≡ pads form
    → AreBytes m → encode_of e m ≡ encoding form m
encode_of_lem form e m symbols pad config fits = rw (symbols, pad, config) (sym (encode_lem form m fits))

-- what a strict engine refuses is no encoding
pub refused : (form : Form) (e : GeneralPurpose) (text : List ℕ) (d : DecodeError) → engine_symbols e ≡ alphabet form → engine_padding e ≡ 61 → config_padding (engine_config e) ≡ pads form
    → ((b : List ℕ) → AreBytes b → (decode_of e text ≡ Ok b) ↔ (text ≡ encode_of e b)) → decode_of e text ≡ Err d → (b : List ℕ) → ¬ (B64 form text b)
refused form e text d symbols pad config strict err b is =
    let spelled : text ≡ encode_of e b = is.spelled ∙ sym (encode_of_lem form e b symbols pad config is.fits) in
    let ok : decode_of e text ≡ Ok b = (strict b is.fits).1 spelled in
    let clash : Err d ≡ Ok b = sym err ∙ ok in
    cc

-- what a strict engine decodes is the only reading
pub only : (form : Form) (e : GeneralPurpose) (text b : List ℕ) → engine_symbols e ≡ alphabet form → engine_padding e ≡ 61 → config_padding (engine_config e) ≡ pads form
    → ((b : List ℕ) → AreBytes b → (decode_of e text ≡ Ok b) ↔ (text ≡ encode_of e b)) → decode_of e text ≡ Ok b → (x : List ℕ) → B64 form text x → x ≡ b
only form e text b symbols pad config strict ok x is =
    let spelled : text ≡ encode_of e x = is.spelled ∙ sym (encode_of_lem form e x symbols pad config is.fits) in
    let also : decode_of e text ≡ Ok x = (strict x is.fits).1 spelled in
    let same : Ok x ≡ Ok b = sym also ∙ ok in
    cc

-- a text spells one list of bytes
spelled_once : (form : Form) (e : GeneralPurpose) (a b : List ℕ) → engine_symbols e ≡ alphabet form → engine_padding e ≡ 61 → config_padding (engine_config e) ≡ pads form
    → IsConsistent e → AreBytes a → AreBytes b → encoding form a ≡ encoding form b → b ≡ a
spelled_once form e a b symbols pad config consistent fa fb same =
    let written : encode_of e a ≡ encode_of e b = encode_of_lem form e a symbols pad config fa ∙ same ∙ sym (encode_of_lem form e b symbols pad config fb) in
    let both : Ok b ≡ Ok a = sym (decode_of-encode_of e b consistent fb) ∙ ap (decode_of e) (sym written) ∙ decode_of-encode_of e a consistent fa in
    cc

-- a text spells one list of bytes at most
pub once : (form : Form) (text a b : List ℕ) → B64 form text a → B64 form text b → b ≡ a
once Url text a b is also = spelled_once Url url_safe_no_pad a b refl refl refl refl is.fits also.fits (sym is.spelled ∙ also.spelled)
once Standard text a b is also = spelled_once Standard standard a b refl refl refl refl is.fits also.fits (sym is.spelled ∙ also.spelled)
