-- Base64 (RFC 4648, sections 4 and 5): the encoding of bytes, by its two alphabets.
use Rattle.std.specs.Prelude.{◌≡◌, ℕ, ◌+◌, ◌*◌, ◌/◌, ◌%◌, ◌<◌, Bool, true, false, List, [], ◌∷◌, codes, slice_index}
use Rattle.picky_base64.specs.declared.Form.{Form}
use Rattle.picky_base64.specs.declared.Form.TheVariants.{Url, Standard}

-- the 64 symbols of base64url, and of standard base64
abbrev pub alphabet : Form → List ℕ
alphabet Url = codes "ABCDEFGHIJKLMNOPQRSTUVWXYZabcdefghijklmnopqrstuvwxyz0123456789-_"
alphabet Standard = codes "ABCDEFGHIJKLMNOPQRSTUVWXYZabcdefghijklmnopqrstuvwxyz0123456789+/"

-- the symbol of a number below 64
abbrev pub symbol : Form → ℕ → ℕ
symbol form n = slice_index (alphabet form) n

-- standard base64 is padded, base64url is not
abbrev pub pads : Form → Bool
pads Url = false
pads Standard = true

-- these `=` (61), where the form is padded
abbrev pub padding : Form → List ℕ → List ℕ
padding Url pad = []
padding Standard pad = pad

-- Three bytes are one number of 24 bits, and that is four symbols of six bits each, highest first.
-- At the end one byte or two are followed by zero bits.
unfoldable pub encoding : Form → List ℕ → List ℕ
encoding form [] = []
encoding form (a ∷ []) =
    let n = a * 65536 in
    symbol form (n / 262144) ∷ symbol form (n / 4096 % 64) ∷ padding form (61 ∷ 61 ∷ [])
encoding form (a ∷ b ∷ []) =
    let n = a * 65536 + b * 256 in
    symbol form (n / 262144) ∷ symbol form (n / 4096 % 64) ∷ symbol form (n / 64 % 64) ∷ padding form (61 ∷ [])
encoding form (a ∷ b ∷ c ∷ rest) =
    let n = a * 65536 + b * 256 + c in
    symbol form (n / 262144) ∷ symbol form (n / 4096 % 64) ∷ symbol form (n / 64 % 64) ∷ symbol form (n % 64) ∷ encoding form rest

abbrev pub AreBytes : List ℕ → Type 0
AreBytes bytes = (i : ℕ) → slice_index bytes i < 256

-- text is the encoding of bytes, in this form: the one spelling of them
pub record B64 (form : Form) (text bytes : List ℕ) : Type 0 where
  pub spelled : text ≡ encoding form bytes
  pub fits : AreBytes bytes
