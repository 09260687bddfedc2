-- A base64url text (RFC 4648, section 5) holds no dot, and that of some bytes isn't empty.
use Rattle.std.specs.Prelude.{◌≡◌, ◌≢◌, ℕ, zero, suc, ◌<◌, ◌*◌, ◌+◌, ◌/◌, ◌%◌, List, [], ◌∷◌, length, slice_index, ◌==◌, Bool, true, false, if◌then◌else◌}
use Rattle.std.proofs.Common.{arith, refl, sym, ◌∙◌, ap, true≢false}
use Rattle.std.proofs.lemmas.List.Elements.{All-nil, All-cons}
use Rattle.picky_contract.specs.Text.{Lacks}
use Rattle.picky_base64.specs.Base64.{encoding, symbol, alphabet}
use Rattle.picky_base64.specs.declared.Form.TheVariants.{Url}

-- no byte of the list is a dot
abbrev no_dot : List ℕ → Bool
no_dot [] = true
no_dot (b ∷ bs) = if b == 46 then false else no_dot bs

first_apart : (b : ℕ) (bs : List ℕ) → no_dot (b ∷ bs) ≡ true → b ≢ 46
first_apart b bs h is = true≢false (sym h ∙ ap (λ x. no_dot (x ∷ bs)) is)

rest_apart : (b : ℕ) (bs : List ℕ) → no_dot (b ∷ bs) ≡ true → no_dot bs ≡ true
rest_apart b bs h = grind (arith)

apart : (bs : List ℕ) → no_dot bs ≡ true → (i : ℕ) → slice_index bs i ≢ 46
apart [] h i = λ e. absurd (omega arith)
apart (b ∷ bs) h zero = first_apart b bs h
apart (b ∷ bs) h (suc i) = apart bs (rest_apart b bs h) i

-- no symbol of base64url is a dot
symbol_apart : (n : ℕ) → symbol Url n ≢ 46
symbol_apart n = apart (alphabet Url) refl n

none : Lacks 46 []
none = All-nil (λ b. b ≢ 46)

-- a symbol in front
more : (n : ℕ) (bs : List ℕ) → Lacks 46 bs → Lacks 46 (symbol Url n ∷ bs)
more n bs h = All-cons (λ b. b ≢ 46) (symbol Url n) bs (symbol_apart n) h

two : (m n : ℕ) (bs : List ℕ) → Lacks 46 bs → Lacks 46 (symbol Url m ∷ symbol Url n ∷ bs)
two m n bs h = more m (symbol Url n ∷ bs) (more n bs h)

pub lacks_dot : (bytes : List ℕ) → Lacks 46 (encoding Url bytes)
unfolding encoding
lacks_dot [] = none
lacks_dot (a ∷ []) = two (a * 65536 / 262144) (a * 65536 / 4096 % 64) [] none
lacks_dot (a ∷ b ∷ []) =
    let n = a * 65536 + b * 256 in
    more (n / 262144) (symbol Url (n / 4096 % 64) ∷ symbol Url (n / 64 % 64) ∷ []) (two (n / 4096 % 64) (n / 64 % 64) [] none)
lacks_dot (a ∷ b ∷ c ∷ rest) =
    let n = a * 65536 + b * 256 + c in
    two (n / 262144) (n / 4096 % 64) (symbol Url (n / 64 % 64) ∷ symbol Url (n % 64) ∷ encoding Url rest) (two (n / 64 % 64) (n % 64) (encoding Url rest) (lacks_dot rest))

-- some bytes have a text that isn't empty
pub some_text : (a : ℕ) (bytes : List ℕ) → 0 < length (encoding Url (a ∷ bytes))
unfolding encoding
some_text a [] = omega arith
some_text a (b ∷ []) = omega arith
some_text a (b ∷ c ∷ rest) = omega arith

pub encoding_some : (bytes : List ℕ) → 0 < length bytes → 0 < length (encoding Url bytes)
encoding_some [] h = absurd (omega arith)
encoding_some (a ∷ bytes) h = some_text a bytes
