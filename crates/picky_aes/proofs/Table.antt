-- What holds of each byte, by computing.
use Rattle.std.proofs.Common.{◌≡◌, ℕ, ◌<◌, true, nat_eq, nat_lt, slice_index, refl, sym, ap, subst, ◌∙◌}
use Rattle.std.proofs.lemmas.Bool.{agree_below, agree_below_at, eqb-true, ltb-true}
use Rattle.picky_aes.specs.Field.{inverse, substitute}
use Rattle.picky_aes.specs.declared.tables.TheConstants.{INVERSE_SBOX, SBOX}

-- two functions that agree on all bytes
pub at_bytes : (f g : ℕ → ℕ) → agree_below (λ b. nat_eq (f b) (g b)) (λ b. true) 256 ≡ true → (b : ℕ) → b < 256 → f b ≡ g b
at_bytes f g all b h = eqb-true _ _ (agree_below_at (λ b. nat_eq (f b) (g b)) (λ b. true) 256 b all h)

pub SBOX-substitute : (b : ℕ) → b < 256 → slice_index SBOX b ≡ substitute b
unfolding substitute inverse
SBOX-substitute = at_bytes (λ b. slice_index SBOX b) substitute refl

-- the entries of the tables alone: from here on the S-box of the definition isn't computed again
SBOX-lt : (b : ℕ) → b < 256 → slice_index SBOX b < 256
SBOX-lt b h = ltb-true _ _ (agree_below_at (λ b. nat_lt (slice_index SBOX b) 256) (λ b. true) 256 b refl h)

pub INVERSE_SBOX-lt : (b : ℕ) → b < 256 → slice_index INVERSE_SBOX b < 256
INVERSE_SBOX-lt b h = ltb-true _ _ (agree_below_at (λ b. nat_lt (slice_index INVERSE_SBOX b) 256) (λ b. true) 256 b refl h)

SBOX-INVERSE_SBOX : (b : ℕ) → b < 256 → slice_index SBOX (slice_index INVERSE_SBOX b) ≡ b
SBOX-INVERSE_SBOX = at_bytes (λ b. slice_index SBOX (slice_index INVERSE_SBOX b)) (λ b. b) refl

INVERSE_SBOX-SBOX : (b : ℕ) → b < 256 → slice_index INVERSE_SBOX (slice_index SBOX b) ≡ b
INVERSE_SBOX-SBOX = at_bytes (λ b. slice_index INVERSE_SBOX (slice_index SBOX b)) (λ b. b) refl

pub INVERSE_SBOX-substitute : (b : ℕ) → b < 256 → substitute (slice_index INVERSE_SBOX b) ≡ b
INVERSE_SBOX-substitute b h = sym (SBOX-substitute (slice_index INVERSE_SBOX b) (INVERSE_SBOX-lt b h)) ∙ SBOX-INVERSE_SBOX b h

pub substitute-INVERSE_SBOX : (b : ℕ) → b < 256 → slice_index INVERSE_SBOX (substitute b) ≡ b
substitute-INVERSE_SBOX b h = ap (slice_index INVERSE_SBOX) (sym (SBOX-substitute b h)) ∙ INVERSE_SBOX-SBOX b h

pub substitute-lt : (b : ℕ) → b < 256 → substitute b < 256
substitute-lt b h = subst (λ s. s < 256) (SBOX-substitute b h) (SBOX-lt b h)
