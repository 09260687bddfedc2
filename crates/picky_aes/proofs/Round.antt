-- One round, with its steps given by equations.
use Rattle.std.proofs.Common.{◌≡◌, ℕ, ◌+◌, List, ap, ◌∙◌, add-one, sym}
use Rattle.picky_contract.specs.Sums.{add_bytes}
use Rattle.picky_aes.specs.Cipher.{cipher_under, mix_columns, round_key, rounds, shift_rows, sub_bytes}

pub rounds-first : (w s t a k : List ℕ) → a ≡ s → k ≡ round_key w 0 → t ≡ add_bytes a k → t ≡ rounds w s 0
unfolding rounds
rounds-first w s t a k ea ek et = et ∙ (λ i. add_bytes (ea i) (ek i))

pub rounds-next : (w s t k d : List ℕ) (r : ℕ) → t ≡ rounds w s r → k ≡ round_key w (r + 1)
    → d ≡ add_bytes (mix_columns (shift_rows (sub_bytes t))) k → d ≡ rounds w s (r + 1)
unfolding rounds
rounds-next w s t k d r et ek ed =
    ed ∙ (λ i. add_bytes (mix_columns (shift_rows (sub_bytes (et i)))) ((ek ∙ ap (round_key w) (add-one r)) i))
    ∙ ap (rounds w s) (sym (add-one r))

pub cipher-last : (w s t k d : List ℕ) (n r : ℕ) → r ≡ n → t ≡ rounds w s r → k ≡ round_key w (n + 1)
    → d ≡ add_bytes (shift_rows (sub_bytes t)) k → d ≡ cipher_under w n s
unfolding cipher_under
cipher-last w s t k d n r er et ek ed =
    ed ∙ (λ i. add_bytes (shift_rows (sub_bytes ((et ∙ ap (rounds w s) er) i))) (ek i))
