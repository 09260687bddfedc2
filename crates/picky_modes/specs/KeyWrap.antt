-- Key wrap (RFC 3394, 2.2.1) under a block cipher e with blocks of 16 bytes: a list of 8-byte registers A, R[1], .., R[n] goes through 6n steps.
use Rattle.std.specs.Prelude.{ℕ, zero, suc, ◌+◌, ◌-◌, ◌*◌, ◌/◌, ◌%◌, List, ◌++◌, length, take, drop, replicate}
use Rattle.std.specs.Int.{to_be_bytes, w64}
use Rattle.picky_contract.specs.Sums.{add_bytes}
use Rattle.picky_modes.specs.Blocks.{block}

-- the register that step t of a wrap of n registers changes: 1, .., n, six times over
abbrev pub register : ℕ → ℕ → ℕ
register n t = (t - 1) % n + 1

-- the registers s with register i replaced by r
abbrev pub with_register : List ℕ → ℕ → List ℕ → List ℕ
with_register s i r = take (8 * i) s ++ r ++ drop (8 * i + 8) s

-- step t: B = e(A | R[i]), A = MSB(64, B) ^ t and R[i] = LSB(64, B)
abbrev pub wrap_step : (List ℕ → List ℕ) → ℕ → ℕ → List ℕ → List ℕ
wrap_step e n t s =
    let i : ℕ = register n t in
    let b : List ℕ = e (block 8 s 0 ++ block 8 s i) in
    with_register (with_register s i (drop 8 b)) 0 (add_bytes (take 8 b) (to_be_bytes w64 t))

-- the registers after t steps
unfoldable pub wrap_steps : (List ℕ → List ℕ) → ℕ → List ℕ → ℕ → List ℕ
wrap_steps e n s zero = s
wrap_steps e n s (suc t) = wrap_step e n (suc t) (wrap_steps e n s t)

-- the initial value of A (2.2.3.1)
abbrev pub initial_value : List ℕ
initial_value = replicate 8 0xA6

-- the wrapped key: the registers after 6n steps from the initial value and the key's n registers
unfoldable pub wrapped_key : (List ℕ → List ℕ) → List ℕ → List ℕ
wrapped_key e plain = wrap_steps e (length plain / 8) (initial_value ++ plain) (6 * (length plain / 8))
