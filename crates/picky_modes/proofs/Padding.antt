-- A padded text, its length and its padding.
use Rattle.std.proofs.Common.{◌≡◌, ℕ, ◌+◌, ◌-◌, ◌*◌, ◌/◌, ◌%◌, ◌<◌, ◌≤◌, List, ◌++◌, length, take, drop, get_or, replicate, refl, sym, ap, ◌∙◌, arith, inl, inr}
use Rattle.std.proofs.Math.Nat.{div-add-mod, mod-eq_of_lt, mul-add-mod_self_left}
use Rattle.std.proofs.lemmas.Bool.{cases_lt}
use Rattle.std.proofs.lemmas.Nat.{mod_below}
use Rattle.std.proofs.lemmas.List.{ext_get_or, get_or-append_right, get_or-drop, get_or-replicate, length-append, length-drop, length-replicate, length-take-le, take-append-drop}
use Rattle.picky_modes.specs.Cbc.{IsWholeBlocks, padded}

-- the number of padding bytes of a text of n bytes
abbrev pub pad : ℕ → ℕ → ℕ
pad v n = v - n % v

pub pad-range : (v n : ℕ) → 0 < v → (0 < pad v n) × (pad v n ≤ v)
pad-range v n pos =
    let lt : n % v < v = mod_below n v pos in
    (omega arith, omega arith)

pub length-padded : (v : ℕ) (text : List ℕ) → length (padded v text) ≡ length text + pad v (length text)
length-padded v text = length-append text (replicate (pad v (length text)) (pad v (length text))) ∙ ap (λ n. length text + n) (length-replicate (pad v (length text)) (pad v (length text)))

-- each byte behind the text is the number of padding bytes
pub get_or-padded : (v : ℕ) (plain text : List ℕ) (i : ℕ) → plain ≡ padded v text → length text ≤ i → i < length plain → get_or plain i 0 ≡ pad v (length text)
get_or-padded v plain text i e low high =
    let c : ℕ = pad v (length text) in
    let short : i - length text < c = omega (arith, ap length e, length-padded v text) in
    ap (λ s. get_or s i 0) e ∙ get_or-append_right text (replicate c c) (length text) i 0 refl low ∙ get_or-replicate c (i - length text) c 0 short

-- the last byte is the number of padding bytes
pub last-padded : (v : ℕ) (plain text : List ℕ) → 0 < v → plain ≡ padded v text → (get_or plain (length plain - 1) 0 ≡ pad v (length text)) × (length plain ≡ length text + pad v (length text))
last-padded v plain text pos e =
    let range = pad-range v (length text) pos in
    let size : length plain ≡ length text + pad v (length text) = ap length e ∙ length-padded v text in
    (get_or-padded v plain text (length plain - 1) e (omega arith) (omega arith), size)

-- one or more whole blocks hold a block
pub whole-size : (v n : ℕ) → 0 < n → n % v ≡ 0 → v ≤ n
whole-size v n some whole = elim (cases_lt n v) [
  | inl lt ↦ absurd (omega (arith, mod-eq_of_lt lt))
  | inr ge ↦ ge
]

-- a padded text is whole blocks
pub whole-padded : (v : ℕ) (text : List ℕ) → 0 < v → IsWholeBlocks v (length (padded v text))
whole-padded v text pos =
    let n : ℕ = length text in
    let range = pad-range v n pos in
    let lt : n % v < v = mod_below n v pos in
    let size : length (padded v text) ≡ v * (n / v + 1) + 0 = omega (arith, length-padded v text, div-add-mod n v) in
    record {
      some = omega (arith, length-padded v text);
      whole = ap (λ m. m % v) size ∙ mul-add-mod_self_left v (n / v + 1) 0 ∙ mod-eq_of_lt pos;
    }

-- m less c bytes want c bytes of padding, where m bytes are whole blocks
pub pad-back : (v m c : ℕ) → m % v ≡ 0 → 0 < c → c ≤ v → c ≤ m → pad v (m - c) ≡ c
pad-back v m c whole pos le small =
    let q : ℕ = m / v in
    let product : v * q ≡ m = omega (arith, div-add-mod m v) in
    let some : 0 < q = elim (cases_lt 0 q) [
      | inl lt ↦ lt
      | inr ge ↦
          let none : q ≡ 0 = omega arith in
          let nothing : v * q ≡ 0 = ap (λ n. v * n) none ∙ omega arith in
          absurd (omega arith)
    ] in
    let back : q ≡ q - 1 + 1 = omega arith in
    let split : v * q ≡ v * (q - 1) + v = ap (λ n. v * n) back ∙ omega arith in
    let parts : m - c ≡ v * (q - 1) + (v - c) = omega arith in
    let rest : (m - c) % v ≡ v - c = ap (λ n. n % v) parts ∙ mul-add-mod_self_left v (q - 1) (v - c) ∙ mod-eq_of_lt (omega arith) in
    omega arith

-- whole blocks that end in c bytes c are the padded rest
pub padded-back : (v : ℕ) (plain : List ℕ) (c : ℕ) → length plain % v ≡ 0 → 0 < c → c ≤ v → c ≤ length plain
    → ((i : ℕ) → length plain - c ≤ i → i < length plain → get_or plain i 0 ≡ c) → plain ≡ padded v (take (length plain - c) plain)
padded-back v plain c whole pos le small each =
    let n : ℕ = length plain - c in
    let front_size : length (take n plain) ≡ n = length-take-le n plain (omega arith) in
    let count : pad v (length (take n plain)) ≡ c = ap (pad v) front_size ∙ pad-back v (length plain) c whole pos le small in
    let rest_size : length (drop n plain) ≡ c = length-drop n plain ∙ omega arith in
    let rest : drop n plain ≡ replicate c c = ext_get_or 0 (drop n plain) (replicate c c) (rest_size ∙ sym (length-replicate c c))
    (λ i h. get_or-drop n plain i 0 ∙ each (n + i) (omega arith) (omega arith) ∙ sym (get_or-replicate c i c 0 (omega arith))) in
    sym (take-append-drop n plain) ∙ (λ i. take n plain ++ (rest ∙ ap (λ m. replicate m m) (sym count)) i)
