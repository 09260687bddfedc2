-- A chain of blocks is determined by its plain blocks and the block before it.
use Rattle.std.proofs.Common.{◌≡◌, ℕ, zero, suc, ◌+◌, ◌*◌, ◌/◌, ◌<◌, ◌≤◌, List, ◌++◌, length, take, drop, sym, ap, ◌∙◌, arith}
use Rattle.std.proofs.Math.Nat.{div-add-mod}
use Rattle.std.proofs.Math.Seq.{take-add}
use Rattle.std.proofs.lemmas.List.{append_assoc, length-append, length-take-le, take-append-drop, take_all}
use Rattle.picky_contract.specs.Sums.{add_bytes}
use Rattle.picky_modes.specs.Blocks.{block}
use Rattle.picky_modes.specs.Cbc.{IsCbc, IsChained, padded}
use Rattle.picky_modes.proofs.BlockLemmas.{block-front, block-is}
use Rattle.picky_modes.proofs.Padding.{whole-padded}

-- the block before block k lies in front of it
block-before : (v : ℕ) (iv sealed : List ℕ) (k : ℕ) → length iv ≡ v → v * k ≤ length sealed → block v (iv ++ sealed) k ≡ block v (iv ++ take (v * k) sealed) k
block-before v iv sealed k hi fits =
    let size : v * k + v ≤ length (iv ++ take (v * k) sealed) = omega (arith, length-append iv (take (v * k) sealed), length-take-le (v * k) sealed fits) in
    ap (λ s. block v (iv ++ s) k) (sym (take-append-drop (v * k) sealed)) ∙ ap (λ s. block v s k) (sym (append_assoc iv (take (v * k) sealed) (drop (v * k) sealed)))
    ∙ block-front v (iv ++ take (v * k) sealed) (drop (v * k) sealed) k size

take-blocks : (v : ℕ) (xs : List ℕ) (k : ℕ) → take (v * suc k) xs ≡ take (v * k) xs ++ block v xs k
take-blocks v xs k =
    let next : v * suc k ≡ v * k + v = omega arith in
    ap (λ n. take n xs) next ∙ take-add (v * k) v xs ∙ ap (λ b. take (v * k) xs ++ b) (sym (block-is v xs k))

same-front : (e : List ℕ → List ℕ) (v : ℕ) (iv plain one other : List ℕ) (k : ℕ) → 0 < v → length iv ≡ v → v * k ≤ length plain → IsChained e v iv plain one → IsChained e v iv plain other
    → take (v * k) one ≡ take (v * k) other
same-front e v iv plain one other zero pos hi fits h g =
    let none : v * 0 ≡ 0 = omega arith in
    ap (λ n. take n one) none ∙ ap (λ n. take n other) (sym none)
same-front e v iv plain one other (suc k) pos hi fits h g =
    let inside : v * k + v ≤ length plain = omega arith in
    let before : take (v * k) one ≡ take (v * k) other = same-front e v iv plain one other k pos hi (omega arith) h g in
    let low : v * k ≤ length one = omega (arith, h.size) in
    let low_other : v * k ≤ length other = omega (arith, g.size) in
    let last : block v (iv ++ one) k ≡ block v (iv ++ other) k =
    block-before v iv one k hi low ∙ ap (λ s. block v (iv ++ s) k) before ∙ sym (block-before v iv other k hi low_other) in
    let link : block v one k ≡ block v other k =
    h.links k (omega (arith, h.size)) ∙ ap (λ b. e (add_bytes (block v plain k) b)) last ∙ sym (g.links k (omega (arith, g.size))) in
    take-blocks v one k ∙ (λ i. before i ++ link i) ∙ sym (take-blocks v other k)

pub IsCbc-one : (e : List ℕ → List ℕ) (v : ℕ) (iv text one other : List ℕ) → 0 < v → length iv ≡ v → IsCbc e v iv text one → IsCbc e v iv text other → one ≡ other
IsCbc-one e v iv text one other pos hi h g =
    let n : ℕ = length (padded v text) in
    let whole : v * (n / v) ≡ n = omega (arith, div-add-mod n v, (whole-padded v text pos).whole) in
    let same = same-front e v iv (padded v text) one other (n / v) pos hi (omega arith) h g in
    sym (take_all (v * (n / v)) one (omega (arith, h.size))) ∙ same ∙ take_all (v * (n / v)) other (omega (arith, g.size))
