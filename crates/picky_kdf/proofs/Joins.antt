-- One more part joined, and how long joined parts of one size are.
use Rattle.std.proofs.Common.{◌≡◌, ℕ, zero, suc, ◌+◌, ◌*◌, ◌<◌, ◌≤◌, List, ◌++◌, length, take, sym, ap, ◌∙◌, arith, add-one, length-append}
use Rattle.std.specs.Int.{div_ceil}
use Rattle.std.proofs.lemmas.Grind.{div_ceil_times}
use Rattle.std.proofs.lemmas.List.{append-nil, append_assoc, length-take-le}
use Rattle.picky_kdf.specs.Parts.{joined}

joined-suc : (part : ℕ → List ℕ) (first n : ℕ) → joined part first (suc n) ≡ joined part first n ++ part (first + n)
joined-suc part first zero = append-nil (part first) ∙ ap part (omega arith)
joined-suc part first (suc n) =
    let e : first + 1 + n ≡ first + suc n = omega arith in
    ap (λ t. part first ++ t) (joined-suc part (first + 1) n)
    ∙ sym (append_assoc (part first) (joined part (first + 1) n) (part (first + 1 + n)))
    ∙ ap (λ k. (part first ++ joined part (first + 1) n) ++ part k) e

pub joined_more : (part : ℕ → List ℕ) (first n k : ℕ) (before one : List ℕ) → before ≡ joined part first n → one ≡ part k → k ≡ first + n
    → before ++ one ≡ joined part first (n + 1)
joined_more part first n k before one eb eo ek =
    (λ i. eb i ++ (eo ∙ ap part ek) i) ∙ sym (joined-suc part first n) ∙ ap (joined part first) (sym (add-one n))

-- all the parts joined
pub joined_to : (part : ℕ → List ℕ) (first n count m k size : ℕ) → n ≡ count → count ≡ div_ceil size m → m ≡ k → joined part first n ≡ joined part first (div_ceil size k)
joined_to part first n count m k size en ec ek = ap (joined part first) (en ∙ ec ∙ ap (λ j. div_ceil size j) ek)

-- a part more of one size
pub length_more : (key one : List ℕ) (n part : ℕ) → length key ≡ n * part → length one ≡ part → length (key ++ one) ≡ (n + 1) * part
length_more key one n part before size = length-append key one ∙ grind arith

-- the front of as many parts of one size as cover it
pub length_front : (key out : List ℕ) (n part size : ℕ) → 0 < part → n ≡ div_ceil size part → length key ≡ n * part → out ≡ take size key → length out ≡ size
length_front key out n part size some count sized front =
    let cover : size ≤ div_ceil size part * part = (div_ceil_times size part some).0 in
    let room : size ≤ length key = omega (arith, cover, sized ∙ ap (λ n. n * part) count) in
    ap length front ∙ length-take-le size key room
