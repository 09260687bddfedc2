-- Blocks of one size, raised one after another in place.
use Rattle.std.proofs.Common.{◌≡◌, ℕ, zero, suc, ◌+◌, ◌*◌, ◌/◌, ◌<◌, ◌≤◌, List, ◌++◌, length, take, drop, refl, sym, ap, ◌∙◌, arith, length-append}
use Rattle.std.proofs.Math.Nat.{div-mul-le_self}
use Rattle.std.proofs.lemmas.List.{append-nil, append_assoc, drop-drop, drop_all, drop_at, length-drop, length-take-le, take_at}
use Rattle.std.proofs.lemmas.Nat.{row_fits}
use Rattle.picky_kdf.specs.Parts.{joined}
use Rattle.picky_kdf.specs.Pkcs12Kdf.{bytes_of, raised, raised_blocks}
use Rattle.picky_kdf.proofs.Joins.{joined_more}

pub length-bytes_of : (v n : ℕ) → length (bytes_of v n) ≡ v
length-bytes_of zero n = refl
length-bytes_of (suc v) n = ap suc (length-bytes_of v n)

pub length-raised : (v : ℕ) (b block : List ℕ) → length (raised v b block) ≡ v
unfolding raised
length-raised v b block = length-bytes_of v _

pub length-joined : (part : ℕ → List ℕ) (v : ℕ) → ((k : ℕ) → length (part k) ≡ v) → (first n : ℕ) → length (joined part first n) ≡ n * v
length-joined part v sized first zero = omega arith
length-joined part v sized first (suc n) =
    let one = sized first in
    let others = length-joined part v sized (first + 1) n in
    length-append (part first) (joined part (first + 1) n) ∙ grind arith

-- block k of a text, raised
abbrev pub raised_at : List ℕ → List ℕ → ℕ → ℕ → List ℕ
raised_at b old v k = raised v b (take v (drop (k * v) old))

pub blocks_more : (old text b ys : List ℕ) (j v k n : ℕ) → k ≡ v → n ≡ v
    → text ≡ joined (raised_at b old v) 0 j ++ drop (j * v) old → ys ≡ raised n b (take k (drop (j * v) text))
    → take (j * v) text ++ (ys ++ drop k (drop (j * v) text)) ≡ joined (raised_at b old v) 0 (j + 1) ++ drop ((j + 1) * v) old
blocks_more old text b ys j v k n ek en et ey =
    let done : List ℕ = joined (raised_at b old v) 0 j in
    let size : length done ≡ j * v = length-joined (raised_at b old v) v (λ i. length-raised v b _) 0 j in
    let front : take (j * v) text ≡ done = ap (take (j * v)) et ∙ take_at done (drop (j * v) old) (j * v) size in
    let rest : drop (j * v) text ≡ drop (j * v) old = ap (drop (j * v)) et ∙ drop_at done (drop (j * v) old) (j * v) size in
    let one : ys ≡ raised_at b old v j = ey ∙ (λ i. raised (en i) b (take (ek i) (rest i))) in
    let next : j * v + v ≡ (j + 1) * v = grind arith in
    (λ i. front i ++ (one i ++ drop (ek i) (rest i)))
    ∙ sym (append_assoc done (raised_at b old v j) (drop v (drop (j * v) old)))
    ∙ (λ i. joined_more (raised_at b old v) 0 j j done (raised_at b old v j) refl refl (omega arith) i ++ (drop-drop v (j * v) old ∙ ap (λ m. drop m old) next) i)

pub blocks_all : (old text b : List ℕ) (j v : ℕ) → j ≡ length old / v → length old ≡ length old / v * v → text ≡ joined (raised_at b old v) 0 j ++ drop (j * v) old → text ≡ raised_blocks v b old
unfolding raised_blocks
blocks_all old text b j v ej whole et =
    let past : length old ≤ j * v = omega (arith, whole ∙ ap (λ m. m * v) (sym ej)) in
    et ∙ ap (λ t. joined (raised_at b old v) 0 j ++ t) (drop_all (j * v) old past) ∙ append-nil _ ∙ ap (joined (raised_at b old v) 0) ej

-- the block j stands within the text
pub block_length : (text : List ℕ) (j v k len : ℕ) → length text ≡ len → j < len / v → k ≡ v → length (take k (drop (j * v) text)) ≡ v
block_length text j v k len el within ek =
    let room : j * v + v ≤ length text = omega (arith, row_fits j v (len / v) v within (omega arith), div-mul-le_self len v) in
    length-take-le k (drop (j * v) text) (omega (arith, length-drop (j * v) text)) ∙ ek
