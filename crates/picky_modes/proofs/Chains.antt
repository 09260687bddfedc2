-- A chain of blocks grows by a block, and loses its last one.
use Rattle.std.proofs.Common.{◌≡◌, ℕ, ◌+◌, ◌-◌, ◌*◌, ◌/◌, ◌%◌, ◌<◌, ◌≤◌, List, [], ◌++◌, length, take, drop, refl, sym, ap, ◌∙◌, arith, append_assoc, inl, inr}
use borrow.Rule.Slice.PartMut.{put_mid}
use Rattle.std.proofs.Math.Nat.{div-add-mod, mul-le-mul_left}
use Rattle.std.proofs.Math.Seq.{take-add}
use Rattle.std.proofs.lemmas.Bool.{cases_lt}
use Rattle.std.proofs.lemmas.Slice.{drop-put_mid, take-put_mid}
use Rattle.std.proofs.lemmas.List.{append-nil, drop-drop, length-append, length-drop, length-take-le, nil_from_length, take-append-drop, take_all}
use Rattle.picky_contract.specs.Sums.{add_bytes}
use Rattle.picky_modes.specs.Blocks.{IsBlock, IsBytes, block}
use Rattle.picky_modes.specs.Cbc.{IsChained}
use Rattle.picky_modes.proofs.BlockLemmas.{IsBytes-drop, IsBytes-take, block-front, block-is, block-last, length-block}

-- a chain of k blocks, and the sealed block at its end, which is iv where there is none
pub record Chain (e : List ℕ → List ℕ) (v : ℕ) (iv plain sealed last : List ℕ) (k : ℕ) : Type 0 where
  pub chained : IsChained e v iv plain sealed
  pub size : length sealed ≡ v * k
  pub end : last ≡ block v (iv ++ sealed) k

step : (v k : ℕ) → v * (k + 1) ≡ v * k + v
step v k = omega arith

-- a block below k ends within the first k blocks
pub within : (v j k : ℕ) → j < k → v * j + v ≤ v * k
within v j k h = omega (arith, mul-le-mul_left {m = j + 1} {n = k} v (omega arith), step v j)

-- a block that begins within the first k is below k
below : (v j k : ℕ) → v * j < v * k → j < k
below v j k h = elim (cases_lt j k) [
  | inl lt ↦ lt
  | inr ge ↦ absurd (omega (arith, mul-le-mul_left {m = k} {n = j} v ge))
]

pub Chain-none : (e : List ℕ → List ℕ) (v : ℕ) (iv : List ℕ) → length iv ≡ v → Chain e v iv [] [] iv 0
Chain-none e v iv h = record {
  chained = record { size = refl; links = λ k l. absurd (omega arith) };
  size = omega arith;
  end = sym (block-last v [] (iv ++ []) 0 (omega arith) (omega (arith, length-append iv [])) ∙ append-nil iv);
}

chain_size : (v : ℕ) (iv sealed : List ℕ) (k : ℕ) → length iv ≡ v → length sealed ≡ v * k → length (iv ++ sealed) ≡ v * (k + 1)
chain_size v iv sealed k hi hs = omega (arith, length-append iv sealed, step v k)

-- the block before block j, of a chain that a block is joined to
before-more : (v : ℕ) (iv sealed c : List ℕ) (k j : ℕ) → length iv ≡ v → length sealed ≡ v * k → j ≤ k → block v (iv ++ (sealed ++ c)) j ≡ block v (iv ++ sealed) j
before-more v iv sealed c k j hi hs le =
    let fits : v * j + v ≤ v * (k + 1) = within v j (k + 1) (omega arith) in
    let fits_front : v * j + v ≤ length (iv ++ sealed) = omega (arith, chain_size v iv sealed k hi hs) in
    ap (λ s. block v s j) (sym (append_assoc iv sealed c)) ∙ block-front v (iv ++ sealed) c j fits_front

link-front : (e : List ℕ → List ℕ) (v : ℕ) (iv plain sealed b c : List ℕ) (k j : ℕ) → length iv ≡ v → length sealed ≡ v * k → IsChained e v iv plain sealed → 0 < v → j < k
    → block v (sealed ++ c) j ≡ e (add_bytes (block v (plain ++ b) j) (block v (iv ++ (sealed ++ c)) j))
link-front e v iv plain sealed b c k j hi hs h pos lt =
    let fits : v * j + v ≤ v * k = within v j k lt in
    let fits_sealed : v * j + v ≤ length sealed = omega arith in
    let fits_plain : v * j + v ≤ length plain = omega (arith, h.size) in
    let inside : v * j < length sealed = omega arith in
    block-front v sealed c j fits_sealed ∙ h.links j inside
    ∙ ap e (λ i. add_bytes (sym (block-front v plain b j fits_plain) i) (sym (before-more v iv sealed c k j hi hs (omega arith)) i))

link-last : (e : List ℕ → List ℕ) (v : ℕ) (iv plain sealed last b c : List ℕ) (k : ℕ) → length iv ≡ v → Chain e v iv plain sealed last k → length b ≡ v → length c ≡ v
    → c ≡ e (add_bytes b last) → block v (sealed ++ c) k ≡ e (add_bytes (block v (plain ++ b) k) (block v (iv ++ (sealed ++ c)) k))
link-last e v iv plain sealed last b c k hi h hb hc made =
    let plain_size : length plain ≡ v * k = sym h.chained.size ∙ h.size in
    block-last v sealed c k h.size hc ∙ made
    ∙ ap e (λ i. add_bytes (sym (block-last v plain b k plain_size hb) i) ((h.end ∙ sym (before-more v iv sealed c k k hi h.size (omega arith))) i))

pub Chain-more : (e : List ℕ → List ℕ) (v : ℕ) (iv plain sealed last b c : List ℕ) (k : ℕ) → 0 < v → length iv ≡ v → Chain e v iv plain sealed last k
    → length b ≡ v → length c ≡ v → c ≡ e (add_bytes b last) → Chain e v iv (plain ++ b) (sealed ++ c) c (k + 1)
Chain-more e v iv plain sealed last b c k pos hi h hb hc made =
    let whole : length (sealed ++ c) ≡ v * (k + 1) = omega (arith, length-append sealed c, step v k, h.size) in
    record {
      chained = record {
        size = omega (arith, length-append sealed c, length-append plain b, h.chained.size);
        links = λ j l. elim (cases_lt j k) [
          | inl lt ↦ link-front e v iv plain sealed b c k j hi h.size h.chained pos lt
          | inr ge ↦
              let last_one : j ≡ k = omega (arith, below v j (k + 1) (omega arith)) in
              rw last_one (link-last e v iv plain sealed last b c k hi h hb hc made)
        ];
      };
      size = whole;
      end = sym (ap (λ s. block v s (k + 1)) (sym (append_assoc iv sealed c)) ∙ block-last v (iv ++ sealed) c (k + 1) (chain_size v iv sealed k hi h.size) hc);
    }

-- ---- the last block taken off
pub IsChained-front : (e : List ℕ → List ℕ) (v : ℕ) (iv plain sealed c : List ℕ) (k : ℕ) → length iv ≡ v → length sealed ≡ v * k → length c ≡ v
    → IsChained e v iv plain (sealed ++ c) → IsChained e v iv (take (v * k) plain) sealed
IsChained-front e v iv plain sealed c k hi hs hc h =
    let plain_size : length plain ≡ v * k + v = sym h.size ∙ omega (arith, length-append sealed c) in
    let front_size : length (take (v * k) plain) ≡ v * k = length-take-le (v * k) plain (omega arith) in
    record {
      size = hs ∙ sym front_size;
      links = λ j l.
          let lt : j < k = below v j k (omega arith) in
          let fits : v * j + v ≤ v * k = within v j k lt in
          let fits_sealed : v * j + v ≤ length sealed = omega arith in
          let fits_plain : v * j + v ≤ length (take (v * k) plain) = omega arith in
          let inside : v * j < length (sealed ++ c) = omega (arith, length-append sealed c) in
          let same : block v plain j ≡ block v (take (v * k) plain) j = ap (λ s. block v s j) (sym (take-append-drop (v * k) plain)) ∙ block-front v (take (v * k) plain) (drop (v * k) plain) j fits_plain in
          sym (block-front v sealed c j fits_sealed) ∙ h.links j inside
          ∙ ap e (λ i. add_bytes (same i) (before-more v iv sealed c k j hi hs (omega arith) i));
    }

pub IsChained-last : (e : List ℕ → List ℕ) (v : ℕ) (iv plain sealed last c : List ℕ) (k : ℕ) → 0 < v → length iv ≡ v → length sealed ≡ v * k → length c ≡ v → last ≡ block v (iv ++ sealed) k
    → IsChained e v iv plain (sealed ++ c) → e (add_bytes (drop (v * k) plain) last) ≡ c
IsChained-last e v iv plain sealed last c k pos hi hs hc el h =
    let plain_size : length plain ≡ v * k + v = sym h.size ∙ omega (arith, length-append sealed c) in
    let inside : v * k < length (sealed ++ c) = omega (arith, length-append sealed c) in
    let rest : block v plain k ≡ drop (v * k) plain = block-is v plain k ∙ take_all v (drop (v * k) plain) (omega (arith, length-drop (v * k) plain)) in
    ap e (λ i. add_bytes (sym rest i) ((el ∙ sym (before-more v iv sealed c k k hi hs (omega arith))) i))
    ∙ sym (h.links k inside) ∙ block-last v sealed c k hs hc

-- the plain blocks of a longer chain are known, where those of the shorter one are and one block fits
pub only-more : (e : List ℕ → List ℕ) (v : ℕ) (iv front sealed last b c : List ℕ) (k : ℕ) → 0 < v → length iv ≡ v → length sealed ≡ v * k → length c ≡ v → last ≡ block v (iv ++ sealed) k
    → ((plain : List ℕ) → IsBytes plain → IsChained e v iv plain sealed → plain ≡ front)
    → ((x : List ℕ) → IsBlock v x → e (add_bytes x last) ≡ c → x ≡ b)
    → (plain : List ℕ) → IsBytes plain → IsChained e v iv plain (sealed ++ c) → plain ≡ front ++ b
only-more e v iv front sealed last b c k pos hi hs hc el before alone plain bytes h =
    let plain_size : length plain ≡ v * k + v = sym h.size ∙ omega (arith, length-append sealed c) in
    let rest : IsBlock v (drop (v * k) plain) = record {
      size = length-drop (v * k) plain ∙ omega arith;
      bytes = IsBytes-drop (v * k) plain bytes;
    } in
    let same_front = before (take (v * k) plain) (IsBytes-take (v * k) plain bytes) (IsChained-front e v iv plain sealed c k hi hs hc h) in
    let same_rest = alone (drop (v * k) plain) rest (IsChained-last e v iv plain sealed last c k pos hi hs hc el h) in
    sym (take-append-drop (v * k) plain) ∙ (λ i. same_front i ++ same_rest i)

-- ---- loops over the blocks of a buffer
-- what a write to block k of a buffer leaves in front of it and behind it
take-written : (v : ℕ) (now c : List ℕ) (k w : ℕ) → v * k + v ≤ length now → length c ≡ v → take (v * (k + 1)) (put_mid (v * k) w now c) ≡ take (v * k) now ++ c
take-written v now c k w fits hc = take-put_mid (v * k) w now c (v * (k + 1)) (omega (arith, step v k)) (omega arith)

drop-written : (v : ℕ) (old now c : List ℕ) (k w : ℕ) → v * k + v ≤ length now → length c ≡ v → w ≡ v → drop (v * k) now ≡ drop (v * k) old
    → drop (v * (k + 1)) (put_mid (v * k) w now c) ≡ drop (v * (k + 1)) old
drop-written v old now c k w fits hc hw e =
    drop-put_mid (v * k) w now c (v * (k + 1)) (omega (arith, step v k)) (omega arith) (omega arith)
    ∙ ap (λ n. drop n now) (step v k) ∙ sym (drop-drop v (v * k) now) ∙ ap (drop v) e ∙ drop-drop v (v * k) old ∙ ap (λ n. drop n old) (sym (step v k))

take-next : (v : ℕ) (xs : List ℕ) (k : ℕ) → take (v * (k + 1)) xs ≡ take (v * k) xs ++ take v (drop (v * k) xs)
take-next v xs k = ap (λ n. take n xs) (step v k) ∙ take-add (v * k) v xs

length-next : (v : ℕ) (xs : List ℕ) (k : ℕ) → v * k + v ≤ length xs → length (take v (drop (v * k) xs)) ≡ v
length-next v xs k fits = length-take-le v (drop (v * k) xs) (omega (arith, length-drop (v * k) xs))

-- the first k blocks of the buffer `old` are sealed in `now`, and the rest is as it was
pub record IsSealedTo (e : List ℕ → List ℕ) (v : ℕ) (iv old now last : List ℕ) (k : ℕ) : Type 0 where
  pub chain : Chain e v iv (take (v * k) old) (take (v * k) now) last k
  pub rest : drop (v * k) now ≡ drop (v * k) old
  pub last_size : length last ≡ v

pub IsSealedTo-none : (e : List ℕ → List ℕ) (v : ℕ) (iv old : List ℕ) → length iv ≡ v → IsSealedTo e v iv old old iv 0
IsSealedTo-none e v iv old hi =
    let zero_size : v * 0 ≡ 0 = omega arith in
    record { chain = rw zero_size (Chain-none e v iv hi); rest = refl; last_size = hi }

pub IsSealedTo-more : (e : List ℕ → List ℕ) (v : ℕ) (iv old now last c next : List ℕ) (k w : ℕ) → 0 < v → length iv ≡ v → v * k + v ≤ length old → length now ≡ length old
    → IsSealedTo e v iv old now last k → length c ≡ v → w ≡ v → c ≡ e (add_bytes (take w (drop (v * k) now)) last) → next ≡ c
    → IsSealedTo e v iv old (put_mid (v * k) w now c) next (k + 1)
IsSealedTo-more e v iv old now last c next k w pos hi fits size h hc hw made en =
    let fits_now : v * k + v ≤ length now = omega arith in
    let read : take w (drop (v * k) now) ≡ take v (drop (v * k) old) = λ i. take (hw i) (h.rest i) in
    let made_of : c ≡ e (add_bytes (take v (drop (v * k) old)) last) = made ∙ ap (λ b. e (add_bytes b last)) read in
    record {
      chain = rw (take-next v old k, take-written v now c k w fits_now hc, en) (Chain-more e v iv (take (v * k) old) (take (v * k) now) last (take v (drop (v * k) old)) c k pos hi h.chain (length-next v old k fits) hc made_of);
      rest = drop-written v old now c k w fits_now hc hw h.rest;
      last_size = ap length en ∙ hc;
    }

pub IsSealedTo-all : (e : List ℕ → List ℕ) (v : ℕ) (iv old now last : List ℕ) (k : ℕ) → length old ≤ v * k → length now ≡ length old → IsSealedTo e v iv old now last k → IsChained e v iv old now
IsSealedTo-all e v iv old now last k full size h =
    let whole_old : take (v * k) old ≡ old = take_all (v * k) old full in
    let whole_now : take (v * k) now ≡ now = take_all (v * k) now (omega arith) in
    rw (whole_old, whole_now) at h.chain.chained

-- the first k blocks of the buffer `old` are opened in `now`, where they are the only ones that fit, and the rest is as it was
pub record IsOpenedTo (e : List ℕ → List ℕ) (v : ℕ) (iv old now last : List ℕ) (k : ℕ) : Type 0 where
  pub chain : Chain e v iv (take (v * k) now) (take (v * k) old) last k
  pub rest : drop (v * k) now ≡ drop (v * k) old
  pub last_block : IsBlock v last
  pub only : (plain : List ℕ) → IsBytes plain → IsChained e v iv plain (take (v * k) old) → plain ≡ take (v * k) now

pub IsOpenedTo-none : (e : List ℕ → List ℕ) (v : ℕ) (iv old : List ℕ) → IsBlock v iv → IsOpenedTo e v iv old old iv 0
IsOpenedTo-none e v iv old hi =
    let zero_size : v * 0 ≡ 0 = omega arith in
    record {
      chain = rw zero_size (Chain-none e v iv hi.size);
      rest = refl;
      last_block = hi;
      only = rw zero_size (λ plain bytes h. nil_from_length plain (sym h.size));
    }

pub IsOpenedTo-more : (e : List ℕ → List ℕ) (v : ℕ) (iv old now last b next : List ℕ) (k w : ℕ) → 0 < v → length iv ≡ v → v * k + v ≤ length old → length now ≡ length old
    → IsOpenedTo e v iv old now last k → length b ≡ v → w ≡ v → e (add_bytes b last) ≡ take w (drop (v * k) now)
    → ((x : List ℕ) → IsBlock v x → e (add_bytes x last) ≡ take w (drop (v * k) now) → x ≡ b) → next ≡ take w (drop (v * k) now) → IsBytes next
    → IsOpenedTo e v iv old (put_mid (v * k) w now b) next (k + 1)
IsOpenedTo-more e v iv old now last b next k w pos hi fits size h hb hw back alone en bytes =
    let fits_now : v * k + v ≤ length now = omega arith in
    let read : take w (drop (v * k) now) ≡ take v (drop (v * k) old) = λ i. take (hw i) (h.rest i) in
    let sealed_size = length-next v old k fits in
    let front_size : length (take (v * k) old) ≡ v * k = length-take-le (v * k) old (omega arith) in
    record {
      chain = rw (take-next v old k, take-written v now b k w fits_now hb, en, read) (Chain-more e v iv (take (v * k) now) (take (v * k) old) last b (take v (drop (v * k) old)) k pos hi h.chain hb sealed_size (sym (back ∙ read)));
      rest = drop-written v old now b k w fits_now hb hw h.rest;
      last_block = record { size = ap length (en ∙ read) ∙ sealed_size; bytes = bytes };
      only = rw (take-next v old k, take-written v now b k w fits_now hb)
          (only-more e v iv (take (v * k) now) (take (v * k) old) last b (take v (drop (v * k) old)) k pos hi front_size sealed_size h.chain.end h.only (λ x hx ex. alone x hx (ex ∙ sym read)));
    }

pub IsOpenedTo-all : (e : List ℕ → List ℕ) (v : ℕ) (iv old now last : List ℕ) (k : ℕ) → length old ≤ v * k → length now ≡ length old → IsOpenedTo e v iv old now last k
    → (IsChained e v iv now old) × ((plain : List ℕ) → IsBytes plain → IsChained e v iv plain old → plain ≡ now)
IsOpenedTo-all e v iv old now last k full size h =
    let whole_old : take (v * k) old ≡ old = take_all (v * k) old full in
    let whole_now : take (v * k) now ≡ now = take_all (v * k) now (omega arith) in
    (rw (whole_old, whole_now) at h.chain.chained, rw (whole_old, whole_now) at h.only)

-- block k lies within whole blocks
pub fits-block : (v k n : ℕ) → k < n / v → v * k + v ≤ n
fits-block v k n h = omega (arith, mul-le-mul_left {m = k + 1} {n = n / v} v (omega arith), step v k, div-add-mod n v)

-- whole blocks have no rest
pub full-blocks : (v n : ℕ) → n % v ≡ 0 → n ≤ v * (n / v)
full-blocks v n h = omega (arith, div-add-mod n v)

-- a block is read as long as it is
pub length-read : (v : ℕ) (xs : List ℕ) (k : ℕ) → v * k + v ≤ length xs → length (take (v * k + v - v * k) (drop (v * k) xs)) ≡ v
length-read v xs k fits = length-block v xs k fits
