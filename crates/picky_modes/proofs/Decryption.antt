-- What the decrypted blocks and their padding say of the text.
use Rattle.std.proofs.Common.{◌≡◌, ℕ, ◌<◌, ◌≤◌, List, length, take, replicate, Option, Some, None, IfSome, refl, sym, ap, subst, ◌∙◌, arith, inl, inr, lit<}
use Rattle.std.proofs.lemmas.Bool.{cases_lt}
use Rattle.std.proofs.lemmas.List.{get_or-replicate, get_or_past, length-replicate, take_at}
use Rattle.picky_modes.specs.Blocks.{IsBytes}
use Rattle.picky_modes.specs.Cbc.{IsCbc, IsChained, IsDecryption, IsWholeBlocks, padded}
use Rattle.picky_modes.proofs.BlockLemmas.{IsBytes-append}
use Rattle.picky_modes.proofs.Padding.{pad, pad-range, whole-padded}

pub IsBytes-replicate : (n b : ℕ) → b < 256 → IsBytes (replicate n b)
IsBytes-replicate n b h = λ i. elim (cases_lt i n) [
  | inl lt ↦ rw (get_or-replicate n i b 0 lt) h
  | inr ge ↦ rw (get_or_past (replicate n b) i 0 (omega (arith, length-replicate n b))) (lit< tt)
]

IsBytes-padded : (v : ℕ) (text : List ℕ) → 0 < v → v ≤ 16 → IsBytes text → IsBytes (padded v text)
IsBytes-padded v text pos small bytes =
    let range = pad-range v (length text) pos in
    IsBytes-append text (replicate (pad v (length text)) (pad v (length text))) bytes (IsBytes-replicate (pad v (length text)) (pad v (length text)) (omega arith))

text-of : (e : List ℕ → List ℕ) (v : ℕ) (iv sealed left : List ℕ) (answer : Option ℕ) → IsChained e v iv left sealed
    → IfSome answer (λ n. (n ≤ length left) × (left ≡ padded v (take n left))) → IfSome answer (λ n. (n ≤ length left) × IsCbc e v iv (take n left) sealed)
text-of e v iv sealed left None back h = tt
text-of e v iv sealed left (Some n) back h =
    let P : List ℕ → Type 0 = λ plain. IsChained e v iv plain sealed in
    (h.0, subst P h.1 back)

-- whole blocks are opened, and their padding is looked at
pub IsDecryption-of : (e : List ℕ → List ℕ) (v : ℕ) (iv sealed left : List ℕ) (answer : Option ℕ) → 0 < v → v ≤ 16 → IsWholeBlocks v (length sealed)
    → IsChained e v iv left sealed → ((plain : List ℕ) → IsBytes plain → IsChained e v iv plain sealed → plain ≡ left)
    → IfSome answer (λ n. (n ≤ length left) × (left ≡ padded v (take n left))) → ((text : List ℕ) → left ≡ padded v text → answer ≡ Some (length text))
    → IsDecryption e v iv sealed left answer
IsDecryption-of e v iv sealed left answer pos small whole back alone found every = record {
  other = λ refused. absurd (refused whole);
  opened = λ _. back;
  text = text-of e v iv sealed left answer back found;
  every = λ text bytes h.
      let same : padded v text ≡ left = alone (padded v text) (IsBytes-padded v text pos small bytes) h in
      (every text (sym same), ap (take (length text)) (sym same) ∙ take_at text (replicate (pad v (length text)) (pad v (length text))) (length text) refl);
}

-- other lengths are no text's encryption
pub IsDecryption-other : (e : List ℕ → List ℕ) (v : ℕ) (iv sealed : List ℕ) → 0 < v → ¬ (IsWholeBlocks v (length sealed)) → IsDecryption e v iv sealed sealed None
IsDecryption-other e v iv sealed pos refused = record {
  other = λ _. (refl, refl);
  opened = λ whole. absurd (refused whole);
  text = tt;
  every = λ text bytes h. absurd (refused (let P : ℕ → Type 0 = λ n. IsWholeBlocks v n in subst P (sym h.size) (whole-padded v text pos)));
}
