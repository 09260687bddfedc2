-- The steps of a key wrap one after another, and undone from the last to the first.
use Rattle.std.proofs.Common.{◌≡◌, ℕ, zero, suc, ◌+◌, ◌-◌, ◌*◌, ◌<◌, ◌≤◌, List, length, refl, sym, ap, subst, ◌∙◌, arith, add-one}
use Rattle.picky_modes.specs.Blocks.{IsBlock}
use Rattle.picky_modes.specs.KeyWrap.{wrap_step, wrap_steps}
use Rattle.picky_modes.proofs.Registers.{IsBlock-step, KeepsBlocks}

pub steps-none : (e : List ℕ → List ℕ) (n : ℕ) (s : List ℕ) → wrap_steps e n s 0 ≡ s
unfolding wrap_steps
steps-none e n s = refl

pub steps-more : (e : List ℕ → List ℕ) (n : ℕ) (s : List ℕ) (t : ℕ) → wrap_steps e n s (t + 1) ≡ wrap_step e n (t + 1) (wrap_steps e n s t)
unfolding wrap_steps
steps-more e n s t = rw add-one refl

-- one step more, of registers that t steps gave
pub steps-after : (e : List ℕ → List ℕ) (n : ℕ) (s now next : List ℕ) (t : ℕ) → now ≡ wrap_steps e n s t → next ≡ wrap_step e n (t + 1) now → next ≡ wrap_steps e n s (t + 1)
steps-after e n s now next t h k = k ∙ ap (wrap_step e n (t + 1)) h ∙ sym (steps-more e n s t)

pub IsBlock-steps : (e : List ℕ → List ℕ) (n size : ℕ) (s : List ℕ) (t : ℕ) → KeepsBlocks e → 0 < n → 8 * n + 8 ≤ size → IsBlock size s → IsBlock size (wrap_steps e n s t)
unfolding wrap_steps
IsBlock-steps e n size s zero keeps pos fits h = h
IsBlock-steps e n size s (suc t) keeps pos fits h = IsBlock-step e n (suc t) size (wrap_steps e n s t) keeps pos fits (IsBlock-steps e n size s t keeps pos fits h)

-- the registers `now`, which t steps give exactly where all 6 n of them give `last`
pub record IsUnwrappedTo (e : List ℕ → List ℕ) (n : ℕ) (last now : List ℕ) (t : ℕ) : Type 0 where
  pub back : (x : List ℕ) → wrap_steps e n x t ≡ now → wrap_steps e n x (6 * n) ≡ last
  pub alone : (x : List ℕ) → IsBlock (length last) x → wrap_steps e n x (6 * n) ≡ last → wrap_steps e n x t ≡ now

pub IsUnwrappedTo-none : (e : List ℕ → List ℕ) (n : ℕ) (last : List ℕ) → IsUnwrappedTo e n last last (6 * n)
IsUnwrappedTo-none e n last = record { back = λ x h. h; alone = λ x block h. h }

pub IsUnwrappedTo-more : (e : List ℕ → List ℕ) (n : ℕ) (last now next : List ℕ) (t : ℕ) → KeepsBlocks e → 0 < n → 0 < t → 8 * n + 8 ≤ length last → length now ≡ length last
    → wrap_step e n t next ≡ now → ((x : List ℕ) → IsBlock (length now) x → wrap_step e n t x ≡ now → x ≡ next)
    → IsUnwrappedTo e n last now t → IsUnwrappedTo e n last next (t - 1)
IsUnwrappedTo-more e n last now next t keeps some pos fits size back alone h =
    let up : t - 1 + 1 ≡ t = omega arith in
    let one_more = λ (x : List ℕ). let P : ℕ → Type 0 = λ u. wrap_steps e n x u ≡ wrap_step e n u (wrap_steps e n x (t - 1)) in subst P up (steps-more e n x (t - 1)) in
    record {
      back = λ x k. h.back x (one_more x ∙ ap (wrap_step e n t) k ∙ back);
      alone = λ x block k.
          let kept = IsBlock-steps e n (length last) x (t - 1) keeps some fits block in
          alone (wrap_steps e n x (t - 1)) (record { size = kept.size ∙ sym size; bytes = kept.bytes }) (sym (one_more x) ∙ h.alone x block k);
    }

pub IsUnwrappedTo-all : (e : List ℕ → List ℕ) (n : ℕ) (last now : List ℕ) (t : ℕ) → t ≡ 0 → IsUnwrappedTo e n last now t
    → (wrap_steps e n now (6 * n) ≡ last) × ((x : List ℕ) → IsBlock (length last) x → wrap_steps e n x (6 * n) ≡ last → x ≡ now)
IsUnwrappedTo-all e n last now t done h =
    let none = λ (x : List ℕ). ap (wrap_steps e n x) done ∙ steps-none e n x in
    (h.back now (none now), λ x block k. sym (none x) ∙ h.alone x block k)
