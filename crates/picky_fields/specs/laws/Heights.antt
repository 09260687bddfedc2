-- How many readers records nest, and records of which what is written is in form.
use Rattle.std.proofs.Common.{ℕ, ◌+◌, ◌≤◌, Bool, List, Option, Some, None, arith}
use Rattle.std.proofs.Math.Nat.{max-le}
use Rattle.picky_der.specs.Form.{Form, IsWrittenInForm, NestsAtMost}
use Rattle.picky_fields.specs.Fields.{Fields, one, SpellsOptional, optional_height, optional_by, optional, optional_last, any_tag, ◌and◌, seen, sequence}

-- No spelling of the run has a greater height than this, and each run that is written is in form.
pub record NestsAndIsFormed {X : Type 0} (most : ℕ) (f : Fields X) : Type 0 where
  pub nests : (s : List ℕ) (x : X) (p : f.Spells s x) → f.height s x p ≤ most
  pub formed : (s : List ℕ) (x : X) → f.Encodes s x → f.in_form x

pub one_nests : {X : Type 0} {most : ℕ} (f : Form X) → NestsAtMost most f → IsWrittenInForm f → NestsAndIsFormed most (one f)
one_nests f nests formed = record { nests = nests; formed = formed }

module _ {X : Type 0} {most : ℕ} (test : ℕ → Bool) (f : Form X) (nests : NestsAtMost most f) (formed : IsWrittenInForm f) where
  option_nests : (s : List ℕ) (x : Option X) (p : SpellsOptional f.Spells s x) → optional_height f s x p ≤ most
  option_nests s None p = omega arith
  option_nests s (Some x) p = nests s x p

  option_formed : (s : List ℕ) (x : Option X) → (optional_by test f).Encodes s x → (optional_by test f).in_form x
  option_formed s None e = tt
  option_formed s (Some x) e = formed s x e

pub optional_nests : {X : Type 0} {most : ℕ} (f : Form X) → NestsAtMost most f → IsWrittenInForm f → NestsAndIsFormed most (optional f)
optional_nests f nests formed = record { nests = option_nests f.begins f nests formed; formed = option_formed f.begins f nests formed }

pub optional_last_nests : {X : Type 0} {most : ℕ} (f : Form X) → NestsAtMost most f → IsWrittenInForm f → NestsAndIsFormed most (optional_last f)
optional_last_nests f nests formed = record { nests = option_nests any_tag f nests formed; formed = option_formed any_tag f nests formed }

pub and_nests : {X Y : Type 0} {most : ℕ} {f : Fields X} {g : Fields Y} → NestsAndIsFormed most f → NestsAndIsFormed most g → NestsAndIsFormed most (f and g)
and_nests h k = record {
  nests = λ s x p. max-le (h.nests p.front x.0 p.is_first) (k.nests p.back x.1 p.is_second);
  formed = λ s x e. (h.formed e.front x.0 e.is_first, k.formed e.back x.1 e.is_second);
}

pub seen_nests : {X Y : Type 0} {most : ℕ} {f : Fields X} (to : X → Y) (from : Y → X) → NestsAndIsFormed most f → NestsAndIsFormed most (seen to from f)
seen_nests to from h = record { nests = λ s y p. h.nests s p.value p.spelled; formed = λ s y e. h.formed s (from y) e }

-- the value around a run nests one reader more
pub sequence_nests : {X : Type 0} {most : ℕ} {f : Fields X} → NestsAndIsFormed most f → NestsAtMost (1 + most) (sequence f)
sequence_nests h s x p = omega (arith, h.nests p.contents x p.fields)

pub sequence_written : {X : Type 0} {most : ℕ} {f : Fields X} → NestsAndIsFormed most f → IsWrittenInForm (sequence f)
sequence_written h s x e = h.formed e.contents x e.fields
