-- Bytes that are written piece by piece.
use Rattle.std.proofs.Common.{◌≡◌, ◌<◌, ℕ, ◌-◌, List, [], ◌∷◌, ◌++◌, length, take, drop, Option, refl, sym, ◌∙◌, ap, subst, append_assoc, arith, length-append, length-drop}
use Rattle.std.proofs.lemmas.List.{append-nil, take-append-drop, take_all}
use Rattle.std.proofs.Math.Seq.{take-append_seam}
use Rattle.picky_outside.specs.Outside.{Adds}
use Rattle.picky_outside.specs.laws.Adding.{adds_nothing, adds_more}

-- all but the rest of the bytes were added
pub record Written (before : Option (List ℕ)) (bytes rest : List ℕ) (now : Option (List ℕ)) : Type 0 where
  pub done : List ℕ
  pub split : done ++ rest ≡ bytes
  pub added : Adds before done now

-- at the start nothing was
pub written_none : (before : Option (List ℕ)) (bytes : List ℕ) → Written before bytes bytes before
written_none before bytes = record { done = []; split = refl; added = adds_nothing before before refl }

-- one more piece was
pub written_more : (before : Option (List ℕ)) (bytes rest : List ℕ) (now later : Option (List ℕ)) (n : ℕ) → Written before bytes rest now → Adds now (take n rest) later → Written before bytes (take (length rest - n) (drop n rest)) later
written_more before bytes rest now later n was piece = rw (to_end n rest) record { done = was.done ++ take n rest; split = append_assoc was.done (take n rest) (drop n rest) ∙ ap (λ (l : List ℕ). was.done ++ l) (take-append-drop n rest) ∙ was.split; added = adds_more before now later was.done (take n rest) was.added piece }
  where
    to_end : (n : ℕ) (l : List ℕ) → take (length l - n) (drop n l) ≡ drop n l
    to_end n l = take_all (length l - n) (drop n l) (omega (arith, length-drop n l))

-- at the end all were
pub written_all : (before : Option (List ℕ)) (bytes rest : List ℕ) (now : Option (List ℕ)) → length rest ≡ 0 → Written before bytes rest now → Adds before bytes now
written_all before bytes [] now none was = subst (λ (l : List ℕ). Adds before l now) (sym (append-nil was.done) ∙ was.split) was.added
written_all before bytes (b ∷ rest) now none was = absurd (omega arith)

-- where some are left, a proper front was
pub written_some : (before : Option (List ℕ)) (bytes rest : List ℕ) (now : Option (List ℕ)) → 0 < length rest → Written before bytes rest now → (n : ℕ) × (n < length bytes) × Adds before (take n bytes) now
written_some before bytes rest now left was =
    (length was.done, omega (arith, length-append was.done rest, ap length was.split), subst (λ (l : List ℕ). Adds before l now) (front was.done rest bytes was.split) was.added)
  where
    front : (a b whole : List ℕ) → a ++ b ≡ whole → a ≡ take (length a) whole
    front a b whole is = sym (take-append_seam a b) ∙ ap (λ (l : List ℕ). take (length a) l) is
