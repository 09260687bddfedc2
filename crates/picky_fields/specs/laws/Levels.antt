-- The laws of records that may hold themselves, at each number of levels.
use Rattle.std.proofs.Common.{◌≡◌, ◌≢◌, ℕ, zero, suc, ◌-◌, ◌<◌, List, [], ◌∷◌, ◌++◌, Result, Ok, Err, refl, sym, arith}
use Rattle.picky_der.specs.declared.fault.DerError.{DerError}
use Rattle.picky_der.specs.declared.fault.DerError.TheVariants.{Truncated}
use Rattle.picky_der.specs.Reading.{tag_at}
use Rattle.picky_der.specs.Form.{Form}
use Rattle.picky_fields.specs.Fields.{Fields, sequence}
use Rattle.picky_fields.specs.Levels.{no_level_at, no_level, levels}
use Rattle.picky_fields.specs.laws.Fields.{Lawful, LawfulFields, sequence_lawful}

-- ---- no levels

module _ {X : Type 0} where
  abbrev bad : DerError → Result (X × List ℕ) DerError
  bad e = Err e

  fault_is : (d e : DerError) → bad d ≡ bad e → d ≡ e
  fault_is d e h = cc

  none_ok : {Z : Type 0} (bytes : List ℕ) (x : X) (rest : List ℕ) → no_level_at bytes ≡ Ok (x, rest) → Z
  unfolding no_level_at tag_at
  none_ok [] x rest e = absurd cc
  none_ok (b ∷ bs) x rest e = absurd cc

  none_stays : (bytes more : List ℕ) (e : DerError) → e ≢ Truncated → no_level_at bytes ≡ bad e → no_level_at (bytes ++ more) ≡ bad e
  unfolding no_level_at tag_at
  none_stays [] more e other h = absurd (other (sym (fault_is Truncated e h)))
  none_stays (b ∷ bs) more e other h = h

  no_level_lawful : Lawful (no_level {X = X})
  no_level_lawful = record {
    readable = record {
      one_value = λ s x h p. absurd h;
      prefix_free = λ x y s t a b h i p q e. absurd h;
      takes = λ depth bytes x rest fits e. none_ok bytes x rest e;
      again = λ depth s rest x h p. absurd h;
      shorter = λ depth bytes x rest e. none_ok bytes x rest e;
      first = λ s x h p. absurd h;
      cut = λ depth front back x h p some. absurd h;
      stays = λ depth bytes more e other h. none_stays bytes more e other h;
    };
    writable = record {
      encodes = λ s x h p. absurd h;
      written = λ s x p. absurd p;
      is_encoding = λ s x p. absurd p;
      has_encoding = λ x h fits. absurd h;
      not_refused = λ s x p r. absurd p;
      accepted = λ x h r. absurd h;
    };
  }

-- ---- so many levels

module _ {X : Type 0} (fields : Form X → Fields X) where
  -- all laws, where those of one level follow from those of the level below
  pub levels_lawful : ((inner : Form X) → Lawful inner → LawfulFields (fields inner)) → (n : ℕ) → Lawful (levels fields n)
  unfolding levels
  levels_lawful law zero = no_level_lawful
  levels_lawful law (suc n) = sequence_lawful (law (levels fields n) (levels_lawful law n))

  -- what is read at no level, and at a level above another
  pub levels_at_zero : (n depth : ℕ) (bytes : List ℕ) → n ≡ 0 → (levels fields n).reading depth bytes ≡ no_level_at bytes
  unfolding levels
  levels_at_zero zero depth bytes h = refl
  levels_at_zero (suc n) depth bytes h = absurd (omega arith)

  pub levels_at_above : (n depth : ℕ) (bytes : List ℕ) → 0 < n → (levels fields n).reading depth bytes ≡ (sequence (fields (levels fields (n - 1)))).reading depth bytes
  unfolding levels
  levels_at_above zero depth bytes h = absurd (omega arith)
  levels_at_above (suc n) depth bytes h = let e : suc n - 1 ≡ n = omega arith in rw e refl

  -- what is written at no level, and at a level above another
  pub levels_encode_above : (n : ℕ) (s : List ℕ) (x : X) → 0 < n → (sequence (fields (levels fields (n - 1)))).Encodes s x → (levels fields n).Encodes s x
  unfolding levels
  levels_encode_above zero s x h e = absurd (omega arith)
  levels_encode_above (suc n) s x h e = let m : suc n - 1 ≡ n = omega arith in rw (sym m) e

  pub levels_refused_above : (n : ℕ) (x : X) → 0 < n → (fields (levels fields (n - 1))).Refused x → (levels fields n).Refused x
  unfolding levels
  levels_refused_above zero x h r = absurd (omega arith)
  levels_refused_above (suc n) x h r = let m : suc n - 1 ≡ n = omega arith in rw (sym m) r

  pub levels_refused_zero : (n : ℕ) (x : X) → n ≡ 0 → (levels fields n).Refused x
  unfolding levels
  levels_refused_zero zero x h = tt
  levels_refused_zero (suc n) x h = absurd (omega arith)
