-- A run seen as another type, some of whose values are never read: those that are written and then seen as others (own).
use Rattle.std.specs.Prelude.{◌≡◌}
use Rattle.picky_fields.specs.Fields.{Fields, SpellsSeen, seen_at}

-- The run f, of which each value x is seen as `to x`; y is written as `from y`. In form is a y that is seen in what is written of it.
abbrev pub seen_again : {X Y : Type 0} → (X → Y) → (Y → X) → Fields X → Fields Y
seen_again to from f = record {
  in_form = λ y. f.in_form (from y) × (to (from y) ≡ y);
  Spells = SpellsSeen f.in_form f.Spells to;
  Encodes = λ s y. f.Encodes s (from y);
  encoding = λ y. f.encoding (from y);
  Refused = λ y. f.Refused (from y);
  height = λ s y p. f.height s p.value p.spelled;
  begins = f.begins;
  takes_more = f.takes_more;
  reading = seen_at to f.reading;
}

-- what is seen of a value in form is written as a value in form, in which it is seen again
pub record SeesAgain {X Y : Type 0} (in_form : X → Type 0) (to : X → Y) (from : Y → X) : Type 0 where
  pub formed : (x : X) → in_form x → in_form (from (to x))
  pub again : (x : X) → in_form x → to (from (to x)) ≡ to x
