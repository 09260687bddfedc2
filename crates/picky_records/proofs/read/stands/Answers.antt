use Rattle.std.proofs.Common.{inl, inr, refl, sym, ◌∙◌, true≢false}
use Rattle.std.specs.Prelude.{◌≡◌, true}
use Rattle.picky_records.specs.Lines.{in_family}
use Rattle.picky_records.specs.Reading.{standing}
use Rattle.picky_records.proofs.read.stands.Goals as goal

pub returns-then-contradicts : goal.returns-then-contradicts
unfolding standing
returns-then-contradicts c =
    let family : in_family c.args.line.now ≡ true = sym c.in_family.ensures ∙ c.if-not-in_family.false in
    inr (tt, family, inl (refl, λ e. true≢false (sym c.if-contradicts.true ∙ c.in_ok-contradicts.ensures ∙ e)))
