use Rattle.std.proofs.Common.{refl, subst, sym}
use Rattle.picky_asn1_text.specs.Bmp.{IsBmp}
use Rattle.picky_asn1_text.proofs.Pairs.{bmp_cons, bmp_uncons, ended}
use Rattle.picky_asn1_text.proofs.bmp.is_bmp.Goals as goal

pub returns-then-not-is_bmp_character : goal.returns-then-not-is_bmp_character
returns-then-not-is_bmp_character c = (
  λ no. absurd (cc),
  λ b. c.if-not-is_bmp_character.ensures.1 ((bmp_uncons c.in-Some.unit c.in-Some.rest.now (subst IsBmp c.in-Some.ensures.found (c.loop-unit.invariant.0 b))).0),
)

pub loop-unit-preserved : goal.loop-unit-preserved
loop-unit-preserved c = (
  λ b. (bmp_uncons c.in-Some.unit c.in-Some.rest.now (subst IsBmp c.in-Some.ensures.found (c.loop-unit.invariant.0 b))).1,
  λ r. c.loop-unit.invariant.1 (subst IsBmp (sym c.in-Some.ensures.found) (bmp_cons c.in-Some.unit c.in-Some.rest.now (c.if-not-is_bmp_character.ensures.0 refl) r)),
)

pub returns : goal.returns
returns c = ended c.args.bytes.now c.loop-unit.left.now c.is_empty.result c.is_empty.ensures c.in_default.ensures.none c.loop-unit.invariant
