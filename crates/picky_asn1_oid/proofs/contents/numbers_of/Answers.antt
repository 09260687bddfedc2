use Rattle.std.proofs.Common.{◌≡◌, List, ℕ, [], length, ap, sym, subst, arith}
use Rattle.std.proofs.lemmas.Bool.Decides.{nat_tests}
use Rattle.picky_asn1_oid.proofs.Sequences.{HasTaken, HasTaken-more, HasTaken-stuck, HasTaken-all, none_left}
use Rattle.picky_asn1_oid.proofs.contents.numbers_of.Goals as goal

pub loop-rest-preserved : goal.loop-rest-preserved
loop-rest-preserved c =
    let P : List ℕ → Type 0 = λ l. HasTaken c.args.bytes.now l c.in-Some.after.now in
    subst P (sym c.in_ok-push.ensures.items)
    (HasTaken-more c.args.bytes.now c.loop-rest.numbers.items c.loop-rest.rest.now c.in-Some.number c.in-Some.after.now c.loop-rest.invariant
    c.in-Some.ensures.fits c.in-Some.ensures.found (λ m tail fits stands. c.in-Some.ensures.every m tail fits stands) (λ (h : c.loop-rest.rest.now ≡ []). grind (arith, nat_tests, ap length h)))

pub returns-in_default : goal.returns-in_default
returns-in_default c =
    HasTaken-stuck c.args.bytes.now c.loop-rest.numbers.items c.loop-rest.rest.now c.loop-rest.invariant
    (λ (h : c.loop-rest.rest.now ≡ []). grind (arith, nat_tests, ap length h))
    (λ m tail fits stands. c.in_default.ensures.every m tail fits stands)

pub returns : goal.returns
returns c =
    HasTaken-all c.args.bytes.now c.loop-rest.numbers.items
    (subst (HasTaken c.args.bytes.now c.loop-rest.numbers.items) (none_left c.loop-rest.rest.now (grind (arith, nat_tests))) c.loop-rest.invariant)
