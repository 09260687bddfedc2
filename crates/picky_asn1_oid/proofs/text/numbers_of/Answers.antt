use Rattle.std.proofs.Common.{sym, List, ℕ, rules, subst}
use Rattle.picky_asn1_oid.proofs.Dots.{HasTakenText, HasTakenText-more, HasTakenText-stuck, HasTakenText-all, HasTakenText-unread}
use Rattle.picky_asn1_oid.proofs.text.numbers_of.Goals as goal

pub returns-in_default-2 : goal.returns-in_default-2
returns-in_default-2 c =
    HasTakenText-stuck c.loop-front.rest.now c.in-Some.front.now c.in-Some.back.now c.in-Some.ensures.found (λ f b cut. c.in-Some.ensures.every f b cut)
    c.args.text.now c.loop-front.numbers.items c.loop-front.invariant.0 (rw c.in_default-2.is at c.in_ok-number.ensures)

pub loop-front-preserved : goal.loop-front-preserved
loop-front-preserved c =
    let one = rw c.in-Some-2.is at c.in_ok-number.ensures in
    let P : List ℕ → Type 0 = λ l. HasTakenText c.args.text.now l c.in-Some.back.now in (
      subst P (sym c.in_ok-push.ensures.items)
          (HasTakenText-more c.loop-front.rest.now c.in-Some.front.now c.in-Some.back.now c.in-Some.ensures.found (λ f b cut. c.in-Some.ensures.every f b cut)
          c.args.text.now c.loop-front.numbers.items c.in-Some-2.number c.loop-front.invariant.0 one.0 one.1),
      search rules,
    )

pub returns-in_default-3 : goal.returns-in_default-3
returns-in_default-3 c =
    HasTakenText-unread c.loop-front.rest.now (λ f b cut. c.in_default.ensures.every f b cut)
    c.args.text.now c.loop-front.numbers.items c.loop-front.invariant.0 (rw c.in_default-3.is at c.in_ok-last.ensures)

pub returns : goal.returns
returns c =
    let one = rw c.in-Some-3.is at c.in_ok-last.ensures in
    let all = HasTakenText-all c.loop-front.rest.now (λ f b cut. c.in_default.ensures.every f b cut)
    c.args.text.now c.loop-front.numbers.items c.in-Some-3.last c.loop-front.invariant.0 one.0 one.1 in
    rw c.in_ok-push-2.ensures.items all
