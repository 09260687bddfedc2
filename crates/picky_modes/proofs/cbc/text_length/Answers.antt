use Rattle.std.proofs.Common.{◌≤◌, ◌-◌, ◌∙◌, IsTrue, arith, length, get_or, sym, ℕ}
use Rattle.picky_modes.proofs.Padding.{get_or-padded, last-padded, pad-range, padded-back, whole-size}
use Rattle.picky_modes.proofs.cbc.text_length.Goals as goal

pub returns-then-right-clause-text : goal.returns-then-right-clause-text
returns-then-right-clause-text c =
    let size = c.args.size in
    let plain = c.args.plain.now in
    let count : ℕ = get_or plain (length plain - 1) 0 in
    let room : size ≤ length plain = whole-size size (length plain) c.requires.whole.some c.requires.whole.whole in
    let right = c.loop-i.invariant.sound c.if-right.true in
    (omega arith, padded-back size plain count c.requires.whole.whole right.0 right.1 (omega (arith, right.1)) (λ i low high. right.2 i (omega (arith, right.1)) (omega arith) (omega arith)))

pub returns-else-right-clause-every : goal.returns-else-right-clause-every
returns-else-right-clause-every c = λ text e.
    let size = c.args.size in
    let plain = c.args.plain.now in
    let range = pad-range size (length text) c.requires.some in
    let last = last-padded size plain text c.requires.some e in
    let right : IsTrue c.loop-i.right = c.loop-i.invariant.complete (omega (arith, range.0, last.0)) (omega (arith, range.1, last.0)) (λ k below near. get_or-padded size plain text k e (omega (arith, last.0, last.1, near)) below ∙ sym last.0) in
    absurd (grind (arith, right, c.if-right.false))
