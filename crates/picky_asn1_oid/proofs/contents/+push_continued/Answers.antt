use Rattle.std.proofs.Common.{◌++◌, ◌+◌, ◌%◌, ◌/◌, List, ℕ, [], ◌∷◌, sym, ap, ◌∙◌, arith, append_assoc}
use Rattle.std.proofs.lemmas.Grind.{common_steps}
use Rattle.picky_asn1_oid.specs.Arcs.{continued}
use Rattle.picky_asn1_oid.proofs.Septets.{continued_zero, continued_step}
use Rattle.picky_asn1_oid.proofs.contents.+push_continued.Goals as goal

pub returns-then-number-eq0 : goal.returns-then-number-eq0
returns-then-number-eq0 t c = rw (c.if-number-eq0.true, continued_zero) (grind (arith, common_steps))

pub returns : goal.returns
returns t c =
    let n = c.args.number in
    let old = c.args.out.now.items in
    c.in_ok-push.ensures.items
    ∙ ap (λ (l : List ℕ). l ++ (128 + n % 128) ∷ []) c.in_ok-push_continued.ensures
    ∙ append_assoc old (continued 19 (n / 128)) ((128 + n % 128) ∷ [])
    ∙ ap (λ (l : List ℕ). old ++ l) (sym (continued_step n c.if-number-eq0.false (omega arith)))
