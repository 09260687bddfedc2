use Rattle.std.proofs.Common.{◌++◌, ◌%◌, ◌/◌, List, ℕ, [], ◌∷◌, ap, ◌∙◌, append_assoc}
use Rattle.picky_asn1_oid.specs.Arcs.{continued, base128}
use Rattle.picky_asn1_oid.proofs.contents.push_number.Goals as goal

pub returns : goal.returns
unfolding base128
returns c =
    let n = c.args.number in
    c.in_ok-push.ensures.items
    ∙ ap (λ (l : List ℕ). l ++ n % 128 ∷ []) c.in_ok-push_continued.ensures
    ∙ append_assoc c.args.out.now.items (continued 19 (n / 128)) (n % 128 ∷ [])
