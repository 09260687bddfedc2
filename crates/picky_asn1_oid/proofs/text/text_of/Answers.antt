use Rattle.std.proofs.Common.{◌++◌, List, ℕ, ◌∙◌, sym, ap, drop, take, length, ◌-◌, get_or}
use Rattle.std.specs.List.{flat_map}
use Rattle.std.specs.Fmt.{decimal}
use Rattle.picky_asn1_oid.specs.Dotted.{dotted}
use Rattle.picky_asn1_oid.proofs.Dots.{text_of-first}
use Rattle.picky_asn1_oid.proofs.text.text_of.Goals as goal

pub returns : goal.returns
returns c =
    let numbers = c.args.numbers.now in
    let others = flat_map dotted (take (length numbers - 1) (drop 1 numbers)) in
    c.in_ok-push_others.ensures
    ∙ ap (λ (l : List ℕ). l ++ others) (c.in_ok-write.ensures.bytes ∙ ap (λ (l : List ℕ). l ++ decimal (get_or numbers 0 0)) c.new-text.ensures.bytes)
    ∙ sym (text_of-first numbers c.in-len1-up.len_at_least)
