use Rattle.std.proofs.Common.{◌∙◌, ap, sym, subst}
use Rattle.picky_asn1_bits.specs.Integer.{int_of, IsShortest}
use Rattle.picky_asn1_bits.proofs.Numbers.{int_of-shortened, IsShortest-shortened}
use Rattle.picky_asn1_bits.proofs.integer.IntegerAsn1.from_bytes_be_signed.Goals as goal

pub returns-clause-number : goal.returns-clause-number
returns-clause-number c =
    ap int_of (c.new.ensures ∙ c.without_front.ensures ∙ (rw c.deref.ensures.value at c.redundant_len-start.ensures.rest))
    ∙ int_of-shortened c.args.bytes.items

pub returns-clause-shortest : goal.returns-clause-shortest
returns-clause-shortest c =
    λ some. subst IsShortest (sym (c.new.ensures ∙ c.without_front.ensures ∙ (rw c.deref.ensures.value at c.redundant_len-start.ensures.rest)))
    (IsShortest-shortened c.args.bytes.items some)
