use Rattle.std.proofs.Common.{ℕ, min, ap, sym, ◌∙◌, rules}
use Rattle.picky_asn1_bits.specs.Bits.{bit_count}
use Rattle.picky_asn1_bits.proofs.Resize.{Resizes-written}
use Rattle.picky_asn1_bits.proofs.bit_string.BitString.set_num_bits.Goals as goal

pub returns-then-kept-ne0-clause-ok : goal.returns-then-kept-ne0-clause-ok
returns-then-kept-ne0-clause-ok c =
    let old = c.self.inside.data.items in
    rw (← c.self.view_is)
    (Resizes-written old c.resize.new.self.items c.args.num_bits c.self.inside.data.len c.div_ceil.result c.min-kept.result c.unused_after.result c.index-last.result.now c.without_low_bits.result
    c.self.invariant.counted c.self.invariant.count_below c.self.invariant.count_of_none
    (c.min-kept.ensures ∙ ap (λ (k : ℕ). min k c.args.num_bits) (c.get_num_bits.ensures ∙ ap bit_count (sym c.self.view_is))) c.if-kept-ne0.true c.unused_after.ensures.below c.unused_after.ensures.whole c.div_ceil.ensures (search rules) c.in_ok-resize.ensures.items c.index-last.ensures c.without_low_bits.ensures.cleared c.without_low_bits.ensures.kept)
