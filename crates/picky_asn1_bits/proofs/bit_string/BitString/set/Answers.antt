use Rattle.picky_asn1_bits.proofs.OneBit.{SetsBit-or, SetsBit-and}
use Rattle.picky_asn1_bits.proofs.bit_string.BitString.set.Goals as goal

pub returns-then-val-clause-inside : goal.returns-then-val-clause-inside
returns-then-val-clause-inside c inside =
    rw (← c.self.view_is, c.if-val.true) (SetsBit-or c.self.inside.data.items c.args.i c.index_mut-byte.result.now c.index_mut-byte.ensures.value (rw (← c.self.view_is) at inside))

pub returns-else-val-clause-inside : goal.returns-else-val-clause-inside
returns-else-val-clause-inside c inside =
    rw (← c.self.view_is, c.if-val.false) (SetsBit-and c.self.inside.data.items c.args.i c.index_mut-byte.result.now c.index_mut-byte.ensures.value (rw (← c.self.view_is) at inside))
