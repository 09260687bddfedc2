use Rattle.picky_asn1_bits.proofs.Numbers.{int_of-unsigned_spelling, IsShortest-unsigned_spelling}
use Rattle.picky_asn1_bits.proofs.laws.unsigned_integers_keep_their_number.Goals as goal

pub returns-clause-number : goal.returns-clause-number
returns-clause-number c = int_of-unsigned_spelling c.args.bytes.now

pub returns-clause-shortest : goal.returns-clause-shortest
returns-clause-shortest c = IsShortest-unsigned_spelling c.args.bytes.now
