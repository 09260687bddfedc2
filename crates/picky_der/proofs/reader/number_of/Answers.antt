use Rattle.std.proofs.Common.{◌<◌, ◌≤◌, ◌^◌, arith}
use Rattle.std.proofs.Math.Nat.{pow-le-pow_right}
use Rattle.picky_der.specs.laws.Lengths.{unsigned_of-after}
use Rattle.picky_der.proofs.reader.number_of.Goals as goal

pub loop-byte-init : goal.loop-byte-init
loop-byte-init c = (unsigned_of-after c.args.bytes.now, omega arith)

pub overflow_mul-number : goal.overflow_mul-number
overflow_mul-number c =
    let p : 256 ^ c.loop-byte.byte-index ≤ 256 ^ 7 = pow-le-pow_right {n = 256} (omega arith) {i = c.loop-byte.byte-index} {j = 7} (omega arith) in
    omega arith

pub overflow_add-number : goal.overflow_add-number
overflow_add-number c =
    let i = c.loop-byte.byte-index in
    let p : 256 ^ i ≤ 256 ^ 7 = pow-le-pow_right {n = 256} (omega arith) {i = i} {j = 7} (omega arith) in
    let below : c.loop-byte.number < 256 ^ i = c.loop-byte.invariant.1 in
    omega (arith, c.type_inv.bytes i)
