use Rattle.std.proofs.Common.{◌≡◌, ◌≤◌, ◌^◌, drop, arith}
use Rattle.std.proofs.lemmas.List.{length-drop}
use Rattle.picky_asn1_bits.specs.Integer.{unsigned_of}
use Rattle.picky_der.specs.laws.Lengths.{number_after, unsigned_of-after}
use Rattle.picky_der.specs.laws.Natural.{number-overflows}
use Rattle.picky_der.proofs.natural.number_of.Goals as goal

pub loop-octet-init : goal.loop-octet-init
loop-octet-init c = unsigned_of-after c.args.octets.now

pub returns-then-number : goal.returns-then-number
returns-then-number c =
    let i = c.loop-octet.octet-index in
    let s = c.args.octets.now in
    let so_far : number_after c.loop-octet.number (drop i s) ≡ unsigned_of s = c.loop-octet.invariant in
    let great : 2 ^ 128 ≤ number_after c.loop-octet.number (drop i s) = number-overflows c.loop-octet.number (drop i s) (omega arith) (omega (arith, length-drop i s)) in
    omega arith
