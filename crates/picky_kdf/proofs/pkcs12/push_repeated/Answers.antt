use Rattle.std.proofs.Common.{arith, ◌≡◌, ◌++◌, ◌*◌, sym, ap, ◌∙◌}
use Rattle.std.proofs.lemmas.List.{append-nil}
use Rattle.picky_kdf.specs.Pkcs12Kdf.{cycled}
use Rattle.picky_kdf.proofs.Cycles.{cycled_more}
use Rattle.picky_kdf.proofs.pkcs12.push_repeated.Goals as goal

pub loop-i-init : goal.loop-i-init
loop-i-init c = sym (append-nil c.args.out.now.items)

pub loop-i-preserved : goal.loop-i-preserved
loop-i-preserved c = cycled_more c.args.text.now c.args.out.now.items _ c.loop-i.i c.loop-i.out.items c.loop-i.invariant c.in_ok-push.ensures.items

pub returns : goal.returns
returns c =
    let all : c.loop-i.i ≡ c.div_ceil.result * c.args.block = omega arith in
    c.loop-i.invariant ∙ ap (λ n. c.args.out.now.items ++ cycled c.args.text.now n) (all ∙ ap (λ n. n * c.args.block) c.div_ceil.ensures)
