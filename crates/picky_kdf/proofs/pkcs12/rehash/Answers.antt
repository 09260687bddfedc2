use Rattle.std.proofs.Common.{arith, rules, suc, ◌≡◌, ◌+◌, ap, ◌∙◌}
use Rattle.picky_kdf.specs.Hash.{digest}
use Rattle.picky_kdf.specs.Pkcs12Kdf.{hashed}
use Rattle.picky_kdf.proofs.pkcs12.rehash.Goals as goal

pub loop-done-preserved : goal.loop-done-preserved
unfolding hashed
loop-done-preserved g c = record {
  size = search rules;
  hashed = λ text n h.
      let more : suc (n + c.loop-done.done) ≡ n + (c.loop-done.done + 1) = omega arith in
      c.rehashed-last.ensures ∙ ap (digest g.H.HashFunction.function) (c.loop-done.invariant.hashed text n h) ∙ ap (hashed g.H.HashFunction.function text) more;
}
