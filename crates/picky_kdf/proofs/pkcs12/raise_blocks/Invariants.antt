use Rattle.std.proofs.Common.{◌≡◌, ◌*◌, ◌++◌, length, take, drop}
use Rattle.picky_kdf.specs.Parts.{joined}
use Rattle.picky_kdf.specs.Pkcs12Kdf.{raised}
use Rattle.picky_kdf.proofs.pkcs12.raise_blocks.Given as goal

abbrev pub invariant-loop-j : goal.invariant-loop-j
invariant-loop-j l =
    l.text ≡ joined (λ k. raised (length l.b) l.b (take (length l.b) (drop (k * length l.b) l.fn.text))) 0 l.j ++ drop (l.j * length l.b) l.fn.text
