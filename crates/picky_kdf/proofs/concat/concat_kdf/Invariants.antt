use Rattle.std.proofs.Common.{◌≡◌, ◌*◌, ◌++◌, length}
use Rattle.std.specs.Int.{to_be_bytes, w32}
use Rattle.sha2.specs.Sha256.{sha256}
use Rattle.picky_kdf.specs.ConcatKdf.{other_info}
use Rattle.picky_kdf.specs.Parts.{joined}
use Rattle.picky_kdf.proofs.concat.concat_kdf.Given as goal

abbrev pub invariant-loop-done : goal.invariant-loop-done
invariant-loop-done l = record {
  key : l.key.items ≡ joined (λ i. sha256 (to_be_bytes w32 i ++ l.secret ++ other_info l.algorithm l.apu l.apv l.size)) 1 l.done;
  size : length l.key.items ≡ l.done * 32;
}
