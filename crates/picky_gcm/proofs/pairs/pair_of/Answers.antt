use Rattle.std.proofs.Common.{rules, length, slice_index, ◌≡◌, ◌<◌, ℕ}
use Rattle.picky_gcm.proofs.Digits.{pair-of}
use Rattle.picky_gcm.proofs.pairs.pair_of.Goals as goal

pub returns : goal.returns
returns c =
    let size : length c.args.block ≡ 16 = search rules in
    let bytes : (i : ℕ) → slice_index c.args.block i < 256 = search rules in
    pair-of c.args.block c.from_be_bytes.result c.from_be_bytes-2.result size bytes c.from_be_bytes.ensures c.from_be_bytes-2.ensures
