use Rattle.std.proofs.Common.{arith, ◌≡◌, ◌+◌, ◌-◌, ◌++◌, ap, ◌∙◌}
use Rattle.picky_kdf.specs.Pkcs12Kdf.{hashed}
use Rattle.picky_kdf.proofs.Rounds.{first-hashed}
use Rattle.picky_kdf.proofs.pkcs12.round_hash.Goals as goal

pub returns : goal.returns
returns c =
    let text = c.args.diversifier.now ++ c.args.text.now in
    let all : 1 + (c.args.iterations - 1) ≡ c.args.iterations = omega arith in
    c.rehash_by.ensures text 1
    (first-hashed c.args.hash text c.hash_after-front.result (c.hash_after-front.ensures c.args.hash _ (c.update.ensures c.args.hash _ c.new-hasher.ensures)))
    ∙ ap (hashed c.args.hash text) all
