use Rattle.std.proofs.Common.{arith, ap, ◌∙◌, [], ◌∷◌, map}
use Rattle.std.specs.Int.{byte_at, to_be_bytes, w32}
use Rattle.picky_contract.specs.Sums.{add_bytes}
use Rattle.picky_aes.specs.Field.{product, substitute}
use Rattle.picky_aes.proofs.WordBytes.{bytes-xor}
use Rattle.picky_aes.proofs.WordRound.{column-bytes, top-byte}
use Rattle.picky_aes.proofs.steps.round_column.Goals as goal

pub returns : goal.returns
returns c =
    bytes-xor _ c.args.key
    ∙ ap (λ l. add_bytes l (to_be_bytes w32 c.args.key))
    (column-bytes 2 1 1 3 (substitute (byte_at 3 c.args.a)) (substitute (byte_at 2 c.args.b)) (substitute (byte_at 1 c.args.c)) (substitute (byte_at 0 c.args.d))
    _ _ _ _ _ _ _ _
    (c.mixed_byte.ensures ∙ ap (λ t. map (λ p. product p (substitute t)) (2 ∷ 1 ∷ 1 ∷ 3 ∷ 2 ∷ 1 ∷ 1 ∷ 3 ∷ [])) (top-byte c.args.a (omega arith)))
    c.mixed_byte-4.ensures c.mixed_byte-3.ensures c.mixed_byte-2.ensures c.low_word.ensures c.low_word-2.ensures c.low_word-3.ensures c.low_word-4.ensures)
