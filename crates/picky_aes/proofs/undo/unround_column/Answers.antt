use Rattle.std.proofs.Common.{arith, ap, ◌∙◌, [], ◌∷◌, map, slice_index}
use Rattle.std.specs.Int.{byte_at, to_be_bytes, w32}
use Rattle.picky_contract.specs.Sums.{add_bytes}
use Rattle.picky_aes.specs.Field.{product}
use Rattle.picky_aes.specs.declared.tables.TheConstants.{INVERSE_SBOX}
use Rattle.picky_aes.proofs.WordBytes.{bytes-xor}
use Rattle.picky_aes.proofs.WordRound.{column-bytes, top-byte}
use Rattle.picky_aes.proofs.undo.unround_column.Goals as goal

pub returns : goal.returns
returns c =
    bytes-xor _ c.args.key
    ∙ ap (λ l. add_bytes l (to_be_bytes w32 c.args.key))
    (column-bytes 14 9 13 11 (slice_index INVERSE_SBOX (byte_at 3 c.args.a)) (slice_index INVERSE_SBOX (byte_at 2 c.args.b)) (slice_index INVERSE_SBOX (byte_at 1 c.args.c)) (slice_index INVERSE_SBOX (byte_at 0 c.args.d))
    _ _ _ _ _ _ _ _
    (c.unmixed_byte.ensures ∙ ap (λ t. map (λ p. product p (slice_index INVERSE_SBOX t)) (14 ∷ 9 ∷ 13 ∷ 11 ∷ 14 ∷ 9 ∷ 13 ∷ 11 ∷ [])) (top-byte c.args.a (omega arith)))
    c.unmixed_byte-4.ensures c.unmixed_byte-3.ensures c.unmixed_byte-2.ensures c.low_word.ensures c.low_word-2.ensures c.low_word-3.ensures c.low_word-4.ensures)
