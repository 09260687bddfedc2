use Rattle.std.proofs.Common.{arith, ap, ◌∙◌, [], ◌∷◌, slice_index}
use Rattle.std.specs.Int.{to_be_bytes, w32}
use Rattle.picky_contract.specs.Sums.{add_bytes}
use Rattle.picky_aes.specs.declared.tables.TheConstants.{INVERSE_SBOX}
use Rattle.picky_aes.proofs.WordBytes.{bytes-xor}
use Rattle.picky_aes.proofs.WordRound.{top-byte}
use Rattle.picky_aes.proofs.undo.first_column.Goals as goal

pub returns : goal.returns
returns c =
    bytes-xor c.joined.result c.args.key
    ∙ ap (λ l. add_bytes l (to_be_bytes w32 c.args.key))
    (c.joined.ensures
    ∙ (λ i. (c.unsubstituted.ensures ∙ ap (slice_index INVERSE_SBOX) (top-byte c.args.a (omega arith))) i ∷ c.unsubstituted-2.ensures i ∷ c.unsubstituted-3.ensures i ∷ c.unsubstituted-4.ensures i ∷ []))
