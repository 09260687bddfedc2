use Rattle.picky_aes.proofs.WordBack.{unmixed-column}
use Rattle.picky_aes.proofs.undo.unmixed_column.Goals as goal

pub returns : goal.returns
returns c =
    unmixed-column c.args.column c.joined-word.result _ _ _ _ _ c.to_be_bytes.result c.to_be_bytes.ensures
    c.substituted.ensures c.substituted-2.ensures c.substituted-3.ensures c.substituted-4.ensures c.joined-word.ensures c.unround_column.ensures
