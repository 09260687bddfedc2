use Rattle.std.proofs.Common.{sym, ◌∙◌, true≢false}
use Rattle.picky_records.proofs.fields.public_in.Goals as goal

pub returns-else-is_memory : goal.returns-else-is_memory
returns-else-is_memory c = λ y h. true≢false (sym (c.is_memory.ensures.1 (c.in-Err.ensures.every y h)) ∙ c.if-is_memory.false)
