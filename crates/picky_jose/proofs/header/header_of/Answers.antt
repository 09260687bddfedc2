use Rattle.picky_jose.proofs.header.header_of.Goals as goal

pub returns-in-Err-NotOfForm : goal.returns-in-Err-NotOfForm
returns-in-Err-NotOfForm c = λ y h. c.in-Err-NotOfForm.ensures.found.none c.in-Err-NotOfForm.field-0-is y h
