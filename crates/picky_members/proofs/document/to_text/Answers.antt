use Rattle.std.proofs.lemmas.Str.{IsUtf8-string_bytes}
use Rattle.picky_members.specs.laws.Texts.{text_written}
use Rattle.picky_members.proofs.document.to_text.Goals as goal

pub returns-in-Ok : goal.returns-in-Ok
returns-in-Ok g c =
    text_written g.T.JsonForm.Tells g.T.JsonForm.tree_of _ _ g.T.JsonForm.levels _ c.in_ok-tree.ensures (g.met.T.JsonForm.reads_back _) (g.met.T.JsonForm.shallow _) c.requires (IsUtf8-string_bytes c.in-Ok.text) c.in-Ok.ensures.reads_back
