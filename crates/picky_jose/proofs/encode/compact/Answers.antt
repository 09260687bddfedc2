use Rattle.std.proofs.lemmas.Result.{IfOk-weaker}
use Rattle.std.proofs.lemmas.Str.{IsUtf8-string_bytes}
use Rattle.picky_jose.proofs.encode.compact.Goals as goal

pub returns-clause-reads_back : goal.returns-clause-reads_back
returns-clause-reads_back c =
    IfOk-weaker c.to_string.result _ _ (λ s h. record { utf8 = IsUtf8-string_bytes s; reads = h c.requires.shallow }) c.to_string.ensures.reads_back
