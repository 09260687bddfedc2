use Rattle.std.proofs.Common.{List, ℕ, sym, subst}
use Rattle.std.specs.Fmt.{HasWritten}
use Rattle.picky_http.proofs.Printed.{slice_list}
use Rattle.picky_http.proofs.printing.PartListDisplay.fmt.Goals as goal

pub returns-in-len1-up-clause-writes : goal.returns-in-len1-up-clause-writes
returns-in-len1-up-clause-writes g c = λ plain ok.
    subst (λ (text : List ℕ). HasWritten g.W.Write.write_str_gives c.args.f.now text c.write_list.new.f)
    (sym (slice_list c.args.self.now.0.now c.first-item.result c.in-len1-up.len_at_least c.first-item.is)) (c.write_list.ensures plain ok)
