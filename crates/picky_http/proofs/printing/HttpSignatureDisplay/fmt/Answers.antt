use Rattle.std.proofs.Common.{List, ℕ, map, option_map, sym, subst, ◌∙◌}
use Rattle.std.specs.Fmt.{HasWritten}
use Rattle.picky_http.specs.Algorithms.{algorithm_view}
use Rattle.picky_http.specs.Parts.{part_of}
use Rattle.picky_http.specs.Printing.{printed}
use Rattle.picky_http.specs.Reading.{Reading}
use Rattle.picky_http.proofs.Printed.{printed_is, pieces}
use Rattle.picky_http.proofs.printing.HttpSignatureDisplay.fmt.Goals as goal

pub returns-clause-writes : goal.returns-clause-writes
unfolding pieces
returns-clause-writes g c = λ plain ok.
    let s = c.args.self.now in
    let given : Reading = record {
      key_id = c.deref.result.now;
      headers = map part_of c.deref-2.result.now;
      created = s.created;
      expires = s.expires;
      signature = c.deref-3.result.now;
      algorithm = option_map algorithm_view s.algorithm;
      legacy = s.legacy;
    } in
    subst (λ (text : List ℕ). HasWritten g.W.Write.write_str_gives c.args.f.now text c.write.new.self)
    (sym (printed_is given) ∙ (λ i. printed (record given { key_id = c.deref.ensures i; headers = map part_of (c.deref-2.ensures.value i); signature = c.deref-3.ensures i })))
    (c.write.ensures.writes plain ok)
