use Rattle.std.proofs.Common.{sym, ◌∙◌}
use Rattle.picky_jws_header.specs.Views.{header_view}
use Rattle.picky_jws_header.specs.laws.Written.{written_tells}
use Rattle.picky_jws_header.proofs.header.JwsHeader.to_tree.Goals as goal

pub returns-clause-reads_back : goal.returns-clause-reads_back
returns-clause-reads_back c = written_tells (header_view c.args.self.now) _ (sym c.holds_any.ensures ∙ c.if-holds_any.false) c.in_ok-tree.ensures
