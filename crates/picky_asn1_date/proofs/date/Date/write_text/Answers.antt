use Rattle.picky_asn1_date.proofs.Forms.{write_found, write_every}
use Rattle.picky_asn1_date.proofs.date.Date.write_text.Goals as goal

pub returns-clause-found : goal.returns-clause-found
returns-clause-found g c = write_found g.TR.TimeRepr.IsYear g.TR.TimeRepr.text c.args.self.now (λ text. text.items) c.write_text.result c.write_text.ensures

pub returns-clause-every : goal.returns-clause-every
returns-clause-every g c = write_every g.TR.TimeRepr.IsYear g.TR.TimeRepr.text c.args.self.now (λ text. text.items) c.write_text.result c.write_text.ensures
