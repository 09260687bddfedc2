use Rattle.picky_asn1_date.proofs.Forms.{read_found, read_every}
use Rattle.picky_asn1_date.proofs.date.Date.read_text.Goals as goal

pub returns-clause-found : goal.returns-clause-found
returns-clause-found g c = read_found g.TR.TimeRepr.IsYear g.TR.TimeRepr.text c.args.bytes.now c.read_text.result c.read_text.ensures

pub returns-clause-every : goal.returns-clause-every
returns-clause-every g c = read_every g.TR.TimeRepr.IsYear g.TR.TimeRepr.text c.args.bytes.now c.read_text.result c.read_text.ensures
