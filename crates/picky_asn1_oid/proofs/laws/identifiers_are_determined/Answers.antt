use Rattle.picky_asn1_oid.proofs.Determined.{contents_determine_arcs, text_determines_arcs}
use Rattle.picky_asn1_oid.proofs.laws.identifiers_are_determined.Goals as goal

pub returns-clause-contents : goal.returns-clause-contents
returns-clause-contents c = contents_determine_arcs

pub returns-clause-text : goal.returns-clause-text
returns-clause-text c = text_determines_arcs
