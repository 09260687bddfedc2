use Rattle.picky_gate.proofs.words.read_generate.Goals as goal

pub returns-in_default : goal.returns-in_default
returns-in_default c = λ g asks. c.in_default.ensures asks.seed asks.count asks.are
