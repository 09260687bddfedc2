-- AlgorithmIdentifier: a SEQUENCE of an OBJECT IDENTIFIER and any one value, which may be absent (RFC 5280 section 4.1.1.2).
use Rattle.picky_der.specs.Form.{IsWrittenInForm, NestsAtMost}
use Rattle.picky_fields.specs.declared.algorithm.AlgorithmIdentifier.{AlgorithmIdentifier}
use Rattle.picky_fields.specs.Forms.{ℕ, List, Option, refl, arith, Form, identifier, raw_form, one, optional_last, ◌and◌, seen, sequence}
use Rattle.picky_fields.specs.laws.Forms.{Lawful, one_lawful, and_lawful, one_to_one, seen_lawful, sequence_lawful, optional_last_lawful, identifier_lawful, raw_lawful}
use Rattle.picky_fields.specs.laws.Heights.{NestsAndIsFormed, one_nests, optional_last_nests, and_nests, seen_nests, sequence_nests, sequence_written}

abbrev pub algorithm_of : List ℕ × Option (List ℕ) → AlgorithmIdentifier
algorithm_of p = record { oid = p.0; parameters = p.1 }

abbrev pub parts_of : AlgorithmIdentifier → List ℕ × Option (List ℕ)
parts_of a = (a.oid, a.parameters)

unfoldable pub algorithm : Form AlgorithmIdentifier
algorithm = sequence (seen algorithm_of parts_of (one identifier and optional_last raw_form))

pub algorithm_lawful : Lawful algorithm
unfolding algorithm
algorithm_lawful = sequence_lawful (seen_lawful (one_to_one (λ _. refl) (λ _. refl)) (and_lawful (λ _ _. refl) (one_lawful identifier_lawful) (optional_last_lawful raw_lawful)))

algorithm_run : NestsAndIsFormed 0 (seen algorithm_of parts_of (one identifier and optional_last raw_form))
algorithm_run = seen_nests algorithm_of parts_of (and_nests (one_nests identifier (λ _ _ _. omega arith) (λ _ _ e. e.0)) (optional_last_nests raw_form (λ _ _ _. omega arith) (λ _ _ e. e.0)))

pub algorithm_formed : IsWrittenInForm algorithm
unfolding algorithm
algorithm_formed = sequence_written algorithm_run

pub algorithm_nests : NestsAtMost 1 algorithm
unfolding algorithm
algorithm_nests = sequence_nests algorithm_run
