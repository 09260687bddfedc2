use Rattle.std.proofs.Common.{◌≡◌, ◌++◌, List, ℕ, ap, ◌∙◌, arith}
use Rattle.picky_der.specs.Length.{SpellsLength, length_of}
use Rattle.picky_der.specs.Reading.{length_at}
use Rattle.picky_der.specs.laws.Steps.{IfOk-answers, OkIs-answers}
use Rattle.picky_der.specs.laws.Lengths.{length_takes, length_again, length_of-spells, spells-length_of}
use Rattle.picky_der.proofs.reader.read_length.Goals as goal

pub returns-clause-found : goal.returns-clause-found
returns-clause-found c =
    let bytes = c.args.bytes.now in
    IfOk-answers {Y = ℕ × List ℕ} (λ x. (x.0, x.1.now)) (λ x. (front : List ℕ) × SpellsLength front x.0 × (bytes ≡ front ++ x.1)) c.any_length.result (length_at bytes) c.any_length.ensures.answers
    (λ x e. let t = length_takes bytes x.0 x.1 (λ i. omega (arith, c.type_inv.bytes i)) e in (length_of x.0, length_of-spells x.0 t.1, t.0))

pub returns-clause-every : goal.returns-clause-every
returns-clause-every c front rest n spelled parts =
    let bytes = c.args.bytes.now in
    let s = spells-length_of front n spelled in
    let same : bytes ≡ length_of n ++ rest = parts ∙ ap (λ (t : List ℕ). t ++ rest) s.0 in
    OkIs-answers {Y = ℕ × List ℕ} (λ x. (x.0, x.1.now)) c.any_length.result (length_at bytes) (n, rest) c.any_length.ensures.answers (ap length_at same ∙ length_again n rest s.1)
