use Rattle.std.proofs.Common.{◌≡◌, ℕ, List, false, inl, inr, refl, sym, ap, ◌∙◌, true≢false}
use Rattle.picky_key.specs.SignatureForms.{is_signature_for}
use Rattle.picky_records.specs.declared.error.RecordFault.TheVariants.{BadLine}
use Rattle.picky_records.specs.Reading.{fault, sig_table, algorithm_named}
use Rattle.picky_records.proofs.Exits.{exit, named_gives}
use Rattle.picky_records.proofs.read.sig_of.Goals as goal

pub returns-in_err-message : goal.returns-in_err-message
unfolding sig_table
returns-in_err-message c =
    let named = named_gives (algorithm_named c.args.name.now) c.algorithm_of.result c.in-Some.algorithm (BadLine c.args.number) c.in-Some.is c.algorithm_of.ensures in
    exit (λ l. l) fault c.from_residual-in_err-message.result c.in_err-message.field-0.0
    (sig_table c.args.number c.args.name.now c.args.spki.now c.args.message.now c.args.signature.now) _ c.from_residual-in_err-message.ensures.1 c.in_err-message.ensures
    (λ f r. inr (c.in-Some.algorithm, named, inr (c.in_ok-key.key, c.in_ok-key.ensures, inl r)))

pub returns-in_err-signature : goal.returns-in_err-signature
unfolding sig_table
returns-in_err-signature c =
    let named = named_gives (algorithm_named c.args.name.now) c.algorithm_of.result c.in-Some.algorithm (BadLine c.args.number) c.in-Some.is c.algorithm_of.ensures in
    exit (λ l. l) fault c.from_residual-in_err-signature.result c.in_err-signature.field-0.0
    (sig_table c.args.number c.args.name.now c.args.spki.now c.args.message.now c.args.signature.now) _ c.from_residual-in_err-signature.ensures.1 c.in_err-signature.ensures
    (λ f r. inr (c.in-Some.algorithm, named, inr (c.in_ok-key.key, c.in_ok-key.ensures, inr (c.in_ok-message.message, c.in_ok-message.ensures, inl r))))

pub returns-then-not-wanted : goal.returns-then-not-wanted
unfolding sig_table
returns-then-not-wanted c =
    let named = named_gives (algorithm_named c.args.name.now) c.algorithm_of.result c.in-Some.algorithm (BadLine c.args.number) c.in-Some.is c.algorithm_of.ensures in
    let off : is_signature_for c.in-Some.algorithm c.in_ok-key.key c.in_ok-signature.signature ≡ false =
    ap (λ (s : List ℕ). is_signature_for c.in-Some.algorithm c.in_ok-key.key s) (sym c.as_slice.ensures) ∙ sym c.in_ok-wanted.ensures ∙ c.if-not-wanted.true in
    inr (
      c.in-Some.algorithm,
      named,
      inr (
        c.in_ok-key.key,
        c.in_ok-key.ensures,
        inr (c.in_ok-message.message, c.in_ok-message.ensures, inr (c.in_ok-signature.signature, c.in_ok-signature.ensures, inl (refl, λ h. true≢false (sym h ∙ off)))),
      ),
    )
