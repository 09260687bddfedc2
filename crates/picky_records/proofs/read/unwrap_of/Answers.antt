use Rattle.std.proofs.Common.{inl, inr, refl}
use Rattle.picky_records.specs.declared.error.RecordFault.TheVariants.{BadLine}
use Rattle.picky_records.specs.Reading.{fault, unwrap_table, scheme_named}
use Rattle.picky_records.proofs.Exits.{exit, named_gives}
use Rattle.picky_records.proofs.read.unwrap_of.Goals as goal

pub returns-in_err-wrapped : goal.returns-in_err-wrapped
unfolding unwrap_table
returns-in_err-wrapped c =
    let named = named_gives (scheme_named c.args.name.now) c.scheme_of.result c.in-Some.scheme (BadLine c.args.number) c.in-Some.is c.scheme_of.ensures in
    exit (λ l. l) fault c.from_residual-in_err-wrapped.result c.in_err-wrapped.field-0.0
    (unwrap_table c.args.number c.args.name.now c.args.pkcs8.now c.args.wrapped.now c.args.content_key.now) _ c.from_residual-in_err-wrapped.ensures.1 c.in_err-wrapped.ensures
    (λ f r. inr (c.in-Some.scheme, named, inr (c.in_ok-private.private, c.in_ok-private.ensures, inl r)))

pub returns-in_err-content_key : goal.returns-in_err-content_key
unfolding unwrap_table
returns-in_err-content_key c =
    let named = named_gives (scheme_named c.args.name.now) c.scheme_of.result c.in-Some.scheme (BadLine c.args.number) c.in-Some.is c.scheme_of.ensures in
    exit (λ l. l) fault c.from_residual-in_err-content_key.result c.in_err-content_key.field-0.0
    (unwrap_table c.args.number c.args.name.now c.args.pkcs8.now c.args.wrapped.now c.args.content_key.now) _ c.from_residual-in_err-content_key.ensures.1 c.in_err-content_key.ensures
    (λ f r. inr (c.in-Some.scheme, named, inr (c.in_ok-private.private, c.in_ok-private.ensures, inr (c.in_ok-wrapped.wrapped, c.in_ok-wrapped.ensures, inl r))))

pub returns : goal.returns
unfolding unwrap_table
returns c =
    let named = named_gives (scheme_named c.args.name.now) c.scheme_of.result c.in-Some.scheme (BadLine c.args.number) c.in-Some.is c.scheme_of.ensures in
    (c.in-Some.scheme, named, (c.in_ok-private.private, c.in_ok-private.ensures, (c.in_ok-wrapped.wrapped, c.in_ok-wrapped.ensures, (c.in_ok-content_key.content_key, c.in_ok-content_key.ensures, refl))))
