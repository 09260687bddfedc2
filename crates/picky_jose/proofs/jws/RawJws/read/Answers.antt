use Rattle.std.proofs.Common.{inl, inr, refl}
use Rattle.picky_jws_header.specs.Views.{header_view}
use Rattle.picky_jose.specs.Refusals.{token_table}
use Rattle.picky_jose.proofs.jws.RawJws.read.Goals as goal

pub returns-in_default-3-clause-reads : goal.returns-in_default-3-clause-reads
unfolding token_table
returns-in_default-3-clause-reads c =
    let parts = rw c.as_str.ensures.value at c.in-Some.ensures in
    let signature = rw c.in-Some-2.is at c.in_ok-signature.ensures in
    let none = rw c.in_default-3.is at c.in_ok-payload.ensures in
    inr (_, parts, inr (header_view c.in_ok-header.header, c.in_ok-header.ensures, inr (c.in-Some-2.signature.items, signature, inl (refl, none))))
