use Rattle.std.proofs.Common.{string_bytes}
use Rattle.picky_jws_header.specs.Views.{header_view}
use Rattle.picky_jose.specs.laws.Encoding.{token_made}
use Rattle.picky_jose.proofs.encode.token_of.Goals as goal

pub returns-clause-reads_back : goal.returns-clause-reads_back
returns-clause-reads_back g c =
    let sign = g.P.KeyProvider.sign_of c.args.provider.now c.args.private_key.now in
    let given = rw c.as_bytes-message.ensures.value at c.in_ok-signature.ensures.first in
    let bytes = rw c.deref.ensures.value at c.in_ok-joined.ensures.bytes in
    let joined = rw c.deref.ensures.value at c.in_ok-joined.ensures.text in
    token_made sign (header_view c.args.header.now) (string_bytes c.in_ok-text.text) c.args.payload.now (string_bytes c.in_ok-signed.signed) c.in_ok-signature.signature.items
    (string_bytes c.in_ok-joined.field-0) c.in_ok-text.ensures.first c.in_ok-text.ensures.reads_back c.in_ok-signed.ensures.bytes c.in_ok-signed.ensures.text given c.in_ok-signature.ensures.some bytes joined
