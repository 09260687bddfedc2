use Rattle.std.proofs.Common.{Some, refl}
use Rattle.picky_http.specs.declared.header.Header.TheVariants as header
use Rattle.picky_http.proofs.Numbered.{keep_created, numbered_headers}
use Rattle.picky_http.proofs.builder.HttpSignatureBuilder.created.Goals as goal

pub invariant_of-self-2 : goal.invariant_of-self-2
invariant_of-self-2 g c =
    let before = c.args.self.now in
    record {
      numbered = numbered_headers before.created before.expires (Some c.args.unix_timestamp) before.expires before.headers.items c.push.new.self.items header.Created c.in_ok-push.ensures.items
          (keep_created before.created before.expires c.args.unix_timestamp) refl before.numbered;
    }
