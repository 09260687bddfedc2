use Rattle.std.proofs.Common.{Option, IfSome, sym, subst}
use Rattle.picky_contract.specs.Refusals.{named}
use Rattle.picky_contract.specs.laws.Tables.{named_refuses}
use Rattle.picky_jwk_key.specs.Refusals.{fault}
use Rattle.picky_jwk.specs.Jwk.{JwkSetOf}
use Rattle.picky_jwk.specs.Refusals.{json_table}
use Rattle.picky_ring.specs.Refusals.{KeysRefusal, of_jwk}
use Rattle.picky_gate.proofs.documents.set_of.Goals as goal

pub returns-in-Err : goal.returns-in-Err
returns-in-Err c =
    let table = json_table JwkSetOf c.args.text.now in
    subst (λ (o : Option KeysRefusal). IfSome o (named of_jwk table).refuses) (sym c.from.ensures) (named_refuses of_jwk table (fault c.in-Err.error) c.in-Err.ensures.first)
