use Rattle.std.proofs.Common.{◌≡◌, sym, ap, ◌∙◌, subst}
use Rattle.picky_key_der.specs.declared.ecdsa.EcdsaSignatureValue.{EcdsaSignatureValue}
use Rattle.picky_key_der.specs.Ecdsa.{ecdsa_pair, pair_value, halves_of}
use Rattle.picky_jose.specs.Signatures.{pair_der, pair_table}
use Rattle.picky_jose.proofs.Pairs.{size_refused, pair_accepted}
use Rattle.picky_jose.proofs.signature.pair_der.Goals as goal

pub der_of-requires : goal.der_of-requires
der_of-requires c =
    let is : c.in-Ok.pair ≡ halves_of c.args.size c.args.signature.now = c.in-Ok.ensures.found.1 in
    subst (λ (p : EcdsaSignatureValue). ¬ (ecdsa_pair.Refused (pair_value p))) (sym is) (pair_accepted c.args.size c.args.signature.now c.requires.some c.in-Ok.ensures.found.0)

pub returns-in_ok-bytes-in-Ok : goal.returns-in_ok-bytes-in-Ok
unfolding pair_table pair_der
returns-in_ok-bytes-in-Ok c =
    let is : c.in-Ok.pair ≡ halves_of c.args.size c.args.signature.now = c.in-Ok.ensures.found.1 in
    (tt, c.in-Ok.ensures.found.0, c.in_ok-bytes-in-Ok.ensures ∙ ap (λ (p : EcdsaSignatureValue). ecdsa_pair.encoding (pair_value p)) is)

pub returns-in-Err : goal.returns-in-Err
returns-in-Err c = size_refused c.args.size c.args.signature.now c.in-Err.error c.in-Err.ensures.first
