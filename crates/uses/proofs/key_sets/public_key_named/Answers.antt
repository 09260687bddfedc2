use Rattle.std.proofs.Common.{◌≡◌, Some, None, sym, ap, ◌∙◌}
use Rattle.std.specs.List.{find}
use Rattle.picky_contract.specs.Refusals.{OkOrMemory}
use Rattle.picky_jwk_key.specs.Refusals.{fault}
use Rattle.picky_jwk.specs.Views.{jwk_view}
use Rattle.uses.specs.KeySets.{has_name}
use Rattle.uses.proofs.Named.{names, named, none_of, some_of}
use Rattle.uses.proofs.Refusals.{wants_memory}
use Rattle.uses.proofs.key_sets.public_key_named.Goals as goal

pub returns-in_err-set-clause-every : goal.returns-in_err-set-clause-every
returns-in_err-set-clause-every c key n = wants_memory (λ k. k) fault c.from_residual.result c.in_err-set.field-0.0 key c.from_residual.ensures.1 (c.in_err-set.ensures.every n.keys n.told)

pub returns-in_default-clause-found : goal.returns-in_default-clause-found
returns-in_default-clause-found c =
    let none = ap (find (λ k. has_name c.args.name.now (jwk_view k))) (sym c.deref.ensures.value) ∙ sym c.in_default.ensures in
    names c.args.json.now c.args.name.now c.in_ok-set.set.keys.items None None c.in_ok-set.ensures.found none tt

pub returns-in_default-clause-every : goal.returns-in_default-clause-every
returns-in_default-clause-every c key n =
    let none = ap (find (λ k. has_name c.args.name.now (jwk_view k))) (sym c.deref.ensures.value) ∙ sym c.in_default.ensures in
    none_of key (named c.args.json.now c.args.name.now c.in_ok-set.set.keys.items None key n (c.in_ok-set.ensures.every n.keys n.told) none)

pub returns-in_err-key-clause-every : goal.returns-in_err-key-clause-every
returns-in_err-key-clause-every c key n =
    let jwk = c.in-Some.jwk.now in
    let one = ap (find (λ k. has_name c.args.name.now (jwk_view k))) (sym c.deref.ensures.value) ∙ sym c.in-Some.ensures in
    some_of (jwk_view jwk) key (λ p. OkOrMemory (λ k. k) fault c.from_residual-in_err-key.result p)
    (named c.args.json.now c.args.name.now c.in_ok-set.set.keys.items (Some jwk) key n (c.in_ok-set.ensures.every n.keys n.told) one)
    (λ q told. wants_memory (λ k. k) fault c.from_residual-in_err-key.result c.in_err-key.field-0.0 (Some q) c.from_residual-in_err-key.ensures.1 (c.in_err-key.ensures.every q told))

pub returns-clause-found : goal.returns-clause-found
returns-clause-found c =
    let one = ap (find (λ k. has_name c.args.name.now (jwk_view k))) (sym c.deref.ensures.value) ∙ sym c.in-Some.ensures in
    names c.args.json.now c.args.name.now c.in_ok-set.set.keys.items (Some c.in-Some.jwk.now) (Some c.in_ok-key.key) c.in_ok-set.ensures.found one c.in_ok-key.ensures.found

pub returns-clause-every : goal.returns-clause-every
returns-clause-every c key n =
    let jwk = c.in-Some.jwk.now in
    let one = ap (find (λ k. has_name c.args.name.now (jwk_view k))) (sym c.deref.ensures.value) ∙ sym c.in-Some.ensures in
    some_of (jwk_view jwk) key (λ p. p ≡ Some c.in_ok-key.key)
    (named c.args.json.now c.args.name.now c.in_ok-set.set.keys.items (Some jwk) key n (c.in_ok-set.ensures.every n.keys n.told) one)
    (λ q told. ap Some (c.in_ok-key.ensures.every q told))
