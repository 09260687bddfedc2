use Rattle.std.proofs.Common.{◌≡◌, sym, ap, subst, ◌∙◌}
use Rattle.picky_http.specs.Given.{Gives}
use Rattle.picky_http.specs.Parts.{part_of, part_named}
use Rattle.picky_http.specs.Signing.{Part, Created, Expires}
use Rattle.picky_http.proofs.given.gives.Goals as goal

pub returns-in-None : goal.returns-in-None
returns-in-None c = λ e h.
    let part : part_named c.args.key.now ≡ Created = sym c.in_ok-name.ensures ∙ ap part_of c.in-Created.is in
    let number = subst (λ (p : Part). Gives p c.args.value.now e) part h in
    c.in-None.ensures number.0 number.1

pub returns-in-None-number_of : goal.returns-in-None-number_of
returns-in-None-number_of c = λ e h.
    let part : part_named c.args.key.now ≡ Expires = sym c.in_ok-name.ensures ∙ ap part_of c.in-Expires.is in
    let number = subst (λ (p : Part). Gives p c.args.value.now e) part h in
    c.in-None-number_of.ensures number.0 number.1
