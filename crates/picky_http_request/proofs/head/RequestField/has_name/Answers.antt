use Rattle.std.proofs.Common.{ap, sym, ◌∙◌}
use Rattle.std.proofs.lemmas.Slice.Eq.{bytes_eq-Decides}
use Rattle.std.specs.Prelude.{string_bytes}
use Rattle.std.specs.Str.{str_to_ascii_lowercase}
use Rattle.picky_http_request.specs.Heads.{has_name}
use Rattle.picky_http_request.proofs.Fields.{same_bool}
use Rattle.picky_http_request.proofs.head.RequestField.has_name.Goals as goal

pub returns : goal.returns
returns c =
    let own = str_to_ascii_lowercase (string_bytes c.args.self.now.name) in
    let asked = str_to_ascii_lowercase c.args.name.now in
    let lower = ap str_to_ascii_lowercase c.as_str.ensures.value in
    let test = bytes_eq-Decides own asked in
    same_bool c.eq_ignore_ascii_case.result (has_name c.args.name.now c.args.self.now)
    (λ h. test.1 (sym lower ∙ c.eq_ignore_ascii_case.ensures.test.0 h))
    (λ h. c.eq_ignore_ascii_case.ensures.test.1 (lower ∙ test.0 h))
