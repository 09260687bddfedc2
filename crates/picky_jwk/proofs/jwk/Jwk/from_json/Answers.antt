use Rattle.std.proofs.Common.{refl}
use Rattle.picky_jwk.specs.Views.{jwk_view}
use Rattle.picky_jwk.specs.laws.Texts.{jwk_text}
use Rattle.picky_jwk.proofs.jwk.Jwk.from_json.Goals as goal

pub returns-in-Ok-clause-every : goal.returns-in-Ok-clause-every
returns-in-Ok-clause-every c = λ k r. jwk_text c.args.json.now (jwk_view c.in-Ok.key) k c.in-Ok.ensures r

pub returns-in-Ok-clause-first : goal.returns-in-Ok-clause-first
returns-in-Ok-clause-first c = (c.in-Ok.ensures, λ k r. jwk_text c.args.json.now (jwk_view c.in-Ok.key) k c.in-Ok.ensures r)

pub returns-in-Err-NotOfForm-clause-every : goal.returns-in-Err-NotOfForm-clause-every
returns-in-Err-NotOfForm-clause-every c = λ k r. absurd (c.in-Err-NotOfForm.ensures.none c.in-Err-NotOfForm.field-0-is k r)

pub returns-in-Err-NotOfForm-clause-first : goal.returns-in-Err-NotOfForm-clause-first
returns-in-Err-NotOfForm-clause-first c = (refl, c.in-Err-NotOfForm.ensures.none c.in-Err-NotOfForm.field-0-is)
