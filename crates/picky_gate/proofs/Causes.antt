-- An error that isn't want of memory, and the refusal that holds it.
use Rattle.std.proofs.Common.{◌≡◌, Option, IfSome, option_map, refl, sym, subst}
use Rattle.picky_contract.specs.Refusals.{Table, named, ◌>>=◌}
use Rattle.picky_contract.specs.laws.Tables.{step_refuses}
use Rattle.picky_http.specs.declared.error.HttpSignatureError.{HttpSignatureError}
use Rattle.picky_http.specs.declared.error.HttpSignatureError.TheVariants as http
use Rattle.picky_http.specs.Faults.{http_fault}
use Rattle.picky_jose.specs.declared.error.JwsError.{JwsError}
use Rattle.picky_jose.specs.declared.error.JwsError.TheVariants as of_jws
use Rattle.picky_jose.specs.declared.error.JwtError.{JwtError}
use Rattle.picky_jose.specs.declared.error.JwtError.TheVariants as jwt
use Rattle.picky_jose.specs.Faults.{jws_fault, jwt_fault}
use Rattle.picky_gate.specs.declared.admission.Refusal.TheVariants as refusal
use Rattle.picky_gate.specs.Refusals.{Cause, cause_of, of_http, of_token, of_jws as of_signed}

pub http_held : (e : HttpSignatureError) → ¬ (e ≡ http.OutOfMemory) → cause_of (refusal.Http e) ≡ option_map of_http (http_fault e)
http_held http.Base64Decoding some = refl
http_held (http.NotYetValid created now) some = refl
http_held (http.Expired not_after now) some = refl
http_held (http.Signature source) some = refl
http_held (http.SigningStringGeneration source) some = refl
http_held (http.InvalidSigningString line) some = refl
http_held (http.MissingBuilderArgument arg) some = refl
http_held http.BuilderEmptyHeaders some = refl
http_held http.BuilderHeadersProvidedWithPreGenerated some = refl
http_held (http.MissingRequiredParameter parameter) some = refl
http_held (http.InvalidParameter parameter) some = refl
http_held (http.IncompatibleAlgorithm value) some = refl
http_held http.OutOfMemory some = absurd (some refl)

pub jwt_held : (e : JwtError) → ¬ (e ≡ jwt.OutOfMemory) → cause_of (refusal.Token e) ≡ option_map of_token (jwt_fault e)
jwt_held (jwt.Jws source) some = refl
jwt_held jwt.Json some = refl
jwt_held (jwt.InvalidRegisteredClaimType claim) some = refl
jwt_held (jwt.RequiredClaimMissing claim) some = refl
jwt_held (jwt.NotYetValid not_before now) some = refl
jwt_held (jwt.Expired not_after now) some = refl
jwt_held (jwt.InvalidValidator description) some = refl
jwt_held jwt.Float some = refl
jwt_held jwt.OutOfMemory some = absurd (some refl)

pub jws_held : (e : JwsError) → ¬ (e ≡ of_jws.OutOfMemory) → cause_of (refusal.Token (jwt.Jws e)) ≡ option_map of_signed (jws_fault e)
jws_held of_jws.Json some = refl
jws_held (of_jws.Signature source) some = refl
jws_held (of_jws.InvalidEncoding input) some = refl
jws_held of_jws.Base64Decoding some = refl
jws_held of_jws.Float some = refl
jws_held of_jws.OutOfMemory some = absurd (some refl)

-- a first step that refuses, where the error is taken over
pub stops : {X Y F : Type 0} (g : F → Cause) (t : Table X F) (next : X → Table Y Cause) (o : Option F) (cause : Option Cause) → IfSome o t.refuses → cause ≡ option_map g o → IfSome cause (named g t >>= next).refuses
stops g t next o cause due is = subst (λ (c : Option Cause). IfSome c (named g t >>= next).refuses) (sym is) (step_refuses g t next o due)
