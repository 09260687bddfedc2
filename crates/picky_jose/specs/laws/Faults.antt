-- An error of a signed token, as one of claims.
use Rattle.std.proofs.Common.{◌≡◌, option_map, refl}
use Rattle.picky_jose.specs.declared.error.JwsError.{JwsError}
use Rattle.picky_jose.specs.declared.error.JwsError.TheVariants as of_jws
use Rattle.picky_jose.specs.Faults.{jws, jws_fault, jwt_fault, jwt_error_of}

-- it says the same under its outer name, and want of memory is the outer one's own
pub outer : (e : JwsError) → jwt_fault (jwt_error_of e) ≡ option_map jws (jws_fault e)
outer of_jws.Json = refl
outer (of_jws.Signature source) = refl
outer (of_jws.InvalidEncoding input) = refl
outer of_jws.Base64Decoding = refl
outer of_jws.Float = refl
outer of_jws.OutOfMemory = refl
