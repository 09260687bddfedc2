-- What the errors of tokens say, want of memory aside (own).
use Rattle.std.specs.Prelude.{ℕ, ℤ, List, Option, Some, None, string_bytes}
use Rattle.picky_key_der.specs.declared.error.SignatureError.{SignatureError}
use Rattle.picky_key_der.specs.declared.error.SignatureError.TheVariants as of_signature
use Rattle.picky_key.specs.Signatures.{SignatureFault, signature_fault}
use Rattle.picky_jose.specs.declared.error.JwsError.{JwsError}
use Rattle.picky_jose.specs.declared.error.JwsError.TheVariants as of_jws
use Rattle.picky_jose.specs.declared.error.JwtError.{JwtError}
use Rattle.picky_jose.specs.declared.error.JwtError.TheVariants as of_jwt
use Rattle.picky_jose.specs.declared.date.JwtDate.{JwtDate}

-- why a signed token isn't accepted
pub data JwsFault : Type 0 where
  json : JwsFault
  signature : SignatureFault → JwsFault
  invalid_encoding : List ℕ → JwsFault
  not_base64 : JwsFault
  float : JwsFault

abbrev pub jws_fault : JwsError → Option JwsFault
jws_fault of_jws.Json = Some json
jws_fault (of_jws.Signature source) = Some (signature (signature_fault source))
jws_fault (of_jws.InvalidEncoding input) = Some (invalid_encoding (string_bytes input))
jws_fault of_jws.Base64Decoding = Some not_base64
jws_fault of_jws.Float = Some float
jws_fault of_jws.OutOfMemory = None

-- the error of a token that holds one of a signature; its want of memory is the outer one
abbrev pub jws_error_of : SignatureError → JwsError
jws_error_of of_signature.OutOfMemory = of_jws.OutOfMemory
jws_error_of source = of_jws.Signature source

-- Why claims aren't accepted. No table names `inner_memory`, the want of memory of an inner error, so none is carried: it
-- is the outer error's own.
pub data JwtFault : Type 0 where
  jws : JwsFault → JwtFault
  no_json : JwtFault
  no_integer : List ℕ → JwtFault
  missing : List ℕ → JwtFault
  not_yet_valid : ℤ → JwtDate → JwtFault
  expired : ℤ → JwtDate → JwtFault
  invalid_validator : List ℕ → JwtFault
  has_float : JwtFault
  inner_memory : JwtFault

-- what an inner error says
abbrev pub of_inner : Option JwsFault → JwtFault
of_inner (Some fault) = jws fault
of_inner None = inner_memory

abbrev pub jwt_fault : JwtError → Option JwtFault
jwt_fault (of_jwt.Jws source) = Some (of_inner (jws_fault source))
jwt_fault of_jwt.Json = Some no_json
jwt_fault (of_jwt.InvalidRegisteredClaimType claim) = Some (no_integer claim.now)
jwt_fault (of_jwt.RequiredClaimMissing claim) = Some (missing claim.now)
jwt_fault (of_jwt.NotYetValid not_before now) = Some (not_yet_valid not_before now)
jwt_fault (of_jwt.Expired not_after now) = Some (expired not_after now)
jwt_fault (of_jwt.InvalidValidator description) = Some (invalid_validator description.now)
jwt_fault of_jwt.Float = Some has_float
jwt_fault of_jwt.OutOfMemory = None

-- the error of claims that holds one of a signed token; its want of memory is the outer one
abbrev pub jwt_error_of : JwsError → JwtError
jwt_error_of of_jws.OutOfMemory = of_jwt.OutOfMemory
jwt_error_of source = of_jwt.Jws source
