-- What the errors of HTTP signatures say, want of memory aside (own).
use Rattle.std.specs.Prelude.{ℕ, List, Option, Some, None, string_bytes}
use Rattle.picky_key_der.specs.declared.error.SignatureError.{SignatureError}
use Rattle.picky_key_der.specs.declared.error.SignatureError.TheVariants as of_signature
use Rattle.picky_key.specs.declared.algorithm.SignatureAlgorithm.{SignatureAlgorithm}
use Rattle.picky_key.specs.Signatures.{SignatureFault, signature_fault}
use Rattle.picky_http_request.specs.declared.error.HttpRequestError.{HttpRequestError}
use Rattle.picky_http_request.specs.declared.error.HttpRequestError.TheVariants as of_request_error
use Rattle.picky_http_request.specs.Answers.{RequestFault, request_fault}
use Rattle.picky_http.specs.declared.error.HttpSignatureError.{HttpSignatureError}
use Rattle.picky_http.specs.declared.error.HttpSignatureError.TheVariants as of_http

-- Why an HTTP signature isn't read, made or accepted; dates in seconds, the signature's and then the moment. No table names
-- `inner_memory`, the want of memory of an inner error, so none is carried: it is the outer error's own.
pub data HttpFault : Type 0 where
  not_base64 : HttpFault
  not_yet_valid : ℕ → ℕ → HttpFault
  expired : ℕ → ℕ → HttpFault
  signature : SignatureFault → HttpFault
  no_line : RequestFault → HttpFault
  bad_line : List ℕ → HttpFault
  missing_argument : List ℕ → HttpFault
  covers_nothing : HttpFault
  covers_beside : HttpFault
  missing_parameter : List ℕ → HttpFault
  invalid_parameter : List ℕ → HttpFault
  incompatible : SignatureAlgorithm → HttpFault
  inner_memory : HttpFault

-- what the error of a request says
abbrev pub of_line : Option RequestFault → HttpFault
of_line (Some fault) = no_line fault
of_line None = inner_memory

abbrev pub http_fault : HttpSignatureError → Option HttpFault
http_fault of_http.Base64Decoding = Some not_base64
http_fault (of_http.NotYetValid created now) = Some (not_yet_valid created now)
http_fault (of_http.Expired not_after now) = Some (expired not_after now)
http_fault (of_http.Signature source) = Some (signature (signature_fault source))
http_fault (of_http.SigningStringGeneration source) = Some (of_line (request_fault source))
http_fault (of_http.InvalidSigningString line) = Some (bad_line (string_bytes line))
http_fault (of_http.MissingBuilderArgument arg) = Some (missing_argument arg.now)
http_fault of_http.BuilderEmptyHeaders = Some covers_nothing
http_fault of_http.BuilderHeadersProvidedWithPreGenerated = Some covers_beside
http_fault (of_http.MissingRequiredParameter parameter) = Some (missing_parameter parameter.now)
http_fault (of_http.InvalidParameter parameter) = Some (invalid_parameter parameter.now)
http_fault (of_http.IncompatibleAlgorithm value) = Some (incompatible value)
http_fault of_http.OutOfMemory = None

-- the error that holds one of a signature; its want of memory is the outer one
abbrev pub of_signature_error : SignatureError → HttpSignatureError
of_signature_error of_signature.OutOfMemory = of_http.OutOfMemory
of_signature_error source = of_http.Signature source

-- the error that holds one of a request; its want of memory is the outer one
abbrev pub of_request : HttpRequestError → HttpSignatureError
of_request of_request_error.OutOfMemory = of_http.OutOfMemory
of_request source = of_http.SigningStringGeneration source
