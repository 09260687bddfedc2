-- Parameters of PBKDF2: SEQUENCE { salt, iterationCount INTEGER, keyLength INTEGER OPTIONAL, prf AlgorithmIdentifier DEFAULT algid-hmacWithSHA1 } (RFC 8018 appendix A.2; an explicit default is read and not written).
use Rattle.std.specs.Prelude.{ℕ, Option, Some, None}
use Rattle.picky_der.specs.Form.{Form}
use Rattle.picky_fields.specs.Fields.{Fields, one, optional, ◌and◌, sequence}
use Rattle.picky_fields.specs.SeenAgain.{seen_again}
use Rattle.picky_x509_algorithms.specs.declared.prf.Pbkdf2Prf.{Pbkdf2Prf}
use Rattle.picky_x509_algorithms.specs.declared.prf.Pbkdf2Prf.TheVariants.{HmacWithSha1, HmacWithSha224, HmacWithSha256, HmacWithSha384, HmacWithSha512, Unknown}
use Rattle.picky_x509_algorithms.specs.declared.pbkdf2.Pbkdf2Params.{Pbkdf2Params}
use Rattle.picky_x509_algorithms.specs.Counts.{count}
use Rattle.picky_x509_algorithms.specs.Prf.{prf}
use Rattle.picky_x509_algorithms.specs.Salt.{SaltValue, salt_parts, salt_of, salt}

-- what a field says of the prf, where HMAC with SHA-1 is what no field says
abbrev pub beside_default : Pbkdf2Prf → Option Pbkdf2Prf
beside_default HmacWithSha1 = None
beside_default HmacWithSha224 = Some HmacWithSha224
beside_default HmacWithSha256 = Some HmacWithSha256
beside_default HmacWithSha384 = Some HmacWithSha384
beside_default HmacWithSha512 = Some HmacWithSha512
beside_default (Unknown a) = Some (Unknown a)

abbrev pub without_default : Option Pbkdf2Prf → Option Pbkdf2Prf
without_default None = None
without_default (Some p) = beside_default p

abbrev pub Pbkdf2Value : Type 0
Pbkdf2Value = ((SaltValue × ℕ) × Option ℕ) × Option Pbkdf2Prf

abbrev pub pbkdf2_of : Pbkdf2Value → Pbkdf2Params
pbkdf2_of x = record { salt = salt_of x.0.0.0; iteration_count = x.0.0.1; key_length = x.0.1; prf = without_default x.1 }

abbrev pub pbkdf2_parts : Pbkdf2Params → Pbkdf2Value
pbkdf2_parts p = (((salt_parts p.salt, p.iteration_count), p.key_length), without_default p.prf)

unfoldable pub pbkdf2_fields : Fields Pbkdf2Params
pbkdf2_fields = seen_again pbkdf2_of pbkdf2_parts (one salt and one count and optional count and optional prf)

unfoldable pub pbkdf2 : Form Pbkdf2Params
pbkdf2 = sequence pbkdf2_fields
