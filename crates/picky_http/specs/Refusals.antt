-- Why a header text has no reading, in order (own order; draft-cavage-http-signatures-12, section 2.1).
use Rattle.std.specs.Prelude.{ℕ, List}
use Rattle.picky_contract.specs.Refusals.{Table, the, done, ◌>>=◌}
use Rattle.picky_http_text.specs.Clean.{IsValue}
use Rattle.picky_http.specs.Faults.{HttpFault, missing_parameter, invalid_parameter}
use Rattle.picky_http.specs.Parts.{AreParts}
use Rattle.picky_http.specs.Reading.{Shown, Reading, IsOptionalValue, IsOptionalNumber, IsSigned, reading_with, key_id_key, signature_key, created_key, expires_key, headers_key, algorithm_key}
use Rattle.picky_http.specs.Steps.{always}

-- what is shown of a text: its numbers are numbers, and it has a signature and a key's name
unfoldable pub shown_table : List ℕ → Table Shown HttpFault
shown_table text = do
  created ← the (IsOptionalNumber text created_key) (invalid_parameter created_key)
  expires ← the (IsOptionalNumber text expires_key) (invalid_parameter expires_key)
  signed ← the (IsSigned text) (missing_parameter signature_key)
  key_id ← the (IsValue text key_id_key) (missing_parameter key_id_key)
  headers ← always (IsOptionalValue text headers_key)
  algorithm ← always (IsOptionalValue text algorithm_key)
  done (record { key_id = key_id; signature = signed.text; headers = headers; algorithm = algorithm; created = created; expires = expires; legacy = signed.legacy })

-- the reading of a text
unfoldable pub reading_table : List ℕ → Table Reading HttpFault
reading_table text = do
  shown ← shown_table text
  parts ← always (AreParts shown.headers)
  done (reading_with shown parts)
