-- Steps of reading a bag that hand on what was read before them (own).
use Rattle.std.specs.Prelude.{ℕ, List, Option, Result, Ok}
use Rattle.picky_der.specs.declared.fault.DerError.{DerError}
use Rattle.picky_der.specs.Reading.{◌>>=◌, end_at}
use Rattle.picky_fields.specs.Fields.{optional}
use Rattle.picky_x509_bags.specs.declared.attribute.Pkcs12Attribute.{Pkcs12Attribute}
use Rattle.picky_x509_bags.specs.Attribute.{attributes}

-- the attributes behind a value, with it
abbrev pub attributes_at : {X : Type 0} → X → ℕ → List ℕ → Result ((X × Option (List Pkcs12Attribute)) × List ℕ) DerError
attributes_at x depth bytes = (optional attributes).reading depth bytes >>= λ a. Ok ((x, a.0), a.1)

-- a value with nothing behind it
abbrev pub last_at : {X : Type 0} → X → List ℕ → Result X DerError
last_at x bytes = end_at bytes >>= λ _. Ok x
