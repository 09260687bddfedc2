-- What PKCS #8 bytes say of a key, and the refusals in their order (RFC 5958; the order is own).
use Rattle.std.specs.Prelude.{◌≡◌, ℕ, List, length, Option, Some, None}
use Rattle.picky_contract.specs.Refusals.{Table, need, done, ◌>>=◌}
use Rattle.picky_der.specs.Form.{whole}
use Rattle.picky_der.specs.Reading.{whole_bytes}
use Rattle.picky_fields.specs.Fields.{octet_string}
use Rattle.picky_key_der.specs.declared.algorithm.EdAlgorithm.{EdAlgorithm}
use Rattle.picky_key_der.specs.declared.algorithm.NamedEcCurve.{NamedEcCurve}
use Rattle.picky_key_der.specs.declared.error.KeyError.{KeyError}
use Rattle.picky_key_der.specs.declared.error.KeyError.TheVariants.{BadSize}
use Rattle.picky_key_der.specs.declared.kind.PrivateKeyKind.{PrivateKeyKind}
use Rattle.picky_key_der.specs.declared.kind.PrivateKeyKind.TheVariants.{Rsa, Ec, Ed}
use Rattle.picky_key_der.specs.declared.public.PublicKeyKind.{PublicKeyKind}
use Rattle.picky_key_der.specs.Errors.{read}
use Rattle.picky_key_der.specs.Public.{kind_table, held_table, rsa_key}
use Rattle.picky_key_private.specs.Forms.{private_info, rsa_private, ec_private}

-- what bytes say of a key: its kind, and its public part where there is one
abbrev pub Said : Type 0
Said = PrivateKeyKind × Option PublicKeyKind

-- the octets hold nine numbers, of which the second and third are modulus and public exponent
unfoldable pub rsa_said_table : List ℕ → Table Said KeyError
rsa_said_table octets = do
  numbers ← read (whole rsa_private.reading octets)
  done (Rsa, Some (rsa_key (numbers.0.0.1, numbers.0.1)))

-- the bits after the attributes are whole bytes, where they are there
abbrev pub behind_table : Option (List ℕ) → Table (Option (List ℕ)) KeyError
behind_table None = done None
behind_table (Some bits) = read (whole_bytes bits) >>= λ bytes. done (Some bytes)

-- the bits are a public key of the kind, where they are there
abbrev pub part_table : PrivateKeyKind → Option (List ℕ) → Table (Option PublicKeyKind) KeyError
part_table kind None = done None
part_table kind (Some bits) = held_table kind bits >>= λ key. done (Some key)

-- the first that is there
abbrev pub first_of : Option PublicKeyKind → Option PublicKeyKind → Option PublicKeyKind
first_of None other = other
first_of (Some part) other = Some part

-- the public key beside the number is looked at first, and counts before the one after the attributes
unfoldable pub parts_table : PrivateKeyKind → Option (List ℕ) → Option (List ℕ) → Table (Option PublicKeyKind) KeyError
parts_table kind beside behind = do
  first ← part_table kind beside
  second ← part_table kind behind
  done (first_of first second)

-- the octets hold a number of the curve
unfoldable pub ec_said_table : NamedEcCurve → List ℕ → Option (List ℕ) → Table Said KeyError
ec_said_table curve octets bits = do
  number ← read (whole ec_private.reading octets)
  behind ← behind_table bits
  part ← parts_table (Ec curve) number.1 behind
  done (Ec curve, part)

-- there are 32 bytes, and then the public key is looked at
unfoldable pub sized_table : EdAlgorithm → List ℕ → Option (List ℕ) → Table (Option PublicKeyKind) KeyError
sized_table algorithm secret behind = do
  fits ← need (length secret ≡ 32) (BadSize 32 (length secret))
  part_table (Ed algorithm) behind

-- the octets hold an OCTET STRING of 32 bytes
unfoldable pub ed_said_table : EdAlgorithm → List ℕ → Option (List ℕ) → Table Said KeyError
ed_said_table algorithm octets bits = do
  secret ← read (whole octet_string.reading octets)
  behind ← behind_table bits
  part ← sized_table algorithm secret behind
  done (Ed algorithm, part)

abbrev pub kind_said_table : PrivateKeyKind → List ℕ → Option (List ℕ) → Table Said KeyError
kind_said_table Rsa octets bits = rsa_said_table octets
kind_said_table (Ec curve) octets bits = ec_said_table curve octets bits
kind_said_table (Ed algorithm) octets bits = ed_said_table algorithm octets bits

unfoldable pub said_table : List ℕ → Table Said KeyError
said_table bytes = do
  info ← read (whole private_info.reading bytes)
  kind ← kind_table info.0.0.0.1
  kind_said_table kind info.0.0.1 info.1
