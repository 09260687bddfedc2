-- The private key that PKCS #8 bytes spell (RFC 5958).
use Rattle.std.specs.Prelude.{◌≡◌, ℕ, List}
use Rattle.picky_contract.specs.Refusals.{Table}
use Rattle.picky_key_der.specs.declared.error.KeyError.{KeyError}
use Rattle.picky_key_private.specs.declared.private.PrivateKey.{PrivateKey}
use Rattle.picky_key_private.specs.Reading.{said_table}

-- the key has these bytes, and of it they say its kind and public part
unfoldable pub private_table : List ℕ → Table PrivateKey KeyError
private_table bytes = record {
  holds = λ k. (k.bytes ≡ bytes) × (said_table bytes).holds (k.kind, k.public_part);
  gives = λ k. (k.bytes ≡ bytes) × (said_table bytes).gives (k.kind, k.public_part);
  refuses = (said_table bytes).refuses;
}
