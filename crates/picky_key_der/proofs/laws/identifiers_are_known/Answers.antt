use Rattle.picky_key_der.specs.Identifiers.{rsa_known, ec_known, x25519_known, ed25519_known, secp256r1_known, secp384r1_known, secp521r1_known}
use Rattle.picky_key_der.proofs.laws.identifiers_are_known.Goals as goal

pub returns : goal.returns
returns c = record {
  rsa_encryption = rsa_known;
  ec_public_key = ec_known;
  x25519 = x25519_known;
  ed25519 = ed25519_known;
  secp256r1 = secp256r1_known;
  secp384r1 = secp384r1_known;
  secp521r1 = secp521r1_known;
}
