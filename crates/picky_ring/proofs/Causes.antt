-- An error that isn't want of memory, and the fault that holds it.
use Rattle.std.proofs.Common.{◌≡◌, option_map, refl}
use Rattle.picky_jwk_key.specs.declared.error.JwkError.{JwkError}
use Rattle.picky_jwk_key.specs.declared.error.JwkError.TheVariants as jwk
use Rattle.picky_jwk_key.specs.Refusals.{fault}
use Rattle.picky_ring.specs.declared.ring.KeysFault.TheVariants as faults
use Rattle.picky_ring.specs.Refusals.{keys_fault, of_jwk}

pub jwk_held : (e : JwkError) → ¬ (e ≡ jwk.OutOfMemory) → keys_fault (faults.Jwk e) ≡ option_map of_jwk (fault e)
jwk_held jwk.Json some = refl
jwk_held jwk.Base64Decoding some = refl
jwk_held (jwk.UnsupportedAlgorithm algorithm) some = refl
jwk_held (jwk.InvalidEcPublicKey cause) some = refl
jwk_held jwk.InvalidEcPointCoordinates some = refl
jwk_held (jwk.InvalidEdPublicKey cause) some = refl
jwk_held jwk.OutOfMemory some = absurd (some refl)
