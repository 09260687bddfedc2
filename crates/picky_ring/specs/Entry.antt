-- What signatures are checked with under an entry of a ring (own).
use Rattle.std.specs.Prelude.{Option, Some, None, option_map}
use Rattle.picky_key_der.specs.declared.public.PublicKeyKind.{PublicKeyKind}
use Rattle.picky_key.specs.declared.algorithm.SignatureAlgorithm.{SignatureAlgorithm}
use Rattle.picky_ring.specs.declared.ring.RingEntry.{RingEntry}
use Rattle.picky_ring.specs.declared.ring.RingEntry.TheVariants.{Verify, Pair, Secret}

-- the public key and the algorithm; a pair without an algorithm and a secret check no signature
abbrev pub verifying : RingEntry → Option (PublicKeyKind × SignatureAlgorithm)
verifying (Verify key algorithm) = Some (key, algorithm)
verifying (Pair private public algorithm) = option_map (λ a. (public, a)) algorithm
verifying (Secret bytes) = None
