-- Which keys of a set are taken into a ring (own; RFC 7517 sections 4.2, 4.4 and 4.5).
use Rattle.std.specs.Prelude.{ℕ, List, Option, Some, None, option_map}
use Rattle.std.specs.List.{filter_map}
use Rattle.std.specs.Option.{option_and_then}
use Rattle.picky_key.specs.declared.algorithm.SignatureAlgorithm.{SignatureAlgorithm}
use Rattle.picky_jwk_names.specs.declared.key_use.JwkPubKeyUse.{JwkPubKeyUse}
use Rattle.picky_jwk_names.specs.declared.key_use.JwkPubKeyUse.TheVariants.{Signature, Encryption}
use Rattle.picky_jwk_key.specs.Keys.{Key}
use Rattle.picky_jwk.specs.Jwk.{Jwk}
use Rattle.picky_ring.specs.Algorithms.{default_of, algorithm_asked}

-- a key that is taken: its name, what it holds, and the algorithm with which signatures are checked under it
pub record Taken : Type 0 where
  pub name : List ℕ
  pub key : Key
  pub algorithm : SignatureAlgorithm

-- what the key is taken with, where its `use` isn't encryption
abbrev pub unless_encryption : {X : Type 0} → Option JwkPubKeyUse → Option X → Option X
unless_encryption None x = x
unless_encryption (Some Signature) x = x
unless_encryption (Some Encryption) x = None

-- the algorithm of a key; none where its kind checks no signature or its `alg` has no signature algorithm
abbrev pub algorithm_for : Jwk → Option SignatureAlgorithm
algorithm_for k = option_and_then (algorithm_asked k.alg) (default_of k.key)

-- What a key is taken as. It is skipped where it has no `kid`, where its `use` is `enc`, where it is an octet sequence, Ed448, X25519 or X448,
-- and where it has an `alg` without a signature algorithm.
abbrev pub taken_as : Jwk → Option Taken
taken_as k = unless_encryption k.key_use (option_and_then (λ name. option_map (λ algorithm. record { name = name; key = k.key; algorithm = algorithm }) (algorithm_for k)) k.kid)

-- the keys of a set that are taken, in order
abbrev pub taken : List Jwk → List Taken
taken keys = filter_map taken_as keys
