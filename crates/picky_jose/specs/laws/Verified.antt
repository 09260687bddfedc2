-- The rows of a verified token say the same as its content does.
use Rattle.std.proofs.Common.{ℕ, List}
use Rattle.picky_contract.specs.laws.Tables.{Exact, done_exact, then_exact}
use Rattle.picky_key.specs.Signatures.{Relation}
use Rattle.picky_key_der.specs.declared.public.PublicKeyKind.{PublicKeyKind}
use Rattle.picky_jose.specs.Views.{Content}
use Rattle.picky_jose.specs.Verified.{VerifiedContent, content_of, verified_table}
use Rattle.picky_jose.specs.laws.Readings.{token_exact, from_reading, to_reading}
use Rattle.picky_jose.specs.laws.Vouching.{signed_exact, signed_tells, signed_gives}

module _ (signs : Relation) (key : PublicKeyKind) (token : List ℕ) where
  pub verified_exact : Exact (verified_table signs key token)
  unfolding verified_table
  verified_exact =
      then_exact _ _ (token_exact token) (λ x.
      then_exact _ _ (signed_exact signs key x.header.alg token) (λ _.
      done_exact (content_of x)))

  pub to_verified : (c : Content) → (verified_table signs key token).holds c → VerifiedContent signs key token c
  unfolding verified_table
  to_verified c (x, read, (u, signed, is)) =
      let reads = to_reading x token read in
      record { reading = x; reads = reads; vouched = signed_tells x token signs key x.header.alg reads signed; is = is }

  pub from_verified : (c : Content) → VerifiedContent signs key token c → (verified_table signs key token).holds c
  unfolding verified_table
  from_verified c v =
      let x = v.reading in
      let signed = (signed_exact signs key x.header.alg token).holds tt (signed_gives x token signs key x.header.alg v.reads v.vouched) in
      (x, from_reading x token v.reads, (tt, signed, v.is))
