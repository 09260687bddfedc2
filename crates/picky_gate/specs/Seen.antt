-- What was found in a ring, without where it lies in memory (own).
use Rattle.std.specs.Prelude.{ℕ, List}
use Rattle.std.specs.Borrow.{Bor}
use Rattle.picky_key_der.specs.declared.public.PublicKeyKind.{PublicKeyKind}
use Rattle.picky_key.specs.declared.algorithm.SignatureAlgorithm.{SignatureAlgorithm}
use Rattle.picky_gate.specs.Admissible.{NamedKey}

abbrev pub key_view : Bor (List ℕ) × Bor PublicKeyKind × SignatureAlgorithm → NamedKey
key_view k = record { name = k.0.now; key = k.1.now; algorithm = k.2 }
