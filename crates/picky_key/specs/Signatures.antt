-- When a signature is accepted under a key and an algorithm, and why not (own): every kind of signed text
-- is judged by this one row, whatever its signed bytes are.
use Rattle.std.specs.Prelude.{ℕ, List, ⊤, Option, Some, None}
use Rattle.picky_contract.specs.Refusals.{Table, need}
use Rattle.picky_key_der.specs.declared.error.SignatureError.{SignatureError}
use Rattle.picky_key_der.specs.declared.error.SignatureError.TheVariants as of_signature
use Rattle.picky_key_der.specs.declared.public.PublicKeyKind.{PublicKeyKind}
use Rattle.picky_key.specs.declared.algorithm.SignatureAlgorithm.{SignatureAlgorithm}

-- a signature relation: key, algorithm, message and signature
abbrev pub Relation : Type 1
Relation = PublicKeyKind → SignatureAlgorithm → List ℕ → List ℕ → Type 0

-- why a signature isn't accepted; sizes in bytes, expected and got. No table names `memory`: want of memory is the
-- outer error's own, so no error carries an inner one.
pub data SignatureFault : Type 0 where
  unsupported : SignatureFault
  bad : SignatureFault
  ec_size : ℕ → ℕ → SignatureFault
  none_given : SignatureFault
  memory : SignatureFault

abbrev pub signature_fault : SignatureError → SignatureFault
signature_fault of_signature.UnsupportedAlgorithm = unsupported
signature_fault of_signature.BadSignature = bad
signature_fault (of_signature.Ec expected got) = ec_size expected got
signature_fault of_signature.NoSignature = none_given
signature_fault of_signature.OutOfMemory = memory

-- the same of an error that isn't carried by another, want of memory aside
abbrev pub own_fault : SignatureError → Option SignatureFault
own_fault of_signature.OutOfMemory = None
own_fault e = Some (signature_fault e)

-- the relation holds of the key, the algorithm, the message and the signature
abbrev pub vouched_table : Relation → PublicKeyKind → SignatureAlgorithm → List ℕ → List ℕ → Table ⊤ SignatureFault
vouched_table signs key algorithm message s = need (signs key algorithm message s) bad
