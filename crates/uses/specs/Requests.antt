-- When a request is signed (draft-cavage-http-signatures-12, section 2.5).
use Rattle.std.specs.Prelude.{ℕ, List, Some}
use Rattle.picky_base64.specs.Base64.{B64}
use Rattle.picky_key_der.specs.declared.public.PublicKeyKind.{PublicKeyKind}
use Rattle.picky_key.specs.declared.algorithm.SignatureAlgorithm.{SignatureAlgorithm}
use Rattle.picky_key.specs.Signatures.{Relation}
use Rattle.picky_http.specs.Lines.{Request}
use Rattle.picky_http.specs.Reading.{Reading}
use Rattle.picky_http.specs.Verifying.{AlgorithmFits, IsInForce, HasBegun, IsMessage, form_of}

-- The reading is a signature of the request: an algorithm that it names and that is known is this one, of the key's family;
-- its dates meet the moment, 30 seconds aside; its text spells a signature, and the relation holds of the key, the
-- algorithm, the signing string of the covered parts with the request's answers, and that signature.
pub record IsSignatureOf (signs : Relation) (key : PublicKeyKind) (algorithm : SignatureAlgorithm) (now : ℕ) (request : Request) (r : Reading) : Type 0 where
  pub fits : AlgorithmFits key algorithm r.algorithm
  pub lasts : IsInForce (Some now) 30 r.expires
  pub started : HasBegun (Some now) 30 r.created
  pub message : List ℕ
  pub of_request : IsMessage request r message
  pub signature : List ℕ
  pub spelled : B64 (form_of r.legacy) r.signature signature
  pub vouched : signs key algorithm message signature
