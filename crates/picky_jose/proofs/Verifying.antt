-- A token that was read, and then verified.
use Rattle.std.proofs.Common.{◌≡◌, ℕ, List, IfOk, Result, Ok, Err, inl, inr}
use Rattle.picky_contract.specs.Refusals.{Meets}
use Rattle.picky_contract.specs.laws.Tables.{up}
use Rattle.picky_key.specs.Signatures.{Relation}
use Rattle.picky_key_der.specs.declared.public.PublicKeyKind.{PublicKeyKind}
use Rattle.picky_jose.specs.declared.error.JwsError.{JwsError}
use Rattle.picky_jose.specs.declared.jws.Jws.{Jws}
use Rattle.picky_jose.specs.Faults.{jws_fault}
use Rattle.picky_jose.specs.Refusals.{Reading, token_table}
use Rattle.picky_jose.specs.Signatures.{signed_table}
use Rattle.picky_jose.specs.Verified.{content_of, verified_table}
use Rattle.picky_jose.specs.Views.{jws_content}

-- what verifying a token answers that was read is what the whole answers
pub verified_meets : (signs : Relation) (key : PublicKeyKind) (token : List ℕ) (r : Result Jws JwsError) (x : Reading) → (token_table token).gives x
    → Meets (λ y. tt) jws_fault r (signed_table signs key x.header.alg token) → IfOk r (λ y. jws_content y ≡ content_of x) → Meets jws_content jws_fault r (verified_table signs key token)
unfolding verified_table
verified_meets signs key token (Ok y) x read signed content = (x, read, (tt, signed, content))
verified_meets signs key token (Err e) x read due content = up (jws_fault e) _ _ (λ f k. inr (x, read, inl k)) due
