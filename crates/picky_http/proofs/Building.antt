-- What a builder answers.
use Rattle.std.proofs.Common.{◌≡◌, ℕ, List, Option, Some, None, IfSome, refl, subst}
use Rattle.std.specs.Prelude.{IsTrue}
use Rattle.picky_contract.specs.Refusals.{Table}
use Rattle.picky_contract.specs.laws.Tables.{Exact}
use Rattle.picky_http_request.specs.Answers.{Answer}
use Rattle.picky_http.specs.Building.{Signer, Draft, build_table}
use Rattle.picky_http.specs.Faults.{HttpFault, missing_parameter}
use Rattle.picky_http.specs.Numbered.{are_numbered}
use Rattle.picky_http.specs.laws.Building.{build_numbered}

-- a refusal is want of memory where the conditions hold
pub holds_so_memory : {Y F : Type 0} (t : Table Y F) → Exact t → (o : Option F) → IfSome o t.refuses → (y : Y) → t.holds y → o ≡ None
holds_so_memory t e None m y h = refl
holds_so_memory t e (Some f) m y h = absurd (e.apart f y m h)

pub never_missing : {Q : Type 0} (sign_of : Signer) (answer : Q → List ℕ → Answer) (method target : Q → Answer) (d : Draft Q) (o : Option HttpFault) (p : List ℕ)
    → IsTrue (are_numbered d.created d.expires d.headers) → IfSome o (build_table sign_of answer method target d).refuses → o ≡ Some (missing_parameter p) → ⊥
never_missing sign_of answer method target d o p there m e =
    build_numbered sign_of answer method target d p there (subst (λ (x : Option HttpFault). IfSome x (build_table sign_of answer method target d).refuses) e m)
