-- What a token whose signature holds comes to by its claims.
use Rattle.std.proofs.Common.{◌≡◌, ℕ, List, Option, IfSome, option_map, refl, sym, subst}
use Rattle.serde_json.specs.Data.{Data}
use Rattle.picky_contract.specs.Refusals.{done}
use Rattle.picky_contract.specs.laws.Tables.{up}
use Rattle.picky_jose.specs.Claims.{IsItself, claims_table, told_table}
use Rattle.picky_jose.specs.Faults.{JwtFault}
use Rattle.picky_jws_header.specs.Header.{Header}
use Rattle.picky_jose.specs.Validator.{Validator}
use Rattle.picky_jose.specs.Views.{Content}
use Rattle.picky_jose.specs.laws.Claims.{itself_leads}
use Rattle.picky_gate.specs.Admissible.{token}
use Rattle.picky_gate.specs.Refusals.{Cause, of_token, claimed_table}
use Rattle.picky_gate.proofs.Causes.{stops}

-- its claims are read
pub claimed_gives : (v : Validator) (name : List ℕ) (k u : Content) (h : Header) (c : Data) → u ≡ k → h ≡ u.header → (told_table IsItself v u.payload).gives c → (claimed_table v name k.header k.payload).gives (token name h c)
unfolding claimed_table
claimed_gives v name k u h c same is read =
    subst (λ (x : Content). (claimed_table v name x.header x.payload).gives (token name h c)) same
    (subst (λ (g : Header). (claimed_table v name u.header u.payload).gives (token name g c)) (sym is) (c, (itself_leads v u.payload).gives c read, refl))

-- they aren't, where the error is taken over
pub claimed_meets : (v : Validator) (name : List ℕ) (k u : Content) (o : Option JwtFault) (cause : Option Cause) → u ≡ k → IfSome o (told_table IsItself v u.payload).refuses → cause ≡ option_map of_token o → IfSome cause (claimed_table v name k.header k.payload).refuses
unfolding claimed_table
claimed_meets v name k u o cause same due is =
    subst (λ (x : Content). IfSome cause (claimed_table v name x.header x.payload).refuses) same
    (stops of_token (claims_table v u.payload) (λ (c : Data). done (token name u.header c)) o cause (up o _ _ (itself_leads v u.payload).refuses due) is)
