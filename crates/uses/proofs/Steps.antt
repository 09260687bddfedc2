-- What the steps of a caller come to.
use Rattle.std.proofs.Common.{◌≡◌, ℕ, ℤ, List, codes, Option, Some, None, IfSome, option_and_then, sym, subst, inr}
use Rattle.std.specs.Prelude.{option_map}
use Rattle.serde_json.specs.Data.{Data}
use Rattle.picky_contract.specs.Refusals.{named, ◌>>=◌}
use Rattle.picky_contract.specs.laws.Tables.{step_refuses, up}
use Rattle.picky_json.specs.Tree.{Tree, FloatFree, integer, member}
use Rattle.picky_key_der.specs.declared.public.PublicKeyKind.{PublicKeyKind}
use Rattle.picky_key.specs.Signatures.{Relation}
use Rattle.picky_jose.specs.declared.date.JwtDate.{JwtDate}
use Rattle.picky_jose.specs.declared.error.JwsError.{JwsError}
use Rattle.picky_jose.specs.declared.error.JwtError.{JwtError}
use Rattle.picky_jose.specs.Claims.{start_table, end_table, dated_table, claims_table}
use Rattle.picky_jose.specs.Dates.{IsAtOrAfterStart, IsBeforeEnd}
use Rattle.picky_jose.specs.Faults.{jws_fault, jwt_fault, jwt_error_of}
use Rattle.picky_jose.specs.Refusals.{Reading, TokenReading, token_table}
use Rattle.picky_jose.specs.Signatures.{signed_table}
use Rattle.picky_jose.specs.Validator.{lenient}
use Rattle.picky_jose.specs.laws.Faults.{outer}
use Rattle.picky_jose.specs.laws.Vouching.{signed_holds}
use Rattle.uses.specs.Accepted.{Accepted, HasDate, of_token, accepted_table}

module _ (signs : Relation) (key : PublicKeyKind) (date : JwtDate) (text : List ℕ) where
  pub not_read : (e : JwsError) → IfSome (jws_fault e) (token_table text).refuses → IfSome (jwt_fault (jwt_error_of e)) (accepted_table signs key date text).refuses
  unfolding accepted_table
  not_read e due = rw (outer e) (step_refuses of_token (token_table text) (λ (x : Reading). named of_token (signed_table signs key x.header.alg text) >>= λ _. claims_table (lenient date) x.payload) (jws_fault e) due)

  pub not_signed : (x : Reading) (e : JwsError) → (token_table text).gives x → IfSome (jws_fault e) (signed_table signs key x.header.alg text).refuses
      → IfSome (jwt_fault (jwt_error_of e)) (accepted_table signs key date text).refuses
  unfolding accepted_table
  not_signed x e read due = rw (outer e) (up (option_map of_token (jws_fault e)) _ _ (λ f k. inr (x, read, k)) (step_refuses of_token (signed_table signs key x.header.alg text) (λ _. claims_table (lenient date) x.payload) (jws_fault e) due))

  pub not_dated : (x : Reading) (e : JwtError) → (token_table text).gives x → (signed_table signs key x.header.alg text).gives tt → IfSome (jwt_fault e) (claims_table (lenient date) x.payload).refuses
      → IfSome (jwt_fault e) (accepted_table signs key date text).refuses
  unfolding accepted_table
  not_dated x e read signed due = up (jwt_fault e) _ _ (λ f k. inr (x, read, inr (tt, signed, k))) due

  pub all_hold : (x : Reading) (claims : Data) → (token_table text).gives x → (signed_table signs key x.header.alg text).gives tt → (claims_table (lenient date) x.payload).gives claims
      → (accepted_table signs key date text).gives claims
  unfolding accepted_table
  all_hold x claims read signed dated = (x, read, (tt, signed, dated))

  starts : (o : Option Data) → (start_table date o).gives tt → (nbf : ℤ) → option_and_then integer o ≡ Some nbf → IsAtOrAfterStart date nbf
  starts None h nbf e = let no : None ≡ Some nbf = e in absurd cc
  starts (Some t) (n, (is, one), after) nbf e = subst (λ m. IsAtOrAfterStart date m) (sym (one nbf e)) after

  ends : (o : Option Data) → (end_table date o).gives tt → (exp : ℤ) → option_and_then integer o ≡ Some exp → IsBeforeEnd date exp
  ends None h exp e = let no : None ≡ Some exp = e in absurd cc
  ends (Some t) (n, (is, one), before) exp e = subst (λ m. IsBeforeEnd date m) (sym (one exp e)) before

  -- what holds of claims that are accepted
  pub record Dated (payload : List ℕ) (claims : Data) : Type 0 where
    pub tree : Tree payload claims
    pub free : FloatFree claims
    pub started : (nbf : ℤ) → HasDate (codes "nbf") claims nbf → IsAtOrAfterStart date nbf
    pub lasts : (exp : ℤ) → HasDate (codes "exp") claims exp → IsBeforeEnd date exp

  pub dated : (payload : List ℕ) (claims : Data) → (claims_table (lenient date) payload).gives claims → Dated payload claims
  unfolding claims_table dated_table
  dated payload claims (z, can, (t, (tree, one), (u, free, (v, (w, nbf, exp), is)))) =
      let found : Dated payload t = record {
        tree = tree;
        free = free;
        started = starts (member (codes "nbf") t) nbf;
        lasts = ends (member (codes "exp") t) exp;
      } in
      subst (λ (c : Data). Dated payload c) (sym is) found

  pub accepted : (x : Reading) (claims : Data) → TokenReading x text → (signed_table signs key x.header.alg text).gives tt → (claims_table (lenient date) x.payload).gives claims
      → Accepted signs key date text claims
  accepted x claims reads signed gives =
      let d = dated x.payload claims gives in
      record {
        reading = x;
        reads = reads;
        vouched = signed_holds x text signs key x.header.alg reads signed;
        tree = d.tree;
        free = d.free;
        started = d.started;
        lasts = d.lasts;
      }
