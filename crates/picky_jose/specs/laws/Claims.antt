-- The rows of claims say the same as what is told by them does.
use Rattle.std.proofs.Common.{ℕ, List, Option, Some, None, inl, inr, refl, sym, subst}
use Rattle.std.specs.Prelude.{IsTrue}
use Rattle.serde_json.specs.Data.{Data}
use Rattle.picky_contract.specs.laws.Tables.{Exact, the_exact, need_exact, done_exact, then_exact, Leads}
use Rattle.picky_json.specs.Tree.{Tree, FloatFree}
use Rattle.picky_jose.specs.declared.date.JwtDate.{JwtDate}
use Rattle.picky_jose.specs.Claims.{ClaimsOf, IsItself, no_date, rows_at, claims_table, told_table}
use Rattle.picky_jose.specs.Faults.{no_json, has_float}
use Rattle.picky_jose.specs.Validator.{Validator, can_judge}
use Rattle.picky_jose.specs.laws.Dates.{dates_exact}

pub claims_exact : (v : Validator) (payload : List ℕ) → Exact (claims_table v payload)
unfolding claims_table
claims_exact v payload =
    then_exact _ _ (need_exact (IsTrue (can_judge v.date v.nbf v.exp)) no_date) (λ _.
    then_exact _ _ (the_exact (Tree payload) no_json) (λ t.
    then_exact _ _ (need_exact (FloatFree t) has_float) (λ _.
    then_exact _ _ (dates_exact v t) (λ _.
    done_exact t))))

-- claims whose dates meet a validator are those that it can judge
judged : (v : Validator) (t : Data) (o : Option JwtDate) → (rows_at v t o).holds tt → IsTrue (can_judge o v.nbf v.exp)
judged v t None h = h
judged v t (Some d) h = refl

module _ {C : Type 0} (Tells : Data → C → Type 0) (v : Validator) (payload : List ℕ) where
  pub told_exact : Exact (told_table Tells v payload)
  unfolding told_table
  told_exact = then_exact _ _ (claims_exact v payload) (λ t. the_exact (Tells t) no_json)

  pub to_claims : (c : C) → (told_table Tells v payload).holds c → ClaimsOf Tells v payload c
  unfolding told_table claims_table
  to_claims c (t, (u, can, (tree, read, (w, free, (z, dates, is)))), tells) = record {
    tree = tree;
    read = read;
    free = free;
    dates = dates;
    tells = subst (λ (d : Data). Tells d c) is tells;
  }

  pub from_claims : (c : C) → ClaimsOf Tells v payload c → (told_table Tells v payload).holds c
  unfolding told_table claims_table
  from_claims c k = (k.tree, (tt, judged v k.tree v.date k.dates, (k.tree, k.read, (tt, k.free, (tt, k.dates, refl)))), k.tells)

-- claims that are read as they are
pub itself_leads : (v : Validator) (payload : List ℕ) → Leads (told_table IsItself v payload) (claims_table v payload)
unfolding told_table
itself_leads v payload = record {
  gives = λ c h. subst (λ (d : Data). (claims_table v payload).gives d) (sym h.2.0) h.1;
  refuses = λ f h. elim h [ inl due ↦ due | inr k ↦ absurd (k.2.1 k.0 refl) ];
}
