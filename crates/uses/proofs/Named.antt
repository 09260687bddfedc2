-- What is found by a name.
use Rattle.std.proofs.Common.{◌≡◌, ℕ, Bool, true, false, cond, List, [], ◌∷◌, map, Option, Some, None, option_map, refl, sym, ap, ◌∙◌, subst}
use Rattle.std.specs.List.{find}
use Rattle.picky_key_der.specs.declared.public.PublicKeyKind.{PublicKeyKind}
use Rattle.picky_members.specs.Members.{TextOf}
use Rattle.picky_jwk_key.specs.Public.{KeyOfJwk}
use Rattle.picky_jwk.specs.declared.jwk.Jwk as code
use Rattle.picky_jwk.specs.Jwk.{Jwk, JwkSetOf}
use Rattle.picky_jwk.specs.Views.{jwk_view}
use Rattle.uses.specs.KeySets.{has_name, IsPublicOf, NamesKey}

find-map : {X Y : Type 0} (view : X → Y) (test : Y → Bool) (xs : List X) → find test (map view xs) ≡ option_map view (find (λ x. test (view x)) xs)
find-map view test [] = refl
find-map view test (x ∷ xs) = elim (test (view x)) as (λ b. cond b (Some (view x)) (find test (map view xs)) ≡ option_map view (cond b (Some x) (find (λ y. test (view y)) xs))) [
  | true ↦ refl
  | false ↦ find-map view test xs
]

module _ (json name : List ℕ) (items : List code.Jwk) where
  -- what was found among the keys of the text
  pub names : (found : Option code.Jwk) (p : Option PublicKeyKind) → TextOf JwkSetOf json (map jwk_view items) → find (λ k. has_name name (jwk_view k)) items ≡ found → IsPublicOf (option_map jwk_view found) p → NamesKey json name p
  names found p told e is = record {
    keys = map jwk_view items;
    told = told;
    is = subst (λ (o : Option Jwk). IsPublicOf o p) (sym (find-map jwk_view (has_name name) items ∙ ap (option_map jwk_view) e)) is;
  }

  -- the same, the other way round
  pub named : (found : Option code.Jwk) (p : Option PublicKeyKind) (n : NamesKey json name p) → n.keys ≡ map jwk_view items → find (λ k. has_name name (jwk_view k)) items ≡ found → IsPublicOf (option_map jwk_view found) p
  named found p n keys e =
      let at : find (has_name name) n.keys ≡ option_map jwk_view found = ap (find (has_name name)) keys ∙ find-map jwk_view (has_name name) items ∙ ap (option_map jwk_view) e in
      subst (λ (o : Option Jwk). IsPublicOf o p) at n.is

-- no key has no public key
pub none_of : (p : Option PublicKeyKind) → IsPublicOf None p → p ≡ None
none_of None h = refl
none_of (Some p) h = absurd h

-- what holds of each public key of a key
pub some_of : (k : Jwk) (p : Option PublicKeyKind) (R : Option PublicKeyKind → Type 0) → IsPublicOf (Some k) p → ((q : PublicKeyKind) → KeyOfJwk k.key q → R (Some q)) → R p
some_of k None R h each = absurd h
some_of k (Some q) R h each = each q h
