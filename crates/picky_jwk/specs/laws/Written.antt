-- The tree of a key tells the key.
use Rattle.std.proofs.Common.{◌≡◌, ℕ, List, codes, Option, None, Some, option_map, refl, sym, ap, ◌∙◌}
use Rattle.serde_json.specs.Data.{Data, object, Members, no_members, string}
use Rattle.serde_json.specs.Find.{get_member}
use Rattle.serde_json.proofs.Views.{get_member-put}
use Rattle.picky_members.specs.Writing.{list_tree, put_table}
use Rattle.picky_members.specs.Members.{IsText, IsList, IsOptional}
use Rattle.picky_members.specs.laws.Written.{found, over, written, kept, member_written, optional_written, spelled_written}
use Rattle.picky_members.specs.laws.Lists.{list_written}
use Rattle.picky_jwk_names.specs.Names.{jwa_name, curve_name, ed_name, use_name, ops_name}
use Rattle.picky_jwk_names.specs.Names.{IsJwa, IsUse, IsOperation, IsCurve, IsEdCurve}
use Rattle.picky_jwk_key.specs.Keys.{Key, rsa, ec, ed, oct}
use Rattle.picky_jwk.specs.Jwk.{KeyOf, Jwk, JwkOf, JwkSetOf}
use Rattle.picky_jwk.specs.Trees.{key_table, jwk_rows, jwk_tree, set_tree}

-- the members of a key of this type
abbrev base : Key → Members
base key = put_table (key_table key) no_members

-- a name that no type has
none : (name : List ℕ) → ((key : Key) → found name (key_table key) None ≡ None) → (key : Key) → get_member name (base key) ≡ None
none name row key = written name (key_table key) no_members None (row key) refl

module _ (k : Jwk) where
  at : (name : List ℕ) (o : Option Data) → found name (jwk_rows k) None ≡ over o None → ((key : Key) → found name (key_table key) None ≡ None) → get_member name (put_table (jwk_rows k) (base k.key)) ≡ o
  at name o row apart = written name (jwk_rows k) (base k.key) o row (none name apart k.key)

  text : (name : List ℕ) (o : Option (List ℕ)) → found name (jwk_rows k) None ≡ over (option_map string o) None → ((key : Key) → found name (key_table key) None ≡ None)
      → IsOptional IsText (get_member name (put_table (jwk_rows k) (base k.key))) o
  text name o row apart = optional_written IsText string _ o (λ s. refl) (at name (option_map string o) row apart)

  -- what a type's member holds is kept
  keeps : (name : List ℕ) (d : Data) → found name (jwk_rows k) (Some d) ≡ Some d → get_member name (base k.key) ≡ Some d → get_member name (put_table (jwk_rows k) (base k.key)) ≡ Some d
  keeps name d row is = kept name (jwk_rows k) (base k.key) (Some d) (ap (found name (jwk_rows k)) is ∙ row ∙ sym is) is

  key_written : (key : Key) → k.key ≡ key → KeyOf (object (put_table (jwk_rows k) (base k.key))) key
  key_written (rsa r) e = (
    keeps (codes "kty") _ refl (rw e refl),
    record {
      n = member_written IsText string _ r.n (λ s. refl) (keeps (codes "n") _ refl (rw e refl));
      e = member_written IsText string _ r.e (λ s. refl) (keeps (codes "e") _ refl (rw e refl));
    },
  )
  key_written (ec r) e = (
    keeps (codes "kty") _ refl (rw e refl),
    record {
      crv = member_written IsCurve (λ c. string (curve_name c)) _ r.crv (λ c. refl) (keeps (codes "crv") _ refl (rw e refl));
      x = member_written IsText string _ r.x (λ s. refl) (keeps (codes "x") _ refl (rw e refl));
      y = member_written IsText string _ r.y (λ s. refl) (keeps (codes "y") _ refl (rw e refl));
    },
  )
  key_written (ed r) e = (
    keeps (codes "kty") _ refl (rw e refl),
    record {
      crv = member_written IsEdCurve (λ c. string (ed_name c)) _ r.crv (λ c. refl) (keeps (codes "crv") _ refl (rw e refl));
      x = member_written IsText string _ r.x (λ s. refl) (keeps (codes "x") _ refl (rw e refl));
    },
  )
  key_written oct e = keeps (codes "kty") _ refl (rw e refl)

pub jwk_written : (k : Jwk) → JwkOf (jwk_tree k) k
unfolding jwk_tree
jwk_written k = record {
  key = key_written k k.key refl;
  alg = optional_written IsJwa (λ a. string (jwa_name a)) _ k.alg (λ a. refl) (at k (codes "alg") (option_map (λ a. string (jwa_name a)) k.alg) refl (elim [ rsa r ↦ refl | ec r ↦ refl | ed r ↦ refl | oct ↦ refl ]));
  key_use = optional_written IsUse (λ a. string (use_name a)) _ k.key_use (λ a. refl) (at k (codes "use") (option_map (λ a. string (use_name a)) k.key_use) refl (elim [ rsa r ↦ refl | ec r ↦ refl | ed r ↦ refl | oct ↦ refl ]));
  key_ops = optional_written (IsList IsOperation) (list_tree (λ a. string (ops_name a))) _ k.key_ops (list_written IsOperation (λ a. string (ops_name a)) (λ a. refl)) (at k (codes "key_ops") (option_map (list_tree (λ a. string (ops_name a))) k.key_ops) refl (elim [ rsa r ↦ refl | ec r ↦ refl | ed r ↦ refl | oct ↦ refl ]));
  kid = text k (codes "kid") k.kid refl (elim [ rsa r ↦ refl | ec r ↦ refl | ed r ↦ refl | oct ↦ refl ]);
  x5u = text k (codes "x5u") k.x5u refl (elim [ rsa r ↦ refl | ec r ↦ refl | ed r ↦ refl | oct ↦ refl ]);
  x5c = optional_written (IsList IsText) (list_tree string) _ k.x5c (list_written IsText string (λ s. refl)) (at k (codes "x5c") (option_map (list_tree string) k.x5c) refl (elim [ rsa r ↦ refl | ec r ↦ refl | ed r ↦ refl | oct ↦ refl ]));
  x5t = text k (codes "x5t") k.x5t refl (elim [ rsa r ↦ refl | ec r ↦ refl | ed r ↦ refl | oct ↦ refl ]);
  x5t_s256 = spelled_written IsText string _ _ k.x5t_s256 (λ s. refl) (at k (codes "x5t#S256") (option_map string k.x5t_s256) refl (elim [ rsa r ↦ refl | ec r ↦ refl | ed r ↦ refl | oct ↦ refl ])) (at k (codes "x5t#s256") None refl (elim [ rsa r ↦ refl | ec r ↦ refl | ed r ↦ refl | oct ↦ refl ]));
}

pub set_written : (ks : List Jwk) → JwkSetOf (set_tree ks) ks
unfolding set_tree
set_written ks = member_written (IsList JwkOf) (list_tree jwk_tree) _ ks (list_written JwkOf jwk_tree jwk_written) (get_member-put (codes "keys") (list_tree jwk_tree ks) no_members)
