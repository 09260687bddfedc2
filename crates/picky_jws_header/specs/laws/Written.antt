-- The tree of a header tells the header, with its additional members in order.
use Rattle.std.proofs.Common.{◌≡◌, ℕ, List, ◌++◌, codes, Option, None, Some, true, false, option_map, refl, sym, subst}
use Rattle.serde_json.specs.Data.{Data, Members, no_members, string}
use Rattle.serde_json.specs.Find.{get_member}
use Rattle.picky_members.specs.Members.{IsText, IsList, IsOptional}
use Rattle.picky_members.specs.Names.{is_among, holds_any}
use Rattle.picky_members.specs.Writing.{list_tree, put_all}
use Rattle.picky_members.specs.laws.Lists.{list_written}
use Rattle.picky_members.specs.laws.Written.{found, over, written, get_none, NoneAmong-put_all, member_written, optional_written, spelled_written, others_written}
use Rattle.picky_jwk_names.specs.Names.{alg_name, IsAlg}
use Rattle.picky_jwk.specs.Jwk.{JwkOf}
use Rattle.picky_jwk.specs.Trees.{jwk_tree}
use Rattle.picky_jwk.specs.laws.Written.{jwk_written}
use Rattle.picky_jws_header.specs.Header.{Header, registered, JwsHeaderOf, in_order}
use Rattle.picky_jws_header.specs.Trees.{kind_rows, signer_rows, certificates_rows, with_fields, header_tree}

module _ (h : Header) (free : holds_any registered h.additional ≡ false) where
  -- all rows, one after another
  abbrev rows : List (List ℕ × Option Data)
  rows = kind_rows h ++ signer_rows h ++ certificates_rows h

  abbrev base : Members
  base = put_all h.additional no_members

  at : (name : List ℕ) (o : Option Data) → found name rows None ≡ over o None → is_among registered name ≡ true → get_member name (with_fields h base) ≡ o
  at name o row known = written name rows base o row (get_none registered name base known (NoneAmong-put_all registered h.additional no_members free tt))

  text : (name : List ℕ) (o : Option (List ℕ)) → found name rows None ≡ over (option_map string o) None → is_among registered name ≡ true → IsOptional IsText (get_member name (with_fields h base)) o
  text name o row known = optional_written IsText string _ o (λ s. refl) (at name (option_map string o) row known)

  pub header_written : JwsHeaderOf (header_tree h) (in_order h)
  unfolding header_tree
  header_written = record {
    alg = member_written IsAlg (λ a. string (alg_name a)) _ h.alg (λ a. refl) (at (codes "alg") (Some (string (alg_name h.alg))) refl refl);
    jku = text (codes "jku") h.jku refl refl;
    jwk = optional_written JwkOf jwk_tree _ h.jwk jwk_written (at (codes "jwk") (option_map jwk_tree h.jwk) refl refl);
    typ = text (codes "typ") h.typ refl refl;
    cty = text (codes "cty") h.cty refl refl;
    kid = text (codes "kid") h.kid refl refl;
    x5u = text (codes "x5u") h.x5u refl refl;
    x5c = optional_written (IsList IsText) (list_tree string) _ h.x5c (list_written IsText string (λ s. refl)) (at (codes "x5c") (option_map (list_tree string) h.x5c) refl refl);
    x5t = text (codes "x5t") h.x5t refl refl;
    x5t_s256 = spelled_written IsText string _ _ h.x5t_s256 (λ s. refl) (at (codes "x5t#S256") (option_map string h.x5t_s256) refl refl) (at (codes "x5t#s256") None refl refl);
    additional = sym (others_written registered rows h.additional refl free);
  }

-- and so does what it is seen as
pub written_tells : (h : Header) (t : Data) → holds_any registered h.additional ≡ false → t ≡ header_tree h → JwsHeaderOf t (in_order h)
written_tells h t free is = subst (λ u. JwsHeaderOf u (in_order h)) (sym is) (header_written h free)
