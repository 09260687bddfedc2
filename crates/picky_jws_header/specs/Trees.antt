-- The trees as which headers are written (RFC 7515 section 4.1): absent members aren't written.
use Rattle.std.specs.Prelude.{◌≡◌, ◌≤◌, ℕ, List, [], ◌∷◌, Option, Some, option_map, codes, false}
use Rattle.serde_json.specs.Data.{Data, Members, string, object, no_members, depth}
use Rattle.picky_members.specs.Names.{holds_any}
use Rattle.picky_members.specs.Writing.{list_tree, put_table, put_all}
use Rattle.picky_jwk_names.specs.Names.{alg_name}
use Rattle.picky_jwk.specs.Trees.{jwk_tree}
use Rattle.picky_jws_header.specs.Header.{Header, registered}

-- what is signed, and how
abbrev pub kind_rows : Header → List (List ℕ × Option Data)
kind_rows h =
    (codes "alg", Some (string (alg_name h.alg)))
    ∷ (codes "typ", option_map string h.typ)
    ∷ (codes "cty", option_map string h.cty)
    ∷ []

abbrev pub signer_rows : Header → List (List ℕ × Option Data)
signer_rows h =
    (codes "jku", option_map string h.jku)
    ∷ (codes "jwk", option_map jwk_tree h.jwk)
    ∷ (codes "kid", option_map string h.kid)
    ∷ []

abbrev pub certificates_rows : Header → List (List ℕ × Option Data)
certificates_rows h =
    (codes "x5u", option_map string h.x5u)
    ∷ (codes "x5c", option_map (list_tree string) h.x5c)
    ∷ (codes "x5t", option_map string h.x5t)
    ∷ (codes "x5t#S256", option_map string h.x5t_s256)
    ∷ []

-- the members that have fields, put among others
abbrev pub with_fields : Header → Members → Members
with_fields h ms = put_table (certificates_rows h) (put_table (signer_rows h) (put_table (kind_rows h) ms))

unfoldable pub header_tree : Header → Data
header_tree h = object (with_fields h (put_all h.additional no_members))

-- t is the tree as which h is written: no additional member has a field's name, and t nests no deeper than a tree that is read
pub record IsWrittenAs (h : Header) (t : Data) : Type 0 where
  pub free : holds_any registered h.additional ≡ false
  pub tree : t ≡ header_tree h
  pub shallow : depth t ≤ 127
