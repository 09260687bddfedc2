-- Headers of signed tokens (RFC 7515 section 4.1): which header a tree tells.
use Rattle.std.specs.Prelude.{◌≡◌, ℕ, List, [], ◌∷◌, Option, None, codes}
use Rattle.serde_json.specs.Data.{Data}
use Rattle.picky_json.specs.Tree.{member}
use Rattle.picky_members.specs.Members.{IsMember, IsOptional, IsSpelledEither, IsText, IsList}
use Rattle.picky_members.specs.Names.{Pair, others}
use Rattle.picky_members.specs.Writing.{in_name_order}
use Rattle.picky_jwk_names.specs.declared.alg.JwsAlg.{JwsAlg}
use Rattle.picky_jwk_names.specs.Names.{IsAlg}
use Rattle.picky_jwk.specs.Jwk.{Jwk, JwkOf}

pub record Header : Type 0 where
  pub alg : JwsAlg
  pub jku : Option (List ℕ)
  pub jwk : Option Jwk
  pub typ : Option (List ℕ)
  pub cty : Option (List ℕ)
  pub kid : Option (List ℕ)
  pub x5u : Option (List ℕ)
  pub x5c : Option (List (List ℕ))
  pub x5t : Option (List ℕ)
  pub x5t_s256 : Option (List ℕ)
  pub additional : List Pair

-- the names of members that have a field; the last two spell one member
abbrev pub registered : List (List ℕ)
registered =
    codes "alg" ∷ codes "jku" ∷ codes "jwk" ∷ codes "typ" ∷ codes "cty" ∷ codes "kid"
    ∷ codes "x5u" ∷ codes "x5c" ∷ codes "x5t" ∷ codes "x5t#S256" ∷ codes "x5t#s256" ∷ []

-- t tells h, a member a field; all other members are additional, in the tree's order
pub record JwsHeaderOf (t : Data) (h : Header) : Type 0 where
  pub alg : IsMember IsAlg (member (codes "alg") t) h.alg
  pub jku : IsOptional IsText (member (codes "jku") t) h.jku
  pub jwk : IsOptional JwkOf (member (codes "jwk") t) h.jwk
  pub typ : IsOptional IsText (member (codes "typ") t) h.typ
  pub cty : IsOptional IsText (member (codes "cty") t) h.cty
  pub kid : IsOptional IsText (member (codes "kid") t) h.kid
  pub x5u : IsOptional IsText (member (codes "x5u") t) h.x5u
  pub x5c : IsOptional (IsList IsText) (member (codes "x5c") t) h.x5c
  pub x5t : IsOptional IsText (member (codes "x5t") t) h.x5t
  pub x5t_s256 : IsSpelledEither IsText (member (codes "x5t#S256") t) (member (codes "x5t#s256") t) h.x5t_s256
  pub additional : h.additional ≡ others registered t

-- the header with this algorithm and no other member
abbrev pub bare : JwsAlg → Header
bare alg = record { alg = alg; jku = None; jwk = None; typ = None; cty = None; kid = None; x5u = None; x5c = None; x5t = None; x5t_s256 = None; additional = [] }

-- the header with its additional members in the order of their names' bytes
abbrev pub in_order : Header → Header
in_order h = record h { additional = in_name_order h.additional }
