-- What a tree tells of a header beside its algorithm and additional members (RFC 7515 sections 4.1.2 to 4.1.10).
use Rattle.std.specs.Prelude.{codes}
use Rattle.serde_json.specs.Data.{Data}
use Rattle.picky_json.specs.Tree.{member}
use Rattle.picky_members.specs.Members.{IsOptional, IsSpelledEither, IsText, IsList}
use Rattle.picky_jwk.specs.Jwk.{JwkOf}
use Rattle.picky_jws_header.specs.Header.{Header}

-- t tells this of h
pub record OthersOf (t : Data) (h : Header) : Type 0 where
  pub jku : IsOptional IsText (member (codes "jku") t) h.jku
  pub jwk : IsOptional JwkOf (member (codes "jwk") t) h.jwk
  pub typ : IsOptional IsText (member (codes "typ") t) h.typ
  pub cty : IsOptional IsText (member (codes "cty") t) h.cty
  pub kid : IsOptional IsText (member (codes "kid") t) h.kid
  pub x5u : IsOptional IsText (member (codes "x5u") t) h.x5u
  pub x5c : IsOptional (IsList IsText) (member (codes "x5c") t) h.x5c
  pub x5t : IsOptional IsText (member (codes "x5t") t) h.x5t
  pub x5t_s256 : IsSpelledEither IsText (member (codes "x5t#S256") t) (member (codes "x5t#s256") t) h.x5t_s256
