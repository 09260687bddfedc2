-- What a tree tells of a key beside what it holds (RFC 7517 section 4).
use Rattle.std.specs.Prelude.{codes}
use Rattle.serde_json.specs.Data.{Data}
use Rattle.picky_json.specs.Tree.{member}
use Rattle.picky_members.specs.Members.{IsOptional, IsSpelledEither, IsText, IsList}
use Rattle.picky_jwk_names.specs.Names.{IsJwa, IsUse, IsOperation}
use Rattle.picky_jwk.specs.Jwk.{Jwk}

-- t tells this of k
pub record OthersOf (t : Data) (k : Jwk) : Type 0 where
  pub alg : IsOptional IsJwa (member (codes "alg") t) k.alg
  pub key_use : IsOptional IsUse (member (codes "use") t) k.key_use
  pub key_ops : IsOptional (IsList IsOperation) (member (codes "key_ops") t) k.key_ops
  pub kid : IsOptional IsText (member (codes "kid") t) k.kid
  pub x5u : IsOptional IsText (member (codes "x5u") t) k.x5u
  pub x5c : IsOptional (IsList IsText) (member (codes "x5c") t) k.x5c
  pub x5t : IsOptional IsText (member (codes "x5t") t) k.x5t
  pub x5t_s256 : IsSpelledEither IsText (member (codes "x5t#S256") t) (member (codes "x5t#s256") t) k.x5t_s256
