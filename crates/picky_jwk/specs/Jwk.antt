-- JSON Web Keys and sets (RFC 7517 sections 4 and 5; RFC 7518 section 6; RFC 8037 section 2): which key, and which set, a tree tells.
use Rattle.std.specs.Prelude.{◌≡◌, ℕ, List, Option, Some, codes}
use Rattle.serde_json.specs.Data.{Data, string}
use Rattle.picky_json.specs.Tree.{member}
use Rattle.picky_members.specs.Members.{IsMember, IsOptional, IsSpelledEither, IsText, IsList}
use Rattle.picky_jwk_names.specs.declared.jwa.Jwa.{Jwa}
use Rattle.picky_jwk_names.specs.declared.key_use.JwkPubKeyUse.{JwkPubKeyUse}
use Rattle.picky_jwk_names.specs.declared.key_ops.JwkKeyOps.{JwkKeyOps}
use Rattle.picky_jwk_names.specs.Names.{IsJwa, IsUse, IsOperation, IsCurve, IsEdCurve}
use Rattle.picky_jwk_key.specs.Keys.{RsaKey, EcKey, EdKey, Key, rsa, ec, ed, oct}

-- ---- what it holds, by its type

pub record RsaKeyOf (t : Data) (k : RsaKey) : Type 0 where
  pub n : IsMember IsText (member (codes "n") t) k.n
  pub e : IsMember IsText (member (codes "e") t) k.e

pub record EcKeyOf (t : Data) (k : EcKey) : Type 0 where
  pub crv : IsMember IsCurve (member (codes "crv") t) k.crv
  pub x : IsMember IsText (member (codes "x") t) k.x
  pub y : IsMember IsText (member (codes "y") t) k.y

pub record EdKeyOf (t : Data) (k : EdKey) : Type 0 where
  pub crv : IsMember IsEdCurve (member (codes "crv") t) k.crv
  pub x : IsMember IsText (member (codes "x") t) k.x

-- the member `kty` is this text
abbrev pub HasType : Data → List ℕ → Type 0
HasType t kty = member (codes "kty") t ≡ Some (string kty)

abbrev pub KeyOf : Data → Key → Type 0
KeyOf t (rsa k) = HasType t (codes "RSA") × RsaKeyOf t k
KeyOf t (ec k) = HasType t (codes "EC") × EcKeyOf t k
KeyOf t (ed k) = HasType t (codes "OKP") × EdKeyOf t k
KeyOf t oct = HasType t (codes "oct")

-- ---- keys

pub record Jwk : Type 0 where
  pub key : Key
  pub alg : Option Jwa
  pub key_use : Option JwkPubKeyUse
  pub key_ops : Option (List JwkKeyOps)
  pub kid : Option (List ℕ)
  pub x5u : Option (List ℕ)
  pub x5c : Option (List (List ℕ))
  pub x5t : Option (List ℕ)
  pub x5t_s256 : Option (List ℕ)

-- t tells k, a member a field; other members are ignored
pub record JwkOf (t : Data) (k : Jwk) : Type 0 where
  pub key : KeyOf t k.key
  pub alg : IsOptional IsJwa (member (codes "alg") t) k.alg
  pub key_use : IsOptional IsUse (member (codes "use") t) k.key_use
  pub key_ops : IsOptional (IsList IsOperation) (member (codes "key_ops") t) k.key_ops
  pub kid : IsOptional IsText (member (codes "kid") t) k.kid
  pub x5u : IsOptional IsText (member (codes "x5u") t) k.x5u
  pub x5c : IsOptional (IsList IsText) (member (codes "x5c") t) k.x5c
  pub x5t : IsOptional IsText (member (codes "x5t") t) k.x5t
  pub x5t_s256 : IsSpelledEither IsText (member (codes "x5t#S256") t) (member (codes "x5t#s256") t) k.x5t_s256

-- t tells a set: its member `keys` is a list whose items tell these keys, in order
abbrev pub JwkSetOf : Data → List Jwk → Type 0
JwkSetOf t ks = IsMember (IsList JwkOf) (member (codes "keys") t) ks
