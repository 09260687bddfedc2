-- A tree tells one key and one set at most.
use Rattle.std.proofs.Common.{◌≡◌, ℕ, List, codes, sym, ◌∙◌, refl, false, true≢false}
use Rattle.std.specs.Str.{bytes_eq}
use Rattle.std.proofs.lemmas.Slice.Eq.{bytes_eq-Decides}
use Rattle.serde_json.specs.Data.{Data}
use Rattle.picky_json.specs.Tree.{member}
use Rattle.picky_members.specs.Members.{IsMember, IsText, IsList}
use Rattle.picky_members.specs.laws.Once.{Once, NotNull, member_once, optional_once, either_once, list_once}
use Rattle.picky_members.specs.laws.Lists.{list_not_null}
use Rattle.picky_jwk_names.specs.Names.{IsJwa, IsUse, IsOperation, IsCurve, IsEdCurve}
use Rattle.picky_jwk_names.specs.laws.Names.{jwa_once, use_once, ops_once, curve_once, ed_once}
use Rattle.picky_jwk_key.specs.Keys.{RsaKey, EcKey, EdKey, Key, rsa, ec, ed, oct}
use Rattle.picky_jwk.specs.Jwk.{HasType, RsaKeyOf, EcKeyOf, EdKeyOf, KeyOf, JwkOf, JwkSetOf}

text_once : Once IsText
text_once d x y h k = cc

text_not_null : NotNull IsText
text_not_null x h = cc

jwa_not_null : NotNull IsJwa
jwa_not_null x h = cc

use_not_null : NotNull IsUse
use_not_null x h = cc

-- ---- what it holds

rsa_once : Once RsaKeyOf
rsa_once t x y h k = λ i. record {
  n = member_once IsText text_once (member (codes "n") t) x.n y.n h.n k.n i;
  e = member_once IsText text_once (member (codes "e") t) x.e y.e h.e k.e i;
}

ec_once : Once EcKeyOf
ec_once t x y h k = λ i. record {
  crv = member_once IsCurve curve_once (member (codes "crv") t) x.crv y.crv h.crv k.crv i;
  x = member_once IsText text_once (member (codes "x") t) x.x y.x h.x k.x i;
  y = member_once IsText text_once (member (codes "y") t) x.y y.y h.y k.y i;
}

ed_key_once : Once EdKeyOf
ed_key_once t x y h k = λ i. record {
  crv = member_once IsEdCurve ed_once (member (codes "crv") t) x.crv y.crv h.crv k.crv i;
  x = member_once IsText text_once (member (codes "x") t) x.x y.x h.x k.x i;
}

-- two types of keys are apart
apart : (t : Data) (a b : List ℕ) → HasType t a → HasType t b → bytes_eq a b ≡ false → ⊥
apart t a b h k e =
    let same : a ≡ b = let w = sym h ∙ k in cc in
    true≢false (sym ((bytes_eq-Decides a b).1 same) ∙ e)

key_once : Once KeyOf
key_once t (rsa x) (rsa y) h k = λ i. rsa (rsa_once t x y h.1 k.1 i)
key_once t (rsa x) (ec y) h k = absurd (apart t _ _ h.0 k.0 refl)
key_once t (rsa x) (ed y) h k = absurd (apart t _ _ h.0 k.0 refl)
key_once t (rsa x) oct h k = absurd (apart t _ _ h.0 k refl)
key_once t (ec x) (rsa y) h k = absurd (apart t _ _ h.0 k.0 refl)
key_once t (ec x) (ec y) h k = λ i. ec (ec_once t x y h.1 k.1 i)
key_once t (ec x) (ed y) h k = absurd (apart t _ _ h.0 k.0 refl)
key_once t (ec x) oct h k = absurd (apart t _ _ h.0 k refl)
key_once t (ed x) (rsa y) h k = absurd (apart t _ _ h.0 k.0 refl)
key_once t (ed x) (ec y) h k = absurd (apart t _ _ h.0 k.0 refl)
key_once t (ed x) (ed y) h k = λ i. ed (ed_key_once t x y h.1 k.1 i)
key_once t (ed x) oct h k = absurd (apart t _ _ h.0 k refl)
key_once t oct (rsa y) h k = absurd (apart t _ _ h k.0 refl)
key_once t oct (ec y) h k = absurd (apart t _ _ h k.0 refl)
key_once t oct (ed y) h k = absurd (apart t _ _ h k.0 refl)
key_once t oct oct h k = refl

-- a key of this type holds what the type has
pub rsa_part : (t : Data) → HasType t (codes "RSA") → (y : Key) → KeyOf t y → (k : RsaKey) × RsaKeyOf t k
rsa_part t is (rsa k) h = (k, h.1)
rsa_part t is (ec k) h = absurd (apart t _ _ is h.0 refl)
rsa_part t is (ed k) h = absurd (apart t _ _ is h.0 refl)
rsa_part t is oct h = absurd (apart t _ _ is h refl)

pub ec_part : (t : Data) → HasType t (codes "EC") → (y : Key) → KeyOf t y → (k : EcKey) × EcKeyOf t k
ec_part t is (rsa k) h = absurd (apart t _ _ is h.0 refl)
ec_part t is (ec k) h = (k, h.1)
ec_part t is (ed k) h = absurd (apart t _ _ is h.0 refl)
ec_part t is oct h = absurd (apart t _ _ is h refl)

pub ed_part : (t : Data) → HasType t (codes "OKP") → (y : Key) → KeyOf t y → (k : EdKey) × EdKeyOf t k
ed_part t is (rsa k) h = absurd (apart t _ _ is h.0 refl)
ed_part t is (ec k) h = absurd (apart t _ _ is h.0 refl)
ed_part t is (ed k) h = (k, h.1)
ed_part t is oct h = absurd (apart t _ _ is h refl)

key_not_null : NotNull KeyOf
key_not_null (rsa k) h = let e = h.0 in cc
key_not_null (ec k) h = let e = h.0 in cc
key_not_null (ed k) h = let e = h.0 in cc
key_not_null oct h = cc

-- ---- keys and sets

pub jwk_once : Once JwkOf
jwk_once t x y h k = λ i. record {
  key = key_once t x.key y.key h.key k.key i;
  alg = optional_once IsJwa jwa_once jwa_not_null (member (codes "alg") t) x.alg y.alg h.alg k.alg i;
  key_use = optional_once IsUse use_once use_not_null (member (codes "use") t) x.key_use y.key_use h.key_use k.key_use i;
  key_ops = optional_once (IsList IsOperation) (list_once IsOperation ops_once) (list_not_null IsOperation) (member (codes "key_ops") t) x.key_ops y.key_ops h.key_ops k.key_ops i;
  kid = optional_once IsText text_once text_not_null (member (codes "kid") t) x.kid y.kid h.kid k.kid i;
  x5u = optional_once IsText text_once text_not_null (member (codes "x5u") t) x.x5u y.x5u h.x5u k.x5u i;
  x5c = optional_once (IsList IsText) (list_once IsText text_once) (list_not_null IsText) (member (codes "x5c") t) x.x5c y.x5c h.x5c k.x5c i;
  x5t = optional_once IsText text_once text_not_null (member (codes "x5t") t) x.x5t y.x5t h.x5t k.x5t i;
  x5t_s256 = either_once IsText text_once text_not_null (member (codes "x5t#S256") t) (member (codes "x5t#s256") t) x.x5t_s256 y.x5t_s256 h.x5t_s256 k.x5t_s256 i;
}

pub jwk_not_null : NotNull JwkOf
jwk_not_null k h = key_not_null k.key h.key

pub set_once : Once JwkSetOf
set_once t x y h k = member_once (IsList JwkOf) (list_once JwkOf jwk_once) (member (codes "keys") t) x y h k

pub set_not_null : NotNull JwkSetOf
unfolding IsMember
set_not_null ks h = let e = h.1 in cc
