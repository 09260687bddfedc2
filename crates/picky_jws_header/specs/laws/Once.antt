-- A tree tells one header at most.
use Rattle.std.proofs.Common.{◌≡◌, codes, IfOk, Result, Ok, Err, sym, ◌∙◌}
use Rattle.serde_json.specs.Data.{Data}
use Rattle.picky_json.specs.Tree.{member}
use Rattle.picky_members.specs.Members.{IsText, IsList}
use Rattle.picky_members.specs.laws.Once.{Once, NotNull, member_once, optional_once, either_once, list_once}
use Rattle.picky_members.specs.laws.Lists.{list_not_null}
use Rattle.picky_members.specs.Reading.{Reads}
use Rattle.picky_members.specs.declared.form.FormError.{FormError}
use Rattle.picky_jwk_names.specs.Names.{IsAlg}
use Rattle.picky_jwk_names.specs.laws.Names.{alg_once}
use Rattle.picky_jwk.specs.Jwk.{JwkOf}
use Rattle.picky_jwk.specs.laws.Once.{jwk_once, jwk_not_null}
use Rattle.picky_jws_header.specs.Header.{Header, JwsHeaderOf}
use Rattle.picky_jws_header.specs.Views.{header_view}
use Rattle.picky_jws_header.specs.declared.header.JwsHeader.{JwsHeader}

text_once : Once IsText
text_once d x y h k = cc

text_not_null : NotNull IsText
text_not_null x h = cc

pub header_once : Once JwsHeaderOf
header_once t x y h k = λ i. record {
  alg = member_once IsAlg alg_once (member (codes "alg") t) x.alg y.alg h.alg k.alg i;
  jku = optional_once IsText text_once text_not_null (member (codes "jku") t) x.jku y.jku h.jku k.jku i;
  jwk = optional_once JwkOf jwk_once jwk_not_null (member (codes "jwk") t) x.jwk y.jwk h.jwk k.jwk i;
  typ = optional_once IsText text_once text_not_null (member (codes "typ") t) x.typ y.typ h.typ k.typ i;
  cty = optional_once IsText text_once text_not_null (member (codes "cty") t) x.cty y.cty h.cty k.cty i;
  kid = optional_once IsText text_once text_not_null (member (codes "kid") t) x.kid y.kid h.kid k.kid i;
  x5u = optional_once IsText text_once text_not_null (member (codes "x5u") t) x.x5u y.x5u h.x5u k.x5u i;
  x5c = optional_once (IsList IsText) (list_once IsText text_once) (list_not_null IsText) (member (codes "x5c") t) x.x5c y.x5c h.x5c k.x5c i;
  x5t = optional_once IsText text_once text_not_null (member (codes "x5t") t) x.x5t y.x5t h.x5t k.x5t i;
  x5t_s256 = either_once IsText text_once text_not_null (member (codes "x5t#S256") t) (member (codes "x5t#s256") t) x.x5t_s256 y.x5t_s256 h.x5t_s256 k.x5t_s256 i;
  additional = (k.additional ∙ sym h.additional) i;
}

-- what is read is the one header that the tree tells
pub header_only : (t : Data) (r : Result JwsHeader FormError) → Reads header_view (JwsHeaderOf t) r → IfOk r (λ h. (x : Header) → JwsHeaderOf t x → x ≡ header_view h)
header_only t (Ok h) found = λ x k. header_once t (header_view h) x found k
header_only t (Err e) found = tt
