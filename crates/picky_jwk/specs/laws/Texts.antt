-- A text tells one key and one set at most.
use Rattle.std.proofs.Common.{◌≡◌, ℕ, List}
use Rattle.picky_members.specs.Members.{TextOf}
use Rattle.picky_members.specs.laws.Once.{text_once}
use Rattle.picky_jwk.specs.Jwk.{Jwk, JwkOf, JwkSetOf}
use Rattle.picky_jwk.specs.laws.Once.{jwk_once, set_once}

pub jwk_text : (text : List ℕ) (x y : Jwk) → TextOf JwkOf text x → TextOf JwkOf text y → y ≡ x
jwk_text text x y h k = text_once JwkOf jwk_once text x y h k

pub set_text : (text : List ℕ) (x y : List Jwk) → TextOf JwkSetOf text x → TextOf JwkSetOf text y → y ≡ x
set_text text x y h k = text_once JwkSetOf set_once text x y h k
