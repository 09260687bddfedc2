-- A text is of one kind at most.
use Rattle.std.proofs.Common.{◌≡◌, ℕ, List, ◌++◌, codes, get_or, Option, Some, None, sym, ◌∙◌, ap, arith}
use Rattle.picky_contract.specs.Refusals.{Finds}
use Rattle.picky_gate.specs.declared.scheme.Scheme.{Scheme as Lent}
use Rattle.picky_gate.specs.Scheme.{Scheme, bearer, header_text, IsScheme, IsHeader, IsHeaderScheme, scheme_view}

-- the two scheme words differ in their first byte
pub apart : (text token : List ℕ) → text ≡ codes "Bearer " ++ token → ¬ (IsHeader text)
apart text token bears h =
    let first : get_or (codes "Bearer " ++ token) 0 0 ≡ get_or (codes "Signature " ++ h.rest) 0 0 = ap (λ (l : List ℕ). get_or l 0 0) (sym bears ∙ h.joined) in
    omega (arith, first)

pub one_scheme : (text : List ℕ) (x y : Scheme) → IsScheme text x → IsScheme text y → y ≡ x
one_scheme text (bearer t) (bearer u) h k = let same : u ≡ t = cc (h, k) in ap bearer same
one_scheme text (bearer t) (header_text u) h k = absurd (apart text t h k.1)
one_scheme text (header_text t) (bearer u) h k = absurd (apart text u k h.1)
one_scheme text (header_text t) (header_text u) h k = ap header_text (k.0 ∙ sym h.0)

-- a text that is no token is a header text, or of no kind
module _ (text : List ℕ) (none : (token : List ℕ) → ¬ (text ≡ codes "Bearer " ++ token)) where
  down : (s : Scheme) → IsScheme text s → IsHeaderScheme text s
  down (bearer token) h = none token h
  down (header_text whole) h = h

  up : (s : Scheme) → IsHeaderScheme text s → IsScheme text s
  up (bearer token) h = absurd h
  up (header_text whole) h = h

  pub wider : (o : Option Lent) → Finds scheme_view (IsHeaderScheme text) o → Finds scheme_view (IsScheme text) o
  wider None never = λ y h. never y (down y h)
  wider (Some v) found = (up (scheme_view v) found.0, λ y h. found.1 y (down y h))
