-- The tests whether kinds and keys are the same decide it.
use Rattle.std.proofs.Common.{◌≡◌, ℕ, true, List, refl, ap, ◌∙◌}
use Rattle.std.specs.Bool.{Decides}
use Rattle.std.specs.Str.{bytes_eq}
use Rattle.std.proofs.lemmas.Bool.{and_parts, and_from}
use Rattle.std.proofs.lemmas.Slice.Eq.{bytes_eq-Decides}
use Rattle.picky_key_der.specs.declared.algorithm.EcCurve.{EcCurve}
use Rattle.picky_key_der.specs.declared.algorithm.EcCurve.TheVariants.{NistP256, NistP384, NistP521}
use Rattle.picky_key_der.specs.declared.algorithm.EdAlgorithm.{EdAlgorithm}
use Rattle.picky_key_der.specs.declared.algorithm.EdAlgorithm.TheVariants.{Ed25519, X25519}
use Rattle.picky_key_der.specs.declared.algorithm.NamedEcCurve.{NamedEcCurve}
use Rattle.picky_key_der.specs.declared.algorithm.NamedEcCurve.TheVariants.{Known, Unsupported}
use Rattle.picky_key_der.specs.declared.kind.PrivateKeyKind.{PrivateKeyKind}
use Rattle.picky_key_der.specs.declared.kind.PrivateKeyKind.TheVariants as private
use Rattle.picky_key_der.specs.declared.public.PublicKeyKind.{PublicKeyKind}
use Rattle.picky_key_der.specs.declared.public.PublicKeyKind.TheVariants as public
use Rattle.picky_key_der.specs.Kinds.{same_known, same_curve, same_edwards, same_kind, same_public}

-- ---- curves and algorithms

known_to : (a b : EcCurve) → same_known a b ≡ true → a ≡ b
known_to NistP256 NistP256 h = refl
known_to NistP384 NistP384 h = refl
known_to NistP521 NistP521 h = refl
known_to NistP256 NistP384 h = absurd cc
known_to NistP256 NistP521 h = absurd cc
known_to NistP384 NistP256 h = absurd cc
known_to NistP384 NistP521 h = absurd cc
known_to NistP521 NistP256 h = absurd cc
known_to NistP521 NistP384 h = absurd cc

known_itself : (a : EcCurve) → same_known a a ≡ true
known_itself NistP256 = refl
known_itself NistP384 = refl
known_itself NistP521 = refl

curve_to : (a b : NamedEcCurve) → same_curve a b ≡ true → a ≡ b
curve_to (Known a) (Known b) h = ap (λ (c : EcCurve). Known c) (known_to a b h)
curve_to (Unsupported a) (Unsupported b) h = ap (λ (o : List ℕ). Unsupported o) ((bytes_eq-Decides a b).0 h)
curve_to (Known a) (Unsupported b) h = absurd cc
curve_to (Unsupported a) (Known b) h = absurd cc

curve_itself : (a : NamedEcCurve) → same_curve a a ≡ true
curve_itself (Known a) = known_itself a
curve_itself (Unsupported a) = (bytes_eq-Decides a a).1 refl

pub same_curve_decides : (a b : NamedEcCurve) → Decides (same_curve a b) (a ≡ b)
same_curve_decides a b = (curve_to a b, λ e. rw (← e) (curve_itself a))

edwards_to : (a b : EdAlgorithm) → same_edwards a b ≡ true → a ≡ b
edwards_to Ed25519 Ed25519 h = refl
edwards_to X25519 X25519 h = refl
edwards_to Ed25519 X25519 h = absurd cc
edwards_to X25519 Ed25519 h = absurd cc

edwards_itself : (a : EdAlgorithm) → same_edwards a a ≡ true
edwards_itself Ed25519 = refl
edwards_itself X25519 = refl

pub same_edwards_decides : (a b : EdAlgorithm) → Decides (same_edwards a b) (a ≡ b)
same_edwards_decides a b = (edwards_to a b, λ e. rw (← e) (edwards_itself a))

-- ---- kinds

kind_to : (a b : PrivateKeyKind) → same_kind a b ≡ true → a ≡ b
kind_to private.Rsa private.Rsa h = refl
kind_to (private.Ec a) (private.Ec b) h = ap (λ (c : NamedEcCurve). private.Ec c) (curve_to a b h)
kind_to (private.Ed a) (private.Ed b) h = ap (λ (c : EdAlgorithm). private.Ed c) (edwards_to a b h)
kind_to private.Rsa (private.Ec b) h = absurd cc
kind_to private.Rsa (private.Ed b) h = absurd cc
kind_to (private.Ec a) private.Rsa h = absurd cc
kind_to (private.Ec a) (private.Ed b) h = absurd cc
kind_to (private.Ed a) private.Rsa h = absurd cc
kind_to (private.Ed a) (private.Ec b) h = absurd cc

kind_itself : (a : PrivateKeyKind) → same_kind a a ≡ true
kind_itself private.Rsa = refl
kind_itself (private.Ec a) = curve_itself a
kind_itself (private.Ed a) = edwards_itself a

-- `same_kind` is equality of kinds
pub same_kind_decides : (a b : PrivateKeyKind) → Decides (same_kind a b) (a ≡ b)
same_kind_decides a b = (kind_to a b, λ e. rw (← e) (kind_itself a))

-- ---- public keys

abbrev rsa : List ℕ → List ℕ → PublicKeyKind
rsa n e = public.Rsa (record { 0 = n }) (record { 0 = e })

public_to : (a b : PublicKeyKind) → same_public a b ≡ true → a ≡ b
public_to (public.Rsa n e) (public.Rsa m d) h =
    let both = and_parts (bytes_eq n.0 m.0) (bytes_eq e.0 d.0) h in
    ap (λ (x : List ℕ). rsa x e.0) ((bytes_eq-Decides n.0 m.0).0 both.0) ∙ ap (λ (x : List ℕ). rsa m.0 x) ((bytes_eq-Decides e.0 d.0).0 both.1)
public_to (public.Ec c p) (public.Ec d q) h =
    let both = and_parts (same_curve c d) (bytes_eq p q) h in
    ap (λ (x : NamedEcCurve). public.Ec x p) (curve_to c d both.0) ∙ ap (λ (x : List ℕ). public.Ec d x) ((bytes_eq-Decides p q).0 both.1)
public_to (public.Ed c p) (public.Ed d q) h =
    let both = and_parts (same_edwards c d) (bytes_eq p q) h in
    ap (λ (x : EdAlgorithm). public.Ed x p) (edwards_to c d both.0) ∙ ap (λ (x : List ℕ). public.Ed d x) ((bytes_eq-Decides p q).0 both.1)
public_to (public.Rsa n e) (public.Ec d q) h = absurd cc
public_to (public.Rsa n e) (public.Ed d q) h = absurd cc
public_to (public.Ec c p) (public.Rsa m d) h = absurd cc
public_to (public.Ec c p) (public.Ed d q) h = absurd cc
public_to (public.Ed c p) (public.Rsa m d) h = absurd cc
public_to (public.Ed c p) (public.Ec d q) h = absurd cc

bytes_itself : (b : List ℕ) → bytes_eq b b ≡ true
bytes_itself b = (bytes_eq-Decides b b).1 refl

public_itself : (a : PublicKeyKind) → same_public a a ≡ true
public_itself (public.Rsa n e) = and_from (bytes_eq n.0 n.0) (bytes_eq e.0 e.0) (bytes_itself n.0) (bytes_itself e.0)
public_itself (public.Ec c p) = and_from (same_curve c c) (bytes_eq p p) (curve_itself c) (bytes_itself p)
public_itself (public.Ed c p) = and_from (same_edwards c c) (bytes_eq p p) (edwards_itself c) (bytes_itself p)

-- `same_public` is equality of public keys
pub same_public_decides : (a b : PublicKeyKind) → Decides (same_public a b) (a ≡ b)
same_public_decides a b = (public_to a b, λ e. rw (← e) (public_itself a))
