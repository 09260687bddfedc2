-- The test whether two private keys are the same decides it.
use Rattle.std.proofs.Common.{◌≡◌, ℕ, List, Option, Some, None, true, refl, ap, subst}
use Rattle.std.specs.Bool.{Decides}
use Rattle.std.specs.Prelude.{◌&&◌, IsTrue}
use Rattle.std.specs.Str.{bytes_eq}
use Rattle.std.proofs.Props.{props}
use Rattle.std.proofs.lemmas.Bool.{and_parts, and_from}
use Rattle.std.proofs.lemmas.Slice.Eq.{bytes_eq-Decides}
use Rattle.picky_key_der.specs.declared.kind.PrivateKeyKind.{PrivateKeyKind}
use Rattle.picky_key_der.specs.declared.public.PublicKeyKind.{PublicKeyKind}
use Rattle.picky_key_der.specs.Kinds.{same_kind}
use Rattle.picky_key_der.specs.laws.Kinds.{same_kind_decides, same_public_decides}
use Rattle.picky_key_private.specs.declared.private.PrivateKey.{PrivateKey}
use Rattle.picky_key_private.specs.Parts.{part_fits, same_part}
use Rattle.picky_key_private.specs.Same.{same_private}

part_to : (a b : Option PublicKeyKind) → same_part a b ≡ true → a ≡ b
part_to None None h = refl
part_to (Some a) (Some b) h = ap (λ (k : PublicKeyKind). Some k) ((same_public_decides a b).0 h)
part_to None (Some b) h = absurd cc
part_to (Some a) None h = absurd cc

part_itself : (a : Option PublicKeyKind) → same_part a a ≡ true
part_itself None = refl
part_itself (Some a) = (same_public_decides a a).1 refl

-- `same_part` is equality of public parts
pub same_part_decides : (a b : Option PublicKeyKind) → Decides (same_part a b) (a ≡ b)
same_part_decides a b = (part_to a b, λ e. rw (← e) (part_itself a))

abbrev key : (bytes : List ℕ) (kind : PrivateKeyKind) (part : Option PublicKeyKind) → IsTrue (part_fits kind part) → PrivateKey
key bytes kind part fits = record { bytes = bytes; kind = kind; public_part = part; fits = fits }

fits_once : (kind : PrivateKeyKind) (part : Option PublicKeyKind) → IsProp (IsTrue (part_fits kind part))
fits_once kind part = hlevel props

one_part : (bytes : List ℕ) (kind : PrivateKeyKind) (part other : Option PublicKeyKind) → part ≡ other → (f : IsTrue (part_fits kind part)) (g : IsTrue (part_fits kind other)) → key bytes kind part f ≡ key bytes kind other g
one_part bytes kind part other e f g = subst (λ (o : Option PublicKeyKind). (h : IsTrue (part_fits kind o)) → key bytes kind part f ≡ key bytes kind o h) e (λ h. ap (λ (x : IsTrue (part_fits kind part)). key bytes kind part x) (fits_once kind part f h)) g

one_kind : (bytes : List ℕ) (kind other : PrivateKeyKind) (part last : Option PublicKeyKind) → kind ≡ other → part ≡ last → (f : IsTrue (part_fits kind part)) (g : IsTrue (part_fits other last)) → key bytes kind part f ≡ key bytes other last g
one_kind bytes kind other part last e d f g = subst (λ (k : PrivateKeyKind). (h : IsTrue (part_fits k last)) → key bytes kind part f ≡ key bytes k last h) e (λ h. one_part bytes kind part last d f h) g

-- keys of the same bytes, kind and public part are one key
pub one_private : (a b : PrivateKey) → a.bytes ≡ b.bytes → a.kind ≡ b.kind → a.public_part ≡ b.public_part → a ≡ b
one_private a b bytes kind part = subst (λ (x : List ℕ). a ≡ key x b.kind b.public_part b.fits) bytes (one_kind a.bytes a.kind b.kind a.public_part b.public_part kind part a.fits b.fits)

private_itself : (a : PrivateKey) → same_private a a ≡ true
private_itself a = and_from (bytes_eq a.bytes a.bytes) (same_kind a.kind a.kind && same_part a.public_part a.public_part) ((bytes_eq-Decides a.bytes a.bytes).1 refl)
    (and_from (same_kind a.kind a.kind) (same_part a.public_part a.public_part) ((same_kind_decides a.kind a.kind).1 refl) (part_itself a.public_part))

private_to : (a b : PrivateKey) → same_private a b ≡ true → a ≡ b
private_to a b h =
    let all = and_parts (bytes_eq a.bytes b.bytes) (same_kind a.kind b.kind && same_part a.public_part b.public_part) h in
    let both = and_parts (same_kind a.kind b.kind) (same_part a.public_part b.public_part) all.1 in
    one_private a b ((bytes_eq-Decides a.bytes b.bytes).0 all.0) ((same_kind_decides a.kind b.kind).0 both.0) (part_to a.public_part b.public_part both.1)

-- `same_private` is equality of private keys
pub same_private_decides : (a b : PrivateKey) → Decides (same_private a b) (a ≡ b)
same_private_decides a b = (private_to a b, λ e. rw (← e) (private_itself a))
