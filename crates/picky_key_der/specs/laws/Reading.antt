-- What the tables of public keys say.
use Rattle.std.proofs.Common.{◌≡◌, ℕ, List, Result, Ok, Err, refl, sym, ap, ◌∙◌}
use Rattle.picky_contract.specs.laws.Tables.{Exact, the_exact, need_exact, done_exact, then_exact}
use Rattle.picky_der.specs.declared.fault.DerError.{DerError}
use Rattle.picky_der.specs.laws.Steps.{ok_is}
use Rattle.picky_fields.specs.declared.algorithm.AlgorithmIdentifier.{AlgorithmIdentifier}
use Rattle.picky_key_der.specs.declared.algorithm.KeyAlgorithm.{KeyAlgorithm}
use Rattle.picky_key_der.specs.declared.algorithm.KeyAlgorithm.TheVariants as keys
use Rattle.picky_key_der.specs.declared.error.KeyError.TheVariants.{Der}
use Rattle.picky_key_der.specs.declared.kind.PrivateKeyKind.{PrivateKeyKind}
use Rattle.picky_key_der.specs.declared.kind.PrivateKeyKind.TheVariants as private
use Rattle.picky_key_der.specs.declared.public.PublicKeyKind.{PublicKeyKind}
use Rattle.picky_key_der.specs.Errors.{read}
use Rattle.picky_key_der.specs.Kinds.{kind_of}
use Rattle.picky_key_der.specs.Public.{rsa_kind_table, ec_kind_table, ed_kind_table, told_table, kind_table, rsa_held_table, point_table, ed_held_table, held_table, public_table}

-- ---- one answer

read_one : {X : Type 0} (given : Result X DerError) (x y : X) → given ≡ Ok x → given ≡ Ok y → y ≡ x
read_one given x y h k = ok_is y x (sym k ∙ h)

read_fault : {X : Type 0} (given : Result X DerError) (d e : DerError) → given ≡ Err d → given ≡ Err e → e ≡ d
read_fault given d e h k = cc

clash : {X : Type 0} (given : Result X DerError) (x : X) (e : DerError) → given ≡ Ok x → given ≡ Err e → ⊥
clash given x e h k = cc

pub read_exact : {X : Type 0} (given : Result X DerError) → Exact (read given)
read_exact given = record {
  holds = λ x h. h;
  one = λ x y h k. read_one given x y h k;
  apart = λ f y r k. clash given y r.0 k r.1;
  only = λ f g r s. s.2 ∙ ap (λ (e : DerError). Der e) (read_fault given r.0 s.0 r.1 s.1) ∙ sym r.2;
}

told_exact : (algorithm : KeyAlgorithm) (parameters : List ℕ) → Exact (told_table algorithm parameters)
unfolding rsa_kind_table ec_kind_table ed_kind_table
told_exact keys.Rsa parameters = then_exact _ _ (read_exact _) (λ _. done_exact _)
told_exact keys.Ec parameters = then_exact _ _ (read_exact _) (λ _. done_exact _)
told_exact (keys.Ed algorithm) parameters = then_exact _ _ (read_exact _) (λ _. done_exact _)

pub kind_exact : (algorithm : AlgorithmIdentifier) → Exact (kind_table algorithm)
unfolding kind_table
kind_exact algorithm = then_exact _ _ (the_exact _ _) (λ told. told_exact told _)

pub held_exact : (kind : PrivateKeyKind) (bits : List ℕ) → Exact (held_table kind bits)
unfolding rsa_held_table point_table ed_held_table
held_exact private.Rsa bits = then_exact _ _ (read_exact _) (λ _. done_exact _)
held_exact (private.Ec curve) bits = then_exact _ _ (need_exact _ _) (λ _. done_exact _)
held_exact (private.Ed algorithm) bits = then_exact _ _ (need_exact _ _) (λ _. done_exact _)

pub public_exact : (bytes : List ℕ) → Exact (public_table bytes)
unfolding public_table
public_exact bytes = then_exact _ _ (read_exact _) (λ outer. then_exact _ _ (kind_exact _) (λ kind. held_exact kind _))

-- ---- the kind

-- what the bits of a kind hold is a key of the kind
pub held_kind : (kind : PrivateKeyKind) (bits : List ℕ) (key : PublicKeyKind) → (held_table kind bits).holds key → kind_of key ≡ kind
unfolding rsa_held_table point_table ed_held_table
held_kind private.Rsa bits key h = rw h.2 refl
held_kind (private.Ec curve) bits key h = rw h.2 refl
held_kind (private.Ed algorithm) bits key h = rw h.2 refl
