-- The laws of PBKDF2's parameters.
use Rattle.std.proofs.Common.{◌≡◌, Option, Some, None, refl, sym, ap, subst, inl, inr}
use Rattle.std.specs.Prelude.{IfSome}
use Rattle.picky_fields.specs.Fields.{one, optional, ◌and◌}
use Rattle.picky_fields.specs.SeenAgain.{SeesAgain}
use Rattle.picky_fields.specs.laws.Fields.{Lawful, one_lawful, and_lawful, sequence_lawful, other_tag}
use Rattle.picky_fields.specs.laws.Optional.{optional_lawful}
use Rattle.picky_fields.specs.laws.SeenAgain.{seen_again_lawful}
use Rattle.picky_x509_algorithms.specs.declared.prf.Pbkdf2Prf.{Pbkdf2Prf}
use Rattle.picky_x509_algorithms.specs.declared.prf.Pbkdf2Prf.TheVariants.{HmacWithSha1, HmacWithSha224, HmacWithSha256, HmacWithSha384, HmacWithSha512, Unknown}
use Rattle.picky_x509_algorithms.specs.Counts.{count, count_lawful}
use Rattle.picky_x509_algorithms.specs.Prf.{prf, prf_lawful}
use Rattle.picky_x509_algorithms.specs.Salt.{SaltValue, salt_parts, salt_of, salt, salt_lawful}
use Rattle.picky_x509_algorithms.specs.Pbkdf2.{beside_default, without_default, pbkdf2_of, pbkdf2_parts, pbkdf2_fields, pbkdf2}

-- nothing is left out twice
beside_twice : (p : Pbkdf2Prf) → without_default (beside_default p) ≡ beside_default p
beside_twice HmacWithSha1 = refl
beside_twice HmacWithSha224 = refl
beside_twice HmacWithSha256 = refl
beside_twice HmacWithSha384 = refl
beside_twice HmacWithSha512 = refl
beside_twice (Unknown a) = refl

without_twice : (o : Option Pbkdf2Prf) → without_default (without_default o) ≡ without_default o
without_twice None = refl
without_twice (Some p) = beside_twice p

beside_formed : (P : Pbkdf2Prf → Type 0) (p : Pbkdf2Prf) → P p → IfSome (beside_default p) P
beside_formed P HmacWithSha1 h = tt
beside_formed P HmacWithSha224 h = h
beside_formed P HmacWithSha256 h = h
beside_formed P HmacWithSha384 h = h
beside_formed P HmacWithSha512 h = h
beside_formed P (Unknown a) h = h

without_formed : (P : Pbkdf2Prf → Type 0) (o : Option Pbkdf2Prf) → IfSome o P → IfSome (without_default o) P
without_formed P None h = tt
without_formed P (Some p) h = beside_formed P p h

salt_forth : (x : SaltValue) → salt_parts (salt_of x) ≡ x
salt_forth (inl a) = refl
salt_forth (inr octets) = refl

salt_same : (x : SaltValue) → salt_of (salt_parts (salt_of x)) ≡ salt_of x
salt_same x = ap salt_of (salt_forth x)

pub pbkdf2_lawful : Lawful pbkdf2
unfolding pbkdf2 pbkdf2_fields prf count
pbkdf2_lawful =
    let sees : SeesAgain (one salt and one count and optional count and optional prf).in_form pbkdf2_of pbkdf2_parts = record {
      formed = λ x h. (((subst salt.in_form (sym (salt_forth x.0.0.0)) h.0.0.0, h.0.0.1), h.0.1), without_formed prf.in_form (without_default x.1) (without_formed prf.in_form x.1 h.1));
      again = λ x h. rw (salt_forth x.0.0.0, without_twice, without_twice) refl;
    } in
    let numbers = and_lawful (λ _ _. refl) (and_lawful (λ _ _. refl) (one_lawful salt_lawful) (one_lawful count_lawful)) (optional_lawful count_lawful) in
    sequence_lawful (seen_again_lawful sees (and_lawful (other_tag 2 48 refl) numbers (optional_lawful prf_lawful)))
