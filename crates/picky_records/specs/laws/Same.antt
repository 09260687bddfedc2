-- The tests whether schemes and algorithms are the same decide it.
use Rattle.std.specs.Prelude.{◌≡◌, ◌==◌, ℕ, if◌then◌else◌}
use Rattle.std.specs.Bool.{Decides}
use Rattle.std.proofs.Common.{refl, sym, ap, ◌∙◌}
use Rattle.std.proofs.lemmas.Bool.{eqb-true, eq-eqb}
use Rattle.picky_key.specs.declared.algorithm.HashAlgorithm.{HashAlgorithm}
use Rattle.picky_key.specs.declared.algorithm.HashAlgorithm.TheVariants as hash
use Rattle.picky_key.specs.declared.algorithm.SignatureAlgorithm.{SignatureAlgorithm}
use Rattle.picky_key.specs.declared.algorithm.SignatureAlgorithm.TheVariants as algorithm
use Rattle.picky_key.specs.declared.provider.WrapScheme.{WrapScheme}
use Rattle.picky_key.specs.declared.provider.WrapScheme.TheVariants as scheme
use Rattle.picky_records.specs.Same.{scheme_number, hash_number, same_scheme, same_algorithm}

-- numbers from which a value comes back tell it
by_number : {A : Type 0} (number : A → ℕ) (back : ℕ → A) → ((a : A) → back (number a) ≡ a) → (a b : A) → Decides (number a == number b) (a ≡ b)
by_number number back comes a b = (λ t. sym (comes a) ∙ ap back (eqb-true (number a) (number b) t) ∙ comes b, λ e. eq-eqb (number a) (number b) (ap number e))

abbrev scheme_of : ℕ → WrapScheme
scheme_of n = if n == 1 then scheme.RsaPkcs1v15 else if n == 2 then scheme.RsaOaep else scheme.RsaOaep256

scheme_back : (s : WrapScheme) → scheme_of (scheme_number s) ≡ s
scheme_back scheme.RsaPkcs1v15 = refl
scheme_back scheme.RsaOaep = refl
scheme_back scheme.RsaOaep256 = refl

pub same_scheme_decides : (a b : WrapScheme) → Decides (same_scheme a b) (a ≡ b)
same_scheme_decides a b = by_number scheme_number scheme_of scheme_back a b

abbrev hash_of : ℕ → HashAlgorithm
hash_of n =
    if n == 1 then hash.MD5 else if n == 2 then hash.SHA1 else if n == 3 then hash.SHA2_224 else if n == 4 then hash.SHA2_256 else
    if n == 5 then hash.SHA2_384 else if n == 6 then hash.SHA2_512 else if n == 7 then hash.SHA3_384 else hash.SHA3_512

hash_back : (h : HashAlgorithm) → hash_of (hash_number h) ≡ h
hash_back hash.MD5 = refl
hash_back hash.SHA1 = refl
hash_back hash.SHA2_224 = refl
hash_back hash.SHA2_256 = refl
hash_back hash.SHA2_384 = refl
hash_back hash.SHA2_512 = refl
hash_back hash.SHA3_384 = refl
hash_back hash.SHA3_512 = refl

pub same_algorithm_decides : (a b : SignatureAlgorithm) → Decides (same_algorithm a b) (a ≡ b)
same_algorithm_decides (algorithm.RsaPkcs1v15 a) (algorithm.RsaPkcs1v15 b) =
    let d = by_number hash_number hash_of hash_back a b in
    (λ t. ap (λ h. algorithm.RsaPkcs1v15 h) (d.0 t), λ e. d.1 (cc))
same_algorithm_decides (algorithm.Ecdsa a) (algorithm.Ecdsa b) =
    let d = by_number hash_number hash_of hash_back a b in
    (λ t. ap (λ h. algorithm.Ecdsa h) (d.0 t), λ e. d.1 (cc))
same_algorithm_decides algorithm.Ed25519 algorithm.Ed25519 = (λ t. refl, λ e. refl)
same_algorithm_decides (algorithm.RsaPkcs1v15 a) (algorithm.Ecdsa b) = (λ t. cc, λ e. cc)
same_algorithm_decides (algorithm.RsaPkcs1v15 a) algorithm.Ed25519 = (λ t. cc, λ e. cc)
same_algorithm_decides (algorithm.Ecdsa a) (algorithm.RsaPkcs1v15 b) = (λ t. cc, λ e. cc)
same_algorithm_decides (algorithm.Ecdsa a) algorithm.Ed25519 = (λ t. cc, λ e. cc)
same_algorithm_decides algorithm.Ed25519 (algorithm.RsaPkcs1v15 b) = (λ t. cc, λ e. cc)
same_algorithm_decides algorithm.Ed25519 (algorithm.Ecdsa b) = (λ t. cc, λ e. cc)
