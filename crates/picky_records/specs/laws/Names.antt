-- Names are the words of what they name.
use Rattle.std.proofs.Common.{◌≡◌, ℕ, List, [], ◌∷◌, Some, refl, ap, ◌∙◌}
use Rattle.std.specs.Prelude.{Bool, true, false, cond}
use Rattle.std.specs.Str.{bytes_eq}
use Rattle.std.proofs.lemmas.Option.{none-some, same_Some}
use Rattle.std.proofs.lemmas.Slice.Eq.{bytes_eq-Decides}
use Rattle.picky_key.specs.declared.algorithm.HashAlgorithm.TheVariants as hash
use Rattle.picky_key.specs.declared.algorithm.SignatureAlgorithm.{SignatureAlgorithm}
use Rattle.picky_key.specs.declared.algorithm.SignatureAlgorithm.TheVariants.{RsaPkcs1v15, Ecdsa, Ed25519}
use Rattle.picky_key.specs.declared.provider.WrapScheme.{WrapScheme}
use Rattle.picky_key.specs.declared.provider.WrapScheme.TheVariants as scheme
use Rattle.picky_key.specs.Words.{algorithm_word}
use Rattle.picky_records.specs.Reading.{named_in, algorithm_named, scheme_named, scheme_word}

-- what a name names has it as its word
pub named_is : {A : Type 0} (word : A → List ℕ) (all : List A) (name : List ℕ) (a : A) → named_in word all name ≡ Some a → name ≡ word a
named_is word [] name a h = absurd (none-some a h)
named_is {A} word (b ∷ all) name a h = at (named_is word all name a) (bytes_eq name (word b)) refl h
  where
    at : (named_in word all name ≡ Some a → name ≡ word a) → (t : Bool) → bytes_eq name (word b) ≡ t → cond t (Some b) (named_in word all name) ≡ Some a → name ≡ word a
    at later true is h = (bytes_eq-Decides name (word b)).0 is ∙ ap word (same_Some b a h)
    at later false is h = later h

pub algorithm_is_named : (a : SignatureAlgorithm) (name : List ℕ) → name ≡ algorithm_word a → algorithm_named name ≡ Some a
algorithm_is_named a name is = ap algorithm_named is ∙ named a
  where
    named : (a : SignatureAlgorithm) → algorithm_named (algorithm_word a) ≡ Some a
    named (RsaPkcs1v15 hash.MD5) = refl
    named (RsaPkcs1v15 hash.SHA1) = refl
    named (RsaPkcs1v15 hash.SHA2_224) = refl
    named (RsaPkcs1v15 hash.SHA2_256) = refl
    named (RsaPkcs1v15 hash.SHA2_384) = refl
    named (RsaPkcs1v15 hash.SHA2_512) = refl
    named (RsaPkcs1v15 hash.SHA3_384) = refl
    named (RsaPkcs1v15 hash.SHA3_512) = refl
    named (Ecdsa hash.MD5) = refl
    named (Ecdsa hash.SHA1) = refl
    named (Ecdsa hash.SHA2_224) = refl
    named (Ecdsa hash.SHA2_256) = refl
    named (Ecdsa hash.SHA2_384) = refl
    named (Ecdsa hash.SHA2_512) = refl
    named (Ecdsa hash.SHA3_384) = refl
    named (Ecdsa hash.SHA3_512) = refl
    named Ed25519 = refl

pub scheme_is_named : (s : WrapScheme) (name : List ℕ) → name ≡ scheme_word s → scheme_named name ≡ Some s
scheme_is_named s name is = ap scheme_named is ∙ named s
  where
    named : (s : WrapScheme) → scheme_named (scheme_word s) ≡ Some s
    named scheme.RsaPkcs1v15 = refl
    named scheme.RsaOaep = refl
    named scheme.RsaOaep256 = refl
