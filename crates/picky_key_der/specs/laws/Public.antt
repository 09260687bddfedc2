-- The laws of what public keys are made of.
use Rattle.std.proofs.Common.{◌≡◌, ℕ, ◌+◌, ◌*◌, List, [], ◌∷◌, ◌++◌, length, true, Ok, refl, sym, ◌∙◌, arith, length-append}
use Rattle.std.specs.Prelude.{◌==◌}
use Rattle.std.proofs.lemmas.Bool.{eqb-true, eq-eqb}
use Rattle.picky_der.specs.declared.fault.DerError.TheVariants.{BadValue}
use Rattle.picky_der.specs.Primitive.{Decodes}
use Rattle.picky_der.specs.Reading.{whole_bytes}
use Rattle.picky_der.specs.laws.Steps.{need_ok, ok_is}
use Rattle.picky_der.specs.laws.Primitives.{primitive_readable, primitive_writable}
use Rattle.picky_fields.specs.Algorithm.{algorithm_lawful}
use Rattle.picky_fields.specs.laws.Fields.{Lawful, one_lawful, and_lawful, sequence_lawful}
use Rattle.picky_fields.specs.laws.Plain.{integer_lawful}
use Rattle.picky_key_der.specs.Public.{bits_contents, whole_bits, information, rsa_public, is_point}

pub whole_takes : (octets x : List ℕ) → whole_bytes octets ≡ Ok x → octets ≡ 0 ∷ x
unfolding whole_bytes
whole_takes [] x e = absurd cc
whole_takes (b ∷ bs) x e =
    let a = need_ok (b == 0) BadValue (Ok bs) x e in
    let zero_is : b ≡ 0 = eqb-true b 0 a.0 in
    let rest_is : bs ≡ x = ok_is bs x a.1 in
    rw zero_is (rw rest_is refl)

pub whole_again : (octets x : List ℕ) → octets ≡ 0 ∷ x → whole_bytes octets ≡ Ok x
unfolding whole_bytes
whole_again octets x e = rw e refl

bits_decodes : Decodes bits_contents
bits_decodes = record {
  takes = λ octets x _ e. (tt, whole_takes octets x e);
  again = λ octets x _ e. whole_again octets x e;
  has_octets = λ _ _. refl;
  one = λ s t x _ p q. p ∙ sym q;
}

pub whole_bits_lawful : Lawful whole_bits
unfolding whole_bits
whole_bits_lawful = record {
  readable = primitive_readable (record { 0 = 3 }) bits_contents bits_decodes;
  writable = primitive_writable (record { 0 = 3 }) bits_contents bits_decodes (λ h. absurd (omega arith));
}

pub information_lawful : Lawful information
unfolding information
information_lawful = sequence_lawful (and_lawful (λ _ _. refl) (one_lawful algorithm_lawful) (one_lawful whole_bits_lawful))

pub rsa_public_lawful : Lawful rsa_public
unfolding rsa_public
rsa_public_lawful = sequence_lawful (and_lawful (λ _ _. refl) (one_lawful integer_lawful) (one_lawful integer_lawful))

both_sizes : (size : ℕ) (x y : List ℕ) → length x ≡ size → length y ≡ size → length (x ++ y) ≡ 2 * size
both_sizes size x y hx hy =
    let both : length (x ++ y) ≡ length x + length y = length-append x y in
    omega arith

-- 04 and two coordinates
pub uncompressed_is_point : (size : ℕ) (x y : List ℕ) → length x ≡ size → length y ≡ size → is_point size (4 ∷ x ++ y) ≡ true
uncompressed_is_point size x y hx hy =
    let e : (length (x ++ y) == 2 * size) ≡ true = eq-eqb (length (x ++ y)) (2 * size) (both_sizes size x y hx hy) in
    rw e refl
