-- The laws of what private keys are made of.
use Rattle.std.proofs.Common.{◌≡◌, ℕ, true, List, [], ◌∷◌, Ok, refl, sym, ap, ◌∙◌, subst, arith}
use Rattle.std.specs.Prelude.{nat_lt}
use Rattle.std.proofs.lemmas.Bool.{eqb-true}
use Rattle.picky_der.specs.declared.fault.DerError.TheVariants.{BadValue}
use Rattle.picky_der.specs.Primitive.{Decodes}
use Rattle.picky_der.specs.laws.Steps.{need_ok, ok_is}
use Rattle.picky_der.specs.laws.Primitives.{primitive_readable, primitive_writable}
use Rattle.picky_fields.specs.Algorithm.{algorithm_lawful}
use Rattle.picky_fields.specs.Fields.{Tells, explicit}
use Rattle.picky_fields.specs.laws.Fields.{Lawful, LawfulFields, one_lawful, and_lawful, sequence_lawful, explicit_lawful, other_tag}
use Rattle.picky_fields.specs.laws.Optional.{only_lawful, optional_lawful}
use Rattle.picky_fields.specs.laws.Plain.{identifier_lawful, integer_lawful, octets_lawful}
use Rattle.picky_key_der.specs.laws.Public.{whole_bits_lawful}
use Rattle.picky_key_private.specs.Forms.{version_of, IsVersion, version_contents, version, kept_contents, attributes, is_counted, counted_of, counted_contents, public_bits, info_fields, private_info, public_numbers, private_numbers, rsa_fields, rsa_private, is_one, ec_fields, ec_private}

-- ---- contents octets

version_takes : (octets : List ℕ) (n : ℕ) → version_of octets ≡ Ok n → IsVersion n × (octets ≡ n ∷ [])
version_takes [] n e = absurd cc
version_takes (b ∷ []) n e =
    let a = need_ok (nat_lt b 2) BadValue (Ok b) n e in
    let same : b ≡ n = ok_is b n a.1 in
    (subst IsVersion same a.0, ap (λ (x : ℕ). x ∷ []) same)
version_takes (b ∷ c ∷ bs) n e = absurd cc

version_again : (octets : List ℕ) (n : ℕ) → IsVersion n → octets ≡ n ∷ [] → version_of octets ≡ Ok n
version_again octets n h e = rw (e, h) refl

version_decodes : Decodes version_contents
version_decodes = record {
  takes = λ octets n _ e. version_takes octets n e;
  again = version_again;
  has_octets = λ _ _. refl;
  one = λ s t n _ p q. p ∙ sym q;
}

kept_decodes : Decodes kept_contents
kept_decodes = record {
  takes = λ octets x _ e. (tt, ok_is octets x e);
  again = λ octets x _ p. rw p refl;
  has_octets = λ _ _. refl;
  one = λ s t x _ p q. p ∙ sym q;
}

counted_takes : (octets x : List ℕ) → counted_of octets ≡ Ok x → (is_counted x ≡ true) × (octets ≡ x)
counted_takes octets x e =
    let a = need_ok (is_counted octets) BadValue (Ok octets) x e in
    let same : octets ≡ x = ok_is octets x a.1 in
    (subst (λ (o : List ℕ). is_counted o ≡ true) same a.0, same)

counted_again : (octets x : List ℕ) → is_counted x ≡ true → octets ≡ x → counted_of octets ≡ Ok x
counted_again octets x h e = rw (e, h) refl

counted_decodes : Decodes counted_contents
counted_decodes = record {
  takes = λ octets x _ e. counted_takes octets x e;
  again = counted_again;
  has_octets = λ _ _. refl;
  one = λ s t x _ p q. p ∙ sym q;
}

-- ---- the outer value

pub version_lawful : Lawful version
unfolding version
version_lawful = record {
  readable = primitive_readable (record { 0 = 2 }) version_contents version_decodes;
  writable = primitive_writable (record { 0 = 2 }) version_contents version_decodes (λ h. absurd (omega arith));
}

pub attributes_lawful : Lawful attributes
unfolding attributes
attributes_lawful = record {
  readable = primitive_readable (record { 0 = 160 }) kept_contents kept_decodes;
  writable = primitive_writable (record { 0 = 160 }) kept_contents kept_decodes (λ h. absurd (omega arith));
}

pub public_bits_lawful : Lawful public_bits
unfolding public_bits
public_bits_lawful = record {
  readable = primitive_readable (record { 0 = 129 }) counted_contents counted_decodes;
  writable = primitive_writable (record { 0 = 129 }) counted_contents counted_decodes (λ h. absurd (omega arith));
}

pub private_info_lawful : Lawful private_info
unfolding private_info info_fields version attributes public_bits
private_info_lawful =
    let head = and_lawful (λ _ _. refl) (and_lawful (λ _ _. refl) (one_lawful version_lawful) (one_lawful algorithm_lawful)) (one_lawful octets_lawful) in
    sequence_lawful (and_lawful (other_tag 160 129 refl) (and_lawful (λ _ _. refl) head (optional_lawful attributes_lawful)) (optional_lawful public_bits_lawful))

-- ---- what the octets hold

public_numbers_lawful : LawfulFields public_numbers
unfolding public_numbers
public_numbers_lawful = and_lawful (λ _ _. refl) (and_lawful (λ _ _. refl) (one_lawful integer_lawful) (one_lawful integer_lawful)) (one_lawful integer_lawful)

private_numbers_lawful : LawfulFields private_numbers
unfolding private_numbers
private_numbers_lawful =
    let three = and_lawful (λ _ _. refl) (and_lawful (λ _ _. refl) (one_lawful integer_lawful) (one_lawful integer_lawful)) (one_lawful integer_lawful) in
    and_lawful (λ _ _. refl) (and_lawful (λ _ _. refl) (and_lawful (λ _ _. refl) three (one_lawful integer_lawful)) (one_lawful integer_lawful)) (one_lawful integer_lawful)

pub rsa_private_lawful : Lawful rsa_private
unfolding rsa_private rsa_fields public_numbers private_numbers
rsa_private_lawful = sequence_lawful (and_lawful (λ _ _. refl) public_numbers_lawful private_numbers_lawful)

one_tells : Tells version.in_form 1 is_one
unfolding version
one_tells = record { formed = refl; holds = refl; alone = λ n _ h. eqb-true n 1 h }

pub ec_private_lawful : Lawful ec_private
unfolding ec_private ec_fields version explicit
ec_private_lawful =
    let head = and_lawful (λ _ _. refl) (only_lawful one_tells version_lawful) (one_lawful octets_lawful) in
    let curve = optional_lawful (explicit_lawful 0 (omega arith) identifier_lawful) in
    let point = optional_lawful (explicit_lawful 1 (omega arith) whole_bits_lawful) in
    sequence_lawful (and_lawful (other_tag 160 161 refl) (and_lawful (λ _ _. refl) head curve) point)
