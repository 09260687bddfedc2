-- Which bytes can be a signature (own): not empty, and for ECDSA the DER of a pair (RFC 3279 section 2.2.3) of numbers that are at least zero and, under a key on a known curve, fit its field.
use Rattle.std.specs.Prelude.{◌&&◌, ℕ, Bool, true, false, List, [], ◌∷◌, length, nat_lt, nat_le, Result, Ok, Err}
use Rattle.picky_asn1_bits.specs.Integer.{without_sign_byte}
use Rattle.picky_der.specs.declared.fault.DerError.{DerError}
use Rattle.picky_der.specs.Form.{whole}
use Rattle.picky_key_der.specs.declared.algorithm.NamedEcCurve.TheVariants.{Known}
use Rattle.picky_key_der.specs.declared.public.PublicKeyKind.{PublicKeyKind}
use Rattle.picky_key_der.specs.declared.public.PublicKeyKind.TheVariants.{Ec}
use Rattle.picky_key_der.specs.Ecdsa.{ecdsa_pair, PairValue}
use Rattle.picky_key_der.specs.Public.{field_size}
use Rattle.picky_key.specs.declared.algorithm.SignatureAlgorithm.{SignatureAlgorithm}
use Rattle.picky_key.specs.declared.algorithm.SignatureAlgorithm.TheVariants.{Ecdsa}

-- the number of these octets is at least zero: its first bit, the sign, isn't set (X.690 section 8.3.3)
abbrev pub at_least_zero : List ℕ → Bool
at_least_zero [] = true
at_least_zero (b ∷ bs) = nat_lt b 128

-- the number has no more bytes than the field of a key on a known curve
abbrev pub fits_field : PublicKeyKind → List ℕ → Bool
fits_field (Ec (Known curve) point) octets = nat_le (length (without_sign_byte octets)) (field_size curve)
fits_field _ octets = true

abbrev pub is_number_for : PublicKeyKind → List ℕ → Bool
is_number_for key octets = at_least_zero octets && fits_field key octets

-- what reading gave is a pair of such numbers; DER has each number in its shortest spelling alone, so reading refuses others
abbrev pub is_pair_for : PublicKeyKind → Result PairValue DerError → Bool
is_pair_for key (Ok (r, s)) = is_number_for key r && is_number_for key s
is_pair_for key (Err e) = false

abbrev pub is_of_algorithm : SignatureAlgorithm → PublicKeyKind → List ℕ → Bool
is_of_algorithm (Ecdsa hash) key bytes = is_pair_for key (whole ecdsa_pair.reading bytes)
is_of_algorithm _ key bytes = true

abbrev pub is_some_byte : List ℕ → Bool
is_some_byte [] = false
is_some_byte (b ∷ bytes) = true

-- the bytes can be a signature of the algorithm under the key
abbrev pub is_signature_for : SignatureAlgorithm → PublicKeyKind → List ℕ → Bool
is_signature_for algorithm key bytes = is_some_byte bytes && is_of_algorithm algorithm key bytes
