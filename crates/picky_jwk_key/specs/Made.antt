-- Keys that are made of bytes (RFC 7518 sections 6.2.1 and 6.3.1; RFC 8037 section 2).
use Rattle.std.specs.Prelude.{ℕ, ◌==◌, List, [], ◌∷◌, if◌then◌else◌}
use Rattle.picky_base64.specs.Base64.{encoding}
use Rattle.picky_base64.specs.declared.Form.TheVariants.{Url}
use Rattle.picky_der.specs.Length.{without_zeros}
use Rattle.picky_key_der.specs.Ecdsa.{padded}
use Rattle.picky_key_der.specs.Public.{field_size}
use Rattle.picky_jwk_names.specs.declared.curve.JwkEcPublicKeyCurve.{JwkEcPublicKeyCurve}
use Rattle.picky_jwk_names.specs.declared.edwards.JwkEdPublicKeyAlgorithm.{JwkEdPublicKeyAlgorithm}
use Rattle.picky_jwk_key.specs.Keys.{Key, rsa, ec, ed, curve_of}

-- the bytes without one leading 00 of a longer value
abbrev pub without_zero : List ℕ → List ℕ
without_zero [] = []
without_zero (b ∷ []) = b ∷ []
without_zero (b ∷ c ∷ bs) = if b == 0 then c ∷ bs else b ∷ c ∷ bs

-- the number of the bytes in the size of the field; as long as it is, where that is too small
abbrev pub in_field : ℕ → List ℕ → List ℕ
in_field size bytes = padded size (without_zeros bytes)

abbrev pub rsa_of : List ℕ → List ℕ → Key
rsa_of modulus exponent = rsa (record { n = encoding Url (without_zero modulus); e = encoding Url (without_zero exponent) })

abbrev pub ec_of : JwkEcPublicKeyCurve → List ℕ → List ℕ → Key
ec_of crv x y = ec (record { crv = crv; x = encoding Url (in_field (field_size (curve_of crv)) x); y = encoding Url (in_field (field_size (curve_of crv)) y) })

abbrev pub ed_of : JwkEdPublicKeyAlgorithm → List ℕ → Key
ed_of crv bytes = ed (record { crv = crv; x = encoding Url bytes })
