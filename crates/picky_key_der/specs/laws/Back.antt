-- What is written of a key is a SubjectPublicKeyInfo of it.
use Rattle.std.proofs.Common.{◌≡◌, ℕ, ◌+◌, ◌^◌, ◌<◌, List, [], ◌∷◌, ◌++◌, length, Option, Some, None, refl, sym, subst, arith, inr, length-append}
use Rattle.std.specs.Prelude.{◌%◌, ◌≢◌}
use Rattle.picky_asn1_bits.specs.Integer.{IsShortest}
use Rattle.picky_asn1_oid.specs.Arcs.{IsArcs, contents_of}
use Rattle.picky_der.specs.Form.{Form, IsOneValue}
use Rattle.picky_der.specs.Length.{value_of}
use Rattle.picky_der.specs.laws.Headers.{length-value_of, IsValue-of}
use Rattle.picky_fields.specs.declared.algorithm.AlgorithmIdentifier.{AlgorithmIdentifier}
use Rattle.picky_fields.specs.Algorithm.{algorithm}
use Rattle.picky_fields.specs.Fields.{identifier, null}
use Rattle.picky_fields.specs.laws.Fields.{Lawful}
use Rattle.picky_fields.specs.laws.Plain.{identifier_lawful, null_lawful}
use Rattle.picky_key_der.specs.declared.algorithm.EcCurve.TheVariants.{NistP256, NistP384, NistP521}
use Rattle.picky_key_der.specs.declared.algorithm.EdAlgorithm.{EdAlgorithm}
use Rattle.picky_key_der.specs.declared.algorithm.EdAlgorithm.TheVariants.{Ed25519, X25519}
use Rattle.picky_key_der.specs.declared.algorithm.NamedEcCurve.{NamedEcCurve}
use Rattle.picky_key_der.specs.declared.algorithm.NamedEcCurve.TheVariants.{Known, Unsupported}
use Rattle.picky_key_der.specs.declared.algorithm.TheConstants.{RSA_ENCRYPTION, EC_PUBLIC_KEY}
use Rattle.picky_key_der.specs.declared.public.PublicKeyKind.TheVariants.{Rsa, Ec, Ed}
use Rattle.picky_key_der.specs.Grammar.{Spelled, curve_arcs, edwards_arcs, HasArcs, WrittenIsKey}
use Rattle.picky_key_der.specs.Identifiers.{rsa_encryption, ec_public_key, rsa_known, ec_known, x25519_known, ed25519_known, secp256r1_known, secp384r1_known, secp521r1_known}
use Rattle.picky_key_der.specs.Public.{whole_bits, information, rsa_public}
use Rattle.picky_key_der.specs.Writing.{curve_contents, ed_contents, information_der, rsa_bits_of}
use Rattle.picky_key_der.specs.laws.Public.{information_lawful, rsa_public_lawful}

-- ---- what is in form is spelled by its encoding

spelled : {X : Type 0} (f : Form X) → Lawful f → (x : X) → f.in_form x → length (f.encoding x) < 2 ^ 64 → Spelled f (f.encoding x) x
spelled f law x formed fits = (formed, law.writable.encodes (f.encoding x) x formed (law.writable.has_encoding x formed fits))

-- ---- lengths

-- the parameters and the bits are shorter than the whole
shorter : (oid parameters bits : List ℕ) → length (information_der oid parameters bits) < 2 ^ 64 → (length parameters < 2 ^ 64) × (length bits < 2 ^ 64)
shorter oid parameters bits fits =
    let outer = length-value_of 48 (value_of 48 (value_of 6 oid ++ parameters) ++ value_of 3 (0 ∷ bits)) in
    let parts : length (value_of 48 (value_of 6 oid ++ parameters) ++ value_of 3 (0 ∷ bits)) ≡ length (value_of 48 (value_of 6 oid ++ parameters)) + length (value_of 3 (0 ∷ bits)) = length-append (value_of 48 (value_of 6 oid ++ parameters)) (value_of 3 (0 ∷ bits)) in
    let inner = length-value_of 48 (value_of 6 oid ++ parameters) in
    let fields : length (value_of 6 oid ++ parameters) ≡ length (value_of 6 oid) + length parameters = length-append (value_of 6 oid) parameters in
    let last = length-value_of 3 (0 ∷ bits) in
    (omega arith, omega arith)

-- ---- the outer value

abbrev algorithm_with : List ℕ → Option (List ℕ) → AlgorithmIdentifier
algorithm_with oid parameters = record { oid = oid; parameters = parameters }

one_value : (tag : ℕ) (c : List ℕ) → tag % 32 ≢ 31 → length (value_of tag c) < 2 ^ 64 → IsOneValue (value_of tag c)
one_value tag c one_byte fits = record { tag = record { 0 = tag }; contents = c; value = IsValue-of (record { 0 = tag }) c one_byte fits }

-- with the identifier's contents octets under another name
abbrev SpellsOuter : List ℕ → List ℕ → Option (List ℕ) → List ℕ → List ℕ → Type 0
SpellsOuter octets oid o parameters bits = Spelled information (information_der octets parameters bits) (algorithm_with oid o, bits)

outer_at : (oid parameters bits : List ℕ) → IsArcs oid → IsOneValue parameters → length (information_der (contents_of oid) parameters bits) < 2 ^ 64 → SpellsOuter (contents_of oid) oid (Some parameters) parameters bits
unfolding information algorithm whole_bits
outer_at oid parameters bits formed one fits = spelled information information_lawful (algorithm_with oid (Some parameters), bits) ((formed, one), tt) fits

bare_at : (oid bits : List ℕ) → IsArcs oid → length (information_der (contents_of oid) [] bits) < 2 ^ 64 → SpellsOuter (contents_of oid) oid None [] bits
unfolding information algorithm whole_bits
bare_at oid bits formed fits = spelled information information_lawful (algorithm_with oid None, bits) ((formed, tt), tt) fits

outer_spelled : (octets oid parameters bits : List ℕ) → contents_of oid ≡ octets → IsArcs oid → IsOneValue parameters → length (information_der octets parameters bits) < 2 ^ 64 → SpellsOuter octets oid (Some parameters) parameters bits
outer_spelled octets oid parameters bits e formed one fits =
    subst (λ (o : List ℕ). SpellsOuter o oid (Some parameters) parameters bits) e
    (outer_at oid parameters bits formed one (subst (λ (o : List ℕ). length (information_der o parameters bits) < 2 ^ 64) (sym e) fits))

bare_spelled : (octets oid bits : List ℕ) → contents_of oid ≡ octets → IsArcs oid → length (information_der octets [] bits) < 2 ^ 64 → SpellsOuter octets oid None [] bits
bare_spelled octets oid bits e formed fits =
    subst (λ (o : List ℕ). SpellsOuter o oid None [] bits) e
    (bare_at oid bits formed (subst (λ (o : List ℕ). length (information_der o [] bits) < 2 ^ 64) (sym e) fits))

-- ---- each key

curve_octets : (curve : NamedEcCurve) → contents_of (curve_arcs curve) ≡ curve_contents curve
curve_octets (Known NistP256) = secp256r1_known.contents
curve_octets (Known NistP384) = secp384r1_known.contents
curve_octets (Known NistP521) = secp521r1_known.contents
curve_octets (Unsupported oid) = refl

curve_formed : (curve : NamedEcCurve) (point : List ℕ) → HasArcs (Ec curve point) → IsArcs (curve_arcs curve)
curve_formed (Known NistP256) point h = secp256r1_known.are_arcs
curve_formed (Known NistP384) point h = secp384r1_known.are_arcs
curve_formed (Known NistP521) point h = secp521r1_known.are_arcs
curve_formed (Unsupported oid) point h = h

edwards_octets : (algorithm : EdAlgorithm) → contents_of (edwards_arcs algorithm) ≡ ed_contents algorithm
edwards_octets Ed25519 = ed25519_known.contents
edwards_octets X25519 = x25519_known.contents

edwards_formed : (algorithm : EdAlgorithm) → IsArcs (edwards_arcs algorithm)
edwards_formed Ed25519 = ed25519_known.are_arcs
edwards_formed X25519 = x25519_known.are_arcs

curve_spelled : (curve : NamedEcCurve) (point : List ℕ) → HasArcs (Ec curve point) → length (value_of 6 (curve_contents curve)) < 2 ^ 64 → Spelled identifier (value_of 6 (curve_contents curve)) (curve_arcs curve)
curve_spelled curve point h fits =
    subst (λ (o : List ℕ). Spelled identifier (value_of 6 o) (curve_arcs curve)) (curve_octets curve)
    (spelled identifier identifier_lawful (curve_arcs curve) (curve_formed curve point h) (subst (λ (o : List ℕ). length (value_of 6 o) < 2 ^ 64) (sym (curve_octets curve)) fits))

null_spelled : length (value_of 5 []) < 2 ^ 64 → null.Spells (value_of 5 []) tt
null_spelled fits = (spelled null null_lawful tt tt fits).1

rsa_spelled : (n e : List ℕ) → IsShortest n → IsShortest e → length (rsa_bits_of n e) < 2 ^ 64 → Spelled rsa_public (rsa_bits_of n e) (n, e)
unfolding rsa_public
rsa_spelled n e hn he fits = spelled rsa_public rsa_public_lawful (n, e) (hn, he) fits

pub written_is_key : WrittenIsKey
written_is_key (Rsa n e) kept arcs numbers fits =
    let low = shorter RSA_ENCRYPTION (value_of 5 []) (rsa_bits_of n.0 e.0) fits in
    record {
      algorithm = algorithm_with rsa_encryption (Some (value_of 5 []));
      bits = rsa_bits_of n.0 e.0;
      outer = outer_spelled RSA_ENCRYPTION rsa_encryption (value_of 5 []) (rsa_bits_of n.0 e.0) rsa_known.contents rsa_known.are_arcs (one_value 5 [] (λ h. absurd (omega arith)) low.0) fits;
      kind = (refl, inr (null_spelled low.0));
      held = rsa_spelled n.0 e.0 numbers.0 numbers.1 low.1;
    }
written_is_key (Ec curve point) kept arcs numbers fits =
    let low = shorter EC_PUBLIC_KEY (value_of 6 (curve_contents curve)) point fits in
    record {
      algorithm = algorithm_with ec_public_key (Some (value_of 6 (curve_contents curve)));
      bits = point;
      outer = outer_spelled EC_PUBLIC_KEY ec_public_key (value_of 6 (curve_contents curve)) point ec_known.contents ec_known.are_arcs (one_value 6 (curve_contents curve) (λ h. absurd (omega arith)) low.0) fits;
      kind = (refl, (kept.0, curve_spelled curve point arcs low.0));
      held = (refl, kept.1);
    }
written_is_key (Ed ed bytes) kept arcs numbers fits =
    record {
      algorithm = algorithm_with (edwards_arcs ed) None;
      bits = bytes;
      outer = bare_spelled (ed_contents ed) (edwards_arcs ed) bytes (edwards_octets ed) (edwards_formed ed) fits;
      kind = (refl, refl);
      held = (refl, kept);
    }
