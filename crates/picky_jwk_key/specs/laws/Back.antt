-- Public keys come back from what is written of them.
use Rattle.std.proofs.Common.{◌≡◌, ℕ, zero, suc, ◌+◌, ◌*◌, ◌-◌, ◌<◌, ◌≤◌, true, false, cond, List, [], ◌∷◌, ◌++◌, length, take, drop, refl, sym, ap, subst, arith, inl, inr}
use Rattle.std.specs.Prelude.{replicate, ◌==◌}
use Rattle.std.proofs.lemmas.Bool.{cases_eq, le-ltb, lt-ltb}
use Rattle.std.proofs.lemmas.Bool.Decides.{nat_tests}
use Rattle.std.proofs.lemmas.List.{take-append-drop, length-take, length-drop}
use Rattle.picky_asn1_bits.proofs.Numbers.{positive}
use Rattle.picky_asn1_bits.specs.Integer.{unsigned_spelling, shortened, repeats_sign, some_bytes}
use Rattle.picky_base64.specs.Base64.{encoding, AreBytes, B64}
use Rattle.picky_base64.specs.declared.Form.TheVariants.{Url}
use Rattle.picky_der.specs.Length.{without_zeros}
use Rattle.picky_key_der.specs.declared.algorithm.EcCurve.{EcCurve}
use Rattle.picky_key_der.specs.declared.algorithm.EcCurve.TheVariants.{NistP256, NistP384, NistP521}
use Rattle.picky_key_der.specs.declared.algorithm.EdAlgorithm.TheVariants.{Ed25519, X25519}
use Rattle.picky_key_der.specs.declared.algorithm.NamedEcCurve.TheVariants.{Known, Unsupported}
use Rattle.picky_key_der.specs.declared.public.PublicKeyKind.{PublicKeyKind}
use Rattle.picky_key_der.specs.declared.public.PublicKeyKind.TheVariants.{Rsa, Ec, Ed}
use Rattle.picky_key_der.specs.Ecdsa.{IsNumber}
use Rattle.picky_key_der.specs.Public.{field_size, is_point, IsKept}
use Rattle.picky_jwk_key.specs.Keys.{Key, ec, curve_of, curve_named}
use Rattle.picky_jwk_key.specs.Made.{without_zero, in_field, ec_of}
use Rattle.picky_jwk_key.specs.Public.{number_of, IsPointKey, KeyOfJwk}
use Rattle.picky_jwk_key.specs.Refusals.{point_table, jwk_table}
use Rattle.picky_jwk_key.specs.Back.{IsSound, ComeBack}
use Rattle.picky_jwk_key.specs.laws.Public.{one_key}

-- ---- bytes

front_bytes : (xs ys : List ℕ) → AreBytes (xs ++ ys) → AreBytes xs
front_bytes [] ys h i = omega arith
front_bytes (x ∷ xs) ys h zero = h zero
front_bytes (x ∷ xs) ys h (suc i) = front_bytes xs ys (λ j. h (suc j)) i

back_bytes : (xs ys : List ℕ) → AreBytes (xs ++ ys) → AreBytes ys
back_bytes [] ys h = h
back_bytes (x ∷ xs) ys h = back_bytes xs ys (λ j. h (suc j))

zero_bytes : AreBytes (0 ∷ [])
zero_bytes zero = omega arith
zero_bytes (suc i) = omega arith

-- the text of bytes spells them
spelled : (bytes : List ℕ) → AreBytes bytes → B64 Url (encoding Url bytes) bytes
spelled bytes h = record { spelled = refl; fits = h }

-- ---- numbers of RSA keys

low_kept : (b c : ℕ) (bs : List ℕ) → b < 128 → (b == 0) ≡ false → shortened (b ∷ c ∷ bs) ≡ b ∷ c ∷ bs
low_kept b c bs lt some =
    let no : repeats_sign b c ≡ false = rw some (grind (arith, nat_tests)) in
    rw no refl

high_kept : (c : ℕ) (bs : List ℕ) → 128 ≤ c → unsigned_spelling (c ∷ bs) ≡ 0 ∷ c ∷ bs
high_kept c bs le = rw (le-ltb c 128 le) (rw (le-ltb c 128 le) refl)

two_back : (b c : ℕ) (bs : List ℕ) → b < 128 → (b ≡ 0 → 128 ≤ c) → number_of (without_zero (b ∷ c ∷ bs)) ≡ b ∷ c ∷ bs
two_back b c bs lt high = elim (cases_eq b 0) [
  | inl none ↦ rw none (high_kept c bs (high none))
  | inr some ↦ (let e : (b == 0) ≡ false = grind (arith, nat_tests) in rw e (rw (lt-ltb b 128 lt) (low_kept b c bs lt e)))
]

number_back : (octets : List ℕ) → AreBytes octets → IsNumber octets → number_of (without_zero (some_bytes octets)) ≡ octets
number_back [] small number = absurd number.1
number_back (b ∷ []) small number = rw (lt-ltb b 128 ((positive b [] small).1 number.0)) refl
number_back (b ∷ c ∷ bs) small number = two_back b c bs ((positive b (c ∷ bs) small).1 number.0) number.1.0

without_bytes : (octets : List ℕ) → AreBytes octets → AreBytes (without_zero (some_bytes octets))
without_bytes [] h = zero_bytes
without_bytes (b ∷ []) h = h
without_bytes (b ∷ c ∷ bs) h = elim (b == 0) as (λ v. AreBytes (cond v (c ∷ bs) (b ∷ c ∷ bs))) [ true ↦ (λ j. h (suc j)) | false ↦ h ]

-- ---- coordinates

wz_length : (bytes : List ℕ) → length (without_zeros bytes) ≤ length bytes
wz_length [] = omega arith
wz_length (zero ∷ bs) = omega (arith, wz_length bs)
wz_length (suc b ∷ bs) = omega arith

zeros_back : (bytes : List ℕ) → replicate (length bytes - length (without_zeros bytes)) 0 ++ without_zeros bytes ≡ bytes
zeros_back [] = refl
zeros_back (zero ∷ bs) =
    let le = wz_length bs in
    let e : length (0 ∷ bs) - length (without_zeros bs) ≡ suc (length bs - length (without_zeros bs)) = omega arith in
    rw e (ap (λ (r : List ℕ). 0 ∷ r) (zeros_back bs))
zeros_back (suc b ∷ bs) =
    let e : length (suc b ∷ bs) - length (suc b ∷ bs) ≡ 0 = omega arith in
    rw e refl

-- a coordinate of the field's size is as it stands
in_field_back : (size : ℕ) (bytes : List ℕ) → length bytes ≡ size → in_field size bytes ≡ bytes
in_field_back size bytes e = rw (← e) (zeros_back bytes)

fits_field : (size : ℕ) (bytes : List ℕ) → length bytes ≡ size → length (without_zeros bytes) ≤ size
fits_field size bytes e = omega (arith, wz_length bytes)

named_back : (curve : EcCurve) → curve_of (curve_named curve) ≡ curve
named_back NistP256 = refl
named_back NistP384 = refl
named_back NistP521 = refl

-- the coordinates of an uncompressed point
sizes_of : (size : ℕ) (rest : List ℕ) → is_point size (4 ∷ rest) ≡ true → length rest ≡ 2 * size
sizes_of size rest h = grind (arith, nat_tests)

first_size : (size : ℕ) (rest : List ℕ) → length rest ≡ 2 * size → length (take size rest) ≡ size
first_size size rest h = omega (arith, length-take size rest)

second_size : (size : ℕ) (rest : List ℕ) → length rest ≡ 2 * size → length (drop size rest) ≡ size
second_size size rest h = omega (arith, length-drop size rest)

abbrev on_curve : EcCurve → List ℕ → PublicKeyKind
on_curve curve point = Ec (Known curve) point

-- coordinates x and y of the field's size, of which the point is made
point_told : (curve : EcCurve) (x y : List ℕ) → length x ≡ field_size curve → length y ≡ field_size curve → AreBytes x → AreBytes y
    → KeyOfJwk (ec (record { crv = curve_named curve; x = encoding Url x; y = encoding Url y })) (on_curve curve (4 ∷ x ++ y))
point_told curve x y hx hy bx by_ = record {
  x = x;
  y = y;
  spells_x = spelled x bx;
  spells_y = spelled y by_;
  is = subst (λ (c : EcCurve). IsPointKey c x y (on_curve curve (4 ∷ x ++ y))) (sym (named_back curve)) (
    (fits_field (field_size curve) x hx, fits_field (field_size curve) y hy),
    (λ i. on_curve curve (4 ∷ sym (in_field_back (field_size curve) x hx) i ++ sym (in_field_back (field_size curve) y hy) i)),
  );
}

ec_made : (curve : EcCurve) (x y : List ℕ) → length x ≡ field_size curve → length y ≡ field_size curve
    → ec_of (curve_named curve) x y ≡ ec (record { crv = curve_named curve; x = encoding Url x; y = encoding Url y })
ec_made curve x y hx hy = rw (named_back curve, in_field_back (field_size curve) x hx, in_field_back (field_size curve) y hy) refl

point_back : (curve : EcCurve) (rest : List ℕ) → is_point (field_size curve) (4 ∷ rest) ≡ true → AreBytes (4 ∷ rest)
    → KeyOfJwk (ec_of (curve_named curve) (take (field_size curve) rest) (drop (field_size curve) rest)) (on_curve curve (4 ∷ rest))
point_back curve rest kept small =
    let size : ℕ = field_size curve in
    let twice = sizes_of size rest kept in
    let x : List ℕ = take size rest in
    let y : List ℕ = drop size rest in
    let joined : x ++ y ≡ rest = take-append-drop size rest in
    let bytes : AreBytes (x ++ y) = subst AreBytes (sym joined) (λ j. small (suc j)) in
    let told = point_told curve x y (first_size size rest twice) (second_size size rest twice) (front_bytes x y bytes) (back_bytes x y bytes) in
    let same : on_curve curve (4 ∷ x ++ y) ≡ on_curve curve (4 ∷ rest) = ap (λ (r : List ℕ). on_curve curve (4 ∷ r)) joined in
    subst (λ (k : Key). KeyOfJwk k (on_curve curve (4 ∷ rest))) (sym (ec_made curve x y (first_size size rest twice) (second_size size rest twice)))
    (subst (λ (p : PublicKeyKind). KeyOfJwk (ec (record { crv = curve_named curve; x = encoding Url x; y = encoding Url y })) p) same told)

-- ---- keys

told_back : (p : PublicKeyKind) (k : Key) → IsKept p → IsSound p → (jwk_table p).holds k → KeyOfJwk k p
unfolding point_table
told_back (Rsa n e) k kept sound h = subst (λ (j : Key). KeyOfJwk j (Rsa n e)) (sym h) (record {
  n = without_zero (some_bytes n.0);
  e = without_zero (some_bytes e.0);
  spells_n = spelled _ (without_bytes n.0 sound.0.0);
  spells_e = spelled _ (without_bytes e.0 sound.1.0);
  is = λ i. Rsa (record { 0 = sym (number_back n.0 sound.0.0 sound.0.1) i }) (record { 0 = sym (number_back e.0 sound.1.0 sound.1.1) i });
})
told_back (Ec (Known curve) point) k kept sound h =
    let kept_at : is_point (field_size curve) (4 ∷ h.0) ≡ true = subst (λ (r : List ℕ). is_point (field_size curve) r ≡ true) h.1 kept.1 in
    let told = point_back curve h.0 kept_at (subst AreBytes h.1 sound) in
    subst (λ (j : Key). KeyOfJwk j (on_curve curve point)) (sym h.2) (subst (λ (r : List ℕ). KeyOfJwk (ec_of (curve_named curve) (take (field_size curve) h.0) (drop (field_size curve) h.0)) (on_curve curve r)) (sym h.1) told)
told_back (Ec (Unsupported oid) point) k kept sound h = absurd h
told_back (Ed Ed25519 bytes) k kept sound h = subst (λ (j : Key). KeyOfJwk j (Ed Ed25519 bytes)) (sym h) (record { bytes = bytes; spells = spelled bytes sound; size = kept; is = refl })
told_back (Ed X25519 bytes) k kept sound h = subst (λ (j : Key). KeyOfJwk j (Ed X25519 bytes)) (sym h) (record { bytes = bytes; spells = spelled bytes sound; size = kept; is = refl })

pub keys_come_back : ComeBack
keys_come_back p k kept sound h =
    let told = told_back p k kept sound h in
    (told, λ q j. one_key k p q told j)
