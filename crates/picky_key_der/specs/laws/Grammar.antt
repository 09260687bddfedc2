-- What the tables of public keys accept is what the grammar spells.
use Rattle.std.proofs.Common.{◌≡◌, ℕ, ◌≤◌, Bool, true, false, cond, ◌⊎◌, List, [], ◌++◌, Option, Some, None, Result, Ok, Err, IfOk, refl, sym, ap, subst, ◌∙◌, arith, inl, inr}
use Rattle.std.proofs.lemmas.List.{append-nil}
use Rattle.picky_asn1_oid.specs.Arcs.{IsArcs, continued, base128}
use Rattle.picky_contract.specs.Refusals.{Meets, OkOrMemory}
use Rattle.picky_contract.specs.laws.Tables.{complete}
use Rattle.picky_der.specs.Length.{IsBytes, value_of}
use Rattle.picky_der.specs.Reading.{◌>>=◌, within, end_at}
use Rattle.picky_der.specs.Form.{Form, Readable, NestsAtMost, whole}
use Rattle.picky_der.specs.Raw.{raw_form}
use Rattle.picky_der.specs.laws.Depth.{allowed}
use Rattle.picky_der.specs.laws.Headers.{IsBytes-contents, end_takes, end_again}
use Rattle.picky_der.specs.laws.Lengths.{IsBytes-rest, IsBytes-after, IsBytes-front, TailIsBytes-of}
use Rattle.picky_der.specs.laws.Steps.{chosen, bind_ok, ok_is}
use Rattle.picky_der.specs.laws.Whole.{whole_takes, whole_again}
use Rattle.picky_fields.specs.declared.algorithm.AlgorithmIdentifier.{AlgorithmIdentifier}
use Rattle.picky_fields.specs.Algorithm.{algorithm, algorithm_nests}
use Rattle.picky_fields.specs.Choice.{has_contents}
use Rattle.picky_fields.specs.Fields.{Fields, SpellsOptional, identifier, null_or_none}
use Rattle.picky_fields.specs.laws.Depths.{at_map}
use Rattle.picky_fields.specs.laws.Fields.{ReadableFields}
use Rattle.picky_fields.specs.laws.Identifiers.{Known, known_tells}
use Rattle.picky_fields.specs.laws.Optional.{null_or_none_lawful}
use Rattle.picky_fields.specs.laws.Plain.{identifier_lawful}
use Rattle.picky_key_der.specs.declared.algorithm.TheConstants.{RSA_ENCRYPTION, EC_PUBLIC_KEY, X25519_ALGORITHM, ED25519_ALGORITHM, SECP256R1, SECP384R1, SECP521R1}
use Rattle.picky_key_der.specs.declared.algorithm.EcCurve.TheVariants.{NistP256, NistP384, NistP521}
use Rattle.picky_key_der.specs.declared.algorithm.EdAlgorithm.TheVariants.{Ed25519, X25519}
use Rattle.picky_key_der.specs.declared.algorithm.KeyAlgorithm.{KeyAlgorithm}
use Rattle.picky_key_der.specs.declared.algorithm.KeyAlgorithm.TheVariants as keys
use Rattle.picky_key_der.specs.declared.algorithm.NamedEcCurve.{NamedEcCurve}
use Rattle.picky_key_der.specs.declared.algorithm.NamedEcCurve.TheVariants as curves
use Rattle.picky_key_der.specs.declared.error.KeyError.{KeyError}
use Rattle.picky_key_der.specs.declared.kind.PrivateKeyKind.{PrivateKeyKind}
use Rattle.picky_key_der.specs.declared.kind.PrivateKeyKind.TheVariants as private
use Rattle.picky_key_der.specs.declared.public.PublicKeyKind.{PublicKeyKind}
use Rattle.picky_key_der.specs.declared.public.PublicKeyKind.TheVariants.{Rsa, Ec, Ed}
use Rattle.picky_key_der.specs.Errors.{key_fault}
use Rattle.picky_key_der.specs.Grammar.{Spelled, curve_arcs, edwards_arcs, IsAlgorithm, HoldsKey, IsPublicKey}
use Rattle.picky_key_der.specs.Identifiers.{rsa_encryption, ec_public_key, x25519, ed25519, secp256r1, secp384r1, secp521r1, algorithm_of, curve_of, rsa_known, ec_known, x25519_known, ed25519_known, secp256r1_known, secp384r1_known, secp521r1_known}
use Rattle.picky_key_der.specs.Kinds.{kind_of}
use Rattle.picky_key_der.specs.Public.{whole_bits, information, rsa_public, IsNamed, parameters_of, rsa_kind_table, ec_kind_table, ed_kind_table, told_table, kind_table, rsa_held_table, point_table, ed_held_table, held_table, public_table}
use Rattle.picky_key_der.specs.laws.Public.{information_lawful, rsa_public_lawful}
use Rattle.picky_key_der.specs.laws.Reading.{public_exact, held_kind}

-- ---- all the bytes

module _ {X : Type 0} (f : Form X) (law : Readable f) where
  pub whole_spelled : (bytes : List ℕ) (x : X) → IsBytes bytes → whole f.reading bytes ≡ Ok x → Spelled f bytes x
  whole_spelled bytes x fits e = whole_takes f law bytes x (TailIsBytes-of bytes fits) e

  pub spelled_whole : (bytes : List ℕ) (x : X) → NestsAtMost 256 f → Spelled f bytes x → whole f.reading bytes ≡ Ok x
  spelled_whole bytes x nests s = whole_again f law bytes x s.0 s.1 ∙ allowed 0 (f.height bytes x s.1) x (nests bytes x s.1)

module _ {X : Type 0} (f : Fields X) (law : ReadableFields f) where
  run_taken : (bytes s r : List ℕ) (y x : X) → f.in_form y → f.Spells s y → bytes ≡ s ++ r → r ≡ [] → y ≡ x → f.in_form x × f.Spells bytes x
  run_taken bytes s r y x formed spelled parts none same =
      let all : bytes ≡ s = parts ∙ ap (λ (t : List ℕ). s ++ t) none ∙ append-nil s in
      (subst f.in_form same formed, subst (λ (z : X). f.Spells bytes z) same (rw all spelled))

  pub run_spelled : (bytes : List ℕ) (x : X) → IsBytes bytes → whole f.reading bytes ≡ Ok x → f.in_form x × f.Spells bytes x
  unfolding whole
  run_spelled bytes x fits e =
      let v = bind_ok (f.reading 0 bytes) (λ v. end_at v.1 >>= λ _. Ok v.0) x e in
      let n = bind_ok (end_at v.0.1) (λ _. Ok v.0.0) x v.2 in
      let t = law.takes 0 bytes v.0.0 v.0.1 fits v.1 in
      run_taken bytes t.spelling v.0.1 v.0.0 x t.formed t.spelled t.parts (end_takes v.0.1 n.0 n.1) (ok_is v.0.0 x n.2)

  pub spelled_run : (bytes : List ℕ) (x : X) → f.in_form x → (p : f.Spells bytes x) → f.height bytes x p ≤ 256 → whole f.reading bytes ≡ Ok x
  unfolding whole
  spelled_run bytes x formed p low =
      let alone : f.reading 0 bytes ≡ within 0 (f.height bytes x p) (x, []) = ap (f.reading 0) (sym (append-nil bytes)) ∙ law.again 0 bytes [] x formed p refl in
      at_map 0 (f.height bytes x p) _ (λ v. end_at v.1 >>= λ _. Ok v.0) (x, []) x alone (rw end_again refl) ∙ allowed 0 (f.height bytes x p) x low

-- ---- how deep

pub information_nests : NestsAtMost 256 information
unfolding information whole_bits
information_nests s x p = omega (arith, algorithm_nests p.fields.front x.0 p.fields.is_first)

rsa_nests : NestsAtMost 256 rsa_public
unfolding rsa_public
rsa_nests s x p = omega arith

pub identifier_nests : NestsAtMost 256 identifier
identifier_nests s x p = omega arith

-- ---- parts of bytes are bytes

within_value : (tag : ℕ) (c s : List ℕ) → s ≡ value_of tag c → IsBytes s → IsBytes c
within_value tag c s e h = IsBytes-contents tag c [] (TailIsBytes-of (value_of tag c ++ []) (subst IsBytes (e ∙ sym (append-nil (value_of tag c))) h))

no_bytes : IsBytes []
no_bytes i = omega arith

raw_bytes : (s : List ℕ) (o : Option (List ℕ)) → SpellsOptional raw_form.Spells s o → IsBytes s → IsBytes (parameters_of o)
raw_bytes s None p h = no_bytes
raw_bytes s (Some bytes) p h = subst IsBytes p h

pub parameters_bytes : (s : List ℕ) (a : AlgorithmIdentifier) → algorithm.Spells s a → IsBytes s → IsBytes (parameters_of a.parameters)
unfolding algorithm
parameters_bytes s a p h =
    let c : IsBytes p.contents = within_value 48 p.contents s p.value.bytes_are h in
    let parts = p.fields.spelled in
    let back : IsBytes parts.back = IsBytes-after parts.front parts.back (subst IsBytes parts.parts c) in
    let held : IsBytes (parameters_of p.fields.value.1) = raw_bytes parts.back p.fields.value.1 parts.is_second back in
    subst (λ (b : AlgorithmIdentifier). IsBytes (parameters_of b.parameters)) p.fields.means held

pub bits_bytes : (s bits : List ℕ) → whole_bits.Spells s bits → IsBytes s → IsBytes bits
unfolding whole_bits
bits_bytes s bits p h = IsBytes-rest 0 bits (subst IsBytes p.stands_for (within_value 3 p.octets s p.value.bytes_are h))

-- ---- identifiers

some_is : (x y : KeyAlgorithm) → ◌≡◌ {A = Option KeyAlgorithm} (Some x) (Some y) → x ≡ y
some_is x y e = cc

abbrev algorithm_arcs : KeyAlgorithm → List ℕ
algorithm_arcs keys.Rsa = rsa_encryption
algorithm_arcs keys.Ec = ec_public_key
algorithm_arcs (keys.Ed ed) = edwards_arcs ed

told_at : (b : Bool) (x : KeyAlgorithm) (rest : Option KeyAlgorithm) (told : KeyAlgorithm) → cond b (Some x) rest ≡ Some told → ((b ≡ true) × (x ≡ told)) ⊎ (rest ≡ Some told)
told_at true x rest told e = inl (refl, some_is x told e)
told_at false x rest told e = inr e

arcs_at : (arcs name bytes : List ℕ) (x told : KeyAlgorithm) → Known name bytes → algorithm_arcs x ≡ name → IsArcs arcs → has_contents bytes arcs ≡ true → x ≡ told → arcs ≡ algorithm_arcs told
arcs_at arcs name bytes x told known named formed h same = (known_tells name bytes known).alone arcs formed h ∙ sym named ∙ ap algorithm_arcs same

algorithm_is : (arcs : List ℕ) (told : KeyAlgorithm) → IsArcs arcs → algorithm_of arcs ≡ Some told → arcs ≡ algorithm_arcs told
algorithm_is arcs told formed e = elim (told_at (has_contents RSA_ENCRYPTION arcs) keys.Rsa _ told e) [
  | inl h ↦ arcs_at arcs rsa_encryption RSA_ENCRYPTION keys.Rsa told rsa_known refl formed h.0 h.1
  | inr f ↦ elim (told_at (has_contents EC_PUBLIC_KEY arcs) keys.Ec _ told f) [
    | inl h ↦ arcs_at arcs ec_public_key EC_PUBLIC_KEY keys.Ec told ec_known refl formed h.0 h.1
    | inr g ↦ elim (told_at (has_contents ED25519_ALGORITHM arcs) (keys.Ed Ed25519) _ told g) [
      | inl h ↦ arcs_at arcs ed25519 ED25519_ALGORITHM (keys.Ed Ed25519) told ed25519_known refl formed h.0 h.1
      | inr k ↦ elim (told_at (has_contents X25519_ALGORITHM arcs) (keys.Ed X25519) None told k) [
        | inl h ↦ arcs_at arcs x25519 X25519_ALGORITHM (keys.Ed X25519) told x25519_known refl formed h.0 h.1
        | inr z ↦ absurd cc
      ]
    ]
  ]
]

algorithm_back : (told : KeyAlgorithm) → algorithm_of (algorithm_arcs told) ≡ Some told
unfolding base128 continued
algorithm_back keys.Rsa = refl
algorithm_back keys.Ec = refl
algorithm_back (keys.Ed Ed25519) = refl
algorithm_back (keys.Ed X25519) = refl

abbrev IsNameOf : List ℕ → NamedEcCurve → Type 0
IsNameOf oid curve = IsNamed curve × (oid ≡ curve_arcs curve)

named_at : (oid name bytes : List ℕ) (x curve : NamedEcCurve) → Known name bytes → curve_arcs x ≡ name → IsNamed x → IsArcs oid → has_contents bytes oid ≡ true → x ≡ curve → IsNameOf oid curve
named_at oid name bytes x curve known named kept formed h same = subst (IsNameOf oid) same (kept, (known_tells name bytes known).alone oid formed h ∙ sym named)

curve_is : (oid : List ℕ) (curve : NamedEcCurve) → IsArcs oid → curve_of oid ≡ curve → IsNameOf oid curve
curve_is oid curve formed e = elim (chosen (has_contents SECP256R1 oid) _ _ curve e) [
  | inl h ↦ named_at oid secp256r1 SECP256R1 (curves.Known NistP256) curve secp256r1_known refl tt formed h.0 h.1
  | inr f ↦ elim (chosen (has_contents SECP384R1 oid) _ _ curve f.1) [
    | inl h ↦ named_at oid secp384r1 SECP384R1 (curves.Known NistP384) curve secp384r1_known refl tt formed h.0 h.1
    | inr g ↦ elim (chosen (has_contents SECP521R1 oid) _ _ curve g.1) [
      | inl h ↦ named_at oid secp521r1 SECP521R1 (curves.Known NistP521) curve secp521r1_known refl tt formed h.0 h.1
      | inr k ↦ subst (IsNameOf oid) k.1 (e ∙ sym k.1, refl)
    ]
  ]
]

curve_back : (curve : NamedEcCurve) → IsNamed curve → curve_of (curve_arcs curve) ≡ curve
unfolding base128 continued
curve_back (curves.Known NistP256) named = refl
curve_back (curves.Known NistP384) named = refl
curve_back (curves.Known NistP521) named = refl
curve_back (curves.Unsupported oid) named = named

-- ---- the kind

rsa_kind_found : (a : AlgorithmIdentifier) (kind : PrivateKeyKind) → a.oid ≡ rsa_encryption → IsBytes (parameters_of a.parameters) → (rsa_kind_table (parameters_of a.parameters)).holds kind → IsAlgorithm a kind
unfolding rsa_kind_table
rsa_kind_found a kind is fits h = subst (IsAlgorithm a) (sym h.2) (is, (run_spelled null_or_none null_or_none_lawful.readable (parameters_of a.parameters) tt fits h.1).1)

ec_kind_found : (a : AlgorithmIdentifier) (kind : PrivateKeyKind) → a.oid ≡ ec_public_key → IsBytes (parameters_of a.parameters) → (ec_kind_table (parameters_of a.parameters)).holds kind → IsAlgorithm a kind
unfolding ec_kind_table
ec_kind_found a kind is fits h =
    let s = whole_spelled identifier identifier_lawful.readable (parameters_of a.parameters) h.0 fits h.1 in
    let named = curve_is h.0 (curve_of h.0) s.0 refl in
    subst (IsAlgorithm a) (sym h.2) (is, (named.0, subst (Spelled identifier (parameters_of a.parameters)) named.1 s))

told_found : (told : KeyAlgorithm) (a : AlgorithmIdentifier) (kind : PrivateKeyKind) → a.oid ≡ algorithm_arcs told → IsBytes (parameters_of a.parameters) → (told_table told (parameters_of a.parameters)).holds kind → IsAlgorithm a kind
unfolding ed_kind_table
told_found keys.Rsa a kind is fits h = rsa_kind_found a kind is fits h
told_found keys.Ec a kind is fits h = ec_kind_found a kind is fits h
told_found (keys.Ed ed) a kind is fits h = subst (IsAlgorithm a) (sym h.2) (is, end_takes (parameters_of a.parameters) h.0 h.1)

pub kind_found : (a : AlgorithmIdentifier) (kind : PrivateKeyKind) → IsArcs a.oid → IsBytes (parameters_of a.parameters) → (kind_table a).holds kind → IsAlgorithm a kind
unfolding kind_table
kind_found a kind formed fits h = told_found h.0 a kind (algorithm_is a.oid h.0 formed h.1) fits h.2

null_height : (s : List ℕ) (p : null_or_none.Spells s tt) → null_or_none.height s tt p ≤ 256
null_height s (inl p) = omega arith
null_height s (inr p) = omega arith

pub kind_again : (a : AlgorithmIdentifier) (kind : PrivateKeyKind) → IsAlgorithm a kind → (kind_table a).holds kind
unfolding kind_table rsa_kind_table ec_kind_table ed_kind_table
kind_again a private.Rsa h = (keys.Rsa, ap algorithm_of h.0 ∙ algorithm_back keys.Rsa, (tt, spelled_run null_or_none null_or_none_lawful.readable (parameters_of a.parameters) tt tt h.1 (null_height _ h.1), refl))
kind_again a (private.Ec curve) h = (keys.Ec, ap algorithm_of h.0 ∙ algorithm_back keys.Ec, (curve_arcs curve, spelled_whole identifier identifier_lawful.readable (parameters_of a.parameters) (curve_arcs curve) identifier_nests h.1.1, ap (λ (c : NamedEcCurve). private.Ec c) (sym (curve_back curve h.1.0))))
kind_again a (private.Ed ed) h = (keys.Ed ed, ap algorithm_of h.0 ∙ algorithm_back (keys.Ed ed), (tt, ap end_at h.1 ∙ end_again, refl))

-- ---- the bits

pub held_found : (kind : PrivateKeyKind) (bits : List ℕ) (key : PublicKeyKind) → IsBytes bits → (held_table kind bits).holds key → HoldsKey key bits
unfolding rsa_held_table point_table ed_held_table
held_found private.Rsa bits key fits h = subst (λ (k : PublicKeyKind). HoldsKey k bits) (sym h.2) (whole_spelled rsa_public rsa_public_lawful.readable bits h.0 fits h.1)
held_found (private.Ec curve) bits key fits h = subst (λ (k : PublicKeyKind). HoldsKey k bits) (sym h.2) (refl, h.1)
held_found (private.Ed ed) bits key fits h = subst (λ (k : PublicKeyKind). HoldsKey k bits) (sym h.2) (refl, h.1)

pub held_again : (key : PublicKeyKind) (bits : List ℕ) → HoldsKey key bits → (held_table (kind_of key) bits).holds key
unfolding rsa_held_table point_table ed_held_table
held_again (Rsa modulus exponent) bits h = ((modulus.0, exponent.0), spelled_whole rsa_public rsa_public_lawful.readable bits (modulus.0, exponent.0) rsa_nests h, refl)
held_again (Ec curve point) bits h = rw h.0 (tt, h.1, refl)
held_again (Ed ed bytes) bits h = rw h.0 (tt, h.1, refl)

-- ---- the key

information_oid : (bytes : List ℕ) (a : AlgorithmIdentifier) (bits : List ℕ) → Spelled information bytes (a, bits) → IsArcs a.oid
unfolding information algorithm
information_oid bytes a bits s = s.0.0.0

information_bytes : (bytes : List ℕ) (a : AlgorithmIdentifier) (bits : List ℕ) → IsBytes bytes → information.Spells bytes (a, bits) → IsBytes (parameters_of a.parameters) × IsBytes bits
unfolding information
information_bytes bytes a bits fits p =
    let c : IsBytes p.contents = within_value 48 p.contents bytes p.value.bytes_are fits in
    let both : IsBytes (p.fields.front ++ p.fields.back) = subst IsBytes p.fields.parts c in
    (parameters_bytes p.fields.front a p.fields.is_first (IsBytes-front p.fields.front p.fields.back both), bits_bytes p.fields.back bits p.fields.is_second (IsBytes-after p.fields.front p.fields.back both))

public_is : (bytes : List ℕ) (key : PublicKeyKind) → IsBytes bytes → (public_table bytes).holds key → IsPublicKey bytes key
unfolding public_table
public_is bytes key fits h =
    let s = whole_spelled information information_lawful.readable bytes h.0 fits h.1 in
    let parts = information_bytes bytes h.0.0 h.0.1 fits s.1 in
    let kind : IsAlgorithm h.0.0 h.2.0 = kind_found h.0.0 h.2.0 (information_oid bytes h.0.0 h.0.1 s) parts.0 h.2.1 in
    record { algorithm = h.0.0; bits = h.0.1; outer = s; kind = subst (IsAlgorithm h.0.0) (sym (held_kind h.2.0 h.0.1 key h.2.2)) kind; held = held_found h.2.0 h.0.1 key parts.1 h.2.2 }

public_again : (bytes : List ℕ) (key : PublicKeyKind) → IsPublicKey bytes key → (public_table bytes).holds key
unfolding public_table
public_again bytes key p =
    ((p.algorithm, p.bits), spelled_whole information information_lawful.readable bytes (p.algorithm, p.bits) information_nests p.outer, (kind_of key, kind_again p.algorithm (kind_of key) p.kind, held_again key p.bits p.held))

pub public_found : {X : Type 0} (view : X → PublicKeyKind) (bytes : List ℕ) (r : Result X KeyError) → IsBytes bytes → Meets view key_fault r (public_table bytes) → IfOk r (λ k. IsPublicKey bytes (view k))
public_found view bytes (Ok k) fits m = public_is bytes (view k) fits ((public_exact bytes).holds (view k) m)
public_found view bytes (Err e) fits m = tt

pub public_every : {X : Type 0} (view : X → PublicKeyKind) (bytes : List ℕ) (r : Result X KeyError) (key : PublicKeyKind) → Meets view key_fault r (public_table bytes) → IsPublicKey bytes key → OkOrMemory view key_fault r key
public_every view bytes r key m p = complete view key_fault r (public_table bytes) (public_exact bytes) m key (public_again bytes key p)
