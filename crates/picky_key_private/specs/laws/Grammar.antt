-- What the table of private keys accepts is what the grammar spells.
use Rattle.std.proofs.Common.{◌≡◌, ℕ, ◌≤◌, List, [], ◌++◌, Option, Some, None, Result, Ok, Err, IfOk, refl, sym, ap, subst, ◌∙◌, arith}
use Rattle.picky_asn1_oid.specs.Arcs.{IsArcs}
use Rattle.picky_contract.specs.Refusals.{Meets, OkOrMemory}
use Rattle.picky_contract.specs.laws.Tables.{complete}
use Rattle.std.proofs.lemmas.List.{append-nil}
use Rattle.picky_der.specs.Length.{IsBytes, value_of}
use Rattle.picky_der.specs.Form.{NestsAtMost}
use Rattle.picky_der.specs.laws.Headers.{IsBytes-contents}
use Rattle.picky_der.specs.laws.Lengths.{IsBytes-after, IsBytes-front, TailIsBytes-of}
use Rattle.picky_fields.specs.Algorithm.{algorithm, algorithm_nests}
use Rattle.picky_fields.specs.Fields.{octet_string, identifier, explicit, SpellsOptional, optional_height}
use Rattle.picky_fields.specs.laws.Plain.{octets_lawful}
use Rattle.picky_key_der.specs.declared.algorithm.EdAlgorithm.{EdAlgorithm}
use Rattle.picky_key_der.specs.declared.algorithm.NamedEcCurve.{NamedEcCurve}
use Rattle.picky_key_der.specs.declared.error.KeyError.{KeyError}
use Rattle.picky_key_der.specs.declared.kind.PrivateKeyKind.{PrivateKeyKind}
use Rattle.picky_key_der.specs.declared.kind.PrivateKeyKind.TheVariants.{Rsa, Ec, Ed}
use Rattle.picky_key_der.specs.declared.public.PublicKeyKind.{PublicKeyKind}
use Rattle.picky_key_der.specs.Errors.{key_fault}
use Rattle.picky_key_der.specs.Grammar.{Spelled, IsAlgorithm, HoldsKey}
use Rattle.picky_key_der.specs.Public.{whole_bits, parameters_of, held_table, point_table, ed_held_table}
use Rattle.picky_key_der.specs.laws.Grammar.{whole_spelled, spelled_whole, parameters_bytes, kind_found, kind_again, held_again}
use Rattle.picky_key_der.specs.laws.Public.{whole_takes, whole_again}
use Rattle.picky_key_der.specs.laws.Reading.{held_kind}
use Rattle.picky_key_private.specs.declared.private.PrivateKey.{PrivateKey}
use Rattle.picky_key_private.specs.Forms.{InfoValue, version, attributes, public_bits, info_fields, private_info, public_numbers, private_numbers, rsa_fields, rsa_private, ec_fields, ec_private}
use Rattle.picky_key_private.specs.Grammar.{HoldsPart, AreWhole, HoldsNumbers, HoldsNumber, HoldsSecret, HoldsPrivate, IsPrivateKey}
use Rattle.picky_key_private.specs.Private.{private_table}
use Rattle.picky_key_private.specs.Reading.{rsa_said_table, behind_table, part_table, parts_table, ec_said_table, sized_table, ed_said_table, kind_said_table, said_table}
use Rattle.picky_key_private.specs.laws.Forms.{private_info_lawful, rsa_private_lawful, ec_private_lawful}
use Rattle.picky_key_private.specs.laws.Reading.{private_exact}

-- ---- how deep

attributes_height : (s : List ℕ) (o : Option (List ℕ)) (p : SpellsOptional attributes.Spells s o) → optional_height attributes s o p ≡ 0
unfolding attributes
attributes_height s None p = refl
attributes_height s (Some x) p = refl

bits_height : (s : List ℕ) (o : Option (List ℕ)) (p : SpellsOptional public_bits.Spells s o) → optional_height public_bits s o p ≡ 0
unfolding public_bits
bits_height s None p = refl
bits_height s (Some x) p = refl

info_nests : NestsAtMost 256 private_info
unfolding private_info info_fields version
info_nests s x p =
    let more = p.fields.is_first in
    omega (arith, algorithm_nests more.is_first.is_first.back x.0.0.0.1 more.is_first.is_first.is_second, attributes_height more.back x.0.1 more.is_second, bits_height p.fields.back x.1 p.fields.is_second)

rsa_nests : NestsAtMost 256 rsa_private
unfolding rsa_private rsa_fields public_numbers private_numbers
rsa_nests s x p = omega arith

curve_height : (s : List ℕ) (o : Option (List ℕ)) (p : SpellsOptional (explicit 0 identifier).Spells s o) → optional_height (explicit 0 identifier) s o p ≤ 1
unfolding explicit
curve_height s None p = omega arith
curve_height s (Some x) p = omega arith

point_height : (s : List ℕ) (o : Option (List ℕ)) (p : SpellsOptional (explicit 1 whole_bits).Spells s o) → optional_height (explicit 1 whole_bits) s o p ≤ 1
unfolding explicit whole_bits
point_height s None p = omega arith
point_height s (Some x) p = omega arith

ec_nests : NestsAtMost 256 ec_private
unfolding ec_private ec_fields version
ec_nests s x p =
    let more = p.fields.is_first in
    omega (arith, curve_height more.back x.0.1 more.is_second, point_height p.fields.back x.1 p.fields.is_second)

octets_nest : NestsAtMost 256 octet_string
octets_nest s x p = omega arith

-- ---- parts of bytes are bytes

within_value : (tag : ℕ) (c s : List ℕ) → s ≡ value_of tag c → IsBytes s → IsBytes c
within_value tag c s e h = IsBytes-contents tag c [] (TailIsBytes-of (value_of tag c ++ []) (subst IsBytes (e ∙ sym (append-nil (value_of tag c))) h))

info_bytes : (bytes : List ℕ) (x : InfoValue) → IsBytes bytes → private_info.Spells bytes x → IsBytes (parameters_of x.0.0.0.1.parameters) × IsBytes x.0.0.1
unfolding private_info info_fields
info_bytes bytes x fits p =
    let c : IsBytes p.contents = within_value 48 p.contents bytes p.value.bytes_are fits in
    let four = p.fields.is_first in
    let three = four.is_first in
    let two = three.is_first in
    let all : IsBytes (p.fields.front ++ p.fields.back) = subst IsBytes p.fields.parts c in
    let first-four : IsBytes (four.front ++ four.back) = subst IsBytes four.parts (IsBytes-front p.fields.front p.fields.back all) in
    let first-three : IsBytes (three.front ++ three.back) = subst IsBytes three.parts (IsBytes-front four.front four.back first-four) in
    let first-two : IsBytes (two.front ++ two.back) = subst IsBytes two.parts (IsBytes-front three.front three.back first-three) in
    let held = three.is_second in (
      parameters_bytes two.back x.0.0.0.1 two.is_second (IsBytes-after two.front two.back first-two),
      subst IsBytes held.stands_for (within_value 4 held.octets three.back held.value.bytes_are (IsBytes-after three.front three.back first-three)),
    )

info_oid : (bytes : List ℕ) (x : InfoValue) → Spelled private_info bytes x → IsArcs x.0.0.0.1.oid
unfolding private_info info_fields algorithm
info_oid bytes x s = s.0.0.0.0.1.0

-- ---- public keys that may be there

whole_is : (bits bytes : Option (List ℕ)) → (behind_table bits).holds bytes → AreWhole bits bytes
whole_is None bytes h = h
whole_is (Some bits) bytes h = (h.0, whole_takes bits h.0 h.1, h.2)

whole_back : (bits bytes : Option (List ℕ)) → AreWhole bits bytes → (behind_table bits).holds bytes
whole_back None bytes h = h
whole_back (Some bits) bytes h = (h.0, whole_again bits h.0 h.1, h.2)

point_is : (curve : NamedEcCurve) (bits : List ℕ) (key : PublicKeyKind) → (held_table (Ec curve) bits).holds key → HoldsKey key bits
unfolding point_table
point_is curve bits key h = subst (λ (k : PublicKeyKind). HoldsKey k bits) (sym h.2) (refl, h.1)

edwards_is : (ed : EdAlgorithm) (bits : List ℕ) (key : PublicKeyKind) → (held_table (Ed ed) bits).holds key → HoldsKey key bits
unfolding ed_held_table
edwards_is ed bits key h = subst (λ (k : PublicKeyKind). HoldsKey k bits) (sym h.2) (refl, h.1)

curve_part : (curve : NamedEcCurve) (bits : Option (List ℕ)) (part : Option PublicKeyKind) → (part_table (Ec curve) bits).holds part → HoldsPart (Ec curve) bits part
curve_part curve None part h = h
curve_part curve (Some bits) part h = (h.0, held_kind (Ec curve) bits h.0 h.1, point_is curve bits h.0 h.1, h.2)

edwards_part : (ed : EdAlgorithm) (bits : Option (List ℕ)) (part : Option PublicKeyKind) → (part_table (Ed ed) bits).holds part → HoldsPart (Ed ed) bits part
edwards_part ed None part h = h
edwards_part ed (Some bits) part h = (h.0, held_kind (Ed ed) bits h.0 h.1, edwards_is ed bits h.0 h.1, h.2)

part_back : (kind : PrivateKeyKind) (bits : Option (List ℕ)) (part : Option PublicKeyKind) → HoldsPart kind bits part → (part_table kind bits).holds part
part_back kind None part h = h
part_back kind (Some bits) part h = (h.0, subst (λ (k : PrivateKeyKind). (held_table k bits).holds h.0) h.1 (held_again h.0 bits h.2), h.3)

-- ---- what the octets hold

rsa_is : (octets : List ℕ) (kind : PrivateKeyKind) (part : Option PublicKeyKind) → IsBytes octets → (rsa_said_table octets).holds (kind, part) → HoldsNumbers octets part
unfolding rsa_said_table
rsa_is octets kind part fits h = record { numbers = h.0; inner = whole_spelled rsa_private rsa_private_lawful.readable octets h.0 fits h.1; part_is = ap (λ (s : PrivateKeyKind × Option PublicKeyKind). s.1) h.2 }

rsa_back : (octets : List ℕ) (part : Option PublicKeyKind) → HoldsNumbers octets part → (rsa_said_table octets).holds (Rsa, part)
unfolding rsa_said_table
rsa_back octets part h = (h.numbers, spelled_whole rsa_private rsa_private_lawful.readable octets h.numbers rsa_nests h.inner, ap (λ (o : Option PublicKeyKind). (Rsa, o)) h.part_is)

ec_is : (curve : NamedEcCurve) (octets : List ℕ) (bits : Option (List ℕ)) (kind : PrivateKeyKind) (part : Option PublicKeyKind) → IsBytes octets → (ec_said_table curve octets bits).holds (kind, part) → HoldsNumber curve octets bits part
unfolding ec_said_table parts_table
ec_is curve octets bits kind part fits h =
    let behind = h.2 in
    let told = behind.2 in
    let first = told.1 in
    let second = first.2 in
    record {
      number = h.0;
      inner = whole_spelled ec_private ec_private_lawful.readable octets h.0 fits h.1;
      behind = behind.0;
      whole = whole_is bits behind.0 behind.1;
      first = first.0;
      beside = curve_part curve h.0.1 first.0 first.1;
      second = second.0;
      after = curve_part curve behind.0 second.0 second.1;
      part_is = ap (λ (s : PrivateKeyKind × Option PublicKeyKind). s.1) told.2 ∙ second.2;
    }

ec_back : (curve : NamedEcCurve) (octets : List ℕ) (bits : Option (List ℕ)) (part : Option PublicKeyKind) → HoldsNumber curve octets bits part → (ec_said_table curve octets bits).holds (Ec curve, part)
unfolding ec_said_table parts_table
ec_back curve octets bits part h = (
  h.number,
  spelled_whole ec_private ec_private_lawful.readable octets h.number ec_nests h.inner,
  (
    h.behind,
    whole_back bits h.behind h.whole,
    (part, (h.first, part_back (Ec curve) h.number.1 h.first h.beside, (h.second, part_back (Ec curve) h.behind h.second h.after, h.part_is)), refl),
  ),
)

ed_is : (ed : EdAlgorithm) (octets : List ℕ) (bits : Option (List ℕ)) (kind : PrivateKeyKind) (part : Option PublicKeyKind) → IsBytes octets → (ed_said_table ed octets bits).holds (kind, part) → HoldsSecret ed octets bits part
unfolding ed_said_table sized_table
ed_is ed octets bits kind part fits h =
    let behind = h.2 in
    let told = behind.2 in
    let size = told.1 in
    let same : told.0 ≡ part = sym (ap (λ (s : PrivateKeyKind × Option PublicKeyKind). s.1) told.2) in
    record {
      secret = h.0;
      inner = whole_spelled octet_string octets_lawful.readable octets h.0 fits h.1;
      size = size.1;
      behind = behind.0;
      whole = whole_is bits behind.0 behind.1;
      after = subst (HoldsPart (Ed ed) behind.0) same (edwards_part ed behind.0 told.0 size.2);
    }

ed_back : (ed : EdAlgorithm) (octets : List ℕ) (bits : Option (List ℕ)) (part : Option PublicKeyKind) → HoldsSecret ed octets bits part → (ed_said_table ed octets bits).holds (Ed ed, part)
unfolding ed_said_table sized_table
ed_back ed octets bits part h = (
  h.secret,
  spelled_whole octet_string octets_lawful.readable octets h.secret octets_nest h.inner,
  (h.behind, whole_back bits h.behind h.whole, (part, (tt, h.size, part_back (Ed ed) h.behind part h.after), refl)),
)

-- ---- the key

kind_is : (kind : PrivateKeyKind) (octets : List ℕ) (bits : Option (List ℕ)) (k : PrivateKeyKind) (part : Option PublicKeyKind) → IsBytes octets → (kind_said_table kind octets bits).holds (k, part) → HoldsPrivate kind octets bits part
kind_is Rsa octets bits k part fits h = rsa_is octets k part fits h
kind_is (Ec curve) octets bits k part fits h = ec_is curve octets bits k part fits h
kind_is (Ed ed) octets bits k part fits h = ed_is ed octets bits k part fits h

kind_same : (kind : PrivateKeyKind) (octets : List ℕ) (bits : Option (List ℕ)) (k : PrivateKeyKind) (part : Option PublicKeyKind) → (kind_said_table kind octets bits).holds (k, part) → kind ≡ k
unfolding rsa_said_table ec_said_table ed_said_table
kind_same Rsa octets bits k part h = sym (ap (λ (s : PrivateKeyKind × Option PublicKeyKind). s.0) h.2)
kind_same (Ec curve) octets bits k part h = sym (ap (λ (s : PrivateKeyKind × Option PublicKeyKind). s.0) h.2.2.2)
kind_same (Ed ed) octets bits k part h = sym (ap (λ (s : PrivateKeyKind × Option PublicKeyKind). s.0) h.2.2.2)

kind_back : (kind : PrivateKeyKind) (octets : List ℕ) (bits : Option (List ℕ)) (part : Option PublicKeyKind) → HoldsPrivate kind octets bits part → (kind_said_table kind octets bits).holds (kind, part)
kind_back Rsa octets bits part h = rsa_back octets part h
kind_back (Ec curve) octets bits part h = ec_back curve octets bits part h
kind_back (Ed ed) octets bits part h = ed_back ed octets bits part h

private_is : (bytes : List ℕ) (k : PrivateKey) → IsBytes bytes → (private_table bytes).holds k → IsPrivateKey bytes k
unfolding private_table said_table
private_is bytes k fits h =
    let info = h.1 in
    let told = info.2 in
    let s = whole_spelled private_info private_info_lawful.readable bytes info.0 fits info.1 in
    let parts = info_bytes bytes info.0 fits s.1 in
    let same : told.0 ≡ k.kind = kind_same told.0 info.0.0.0.1 info.0.1 k.kind k.public_part told.2 in
    let kind : IsAlgorithm info.0.0.0.0.1 told.0 = kind_found info.0.0.0.0.1 told.0 (info_oid bytes info.0 s) parts.0 told.1 in
    record {
      kept = h.0;
      info = info.0;
      outer = s;
      kind = subst (IsAlgorithm info.0.0.0.0.1) same kind;
      held = subst (λ (m : PrivateKeyKind). HoldsPrivate m info.0.0.0.1 info.0.1 k.public_part) same (kind_is told.0 info.0.0.0.1 info.0.1 k.kind k.public_part parts.1 told.2);
    }

private_back : (bytes : List ℕ) (k : PrivateKey) → IsPrivateKey bytes k → (private_table bytes).holds k
unfolding private_table said_table
private_back bytes k p =
    (p.kept, (p.info, spelled_whole private_info private_info_lawful.readable bytes p.info info_nests p.outer, (k.kind, kind_again p.info.0.0.0.1 k.kind p.kind, kind_back k.kind p.info.0.0.1 p.info.1 k.public_part p.held)))

pub private_found : (bytes : List ℕ) (r : Result PrivateKey KeyError) → IsBytes bytes → Meets (λ k. k) key_fault r (private_table bytes) → IfOk r (λ k. IsPrivateKey bytes k)
private_found bytes (Ok k) fits m = private_is bytes k fits ((private_exact bytes).holds k m)
private_found bytes (Err e) fits m = tt

pub private_every : (bytes : List ℕ) (r : Result PrivateKey KeyError) (k : PrivateKey) → Meets (λ k. k) key_fault r (private_table bytes) → IsPrivateKey bytes k → OkOrMemory (λ k. k) key_fault r k
private_every bytes r k m p = complete (λ k. k) key_fault r (private_table bytes) (private_exact bytes) m k (private_back bytes k p)
