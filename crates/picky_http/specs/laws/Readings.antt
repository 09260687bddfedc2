-- A header text has one reading, and what is shown of it one way to be cut.
use Rattle.std.proofs.Common.{◌≡◌, ℕ, List, Option, Some, None, option_map, map, refl, sym, ap, subst, ◌∙◌}
use Rattle.picky_contract.specs.laws.Tables.{Exact, the_exact, done_exact, then_exact}
use Rattle.picky_http_text.specs.laws.Pieces.{joins-same}
use Rattle.picky_http_text.specs.laws.Values.{raw_same, clean_same, value_same, value_none}
use Rattle.picky_http_text.specs.laws.Numbers.{number_same}
use Rattle.picky_http_text.specs.Items.{IsRaw}
use Rattle.picky_http_text.specs.Clean.{IsClean, IsValue}
use Rattle.picky_http_text.specs.Numbers.{IsNumber}
use Rattle.picky_http.specs.Algorithms.{algorithm_named}
use Rattle.picky_http.specs.Parts.{AreParts, part_named}
use Rattle.picky_http.specs.Reading.{IsOptionalValue, IsOptionalNumber, Signed, IsSigned, is_legacy, Reading, HeaderReading, signed_of, signature_key, headers_key, algorithm_key, created_key, expires_key, key_id_key, Shown, reading_with}
use Rattle.picky_http.specs.Faults.{missing_parameter, invalid_parameter}
use Rattle.picky_http.specs.Refusals.{shown_table, reading_table}
use Rattle.picky_http.specs.Signing.{Part}
use Rattle.picky_http.specs.Steps.{always}

pub optional_same : (text key : List ℕ) (v w : Option (List ℕ)) → IsOptionalValue text key v → IsOptionalValue text key w → v ≡ w
optional_same text key None None h k = refl
optional_same text key None (Some w) h k = absurd (value_none text key w h k)
optional_same text key (Some v) None h k = absurd (value_none text key v k h)
optional_same text key (Some v) (Some w) h k = ap Some (value_same text key v w h k)

pub optional_number_same : (text key : List ℕ) (n m : Option ℕ) → IsOptionalNumber text key n → IsOptionalNumber text key m → n ≡ m
optional_number_same text key None None h k = refl
optional_number_same text key None (Some m) h (w, k, _) = absurd (value_none text key w h k)
optional_number_same text key (Some n) None (v, h, _) k = absurd (value_none text key v k h)
optional_number_same text key (Some n) (Some m) (v, h, x) (w, k, y) =
    ap Some (number_same w n m (subst (λ (z : List ℕ). IsNumber z n) (value_same text key v w h k) x) y)

some_same : {X : Type 0} (x y : X) → Some x ≡ Some y → x ≡ y
some_same x y e = cc

pub signed_same : (text : List ℕ) (s t : Signed) → IsSigned text s → IsSigned text t → s ≡ t
signed_same text s t a b =
    let raws : a.raw ≡ b.raw = some_same a.raw b.raw (raw_same text signature_key (Some a.raw) (Some b.raw) a.is_raw b.is_raw) in
    let texts : s.text ≡ t.text = clean_same b.raw s.text t.text (subst (λ (z : List ℕ). IsClean z s.text) raws a.clean) b.clean in
    let forms : s.legacy ≡ t.legacy = a.form ∙ ap (λ (z : List ℕ). is_legacy z s.text) raws ∙ ap (is_legacy b.raw) texts ∙ sym b.form in
    λ i. record { text = texts i; legacy = forms i }

pub parts_same : (v : Option (List ℕ)) (ps qs : List Part) → AreParts v ps → AreParts v qs → ps ≡ qs
parts_same None ps qs h k = h ∙ sym k
parts_same (Some v) ps qs h k = h.are ∙ ap (map part_named) (joins-same 32 h.pieces k.pieces h.some k.some h.no_space k.no_space (sym h.joined ∙ k.joined)) ∙ sym k.are

pub reading_same : (text : List ℕ) (x y : Reading) → HeaderReading text x → HeaderReading text y → y ≡ x
reading_same text x y a b =
    let key_id : y.key_id ≡ x.key_id = value_same text key_id_key y.key_id x.key_id b.key_id a.key_id in
    let signed : signed_of y ≡ signed_of x = signed_same text (signed_of y) (signed_of x) b.signature a.signature in
    let created : y.created ≡ x.created = optional_number_same text created_key y.created x.created b.created a.created in
    let expires : y.expires ≡ x.expires = optional_number_same text expires_key y.expires x.expires b.expires a.expires in
    let listed : b.headers.value ≡ a.headers.value = optional_same text headers_key b.headers.value a.headers.value b.headers.is a.headers.is in
    let headers : y.headers ≡ x.headers = parts_same a.headers.value y.headers x.headers (subst (λ (z : Option (List ℕ)). AreParts z y.headers) listed b.headers.parts_are) a.headers.parts_are in
    let named : b.algorithm.value ≡ a.algorithm.value = optional_same text algorithm_key b.algorithm.value a.algorithm.value b.algorithm.is a.algorithm.is in
    let algorithm : y.algorithm ≡ x.algorithm = b.algorithm.named ∙ ap (option_map algorithm_named) named ∙ sym a.algorithm.named in
    λ i. record { key_id = key_id i; headers = headers i; created = created i; expires = expires i; signature = (signed i).text; algorithm = algorithm i; legacy = (signed i).legacy }

-- ---- the table says the same as the reading

pub always_exact : {X F : Type 0} (P : X → Type 0) → Exact (always {F = F} P)
always_exact P = record { holds = λ x h. h.0; one = λ x y h k. h.1 y k; apart = λ f y r k. r; only = λ f g r k. absurd r }

pub shown_exact : (text : List ℕ) → Exact (shown_table text)
unfolding shown_table
shown_exact text =
    then_exact _ _ (the_exact (IsOptionalNumber text created_key) (invalid_parameter created_key)) (λ created.
    then_exact _ _ (the_exact (IsOptionalNumber text expires_key) (invalid_parameter expires_key)) (λ expires.
    then_exact _ _ (the_exact (IsSigned text) (missing_parameter signature_key)) (λ signed.
    then_exact _ _ (the_exact (IsValue text key_id_key) (missing_parameter key_id_key)) (λ key_id.
    then_exact _ _ (always_exact (IsOptionalValue text headers_key)) (λ headers.
    then_exact _ _ (always_exact (IsOptionalValue text algorithm_key)) (λ algorithm.
    done_exact (record { key_id = key_id; signature = signed.text; headers = headers; algorithm = algorithm; created = created; expires = expires; legacy = signed.legacy })))))))

pub reading_exact : (text : List ℕ) → Exact (reading_table text)
unfolding reading_table
reading_exact text =
    then_exact _ _ (shown_exact text) (λ shown.
    then_exact _ _ (always_exact (AreParts shown.headers)) (λ parts.
    done_exact (reading_with shown parts)))

-- what is shown of a reading
shown_by : {text : List ℕ} {r : Reading} → HeaderReading text r → Shown
shown_by {r = r} h = record {
  key_id = r.key_id;
  signature = r.signature;
  headers = h.headers.value;
  algorithm = h.algorithm.value;
  created = r.created;
  expires = r.expires;
  legacy = r.legacy;
}

pub from_reading : (text : List ℕ) (r : Reading) → HeaderReading text r → (reading_table text).holds r
unfolding reading_table shown_table shown_by
from_reading text r h = (
  shown_by h,
  (r.created, h.created, (r.expires, h.expires, (signed_of r, h.signature, (r.key_id, h.key_id, (h.headers.value, h.headers.is, (h.algorithm.value, h.algorithm.is, refl)))))),
  (r.headers, h.headers.parts_are, λ i. record { key_id = r.key_id; headers = r.headers; created = r.created; expires = r.expires; signature = r.signature; algorithm = h.algorithm.named i; legacy = r.legacy }),
)

pub to_reading : (text : List ℕ) (r : Reading) → (reading_table text).holds r → HeaderReading text r
unfolding reading_table shown_table
to_reading text r h =
    let shown = h.0 in
    let parts = h.2 in
    let created = h.1 in
    let expires = created.2 in
    let signed = expires.2 in
    let key_id = signed.2 in
    let headers = key_id.2 in
    let algorithm = headers.2 in
    let there : Shown = record { key_id = key_id.0; signature = signed.0.text; headers = headers.0; algorithm = algorithm.0; created = created.0; expires = expires.0; legacy = signed.0.legacy } in
    let same : shown ≡ there = algorithm.2 in
    let read : HeaderReading text (reading_with there parts.0) = record {
      key_id = key_id.1;
      signature = signed.1;
      created = created.1;
      expires = expires.1;
      headers = record { value = headers.0; is = headers.1; parts_are = subst (λ (s : Shown). AreParts s.headers parts.0) same parts.1 };
      algorithm = record { value = algorithm.0; is = algorithm.1; named = refl };
    } in
    subst (HeaderReading text) (sym (parts.2 ∙ ap (λ (s : Shown). reading_with s parts.0) same)) read

-- a value that writes no number
pub no_number : (text key value : List ℕ) → IsValue text key value → ((n : ℕ) → IsNumber value n → ⊥) → (y : Option ℕ) → IsOptionalNumber text key y → ⊥
no_number text key value is none None h = value_none text key value h is
no_number text key value is none (Some n) (w, k, x) = none n (subst (λ (z : List ℕ). IsNumber z n) (value_same text key w value k is) x)

none_is_some : {X : Type 0} (x : X) → None ≡ Some x → ⊥
none_is_some x e = cc

-- a text without the key has no signature
pub unsigned : (text : List ℕ) (s : Signed) → IsRaw text signature_key None → IsSigned text s → ⊥
unsigned text s none h = none_is_some h.raw (raw_same text signature_key None (Some h.raw) none h.is_raw)
