-- The contents octets of an OBJECT IDENTIFIER are decoded.
use Rattle.std.proofs.Common.{◌≡◌, ℕ, zero, suc, ◌+◌, ◌-◌, ◌*◌, ◌/◌, ◌%◌, ◌^◌, ◌<◌, true, false, ltb, leb, List, [], ◌∷◌, ◌++◌, Decides, Ok, Err, refl, sym, ap, subst, ◌∙◌, append_assoc, arith, inl, inr}
use Rattle.std.specs.Prelude.{◌||◌, All}
use Rattle.std.specs.List.{flat_map, list_all}
use Rattle.std.specs.Str.{bytes_eq}
use Rattle.std.proofs.Math.Nat.{pow-suc}
use Rattle.std.proofs.lemmas.Bool.{cases_lt, cases_eq, ne_eqb, le-ltb, lt-ltb, ltb-true, lt-leb, le-leb, leb-true, false≢true, and_parts, cond-false, false_from_ne_true}
use Rattle.std.proofs.lemmas.Bool.Decides.{Decides-and, Decides-like, Decides-by_and, Decides-ltb}
use Rattle.std.proofs.lemmas.List.Elements.{All-head, All-tail}
use Rattle.std.proofs.lemmas.Slice.Eq.{bytes_eq-Decides}
use Rattle.picky_asn1_oid.specs.Arcs.{FitsArc, IsArcs, continued, base128, subidentifiers, contents_of}
use Rattle.picky_asn1_oid.specs.Fault.{IsContentsOf}
use Rattle.picky_asn1_oid.specs.laws.Arcs.{arcs_from-subidentifiers, subidentifiers_fit}
use Rattle.picky_asn1_oid.specs.Numbers.{arcs_from}
use Rattle.picky_der.specs.declared.fault.DerError.TheVariants.{BadValue}
use Rattle.picky_der.specs.Form.{Readable, Writable, Tagged}
use Rattle.picky_der.specs.Primitive.{Decodes, primitive_form}
use Rattle.picky_der.specs.laws.Steps.{need_ok, ok_is}
use Rattle.picky_der.specs.laws.Primitives.{primitive_readable, primitive_writable, primitive_tagged}
use Rattle.picky_der.specs.Identifier.{numbers_in, are_arcs, arcs_in, is_identifier, identifier_of, identifier_contents}

-- ---- the test of arcs

Decides-second : (first second : ℕ) → Decides (leb 2 first || ltb second 40) (first < 2 → second < 40)
Decides-second first second =
    elim (cases_lt first 2) [
      | inl low ↦ rw (lt-leb 2 first low) (λ e _. ltb-true second 40 e, λ h. lt-ltb second 40 (h low))
      | inr two ↦ rw (le-leb 2 first two) (λ _ low. absurd (omega arith), λ _. refl)
    ]

Decides-fits : (others : List ℕ) → Decides (list_all (λ n. ltb n (2 ^ 128)) others) (All FitsArc others)
Decides-fits others = Decides-by_and (λ n. ltb n (2 ^ 128)) FitsArc (list_all (λ n. ltb n (2 ^ 128))) (λ n. Decides-ltb n (2 ^ 128)) refl (λ _ _. refl) others

Decides-arcs : (arcs : List ℕ) → Decides (are_arcs arcs) (IsArcs arcs)
Decides-arcs [] = (λ e. false≢true e, λ h. absurd h)
Decides-arcs (a ∷ []) = (λ e. false≢true e, λ h. absurd h)
Decides-arcs (a ∷ b ∷ others) =
    Decides-like (are_arcs (a ∷ b ∷ others)) (λ h. (h.0, h.1.0, h.1.1.0, h.1.1.1)) (λ h. (h.0, (h.1, (h.2, h.3))))
    (Decides-and (leb a 2) _ (leb-true a 2, le-leb a 2)
    (Decides-and (leb 2 a || ltb b 40) _ (Decides-second a b)
    (Decides-and (ltb (40 * a + b) (2 ^ 128)) _ (Decides-ltb (40 * a + b) (2 ^ 128)) (Decides-fits others))))

-- ---- numbers in groups of seven bits

-- the groups in front stand for the number in front
numbers-continued : (most n : ℕ) (tail : List ℕ) → n < 128 ^ most → numbers_in 0 (continued most n ++ tail) ≡ numbers_in n tail
unfolding continued
numbers-continued zero n tail few = ap (λ (k : ℕ). numbers_in k tail) (omega arith)
numbers-continued (suc most) n tail few = elim (cases_eq n 0) [
  | inl none ↦ rw none refl
  | inr some ↦
      let front : n / 128 < 128 ^ most = let p : 128 ^ suc most ≡ 128 ^ most * 128 = pow-suc 128 most in omega arith in
      let whole : n / 128 * 128 + (128 + n % 128 - 128) ≡ n = omega arith in
      let test : ltb (128 + n % 128) 128 ≡ false = le-ltb (128 + n % 128) 128 (omega arith) in
      let groups = append_assoc (continued most (n / 128)) ((128 + n % 128) ∷ []) tail in
      rw (ne_eqb n 0 some, groups, numbers-continued most (n / 128) ((128 + n % 128) ∷ tail) front, test, whole) refl
]

numbers-base128 : (n : ℕ) (after : List ℕ) → FitsArc n → numbers_in 0 (base128 n ++ after) ≡ n ∷ numbers_in 0 after
unfolding base128
numbers-base128 n after fits =
    let front : n / 128 < 128 ^ 19 = omega arith in
    let test : ltb (n % 128) 128 ≡ true = lt-ltb (n % 128) 128 (omega arith) in
    let whole : n / 128 * 128 + n % 128 ≡ n = omega arith in
    let groups = append_assoc (continued 19 (n / 128)) (n % 128 ∷ []) after in
    rw (groups, numbers-continued 19 (n / 128) (n % 128 ∷ after) front, test, whole) refl

numbers-all : (numbers : List ℕ) → All FitsArc numbers → numbers_in 0 (flat_map base128 numbers) ≡ numbers
numbers-all [] fit = refl
numbers-all (n ∷ ns) fit =
    numbers-base128 n (flat_map base128 ns) (All-head FitsArc n ns fit) ∙ ap (λ (l : List ℕ). n ∷ l) (numbers-all ns (All-tail FitsArc n ns fit))

-- contents octets stand for their arcs
arcs-again : (arcs : List ℕ) → IsArcs arcs → arcs_in (contents_of arcs) ≡ arcs
arcs-again arcs are = ap arcs_from (numbers-all (subidentifiers arcs) (subidentifiers_fit arcs are)) ∙ arcs_from-subidentifiers arcs are

-- ---- decoding

-- octets that pass the test are those of the arcs in them
identifier-means : (octets : List ℕ) → is_identifier octets ≡ true → IsContentsOf octets (arcs_in octets)
identifier-means octets e =
    let found = arcs_in octets in
    let tests = and_parts (are_arcs found) (bytes_eq (contents_of found) octets) e in
    ((Decides-arcs found).0 tests.0, (bytes_eq-Decides (contents_of found) octets).0 tests.1)

identifier_done : (octets arcs : List ℕ) → identifier_of octets ≡ Ok arcs → IsArcs arcs × (octets ≡ contents_of arcs)
identifier_done octets arcs e =
    let found = arcs_in octets in
    let a = need_ok (is_identifier octets) BadValue (Ok found) arcs e in
    let same : found ≡ arcs = ok_is found arcs a.1 in
    let means = identifier-means octets a.0 in
    (subst IsArcs same means.0, sym means.1 ∙ ap contents_of same)

identifier_back : (octets arcs : List ℕ) → IsArcs arcs → octets ≡ contents_of arcs → identifier_of octets ≡ Ok arcs
identifier_back octets arcs are e =
    let found : arcs_in octets ≡ arcs = ap arcs_in e ∙ arcs-again arcs are in
    let test : are_arcs arcs ≡ true = (Decides-arcs arcs).1 are in
    let octets-same : bytes_eq (contents_of arcs) octets ≡ true = (bytes_eq-Decides (contents_of arcs) octets).1 (sym e) in
    rw (found, test, octets-same) refl

identifier_decodes : Decodes identifier_contents
identifier_decodes = record {
  takes = λ octets arcs _ e. identifier_done octets arcs e;
  again = identifier_back;
  has_octets = λ _ _. refl;
  one = λ s t arcs _ p q. p ∙ sym q;
}

pub identifier_readable : Readable (primitive_form (record { 0 = 6 }) identifier_contents)
identifier_readable = primitive_readable (record { 0 = 6 }) identifier_contents identifier_decodes

pub identifier_writable : Writable (primitive_form (record { 0 = 6 }) identifier_contents)
identifier_writable = primitive_writable (record { 0 = 6 }) identifier_contents identifier_decodes (λ h. absurd (omega arith))

pub identifier_tagged : Tagged (record { 0 = 6 }) (primitive_form (record { 0 = 6 }) identifier_contents)
identifier_tagged = primitive_tagged (record { 0 = 6 }) identifier_contents

-- ---- what the call on octets answers

-- octets of an identifier
pub identifier_ok : (octets arcs : List ℕ) → IsContentsOf octets arcs → identifier_of octets ≡ Ok arcs
identifier_ok octets arcs h = identifier_back octets arcs h.0 (sym h.1)

-- octets of none
pub identifier_bad : (octets : List ℕ) → ((arcs : List ℕ) → ¬ (IsContentsOf octets arcs)) → identifier_of octets ≡ Err BadValue
identifier_bad octets none =
    cond-false (is_identifier octets) (Ok (arcs_in octets)) (Err BadValue) (false_from_ne_true (is_identifier octets) (λ e. none (arcs_in octets) (identifier-means octets e)))
