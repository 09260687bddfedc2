-- From the parser's spans to owned fields.
use Rattle.std.proofs.Common.{◌≡◌, ℕ, zero, suc, inl, inr, ◌<◌, ◌≤◌, true, ◌||◌, List, [], ◌∷◌, length, map, codes, refl, sym, ◌∙◌, ap, arith, IsTrue, All, IsUtf8, lit<}
use Rattle.std.specs.Prelude.{◌==◌, nat_lt, nat_le}
use Rattle.std.specs.List.{list_all, list_any, AllByRecursion}
use Rattle.std.specs.Str.{str_to_ascii_lowercase, IsAscii}
use Rattle.std.specs.Char.{is_ascii_alphanumeric}
use Rattle.std.specs.Int.{is_in_range}
use Rattle.std.proofs.lemmas.Bool.{or_cases, and_parts, eqb-true, ltb-true, leb-true, false≢true}
use Rattle.std.proofs.lemmas.List.{length-map}
use Rattle.std.proofs.lemmas.List.Elements.{All-from_recursion, recursion_from_All}
use Rattle.std.proofs.lemmas.Str.{IsUtf8-from_ascii}
use Rattle.httparse.specs.Grammar.{Field, IsField, IsToken, is_token_byte}
use Rattle.httparse.specs.Spans.{span_bytes, header_bytes, name_and_value}
use Rattle.httparse.specs.declared.spans.HeaderSpan.{HeaderSpan}
use Rattle.picky_http_request.specs.Heads.{Head, head_of, lower_field, span_field}
use Rattle.httparse.specs.Grammar as grammar

any_below : (cs : List ℕ) (b : ℕ) → list_any (λ c. c == b) cs ≡ true → list_all (λ c. nat_lt c 128) cs ≡ true → b < 128
any_below [] b h k = absurd (false≢true h)
any_below (c ∷ cs) b h k =
    let parts = and_parts (nat_lt c 128) (list_all (λ c. nat_lt c 128) cs) k in
    elim (or_cases (c == b) (list_any (λ c. c == b) cs) h) [
      | inl e ↦ let same = eqb-true c b e in omega (arith, ltb-true c 128 parts.0)
      | inr r ↦ any_below cs b r parts.1
    ]

in_range_below : (lo hi b : ℕ) → is_in_range lo hi b ≡ true → b ≤ hi
in_range_below lo hi b h = leb-true b hi (and_parts (nat_le lo b) (nat_le b hi) h).1

alphanumeric_is_ascii : (b : ℕ) → is_ascii_alphanumeric b ≡ true → b < 128
alphanumeric_is_ascii b h =
    elim (or_cases (is_in_range 48 57 b || is_in_range 65 90 b) (is_in_range 97 122 b) h) [
      | inl e ↦ elim (or_cases (is_in_range 48 57 b) (is_in_range 65 90 b) e) [ inl f ↦ omega (arith, in_range_below 48 57 b f) | inr f ↦ omega (arith, in_range_below 65 90 b f) ]
      | inr e ↦ omega (arith, in_range_below 97 122 b e)
    ]

token_byte_is_ascii : (b : ℕ) → is_token_byte b ≡ true → b < 128
unfolding is_token_byte
token_byte_is_ascii b h =
    elim (or_cases (is_ascii_alphanumeric b) (list_any (λ c. c == b) (codes "!#$%&'*+-.^_`|~")) h) [
      | inl e ↦ alphanumeric_is_ascii b e
      | inr r ↦ any_below (codes "!#$%&'*+-.^_`|~") b r refl
    ]

tokens_are_ascii : (bs : List ℕ) → AllByRecursion (λ b. IsTrue (is_token_byte b)) bs → IsAscii bs
tokens_are_ascii [] h i = lit< tt
tokens_are_ascii (b ∷ bs) h zero = token_byte_is_ascii b h.0
tokens_are_ascii (b ∷ bs) h (suc i) = tokens_are_ascii bs h.1 i

pub token_is_text : (bs : List ℕ) → IsToken bs → IsUtf8 bs
token_is_text bs h = IsUtf8-from_ascii bs (tokens_are_ascii bs (recursion_from_All (λ b. IsTrue (is_token_byte b)) bs h.1))

head_same : {X : Type 0} (x y : X) (xs ys : List X) → x ∷ xs ≡ y ∷ ys → x ≡ y
head_same x y xs ys e = cc

tail_same : {X : Type 0} (x y : X) (xs ys : List X) → x ∷ xs ≡ y ∷ ys → xs ≡ ys
tail_same x y xs ys e = cc

names_text : (buf : List ℕ) (hs : List HeaderSpan) (fs : List Field) → map (header_bytes buf) hs ≡ map name_and_value fs → AllByRecursion IsField fs
    → AllByRecursion (λ (h : HeaderSpan). IsUtf8 (span_bytes buf h.name)) hs
names_text buf [] fs e a = tt
names_text buf (h ∷ hs) [] e a = cc
names_text buf (h ∷ hs) (f ∷ fs) e a =
    let one = head_same (header_bytes buf h) (name_and_value f) (map (header_bytes buf) hs) (map name_and_value fs) e in
    let name : span_bytes buf h.name ≡ f.name = ap (λ (p : List ℕ × List ℕ). p.0) one in
    (rw name (token_is_text f.name a.0.name), names_text buf hs fs (tail_same (header_bytes buf h) (name_and_value f) (map (header_bytes buf) hs) (map name_and_value fs) e) a.1)

pub names_are_text : (buf : List ℕ) (hs : List HeaderSpan) (fs : List Field) → map (header_bytes buf) hs ≡ map name_and_value fs → All IsField fs
    → All (λ (h : HeaderSpan). IsUtf8 (span_bytes buf h.name)) hs
names_are_text buf hs fs e a = All-from_recursion (λ (h : HeaderSpan). IsUtf8 (span_bytes buf h.name)) hs (names_text buf hs fs e (recursion_from_All IsField fs a))

pub lower_same : (buf : List ℕ) (hs : List HeaderSpan) (fs : List Field) → map (header_bytes buf) hs ≡ map name_and_value fs → map (span_field buf) hs ≡ map lower_field fs
lower_same buf [] [] e = refl
lower_same buf [] (f ∷ fs) e = cc
lower_same buf (h ∷ hs) [] e = cc
lower_same buf (h ∷ hs) (f ∷ fs) e =
    let one = head_same (header_bytes buf h) (name_and_value f) (map (header_bytes buf) hs) (map name_and_value fs) e in
    let here : span_field buf h ≡ lower_field f = ap (λ (p : List ℕ × List ℕ). (str_to_ascii_lowercase p.0, p.1)) one in
    let rest = lower_same buf hs fs (tail_same (header_bytes buf h) (name_and_value f) (map (header_bytes buf) hs) (map name_and_value fs) e) in
    ap (λ (p : List ℕ × List ℕ). p ∷ map (span_field buf) hs) here ∙ ap (λ (ps : List (List ℕ × List ℕ)). lower_field f ∷ ps) rest

pub same_count : (buf : List ℕ) (hs : List HeaderSpan) (fs : List Field) → map (header_bytes buf) hs ≡ map name_and_value fs → length fs ≡ length hs
same_count buf hs fs e = sym (length-map fs name_and_value) ∙ sym (ap length e) ∙ length-map hs (header_bytes buf)

pub head_same_parts : (g : grammar.RequestHead) (method target : List ℕ) (fields : List (List ℕ × List ℕ)) → method ≡ g.method → target ≡ g.target → fields ≡ map lower_field g.fields
    → (let made : Head = record { method = method; target = target; fields = fields } in made) ≡ head_of g
head_same_parts g method target fields a b c = λ i. record { method = a i; target = b i; fields = c i }
