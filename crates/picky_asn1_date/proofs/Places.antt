-- Numbers in two digits each.
use Rattle.std.proofs.Common.{◌≡◌, ◌≢◌, ℕ, ◌+◌, ◌/◌, ◌%◌, ◌<◌, ◌≤◌, Bool, true, false, List, [], ◌∷◌, ◌++◌, length, get_or, set, take, refl, sym, ap, subst, ◌∙◌, All, arith, nat_eq}
use Rattle.std.specs.Prelude.{codes}
use Rattle.std.proofs.lemmas.List.{take_more, take_more_set, take_all, length-take-le}
use Rattle.std.specs.Cmp.Lexicographic.{pointwise, bytes_decides}
use Rattle.std.proofs.lemmas.List.Elements.{All-head, All-tail, All-push}
use Rattle.picky_asn1_date.specs.DateText.{two_digits, digits_and_z}

-- the digits of the numbers, and then these bytes
abbrev pub digits_onto : List ℕ → List ℕ → List ℕ
digits_onto [] rest = rest
digits_onto (n ∷ ns) rest = two_digits n ++ digits_onto ns rest

pub digits_onto_z : (ns : List ℕ) → digits_onto ns (codes "Z") ≡ digits_and_z ns
digits_onto_z [] = refl
digits_onto_z (n ∷ ns) = ap (λ rest. two_digits n ++ rest) (digits_onto_z ns)

pub digits_onto_append : (ms ns rest : List ℕ) → digits_onto (ms ++ ns) rest ≡ digits_onto ms (digits_onto ns rest)
digits_onto_append [] ns rest = refl
digits_onto_append (m ∷ ms) ns rest = ap (λ bytes. two_digits m ++ bytes) (digits_onto_append ms ns rest)

pub digits_onto_rest : (ns rest : List ℕ) → digits_onto ns [] ++ rest ≡ digits_onto ns rest
digits_onto_rest [] rest = refl
digits_onto_rest (n ∷ ns) rest = ap (λ bytes. two_digits n ++ bytes) (digits_onto_rest ns rest)

-- two digits are those of one number
pub two_same : (m n : ℕ) (a b : List ℕ) → two_digits m ++ a ≡ two_digits n ++ b → (m ≡ n) × (a ≡ b)
two_same m n a b e =
    let tens : 48 + m / 10 ≡ 48 + n / 10 = cc in
    let ones : 48 + m % 10 ≡ 48 + n % 10 = cc in
    let rest : a ≡ b = cc in
    (omega arith, rest)

-- what is left, where as many numbers are read
pub left_same : (seen ns left : List ℕ) → length seen ≡ length ns → digits_onto seen left ≡ digits_and_z ns → left ≡ codes "Z"
left_same [] [] left l e = e
left_same [] (n ∷ ns) left l e = absurd (omega arith)
left_same (m ∷ seen) [] left l e = absurd (omega arith)
left_same (m ∷ seen) (n ∷ ns) left l e = left_same seen ns left (omega arith) (two_same m n (digits_onto seen left) (digits_and_z ns) e).1

-- where fewer are read, a number below 100 is next
pub next_pair : (seen ns left : List ℕ) → length seen < length ns → All (λ n. n < 100) ns → digits_onto seen left ≡ digits_and_z ns → (n : ℕ) × (rest : List ℕ) × (n < 100) × (left ≡ two_digits n ++ rest)
next_pair seen [] left l h e = absurd (omega arith)
next_pair [] (n ∷ ns) left l h e = (n, digits_and_z ns, All-head (λ x. x < 100) n ns h, e)
next_pair (m ∷ seen) (n ∷ ns) left l h e = next_pair seen ns left (omega arith) (All-tail (λ x. x < 100) n ns h) (two_same m n (digits_onto seen left) (digits_and_z ns) e).1

-- ---- one turn of the loops

-- one number more
digits_push : (ns : List ℕ) (n : ℕ) (rest : List ℕ) → digits_onto (ns ++ n ∷ []) rest ≡ digits_onto ns (two_digits n ++ rest)
digits_push ns n rest = digits_onto_append ns (n ∷ []) rest

pub written : (ns old new : List ℕ) (i n : ℕ) → i < length ns → get_or ns i 0 ≡ n → old ≡ digits_onto (take i ns) [] → new ≡ old ++ two_digits n → new ≡ digits_onto (take (i + 1) ns) []
written ns old new i n lt is was now =
    let more : take (i + 1) ns ≡ take i ns ++ n ∷ [] = take_more ns i 0 lt ∙ ap (λ x. take i ns ++ x ∷ []) is in
    now ∙ ap (λ bytes. bytes ++ two_digits n) was ∙ digits_onto_rest (take i ns) (two_digits n) ∙ sym (digits_push (take i ns) n []) ∙ ap (λ xs. digits_onto xs []) (sym more)

pub written_all : (ns old new : List ℕ) (i : ℕ) → length ns ≤ i → old ≡ digits_onto (take i ns) [] → new ≡ old ++ codes "Z" → new ≡ digits_and_z ns
written_all ns old new i past was now =
    now ∙ ap (λ bytes. bytes ++ codes "Z") (was ∙ ap (λ xs. digits_onto xs []) (take_all i ns past)) ∙ digits_onto_rest ns (codes "Z") ∙ digits_onto_z ns

pub read_more : (bytes items left rest : List ℕ) (i n : ℕ) → i < length items → (bytes ≡ digits_onto (take i items) left) × All (λ x. x < 100) (take i items) → (n < 100) × (left ≡ two_digits n ++ rest)
    → (bytes ≡ digits_onto (take (i + 1) (set items i n)) rest) × All (λ x. x < 100) (take (i + 1) (set items i n))
read_more bytes items left rest i n lt before next =
    let more : take (i + 1) (set items i n) ≡ take i items ++ n ∷ [] = take_more_set items i n lt in (
      before.0 ∙ ap (digits_onto (take i items)) next.1 ∙ sym (digits_push (take i items) n rest) ∙ ap (λ xs. digits_onto xs rest) (sym more),
      subst (All (λ x. x < 100)) (sym more) (All-push (λ x. x < 100) (take i items) n before.1 next.0),
    )

pub read_all : (bytes items left : List ℕ) (i : ℕ) → length items ≤ i → (bytes ≡ digits_onto (take i items) left) × All (λ x. x < 100) (take i items) → left ≡ codes "Z" → All (λ x. x < 100) items × (bytes ≡ digits_and_z items)
read_all bytes items left i past before last =
    let all : take i items ≡ items = take_all i items past in
    (subst (All (λ x. x < 100)) all before.1, before.0 ∙ ap (λ xs. digits_onto xs left) all ∙ ap (digits_onto items) last ∙ digits_onto_z items)

pub not_next : (bytes items left : List ℕ) (i count : ℕ) → i < length items → length items ≡ count → bytes ≡ digits_onto (take i items) left → ((n : ℕ) (rest : List ℕ) → n < 100 → left ≢ two_digits n ++ rest)
    → (numbers : List ℕ) → length numbers ≡ count → All (λ x. x < 100) numbers → bytes ≢ digits_and_z numbers
not_next bytes items left i count lt counted whole none numbers l small e =
    let seen : length (take i items) ≡ i = length-take-le i items (omega arith) in
    let next = next_pair (take i items) numbers left (omega arith) small (sym whole ∙ e) in
    none next.0 next.1 next.2 next.3

pub not_last : (bytes items left : List ℕ) (i count : ℕ) → length items ≤ i → length items ≡ count → bytes ≡ digits_onto (take i items) left → left ≢ codes "Z"
    → (numbers : List ℕ) → length numbers ≡ count → All (λ x. x < 100) numbers → bytes ≢ digits_and_z numbers
not_last bytes items left i count past counted whole last numbers l small e =
    let all : take i items ≡ items = take_all i items past in
    last (left_same items numbers left (omega arith) (ap (λ xs. digits_onto xs left) (sym all) ∙ sym whole ∙ e))

pub last_is : (left z : List ℕ) (b : Bool) → b ≡ pointwise nat_eq left z → z ≡ codes "Z" → b ≡ true → left ≡ codes "Z"
last_is left z b e is t = (bytes_decides left z).0 (sym e ∙ t) ∙ is

pub last_not : (left z : List ℕ) (b : Bool) → b ≡ pointwise nat_eq left z → z ≡ codes "Z" → b ≡ false → left ≢ codes "Z"
last_not left z b e is f h =
    let t : b ≡ true = e ∙ (bytes_decides left z).1 (h ∙ sym is) in
    absurd (cc)
