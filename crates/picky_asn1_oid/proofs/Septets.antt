-- Numbers in groups of seven bits: they are read back, and what is read is such a number.
use Rattle.std.proofs.Common.{◌≡◌, ◌≢◌, ℕ, zero, suc, ◌+◌, ◌-◌, ◌*◌, ◌/◌, ◌%◌, ◌^◌, ◌<◌, ◌≤◌, Bool, true, false, if◌then◌else◌, nat_lt, ◌==◌, ◌&&◌, List, [], ◌∷◌, ◌++◌, length, get_or, take, drop, Option, Some, None, refl, sym, ap, ◌∙◌, arith, inl, inr, append_assoc}
use Rattle.std.proofs.Math.Nat.{pow-suc}
use Rattle.std.proofs.lemmas.Bool.{false≢true, cases_lt, cases_eq, lt-ltb, le-ltb, eq-eqb, ne_eqb}
use Rattle.std.proofs.lemmas.Grind.{common_steps}
use Rattle.picky_asn1_oid.specs.Arcs.{FitsArc, continued, base128}

abbrev pub IsBytes : List ℕ → Type 0
IsBytes bytes = (i : ℕ) → get_or bytes i 0 < 256

-- one more group changes nothing where the groups are enough
more : (most n : ℕ) → n < 128 ^ most → continued (suc most) n ≡ continued most n
unfolding continued
more zero n lt = ap (λ (r : Bool). if r then [] else ([] ++ (128 + n % 128) ∷ [])) (eq-eqb n 0 (omega arith))
more (suc most) n lt =
    let front : n / 128 < 128 ^ most = let p : 128 ^ suc most ≡ 128 ^ most * 128 = pow-suc 128 most in omega arith in
    ap (λ (l : List ℕ). if n == 0 then [] else (l ++ (128 + n % 128) ∷ [])) (more most (n / 128) front)

-- the groups of 0
pub continued_zero : continued 19 0 ≡ []
unfolding continued
continued_zero = refl

-- the last group of a number that isn't 0
pub continued_step : (n : ℕ) → n ≢ 0 → n < 2 ^ 128 → continued 19 n ≡ continued 19 (n / 128) ++ (128 + n % 128) ∷ []
unfolding continued
continued_step n some small =
    ap (λ (r : Bool). if r then [] else (continued 18 (n / 128) ++ (128 + n % 128) ∷ [])) (ne_eqb n 0 some)
    ∙ ap (λ (l : List ℕ). l ++ (128 + n % 128) ∷ []) (sym (more 18 (n / 128) (omega arith)))

-- what the scan makes of the bytes after groups that stand for `front`
abbrev pub read : ℕ → List ℕ → Option (ℕ × List ℕ)
read front [] = None
read front (b ∷ bs) =
    if nat_lt 2658455991569831745807614120560689151 front then None
    else (if nat_lt b 128 then Some (front * 128 + b, bs)
    else (if (front == 0) && (b == 128) then None else read (front * 128 + (b - 128)) bs))

abbrev first_part : Option (ℕ × List ℕ) → ℕ
first_part None = 0
first_part (Some p) = p.0

abbrev second_part : Option (ℕ × List ℕ) → List ℕ
second_part None = []
second_part (Some p) = p.1

abbrev found_some : Option (ℕ × List ℕ) → Bool
found_some None = false
found_some (Some p) = true

-- the bytes at each step
read_last : (front b : ℕ) (bs : List ℕ) → front < 2 ^ 121 → b < 128 → read front (b ∷ bs) ≡ Some (front * 128 + b, bs)
read_last front b bs fits low =
    ap (λ (r : Bool). if r then None else (if nat_lt b 128 then Some (front * 128 + b, bs) else (if (front == 0) && (b == 128) then None else read (front * 128 + (b - 128)) bs))) (le-ltb 2658455991569831745807614120560689151 front (omega arith))
    ∙ ap (λ (r : Bool). if r then Some (front * 128 + b, bs) else (if (front == 0) && (b == 128) then None else read (front * 128 + (b - 128)) bs)) (lt-ltb b 128 low)

not_both : (front b : ℕ) → front * 128 + (b - 128) ≢ 0 → 128 ≤ b → ((front == 0) && (b == 128)) ≡ false
not_both front b some high = elim (cases_eq front 0) [
  | inl none ↦ ap (λ (r : Bool). r && (b == 128)) (eq-eqb front 0 none) ∙ ne_eqb b 128 (λ (h : b ≡ 128). some (omega arith))
  | inr front_some ↦ ap (λ (r : Bool). r && (b == 128)) (ne_eqb front 0 front_some)
]

read_on : (front b : ℕ) (bs : List ℕ) → front < 2 ^ 121 → 128 ≤ b → front * 128 + (b - 128) ≢ 0 → read front (b ∷ bs) ≡ read (front * 128 + (b - 128)) bs
read_on front b bs fits high some =
    ap (λ (r : Bool). if r then None else (if nat_lt b 128 then Some (front * 128 + b, bs) else (if (front == 0) && (b == 128) then None else read (front * 128 + (b - 128)) bs))) (le-ltb 2658455991569831745807614120560689151 front (omega arith))
    ∙ ap (λ (r : Bool). if r then Some (front * 128 + b, bs) else (if (front == 0) && (b == 128) then None else read (front * 128 + (b - 128)) bs)) (le-ltb b 128 high)
    ∙ ap (λ (r : Bool). if r then None else read (front * 128 + (b - 128)) bs) (not_both front b some high)

read_stops : (front b : ℕ) (bs : List ℕ) → front < 2 ^ 121 → 128 ≤ b → front * 128 + (b - 128) ≡ 0 → read front (b ∷ bs) ≡ None
read_stops front b bs fits high none =
    ap (λ (r : Bool). if r then None else (if nat_lt b 128 then Some (front * 128 + b, bs) else (if (front == 0) && (b == 128) then None else read (front * 128 + (b - 128)) bs))) (le-ltb 2658455991569831745807614120560689151 front (omega arith))
    ∙ ap (λ (r : Bool). if r then Some (front * 128 + b, bs) else (if (front == 0) && (b == 128) then None else read (front * 128 + (b - 128)) bs)) (le-ltb b 128 high)
    ∙ ap (λ (r : Bool). if r then None else read (front * 128 + (b - 128)) bs) (ap (λ (r : Bool). r && (b == 128)) (eq-eqb front 0 (omega arith)) ∙ eq-eqb b 128 (omega arith))

read_overflows : (front b : ℕ) (bs : List ℕ) → 2 ^ 121 ≤ front → read front (b ∷ bs) ≡ None
read_overflows front b bs much =
    ap (λ (r : Bool). if r then None else (if nat_lt b 128 then Some (front * 128 + b, bs) else (if (front == 0) && (b == 128) then None else read (front * 128 + (b - 128)) bs))) (lt-ltb 2658455991569831745807614120560689151 front (omega arith))

-- groups of a number are read as the number in front of what follows
read_continued : (most n : ℕ) (tail : List ℕ) → n < 128 ^ most → n < 2 ^ 121 → read 0 (continued most n ++ tail) ≡ read n tail
unfolding continued
read_continued zero n tail few small = ap (λ (k : ℕ). read k tail) (omega arith)
read_continued (suc most) n tail few small = elim (cases_eq n 0) [
  | inl none ↦
      ap (λ (r : Bool). read 0 ((if r then [] else (continued most (n / 128) ++ (128 + n % 128) ∷ [])) ++ tail)) (eq-eqb n 0 none)
      ∙ ap (λ (k : ℕ). read k tail) (sym none)
  | inr some ↦
      let front : n / 128 < 128 ^ most = let p : 128 ^ suc most ≡ 128 ^ most * 128 = pow-suc 128 most in omega arith in
      let whole : n / 128 * 128 + (128 + n % 128 - 128) ≡ n = omega arith in
      ap (λ (r : Bool). read 0 ((if r then [] else (continued most (n / 128) ++ (128 + n % 128) ∷ [])) ++ tail)) (ne_eqb n 0 some)
      ∙ ap (λ (l : List ℕ). read 0 l) (append_assoc (continued most (n / 128)) ((128 + n % 128) ∷ []) tail)
      ∙ read_continued most (n / 128) ((128 + n % 128) ∷ tail) front (omega arith)
      ∙ read_on (n / 128) (128 + n % 128) tail (omega arith) (omega arith) (λ (h : n / 128 * 128 + (128 + n % 128 - 128) ≡ 0). some (omega arith))
      ∙ ap (λ (k : ℕ). read k tail) whole
]

-- a number in groups is read as it, with what follows
pub read_base128 : (n : ℕ) (after : List ℕ) → FitsArc n → read 0 (base128 n ++ after) ≡ Some (n, after)
unfolding base128
read_base128 n after fits =
    ap (λ (l : List ℕ). read 0 l) (append_assoc (continued 19 (n / 128)) (n % 128 ∷ []) after)
    ∙ read_continued 19 (n / 128) (n % 128 ∷ after) (omega arith) (omega arith)
    ∙ read_last (n / 128) (n % 128) after (omega arith) (omega arith)
    ∙ ap (λ (k : ℕ). Some (k, after)) (omega arith)

-- what is read stands there
pub record IsRead (front : ℕ) (bytes : List ℕ) (n : ℕ) (rest : List ℕ) : Type 0 where
  pub fits : n < 2 ^ 128
  pub stands : continued 19 front ++ bytes ≡ base128 n ++ rest
  pub shorter : length rest < length bytes

-- groups of one byte more
continued_more : (front b : ℕ) → front * 128 + (b - 128) ≢ 0 → front < 2 ^ 121 → 128 ≤ b → b < 256 → continued 19 (front * 128 + (b - 128)) ≡ continued 19 front ++ b ∷ []
continued_more front b some fits high small =
    continued_step (front * 128 + (b - 128)) some (omega arith)
    ∙ ap (λ (k : ℕ). continued 19 k ++ (128 + (front * 128 + (b - 128)) % 128) ∷ []) (omega arith)
    ∙ ap (λ (k : ℕ). continued 19 front ++ k ∷ []) (omega arith)

-- the last byte ends the groups
base128_ends : (front b : ℕ) → b < 128 → base128 (front * 128 + b) ≡ continued 19 front ++ b ∷ []
unfolding base128
base128_ends front b low =
    ap (λ (k : ℕ). continued 19 k ++ (front * 128 + b) % 128 ∷ []) (omega arith)
    ∙ ap (λ (k : ℕ). continued 19 front ++ k ∷ []) (omega arith)

pub read_sound : (front : ℕ) (bytes : List ℕ) (n : ℕ) (rest : List ℕ) → IsBytes bytes → read front bytes ≡ Some (n, rest) → IsRead front bytes n rest
read_sound front [] n rest small is_read = absurd (false≢true (ap found_some is_read))
read_sound front (b ∷ bs) n rest small is_read = elim (cases_lt front (2 ^ 121)) [
  | inl fits ↦ elim (cases_lt b 128) [
    | inl low ↦
        let e : Some (front * 128 + b, bs) ≡ Some (n, rest) = sym (read_last front b bs fits low) ∙ is_read in
        ends (ap first_part e) (ap second_part e) fits low
    | inr high ↦ elim (cases_eq (front * 128 + (b - 128)) 0) [
      | inl none ↦
          absurd (false≢true (ap found_some (sym (read_stops front b bs fits high none) ∙ is_read)))
      | inr some ↦
          let r : IsRead (front * 128 + (b - 128)) bs n rest = read_sound (front * 128 + (b - 128)) bs n rest (λ i. small (suc i)) (sym (read_on front b bs fits high some) ∙ is_read) in
          record {
            fits = r.fits;
            stands =
                sym (append_assoc (continued 19 front) (b ∷ []) bs)
                ∙ ap (λ (l : List ℕ). l ++ bs) (sym (continued_more front b some fits high (small 0)))
                ∙ r.stands;
            shorter = let s = r.shorter in omega arith;
          }
    ]
  ]
  | inr much ↦
      absurd (false≢true (ap found_some (sym (read_overflows front b bs much) ∙ is_read)))
]
  where
    ends : front * 128 + b ≡ n → bs ≡ rest → front < 2 ^ 121 → b < 128 → IsRead front (b ∷ bs) n rest
    ends n_is rest_is fits low = record {
      fits = omega arith;
      stands =
          sym (append_assoc (continued 19 front) (b ∷ []) bs)
          ∙ ap (λ (l : List ℕ). l ++ bs) (sym (base128_ends front b low))
          ∙ ap (λ (k : ℕ). base128 k ++ bs) n_is
          ∙ ap (λ (l : List ℕ). base128 n ++ l) rest_is;
      shorter = let l = ap length rest_is in omega arith;
    }

-- ---- the exits of the scan, at bytes `rest` after groups that stand for `front`

first_and_rest : (rest : List ℕ) → 1 ≤ length rest → rest ≡ get_or rest 0 0 ∷ take (length rest - 1) (drop 1 rest)
first_and_rest [] some = absurd (omega arith)
first_and_rest (b ∷ bs) some = ap (λ (l : List ℕ). b ∷ l) (sym (take_whole bs))
  where
    take_whole : (l : List ℕ) → take (length (b ∷ l) - 1) l ≡ l
    take_whole l = grind (arith, common_steps)

pub scan_last : (front : ℕ) (rest : List ℕ) → 1 ≤ length rest → front < 2 ^ 121 → get_or rest 0 0 < 128 → read front rest ≡ Some (front * 128 + get_or rest 0 0, take (length rest - 1) (drop 1 rest))
scan_last front rest some fits low = ap (λ (l : List ℕ). read front l) (first_and_rest rest some) ∙ read_last front (get_or rest 0 0) _ fits low

pub scan_overflows : (front : ℕ) (rest : List ℕ) → 2 ^ 121 ≤ front → read front rest ≡ None
scan_overflows front [] much = refl
scan_overflows front (b ∷ bs) much = read_overflows front b bs much

pub scan_stops : (rest : List ℕ) → 1 ≤ length rest → get_or rest 0 0 ≡ 128 → read 0 rest ≡ None
scan_stops rest some stops = ap (λ (l : List ℕ). read 0 l) (first_and_rest rest some) ∙ read_stops 0 (get_or rest 0 0) _ (omega arith) (omega arith) (omega arith)

pub scan_ends : (front : ℕ) (rest : List ℕ) → length rest < 1 → read front rest ≡ None
scan_ends front [] none = refl
scan_ends front (b ∷ bs) none = absurd (omega arith)

-- what a scan found is all that stands in front
pub only_read : (bytes : List ℕ) (m : ℕ) (rest : List ℕ) → read 0 bytes ≡ Some (m, rest) → (n : ℕ) (after : List ℕ) → FitsArc n → base128 n ++ after ≡ bytes → (m ≡ n) × (rest ≡ after)
only_read bytes m rest is_read n after fits stands =
    let e : Some (m, rest) ≡ Some (n, after) = sym is_read ∙ ap (λ (l : List ℕ). read 0 l) (sym stands) ∙ read_base128 n after fits in
    (ap first_part e, ap second_part e)

-- a scan that found nothing leaves no number
pub none_read : (bytes : List ℕ) → read 0 bytes ≡ None → (n : ℕ) (after : List ℕ) → FitsArc n → base128 n ++ after ≡ bytes → ⊥
none_read bytes is_none n after fits stands =
    false≢true (ap found_some (sym is_none ∙ ap (λ (l : List ℕ). read 0 l) (sym stands) ∙ read_base128 n after fits))

-- what a scan found stands there
pub found_read : (bytes : List ℕ) (m : ℕ) (rest : List ℕ) → IsBytes bytes → read 0 bytes ≡ Some (m, rest) → (base128 m ++ rest ≡ bytes) × (length rest < length bytes)
found_read bytes m rest small is_read =
    let r : IsRead 0 bytes m rest = read_sound 0 bytes m rest small is_read in
    (sym r.stands ∙ ap (λ (l : List ℕ). l ++ bytes) continued_zero, r.shorter)
