-- The laws of a type told by its tag.
use Rattle.std.proofs.Common.{◌≡◌, ◌≢◌, ℕ, ◌^◌, ◌<◌, Bool, true, false, ◌⊎◌, List, [], ◌∷◌, ◌++◌, length, Result, Ok, Err, refl, sym, ap, subst, arith, inl, inr}
use Rattle.std.specs.Prelude.{◌||◌}
use Rattle.picky_der.specs.declared.fault.DerError.{DerError}
use Rattle.picky_der.specs.declared.fault.DerError.TheVariants.{Truncated}
use Rattle.picky_der.specs.Length.{TailIsBytes}
use Rattle.picky_der.specs.Reading.{◌>>=◌, within, tag_at}
use Rattle.picky_der.specs.Form.{Form, Readable, Writable, IsOneValue, BeginsBy, Takes}
use Rattle.picky_der.specs.laws.Steps.{chosen, ok_is, bind_ok, pair_snd}
use Rattle.picky_der.specs.laws.Prefixes.{Stays, bind_err}
use Rattle.picky_fields.specs.Choice.{either_by, either_at, either}
use Rattle.picky_fields.specs.laws.Depths.{at_map}
use Rattle.picky_fields.specs.laws.Fields.{Lawful, or_left, or_right}

-- ---- one type or another

abbrev bad : {A : Type 0} → DerError → Result A DerError
bad e = Err e

fault_is : {A : Type 0} (d e : DerError) → bad {A = A} d ≡ bad {A = A} e → d ≡ e
fault_is d e h = cc

head_same : (m n : ℕ) (s t : List ℕ) → m ∷ s ≡ n ∷ t → m ≡ n
head_same m n s t e = cc

same_front : (f g : ℕ → Bool) → (s t a b : List ℕ) → BeginsBy f s → BeginsBy g t → s ++ a ≡ t ++ b → ((n : ℕ) → g n ≡ true → f n ≡ false) → ⊥
same_front f g [] t a b h k e apart = h
same_front f g (m ∷ s) [] a b h k e apart = k
same_front f g (m ∷ s) (n ∷ t) a b h k e apart =
    let same : m ≡ n = head_same m n (s ++ a) (t ++ b) e in
    let none : f m ≡ false = rw same (apart n k) in
    cc

abbrev left : {X Z : Type 0} → X → X ⊎ Z
left x = inl x

abbrev right : {X Z : Type 0} → Z → X ⊎ Z
right z = inr z

begins_left : (f g : ℕ → Bool) (s : List ℕ) → BeginsBy f s → BeginsBy (λ b. f b || g b) s
begins_left f g [] h = absurd h
begins_left f g (b ∷ bs) h = or_left (f b) (g b) h

begins_right : (f g : ℕ → Bool) (s : List ℕ) → BeginsBy g s → BeginsBy (λ b. f b || g b) s
begins_right f g [] h = absurd h
begins_right f g (b ∷ bs) h = or_right (f b) (g b) h

module _ {X Z : Type 0} (f : Form X) (g : Form Z) (apart : (b : ℕ) → g.begins b ≡ true → f.begins b ≡ false) (lf : Readable f) (lg : Readable g) where
  abbrev all : Form (X ⊎ Z)
  all = either f g

  clash : (x : X) (z : Z) (s t a b : List ℕ) → f.in_form x → g.in_form z → f.Spells s x → g.Spells t z → s ++ a ≡ t ++ b → ⊥
  clash x z s t a b h i p q e = same_front f.begins g.begins s t a b (lf.first s x h p) (lg.first t z i q) e apart

  either_one_value : (s : List ℕ) (x : X ⊎ Z) → all.in_form x → all.Spells s x → IsOneValue s
  either_one_value s (inl x) h p = lf.one_value s x h p
  either_one_value s (inr z) h p = lg.one_value s z h p

  either_prefix_free : (x y : X ⊎ Z) (s t a b : List ℕ) → all.in_form x → all.in_form y → all.Spells s x → all.Spells t y → s ++ a ≡ t ++ b → (s ≡ t) × (x ≡ y)
  either_prefix_free (inl x) (inl y) s t a b h i p q e = let k = lf.prefix_free x y s t a b h i p q e in (k.0, ap (λ (z : X). left z) k.1)
  either_prefix_free (inl x) (inr y) s t a b h i p q e = absurd (clash x y s t a b h i p q e)
  either_prefix_free (inr x) (inl y) s t a b h i p q e = absurd (clash y x t s b a i h q p (sym e))
  either_prefix_free (inr x) (inr y) s t a b h i p q e = let k = lg.prefix_free x y s t a b h i p q e in (k.0, ap (λ (z : Z). right z) k.1)

  left_taken : (bytes r rest : List ℕ) (w : X) (y : X ⊎ Z) → Takes f.in_form f.Spells bytes w r → ◌≡◌ {A = (X ⊎ Z) × List ℕ} (inl w, r) (y, rest) → Takes all.in_form all.Spells bytes y rest
  left_taken bytes r rest w y t same =
      subst (λ (p : (X ⊎ Z) × List ℕ). Takes all.in_form all.Spells bytes p.0 p.1) same
      (record { formed = t.formed; spelling = t.spelling; spelled = t.spelled; parts = t.parts })

  right_taken : (bytes r rest : List ℕ) (w : Z) (y : X ⊎ Z) → Takes g.in_form g.Spells bytes w r → ◌≡◌ {A = (X ⊎ Z) × List ℕ} (inr w, r) (y, rest) → Takes all.in_form all.Spells bytes y rest
  right_taken bytes r rest w y t same =
      subst (λ (p : (X ⊎ Z) × List ℕ). Takes all.in_form all.Spells bytes p.0 p.1) same
      (record { formed = t.formed; spelling = t.spelling; spelled = t.spelled; parts = t.parts })

  abbrev split : (depth : ℕ) (bytes : List ℕ) (y : X ⊎ Z) (rest : List ℕ) → Type 0
  split depth bytes y rest =
      ((v : X × List ℕ) × (f.reading depth bytes ≡ Ok v) × ◌≡◌ {A = (X ⊎ Z) × List ℕ} (inl v.0, v.1) (y, rest))
      ⊎ ((v : Z × List ℕ) × (g.reading depth bytes ≡ Ok v) × ◌≡◌ {A = (X ⊎ Z) × List ℕ} (inr v.0, v.1) (y, rest))

  either_read : (depth : ℕ) (bytes : List ℕ) (y : X ⊎ Z) (rest : List ℕ) → all.reading depth bytes ≡ Ok (y, rest) → split depth bytes y rest
  unfolding either_at
  either_read depth bytes y rest e =
      let t = bind_ok (tag_at bytes) (λ tag. either_by f.begins f.reading g.reading depth bytes tag) (y, rest) e in
      elim (chosen (f.begins t.0) (f.reading depth bytes >>= λ x. Ok (left x.0, x.1)) (g.reading depth bytes >>= λ z. Ok (right z.0, z.1)) (Ok (y, rest)) t.2) [
        | inl h ↦
            let v = bind_ok (f.reading depth bytes) (λ x. Ok (left x.0, x.1)) (y, rest) h.1 in
            inl (v.0, v.1, ok_is (left v.0.0, v.0.1) (y, rest) v.2)
        | inr h ↦
            let v = bind_ok (g.reading depth bytes) (λ z. Ok (right z.0, z.1)) (y, rest) h.1 in
            inr (v.0, v.1, ok_is (right v.0.0, v.0.1) (y, rest) v.2)
      ]

  either_takes : (depth : ℕ) (bytes : List ℕ) (y : X ⊎ Z) (rest : List ℕ) → TailIsBytes bytes → all.reading depth bytes ≡ Ok (y, rest) → Takes all.in_form all.Spells bytes y rest
  either_takes depth bytes y rest fits e =
      elim (either_read depth bytes y rest e) [
        | inl v ↦ left_taken bytes v.0.1 rest v.0.0 y (lf.takes depth bytes v.0.0 v.0.1 fits v.1) v.2
        | inr v ↦ right_taken bytes v.0.1 rest v.0.0 y (lg.takes depth bytes v.0.0 v.0.1 fits v.1) v.2
      ]

  -- what the first byte tells
  first_told : (depth : ℕ) (s rest : List ℕ) → BeginsBy f.begins s → either_at f.begins f.reading g.reading depth (s ++ rest) ≡ (f.reading depth (s ++ rest) >>= λ x. Ok (left x.0, x.1))
  unfolding either_at tag_at
  first_told depth [] rest h = absurd h
  first_told depth (b ∷ bs) rest h = rw h refl

  other_told : (depth : ℕ) (s rest : List ℕ) → BeginsBy g.begins s → either_at f.begins f.reading g.reading depth (s ++ rest) ≡ (g.reading depth (s ++ rest) >>= λ z. Ok (right z.0, z.1))
  unfolding either_at tag_at
  other_told depth [] rest h = absurd h
  other_told depth (b ∷ bs) rest h = let none = apart b h in rw none refl

  either_again : (depth : ℕ) (s rest : List ℕ) (y : X ⊎ Z) → all.in_form y → (p : all.Spells s y) → all.reading depth (s ++ rest) ≡ within depth (all.height s y p) (y, rest)
  either_again depth s rest (inl x) h p =
      rw (first_told depth s rest (lf.first s x h p)) (at_map depth _ _ (λ x. Ok (left x.0, x.1)) (x, rest) (left x, rest) (lf.again depth s rest x h p) refl)
  either_again depth s rest (inr z) h p =
      rw (other_told depth s rest (lg.first s z h p)) (at_map depth _ _ (λ z. Ok (right z.0, z.1)) (z, rest) (right z, rest) (lg.again depth s rest z h p) refl)

  begun : (test : ℕ → Bool) (b : ℕ) (bs back : List ℕ) → BeginsBy test ((b ∷ bs) ++ back) → test b ≡ true
  begun test b bs back h = h

  either_cut : (depth : ℕ) (front back : List ℕ) (y : X ⊎ Z) → all.in_form y → all.Spells (front ++ back) y → back ≢ [] → all.reading depth front ≡ Err Truncated
  unfolding either_at tag_at
  either_cut depth [] back y h p some = refl
  either_cut depth (b ∷ bs) back (inl x) h p some =
      let told = begun f.begins b bs back (lf.first ((b ∷ bs) ++ back) x h p) in
      rw (told, lf.cut depth (b ∷ bs) back x h p some) refl
  either_cut depth (b ∷ bs) back (inr z) h p some =
      let none = apart b (begun g.begins b bs back (lg.first ((b ∷ bs) ++ back) z h p)) in
      rw (none, lg.cut depth (b ∷ bs) back z h p some) refl

  either_stays : (depth : ℕ) → Stays (all.reading depth)
  unfolding either_at tag_at
  either_stays depth [] more e other h = absurd (other (sym (fault_is {A = (X ⊎ Z) × List ℕ} Truncated e h)))
  either_stays depth (b ∷ bs) more e other h =
      elim (chosen (f.begins b) (f.reading depth (b ∷ bs) >>= λ x. Ok (left x.0, x.1)) (g.reading depth (b ∷ bs) >>= λ z. Ok (right z.0, z.1)) (Err e) h) [
        | inl c ↦
            elim (bind_err (f.reading depth (b ∷ bs)) (λ x. Ok (left x.0, x.1)) e c.1) [
              | inl k ↦ rw (c.0, lf.stays depth (b ∷ bs) more e other k) refl
              | inr k ↦ absurd (let g = k.2 in cc)
            ]
        | inr c ↦
            elim (bind_err (g.reading depth (b ∷ bs)) (λ z. Ok (right z.0, z.1)) e c.1) [
              | inl k ↦ rw (c.0, lg.stays depth (b ∷ bs) more e other k) refl
              | inr k ↦ absurd (let g = k.2 in cc)
            ]
      ]

  either_shorter : (depth : ℕ) (bytes : List ℕ) (y : X ⊎ Z) (rest : List ℕ) → all.reading depth bytes ≡ Ok (y, rest) → length rest < length bytes
  either_shorter depth bytes y rest e =
      elim (either_read depth bytes y rest e) [
        | inl v ↦ omega (arith, lf.shorter depth bytes v.0.0 v.0.1 v.1, ap length (pair_snd _ _ v.2))
        | inr v ↦ omega (arith, lg.shorter depth bytes v.0.0 v.0.1 v.1, ap length (pair_snd _ _ v.2))
      ]

  either_first : (s : List ℕ) (x : X ⊎ Z) → all.in_form x → all.Spells s x → BeginsBy all.begins s
  either_first s (inl x) h p = begins_left f.begins g.begins s (lf.first s x h p)
  either_first s (inr z) h p = begins_right f.begins g.begins s (lg.first s z h p)

  either_readable : Readable all
  either_readable = record { one_value = either_one_value; prefix_free = either_prefix_free; takes = either_takes; again = either_again; shorter = either_shorter; first = either_first; cut = either_cut; stays = either_stays }

module _ {X Z : Type 0} (f : Form X) (g : Form Z) (lf : Writable f) (lg : Writable g) where
  abbrev both : Form (X ⊎ Z)
  both = either f g

  either_encodes : (s : List ℕ) (x : X ⊎ Z) → both.in_form x → both.Encodes s x → both.Spells s x
  either_encodes s (inl x) h p = lf.encodes s x h p
  either_encodes s (inr z) h p = lg.encodes s z h p

  either_written : (s : List ℕ) (x : X ⊎ Z) → both.Encodes s x → IsOneValue s
  either_written s (inl x) p = lf.written s x p
  either_written s (inr z) p = lg.written s z p

  either_is : (s : List ℕ) (x : X ⊎ Z) → both.Encodes s x → s ≡ both.encoding x
  either_is s (inl x) p = lf.is_encoding s x p
  either_is s (inr z) p = lg.is_encoding s z p

  either_has : (x : X ⊎ Z) → both.in_form x → length (both.encoding x) < 2 ^ 64 → both.Encodes (both.encoding x) x
  either_has (inl x) h fits = lf.has_encoding x h fits
  either_has (inr z) h fits = lg.has_encoding z h fits

  either_not : (s : List ℕ) (x : X ⊎ Z) → both.Encodes s x → both.Refused x → ⊥
  either_not s (inl x) p r = lf.not_refused s x p r
  either_not s (inr z) p r = lg.not_refused s z p r

  either_accepted : (x : X ⊎ Z) → both.in_form x → both.Refused x → ⊥
  either_accepted (inl x) h r = lf.accepted x h r
  either_accepted (inr z) h r = lg.accepted z h r

  either_writable : Writable both
  either_writable = record { encodes = either_encodes; written = either_written; is_encoding = either_is; has_encoding = either_has; not_refused = either_not; accepted = either_accepted }

pub either_lawful : {X Z : Type 0} {f : Form X} {g : Form Z} → ((b : ℕ) → g.begins b ≡ true → f.begins b ≡ false) → Lawful f → Lawful g → Lawful (either f g)
either_lawful {f = f} {g = g} apart lf lg = record { readable = either_readable f g apart lf.readable lg.readable; writable = either_writable f g lf.writable lg.writable }
