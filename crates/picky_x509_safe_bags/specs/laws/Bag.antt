-- The laws of bags of all levels.
use Rattle.std.proofs.Common.{◌≡◌, ◌≢◌, ℕ, suc, ◌+◌, ◌≤◌, ◌<◌, ◌^◌, List, [], ◌∷◌, ◌++◌, length, Result, Ok, Err, sym, ap, subst, ◌∙◌, arith, inl, inr}
use Rattle.picky_der.specs.declared.fault.DerError.{DerError}
use Rattle.picky_der.specs.declared.fault.DerError.TheVariants.{Truncated, TooDeep}
use Rattle.picky_der.specs.Length.{TailIsBytes}
use Rattle.picky_der.specs.Reading.{within}
use Rattle.picky_der.specs.Form.{Form, Readable, Writable, IsOneValue, BeginsBy, Takes, Writes}
use Rattle.picky_fields.specs.Fields.{explicit, sequence}
use Rattle.picky_fields.specs.laws.Fields.{Lawful}
use Rattle.picky_asn1_wrapper.specs.Lists.{SpellsAll, SomeRefused}
use Rattle.picky_x509_safe_bags.specs.declared.safe_bag.SafeBag.{SafeBag}
use Rattle.picky_x509_safe_bags.specs.Kind.{HeldValue, held, held_cases}
use Rattle.picky_x509_safe_bags.specs.Bag.{kind_field, bag_fields, bag_within, safe_bag}
use Rattle.picky_x509_safe_bags.specs.laws.Alike.{enough_alike}
use Rattle.picky_x509_safe_bags.specs.laws.Encodings.{within_encoding}
use Rattle.picky_x509_safe_bags.specs.laws.Grows.{Grows, spells_all, within_grows}
use Rattle.picky_x509_safe_bags.specs.laws.Levels.{within_lawful}

abbrev at : ℕ → Form SafeBag
at n = bag_within TooDeep n

laws_at : (n : ℕ) → Lawful (at n)
laws_at n = within_lawful TooDeep n

abbrev to : (n m : ℕ) → n ≤ m → Grows (at n) (at m)
to n m h = within_grows TooDeep TooDeep n m h

-- ---- reading

bag_one_value : (s : List ℕ) (x : SafeBag) → safe_bag.in_form x → safe_bag.Spells s x → IsOneValue s
unfolding safe_bag
bag_one_value s x h p =
    let m = h.0 + p.0 in
    (laws_at m).readable.one_value s x ((to h.0 m (omega arith)).formed x h.1) ((to p.0 m (omega arith)).spells s x p.1)

bag_prefix_free : (x y : SafeBag) (s t a b : List ℕ) → safe_bag.in_form x → safe_bag.in_form y → safe_bag.Spells s x → safe_bag.Spells t y → s ++ a ≡ t ++ b → (s ≡ t) × (x ≡ y)
unfolding safe_bag
bag_prefix_free x y s t a b h i p q e =
    let m = h.0 + p.0 + (i.0 + q.0) in
    (laws_at m).readable.prefix_free x y s t a b ((to h.0 m (omega arith)).formed x h.1) ((to i.0 m (omega arith)).formed y i.1) ((to p.0 m (omega arith)).spells s x p.1) ((to q.0 m (omega arith)).spells t y q.1) e

bag_takes : (depth : ℕ) (bytes : List ℕ) (x : SafeBag) (rest : List ℕ) → TailIsBytes bytes → safe_bag.reading depth bytes ≡ Ok (x, rest) → Takes safe_bag.in_form safe_bag.Spells bytes x rest
unfolding safe_bag
bag_takes depth bytes x rest fits e =
    let t = (laws_at 86).readable.takes depth bytes x rest fits e in
    record { formed = (86, t.formed); spelling = t.spelling; spelled = (86, t.spelled); parts = t.parts }

bag_again : (depth : ℕ) (s rest : List ℕ) (x : SafeBag) → safe_bag.in_form x → (p : safe_bag.Spells s x) → safe_bag.reading depth (s ++ rest) ≡ within depth (safe_bag.height s x p) (x, rest)
unfolding safe_bag
bag_again depth s rest x h p =
    let m = h.0 + p.0 + 86 in
    let k = to p.0 m (omega arith) in
    enough_alike TooDeep TooDeep 86 m depth (omega arith) (omega arith) (s ++ rest)
    ∙ (laws_at m).readable.again depth s rest x ((to h.0 m (omega arith)).formed x h.1) (k.spells s x p.1)
    ∙ ap (λ (n : ℕ). within depth n (x, rest)) (k.height s x p.1)

bag_first : (s : List ℕ) (x : SafeBag) → safe_bag.in_form x → safe_bag.Spells s x → BeginsBy safe_bag.begins s
unfolding safe_bag bag_within
bag_first s x h p =
    let m = h.0 + p.0 in
    (laws_at (suc m)).readable.first s x ((to h.0 (suc m) (omega arith)).formed x h.1) ((to p.0 (suc m) (omega arith)).spells s x p.1)

bag_cut : (depth : ℕ) (front back : List ℕ) (x : SafeBag) → safe_bag.in_form x → safe_bag.Spells (front ++ back) x → back ≢ [] → safe_bag.reading depth front ≡ Err Truncated
unfolding safe_bag
bag_cut depth front back x h p some =
    let m = h.0 + p.0 + 86 in
    enough_alike TooDeep TooDeep 86 m depth (omega arith) (omega arith) front
    ∙ (laws_at m).readable.cut depth front back x ((to h.0 m (omega arith)).formed x h.1) ((to p.0 m (omega arith)).spells (front ++ back) x p.1) some

bag_readable : Readable safe_bag
unfolding safe_bag
bag_readable = record {
  one_value = bag_one_value;
  prefix_free = bag_prefix_free;
  takes = bag_takes;
  again = bag_again;
  shorter = λ depth bytes x rest e. (laws_at 86).readable.shorter depth bytes x rest e;
  first = bag_first;
  cut = bag_cut;
  stays = λ depth bytes more e other h. (laws_at 86).readable.stays depth bytes more e other h;
}

-- a bag without a limit is read as with any limit of 86 levels or more
pub bag_reads_alike : (deep : DerError) (levels depth : ℕ) (bytes : List ℕ) → 86 ≤ levels → safe_bag.reading depth bytes ≡ (bag_within deep levels).reading depth bytes
unfolding safe_bag
bag_reads_alike deep levels depth bytes h = enough_alike TooDeep deep 86 levels depth (omega arith) h bytes

-- ---- writing

bag_has_encoding : (x : SafeBag) → safe_bag.in_form x → length (safe_bag.encoding x) < 2 ^ 64 → safe_bag.Encodes (safe_bag.encoding x) x
unfolding safe_bag
bag_has_encoding x h fits =
    let e = within_encoding TooDeep h.0 x in
    (h.0, subst (λ (s : List ℕ). (at h.0).Encodes s x) e ((laws_at h.0).writable.has_encoding x h.1 (subst (λ (s : List ℕ). length s < 2 ^ 64) (sym e) fits)))

bag_writable : Writable safe_bag
unfolding safe_bag
bag_writable = record {
  encodes = λ s x h p.
      let m = h.0 + p.0 in
      (m, (laws_at m).writable.encodes s x ((to h.0 m (omega arith)).formed x h.1) ((to p.0 m (omega arith)).encodes s x p.1));
  written = λ s x p. (laws_at p.0).writable.written s x p.1;
  is_encoding = λ s x p. (laws_at p.0).writable.is_encoding s x p.1 ∙ within_encoding TooDeep p.0 x;
  has_encoding = bag_has_encoding;
  not_refused = λ s x p r.
      let m = p.0 + r.0 in
      (laws_at m).writable.not_refused s x ((to p.0 m (omega arith)).encodes s x p.1) ((to r.0 m (omega arith)).refused x r.1);
  accepted = λ x h r.
      let m = h.0 + r.0 in
      (laws_at m).writable.accepted x ((to h.0 m (omega arith)).formed x h.1) ((to r.0 m (omega arith)).refused x r.1);
}

pub safe_bag_lawful : Lawful safe_bag
safe_bag_lawful = record { readable = bag_readable; writable = bag_writable }

-- ---- a bag whose inner bags have any number of levels has some number of levels

all_encode : (s : List ℕ) (xs : List SafeBag) → SpellsAll safe_bag.Encodes s xs → (n : ℕ) × SpellsAll (at n).Encodes s xs
unfolding safe_bag
all_encode s [] p = (0, p)
all_encode s (x ∷ xs) p =
    let k = all_encode p.1 xs p.4 in
    let n = p.3.0 + k.0 in
    (n, (p.0, p.1, p.2, (to p.3.0 n (omega arith)).encodes p.0 x p.3.1, spells_all (to k.0 n (omega arith)).encodes p.1 xs k.1))

some_refused : (xs : List SafeBag) → SomeRefused safe_bag.Refused xs → (n : ℕ) × SomeRefused (at n).Refused xs
unfolding safe_bag
some_refused [] r = absurd r
some_refused (x ∷ xs) (inl r) = (r.0, inl r.1)
some_refused (x ∷ xs) (inr r) = let k = some_refused xs r in (k.0, inr k.1)

held_encode : (s : List ℕ) (y : HeldValue) → (held_cases safe_bag).Encodes s y → (n : ℕ) × (held_cases (at n)).Encodes s y
unfolding held_cases explicit
held_encode s (inl xs) p =
    let k = all_encode p.fields.contents xs p.fields.items in
    (k.0, record { contents = p.contents; fields = record { contents = p.fields.contents; value = p.fields.value; items = k.1 }; value = p.value })
held_encode s (inr o) p = (0, p)

held_refused : (y : HeldValue) → (held_cases safe_bag).Refused y → (n : ℕ) × (held_cases (at n)).Refused y
unfolding held_cases explicit
held_refused (inl xs) r = some_refused xs r
held_refused (inr o) r = (0, r)

layer_encodes : (s : List ℕ) (b : SafeBag) → (sequence (bag_fields safe_bag)).Encodes s b → safe_bag.Encodes s b
unfolding bag_fields kind_field bag_within held_cases safe_bag
layer_encodes s b p =
    let f = p.fields in
    let k = held_encode f.is_first.back (held b.kind) f.is_first.is_second in (
      suc k.0,
      record {
        contents = p.contents;
        fields = record {
          front = f.front;
          is_first = record { front = f.is_first.front; is_first = f.is_first.is_first; back = f.is_first.back; is_second = k.1; parts = f.is_first.parts };
          back = f.back;
          is_second = f.is_second;
          parts = f.parts;
        };
        value = p.value;
      },
    )

layer_refused : (b : SafeBag) → (sequence (bag_fields safe_bag)).Refused b → safe_bag.Refused b
unfolding bag_fields kind_field bag_within held_cases safe_bag
layer_refused b (inl (inl i)) = (1, inl (inl i))
layer_refused b (inl (inr j)) = let k = held_refused (held b.kind) j in (suc k.0, inl (inr k.1))
layer_refused b (inr a) = (1, inr a)

pub layer_writes : (b : SafeBag) (r : Result (Unit {0}) DerError) (old new : List ℕ) → Writes (λ s. (sequence (bag_fields safe_bag)).Encodes s b) ((sequence (bag_fields safe_bag)).Refused b) r old new → Writes (λ s. safe_bag.Encodes s b) (safe_bag.Refused b) r old new
layer_writes b (Ok u) old new w = record { encoding = w.encoding; encoded = layer_encodes w.encoding b w.encoded; new_is = w.new_is }
layer_writes b (Err e) old new w = (elim w.0 [ inl m ↦ inl m | inr q ↦ inr (q.0, layer_refused b q.1) ], w.1)
