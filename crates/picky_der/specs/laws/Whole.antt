-- One value, and nothing after it.
use Rattle.std.proofs.Common.{◌≡◌, ℕ, ◌<◌, ◌≤◌, List, [], ◌++◌, Result, Ok, Err, refl, sym, ap, subst, ◌∙◌, arith, inl, inr}
use Rattle.std.proofs.lemmas.List.{append-nil}
use Rattle.picky_der.specs.declared.fault.DerError.{DerError}
use Rattle.picky_der.specs.declared.fault.DerError.TheVariants.{Truncated, WrongTag, BadLength, BadValue, TrailingBytes, TooDeep, OutOfMemory}
use Rattle.picky_der.specs.Length.{TailIsBytes}
use Rattle.picky_der.specs.Reading.{◌>>=◌, Gives, within, raw_at, end_at}
use Rattle.picky_der.specs.Form.{Form, Readable, Writable, OkUnlessDeep, Appends, whole}
use Rattle.picky_der.specs.laws.Steps.{bind_ok, ok_is}
use Rattle.picky_der.specs.laws.Depth.{either_way, allowed, too_deep, within_next}
use Rattle.picky_der.specs.laws.Headers.{raw_again, end_takes, end_again}

-- what a call answered, where reading gives y
ok_answered : {X Y : Type 0} (view : X → Y) (height : ℕ) (result : Result X DerError) (read : Result Y DerError) (y : Y) → Gives view result read → read ≡ Ok y → height ≤ 256 → OkUnlessDeep view height result y
ok_answered view height (Ok x) read y p q h = (ok_is (view x) y (sym p ∙ q), h)
ok_answered view height (Err OutOfMemory) read y p q h = tt
ok_answered view height (Err TooDeep) read y p q h = absurd (cc (p, q))
ok_answered view height (Err Truncated) read y p q h = absurd (cc (p, q))
ok_answered view height (Err (WrongTag a b)) read y p q h = absurd (cc (p, q))
ok_answered view height (Err BadLength) read y p q h = absurd (cc (p, q))
ok_answered view height (Err BadValue) read y p q h = absurd (cc (p, q))
ok_answered view height (Err TrailingBytes) read y p q h = absurd (cc (p, q))

-- what it answered, where reading is too deep
deep_answered : {X Y : Type 0} (view : X → Y) (height : ℕ) (result : Result X DerError) (read : Result Y DerError) (y : Y) → Gives view result read → read ≡ Err TooDeep → 256 < height → OkUnlessDeep view height result y
deep_answered view height (Ok x) read y p q h = absurd (cc (p, q))
deep_answered view height (Err OutOfMemory) read y p q h = tt
deep_answered view height (Err TooDeep) read y p q h = h
deep_answered view height (Err Truncated) read y p q h = absurd (cc (p, q))
deep_answered view height (Err (WrongTag a b)) read y p q h = absurd (cc (p, q))
deep_answered view height (Err BadLength) read y p q h = absurd (cc (p, q))
deep_answered view height (Err BadValue) read y p q h = absurd (cc (p, q))
deep_answered view height (Err TrailingBytes) read y p q h = absurd (cc (p, q))

-- what a call answered, where reading gives y within its height
pub OkUnlessDeep-from : {X Y : Type 0} (view : X → Y) (height : ℕ) (result : Result X DerError) (read : Result Y DerError) (y : Y) → Gives view result read → read ≡ within 0 height y → OkUnlessDeep view height result y
OkUnlessDeep-from view height result read y p q = elim (either_way 0 height) [
  | inl h ↦ ok_answered view height result read y p (q ∙ allowed 0 height y h) (omega arith)
  | inr h ↦ deep_answered view height result read y p (q ∙ too_deep 0 height y h) (omega arith)
]

module _ {X : Type 0} (f : Form X) (law : Readable f) where
  -- a value that was taken with nothing left is spelled by all the bytes
  pub taken_whole : (bytes s r : List ℕ) (y x : X) → f.in_form y → f.Spells s y → bytes ≡ s ++ r → r ≡ [] → y ≡ x → f.in_form x × f.Spells bytes x
  taken_whole bytes s r y x formed spelled parts none same =
      let all : bytes ≡ s = parts ∙ ap (λ (t : List ℕ). s ++ t) none ∙ append-nil s in
      (subst f.in_form same formed, subst (λ (z : X). f.Spells bytes z) same (rw all spelled))

  pub whole_takes : (bytes : List ℕ) (x : X) → TailIsBytes bytes → whole f.reading bytes ≡ Ok x → f.in_form x × f.Spells bytes x
  unfolding whole
  whole_takes bytes x fits e =
      let v = bind_ok (f.reading 0 bytes) (λ v. end_at v.1 >>= λ _. Ok v.0) x e in
      let n = bind_ok (end_at v.0.1) (λ _. Ok v.0.0) x v.2 in
      let t = law.takes 0 bytes v.0.0 v.0.1 fits v.1 in
      taken_whole bytes t.spelling v.0.1 v.0.0 x t.formed t.spelled t.parts (end_takes v.0.1 n.0 n.1) (ok_is v.0.0 x n.2)

  -- a spelling with nothing after it
  pub again_alone : (depth : ℕ) (bytes : List ℕ) (x : X) → f.in_form x → (p : f.Spells bytes x) → f.reading depth bytes ≡ within depth (f.height bytes x p) (x, [])
  again_alone depth bytes x formed p = ap (f.reading depth) (sym (append-nil bytes)) ∙ law.again depth bytes [] x formed p

  -- the same, and then the end: what follows makes y of the value
  pub alone_made : {Y : Type 0} (depth : ℕ) (bytes : List ℕ) (x : X) (make : X → Y) → f.in_form x → (p : f.Spells bytes x) → (f.reading depth bytes >>= λ v. end_at v.1 >>= λ _. Ok (make v.0)) ≡ within depth (f.height bytes x p) (make x)
  alone_made depth bytes x make formed p =
      let end : (end_at [] >>= λ _. Ok (make x)) ≡ Ok (make x) = rw end_again refl in
      rw (again_alone depth bytes x formed p) (within_next depth (f.height bytes x p) (x, []) (make x) (λ v. end_at v.1 >>= λ _. Ok (make v.0)) end)

  pub whole_again : (bytes : List ℕ) (x : X) → f.in_form x → (p : f.Spells bytes x) → whole f.reading bytes ≡ within 0 (f.height bytes x p) x
  unfolding whole
  whole_again bytes x formed p = alone_made 0 bytes x (λ y. y) formed p

module _ {X : Type 0} (f : Form X) (law : Writable f) where
  -- an encoding that stands alone is one value
  pub raw_alone : (bytes : List ℕ) (x : X) → f.Encodes bytes x → raw_at bytes ≡ Ok (bytes, [])
  raw_alone bytes x encoded = rw append-nil at (raw_again bytes [] (law.written bytes x encoded))

  -- what was written into nothing is the encoding
  pub encoding_appended : (old new : List ℕ) (x : X) → old ≡ [] → Appends (λ s. f.Encodes s x) old new → new ≡ f.encoding x
  encoding_appended old new x none a = a.new_is ∙ ap (λ (t : List ℕ). t ++ a.encoding) none ∙ law.is_encoding a.encoding x a.encoded

  pub raw_appended : (old new : List ℕ) (x : X) → old ≡ [] → Appends (λ s. f.Encodes s x) old new → raw_at new ≡ Ok (new, [])
  raw_appended old new x none a =
      let new-is : new ≡ a.encoding = a.new_is ∙ ap (λ (t : List ℕ). t ++ a.encoding) none in
      rw new-is (raw_alone a.encoding x a.encoded)
