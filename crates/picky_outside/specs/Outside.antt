-- What a fetch and a write do, and when they may fail (own).
--
-- An object of the outside may keep to itself what it holds, what it took or what it was asked: then
-- that meaning is none, and a clause says no more of bytes than their number.
use Rattle.std.specs.Prelude.{◌≡◌, ◌⊎◌, ◌≤◌, ◌<◌, ℕ, ◌+◌, List, [], ◌∷◌, ◌++◌, length, take, Option, Some, None, MatchOption, Result, Ok, Err, OnOk, OnErr, IsErrOf, String, string_bytes, map}
use Rattle.std.specs.declared.alloc.Global.{Global}
use Rattle.picky_contract.specs.Causes.{Rose}
use Rattle.picky_outside.specs.declared.cabinet.FetchFault.{FetchFault}
use Rattle.picky_outside.specs.declared.cabinet.FetchFault.TheVariants as fetch

-- the texts of words, as bytes
abbrev pub texts_of : List (String Global) → List (List ℕ)
texts_of words = map string_bytes words

-- the bytes are the content, or its first limit + 1 bytes where it is longer
abbrev pub IsFetched : Option (List ℕ) → ℕ → List ℕ → Type 0
IsFetched None limit bytes = length bytes ≤ limit + 1
IsFetched (Some content) limit bytes = bytes ≡ take (limit + 1) content

-- a fetch fails only where the count of faults rose, and every other answer leaves the count
pub record FetchCause {T : Type 0} (before now : ℕ) (result : Result T FetchFault) : Type 0 where
  pub later : before ≤ now
  pub fetched : OnOk result (now ≡ before)
  pub memory : IsErrOf result fetch.OutOfMemory → now ≡ before
  pub failed : IsErrOf result fetch.Failed → Rose before now

-- a write fails only where the count of faults rose, and a success leaves the count
pub record WriteCause {T E : Type 0} (before now : ℕ) (result : Result T E) : Type 0 where
  pub later : before ≤ now
  pub written : OnOk result (now ≡ before)
  pub failed : OnErr result (Rose before now)

-- where the object tells its list, that is now the one before and these items, and it is told still
abbrev pub Adds : {A : Type 0} → Option (List A) → List A → Option (List A) → Type 0
Adds None items new = Unit {0}
Adds (Some old) items new = new ≡ Some (old ++ items)

-- where the cabinet tells what it was asked, the path is now the last; only where memory is wanting it may be missing
pub record FetchAsks {T : Type 0} (before : Option (List (List ℕ))) (path : List ℕ) (now : Option (List (List ℕ))) (result : Result T FetchFault) : Type 0 where
  pub fetched : OnOk result (Adds before (path ∷ []) now)
  pub failed : IsErrOf result fetch.Failed → Adds before (path ∷ []) now
  pub memory : IsErrOf result fetch.OutOfMemory → (now ≡ before) ⊎ Adds before (path ∷ []) now

-- How many bytes of a piece were taken, where the system said this: what it says, unless that is nothing of a
-- piece that isn't empty, or an error; then it is none.
abbrev pub IsTakenOf : {E : Type 0} → List ℕ → Result ℕ E → Option ℕ → Type 0
IsTakenOf piece (Ok said) taken = MatchOption taken ((said ≡ 0) × (0 < length piece)) (λ n. (n ≡ said) × ((0 < said) ⊎ (length piece ≡ 0)))
IsTakenOf piece (Err e) taken = taken ≡ None
