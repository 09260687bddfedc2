-- Why keys make no ring, with the conditions in order (own).
use Rattle.std.specs.Prelude.{◌≡◌, ℕ, List, [], ◌∷◌, Option, Some, None, IsTrue, string_bytes}
use Rattle.std.specs.FinMap.{get, insert, empty}
use Rattle.picky_contract.specs.Refusals.{Table, need, named, done, ◌>>=◌}
use Rattle.picky_key.specs.Family.{is_of_family}
use Rattle.picky_jwk_key.specs.Refusals.{Fault, fault, public_table}
use Rattle.picky_jwk.specs.Jwk.{Jwk}
use Rattle.picky_ring.specs.declared.ring.KeysFault.{KeysFault}
use Rattle.picky_ring.specs.declared.ring.KeysFault.TheVariants as faults
use Rattle.picky_ring.specs.declared.ring.RingEntry.{RingEntry}
use Rattle.picky_ring.specs.declared.ring.RingEntry.TheVariants.{Verify}
use Rattle.picky_ring.specs.Taken.{Taken, taken}
use Rattle.picky_ring.specs.TextMap.{TextMap}

-- Why there is no ring, want of memory aside. No table names `inner_memory`, the want of memory of an inner error, so none is carried: it is the
-- fault's own.
pub data KeysRefusal : Type 0 where
  of_jwk : Fault → KeysRefusal
  wrong_family : List ℕ → KeysRefusal
  duplicate_name : List ℕ → KeysRefusal
  inner_memory : KeysRefusal

-- what an inner error says
abbrev pub held : Option Fault → KeysRefusal
held (Some f) = of_jwk f
held None = inner_memory

abbrev pub keys_fault : KeysFault → Option KeysRefusal
keys_fault (faults.Jwk error) = Some (held (fault error))
keys_fault (faults.AlgorithmFamily name) = Some (wrong_family (string_bytes name.0))
keys_fault (faults.DuplicateName name) = Some (duplicate_name (string_bytes name.0))
keys_fault faults.OutOfMemory = None

-- the entry of a key that is taken: it has a public key, and its algorithm is of that key's family
unfoldable pub entry_table : Taken → Table RingEntry KeysRefusal
entry_table t = do
  key ← named of_jwk (public_table t.key)
  fits ← need (IsTrue (is_of_family t.algorithm key)) (wrong_family t.name)
  done (Verify key t.algorithm)

-- a ring with the entry under a name that it hasn't
unfoldable pub added_table : TextMap RingEntry → List ℕ → RingEntry → Table (TextMap RingEntry) KeysRefusal
added_table ring name entry = do
  new ← need (get ring name ≡ None) (duplicate_name name)
  done (insert ring name entry)

-- a ring with the entry of one key more
unfoldable pub key_table : TextMap RingEntry → Taken → Table (TextMap RingEntry) KeysRefusal
key_table ring t = do
  entry ← entry_table t
  added_table ring t.name entry

-- the same where the key is taken; a ring as it is, where it is skipped
abbrev pub turn_table : TextMap RingEntry → Option Taken → Table (TextMap RingEntry) KeysRefusal
turn_table ring None = done ring
turn_table ring (Some t) = key_table ring t

-- a ring with those of all these keys, in order
abbrev pub keys_table : TextMap RingEntry → List Taken → Table (TextMap RingEntry) KeysRefusal
keys_table ring [] = done ring
keys_table ring (t ∷ ts) = do
  more ← key_table ring t
  keys_table more ts

-- the ring of a set's keys: of those that are taken, in order, each has an entry, under a name of its own
unfoldable pub ring_table : List Jwk → Table (TextMap RingEntry) KeysRefusal
ring_table keys = keys_table empty (taken keys)
