-- Rings: finite maps from names to entries, and the ring of a set of keys (own; RFC 7517 section 5).
use Rattle.std.specs.Prelude.{◌≡◌, ℕ, List, [], ◌∷◌, None, IsTrue}
use Rattle.std.specs.List.{AllZip}
use Rattle.std.specs.FinMap.{get, from_entries}
use Rattle.picky_key_der.specs.declared.public.PublicKeyKind.{PublicKeyKind}
use Rattle.picky_key.specs.Family.{is_of_family}
use Rattle.picky_jwk_key.specs.Public.{KeyOfJwk}
use Rattle.picky_jwk.specs.Jwk.{Jwk}
use Rattle.picky_ring.specs.declared.ring.RingEntry.{RingEntry}
use Rattle.picky_ring.specs.declared.ring.RingEntry.TheVariants.{Verify}
use Rattle.picky_ring.specs.Taken.{Taken, taken}
use Rattle.picky_ring.specs.TextMap.{TextMap}

-- an entry under its name
abbrev pub Named : Type 0
Named = List ℕ × RingEntry

-- the entry of a key that is taken: its public key, under its algorithm, which is of the key's family
pub record EntryOf (t : Taken) (e : Named) : Type 0 where
  pub key : PublicKeyKind
  pub is_key : KeyOfJwk t.key key
  pub fits : IsTrue (is_of_family t.algorithm key)
  pub is : e ≡ (t.name, Verify key t.algorithm)

-- the ring of entries
abbrev pub ring_with : List Named → TextMap RingEntry
ring_with es = from_entries es

-- no later entry has the name of an earlier one
abbrev pub AreApart : List Named → Type 0
AreApart [] = Unit {0}
AreApart (e ∷ es) = (get (ring_with es) e.0 ≡ None) × AreApart es

-- the keys that are taken, in order, have these entries, whose names are distinct, and the ring has exactly them
pub record RingOfJwks (keys : List Jwk) (ring : TextMap RingEntry) : Type 0 where
  pub entries : List Named
  pub each : AllZip EntryOf (taken keys) entries
  pub apart : AreApart entries
  pub is : ring ≡ ring_with entries
