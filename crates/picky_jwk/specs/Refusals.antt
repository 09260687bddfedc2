-- Why a text tells no key or set, and keys with no other member (own; RFC 7517 section 4).
use Rattle.std.specs.Prelude.{ℕ, List, None}
use Rattle.serde_json.specs.Data.{Data}
use Rattle.picky_contract.specs.Refusals.{Table, the, done, ◌>>=◌}
use Rattle.picky_key_der.specs.declared.public.PublicKeyKind.{PublicKeyKind}
use Rattle.picky_members.specs.Members.{TextOf}
use Rattle.picky_jwk_key.specs.Keys.{Key}
use Rattle.picky_jwk_key.specs.Refusals.{Fault, json, jwk_table}
use Rattle.picky_jwk.specs.Jwk.{Jwk}

-- the tree of the text tells a value
abbrev pub json_table : {A : Type 0} → (Data → A → Type 0) → List ℕ → Table A Fault
json_table R text = the (TextOf R text) json

-- the key with no other member
abbrev pub bare : Key → Jwk
bare key = record { key = key; alg = None; key_use = None; key_ops = None; kid = None; x5u = None; x5c = None; x5t = None; x5t_s256 = None }

-- what holds a public key, with no other member
unfoldable pub bare_table : PublicKeyKind → Table Jwk Fault
bare_table p = do
  key ← jwk_table p
  done (bare key)
