-- Keys and sets without where their texts lie in memory.
use Rattle.std.specs.Prelude.{List, map, option_map, string_bytes}
use Rattle.picky_jwk_key.specs.Keys.{key_view}
use Rattle.picky_jwk.specs.declared.jwk.Jwk as code
use Rattle.picky_jwk.specs.declared.set.JwkSet.{JwkSet}
use Rattle.picky_jwk.specs.Jwk.{Jwk}

abbrev pub jwk_view : code.Jwk → Jwk
jwk_view k = record {
  key = key_view k.key;
  alg = option_map (λ a. a) k.alg;
  key_use = option_map (λ a. a) k.key_use;
  key_ops = option_map (λ v. map (λ a. a) v.items) k.key_ops;
  kid = option_map string_bytes k.kid;
  x5u = option_map string_bytes k.x5u;
  x5c = option_map (λ v. map string_bytes v.items) k.x5c;
  x5t = option_map string_bytes k.x5t;
  x5t_s256 = option_map string_bytes k.x5t_s256;
}

-- a set is its keys in order
abbrev pub set_view : JwkSet → List Jwk
set_view s = map jwk_view s.keys.items
