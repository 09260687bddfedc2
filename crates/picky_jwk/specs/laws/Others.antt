-- A tree that tells a key tells what it says of it beside what it holds.
use Rattle.serde_json.specs.Data.{Data}
use Rattle.picky_jwk.specs.Jwk.{Jwk, JwkOf}
use Rattle.picky_jwk.specs.Others.{OthersOf}

pub others_part : (t : Data) (k : Jwk) → JwkOf t k → OthersOf t k
others_part t k h = record {
  alg = h.alg;
  key_use = h.key_use;
  key_ops = h.key_ops;
  kid = h.kid;
  x5u = h.x5u;
  x5c = h.x5c;
  x5t = h.x5t;
  x5t_s256 = h.x5t_s256;
}
