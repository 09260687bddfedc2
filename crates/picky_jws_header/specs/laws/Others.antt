-- A tree that tells a header tells what it says of it beside its algorithm and additional members.
use Rattle.serde_json.specs.Data.{Data}
use Rattle.picky_jws_header.specs.Header.{Header, JwsHeaderOf}
use Rattle.picky_jws_header.specs.Others.{OthersOf}

pub others_part : (t : Data) (h : Header) → JwsHeaderOf t h → OthersOf t h
others_part t h k = record {
  jku = k.jku;
  jwk = k.jwk;
  typ = k.typ;
  cty = k.cty;
  kid = k.kid;
  x5u = k.x5u;
  x5c = k.x5c;
  x5t = k.x5t;
  x5t_s256 = k.x5t_s256;
}
