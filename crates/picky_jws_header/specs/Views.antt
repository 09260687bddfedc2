-- Headers without where their texts lie in memory.
use Rattle.std.specs.Prelude.{map, option_map, string_bytes}
use Rattle.picky_members.specs.Names.{pairs_view}
use Rattle.picky_jwk.specs.Views.{jwk_view}
use Rattle.picky_jws_header.specs.declared.header.JwsHeader.{JwsHeader}
use Rattle.picky_jws_header.specs.Header.{Header}

abbrev pub header_view : JwsHeader → Header
header_view h = record {
  alg = h.alg;
  jku = option_map string_bytes h.jku;
  jwk = option_map jwk_view h.jwk;
  typ = option_map string_bytes h.typ;
  cty = option_map string_bytes h.cty;
  kid = option_map string_bytes h.kid;
  x5u = option_map string_bytes h.x5u;
  x5c = option_map (λ v. map string_bytes v.items) h.x5c;
  x5t = option_map string_bytes h.x5t;
  x5t_s256 = option_map string_bytes h.x5t_s256;
  additional = pairs_view h.additional.entries;
}
