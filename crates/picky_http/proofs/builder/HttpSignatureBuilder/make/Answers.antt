use Rattle.std.proofs.Common.{inl, inr, refl, ap, option_map, string_bytes}
use Rattle.picky_contract.specs.laws.Tables.{leads_meets, up}
use Rattle.picky_http.specs.Building.{draft_of, by_of, content_table, value_table, build_table}
use Rattle.picky_http.specs.Content.{content_of}
use Rattle.picky_http.specs.Faults.{http_fault}
use Rattle.picky_http.specs.Reading.{reading_of}
use Rattle.picky_http.specs.Verifying.{origin_of}
use Rattle.picky_http.proofs.Setting.{set_once, not_set}
use Rattle.picky_http.proofs.builder.HttpSignatureBuilder.make.Goals as goal

pub returns-in_default-key_id : goal.returns-in_default-key_id
unfolding build_table
returns-in_default-key_id g c =
    let d = draft_of c.args.self.now in
    let by = by_of c.in-Some.method in
    inr (by, set_once d.method by (ap (option_map by_of) c.in-Some.is), inl (refl, not_set d.key_id (ap (option_map string_bytes) c.in_default-key_id.is)))

pub returns-in_default-way : goal.returns-in_default-way
unfolding build_table
returns-in_default-way g c =
    let d = draft_of c.args.self.now in
    let by = by_of c.in-Some.method in
    let key_id = string_bytes c.in-Some-key_id.key_id in
    inr (
      by,
      set_once d.method by (ap (option_map by_of) c.in-Some.is),
      inr (key_id, set_once d.key_id key_id (ap (option_map string_bytes) c.in-Some-key_id.is), inl (refl, not_set d.way (ap (option_map origin_of) c.in_default-way.is))),
    )

pub returns-in-Err : goal.returns-in-Err
unfolding build_table
returns-in-Err g c =
    let d = draft_of c.args.self.now in
    let by = by_of c.in-Some.method in
    let key_id = string_bytes c.in-Some-key_id.key_id in
    let way = origin_of c.in-Some-way.way in
    let table = build_table (g.P.KeyProvider.sign_of c.args.provider.now) g.Q.HttpRequest.answer g.Q.HttpRequest.method g.Q.HttpRequest.target d in
    up (http_fault c.in-Err.e) (content_table g.Q.HttpRequest.answer g.Q.HttpRequest.method g.Q.HttpRequest.target d way).refuses table.refuses
    (λ f h. inr (
      by,
      set_once d.method by (ap (option_map by_of) c.in-Some.is),
      inr (
        key_id,
        set_once d.key_id key_id (ap (option_map string_bytes) c.in-Some-key_id.is),
        inr (way, set_once d.way way (ap (option_map origin_of) c.in-Some-way.is), inl h),
      ),
    ))
    c.in-Err.ensures

pub returns-in-Ok : goal.returns-in-Ok
unfolding build_table
returns-in-Ok g c =
    let d = draft_of c.args.self.now in
    let by = by_of c.in-Some.method in
    let key_id = string_bytes c.in-Some-key_id.key_id in
    let way = origin_of c.in-Some-way.way in
    let content = content_of c.in-Ok.content in
    let sign_of = g.P.KeyProvider.sign_of c.args.provider.now in
    let is_by = set_once d.method by (ap (option_map by_of) c.in-Some.is) in
    let is_key = set_once d.key_id key_id (ap (option_map string_bytes) c.in-Some-key_id.is) in
    let is_way = set_once d.way way (ap (option_map origin_of) c.in-Some-way.is) in
    let told = rw c.deref.ensures at c.value.ensures in
    leads_meets reading_of http_fault c.value.result (value_table sign_of by key_id content d.legacy)
    (build_table sign_of g.Q.HttpRequest.answer g.Q.HttpRequest.method g.Q.HttpRequest.target d)
    (record {
      gives = λ y h. (by, is_by, (key_id, is_key, (way, is_way, (content, c.in-Ok.ensures, h))));
      refuses = λ f h. inr (by, is_by, inr (key_id, is_key, inr (way, is_way, inr (content, c.in-Ok.ensures, h))));
    })
    told
