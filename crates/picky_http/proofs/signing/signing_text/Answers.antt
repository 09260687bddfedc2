use Rattle.std.proofs.Common.{◌≡◌, ◌++◌, ◌∷◌, [], List, ℕ, take, map, take_all, arith, sym, ap, subst, ◌∙◌, string_bytes}
use Rattle.std.specs.Cow.{cow_str_bytes}
use Rattle.picky_http.specs.Faults.{http_fault}
use Rattle.picky_http.specs.Signing.{line_text}
use Rattle.picky_http.specs.Parts.{part_of}
use Rattle.picky_http.specs.declared.header.Header.{Header}
use Rattle.picky_http.specs.laws.Lines.{signing_string_push}
use Rattle.picky_http.specs.Lines.{Asked, AreLines, request_of}
use Rattle.picky_http.proofs.Writing.{text_gives, text_refuses, lines_more, lines_length, string_first}
use Rattle.picky_http.proofs.signing.signing_text.Goals as goal
use Rattle.picky_http.proofs.signing.signing_text.Goals.{then-i-gt0+in_ok-push-in-Ok, else-i-gt0}

pub returns-in-Err : goal.returns-in-Err
returns-in-Err g c =
    let a : Asked = record { request = request_of g.Q.HttpRequest.answer g.Q.HttpRequest.method g.Q.HttpRequest.target c.args.request.now; created = c.args.created; expires = c.args.expires } in
    text_refuses a c.args.headers.now c.loop-i.i c.index-headers-i.result c.loop-i.invariant.0 (http_fault c.in-Err.e) c.loop-i-test.true c.index-headers-i.is c.loop-i.invariant.1 c.in-Err.ensures

pub loop-i-preserved : goal.loop-i-preserved
unfolding lib.Utf8.encode
loop-i-preserved g c =
    let a : Asked = record { request = request_of g.Q.HttpRequest.answer g.Q.HttpRequest.method g.Q.HttpRequest.target c.args.request.now; created = c.args.created; expires = c.args.expires } in
    let h = c.index-headers-i.result in
    let t = cow_str_bytes c.in-Ok.text in
    let ls = c.loop-i.invariant.0 in
    let count = lines_length a c.args.headers.now c.loop-i.i ls c.loop-i-test.true c.loop-i.invariant.1 in
    let written : string_bytes c.push_line.new.out ≡ string_bytes c.if-i-gt0.out ++ line_text (part_of h) t =
    c.in_ok-push_line-in-Ok.ensures ∙ ap (λ (b : List ℕ). string_bytes c.if-i-gt0.out ++ line_text (part_of h) b) c.as_str.ensures.value in (
      ls ++ (part_of h, t) ∷ [],
      lines_more a c.args.headers.now c.loop-i.i h ls t c.loop-i-test.true c.index-headers-i.is c.loop-i.invariant.1 c.in-Ok.ensures,
      elim c.if-i-gt0.branch [
        | then-i-gt0+in_ok-push-in-Ok w ↦ written ∙ ap (λ (b : List ℕ). b ++ line_text (part_of h) t) (ap string_bytes w.out-is ∙ w.in_ok-push-in-Ok.ensures.bytes ∙ ap (λ (b : List ℕ). b ++ 10 ∷ []) c.loop-i.invariant.2)
            ∙ sym (signing_string_push ls (part_of h, t) (omega (arith, count, w.if-i-gt0.true)))
        | else-i-gt0 w ↦ written ∙ ap (λ (b : List ℕ). b ++ line_text (part_of h) t) (ap string_bytes w.out-is ∙ c.loop-i.invariant.2)
            ∙ sym (string_first ls (part_of h, t) (omega (arith, count, w.if-i-gt0.false)))
      ],
    )

pub returns : goal.returns
returns g c =
    let a : Asked = record { request = request_of g.Q.HttpRequest.answer g.Q.HttpRequest.method g.Q.HttpRequest.target c.args.request.now; created = c.args.created; expires = c.args.expires } in
    let hs = c.args.headers.now in
    let ls = c.loop-i.invariant.0 in
    let whole : take c.loop-i.i hs ≡ hs = take_all c.loop-i.i hs (omega (arith, c.loop-i-test.false)) in
    text_gives a (map part_of hs) ls (string_bytes c.loop-i.out) (subst (λ (t : List Header). AreLines a (map part_of t) ls) whole c.loop-i.invariant.1) c.loop-i.invariant.2
