use Rattle.std.proofs.Common.{arith, ◌∙◌, sym, ap, take, length-take}
use Rattle.picky_http_request.specs.Heads.{head_of, Head}
use Rattle.httparse.proofs.GrammarLemmas.{request_unique}
use Rattle.picky_http_request.proofs.Spans.{token_is_text, names_are_text, lower_same, same_count, head_same_parts}
use Rattle.picky_http_request.proofs.read.find_head.Goals as goal

pub text_at-requires-clause-text : goal.text_at-requires-clause-text
text_at-requires-clause-text c =
    let told = rw c.in-Ok-Complete.field-0-is at c.in-Ok-Complete.ensures in
    let h = told.complete.0 in
    let at = told.complete.1 in
    rw at.method (token_is_text h.method at.reads.0.method)

pub fields_at-requires : goal.fields_at-requires
fields_at-requires c k d l =
    let told = rw c.in-Ok-Complete.field-0-is at c.in-Ok-Complete.ensures in
    let h = told.complete.0 in
    let at = told.complete.1 in
    let section = told.within.section in
    let fit = section.headers_fit k d l in
    record {
      name_ordered = fit.0.0;
      name_fits = omega (arith, fit.0.1, section.len_fits);
      name_text = names_are_text c.args.bytes.now (take c.in-Ok-Complete.head.headers c.parse_request.new.headers) h.fields at.fields at.reads.0.fields k d l;
      value_ordered = fit.1.0;
      value_fits = omega (arith, fit.1.1, section.len_fits);
    }

pub returns-in_ok-fields-in-Ok-Complete : goal.returns-in_ok-fields-in-Ok-Complete
returns-in_ok-fields-in-Ok-Complete c =
    let told = rw c.in-Ok-Complete.field-0-is at c.in-Ok-Complete.ensures in
    let h = told.complete.0 in
    let at = told.complete.1 in
    let spans = take c.in-Ok-Complete.head.headers c.parse_request.new.headers in
    let same = head_same_parts h _ _ _ (c.in_ok-method-in-Ok-Complete.ensures ∙ at.method) (c.in_ok-target-in-Ok-Complete.ensures ∙ at.path)
    (c.in_ok-fields-in-Ok-Complete.ensures ∙ lower_same c.args.bytes.now spans h.fields at.fields) in (
      record {
        parsed = h;
        rest = _;
        reads = at.reads;
        few = omega (arith, same_count c.args.bytes.now spans h.fields at.fields, length-take c.in-Ok-Complete.head.headers c.parse_request.new.headers, c.parse_request.auto.headers);
        is = same;
      },
      λ (y : Head) r. r.is ∙ ap head_of (request_unique c.args.bytes.now r.parsed h r.rest _ r.reads at.reads).0 ∙ sym same,
    )
