use Rattle.std.proofs.Common.{arith, sym, ap, ◌∙◌, List, ℕ}
use Rattle.std.specs.Prelude.{Err}
use Rattle.std.specs.List.{list_all}
use Rattle.std.proofs.lemmas.Grind.{common_steps}
use Rattle.picky_http_request.specs.Answers.{not_text}
use Rattle.picky_http_request.specs.Values.{is_text_byte}
use Rattle.picky_http_request.proofs.Fields.{bad_value, answer_bad, values_yes, values_no, texts_more}
use Rattle.picky_http_request.proofs.head.values.Goals as goal
use Rattle.picky_http_request.proofs.head.values.Goals.{then-has_name+in-Some+in_ok-push-in-Some, else-has_name}

pub returns-in-None-clause-err : goal.returns-in-None-clause-err
returns-in-None-clause-err c =
    let bad = bad_value c.args.name.now c.args.fields.now c.loop-field.field-index c.field-item.result c.loop-field-test.true c.field-item.is (sym c.has_name.ensures ∙ c.if-has_name.true)
    (sym (ap (list_all is_text_byte) c.deref.ensures.value) ∙ c.in-None.ensures.none) in
    answer_bad c.args.name.now c.args.fields.now bad ∙ ap (λ (b : List ℕ). Err (not_text b)) (sym c.in_ok-from_str-in-None.ensures.ok)

pub loop-field-preserved : goal.loop-field-preserved
loop-field-preserved c =
    elim c.if-has_name.branch [
      | then-has_name+in-Some+in_ok-push-in-Some w ↦
          let yes = sym c.has_name.ensures ∙ w.if-has_name.true in
          let more = values_yes c.args.name.now c.args.fields.now c.loop-field.field-index c.field-item.result c.loop-field-test.true c.field-item.is yes in
          record {
            texts = texts_more c.args.name.now c.args.fields.now c.loop-field.field-index c.field-item.result c.loop-field-test.true c.field-item.is yes
                (sym (ap (list_all is_text_byte) w.deref.ensures.value) ∙ w.in-Some.ensures.some.0) c.loop-field.invariant.texts;
            trimmed = grind (arith, common_steps, more, c.loop-field.invariant.trimmed);
          }
      | else-has_name w ↦
          let no = sym c.has_name.ensures ∙ w.if-has_name.false in
          let same = values_no c.args.name.now c.args.fields.now c.loop-field.field-index c.field-item.result c.loop-field-test.true c.field-item.is no in
          record {
            texts = rw same c.loop-field.invariant.texts;
            trimmed = rw (same, w.found-is) c.loop-field.invariant.trimmed;
          }
    ]
