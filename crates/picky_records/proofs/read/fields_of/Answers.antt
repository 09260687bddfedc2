use Rattle.std.proofs.Common.{rules}
use Rattle.picky_records.proofs.Cutting.{fields_turn, fields_end}
use Rattle.picky_records.proofs.read.fields_of.Goals as goal

pub loop-field-preserved : goal.loop-field-preserved
loop-field-preserved c = (
  search rules,
  fields_turn c.loop-field.fields.items c.push.new.self.items c.in-Some.field c.loop-field.rest.now c.in-Some.after.now c.args.line.now c.in_ok-push.ensures.items
      c.in-Some.ensures.found c.loop-field.invariant.1,
)

pub returns : goal.returns
returns c = fields_end c.loop-field.fields.items c.push-2.new.self.items c.loop-field.rest c.args.line.now c.in_ok-push-2.ensures.items c.in_default.ensures.every c.loop-field.invariant.1
