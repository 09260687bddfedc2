use Rattle.std.proofs.Common.{lit<, sym}
use Rattle.std.proofs.lemmas.Iterator.Splits.{YieldsList-from_str_split}
use Rattle.std.proofs.lemmas.Iterator.Consumers.{YieldsList-end}
use Rattle.std.proofs.lemmas.List.Splits.{join_with_byte-slice_split}
use Rattle.std.specs.Prelude.{◌==◌}
use Rattle.std.specs.List.{slice_split}
use Rattle.picky_http.proofs.Splits.{splits_lack, splits_some}
use Rattle.picky_http.proofs.header.parts_from.Goals as goal

pub returns : goal.returns
returns c =
    let value = c.args.value.now in
    let same = c.into_iter-piece-iterator.ensures.into_iter_gives in
    let all = YieldsList-end (YieldsList-from_str_split 32 value (lit< tt) (rw same c.split-piece-items.ensures.text) (rw same c.split-piece-items.ensures.has_more) (rw same c.split-piece-items.ensures.pattern)) c.loop-piece.yielded _ c.loop-piece.yielded_by _ _ c.in-None.is c.next.ensures.steps in
    record {
      pieces = slice_split (λ b. b == 32) value;
      some = splits_some 32 value;
      no_space = splits_lack 32 value;
      joined = sym (join_with_byte-slice_split 32 value);
      are = rw all.0 at c.loop-piece.invariant;
    }
