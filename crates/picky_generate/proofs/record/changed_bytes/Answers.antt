use Rattle.std.proofs.Common.{◌∙◌, ap, length, ◌-◌, List, ℕ, ◌++◌, ◌∷◌, [], slice_index_or}
use Rattle.std.specs.Prelude.{bit_xor}
use Rattle.picky_generate.proofs.Changes.{changed_end}
use Rattle.picky_generate.proofs.record.changed_bytes.Goals as goal

pub returns : goal.returns
returns c =
    c.in_ok-push.ensures.items
    ∙ ap (λ (l : List ℕ). l ++ bit_xor (slice_index_or c.args.bytes.now (length c.args.bytes.now - 1) 0) 1 ∷ []) c.in_ok-out.ensures.items
    ∙ changed_end c.args.bytes.now c.in-len1-up.len_at_least
