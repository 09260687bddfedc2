use Rattle.std.proofs.Common.{◌≡◌, take, map, string_bytes}
use Rattle.picky_jwk.proofs.copy.copy_list.Given as goal

-- the copies so far are those of the texts so far
abbrev pub invariant-loop-text : goal.invariant-loop-text
invariant-loop-text l = map string_bytes l.copies.items ≡ map string_bytes (take l.text-index l.text-items)
