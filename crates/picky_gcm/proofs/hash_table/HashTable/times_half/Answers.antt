use Rattle.std.proofs.Common.{arith, ◌≡◌, ◌+◌, ◌*◌, ◌/◌, ◌%◌, ◌^◌, ◌++◌, ◌∙◌, ap, get_or, length, lit<, mod-lt, ℕ, List}
use Rattle.std.specs.Prelude.{Bool}
use Rattle.picky_gcm.specs.Polynomial.{Mul, block_of, coefficients}
use Rattle.picky_gcm.specs.Table.{IsTable, pair_block}
use Rattle.picky_gcm.proofs.Products.{half-begins, length-key, step-eight, table-under}
use Rattle.picky_gcm.proofs.hash_table.HashTable.times_half.Goals as goal

pub loop-i-init : goal.loop-i-init
loop-i-init c = λ p e. e ∙ ap (λ q. Mul q (block_of c.args.self.now)) (half-begins c.args.half p)

pub loop-i-preserved : goal.loop-i-preserved
loop-i-preserved c = λ p e.
    let n : ℕ = 8 * c.loop-i.i in
    let j : ℕ = c.args.half / 2 ^ n % 16 in
    let k : ℕ = c.args.half / 2 ^ (n + 4) % 16 in
    let h : List Bool = block_of c.args.self.now in
    let l : length h ≡ 128 = length-key c.args.self.now (get_or c.self.inside.entries 8 (0, 0)) c.self.view_is in
    let table : IsTable h c.self.inside.entries = table-under c.args.self.now c.self.inside.entries c.self.view_is c.self.invariant in
    step-eight c.args.half n _ p h (pair_block c.loop-i.product) (pair_block c.times_x8.result) (pair_block (get_or c.args.moved.now j (0, 0))) (pair_block (get_or c.self.inside.entries k (0, 0)))
    (pair_block c.add.result) (pair_block c.add-product.result) l (omega arith) (c.loop-i.invariant p e) c.times_x8.ensures
    (c.requires j (mod-lt (c.args.half / 2 ^ n) (lit< tt))) (table k (mod-lt (c.args.half / 2 ^ (n + 4)) (lit< tt))) c.add.ensures c.add-product.ensures

pub returns : goal.returns
returns c = λ p e.
    let done : 8 * c.loop-i.i ≡ 64 = omega arith in
    c.loop-i.invariant p e ∙ ap (λ k. Mul (coefficients k c.args.half ++ p) (block_of c.args.self.now)) done
