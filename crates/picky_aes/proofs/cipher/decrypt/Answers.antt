use Rattle.std.proofs.Common.{arith, rules, length, ◌≡◌, ◌+◌, ◌-◌, ◌*◌, sym, ap, ◌∙◌, suc, refl}
use Rattle.picky_contract.specs.Sums.{add_bytes}
use Rattle.picky_aes.specs.Cipher.{IsBlock, rounds, shift_rows, sub_bytes}
use Rattle.picky_aes.specs.Words.{bytes_of}
use Rattle.picky_aes.proofs.Inverse.{HasKeys, cipher-alone, cipher-back}
use Rattle.picky_aes.proofs.Schedule.{by_four}
use Rattle.picky_aes.proofs.WordBack.{first-words-back, unround-back}
use Rattle.picky_aes.proofs.WordBytes.{IsBlock-four, has-keys, key-words, key-words-next, words_add}
use Rattle.picky_aes.proofs.cipher.decrypt.Goals as goal

pub loop-left-init : goal.loop-left-init
loop-left-init c =
    let keys : HasKeys (bytes_of c.args.keys.now) c.args.rounds = has-keys c.args.keys.now c.args.rounds c.told-keys c.requires.high in
    let four : length c.words-state.result ≡ 4 = search rules in
    let n = c.args.rounds in
    let unmixed = c.requires.unmixed.columns in
    let key = key-words-next c.args.keys.now n (omega (arith, c.told-keys, c.requires.high)) in
    let block = ap bytes_of (by_four c.words-state.result four) ∙ c.words-state.ensures in
    let next : n ≡ suc (n - 1) = omega (arith, c.requires.low) in
    record {
      in_range = omega (arith, c.requires.low);
      back = λ x ex. cipher-back (bytes_of c.args.keys.now) c.args.block.now _ n keys c.told-block (words_add _ _ _ _ _ _ _ _ ∙ (λ i. add_bytes (block i) (key i))) x
          (unround-back (bytes_of c.args.keys.now) n keys _ _ _ _ _ _ _ _ _ _ _ _ _ _ _ _ (n - 1) n next (omega (arith, c.requires.low))
          (key-words c.args.keys.now n (4 * n) refl (omega (arith, c.told-keys, c.requires.high)))
          (unmixed (4 * n) (omega (arith, c.requires.high))) (unmixed (4 * n + 1) (omega (arith, c.requires.high))) (unmixed (4 * n + 2) (omega (arith, c.requires.high))) (unmixed (4 * n + 3) (omega (arith, c.requires.high)))
          c.unround_column-a.ensures c.unround_column-b.ensures c.unround_column-c.ensures c.unround_column-d.ensures x ex);
    }

pub loop-left-preserved : goal.loop-left-preserved
loop-left-preserved c =
    let keys : HasKeys (bytes_of c.args.keys.now) c.args.rounds = has-keys c.args.keys.now c.args.rounds c.told-keys c.requires.high in
    let n = c.loop-left.left in
    let unmixed = c.requires.unmixed.columns in
    let next : n ≡ suc (n - 1) = omega arith in
    record {
      in_range = omega arith;
      back = λ x ex. c.loop-left.invariant.back x
          (unround-back (bytes_of c.args.keys.now) c.args.rounds keys c.loop-left.a c.loop-left.b c.loop-left.c c.loop-left.d _ _ _ _ _ _ _ _ _ _ _ _ (n - 1) n next (omega arith)
          (key-words c.args.keys.now n (4 * n) refl (omega (arith, c.told-keys, c.requires.high)))
          (unmixed (4 * n) (omega (arith, c.requires.high))) (unmixed (4 * n + 1) (omega (arith, c.requires.high))) (unmixed (4 * n + 2) (omega (arith, c.requires.high))) (unmixed (4 * n + 3) (omega (arith, c.requires.high)))
          c.unround_column-e.ensures c.unround_column-f.ensures c.unround_column-g.ensures c.unround_column-h.ensures x ex);
    }

pub returns-clause-back : goal.returns-clause-back
returns-clause-back c =
    let keys : HasKeys (bytes_of c.args.keys.now) c.args.rounds = has-keys c.args.keys.now c.args.rounds c.told-keys c.requires.high in
    let last : c.loop-left.left ≡ 0 = omega arith in
    c.loop-left.invariant.back c.bytes.result
    (ap (λ r. shift_rows (sub_bytes (rounds (bytes_of c.args.keys.now) c.bytes.result r))) last
    ∙ first-words-back (bytes_of c.args.keys.now) c.args.rounds keys c.loop-left.a c.loop-left.b c.loop-left.c c.loop-left.d _ _ _ _ _ _ _ _
    (key-words c.args.keys.now 0 0 refl (omega (arith, c.told-keys)))
    c.first_column-e.ensures c.first_column-f.ensures c.first_column-g.ensures c.first_column-h.ensures c.bytes.result c.bytes.ensures)

pub returns-clause-alone : goal.returns-clause-alone
returns-clause-alone c =
    let keys : HasKeys (bytes_of c.args.keys.now) c.args.rounds = has-keys c.args.keys.now c.args.rounds c.told-keys c.requires.high in
    let block : IsBlock c.bytes.result = IsBlock-four c.bytes.result _ _ _ _ c.bytes.ensures in
    λ x h e. cipher-alone (bytes_of c.args.keys.now) x c.bytes.result c.args.rounds keys h block (e ∙ sym (returns-clause-back c))
