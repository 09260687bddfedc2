use Rattle.std.proofs.Common.{◌/◌, ◌+◌, ◌*◌, length, take, ap, ◌∙◌}
use Rattle.picky_aes.specs.Words.{bytes_of}
use Rattle.picky_aes.proofs.Front.{expanded, key-front, word_count}
use Rattle.picky_aes.proofs.WordBytes.{bytes_of-lt}
use Rattle.picky_aes.proofs.cipher.Aes.new.Goals as goal

pub invariant_of-result : goal.invariant_of-result
invariant_of-result c =
    let count = word_count (length c.args.key.now) c.requires in
    record {
      expanded = expanded (length c.args.key.now / 4) c.args.key.now (bytes_of c.key_words-keys.result) count.0 count.1
          (ap (take (16 * (length c.args.key.now / 4) + 112)) c.key_words-keys.ensures ∙ c.schedule.ensures) (bytes_of-lt c.key_words-keys.result);
      unmixed = c.unmixed_words-unmixed.ensures;
    }

pub returns : goal.returns
returns c =
    let count = word_count (length c.args.key.now) c.requires in
    key-front (length c.args.key.now / 4) c.args.key.now (bytes_of c.key_words-keys.result) count.1
    (ap (take (16 * (length c.args.key.now / 4) + 112)) c.key_words-keys.ensures ∙ c.schedule.ensures)
