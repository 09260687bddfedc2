use Rattle.std.proofs.Common.{◌∙◌, refl, sym}
use Rattle.std.specs.Prelude.{IsTrue}
use Rattle.picky_gcm.proofs.Sealing.{opened-seal, seal-back, seal-tag}
use Rattle.picky_gcm.proofs.gcm.gcm_open.Goals as goal

pub returns-then-not-equal_bytes-clause-opened : goal.returns-then-not-equal_bytes-clause-opened
returns-then-not-equal_bytes-clause-opened c = λ text e.
    let same : IsTrue c.equal_bytes.result = c.equal_bytes.ensures.1 (c.tag_of.ensures ∙ seal-tag c.args.aes.now c.args.nonce.now c.args.aad.now text _ e) in
    cc

pub returns-then-not-equal_bytes-clause-back : goal.returns-then-not-equal_bytes-clause-back
returns-then-not-equal_bytes-clause-back c = λ text e. absurd (returns-then-not-equal_bytes-clause-opened c text e)

pub returns-clause-opened : goal.returns-clause-opened
returns-clause-opened c =
    let same : IsTrue c.equal_bytes.result = cc in
    opened-seal c.args.aes.now c.args.nonce.now c.args.aad.now c.args.buffer.now c.args.tag.now c.count.new.buffer c.count.ensures
    (sym c.tag_of.ensures ∙ c.equal_bytes.ensures.0 same)

pub returns-clause-back : goal.returns-clause-back
returns-clause-back c = λ text e. (refl, c.count.ensures ∙ seal-back c.args.aes.now c.args.nonce.now c.args.aad.now text _ e)
