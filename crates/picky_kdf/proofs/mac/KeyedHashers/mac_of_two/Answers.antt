use Rattle.std.proofs.Common.{◌++◌, sym, subst, ap, ◌∙◌}
use Rattle.std.proofs.lemmas.List.{append_assoc}
use Rattle.picky_kdf.specs.Hash.{digest}
use Rattle.picky_kdf.specs.Hasher.{IsHolding}
use Rattle.picky_kdf.specs.Hmac.{padded_key}
use Rattle.picky_kdf.proofs.Keys.{mac-is}
use Rattle.picky_kdf.specs.declared.hash.Hasher.{Hasher}
use Rattle.picky_kdf.proofs.mac.KeyedHashers.mac_of_two.Goals as goal

pub returns : goal.returns
returns c = λ key keyed.
    let hash = c.args.hash in
    let first = c.args.first.now in
    let second = c.args.second.now in
    let inner : IsHolding hash c.copied-inner.result (padded_key hash 0x36 key) = subst (λ (h : Hasher). IsHolding hash h (padded_key hash 0x36 key)) (sym c.copied-inner.ensures) keyed.inner in
    mac-is hash key (first ++ second) c.hash_after-digest.result c.hash_after.result c.digest_size.result c.digest_size.ensures
    (c.hash_after-digest.ensures hash _ (c.update.ensures hash _ inner) ∙ ap (digest hash) (append_assoc (padded_key hash 0x36 key) first second))
    (c.hash_after.ensures hash _ keyed.outer)
