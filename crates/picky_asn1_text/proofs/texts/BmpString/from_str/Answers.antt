use Rattle.std.proofs.Common.{◌≡◌, ◌<◌, All, sym, subst, ap, ◌∙◌, chars, map-id}
use Rattle.std.proofs.lemmas.Iterator.{YieldsList-from_chars}
use Rattle.std.proofs.lemmas.Iterator.Consumers.{YieldsList-turn, YieldsList-end}
use Rattle.std.proofs.lemmas.List.Elements.{All-push}
use Rattle.std.proofs.lemmas.Str.{scalars-chars}
use Rattle.picky_asn1_text.specs.Bmp.{two_bytes_each}
use Rattle.picky_asn1_text.proofs.Pairs.{bytes_push, within_at, bmp_from}
use Rattle.picky_asn1_text.proofs.texts.BmpString.from_str.Goals as goal

pub returns-in_default-clause-every : goal.returns-in_default-clause-every
returns-in_default-clause-every c = λ h.
    let t = YieldsList-turn (YieldsList-from_chars c.args.text.now c.utf8.text cc) c.loop-character.yielded _ c.loop-character.yielded_by _ _ c.in-Some.character c.in-Some.is c.next.ensures.steps in
    absurd (c.in_default.ensures (within_at (chars c.args.text.now) c.loop-character.yielded c.in-Some.character h t))

pub loop-character-preserved : goal.loop-character-preserved
loop-character-preserved c =
    let small : c.in-Some.character < 0x1_0000 = c.in-Ok.ensures.0 in (
      bytes_push c.loop-character.bytes.items c.extend_from_slice.new.self.items c.loop-character.yielded _ c.in-Some.character c.in-Ok.unit c.loop-character.invariant.0 c.in_ok-extend_from_slice.ensures.items c.to_be_bytes.ensures c.in-Ok.ensures.1 small,
      All-push (λ x. x < 0x1_0000) c.loop-character.yielded c.in-Some.character c.loop-character.invariant.1 small,
    )

pub new_unchecked-requires : goal.new_unchecked-requires
new_unchecked-requires c =
    let t = YieldsList-end (YieldsList-from_chars c.args.text.now c.utf8.text cc) c.loop-character.yielded _ c.loop-character.yielded_by _ _ c.in-None.is c.next.ensures.steps in
    let all : c.loop-character.yielded ≡ chars c.args.text.now = sym (map-id c.loop-character.yielded) ∙ t.0 in
    bmp_from (chars c.args.text.now) c.loop-character.yielded c.loop-character.bytes.items all (scalars-chars c.args.text.now c.utf8.text) c.loop-character.invariant

pub returns-clause-found : goal.returns-clause-found
returns-clause-found c =
    let t = YieldsList-end (YieldsList-from_chars c.args.text.now c.utf8.text cc) c.loop-character.yielded _ c.loop-character.yielded_by _ _ c.in-None.is c.next.ensures.steps in
    let all : c.loop-character.yielded ≡ chars c.args.text.now = sym (map-id c.loop-character.yielded) ∙ t.0 in
    (c.new_unchecked.ensures ∙ c.loop-character.invariant.0 ∙ ap two_bytes_each all, subst (All (λ x. x < 0x1_0000)) all c.loop-character.invariant.1)
