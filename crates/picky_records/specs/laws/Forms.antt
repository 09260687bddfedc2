-- The table of a line's forms holds of the lines that have one.
use Rattle.std.specs.Prelude.{◌≡◌, ℕ, Bool, true, false, List, [], ◌∷◌, codes}
use Rattle.std.proofs.Common.{refl, sym, ap, subst}
use Rattle.std.specs.Str.{bytes_eq}
use Rattle.std.proofs.lemmas.Slice.Eq.{bytes_eq-Decides}
use Rattle.picky_key_der.specs.declared.public.PublicKeyKind.{PublicKeyKind}
use Rattle.picky_key_private.specs.declared.private.PrivateKey.{PrivateKey}
use Rattle.picky_records.specs.declared.line.Line.{Line}
use Rattle.picky_records.specs.declared.line.Line.TheVariants.{Sig, Pair, Unwrap, Agree}
use Rattle.picky_contract.specs.Refusals.{Table}
use Rattle.picky_records.specs.declared.error.RecordFault.{RecordFault}
use Rattle.picky_records.specs.Reading.{algorithms, schemes, scheme_word, public_field, private_field, sig_table, pair_table, unwrap_table, agree_table, form_table, when, either}
use Rattle.picky_key.specs.Words.{algorithm_word}
use Rattle.picky_records.specs.laws.Names.{named_is, algorithm_is_named, scheme_is_named}
use Rattle.picky_records.specs.Forms.{SpellsPublic, SpellsPrivate, IsForm}

public_is : (n : ℕ) (text : List ℕ) (k : PublicKeyKind) → (public_field n text).holds k → SpellsPublic text k
unfolding public_field
public_is n text k h = record { bytes = h.0; spelled = h.1; reads = h.2 }

public_holds : (n : ℕ) (text : List ℕ) (k : PublicKeyKind) → SpellsPublic text k → (public_field n text).holds k
unfolding public_field
public_holds n text k h = (h.bytes, h.spelled, h.reads)

private_is : (n : ℕ) (text : List ℕ) (k : PrivateKey) → (private_field n text).holds k → SpellsPrivate text k
unfolding private_field
private_is n text k h = record { bytes = h.0; spelled = h.1; reads = h.2 }

private_holds : (n : ℕ) (text : List ℕ) (k : PrivateKey) → SpellsPrivate text k → (private_field n text).holds k
unfolding private_field
private_holds n text k h = (h.bytes, h.spelled, h.reads)

sig_is : (n : ℕ) (w a b c d : List ℕ) (line : Line) → w ≡ codes "sig" → (sig_table n a b c d).holds line → IsForm (w ∷ a ∷ b ∷ c ∷ d ∷ []) line
unfolding sig_table
sig_is n w a b c d line is (algorithm, named, (key, spelled, (m, said, (s, signed, (_, wanted, e))))) = subst (λ l. IsForm (w ∷ a ∷ b ∷ c ∷ d ∷ []) l) (sym e) (record {
  name = a;
  spki = b;
  message = c;
  signature = d;
  are = ap (λ (x : List ℕ). x ∷ a ∷ b ∷ c ∷ d ∷ []) is;
  named = named_is algorithm_word algorithms a algorithm named;
  key = public_is n b key spelled;
  said = said;
  signed = signed;
  wanted = wanted;
})

unwrap_is : (n : ℕ) (w a b c d : List ℕ) (line : Line) → w ≡ codes "unwrap" → (unwrap_table n a b c d).holds line → IsForm (w ∷ a ∷ b ∷ c ∷ d ∷ []) line
unfolding unwrap_table
unwrap_is n w a b c d line is (scheme, named, (key, spelled, (x, closed, (y, opened, e)))) = subst (λ l. IsForm (w ∷ a ∷ b ∷ c ∷ d ∷ []) l) (sym e) (record {
  name = a;
  pkcs8 = b;
  wrapped = c;
  content_key = d;
  are = ap (λ (x : List ℕ). x ∷ a ∷ b ∷ c ∷ d ∷ []) is;
  named = named_is scheme_word schemes a scheme named;
  private = private_is n b key spelled;
  closed = closed;
  opened = opened;
})

pair_is : (n : ℕ) (w a b : List ℕ) (line : Line) → w ≡ codes "pair" → (pair_table n a b).holds line → IsForm (w ∷ a ∷ b ∷ []) line
unfolding pair_table
pair_is n w a b line is (key, private, (q, public, e)) = subst (λ l. IsForm (w ∷ a ∷ b ∷ []) l) (sym e) (record {
  pkcs8 = a;
  spki = b;
  are = ap (λ (x : List ℕ). x ∷ a ∷ b ∷ []) is;
  private = private_is n a key private;
  public = public_is n b q public;
})

agree_is : (n : ℕ) (w a b c : List ℕ) (line : Line) → w ≡ codes "agree" → (agree_table n a b c).holds line → IsForm (w ∷ a ∷ b ∷ c ∷ []) line
unfolding agree_table
agree_is n w a b c line is (p, first, (q, second, (s, shared, e))) = subst (λ l. IsForm (w ∷ a ∷ b ∷ c ∷ []) l) (sym e) (record {
  one = a;
  other = b;
  secret = c;
  are = ap (λ (x : List ℕ). x ∷ a ∷ b ∷ c ∷ []) is;
  first = public_is n a p first;
  second = public_is n b q second;
  shared = shared;
})

word_is : (w v : List ℕ) → bytes_eq w v ≡ true → w ≡ v
word_is w v h = (bytes_eq-Decides w v).0 h

when_is : (n : ℕ) (b : Bool) (t : Table Line RecordFault) (fs : List (List ℕ)) (line : Line) → (b ≡ true → t.holds line → IsForm fs line) → (when b n t).holds line → IsForm fs line
when_is n true t fs line is h = is refl h
when_is n false t fs line is h = absurd h

either_is : (b : Bool) (t u : Table Line RecordFault) (fs : List (List ℕ)) (line : Line) → (b ≡ true → t.holds line → IsForm fs line) → (u.holds line → IsForm fs line)
    → (either b t u).holds line → IsForm fs line
either_is true t u fs line is other h = is refl h
either_is false t u fs line is other h = other h

pub form_is : (n : ℕ) (fs : List (List ℕ)) (line : Line) → (form_table n fs).holds line → IsForm fs line
unfolding form_table
form_is n [] line h = absurd h
form_is n (w ∷ []) line h = absurd h
form_is n (w ∷ a ∷ []) line h = absurd h
form_is n (w ∷ a ∷ b ∷ []) line h = when_is n (bytes_eq w (codes "pair")) (pair_table n a b) (w ∷ a ∷ b ∷ []) line (λ e. pair_is n w a b line (word_is w _ e)) h
form_is n (w ∷ a ∷ b ∷ c ∷ []) line h =
    when_is n (bytes_eq w (codes "agree")) (agree_table n a b c) (w ∷ a ∷ b ∷ c ∷ []) line (λ e. agree_is n w a b c line (word_is w _ e)) h
form_is n (w ∷ a ∷ b ∷ c ∷ d ∷ []) line h =
    either_is (bytes_eq w (codes "sig")) (sig_table n a b c d) (when (bytes_eq w (codes "unwrap")) n (unwrap_table n a b c d)) (w ∷ a ∷ b ∷ c ∷ d ∷ []) line
    (λ e. sig_is n w a b c d line (word_is w _ e))
    (when_is n (bytes_eq w (codes "unwrap")) (unwrap_table n a b c d) (w ∷ a ∷ b ∷ c ∷ d ∷ []) line (λ e. unwrap_is n w a b c d line (word_is w _ e))) h
form_is n (w ∷ a ∷ b ∷ c ∷ d ∷ e ∷ fs) line h = absurd h

pub form_holds : (n : ℕ) (fs : List (List ℕ)) (line : Line) → IsForm fs line → (form_table n fs).holds line
unfolding form_table sig_table pair_table unwrap_table agree_table
form_holds n fs (Sig k a m s) h = subst (λ (x : List (List ℕ)). (form_table n x).holds (Sig k a m s)) (sym h.are)
    (a, algorithm_is_named a h.name h.named, (k, public_holds n h.spki k h.key, (m, h.said, (s, h.signed, (tt, h.wanted, refl)))))
form_holds n fs (Pair k q) h = subst (λ (x : List (List ℕ)). (form_table n x).holds (Pair k q)) (sym h.are)
    (k, private_holds n h.pkcs8 k h.private, (q, public_holds n h.spki q h.public, refl))
form_holds n fs (Unwrap t k w c) h = subst (λ (x : List (List ℕ)). (form_table n x).holds (Unwrap t k w c)) (sym h.are)
    (t, scheme_is_named t h.name h.named, (k, private_holds n h.pkcs8 k h.private, (w, h.closed, (c, h.opened, refl))))
form_holds n fs (Agree a b s) h = subst (λ (x : List (List ℕ)). (form_table n x).holds (Agree a b s)) (sym h.are)
    (a, public_holds n h.one a h.first, (b, public_holds n h.other b h.second, (s, h.shared, refl)))
