-- Pieces, items, and what the scheme words leave.
use Rattle.std.proofs.Common.{◌≡◌, ◌≢◌, ℕ, zero, suc, ◌<◌, List, [], ◌∷◌, ◌++◌, length, sym, ◌∙◌, ap, arith, append_assoc, replicate, get_or, Some, None}
use Rattle.std.proofs.lemmas.List.Elements.{All-from_get_or}
use Rattle.std.specs.List.{concat}
use Rattle.std.specs.Str.Pattern.{CutsPrefixes, FindsTextPrefix, IsFullyTrimmed}
use Rattle.std.specs.Str.{trim}
use Rattle.picky_contract.specs.Text.{Lacks, IsCutAtFirst}
use Rattle.picky_contract.specs.laws.Cuts.{first-once}
use Rattle.picky_http_text.specs.Items.{IsNoItemOf}

-- the same fact by places
pub lacks_from : (c : ℕ) (bs : List ℕ) → ((i : ℕ) → i < length bs → get_or bs i 0 ≢ c) → Lacks c bs
lacks_from c bs h = All-from_get_or (λ b. b ≢ c) bs 0 h

-- a piece is an item of one key
pub other_key_no_item : (piece before after key : List ℕ) → IsCutAtFirst 61 piece before after → trim before ≢ key → IsNoItemOf key piece
other_key_no_item piece before after key cut ne value item =
    let r = first-once 61 before after item.before item.after (sym cut.joined ∙ item.split) cut.lacks item.no_equals in
    ne (ap trim r.0 ∙ sym item.key_is)

-- one more word
more_words : (w r : List ℕ) (n : ℕ) → concat (replicate n w) ++ (w ++ r) ≡ concat (replicate (suc n) w) ++ r
more_words w r zero = sym (append_assoc w [] r)
more_words w r (suc n) =
    append_assoc w (concat (replicate n w)) (w ++ r)
    ∙ ap (λ (t : List ℕ). w ++ t) (more_words w r n)
    ∙ sym (append_assoc w (concat (replicate (suc n) w)) r)

-- what `trim_start_matches` cuts at a text
pub words_cut : (w text : List ℕ) (ns : List ℕ) (rest : List ℕ) → CutsPrefixes (FindsTextPrefix w) text ns rest → (n : ℕ) × (text ≡ concat (replicate n w) ++ rest)
words_cut w text [] rest h = (0, sym h)
words_cut w text (n ∷ ns) rest (m, before, found, cut) =
    let (k, e) = words_cut w text ns m before in
    (suc k, e ∙ ap (λ (t : List ℕ). concat (replicate k w) ++ t) (found.1 ∙ ap (λ (t : List ℕ). w ++ t) (sym cut)) ∙ more_words w rest k)

pub words_end : (w rest : List ℕ) → 0 < length w → IsFullyTrimmed (FindsTextPrefix w) rest → (more : List ℕ) → rest ≢ w ++ more
words_end w rest some (None, found, _) more e = found more e
words_end w rest some (Some k, found, none) more e = omega (arith, found.0, none)
