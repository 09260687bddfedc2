-- What cutting quotes leaves.
use Rattle.std.proofs.Common.{◌≡◌, ◌≢◌, ℕ, zero, suc, ◌-◌, List, [], ◌∷◌, ◌++◌, length, refl, sym, ◌∙◌, ap, arith, drop, append_assoc, Some, None, replicate}
use Rattle.std.specs.Str.Pattern.{CutsPrefixes, CutsSuffixes, FindsCharPrefix, FindsCharSuffix, IsFullyTrimmed}
use Rattle.std.proofs.lemmas.List.{take-append-drop, append-nil, drop_all}

-- one more quote
more_quotes : (q : ℕ) (r : List ℕ) (n : ℕ) → replicate n q ++ (q ∷ r) ≡ replicate (suc n) q ++ r
more_quotes q r zero = refl
more_quotes q r (suc n) = ap (λ (t : List ℕ). q ∷ t) (more_quotes q r n)

pub front_quotes : (text : List ℕ) (ns : List ℕ) (rest : List ℕ) → CutsPrefixes (FindsCharPrefix 34) text ns rest → (n : ℕ) × (text ≡ replicate n 34 ++ rest)
unfolding lib.Utf8.encode
front_quotes text [] rest h = (0, sym h)
front_quotes text (n ∷ ns) rest (m, before, found, cut) =
    let (k, e) = front_quotes text ns m before in
    (suc k, e ∙ ap (λ (t : List ℕ). replicate k 34 ++ t) (found.split ∙ ap (λ (t : List ℕ). 34 ∷ t) (sym cut)) ∙ more_quotes 34 rest k)

pub front_done : (rest : List ℕ) → IsFullyTrimmed (FindsCharPrefix 34) rest → (more : List ℕ) → rest ≢ 34 ∷ more
unfolding lib.Utf8.encode
front_done rest (None, found, _) more e = found more e
front_done rest (Some k, found, none) more e = omega (arith, found.ends, none)

pub back_quotes : (text : List ℕ) (ns : List ℕ) (rest : List ℕ) → CutsSuffixes (FindsCharSuffix 34) text ns rest → (n : ℕ) × (text ≡ rest ++ replicate n 34)
unfolding lib.Utf8.encode
back_quotes text [] rest h = (0, sym h ∙ sym (append-nil rest))
back_quotes text (n ∷ ns) rest (m, before, found, cut) =
    let (k, e) = back_quotes text ns m before in
    let last : m ≡ rest ++ 34 ∷ [] =
    sym (take-append-drop (length m - n) m)
    ∙ ap (λ (t : List ℕ). t ++ drop (length m - n) m) (sym cut)
    ∙ ap (λ (t : List ℕ). rest ++ t) (found.1.split ∙ ap (λ (t : List ℕ). 34 ∷ t) (drop_all (length m) m (omega arith))) in
    (suc k, e ∙ ap (λ (t : List ℕ). t ++ replicate k 34) last ∙ append_assoc rest (34 ∷ []) (replicate k 34))

pub back_done : (rest : List ℕ) → IsFullyTrimmed (FindsCharSuffix 34) rest → (more : List ℕ) → rest ≢ more ++ 34 ∷ []
unfolding lib.Utf8.encode
back_done rest (None, found, _) more e = found more e
back_done rest (Some k, found, none) more e = omega (arith, found.0, none)

-- a text without a quote at its front keeps none when its end is cut
pub front_kept : (front inner back : List ℕ) → ((more : List ℕ) → front ≢ 34 ∷ more) → front ≡ inner ++ back → (more : List ℕ) → inner ≢ 34 ∷ more
front_kept front inner back h e more f = h (more ++ back) (e ∙ ap (λ (t : List ℕ). t ++ back) f)
