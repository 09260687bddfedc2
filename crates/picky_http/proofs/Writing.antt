-- Lines, one for each part.
use Rattle.std.proofs.Common.{◌≡◌, ℕ, suc, ◌+◌, ◌<◌, List, [], ◌∷◌, ◌++◌, length, map, take, drop, get_or, refl, sym, ◌∙◌, ap, subst, arith, length-take, inl, inr, Option, IfSome, Result, Ok, Err}
use Rattle.std.proofs.lemmas.List.{map_more, length-map, map-append, take-append-drop, drop_more}
use Rattle.picky_contract.specs.laws.Tables.{up}
use Rattle.picky_http.specs.declared.header.Header.{Header}
use Rattle.picky_http.specs.Faults.{HttpFault}
use Rattle.picky_http.specs.Lines.{Asked, part_answer, AreLines, lines_table, text_table}
use Rattle.picky_http.specs.Parts.{part_of}
use Rattle.picky_http.specs.Signing.{Part, Line, line_text, signing_string}
use Rattle.picky_http.specs.Steps.{given}

pub lines_push : (a : Asked) (ps : List Part) (ls : List Line) (p : Part) (t : List ℕ) → AreLines a ps ls → part_answer a p ≡ Ok t → AreLines a (ps ++ p ∷ []) (ls ++ (p, t) ∷ [])
lines_push a [] [] p t h e = ((refl, e), tt)
lines_push a [] (l ∷ ls) p t h e = absurd h
lines_push a (q ∷ ps) [] p t h e = absurd h
lines_push a (q ∷ ps) (l ∷ ls) p t h e = (h.0, lines_push a ps ls p t h.1 e)

lines_count : (a : Asked) (ps : List Part) (ls : List Line) → AreLines a ps ls → length ls ≡ length ps
lines_count a [] [] h = refl
lines_count a [] (l ∷ ls) h = absurd h
lines_count a (q ∷ ps) [] h = absurd h
lines_count a (q ∷ ps) (l ∷ ls) h = ap suc (lines_count a ps ls h.1)

pub string_first : (ls : List Line) (l : Line) → length ls ≡ 0 → signing_string (ls ++ l ∷ []) ≡ signing_string ls ++ line_text l.0 l.1
string_first [] l h = refl
string_first (m ∷ ls) l h = absurd (omega arith)

-- one more line
pub lines_more : (a : Asked) (hs : List Header) (i : ℕ) (h : Header) (ls : List Line) (t : List ℕ) → i < length hs → h ≡ get_or hs i h → AreLines a (map part_of (take i hs)) ls
    → part_answer a (part_of h) ≡ Ok t → AreLines a (map part_of (take (i + 1) hs)) (ls ++ (part_of h, t) ∷ [])
lines_more a hs i h ls t l e lines ok =
    let one : map part_of (take (i + 1) hs) ≡ map part_of (take i hs) ++ part_of h ∷ [] =
    map_more part_of hs i h l ∙ ap (λ (x : Header). map part_of (take i hs) ++ part_of x ∷ []) (sym e) in
    rw one (lines_push a (map part_of (take i hs)) ls (part_of h) t lines ok)

pub lines_length : (a : Asked) (hs : List Header) (i : ℕ) (ls : List Line) → i < length hs → AreLines a (map part_of (take i hs)) ls → length ls ≡ i
lines_length a hs i ls l lines = lines_count a (map part_of (take i hs)) ls lines ∙ length-map (take i hs) part_of ∙ omega (arith, length-take i hs)

-- ---- what the table says

given_ok : (said : Result (List ℕ) HttpFault) (t : List ℕ) → said ≡ Ok t → (given said).gives t
given_ok said t e = subst (λ (r : Result (List ℕ) HttpFault). (given r).gives t) (sym e) refl

given_err : (said : Result (List ℕ) HttpFault) (f : HttpFault) → said ≡ Err f → (given said).refuses f
given_err said f e = subst (λ (r : Result (List ℕ) HttpFault). (given r).refuses f) (sym e) refl

lines_give : (a : Asked) (ps : List Part) (ls : List Line) → AreLines a ps ls → (lines_table a ps).gives ls
lines_give a [] [] h = refl
lines_give a [] (l ∷ ls) h = absurd h
lines_give a (p ∷ ps) [] h = absurd h
lines_give a (p ∷ ps) (l ∷ ls) h =
    (l.1, given_ok (part_answer a p) l.1 h.0.1, (ls, lines_give a ps ls h.1, λ i. (h.0.0 i, l.1) ∷ ls))

lines_refuse : (a : Asked) (ps : List Part) (ls : List Line) (p : Part) (back : List Part) (f : HttpFault) → AreLines a ps ls → part_answer a p ≡ Err f → (lines_table a (ps ++ p ∷ back)).refuses f
lines_refuse a [] ls p back f h e = inl (given_err (part_answer a p) f e)
lines_refuse a (q ∷ ps) [] p back f h e = absurd h
lines_refuse a (q ∷ ps) (l ∷ ls) p back f h e =
    inr (l.1, given_ok (part_answer a q) l.1 h.0.1, inl (lines_refuse a ps ls p back f h.1 e))

pub text_gives : (a : Asked) (ps : List Part) (ls : List Line) (text : List ℕ) → AreLines a ps ls → text ≡ signing_string ls → (text_table a ps).gives text
unfolding text_table
text_gives a ps ls text h e = (ls, lines_give a ps ls h, e)

parts_at : (hs : List Header) (i : ℕ) (h : Header) → i < length hs → h ≡ get_or hs i h
    → map part_of hs ≡ map part_of (take i hs) ++ part_of h ∷ map part_of (drop (i + 1) hs)
parts_at hs i h l e =
    ap (map part_of) (sym (take-append-drop i hs)) ∙ map-append part_of (take i hs) (drop i hs)
    ∙ ap (λ (t : List Header). map part_of (take i hs) ++ map part_of t) (drop_more hs i h l)
    ∙ ap (λ (x : Header). map part_of (take i hs) ++ part_of x ∷ map part_of (drop (i + 1) hs)) (sym e)

-- nothing is said of the part at hand
pub text_refuses : (a : Asked) (hs : List Header) (i : ℕ) (h : Header) (ls : List Line) (o : Option HttpFault) → i < length hs → h ≡ get_or hs i h → AreLines a (map part_of (take i hs)) ls
    → IfSome o (λ f. part_answer a (part_of h) ≡ Err f) → IfSome o (text_table a (map part_of hs)).refuses
unfolding text_table
text_refuses a hs i h ls o l e lines bad =
    up o (λ f. part_answer a (part_of h) ≡ Err f) (text_table a (map part_of hs)).refuses
    (λ f is. inl (subst (λ (ps : List Part). (lines_table a ps).refuses f) (sym (parts_at hs i h l e))
    (lines_refuse a (map part_of (take i hs)) ls (part_of h) (map part_of (drop (i + 1) hs)) f lines is)))
    bad
