-- Parts keep their numbers.
use Rattle.std.proofs.Common.{◌≡◌, Bool, true, false, ℕ, List, [], ◌∷◌, ◌++◌, Option, Some, map, refl, sym, ap, subst, ◌∙◌}
use Rattle.std.proofs.lemmas.Bool.{false≢true}
use Rattle.std.proofs.lemmas.List.{map-append}
use Rattle.std.specs.Prelude.{IsTrue, ◌&&◌}
use Rattle.picky_http.specs.declared.header.Header.{Header}
use Rattle.picky_http.specs.Numbered.{has_number, are_numbered}
use Rattle.picky_http.specs.Parts.{part_of}
use Rattle.picky_http.specs.Signing.{Part, Named, Target, Created, Expires}

both : (a b : Bool) → IsTrue a → IsTrue b → IsTrue (a && b)
both true b h k = k
both false b h k = absurd (false≢true h)

first : (a b : Bool) → IsTrue (a && b) → IsTrue a
first true b h = refl
first false b h = absurd (false≢true h)

second : (a b : Bool) → IsTrue (a && b) → IsTrue b
second true b h = h
second false b h = absurd (false≢true h)

-- one part more, where each number that was there still is
pub numbered_push : (c e d f : Option ℕ) (parts : List Part) (part : Part) → ((p : Part) → IsTrue (has_number c e p) → IsTrue (has_number d f p)) → IsTrue (has_number d f part)
    → IsTrue (are_numbered c e parts) → IsTrue (are_numbered d f (parts ++ part ∷ []))
numbered_push c e d f [] part keep has h = both (has_number d f part) true has refl
numbered_push c e d f (p ∷ ps) part keep has h =
    both (has_number d f p) (are_numbered d f (ps ++ part ∷ [])) (keep p (first (has_number c e p) (are_numbered c e ps) h))
    (numbered_push c e d f ps part keep has (second (has_number c e p) (are_numbered c e ps) h))

pub keep_created : (c e : Option ℕ) (n : ℕ) (p : Part) → IsTrue (has_number c e p) → IsTrue (has_number (Some n) e p)
keep_created c e n (Named name) h = refl
keep_created c e n Target h = refl
keep_created c e n Created h = refl
keep_created c e n Expires h = h

pub keep_expires : (c e : Option ℕ) (n : ℕ) (p : Part) → IsTrue (has_number c e p) → IsTrue (has_number c (Some n) p)
keep_expires c e n (Named name) h = refl
keep_expires c e n Target h = refl
keep_expires c e n Created h = h
keep_expires c e n Expires h = refl

-- the same of a builder's headers
pub numbered_headers : (c e d f : Option ℕ) (old new : List Header) (h : Header) → new ≡ old ++ h ∷ [] → ((p : Part) → IsTrue (has_number c e p) → IsTrue (has_number d f p))
    → IsTrue (has_number d f (part_of h)) → IsTrue (are_numbered c e (map part_of old)) → IsTrue (are_numbered d f (map part_of new))
numbered_headers c e d f old new h is keep has there =
    let same : map part_of new ≡ map part_of old ++ part_of h ∷ [] = ap (map part_of) is ∙ map-append part_of old (h ∷ []) in
    subst (λ (ps : List Part). IsTrue (are_numbered d f ps)) (sym same) (numbered_push c e d f (map part_of old) (part_of h) keep has there)
