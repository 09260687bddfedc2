-- A printed text, piece by piece.
use Rattle.std.proofs.Common.{◌≡◌, ℕ, List, [], ◌∷◌, ◌++◌, map, length, get_or, take, take_all, drop, ◌-◌, ◌≤◌, arith, sym, ◌∙◌, ap, append-nil, codes, option_map, decimal}
use Rattle.std.specs.List.{join_with_byte}
use Rattle.std.proofs.lemmas.List.Concat.{flat_map-append}
use Rattle.picky_http.specs.declared.header.Header.{Header}
use Rattle.picky_http.specs.Parts.{part_of}
use Rattle.picky_http.specs.Printing.{item, optional_item, quoted, quoted_algorithm, list_text, behind, printed}
use Rattle.picky_http.specs.Reading.{Reading, key_id_key, algorithm_key, created_key, expires_key, headers_key, signature_key}
use Rattle.picky_http.specs.Signing.{Part, part_text}

joined_is : (c : ℕ) (x : List ℕ) (xs : List (List ℕ)) → join_with_byte c (x ∷ xs) ≡ x ++ behind c xs
joined_is c x [] = sym (append-nil x)
joined_is c x (y ∷ ys) = ap (λ (t : List ℕ). x ++ c ∷ t) (joined_is c y ys)

list_is : (p : Part) (ps : List Part) → list_text (p ∷ ps) ≡ part_text p ++ behind 32 (map part_text ps)
list_is p ps = joined_is 32 (part_text p) (map part_text ps)

-- the list of a slice that begins with x
pub slice_list : (xs : List Header) (x : Header) → 1 ≤ length xs → x ≡ get_or xs 0 x
    → list_text (map part_of xs) ≡ part_text (part_of x) ++ behind 32 (map part_text (map part_of (take (length xs - 1) (drop 1 xs))))
slice_list [] x some e = absurd (omega arith)
slice_list (y ∷ ys) x some e =
    let rest : take (length (y ∷ ys) - 1) ys ≡ ys = take_all (length (y ∷ ys) - 1) ys (omega arith) in
    list_is (part_of y) (map part_of ys)
    ∙ (λ i. part_text (part_of (sym e i)) ++ behind 32 (map part_text (map part_of (sym rest i))))

behind_both : (c : ℕ) (xs ys : List (List ℕ)) → behind c (xs ++ ys) ≡ behind c xs ++ behind c ys
behind_both c xs ys = flat_map-append (λ (t : List ℕ). c ∷ t) xs ys

last_two : (h s : List ℕ) → behind 44 (h ∷ s ∷ []) ≡ (44 ∷ h) ++ 44 ∷ s
last_two h s = ap (λ (t : List ℕ). (44 ∷ h) ++ 44 ∷ t) (append-nil s)

-- the pieces, as they are written
unfoldable pub pieces : Reading → List ℕ
pieces r =
    codes "Signature keyId=" ++ (quoted r.legacy r.key_id
    ++ (behind 44 (optional_item algorithm_key (quoted_algorithm r.legacy r.algorithm))
    ++ (behind 44 (optional_item created_key (option_map decimal r.created))
    ++ (behind 44 (optional_item expires_key (option_map decimal r.expires))
    ++ (codes ",headers=" ++ (quoted r.legacy (list_text r.headers)
    ++ (codes ",signature=" ++ quoted r.legacy r.signature)))))))

pub printed_is : (r : Reading) → printed r ≡ pieces r
unfolding printed pieces
printed_is r =
    let a = optional_item algorithm_key (quoted_algorithm r.legacy r.algorithm) in
    let c = optional_item created_key (option_map decimal r.created) in
    let e = optional_item expires_key (option_map decimal r.expires) in
    let h = item headers_key (quoted r.legacy (list_text r.headers)) in
    let s = item signature_key (quoted r.legacy r.signature) in
    let k = quoted r.legacy r.key_id in
    ap (λ (t : List ℕ). codes "Signature " ++ t) (joined_is 44 (item key_id_key k) (a ++ (c ++ (e ++ h ∷ s ∷ []))))
    ∙ ap (λ (t : List ℕ). codes "Signature keyId=" ++ (k ++ t)) (
    behind_both 44 a (c ++ (e ++ h ∷ s ∷ []))
    ∙ ap (λ (t : List ℕ). behind 44 a ++ t) (behind_both 44 c (e ++ h ∷ s ∷ [])
    ∙ ap (λ (t : List ℕ). behind 44 c ++ t) (behind_both 44 e (h ∷ s ∷ [])
    ∙ ap (λ (t : List ℕ). behind 44 e ++ t) (last_two h s))))
