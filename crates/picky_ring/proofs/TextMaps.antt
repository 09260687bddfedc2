-- What a finite map from texts holds.
use Rattle.std.proofs.Common.{◌≡◌, ℕ, List, [], ◌∷◌, String, Global, string_bytes, map, Some, cond, refl, sym, ◌∙◌, ap}
use Rattle.std.proofs.lemmas.Cmp.{eq_by_cmp_equiv}
use Rattle.std.proofs.lemmas.Map.Text.{btree_map_updates_text, is_eq-slice_cmp}
use Rattle.std.specs.BTreeMap.{BTreeMap, UpdatesBy, get_by_text}
use Rattle.std.specs.FinMap.{get, insert, find, get-from_entries, get-insert, same_map, slice_cmp-IsAntisymmetric, nat_cmp-IsAntisymmetric}
use Rattle.std.specs.Map.{lookup}
use Rattle.std.specs.Ordering.{nat_cmp, is_eq}
use Rattle.std.specs.Cmp.Lexicographic.{slice_cmp, nat_list_cmp_total}
use Rattle.std.specs.Str.{bytes_eq}
use Rattle.std.specs.String.{string_cmp}
use Rattle.picky_ring.specs.TextMap.{by_text}

-- two tests of one text
test_of : (k q : List ℕ) → bytes_eq k q ≡ is_eq (slice_cmp nat_cmp q k)
test_of k q = sym (is_eq-slice_cmp k q) ∙ (eq_by_cmp_equiv nat_list_cmp_total).symm k q

module _ {X : Type 0} where
  found : (q : List ℕ) (es : List (String Global × X)) → find (slice_cmp nat_cmp) q (map (λ e. (string_bytes e.0, e.1)) es) ≡ lookup (λ k. is_eq (slice_cmp nat_cmp q (string_bytes k))) es
  found q [] = refl
  found q (e ∷ es) = ap (λ r. cond (is_eq (slice_cmp nat_cmp q (string_bytes e.0))) (Some e.1) r) (found q es)

  -- it has what the map of the standard library has
  pub get_text : (m : BTreeMap (String Global) X) (q : List ℕ) → get (by_text m) q ≡ get_by_text m q
  get_text m q = get-from_entries nat_list_cmp_total (map (λ e. (string_bytes e.0, e.1)) m.entries) q ∙ found q m.entries

  -- one text was put
  pub insert_text : (k : List ℕ) (v : X) (m n : BTreeMap (String Global) X) → UpdatesBy string_cmp (λ s. slice_cmp nat_cmp k (string_bytes s)) m n (Some v) → by_text n ≡ insert (by_text m) k v
  insert_text k v m n updates = same_map nat_list_cmp_total (slice_cmp-IsAntisymmetric nat_cmp-IsAntisymmetric) (by_text n) (insert (by_text m) k v) (λ q.
      get_text n q
      ∙ btree_map_updates_text k m n (Some v) updates q
      ∙ ap (λ b. cond b (Some v) (get_by_text m q)) (test_of k q)
      ∙ ap (λ o. cond (is_eq (slice_cmp nat_cmp q k)) (Some v) o) (sym (get_text m q))
      ∙ sym (get-insert nat_list_cmp_total (by_text m) k v q))
