-- A copy of additional members shows the same.
use Rattle.std.proofs.Common.{◌≡◌, List, [], ◌∷◌, string_bytes, refl}
use Rattle.std.specs.List.{AllZip}
use Rattle.serde_json.specs.View.{view}
use Rattle.serde_json.proofs.Views.{Entry}
use Rattle.picky_members.specs.Names.{pairs_view}

pub pairs_copied : (es fs : List Entry) → AllZip (λ p q. (string_bytes q.0 ≡ string_bytes p.0) × (view q.1 ≡ view p.1)) es fs → pairs_view fs ≡ pairs_view es
pairs_copied [] [] h = refl
pairs_copied [] (f ∷ fs) h = absurd h
pairs_copied (e ∷ es) [] h = absurd h
pairs_copied (e ∷ es) (f ∷ fs) h =
    let name = h.0.0 in
    let tree = h.0.1 in
    let rest : pairs_view fs ≡ pairs_view es = pairs_copied es fs h.1 in
    cc (name, tree, rest)
