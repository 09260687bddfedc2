-- Whole texts.
use Rattle.std.proofs.Common.{◌≡◌, ℕ, ◌≤◌, List, Some, IsUtf8, sym, subst, arith}
use Rattle.serde_json.specs.Data.{Data, depth}
use Rattle.serde_json.specs.Read.{read, max_depth}
use Rattle.picky_json.specs.Tree.{Tree}
use Rattle.picky_members.specs.declared.form.FormError.{FormError}
use Rattle.picky_members.specs.Members.{TextOf}
use Rattle.picky_members.specs.Reading.{NoneOf}

-- a text whose tree, as it is written, is shallow enough to be read back
pub text_written : {A : Type 0} (R : Data → A → Type 0) (tree : A → Data) (d : Data) (x : A) (levels : ℕ) (s : List ℕ) → d ≡ tree x → R (tree x) x → depth (tree x) ≤ levels → levels ≤ 127 → IsUtf8 s
    → (depth d ≤ max_depth → read s ≡ Some d) → TextOf R s x
text_written R tree d x levels s is tells shallow few utf8 back =
    let within : depth d ≤ max_depth = rw is (omega arith) in
    record { tree = d; read = record { utf8 = utf8; reads = back within }; tells = subst (λ u. R u x) (sym is) tells }

pub text_none : {A : Type 0} (R : Data → A → Type 0) (s : List ℕ) (d : Data) (e : FormError) → ((u : Data) → Tree s u → u ≡ d) → NoneOf (R d) e → NoneOf (TextOf R s) e
text_none R s d e one n = record { none = λ is x t. n.none is x (subst (λ u. R u x) (one t.tree t.read) t.tells) }
