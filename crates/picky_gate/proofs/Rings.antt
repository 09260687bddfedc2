-- The names of the keys differ.
use Rattle.std.proofs.Common.{◌≡◌, inl, inr, ◌<◌, ◌≤◌, ◌^◌, ℕ, zero, suc, List, drop, None, ap, ◌∙◌, arith}
use Rattle.std.proofs.lemmas.Bool.{cases_Bool}
use Rattle.std.proofs.lemmas.Cmp.{nat_list_cmp_total}
use Rattle.std.proofs.lemmas.Fmt.{decimal_injective}
use Rattle.std.proofs.lemmas.Map.Views.{tells_apart}
use Rattle.std.specs.Cmp.Lexicographic.{slice_cmp}
use Rattle.std.specs.FinMap.{get, get-empty, get-insert, slice_cmp-IsAntisymmetric, nat_cmp-IsAntisymmetric}
use Rattle.std.specs.Ordering.{nat_cmp, eq_by_cmp}
use Rattle.picky_key.specs.declared.algorithm.SignatureAlgorithm.TheVariants.{Ed25519}
use Rattle.picky_ring.specs.declared.ring.RingEntry.TheVariants.{Verify}
use Rattle.picky_generate.specs.Texts.{key, key_name}
use Rattle.picky_gate.specs.Generated.{first_keys}

-- a later name is none of the first
pub new_name : (n m : ℕ) → n ≤ m → m < 2 ^ 64 → get (first_keys n) (key_name m) ≡ None
new_name zero m below small = get-empty (slice_cmp nat_cmp) (key_name m)
new_name (suc n) m below small =
    get-insert nat_list_cmp_total (first_keys n) (key_name n) (Verify (key n) Ed25519) (key_name m)
    ∙ elim (cases_Bool (eq_by_cmp (slice_cmp nat_cmp) (key_name m) (key_name n))) [
      | inl same ↦
          let names : key_name m ≡ key_name n = tells_apart (slice_cmp-IsAntisymmetric nat_cmp-IsAntisymmetric) (key_name m) (key_name n) same in
          let one : m ≡ n = decimal_injective m n small (omega (arith, below, small)) (ap (λ (l : List ℕ). drop 1 l) names) in
          absurd (omega (arith, one, below))
      | inr other ↦ rw other (new_name n m (omega (arith, below)) small)
    ]
