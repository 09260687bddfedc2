-- The tree of a key nests at most two levels deep.
use Rattle.std.proofs.Common.{◌≤◌, List, arith}
use Rattle.serde_json.specs.Data.{string, no_members, depth}
use Rattle.picky_members.specs.Writing.{put_table}
use Rattle.picky_members.specs.laws.Shallow.{AllShallow, shallow_table, shallow_option, shallow_list}
use Rattle.picky_jwk_names.specs.Names.{jwa_name, use_name, ops_name}
use Rattle.picky_jwk_key.specs.Keys.{Key, rsa, ec, ed, oct}
use Rattle.picky_jwk.specs.Jwk.{Jwk}
use Rattle.picky_jwk.specs.Trees.{key_table, jwk_rows, jwk_tree, set_tree}

key_rows : (key : Key) → AllShallow 1 (key_table key)
key_rows (rsa k) = (omega arith, (omega arith, (omega arith, tt)))
key_rows (ec k) = (omega arith, (omega arith, (omega arith, (omega arith, tt))))
key_rows (ed k) = (omega arith, (omega arith, (omega arith, tt)))
key_rows oct = (omega arith, tt)

pub jwk_shallow : (k : Jwk) → depth (jwk_tree k) ≤ 2
unfolding jwk_tree
jwk_shallow k =
    let rows : AllShallow 1 (jwk_rows k) = (
      shallow_option (λ a. string (jwa_name a)) 1 (λ x. omega arith) k.alg,
      (
        shallow_option (λ a. string (use_name a)) 1 (λ x. omega arith) k.key_use,
        (
          shallow_option _ 1 (shallow_list (λ a. string (ops_name a)) 0 (λ x. omega arith)) k.key_ops,
          (
            shallow_option string 1 (λ x. omega arith) k.kid,
            (
              shallow_option string 1 (λ x. omega arith) k.x5u,
              (
                shallow_option _ 1 (shallow_list string 0 (λ x. omega arith)) k.x5c,
                (
                  shallow_option string 1 (λ x. omega arith) k.x5t,
                  (
                    shallow_option string 1 (λ x. omega arith) k.x5t_s256,
                    tt,
                  ),
                ),
              ),
            ),
          ),
        ),
      ),
    ) in
    omega (arith, shallow_table (jwk_rows k) (put_table (key_table k.key) no_members) 1 rows (shallow_table (key_table k.key) no_members 1 (key_rows k.key) (omega arith)))

pub set_shallow : (ks : List Jwk) → depth (set_tree ks) ≤ 4
unfolding set_tree
set_shallow ks = omega (arith, shallow_list jwk_tree 2 jwk_shallow ks)
