-- The trees as which keys and sets are written (RFC 7517 sections 4 and 5): absent members aren't written.
use Rattle.std.specs.Prelude.{ℕ, List, [], ◌∷◌, Option, Some, option_map, codes}
use Rattle.serde_json.specs.Data.{Data, string, object, no_members, put}
use Rattle.picky_members.specs.Writing.{list_tree, put_table}
use Rattle.picky_jwk_names.specs.Names.{jwa_name, curve_name, ed_name, use_name, ops_name}
use Rattle.picky_jwk_key.specs.Keys.{Key, rsa, ec, ed, oct}
use Rattle.picky_jwk.specs.Jwk.{Jwk}

abbrev pub key_table : Key → List (List ℕ × Option Data)
key_table (rsa k) = (codes "kty", Some (string (codes "RSA"))) ∷ (codes "n", Some (string k.n)) ∷ (codes "e", Some (string k.e)) ∷ []
key_table (ec k) = (codes "kty", Some (string (codes "EC"))) ∷ (codes "crv", Some (string (curve_name k.crv))) ∷ (codes "x", Some (string k.x)) ∷ (codes "y", Some (string k.y)) ∷ []
key_table (ed k) = (codes "kty", Some (string (codes "OKP"))) ∷ (codes "crv", Some (string (ed_name k.crv))) ∷ (codes "x", Some (string k.x)) ∷ []
key_table oct = (codes "kty", Some (string (codes "oct"))) ∷ []

abbrev pub jwk_rows : Jwk → List (List ℕ × Option Data)
jwk_rows k =
    (codes "alg", option_map (λ a. string (jwa_name a)) k.alg)
    ∷ (codes "use", option_map (λ a. string (use_name a)) k.key_use)
    ∷ (codes "key_ops", option_map (list_tree (λ a. string (ops_name a))) k.key_ops)
    ∷ (codes "kid", option_map string k.kid)
    ∷ (codes "x5u", option_map string k.x5u)
    ∷ (codes "x5c", option_map (list_tree string) k.x5c)
    ∷ (codes "x5t", option_map string k.x5t)
    ∷ (codes "x5t#S256", option_map string k.x5t_s256)
    ∷ []

unfoldable pub jwk_tree : Jwk → Data
jwk_tree k = object (put_table (jwk_rows k) (put_table (key_table k.key) no_members))

unfoldable pub set_tree : List Jwk → Data
set_tree ks = object (put (codes "keys") (list_tree jwk_tree ks) no_members)
