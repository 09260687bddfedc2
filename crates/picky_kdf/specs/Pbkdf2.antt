-- PBKDF2 with HMAC as its pseudorandom function (RFC 8018, section 5.2).
use Rattle.std.specs.Prelude.{ℕ, zero, suc, List, ◌++◌, replicate, take}
use Rattle.std.specs.Int.{div_ceil, to_be_bytes, w32}
use Rattle.picky_contract.specs.Sums.{add_bytes}
use Rattle.picky_kdf.specs.Hash.{digest_size}
use Rattle.picky_kdf.specs.Hmac.{hmac}
use Rattle.picky_kdf.specs.Parts.{joined}
use Rattle.picky_kdf.specs.declared.hash.Pkcs12HashAlgorithm.{Pkcs12HashAlgorithm}

-- U_j of block i: the HMAC of U_(j - 1), where U_0 is the salt and the number i in four bytes
unfoldable pub iterated : Pkcs12HashAlgorithm → List ℕ → List ℕ → ℕ → ℕ → List ℕ
iterated hash password salt i zero = salt ++ to_be_bytes w32 i
iterated hash password salt i (suc j) = hmac hash password (iterated hash password salt i j)

-- the sum U_1 + … + U_c of block i
unfoldable pub key_sum : Pkcs12HashAlgorithm → List ℕ → List ℕ → ℕ → ℕ → List ℕ
key_sum hash password salt i zero = replicate (digest_size hash) 0
key_sum hash password salt i (suc c) =
    add_bytes (key_sum hash password salt i c) (iterated hash password salt i (suc c))

-- the first `size` bytes of the blocks T_1, T_2, …, each the sum of `iterations` HMACs
unfoldable pub pbkdf2 : Pkcs12HashAlgorithm → List ℕ → List ℕ → ℕ → ℕ → List ℕ
pbkdf2 hash password salt iterations size =
    take size (joined (λ i. key_sum hash password salt i iterations) 1 (div_ceil size (digest_size hash)))
