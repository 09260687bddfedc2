-- The Concat KDF with SHA-256 (SP 800-56A, section 5.8.1), as JSON Web Encryption uses it (RFC 7518, section 4.6.2).
use Rattle.std.specs.Prelude.{ℕ, ◌*◌, ◌%◌, ◌^◌, List, ◌++◌, length, take}
use Rattle.std.specs.Int.{div_ceil, to_be_bytes, w32}
use Rattle.sha2.specs.Sha256.{sha256}
use Rattle.picky_kdf.specs.Parts.{joined}

-- a text after its length in four bytes; a length that does not fit them is taken modulo 2 ^ 32
abbrev pub measured : List ℕ → List ℕ
measured text = to_be_bytes w32 (length text % 2 ^ 32) ++ text

-- AlgorithmID, PartyUInfo, PartyVInfo and SuppPubInfo, which is the size in bits
abbrev pub other_info : List ℕ → List ℕ → List ℕ → ℕ → List ℕ
other_info algorithm apu apv size =
    measured algorithm ++ measured apu ++ measured apv ++ to_be_bytes w32 (8 * size)

-- the first `size` bytes of the hashes of 1, 2, … in four bytes, the shared secret and the rest
unfoldable pub concat_kdf : List ℕ → ℕ → List ℕ → List ℕ → List ℕ → List ℕ
concat_kdf algorithm size secret apu apv = take size
    (joined (λ i. sha256 (to_be_bytes w32 i ++ secret ++ other_info algorithm apu apv size)) 1 (div_ceil size 32))
