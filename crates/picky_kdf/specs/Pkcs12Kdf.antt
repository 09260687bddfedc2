-- The key derivation of PKCS #12 (RFC 7292, appendix B.2). Its blocks have v bytes, the block size of the hash.
use Rattle.std.specs.Prelude.{ℕ, zero, suc, ◌+◌, ◌*◌, ◌/◌, ◌%◌, ◌^◌, List, [], ◌∷◌, ◌++◌, length, map, take, drop, replicate, slice_index}
use Rattle.std.specs.Int.{div_ceil}
use Rattle.std.specs.List.{range_with_len}
use Rattle.picky_kdf.specs.Hash.{block_size, digest, digest_size}
use Rattle.picky_kdf.specs.Parts.{joined}
use Rattle.picky_kdf.specs.declared.hash.Pkcs12HashAlgorithm.{Pkcs12HashAlgorithm}
use Rattle.picky_kdf.specs.declared.pkcs12.Pbkdf1Usage.{Pbkdf1Usage}
use Rattle.picky_kdf.specs.declared.pkcs12.Pbkdf1Usage.TheVariants.{Key, Iv, Mac}

-- the purpose of the derived bytes, as a byte (appendix B.3)
abbrev pub usage_id : Pbkdf1Usage → ℕ
usage_id Key = 1
usage_id Iv = 2
usage_id Mac = 3

-- n bytes of a text taken over and over
abbrev pub cycled : List ℕ → ℕ → List ℕ
cycled text n = map (λ i. slice_index text (i % length text)) (range_with_len 0 n)

-- a text over and over up to a multiple of v bytes, and nothing where it is empty (steps 2 and 3)
abbrev pub repeated : ℕ → List ℕ → List ℕ
repeated v text = cycled text (div_ceil (length text) v * v)

-- the hash of the hash .. of a text, r times
unfoldable pub hashed : Pkcs12HashAlgorithm → List ℕ → ℕ → List ℕ
hashed hash text zero = text
hashed hash text (suc r) = digest hash (hashed hash text r)

-- the number that bytes write, the highest byte first
abbrev pub number : List ℕ → ℕ
number [] = 0
number (byte ∷ bytes) = byte * 2 ^ (8 * length bytes) + number bytes

-- the v lowest bytes of a number, the highest first
abbrev pub bytes_of : ℕ → ℕ → List ℕ
bytes_of zero n = []
bytes_of (suc v) n = n / 2 ^ (8 * v) % 256 ∷ bytes_of v n

-- the block, b and 1 added as numbers modulo 2 ^ (8 v) (step 6C)
unfoldable pub raised : ℕ → List ℕ → List ℕ → List ℕ
raised v b block = bytes_of v ((number block + number b + 1) % 2 ^ (8 * v))

-- each block of v bytes of a text raised so
unfoldable pub raised_blocks : ℕ → List ℕ → List ℕ → List ℕ
raised_blocks v b text = joined (λ j. raised v b (take v (drop (j * v) text))) 0 (length text / v)

-- the text I after i rounds that each hash `diversifier` and I r times, and raise the blocks of I
-- by that hash over and over (step 6)
unfoldable pub text_after : Pkcs12HashAlgorithm → List ℕ → ℕ → List ℕ → ℕ → List ℕ
text_after hash diversifier r text zero = text
text_after hash diversifier r text (suc i) =
    let before : List ℕ = text_after hash diversifier r text i in
    let a : List ℕ = hashed hash (diversifier ++ before) r in
    raised_blocks (block_size hash) (cycled a (block_size hash)) before

-- the first `size` bytes of the hashes of all rounds joined (steps 1, 4, 5, 7 and 8)
unfoldable pub pbkdf1 : Pkcs12HashAlgorithm → List ℕ → List ℕ → ℕ → Pbkdf1Usage → ℕ → List ℕ
pbkdf1 hash password salt r usage size =
    let v : ℕ = block_size hash in
    let diversifier : List ℕ = replicate v (usage_id usage) in
    let text : List ℕ = repeated v salt ++ repeated v password in
    take size (joined (λ i. hashed hash (diversifier ++ text_after hash diversifier r text i) r) 0 (div_ceil size (digest_size hash)))
