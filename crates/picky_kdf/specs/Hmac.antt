-- HMAC (RFC 2104, section 2): a hash under a key of a hash under the key.
use Rattle.std.specs.Prelude.{ℕ, ◌-◌, List, ◌++◌, length, map, replicate, bit_xor, if◌then◌else◌, nat_lt}
use Rattle.picky_kdf.specs.Hash.{block_size, digest}
use Rattle.picky_kdf.specs.declared.hash.Pkcs12HashAlgorithm.{Pkcs12HashAlgorithm}

-- a text with zeros after it, up to n bytes
abbrev pub zero_filled : ℕ → List ℕ → List ℕ
zero_filled n text = text ++ replicate (n - length text) 0

-- the key as one block: a key longer than a block is hashed first, and zeros fill the block
abbrev pub key_block : Pkcs12HashAlgorithm → List ℕ → List ℕ
key_block hash key = zero_filled (block_size hash)
    (if nat_lt (block_size hash) (length key) then digest hash key else key)

-- the key's block with each byte added to the byte `pad`
abbrev pub padded_key : Pkcs12HashAlgorithm → ℕ → List ℕ → List ℕ
padded_key hash pad key = map (λ byte. bit_xor byte pad) (key_block hash key)

-- H(K xor opad, H(K xor ipad, message)), where ipad repeats 36 and opad repeats 5C
unfoldable pub hmac : Pkcs12HashAlgorithm → List ℕ → List ℕ → List ℕ
hmac hash key message =
    digest hash (padded_key hash 0x5C key ++ digest hash (padded_key hash 0x36 key ++ message))
