-- Counter mode (SP 800-38D, 6.2 and 6.5) with AES and a nonce of 12 bytes.
use Rattle.std.specs.Prelude.{ℕ, ◌+◌, ◌/◌, ◌%◌, ◌^◌, List, ◌++◌, length, map, drop, slice_index, bit_xor}
use Rattle.std.specs.List.{range_with_len}
use Rattle.std.specs.Int.{to_be_bytes, w32}
use Rattle.picky_aes.specs.Cipher.{cipher}

-- the counter block k places after J0: J0 is the nonce and the number 1, whose 32 bits count on modulo 2 ^ 32
abbrev pub counter_block : List ℕ → ℕ → List ℕ
counter_block nonce k = nonce ++ to_be_bytes w32 ((1 + k) % 2 ^ 32)

-- what is added to byte j of a text: byte j % 16 of the cipher of the counter block 1 + j / 16 places after J0
unfoldable pub stream_byte : List ℕ → List ℕ → ℕ → ℕ
stream_byte key nonce j = slice_index (cipher key (counter_block nonce (1 + j / 16))) (j % 16)

-- a text with the key stream added
unfoldable pub counted : List ℕ → List ℕ → List ℕ → List ℕ
counted key nonce text = map (λ j. bit_xor (slice_index text j) (stream_byte key nonce j)) (range_with_len 0 (length text))

-- a text of which the first m bytes have the key stream added, and the others none
unfoldable pub counted_to : List ℕ → List ℕ → List ℕ → ℕ → List ℕ
counted_to key nonce text m = map (λ j. bit_xor (slice_index text j) (stream_byte key nonce j)) (range_with_len 0 m) ++ drop m text
