-- GCM with AES, nonces of 12 bytes and tags of 16 (SP 800-38D, 7.1 and 7.2).
use Rattle.std.specs.Prelude.{◌≡◌, ℕ, Option, MatchOption, List, replicate}
use Rattle.picky_contract.specs.Sums.{add_bytes}
use Rattle.picky_aes.specs.Cipher.{cipher}
use Rattle.picky_gcm.specs.Counter.{counted, counter_block}
use Rattle.picky_gcm.specs.Hash.{hash_of}

-- a ciphertext and its tag
pub record Sealed : Type 0 where
  pub text : List ℕ
  pub tag : List ℕ

-- the tag of a ciphertext: its hash, under the cipher of the zero block, plus the cipher of J0
unfoldable pub tag_of : List ℕ → List ℕ → List ℕ → List ℕ → List ℕ
tag_of key nonce aad sealed = add_bytes (hash_of (cipher key (replicate 16 0)) aad sealed) (cipher key (counter_block nonce 0))

-- what a text is sealed to: the text in counter mode, and the tag of that
unfoldable pub Seal : List ℕ → List ℕ → List ℕ → List ℕ → Sealed
Seal key nonce aad text = record { text = counted key nonce text; tag = tag_of key nonce aad (counted key nonce text) }

-- what a ciphertext and a tag open to: the text whose seal they are, and none where no text has that seal
abbrev pub Open : List ℕ → List ℕ → List ℕ → Sealed → Option (List ℕ) → Type 0
Open key nonce aad sealed opened =
    MatchOption opened ((text : List ℕ) → Seal key nonce aad text ≡ sealed → ⊥) (λ text. Seal key nonce aad text ≡ sealed)
