-- Cipher block chaining (NIST SP 800-38A, 6.2) and the padding of PKCS #7 (RFC 5652, 6.3), over a block cipher e with blocks of v bytes.
use Rattle.std.specs.Prelude.{◌≡◌, ℕ, ◌-◌, ◌*◌, ◌%◌, ◌<◌, ◌≤◌, List, ◌++◌, length, take, replicate, Option, Some, None, IfSome}
use Rattle.picky_contract.specs.Sums.{add_bytes}
use Rattle.picky_modes.specs.Blocks.{IsBytes, block}

-- the text and after it 1 to v bytes, each of which is their number, so that whole blocks come out
abbrev pub padded : ℕ → List ℕ → List ℕ
padded v text = text ++ replicate (v - length text % v) (v - length text % v)

-- sealed is the chain of plain's blocks: each is what e makes of the plain block and the sealed block before it, and of iv for the first
pub record IsChained (e : List ℕ → List ℕ) (v : ℕ) (iv plain sealed : List ℕ) : Type 0 where
  pub size : length sealed ≡ length plain
  pub links : (k : ℕ) → v * k < length sealed → block v sealed k ≡ e (add_bytes (block v plain k) (block v (iv ++ sealed) k))

-- sealed is the encryption of the text: the chain of the padded text
abbrev pub IsCbc : (List ℕ → List ℕ) → ℕ → List ℕ → List ℕ → List ℕ → Type 0
IsCbc e v iv text sealed = IsChained e v iv (padded v text) sealed

-- a length of one or more whole blocks
pub record IsWholeBlocks (v n : ℕ) : Type 0 where
  pub some : 0 < n
  pub whole : n % v ≡ 0

-- what decrypting `sealed` in place leaves there, and the length of the text that it answers
pub record IsDecryption (e : List ℕ → List ℕ) (v : ℕ) (iv sealed left : List ℕ) (answer : Option ℕ) : Type 0 where
  -- where the length isn't one of whole blocks, there is none, and nothing is written
  pub other : ¬ (IsWholeBlocks v (length sealed)) → (answer ≡ None) × (left ≡ sealed)
  -- whole blocks are decrypted, whatever their padding is
  pub opened : IsWholeBlocks v (length sealed) → IsChained e v iv left sealed
  -- the text that is answered is in front, and `sealed` is its encryption
  pub text : IfSome answer (λ n. (n ≤ length left) × IsCbc e v iv (take n left) sealed)
  -- a text whose encryption `sealed` is, is the one that is answered: there is none only where the padding is wrong
  pub every : (text : List ℕ) → IsBytes text → IsCbc e v iv text sealed → (answer ≡ Some (length text)) × (take (length text) left ≡ text)
