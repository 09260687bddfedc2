-- A hash of a hash, over and over, in the front of an array; the text of the next round.
use Rattle.std.proofs.Common.{◌≡◌, ℕ, ◌+◌, ◌*◌, ◌/◌, ◌≤◌, List, ◌++◌, length, take, drop, replicate, ap, ◌∙◌, arith, add-one, length-append}
use Rattle.std.specs.Int.{div_ceil}
use Rattle.std.proofs.lemmas.List.{append-nil, drop_all, take-replicate, take_all}
use Rattle.std.proofs.lemmas.Nat.{div-mul-add}
use Rattle.picky_kdf.specs.Hash.{block_size, digest, digest_size}
use Rattle.picky_kdf.specs.Pkcs12Kdf.{cycled, hashed, raised_blocks, repeated, text_after, usage_id}
use Rattle.picky_kdf.specs.declared.hash.Pkcs12HashAlgorithm.{Pkcs12HashAlgorithm}
use Rattle.picky_kdf.specs.declared.pkcs12.Pbkdf1Usage.{Pbkdf1Usage}
use Rattle.picky_kdf.proofs.Cycles.{length-cycled, length-repeated, take-cycled}
use Rattle.picky_kdf.proofs.Sizes.{block_size-le}

pub first-hashed : (hash : Pkcs12HashAlgorithm) (text out : List ℕ) → take (digest_size hash) out ≡ digest hash text → take (digest_size hash) out ≡ hashed hash text 1
unfolding hashed
first-hashed hash text out e = e

-- what each round of the derivation hashes first, and the text of its first round
abbrev pub diversifier_of : Pkcs12HashAlgorithm → Pbkdf1Usage → List ℕ
diversifier_of hash usage = replicate (block_size hash) (usage_id usage)

abbrev pub start_of : Pkcs12HashAlgorithm → List ℕ → List ℕ → List ℕ
start_of hash password salt = repeated (block_size hash) salt ++ repeated (block_size hash) password

abbrev pub text_at : Pkcs12HashAlgorithm → List ℕ → List ℕ → ℕ → Pbkdf1Usage → ℕ → List ℕ
text_at hash password salt r usage i = text_after hash (diversifier_of hash usage) r (start_of hash password salt) i

abbrev pub round_at : Pkcs12HashAlgorithm → List ℕ → List ℕ → ℕ → Pbkdf1Usage → ℕ → List ℕ
round_at hash password salt r usage i = hashed hash (diversifier_of hash usage ++ text_at hash password salt r usage i) r

pub text_none : (hash : Pkcs12HashAlgorithm) (password salt : List ℕ) (r : ℕ) (usage : Pbkdf1Usage) (block : ℕ) (text : List ℕ) → block ≡ block_size hash → text ≡ repeated block salt ++ repeated block password
    → text ≡ text_at hash password salt r usage 0
unfolding text_after
text_none hash password salt r usage block text eb et = et ∙ ap (λ v. repeated v salt ++ repeated v password) eb

pub whole_none : (v : ℕ) (salt password text : List ℕ) → 1 ≤ v → text ≡ repeated v salt ++ repeated v password → length text ≡ length text / v * v
whole_none v salt password text some et =
    let m : ℕ = div_ceil (length salt) v in
    let n : ℕ = div_ceil (length password) v in
    let size : length text ≡ m * v + n * v = ap length et ∙ length-append (repeated v salt) (repeated v password) ∙ (λ i. length-repeated v salt i + length-repeated v password i) in
    let same : length text ≡ (m + n) * v + 0 = grind arith in
    let blocks : length text / v ≡ m + n = ap (λ t. t / v) same ∙ div-mul-add (m + n) v 0 (omega arith) in
    rw blocks (grind arith)

pub round-is : (hash : Pkcs12HashAlgorithm) (password salt : List ℕ) (r : ℕ) (usage : Pbkdf1Usage) (i block id : ℕ) (array text out : List ℕ) → block ≡ block_size hash → id ≡ usage_id usage → array ≡ replicate 128 id
    → text ≡ text_at hash password salt r usage i → take (digest_size hash) out ≡ hashed hash (take block array ++ text) r
    → take (digest_size hash) out ≡ round_at hash password salt r usage i
round-is hash password salt r usage i block id array text out eb ei ea et eo =
    let front : take block array ≡ diversifier_of hash usage = ap (take block) ea ∙ take-replicate block 128 id (omega (arith, block_size-le hash)) ∙ (λ k. replicate (eb k) (ei k)) in
    eo ∙ (λ k. hashed hash (front k ++ et k) r)

pub text_more : (hash : Pkcs12HashAlgorithm) (password salt : List ℕ) (r : ℕ) (usage : Pbkdf1Usage) (i block : ℕ) (text now digest : List ℕ) → block ≡ block_size hash
    → text ≡ text_at hash password salt r usage i → digest ≡ round_at hash password salt r usage i → now ≡ raised_blocks block (cycled digest block) text
    → now ≡ text_at hash password salt r usage (i + 1)
unfolding text_after
text_more hash password salt r usage i block text now digest eb et ed en =
    rw (add-one i) (en ∙ (λ k. raised_blocks (eb k) (cycled (ed k) (eb k)) (et k)))

pub next-text-is : (block : ℕ) (digest array b text now : List ℕ) → block ≤ 128 → array ≡ cycled digest 128 → b ≡ take block array → now ≡ raised_blocks (length b) b text
    → now ≡ raised_blocks block (cycled digest block) text
next-text-is block digest array b text now h ea eb en =
    let same : b ≡ cycled digest block = eb ∙ ap (take block) ea ∙ take-cycled digest 128 block h in
    en ∙ (λ i. raised_blocks (length (same i)) (same i) text) ∙ ap (λ v. raised_blocks v (cycled digest block) text) (length-cycled digest block)

-- what a vector holds once all of it was written
pub written_over : (len : ℕ) (now before : List ℕ) → length now ≡ length before → length before ≡ len → take len (now ++ drop (length now) before) ≡ now
written_over len now before e f =
    ap (λ t. take len (now ++ t)) (drop_all (length now) before (omega arith)) ∙ ap (take len) (append-nil now) ∙ take_all len now (omega arith)
