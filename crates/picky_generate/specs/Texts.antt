-- The text that is made of the word w and its number i, and the line that records its signature (own; a token by RFC 7515, section 7.1).
use Rattle.std.specs.Prelude.{ℕ, ◌+◌, ◌/◌, ◌%◌, ◌==◌, List, [], ◌∷◌, ◌++◌, bit_xor, codes, if◌then◌else◌, replicate}
use Rattle.std.specs.Fmt.{decimal}
use Rattle.std.specs.Int.{to_be_bytes, w32}
use Rattle.picky_base64.specs.Base64.{encoding}
use Rattle.picky_base64.specs.declared.Form.TheVariants.{Url}
use Rattle.picky_key_der.specs.declared.algorithm.EdAlgorithm.TheVariants.{Ed25519}
use Rattle.picky_key_der.specs.declared.public.PublicKeyKind.{PublicKeyKind}
use Rattle.picky_key_der.specs.declared.public.PublicKeyKind.TheVariants.{Ed}
use Rattle.picky_key_der.specs.Writing.{public_der_of}

-- base64url without padding
abbrev pub url : List ℕ → List ℕ
url bytes = encoding Url bytes

-- ---- the keys, one for each number below 8

-- the name of a key
abbrev pub key_name : ℕ → List ℕ
key_name d = codes "k" ++ decimal d

-- the key: 32 bytes of its number
abbrev pub key : ℕ → PublicKeyKind
key d = Ed Ed25519 (replicate 32 d)

-- the number of a word's key
abbrev pub key_number : ℕ → ℕ
key_number w = w % 8

-- ---- the token

-- the header `{"alg":"EdDSA","kid":"kD"}`
abbrev pub header : ℕ → List ℕ
header w = codes "{\"alg\":\"EdDSA\",\"kid\":\"" ++ (key_name (key_number w) ++ codes "\"}")

-- the claims `{"exp":E,"n":i}`
abbrev pub claims : ℕ → ℕ → List ℕ
claims w i = codes "{\"exp\":" ++ (decimal (1 + w / 8) ++ (codes ",\"n\":" ++ (decimal i ++ codes "}")))

-- the bytes before the last dot, of which the signature is
abbrev pub signed : ℕ → ℕ → List ℕ
signed w i = url (header w) ++ (codes "." ++ url (claims w i))

-- the signature: the word's four bytes in big-endian order
abbrev pub signature : ℕ → List ℕ
signature w = to_be_bytes w32 w

-- the text: `Bearer ` and the token
abbrev pub text : ℕ → ℕ → List ℕ
text w i = codes "Bearer " ++ (signed w i ++ (codes "." ++ url (signature w)))

-- ---- the record

-- the last byte has its lowest bit changed
abbrev pub changed : List ℕ → List ℕ
changed [] = []
changed (b ∷ []) = bit_xor b 1 ∷ []
changed (b ∷ c ∷ rest) = b ∷ changed (c ∷ rest)

-- the message of the record: the bytes that are signed, but changed in each seventh
abbrev pub message : ℕ → ℕ → List ℕ
message w i = if i % 7 == 6 then changed (signed w i) else signed w i

-- the line `sig ed25519-sha512 SPKI MESSAGE SIGNATURE`, its bytes in base64url
abbrev pub record_line : ℕ → ℕ → List ℕ
record_line w i =
    codes "sig ed25519-sha512 " ++ (url (public_der_of (key (key_number w)))
    ++ (codes " " ++ (url (message w i) ++ (codes " " ++ (url (signature w) ++ codes "\n")))))
