-- What a header text says (draft-cavage-http-signatures-12, sections 2.1 and 4.1).
use Rattle.std.specs.Prelude.{◌≡◌, ℕ, Bool, not, ◌&&◌, ◌||◌, ◌==◌, false, List, [], ◌∷◌, map, Option, Some, None, option_map, codes, string_bytes, slice_range}
use Rattle.std.specs.List.{list_any}
use Rattle.picky_http_text.specs.Items.{IsRaw, equals}
use Rattle.picky_http_text.specs.Clean.{IsClean, IsValue, quote}
use Rattle.picky_http_text.specs.Numbers.{IsNumber}
use Rattle.picky_http_text.specs.declared.span.Span.{Span}
use Rattle.picky_http.specs.declared.signature.HttpSignature.{HttpSignature}
use Rattle.picky_http.specs.declared.view.HeaderView.{HeaderView}
use Rattle.picky_http.specs.Algorithms.{Algorithm, algorithm_view, algorithm_named}
use Rattle.picky_http.specs.Parts.{part_of, AreParts}
use Rattle.picky_http.specs.Signing.{Part}

-- the keys
abbrev pub key_id_key : List ℕ
key_id_key = codes "keyId"

abbrev pub signature_key : List ℕ
signature_key = codes "signature"

abbrev pub created_key : List ℕ
created_key = codes "created"

abbrev pub expires_key : List ℕ
expires_key = codes "expires"

abbrev pub headers_key : List ℕ
headers_key = codes "headers"

abbrev pub algorithm_key : List ℕ
algorithm_key = codes "algorithm"

-- the cleaned value of the key, or none where the text has no such key
abbrev pub IsOptionalValue : List ℕ → List ℕ → Option (List ℕ) → Type 0
IsOptionalValue text key None = IsRaw text key None
IsOptionalValue text key (Some value) = IsValue text key value

-- the number under the key, or none where the text has no such key
abbrev pub IsOptionalNumber : List ℕ → List ℕ → Option ℕ → Type 0
IsOptionalNumber text key None = IsRaw text key None
IsOptionalNumber text key (Some n) = (value : List ℕ) × IsValue text key value × IsNumber value n

-- a value begins with a double quote
abbrev pub begins_with_quote : List ℕ → Bool
begins_with_quote [] = false
begins_with_quote (b ∷ bs) = b == quote

-- `/`, `+` or `=`: a character that standard base64 has, and base64url hasn't
abbrev pub is_standard_byte : ℕ → Bool
is_standard_byte b = b == 47 || (b == 43 || b == equals)

-- the form of a signature is base64url where its raw value begins with no quote, and the cleaned one holds no `/`, `+`, `=`
abbrev pub is_legacy : List ℕ → List ℕ → Bool
is_legacy raw clean = not (begins_with_quote raw) && not (list_any is_standard_byte clean)

-- the text of a signature, and whether its form is unpadded base64url
pub record Signed : Type 0 where
  pub text : List ℕ
  pub legacy : Bool

pub record IsSigned (text : List ℕ) (s : Signed) : Type 0 where
  pub raw : List ℕ
  pub is_raw : IsRaw text signature_key (Some raw)
  pub clean : IsClean raw s.text
  pub form : s.legacy ≡ is_legacy raw s.text

-- what a header text says
pub record Reading : Type 0 where
  pub key_id : List ℕ
  pub headers : List Part
  pub created : Option ℕ
  pub expires : Option ℕ
  pub signature : List ℕ
  pub algorithm : Option Algorithm
  pub legacy : Bool

abbrev pub signed_of : Reading → Signed
signed_of r = record { text = r.signature; legacy = r.legacy }

-- the parts that are covered, none where the text has no list
pub record CoversParts (text : List ℕ) (parts : List Part) : Type 0 where
  pub value : Option (List ℕ)
  pub is : IsOptionalValue text headers_key value
  pub parts_are : AreParts value parts

-- the algorithm, none where the text names none
pub record NamesAlgorithm (text : List ℕ) (algorithm : Option Algorithm) : Type 0 where
  pub value : Option (List ℕ)
  pub is : IsOptionalValue text algorithm_key value
  pub named : algorithm ≡ option_map algorithm_named value

-- the text says this
pub record HeaderReading (text : List ℕ) (r : Reading) : Type 0 where
  pub key_id : IsValue text key_id_key r.key_id
  pub signature : IsSigned text (signed_of r)
  pub created : IsOptionalNumber text created_key r.created
  pub expires : IsOptionalNumber text expires_key r.expires
  pub headers : CoversParts text r.headers
  pub algorithm : NamesAlgorithm text r.algorithm

-- a signature without where its texts lie in memory
abbrev pub reading_of : HttpSignature → Reading
reading_of s = record {
  key_id = string_bytes s.key_id;
  headers = map part_of s.headers.items;
  created = s.created;
  expires = s.expires;
  signature = string_bytes s.signature;
  algorithm = option_map algorithm_view s.algorithm;
  legacy = s.legacy;
}

-- ---- the same before its lists are cut, as views of a text are seen

pub record Shown : Type 0 where
  pub key_id : List ℕ
  pub signature : List ℕ
  pub headers : Option (List ℕ)
  pub algorithm : Option (List ℕ)
  pub created : Option ℕ
  pub expires : Option ℕ
  pub legacy : Bool

-- the bytes of a text at a span
abbrev pub at : List ℕ → Span → List ℕ
at text span = slice_range text span.start span.end

abbrev pub shown_of : HeaderView → Shown
shown_of v = record {
  key_id = at v.text.now v.key_id;
  signature = at v.text.now v.signature;
  headers = option_map (at v.text.now) v.headers;
  algorithm = option_map (at v.text.now) v.algorithm;
  created = v.created;
  expires = v.expires;
  legacy = v.legacy;
}

-- what is shown, with these parts
abbrev pub reading_with : Shown → List Part → Reading
reading_with v parts = record {
  key_id = v.key_id;
  headers = parts;
  created = v.created;
  expires = v.expires;
  signature = v.signature;
  algorithm = option_map algorithm_named v.algorithm;
  legacy = v.legacy;
}

-- the reading is what is shown, with its lists cut
pub record IsCutOf (v : Shown) (r : Reading) : Type 0 where
  pub parts : AreParts v.headers r.headers
  pub is : r ≡ reading_with v r.headers

-- a span with a form, as the signature that stands there
abbrev pub signed_view : List ℕ → Span × Bool → Signed
signed_view text s = record { text = at text s.0; legacy = s.1 }
