-- Items that are written one after another are found by their keys.
use Rattle.std.proofs.Common.{◌≡◌, ◌≢◌, ℕ, List, [], ◌∷◌, ◌++◌, refl, sym, ◌∙◌, ap, arith, Option, Some, None, IfSome, Bool, true, false, not, ◌&&◌, ◌==◌, get_or}
use Rattle.std.specs.List.{AllByRecursion, join_with_byte, list_all}
use Rattle.std.specs.Str.{trim, trim_start, trim_end, chars}
use Rattle.std.proofs.lemmas.List.Elements.{All-append, All-cons}
use Rattle.picky_contract.specs.Text.{Lacks}
use Rattle.picky_contract.specs.laws.Cuts.{first-once}
use Rattle.picky_http_text.specs.Items.{scheme, IsItem, IsNoItemOf, IsLast, IsRaw, ArePieces}
use Rattle.std.proofs.lemmas.Bool.{false≢true}
use Rattle.picky_http.specs.Printing.{item, optional_item}
use Rattle.picky_http.specs.Reading.{key_id_key, signature_key, created_key, expires_key, headers_key, algorithm_key}
use Rattle.picky_http.specs.laws.Bare.{passes_from, passes_lack, passes_also, both_are, is_plain_byte, bare_plain}

-- ---- one item

-- a text that is trimmed, and holds neither `=` nor comma
pub record IsKey (key : List ℕ) : Type 0 where
  pub no_equals : Lacks 61 key
  pub no_comma : Lacks 44 key
  pub trimmed : trim key ≡ key

-- a value that is trimmed, and holds no comma
pub record IsRawValue (value : List ℕ) : Type 0 where
  pub no_comma : Lacks 44 value
  pub trimmed : trim value ≡ value

pub is_item : (key value : List ℕ) → IsKey key → IsRawValue value → IsItem (item key value) key value
is_item key value k v = record { before = key; after = value; split = refl; no_equals = k.no_equals; key_is = sym k.trimmed; value_is = sym v.trimmed }

-- an item of another key, with or without white space before it
pub no_item : (key before other value : List ℕ) → Lacks 61 before → trim before ≡ other → key ≢ other → IsNoItemOf key (before ++ 61 ∷ value)
no_item key before other value lacks is ne found i =
    let r = first-once 61 before value i.before i.after i.split lacks i.no_equals in
    ne (i.key_is ∙ ap trim (sym r.0) ∙ is)

pub item_no_comma : (key value : List ℕ) → IsKey key → IsRawValue value → Lacks 44 (item key value)
item_no_comma key value k v = All-append (λ (b : ℕ). b ≢ 44) key (61 ∷ value) k.no_comma (All-cons (λ (b : ℕ). b ≢ 44) 61 value (omega arith) v.no_comma)

-- ---- the last of several

pub last_here : (key value piece : List ℕ) (pieces : List (List ℕ)) → IsItem piece key value → IsLast key pieces None → IsLast key (piece ∷ pieces) (Some value)
last_here key value piece pieces i none = ([], piece, pieces, refl, i, none)

pub last_behind : (key piece : List ℕ) (pieces : List (List ℕ)) (value : Option (List ℕ)) → IsNoItemOf key piece → IsLast key pieces value → IsLast key (piece ∷ pieces) value
last_behind key piece pieces None other none = (other, none)
last_behind key piece pieces (Some v) other (front, p, back, e, i, none) = (piece ∷ front, p, back, ap (λ (t : List (List ℕ)). piece ∷ t) e, i, none)

-- an item that may be there
pub optional_here : (key : List ℕ) (value : Option (List ℕ)) (pieces : List (List ℕ)) → IsKey key → IfSome value IsRawValue → IsLast key pieces None → IsLast key (optional_item key value ++ pieces) value
optional_here key None pieces k v none = none
optional_here key (Some value) pieces k v none = last_here key value (item key value) pieces (is_item key value k v) none

pub optional_behind : (key other : List ℕ) (value : Option (List ℕ)) (pieces : List (List ℕ)) (found : Option (List ℕ)) → IsKey other → key ≢ other → IsLast key pieces found → IsLast key (optional_item other value ++ pieces) found
optional_behind key other None pieces found k ne last = last
optional_behind key other (Some value) pieces found k ne last = last_behind key (item other value) pieces found (no_item key other other value k.no_equals k.trimmed ne) last

pub optional_no_comma : (key : List ℕ) (value : Option (List ℕ)) (pieces : List (List ℕ)) → IsKey key → IfSome value IsRawValue → AllByRecursion (Lacks 44) pieces → AllByRecursion (Lacks 44) (optional_item key value ++ pieces)
optional_no_comma key None pieces k v h = h
optional_no_comma key (Some value) pieces k v h = (item_no_comma key value k v, h)

-- ---- the keys of a header text

abbrev is_key_byte : ℕ → Bool
is_key_byte b = not (b == 61) && is_plain_byte b

key_plain : (b : ℕ) → is_key_byte b ≡ true → is_plain_byte b ≡ true
key_plain b h = (both_are (not (b == 61)) (is_plain_byte b) h).1

is_key : (key : List ℕ) → list_all is_key_byte key ≡ true → IsKey key
is_key key h =
    let all = passes_from is_key_byte key h in
    record {
      no_equals = passes_lack is_key_byte 61 key refl all;
      no_comma = passes_lack is_key_byte 44 key refl all;
      trimmed = (bare_plain key (passes_also is_key_byte is_plain_byte key key_plain all)).trimmed;
    }

itself : (b : ℕ) → (b == b) ≡ true
itself b = grind arith

-- texts with other first bytes
other : (xs ys : List ℕ) → (get_or xs 0 0 == get_or ys 0 0) ≡ false → xs ≢ ys
other xs ys h e = false≢true (sym h ∙ ap (λ (t : List ℕ). get_or t 0 0 == get_or ys 0 0) e ∙ itself (get_or ys 0 0))

spaced_trimmed : trim (32 ∷ key_id_key) ≡ key_id_key
unfolding trim_start trim_end chars lib.Utf8.encode
spaced_trimmed = refl

spaced_no_equals : Lacks 61 (32 ∷ key_id_key)
spaced_no_equals = All-cons (λ (b : ℕ). b ≢ 61) 32 key_id_key (omega arith) (is_key key_id_key refl).no_equals

spaced_item : (value : List ℕ) → IsRawValue value → IsItem (32 ∷ item key_id_key value) key_id_key value
spaced_item value v = record { before = 32 ∷ key_id_key; after = value; split = refl; no_equals = spaced_no_equals; key_is = sym spaced_trimmed; value_is = sym v.trimmed }

spaced_other : (key value : List ℕ) → key ≢ key_id_key → IsNoItemOf key (32 ∷ item key_id_key value)
spaced_other key value ne = no_item key (32 ∷ key_id_key) key_id_key value spaced_no_equals spaced_trimmed ne

-- ---- a header text of items in order

-- the values, of which the middle three may be there
pub record Written : Type 0 where
  pub key_id : List ℕ
  pub algorithm : Option (List ℕ)
  pub created : Option (List ℕ)
  pub expires : Option (List ℕ)
  pub headers : List ℕ
  pub signature : List ℕ

pub record AreRawValues (w : Written) : Type 0 where
  pub key_id : IsRawValue w.key_id
  pub algorithm : IfSome w.algorithm IsRawValue
  pub created : IfSome w.created IsRawValue
  pub expires : IfSome w.expires IsRawValue
  pub headers : IsRawValue w.headers
  pub signature : IsRawValue w.signature

abbrev pub last_items : Written → List (List ℕ)
last_items w = item headers_key w.headers ∷ item signature_key w.signature ∷ []

abbrev pub expires_on : Written → List (List ℕ)
expires_on w = optional_item expires_key w.expires ++ last_items w

abbrev pub created_on : Written → List (List ℕ)
created_on w = optional_item created_key w.created ++ expires_on w

abbrev pub algorithm_on : Written → List (List ℕ)
algorithm_on w = optional_item algorithm_key w.algorithm ++ created_on w

abbrev pub text_of : Written → List ℕ
text_of w = scheme ++ 32 ∷ join_with_byte 44 (item key_id_key w.key_id ∷ algorithm_on w)

abbrev pieces_of : Written → List (List ℕ)
pieces_of w = (32 ∷ item key_id_key w.key_id) ∷ algorithm_on w

space_joined : (x : List ℕ) (xs : List (List ℕ)) → 32 ∷ join_with_byte 44 (x ∷ xs) ≡ join_with_byte 44 ((32 ∷ x) ∷ xs)
space_joined x [] = refl
space_joined x (y ∷ ys) = refl

are_pieces : (w : Written) → AreRawValues w → ArePieces (text_of w) (pieces_of w)
are_pieces w v = record {
  rest = 32 ∷ join_with_byte 44 (item key_id_key w.key_id ∷ algorithm_on w);
  behind = (1, refl);
  no_scheme = λ more. other (32 ∷ join_with_byte 44 (item key_id_key w.key_id ∷ algorithm_on w)) (scheme ++ more) refl;
  some = omega arith;
  no_comma = (
    All-cons (λ (b : ℕ). b ≢ 44) 32 (item key_id_key w.key_id) (omega arith) (item_no_comma key_id_key w.key_id (is_key key_id_key refl) v.key_id),
    optional_no_comma algorithm_key w.algorithm (created_on w) (is_key algorithm_key refl) v.algorithm
        (optional_no_comma created_key w.created (expires_on w) (is_key created_key refl) v.created
        (optional_no_comma expires_key w.expires (last_items w) (is_key expires_key refl) v.expires
        (item_no_comma headers_key w.headers (is_key headers_key refl) v.headers, (item_no_comma signature_key w.signature (is_key signature_key refl) v.signature, tt)))),
  );
  joined = space_joined (item key_id_key w.key_id) (algorithm_on w);
}

headers_pass : (key value : List ℕ) → key ≢ headers_key → IsNoItemOf key (item headers_key value)
headers_pass key value ne = let k = is_key headers_key refl in no_item key headers_key headers_key value k.no_equals k.trimmed ne

signature_passes : (key value : List ℕ) → key ≢ signature_key → IsNoItemOf key (item signature_key value)
signature_passes key value ne = let k = is_key signature_key refl in no_item key signature_key signature_key value k.no_equals k.trimmed ne

not_last : (w : Written) (key : List ℕ) → key ≢ headers_key → key ≢ signature_key → IsLast key (last_items w) None
not_last w key h s = (headers_pass key w.headers h, (signature_passes key w.signature s, tt))

key_id_found : (w : Written) → AreRawValues w → IsLast key_id_key (pieces_of w) (Some w.key_id)
key_id_found w v =
    last_here key_id_key w.key_id (32 ∷ item key_id_key w.key_id) (algorithm_on w) (spaced_item w.key_id v.key_id)
    (optional_behind key_id_key algorithm_key w.algorithm (created_on w) None (is_key algorithm_key refl) (other key_id_key algorithm_key refl)
    (optional_behind key_id_key created_key w.created (expires_on w) None (is_key created_key refl) (other key_id_key created_key refl)
    (optional_behind key_id_key expires_key w.expires (last_items w) None (is_key expires_key refl) (other key_id_key expires_key refl)
    (not_last w key_id_key (other key_id_key headers_key refl) (other key_id_key signature_key refl)))))

algorithm_found : (w : Written) → AreRawValues w → IsLast algorithm_key (pieces_of w) w.algorithm
algorithm_found w v =
    last_behind algorithm_key (32 ∷ item key_id_key w.key_id) (algorithm_on w) w.algorithm (spaced_other algorithm_key w.key_id (other algorithm_key key_id_key refl))
    (optional_here algorithm_key w.algorithm (created_on w) (is_key algorithm_key refl) v.algorithm
    (optional_behind algorithm_key created_key w.created (expires_on w) None (is_key created_key refl) (other algorithm_key created_key refl)
    (optional_behind algorithm_key expires_key w.expires (last_items w) None (is_key expires_key refl) (other algorithm_key expires_key refl)
    (not_last w algorithm_key (other algorithm_key headers_key refl) (other algorithm_key signature_key refl)))))

created_found : (w : Written) → AreRawValues w → IsLast created_key (pieces_of w) w.created
created_found w v =
    last_behind created_key (32 ∷ item key_id_key w.key_id) (algorithm_on w) w.created (spaced_other created_key w.key_id (other created_key key_id_key refl))
    (optional_behind created_key algorithm_key w.algorithm (created_on w) w.created (is_key algorithm_key refl) (other created_key algorithm_key refl)
    (optional_here created_key w.created (expires_on w) (is_key created_key refl) v.created
    (optional_behind created_key expires_key w.expires (last_items w) None (is_key expires_key refl) (other created_key expires_key refl)
    (not_last w created_key (other created_key headers_key refl) (other created_key signature_key refl)))))

expires_found : (w : Written) → AreRawValues w → IsLast expires_key (pieces_of w) w.expires
expires_found w v =
    last_behind expires_key (32 ∷ item key_id_key w.key_id) (algorithm_on w) w.expires (spaced_other expires_key w.key_id (other expires_key key_id_key refl))
    (optional_behind expires_key algorithm_key w.algorithm (created_on w) w.expires (is_key algorithm_key refl) (other expires_key algorithm_key refl)
    (optional_behind expires_key created_key w.created (expires_on w) w.expires (is_key created_key refl) (other expires_key created_key refl)
    (optional_here expires_key w.expires (last_items w) (is_key expires_key refl) v.expires
    (not_last w expires_key (other expires_key headers_key refl) (other expires_key signature_key refl)))))

-- behind the optional items
behind_all : (w : Written) (key : List ℕ) (found : Option (List ℕ)) → key ≢ key_id_key → key ≢ algorithm_key → key ≢ created_key → key ≢ expires_key → IsLast key (last_items w) found → IsLast key (pieces_of w) found
behind_all w key found k a c e last =
    last_behind key (32 ∷ item key_id_key w.key_id) (algorithm_on w) found (spaced_other key w.key_id k)
    (optional_behind key algorithm_key w.algorithm (created_on w) found (is_key algorithm_key refl) a
    (optional_behind key created_key w.created (expires_on w) found (is_key created_key refl) c
    (optional_behind key expires_key w.expires (last_items w) found (is_key expires_key refl) e last)))

headers_found : (w : Written) → AreRawValues w → IsLast headers_key (pieces_of w) (Some w.headers)
headers_found w v =
    behind_all w headers_key (Some w.headers) (other headers_key key_id_key refl) (other headers_key algorithm_key refl) (other headers_key created_key refl) (other headers_key expires_key refl)
    (last_here headers_key w.headers (item headers_key w.headers) (item signature_key w.signature ∷ []) (is_item headers_key w.headers (is_key headers_key refl) v.headers)
    (signature_passes headers_key w.signature (other headers_key signature_key refl), tt))

signature_found : (w : Written) → AreRawValues w → IsLast signature_key (pieces_of w) (Some w.signature)
signature_found w v =
    behind_all w signature_key (Some w.signature) (other signature_key key_id_key refl) (other signature_key algorithm_key refl) (other signature_key created_key refl) (other signature_key expires_key refl)
    (last_behind signature_key (item headers_key w.headers) (item signature_key w.signature ∷ []) (Some w.signature) (headers_pass signature_key w.headers (other signature_key headers_key refl))
    (last_here signature_key w.signature (item signature_key w.signature) [] (is_item signature_key w.signature (is_key signature_key refl) v.signature) tt))

-- each value is found under its key
pub record AreFound (w : Written) : Type 0 where
  pub key_id : IsRaw (text_of w) key_id_key (Some w.key_id)
  pub algorithm : IsRaw (text_of w) algorithm_key w.algorithm
  pub created : IsRaw (text_of w) created_key w.created
  pub expires : IsRaw (text_of w) expires_key w.expires
  pub headers : IsRaw (text_of w) headers_key (Some w.headers)
  pub signature : IsRaw (text_of w) signature_key (Some w.signature)

pub are_found : (w : Written) → AreRawValues w → AreFound w
are_found w v =
    let pieces = are_pieces w v in
    record {
      key_id = (pieces_of w, pieces, key_id_found w v);
      algorithm = (pieces_of w, pieces, algorithm_found w v);
      created = (pieces_of w, pieces, created_found w v);
      expires = (pieces_of w, pieces, expires_found w v);
      headers = (pieces_of w, pieces, headers_found w v);
      signature = (pieces_of w, pieces, signature_found w v);
    }
