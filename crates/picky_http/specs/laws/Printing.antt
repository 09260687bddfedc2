-- A printed header text reads back.
use Rattle.std.proofs.Common.{◌≡◌, ◌≢◌, ℕ, ◌<◌, ◌^◌, Bool, true, false, not, ◌==◌, IsTrue, List, [], ◌∷◌, ◌++◌, length, map, refl, sym, ◌∙◌, ap, subst, arith, inl, inr, append_assoc, Option, Some, None, IfSome, option_map, bytes_eq, codes, decimal}
use Rattle.std.specs.List.{AllByRecursion, join_with_byte, list_all, list_any}
use Rattle.std.specs.Char.{to_ascii_lowercase}
use Rattle.std.specs.Str.{str_to_ascii_lowercase}
use Rattle.std.proofs.lemmas.Bool.{cases_Bool, false≢true, eqb-true, eqb-false, not-true}
use Rattle.std.proofs.lemmas.Slice.Eq.{bytes_eq-Decides}
use Rattle.std.proofs.lemmas.List.Elements.{All-head}
use Rattle.picky_contract.specs.Text.{Lacks}
use Rattle.picky_base64.specs.Base64.{B64}
use Rattle.picky_key.specs.declared.algorithm.HashAlgorithm.{HashAlgorithm}
use Rattle.picky_key.specs.declared.algorithm.HashAlgorithm.TheVariants as hash
use Rattle.picky_key.specs.declared.algorithm.SignatureAlgorithm.{SignatureAlgorithm}
use Rattle.picky_key.specs.declared.algorithm.SignatureAlgorithm.TheVariants.{RsaPkcs1v15, Ecdsa, Ed25519}
use Rattle.picky_http_text.specs.Items.{IsRaw}
use Rattle.picky_http.specs.Algorithms.{Algorithm, known, custom, under, other_names, known_rsa, or_else, known_algorithm, known_or, algorithm_named, algorithm_name, algorithm_text}
use Rattle.picky_http.specs.Parts.{part_named, NamesParts}
use Rattle.picky_http.specs.Printing.{quoted, quoted_algorithm, list_text, printed, IsBare, IsPlainPart, HasName, IsPlainAlgorithm, IsPrintable, without_algorithm}
use Rattle.picky_http.specs.Reading.{Reading, HeaderReading, NamesAlgorithm, IsOptionalNumber, begins_with_quote, is_legacy, algorithm_key, created_key, expires_key}
use Rattle.picky_http.specs.Signing.{Part, Named, Target, Created, Expires, part_text, is_name_byte, IsLowerToken}
use Rattle.picky_http.specs.Verifying.{form_of}
use Rattle.picky_http.specs.laws.Bare.{both_are, is_other, Passes, passes_from, passes_append, passes_also, passes_lack, is_plain_byte, is_line_byte, plain_line, IsFramed, plain_framed, bare_line, bare_plain, quoted_trimmed, quoted_no_comma, quoted_clean}
use Rattle.picky_http.specs.laws.Items.{IsRawValue, Written, AreRawValues, are_found}
use Rattle.picky_http.specs.laws.Spelled.{decimal_bare, decimal_number, base64_bare, url_standard}

-- ---- names of parts

cons_head : (x y : ℕ) (xs ys : List ℕ) → x ∷ xs ≡ y ∷ ys → x ≡ y
cons_head x y xs ys e = cc

all_behind : (test : ℕ → Bool) (c : ℕ) (cs : List ℕ) → list_all test (c ∷ cs) ≡ true → list_all test cs ≡ true
all_behind test c cs h = (both_are (test c) (list_all test cs) h).1

-- a byte among others passes what all of them pass
any_passes : (test : ℕ → Bool) (cs : List ℕ) (b : ℕ) → list_all test cs ≡ true → IsTrue (list_any (λ c. c == b) cs) → test b ≡ true
any_passes test [] b all any = absurd (false≢true any)
any_passes test (c ∷ cs) b all any =
    let each = passes_from test (c ∷ cs) all in
    elim (cases_Bool (c == b)) [
      | inl e ↦ subst (λ (x : ℕ). test x ≡ true) (eqb-true c b e) each.0
      | inr e ↦ any_passes test cs b (all_behind test c cs all) (rw e at any)
    ]

name_passes : (test : ℕ → Bool) (b : ℕ) → list_all test (codes "!#$%&'*+-.^_`|~0123456789abcdefghijklmnopqrstuvwxyz") ≡ true → IsTrue (is_name_byte b) → test b ≡ true
unfolding is_name_byte
name_passes test b all h = any_passes test (codes "!#$%&'*+-.^_`|~0123456789abcdefghijklmnopqrstuvwxyz") b all h

name_plain : (name : List ℕ) → AllByRecursion (λ b. IsTrue (is_name_byte b)) name → Passes is_plain_byte name
name_plain [] h = tt
name_plain (b ∷ bs) h = (name_passes is_plain_byte b refl h.0, name_plain bs h.1)

name_lower : (name : List ℕ) → AllByRecursion (λ b. IsTrue (is_name_byte b)) name → str_to_ascii_lowercase name ≡ name
name_lower [] h = refl
name_lower (b ∷ bs) h =
    let first : to_ascii_lowercase b ≡ b = eqb-true (to_ascii_lowercase b) b (name_passes (λ c. to_ascii_lowercase c == c) b refl h.0) in
    let more : str_to_ascii_lowercase bs ≡ bs = name_lower bs h.1 in
    cc

-- no name begins with a bracket
no_bracket : (b : ℕ) → IsTrue (is_name_byte b) → b ≢ 40
no_bracket b h e = eqb-false b 40 (not-true (b == 40) (name_passes (λ c. not (c == 40)) b refl h)) e

name_is_not : (b : ℕ) (bs special : List ℕ) → IsTrue (is_name_byte b) → bytes_eq (b ∷ bs) (40 ∷ special) ≡ false
name_is_not b bs special h =
    elim (cases_Bool (bytes_eq (b ∷ bs) (40 ∷ special))) [
      | inl e ↦ absurd (no_bracket b h (cons_head b 40 bs special ((bytes_eq-Decides (b ∷ bs) (40 ∷ special)).0 e)))
      | inr e ↦ e
    ]

name_back : (name : List ℕ) → IsLowerToken name → part_named name ≡ Named name
name_back [] h = absurd (omega (arith, h.0))
name_back (b ∷ bs) h =
    rw (name_is_not b bs _ h.1.0, name_is_not b bs _ h.1.0, name_is_not b bs _ h.1.0) (ap Named (name_lower (b ∷ bs) h.1))

part_back : (p : Part) → IsPlainPart p → part_named (part_text p) ≡ p
part_back (Named name) h = name_back name h
part_back Target h = refl
part_back Created h = refl
part_back Expires h = refl

parts_back : (ps : List Part) → AllByRecursion IsPlainPart ps → ps ≡ map part_named (map part_text ps)
parts_back [] h = refl
parts_back (p ∷ ps) h =
    let first = part_back p h.0 in
    let more = parts_back ps h.1 in
    cc

-- ---- lists of parts

-- bytes that show, one at least
abbrev IsWord : List ℕ → Type 0
IsWord text = (0 < length text) × Passes is_plain_byte text

part_word : (p : Part) → IsPlainPart p → IsWord (part_text p)
part_word (Named name) h = (h.0, name_plain name h.1)
part_word Target h = (omega arith, passes_from is_plain_byte (part_text Target) refl)
part_word Created h = (omega arith, passes_from is_plain_byte (part_text Created) refl)
part_word Expires h = (omega arith, passes_from is_plain_byte (part_text Expires) refl)

part_words : (ps : List Part) → AllByRecursion IsPlainPart ps → AllByRecursion IsWord (map part_text ps)
part_words [] h = tt
part_words (p ∷ ps) h = (part_word p h.0, part_words ps h.1)

words_no_space : (ts : List (List ℕ)) → AllByRecursion IsWord ts → AllByRecursion (Lacks 32) ts
words_no_space [] h = tt
words_no_space (t ∷ ts) h = (passes_lack is_plain_byte 32 t refl h.0.1, words_no_space ts h.1)

word_line : (t : List ℕ) → IsWord t → Passes is_line_byte t
word_line t h = passes_also is_plain_byte is_line_byte t plain_line h.1

words_line : (ts : List (List ℕ)) → AllByRecursion IsWord ts → Passes is_line_byte (join_with_byte 32 ts)
words_line [] h = tt
words_line (t ∷ []) h = word_line t h.0
words_line (t ∷ u ∷ us) h = passes_append is_line_byte t (32 ∷ join_with_byte 32 (u ∷ us)) (word_line t h.0) (refl, words_line (u ∷ us) h.1)

word_framed : (t : List ℕ) → IsWord t → IsFramed t
word_framed [] h = absurd (omega (arith, h.0))
word_framed (b ∷ bs) h = plain_framed b bs h.1

words_framed : (ts : List (List ℕ)) → 0 < length ts → AllByRecursion IsWord ts → IsFramed (join_with_byte 32 ts)
words_framed [] some h = absurd (omega arith)
words_framed (t ∷ []) some h = word_framed t h.0
words_framed (t ∷ u ∷ us) some h =
    let begin = word_framed t h.0 in
    let rest = words_framed (u ∷ us) (omega arith) h.1 in
    record {
      first = begin.first;
      more = begin.more ++ 32 ∷ join_with_byte 32 (u ∷ us);
      begins = ap (λ (x : List ℕ). x ++ 32 ∷ join_with_byte 32 (u ∷ us)) begin.begins;
      first_shows = begin.first_shows;
      front = t ++ 32 ∷ rest.front;
      last = rest.last;
      ends = ap (λ (x : List ℕ). t ++ 32 ∷ x) rest.ends ∙ sym (append_assoc t (32 ∷ rest.front) (rest.last ∷ []));
      last_shows = rest.last_shows;
    }

texts_some : (ps : List Part) → 0 < length ps → 0 < length (map part_text ps)
texts_some [] h = h
texts_some (p ∷ ps) h = omega arith

list_bare : (ps : List Part) → 0 < length ps → AllByRecursion IsPlainPart ps → IsBare (list_text ps)
list_bare ps some h =
    let words = part_words ps h in
    bare_line (list_text ps) (words_line (map part_text ps) words) (words_framed (map part_text ps) (texts_some ps some) words)

list_names : (ps : List Part) → 0 < length ps → AllByRecursion IsPlainPart ps → NamesParts (list_text ps) ps
list_names ps some h = record {
  pieces = map part_text ps;
  some = texts_some ps some;
  no_space = words_no_space (map part_text ps) (part_words ps h);
  joined = refl;
  are = parts_back ps h;
}

-- ---- names of algorithms

some_same : {X : Type 0} (x y : X) → Some x ≡ Some y → x ≡ y
some_same x y e = cc

none_is_some : {X : Type 0} (x : X) → None ≡ Some x → ⊥
none_is_some x e = cc

under_has : {A : Type 0} (P : A → Type 0) (text : List ℕ) (entries : List (List ℕ × A)) (a : A) → AllByRecursion (λ e. P e.1) entries → under text entries ≡ Some a → P a
under_has P text [] a h e = absurd (none_is_some a e)
under_has P text (entry ∷ entries) a h e =
    elim (cases_Bool (bytes_eq text entry.0)) [
      | inl t ↦ subst P (some_same entry.1 a (rw t at e)) h.0
      | inr t ↦ under_has P text entries a h.1 (rw t at e)
    ]

either_has : (P : SignatureAlgorithm → Type 0) (o : Option SignatureAlgorithm) (h : Option HashAlgorithm) (a : SignatureAlgorithm)
    → ((x : SignatureAlgorithm) → o ≡ Some x → P x) → ((x : HashAlgorithm) → P (RsaPkcs1v15 x)) → or_else o (option_map RsaPkcs1v15 h) ≡ Some a → P a
either_has P (Some x) h a ours rsa e = subst P (some_same x a e) (ours x refl)
either_has P None (Some x) a ours rsa e = subst P (some_same (RsaPkcs1v15 x) a e) (rsa x)
either_has P None None a ours rsa e = absurd (none_is_some a e)

-- the name of the algorithm names it, and is bare
record IsNamed (a : SignatureAlgorithm) : Type 0 where
  back : known_algorithm (algorithm_name a) ≡ Some a
  bare : IsBare (algorithm_name a)

named_by : (a : SignatureAlgorithm) → known_algorithm (algorithm_name a) ≡ Some a → list_all is_plain_byte (algorithm_name a) ≡ true → IsNamed a
named_by a back plain = record { back = back; bare = bare_plain (algorithm_name a) (passes_from is_plain_byte (algorithm_name a) plain) }

rsa_named : (h : HashAlgorithm) → IsNamed (RsaPkcs1v15 h)
rsa_named hash.MD5 = named_by (RsaPkcs1v15 hash.MD5) refl refl
rsa_named hash.SHA1 = named_by (RsaPkcs1v15 hash.SHA1) refl refl
rsa_named hash.SHA2_224 = named_by (RsaPkcs1v15 hash.SHA2_224) refl refl
rsa_named hash.SHA2_256 = named_by (RsaPkcs1v15 hash.SHA2_256) refl refl
rsa_named hash.SHA2_384 = named_by (RsaPkcs1v15 hash.SHA2_384) refl refl
rsa_named hash.SHA2_512 = named_by (RsaPkcs1v15 hash.SHA2_512) refl refl
rsa_named hash.SHA3_384 = named_by (RsaPkcs1v15 hash.SHA3_384) refl refl
rsa_named hash.SHA3_512 = named_by (RsaPkcs1v15 hash.SHA3_512) refl refl

others_named : AllByRecursion (λ e. IsNamed e.1) other_names
others_named = (named_by (Ecdsa hash.SHA2_256) refl refl, (named_by (Ecdsa hash.SHA2_384) refl refl, (named_by Ed25519 refl refl, tt)))

has_name : (a : SignatureAlgorithm) → HasName a → IsNamed a
has_name a (text, e) = either_has IsNamed (under text other_names) (known_rsa text) a (λ x f. under_has IsNamed text other_names x others_named f) rsa_named e

algorithm_bare : (a : Algorithm) → IsPlainAlgorithm a → IsBare (algorithm_text a)
algorithm_bare (known a) h = (has_name a h).bare
algorithm_bare (custom text) h = h.0

algorithm_back : (a : Algorithm) → IsPlainAlgorithm a → algorithm_named (algorithm_text a) ≡ a
algorithm_back (known a) h = ap (known_or (algorithm_name a)) (has_name a h).back
algorithm_back (custom text) h = ap (known_or text) h.1

-- ---- values

raw_value : (legacy : Bool) (value : List ℕ) → IsBare value → IsRawValue (quoted legacy value)
raw_value legacy value b = record { no_comma = quoted_no_comma legacy value b; trimmed = quoted_trimmed legacy value b }

raw_number : (n : Option ℕ) → IfSome n (λ m. m < 2 ^ 64) → IfSome (option_map decimal n) IsRawValue
raw_number None h = tt
raw_number (Some n) h = raw_value true (decimal n) (decimal_bare n h)

raw_algorithm : (legacy : Bool) (a : Option Algorithm) → IfSome a IsPlainAlgorithm → IfSome (quoted_algorithm legacy a) IsRawValue
raw_algorithm true a h = tt
raw_algorithm false None h = tt
raw_algorithm false (Some a) h = raw_value false (algorithm_text a) (algorithm_bare a h)

number_read : (text key : List ℕ) (n : Option ℕ) → IfSome n (λ m. m < 2 ^ 64) → IsRaw text key (option_map decimal n) → IsOptionalNumber text key n
number_read text key None h raw = raw
number_read text key (Some n) h raw = (decimal n, (decimal n, raw, quoted_clean true (decimal n) (decimal_bare n h)), decimal_number n h)

algorithm_read : (text : List ℕ) (legacy : Bool) (a : Option Algorithm) → IfSome a IsPlainAlgorithm → (IsTrue legacy → a ≡ None) → IsRaw text algorithm_key (quoted_algorithm legacy a) → NamesAlgorithm text a
algorithm_read text true a h flag raw = record { value = None; is = raw; named = flag refl }
algorithm_read text false None h flag raw = record { value = None; is = raw; named = refl }
algorithm_read text false (Some a) h flag raw = record {
  value = Some (algorithm_text a);
  is = (quoted false (algorithm_text a), raw, quoted_clean false (algorithm_text a) (algorithm_bare a h));
  named = ap Some (sym (algorithm_back a h));
}

begins_not : (value : List ℕ) → Lacks 34 value → begins_with_quote value ≡ false
begins_not [] h = refl
begins_not (b ∷ bs) h = is_other b 34 (All-head (λ x. x ≢ 34) b bs h)

form_read : (legacy : Bool) (text bytes : List ℕ) → B64 (form_of legacy) text bytes → legacy ≡ is_legacy (quoted legacy text) text
form_read false text bytes b = refl
form_read true text bytes b = rw (begins_not text (base64_bare (form_of true) text bytes b).no_quote, url_standard text bytes b) refl

-- ---- the whole text

written_of : Reading → Written
written_of r = record {
  key_id = quoted r.legacy r.key_id;
  algorithm = quoted_algorithm r.legacy r.algorithm;
  created = option_map decimal r.created;
  expires = option_map decimal r.expires;
  headers = quoted r.legacy (list_text r.headers);
  signature = quoted r.legacy r.signature;
}

raw_values : (r : Reading) → IsPrintable r → AreRawValues (written_of r)
unfolding written_of
raw_values r p = record {
  key_id = raw_value r.legacy r.key_id p.key_id;
  algorithm = raw_algorithm r.legacy r.algorithm p.algorithm;
  created = raw_number r.created p.created;
  expires = raw_number r.expires p.expires;
  headers = raw_value r.legacy (list_text r.headers) (list_bare r.headers p.some p.parts);
  signature = raw_value r.legacy r.signature (base64_bare (form_of r.legacy) r.signature p.signature.0 p.signature.1);
}

-- a printed reading reads back as itself
pub printed_back : (r : Reading) → IsPrintable r → HeaderReading (printed r) r
unfolding printed written_of
printed_back r p =
    let found = are_found (written_of r) (raw_values r p) in
    let list = list_bare r.headers p.some p.parts in
    let signature = base64_bare (form_of r.legacy) r.signature p.signature.0 p.signature.1 in
    record {
      key_id = (quoted r.legacy r.key_id, found.key_id, quoted_clean r.legacy r.key_id p.key_id);
      signature = record {
        raw = quoted r.legacy r.signature;
        is_raw = found.signature;
        clean = quoted_clean r.legacy r.signature signature;
        form = form_read r.legacy r.signature p.signature.0 p.signature.1;
      };
      created = number_read (printed r) created_key r.created p.created found.created;
      expires = number_read (printed r) expires_key r.expires p.expires found.expires;
      headers = record {
        value = Some (list_text r.headers);
        is = (quoted r.legacy (list_text r.headers), found.headers, quoted_clean r.legacy (list_text r.headers) list);
        parts_are = list_names r.headers p.some p.parts;
      };
      algorithm = algorithm_read (printed r) r.legacy r.algorithm p.algorithm p.flag found.algorithm;
    }

-- the flag leaves the algorithm out
flag_same : (r : Reading) → IsTrue r.legacy → printed r ≡ printed (without_algorithm r)
unfolding printed
flag_same r h = rw h refl

-- with the flag a printed reading reads back without its algorithm
pub flagged_back : (r : Reading) → IsTrue r.legacy → IsPrintable (without_algorithm r) → HeaderReading (printed r) (without_algorithm r)
flagged_back r h p = rw (flag_same r h) (printed_back (without_algorithm r) p)
