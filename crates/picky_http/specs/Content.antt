-- What a signature that is built covers, and the bytes that are signed (draft-cavage-http-signatures-12, sections 2.3 and 3.1.1).
use Rattle.std.specs.Prelude.{◌≡◌, ℕ, ◌<◌, List, [], ◌∷◌, ◌++◌, length, map, Option}
use Rattle.std.specs.Cow.{cow_str_bytes}
use Rattle.std.specs.Str.Lines.{lines}
use Rattle.picky_contract.specs.Refusals.{Table, need, done, ◌>>=◌}
use Rattle.picky_http.specs.declared.content.Content.{Content as HeldContent}
use Rattle.picky_http.specs.Algorithms.{or_else}
use Rattle.picky_http.specs.Faults.{HttpFault, covers_nothing, covers_beside}
use Rattle.picky_http.specs.Given.{Entry, entry_part, created_of, expires_of, last_number, AreEntries, entries_table}
use Rattle.picky_http.specs.Lines.{Asked, AreLines, text_table}
use Rattle.picky_http.specs.Parts.{part_of}
use Rattle.picky_http.specs.Signing.{Part, Line, signing_string}

-- the parts that are covered, the two numbers, and the bytes that are signed
pub record Content : Type 0 where
  pub headers : List Part
  pub created : Option ℕ
  pub expires : Option ℕ
  pub message : List ℕ

-- a given string is signed as it stands; its lines say what it covers, and of several numbers of a part the last counts
abbrev pub given_content : List ℕ → List Entry → Content
given_content text entries = record {
  headers = map entry_part entries;
  created = last_number created_of entries;
  expires = last_number expires_of entries;
  message = text;
}

-- with one line more: its part is covered too, and its number counts
abbrev pub with_entry : Content → Entry → Content
with_entry c e = record {
  headers = c.headers ++ entry_part e ∷ [];
  created = or_else (created_of e) c.created;
  expires = or_else (expires_of e) c.expires;
  message = c.message;
}

-- over a request the parts are the builder's, and their lines are signed
abbrev pub asked_content : Asked → List Part → List ℕ → Content
asked_content asked headers message = record { headers = headers; created = asked.created; expires = asked.expires; message = message }

-- ---- in words

-- nothing else is covered beside a given string, and each of its lines gives its entry
pub record IsGiven (headers : List Part) (text : List ℕ) (c : Content) : Type 0 where
  pub alone : headers ≡ []
  pub entries : List Entry
  pub are : AreEntries text entries
  pub is : c ≡ given_content text entries

-- some part is covered, and the signing string of the parts' lines is signed, in order
pub record IsAnswered (asked : Asked) (headers : List Part) (c : Content) : Type 0 where
  pub some : 0 < length headers
  pub answered : List Line
  pub are_lines : AreLines asked headers answered
  pub is : c ≡ asked_content asked headers (signing_string answered)

-- ---- in order

-- what the lines of a given string cover
unfoldable pub listed_table : List ℕ → Table Content HttpFault
listed_table text = do
  entries ← entries_table (lines text)
  done (given_content text entries)

-- the same, where nothing else is covered
unfoldable pub given_table : List Part → List ℕ → Table Content HttpFault
given_table headers text = do
  alone ← need (headers ≡ []) covers_beside
  listed_table text

-- what is covered over a request
unfoldable pub asked_table : Asked → List Part → Table Content HttpFault
asked_table asked headers = do
  some ← need (0 < length headers) covers_nothing
  message ← text_table asked headers
  done (asked_content asked headers message)

-- what is held, without where it lies in memory
abbrev pub content_of : HeldContent → Content
content_of c = record { headers = map part_of c.headers.items; created = c.created; expires = c.expires; message = cow_str_bytes c.message }
