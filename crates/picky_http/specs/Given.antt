-- What the lines of a given signing string cover (draft-cavage-http-signatures-12, section 2.3; own for lines of other forms).
use Rattle.std.specs.Prelude.{◌≡◌, ◌⊎◌, ℕ, List, [], ◌∷◌, ◌++◌, Option, Some, None}
use Rattle.std.specs.List.{AllZip}
use Rattle.std.specs.Str.{trim}
use Rattle.std.specs.Str.Lines.{lines}
use Rattle.picky_contract.specs.Refusals.{Table, the, done, ◌>>=◌}
use Rattle.picky_contract.specs.Text.{Lacks, IsCutAtFirst}
use Rattle.picky_http_text.specs.Numbers.{IsNumber}
use Rattle.picky_http.specs.declared.given.Entry.{Entry as GivenEntry}
use Rattle.picky_http.specs.declared.given.Entry.TheVariants as of_entry
use Rattle.picky_http.specs.Algorithms.{or_else}
use Rattle.picky_http.specs.Faults.{HttpFault, bad_line}
use Rattle.picky_http.specs.Parts.{part_of, part_named}
use Rattle.picky_http.specs.Signing.{Part, Named, Target, Created, Expires, colon}

-- front is the text up to its first such byte, or the whole of a text that has none
abbrev pub IsUpTo : ℕ → List ℕ → List ℕ → Type 0
IsUpTo c text front = Lacks c front × ((text ≡ front) ⊎ ((back : List ℕ) × (text ≡ front ++ c ∷ back)))

-- a key with its value
pub record Keyed : Type 0 where
  pub key : List ℕ
  pub value : List ℕ

-- a line's key is its text before the first colon, its value the text behind that, up to the next colon, trimmed
pub record IsKeyed (line : List ℕ) (k : Keyed) : Type 0 where
  pub behind : List ℕ
  pub cut : IsCutAtFirst colon line k.key behind
  pub inner : List ℕ
  pub up_to : IsUpTo colon behind inner
  pub trimmed : k.value ≡ trim inner

-- what a line gives: it covers a name or the target, or has the number of `(created)` or `(expires)`
pub data Entry : Type 0 where
  covers : Part → Entry
  created_at : ℕ → Entry
  expires_at : ℕ → Entry

-- what the part with this value gives: the numbers of `(created)` and `(expires)` are numbers as in a header text
abbrev pub Gives : Part → List ℕ → Entry → Type 0
Gives (Named name) value e = e ≡ covers (Named name)
Gives Target value e = e ≡ covers Target
Gives Created value e = (n : ℕ) × IsNumber value n × (e ≡ created_at n)
Gives Expires value e = (n : ℕ) × IsNumber value n × (e ≡ expires_at n)

-- the line gives this
pub record IsEntry (line : List ℕ) (e : Entry) : Type 0 where
  pub keyed : Keyed
  pub is_keyed : IsKeyed line keyed
  pub gives : Gives (part_named keyed.key) keyed.value e

-- the part that is covered
abbrev pub entry_part : Entry → Part
entry_part (covers part) = part
entry_part (created_at n) = Created
entry_part (expires_at n) = Expires

abbrev pub created_of : Entry → Option ℕ
created_of (covers part) = None
created_of (created_at n) = Some n
created_of (expires_at n) = None

abbrev pub expires_of : Entry → Option ℕ
expires_of (covers part) = None
expires_of (created_at n) = None
expires_of (expires_at n) = Some n

-- the number of the last of these that has one
abbrev pub last_number : (Entry → Option ℕ) → List Entry → Option ℕ
last_number number [] = None
last_number number (e ∷ es) = or_else (last_number number es) (number e)

-- each line of the text, as std cuts it, gives its entry, in order
abbrev pub AreEntries : List ℕ → List Entry → Type 0
AreEntries text entries = AllZip IsEntry (lines text) entries

-- the entries, or the first line that gives none
abbrev pub entries_table : List (List ℕ) → Table (List Entry) HttpFault
entries_table [] = done []
entries_table (line ∷ lines) = do
  entry ← the (IsEntry line) (bad_line line)
  entries ← entries_table lines
  done (entry ∷ entries)

-- an entry, without where its name lies in memory
abbrev pub entry_view : GivenEntry → Entry
entry_view (of_entry.Covers header) = covers (part_of header)
entry_view (of_entry.CreatedAt n) = created_at n
entry_view (of_entry.ExpiresAt n) = expires_at n
