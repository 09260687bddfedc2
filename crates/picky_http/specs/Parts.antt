-- The parts that a header text covers (draft-cavage-http-signatures-12, section 2.1.6).
use Rattle.std.specs.Prelude.{◌≡◌, ℕ, ◌<◌, if◌then◌else◌, List, [], ◌∷◌, length, map, string_bytes, Option, Some, None}
use Rattle.std.specs.List.{join_with_byte, AllByRecursion}
use Rattle.std.specs.Str.{str_to_ascii_lowercase, bytes_eq}
use Rattle.picky_contract.specs.Text.{Lacks}
use Rattle.picky_http.specs.declared.header.Header.{Header}
use Rattle.picky_http.specs.declared.header.Header.TheVariants as header
use Rattle.picky_http.specs.Signing.{Part, Named, Target, Created, Expires, part_text, space}

-- a part, without where its name lies in memory
abbrev pub part_of : Header → Part
part_of (header.Name name) = Named (string_bytes name)
part_of header.RequestTarget = Target
part_of header.Created = Created
part_of header.Expires = Expires

-- the part that a piece names: a special one in this very spelling, else a name, in ASCII lower case
abbrev pub part_named : List ℕ → Part
part_named piece =
    if bytes_eq piece (part_text Target) then Target
    else (if bytes_eq piece (part_text Created) then Created
    else (if bytes_eq piece (part_text Expires) then Expires
    else Named (str_to_ascii_lowercase piece)))

-- the value is pieces without spaces, joined by single spaces, and these are their parts
pub record NamesParts (value : List ℕ) (parts : List Part) : Type 0 where
  pub pieces : List (List ℕ)
  pub some : 0 < length pieces
  pub no_space : AllByRecursion (Lacks space) pieces
  pub joined : value ≡ join_with_byte space pieces
  pub are : parts ≡ map part_named pieces

-- the parts of an optional value: none where it is absent
abbrev pub AreParts : Option (List ℕ) → List Part → Type 0
AreParts None parts = parts ≡ []
AreParts (Some value) parts = NamesParts value parts

-- what is covered: the list, or `(created)` alone where that is empty
abbrev pub covered : List Part → List Part
covered [] = Created ∷ []
covered (part ∷ parts) = part ∷ parts
