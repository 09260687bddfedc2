-- The refusals of identifiers (own).
use Rattle.std.specs.Prelude.{◌≡◌, ℕ, List, Option, Some, None}
use Rattle.picky_contract.specs.Refusals.{Table, the}
use Rattle.picky_asn1_oid.specs.Arcs.{IsArcs, text_of, contents_of}
use Rattle.picky_asn1_oid.specs.declared.oid.OidError.{OidError}
use Rattle.picky_asn1_oid.specs.declared.oid.OidError.TheVariants.{BadText, BadContents, OutOfMemory}

-- the refusal, none for want of memory
abbrev pub fault : OidError → Option OidError
fault BadText = Some BadText
fault BadContents = Some BadContents
fault OutOfMemory = None

-- these are arcs, and this is their text
abbrev pub IsTextOf : List ℕ → List ℕ → Type 0
IsTextOf text arcs = IsArcs arcs × (text_of arcs ≡ text)

-- these are arcs, and these are their contents octets
abbrev pub IsContentsOf : List ℕ → List ℕ → Type 0
IsContentsOf contents arcs = IsArcs arcs × (contents_of arcs ≡ contents)

unfoldable pub text_table : List ℕ → Table (List ℕ) OidError
text_table text = the (IsTextOf text) BadText

unfoldable pub contents_table : List ℕ → Table (List ℕ) OidError
contents_table contents = the (IsContentsOf contents) BadContents
