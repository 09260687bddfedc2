-- Identifiers that are known by their contents octets.
use Rattle.std.proofs.Common.{◌≡◌, List, ℕ, Result, Ok, Err, sym, ◌∙◌}
use Rattle.std.proofs.lemmas.Slice.Eq.{bytes_eq-Decides}
use Rattle.picky_asn1_oid.specs.Arcs.{IsArcs, contents_of}
use Rattle.picky_asn1_oid.proofs.Determined.{contents_determine_arcs}
use Rattle.picky_der.specs.Form.{IsValue, Writes}
use Rattle.picky_der.specs.declared.fault.DerError.{DerError}
use Rattle.picky_fields.specs.Fields.{Tells, identifier}
use Rattle.picky_fields.specs.Choice.{has_contents}

-- these are the contents octets of the identifier with these arcs
pub record Known (arcs bytes : List ℕ) : Type 0 where
  pub are_arcs : IsArcs arcs
  pub contents : contents_of arcs ≡ bytes

pub known_tells : (arcs bytes : List ℕ) → Known arcs bytes → Tells identifier.in_form arcs (has_contents bytes)
known_tells arcs bytes known = record {
  formed = known.are_arcs;
  holds = (bytes_eq-Decides (contents_of arcs) bytes).1 known.contents;
  alone = λ k h e. contents_determine_arcs k arcs h known.are_arcs ((bytes_eq-Decides (contents_of k) bytes).0 e ∙ sym known.contents);
}

-- a value of its tag and these contents is its encoding
pub known_encodes : (arcs bytes s : List ℕ) → Known arcs bytes → IsValue (record { 0 = 6 }) bytes s → identifier.Encodes s arcs
known_encodes arcs bytes s known v = (known.are_arcs, record { octets = bytes; value = v; stands_for = sym known.contents })

pub known_writes : (arcs bytes : List ℕ) → Known arcs bytes → (r : Result (Unit {0}) DerError) (old new : List ℕ) → Writes (IsValue (record { 0 = 6 }) bytes) ⊥ r old new → Writes (λ s. identifier.Encodes s arcs) ⊥ r old new
known_writes arcs bytes known (Ok u) old new w = record { encoding = w.encoding; encoded = known_encodes arcs bytes w.encoding known w.encoded; new_is = w.new_is }
known_writes arcs bytes known (Err e) old new w = w
