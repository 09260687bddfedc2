-- What lines are looked up by: lines that ask the same have the same (own).
use Rattle.std.specs.Prelude.{◌≡◌, ℕ, Bool, true, false, List, [], ◌∷◌, ◌++◌, Option, Some, None, length}
use Rattle.std.specs.BTreeMap.{BTreeMap, get}
use Rattle.std.specs.Int.{to_be_bytes, w64}
use Rattle.std.specs.Option.{is_some}
use Rattle.std.specs.Ordering.{nat_cmp}
use Rattle.std.specs.Cmp.Lexicographic.{slice_cmp}
use Rattle.picky_asn1_oid.specs.Arcs.{contents_of}
use Rattle.picky_key_der.specs.declared.algorithm.EdAlgorithm.{EdAlgorithm}
use Rattle.picky_key_der.specs.declared.algorithm.EdAlgorithm.TheVariants.{Ed25519, X25519}
use Rattle.picky_key_der.specs.declared.algorithm.NamedEcCurve.{NamedEcCurve}
use Rattle.picky_key_der.specs.declared.algorithm.NamedEcCurve.TheVariants.{Known, Unsupported}
use Rattle.picky_key_der.specs.declared.public.PublicKeyKind.{PublicKeyKind}
use Rattle.picky_key_der.specs.declared.public.PublicKeyKind.TheVariants.{Rsa, Ec, Ed}
use Rattle.picky_key.specs.declared.provider.WrapScheme.{WrapScheme}
use Rattle.picky_records.specs.declared.line.Line.{Line}
use Rattle.picky_records.specs.declared.line.Line.TheVariants.{Sig, Pair, Unwrap, Agree}
use Rattle.picky_records.specs.Lines.{pair_in, unwrapped_in, secret_in}
use Rattle.picky_records.specs.Meanings.{Has}
use Rattle.picky_key_der.specs.Public.{field_size}
use Rattle.picky_records.specs.Same.{scheme_number}

-- bytes with their length in front, so that none run into the next
abbrev pub sized : List ℕ → List ℕ
sized bytes = to_be_bytes w64 (length bytes) ++ bytes

-- a number for each Edwards algorithm
abbrev pub ed_number : EdAlgorithm → ℕ
ed_number Ed25519 = 1
ed_number X25519 = 2

abbrev pub curve_key : NamedEcCurve → List ℕ
curve_key (Known curve) = field_size curve ∷ []
curve_key (Unsupported oid) = 0 ∷ sized (contents_of oid)

-- what a public key is looked up by
abbrev pub public_key : PublicKeyKind → List ℕ
public_key (Rsa modulus exponent) = 1 ∷ sized modulus.0 ++ sized exponent.0
public_key (Ec curve point) = 2 ∷ curve_key curve ++ sized point
public_key (Ed algorithm bytes) = 3 ∷ ed_number algorithm ∷ sized bytes

-- what the question of each kind of line is looked up by
abbrev pub pair_key : List ℕ → List ℕ
pair_key pkcs8 = 1 ∷ pkcs8

abbrev pub unwrap_key : WrapScheme → PublicKeyKind → List ℕ → List ℕ
unwrap_key scheme part wrapped = 2 ∷ scheme_number scheme ∷ public_key part ++ wrapped

abbrev pub agree_key : PublicKeyKind → PublicKeyKind → List ℕ
agree_key one other = 3 ∷ public_key one ++ public_key other

-- the map has this
abbrev pub Knows : BTreeMap (List ℕ) ℕ → List ℕ → Type 0
Knows m key = is_some (get (slice_cmp nat_cmp) m key) ≡ true

abbrev pub KnowsPart : BTreeMap (List ℕ) ℕ → WrapScheme → Option PublicKeyKind → List ℕ → Type 0
KnowsPart m t None w = Unit {0}
KnowsPart m t (Some part) w = Knows m (unwrap_key t part w)

-- the map has all that finds the line
abbrev pub KnowsLine : BTreeMap (List ℕ) ℕ → Line → Type 0
KnowsLine m (Sig k a msg s) = Unit {0}
KnowsLine m (Pair k q) = Knows m (pair_key k.bytes)
KnowsLine m (Unwrap t k w c) = KnowsPart m t k.public_part w
KnowsLine m (Agree a b s) = Knows m (agree_key a b) × Knows m (agree_key b a)

-- the map has all that finds each of the lines
pub record KnowsLines (m : BTreeMap (List ℕ) ℕ) (lines : List Line) : Type 0 where
  pub knows : (line : Line) → Has lines line → KnowsLine m line

-- what the old map has, the new one has
abbrev pub Keeps : BTreeMap (List ℕ) ℕ → BTreeMap (List ℕ) ℕ → Type 0
Keeps old new = (key : List ℕ) → Knows old key → Knows new key

-- the new map has what the old one has, and all that finds the line
pub record Learns (old new : BTreeMap (List ℕ) ℕ) (line : Line) : Type 0 where
  pub keeps : Keeps old new
  pub finds : KnowsLine new line

-- what the line is looked up by; none where it asks nothing
abbrev pub part_question : WrapScheme → Option PublicKeyKind → List ℕ → Option (List ℕ)
part_question t None w = None
part_question t (Some part) w = Some (unwrap_key t part w)

abbrev pub question_of : Line → Option (List ℕ)
question_of (Sig k a m s) = None
question_of (Pair k q) = Some (pair_key k.bytes)
question_of (Unwrap t k w c) = part_question t k.public_part w
question_of (Agree a b s) = Some (agree_key a b)

-- the earlier line answers the question of the later one
abbrev pub part_answered : Line → WrapScheme → Option PublicKeyKind → List ℕ → Bool
part_answered earlier t None w = false
part_answered earlier t (Some part) w = is_some (unwrapped_in t part w earlier)

abbrev pub is_answered_by : Line → Line → Bool
is_answered_by earlier (Sig k a m s) = false
is_answered_by earlier (Pair k q) = is_some (pair_in k earlier)
is_answered_by earlier (Unwrap t k w c) = part_answered earlier t k.public_part w
is_answered_by earlier (Agree a b s) = is_some (secret_in a b earlier)
