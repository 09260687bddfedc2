-- What the tables of private keys say.
use Rattle.std.proofs.Common.{◌≡◌, ℕ, List, Option, Some, None, true, refl, sym, ap, ◌∙◌}
use Rattle.picky_contract.specs.laws.Tables.{Exact, need_exact, done_exact, then_exact}
use Rattle.picky_key_der.specs.declared.algorithm.EdAlgorithm.{EdAlgorithm}
use Rattle.picky_key_der.specs.declared.algorithm.NamedEcCurve.{NamedEcCurve}
use Rattle.picky_key_der.specs.declared.kind.PrivateKeyKind.{PrivateKeyKind}
use Rattle.picky_key_der.specs.declared.kind.PrivateKeyKind.TheVariants.{Rsa, Ec, Ed}
use Rattle.picky_key_der.specs.declared.public.PublicKeyKind.{PublicKeyKind}
use Rattle.picky_key_der.specs.Kinds.{kind_of, same_kind}
use Rattle.picky_key_der.specs.laws.Kinds.{same_kind_decides}
use Rattle.picky_key_der.specs.laws.Reading.{read_exact, kind_exact, held_exact, held_kind}
use Rattle.picky_key_private.specs.declared.private.PrivateKey.{PrivateKey}
use Rattle.picky_key_private.specs.Parts.{part_fits}
use Rattle.picky_key_private.specs.Private.{private_table}
use Rattle.picky_key_private.specs.Reading.{Said, rsa_said_table, behind_table, part_table, first_of, parts_table, ec_said_table, sized_table, ed_said_table, kind_said_table, said_table}
use Rattle.picky_key_private.specs.laws.Same.{one_private}

-- ---- one answer

rsa_exact : (octets : List ℕ) → Exact (rsa_said_table octets)
unfolding rsa_said_table
rsa_exact octets = then_exact _ _ (read_exact _) (λ _. done_exact _)

behind_exact : (bits : Option (List ℕ)) → Exact (behind_table bits)
behind_exact None = done_exact _
behind_exact (Some bits) = then_exact _ _ (read_exact _) (λ _. done_exact _)

part_exact : (kind : PrivateKeyKind) (bits : Option (List ℕ)) → Exact (part_table kind bits)
part_exact kind None = done_exact _
part_exact kind (Some bits) = then_exact _ _ (held_exact kind bits) (λ _. done_exact _)

parts_exact : (kind : PrivateKeyKind) (beside behind : Option (List ℕ)) → Exact (parts_table kind beside behind)
unfolding parts_table
parts_exact kind beside behind = then_exact _ _ (part_exact kind beside) (λ first. then_exact _ _ (part_exact kind behind) (λ second. done_exact _))

sized_exact : (ed : EdAlgorithm) (secret : List ℕ) (behind : Option (List ℕ)) → Exact (sized_table ed secret behind)
unfolding sized_table
sized_exact ed secret behind = then_exact _ _ (need_exact _ _) (λ _. part_exact (Ed ed) behind)

ec_exact : (curve : NamedEcCurve) (octets : List ℕ) (bits : Option (List ℕ)) → Exact (ec_said_table curve octets bits)
unfolding ec_said_table
ec_exact curve octets bits = then_exact _ _ (read_exact _) (λ number. then_exact _ _ (behind_exact bits) (λ behind. then_exact _ _ (parts_exact (Ec curve) number.1 behind) (λ part. done_exact _)))

ed_exact : (ed : EdAlgorithm) (octets : List ℕ) (bits : Option (List ℕ)) → Exact (ed_said_table ed octets bits)
unfolding ed_said_table
ed_exact ed octets bits = then_exact _ _ (read_exact _) (λ secret. then_exact _ _ (behind_exact bits) (λ behind. then_exact _ _ (sized_exact ed secret behind) (λ part. done_exact _)))

kind_said_exact : (kind : PrivateKeyKind) (octets : List ℕ) (bits : Option (List ℕ)) → Exact (kind_said_table kind octets bits)
kind_said_exact Rsa octets bits = rsa_exact octets
kind_said_exact (Ec curve) octets bits = ec_exact curve octets bits
kind_said_exact (Ed algorithm) octets bits = ed_exact algorithm octets bits

pub said_exact : (bytes : List ℕ) → Exact (said_table bytes)
unfolding said_table
said_exact bytes = then_exact _ _ (read_exact _) (λ info. then_exact _ _ (kind_exact _) (λ kind. kind_said_exact kind _ _))

-- ---- the part is of the kind

abbrev Fits : Said → Type 0
Fits s = part_fits s.0 s.1 ≡ true

kind_itself : (kind : PrivateKeyKind) → same_kind kind kind ≡ true
kind_itself kind = (same_kind_decides kind kind).1 refl

-- a part that was read of bits is of the kind
part_is : (kind : PrivateKeyKind) (bits : Option (List ℕ)) (part : Option PublicKeyKind) → (part_table kind bits).holds part → part_fits kind None ≡ true → Fits (kind, part)
part_is kind None part h other = rw h other
part_is kind (Some bits) part h other =
    let same : same_kind (kind_of h.0) kind ≡ true = (same_kind_decides (kind_of h.0) kind).1 (held_kind kind bits h.0 h.1) in
    rw h.2 same

first_is : (kind : PrivateKeyKind) (first second : Option PublicKeyKind) → Fits (kind, first) → Fits (kind, second) → Fits (kind, first_of first second)
first_is kind None second f s = s
first_is kind (Some part) second f s = f

rsa_fits : (octets : List ℕ) (s : Said) → (rsa_said_table octets).holds s → Fits s
unfolding rsa_said_table
rsa_fits octets s h = rw h.2 refl

two_fit : (kind : PrivateKeyKind) (beside behind : Option (List ℕ)) (part : Option PublicKeyKind) → (parts_table kind beside behind).holds part → part_fits kind None ≡ true → Fits (kind, part)
unfolding parts_table
two_fit kind beside behind part h other =
    let second = h.2 in
    rw second.2 (first_is kind h.0 second.0 (part_is kind beside h.0 h.1 other) (part_is kind behind second.0 second.1 other))

sized_fit : (ed : EdAlgorithm) (secret : List ℕ) (behind : Option (List ℕ)) (part : Option PublicKeyKind) → (sized_table ed secret behind).holds part → Fits (Ed ed, part)
unfolding sized_table
sized_fit ed secret behind part h = part_is (Ed ed) behind part h.2 refl

ec_fits : (curve : NamedEcCurve) (octets : List ℕ) (bits : Option (List ℕ)) (s : Said) → (ec_said_table curve octets bits).holds s → Fits s
unfolding ec_said_table
ec_fits curve octets bits s h =
    let behind = h.2 in
    let part = behind.2 in
    rw part.2 (two_fit (Ec curve) h.0.1 behind.0 part.0 part.1 refl)

ed_fits : (ed : EdAlgorithm) (octets : List ℕ) (bits : Option (List ℕ)) (s : Said) → (ed_said_table ed octets bits).holds s → Fits s
unfolding ed_said_table
ed_fits ed octets bits s h =
    let behind = h.2 in
    let part = behind.2 in
    rw part.2 (sized_fit ed h.0 behind.0 part.0 part.1)

kind_said_fits : (kind : PrivateKeyKind) (octets : List ℕ) (bits : Option (List ℕ)) (s : Said) → (kind_said_table kind octets bits).holds s → Fits s
kind_said_fits Rsa octets bits s h = rsa_fits octets s h
kind_said_fits (Ec curve) octets bits s h = ec_fits curve octets bits s h
kind_said_fits (Ed algorithm) octets bits s h = ed_fits algorithm octets bits s h

-- what bytes say of a key fits
pub said_fits : (bytes : List ℕ) (kind : PrivateKeyKind) (part : Option PublicKeyKind) → (said_table bytes).gives (kind, part) → part_fits kind part ≡ true
unfolding said_table
said_fits bytes kind part g =
    let h = (said_exact bytes).holds (kind, part) g in
    kind_said_fits h.2.0 _ _ (kind, part) h.2.2

-- ---- the key

abbrev said_of : PrivateKey → Said
said_of k = (k.kind, k.public_part)

pub private_exact : (bytes : List ℕ) → Exact (private_table bytes)
unfolding private_table
private_exact bytes = record {
  holds = λ k h. (h.0, (said_exact bytes).holds (said_of k) h.1);
  one = λ a b h k. (let same : said_of b ≡ said_of a = (said_exact bytes).one (said_of a) (said_of b) h.1 k.1 in one_private b a (k.0 ∙ sym h.0) (ap (λ (s : Said). s.0) same) (ap (λ (s : Said). s.1) same));
  apart = λ f k r h. (said_exact bytes).apart f (said_of k) r h.1;
  only = (said_exact bytes).only;
}
