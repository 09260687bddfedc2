-- The lines of a records document, what each answers, and which contradict one another (own).
use Rattle.std.specs.Prelude.{◌≡◌, ◌&&◌, ◌||◌, ℕ, Bool, true, false, not, List, [], ◌∷◌, Option, Some, None, if◌then◌else◌, option_map}
use Rattle.std.specs.Borrow.{Bor}
use Rattle.std.specs.Str.{bytes_eq}
use Rattle.picky_key_der.specs.declared.public.PublicKeyKind.{PublicKeyKind}
use Rattle.picky_key_private.specs.declared.private.PrivateKey.{PrivateKey}
use Rattle.picky_key_der.specs.declared.kind.PrivateKeyKind.TheVariants as private
use Rattle.picky_key.specs.declared.algorithm.SignatureAlgorithm.{SignatureAlgorithm}
use Rattle.picky_key.specs.declared.provider.WrapScheme.{WrapScheme}
use Rattle.picky_key.specs.Family.{is_of_family}
use Rattle.picky_key_der.specs.declared.algorithm.EdAlgorithm.TheVariants.{X25519}
use Rattle.picky_key_der.specs.declared.algorithm.NamedEcCurve.TheVariants.{Known}
use Rattle.picky_key_der.specs.declared.kind.PrivateKeyKind.{PrivateKeyKind}
use Rattle.picky_key.specs.SignatureForms.{is_signature_for}
use Rattle.picky_records.specs.declared.line.Line.{Line}
use Rattle.picky_records.specs.declared.line.Line.TheVariants.{Sig, Pair, Unwrap, Agree}
use Rattle.picky_key_der.specs.Kinds.{kind_of, same_kind, same_public}
use Rattle.picky_key_private.specs.Parts.{same_part}
use Rattle.picky_key_private.specs.Same.{same_private}
use Rattle.picky_records.specs.Same.{same_scheme, same_algorithm}

-- ---- what one line answers

-- the signature of a `sig` line with this key, algorithm and message
abbrev pub signature_in : PublicKeyKind → SignatureAlgorithm → List ℕ → Line → Option (List ℕ)
signature_in q a m (Sig k b n s) = if same_public k q && (same_algorithm b a && bytes_eq n m) then Some s else None
signature_in q a m _ = None

-- the public key of a `pair` line with this private key
abbrev pub pair_in : PrivateKey → Line → Option PublicKeyKind
pair_in k (Pair j q) = if same_private j k then Some q else None
pair_in k _ = None

-- the content key of an `unwrap` line with this scheme, public part and wrapped key
abbrev pub unwrapped_in : WrapScheme → PublicKeyKind → List ℕ → Line → Option (List ℕ)
unwrapped_in s q w (Unwrap t j x c) = if same_scheme t s && (same_part j.public_part (Some q) && bytes_eq x w) then Some c else None
unwrapped_in s q w _ = None

-- the secret of an `agree` line with these keys, in either order
abbrev pub secret_in : PublicKeyKind → PublicKeyKind → Line → Option (List ℕ)
secret_in a b (Agree c d s) = if (same_public c a && same_public d b) || (same_public c b && same_public d a) then Some s else None
secret_in a b _ = None

-- the wrapped key of an `unwrap` line with this scheme, public part and content key
abbrev pub wrapped_in : WrapScheme → PublicKeyKind → List ℕ → Line → Option (List ℕ)
wrapped_in s q c (Unwrap t j w d) = if same_scheme t s && (same_part j.public_part (Some q) && bytes_eq d c) then Some w else None
wrapped_in s q c _ = None

-- the other key and the secret of an `agree` line with the receiver on either side
abbrev pub ephemeral_in : PublicKeyKind → Line → Option (PublicKeyKind × List ℕ)
ephemeral_in r (Agree c d s) = if same_public c r then Some (d, s) else if same_public d r then Some (c, s) else None
ephemeral_in r _ = None

-- the other key and the secret, without where they lie
abbrev pub pair_of_bors : {A B : Type 0} → Option (Bor A × Bor B) → Option (A × B)
pair_of_bors o = option_map (λ p. (p.0.now, p.1.now)) o

-- ---- what a line must be

-- a signature is one that the key can have
abbrev pub in_form : Line → Bool
in_form (Sig k a m s) = is_signature_for a k s
in_form _ = true

-- whether two keys of the kind agree on a secret: on one known curve, or both X25519 (SP 800-56A section 5.7.1.2; RFC 7748 section 6.1)
abbrev pub agreeable : PrivateKeyKind → Bool
agreeable (private.Ec (Known curve)) = true
agreeable (private.Ed X25519) = true
agreeable _ = false

-- keys and algorithms belong to one family
abbrev pub in_family : Line → Bool
in_family (Sig k a m s) = is_of_family a k
in_family (Pair k q) = same_kind (kind_of q) k.kind
in_family (Unwrap t k w c) = same_kind k.kind private.Rsa
in_family (Agree a b s) = agreeable (kind_of a) && same_kind (kind_of b) (kind_of a)

-- ---- conflicts

abbrev pub other_key : Option PublicKeyKind → PublicKeyKind → Bool
other_key None q = false
other_key (Some r) q = not (same_public r q)

abbrev pub other_bytes : Option (List ℕ) → List ℕ → Bool
other_bytes None c = false
other_bytes (Some d) c = not (bytes_eq d c)

-- the private key of a `pair` line has another public part
abbrev pub own_conflict : Line → Bool
own_conflict (Pair k q) = other_key k.public_part q
own_conflict _ = false

-- the earlier line has another content key for this scheme, public part and wrapped key
abbrev pub part_conflicts : Line → WrapScheme → Option PublicKeyKind → List ℕ → List ℕ → Bool
part_conflicts earlier t None w c = false
part_conflicts earlier t (Some part) w c = other_bytes (unwrapped_in t part w earlier) c

-- the earlier line answers the question of the later one otherwise
abbrev pub conflicts_with : Line → Line → Bool
conflicts_with earlier (Sig k a m s) = false
conflicts_with earlier (Pair k q) = other_key (pair_in k earlier) q
conflicts_with earlier (Unwrap t k w c) = part_conflicts earlier t k.public_part w c
conflicts_with earlier (Agree a b s) = other_bytes (secret_in a b earlier) s

-- one of these lines conflicts with the later one
abbrev pub some_conflicts : List Line → Line → Bool
some_conflicts [] line = false
some_conflicts (earlier ∷ before) line = conflicts_with earlier line || some_conflicts before line

-- the line has a conflict, where these stand before it
abbrev pub conflicts : List Line → Line → Bool
conflicts before line = own_conflict line || some_conflicts before line

-- ---- lists of lines

abbrev pub or_else : {Y : Type 0} → Option Y → Option Y → Option Y
or_else None later = later
or_else (Some y) later = Some y

-- what the first line that answers gives
abbrev pub first : {Y : Type 0} → (Line → Option Y) → List Line → Option Y
first f [] = None
first f (line ∷ lines) = or_else (f line) (first f lines)

-- the line is in form and in its family, and doesn't conflict with itself
abbrev pub is_proper : Line → Bool
is_proper line = in_form line && (in_family line && not (own_conflict line))

-- none of the later lines conflicts with the line
abbrev pub no_conflicts : Line → List Line → Bool
no_conflicts line [] = true
no_conflicts line (later ∷ lines) = not (conflicts_with line later) && no_conflicts line lines

-- each line is proper, and none conflicts with an earlier one
abbrev pub are_sound : List Line → Bool
are_sound [] = true
are_sound (line ∷ lines) = is_proper line && (no_conflicts line lines && are_sound lines)

abbrev pub AreSound : List Line → Type 0
AreSound lines = are_sound lines ≡ true
