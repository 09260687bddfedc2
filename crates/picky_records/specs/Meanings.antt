-- The seven meanings of a list of lines (own).
use Rattle.std.specs.Prelude.{◌≡◌, ◌⊎◌, ℕ, List, [], ◌∷◌, Option}
use Rattle.std.specs.Option.{option_and_then}
use Rattle.picky_key_der.specs.declared.public.PublicKeyKind.{PublicKeyKind}
use Rattle.picky_key_private.specs.declared.private.PrivateKey.{PrivateKey}
use Rattle.picky_key.specs.declared.algorithm.SignatureAlgorithm.{SignatureAlgorithm}
use Rattle.picky_key.specs.declared.provider.WrapScheme.{WrapScheme}
use Rattle.picky_records.specs.declared.line.Line.{Line}
use Rattle.picky_records.specs.declared.line.Line.TheVariants.{Sig}
use Rattle.picky_records.specs.Lines.{first, or_else, signature_in, pair_in, unwrapped_in, secret_in, wrapped_in, ephemeral_in}

-- the line is one of these
abbrev pub Has : List Line → Line → Type 0
Has [] line = ⊥
Has (l ∷ lines) line = (l ≡ line) ⊎ Has lines line

abbrev pub signs_by : List Line → PublicKeyKind → SignatureAlgorithm → List ℕ → List ℕ → Type 0
signs_by ls k a m s = Has ls (Sig k a m s)

abbrev pub public_by : List Line → PrivateKey → Option PublicKeyKind
public_by ls k = or_else k.public_part (first (pair_in k) ls)

abbrev pub unwrap_by : List Line → PrivateKey → WrapScheme → List ℕ → Option (List ℕ)
unwrap_by ls k t w = option_and_then (λ q. first (unwrapped_in t q w) ls) (public_by ls k)

abbrev pub agree_by : List Line → PrivateKey → PublicKeyKind → Option (List ℕ)
agree_by ls k peer = option_and_then (λ q. first (secret_in q peer) ls) (public_by ls k)

abbrev pub sign_by : List Line → PrivateKey → SignatureAlgorithm → List ℕ → Option (List ℕ)
sign_by ls k a m = option_and_then (λ q. first (signature_in q a m) ls) (public_by ls k)

abbrev pub wrap_by : List Line → PublicKeyKind → WrapScheme → List ℕ → List ℕ → Option (List ℕ)
wrap_by ls q t seed c = first (wrapped_in t q c) ls

abbrev pub ephemeral_by : List Line → PublicKeyKind → List ℕ → Option (PublicKeyKind × List ℕ)
ephemeral_by ls r seed = first (ephemeral_in r) ls
