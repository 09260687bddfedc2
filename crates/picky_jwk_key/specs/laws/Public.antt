-- What the tables of public keys say.
use Rattle.std.proofs.Common.{◌≡◌, ℕ, List, length, sym, ◌∙◌, Result, Ok, Err, IfOk}
use Rattle.picky_base64.specs.Base64.{B64}
use Rattle.picky_base64.specs.declared.Form.TheVariants.{Url}
use Rattle.picky_base64.specs.laws.Encoding.{once}
use Rattle.picky_contract.specs.Refusals.{Meets, OkOrMemory}
use Rattle.picky_contract.specs.laws.Tables.{Exact, the_exact, need_exact, done_exact, then_exact, complete, Single, the_single, need_single, done_single, then_single}
use Rattle.picky_key_der.specs.declared.algorithm.EdAlgorithm.{EdAlgorithm}
use Rattle.picky_key_der.specs.declared.algorithm.EdAlgorithm.TheVariants.{Ed25519, X25519}
use Rattle.picky_key_der.specs.declared.public.PublicKeyKind.{PublicKeyKind}
use Rattle.picky_key_der.specs.declared.public.PublicKeyKind.TheVariants.{Ed}
use Rattle.picky_jwk_names.specs.declared.edwards.JwkEdPublicKeyAlgorithm.{JwkEdPublicKeyAlgorithm}
use Rattle.picky_jwk_names.specs.declared.edwards.JwkEdPublicKeyAlgorithm.TheVariants as names
use Rattle.picky_jwk_key.specs.declared.error.JwkError.{JwkError}
use Rattle.picky_jwk_key.specs.Keys.{RsaKey, EcKey, Key, rsa, ec, ed, oct, curve_of}
use Rattle.picky_jwk_key.specs.Public.{rsa_public, IsPointKey, IsEdwardsKey, IsNamedKey, KeyOfJwk}
use Rattle.picky_jwk_key.specs.Refusals.{not_base64, bad_coordinates, bad_ed_key, fault, bytes_table, rsa_table, ec_table, edwards_table, named_table, public_table}

-- ---- a table says one thing

rsa_exact : (k : RsaKey) → Exact (rsa_table k)
unfolding rsa_table
rsa_exact k = then_exact _ _ (the_exact (B64 Url k.n) not_base64) (λ n. then_exact _ _ (the_exact (B64 Url k.e) not_base64) (λ e. done_exact (rsa_public n e)))

ec_exact : (k : EcKey) → Exact (ec_table k)
unfolding ec_table
ec_exact k = then_exact _ _ (the_exact (B64 Url k.x) not_base64) (λ x. then_exact _ _ (the_exact (B64 Url k.y) not_base64) (λ y. the_exact (IsPointKey (curve_of k.crv) x y) bad_coordinates))

edwards_exact : (algorithm : EdAlgorithm) (text : List ℕ) → Exact (edwards_table algorithm text)
unfolding edwards_table
edwards_exact algorithm text = then_exact _ _ (the_exact (B64 Url text) not_base64) (λ bytes. then_exact _ _ (need_exact (length bytes ≡ 32) bad_ed_key) (λ _. done_exact (Ed algorithm bytes)))

named_exact : (crv : JwkEdPublicKeyAlgorithm) (text : List ℕ) → Exact (named_table crv text)
named_exact names.Ed25519 text = edwards_exact Ed25519 text
named_exact names.Ed448 text = the_exact _ _
named_exact names.X25519 text = edwards_exact X25519 text
named_exact names.X448 text = the_exact _ _

pub public_exact : (k : Key) → Exact (public_table k)
public_exact (rsa k) = rsa_exact k
public_exact (ec k) = ec_exact k
public_exact (ed k) = named_exact k.crv k.x
public_exact oct = the_exact _ _

-- ---- it is the relation

edwards_holds : (algorithm : EdAlgorithm) (text : List ℕ) (p : PublicKeyKind) → (edwards_table algorithm text).holds p → IsEdwardsKey algorithm text p
unfolding edwards_table
edwards_holds algorithm text p h = record { bytes = h.0; spells = h.1; size = h.2.1; is = h.2.2 }

named_holds : (crv : JwkEdPublicKeyAlgorithm) (text : List ℕ) (p : PublicKeyKind) → (named_table crv text).holds p → IsNamedKey crv text p
named_holds names.Ed25519 text p h = edwards_holds Ed25519 text p h
named_holds names.Ed448 text p h = h
named_holds names.X25519 text p h = edwards_holds X25519 text p h
named_holds names.X448 text p h = h

pub public_holds : (k : Key) (p : PublicKeyKind) → (public_table k).holds p → KeyOfJwk k p
unfolding rsa_table ec_table
public_holds (rsa k) p h = record { n = h.0; e = h.2.0; spells_n = h.1; spells_e = h.2.1; is = h.2.2 }
public_holds (ec k) p h = record { x = h.0; y = h.2.0; spells_x = h.1; spells_y = h.2.1; is = h.2.2 }
public_holds (ed k) p h = named_holds k.crv k.x p h
public_holds oct p h = h

edwards_from : (algorithm : EdAlgorithm) (text : List ℕ) (p : PublicKeyKind) → IsEdwardsKey algorithm text p → (edwards_table algorithm text).holds p
unfolding edwards_table
edwards_from algorithm text p h = (h.bytes, h.spells, (tt, h.size, h.is))

named_from : (crv : JwkEdPublicKeyAlgorithm) (text : List ℕ) (p : PublicKeyKind) → IsNamedKey crv text p → (named_table crv text).holds p
named_from names.Ed25519 text p h = edwards_from Ed25519 text p h
named_from names.Ed448 text p h = h
named_from names.X25519 text p h = edwards_from X25519 text p h
named_from names.X448 text p h = h

pub public_from : (k : Key) (p : PublicKeyKind) → KeyOfJwk k p → (public_table k).holds p
unfolding rsa_table ec_table
public_from (rsa k) p h = (h.n, h.spells_n, (h.e, h.spells_e, h.is))
public_from (ec k) p h = (h.x, h.spells_x, (h.y, h.spells_y, h.is))
public_from (ed k) p h = named_from k.crv k.x p h
public_from oct p h = h

pub key_found : {X : Type 0} (view : X → PublicKeyKind) (k : Key) (r : Result X JwkError) → Meets view fault r (public_table k) → IfOk r (λ x. KeyOfJwk k (view x))
key_found view k (Ok x) m = public_holds k (view x) ((public_exact k).holds (view x) m)
key_found view k (Err e) m = tt

pub key_every : {X : Type 0} (view : X → PublicKeyKind) (k : Key) (r : Result X JwkError) → Meets view fault r (public_table k) → (p : PublicKeyKind) → KeyOfJwk k p → OkOrMemory view fault r p
key_every view k r m p h = complete view fault r (public_table k) (public_exact k) m p (public_from k p h)

-- ---- at most one key

bytes_single : (text : List ℕ) → Single (bytes_table text)
bytes_single text = the_single (B64 Url text) not_base64 (once Url text)

rsa_single : (k : RsaKey) → Single (rsa_table k)
unfolding rsa_table
rsa_single k = then_single _ _ (bytes_single k.n) (λ n. then_single _ _ (bytes_single k.e) (λ e. done_single (rsa_public n e)))

ec_single : (k : EcKey) → Single (ec_table k)
unfolding ec_table
ec_single k = then_single _ _ (bytes_single k.x) (λ x. then_single _ _ (bytes_single k.y) (λ y. the_single (IsPointKey (curve_of k.crv) x y) bad_coordinates (λ p q h k. k.1 ∙ sym h.1)))

edwards_single : (algorithm : EdAlgorithm) (text : List ℕ) → Single (edwards_table algorithm text)
unfolding edwards_table
edwards_single algorithm text = then_single _ _ (bytes_single text) (λ bytes. then_single _ _ (need_single (length bytes ≡ 32) bad_ed_key) (λ _. done_single (Ed algorithm bytes)))

named_single : (crv : JwkEdPublicKeyAlgorithm) (text : List ℕ) → Single (named_table crv text)
named_single names.Ed25519 text = edwards_single Ed25519 text
named_single names.Ed448 text = the_single _ _ (λ p q h k. absurd h)
named_single names.X25519 text = edwards_single X25519 text
named_single names.X448 text = the_single _ _ (λ p q h k. absurd h)

public_single : (k : Key) → Single (public_table k)
public_single (rsa k) = rsa_single k
public_single (ec k) = ec_single k
public_single (ed k) = named_single k.crv k.x
public_single oct = the_single _ _ (λ p q h k. absurd h)

-- a key tells one public key at most
pub one_key : (k : Key) (p q : PublicKeyKind) → KeyOfJwk k p → KeyOfJwk k q → q ≡ p
one_key k p q h j = (public_single k).same p q (public_from k p h) (public_from k q j)
