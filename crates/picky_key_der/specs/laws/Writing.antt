-- What the tables of writing say.
use Rattle.std.proofs.Common.{◌≡◌, ℕ, ◌≤◌, List, [], ◌∷◌, ◌++◌, length, refl, ap, ◌∙◌, Result, Ok, Err, IfOk}
use Rattle.picky_asn1_bits.specs.Integer.{IsShortest}
use Rattle.picky_contract.specs.Refusals.{Meets, OkOrMemory}
use Rattle.picky_contract.specs.laws.Tables.{Exact, need_exact, done_exact, then_exact, complete}
use Rattle.picky_der.specs.Length.{value_of, without_zeros}
use Rattle.picky_key_der.specs.declared.algorithm.TheConstants.{RSA_ENCRYPTION}
use Rattle.picky_key_der.specs.declared.algorithm.EcCurve.{EcCurve}
use Rattle.picky_key_der.specs.declared.algorithm.NamedEcCurve.TheVariants.{Known}
use Rattle.picky_key_der.specs.declared.error.KeyError.{KeyError}
use Rattle.picky_key_der.specs.declared.public.PublicKeyKind.{PublicKeyKind}
use Rattle.picky_key_der.specs.declared.public.PublicKeyKind.TheVariants.{Rsa, Ec, Ed}
use Rattle.picky_key_der.specs.Ecdsa.{padded}
use Rattle.picky_key_der.specs.Errors.{key_fault}
use Rattle.picky_key_der.specs.Public.{field_size}
use Rattle.picky_key_der.specs.Writing.{information_der, integer_table, rsa_bits_table, rsa_der_table, public_der_table, HasNumbers, rsa_bits_of, public_der_of, coordinate_table, components_table, FitsField, of_coordinates}

-- ---- the encoding of a key

integer_exact : (octets : List ℕ) → Exact (integer_table octets)
unfolding integer_table
integer_exact octets = then_exact _ _ (need_exact _ _) (λ _. done_exact _)

rsa_bits_exact : (n e : List ℕ) → Exact (rsa_bits_table n e)
unfolding rsa_bits_table
rsa_bits_exact n e = then_exact _ _ (integer_exact n) (λ a. then_exact _ _ (integer_exact e) (λ b. done_exact (value_of 48 (a ++ b))))

rsa_der_exact : (n e : List ℕ) → Exact (rsa_der_table n e)
unfolding rsa_der_table
rsa_der_exact n e = then_exact _ _ (rsa_bits_exact n e) (λ _. done_exact _)

public_exact : (kind : PublicKeyKind) → Exact (public_der_table kind)
public_exact (Rsa n e) = rsa_der_exact n.0 e.0
public_exact (Ec curve point) = done_exact _
public_exact (Ed algorithm bytes) = done_exact _

integer_holds : (octets bytes : List ℕ) → (integer_table octets).holds bytes → IsShortest octets × (bytes ≡ value_of 2 octets)
unfolding integer_table
integer_holds octets bytes h = (h.1, h.2)

integer_of : (octets : List ℕ) → IsShortest octets → (integer_table octets).holds (value_of 2 octets)
unfolding integer_table
integer_of octets shortest = (tt, shortest, refl)

rsa_bits_holds : (n e bytes : List ℕ) → (rsa_bits_table n e).holds bytes → (IsShortest n × IsShortest e) × (bytes ≡ rsa_bits_of n e)
unfolding rsa_bits_table
rsa_bits_holds n e bytes h =
    let a = integer_holds n h.0 h.1 in
    let b = integer_holds e h.2.0 h.2.1 in
    ((a.0, b.0), h.2.2 ∙ ap (λ (x : List ℕ). value_of 48 (x ++ h.2.0)) a.1 ∙ ap (λ (x : List ℕ). value_of 48 (value_of 2 n ++ x)) b.1)

rsa_bits_from : (n e : List ℕ) → IsShortest n → IsShortest e → (rsa_bits_table n e).holds (rsa_bits_of n e)
unfolding rsa_bits_table
rsa_bits_from n e hn he = (value_of 2 n, integer_of n hn, (value_of 2 e, integer_of e he, refl))

public_holds : (kind : PublicKeyKind) (bytes : List ℕ) → (public_der_table kind).holds bytes → HasNumbers kind × (bytes ≡ public_der_of kind)
unfolding rsa_der_table
public_holds (Rsa n e) bytes h =
    let a = rsa_bits_holds n.0 e.0 h.0 h.1 in
    (a.0, h.2 ∙ ap (λ (x : List ℕ). information_der RSA_ENCRYPTION (value_of 5 []) x) a.1)
public_holds (Ec curve point) bytes h = (tt, h)
public_holds (Ed algorithm key) bytes h = (tt, h)

public_from : (kind : PublicKeyKind) → HasNumbers kind → (public_der_table kind).holds (public_der_of kind)
unfolding rsa_der_table
public_from (Rsa n e) h = (rsa_bits_of n.0 e.0, rsa_bits_from n.0 e.0 h.0 h.1, refl)
public_from (Ec curve point) h = refl
public_from (Ed algorithm key) h = refl

pub der_found : {X : Type 0} (view : X → List ℕ) (kind : PublicKeyKind) (r : Result X KeyError) → Meets view key_fault r (public_der_table kind) → IfOk r (λ v. HasNumbers kind × (view v ≡ public_der_of kind))
der_found view kind (Ok v) m = public_holds kind (view v) ((public_exact kind).holds (view v) m)
der_found view kind (Err e) m = tt

pub der_every : {X : Type 0} (view : X → List ℕ) (kind : PublicKeyKind) (r : Result X KeyError) → Meets view key_fault r (public_der_table kind) → HasNumbers kind → OkOrMemory view key_fault r (public_der_of kind)
der_every view kind r m h = complete view key_fault r (public_der_table kind) (public_exact kind) m (public_der_of kind) (public_from kind h)

-- ---- a key of coordinates

coordinate_exact : (size : ℕ) (bytes : List ℕ) → Exact (coordinate_table size bytes)
unfolding coordinate_table
coordinate_exact size bytes = then_exact _ _ (need_exact _ _) (λ _. done_exact _)

components_exact : (curve : EcCurve) (x y : List ℕ) → Exact (components_table curve x y)
unfolding components_table
components_exact curve x y = then_exact _ _ (coordinate_exact (field_size curve) x) (λ a. then_exact _ _ (coordinate_exact (field_size curve) y) (λ b. done_exact _))

coordinate_holds : (size : ℕ) (bytes c : List ℕ) → (coordinate_table size bytes).holds c → (length (without_zeros bytes) ≤ size) × (c ≡ padded size (without_zeros bytes))
unfolding coordinate_table
coordinate_holds size bytes c h = (h.1, h.2)

coordinate_of : (size : ℕ) (bytes : List ℕ) → length (without_zeros bytes) ≤ size → (coordinate_table size bytes).holds (padded size (without_zeros bytes))
unfolding coordinate_table
coordinate_of size bytes fits = (tt, fits, refl)

abbrev key_on : EcCurve → List ℕ → List ℕ → PublicKeyKind
key_on curve a b = Ec (Known curve) (4 ∷ a ++ b)

components_holds : (curve : EcCurve) (x y : List ℕ) (kind : PublicKeyKind) → (components_table curve x y).holds kind → (FitsField curve x × FitsField curve y) × (kind ≡ of_coordinates curve x y)
unfolding components_table
components_holds curve x y kind h =
    let a = coordinate_holds (field_size curve) x h.0 h.1 in
    let b = coordinate_holds (field_size curve) y h.2.0 h.2.1 in
    ((a.0, b.0), h.2.2 ∙ ap (λ (z : List ℕ). key_on curve z h.2.0) a.1 ∙ ap (λ (z : List ℕ). key_on curve (padded (field_size curve) (without_zeros x)) z) b.1)

components_from : (curve : EcCurve) (x y : List ℕ) → FitsField curve x → FitsField curve y → (components_table curve x y).holds (of_coordinates curve x y)
unfolding components_table
components_from curve x y fx fy = (padded (field_size curve) (without_zeros x), coordinate_of (field_size curve) x fx, (padded (field_size curve) (without_zeros y), coordinate_of (field_size curve) y fy, refl))

pub components_found : {X : Type 0} (view : X → PublicKeyKind) (curve : EcCurve) (x y : List ℕ) (r : Result X KeyError) → Meets view key_fault r (components_table curve x y) → IfOk r (λ v. (FitsField curve x × FitsField curve y) × (view v ≡ of_coordinates curve x y))
components_found view curve x y (Ok v) m = components_holds curve x y (view v) ((components_exact curve x y).holds (view v) m)
components_found view curve x y (Err e) m = tt

pub components_every : {X : Type 0} (view : X → PublicKeyKind) (curve : EcCurve) (x y : List ℕ) (r : Result X KeyError) → Meets view key_fault r (components_table curve x y) → FitsField curve x → FitsField curve y → OkOrMemory view key_fault r (of_coordinates curve x y)
components_every view curve x y r m fx fy = complete view key_fault r (components_table curve x y) (components_exact curve x y) m (of_coordinates curve x y) (components_from curve x y fx fy)
