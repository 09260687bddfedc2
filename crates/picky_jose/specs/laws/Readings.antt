-- A token has one reading at most, and its table says the same as its reading.
use Rattle.std.proofs.Common.{◌≡◌, List, ℕ, ◌∷◌, ◌++◌, refl, sym, ◌∙◌, ap, subst, append_assoc}
use Rattle.serde_json.specs.Data.{Data}
use Rattle.picky_contract.specs.laws.Cuts.{first-once, last-once}
use Rattle.picky_contract.specs.laws.Tables.{Exact, the_exact, need_exact, done_exact, then_exact}
use Rattle.picky_base64.specs.Base64.{B64, encoding}
use Rattle.picky_base64.specs.declared.Form.TheVariants.{Url}
use Rattle.picky_base64.specs.laws.Encoding.{once}
use Rattle.picky_json.specs.Tree.{Tree, FloatFree}
use Rattle.picky_json.specs.laws.Trees.{tree_is_determined}
use Rattle.picky_jws_header.specs.Header.{JwsHeaderOf}
use Rattle.picky_jws_header.specs.laws.Once.{header_once}
use Rattle.picky_jose.specs.Token.{Parts, PartsOf, dot}
use Rattle.picky_jose.specs.Faults.{json, invalid_encoding, not_base64, float}
use Rattle.picky_jose.specs.Refusals.{Reading, TokenReading, header_table, token_table, signed_bytes}

pub header_exact : (text : List ℕ) → Exact (header_table text)
unfolding header_table
header_exact text =
    then_exact _ _ (the_exact (B64 Url text) not_base64) (λ bytes.
    then_exact _ _ (the_exact (Tree bytes) json) (λ tree.
    then_exact _ _ (need_exact (FloatFree tree) float) (λ free.
    the_exact (JwsHeaderOf tree) json)))

pub token_exact : (token : List ℕ) → Exact (token_table token)
unfolding token_table
token_exact token =
    then_exact _ _ (the_exact (PartsOf token) (invalid_encoding token)) (λ parts.
    then_exact _ _ (header_exact parts.header) (λ header.
    then_exact _ _ (the_exact (B64 Url parts.signature) not_base64) (λ signature.
    then_exact _ _ (the_exact (B64 Url parts.payload) not_base64) (λ payload.
    done_exact (record { header = header; payload = payload; signature = signature })))))

pub from_reading : (x : Reading) (token : List ℕ) → TokenReading x token → (token_table token).holds x
unfolding token_table header_table
from_reading x token r =
    (r.parts, r.joined, (x.header, (r.header_bytes, r.header_text, (r.tree, r.header_tree, (tt, r.free, r.header))), (x.signature, r.signature, (x.payload, r.payload, refl))))

pub to_reading : (x : Reading) (token : List ℕ) → (token_table token).holds x → TokenReading x token
unfolding token_table header_table
to_reading x token h =
    let header = h.2 in
    let signature = header.2 in
    let payload = signature.2 in
    let bytes = header.1 in
    let tree = bytes.2 in
    let read : TokenReading (record { header = header.0; payload = payload.0; signature = signature.0 }) token = record {
      parts = h.0;
      joined = h.1;
      header_bytes = bytes.0;
      tree = tree.0;
      header_text = bytes.1;
      header_tree = tree.1;
      free = tree.2.1;
      header = tree.2.2;
      signature = signature.1;
      payload = payload.1;
    } in
    subst (λ (y : Reading). TokenReading y token) (sym payload.2) read

-- a token is cut in one way
pub one_cut : (text : List ℕ) (x y : Parts) → PartsOf text x → PartsOf text y → y ≡ x
one_cut text x y h k =
    let front = first-once dot y.header (y.payload ++ dot ∷ y.signature) x.header (x.payload ++ dot ∷ x.signature) (sym k.joined ∙ h.joined) k.first h.first in
    let back = last-once dot y.payload y.signature x.payload x.signature front.1 k.last h.last in
    λ i. record { header = front.0 i; payload = back.0 i; signature = back.1 i }

-- a token has one reading at most
pub one_reading : (x y : Reading) (text : List ℕ) → TokenReading x text → TokenReading y text → y ≡ x
one_reading x y text h k =
    let parts : k.parts ≡ h.parts = one_cut text h.parts k.parts h.joined k.joined in
    let bytes : k.header_bytes ≡ h.header_bytes = once Url h.parts.header h.header_bytes k.header_bytes h.header_text (subst (λ (p : Parts). B64 Url p.header k.header_bytes) parts k.header_text) in
    let tree : k.tree ≡ h.tree = tree_is_determined h.header_bytes h.tree k.tree h.header_tree (subst (λ (b : List ℕ). Tree b k.tree) bytes k.header_tree) in
    let header : y.header ≡ x.header = header_once h.tree x.header y.header h.header (subst (λ (t : Data). JwsHeaderOf t y.header) tree k.header) in
    let signature : y.signature ≡ x.signature = once Url h.parts.signature x.signature y.signature h.signature (subst (λ (p : Parts). B64 Url p.signature y.signature) parts k.signature) in
    let payload : y.payload ≡ x.payload = once Url h.parts.payload x.payload y.payload h.payload (subst (λ (p : Parts). B64 Url p.payload y.payload) parts k.payload) in
    λ i. record { header = header i; payload = payload i; signature = signature i }

-- a token is its signed bytes, a dot and the text of its signature
halved : (x : Reading) (token : List ℕ) (r : TokenReading x token) → token ≡ signed_bytes r ++ dot ∷ r.parts.signature
halved x token r = r.joined.joined ∙ sym (append_assoc r.parts.header (dot ∷ r.parts.payload) (dot ∷ r.parts.signature))

-- a token is told by the bytes before its last dot and its signature
pub one_text : (x y : Reading) (s t : List ℕ) (r : TokenReading x s) (q : TokenReading y t) → signed_bytes q ≡ signed_bytes r → y.signature ≡ x.signature → t ≡ s
one_text x y s t r q signed signature =
    let after : q.parts.signature ≡ r.parts.signature = q.signature.spelled ∙ ap (encoding Url) signature ∙ sym r.signature.spelled in
    let whole : List ℕ → List ℕ → List ℕ = λ m e. m ++ dot ∷ e in
    halved y t q ∙ ap (λ m. whole m q.parts.signature) signed ∙ ap (whole (signed_bytes r)) after ∙ sym (halved x s r)
