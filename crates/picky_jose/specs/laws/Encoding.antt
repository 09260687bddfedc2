-- A token that is made: its rows say the same as what it is, it reads back, and it verifies.
use Rattle.std.specs.Prelude.{◌<◌}
use Rattle.std.proofs.Common.{◌≡◌, ℕ, List, ◌∷◌, length, false, refl, sym, ap, subst, ◌∙◌, append_assoc}
use Rattle.serde_json.specs.Data.{Data, Members, no_members, object}
use Rattle.serde_json.specs.Written.{compact_text, members_text}
use Rattle.picky_contract.specs.Text.{Lacks}
use Rattle.picky_contract.specs.laws.Tables.{Exact, the_exact, need_exact, done_exact, then_exact, named_exact}
use Rattle.picky_base64.specs.Base64.{AreBytes, encoding}
use Rattle.picky_base64.specs.declared.Form.TheVariants.{Url}
use Rattle.picky_json.specs.Tree.{FloatFree}
use Rattle.picky_key.specs.Signatures.{Relation}
use Rattle.picky_key_der.specs.declared.public.PublicKeyKind.{PublicKeyKind}
use Rattle.picky_jws_header.specs.Header.{Header, in_order}
use Rattle.picky_members.specs.Writing.{put_all}
use Rattle.picky_jws_header.specs.Trees.{with_fields, header_tree, IsWrittenAs}
use Rattle.picky_jose.specs.Token.{dot, Parts}
use Rattle.picky_jose.specs.Views.{Content}
use Rattle.picky_jose.specs.Refusals.{signed_bytes, header_table}
use Rattle.picky_jose.specs.Verified.{VerifiedContent}
use Rattle.picky_jose.specs.Signatures.{asked_by}
use Rattle.picky_jose.specs.Signing.{Signing, IsGiven, given_rows}
use Rattle.picky_jose.specs.Faults.{json, float, jws, no_json, has_float}
use Rattle.picky_jose.specs.Encoding.{signing_input, serialized, IsToken, header_text_table, encoding_table, as_written, SignedContent, content, IsClaimsToken, claims_text_table, claims_encoding_table, HoldsOfClaims}
use Rattle.picky_jose.specs.laws.Dots.{lacks_dot, some_text, encoding_some}
use Rattle.picky_jose.specs.laws.Signing.{Signs, given_rows_exact, form_tells, form_holds, given_verifies}

-- ---- the rows say one thing

header_text_exact : (h : Header) → Exact (header_text_table h)
unfolding header_text_table
header_text_exact h =
    then_exact _ _ (the_exact (IsWrittenAs h) json) (λ tree.
    then_exact _ _ (need_exact (FloatFree tree) float) (λ _.
    done_exact (encoding Url (compact_text tree))))

pub encoding_exact : (sign : Signing) (x : Content) → Exact (encoding_table sign x)
unfolding encoding_table
encoding_exact sign x =
    then_exact _ _ (header_text_exact x.header) (λ header.
    then_exact _ _ (given_rows_exact sign x.header.alg (signing_input header x.payload)) (λ s.
    done_exact (serialized (signing_input header x.payload) s)))

claims_text_exact : (claims : Data) → Exact (claims_text_table claims)
unfolding claims_text_table
claims_text_exact claims =
    then_exact _ _ (need_exact _ has_float) (λ _.
    then_exact _ _ (need_exact _ no_json) (λ _.
    done_exact (compact_text claims)))

pub claims_encoding_exact : (sign : Signing) (h : Header) (claims : Data) → Exact (claims_encoding_table sign h claims)
unfolding claims_encoding_table
claims_encoding_exact sign h claims = then_exact _ _ (claims_text_exact claims) (λ payload. named_exact jws _ (encoding_exact sign (content h payload)))

-- claims that have a text are float-free
pub claims_free : (claims : Data) (payload : List ℕ) → (claims_text_table claims).gives payload → FloatFree claims
unfolding claims_text_table
claims_free claims payload (u, free, rest) = free

-- ---- they hold of the token

pub to_token : (sign : Signing) (x : Content) (text : List ℕ) → (encoding_table sign x).holds text → IsToken sign x text
unfolding encoding_table header_text_table
to_token sign x text (header, (tree, written, (u, free, is)), (s, given, joined)) =
    let with : List ℕ → List ℕ = λ h. signing_input h x.payload in
    record {
      tree = tree;
      written = written;
      free = free;
      signature = s;
      given = subst (λ (h : List ℕ). IsGiven sign x.header.alg (with h) s) is (form_tells sign (asked_by x.header.alg) (with header) s given);
      joined = subst (λ (h : List ℕ). text ≡ serialized (with h) s) is joined;
    }

pub from_token : (sign : Signing) (x : Content) (text : List ℕ) → IsToken sign x text → (encoding_table sign x).holds text
unfolding encoding_table header_text_table
from_token sign x text t =
    let header : List ℕ = encoding Url (compact_text t.tree) in
    (header, (t.tree, t.written, (tt, t.free, refl)), (t.signature, form_holds sign (asked_by x.header.alg) (signing_input header x.payload) t.signature t.given, t.joined))

pub to_claims_token : (sign : Signing) (h : Header) (claims : Data) (text : List ℕ) → (claims_encoding_table sign h claims).holds text → IsClaimsToken sign h claims text
unfolding claims_encoding_table claims_text_table
to_claims_token sign h claims text (payload, (u, free, (v, shallow, is)), token) = record {
  free = free;
  shallow = shallow;
  token = subst (λ (p : List ℕ). IsToken sign (content h p) text) is (to_token sign (content h payload) text token);
}

pub from_claims_token : (sign : Signing) (h : Header) (claims : Data) (text : List ℕ) → IsClaimsToken sign h claims text → (claims_encoding_table sign h claims).holds text
unfolding claims_encoding_table claims_text_table
from_claims_token sign h claims text t =
    (compact_text claims, (tt, t.free, (tt, t.shallow, refl)), from_token sign (content h (compact_text claims)) text t.token)

-- ---- it verifies

module _ (signs : Relation) (key : PublicKeyKind) (sign : Signing) (signed : Signs signs key sign) (token : List ℕ) where
  -- where what signing gives is signed under a key, a content whose signature is given is verified under it
  pub content_verifies : (x : Content) → SignedContent sign token x → VerifiedContent signs key token x
  content_verifies x c = record {
    reading = c.reading;
    reads = c.reads;
    vouched = given_verifies signs key sign signed c.reading.header.alg (signed_bytes c.reads) c.reading.signature c.given;
    is = c.is;
  }

  pub claims_verify : (h : Header) (claims : Data) → HoldsOfClaims (SignedContent sign token) h claims → HoldsOfClaims (VerifiedContent signs key token) h claims
  claims_verify h claims c = record { payload = c.payload; read = c.read; free = c.free; holds = content_verifies (content h c.payload) c.holds }

-- ---- it reads back

-- the text of a header isn't empty
header_some : (h : Header) (text : List ℕ) → (header_text_table h).holds text → 0 < length text
unfolding header_text_table header_tree
header_some h text (tree, written, (u, free, is)) =
    let ms : Members = with_fields h (put_all h.additional no_members) in
    let object_is : text ≡ encoding Url (compact_text (object ms)) = is ∙ ap (λ (t : Data). encoding Url (compact_text t)) written.tree in
    subst (λ (t : List ℕ). 0 < length t) (sym object_is) (some_text 123 (members_text false ms))

module _ (sign : Signing) (h : Header) (header payload s token : List ℕ) where
  -- a text that spells a header, in order, is that of a token
  pub token_reads : (header_table header).holds (in_order h) → 0 < length header → AreBytes payload → AreBytes s → 0 < length s
      → IsGiven sign h.alg (signing_input header payload) s → token ≡ serialized (signing_input header payload) s → SignedContent sign token (as_written (content h payload))
  unfolding header_table
  token_reads (bytes, spelled, (tree, read, (u, free, tells))) some are_bytes s_bytes s_some given joined =
      let parts : Parts = record { header = header; payload = encoding Url payload; signature = encoding Url s } in
      record {
        reading = record { header = in_order h; payload = payload; signature = s };
        reads = record {
          parts = parts;
          joined = record {
            joined = joined ∙ append_assoc header (dot ∷ encoding Url payload) (dot ∷ encoding Url s);
            first = subst (Lacks dot) (sym spelled.spelled) (lacks_dot bytes);
            last = lacks_dot s;
            header = some;
            signature = encoding_some s s_some;
          };
          header_bytes = bytes;
          tree = tree;
          header_text = spelled;
          header_tree = read;
          free = free;
          header = tells;
          signature = record { spelled = refl; fits = s_bytes };
          payload = record { spelled = refl; fits = are_bytes };
        };
        given = given;
        is = refl;
      }

-- a token that was joined of the text of a header, a payload and a signature that is given
pub token_made : (sign : Signing) (h : Header) (header payload signed s token : List ℕ) → (header_text_table h).gives header → (header_table header).holds (in_order h)
    → AreBytes payload → signed ≡ signing_input header payload → (given_rows sign h.alg signed).gives s → 0 < length s → AreBytes s → token ≡ serialized signed s
    → SignedContent sign token (as_written (content h payload))
token_made sign h header payload signed s token text reads payload_bytes is gives some s_bytes joined =
    let holds : (given_rows sign h.alg signed).holds s = (given_rows_exact sign h.alg signed).holds s gives in
    let given : IsGiven sign h.alg signed s = form_tells sign (asked_by h.alg) signed s holds in
    token_reads sign h header payload s token reads (header_some h header ((header_text_exact h).holds header text)) payload_bytes s_bytes some
    (subst (λ (m : List ℕ). IsGiven sign h.alg m s) is given) (joined ∙ ap (λ (m : List ℕ). serialized m s) is)
