-- Texts that were made under a name of a ring are admissible.
use Rattle.std.proofs.Common.{◌≡◌, ◌≢◌, ℕ, ◌+◌, ◌<◌, ◌==◌, cond, List, [], ◌∷◌, ◌++◌, refl, sym, ◌∙◌, ap, subst, arith, inl, inr, codes}
use Rattle.std.specs.List.{sum_by}
use Rattle.std.proofs.lemmas.Bool.{cases_Bool, eqb-true}
use Rattle.std.proofs.lemmas.List.Elements.{All-head, All-tail}
use Rattle.std.proofs.lemmas.List.Sums.{sum_by-append, sum_by-cons}
use Rattle.serde_json.specs.Data.{Data}
use Rattle.picky_contract.specs.Text.{Lacks}
use Rattle.picky_base64.specs.Base64.{B64}
use Rattle.picky_base64.specs.declared.Form.TheVariants.{Url}
use Rattle.picky_json.specs.Tree.{Tree, FloatFree}
use Rattle.picky_key.specs.Signatures.{Relation}
use Rattle.picky_jws_header.specs.Header.{Header}
use Rattle.picky_jose.specs.Token.{dot}
use Rattle.picky_jose.specs.Refusals.{Reading, TokenReading}
use Rattle.picky_jose.specs.Verified.{VerifiedContent}
use Rattle.picky_jose.specs.Views.{Content}
use Rattle.picky_jose.specs.Claims.{AreInTime}
use Rattle.picky_http.specs.Lines.{Request}
use Rattle.picky_ring.specs.declared.ring.RingEntry.{RingEntry}
use Rattle.picky_ring.specs.TextMap.{TextMap}
use Rattle.picky_gate.specs.declared.policy.Policy.{Policy}
use Rattle.picky_gate.specs.Admissible.{token, Admissible, NamedKey, IsKeyUnder}
use Rattle.picky_gate.specs.Scheme.{bearer, dots_in}
use Rattle.picky_jose.specs.laws.Dots.{lacks_dot}

-- ---- a token that was read has two dots

none_there : (xs : List ℕ) → Lacks dot xs → dots_in xs ≡ 0
none_there [] h = refl
none_there (x ∷ xs) h =
    elim (cases_Bool (x == dot)) [
      | inl e ↦ absurd (All-head (λ b. b ≢ dot) x xs h (eqb-true x dot e))
      | inr e ↦ rw e (none_there xs (All-tail (λ b. b ≢ dot) x xs h))
    ]

spelled_none : (text bytes : List ℕ) → B64 Url text bytes → dots_in text ≡ 0
spelled_none text bytes b = none_there text (subst (Lacks dot) (sym b.spelled) (lacks_dot bytes))

joined_dots : (xs ys : List ℕ) → dots_in (xs ++ dot ∷ ys) ≡ dots_in xs + (1 + dots_in ys)
joined_dots xs ys =
    let f : ℕ → ℕ = λ b. cond (b == dot) 1 0 in
    sum_by-append f xs (dot ∷ ys) ∙ ap (λ n. sum_by f xs + n) (sum_by-cons f dot ys)

pub two_dots : (x : Reading) (text : List ℕ) → TokenReading x text → dots_in text < 4
two_dots x text r =
    let h = spelled_none r.parts.header r.header_bytes r.header_text in
    let p = spelled_none r.parts.payload x.payload r.payload in
    let s = spelled_none r.parts.signature x.signature r.signature in
    let outer = joined_dots r.parts.header (r.parts.payload ++ dot ∷ r.parts.signature) in
    let inner = joined_dots r.parts.payload r.parts.signature in
    let all = ap dots_in r.joined.joined in
    omega (arith, h, p, s, outer, inner, all)

-- ---- tokens

pub verified_admissible : (signs : Relation) (ring : TextMap RingEntry) (policy : Policy) (asked : Request) (key : NamedKey) (h : Header) (payload : List ℕ) (claims : Data) (text : List ℕ)
    → IsKeyUnder ring h.kid key → VerifiedContent signs key.key text (record { header = h; payload = payload })
    → Tree payload claims → FloatFree claims → AreInTime policy.validator claims
    → Admissible signs ring policy asked (codes "Bearer " ++ text) (token key.name h claims)
verified_admissible signs ring policy asked key h payload claims text named v tree free in_time =
    let header : h ≡ v.reading.header = ap (λ (c : Content). c.header) v.is in
    let same : payload ≡ v.reading.payload = ap (λ (c : Content). c.payload) v.is in
    record {
      scheme = bearer text;
      of_scheme = refl;
      admissible = record {
        signed = two_dots v.reading text v.reads;
        reading = v.reading;
        reads = v.reads;
        key = key;
        named = subst (λ (x : Header). IsKeyUnder ring x.kid key) header named;
        vouched = v.vouched;
        claims = claims;
        are_claims = subst (λ b. Tree b claims) same tree;
        free = free;
        in_time = in_time;
        is = ap (λ (x : Header). token key.name x claims) header;
      };
    }
