-- A name names one thing.
use Rattle.std.proofs.Common.{◌≡◌, ℕ, List, [], ◌∷◌, Option, None, Some, cond, refl, sym, ap, ◌∙◌}
use Rattle.std.specs.Str.{bytes_eq}
use Rattle.serde_json.specs.Data.{Data, string}
use Rattle.picky_jwk_names.specs.declared.alg.JwsAlg.{JwsAlg}
use Rattle.picky_jwk_names.specs.declared.alg.JwsAlg.TheVariants as alg
use Rattle.picky_jwk_names.specs.declared.jwe_alg.JweAlg.{JweAlg}
use Rattle.picky_jwk_names.specs.declared.jwe_alg.JweAlg.TheVariants as jwe_alg
use Rattle.picky_jwk_names.specs.declared.jwe_enc.JweEnc.{JweEnc}
use Rattle.picky_jwk_names.specs.declared.jwe_enc.JweEnc.TheVariants as jwe_enc
use Rattle.picky_jwk_names.specs.declared.curve.JwkEcPublicKeyCurve.{JwkEcPublicKeyCurve}
use Rattle.picky_jwk_names.specs.declared.curve.JwkEcPublicKeyCurve.TheVariants as curve
use Rattle.picky_jwk_names.specs.declared.edwards.JwkEdPublicKeyAlgorithm.{JwkEdPublicKeyAlgorithm}
use Rattle.picky_jwk_names.specs.declared.edwards.JwkEdPublicKeyAlgorithm.TheVariants as edwards
use Rattle.picky_jwk_names.specs.declared.key_use.JwkPubKeyUse.{JwkPubKeyUse}
use Rattle.picky_jwk_names.specs.declared.key_use.JwkPubKeyUse.TheVariants as key_use
use Rattle.picky_jwk_names.specs.declared.key_ops.JwkKeyOps.{JwkKeyOps}
use Rattle.picky_jwk_names.specs.declared.key_ops.JwkKeyOps.TheVariants as key_ops
use Rattle.picky_jwk_names.specs.declared.jwa.Jwa.{Jwa}
use Rattle.picky_jwk_names.specs.declared.jwa.Jwa.TheVariants as jwa
use Rattle.picky_jwk_names.specs.Names.{alg_name, jwe_alg_name, enc_name, jwa_name, curve_name, ed_name, use_name, ops_name, IsAlg, IsJweAlg, IsEnc, IsJwa, IsCurve, IsEdCurve, IsUse, IsOperation}

-- the first of the list that has the name
abbrev first : {A : Type 0} → (A → List ℕ) → List ℕ → List A → Option A
first name text [] = None
first name text (a ∷ xs) = cond (bytes_eq (name a) text) (Some a) (first name text xs)

-- where each is the first of its name, no two have one name
apart : {A : Type 0} (name : A → List ℕ) (all : List A) → ((a : A) → first name (name a) all ≡ Some a) → (a b : A) → name a ≡ name b → b ≡ a
apart name all found a b e =
    let both : Some b ≡ Some a = sym (found b) ∙ ap (λ n. first name n all) (sym e) ∙ found a in
    cc

same_text : {A : Type 0} (name : A → List ℕ) (d : Data) (a b : A) → d ≡ string (name a) → d ≡ string (name b) → name a ≡ name b
same_text name d a b h k = cc

abbrev every_jwa : List Jwa
every_jwa = jwa.Sig alg.HS256 ∷ jwa.Sig alg.HS384 ∷ jwa.Sig alg.HS512 ∷ jwa.Sig alg.RS256 ∷ jwa.Sig alg.RS384 ∷ jwa.Sig alg.RS512 ∷ jwa.Sig alg.ES256 ∷ jwa.Sig alg.ES384 ∷ jwa.Sig alg.ES512 ∷ jwa.Sig alg.PS256 ∷ jwa.Sig alg.PS384 ∷ jwa.Sig alg.PS512 ∷ jwa.Sig alg.EdDSA ∷ jwa.Sig alg.ED25519 ∷ jwa.Enc jwe_enc.Aes128CbcHmacSha256 ∷ jwa.Enc jwe_enc.Aes192CbcHmacSha384 ∷ jwa.Enc jwe_enc.Aes256CbcHmacSha512 ∷ jwa.Enc jwe_enc.Aes128Gcm ∷ jwa.Enc jwe_enc.Aes192Gcm ∷ jwa.Enc jwe_enc.Aes256Gcm ∷ jwa.CEKAlg jwe_alg.RsaPkcs1v15 ∷ jwa.CEKAlg jwe_alg.RsaOaep ∷ jwa.CEKAlg jwe_alg.RsaOaep256 ∷ jwa.CEKAlg jwe_alg.AesKeyWrap128 ∷ jwa.CEKAlg jwe_alg.AesKeyWrap192 ∷ jwa.CEKAlg jwe_alg.AesKeyWrap256 ∷ jwa.CEKAlg jwe_alg.Direct ∷ jwa.CEKAlg jwe_alg.EcdhEs ∷ jwa.CEKAlg jwe_alg.EcdhEsAesKeyWrap128 ∷ jwa.CEKAlg jwe_alg.EcdhEsAesKeyWrap192 ∷ jwa.CEKAlg jwe_alg.EcdhEsAesKeyWrap256 ∷ []

jwa_first : (a : Jwa) → first jwa_name (jwa_name a) every_jwa ≡ Some a
jwa_first (jwa.Sig alg.HS256) = refl
jwa_first (jwa.Sig alg.HS384) = refl
jwa_first (jwa.Sig alg.HS512) = refl
jwa_first (jwa.Sig alg.RS256) = refl
jwa_first (jwa.Sig alg.RS384) = refl
jwa_first (jwa.Sig alg.RS512) = refl
jwa_first (jwa.Sig alg.ES256) = refl
jwa_first (jwa.Sig alg.ES384) = refl
jwa_first (jwa.Sig alg.ES512) = refl
jwa_first (jwa.Sig alg.PS256) = refl
jwa_first (jwa.Sig alg.PS384) = refl
jwa_first (jwa.Sig alg.PS512) = refl
jwa_first (jwa.Sig alg.EdDSA) = refl
jwa_first (jwa.Sig alg.ED25519) = refl
jwa_first (jwa.Enc jwe_enc.Aes128CbcHmacSha256) = refl
jwa_first (jwa.Enc jwe_enc.Aes192CbcHmacSha384) = refl
jwa_first (jwa.Enc jwe_enc.Aes256CbcHmacSha512) = refl
jwa_first (jwa.Enc jwe_enc.Aes128Gcm) = refl
jwa_first (jwa.Enc jwe_enc.Aes192Gcm) = refl
jwa_first (jwa.Enc jwe_enc.Aes256Gcm) = refl
jwa_first (jwa.CEKAlg jwe_alg.RsaPkcs1v15) = refl
jwa_first (jwa.CEKAlg jwe_alg.RsaOaep) = refl
jwa_first (jwa.CEKAlg jwe_alg.RsaOaep256) = refl
jwa_first (jwa.CEKAlg jwe_alg.AesKeyWrap128) = refl
jwa_first (jwa.CEKAlg jwe_alg.AesKeyWrap192) = refl
jwa_first (jwa.CEKAlg jwe_alg.AesKeyWrap256) = refl
jwa_first (jwa.CEKAlg jwe_alg.Direct) = refl
jwa_first (jwa.CEKAlg jwe_alg.EcdhEs) = refl
jwa_first (jwa.CEKAlg jwe_alg.EcdhEsAesKeyWrap128) = refl
jwa_first (jwa.CEKAlg jwe_alg.EcdhEsAesKeyWrap192) = refl
jwa_first (jwa.CEKAlg jwe_alg.EcdhEsAesKeyWrap256) = refl

pub jwa_apart : (a b : Jwa) → jwa_name a ≡ jwa_name b → b ≡ a
jwa_apart a b e = apart jwa_name every_jwa jwa_first a b e

pub jwa_once : (d : Data) (a b : Jwa) → IsJwa d a → IsJwa d b → b ≡ a
jwa_once d a b h k = jwa_apart a b (same_text jwa_name d a b h k)

pub alg_once : (d : Data) (a b : JwsAlg) → IsAlg d a → IsAlg d b → b ≡ a
alg_once d a b h k = let same : jwa.Sig b ≡ jwa.Sig a = jwa_once d (jwa.Sig a) (jwa.Sig b) h k in cc

pub enc_once : (d : Data) (a b : JweEnc) → IsEnc d a → IsEnc d b → b ≡ a
enc_once d a b h k = let same : jwa.Enc b ≡ jwa.Enc a = jwa_once d (jwa.Enc a) (jwa.Enc b) h k in cc

pub jwe_alg_once : (d : Data) (a b : JweAlg) → IsJweAlg d a → IsJweAlg d b → b ≡ a
jwe_alg_once d a b h k = let same : jwa.CEKAlg b ≡ jwa.CEKAlg a = jwa_once d (jwa.CEKAlg a) (jwa.CEKAlg b) h k in cc

abbrev every_curve : List JwkEcPublicKeyCurve
every_curve = curve.P256 ∷ curve.P384 ∷ curve.P521 ∷ []

curve_first : (a : JwkEcPublicKeyCurve) → first curve_name (curve_name a) every_curve ≡ Some a
curve_first curve.P256 = refl
curve_first curve.P384 = refl
curve_first curve.P521 = refl

pub curve_apart : (a b : JwkEcPublicKeyCurve) → curve_name a ≡ curve_name b → b ≡ a
curve_apart a b e = apart curve_name every_curve curve_first a b e

pub curve_once : (d : Data) (a b : JwkEcPublicKeyCurve) → IsCurve d a → IsCurve d b → b ≡ a
curve_once d a b h k = curve_apart a b (same_text curve_name d a b h k)

abbrev every_ed : List JwkEdPublicKeyAlgorithm
every_ed = edwards.Ed25519 ∷ edwards.Ed448 ∷ edwards.X25519 ∷ edwards.X448 ∷ []

ed_first : (a : JwkEdPublicKeyAlgorithm) → first ed_name (ed_name a) every_ed ≡ Some a
ed_first edwards.Ed25519 = refl
ed_first edwards.Ed448 = refl
ed_first edwards.X25519 = refl
ed_first edwards.X448 = refl

pub ed_apart : (a b : JwkEdPublicKeyAlgorithm) → ed_name a ≡ ed_name b → b ≡ a
ed_apart a b e = apart ed_name every_ed ed_first a b e

pub ed_once : (d : Data) (a b : JwkEdPublicKeyAlgorithm) → IsEdCurve d a → IsEdCurve d b → b ≡ a
ed_once d a b h k = ed_apart a b (same_text ed_name d a b h k)

abbrev every_use : List JwkPubKeyUse
every_use = key_use.Signature ∷ key_use.Encryption ∷ []

use_first : (a : JwkPubKeyUse) → first use_name (use_name a) every_use ≡ Some a
use_first key_use.Signature = refl
use_first key_use.Encryption = refl

pub use_apart : (a b : JwkPubKeyUse) → use_name a ≡ use_name b → b ≡ a
use_apart a b e = apart use_name every_use use_first a b e

pub use_once : (d : Data) (a b : JwkPubKeyUse) → IsUse d a → IsUse d b → b ≡ a
use_once d a b h k = use_apart a b (same_text use_name d a b h k)

abbrev every_ops : List JwkKeyOps
every_ops = key_ops.Sign ∷ key_ops.Verify ∷ key_ops.Encrypt ∷ key_ops.Decrypt ∷ key_ops.WrapKey ∷ key_ops.UnwrapKey ∷ key_ops.DeriveKey ∷ key_ops.DeriveBits ∷ []

ops_first : (a : JwkKeyOps) → first ops_name (ops_name a) every_ops ≡ Some a
ops_first key_ops.Sign = refl
ops_first key_ops.Verify = refl
ops_first key_ops.Encrypt = refl
ops_first key_ops.Decrypt = refl
ops_first key_ops.WrapKey = refl
ops_first key_ops.UnwrapKey = refl
ops_first key_ops.DeriveKey = refl
ops_first key_ops.DeriveBits = refl

pub ops_apart : (a b : JwkKeyOps) → ops_name a ≡ ops_name b → b ≡ a
ops_apart a b e = apart ops_name every_ops ops_first a b e

pub ops_once : (d : Data) (a b : JwkKeyOps) → IsOperation d a → IsOperation d b → b ≡ a
ops_once d a b h k = ops_apart a b (same_text ops_name d a b h k)

-- nothing has the name, where nothing of each kind has
pub jwa_none : (text : List ℕ) → ((a : JwsAlg) → ¬ (alg_name a ≡ text)) → ((a : JweEnc) → ¬ (enc_name a ≡ text)) → ((a : JweAlg) → ¬ (jwe_alg_name a ≡ text)) → (a : Jwa) → ¬ (jwa_name a ≡ text)
jwa_none text sig enc cek (jwa.Sig a) e = sig a e
jwa_none text sig enc cek (jwa.Enc a) e = enc a e
jwa_none text sig enc cek (jwa.CEKAlg a) e = cek a e

-- what has the name is all that has
pub jwa_named : (text : List ℕ) (a : Jwa) → jwa_name a ≡ text → (b : Jwa) → jwa_name b ≡ text → b ≡ a
jwa_named text a h b k = jwa_apart a b (h ∙ sym k)
