-- Names as they are written (RFC 7518 sections 3.1, 4.1, 5.1 and 6.2.1.1; RFC 8037 sections 2 and 3.1; RFC 7517 sections 4.2 and 4.3).
use Rattle.std.specs.Prelude.{◌≡◌, ℕ, List, codes}
use Rattle.serde_json.specs.Data.{Data, string}
use Rattle.picky_jwk_names.specs.declared.alg.JwsAlg.{JwsAlg}
use Rattle.picky_jwk_names.specs.declared.alg.JwsAlg.TheVariants as alg
use Rattle.picky_jwk_names.specs.declared.jwe_alg.JweAlg.{JweAlg}
use Rattle.picky_jwk_names.specs.declared.jwe_alg.JweAlg.TheVariants as jwe_alg
use Rattle.picky_jwk_names.specs.declared.jwe_enc.JweEnc.{JweEnc}
use Rattle.picky_jwk_names.specs.declared.jwe_enc.JweEnc.TheVariants as jwe_enc
use Rattle.picky_jwk_names.specs.declared.curve.JwkEcPublicKeyCurve.{JwkEcPublicKeyCurve}
use Rattle.picky_jwk_names.specs.declared.curve.JwkEcPublicKeyCurve.TheVariants as curve
use Rattle.picky_jwk_names.specs.declared.edwards.JwkEdPublicKeyAlgorithm.{JwkEdPublicKeyAlgorithm}
use Rattle.picky_jwk_names.specs.declared.edwards.JwkEdPublicKeyAlgorithm.TheVariants as edwards
use Rattle.picky_jwk_names.specs.declared.key_use.JwkPubKeyUse.{JwkPubKeyUse}
use Rattle.picky_jwk_names.specs.declared.key_use.JwkPubKeyUse.TheVariants as key_use
use Rattle.picky_jwk_names.specs.declared.key_ops.JwkKeyOps.{JwkKeyOps}
use Rattle.picky_jwk_names.specs.declared.key_ops.JwkKeyOps.TheVariants as key_ops
use Rattle.picky_jwk_names.specs.declared.jwa.Jwa.{Jwa}
use Rattle.picky_jwk_names.specs.declared.jwa.Jwa.TheVariants as jwa

abbrev pub alg_name : JwsAlg → List ℕ
alg_name alg.HS256 = codes "HS256"
alg_name alg.HS384 = codes "HS384"
alg_name alg.HS512 = codes "HS512"
alg_name alg.RS256 = codes "RS256"
alg_name alg.RS384 = codes "RS384"
alg_name alg.RS512 = codes "RS512"
alg_name alg.ES256 = codes "ES256"
alg_name alg.ES384 = codes "ES384"
alg_name alg.ES512 = codes "ES512"
alg_name alg.PS256 = codes "PS256"
alg_name alg.PS384 = codes "PS384"
alg_name alg.PS512 = codes "PS512"
alg_name alg.EdDSA = codes "EdDSA"
alg_name alg.ED25519 = codes "ED25519"

abbrev pub jwe_alg_name : JweAlg → List ℕ
jwe_alg_name jwe_alg.RsaPkcs1v15 = codes "RSA1_5"
jwe_alg_name jwe_alg.RsaOaep = codes "RSA-OAEP"
jwe_alg_name jwe_alg.RsaOaep256 = codes "RSA-OAEP-256"
jwe_alg_name jwe_alg.AesKeyWrap128 = codes "A128KW"
jwe_alg_name jwe_alg.AesKeyWrap192 = codes "A192KW"
jwe_alg_name jwe_alg.AesKeyWrap256 = codes "A256KW"
jwe_alg_name jwe_alg.Direct = codes "dir"
jwe_alg_name jwe_alg.EcdhEs = codes "ECDH-ES"
jwe_alg_name jwe_alg.EcdhEsAesKeyWrap128 = codes "ECDH-ES+A128KW"
jwe_alg_name jwe_alg.EcdhEsAesKeyWrap192 = codes "ECDH-ES+A192KW"
jwe_alg_name jwe_alg.EcdhEsAesKeyWrap256 = codes "ECDH-ES+A256KW"

abbrev pub enc_name : JweEnc → List ℕ
enc_name jwe_enc.Aes128CbcHmacSha256 = codes "A128CBC-HS256"
enc_name jwe_enc.Aes192CbcHmacSha384 = codes "A192CBC-HS384"
enc_name jwe_enc.Aes256CbcHmacSha512 = codes "A256CBC-HS512"
enc_name jwe_enc.Aes128Gcm = codes "A128GCM"
enc_name jwe_enc.Aes192Gcm = codes "A192GCM"
enc_name jwe_enc.Aes256Gcm = codes "A256GCM"

abbrev pub curve_name : JwkEcPublicKeyCurve → List ℕ
curve_name curve.P256 = codes "P-256"
curve_name curve.P384 = codes "P-384"
curve_name curve.P521 = codes "P-521"

abbrev pub ed_name : JwkEdPublicKeyAlgorithm → List ℕ
ed_name edwards.Ed25519 = codes "Ed25519"
ed_name edwards.Ed448 = codes "Ed448"
ed_name edwards.X25519 = codes "X25519"
ed_name edwards.X448 = codes "X448"

abbrev pub use_name : JwkPubKeyUse → List ℕ
use_name key_use.Signature = codes "sig"
use_name key_use.Encryption = codes "enc"

abbrev pub ops_name : JwkKeyOps → List ℕ
ops_name key_ops.Sign = codes "sign"
ops_name key_ops.Verify = codes "verify"
ops_name key_ops.Encrypt = codes "encrypt"
ops_name key_ops.Decrypt = codes "decrypt"
ops_name key_ops.WrapKey = codes "wrapKey"
ops_name key_ops.UnwrapKey = codes "unwrapKey"
ops_name key_ops.DeriveKey = codes "deriveKey"
ops_name key_ops.DeriveBits = codes "deriveBits"

-- a name of any kind of algorithm
abbrev pub jwa_name : Jwa → List ℕ
jwa_name (jwa.Sig a) = alg_name a
jwa_name (jwa.Enc a) = enc_name a
jwa_name (jwa.CEKAlg a) = jwe_alg_name a

-- ---- trees that are such a name

abbrev pub IsAlg : Data → JwsAlg → Type 0
IsAlg d a = d ≡ string (alg_name a)

abbrev pub IsJweAlg : Data → JweAlg → Type 0
IsJweAlg d a = d ≡ string (jwe_alg_name a)

abbrev pub IsEnc : Data → JweEnc → Type 0
IsEnc d a = d ≡ string (enc_name a)

abbrev pub IsCurve : Data → JwkEcPublicKeyCurve → Type 0
IsCurve d a = d ≡ string (curve_name a)

abbrev pub IsEdCurve : Data → JwkEdPublicKeyAlgorithm → Type 0
IsEdCurve d a = d ≡ string (ed_name a)

abbrev pub IsUse : Data → JwkPubKeyUse → Type 0
IsUse d a = d ≡ string (use_name a)

abbrev pub IsOperation : Data → JwkKeyOps → Type 0
IsOperation d a = d ≡ string (ops_name a)

abbrev pub IsJwa : Data → Jwa → Type 0
IsJwa d a = d ≡ string (jwa_name a)
