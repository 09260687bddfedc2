-- Sizes of content encryption in bytes (RFC 7518 sections 5.2 and 5.3). Of the CBC kinds, which nothing here serves, these are the sizes of the AES key, of its block and of the whole HMAC.
use Rattle.std.specs.Prelude.{ℕ}
use Rattle.picky_jwk_names.specs.declared.jwe_enc.JweEnc.{JweEnc}
use Rattle.picky_jwk_names.specs.declared.jwe_enc.JweEnc.TheVariants.{Aes128CbcHmacSha256, Aes192CbcHmacSha384, Aes256CbcHmacSha512, Aes128Gcm, Aes192Gcm, Aes256Gcm}

abbrev pub key_size : JweEnc → ℕ
key_size Aes128CbcHmacSha256 = 16
key_size Aes192CbcHmacSha384 = 24
key_size Aes256CbcHmacSha512 = 32
key_size Aes128Gcm = 16
key_size Aes192Gcm = 24
key_size Aes256Gcm = 32

abbrev pub nonce_size : JweEnc → ℕ
nonce_size Aes128CbcHmacSha256 = 16
nonce_size Aes192CbcHmacSha384 = 16
nonce_size Aes256CbcHmacSha512 = 16
nonce_size Aes128Gcm = 12
nonce_size Aes192Gcm = 12
nonce_size Aes256Gcm = 12

abbrev pub tag_size : JweEnc → ℕ
tag_size Aes128CbcHmacSha256 = 32
tag_size Aes192CbcHmacSha384 = 48
tag_size Aes256CbcHmacSha512 = 64
tag_size Aes128Gcm = 16
tag_size Aes192Gcm = 16
tag_size Aes256Gcm = 16
