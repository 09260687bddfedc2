-- The algorithm of a key that names none is of its family.
use Rattle.std.proofs.Common.{◌≡◌, ℕ, List, Some, refl, sym}
use Rattle.std.specs.Prelude.{IsTrue}
use Rattle.picky_key_der.specs.declared.public.PublicKeyKind.{PublicKeyKind}
use Rattle.picky_key.specs.declared.algorithm.SignatureAlgorithm.{SignatureAlgorithm}
use Rattle.picky_key.specs.declared.algorithm.SignatureAlgorithm.TheVariants.{RsaPkcs1v15, Ecdsa, Ed25519}
use Rattle.picky_key.specs.declared.algorithm.HashAlgorithm.TheVariants.{SHA2_256}
use Rattle.picky_key.specs.Family.{is_of_family}
use Rattle.picky_jwk_names.specs.declared.edwards.JwkEdPublicKeyAlgorithm.{JwkEdPublicKeyAlgorithm}
use Rattle.picky_jwk_names.specs.declared.edwards.JwkEdPublicKeyAlgorithm.TheVariants as edwards
use Rattle.picky_jwk_key.specs.Keys.{Key, rsa, ec, ed, oct}
use Rattle.picky_jwk_key.specs.Public.{KeyOfJwk, IsNamedKey}
use Rattle.picky_ring.specs.Algorithms.{default_of, edwards_default, hash_of}

-- what a given default is, where one is given
unwrapped : (a b : SignatureAlgorithm) → Some a ≡ Some b → a ≡ b
unwrapped a b e = cc

edwards_fits : (crv : JwkEdPublicKeyAlgorithm) (text : List ℕ) (p : PublicKeyKind) (a : SignatureAlgorithm) → IsNamedKey crv text p → edwards_default crv ≡ Some a → IsTrue (is_of_family a p)
edwards_fits edwards.Ed25519 text p a h e = rw (h.is, sym (unwrapped Ed25519 a e)) refl
edwards_fits edwards.Ed448 text p a h e = absurd h
edwards_fits edwards.X25519 text p a h e = absurd cc
edwards_fits edwards.X448 text p a h e = absurd h

pub default_fits : (k : Key) (p : PublicKeyKind) (a : SignatureAlgorithm) → KeyOfJwk k p → default_of k ≡ Some a → IsTrue (is_of_family a p)
default_fits (rsa k) p a h e = rw (h.is, sym (unwrapped (RsaPkcs1v15 SHA2_256) a e)) refl
default_fits (ec k) p a h e = rw (h.is.1, sym (unwrapped (Ecdsa (hash_of k.crv)) a e)) refl
default_fits (ed k) p a h e = edwards_fits k.crv k.x p a h e
default_fits oct p a h e = absurd h
