-- A printed header text under a known algorithm tells what was printed, whether the algorithm has a name or not.
use Rattle.std.proofs.Common.{◌≡◌, ◌⊎◌, ℕ, Bool, true, false, IsTrue, refl, sym, ap, subst, inl, inr, Option, Some, None, IfSome, codes, List}
use Rattle.std.proofs.lemmas.Bool.{false≢true}
use Rattle.picky_key.specs.declared.algorithm.HashAlgorithm.{HashAlgorithm}
use Rattle.picky_key.specs.declared.algorithm.HashAlgorithm.TheVariants as hash
use Rattle.picky_key.specs.declared.algorithm.SignatureAlgorithm.{SignatureAlgorithm}
use Rattle.picky_key.specs.declared.algorithm.SignatureAlgorithm.TheVariants.{RsaPkcs1v15, Ecdsa, Ed25519}
use Rattle.picky_http.specs.Algorithms.{Algorithm, known, custom, algorithm_named, algorithm_name, algorithm_text}
use Rattle.picky_http.specs.Printing.{quoted, quoted_algorithm, printed, IsBare, IsPlainAlgorithm, IsPrintable, told_algorithm, as_told, IsTellable}
use Rattle.picky_http.specs.Reading.{Reading, HeaderReading}
use Rattle.picky_http.specs.laws.Bare.{passes_from, is_line_byte, shows, bare_line}
use Rattle.picky_http.specs.laws.Printing.{printed_back}

abbrev unnamed : List ℕ
unnamed = codes "ECDSA unsupported algorithm"

unnamed_bare : IsBare unnamed
unnamed_bare = bare_line unnamed (passes_from is_line_byte unnamed refl) (record {
  first = 69;
  more = codes "CDSA unsupported algorithm";
  begins = refl;
  first_shows = shows 69 refl;
  front = codes "ECDSA unsupported algorith";
  last = 109;
  ends = refl;
  last_shows = shows 109 refl;
})

-- the text of an algorithm names it, or names none; read again it is the same text
record IsToldBy (text : List ℕ) : Type 0 where
  plain : IsPlainAlgorithm (algorithm_named text)
  same : algorithm_text (algorithm_named text) ≡ text

unnamed_told : IsToldBy unnamed
unnamed_told = record { plain = (unnamed_bare, refl); same = refl }

rsa_told : (h : HashAlgorithm) → IsToldBy (algorithm_name (RsaPkcs1v15 h))
rsa_told hash.MD5 = record { plain = (codes "rsa-md5", refl); same = refl }
rsa_told hash.SHA1 = record { plain = (codes "rsa-sha1", refl); same = refl }
rsa_told hash.SHA2_224 = record { plain = (codes "rsa-sha224", refl); same = refl }
rsa_told hash.SHA2_256 = record { plain = (codes "rsa-sha256", refl); same = refl }
rsa_told hash.SHA2_384 = record { plain = (codes "rsa-sha384", refl); same = refl }
rsa_told hash.SHA2_512 = record { plain = (codes "rsa-sha512", refl); same = refl }
rsa_told hash.SHA3_384 = record { plain = (codes "rsa-sha3-384", refl); same = refl }
rsa_told hash.SHA3_512 = record { plain = (codes "rsa-sha3-512", refl); same = refl }

ecdsa_told : (h : HashAlgorithm) → IsToldBy (algorithm_name (Ecdsa h))
ecdsa_told hash.MD5 = unnamed_told
ecdsa_told hash.SHA1 = unnamed_told
ecdsa_told hash.SHA2_224 = unnamed_told
ecdsa_told hash.SHA2_256 = record { plain = (codes "ecdsa-sha256", refl); same = refl }
ecdsa_told hash.SHA2_384 = record { plain = (codes "ecdsa-sha384", refl); same = refl }
ecdsa_told hash.SHA2_512 = unnamed_told
ecdsa_told hash.SHA3_384 = unnamed_told
ecdsa_told hash.SHA3_512 = unnamed_told

told_by : (a : SignatureAlgorithm) → IsToldBy (algorithm_name a)
told_by (RsaPkcs1v15 h) = rsa_told h
told_by (Ecdsa h) = ecdsa_told h
told_by Ed25519 = record { plain = (codes "ed25519-sha512", refl); same = refl }

told_quoted : (legacy : Bool) (a : SignatureAlgorithm) → quoted_algorithm legacy (Some (known a)) ≡ quoted_algorithm legacy (told_algorithm legacy (Some (known a)))
told_quoted true a = refl
told_quoted false a = ap (λ t. Some (quoted false t)) (sym (told_by a).same)

told_plain : (legacy : Bool) (a : SignatureAlgorithm) → IfSome (told_algorithm legacy (Some (known a))) IsPlainAlgorithm
told_plain true a = tt
told_plain false a = (told_by a).plain

told_flag : (legacy : Bool) (a : Option Algorithm) → IsTrue legacy → told_algorithm legacy a ≡ None
told_flag true a h = refl
told_flag false a h = absurd (false≢true h)

told_printed : (r : Reading) (a : SignatureAlgorithm) → r.algorithm ≡ Some (known a) → printed r ≡ printed (as_told r)
unfolding printed
told_printed r a e =
    let q : quoted_algorithm r.legacy r.algorithm ≡ quoted_algorithm r.legacy (told_algorithm r.legacy r.algorithm) =
    subst (λ (x : Option Algorithm). quoted_algorithm r.legacy x ≡ quoted_algorithm r.legacy (told_algorithm r.legacy x)) (sym e) (told_quoted r.legacy a) in
    rw q refl

told_printable : (r : Reading) (a : SignatureAlgorithm) → IsTellable r a → IsPrintable (as_told r)
told_printable r a t = record {
  key_id = t.key_id;
  some = t.some;
  parts = t.parts;
  created = t.created;
  expires = t.expires;
  signature = t.signature;
  algorithm = subst (λ (x : Option Algorithm). IfSome (told_algorithm r.legacy x) IsPlainAlgorithm) (sym t.algorithm) (told_plain r.legacy a);
  flag = told_flag r.legacy r.algorithm;
}

-- what is printed under a known algorithm is told by its text
pub told_back : (r : Reading) (a : SignatureAlgorithm) → IsTellable r a → HeaderReading (printed r) (as_told r)
told_back r a t = rw (told_printed r a t.algorithm) (printed_back (as_told r) (told_printable r a t))

-- the text of an algorithm names that one, or is a text of its own
pub told_is : (a : SignatureAlgorithm) → (algorithm_named (algorithm_name a) ≡ known a) ⊎ (algorithm_named (algorithm_name a) ≡ custom (algorithm_name a))
told_is (RsaPkcs1v15 hash.MD5) = inl refl
told_is (RsaPkcs1v15 hash.SHA1) = inl refl
told_is (RsaPkcs1v15 hash.SHA2_224) = inl refl
told_is (RsaPkcs1v15 hash.SHA2_256) = inl refl
told_is (RsaPkcs1v15 hash.SHA2_384) = inl refl
told_is (RsaPkcs1v15 hash.SHA2_512) = inl refl
told_is (RsaPkcs1v15 hash.SHA3_384) = inl refl
told_is (RsaPkcs1v15 hash.SHA3_512) = inl refl
told_is (Ecdsa hash.MD5) = inr refl
told_is (Ecdsa hash.SHA1) = inr refl
told_is (Ecdsa hash.SHA2_224) = inr refl
told_is (Ecdsa hash.SHA2_256) = inl refl
told_is (Ecdsa hash.SHA2_384) = inl refl
told_is (Ecdsa hash.SHA2_512) = inr refl
told_is (Ecdsa hash.SHA3_384) = inr refl
told_is (Ecdsa hash.SHA3_512) = inr refl
told_is Ed25519 = inl refl
