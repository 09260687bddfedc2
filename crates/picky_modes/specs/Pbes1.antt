-- The ciphers of PBES1 in PKCS #12 (RFC 7292, appendix C), with blocks of eight bytes.
use Rattle.std.specs.Prelude.{ℕ}
use Rattle.picky_modes.specs.declared.pbes1.Pbes1Kind.{Pbes1Kind}
use Rattle.picky_modes.specs.declared.pbes1.Pbes1Kind.TheVariants.{Rc2, Tdes}

-- the bytes of a key: 40 bits for RC2, three keys of 64 bits with their parity for Triple DES
abbrev pub key_size : Pbes1Kind → ℕ
key_size Rc2 = 5
key_size Tdes = 24
