-- What the next tag says of the bytes that are left.
use Rattle.std.proofs.Common.{◌≡◌, ℕ, Bool, false, List, [], ◌∷◌, Ok, Err, refl, sym, ap}
use Rattle.picky_der.specs.declared.fault.DerError.{DerError}
use Rattle.picky_der.specs.Reading.{tag_at}
use Rattle.picky_der.specs.laws.Steps.{ok_is}
use Rattle.picky_fields.specs.Fields.{stands_next}

-- the next tag is this byte, so the test of what stands next is that of the byte
pub some_next : (test : ℕ → Bool) (bytes : List ℕ) (b : ℕ) → tag_at bytes ≡ Ok b → test b ≡ stands_next test bytes
unfolding tag_at
some_next test [] b e = absurd cc
some_next test (c ∷ bs) b e = ap test (sym (ok_is c b e))

-- there is no next tag, so nothing stands next
pub none_next : (test : ℕ → Bool) (bytes : List ℕ) (d : DerError) → tag_at bytes ≡ Err d → false ≡ stands_next test bytes
unfolding tag_at
none_next test [] d e = refl
none_next test (c ∷ bs) d e = absurd cc
