-- The laws of bags, at each number of levels.
use Rattle.std.proofs.Common.{◌≡◌, ◌≢◌, ℕ, zero, suc, ◌-◌, ◌<◌, false, List, [], ◌∷◌, ◌++◌, Result, Ok, Err, refl, sym, ap, ◌∙◌, arith, inl, inr}
use Rattle.picky_der.specs.declared.fault.DerError.{DerError}
use Rattle.picky_der.specs.declared.fault.DerError.TheVariants.{Truncated}
use Rattle.picky_der.specs.Reading.{tag_at}
use Rattle.picky_der.specs.Form.{Form}
use Rattle.picky_fields.specs.Fields.{identifier, sequence}
use Rattle.picky_fields.specs.laws.Fields.{Lawful, LawfulFields, one_lawful, and_lawful, one_to_one, seen_lawful, sequence_lawful, explicit_lawful}
use Rattle.picky_fields.specs.laws.Optional.{optional_lawful}
use Rattle.picky_fields.specs.laws.Plain.{identifier_lawful, raw_lawful}
use Rattle.picky_fields.specs.laws.Choice.{LawfulCases, case_lawful, otherwise_lawful, told_lawful}
use Rattle.picky_asn1_wrapper.specs.laws.Lists.{list_readable, list_writable}
use Rattle.picky_x509_algorithms.specs.declared.known_identifier.KnownIdentifier.TheVariants as known
use Rattle.picky_x509_algorithms.specs.laws.Identifiers.{tells}
use Rattle.picky_x509_bags.specs.Certificate.{certificate_lawful}
use Rattle.picky_x509_bags.specs.EncryptedKey.{encrypted_key_lawful}
use Rattle.picky_x509_bags.specs.Secret.{secret_lawful}
use Rattle.picky_x509_bags.specs.laws.Attribute.{attributes_lawful}
use Rattle.picky_x509_safe_bags.specs.declared.safe_bag.SafeBag.{SafeBag}
use Rattle.picky_x509_safe_bags.specs.declared.safe_bag.SafeBagKind.{SafeBagKind, out-SafeBagKind, roll-SafeBagKind, roll-out-SafeBagKind}
use Rattle.picky_x509_safe_bags.specs.declared.safe_bag.SafeBagKind.TheVariants.{outs-Key, outs-EncryptedKey, outs-Certificate, outs-Crl, outs-Secret, outs-SafeContents, outs-Unknown, rolls-Key, rolls-EncryptedKey, rolls-Certificate, rolls-Crl, rolls-Secret, rolls-SafeContents, rolls-Unknown}
use Rattle.picky_x509_safe_bags.specs.declared.safe_bag.SafeBagKind.TheOpen.{SafeBagKind-F}
use Rattle.picky_x509_safe_bags.specs.Kind.{other_cases, HeldValue, kind_of, held_in, held, bag_list, held_cases}
use Rattle.picky_x509_safe_bags.specs.Bag.{kind_field, bag_of, bag_parts, bag_fields, no_bag_at, no_bag, bag_within}

-- ---- what a bag holds, seen one to one

layer_back : (l : SafeBagKind-F SafeBagKind SafeBag) → kind_of (held_in l) ≡ roll-SafeBagKind l
layer_back (SafeBagKind-F.Key key) = sym (rolls-Key key)
layer_back (SafeBagKind-F.EncryptedKey bag) = sym (rolls-EncryptedKey bag)
layer_back (SafeBagKind-F.Certificate bag) = sym (rolls-Certificate bag)
layer_back (SafeBagKind-F.Crl crl) = sym (rolls-Crl crl)
layer_back (SafeBagKind-F.Secret bag) = sym (rolls-Secret bag)
layer_back (SafeBagKind-F.SafeContents bags) = sym (rolls-SafeContents bags)
layer_back (SafeBagKind-F.Unknown id value) = sym (rolls-Unknown id value)

pub held_back : (x : HeldValue) → held (kind_of x) ≡ x
held_back (inl bags) = ap held_in (outs-SafeContents bags)
held_back (inr (inl key)) = ap held_in (outs-Key key)
held_back (inr (inr (inl bag))) = ap held_in (outs-EncryptedKey bag)
held_back (inr (inr (inr (inl bag)))) = ap held_in (outs-Certificate bag)
held_back (inr (inr (inr (inr (inl crl))))) = ap held_in (outs-Crl crl)
held_back (inr (inr (inr (inr (inr (inl bag)))))) = ap held_in (outs-Secret bag)
held_back (inr (inr (inr (inr (inr (inr p)))))) = ap held_in (outs-Unknown p.0 p.1)

kind_back : (k : SafeBagKind) → kind_of (held k) ≡ k
kind_back k = layer_back (out-SafeBagKind k) ∙ roll-out-SafeBagKind k

-- ---- one level above another

other_cases_lawful : LawfulCases identifier other_cases
unfolding other_cases
other_cases_lawful =
    let any = one_lawful (explicit_lawful 0 (omega arith) raw_lawful) in
    let key = one_lawful (explicit_lawful 0 (omega arith) encrypted_key_lawful) in
    let cert = one_lawful (explicit_lawful 0 (omega arith) certificate_lawful) in
    let hidden = one_lawful (explicit_lawful 0 (omega arith) secret_lawful) in
    case_lawful (tells known.KeyBag) any (case_lawful (tells known.Pkcs8ShroudedKeyBag) key (case_lawful (tells known.CertBag) cert (case_lawful (tells known.CrlBag) any (case_lawful (tells known.SecretBag) hidden (otherwise_lawful any)))))

pub bags_lawful : (inner : Form SafeBag) → Lawful inner → Lawful (bag_list inner)
bags_lawful inner law = record { readable = list_readable inner law.readable (record { 0 = 48 }); writable = list_writable inner law.writable (record { 0 = 48 }) (λ h. absurd (omega arith)) }

held_cases_lawful : (inner : Form SafeBag) → Lawful inner → LawfulCases identifier (held_cases inner)
unfolding held_cases
held_cases_lawful inner law = case_lawful (tells known.SafeContentsBag) (one_lawful (explicit_lawful 0 (omega arith) (bags_lawful inner law))) other_cases_lawful

kind_field_lawful : (inner : Form SafeBag) → Lawful inner → LawfulFields (kind_field inner)
unfolding kind_field
kind_field_lawful inner law = seen_lawful (one_to_one {to = kind_of} {from = held} kind_back held_back) (told_lawful identifier_lawful (held_cases_lawful inner law))

kind_takes_no_more : (inner : Form SafeBag) (b : ℕ) → (kind_field inner).takes_more b ≡ false
unfolding kind_field held_cases other_cases
kind_takes_no_more inner b = refl

fields_lawful : (inner : Form SafeBag) → Lawful inner → LawfulFields (bag_fields inner)
unfolding bag_fields
fields_lawful inner law =
    seen_lawful (one_to_one {to = bag_of} {from = bag_parts} (λ _. refl) (λ _. refl)) (and_lawful (λ b _. kind_takes_no_more inner b) (kind_field_lawful inner law) (optional_lawful attributes_lawful))

-- ---- no levels

abbrev bad : DerError → Result (SafeBag × List ℕ) DerError
bad e = Err e

fault_is : (d e : DerError) → bad d ≡ bad e → d ≡ e
fault_is d e h = cc

module _ (deep : DerError) where
  no_bag_ok : {Z : Type 0} (bytes : List ℕ) (x : SafeBag) (rest : List ℕ) → no_bag_at deep bytes ≡ Ok (x, rest) → Z
  unfolding no_bag_at tag_at
  no_bag_ok [] x rest e = absurd cc
  no_bag_ok (b ∷ bs) x rest e = absurd cc

  no_bag_stays : (bytes more : List ℕ) (e : DerError) → e ≢ Truncated → no_bag_at deep bytes ≡ Err e → no_bag_at deep (bytes ++ more) ≡ Err e
  unfolding no_bag_at tag_at
  no_bag_stays [] more e other h = absurd (other (sym (fault_is Truncated e h)))
  no_bag_stays (b ∷ bs) more e other h = h

  no_bag_lawful : Lawful (no_bag deep)
  no_bag_lawful = record {
    readable = record {
      one_value = λ s x h p. absurd h;
      prefix_free = λ x y s t a b h i p q e. absurd h;
      takes = λ depth bytes x rest fits e. no_bag_ok bytes x rest e;
      again = λ depth s rest x h p. absurd h;
      shorter = λ depth bytes x rest e. no_bag_ok bytes x rest e;
      first = λ s x h p. absurd h;
      cut = λ depth front back x h p some. absurd h;
      stays = λ depth bytes more e other h. no_bag_stays bytes more e other h;
    };
    writable = record {
      encodes = λ s x h p. absurd h;
      written = λ s x p. absurd p;
      is_encoding = λ s x p. absurd p;
      has_encoding = λ x h fits. absurd h;
      not_refused = λ s x p r. absurd p;
      accepted = λ x h r. absurd h;
    };
  }

  -- ---- so many levels

  pub within_lawful : (levels : ℕ) → Lawful (bag_within deep levels)
  unfolding bag_within
  within_lawful zero = no_bag_lawful
  within_lawful (suc levels) = sequence_lawful (fields_lawful (bag_within deep levels) (within_lawful levels))

-- ---- one level less

pub within_none : (deep : DerError) (levels depth : ℕ) (bytes : List ℕ) → levels ≡ 0 → (bag_within deep levels).reading depth bytes ≡ no_bag_at deep bytes
unfolding bag_within
within_none deep zero depth bytes h = refl
within_none deep (suc n) depth bytes h = absurd (omega arith)

pub within_above : (deep : DerError) (levels depth : ℕ) (bytes : List ℕ) → 0 < levels → (bag_within deep levels).reading depth bytes ≡ (sequence (bag_fields (bag_within deep (levels - 1)))).reading depth bytes
unfolding bag_within
within_above deep zero depth bytes h = absurd (omega arith)
within_above deep (suc n) depth bytes h = let e : suc n - 1 ≡ n = omega arith in rw e refl
