-- A text that a seed made, over its own record.
use Rattle.std.proofs.Common.{◌≡◌, ◌↔◌, ℕ, List, Bool, true, false, None, IfSome, IfOk, Result, IsTrue, refl, sym, subst, ◌∙◌}
use Rattle.std.specs.declared.alloc.AllocError.{AllocError}
use Rattle.picky_key.specs.Signatures.{Relation}
use Rattle.picky_http.specs.Lines.{Request}
use Rattle.picky_records.specs.declared.error.RecordFault.{RecordFault}
use Rattle.picky_records.specs.declared.error.RecordFault.TheVariants as fault
use Rattle.picky_records.specs.declared.line.Line.{Line}
use Rattle.picky_records.specs.Meanings.{signs_by}
use Rattle.picky_records.specs.Reading.{records_table}
use Rattle.picky_records.specs.Reading as records
use Rattle.picky_records.specs.laws.Exact.{records_exact}
use Rattle.picky_records.specs.laws.Records.{records_are, records_hold}
use Rattle.picky_ring.specs.declared.ring.RingEntry.{RingEntry}
use Rattle.picky_ring.specs.TextMap.{TextMap}
use Rattle.picky_generate.specs.Texts.{text, record_line}
use Rattle.picky_gate.specs.declared.admission.Refusal.{Refusal}
use Rattle.picky_gate.specs.declared.admission.Refusal.TheVariants as refusal
use Rattle.picky_gate.specs.declared.policy.Policy.{Policy}
use Rattle.picky_gate.specs.Admissible.{Admission, Admissible}
use Rattle.picky_gate.specs.Generated.{eight_keys, at_zero, IsGoodWith, IsGood}
use Rattle.picky_gate.specs.Refusals.{cause_of}
use Rattle.picky_gate.specs.Request.{asked_of}

-- what isn't want of memory has a cause
pub no_cause : (e : Refusal) → ¬ (e ≡ refusal.OutOfMemory) → ¬ (cause_of e ≡ None)
no_cause refusal.NoScheme some none = cc
no_cause refusal.NoKey some none = cc
no_cause (refusal.Http error) some none = cc
no_cause (refusal.Token error) some none = cc
no_cause refusal.OutOfMemory some none = some refl
no_cause refusal.Unbuilt some none = cc

pub no_fault : (e : RecordFault) → ¬ (e ≡ fault.OutOfMemory) → ¬ (records.fault e ≡ None)
no_fault (fault.BadLine n) some none = cc
no_fault (fault.Family n) some none = cc
no_fault (fault.Conflict n) some none = cc
no_fault fault.OutOfMemory some none = some refl

-- what is false isn't true
never : {X : Type 0} (holds : Bool) → holds ≡ false → IsTrue holds → X
never holds isnt so = let both : true ≡ false = sym so ∙ isnt in absurd cc

module _ (signs : Relation) (ring : TextMap RingEntry) (asked : Request) (t : List ℕ) (p : Policy) (is : p ≡ at_zero) where
  abbrev Some_of : Policy → Admission → Type 0
  Some_of q a = Admissible signs ring q asked t a

  -- a text that is admitted
  pub admitted_text : (a : Admission) → Some_of p a → IsTrue true ↔ ((b : Admission) × Some_of at_zero b)
  admitted_text a h = ((λ _. (a, subst (λ (q : Policy). Some_of q a) is h)), (λ _. refl))

  -- a text that is refused, not for want of memory
  pub refused_text : (e : Refusal) (holds : Bool) → (holds ≡ false) × ¬ (cause_of e ≡ None) → ((a : Admission) → Some_of p a → cause_of e ≡ None) → IsTrue holds ↔ ((b : Admission) × Some_of at_zero b)
  refused_text e holds isnt every = ((λ so. never holds isnt.0 so), (λ x. absurd (isnt.1 (every x.0 (subst (λ (q : Policy). Some_of q x.0) (sym is) x.1)))))

module _ (document t : List ℕ) where
  -- a text is good with a document that was read where it is admitted over its lines
  pub good_text : (ring : TextMap RingEntry) (lines : List Line) (holds : Bool) → ring ≡ eight_keys → (records_table document).gives lines
      → (IsTrue holds ↔ ((a : Admission) × Admissible (signs_by lines) ring at_zero (asked_of None) t a)) → IsTrue holds ↔ IsGoodWith document t
  good_text ring lines holds is_ring gives told = (
    (λ so. record {
      records = lines;
      are_records = records_are document lines ((records_exact document).holds lines gives);
      admission = (told.0 so).0;
      admissible = subst (λ (r : TextMap RingEntry). Admissible (signs_by lines) r at_zero (asked_of None) t (told.0 so).0) is_ring (told.0 so).1;
    }),
    (λ good.
        let same : good.records ≡ lines = (records_exact document).one lines good.records gives (records_hold document good.records good.are_records) in
        let its = subst (λ (ls : List Line). Admissible (signs_by ls) eight_keys at_zero (asked_of None) t good.admission) same good.admissible in
        told.1 (good.admission, subst (λ (r : TextMap RingEntry). Admissible (signs_by lines) r at_zero (asked_of None) t good.admission) (sym is_ring) its)),
  )

  unread : (e : RecordFault) → ¬ (records.fault e ≡ None) → IfSome (records.fault e) (records_table document).refuses → ¬ (IsGoodWith document t)
  unread (fault.BadLine n) some due good = (records_exact document).apart (fault.BadLine n) good.records due (records_hold document good.records good.are_records)
  unread (fault.Family n) some due good = (records_exact document).apart (fault.Family n) good.records due (records_hold document good.records good.are_records)
  unread (fault.Conflict n) some due good = (records_exact document).apart (fault.Conflict n) good.records due (records_hold document good.records good.are_records)
  unread fault.OutOfMemory some due good = some refl

  -- no text is good with a document that isn't read, not for want of memory
  pub bad_record : (e : RecordFault) (holds : Bool) → (holds ≡ false) × ¬ (records.fault e ≡ None) → IfSome (records.fault e) (records_table document).refuses → IsTrue holds ↔ IsGoodWith document t
  bad_record e holds isnt due = ((λ so. never holds isnt.0 so), (λ good. absurd (unread e isnt.1 due good)))

-- a text and its own record
pub good_of : (w i : ℕ) (line t : List ℕ) (r : Result Bool AllocError) → line ≡ record_line w i → t ≡ text w i → IfOk r (λ good. IsTrue good ↔ IsGoodWith line t) → IfOk r (λ good. IsTrue good ↔ IsGood w i)
unfolding IsGood
good_of w i line t r is_line is_text told =
    subst (λ (d : List ℕ). IfOk r (λ good. IsTrue good ↔ IsGoodWith d (text w i))) is_line
    (subst (λ (u : List ℕ). IfOk r (λ good. IsTrue good ↔ IsGoodWith line u)) is_text told)
