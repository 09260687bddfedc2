-- What the program says is what the decision says of the documents that the cabinet tells.
use Rattle.std.proofs.Common.{◌≡◌, inl, inr, ◌≤◌, ◌<◌, ◌+◌, ◌⊎◌, ℕ, List, [], ◌∷◌, take, length, codes, Option, Some, None, refl, ap, ◌∙◌, sym, subst, arith}
use Rattle.picky_contract.specs.laws.Tables.{Leads}
use Rattle.picky_gate.specs.declared.documents.Document.{Document}
use Rattle.picky_gate.specs.declared.documents.Document.TheVariants.{Keys, Records, Request}
use Rattle.picky_gate.specs.declared.documents.Documents.{Documents}
use Rattle.picky_gate.specs.Admissible.{Admission}
use Rattle.picky_gate.specs.declared.asked.Checks.{Checks}
use Rattle.picky_gate.specs.declared.asked.Checks.TheVariants.{Strict, Lenient, NoChecks}
use Rattle.picky_gate.specs.Command.{Text, Admit, IsAdmit, IsItself, IsNumber, IsChecks, StandsAtMostOnce, Generate, IsGenerate, AreTwo, Command, admit, generate, IsCommand}
use Rattle.picky_gate.specs.Documents.{limit, decision, IsAdmissible}
use Rattle.picky_gate.specs.Faults.{Why, bad, refused}
use Rattle.picky_gate.specs.Generated.{Counts}
use Rattle.picky_gate.specs.Headline.{Tells, TellsIf, IsTaken, Says}
use Rattle.picky_gate.specs.Lines.{admitted_text, generated_text, why_status, why_text}
use Rattle.picky_gate.specs.Outcome.{Outcome}
use Rattle.picky_outside.specs.Outside.{IsFetched, Adds}
use Rattle.picky_gate.specs.Reply.{IsFetchedIf, Reply, usage, unread, admitted, failed, generated, ComesTo, IsAnswer, IsReply, reply_text, reply_status, Delivers, AskedSome, Replies, IsSuccess}
use Rattle.picky_gate.specs.Run.{Run, FetchFailed, WriteFailed, Asked, Wrote, paths_of, paths_to}
use Rattle.picky_gate.proofs.Fetching.{all_paths}
use Rattle.picky_gate.proofs.Counting.{counts_once}
use Rattle.picky_gate.proofs.Deciding.{decision_exact, to_words, from_words, IsCut, fetched_leads}

-- a flag that stands at most once has one number at most
one_number : (most last : ℕ) (flag : Text) (words : List Text) (m n : Option ℕ) → StandsAtMostOnce (IsNumber most last) flag words m → StandsAtMostOnce (IsNumber most last) flag words n → n ≡ m
one_number most last flag words None None h k = refl
one_number most last flag words None (Some n) h k = let no : [] ≡ k.0 ∷ [] = sym h ∙ k.1 in absurd cc
one_number most last flag words (Some m) None h k = let no : [] ≡ h.0 ∷ [] = sym k ∙ h.1 in absurd cc
one_number most last flag words (Some m) (Some n) h k =
    let texts : k.0 ≡ h.0 = cc (h.1, k.1) in
    let same : n ≡ m = cc (texts, h.2.value, k.2.value) in
    ap Some same

one_path : (flag : Text) (words : List Text) (m n : Option Text) → StandsAtMostOnce IsItself flag words m → StandsAtMostOnce IsItself flag words n → n ≡ m
one_path flag words None None h k = refl
one_path flag words None (Some n) h k = let no : [] ≡ k.0 ∷ [] = sym h ∙ k.1 in absurd cc
one_path flag words (Some m) None h k = let no : [] ≡ h.0 ∷ [] = sym k ∙ h.1 in absurd cc
one_path flag words (Some m) (Some n) h k =
    let texts : k.0 ≡ h.0 = cc (h.1, k.1) in
    ap Some (k.2 ∙ texts ∙ sym h.2)

-- words of other lengths are no one text
differ : {X : Type 0} (text u a b : Text) → u ≡ text → text ≡ a → u ≡ b → ¬ (length b ≡ length a) → X
differ text u a b e h k longer = absurd (longer (ap length (sym k ∙ e ∙ h)))

same_checks : (text u : Text) (m n : Checks) → u ≡ text → IsChecks text m → IsChecks u n → n ≡ m
same_checks text u Strict Strict e h k = refl
same_checks text u Strict Lenient e h k = differ text u (codes "strict") (codes "lenient") e h k (λ l. let n : 7 ≡ 6 = l in omega (arith, n))
same_checks text u Strict NoChecks e h k = differ text u (codes "strict") (codes "none") e h k (λ l. let n : 4 ≡ 6 = l in omega (arith, n))
same_checks text u Lenient Strict e h k = differ text u (codes "lenient") (codes "strict") e h k (λ l. let n : 6 ≡ 7 = l in omega (arith, n))
same_checks text u Lenient Lenient e h k = refl
same_checks text u Lenient NoChecks e h k = differ text u (codes "lenient") (codes "none") e h k (λ l. let n : 4 ≡ 7 = l in omega (arith, n))
same_checks text u NoChecks Strict e h k = differ text u (codes "none") (codes "strict") e h k (λ l. let n : 6 ≡ 4 = l in omega (arith, n))
same_checks text u NoChecks Lenient e h k = differ text u (codes "none") (codes "lenient") e h k (λ l. let n : 7 ≡ 4 = l in omega (arith, n))
same_checks text u NoChecks NoChecks e h k = refl

one_checks : (flag : Text) (words : List Text) (m n : Option Checks) → StandsAtMostOnce IsChecks flag words m → StandsAtMostOnce IsChecks flag words n → n ≡ m
one_checks flag words None None h k = refl
one_checks flag words None (Some n) h k = let no : [] ≡ k.0 ∷ [] = sym h ∙ k.1 in absurd cc
one_checks flag words (Some m) None h k = let no : [] ≡ h.0 ∷ [] = sym k ∙ h.1 in absurd cc
one_checks flag words (Some m) (Some n) h k =
    let texts : k.0 ≡ h.0 = cc (h.1, k.1) in
    ap Some (same_checks h.0 k.0 m n texts h.2 k.2)

-- words are one command `admit` at most
pub one_command : (words : List Text) (c d : Admit) → IsAdmit words c → IsAdmit words d → d ≡ c
one_command [] c d first second = absurd first
one_command (w ∷ words) c d first second =
    let keys : d.keys ≡ c.keys = cc (first.1.keys, second.1.keys) in
    let records : d.records ≡ c.records = cc (first.1.records, second.1.records) in
    let text : d.text ≡ c.text = cc (first.1.text, second.1.text) in
    let now : d.now ≡ c.now = one_number 19 9223372036854775807 (codes "--now") words c.now d.now first.1.now second.1.now in
    let leeway : d.leeway ≡ c.leeway = one_number 5 65535 (codes "--leeway") words c.leeway d.leeway first.1.leeway second.1.leeway in
    let request : d.request ≡ c.request = one_path (codes "--request") words c.request d.request first.1.request second.1.request in
    let checks : d.checks ≡ c.checks = one_checks (codes "--checks") words c.checks d.checks first.1.checks second.1.checks in
    λ i. record { keys = keys i; records = records i; text = text i; request = request i; now = now i; leeway = leeway i; checks = checks i }

-- the two values are one pair at most
two_once : (words : List Text) (s n t m : Text) → AreTwo words s n → AreTwo words t m → (t ≡ s) × (m ≡ n)
two_once words s n t m (inl e) (inl f) = let same : codes "--seed" ∷ s ∷ codes "--count" ∷ n ∷ [] ≡ codes "--seed" ∷ t ∷ codes "--count" ∷ m ∷ [] = sym e ∙ f in (cc, cc)
two_once words s n t m (inl e) (inr f) =
    let same : codes "--seed" ∷ s ∷ codes "--count" ∷ n ∷ [] ≡ codes "--count" ∷ m ∷ codes "--seed" ∷ t ∷ [] = sym e ∙ f in
    let heads : codes "--seed" ≡ codes "--count" = cc in
    let no : 6 ≡ 7 = ap length heads in
    absurd (omega (arith, no))
two_once words s n t m (inr e) (inl f) =
    let same : codes "--count" ∷ n ∷ codes "--seed" ∷ s ∷ [] ≡ codes "--seed" ∷ t ∷ codes "--count" ∷ m ∷ [] = sym e ∙ f in
    let heads : codes "--count" ≡ codes "--seed" = cc in
    let no : 7 ≡ 6 = ap length heads in
    absurd (omega (arith, no))
two_once words s n t m (inr e) (inr f) = let same : codes "--count" ∷ n ∷ codes "--seed" ∷ s ∷ [] ≡ codes "--count" ∷ m ∷ codes "--seed" ∷ t ∷ [] = sym e ∙ f in (cc, cc)

-- words are one command `generate` at most
one_generate : (words : List Text) (g h : Generate) → IsGenerate words g → IsGenerate words h → h ≡ g
one_generate [] g h first second = absurd first
one_generate (w ∷ words) g h first second =
    let texts = two_once words first.1.seed first.1.count second.1.seed second.1.count first.1.are second.1.are in
    let seed : h.seed ≡ g.seed = cc (texts.0, first.1.is_seed.value, second.1.is_seed.value) in
    let count : h.count ≡ g.count = cc (texts.1, first.1.is_count.value, second.1.is_count.value) in
    λ i. record { seed = seed i; count = count i }

-- no words are both
apart : {X : Type 0} (words : List Text) (c : Admit) (g : Generate) → IsAdmit words c → IsGenerate words g → X
apart [] c g first second = absurd first
apart (w ∷ words) c g first second = let no : 5 ≡ 8 = ap length (sym first.0 ∙ second.0) in absurd (omega (arith, no))

-- a text that was not cut was written whole, with its status
not_six : (text : List ℕ) (code room status : ℕ) (before after : Option (List ℕ)) → Delivers text code room before after status → ¬ (status ≡ 6) → (status ≡ code) × Adds before text after
not_six text code room status before after (inl all) never = all
not_six text code room status before after (inr cut) never = absurd (never cut.0)

-- a request document that was fetched is a front of that which is told
request_cut : (run : Run) (path : Option Text) (bytes doc : Option (List ℕ)) → TellsIf run path doc → IsFetchedIf run.content path bytes → IsCut doc bytes
request_cut run None None None tell fetched = tt
request_cut run None None (Some doc) tell fetched = absurd tell
request_cut run None (Some bytes) doc tell fetched = absurd fetched
request_cut run (Some path) None doc tell fetched = absurd fetched
request_cut run (Some path) (Some bytes) None tell fetched = absurd tell
request_cut run (Some path) (Some bytes) (Some doc) tell fetched = subst (λ (o : Option (List ℕ)). IsFetched o limit bytes) tell fetched

module _ (run : Run) (c : Admit) (told : Documents) (tells : Tells run c told) where
  on : (docs : Documents) → Leads (decision c docs) (decision c told) → (reply : Reply) → ComesTo c docs reply → ComesTo c told reply
  on docs l usage none = none
  on docs l (unread document) none = none
  on docs l (admitted a) gives = l.gives a gives
  on docs l (failed why) refuses = l.refuses why refuses
  on docs l (generated g n) none = none

  comes : (reply : Reply) → IsAnswer run reply → ComesTo c told reply
  comes reply is =
      let same : is.command ≡ c = one_command run.words c is.command tells.command is.is_command in
      let brought : (path : Admit → Text) (bytes doc : List ℕ) → run.content (path c) ≡ Some doc → IsFetched (run.content (path is.command)) limit bytes → bytes ≡ take (limit + 1) doc = λ path bytes doc tell fetched. subst (λ (o : Option (List ℕ)). IsFetched o limit bytes) tell (subst (λ (b : Admit). IsFetched (run.content (path b)) limit bytes) same fetched) in
      let keys = brought (λ b. b.keys) is.docs.keys told.keys tells.keys is.fetched.keys in
      let records = brought (λ b. b.records) is.docs.records told.records tells.records is.fetched.records in
      let request = request_cut run c.request is.docs.request told.request tells.request (subst (λ (b : Admit). IsFetchedIf run.content b.request is.docs.request) same is.fetched.request) in
      on is.docs (fetched_leads c told is.docs keys records request) reply (subst (λ (b : Admit). ComesTo b is.docs reply) same is.comes_to)

module _ (run : Run) where
  -- the whole text, with this status
  abbrev Whole : ℕ → List ℕ → Type 0
  Whole code text = (run.status ≡ code) × Wrote run text

  -- the text goes into the run's sink
  abbrev Delivered : ℕ → List ℕ → Type 0
  Delivered code text = Delivers text code run.room run.written.before run.written.after run.status

  module _ (replies : Replies run) (six : run.status ≡ 6 → WriteFailed run) where
    -- a text that the sink took was written whole, with its status
    taken : (text : List ℕ) (code : ℕ) → IsTaken run text → Delivered code text → Whole code text
    taken text code takes (inl all) = all
    taken text code (inl written) (inr cut) = absurd (written (six cut.0))
    taken text code (inr fits) (inr cut) = absurd (omega (arith, fits, cut.1))

    -- without a failed fetch the reply is what the decision says
    settled : (c : Admit) (told : Documents) → Tells run c told → ¬ (FetchFailed run) → (reply : Reply) → IsReply run reply → ComesTo c told reply
    settled c told tells fetched usage is = absurd (is.none (admit c) tells.command)
    settled c told tells fetched (unread document) is = absurd (fetched is.failed)
    settled c told tells fetched (admitted a) is = comes run c told tells (admitted a) is
    settled c told tells fetched (failed why) is = comes run c told tells (failed why) is
    settled c told tells fetched (generated g n) is = apart run.words c g tells.command is.is_command

    admits : (c : Admit) (told : Documents) → Tells run c told → ¬ (FetchFailed run) → (a : Admission) → IsAdmissible c told a → IsTaken run (admitted_text a) → Says run 0 (admitted_text a)
    admits c told tells fetched a h takes = elim replies [
      | inl wants ↦ inr (wants.five, wants.nothing)
      | inr said ↦ inl (one said.0 (settled c told tells fetched said.0 said.1) said.2)
    ]
      where
        one : (reply : Reply) → ComesTo c told reply → Delivered (reply_status reply) (reply_text reply) → Whole 0 (admitted_text a)
        one usage none delivered = absurd none
        one (unread document) none delivered = absurd none
        one (admitted b) gives delivered =
            let same : a ≡ b = (decision_exact c told).one b a gives (from_words c told a h) in
            taken (admitted_text a) 0 takes (subst (λ (x : Admission). Delivered 0 (admitted_text x)) (sym same) delivered)
        one (failed why) due delivered = absurd ((decision_exact c told).apart why a due (from_words c told a h))
        one (generated g n) none delivered = absurd none

    refuses : (c : Admit) (told : Documents) → Tells run c told → ¬ (FetchFailed run) → (why : Why) → (decision c told).refuses why → IsTaken run (why_text why) → Says run (why_status why) (why_text why)
    refuses c told tells fetched why h takes = elim replies [
      | inl wants ↦ inr (wants.five, wants.nothing)
      | inr said ↦ inl (one said.0 (settled c told tells fetched said.0 said.1) said.2)
    ]
      where
        one : (reply : Reply) → ComesTo c told reply → Delivered (reply_status reply) (reply_text reply) → Whole (why_status why) (why_text why)
        one usage none delivered = absurd none
        one (unread document) none delivered = absurd none
        one (admitted b) gives delivered = absurd ((decision_exact c told).apart why b h ((decision_exact c told).holds b gives))
        one (failed other) due delivered =
            let same : other ≡ why = (decision_exact c told).only why other h due in
            taken (why_text why) (why_status why) takes (subst (λ (w : Why). Delivered (why_status w) (why_text w)) same delivered)
        one (generated g n) none delivered = absurd none

    -- where the status is neither 5 nor 6 one reply was written whole, with its status
    replied : ¬ (run.status ≡ 5) → ¬ (run.status ≡ 6) → (reply : Reply) × IsReply run reply × Whole (reply_status reply) (reply_text reply)
    replied five never = elim replies [
      | inl wants ↦ absurd (five wants.five)
      | inr said ↦ (said.0, said.1, not_six (reply_text said.0) (reply_status said.0) run.room run.status run.written.before run.written.after said.2 never)
    ]

    only_admissible : (c : Admit) (told : Documents) → Tells run c told → run.status ≡ 0 → (a : Admission) × IsAdmissible c told a × Wrote run (admitted_text a)
    only_admissible c told tells code = let r = replied (λ e. omega (arith, e, code)) (λ e. omega (arith, e, code)) in one r.0 r.1 r.2
      where
        one : (reply : Reply) → IsReply run reply → Whole (reply_status reply) (reply_text reply) → (a : Admission) × IsAdmissible c told a × Wrote run (admitted_text a)
        one usage is s = absurd (omega (arith, s.0, code))
        one (unread document) is s = absurd (omega (arith, s.0, code))
        one (admitted a) is s = (a, to_words c told a ((decision_exact c told).holds a (comes run c told tells (admitted a) is)), s.1)
        one (failed (refused cause)) is s = absurd (omega (arith, s.0, code))
        one (failed (bad document flaw)) is s = absurd (omega (arith, s.0, code))
        one (generated g n) is s = apart run.words c g tells.command is.is_command

    only_first : (c : Admit) (told : Documents) → Tells run c told → (run.status ≡ 1) ⊎ (run.status ≡ 4) → (why : Why) × (decision c told).refuses why × (run.status ≡ why_status why) × Wrote run (why_text why)
    only_first c told tells code = let r = replied (λ e. omega (arith, e, code)) (λ e. omega (arith, e, code)) in one r.0 r.1 r.2
      where
        one : (reply : Reply) → IsReply run reply → Whole (reply_status reply) (reply_text reply) → (why : Why) × (decision c told).refuses why × (run.status ≡ why_status why) × Wrote run (why_text why)
        one usage is s = absurd (omega (arith, s.0, code))
        one (unread document) is s = absurd (omega (arith, s.0, code))
        one (admitted a) is s = absurd (omega (arith, s.0, code))
        one (failed why) is s = (why, comes run c told tells (failed why) is, s.0, s.1)
        one (generated g n) is s = absurd (omega (arith, s.0, code))

    -- ---- the texts of a command `generate`

    counts : (g : Generate) → IsGenerate run.words g → (a : ℕ) → Counts g.seed g.count a → IsTaken run (generated_text g.count a) → Says run 0 (generated_text g.count a)
    counts g command a h takes = elim replies [
      | inl wants ↦ inr (wants.five, wants.nothing)
      | inr said ↦ inl (one said.0 said.1 said.2)
    ]
      where
        one : (reply : Reply) → IsReply run reply → Delivered (reply_status reply) (reply_text reply) → Whole 0 (generated_text g.count a)
        one usage is delivered = absurd (is.none (generate g) command)
        one (unread document) is delivered = apart run.words is.command g is.is_command command
        one (admitted b) is delivered = apart run.words is.command g is.is_command command
        one (failed why) is delivered = apart run.words is.command g is.is_command command
        one (generated k b) is delivered =
            let same : k ≡ g = one_generate run.words g k command is.is_command in
            let counted : Counts g.seed g.count b = subst (λ (j : Generate). Counts j.seed j.count b) same is.counted in
            let number : b ≡ a = counts_once g.seed g.count a b h counted in
            let its : Delivered 0 (generated_text g.count b) = subst (λ (j : Generate). Delivered 0 (generated_text j.count b)) same delivered in
            taken (generated_text g.count a) 0 takes (subst (λ (n : ℕ). Delivered 0 (generated_text g.count n)) number its)

    only_counts : (g : Generate) → IsGenerate run.words g → (run.status ≡ 0) ⊎ (run.status ≡ 5) ⊎ (run.status ≡ 6)
    only_counts g command = elim replies [
      | inl wants ↦ inr (inl wants.five)
      | inr said ↦ one said.0 said.1 said.2
    ]
      where
        one : (reply : Reply) → IsReply run reply → Delivered (reply_status reply) (reply_text reply) → (run.status ≡ 0) ⊎ (run.status ≡ 5) ⊎ (run.status ≡ 6)
        one usage is delivered = absurd (is.none (generate g) command)
        one (unread document) is delivered = apart run.words is.command g is.is_command command
        one (admitted b) is delivered = apart run.words is.command g is.is_command command
        one (failed why) is delivered = apart run.words is.command g is.is_command command
        one (generated k b) is (inl all) = inl all.0
        one (generated k b) is (inr cut) = inr (inr cut.0)

    only_counted : (g : Generate) → IsGenerate run.words g → run.status ≡ 0 → (a : ℕ) × Counts g.seed g.count a × Wrote run (generated_text g.count a)
    only_counted g command code = let r = replied (λ e. omega (arith, e, code)) (λ e. omega (arith, e, code)) in one r.0 r.1 r.2
      where
        one : (reply : Reply) → IsReply run reply → Whole (reply_status reply) (reply_text reply) → (a : ℕ) × Counts g.seed g.count a × Wrote run (generated_text g.count a)
        one usage is s = absurd (is.none (generate g) command)
        one (unread document) is s = apart run.words is.command g is.is_command command
        one (admitted b) is s = apart run.words is.command g is.is_command command
        one (failed why) is s = apart run.words is.command g is.is_command command
        one (generated k b) is s =
            let same : k ≡ g = one_generate run.words g k command is.is_command in
            (b, subst (λ (j : Generate). Counts j.seed j.count b) same is.counted, subst (λ (j : Generate). Wrote run (generated_text j.count b)) same s.1)

    -- ---- what was asked for

    front : (c : Admit) → IsAdmit run.words c → (n : ℕ) × Asked run (take n (paths_of c))
    front c command = elim replies [
      | inl wants ↦ wanted wants.command wants.is_command wants.asked
      | inr said ↦ one said.0 said.1
    ]
      where
        same : (d : Admit) (n : ℕ) → IsAdmit run.words d → Asked run (take n (paths_of d)) → (m : ℕ) × Asked run (take m (paths_of c))
        same d n other asked = (n, subst (λ (b : Admit). Asked run (take n (paths_of b))) (one_command run.words c d command other) asked)

        wanted : (d : Command) → IsCommand run.words d → AskedSome run d → (n : ℕ) × Asked run (take n (paths_of c))
        wanted (admit d) other asked = same d asked.0 other asked.1
        wanted (generate g) other asked = apart run.words c g command other

        whole : (b : Admit) → Asked run (paths_of b) → (n : ℕ) × Asked run (take n (paths_of b))
        whole b asked = (3, subst (λ (l : List Text). Asked run l) (sym (all_paths b)) asked)

        to : (d : Document) (b : Admit) → Asked run (paths_to d b) → (n : ℕ) × Asked run (take n (paths_of b))
        to Keys b asked = (1, asked)
        to Records b asked = (2, asked)
        to Request b asked = whole b asked

        one : (reply : Reply) → IsReply run reply → (n : ℕ) × Asked run (take n (paths_of c))
        one usage is = absurd (is.none (admit c) command)
        one (unread document) is = let t = to document is.command is.asked in same is.command t.0 is.is_command t.1
        one (admitted a) is = let t = whole is.command is.asked in same is.command t.0 is.is_command t.1
        one (failed why) is = let t = whole is.command is.asked in same is.command t.0 is.is_command t.1
        one (generated g n) is = apart run.words c g command is.is_command

    -- all paths, where the command comes to its reply
    all_asked : (c : Admit) → IsAdmit run.words c → (reply : Reply) → IsAnswer run reply → Asked run (paths_of c)
    all_asked c command reply is = subst (λ (b : Admit). Asked run (paths_of b)) (one_command run.words c is.command command is.is_command) is.asked

    answered : (c : Admit) → IsAdmit run.words c → (run.status ≡ 0) ⊎ (run.status ≡ 1) ⊎ (run.status ≡ 4) → Asked run (paths_of c)
    answered c command code = let r = replied (λ e. omega (arith, e, code)) (λ e. omega (arith, e, code)) in one r.0 r.1 r.2
      where
        one : (reply : Reply) → IsReply run reply → Whole (reply_status reply) (reply_text reply) → Asked run (paths_of c)
        one usage is s = absurd (omega (arith, s.0, code))
        one (unread document) is s = absurd (omega (arith, s.0, code))
        one (admitted a) is s = all_asked c command (admitted a) is
        one (failed why) is s = all_asked c command (failed why) is
        one (generated g n) is s = apart run.words c g command is.is_command

    unfailed : (c : Admit) → IsAdmit run.words c → ¬ (FetchFailed run) → ¬ (run.status ≡ 5) → Asked run (paths_of c)
    unfailed c command fetched five = elim replies [
      | inl wants ↦ absurd (five wants.five)
      | inr said ↦ one said.0 said.1
    ]
      where
        one : (reply : Reply) → IsReply run reply → Asked run (paths_of c)
        one usage is = absurd (is.none (admit c) command)
        one (unread document) is = absurd (fetched is.failed)
        one (admitted a) is = all_asked c command (admitted a) is
        one (failed why) is = all_asked c command (failed why) is
        one (generated g n) is = apart run.words c g command is.is_command

    named : (c : Admit) → IsAdmit run.words c → run.status ≡ 3 → (d : Document) × Asked run (paths_to d c) × Wrote run (reply_text (unread d))
    named c command code = let r = replied (λ e. omega (arith, e, code)) (λ e. omega (arith, e, code)) in one r.0 r.1 r.2
      where
        one : (reply : Reply) → IsReply run reply → Whole (reply_status reply) (reply_text reply) → (d : Document) × Asked run (paths_to d c) × Wrote run (reply_text (unread d))
        one usage is s = absurd (omega (arith, s.0, code))
        one (unread document) is s = (document, subst (λ (b : Admit). Asked run (paths_to document b)) (one_command run.words c is.command command is.is_command) is.asked, s.1)
        one (admitted a) is s = absurd (omega (arith, s.0, code))
        one (failed (refused cause)) is s = absurd (omega (arith, s.0, code))
        one (failed (bad document flaw)) is s = absurd (omega (arith, s.0, code))
        one (generated g n) is s = absurd (omega (arith, s.0, code))

    nothing : ((c : Admit) → ¬ (IsAdmit run.words c)) → run.asked.after ≡ run.asked.before
    nothing never = elim replies [
      | inl wants ↦ wanted wants.command wants.is_command wants.asked
      | inr said ↦ one said.0 said.1
    ]
      where
        wanted : (d : Command) → IsCommand run.words d → AskedSome run d → run.asked.after ≡ run.asked.before
        wanted (admit d) is asked = absurd (never d is)
        wanted (generate g) is asked = asked

        one : (reply : Reply) → IsReply run reply → run.asked.after ≡ run.asked.before
        one usage is = is.asked
        one (unread document) is = absurd (never is.command is.is_command)
        one (admitted a) is = absurd (never is.command is.is_command)
        one (failed why) is = absurd (never is.command is.is_command)
        one (generated g n) is = is.asked

    pub outcome : Outcome run
    outcome = record {
      replies = replies;
      asks = record { front = front; answered = answered; unfailed = unfailed; unread = named; nothing = nothing };
      headline = record { admits = admits; refuses = refuses; only_admissible = only_admissible; only_first = only_first; counts = counts; only_counts = only_counts; only_counted = only_counted };
    }

    -- ---- the statuses 0 and 2

    -- words that are no command
    pub no_command : ((c : Command) → ¬ (IsCommand run.words c)) → (run.status ≡ 2) ⊎ (run.status ≡ 6)
    no_command never = elim replies [
      | inl wants ↦ absurd (never wants.command wants.is_command)
      | inr said ↦ one said.0 said.1 said.2
    ]
      where
        one : (reply : Reply) → IsReply run reply → Delivered (reply_status reply) (reply_text reply) → (run.status ≡ 2) ⊎ (run.status ≡ 6)
        one usage is (inl all) = inl all.0
        one usage is (inr cut) = inr cut.0
        one (unread document) is delivered = absurd (never (admit is.command) is.is_command)
        one (admitted a) is delivered = absurd (never (admit is.command) is.is_command)
        one (failed why) is delivered = absurd (never (admit is.command) is.is_command)
        one (generated g n) is delivered = absurd (never (generate g) is.is_command)

    pub two : run.status ≡ 2 → (c : Command) → ¬ (IsCommand run.words c)
    two code = let r = replied (λ e. omega (arith, e, code)) (λ e. omega (arith, e, code)) in one r.0 r.1 r.2
      where
        one : (reply : Reply) → IsReply run reply → Whole (reply_status reply) (reply_text reply) → (c : Command) → ¬ (IsCommand run.words c)
        one usage is s = is.none
        one (unread document) is s = absurd (omega (arith, s.0, code))
        one (admitted a) is s = absurd (omega (arith, s.0, code))
        one (failed (refused cause)) is s = absurd (omega (arith, s.0, code))
        one (failed (bad document flaw)) is s = absurd (omega (arith, s.0, code))
        one (generated g n) is s = absurd (omega (arith, s.0, code))

    pub zero : run.status ≡ 0 → (c : Command) × IsCommand run.words c × ((text : List ℕ) × IsSuccess c text × Wrote run text)
    zero code = let r = replied (λ e. omega (arith, e, code)) (λ e. omega (arith, e, code)) in one r.0 r.1 r.2
      where
        one : (reply : Reply) → IsReply run reply → Whole (reply_status reply) (reply_text reply) → (c : Command) × IsCommand run.words c × ((text : List ℕ) × IsSuccess c text × Wrote run text)
        one usage is s = absurd (omega (arith, s.0, code))
        one (unread document) is s = absurd (omega (arith, s.0, code))
        one (admitted a) is s = (admit is.command, is.is_command, (admitted_text a, (a, refl), s.1))
        one (failed (refused cause)) is s = absurd (omega (arith, s.0, code))
        one (failed (bad document flaw)) is s = absurd (omega (arith, s.0, code))
        one (generated g a) is s = (generate g, is.is_command, (generated_text g.count a, (a, is.counted, refl), s.1))

-- a count that never falls, and has not risen
pub unrisen : (old new : ℕ) → old ≤ new → ¬ (old < new) → new ≡ old
unrisen old new later never = omega (arith, later, never)
