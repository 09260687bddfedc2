-- What the fetches of a command's documents asked for.
use Rattle.std.proofs.Common.{◌≡◌, List, [], ◌∷◌, take, Option, Some, None, Result, Ok, Err, inl, inr, refl, sym, subst, ap}
use Rattle.std.specs.Prelude.{IsErrOf}
use Rattle.picky_gate.specs.declared.documents.Document.{Document}
use Rattle.picky_gate.specs.declared.documents.Document.TheVariants.{Keys, Records}
use Rattle.picky_gate.specs.declared.program.Unfetched.{Unfetched}
use Rattle.picky_gate.specs.declared.program.Unfetched.TheVariants.{Failed, OutOfMemory}
use Rattle.picky_gate.specs.Command.{Text, Admit}
use Rattle.picky_outside.specs.Outside.{Adds}
use Rattle.picky_gate.specs.Reply.{OneAsked, OneAskedIf, AllAsked}
use Rattle.picky_gate.specs.Run.{given, paths_of, paths_to}
use Rattle.picky_outside.specs.laws.Adding.{adds_nothing, adds_more}

-- three paths are all
pub all_paths : (c : Admit) → take 3 (paths_of c) ≡ paths_of c
all_paths c = ap (λ (l : List Text). c.keys ∷ c.records ∷ l) (one c.request)
  where
    one : (o : Option Text) → take 1 (given o) ≡ given o
    one None = refl
    one (Some path) = refl

-- one error in results of two types
across : {T U : Type 0} (u v : Unfetched) → IsErrOf {T = U} (Err u) v → IsErrOf {T = T} (Err u) v
across {T = T} u v e = let same : u ≡ v = cc in ap (λ (w : Unfetched). let r : Result T Unfetched = Err w in r) same

module _ {T U : Type 0} (before : Option (List Text)) (c : Admit) (now : Option (List Text)) (u : Unfetched) where
  -- the first document isn't there
  pub keys_unfetched : OneAsked {T = T} before c.keys Keys now (Err u) → AllAsked {T = U} before c now (Err u)
  keys_unfetched one = record {
    fetched = tt;
    failed = λ d e. subst (λ (b : Document). Adds before (paths_to b c) now) (sym (one.failed d (across {T = T} {U = U} u (Failed d) e)).0) (one.failed d (across {T = T} {U = U} u (Failed d) e)).1;
    memory = λ e. elim (one.memory (across {T = T} {U = U} u OutOfMemory e)) [
      | inl same ↦ (0, adds_nothing before now same)
      | inr more ↦ (1, more)
    ];
  }

  -- the second isn't there
  pub records_unfetched : (mid : Option (List Text)) → Adds before (c.keys ∷ []) mid → OneAsked {T = T} mid c.records Records now (Err u) → AllAsked {T = U} before c now (Err u)
  records_unfetched mid keys one = record {
    fetched = tt;
    failed = λ d e. subst (λ (b : Document). Adds before (paths_to b c) now) (sym (one.failed d (across {T = T} {U = U} u (Failed d) e)).0) (adds_more before mid now (c.keys ∷ []) (c.records ∷ []) keys (one.failed d (across {T = T} {U = U} u (Failed d) e)).1);
    memory = λ e. elim (one.memory (across {T = T} {U = U} u OutOfMemory e)) [
      | inl same ↦ (1, subst (λ (o : Option (List Text)). Adds before (c.keys ∷ []) o) (sym same) keys)
      | inr more ↦ (2, adds_more before mid now (c.keys ∷ []) (c.records ∷ []) keys more)
    ];
  }

-- the third isn't there
pub request_unfetched : (T U : Type 0) (before : Option (List Text)) (c : Admit) (now : Option (List Text)) (u : Unfetched) (mid late : Option (List Text)) → Adds before (c.keys ∷ []) mid → Adds mid (c.records ∷ []) late
    → OneAskedIf {T = T} late c.request now (Err u) → AllAsked {T = U} before c now (Err u)
request_unfetched T U before c now u mid late keys records asked = cases c.request refl asked
  where
    two : Adds before (c.keys ∷ c.records ∷ []) late
    two = adds_more before mid late (c.keys ∷ []) (c.records ∷ []) keys records

    three : (path : Text) → c.request ≡ Some path → Adds late (path ∷ []) now → Adds before (paths_of c) now
    three path is more = subst (λ (o : Option Text). Adds before (c.keys ∷ c.records ∷ given o) now) (sym is) (adds_more before late now (c.keys ∷ c.records ∷ []) (path ∷ []) two more)

    cases : (o : Option Text) → c.request ≡ o → OneAskedIf {T = T} late o now (Err u) → AllAsked {T = U} before c now (Err u)
    cases None is none = absurd none.1
    cases (Some path) is one = record {
      fetched = tt;
      failed = λ d e. subst (λ (b : Document). Adds before (paths_to b c) now) (sym (one.failed d (across {T = T} {U = U} u (Failed d) e)).0) (three path is (one.failed d (across {T = T} {U = U} u (Failed d) e)).1);
      memory = λ e. elim (one.memory (across {T = T} {U = U} u OutOfMemory e)) [
        | inl same ↦ (2, subst (λ (o : Option (List Text)). Adds before (c.keys ∷ c.records ∷ []) o) (sym same) two)
        | inr more ↦ (3, subst (λ (l : List Text). Adds before l now) (sym (all_paths c)) (three path is more))
      ];
    }

-- all are there
pub all_fetched : (T : Type 0) (before mid late now : Option (List Text)) (c : Admit) (x : T) → Adds before (c.keys ∷ []) mid → Adds mid (c.records ∷ []) late → OneAskedIf {T = T} late c.request now (Ok x) → Adds before (paths_of c) now
all_fetched T before mid late now c x keys records asked = cases c.request asked
  where
    two : Adds before (c.keys ∷ c.records ∷ []) late
    two = adds_more before mid late (c.keys ∷ []) (c.records ∷ []) keys records

    cases : (o : Option Text) → OneAskedIf {T = T} late o now (Ok x) → Adds before (c.keys ∷ c.records ∷ given o) now
    cases None none = subst (λ (o : Option (List Text)). Adds before (c.keys ∷ c.records ∷ []) o) (sym none.0) two
    cases (Some path) one = adds_more before late now (c.keys ∷ c.records ∷ []) (path ∷ []) two one.fetched
