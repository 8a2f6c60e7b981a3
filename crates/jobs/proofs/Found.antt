-- What comes of a source's code.
use Rattle.std.proofs.Common.{◌≡◌, refl, sym, subst, ℕ, List, Result, Ok, Err}
use Rattle.std.specs.Prelude.{IfErr, IfOk, MatchResult}
use Rattle.std.specs.declared.alloc.AllocError.{AllocError}
use Rattle.command_line.specs.declared.answer.Answer.TheVariants as answer
use Rattle.c_tree.specs.Tree.{Outer}
use Rattle.profiles.specs.declared.profile.Profile.{Profile}
use Rattle.profiles.specs.declared.profile.Profile.TheVariants as profile
use Rattle.listing.specs.Text.{races_text_of}
use Rattle.listing.specs.WeakText.{weak_text_of}
use Rattle.lock_sound.specs.Weakened.{Analysed}
use Rattle.job_outcomes.specs.Faults.{IsPure}
use Rattle.job_outcomes.specs.Outcomes.{answers}
use Rattle.job_outcomes.specs.Steps.{Comes, Gives}
use Rattle.job_outcomes.specs.declared.outcome.Outcome.{Outcome}
use Rattle.job_outcomes.specs.declared.stop.Stop.{Stop}
use Rattle.job_outcomes.specs.declared.stop.Stop.TheVariants as stop
use Rattle.job_laws.specs.Listings.{ListsRaces, ListsWeakLocks}
use Rattle.job_laws.specs.Sources.{Compiles, IsFound, IsTree}

module _ (source : List ℕ) (p : Profile) (Next : List Outer → Outcome → Type 0) where
  -- without a code
  pub not_compiled : (s : Stop) → Compiles source p (Err s) → Gives (Comes (IsTree source) Next) (Err s)
  not_compiled (stop.Refused a) h = record { step = Err a; is = h; next = refl }
  not_compiled stop.ShelfFailed h = tt
  not_compiled stop.InputFailed h = tt
  not_compiled stop.CrewFailed h = tt
  not_compiled stop.OutOfMemory h = tt

pub compile_is_pure : (source : List ℕ) (p : Profile) (s : Stop) → Compiles source p (Err s) → IsPure s
compile_is_pure source p (stop.Refused a) h = tt
compile_is_pure source p stop.ShelfFailed h = absurd h
compile_is_pure source p stop.InputFailed h = absurd h
compile_is_pure source p stop.CrewFailed h = absurd h
compile_is_pure source p stop.OutOfMemory h = tt

pub compiles_purely : (source : List ℕ) (p : Profile) (r : Result Analysed Stop) → Compiles source p r → IfErr r IsPure
compiles_purely source p (Ok w) h = tt
compiles_purely source p (Err s) h = compile_is_pure source p s h

pub same_compile : (a b : List ℕ) (p q : Profile) (r : Result Analysed Stop) → a ≡ b → p ≡ q → Compiles a p r → Compiles b q r
same_compile a b p q r e f h = subst (λ x. Compiles x q r) e (subst (λ x. Compiles a x r) f h)

-- a code, of which this is told
module _ (source : List ℕ) (p : Profile) (w : Analysed) (Next : List Outer → Outcome → Type 0) (x : Outcome → Type 0) where
  pub compiled_gives : (r : Result Outcome Stop) → Compiles source p (Ok w) → ((os : List Outer) (o : Outcome) → IsTree source (Ok os) → IsFound os p w → x o → Next os o) → MatchResult r x (λ end. end ≡ stop.OutOfMemory) → Gives (Comes (IsTree source) Next) r
  compiled_gives (Ok o) h next is = record { step = Ok h.0; is = h.1; next = next h.0 o h.1 h.2 is }
  compiled_gives (Err s) h next is = subst (λ y. Gives (Comes (IsTree source) Next) (Err y)) (sym is) tt

pub races_listed : (source : List ℕ) (w : Analysed) (r : Result Outcome Stop) → Compiles source profile.All (Ok w) → MatchResult r (λ o. o ≡ answers (answer.Done (races_text_of w.plain w.pairs))) (λ end. end ≡ stop.OutOfMemory) → Gives (Comes (IsTree source) ListsRaces) r
races_listed source w r h is = compiled_gives source profile.All w ListsRaces _ r h (λ os o tree found told. record { found = w; is = found; told = told }) is

pub locks_listed : (source : List ℕ) (p : Profile) (w : Analysed) (r : Result Outcome Stop) → Compiles source p (Ok w) → MatchResult r (λ o. o ≡ answers (answer.Done (weak_text_of w.plain w.weak.locks w.grains.rows))) (λ end. end ≡ stop.OutOfMemory) → Gives (Comes (IsTree source) (ListsWeakLocks p)) r
locks_listed source p w r h is = compiled_gives source p w (ListsWeakLocks p) _ r h (λ os o tree found told. record { found = w; is = found; told = told }) is

-- an outcome of which this is known, or memory ran out
pub or_memory : (x : Outcome → Type 0) (f : Result Outcome AllocError) (r : Result Outcome Stop) → IfOk f x → MatchResult r (λ o. f ≡ Ok o) (λ end. end ≡ stop.OutOfMemory) → MatchResult r x (λ end. end ≡ stop.OutOfMemory)
or_memory x f (Ok o) h is = subst (λ g. IfOk g x) is h
or_memory x f (Err s) h is = is

pub memory_is_pure : (x : Outcome → Type 0) (r : Result Outcome Stop) → MatchResult r x (λ end. end ≡ stop.OutOfMemory) → IfErr r IsPure
memory_is_pure x (Ok o) is = tt
memory_is_pure x (Err s) is = subst IsPure (sym is) tt
