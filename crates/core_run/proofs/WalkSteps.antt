-- The walk's parts over a vector of running threads, of which one is taken out by its place and put back.
use Rattle.std.proofs.Common.{◌≡◌, ℕ, ◌<◌, [], ◌++◌, List, length, Some, None, refl, sym, ap, ◌∙◌, subst, get_or, true}
use Rattle.std.specs.Prelude.{slice_get, slice_set}
use Rattle.std.proofs.lemmas.Option.{slice_get_read, slice_get-get_or}
use Rattle.std.proofs.lemmas.List.{append-nil}
use Rattle.sync_objects.specs.Setup.{SetupView}
use Rattle.sync_objects.specs.declared.entry.Entry.{Entry}
use Rattle.flow_code.specs.declared.code.Code.{Code}
use Rattle.thread_interpreter.specs.declared.access.Access.{Access}
use Rattle.thread_interpreter.specs.declared.access.Formula.{Formula}
use Rattle.thread_interpreter.specs.Flows.{Running}
use Rattle.core_run.specs.Machine.{Told, machine}
use Rattle.core_run.specs.Parts.{OwnIs, MadeIs}
use Rattle.core_run.specs.declared.parts.Own.{Own}
use Rattle.core_run.specs.declared.parts.Own.TheVariants as own
use Rattle.core_run.specs.declared.parts.Made.{Made}
use Rattle.core_run.specs.declared.parts.Made.TheVariants as made_case
use Rattle.core_run.specs.Outside.{ComesOutside}
use Rattle.core_run.specs.Shown.{RunAll, IsShown, with_read, StepsTo, MakesTo, EntryStep, IsStuck}
use Rattle.core_run.proofs.Walked.{run_all_here, run_all_set, marked_step, accessed_step, no_step, step_inside, step_outside, refused_entry, silent_entry, printed_entry}
use Rattle.run_theory.specs.Steps.{State}
use Rattle.run_theory.specs.Walk.{made}

module _ (code : Code) (s : SetupView) (flows : List Running) (t index : ℕ) (r r1 : Running) (all : RunAll code s 0 flows) (within : t < length flows) (same : index ≡ t) (read : r ≡ get_or flows index r) where
  pub at_thread : slice_get flows t ≡ Some r
  at_thread = slice_get_read flows (length flows) t r refl within (read ∙ ap (λ z. get_or flows z r) same)

  pub code_is : r.code ≡ code
  code_is = (run_all_here code s t flows r all at_thread).0

  pub setup_is : r.setup ≡ s
  setup_is = (run_all_here code s t flows r all at_thread).1

  pub number_is : r.number ≡ t
  number_is = (run_all_here code s t flows r all at_thread).2

  pub still_run : r1.code ≡ r.code → r1.setup ≡ r.setup → r1.number ≡ r.number → RunAll code s 0 (slice_set flows index r1)
  still_run a b c = subst (λ z. RunAll code s 0 (slice_set flows z r1)) (sym same) (run_all_set code s t flows r1 all (a ∙ code_is) (b ∙ setup_is) (c ∙ number_is))

  module _ (f : Formula) (words ws1 : List ℕ) (reads : List (List Access)) (st : State Told) (shown : IsShown f flows words reads st) where
    own_here : (o b : Own) → o ≡ b → ((told : Told) → told.thread ≡ r.kept.thread → OwnIs r.code r.setup t told words ws1 r1.kept.thread o) → (told : Told) → told.thread ≡ r.kept.thread → OwnIs code s t told words ws1 r1.kept.thread b
    own_here o b e h told is =
        subst (λ z. OwnIs code z t told words ws1 r1.kept.thread b) setup_is
        (subst (λ z. OwnIs z r.setup t told words ws1 r1.kept.thread b) code_is
        (subst (λ z. OwnIs r.code r.setup t told words ws1 r1.kept.thread z) e (h told is)))

    pub stays_here : (o : Own) → o ≡ own.Stays → ((told : Told) → told.thread ≡ r.kept.thread → OwnIs r.code r.setup t told words ws1 r1.kept.thread o) → IsStuck code s t st × (ComesOutside code s t st → ⊥)
    stays_here o e h = (no_step code s f t st flows words reads shown r r1 at_thread ws1 (own_here o own.Stays e h), step_inside code s f t st flows words reads shown r r1 at_thread ws1 (own_here o own.Stays e h))

    pub outside_here : (o : Own) → o ≡ own.Outside → ((told : Told) → told.thread ≡ r.kept.thread → OwnIs r.code r.setup t told words ws1 r1.kept.thread o) → IsStuck code s t st × ComesOutside code s t st
    outside_here o e h = step_outside code s f t st flows words reads shown r r1 at_thread ws1 (own_here o own.Outside e h)

    pub marked_here : (o : Own) → o ≡ own.Marked → ((told : Told) → told.thread ≡ r.kept.thread → OwnIs r.code r.setup t told words ws1 r1.kept.thread o) → StepsTo code s f t st (slice_set flows index r1) ws1 reads
    marked_here o e h = subst (λ z. StepsTo code s f t st (slice_set flows z r1) ws1 reads) (sym same) (marked_step code s f t st flows words reads shown r r1 at_thread ws1 (own_here o own.Marked e h))

    pub accessed_here : (o : Own) (a : Access) (xs : List Access) (reads1 : List (List Access)) → o ≡ own.Accessed a → ((told : Told) → told.thread ≡ r.kept.thread → OwnIs r.code r.setup t told words ws1 r1.kept.thread o) → slice_get reads t ≡ Some xs → reads1 ≡ slice_set reads t (with_read f xs a) → StepsTo code s f t st (slice_set flows index r1) ws1 reads1
    accessed_here o a xs reads1 e h k kept = subst (λ z. StepsTo code s f t st (slice_set flows z r1) ws1 reads1) (sym same) (accessed_step code s f t st flows words reads shown r r1 at_thread ws1 a xs reads1 (own_here o (own.Accessed a) e h) k kept)

-- the list of reads of a thread
pub reads_at : (reads : List (List Access)) (t : ℕ) → t < length reads → slice_get reads t ≡ Some (get_or reads t [])
reads_at reads t lt = slice_get-get_or reads t [] lt

module _ (code : Code) (s : SetupView) (flows : List Running) (e : Entry) (index : ℕ) (r r1 : Running) (all : RunAll code s 0 flows) (within : e.thread < length flows) (same : index ≡ e.thread) (read : r ≡ get_or flows index r) (f : Formula) (words ws1 : List ℕ) (reads : List (List Access)) (st : State Told) (shown : IsShown f flows words reads st) where
  entry_at_thread : slice_get flows e.thread ≡ Some r
  entry_at_thread = at_thread code s flows e.thread index r r1 all within same read

  made_here : (m b : Made) → m ≡ b → ((told : Told) → told.thread ≡ r.kept.thread → MadeIs r.code r.setup told e words ws1 r1.kept.thread m) → (told : Told) → told.thread ≡ r.kept.thread → MadeIs code s told e words ws1 r1.kept.thread b
  made_here m b q h told is =
      subst (λ z. MadeIs code z told e words ws1 r1.kept.thread b) (setup_is code s flows e.thread index r r1 all within same read)
      (subst (λ z. MadeIs z r.setup told e words ws1 r1.kept.thread b) (code_is code s flows e.thread index r r1 all within same read)
      (subst (λ z. MadeIs r.code r.setup told e words ws1 r1.kept.thread z) q (h told is)))

  pub refused_here : (m : Made) → m ≡ made_case.Refused → ((told : Told) → told.thread ≡ r.kept.thread → MadeIs r.code r.setup told e words ws1 r1.kept.thread m) → made (machine code s) e st ≡ None
  refused_here m q h = refused_entry code s f e st flows words reads shown r r1 entry_at_thread ws1 (made_here m made_case.Refused q h)

  pub silent_here : (m : Made) (out : List ℕ) → m ≡ made_case.Silent → ((told : Told) → told.thread ≡ r.kept.thread → MadeIs r.code r.setup told e words ws1 r1.kept.thread m) → EntryStep code s f e st (slice_set flows index r1) ws1 reads out out true
  silent_here m out q h = ([], sym (append-nil out), subst (λ z. MakesTo code s f e st (slice_set flows z r1) ws1 reads []) (sym same) (silent_entry code s f e st flows words reads shown r r1 entry_at_thread ws1 (made_here m made_case.Silent q h)))

  pub printed_here : (m : Made) (bytes out out1 : List ℕ) → m ≡ made_case.Printed bytes → ((told : Told) → told.thread ≡ r.kept.thread → MadeIs r.code r.setup told e words ws1 r1.kept.thread m) → out1 ≡ out ++ bytes → EntryStep code s f e st (slice_set flows index r1) ws1 reads out out1 true
  printed_here m bytes out out1 q h k = (bytes, k, subst (λ z. MakesTo code s f e st (slice_set flows z r1) ws1 reads bytes) (sym same) (printed_entry code s f e st flows words reads shown r r1 entry_at_thread ws1 bytes (made_here m (made_case.Printed bytes) q h)))
