-- Conflicting accesses of two threads in a run of weakened code are ordered.
use Rattle.std.proofs.Common.{◌≡◌, ◌≢◌, ℕ, ◌*◌, ◌<◌, nat_lt, Bool, true, false, List, [], Some, refl, sym, subst, arith}
use Rattle.std.proofs.lemmas.Bool.{ltb-true, ltb-false}
use Rattle.sync_objects.specs.Setup.{SetupView, IsWithinLimits}
use Rattle.flow_code.specs.declared.code.Code.{Code}
use Rattle.flow_code.specs.Constants.{constants_fit}
use Rattle.flow_code.specs.Settle.{next, IsRunnable}
use Rattle.flow_code.specs.Valid.{is_valid}
use Rattle.flow_code.proofs.Runnable.{valid_runnable}
use Rattle.facts.specs.declared.locks.Summary.{Summary}
use Rattle.facts.specs.declared.pair.Pair.{Pair}
use Rattle.profiles.specs.declared.profile.Profile.{Profile}
use Rattle.facts.specs.Pairs.{ArePairs}
use Rattle.facts.specs.PointsTo.{Tables, IsPointsTo}
use Rattle.facts.specs.Summaries.{AreSummaries}
use Rattle.weak_lock_facts.specs.declared.grain.Grained.{Grained}
use Rattle.weak_lock_facts.specs.declared.range.Range.{Range}
use Rattle.weak_lock_facts.specs.Grains.{AreGrains}
use Rattle.weak_lock_facts.specs.Ranges.{ranges_of}
use Rattle.weak_code.specs.Stripped.{is_plain}
use Rattle.weak_code.specs.Weakened.{weakened}
use Rattle.weak_valid.specs.Apart.{loops_are_apart}
use Rattle.guard_paths.specs.LoopsClosed.{loops_are_closed}
use Rattle.core_run.specs.Histories.{run_of}
use Rattle.core_run.specs.Machine.{Told, machine, start_state}
use Rattle.core_run.specs.Words.{cells_of}
use Rattle.lock_ownership.proofs.Turns.{Place, place_at}
use Rattle.lock_sound.specs.Weakened.{Analysed, IsAnalysed}
use Rattle.run_theory.specs.Labels.{Label}
use Rattle.run_theory.specs.Laws.{NoAccess, Conflict}
use Rattle.run_theory.specs.Ordered.{Event, event_thread, event_access, event_at, Ordered}
use Rattle.run_theory.specs.Steps.{State}
use Rattle.race_free.proofs.Actions.{access_by}
use Rattle.happens_before.proofs.Acting.{Acts, acts, first_some, second_some, NameOne, name_one}
use Rattle.happens_before.proofs.HandOffs.{hand_offs_ordered}
use Rattle.happens_before.proofs.Objects.{fit_here, objects_ordered}
use Rattle.happens_before.proofs.Sides.{weak_valid, side}

module _ (code : Code) (t : Tables) (ss : List Summary) (vs : List Pair) (rs : List Range) (profile : Profile) (rows : List Grained)
    (valid : is_valid code ≡ true) (plain : is_plain code ≡ true) (constants : constants_fit code ≡ true) (apart : loops_are_apart code ≡ true) (closed : loops_are_closed code ≡ true)
    (points : IsPointsTo code t) (sums : AreSummaries code ss) (pairs : ArePairs code t ss vs) (ranges : rs ≡ ranges_of code t) (grains : AreGrains code vs rs profile rows)
    (setup : SetupView) (limits : IsWithinLimits setup) where
  abbrev W : Code
  W = weakened code t vs rs rows

  valid_here : is_valid W ≡ true
  valid_here = weak_valid code t ss vs rs profile rows valid plain constants apart closed points sums pairs ranges grains setup limits

  fits_here : constants_fit W ≡ true
  fits_here = fit_here code t ss vs rs profile rows valid plain constants apart closed points sums pairs ranges grains setup limits

  run : IsRunnable W
  run = valid_runnable W valid_here

  module _ (labels : List Label) (i j : ℕ) (x y : Event) (lt : i < j) (at_first : event_at (machine W setup) labels (start_state W setup) i ≡ Some x) (at_second : event_at (machine W setup) labels (start_state W setup) j ≡ Some y)
      (ne : event_thread x ≢ event_thread y) (conflict : Conflict (event_access x) (event_access y)) where
    abbrev Goal : Type 0
    Goal = Ordered (event_at (machine W setup) labels (start_state W setup)) i j

    some : event_access x ≢ NoAccess
    some = first_some (event_access x) (event_access y) conflict

    some_too : event_access y ≢ NoAccess
    some_too = second_some (event_access x) (event_access y) conflict

    p : Place W setup labels (start_state W setup) i x
    p = place_at W setup labels (start_state W setup) i x ([], refl) at_first

    q : Place W setup labels (start_state W setup) j y
    q = place_at W setup labels (start_state W setup) j y ([], refl) at_second

    first : Acts W setup p.before p.label x
    first = acts W setup run limits p.before p.label x p.event some

    second : Acts W setup q.before q.label y
    second = acts W setup run limits q.before q.label y q.event some_too

    one : NameOne (next W setup (event_thread x) first.told.thread) (next W setup (event_thread y) second.told.thread)
    one =
        name_one (cells_of W setup) (next W setup (event_thread x) first.told.thread) (next W setup (event_thread y) second.told.thread)
        (subst (λ z. Conflict z (access_by (cells_of W setup) (next W setup (event_thread y) second.told.thread))) first.access (subst (λ z. Conflict (event_access x) z) second.access conflict))

    by_cell : (low : Bool) → nat_lt one.cell (2 * setup.slots) ≡ low → Goal
    by_cell true e =
        hand_offs_ordered W setup valid_here fits_here limits labels i j lt x y p q at_first at_second ne some some_too one.cell one.first_stores one.second_stores one.one_stores (ltb-true one.cell (2 * setup.slots) e)
        (record { reached = p.reached; told = first.told; at = first.at; named = one.first })
        (record { reached = q.reached; told = second.told; at = second.at; named = one.second })
    by_cell false e =
        let high = ltb-false one.cell (2 * setup.slots) e in
        objects_ordered code t ss vs rs profile rows valid plain constants apart closed points sums pairs ranges grains setup limits labels i j lt x y p q at_first at_second ne some first.label second.label one.cell one.first_stores one.second_stores one.one_stores
        (side code t ss vs rs profile rows valid plain constants apart closed points sums pairs ranges grains setup limits p.before (event_thread x) one.cell one.first_stores first.told p.reached first.at one.first (λ l. omega (arith, high, l)))
        (side code t ss vs rs profile rows valid plain constants apart closed points sums pairs ranges grains setup limits q.before (event_thread y) one.cell one.second_stores second.told q.reached second.at one.second (λ l. omega (arith, high, l)))

    pub is_ordered : Goal
    is_ordered = by_cell (nat_lt one.cell (2 * setup.slots)) refl

abbrev OrderedIn : SetupView → List Label → (i j : ℕ) → (x y : Event) → Code → Type 0
OrderedIn setup labels i j x y code =
    event_at (machine code setup) labels (start_state code setup) i ≡ Some x → event_at (machine code setup) labels (start_state code setup) j ≡ Some y →
    event_thread x ≢ event_thread y → Conflict (event_access x) (event_access y) → Ordered (event_at (machine code setup) labels (start_state code setup)) i j

pub ordered : (a : Analysed) (setup : SetupView) (labels : List Label) (i j : ℕ) (first second : Event) (end : State Told) → IsAnalysed a → IsWithinLimits setup → run_of a.weak setup labels ≡ Some end → i < j → OrderedIn setup labels i j first second a.weak
ordered a setup labels i j first second end h limits runs lt =
    subst (OrderedIn setup labels i j first second) (sym h.weak)
    (is_ordered a.plain a.points a.summaries a.pairs (ranges_of a.plain a.points) a.profile a.grains.rows h.valid h.without_locks h.constants h.apart h.closed h.points h.summaries h.pairs refl h.grains setup limits labels i j first second lt)
