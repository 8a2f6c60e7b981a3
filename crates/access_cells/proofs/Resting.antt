-- Once all threads have made their quiet steps, all pointers point well, with the objects that these steps have laid.
use Rattle.std.proofs.Common.{◌≡◌, ℕ, zero, suc, ◌+◌, ◌<◌, ⊎_elim, List, [], ◌∷◌, ◌++◌, length, Some, refl, sym, ap, subst, ◌∙◌, arith}
use Rattle.std.specs.Prelude.{slice_get, slice_set}
use Rattle.std.proofs.lemmas.Option.{same_Some}
use Rattle.sync_objects.specs.Setup.{SetupView}
use Rattle.flow_code.specs.declared.code.Code.{Code}
use Rattle.flow_code.specs.declared.thread.Phase.{Phase}
use Rattle.flow_code.specs.declared.thread.Phase.TheVariants as phase
use Rattle.flow_code.specs.Settle.{settled}
use Rattle.flow_code.specs.Threads.{Thread}
use Rattle.core_run.specs.Machine.{Told}
use Rattle.run_theory.specs.Steps.{State}
use Rattle.facts.specs.declared.constraint.Node.TheVariants.{Register, Ended}
use Rattle.points_to_sound.specs.Creations.{creation}
use Rattle.points_to_sound.specs.Objects.{Object, AreLaidOut}
use Rattle.points_to_sound.specs.Pointing.{GoodThread}
use Rattle.points_to_sound.specs.States.{marks_of, PointsWell}
use Rattle.points_to_sound.proofs.Frames.{phase_stays}
use Rattle.points_to_sound.proofs.Handing.{was_creating}
use Rattle.points_to_sound.proofs.Layouts.{set_got}
use Rattle.points_to_sound.proofs.Moved.{map_got, map_set}
use Rattle.points_to_sound.proofs.Settling.{Sets, Settled, settled_good}
use Rattle.points_to_sound.proofs.ThreadSteps.{Arrives}
use Rattle.access_cells.specs.Accesses.{resting, resting_from, at_rest}

-- ---- one thread

module _ (code : Code) (s : SetupView) (x : Sets code s) (st : State Told) (made : List Object) (g : PointsWell code s made st) (t : ℕ) (told : Told) (at : slice_get st.threads t ≡ Some told) (lt : t < s.slots) where
  abbrev z : Thread
  z = settled code s t told.thread

  -- the state in which this thread has made its quiet steps
  abbrev settled_state : State Told
  settled_state = record st { threads = slice_set st.threads t (resting code s t told) }

  arrives_of : (p : Phase) → told.thread.phase ≡ p → Arrives code s made st.words t p
  arrives_of (phase.Begun f) i = λ w some e. g.arrived t f w told some at i e
  arrives_of phase.Fresh i = tt
  arrives_of (phase.Loaded f w) i = tt
  arrives_of phase.Running i = tt
  arrives_of phase.Ended i = tt
  arrives_of phase.Halted i = tt
  arrives_of (phase.Trapped kind line) i = tt
  arrives_of phase.Stopped i = tt
  arrives_of phase.Closed i = tt

  abbrev Now : Type 0
  Now = Settled code s x t lt made (marks_of st.threads) st.words told.thread z

  now : Now
  now = settled_good code s x t lt made (marks_of st.threads) st.words told.thread (map_got (λ (y : Told). y.thread.arena) st.threads t told at) (record { laid = g.laid; cells = g.cells }) g.results (g.threads t told at) (arrives_of told.thread.phase refl)

  points : (n : Now) → PointsWell code s n.settling.after settled_state
  points n = record {
    laid = subst (AreLaidOut code s n.settling.after st.words) (sym (map_set (λ (y : Told). y.thread.arena) st.threads t (resting code s t told))) n.settling.laid.laid;
    cells = n.settling.laid.cells;
    results = λ k w few e. n.settling.grows Ended w (g.results k w few e);
    threads = λ u other e. ⊎_elim
        (λ o. phase_stays code s made n.settling.after n.settling.grows other.thread other.thread.phase (g.threads u other o.1))
        (λ o. subst (λ (y : Told). GoodThread code s n.settling.after y.thread) o.1 n.settling.good)
        (set_got st.threads t u (resting code s t told) other e);
    handed = λ u w other y e c handed v. ⊎_elim
        (λ o. n.settling.grows (Register y.function 0) w (g.handed u w other y o.1 c handed v))
        (λ o. n.settling.grows (Register y.function 0) w (g.handed t w told y at (was_creating code s t told.thread y (subst (λ (q : Told). creation code q.thread ≡ Some y) (sym o.1) c)) handed v))
        (set_got st.threads t u (resting code s t told) other e);
    ready = λ k f few is. let r = g.ready k f few is in record { started = r.started; argument = λ w v. n.settling.grows (Register f 0) w (r.argument w v) };
    arrived = λ u f w other some e p v. ⊎_elim
        (λ o. n.settling.grows (Register f 0) w (g.arrived u f w other some o.1 p v))
        (λ o. n.settling.grows (Register f 0) w (g.arrived u f w told some (ap (slice_get st.threads) o.0 ∙ at) (sym n.phase ∙ subst (λ (q : Told). q.thread.phase ≡ phase.Begun f) (sym o.1) p) v))
        (set_got st.threads t u (resting code s t told) other e);
  }

  settle_one : (after : List Object) × PointsWell code s after settled_state
  settle_one = (now.settling.after, points now)

-- ---- all threads

set_after : (done : List Told) (x y : Told) (rest : List Told) → slice_set (done ++ x ∷ rest) (length done) y ≡ (done ++ y ∷ []) ++ rest
set_after [] x y rest = refl
set_after (d ∷ done) x y rest = ap (λ zs. d ∷ zs) (set_after done x y rest)

get_after : (done : List Told) (x : Told) (rest : List Told) → slice_get (done ++ x ∷ rest) (length done) ≡ Some x
get_after [] x rest = refl
get_after (d ∷ done) x rest = get_after done x rest

long_after : (done : List Told) (x : Told) (rest : List Told) → length done < length (done ++ x ∷ rest)
long_after [] x rest = omega arith
long_after (d ∷ done) x rest = let h = long_after done x rest in omega arith

same_long : (done : List Told) (x y : Told) (rest : List Told) → length ((done ++ y ∷ []) ++ rest) ≡ length (done ++ x ∷ rest)
same_long [] x y rest = refl
same_long (d ∷ done) x y rest = ap suc (same_long done x y rest)

one_longer : (done : List Told) (y : Told) → length (done ++ y ∷ []) ≡ length done + 1
one_longer [] y = refl
one_longer (d ∷ done) y = let h = one_longer done y in omega arith

joined_up : (done : List Told) (y : Told) (rest : List Told) → (done ++ y ∷ []) ++ rest ≡ done ++ y ∷ rest
joined_up [] y rest = refl
joined_up (d ∷ done) y rest = ap (λ zs. d ∷ zs) (joined_up done y rest)

module _ (code : Code) (s : SetupView) (x : Sets code s) (words : List ℕ) where
  abbrev state_with : List Told → State Told
  state_with threads = record { words = words; threads = threads }

  abbrev Points : List Told → Type 0
  Points threads = (after : List Object) × PointsWell code s after (state_with threads)

  -- the first threads have settled, the rest follow
  rest_settles : (done rest : List Told) → length (done ++ rest) ≡ s.slots → Points (done ++ rest) → Points (done ++ resting_from code s (length done) rest)
  rest_settles done [] long p = p
  rest_settles done (y ∷ rest) long p =
      let few = long_after done y rest in
      let q = resting code s (length done) y in
      let one = settle_one code s x (state_with (done ++ y ∷ rest)) p.0 p.1 (length done) y (get_after done y rest) (omega arith) in
      let next : Points ((done ++ q ∷ []) ++ rest) = subst Points (set_after done y q rest) one in
      let more = rest_settles (done ++ q ∷ []) rest (same_long done y q rest ∙ long) next in
      subst Points (joined_up done q (resting_from code s (length done + 1) rest)) (subst (λ n. Points ((done ++ q ∷ []) ++ resting_from code s n rest)) (one_longer done q) more)

-- all pointers point well once all threads have made their quiet steps
pub rests_well : (code : Code) (s : SetupView) → Sets code s → (st : State Told) → length st.threads ≡ s.slots → (made : List Object) → PointsWell code s made st → (after : List Object) × PointsWell code s after (at_rest code s st)
rests_well code s x st long made g = rest_settles code s x st.words [] st.threads long (made, g)

resting_got : (code : Code) (s : SetupView) (k : ℕ) (xs : List Told) (i : ℕ) (told : Told) → slice_get xs i ≡ Some told → slice_get (resting_from code s k xs) i ≡ Some (resting code s (k + i) told)
resting_got code s k [] i told e = cc
resting_got code s k (y ∷ xs) zero told e =
    let at : k ≡ k + 0 = omega arith in
    ap (λ (q : Told). Some (resting code s k q)) (same_Some y told e) ∙ ap (λ n. Some (resting code s n told)) at
resting_got code s k (y ∷ xs) (suc i) told e =
    let at : k + 1 + i ≡ k + suc i = omega arith in
    resting_got code s (k + 1) xs i told e ∙ ap (λ n. Some (resting code s n told)) at

-- a thread then is as it is after its own quiet steps
pub resting_at : (code : Code) (s : SetupView) (st : State Told) (t : ℕ) (told : Told) → slice_get st.threads t ≡ Some told → slice_get (at_rest code s st).threads t ≡ Some (resting code s t told)
resting_at code s st t told e =
    let at : 0 + t ≡ t = omega arith in
    resting_got code s 0 st.threads t told e ∙ ap (λ n. Some (resting code s n told)) at
