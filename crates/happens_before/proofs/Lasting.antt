-- Objects stay where they are: the words by which one cell is accessed at two places of a run point into one object.
use Rattle.std.proofs.Common.{◌≡◌, ◌≢◌, ℕ, suc, ◌+◌, ◌<◌, ◌≤◌, inl, inr, true, List, [], Some, refl, sym, ap, subst, ◌∙◌, arith}
use Rattle.std.specs.Prelude.{slice_get}
use Rattle.std.proofs.lemmas.Option.{same_Some}
use Rattle.rr_base.specs.Words.{site_of, base_of, length_of, offset_of}
use Rattle.sync_objects.specs.Setup.{SetupView, IsWithinLimits}
use Rattle.word_semantics.specs.Registers.{register}
use Rattle.flow_code.specs.declared.code.Code.{Code}
use Rattle.flow_code.specs.declared.thread.Phase.{Phase}
use Rattle.flow_code.specs.declared.thread.Phase.TheVariants as phase
use Rattle.flow_code.specs.Constants.{constants_fit}
use Rattle.flow_code.specs.Next.{pointers_in}
use Rattle.flow_code.specs.Settle.{settled, IsRunnable}
use Rattle.flow_code.specs.Threads.{Thread}
use Rattle.flow_code.specs.Valid.{is_valid}
use Rattle.flow_code.specs.Works.{is_pointer}
use Rattle.flow_code.proofs.Counts.{settled_keeps_all}
use Rattle.flow_code.proofs.Runnable.{valid_runnable}
use Rattle.core_run.specs.Histories.{IsReachable}
use Rattle.core_run.specs.Machine.{Told, machine, start_state}
use Rattle.facts.specs.declared.constraint.Node.{Node}
use Rattle.facts.specs.declared.constraint.Node.TheVariants.{Register}
use Rattle.lock_ownership.proofs.Stepping.{IsAccessStep, StepKind, HasStepped, has_stepped}
use Rattle.lock_ownership.proofs.Turns.{Place, along}
use Rattle.run_theory.specs.Labels.{Label, label_thread}
use Rattle.run_theory.specs.Laws.{NoAccess}
use Rattle.run_theory.specs.Ordered.{Event, Did, event_access, event_of, state_at}
use Rattle.run_theory.specs.Steps.{State, stepped}
use Rattle.points_to_sound.specs.Creations.{HandsOver}
use Rattle.points_to_sound.specs.Objects.{Object, IsObject, PointsInto, HasCell}
use Rattle.points_to_sound.specs.Pointing.{IsGood, nowhere, points, GoodPhase, GoodRunning}
use Rattle.points_to_sound.specs.States.{PointsWell}
use Rattle.points_to_sound.proofs.HandedOver.{hands_over}
use Rattle.points_to_sound.proofs.Mains.{main_is}
use Rattle.points_to_sound.proofs.Moved.{zs}
use Rattle.points_to_sound.proofs.Pointed.{PointsOn, points_on}
use Rattle.points_to_sound.proofs.Settling.{Sets, Grows}
use Rattle.points_to_sound.proofs.StartPoints.{sets, always_points}

-- a pointer register of a running thread, once it has made its quiet steps, holds this word, which points to the cell
pub record PointsAt (code : Code) (s : SetupView) (st : State Told) (t : ℕ) (told : Told) (v c : ℕ) : Type 0 where
  pub at : slice_get st.threads t ≡ Some told
  pub runs : told.thread.phase ≡ phase.Running
  pub through : ℕ
  pub pointer : is_pointer (pointers_in (slice_get code.functions (settled code s t told.thread).top.function)) through ≡ true
  pub word : register (settled code s t told.thread).top.registers through ≡ v
  pub some : site_of v ≡ 0 → ⊥
  pub cell : c ≡ base_of v + offset_of v
  pub within : offset_of v < length_of v

-- both words point into objects with one site, first cell and size
pub record OneObject (v w : ℕ) : Type 0 where
  pub site : site_of v ≡ site_of w
  pub base : base_of v ≡ base_of w
  pub cells : length_of v ≡ length_of w

module _ (code : Code) (s : SetupView) (valid : is_valid code ≡ true) (fit : constants_fit code ≡ true) (limits : IsWithinLimits s) where
  run : IsRunnable code
  run = valid_runnable code valid

  x : Sets code s
  x = sets code s valid fit limits (main_is code valid)

  -- ---- one step

  -- the object into which a good word points
  object_of : (made : List Object) (n : Node) (v : ℕ) → IsGood code s made n v → (site_of v ≡ 0 → ⊥) → (o : Object) × IsObject code s made o × PointsInto o v
  object_of made n v (nowhere e) some = absurd (some e)
  object_of made n v (points o is p may) some = (o, is, p)

  one_word : (made : List Object) (o p : Object) (v w : ℕ) → o ≡ p → PointsInto o v → PointsInto p w → OneObject v w
  one_word made o p v w e a b = record {
    site = a.site ∙ ap (λ (z : Object). z.site) e ∙ sym b.site;
    base = a.base ∙ ap (λ (z : Object). z.base) e ∙ sym b.base;
    cells = a.cells ∙ ap (λ (z : Object). z.cells) e ∙ sym b.cells;
  }

  has_cell : (o : Object) (v c : ℕ) → PointsInto o v → c ≡ base_of v + offset_of v → offset_of v < length_of v → HasCell o c
  has_cell o v c p e lt = let b = p.base in let n = p.cells in record { from = omega (arith, b, e); to = omega (arith, b, n, e, lt) }

  module _ (st st1 : State Told) (l : Label) (reached : IsReachable code s st) (e : stepped (machine code s) st l ≡ Some st1) where
    abbrev t : ℕ
    t = label_thread l

    h : HasStepped code s st l st1
    h = has_stepped code s st st1 l e

    hands : HandsOver code s st
    hands = hands_over code s run limits st reached

    module _ (made : List Object) (g : PointsWell code s made st) where
      -- the objects once the step's thread has made its quiet steps
      abbrev now : List Object
      now = (zs code s x st st1 l reached h e hands made g).settling.after

      grown : Grows code s made now
      grown = (zs code s x st st1 l reached h e hands made g).settling.grows

      running : (q : Thread) (p : Phase) → p ≡ phase.Running → GoodPhase code s now q p → GoodRunning code s now q
      running q p is good = subst (GoodPhase code s now q) is good

      good_before : (through : ℕ) → h.before.thread.phase ≡ phase.Running → is_pointer (pointers_in (slice_get code.functions (settled code s t h.before.thread).top.function)) through ≡ true → IsGood code s now (Register (settled code s t h.before.thread).top.function through) (register (settled code s t h.before.thread).top.registers through)
      good_before through runs pointer = (running (settled code s t h.before.thread) (settled code s t h.before.thread).phase ((settled_keeps_all code s t h.before.thread).phase ∙ runs) (zs code s x st st1 l reached h e hands made g).settling.good).frames.0 through pointer

      abbrev Good : Told → ℕ → Type 0
      Good told through = told.thread.phase ≡ phase.Running → is_pointer (pointers_in (slice_get code.functions (settled code s t told.thread).top.function)) through ≡ true → IsGood code s now (Register (settled code s t told.thread).top.function through) (register (settled code s t told.thread).top.registers through)

      good_at : (told : Told) (v c : ℕ) (p : PointsAt code s st t told v c) → IsGood code s now (Register (settled code s t told.thread).top.function p.through) v
      good_at told v c p =
          let same : h.before ≡ told = same_Some h.before told (sym h.stands ∙ p.at) in
          subst (IsGood code s now (Register (settled code s t told.thread).top.function p.through)) p.word (subst (λ z. Good z p.through) same (good_before p.through) p.runs p.pointer)

      -- after an access all that was good is good
      access_step : (y : Event) → event_of (machine code s) st l ≡ Some y → event_access y ≢ NoAccess → IsAccessStep code s st.words st1.words (event_of (machine code s) st l) l h.before.thread h.after.thread
      access_step y is some = by h.kind
        where
          by : StepKind code s st.words st1.words (event_of (machine code s) st l) l h.before.thread h.after.thread → IsAccessStep code s st.words st1.words (event_of (machine code s) st l) l h.before.thread h.after.thread
          by (inl a) = a
          by (inr o) = absurd (some (ap event_access (same_Some y (Did t o.noted o.old o.answer) (sym is ∙ o.happens))))

      abbrev On : Type 0
      On = PointsOn code s x st st1 l reached h e hands made g

      on : On
      on = points_on code s x st st1 l reached h e hands made g

      still_good : (y : Event) → event_of (machine code s) st l ≡ Some y → event_access y ≢ NoAccess → Grows code s now on.after
      still_good y is some = on.later (access_step y is some)

  -- ---- many steps

  abbrev GrowsTo : State Told → State Told → Type 0
  GrowsTo a b = (made : List Object) → PointsWell code s made a → (after : List Object) × PointsWell code s after b × Grows code s made after

  grows_on : (labels : List Label) (a b : State Told) (i j : ℕ) → i ≤ j → state_at (machine code s) labels (start_state code s) i ≡ Some a → state_at (machine code s) labels (start_state code s) j ≡ Some b → GrowsTo a b
  grows_on labels a b i j le e f =
      along code s GrowsTo (λ y made g. (made, g, λ n w k. k))
      (λ y z w p q made g. let r = p made g in let u = q r.0 r.1 in (u.0, u.1, λ n v k. u.2 n v (r.2 n v k)))
      (λ y z l r q made g. let o = on y z l r q made g in (o.after, o.points, o.grows))
      labels (start_state code s) a b i j ([], refl) le e f

  module _ (labels : List Label) (i j : ℕ) (lt : i < j) (y z : Event) (p : Place code s labels (start_state code s) i y) (q : Place code s labels (start_state code s) j z) (some : event_access y ≢ NoAccess) where
    pub one_object : (told other : Told) (v w c : ℕ) → PointsAt code s p.before (label_thread p.label) told v c → PointsAt code s q.before (label_thread q.label) other w c → OneObject v w
    one_object told other v w c a b =
        let start = always_points code s valid fit limits (main_is code valid) p.before p.reached in
        let n = Register (settled code s (label_thread p.label) told.thread).top.function a.through in
        let m = Register (settled code s (label_thread q.label) other.thread).top.function b.through in
        let first = good_at p.before p.after p.label p.reached p.steps start.0 start.1 told v c a in
        let o = on p.before p.after p.label p.reached p.steps start.0 start.1 in
        let after = still_good p.before p.after p.label p.reached p.steps start.0 start.1 y p.event some n v first in
        let more = grows_on labels p.after q.before (suc i) j (omega (arith, lt)) p.next q.at o.after o.points in
        let there = grown q.before q.after q.label q.reached q.steps more.0 more.1 n v (more.2 n v after) in
        let second = good_at q.before q.after q.label q.reached q.steps more.0 more.1 other w c b in
        let objects = now q.before q.after q.label q.reached q.steps more.0 more.1 in
        let one = object_of objects n v there a.some in
        let two = object_of objects m w second b.some in
        let laid = (zs code s x q.before q.after q.label q.reached (h q.before q.after q.label q.reached q.steps) q.steps (hands q.before q.after q.label q.reached q.steps) more.0 more.1).settling.laid.laid in
        one_word objects one.0 two.0 v w (laid.one one.0 two.0 c one.1 two.1 (has_cell one.0 v c one.2 a.cell a.within) (has_cell two.0 w c two.2 b.cell b.within)) one.2 two.2
