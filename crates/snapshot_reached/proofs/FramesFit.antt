-- The lines of the frames of each thread of a reached state are as they must be.
use Rattle.std.proofs.Common.{◌≡◌, ℕ, ◌≤◌, ⊎_elim, ◌==◌, true, List, [], ◌∷◌, ◌++◌, length, map, Option, Some, None, refl, arith, nat_le}
use Rattle.std.specs.Prelude.{slice_get, is_some}
use Rattle.std.proofs.lemmas.Bool.{le-leb, eq-eqb, or_left, or_right}
use Rattle.sync_objects.specs.Setup.{SetupView, IsWithinLimits}
use Rattle.word_semantics.specs.Registers.{words_of}
use Rattle.word_semantics.specs.Values.{number, word}
use Rattle.flow_code.specs.declared.act.Act.{Act}
use Rattle.flow_code.specs.declared.act.Act.TheVariants as act
use Rattle.flow_code.specs.declared.code.Code.{Code}
use Rattle.flow_code.specs.declared.thread.Phase.{Phase}
use Rattle.flow_code.specs.declared.thread.Phase.TheVariants as phase
use Rattle.flow_code.specs.Next.{act_at}
use Rattle.flow_code.specs.Ranges.{most_made}
use Rattle.flow_code.specs.Threads.{Frame, Thread, instr_at, registers_in}
use Rattle.flow_code.specs.Valid.{is_valid}
use Rattle.flow_code.proofs.Runnable.{valid_runnable}
use Rattle.thread_interpreter.specs.Parts.{frame_part, frames_in, part_of}
use Rattle.thread_interpreter.specs.declared.part.FramePart.{FramePart}
use Rattle.core_run.specs.Histories.{IsReachable}
use Rattle.core_run.specs.Machine.{Told}
use Rattle.core_run.proofs.Reached.{kept}
use Rattle.run_theory.specs.Steps.{State}
use Rattle.snapshots.specs.Conditions.{AllFit, calls, call_goes_on, goes_on, is_called, frame_fits, frames_judged}
use Rattle.snapshot_reached.proofs.Cells.{both}
use Rattle.frame_sound.proofs.Calls.{shown}
use Rattle.frame_sound.proofs.Shapes.{GoesAt, Stands, Running, Called, Chain, stands_at}
use Rattle.frame_sound.proofs.Steps.{Fact}
use Rattle.frame_sound.proofs.Runs.{facts_hold}

module _ (code : Code) (s : SetupView) (few : s.slots ≤ 16) where
  -- the frame before as a checkpoint lists it
  abbrev part_before : Option Frame → Option FramePart
  part_before None = None
  part_before (Some g) = Some (frame_part g)

  is_called_as : (before : Option Frame) (f : ℕ) → Called code s.slots before f → is_called code (part_before before) f ≡ true
  is_called_as None f h = refl
  is_called_as (Some g) f h = h

  goes_on_as : (o : Option Act) (f : Frame) → GoesAt code s.slots o f.made f.kept f.registers → goes_on code s o (frame_part f) ≡ true
  goes_on_as None f h = refl
  goes_on_as (Some (act.Compute into work)) f h = refl
  goes_on_as (Some (act.Alloc into site size)) f h = refl
  goes_on_as (Some (act.LoadCell into through)) f h = refl
  goes_on_as (Some (act.StoreCell through from)) f h = refl
  goes_on_as (Some act.Mark) f h = refl
  goes_on_as (Some (act.Call g arguments into)) f h = refl
  goes_on_as (Some (act.Library c arguments into)) f h =
      let more = call_goes_on code.sites s.slots c (words_of f.registers arguments) f.made (number (word f.kept)) in
      ⊎_elim
      (λ e. or_left (f.made == 0) more (eq-eqb f.made 0 e))
      (λ e. or_right (f.made == 0) more (shown code.sites s.slots (words_of f.registers arguments) few c f.made f.kept e))
      h
  goes_on_as (Some (act.Jump to)) f h = refl
  goes_on_as (Some (act.Branch on then_at else_at)) f h = refl
  goes_on_as (Some (act.Return value)) f h = refl
  goes_on_as (Some (act.Take region)) f h = refl
  goes_on_as (Some (act.Give region)) f h = refl

  waits_on : (o : Option Act) (f : FramePart) (callee : ℕ) → calls o callee ≡ true → goes_on code s o f ≡ true
  waits_on (Some (act.Call g arguments into)) f callee h = refl
  waits_on _ f callee h = cc

  fits : (before : Option Frame) (f : Frame) → Stands code s.slots f → f.made ≤ most_made → goes_on code s (act_at code f) (frame_part f) ≡ true → Called code s.slots before f.function → frame_fits code s (part_before before) (frame_part f) ≡ true
  fits before f h made goes called =
      both (is_some (instr_at code f)) _ (stands_at code f h.at)
      (both (length f.registers == registers_in (slice_get code.functions f.function)) _ (eq-eqb (length f.registers) (registers_in (slice_get code.functions f.function)) h.whole)
      (both (nat_le f.made most_made) _ (le-leb f.made most_made made)
      (both (goes_on code s (act_at code f) (frame_part f)) (is_called code (part_before before) f.function) goes (is_called_as before f.function called))))

  judged : (before : Option Frame) (gs : List Frame) (top : Frame) → Chain code s.slots before gs top.function → Running code s.slots top → top.made ≤ most_made → AllFit (frames_judged code s (part_before before) (map frame_part (gs ++ top ∷ [])))
  judged before [] top called runs made = (fits before top runs.stands made (goes_on_as (act_at code top) top runs.goes) called, tt)
  judged before (g ∷ gs) top h runs made =
      let one : g.made ≡ 1 = h.1.made in
      (fits before g h.1.stands (omega (arith, one)) (waits_on (act_at code g) (frame_part g) h.1.callee h.1.call) h.0, judged (Some g) gs top h.2 runs made)

  in_phase : (valid : is_valid code ≡ true) (th : Thread) (p : Phase) → th.phase ≡ p → th.top.made ≤ most_made → Fact code valid s th → AllFit (frames_judged code s None (map frame_part (frames_in p th)))
  in_phase valid th phase.Running e made h = let f = h e in judged None th.below th.top f.below f.top made
  in_phase valid th _ e made h = tt

pub frames_fit : (code : Code) → is_valid code ≡ true → (s : SetupView) → IsWithinLimits s → (st : State Told) → IsReachable code s st → (t : ℕ) (told : Told) → slice_get st.threads t ≡ Some told → AllFit (frames_judged code s None (part_of told.thread).frames)
frames_fit code valid s limits st reached t told at =
    let r = (kept code s (valid_runnable code valid) limits st reached).in_range.each t told at in
    in_phase code s limits.few_slots valid told.thread told.thread.phase refl r.few_made (facts_hold code valid s limits st reached t told at)
