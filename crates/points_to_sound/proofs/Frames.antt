-- The frames of a thread: a call adds one, a return takes one away; and what was good stays so when objects are laid.
use Rattle.std.proofs.Common.{◌≡◌, ℕ, zero, suc, ◌+◌, ◌-◌, ◌<◌, List, [], ◌∷◌, ◌++◌, length, take, reverse, Option, Some, None, sym, ap, subst, ◌∙◌, ℤ, arith}
use Rattle.std.specs.Prelude.{slice_get}
use Rattle.std.proofs.lemmas.List.{take_all, take_more, reverse-append}
use Rattle.std.proofs.lemmas.Option.{slice_get_within, get_or_from_slice_get}
use Rattle.sync_objects.specs.Setup.{SetupView}
use Rattle.word_semantics.specs.declared.library_call.LibraryCall.{LibraryCall}
use Rattle.word_semantics.specs.declared.library_call.LibraryCall.TheVariants as call
use Rattle.flow_code.specs.declared.act.Act.{Act}
use Rattle.flow_code.specs.declared.act.Act.TheVariants as act
use Rattle.flow_code.specs.declared.code.Code.{Code}
use Rattle.flow_code.specs.declared.thread.Phase.{Phase}
use Rattle.flow_code.specs.declared.thread.Phase.TheVariants as phase
use Rattle.flow_code.specs.Next.{act_at}
use Rattle.flow_code.specs.Threads.{Frame, Thread}
use Rattle.word_semantics.specs.Registers.{register}
use Rattle.word_semantics.specs.Values.{word}
use Rattle.facts.specs.declared.constraint.Node.{Node}
use Rattle.facts.specs.declared.constraint.Node.TheVariants.{Register, Ended}
use Rattle.points_to_sound.specs.Objects.{Object}
use Rattle.points_to_sound.specs.Pointing.{IsGood, GoodRegisters, GoodFrames, HoldsConstants, GoodKept, GoodPhase, GoodThread}

last_of : (xs : List Frame) (f : Frame) → slice_get xs (length xs - 1) ≡ Some f → xs ≡ take (length xs - 1) xs ++ f ∷ []
last_of xs f h =
    let lt : length xs - 1 < length xs = slice_get_within xs (length xs - 1) f h in
    sym (take_all (length xs - 1 + 1) xs (omega arith)) ∙ take_more xs (length xs - 1) f lt ∙ ap (λ z. take (length xs - 1) xs ++ z ∷ []) (get_or_from_slice_get xs (length xs - 1) f f h)

-- the frames below, once the latest is taken away
pub below_is : (xs : List Frame) (f : Frame) → slice_get xs (length xs - 1) ≡ Some f → reverse xs ≡ f ∷ reverse (take (length xs - 1) xs)
below_is xs f h = ap reverse (last_of xs f h) ∙ reverse-append (take (length xs - 1) xs) (f ∷ [])

pub below_more : (xs : List Frame) (f : Frame) → reverse (xs ++ f ∷ []) ≡ f ∷ reverse xs
below_more xs f = reverse-append xs (f ∷ [])

-- ---- what a call keeps

pub kept_zero : (code : Code) (s : SetupView) (made : List Object) (registers : List ℕ) (o : Option Act) (kept : ℤ) → GoodKept code s made registers o 0 kept
kept_zero code s made registers None kept = tt
kept_zero code s made registers (Some (act.Library c arguments into)) kept = by c
  where
    by : (c : LibraryCall) → GoodKept code s made registers (Some (act.Library c arguments into)) 0 kept
    by call.Join = tt
    by _ = tt
kept_zero code s made registers (Some (act.Compute into w)) kept = tt
kept_zero code s made registers (Some (act.Alloc into site size)) kept = tt
kept_zero code s made registers (Some (act.LoadCell into through)) kept = tt
kept_zero code s made registers (Some (act.StoreCell through from)) kept = tt
kept_zero code s made registers (Some act.Mark) kept = tt
kept_zero code s made registers (Some (act.Call f arguments into)) kept = tt
kept_zero code s made registers (Some (act.Jump to)) kept = tt
kept_zero code s made registers (Some (act.Branch on then_at else_at)) kept = tt
kept_zero code s made registers (Some (act.Return value)) kept = tt
kept_zero code s made registers (Some (act.Take region)) kept = tt
kept_zero code s made registers (Some (act.Give region)) kept = tt

-- ---- objects that are laid

module _ (code : Code) (s : SetupView) (made after : List Object) (grows : (n : Node) (w : ℕ) → IsGood code s made n w → IsGood code s after n w) where
  pub registers_stay : (f : ℕ) (registers : List ℕ) → GoodRegisters code s made f registers → GoodRegisters code s after f registers
  registers_stay f registers g r p = grows (Register f r) (register registers r) (g r p)

  pub frames_stay : (fs : List Frame) → GoodFrames code s made fs → GoodFrames code s after fs
  frames_stay [] g = tt
  frames_stay (f ∷ fs) g = (registers_stay f.function f.registers g.0, g.1, g.2, frames_stay fs g.3)

  pub kept_stays : (registers : List ℕ) (o : Option Act) (n : ℕ) (kept : ℤ) → GoodKept code s made registers o n kept → GoodKept code s after registers o n kept
  kept_stays registers (Some (act.Library c arguments into)) n kept g = by c n g
    where
      by : (c : LibraryCall) (n : ℕ) → GoodKept code s made registers (Some (act.Library c arguments into)) n kept → GoodKept code s after registers (Some (act.Library c arguments into)) n kept
      by call.Join zero g = tt
      by call.Join (suc zero) g = g
      by call.Join (suc (suc n)) g = grows Ended (word kept) g
      by _ n g = tt
  kept_stays registers None n kept g = tt
  kept_stays registers (Some (act.Compute into w)) n kept g = tt
  kept_stays registers (Some (act.Alloc into site size)) n kept g = tt
  kept_stays registers (Some (act.LoadCell into through)) n kept g = tt
  kept_stays registers (Some (act.StoreCell through from2)) n kept g = tt
  kept_stays registers (Some act.Mark) n kept g = tt
  kept_stays registers (Some (act.Call f arguments into)) n kept g = tt
  kept_stays registers (Some (act.Jump to2)) n kept g = tt
  kept_stays registers (Some (act.Branch on then_at else_at)) n kept g = tt
  kept_stays registers (Some (act.Return value)) n kept g = tt
  kept_stays registers (Some (act.Take region)) n kept g = tt
  kept_stays registers (Some (act.Give region)) n kept g = tt

  pub phase_stays : (th : Thread) (p : Phase) → GoodPhase code s made th p → GoodPhase code s after th p
  phase_stays th (phase.Begun f) g = g
  phase_stays th (phase.Loaded f w) g = record { root = g.root; argument = grows (Register f 0) w g.argument }
  phase_stays th phase.Running g = record { frames = frames_stay (th.top ∷ reverse th.below) g.frames; constants = g.constants; kept = kept_stays th.top.registers (act_at code th.top) th.top.made th.top.kept g.kept }
  phase_stays th phase.Fresh g = tt
  phase_stays th phase.Ended g = tt
  phase_stays th phase.Halted g = tt
  phase_stays th (phase.Trapped kind line) g = tt
  phase_stays th phase.Stopped g = tt
  phase_stays th phase.Closed g = tt

-- what was good stays so in a thread with the same frames
pub same_phase : (code : Code) (s : SetupView) (made : List Object) (th q : Thread) (p : Phase) → q.top ≡ th.top → q.below ≡ th.below → GoodPhase code s made th p → GoodPhase code s made q p
same_phase code s made th q (phase.Begun f) e b g = g
same_phase code s made th q (phase.Loaded f w) e b g = g
same_phase code s made th q phase.Running e b g = record {
  frames = subst (λ fs. GoodFrames code s made (q.top ∷ reverse fs)) (sym b) (subst (λ f. GoodFrames code s made (f ∷ reverse th.below)) (sym e) g.frames);
  constants = subst (λ f. HoldsConstants code f) (sym e) g.constants;
  kept = subst (λ (f : Frame). GoodKept code s made f.registers (act_at code f) f.made f.kept) (sym e) g.kept;
}
same_phase code s made th q phase.Fresh e b g = tt
same_phase code s made th q phase.Ended e b g = tt
same_phase code s made th q phase.Halted e b g = tt
same_phase code s made th q (phase.Trapped kind line) e b g = tt
same_phase code s made th q phase.Stopped e b g = tt
same_phase code s made th q phase.Closed e b g = tt

pub same_thread : (code : Code) (s : SetupView) (made : List Object) (th q : Thread) → q.top ≡ th.top → q.below ≡ th.below → q.phase ≡ th.phase → GoodThread code s made th → GoodThread code s made q
same_thread code s made th q e b p g = subst (GoodPhase code s made q) (sym p) (same_phase code s made th q th.phase e b g)
