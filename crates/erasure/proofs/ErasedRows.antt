-- Worked rows: what is left of a run, and of a thread, without weak locks.
use Rattle.std.proofs.Common.{◌≡◌, ℕ, false, List, [], ◌∷◌, map, None, refl, pos, codes}
use Rattle.sync_objects.specs.declared.object.ObjId.TheVariants as object
use Rattle.sync_objects.specs.declared.operation.Op.{Op}
use Rattle.sync_objects.specs.declared.operation.Op.TheVariants as op
use Rattle.word_semantics.specs.declared.event.Action.{Action}
use Rattle.word_semantics.specs.declared.event.Action.TheVariants as action
use Rattle.flow_code.specs.declared.act.Act.{Act}
use Rattle.flow_code.specs.declared.act.Act.TheVariants as act
use Rattle.flow_code.specs.declared.act.Instr.{Instr}
use Rattle.flow_code.specs.declared.code.Code.{Code}
use Rattle.flow_code.specs.Threads.{Frame}
use Rattle.core_tree.specs.Runs.{done}
use Rattle.lowering_simulation.specs.RunEvents.{without_stripes}
use Rattle.lowering_simulation.specs.SourceRuns.{ThreadTransition, own, stops, bytes_of}
use Rattle.erasure.proofs.Bare.{frame_with, bare_frame}

-- ---- transitions

transition : ℕ → Action → ThreadTransition
transition t a = record { thread = t; transition = own (done a [] (pos 0)) }

on_stripe : Op → Action
on_stripe o = action.Operate o (object.Weak 0 3)

stop : ThreadTransition
stop = record { thread = 1; transition = stops }

-- a stripe is taken, revoked and taken again, and given after a store
transitions_row :
    without_stripes (transition 0 (on_stripe op.Take) ∷ transition 0 (on_stripe op.Revoke) ∷ transition 0 (on_stripe op.Retake) ∷ transition 0 (action.Store 7 1) ∷ transition 0 (on_stripe op.Give) ∷ stop ∷ [])
    ≡ transition 0 (action.Store 7 1) ∷ stop ∷ []
unfolding transition on_stripe stop
transitions_row = refl

print : ℕ → List ℕ → ThreadTransition
print t out = record { thread = t; transition = own (done (action.Operate op.Print object.Output) out (pos 0)) }

-- what is printed comes in the order of the transitions, whatever threads print
bytes_row : bytes_of (print 1 (codes "ab") ∷ transition 0 (on_stripe op.Take) ∷ stop ∷ print 0 (codes "c") ∷ []) ≡ codes "abc"
unfolding print transition on_stripe stop
bytes_row = refl

-- ---- frames

instr : Act → Instr
instr a = record { at = record { line = 1; column = 1 }; act = a }

-- a Mark within a region
guarded : Code
guarded = record {
  functions = record {
    name = [];
    line = 1;
    formals = 0;
    registers = 0;
    pointers = [];
    gives_pointer = false;
    instrs = map instr (act.Take 0 ∷ act.Mark ∷ act.Give 0 ∷ act.Return None ∷ []);
    loops = [];
    regions = [];
  } ∷ [];
  sites = [];
  globals = [];
  global_kinds = [];
  global_bases = [];
  locks = [];
}

frame : ℕ → Frame
frame k = frame_with 0 k 0 (pos 0) []

-- at the Take and at the Mark it stands at the Mark, and at the Give and the return at the return
frames_row : map (bare_frame guarded) (frame 0 ∷ frame 1 ∷ frame 2 ∷ frame 3 ∷ []) ≡ frame 0 ∷ frame 0 ∷ frame 1 ∷ frame 1 ∷ []
unfolding instr guarded frame
frames_row = refl
