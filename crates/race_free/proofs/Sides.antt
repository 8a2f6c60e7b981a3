-- A thread of weakened code that comes to an access, beside the plain code's thread that comes to the same.
use Rattle.std.proofs.Common.{◌≡◌, ℕ, true, Option, Some, None, refl, sym, ap, subst, ◌∙◌}
use Rattle.std.specs.Prelude.{slice_get, option_map}
use Rattle.std.specs.List.{Contains}
use Rattle.std.proofs.lemmas.Bool.{and_parts}
use Rattle.std.proofs.lemmas.Option.{same_Some}
use Rattle.rr_base.specs.declared.layout.Place.{Place}
use Rattle.sync_objects.specs.Setup.{SetupView}
use Rattle.word_semantics.specs.declared.event.Action.{Action}
use Rattle.flow_code.specs.declared.act.Act.{Act}
use Rattle.flow_code.specs.declared.act.Act.TheVariants as act
use Rattle.flow_code.specs.declared.act.Instr.{Instr}
use Rattle.flow_code.specs.declared.code.Code.{Code}
use Rattle.flow_code.specs.declared.code.Function.{Function}
use Rattle.flow_code.specs.declared.thread.Phase.TheVariants as phase
use Rattle.flow_code.specs.Next.{act_in, act_at, pointers_in}
use Rattle.flow_code.specs.Settle.{settled}
use Rattle.flow_code.specs.Threads.{Frame, Thread, instr_in, instrs_in}
use Rattle.flow_code.specs.Valid.{is_valid}
use Rattle.flow_code.specs.Works.{is_pointer}
use Rattle.flow_code.proofs.Counts.{settled_keeps_all}
use Rattle.flow_code.proofs.ValidParts.{act_is_fit, function_is_fit}
use Rattle.facts.specs.Accesses.{Access, access_of}
use Rattle.facts.specs.declared.pair.AccessAt.{AccessAt}
use Rattle.facts.specs.Pairs.{access_in, act_of, places_of, places_through}
use Rattle.facts.specs.PointsTo.{Tables, IsPointsTo, MayPoint}
use Rattle.facts.specs.Summaries.{StandsAt}
use Rattle.facts.specs.declared.constraint.Node.TheVariants.{Register}
use Rattle.weak_code.specs.Weakened.{retarget}
use Rattle.weak_valid.proofs.RegionsFit.{access_pointer}
use Rattle.core_run.specs.Machine.{Told}
use Rattle.erased_states.specs.States.{IsPlainAccess, plain_place}

-- the place of a frame's instruction
abbrev pub here : Frame → AccessAt
here f = record { function = f.function; instr = f.instr }

-- an access isn't moved
pub unmoved : (f : ℕ → ℕ) (o : Option Act) (x : Act) (a : Access) → option_map (retarget f) o ≡ Some x → access_of x ≡ Some a → o ≡ Some x
unmoved f None x a h k = cc
unmoved f (Some (act.Jump to)) x a h k = let e : act.Jump (f to) ≡ x = same_Some (act.Jump (f to)) x h in let n : None ≡ Some a = ap access_of e ∙ k in cc
unmoved f (Some (act.Branch on y z)) x a h k = let e : act.Branch on (f y) (f z) ≡ x = same_Some (act.Branch on (f y) (f z)) x h in let n : None ≡ Some a = ap access_of e ∙ k in cc
unmoved f (Some (act.Compute into w)) x a h k = h
unmoved f (Some (act.Alloc into site size)) x a h k = h
unmoved f (Some (act.LoadCell into through)) x a h k = h
unmoved f (Some (act.StoreCell through from)) x a h k = h
unmoved f (Some (act.Call g arguments into)) x a h k = h
unmoved f (Some (act.Library c arguments into)) x a h k = h
unmoved f (Some (act.Return value)) x a h k = h
unmoved f (Some (act.Take r)) x a h k = h
unmoved f (Some (act.Give r)) x a h k = h
unmoved f (Some act.Mark) x a h k = h

act_same : (o : Option Function) (k : ℕ) → act_in (slice_get (instrs_in o) k) ≡ act_in (instr_in o k)
act_same None k = refl
act_same (Some f) k = refl

-- what an access at which a frame stands may touch
pub touches : (code : Code) (t : Tables) (f : Frame) (x : Act) (a : Access) (p : Place) → IsPointsTo code t → act_at code f ≡ Some x → access_of x ≡ Some a → MayPoint code (Register f.function a.through) p → (access_in (act_of code (here f)) ≡ Some a) × Contains (places_of code t (here f)) p
touches code t f x a p points at is may =
    let does : access_in (act_of code (here f)) ≡ Some a = ap access_in (act_same (slice_get code.functions f.function) f.instr ∙ at) ∙ is in
    (does, subst (λ o. Contains (places_through t f.function o) p) (sym does) (((points.of_registers f.function a.through).of p).1 may))

-- the register of an access is a pointer
pub through_pointer : (code : Code) (f : Frame) (fn : Function) (i : Instr) (a : Access) → is_valid code ≡ true → StandsAt code f.function f.instr fn i → access_of i.act ≡ Some a → is_pointer (pointers_in (slice_get code.functions f.function)) a.through ≡ true
through_pointer code f fn i a valid stands is =
    let fits = act_is_fit code fn (function_is_fit code valid f.function fn stands.function) f.instr i stands.instr in
    ap (λ o. is_pointer (pointers_in o) a.through) stands.function ∙ (and_parts (Rattle.flow_code.specs.Kinds.has_register fn a.through) (is_pointer fn.pointers a.through) (access_pointer code fn i.act a fits is)).1

module _ (weak code : Code) (s : SetupView) (k : ℕ) (told x : Told) (a : Action) (is : IsPlainAccess weak code s k told.thread x.thread a) where
  abbrev at_weak : Thread
  at_weak = settled weak s k told.thread

  abbrev at_plain : Thread
  at_plain = settled code s k x.thread

  pub same_function : at_plain.top.function ≡ at_weak.top.function
  same_function = ap (λ (z : Thread). z.top.function) is.settles

  pub same_registers : at_plain.top.registers ≡ at_weak.top.registers
  same_registers = ap (λ (z : Thread). z.top.registers) is.settles

  pub same_instr : at_plain.top.instr ≡ plain_place weak at_weak.top.function at_weak.top.instr
  same_instr = ap (λ (z : Thread). z.top.instr) is.settles

  module _ (runs : at_plain.phase ≡ phase.Running) where
    pub plain_runs : x.thread.phase ≡ phase.Running
    plain_runs = sym (settled_keeps_all code s k x.thread).phase ∙ runs

    pub weak_runs : told.thread.phase ≡ phase.Running
    weak_runs = sym is.phase ∙ plain_runs

    pub weak_act : (y : Act) (b : Access) → act_at code at_plain.top ≡ Some y → access_of y ≡ Some b → act_at weak at_weak.top ≡ Some y
    weak_act y b at accesses = unmoved (plain_place weak at_weak.top.function) (act_at weak at_weak.top) y b (sym (is.stands weak_runs) ∙ at) accesses
