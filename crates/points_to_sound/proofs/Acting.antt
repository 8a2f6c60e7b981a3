-- What each instruction leaves of a thread is good again.
use Rattle.std.proofs.Common.{◌≡◌, ℕ, suc, ◌+◌, ◌%◌, ◌<◌, ◌≤◌, ◌^◌, ◌||◌, ◌==◌, nat_le, not, Bool, true, false, if◌then◌else◌, List, [], ◌∷◌, length, length-set, reverse, Some, None, Result, Ok, Err, refl, sym, ap, subst, ◌∙◌, ℤ, pos, arith, eqb-true, eq-eqb}
use Rattle.std.specs.Prelude.{slice_get, slice_set}
use Rattle.std.proofs.lemmas.Bool.{true≢false, leb-true, ltb-true}
use Rattle.rr_base.specs.declared.trap.Trap.{Trap}
use Rattle.rr_base.specs.declared.trap.Trap.TheVariants as trap
use Rattle.rr_base.specs.declared.layout.CellKind.TheVariants as kind
use Rattle.sync_objects.specs.Setup.{SetupView}
use Rattle.sync_objects.specs.declared.operation.Op.TheVariants as op
use Rattle.word_semantics.specs.Cells.{size_of, access_kind, is_size, cells_in}
use Rattle.word_semantics.specs.Library.{count_in}
use Rattle.word_semantics.specs.Operators.{based}
use Rattle.word_semantics.specs.Pointers.{pointer_at, resolved}
use Rattle.word_semantics.specs.Registers.{register}
use Rattle.word_semantics.specs.Values.{number, word, fits}
use Rattle.word_semantics.specs.declared.event.Due.{Due}
use Rattle.word_semantics.specs.declared.event.Due.TheVariants as due
use Rattle.flow_code.specs.Constants.{constant_fits, constants_fit_in, constants_fit_of, constants_fit}
use Rattle.flow_code.specs.Kinds.{has_register, is_null, work_fits}
use Rattle.flow_code.specs.declared.code.Function.{Function}
use Rattle.flow_code.proofs.ValidParts.{left, each}
use Rattle.flow_code.specs.declared.act.Act.{Act}
use Rattle.flow_code.specs.declared.act.Act.TheVariants as act
use Rattle.flow_code.specs.declared.code.Code.{Code}
use Rattle.flow_code.specs.declared.thread.Phase.TheVariants as phase
use Rattle.flow_code.specs.declared.work.Work.{Work}
use Rattle.flow_code.specs.declared.work.Work.TheVariants as work
use Rattle.flow_code.specs.Next.{past, jumped, with_register, act_at, in_frame, computed, allocated, quiet_unless, load_due, malloc_due, act_in, pointers_in, pointers_of}
use Rattle.flow_code.specs.Threads.{Thread, arena_end, instrs_in, registers_in}
use Rattle.flow_code.specs.Valid.{is_valid}
use Rattle.flow_code.specs.Works.{is_pointer, work_of}
use Rattle.facts.specs.Blocks.{assigns, constant_of, ends_block, goes_to, begins_block}
use Rattle.facts.specs.PointsTo.{loaded}
use Rattle.facts.specs.declared.constraint.Constraint.TheVariants.{Loaded}
use Rattle.facts.specs.declared.constraint.Node.{Node}
use Rattle.facts.specs.declared.constraint.Node.TheVariants.{Register}
use Rattle.points_to_sound.specs.Objects.{Object, IsObject, IsSized}
use Rattle.points_to_sound.specs.Pointing.{act_of, IsGood, GoodRegisters, IsStarted, HoldsConstants, GoodKept, GoodRunning, GoodThread, GoodPhase, GoodCells, GoodResults}
use Rattle.points_to_sound.proofs.Classes.{word_number, number_word}
use Rattle.points_to_sound.proofs.Computing.{same_ok, work_good}
use Rattle.points_to_sound.proofs.Entering.{object_made, size_is_site}
use Rattle.points_to_sound.proofs.Finding.{first_of, constraint_of, stands}
use Rattle.points_to_sound.proofs.Fitting.{stands_fit}
use Rattle.points_to_sound.proofs.Frames.{kept_zero, registers_stay, frames_stay}
use Rattle.points_to_sound.proofs.Laying.{Lays, lays_none, lays_one, lays_good, new_object, is_new, size_is}
use Rattle.points_to_sound.proofs.Moving.{good_to}
use Rattle.points_to_sound.proofs.Reaching.{Reaches, good_reaches, good_fits}
use Rattle.points_to_sound.proofs.Registers.{set_other, set_here, good_set, act_there, begins_after, begins_there, constants_at_begin, constants_past}

-- what may be answered to what is due, where the machine makes the step
abbrev pub Answers : Code → List ℕ → Due → ℤ → Type 0
Answers code words (due.Load c) answer = (w : ℕ) × (slice_get words c ≡ Some w) × (answer ≡ number w)
Answers code words (due.Operate op.Begin obj) answer = IsStarted code (count_in answer)
Answers code words due.Nothing answer = ⊥
Answers code words (due.Trap kind) answer = ⊥
Answers code words _ answer = Unit {0}

-- what is known of the code, the objects and the cells
pub record Knows (code : Code) (s : SetupView) (t : ℕ) (made : List Object) (words : List ℕ) : Type 0 where
  pub valid : is_valid code ≡ true
  pub constants : constants_fit code ≡ true
  pub low : arena_end code s t < 2 ^ 22
  pub sized : (o : Object) → IsObject code s made o → IsSized code o
  pub cells : GoodCells code s made words
  pub results : GoodResults code s made words
  pub addresses : (f k into a : ℕ) → act_of code f k ≡ Some (act.Compute into (work.Address a)) → IsGood code s made (Register f into) (based s.slots a)

-- the thread after the step is good, with the objects that the step has laid
pub record Leaves (code : Code) (s : SetupView) (t : ℕ) (made : List Object) (th q : Thread) : Type 0 where
  pub after : List Object
  pub lays : Lays code s t made th.arena after q.arena
  pub good : GoodThread code s after q

pub leaves_same : (code : Code) (s : SetupView) (t : ℕ) (made : List Object) (th q : Thread) → q.arena ≡ th.arena → GoodThread code s made q → Leaves code s t made th q
leaves_same code s t made th q e g = record { after = made; lays = subst (Lays code s t made th.arena made) (sym e) lays_none; good = g }

pub next_is : (n : ℕ) → n + 1 ≡ suc n
next_is n = omega arith

not_same : (i j : ℕ) → (i == j) ≡ false → j ≡ i → ⊥
not_same i j e h = true≢false (sym (eq-eqb i j (sym h)) ∙ e)

module _ (code : Code) (s : SetupView) (t : ℕ) (made : List Object) (words : List ℕ) (x : Knows code s t made words) (th : Thread) (runs : th.phase ≡ phase.Running) (g : GoodRunning code s made th) where
  -- the thread in its frame, which has changed
  pub in_place : (instr n : ℕ) (kept : ℤ) (registers : List ℕ) → GoodRegisters code s made th.top.function registers → HoldsConstants code (record { function = th.top.function; instr = instr; made = n; kept = kept; registers = registers }) → GoodKept code s made registers (act_of code th.top.function instr) n kept → Leaves code s t made th (in_frame th (record { function = th.top.function; instr = instr; made = n; kept = kept; registers = registers }))
  in_place instr n kept registers good constants k =
      leaves_same code s t made th (in_frame th (record { function = th.top.function; instr = instr; made = n; kept = kept; registers = registers })) refl
      (subst (GoodPhase code s made (in_frame th (record { function = th.top.function; instr = instr; made = n; kept = kept; registers = registers }))) (sym runs)
      (record { frames = (good, g.frames.1, constants.all, g.frames.3); constants = constants; kept = k }))

  -- after an instruction that has assigned a register or none, and no constant
  past_good : (a : Act) (registers : List ℕ) → act_at code th.top ≡ Some a → constant_of (Some a) ≡ None → length registers ≡ length th.top.registers → ((r : ℕ) → assigns r (Some a) ≡ false → register registers r ≡ register th.top.registers r) → GoodRegisters code s made th.top.function registers → Leaves code s t made th (in_frame th (past (record th.top { registers = registers })))
  past_good a registers at none e same good =
      in_place (th.top.instr + 1) 0 (pos 0) registers good
      (constants_past code th.top g.constants registers (Some a) at e same (λ r z p c. never z (sym none ∙ c)))
      (kept_zero code s made registers (act_of code th.top.function (th.top.instr + 1)) (pos 0))
    where
      never : {P : Type 0} (z : ℤ) → None ≡ Some z → P
      never z e = cc

  pub passed_good : (a : Act) → act_at code th.top ≡ Some a → constant_of (Some a) ≡ None → Leaves code s t made th (in_frame th (past th.top))
  passed_good a at none = past_good a th.top.registers at none refl (λ r h. refl) g.frames.0

  -- at the begin of a block
  pub block_good : (k : ℕ) (registers : List ℕ) → begins_block (instrs_in (slice_get code.functions th.top.function)) k ≡ true → length registers ≡ length th.top.registers → GoodRegisters code s made th.top.function registers → Leaves code s t made th (in_frame th (record { function = th.top.function; instr = k; made = 0; kept = pos 0; registers = registers }))
  block_good k registers b e good = in_place k 0 (pos 0) registers good (constants_at_begin code th.top g.constants k 0 (pos 0) registers e b) (kept_zero code s made registers (act_of code th.top.function k) (pos 0))

  pub there : (a : Act) → act_at code th.top ≡ Some a → act_in (slice_get (instrs_in (slice_get code.functions th.top.function)) th.top.instr) ≡ Some a
  there a at = act_there (slice_get code.functions th.top.function) th.top.instr ∙ at

  pub jump_good : (to : ℕ) (a : Act) → act_at code th.top ≡ Some a → goes_to to a ≡ true → Leaves code s t made th (in_frame th (jumped th.top to))
  jump_good to a at goes = block_good to th.top.registers (begins_there (instrs_in (slice_get code.functions th.top.function)) th.top.instr to a (there a at) goes) refl g.frames.0

  -- after an instruction that ends its block
  pub after_good : (a : Act) (registers : List ℕ) → act_at code th.top ≡ Some a → ends_block a ≡ true → length registers ≡ length th.top.registers → GoodRegisters code s made th.top.function registers → Leaves code s t made th (in_frame th (past (record th.top { registers = registers })))
  after_good a registers at ends e good =
      block_good (th.top.instr + 1) registers
      (subst (λ k. begins_block (instrs_in (slice_get code.functions th.top.function)) k ≡ true) (sym (next_is th.top.instr)) (begins_after (instrs_in (slice_get code.functions th.top.function)) th.top.instr a (there a at) ends))
      e good

  -- ---- a register is assigned

  assigned_good : (a : Act) (into w : ℕ) → act_at code th.top ≡ Some a → constant_of (Some a) ≡ None → ((r : ℕ) → assigns r (Some a) ≡ (into == r)) → (is_pointer (pointers_in (slice_get code.functions th.top.function)) into ≡ true → IsGood code s made (Register th.top.function into) w) → Leaves code s t made th (in_frame th (past (with_register th.top into w)))
  assigned_good a into w at none is good =
      past_good a (slice_set th.top.registers into w) at none (length-set th.top.registers into w)
      (λ r h. set_other th.top.registers into r w (not_same into r (sym (is r) ∙ h)))
      (good_set code s made th.top.function th.top.registers into w good g.frames.0)

  -- ---- loads

  access_is : (b : Bool) → b ≡ true → access_kind b ≡ kind.Pointer
  access_is true e = refl
  access_is false e = cc

  pub load_good : (into through : ℕ) (answer : ℤ) (r : Result ℕ Trap) → act_at code th.top ≡ Some (act.LoadCell into through) → resolved code.sites (register th.top.registers through) (access_kind (is_pointer (pointers_of code th.top) into)) ≡ r → is_pointer (pointers_of code th.top) through ≡ true → Answers code words (load_due r) answer → Leaves code s t made th (in_frame th (past (with_register th.top into (word answer))))
  load_good into through answer (Err e) at is through_is h = absurd h
  load_good into through answer (Ok c) at is through_is (w, stands_there, answered) =
      assigned_good (act.LoadCell into through) into (word answer) at refl (λ r. refl) (λ p. good p)
    where
      good : is_pointer (pointers_of code th.top) into ≡ true → IsGood code s made (Register th.top.function into) (word answer)
      good p =
          let reaches : Reaches code s made (Register th.top.function through) c kind.Pointer = good_reaches code s made x.valid x.sized (Register th.top.function through) (register th.top.registers through) c kind.Pointer (subst (λ k. resolved code.sites (register th.top.registers through) k ≡ Ok c) (access_is (is_pointer (pointers_of code th.top) into) p) is) (g.frames.0 through through_is) in
          let held = x.cells reaches.object reaches.offset w reaches.is reaches.within reaches.kind (subst (λ k. slice_get words k ≡ Some w) reaches.cell stands_there) in
          let back : word answer ≡ w = ap word answered ∙ word_number w (good_fits code s made x.valid x.sized _ w held) in
          subst (IsGood code s made (Register th.top.function into)) (sym back)
          (good_to code s made _ (Register th.top.function into) w
          (λ q m. loaded (constraint_of code th.top.function th.top.instr (act.LoadCell into through) (Loaded (Register th.top.function through) (Register th.top.function into)) at (first_of (Loaded (Register th.top.function through) (Register th.top.function into)) [])) reaches.may m)
          held)

  -- ---- works

  fit_each : (k : ℕ) (fs : List Function) (fn : Function) → constants_fit_of fs ≡ true → slice_get fs k ≡ Some fn → constants_fit_in fn.instrs ≡ true
  fit_each k fs fn h e = each (λ f. constants_fit_in f.instrs) fs k fn h e

  constant_fit : (into : ℕ) (z : ℤ) → act_at code th.top ≡ Some (act.Compute into (work.Constant z)) → fits z ≡ true
  constant_fit into z at =
      let y = stands code th.top.function th.top.instr (act.Compute into (work.Constant z)) at in
      subst (λ a. constant_fits a ≡ true) y.is_act (each (λ i. constant_fits i.act) y.function.instrs th.top.instr y.instr (fit_each th.top.function code.functions y.function x.constants y.is_function) y.is_instr)

  -- the register that holds a constant
  constant_computed : (into q r : ℕ) (w : Work) (z : ℤ) (fn : Function) → slice_get code.functions th.top.function ≡ Some fn → work_fits code fn into w ≡ true → act_at code th.top ≡ Some (act.Compute into w) → work_of s.slots code.sites (pointers_of code th.top) th.top.registers w ≡ Ok q → (into == r) ≡ true → constant_of (Some (act.Compute into w)) ≡ Some z → number (register (slice_set th.top.registers into q) r) ≡ z
  constant_computed into q r (work.Constant y) z fn is fit at e here c =
      let same : y ≡ z = cc in
      let into_is : into ≡ r = eqb-true into r here in
      let few : into < fn.registers = ltb-true into fn.registers (left (has_register fn into) (is_null y || not (is_pointer fn.pointers into)) fit) in
      let all : length th.top.registers ≡ fn.registers = g.constants.all ∙ ap registers_in is in
      let q_is : word y ≡ q = same_ok (word y) q (Ok (word y)) refl e in
      ap (λ k. number (register (slice_set th.top.registers into q) k)) (sym into_is)
      ∙ ap number (set_here th.top.registers into q (subst (λ n. into < n) (sym all) few) ∙ sym q_is)
      ∙ number_word y (constant_fit into y at) ∙ same
  constant_computed into q r (work.Address a) z fn is fit at e here c = cc
  constant_computed into q r (work.Copy k) z fn is fit at e here c = cc
  constant_computed into q r (work.Minus k) z fn is fit at e here c = cc
  constant_computed into q r (work.Complement k) z fn is fit at e here c = cc
  constant_computed into q r (work.Not k) z fn is fit at e here c = cc
  constant_computed into q r (work.Binary o a b) z fn is fit at e here c = cc
  constant_computed into q r (work.Move k by element back) z fn is fit at e here c = cc
  constant_computed into q r (work.Member k by) z fn is fit at e here c = cc
  constant_computed into q r (work.Between a b element) z fn is fit at e here c = cc
  constant_computed into q r (work.ToPointer k) z fn is fit at e here c = cc
  constant_computed into q r (work.ToNumber k) z fn is fit at e here c = cc

  pub compute_good : (into : ℕ) (w : Work) (answer : ℤ) (r : Result ℕ Trap) → act_at code th.top ≡ Some (act.Compute into w) → work_of s.slots code.sites (pointers_of code th.top) th.top.registers w ≡ r → Answers code words (quiet_unless r) answer → Leaves code s t made th (computed th into r)
  compute_good into w answer (Err e) at is h = absurd h
  compute_good into w answer (Ok q) at is h =
      let y = stands code th.top.function th.top.instr (act.Compute into w) at in
      let fit : work_fits code y.function into w ≡ true = stands_fit code x.valid th.top.function th.top.instr (act.Compute into w) y in
      let kinds : pointers_in (slice_get code.functions th.top.function) ≡ y.function.pointers = ap pointers_in y.is_function in
      in_place (th.top.instr + 1) 0 (pos 0) (slice_set th.top.registers into q)
      (good_set code s made th.top.function th.top.registers into q
      (λ p. work_good code s made x.valid x.sized th.top.function th.top.instr into y.function th.top.registers
      (λ r f. g.frames.0 r (subst (λ ks. is_pointer ks r ≡ true) (sym kinds) f))
      (subst (λ ks. is_pointer ks into ≡ true) kinds p)
      w q fit at
      (λ a e. x.addresses th.top.function th.top.instr into a (at ∙ ap (λ v. Some (act.Compute into v)) e))
      g.constants.constants
      (subst (λ ks. work_of s.slots code.sites ks th.top.registers w ≡ Ok q) kinds is))
      g.frames.0)
      (constants_past code th.top g.constants (slice_set th.top.registers into q) (Some (act.Compute into w)) at (length-set th.top.registers into q)
      (λ r n. set_other th.top.registers into r q (not_same into r n))
      (λ r z here c. constant_computed into q r w z y.function y.is_function fit at is here c))
      (kept_zero code s made (slice_set th.top.registers into q) (act_of code th.top.function (th.top.instr + 1)) (pos 0))

  -- ---- malloc

  malloc_inv : (unit at end : ℕ) (n : ℤ) (answer : ℤ) → Answers code words (malloc_due unit at end n) answer → (is_size unit n ≡ true) × (at + cells_in n ≤ end)
  malloc_inv unit at end n answer h = sized_by (is_size unit n) refl h
    where
      fits_by : is_size unit n ≡ true → (b : Bool) → nat_le (at + cells_in n) end ≡ b → Answers code words (if b then due.Quiet else due.Trap trap.ArenaFull) answer → (is_size unit n ≡ true) × (at + cells_in n ≤ end)
      fits_by z true e h = (z, leb-true (at + cells_in n) end e)
      fits_by z false e h = absurd h

      sized_by : (b : Bool) → is_size unit n ≡ b → Answers code words (if b then (if nat_le (at + cells_in n) end then due.Quiet else due.Trap trap.ArenaFull) else due.Trap trap.BadSize) answer → (is_size unit n ≡ true) × (at + cells_in n ≤ end)
      sized_by true e h = fits_by e (nat_le (at + cells_in n) end) refl h
      sized_by false e h = absurd h

  pub malloc_good : (into site size : ℕ) (answer : ℤ) → act_at code th.top ≡ Some (act.Alloc into site (Some size)) → Answers code words (malloc_due (size_of code.sites site) th.arena (arena_end code s t) (number (register th.top.registers size))) answer → Leaves code s t made th (allocated th into site (cells_in (number (register th.top.registers size))))
  malloc_good into site size answer at h =
      let n = number (register th.top.registers size) in
      let cells = cells_in n in
      let inv = malloc_inv (size_of code.sites site) th.arena (arena_end code s t) n answer h in
      let sized = size_is (size_of code.sites site) n inv.0 in
      let m = object_made code s x.valid t x.low th.top.function th.top.instr into site (Some size) at in
      let new = is_new code s t made (Register th.top.function into) site th.arena cells x.low m.1 sized.some sized.few (subst (λ k. cells % k ≡ 0) (size_is_site code site m.1) sized.whole) inv.1 m.0 in
      let after = new_object site th.arena cells ∷ made in
      let lays : Lays code s t made th.arena after (th.arena + cells) = lays_one made th.arena (new_object site th.arena cells) lays_none refl new.sized inv.1 in
      let grows : (n : Node) (w : ℕ) → IsGood code s made n w → IsGood code s after n w = λ n w good. lays_good code s t made th.arena after (th.arena + cells) n w lays good in
      let registers = slice_set th.top.registers into (pointer_at site th.arena cells) in
      let constants = constants_past code th.top g.constants registers (Some (act.Alloc into site (Some size))) at (length-set th.top.registers into (pointer_at site th.arena cells)) (λ r k. set_other th.top.registers into r (pointer_at site th.arena cells) (not_same into r k)) (λ r z p c. cc) in
      record {
        after = after;
        lays = lays;
        good = subst (GoodPhase code s after (allocated th into site cells)) (sym runs) (record {
          frames = (good_set code s after th.top.function th.top.registers into (pointer_at site th.arena cells) (λ p. new.good) (registers_stay code s made after grows th.top.function th.top.registers g.frames.0), g.frames.1, constants.all, frames_stay code s made after grows (reverse th.below) g.frames.3);
          constants = constants;
          kept = kept_zero code s after registers (act_of code th.top.function (th.top.instr + 1)) (pos 0);
        });
      }
