-- The word by which an access is made points into the object of its cell.
use Rattle.std.proofs.Common.{◌≡◌, ℕ, ◌+◌, ◌<◌, ◌&&◌, ◌==◌, not, Bool, true, false, List, length, Some, Ok, ap, subst, ◌∙◌, arith}
use Rattle.std.specs.Prelude.{slice_get, nat_lt}
use Rattle.std.proofs.lemmas.Bool.{ne_eqb}
use Rattle.std.proofs.lemmas.Bool.Decides.{nat_tests}
use Rattle.rr_base.specs.Words as pointer
use Rattle.rr_base.specs.Words.{site_of, base_of, length_of, offset_of}
use Rattle.rr_base.specs.declared.layout.CellKind.{CellKind}
use Rattle.sync_objects.specs.Setup.{SetupView}
use Rattle.word_semantics.specs.Pointers.{known, is_kind, kind_in, resolved, site_at}
use Rattle.word_semantics.specs.Registers.{register}
use Rattle.flow_code.specs.declared.code.Code.{Code}
use Rattle.flow_code.specs.declared.thread.Phase.{Phase}
use Rattle.flow_code.specs.declared.thread.Phase.TheVariants as phase
use Rattle.flow_code.specs.Next.{pointers_in}
use Rattle.flow_code.specs.Stripes.{points_to_cell}
use Rattle.flow_code.specs.Threads.{Thread, registers_in}
use Rattle.flow_code.specs.Valid.{is_valid}
use Rattle.flow_code.specs.Works.{is_pointer}
use Rattle.core_run.specs.Machine.{Told}
use Rattle.run_theory.specs.Steps.{State}
use Rattle.facts.specs.declared.constraint.Node.{Node}
use Rattle.facts.specs.declared.constraint.Node.TheVariants.{Register}
use Rattle.points_to_sound.specs.Objects.{Object, IsObject, PointsInto, HasCell}
use Rattle.points_to_sound.specs.Pointing.{IsGood, nowhere, points, GoodPhase, GoodRunning}
use Rattle.points_to_sound.specs.States.{PointsWell}
use Rattle.points_to_sound.proofs.Moving.{good_known}
use Rattle.points_to_sound.proofs.Reaching.{of_kind_inv, cell_inv, HasCellAt}

-- the word is as the code reads it, and points to the cell of the object
pub record PointsTo (code : Code) (s : SetupView) (made : List Object) (w c : ℕ) : Type 0 where
  pub known_is : known code.sites w ≡ w
  pub object : Object
  pub is : IsObject code s made object
  pub into : PointsInto object w
  pub cell : c ≡ base_of w + offset_of w
  pub within : offset_of w < length_of w
  pub some : site_of w ≡ 0 → ⊥

module _ (code : Code) (s : SetupView) (valid : is_valid code ≡ true) (made : List Object) (st : State Told) (well : PointsWell code s made st) where
  pub points_to : (n : Node) (w c : ℕ) (want : CellKind) → resolved code.sites w want ≡ Ok c → IsGood code s made n w → PointsTo code s made w c
  points_to n w c want h g = on g
    where
      same : known code.sites w ≡ w
      same = good_known code s made valid (λ o is. well.laid.sized o is) n w g

      cell : HasCellAt w c
      cell = cell_inv w c (subst (λ v. pointer.cell_of v ≡ Ok c) same (of_kind_inv (pointer.cell_of (known code.sites w)) (is_kind (kind_in (site_at code.sites (site_of w)) (offset_of w)) want) c h).0)

      on : IsGood code s made n w → PointsTo code s made w c
      on (nowhere e) = absurd (cell.some e)
      on (points o is p may) = record { known_is = same; object = o; is = is; into = p; cell = cell.is; within = cell.within; some = cell.some }

  running : (th : Thread) (p : Phase) → p ≡ phase.Running → GoodPhase code s made th p → GoodRunning code s made th
  running th p e g = subst (GoodPhase code s made th) e g

  -- the pointers of a running thread's running frame are good
  pub good_word : (t : ℕ) (told : Told) (r : ℕ) → slice_get st.threads t ≡ Some told → told.thread.phase ≡ phase.Running → is_pointer (pointers_in (slice_get code.functions told.thread.top.function)) r ≡ true → IsGood code s made (Register told.thread.top.function r) (register told.thread.top.registers r)
  good_word t told r at runs pointer = (running told.thread told.thread.phase runs (well.threads t told at)).frames.0 r pointer

  -- a running frame has all its function's registers
  pub whole_frame : (t : ℕ) (told : Told) → slice_get st.threads t ≡ Some told → told.thread.phase ≡ phase.Running → length told.thread.top.registers ≡ registers_in (slice_get code.functions told.thread.top.function)
  whole_frame t told at runs = (running told.thread told.thread.phase runs (well.threads t told at)).frames.2

  -- a word that points to a cell of an object points into that object
  pub at_object : (w c : ℕ) → PointsTo code s made w c → (o : Object) → IsObject code s made o → (offset : ℕ) → offset < o.cells → c ≡ o.base + offset → (site_of w ≡ o.site) × (length_of w ≡ o.cells) × (offset_of w ≡ offset)
  at_object w c p o is offset within cell =
      let same : p.object ≡ o = well.laid.one p.object o c p.is is has_one (record { from = omega (arith, cell); to = omega (arith, cell, within) }) in
      let base : p.object.base ≡ o.base = ap (λ (x : Object). x.base) same in
      let b = p.into.base in
      let e = p.cell in
      (p.into.site ∙ ap (λ (x : Object). x.site) same, p.into.cells ∙ ap (λ (x : Object). x.cells) same, omega (arith, base, b, e, cell))
    where
      has_one : HasCell p.object c
      has_one = let b = p.into.base in let l = p.into.cells in let q = p.within in let e = p.cell in record { from = omega (arith, b, e); to = omega (arith, b, l, q, e) }

-- such a word points to a cell
pub has_cell : (w : ℕ) → (site_of w ≡ 0 → ⊥) → offset_of w < length_of w → points_to_cell w ≡ true
has_cell w some within = both (not (site_of w == 0)) (nat_lt (offset_of w) (length_of w)) (ap not (ne_eqb (site_of w) 0 some)) (let lt = within in grind (arith, nat_tests, lt))
  where
    both : (a b : Bool) → a ≡ true → b ≡ true → (a && b) ≡ true
    both true b h k = k
    both false b h k = cc
