-- What the next action of a seat's thread names is there, and one that hasn't ended has a next action: it stands in a state that a
-- run of a valid code reaches.
use Rattle.std.proofs.Common.{◌≡◌, ℕ, ◌+◌, ◌<◌, Bool, true, false, List, [], ◌∷◌, length, Some, refl, sym, ap, subst, ◌∙◌, arith}
use Rattle.std.specs.Option.{unwrap_or}
use Rattle.std.specs.Prelude.{slice_get}
use Rattle.std.proofs.lemmas.Bool.{true≢false}
use Rattle.sync_objects.specs.Setup.{IsWithinLimits}
use Rattle.sync_objects.specs.declared.object.ObjId.{ObjId}
use Rattle.sync_objects.specs.declared.operation.Op.{Op}
use Rattle.word_semantics.specs.declared.event.Action.{Action}
use Rattle.word_semantics.specs.declared.event.Action.TheVariants as action
use Rattle.flow_code.specs.Constants.{constants_fit}
use Rattle.flow_code.specs.Next.{has_ended}
use Rattle.flow_code.specs.Settle.{next}
use Rattle.flow_code.specs.Valid.{is_valid}
use Rattle.core_run.specs.Machine.{start_told}
use Rattle.core_run.specs.Words.{cells_of, has_object}
use Rattle.frame_sound.proofs.Runs.{ended_at_last}
use Rattle.access_cells.specs.Accesses.{names_cell}
use Rattle.access_cells.proofs.Found.{cell_there, object_there}
use Rattle.access_cells.proofs.Settled.{code_sets, points_at_rest}
use Rattle.thread_step.specs.Steps.{Stepping, next_of}
use Rattle.shared_cells.specs.Rule.{Board}
use Rattle.shared_cells.specs.Seats.{view_of}
use Rattle.shared_cells.specs.Threads.{own, pending}
use Rattle.shared_cells.specs.Views.{SeatView}
use Rattle.shared_cells.specs.declared.seat.Seat.{Seat}
use Rattle.shared_cells.proofs.ThreadSteps.{GoesTo, goes_nowhere, goes_marks}
use Rattle.weak_turns.specs.Shown.{IsCarrying, IsSettled}
use Rattle.weak_turns.proofs.Showing.{comes_next, same_phase}

first_is : {A : Type 0} (xs : List A) (other : A) → length xs ≡ 1 → slice_get xs 0 ≡ Some (unwrap_or (slice_get xs 0) other)
first_is [] other e = cc
first_is (x ∷ xs) other e = refl

module _ (cells : Board) (seat : Seat) (r : Stepping) (h : IsCarrying cells seat r) (valid : is_valid cells.code ≡ true) (limits : IsWithinLimits cells.setup) where
  abbrev v : SeatView
  v = view_of seat

  abbrev n : ℕ
  n = seat.marks

  valid_here : is_valid v.code ≡ true
  valid_here = subst (λ z. is_valid z ≡ true) (sym h.seat_of.code_is) valid

  limits_here : IsWithinLimits v.setup
  limits_here = subst IsWithinLimits (sym h.seat_of.setup_is) limits

  -- the thread in a state that can be reached
  own_at : slice_get h.carries.reached.0.threads v.from ≡ Some (own v)
  own_at =
      let first : v.from + 0 ≡ v.from = omega arith in
      subst (λ k. slice_get h.carries.reached.0.threads k ≡ Some (own v)) first (h.carries.reached.2 0 (own v) (first_is v.carried (start_told v.code v.setup v.from) h.seat_of.alone))

  -- and once its marks are made
  at_marks : GoesTo v.code v.setup h.carries.reached.0 v.from h.carries.reached.0.words (pending v n)
  at_marks = goes_marks v.code v.setup n h.carries.reached.0 v.from h.carries.reached.0.words (own v) (goes_nowhere v.code v.setup h.carries.reached.0 v.from (own v) h.carries.reached.1 own_at) h.carries.ahead

  module _ (rests : IsSettled r) (lives : has_ended r.flow.kept.thread.phase ≡ false) where
    comes : (a : Action) → next_of r ≡ a → next v.code v.setup v.from (pending v n).thread ≡ a
    comes a e = (comes_next v n r h.carries rests a lives e).comes

    -- a thread that hasn't ended has a next action
    pub never_ended : next_of r ≡ action.Ended → ⊥
    never_ended e =
        let over = ended_at_last v.code valid_here v.setup limits_here at_marks.state at_marks.reached v.from (pending v n) at_marks.here (comes action.Ended e) in
        true≢false (sym over ∙ ap has_ended (same_phase v n r h.carries) ∙ lives)

    module _ (constants : constants_fit cells.code ≡ true) where
      constants_here : constants_fit v.code ≡ true
      constants_here = subst (λ z. constants_fit z ≡ true) (sym h.seat_of.code_is) constants

      cell_in : (a : Action) (cell : ℕ) (store : Bool) → next_of r ≡ a → names_cell a ≡ Some (cell, store) → cell < cells_of cells.code cells.setup
      cell_in a cell store e named =
          let sets = code_sets v.code v.setup valid_here constants_here limits_here at_marks.state at_marks.reached in
          let rest = points_at_rest v.code v.setup valid_here constants_here limits_here at_marks.state at_marks.reached in
          subst (λ z. cell < cells_of z cells.setup) h.seat_of.code_is
          (subst (λ z. cell < cells_of v.code z) h.seat_of.setup_is
          (cell_there v.code v.setup sets at_marks.state at_marks.reached rest.0 rest.1 v.from (pending v n) at_marks.here cell store (ap names_cell (comes a e) ∙ named)))

      pub load_in : (cell : ℕ) → next_of r ≡ action.Load cell → cell < cells_of cells.code cells.setup
      load_in cell e = cell_in (action.Load cell) cell false e refl

      pub store_in : (cell value : ℕ) → next_of r ≡ action.Store cell value → cell < cells_of cells.code cells.setup
      store_in cell value e = cell_in (action.Store cell value) cell true e refl

      pub object_in : (o : Op) (obj : ObjId) → next_of r ≡ action.Operate o obj → has_object cells.code cells.setup obj ≡ true
      object_in o obj e =
          let sets = code_sets v.code v.setup valid_here constants_here limits_here at_marks.state at_marks.reached in
          let rest = points_at_rest v.code v.setup valid_here constants_here limits_here at_marks.state at_marks.reached in
          subst (λ z. has_object z cells.setup obj ≡ true) h.seat_of.code_is
          (subst (λ z. has_object v.code z obj ≡ true) h.seat_of.setup_is
          (object_there v.code v.setup sets at_marks.state at_marks.reached rest.0 rest.1 v.from (pending v n) at_marks.here o obj (comes (action.Operate o obj) e)))
