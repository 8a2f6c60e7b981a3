-- A turn that begins with a look at the memory word.
use Rattle.std.proofs.Common.{◌≡◌, ℕ, Bool, true, false, List, [], ◌∷◌, ◌++◌, Some, None, refl, subst, arith}
use Rattle.flow_code.specs.Next.{has_ended}
use Rattle.shared_cells.specs.Rule.{Board}
use Rattle.shared_cells.specs.Seats.{IsSeatOf, Tells, view_of}
use Rattle.shared_cells.specs.Views.{Note, looked}
use Rattle.shared_cells.specs.Words.{memory_place}
use Rattle.shared_cells.specs.declared.seat.Seat.{Seat}
use Rattle.thread_step.specs.Steps.{Stepping}
use Rattle.weak_turns.specs.Finding.{Advances, HasRested, Steps}
use Rattle.weak_turns.specs.Shown.{IsCarrying}
use Rattle.weak_turns.specs.Turns.{Meets, Saw}
use Rattle.weak_turns.specs.declared.played.Played.{Played}
use Rattle.weak_turns.proofs.Noting.{newer, older, step_on, meets_look, meets_then, carrying_on}
use Rattle.weak_turns.proofs.Showing.{rested_on}
use Rattle.weak_turns.proofs.Searching.{set_or_not, unset}

module _ (cells : Board) (a b : Seat) (lacks : Bool) (tells : Tells a b (memory_place cells.code cells.setup) lacks) where
  abbrev word : ℕ
  word = memory_place cells.code cells.setup

  abbrev pub note : List Note
  note = record { failed = false; word = word; value = tells.value } ∷ []

  pub looked_at : Meets a b note
  looked_at = meets_look a b word tells.value tells.view tells.marks

  pub carried : (r : Stepping) → IsSeatOf cells b → IsCarrying cells a r → IsCarrying cells b r
  carried r of h = carrying_on cells a b r note looked_at of h

  -- and still does once some of the quiet steps are made
  pub carried_rested : (r q : Stepping) → IsSeatOf cells b → IsCarrying cells a r → HasRested r q → has_ended r.flow.kept.thread.phase ≡ false → IsCarrying cells b q
  carried_rested r q of h rests lives = record { seat_of = of; carries = rested_on (view_of b) b.marks r (carried r of h).carries q rests lives }

  -- and once the memory word is set
  pub carried_out : (c : Seat) (q : Stepping) → IsSeatOf cells c → view_of c ≡ looked (view_of b) word 1 → c.marks ≡ b.marks → IsCarrying cells b q → IsCarrying cells c q
  carried_out c q of view marks h = carrying_on cells b c q (record { failed = false; word = word; value = 1 } ∷ []) (meets_look b c word 1 view marks) of h

  -- the machine was seen to be out of memory
  pub advances_out : (since : List ℕ) (budget turn : ℕ) → lacks ≡ true → Advances cells a b since since budget turn None
  advances_out since budget turn out = (note, looked_at, (tells.value, (0, omega arith, refl), set_or_not tells.value lacks tells.is out), refl)

  -- or ran out of it, and its word was set
  pub advances_none : (c : Seat) (since : List ℕ) (budget turn : ℕ) → view_of c ≡ looked (view_of b) word 1 → c.marks ≡ b.marks → Advances cells a c since since budget turn None
  advances_none c since budget turn view marks =
      let set : List Note = record { failed = false; word = word; value = 1 } ∷ [] in
      (set ++ note, meets_then a b c note set looked_at (meets_look b c word 1 view marks), (1, (0, omega arith, refl), λ e. cc), refl)

  -- a step is made
  pub advances_some : (new : Seat) (since later : List ℕ) (budget turn : ℕ) (p : Played) → lacks ≡ false → Steps cells b new since later budget turn p → Advances cells a new since later budget turn (Some p)
  advances_some new since later budget turn p has s = (
    s.mid,
    s.fresh ++ note,
    meets_then a b s.mid note s.fresh looked_at s.meets,
    older s.fresh note _ (subst (Saw note word) (unset tells.value lacks tells.is has) (0, omega arith, refl)),
    step_on s.fresh (s.fresh ++ note) (newer s.fresh note) cells s.mid new since later budget turn p s.step,
  )
