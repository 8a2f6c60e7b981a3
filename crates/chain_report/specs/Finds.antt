-- The chain that is found between two points of a log: of all that lead from the first to the second, each of its passes begins
-- as early as it can.
use Rattle.std.specs.Prelude.{◌≡◌, ◌≢◌, ℕ, ◌<◌, ◌||◌, Bool, true, false, List, [], ◌∷◌, Option, Some, None, slice_get, ◌⊎◌}
use Rattle.core_run.specs.Machine.{Told, start_state}
use Rattle.core_run.specs.Walks.{IsRefusedAt, IsUnfinished, IsWhole}
use Rattle.flow_code.specs.declared.code.Code.{Code}
use Rattle.run_theory.specs.Steps.{State}
use Rattle.sync_objects.specs.Setup.{SetupView}
use Rattle.sync_objects.specs.declared.entry.Entry.{Entry}
use Rattle.thread_interpreter.specs.declared.access.Access.{Access}
use Rattle.walk_accesses.specs.Accesses.{IsMadeAt}
use Rattle.chain_report.specs.Accesses.{IsAccessOf}
use Rattle.chain_report.specs.Chains.{passes, is_after, is_before, is_of_one, is_chain}
use Rattle.chain_report.specs.declared.point.Found.{Found}
use Rattle.chain_report.specs.declared.point.Found.TheVariants.{Wrong, NoConflict, Chain}
use Rattle.chain_report.specs.declared.point.Point.{Point}

-- some chain from the point leads to the entry at this position
pub data IsLinked (es : List Entry) (from : Point) : ℕ → Type 0 where
  at_first : (a k : ℕ) → is_after from (slice_get es a) ≡ true → passes es a k ≡ true → IsLinked es from k
  onward : (b a k : ℕ) → IsLinked es from b → b < a → is_of_one (slice_get es b) (slice_get es a) ≡ true → passes es a k ≡ true → IsLinked es from k

module _ (es : List Entry) (from : Point) where
  -- a pass of a chain from the point may begin with the entry: it is of the point's thread and after the point, or an earlier entry
  -- of its thread is linked
  pub data IsEligible (a : ℕ) : Type 0 where
    after : is_after from (slice_get es a) ≡ true → IsEligible a
    behind : (b : ℕ) → IsLinked es from b → b < a → is_of_one (slice_get es b) (slice_get es a) ≡ true → IsEligible a

  -- the entry at k is linked to that at a, the lowest eligible one that passes to it
  pub record IsLinkedTo (k a : ℕ) : Type 0 where
    pub eligible : IsEligible a
    pub to : passes es a k ≡ true
    pub lowest : (c : ℕ) → c < a → IsEligible c → passes es c k ≡ true → ⊥

  -- the chain goes on from the lowest linked entry of the thread of the entry at a, where that one isn't after the first point
  abbrev pub GoesOnFrom : Option ℕ → ℕ → Type 0
  GoesOnFrom None a = is_after from (slice_get es a) ≡ true
  GoesOnFrom (Some b) a = (is_after from (slice_get es a) ≡ false) × (b < a) × (is_of_one (slice_get es b) (slice_get es a) ≡ true) × ((c : ℕ) → c < b → IsLinked es from c → is_of_one (slice_get es c) (slice_get es a) ≡ true → ⊥)

  -- it ends at the lowest linked entry of the second point's thread before that point
  abbrev pub EndsAt : Point → Option ℕ → Type 0
  EndsAt to None = ⊥
  EndsAt to (Some b) = (is_before to (slice_get es b) ≡ true) × ((c : ℕ) → c < b → IsLinked es from c → is_before to (slice_get es c) ≡ true → ⊥)

  -- the passes are the rest of the chain, where the last pass before them led to this position
  abbrev pub IsLowestFrom : Point → Option ℕ → List (ℕ × ℕ) → Type 0
  IsLowestFrom to at [] = EndsAt to at
  IsLowestFrom to at (x ∷ rest) = GoesOnFrom at x.0 × IsLinkedTo x.1 x.0 × IsLowestFrom to (Some x.1) rest

  -- the passes are the lowest chain to the point
  abbrev pub IsLowest : Point → List (ℕ × ℕ) → Type 0
  IsLowest to given = IsLowestFrom to None given

module _ (code : Code) (s : SetupView) (es : List Entry) where
  -- the points name accesses of two threads of one cell, and one of them is a store
  pub record AreConflicting (p q : Point) : Type 0 where
    pub first : Access
    pub first_is : IsMadeAt code s es p.thread p.count first
    pub second : Access
    pub second_is : IsMadeAt code s es q.thread q.count second
    pub apart : p.thread ≢ q.thread
    pub one_cell : first.cell ≡ second.cell
    pub one_stores : (first.store || second.store) ≡ true

  -- the first one is made earlier in the walk
  pub record ComesFirst (p q : Point) : Type 0 where
    pub i : ℕ
    pub j : ℕ
    pub first_at : IsAccessOf code s es p i
    pub second_at : IsAccessOf code s es q j
    pub earlier : i < j

  -- .. exactly where this is true
  abbrev pub ConflictIs : Point → Point → Bool → Type 0
  ConflictIs p q true = AreConflicting p q
  ConflictIs p q false = AreConflicting p q → ⊥

  -- the walk of the entries is wrong at this entry
  abbrev pub IsWrongAt : ℕ → Type 0
  IsWrongAt at = IsRefusedAt code s (start_state code s) es at ⊎ IsUnfinished code s (start_state code s) es at

  -- it isn't wrong
  abbrev pub IsRight : Type 0
  IsRight = (end : State Told) × IsWhole code s (start_state code s) es end

  -- what is found of the two points
  abbrev pub FoundIs : Point → Point → Found → Type 0
  FoundIs p q (Wrong at) = IsWrongAt at
  FoundIs p q NoConflict = IsRight × (AreConflicting p q → ⊥)
  FoundIs p q (Chain first second given) =
      IsRight × AreConflicting p q × (((first ≡ p) × (second ≡ q)) ⊎ ((first ≡ q) × (second ≡ p)))
      × ComesFirst first second × IsLowest es first second given × (is_chain es first second given ≡ true)
