-- Orders in which the functions of a code are visited, and the search that finds one.
use Rattle.std.specs.Prelude.{◌≡◌, ℕ, ◌<◌, List, length, Some, slice_get}
use Rattle.std.specs.List.{All, Contains}
use Rattle.lockset_summary.specs.declared.visits.Mark.TheVariants.{Listed}
use Rattle.lockset_summary.specs.declared.visits.Search.{Search}

-- the list has each of so many functions, and no other number
pub record IsOrder (functions : ℕ) (order : List ℕ) : Type 0 where
  pub within : All (λ f. f < functions) order
  pub each : (f : ℕ) → f < functions → Contains order f

-- the search has listed the function
abbrev pub IsListed : Search → ℕ → Type 0
IsListed s f = slice_get s.marks f ≡ Some Listed

-- of so many functions: each that is marked as listed is in the order
pub record IsSearch (functions : ℕ) (s : Search) : Type 0 where
  pub long : length s.marks ≡ functions
  pub path : All (λ f. f < functions) s.path
  pub within : All (λ f. f < functions) s.order
  pub listed : (f : ℕ) → IsListed s f → Contains s.order f
