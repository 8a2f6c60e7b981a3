-- The summaries of the first functions, from their points and the accesses that they make.
use Rattle.std.specs.Prelude.{◌≡◌, ℕ, List, length, Some, slice_get}
use Rattle.facts.specs.declared.locks.Guarded.{Guarded}
use Rattle.facts.specs.declared.locks.Summary.{Summary}
use Rattle.facts.specs.Locks.{Points}

-- of the first `count` functions each summary has its exit and its accesses
pub record AreCollected (xs : List Points) (rows : List (List Guarded)) (count : ℕ) (ss : List Summary) : Type 0 where
  pub long : length ss ≡ count
  pub exit : (f : ℕ) (x : Points) (s : Summary) → slice_get xs f ≡ Some x → slice_get ss f ≡ Some s → s.exit ≡ x.exit
  pub guarded : (f : ℕ) (s : Summary) → slice_get ss f ≡ Some s → slice_get rows f ≡ Some s.guarded
