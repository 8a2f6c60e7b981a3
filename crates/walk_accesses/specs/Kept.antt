-- For private clauses: what is kept of a thread's accesses.
use Rattle.std.specs.Prelude.{List, [], ◌∷◌, Option, Some, None}
use Rattle.thread_interpreter.specs.declared.access.Access.{Access}

-- the first of them, if there is one
abbrev pub first_of : Option (List Access) → Option Access
first_of None = None
first_of (Some []) = None
first_of (Some (a ∷ rest)) = Some a
