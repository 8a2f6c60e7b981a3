-- The first rule that a source breaks, its sites among them.
use Rattle.std.specs.Prelude.{ℕ, Bool, if◌then◌else◌, List, [], ◌∷◌, ◌++◌, slice_get, codes, Option, Some, None}
use Rattle.c_tree.specs.Tree.{Outer}
use Rattle.rr_base.specs.Positions.{position_at}
use Rattle.c_types.specs.declared.fault.Found.{Found}
use Rattle.c_types.specs.declared.fault.FaultKind.TheVariants as fault
use Rattle.c_types.specs.Found.{first_among, found_at}
use Rattle.c_types.specs.Scopes.{has_name}
use Rattle.c_names.specs.Known.{known_at_start}
use Rattle.c_programs.specs.Programs.{program_faults}
use Rattle.c_spots.specs.Spots.{Spot, program_spots}

-- the greatest number of sites
abbrev pub most_sites : ℕ
most_sites = 1023

-- the fault stands at the first site too many
abbrev pub spot_faults : Option Spot → List Found
spot_faults None = []
spot_faults (Some spot) = found_at fault.TooManySites spot.at ∷ []

-- one site more than there may be
abbrev pub sites_faults : List Spot → List Found
sites_faults spots = spot_faults (slice_get spots most_sites)

-- told at line 1 and column 1, as it stands nowhere
abbrev pub no_main : Found
no_main = found_at fault.NoMain (position_at 1 1)

-- a source without another fault defines `main`
abbrev pub first_fault_by : Option Found → Bool → Option Found
first_fault_by (Some x) has_main = Some x
first_fault_by None has_main = if has_main then None else Some no_main

-- the fault that comes first in the text; `NoMain` only without any
abbrev pub first_fault : List Outer → Option Found
first_fault os = first_fault_by (first_among None (program_faults os ++ sites_faults (program_spots os))) (has_name (known_at_start os).defined (codes "main"))
