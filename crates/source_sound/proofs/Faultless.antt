-- A source without a fault: none of its parts has one, it has few sites, and it defines `main`.
use Rattle.std.proofs.Common.{◌≡◌, ◌≤◌, Bool, true, false, List, [], ◌++◌, length, Option, Some, None, slice_get, codes, refl}
use Rattle.c_tree.specs.Tree.{Outer}
use Rattle.c_types.specs.declared.fault.Found.{Found}
use Rattle.c_types.specs.Found.{first_among}
use Rattle.c_types.specs.Scopes.{has_name}
use Rattle.c_names.specs.Sources.{functions_with}
use Rattle.c_names.specs.Known.{known_at_start}
use Rattle.c_programs.specs.Programs.{program_faults}
use Rattle.c_spots.specs.Spots.{Spot, program_spots}
use Rattle.c_sites.specs.Whole.{first_fault, first_fault_by, spot_faults, sites_faults}
use Rattle.source_sound.proofs.FileLists.{append_nil, none_among, short_list}

pub record IsFaultless (os : List Outer) : Type 0 where
  pub faults : program_faults os ≡ []
  pub sites : length (program_spots os) ≤ 1023
  pub main : has_name (functions_with [] os) (codes "main") ≡ true

has_no_first : (o : Option Found) (b : Bool) → first_fault_by o b ≡ None → (o ≡ None) × (b ≡ true)
has_no_first (Some x) b e = cc
has_no_first None true e = (refl, refl)
has_no_first None false e = cc

no_spot : (o : Option Spot) → spot_faults o ≡ [] → o ≡ None
no_spot None e = refl
no_spot (Some x) e = cc

pub faultless : (os : List Outer) → first_fault os ≡ None → IsFaultless os
faultless os e =
    let two = has_no_first (first_among None (program_faults os ++ sites_faults (program_spots os))) (has_name (known_at_start os).defined (codes "main")) e in
    let parts = append_nil (program_faults os) (sites_faults (program_spots os)) (none_among (program_faults os ++ sites_faults (program_spots os)) two.0) in
    record {
      faults = parts.0;
      sites = short_list (program_spots os) 1023 (no_spot (slice_get (program_spots os) 1023) parts.1);
      main = two.1;
    }
