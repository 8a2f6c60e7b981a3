-- The locals that statements declare (C99 6.8), in the order of the text.
use Rattle.std.specs.Prelude.{nat_lt, Bool, false, List, [], ◌++◌, map}
use Rattle.rr_base.specs.declared.position.Position.{Position}
use Rattle.c_tree.specs.declared.ctype.Specifier.{Specifier}
use Rattle.c_tree.specs.Tree.{Declared, declared, declared_pointer, Object, Declares, declares, Start, start_declares, start_computes, Statement, block, compute, break_at, continue_at, gives, branch, branch_else, while_loop, do_loop, for_loop, Parts, no_part, and_declares, and_does}
use Rattle.c_rules.specs.Faults.{name_place}
use Rattle.c_names.specs.Sources.{declared_by}
use Rattle.c_locals.specs.Kept.{is_kept}
use Rattle.c_frames.specs.declared.local.Local.{Local}

-- whether its type keeps it in cells, whether it is a pointer, and the place of its name
abbrev pub local_at : Bool → Bool → Position → Local
local_at kept pointer at = record { is_kept = kept; is_pointer = pointer; at = at }

-- by its own stars and lengths behind the shared specifier; a pointer to functions is a number
abbrev pub local_declared : Specifier → Declared → Local
local_declared s (declared stars name lengths) = local_at (is_kept s stars lengths) (nat_lt 0 stars) (name_place name)
local_declared s (declared_pointer stars name ps) = local_at false false (name_place name)

-- whether it has a first value changes nothing here
abbrev pub local_of : Specifier → Object → Local
local_of s o = local_declared s (declared_by o)

-- one declaration may give several locals
abbrev pub declares_locals : Declares → List Local
declares_locals (declares s os at) = map (local_of s) os

-- those that a `for` declares in its head
abbrev pub start_locals : Start → List Local
start_locals (start_declares d) = declares_locals d
start_locals (start_computes e) = []

abbrev mutual
  pub statement_locals : Statement → List Local
  statement_locals (block ps at) = parts_locals ps
  statement_locals (compute e at) = []
  statement_locals (break_at at) = []
  statement_locals (continue_at at) = []
  statement_locals (gives e at) = []
  statement_locals (branch e a at) = statement_locals a
  statement_locals (branch_else e a b at) = statement_locals a ++ statement_locals b
  statement_locals (while_loop e a at) = statement_locals a
  statement_locals (do_loop a e at) = statement_locals a
  statement_locals (for_loop start test next a at) = start_locals start ++ statement_locals a

  pub parts_locals : Parts → List Local
  parts_locals no_part = []
  parts_locals (and_declares d ps) = declares_locals d ++ parts_locals ps
  parts_locals (and_does s ps) = statement_locals s ++ parts_locals ps
