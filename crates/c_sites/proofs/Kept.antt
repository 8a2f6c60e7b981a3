-- For each formal and local of a function there is one answer whether its type keeps it in cells.
use Rattle.std.proofs.Common.{◌≡◌, ◌+◌, List, length, map, refl, arith, length-append}
use Rattle.std.proofs.lemmas.List.{length-map}
use Rattle.c_tree.specs.Tree.{Formal, Declares, declares, Start, start_declares, start_computes, Statement, block, compute, break_at, continue_at, gives, branch, branch_else, while_loop, do_loop, for_loop, Parts, no_part, and_declares, and_does}
use Rattle.c_locals.specs.Addresses.{count_of_declares, count_of_start, count_of_locals, count_of_parts}
use Rattle.c_locals.specs.Kept.{is_kept_formal}
use Rattle.c_sites.specs.Functions.{object_kept, declares_kept, start_kept, statement_kept, parts_kept, definition_kept}

declares_length : (d : Declares) → length (declares_kept d) ≡ count_of_declares d
declares_length (declares s os at) = length-map os (object_kept s)

start_length : (s : Start) → length (start_kept s) ≡ count_of_start s
start_length (start_declares d) = declares_length d
start_length (start_computes e) = refl

mutual
  statement_length : (s : Statement) → length (statement_kept s) ≡ count_of_locals s
  statement_length (block ps at) = parts_length ps
  statement_length (compute e at) = refl
  statement_length (break_at at) = refl
  statement_length (continue_at at) = refl
  statement_length (gives e at) = refl
  statement_length (branch e a at) = statement_length a
  statement_length (branch_else e a b at) = omega (arith, length-append (statement_kept a) (statement_kept b), statement_length a, statement_length b)
  statement_length (while_loop e a at) = statement_length a
  statement_length (do_loop a e at) = statement_length a
  statement_length (for_loop start test next a at) = omega (arith, length-append (start_kept start) (statement_kept a), start_length start, statement_length a)

  parts_length : (ps : Parts) → length (parts_kept ps) ≡ count_of_parts ps
  parts_length no_part = refl
  parts_length (and_declares d ps) = omega (arith, length-append (declares_kept d) (parts_kept ps), declares_length d, parts_length ps)
  parts_length (and_does s ps) = omega (arith, length-append (statement_kept s) (parts_kept ps), statement_length s, parts_length ps)

pub definition_length : (ps : List Formal) (parts : Parts) → length (definition_kept ps parts) ≡ length ps + count_of_parts parts
definition_length ps parts = omega (arith, length-append (map is_kept_formal ps) (parts_kept parts), length-map ps is_kept_formal, parts_length parts)
