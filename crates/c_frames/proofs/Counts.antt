-- As many locals are kept as are declared.
use Rattle.std.proofs.Common.{◌≡◌, ℕ, ◌+◌, List, [], ◌∷◌, length, map, refl, ap, ◌∙◌, arith, length-append}
use Rattle.std.proofs.lemmas.List.{length-map}
use Rattle.c_tree.specs.Tree.{Formal, Declares, declares, Start, start_declares, start_computes, Statement, block, compute, break_at, continue_at, gives, branch, branch_else, while_loop, do_loop, for_loop, Parts, no_part, and_declares, and_does}
use Rattle.c_locals.specs.Addresses.{count_of_declares, count_of_start, count_of_locals, count_of_parts}
use Rattle.c_frames.specs.declared.local.Local.{Local}
use Rattle.c_frames.specs.Frames.{formal_of, marked}
use Rattle.c_frames.specs.Locals.{local_of, declares_locals, start_locals, statement_locals, parts_locals}

marked_length : (ns : List ℕ) (n : ℕ) (ls : List Local) → length (marked ns n ls) ≡ length ls
marked_length ns n [] = refl
marked_length ns n (l ∷ ls) = omega (arith, marked_length ns (n + 1) ls)

declares_length : (d : Declares) → length (declares_locals d) ≡ count_of_declares d
declares_length (declares s os at) = length-map os (local_of s)

start_length : (s : Start) → length (start_locals s) ≡ count_of_start s
start_length (start_declares d) = declares_length d
start_length (start_computes e) = refl

mutual
  statement_length : (s : Statement) → length (statement_locals s) ≡ count_of_locals s
  statement_length (block ps at) = parts_length ps
  statement_length (compute e at) = refl
  statement_length (break_at at) = refl
  statement_length (continue_at at) = refl
  statement_length (gives e at) = refl
  statement_length (branch e a at) = statement_length a
  statement_length (branch_else e a b at) = omega (arith, length-append (statement_locals a) (statement_locals b), statement_length a, statement_length b)
  statement_length (while_loop e a at) = statement_length a
  statement_length (do_loop a e at) = statement_length a
  statement_length (for_loop start test next a at) = omega (arith, length-append (start_locals start) (statement_locals a), start_length start, statement_length a)

  parts_length : (ps : Parts) → length (parts_locals ps) ≡ count_of_parts ps
  parts_length no_part = refl
  parts_length (and_declares d ps) = omega (arith, length-append (declares_locals d) (parts_locals ps), declares_length d, parts_length ps)
  parts_length (and_does s ps) = omega (arith, length-append (statement_locals s) (parts_locals ps), statement_length s, parts_length ps)

pub formals_length : (ns : List ℕ) (n : ℕ) (ps : List Formal) → length (marked ns n (map formal_of ps)) ≡ length ps
formals_length ns n ps = marked_length ns n (map formal_of ps) ∙ length-map ps formal_of

pub locals_length : (ns : List ℕ) (n : ℕ) (ps : Parts) → length (marked ns n (parts_locals ps)) ≡ count_of_parts ps
locals_length ns n ps = marked_length ns n (parts_locals ps) ∙ parts_length ps

-- after a definition the numbers of its formals and locals are used
pub definition_after : (ns : List ℕ) (n m last : ℕ) (ps : List Formal) (parts : Parts) (locals : List Local) →
    m ≡ n + length ps → locals ≡ marked ns m (parts_locals parts) → last ≡ m + length locals →
    last ≡ n + (length ps + count_of_parts parts)
definition_after ns n m last ps parts locals e l b =
    let many : length locals ≡ count_of_parts parts = ap length l ∙ locals_length ns m parts in
    omega arith
