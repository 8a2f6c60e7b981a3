-- The Marks of the loops of a statement stand in its code, in the order of the text.
use Rattle.std.proofs.Common.{◌≡◌, ℕ, suc, ◌+◌, ◌-◌, ◌<◌, ◌≤◌, ◌&&◌, Bool, true, false, if◌then◌else◌, ℤ, pos, int_lt, List, [], ◌∷◌, ◌++◌, length, map, Option, Some, None, option_to_list, option_and_then, refl, ap, ◌∙◌, arith}
use Rattle.std.specs.Prelude.{nat_lt}
use Rattle.std.specs.List.{list_all}
use Rattle.std.proofs.lemmas.Bool.Decides.{nat_tests}
use Rattle.flow_code.specs.declared.code.Function.{Function as FlowFunction}
use Rattle.flow_code.specs.declared.code.LoopInfo.{LoopInfo}
use Rattle.flow_code.specs.declared.region.Bound.{Bound}
use Rattle.core_tree.specs.Core.{Exp, Function, Program, Statement, block, compute, branch, branch_else, while_loop, do_loop, for_loop, break_at, continue_at, gives, Statements, no_statement, and_statement}
use Rattle.lowering_parts.specs.Kept.{kept, maybe_kept, statements_kept}
use Rattle.lowering_parts.specs.Sizes.{exp_size, maybe_size, test_size, statements_size}
use Rattle.lowering_parts.specs.Loops.{lowered_size, limit_of, step_of, loop_of, statement_loops, statements_loops}
use Rattle.flow_lower.specs.Lowered.{function_code, lowered}
use Rattle.weak_valid.specs.Apart.{loops_ascend, loops_are_apart}

-- ascending Marks, from one place to before another
abbrev Between : ℕ → ℕ → List LoopInfo → Type 0
Between m n [] = m ≤ n
Between m n (l ∷ ls) = (m ≤ l.at) × Between (suc l.at) n ls

sooner : (m k n : ℕ) (ls : List LoopInfo) → m ≤ k → Between k n ls → Between m n ls
sooner m k n [] le h = omega (arith, le, h)
sooner m k n (l ∷ ls) le h = (omega (arith, le, h.0), h.1)

later : (m k n : ℕ) (ls : List LoopInfo) → k ≤ n → Between m k ls → Between m n ls
later m k n [] le h = omega (arith, le, h)
later m k n (l ∷ ls) le h = (h.0, later (suc l.at) k n ls le h.1)

joined : (m k n : ℕ) (ls ms : List LoopInfo) → Between m k ls → Between k n ms → Between m n (ls ++ ms)
joined m k n [] ms h g = sooner m k n ms h g
joined m k n (l ∷ ls) ms h g = (h.0, joined (suc l.at) k n ls ms h.1 g)

ascend : (m n : ℕ) (ls : List LoopInfo) → Between m n ls → loops_ascend ls ≡ true
ascend m n [] h = refl
ascend m n (l ∷ []) h = refl
ascend m n (l ∷ k ∷ ls) h = both (nat_lt l.at k.at) (loops_ascend (k ∷ ls)) (let lt : l.at < k.at = h.1.0 in grind (arith, nat_tests, lt)) (ascend (suc l.at) n (k ∷ ls) h.1)
  where
    both : (p q : Bool) → p ≡ true → q ≡ true → (p && q) ≡ true
    both true q h k = k
    both false q h k = cc

-- ---- a loop

module _ (mark first back : ℕ) where
  info : ℕ × Bound → ℤ → LoopInfo
  info l c = record { at = mark; first = first; last = back - 1; counter = l.0; bound = l.1; step = c }

  stepped : (l : ℕ × Bound) (o : Option ℤ) → Between mark (mark + 1) (option_to_list (option_and_then (λ c. if int_lt (pos 0) c then Some (info l c) else None) o))
  unfolding info
  stepped l None = omega arith
  stepped l (Some c) = go (int_lt (pos 0) c)
    where
      go : (b : Bool) → Between mark (mark + 1) (option_to_list (if b then Some (info l c) else None))
      go true = (omega arith, omega arith)
      go false = omega arith

  limited : (s : Exp) (o : Option (ℕ × Bound)) → Between mark (mark + 1) (option_to_list (option_and_then (λ l. option_and_then (λ c. if int_lt (pos 0) c then Some (info l c) else None) (step_of l.0 s)) o))
  unfolding info
  limited s None = omega arith
  limited s (Some l) = stepped l (step_of l.0 s)

  one_loop : (test step : Option Exp) → Between mark (mark + 1) (option_to_list (loop_of test step mark first back))
  unfolding info
  one_loop None step = omega arith
  one_loop (Some e) None = omega arith
  one_loop (Some e) (Some s) = limited s (limit_of e)

-- ---- statements

mutual
  statement_between : (s : Statement) (pc : ℕ) → Between pc (pc + lowered_size s) (statement_loops s pc)
  statement_between (block ss) pc = statements_between ss pc
  statement_between (compute e) pc = omega arith
  statement_between (branch e a at) pc =
      let body = pc + exp_size (kept e) + 1 in
      sooner pc body (pc + lowered_size (branch e a at)) (statement_loops a body) (omega arith) (later body (body + lowered_size a) (pc + lowered_size (branch e a at)) (statement_loops a body) (omega arith) (statement_between a body))
  statement_between (branch_else e a b at) pc =
      let yes' = pc + exp_size (kept e) + 1 in
      let no' = yes' + lowered_size a + 1 in
      sooner pc yes' (pc + lowered_size (branch_else e a b at)) (statement_loops a yes' ++ statement_loops b no') (omega arith)
      (joined yes' no' (pc + lowered_size (branch_else e a b at)) (statement_loops a yes') (statement_loops b no')
      (later yes' (yes' + lowered_size a) no' (statement_loops a yes') (omega arith) (statement_between a yes'))
      (later no' (no' + lowered_size b) (pc + lowered_size (branch_else e a b at)) (statement_loops b no') (omega arith) (statement_between b no')))
  statement_between (while_loop e a at) pc =
      let body = pc + 1 + exp_size (kept e) + 1 in
      sooner pc body (pc + lowered_size (while_loop e a at)) (statement_loops a body) (omega arith) (later body (body + lowered_size a) (pc + lowered_size (while_loop e a at)) (statement_loops a body) (omega arith) (statement_between a body))
  statement_between (do_loop a e at) pc =
      sooner pc (pc + 1) (pc + lowered_size (do_loop a e at)) (statement_loops a (pc + 1)) (omega arith) (later (pc + 1) (pc + 1 + lowered_size a) (pc + lowered_size (do_loop a e at)) (statement_loops a (pc + 1)) (omega arith) (statement_between a (pc + 1)))
  statement_between (for_loop start test step a at) pc =
      let mark = pc + lowered_size start in
      let body = mark + 1 + test_size (maybe_kept test) in
      let back = body + lowered_size a + maybe_size (maybe_kept step) in
      joined pc mark (pc + lowered_size (for_loop start test step a at)) (statement_loops start pc) (option_to_list (loop_of test step mark body back) ++ statement_loops a body)
      (statement_between start pc)
      (joined mark (mark + 1) (pc + lowered_size (for_loop start test step a at)) (option_to_list (loop_of test step mark body back)) (statement_loops a body)
      (one_loop mark body back test step)
      (sooner (mark + 1) body (pc + lowered_size (for_loop start test step a at)) (statement_loops a body) (omega arith) (later body (body + lowered_size a) (pc + lowered_size (for_loop start test step a at)) (statement_loops a body) (omega arith) (statement_between a body))))
  statement_between (break_at at) pc = omega arith
  statement_between (continue_at at) pc = omega arith
  statement_between (gives e at) pc = omega arith

  statements_between : (ss : Statements) (pc : ℕ) → Between pc (pc + statements_size (statements_kept ss)) (statements_loops ss pc)
  statements_between no_statement pc = omega arith
  statements_between (and_statement s ss) pc =
      joined pc (pc + lowered_size s) (pc + statements_size (statements_kept (and_statement s ss))) (statement_loops s pc) (statements_loops ss (pc + lowered_size s)) (statement_between s pc)
      (later (pc + lowered_size s) (pc + lowered_size s + statements_size (statements_kept ss)) (pc + statements_size (statements_kept (and_statement s ss))) (statements_loops ss (pc + lowered_size s)) (omega arith) (statements_between ss (pc + lowered_size s)))

-- ---- the code

all_apart : (fs : List Function) → list_all (λ (fn : FlowFunction). loops_ascend fn.loops) (map function_code fs) ≡ true
all_apart [] = refl
all_apart (f ∷ fs) = ap (λ b. b && list_all (λ (fn : FlowFunction). loops_ascend fn.loops) (map function_code fs)) (ascend (length f.objects + length f.arrivals) (length f.objects + length f.arrivals + lowered_size f.body) (statement_loops f.body (length f.objects + length f.arrivals)) (statement_between f.body (length f.objects + length f.arrivals))) ∙ all_apart fs

pub apart : (p : Program) → loops_are_apart (lowered p) ≡ true
apart p = all_apart p.functions
