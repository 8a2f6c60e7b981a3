-- The loops of a source's code stand after the making of their function's objects.
use Rattle.std.proofs.Common.{◌≡◌, ℕ, ◌+◌, ◌-◌, ◌≤◌, Bool, true, false, if◌then◌else◌, ℤ, pos, int_lt, List, [], ◌∷◌, ◌++◌, length, map, Option, Some, None, option_to_list, option_and_then, refl, sym, ap, subst, ◌∙◌, arith}
use Rattle.std.specs.Prelude.{slice_get, option_map, ◌==◌}
use Rattle.std.specs.List.{list_all}
use Rattle.std.proofs.lemmas.Option.{slice_get-map}
use Rattle.flow_code.specs.declared.code.Function.{Function as FlowFunction}
use Rattle.flow_code.specs.declared.code.LoopInfo.{LoopInfo}
use Rattle.flow_code.specs.declared.region.Bound.{Bound}
use Rattle.flow_code.specs.Threads.{objects_of}
use Rattle.weak_code.specs.Stripped.{is_plain}
use Rattle.core_tree.specs.Core.{Exp, Statement, block, compute, branch, branch_else, while_loop, do_loop, for_loop, break_at, continue_at, gives, Statements, no_statement, and_statement, Function, Program}
use Rattle.lowering_parts.specs.Kept.{kept, maybe_kept}
use Rattle.lowering_parts.specs.Sizes.{exp_size, maybe_size, test_size}
use Rattle.lowering_parts.specs.Loops.{lowered_size, limit_of, step_of, loop_of, statement_loops, statements_loops}
use Rattle.flow_lower.specs.Lowered.{body_code, function_code, lowered}
use Rattle.lower_sound.proofs.Functions.{its_objects}
use Rattle.lower_sound.proofs.Objects.{count_of_objects}
use Rattle.erasure.proofs.Fronts.{LoopsAfter}

module _ (m : ℕ) where
  joined : (ls ms : List LoopInfo) → LoopsAfter m ls → LoopsAfter m ms → LoopsAfter m (ls ++ ms)
  joined [] ms h k = k
  joined (l ∷ ls) ms h k = (h.0, joined ls ms h.1 k)

  module _ (mark first back : ℕ) (at : m ≤ mark) (last : m ≤ back) where
    abbrev info : ℕ × Bound → ℤ → LoopInfo
    info l c = record { at = mark; first = first; last = back - 1; counter = l.0; bound = l.1; step = c }

    stepped_after : (l : ℕ × Bound) (o : Option ℤ) → LoopsAfter m (option_to_list (option_and_then (λ c. if int_lt (pos 0) c then Some (info l c) else None) o))
    stepped_after l None = tt
    stepped_after l (Some c) = by (int_lt (pos 0) c)
      where
        by : (b : Bool) → LoopsAfter m (option_to_list (if b then Some (info l c) else None))
        by true = ((at, omega (arith, last)), tt)
        by false = tt

    limited_after : (s : Exp) (o : Option (ℕ × Bound)) → LoopsAfter m (option_to_list (option_and_then (λ l. option_and_then (λ c. if int_lt (pos 0) c then Some (info l c) else None) (step_of l.0 s)) o))
    limited_after s None = tt
    limited_after s (Some l) = stepped_after l (step_of l.0 s)

    for_after : (test step : Option Exp) → LoopsAfter m (option_to_list (loop_of test step mark first back))
    for_after None step = tt
    for_after (Some e) None = tt
    for_after (Some e) (Some s) = limited_after s (limit_of e)

  mutual
    statement_after : (s : Statement) (pc : ℕ) → m ≤ pc → LoopsAfter m (statement_loops s pc)
    statement_after (block ss) pc le = statements_after ss pc le
    statement_after (compute e) pc le = tt
    statement_after (branch e a at) pc le = statement_after a (pc + exp_size (kept e) + 1) (omega (arith, le))
    statement_after (branch_else e a b at) pc le =
        let yes' = pc + exp_size (kept e) + 1 in
        let no' = yes' + lowered_size a + 1 in
        joined (statement_loops a yes') (statement_loops b no') (statement_after a yes' (omega (arith, le))) (statement_after b no' (omega (arith, le)))
    statement_after (while_loop e a at) pc le = statement_after a (pc + 1 + exp_size (kept e) + 1) (omega (arith, le))
    statement_after (do_loop a e at) pc le = statement_after a (pc + 1) (omega (arith, le))
    statement_after (for_loop start test step a at) pc le =
        let mark = pc + lowered_size start in
        let body = mark + 1 + test_size (maybe_kept test) in
        let back = body + lowered_size a + maybe_size (maybe_kept step) in
        joined (statement_loops start pc) (option_to_list (loop_of test step mark body back) ++ statement_loops a body) (statement_after start pc le)
        (joined (option_to_list (loop_of test step mark body back)) (statement_loops a body) (for_after mark body back (omega (arith, le)) (omega (arith, le)) test step) (statement_after a body (omega (arith, le))))
    statement_after (break_at at) pc le = tt
    statement_after (continue_at at) pc le = tt
    statement_after (gives e at) pc le = tt

    statements_after : (ss : Statements) (pc : ℕ) → m ≤ pc → LoopsAfter m (statements_loops ss pc)
    statements_after no_statement pc le = tt
    statements_after (and_statement s ss) pc le = joined (statement_loops s pc) (statements_loops ss (pc + lowered_size s)) (statement_after s pc le) (statements_after ss (pc + lowered_size s) (omega (arith, le)))

function_after : (g : Function) → LoopsAfter (length (objects_of (function_code g).instrs)) (function_code g).loops
function_after g =
    let few : length (objects_of (body_code g)) ≡ length g.objects = ap length (its_objects g) ∙ count_of_objects (length g.pointers) g.objects in
    statement_after (length (objects_of (body_code g))) g.body (length g.objects + length g.arrivals) (omega (arith, few))

pub loops_are_after : (p : Program) (f : ℕ) (fn : FlowFunction) → slice_get (lowered p).functions f ≡ Some fn → LoopsAfter (length (objects_of fn.instrs)) fn.loops
loops_are_after p f fn e = by (slice_get p.functions f) (sym (slice_get-map function_code p.functions f) ∙ e)
  where
    by : (o : Option Function) → option_map function_code o ≡ Some fn → LoopsAfter (length (objects_of fn.instrs)) fn.loops
    by None h = cc
    by (Some g) h =
        let same : function_code g ≡ fn = cc in
        subst (λ (z : FlowFunction). LoopsAfter (length (objects_of z.instrs)) z.loops) same (function_after g)

-- the code has no weak locks

no_regions : (fs : List Function) → list_all (λ (fn : FlowFunction). length fn.regions == 0) (map function_code fs) ≡ true
no_regions [] = refl
no_regions (f ∷ fs) = no_regions fs

pub lowered_plain : (p : Program) → is_plain (lowered p) ≡ true
lowered_plain p = no_regions p.functions
