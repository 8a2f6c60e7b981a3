-- The places and registers of counted loops are in their function.
use Rattle.std.proofs.Common.{◌≡◌, ℕ, ◌+◌, ◌-◌, ◌≤◌, ◌<◌, Bool, true, false, if◌then◌else◌, ℤ, pos, int_lt, List, [], ◌∷◌, ◌++◌, length, Option, Some, None, IfSome, option_to_list, option_and_then, refl, ◌∙◌, arith}
use Rattle.std.proofs.lemmas.Bool.{and_from, lt-ltb}
use Rattle.std.proofs.lemmas.Option.{slice_get_within}
use Rattle.std.proofs.lemmas.List.Folds.{list_all-append}
use Rattle.std.specs.Option.{option_zip}
use Rattle.flow_code.specs.declared.code.Function.{Function as FlowFunction}
use Rattle.flow_code.specs.declared.code.LoopInfo.{LoopInfo}
use Rattle.flow_code.specs.declared.region.Bound.{Bound}
use Rattle.word_semantics.specs.declared.operator.BinaryOp.TheVariants as binary_op
use Rattle.flow_code.specs.Kinds.{has_register, has_instr}
use Rattle.flow_code.specs.Regions.{bound_is_register, loop_fits}
use Rattle.flow_code.specs.Valid.{loops_fit}
use Rattle.core_tree.specs.Core as core
use Rattle.core_tree.specs.Core.{Exp, register, binary, Statement, block, compute, branch, branch_else, while_loop, do_loop, for_loop, break_at, continue_at, gives, Statements, no_statement, and_statement}
use Rattle.lowering_parts.specs.Kept.{kept, maybe_kept, statements_kept}
use Rattle.lowering_parts.specs.Sizes.{exp_size, maybe_size, test_size, statements_size}
use Rattle.lowering_parts.specs.Loops.{lowered_size, register_of, bound_of, limit_of, step_of, loop_of, statement_loops, statements_loops}
use Rattle.core_tree.specs.Within.{IsWithinExp, IsWithinMaybe, IsWithinStatement, AreWithinStatements}

module _ (g : FlowFunction) (rs : List Bool) (os fs : ℕ) (few : length rs ≤ g.registers) where
  -- ---- the registers

  abbrev Fits : ℕ × Bound → Type 0
  Fits l = (has_register g l.0 ≡ true) × (bound_is_register g l.1 ≡ true)

  registered : (r : ℕ) → r < length rs → has_register g r ≡ true
  registered r lt = lt-ltb r g.registers (omega arith)

  register_fits : (e : Exp) → IsWithinExp rs os fs e → IfSome (register_of e) (λ r. has_register g r ≡ true)
  register_fits (register n false at) w = registered n (slice_get_within rs n false w)
  register_fits _ w = tt

  bound_fits : (e : Exp) → IsWithinExp rs os fs e → IfSome (bound_of e) (λ b. bound_is_register g b ≡ true)
  bound_fits (core.number z at) w = refl
  bound_fits (register n false at) w = registered n (slice_get_within rs n false w)
  bound_fits _ w = tt

  both_fit : (o : Option ℕ) (q : Option Bound) → IfSome o (λ r. has_register g r ≡ true) → IfSome q (λ b. bound_is_register g b ≡ true) → IfSome (option_zip o q) Fits
  both_fit None q h k = tt
  both_fit (Some r) None h k = tt
  both_fit (Some r) (Some b) h k = (h, k)

  limit_fits : (e : Exp) → IsWithinExp rs os fs e → IfSome (limit_of e) Fits
  limit_fits (binary binary_op.Less a b at) w = both_fit (register_of a) (bound_of b) (register_fits a w.0) (bound_fits b w.1)
  limit_fits _ w = tt

  -- ---- a loop

  module _ (mark first back : ℕ) (marked : mark < length g.instrs) (forward : first ≤ back) (within : back < length g.instrs) where
    abbrev info : ℕ × Bound → ℤ → LoopInfo
    info l c = record { at = mark; first = first; last = back - 1; counter = l.0; bound = l.1; step = c }

    placed : (k : ℕ) → k ≤ back → has_instr g k ≡ true
    placed k le = lt-ltb k (length g.instrs) (omega arith)

    info_fits : (l : ℕ × Bound) (c : ℤ) → Fits l → loops_fit g (info l c ∷ []) ≡ true
    info_fits l c h =
        let a : has_instr g mark ≡ true = lt-ltb mark (length g.instrs) marked in
        and_from _ _ (and_from _ _ (and_from _ _ (and_from _ _ (and_from _ _ a (placed first forward)) (placed (back - 1) (omega arith))) h.0) h.1) refl

    stepped_fits : (l : ℕ × Bound) (o : Option ℤ) → Fits l → loops_fit g (option_to_list (option_and_then (λ c. if int_lt (pos 0) c then Some (info l c) else None) o)) ≡ true
    stepped_fits l None h = refl
    stepped_fits l (Some c) h = by (int_lt (pos 0) c)
      where
        by : (b : Bool) → loops_fit g (option_to_list (if b then Some (info l c) else None)) ≡ true
        by true = info_fits l c h
        by false = refl

    limited_fits : (s : Exp) (o : Option (ℕ × Bound)) → IfSome o Fits → loops_fit g (option_to_list (option_and_then (λ l. option_and_then (λ c. if int_lt (pos 0) c then Some (info l c) else None) (step_of l.0 s)) o)) ≡ true
    limited_fits s None h = refl
    limited_fits s (Some l) h = stepped_fits l (step_of l.0 s) h

    for_fits : (test step : Option Exp) → IsWithinMaybe rs os fs test → loops_fit g (option_to_list (loop_of test step mark first back)) ≡ true
    for_fits None step w = refl
    for_fits (Some e) None w = refl
    for_fits (Some e) (Some s) w = limited_fits s (limit_of e) (limit_fits e w)

  -- ---- statements

  joined : (ls ms : List LoopInfo) → loops_fit g ls ≡ true → loops_fit g ms ≡ true → loops_fit g (ls ++ ms) ≡ true
  joined ls ms h k = list_all-append (loop_fits g) ls ms ∙ and_from (loops_fit g ls) (loops_fit g ms) h k

  mutual
    pub statement_fits : (s : Statement) (pc : ℕ) → IsWithinStatement rs os fs s → pc + lowered_size s ≤ length g.instrs → loops_fit g (statement_loops s pc) ≡ true
    statement_fits (block ss) pc w le = statements_fit ss pc w le
    statement_fits (compute e) pc w le = refl
    statement_fits (branch e a at) pc w le = statement_fits a (pc + exp_size (kept e) + 1) w.1 (omega (arith, le))
    statement_fits (branch_else e a b at) pc w le =
        let yes' = pc + exp_size (kept e) + 1 in
        let no' = yes' + lowered_size a + 1 in
        joined (statement_loops a yes') (statement_loops b no') (statement_fits a yes' w.1 (omega (arith, le))) (statement_fits b no' w.2 (omega (arith, le)))
    statement_fits (while_loop e a at) pc w le = statement_fits a (pc + 1 + exp_size (kept e) + 1) w.1 (omega (arith, le))
    statement_fits (do_loop a e at) pc w le = statement_fits a (pc + 1) w.0 (omega (arith, le))
    statement_fits (for_loop start test step a at) pc w le =
        let mark = pc + lowered_size start in
        let body = mark + 1 + test_size (maybe_kept test) in
        let back = body + lowered_size a + maybe_size (maybe_kept step) in
        joined (statement_loops start pc) (option_to_list (loop_of test step mark body back) ++ statement_loops a body)
        (statement_fits start pc w.0 (omega (arith, le)))
        (joined (option_to_list (loop_of test step mark body back)) (statement_loops a body)
        (for_fits mark body back (omega (arith, le)) (omega arith) (omega (arith, le)) test step w.1)
        (statement_fits a body w.3 (omega (arith, le))))
    statement_fits (break_at at) pc w le = refl
    statement_fits (continue_at at) pc w le = refl
    statement_fits (gives e at) pc w le = refl

    pub statements_fit : (ss : Statements) (pc : ℕ) → AreWithinStatements rs os fs ss → pc + statements_size (statements_kept ss) ≤ length g.instrs → loops_fit g (statements_loops ss pc) ≡ true
    statements_fit no_statement pc w le = refl
    statements_fit (and_statement a ss) pc w le = joined (statement_loops a pc) (statements_loops ss (pc + lowered_size a)) (statement_fits a pc w.0 (omega (arith, le))) (statements_fit ss (pc + lowered_size a) w.1 (omega (arith, le)))
