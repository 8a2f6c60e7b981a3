-- The loops of a statement are left and gone back to as they should be.
use Rattle.std.proofs.Common.{◌≡◌, ℕ, ◌+◌, ◌-◌, ◌<◌, ◌≤◌, ◌≢◌, ◌&&◌, Bool, true, false, if◌then◌else◌, ℤ, pos, int_lt, List, [], ◌∷◌, ◌++◌, length, map, Option, Some, None, option_to_list, option_and_then, refl, subst, arith, length-append}
use Rattle.std.specs.List.{list_all}
use Rattle.std.proofs.lemmas.Bool.{and_from}
use Rattle.std.proofs.lemmas.Bool.Decides.{nat_tests}
use Rattle.flow_code.specs.declared.act.Act.{Act}
use Rattle.flow_code.specs.declared.act.Act.TheVariants as act
use Rattle.flow_code.specs.declared.act.Instr.{Instr}
use Rattle.flow_code.specs.declared.code.Function.{Function as FlowFunction}
use Rattle.flow_code.specs.declared.code.LoopInfo.{LoopInfo}
use Rattle.flow_code.specs.declared.region.Bound.{Bound}
use Rattle.core_tree.specs.Core.{Exp, Function, Program, Statement, block, compute, branch, branch_else, while_loop, do_loop, for_loop, break_at, continue_at, gives, Statements, no_statement, and_statement}
use Rattle.lowering_parts.specs.Kept.{kept, maybe_kept, statement_kept, statements_kept}
use Rattle.lowering_parts.specs.Sizes.{exp_size, maybe_size, test_size, statement_size, statements_size}
use Rattle.lowering_parts.specs.Loops.{lowered_size, limit_of, step_of, loop_of, statement_loops, statements_loops}
use Rattle.flow_lower.specs.Lowered.{held, instr, one, width, exp_code, maybe_code, test_code, statement_kinds, maybe_kinds, statement_code, statements_code, objects_code, arrivals_code, body_code, function_code, lowered}
use Rattle.lower_sound.proofs.Lengths.{exp_length, maybe_length, test_length, statement_length, objects_length, arrivals_length}
use Rattle.weak_valid.proofs.Accesses.{Each, each_append}
use Rattle.guard_paths.specs.LoopsClosed.{jump_keeps, act_keeps, instrs_keep, loop_is_closed, loops_are_closed}
use Rattle.source_loops.proofs.Jumps.{ActJumps, Jumps, joined, exp_jumps, maybe_jumps, test_jumps, statement_jumps, statements_jumps}

-- ---- instructions before a loop, in it and after it

jump_before : (a b k to : ℕ) → k < a → jump_keeps a b k to ≡ true
jump_before a b k to lt = grind (arith, nat_tests, lt)

jump_after : (a b k to : ℕ) → b < k → to ≢ a → jump_keeps a b k to ≡ true
jump_after a b k to lt ne = grind (arith, nat_tests, lt, ne)

jump_inside : (a b k to : ℕ) → a ≤ k → k ≤ b → a ≤ to → to ≤ b + 1 → jump_keeps a b k to ≡ true
jump_inside a b k to l h l' h' = grind (arith, nat_tests, l, h, l', h')

keeps_append : (a b k : ℕ) (is js : List Instr) → instrs_keep a b k is ≡ true → instrs_keep a b (k + length is) js ≡ true → instrs_keep a b k (is ++ js) ≡ true
keeps_append a b k [] js h g = subst (λ n. instrs_keep a b n js ≡ true) (omega arith) g
keeps_append a b k (i ∷ is) js h g = go (act_keeps a b k i.act) h (λ h. keeps_append a b (k + 1) is js h (subst (λ n. instrs_keep a b n js ≡ true) (omega arith) g))
  where
    go : (x : Bool) → (x && instrs_keep a b (k + 1) is) ≡ true → (instrs_keep a b (k + 1) is ≡ true → instrs_keep a b (k + 1) (is ++ js) ≡ true) → (x && instrs_keep a b (k + 1) (is ++ js)) ≡ true
    go true h rec = rec h
    go false h rec = cc

act_before : (a b k : ℕ) (i : Act) → k < a → act_keeps a b k i ≡ true
act_before a b k (act.Jump to) lt = jump_before a b k to lt
act_before a b k (act.Branch on x y) lt = and_from (jump_keeps a b k x) (jump_keeps a b k y) (jump_before a b k x lt) (jump_before a b k y lt)
act_before a b k _ lt = refl

keeps_before : (a b k : ℕ) (is : List Instr) → k + length is ≤ a → instrs_keep a b k is ≡ true
keeps_before a b k [] le = refl
keeps_before a b k (i ∷ is) le = and_from (act_keeps a b k i.act) (instrs_keep a b (k + 1) is) (act_before a b k i.act (omega (arith, le))) (keeps_before a b (k + 1) is (omega (arith, le)))

-- a place that isn't between these
abbrev Outside : ℕ → ℕ → ℕ → Type 0
Outside x y to = x ≤ to → y ≤ to

act_past : (a b k x y : ℕ) (i : Act) → b < k → x ≤ a → a < y → ActJumps (Outside x y) i → act_keeps a b k i ≡ true
act_past a b k x y (act.Jump to) lt l h j = jump_after a b k to lt (λ e. let q = j (omega (arith, e, l)) in omega (arith, q, e, h))
act_past a b k x y (act.Branch on u v) lt l h j = and_from (jump_keeps a b k u) (jump_keeps a b k v) (jump_after a b k u lt (λ e. let q = j.0 (omega (arith, e, l)) in omega (arith, q, e, h))) (jump_after a b k v lt (λ e. let q = j.1 (omega (arith, e, l)) in omega (arith, q, e, h)))
act_past a b k x y _ lt l h j = refl

keeps_past : (a b k x y : ℕ) (is : List Instr) → b < k → x ≤ a → a < y → Jumps (Outside x y) is → instrs_keep a b k is ≡ true
keeps_past a b k x y [] lt l h j = refl
keeps_past a b k x y (i ∷ is) lt l h j = and_from (act_keeps a b k i.act) (instrs_keep a b (k + 1) is) (act_past a b k x y i.act lt l h j.0) (keeps_past a b (k + 1) x y is (omega (arith, lt)) l h j.1)

abbrev Between : ℕ → ℕ → ℕ → Type 0
Between a b to = (a ≤ to) × (to ≤ b)

act_inside : (a b k : ℕ) (i : Act) → a ≤ k → k ≤ b → ActJumps (Between a (b + 1)) i → act_keeps a b k i ≡ true
act_inside a b k (act.Jump to) l h j = jump_inside a b k to l h j.0 j.1
act_inside a b k (act.Branch on x y) l h j = and_from (jump_keeps a b k x) (jump_keeps a b k y) (jump_inside a b k x l h j.0.0 j.0.1) (jump_inside a b k y l h j.1.0 j.1.1)
act_inside a b k _ l h j = refl

keeps_inside : (a b k : ℕ) (is : List Instr) → a ≤ k → k + length is ≤ b + 1 → Jumps (Between a (b + 1)) is → instrs_keep a b k is ≡ true
keeps_inside a b k [] l h j = refl
keeps_inside a b k (i ∷ is) l h j = and_from (act_keeps a b k i.act) (instrs_keep a b (k + 1) is) (act_inside a b k i.act l (omega (arith, h)) j.0) (keeps_inside a b (k + 1) is (omega (arith, l)) (omega (arith, h)) j.1)

-- ---- loops in a piece of code

-- the loop stands in these instructions, the first of which is the k-th, and they keep it
record IsKept (k : ℕ) (is : List Instr) (l : LoopInfo) : Type 0 where
  low : k ≤ l.at
  long : l.at ≤ l.last + 1
  high : l.last + 1 < k + length is
  keeps : instrs_keep l.at (l.last + 1) k is ≡ true

-- instructions before
after : (k j : ℕ) (is js : List Instr) (ls : List LoopInfo) → j ≡ k + length is → Each (IsKept j js) ls → Each (IsKept k (is ++ js)) ls
after k j is js [] e h = tt
after k j is js (l ∷ ls) e h = (
  record {
    low = let low = h.0.low in omega (arith, low, e);
    long = h.0.long;
    high = let high = h.0.high in omega (arith, high, e, length-append is js);
    keeps = keeps_append l.at (l.last + 1) k is js (keeps_before l.at (l.last + 1) k is (let low = h.0.low in omega (arith, low, e))) (subst (λ n. instrs_keep l.at (l.last + 1) n js ≡ true) e h.0.keeps);
  },
  after k j is js ls e h.1,
)

-- instructions after, which jump to none of these
before : (k y : ℕ) (is js : List Instr) (ls : List LoopInfo) → y ≡ k + length is → Jumps (Outside k y) js → Each (IsKept k is) ls → Each (IsKept k (is ++ js)) ls
before k y is js [] e j h = tt
before k y is js (l ∷ ls) e j h =
    let low = h.0.low in
    let long = h.0.long in
    let high = h.0.high in (
      record {
        low = low;
        long = long;
        high = omega (arith, high, length-append is js);
        keeps = keeps_append l.at (l.last + 1) k is js h.0.keeps (keeps_past l.at (l.last + 1) (k + length is) k y js high low (omega (arith, long, high, e)) j);
      },
      before k y is js ls e j h.1,
    )

-- ---- one loop

module _ (mark first back : ℕ) (P : LoopInfo → Type 0) (has : (l : LoopInfo) → l.at ≡ mark → l.last ≡ back - 1 → P l) where
  info : ℕ × Bound → ℤ → LoopInfo
  info l c = record { at = mark; first = first; last = back - 1; counter = l.0; bound = l.1; step = c }

  stepped : (l : ℕ × Bound) (o : Option ℤ) → Each P (option_to_list (option_and_then (λ c. if int_lt (pos 0) c then Some (info l c) else None) o))
  unfolding info
  stepped l None = tt
  stepped l (Some c) = go (int_lt (pos 0) c)
    where
      go : (b : Bool) → Each P (option_to_list (if b then Some (info l c) else None))
      go true = (has (info l c) refl refl, tt)
      go false = tt

  limited : (s : Exp) (o : Option (ℕ × Bound)) → Each P (option_to_list (option_and_then (λ l. option_and_then (λ c. if int_lt (pos 0) c then Some (info l c) else None) (step_of l.0 s)) o))
  unfolding info
  limited s None = tt
  limited s (Some l) = stepped l (step_of l.0 s)

  one_loop : (test step : Option Exp) → Each P (option_to_list (loop_of test step mark first back))
  unfolding info
  one_loop None step = tt
  one_loop (Some e) None = tt
  one_loop (Some e) (Some s) = limited s (limit_of e)

-- ---- statements

module _ (first : ℕ) where
  mutual
    statement_closed : (s : Statement) (r pc out on : ℕ) → pc + lowered_size s ≤ out → pc + lowered_size s ≤ on → Each (IsKept pc (statement_code first (statement_kept s) r pc out on)) (statement_loops s pc)
    statement_closed (block ss) r pc out on o c = statements_closed ss r pc out on o c
    statement_closed (compute e) r pc out on o c = tt
    statement_closed (branch e a at) r pc out on o c =
        let e' = kept e in
        let a' = statement_kept a in
        let yes' = pc + exp_size e' + 1 in
        let code_a = statement_code first a' (r + width e') yes' out on in
        let choice = instr at (act.Branch (held first e' r) yes' (yes' + statement_size a')) in
        let ls = statement_loops a yes' in
        after pc (pc + exp_size e') (exp_code first e' r pc) (choice ∷ code_a) ls (omega (arith, exp_length first e' r pc))
        (after (pc + exp_size e') yes' (choice ∷ []) code_a ls (omega arith)
        (statement_closed a (r + width e') yes' out on (omega (arith, o)) (omega (arith, c))))
    statement_closed (branch_else e a b at) r pc out on o c =
        let e' = kept e in
        let a' = statement_kept a in
        let b' = statement_kept b in
        let yes' = pc + exp_size e' + 1 in
        let no' = yes' + statement_size a' + 1 in
        let rb = r + width e' + length (statement_kinds a') in
        let code_a = statement_code first a' (r + width e') yes' out on in
        let code_b = statement_code first b' rb no' out on in
        let choice = instr at (act.Branch (held first e' r) yes' no') in
        let leave = instr at (act.Jump (no' + statement_size b')) in
        let ls = statement_loops a yes' in
        let ms = statement_loops b no' in
        let following : Jumps (Outside yes' (yes' + statement_size a')) code_b = statement_jumps (Outside yes' (yes' + statement_size a')) no' (no' + statement_size b') (λ k low high from. omega (arith, low)) first b' rb no' out on (omega arith) (omega arith) (λ from. omega (arith, o)) (λ from. omega (arith, c)) in
        after pc (pc + exp_size e') (exp_code first e' r pc) (choice ∷ (code_a ++ (leave ∷ code_b))) (ls ++ ms) (omega (arith, exp_length first e' r pc))
        (after (pc + exp_size e') yes' (choice ∷ []) (code_a ++ (leave ∷ code_b)) (ls ++ ms) (omega arith)
        (each_append (IsKept yes' (code_a ++ (leave ∷ code_b))) ls ms
        (before yes' (yes' + statement_size a') code_a (leave ∷ code_b) ls (omega (arith, statement_length first a' (r + width e') yes' out on)) ((λ from. omega arith), following)
        (statement_closed a (r + width e') yes' out on (omega (arith, o)) (omega (arith, c))))
        (after yes' (yes' + statement_size a') code_a (leave ∷ code_b) ms (omega (arith, statement_length first a' (r + width e') yes' out on))
        (after (yes' + statement_size a') no' (leave ∷ []) code_b ms (omega arith)
        (statement_closed b rb no' out on (omega (arith, o)) (omega (arith, c)))))))
    statement_closed (while_loop e a at) r pc out on o c =
        let e' = kept e in
        let a' = statement_kept a in
        let body = pc + 1 + exp_size e' + 1 in
        let last = body + statement_size a' in
        let end = last + 1 in
        let code_a = statement_code first a' (r + width e') body end last in
        let choice = instr at (act.Branch (held first e' r) body end) in
        let back = one at (act.Jump pc) in
        let ls = statement_loops a body in
        after pc (pc + 1) (instr at act.Mark ∷ []) (exp_code first e' r (pc + 1) ++ (choice ∷ (code_a ++ back))) ls (omega arith)
        (after (pc + 1) (pc + 1 + exp_size e') (exp_code first e' r (pc + 1)) (choice ∷ (code_a ++ back)) ls (omega (arith, exp_length first e' r (pc + 1)))
        (after (pc + 1 + exp_size e') body (choice ∷ []) (code_a ++ back) ls (omega arith)
        (before body last code_a back ls (omega (arith, statement_length first a' (r + width e') body end last)) ((λ from. omega (arith, from)), tt)
        (statement_closed a (r + width e') body end last (omega arith) (omega arith)))))
    statement_closed (do_loop a e at) r pc out on o c =
        let e' = kept e in
        let a' = statement_kept a in
        let test = pc + 1 + statement_size a' in
        let end = test + exp_size e' + 1 in
        let x = r + length (statement_kinds a') in
        let code_a = statement_code first a' r (pc + 1) end test in
        let code_e = exp_code first e' x test in
        let back = one at (act.Branch (held first e' x) pc end) in
        let ls = statement_loops a (pc + 1) in
        after pc (pc + 1) (instr at act.Mark ∷ []) (code_a ++ (code_e ++ back)) ls (omega arith)
        (before (pc + 1) test code_a (code_e ++ back) ls (omega (arith, statement_length first a' r (pc + 1) end test))
        (joined (Outside (pc + 1) test) code_e back (exp_jumps (Outside (pc + 1) test) test end (λ k low high from. low) first e' x test (omega arith) (omega arith)) (((λ from. omega (arith, from)), (λ from. omega arith)), tt))
        (statement_closed a r (pc + 1) end test (omega arith) (omega arith)))
    statement_closed (for_loop start test step a at) r pc out on o c =
        let start' = statement_kept start in
        let test' = maybe_kept test in
        let step' = maybe_kept step in
        let a' = statement_kept a in
        let mark = pc + statement_size start' in
        let body = mark + 1 + test_size test' in
        let last = body + statement_size a' in
        let back = last + maybe_size step' in
        let end = back + 1 in
        let tested = r + length (statement_kinds start') in
        let inner = tested + length (maybe_kinds test') in
        let stepped = inner + length (statement_kinds a') in
        let code_start = statement_code first start' r pc out on in
        let code_test = test_code first at test' tested (mark + 1) end in
        let code_a = statement_code first a' inner body end last in
        let code_step = maybe_code first step' stepped last in
        let jump = one at (act.Jump mark) in
        let turn = instr at act.Mark ∷ (code_test ++ (code_a ++ (code_step ++ jump))) in
        let n_test = test_length first at test' tested (mark + 1) end in
        let n_a = statement_length first a' inner body end last in
        let n_step = maybe_length first step' stepped last in
        let n_start = statement_length first start' r pc out on in
        let l_turn : length turn ≡ 1 + (test_size test' + (statement_size a' + (maybe_size step' + 1))) = omega (arith, length-append code_test (code_a ++ (code_step ++ jump)), length-append code_a (code_step ++ jump), length-append code_step jump, n_test, n_a, n_step) in
        let ls = statement_loops start pc in
        let ms = option_to_list (loop_of test step mark body back) in
        let ns = statement_loops a body in
        let turns : (P : ℕ → Type 0) → ((k : ℕ) → mark ≤ k → k ≤ end → P k) → Jumps P turn = λ P inside. (
          tt,
          joined P code_test (code_a ++ (code_step ++ jump)) (test_jumps P mark end inside first at test' tested (mark + 1) end (omega arith) (omega arith) (inside end (omega arith) (omega arith)))
              (joined P code_a (code_step ++ jump) (statement_jumps P mark end inside first a' inner body end last (omega arith) (omega arith) (inside end (omega arith) (omega arith)) (inside last (omega arith) (omega arith)))
              (joined P code_step jump (maybe_jumps P mark end inside first step' stepped last (omega arith) (omega arith)) (inside mark (omega arith) (omega arith), tt))),
        ) in
        let own : (l : LoopInfo) → l.at ≡ mark → l.last ≡ back - 1 → IsKept mark turn l = λ l a_is last_is. (let to : l.last + 1 ≡ back = omega (arith, last_is) in record {
          low = omega (arith, a_is);
          long = omega (arith, a_is, to);
          high = omega (arith, to, l_turn);
          keeps = keeps_inside l.at (l.last + 1) mark turn (omega (arith, a_is)) (omega (arith, to, l_turn)) (turns (Between l.at (l.last + 1 + 1)) (λ k low high. (omega (arith, low, a_is), omega (arith, high, to))));
        }) in
        each_append (IsKept pc (code_start ++ turn)) ls (ms ++ ns)
        (before pc mark code_start turn ls (omega (arith, n_start)) (turns (Outside pc mark) (λ k low high from. low)) (statement_closed start r pc out on (omega (arith, o)) (omega (arith, c))))
        (after pc mark code_start turn (ms ++ ns) (omega (arith, n_start))
        (each_append (IsKept mark turn) ms ns
        (one_loop mark body back (IsKept mark turn) own test step)
        (after mark (mark + 1) (instr at act.Mark ∷ []) (code_test ++ (code_a ++ (code_step ++ jump))) ns (omega arith)
        (after (mark + 1) body code_test (code_a ++ (code_step ++ jump)) ns (omega (arith, n_test))
        (before body last code_a (code_step ++ jump) ns (omega (arith, n_a))
        (joined (Outside body last) code_step jump (maybe_jumps (Outside body last) last back (λ k low high from. low) first step' stepped last (omega arith) (omega arith)) ((λ from. omega (arith, from)), tt))
        (statement_closed a inner body end last (omega arith) (omega arith)))))))
    statement_closed (break_at at) r pc out on o c = tt
    statement_closed (continue_at at) r pc out on o c = tt
    statement_closed (gives e at) r pc out on o c = tt

    statements_closed : (ss : Statements) (r pc out on : ℕ) → pc + statements_size (statements_kept ss) ≤ out → pc + statements_size (statements_kept ss) ≤ on → Each (IsKept pc (statements_code first (statements_kept ss) r pc out on)) (statements_loops ss pc)
    statements_closed no_statement r pc out on o c = tt
    statements_closed (and_statement a ss) r pc out on o c =
        let a' = statement_kept a in
        let ss' = statements_kept ss in
        let next = pc + statement_size a' in
        let ra = r + length (statement_kinds a') in
        let code_a = statement_code first a' r pc out on in
        let code_s = statements_code first ss' ra next out on in
        let n_a = statement_length first a' r pc out on in
        each_append (IsKept pc (code_a ++ code_s)) (statement_loops a pc) (statements_loops ss next)
        (before pc next code_a code_s (statement_loops a pc) (omega (arith, n_a))
        (statements_jumps (Outside pc next) next (next + statements_size ss') (λ k low high from. low) first ss' ra next out on (omega arith) (omega arith) (λ from. omega (arith, o)) (λ from. omega (arith, c)))
        (statement_closed a r pc out on (omega (arith, o)) (omega (arith, c))))
        (after pc next code_a code_s (statements_loops ss next) (omega (arith, n_a))
        (statements_closed ss ra next out on (omega (arith, o)) (omega (arith, c))))

-- ---- the code

all_closed : (is : List Instr) (ls : List LoopInfo) → Each (IsKept 0 is) ls → list_all (loop_is_closed is) ls ≡ true
all_closed is [] h = refl
all_closed is (l ∷ ls) h = and_from (loop_is_closed is l) (list_all (loop_is_closed is) ls) h.0.keeps (all_closed is ls h.1)

function_closed : (f : Function) → list_all (loop_is_closed (body_code f)) (function_code f).loops ≡ true
function_closed f =
    let first = length f.pointers in
    let start = length f.objects in
    let pc = length f.objects + length f.arrivals in
    let end = pc + lowered_size f.body in
    let objects = objects_code f.place first f.objects in
    let arrivals = arrivals_code first f.arrivals in
    let code = statement_code first (statement_kept f.body) (first + length f.objects) pc end end in
    let last = one f.place (act.Return None) in
    let ls = statement_loops f.body pc in
    all_closed (body_code f) ls
    (after 0 start objects (arrivals ++ (code ++ last)) ls (omega (arith, objects_length f.place first f.objects))
    (after start pc arrivals (code ++ last) ls (omega (arith, arrivals_length first f.arrivals))
    (before pc end code last ls (omega (arith, statement_length first (statement_kept f.body) (first + length f.objects) pc end end)) (tt, tt)
    (statement_closed first f.body (first + length f.objects) pc end end (omega arith) (omega arith)))))

functions_closed : (fs : List Function) → list_all (λ (fn : FlowFunction). list_all (loop_is_closed fn.instrs) fn.loops) (map function_code fs) ≡ true
functions_closed [] = refl
functions_closed (f ∷ fs) = and_from (list_all (loop_is_closed (body_code f)) (function_code f).loops) (list_all (λ (fn : FlowFunction). list_all (loop_is_closed fn.instrs) fn.loops) (map function_code fs)) (function_closed f) (functions_closed fs)

pub closed : (p : Program) → loops_are_closed (lowered p) ≡ true
closed p = functions_closed p.functions
