-- The code of each statement makes its events.
use Rattle.std.proofs.Common.{◌≡◌, ℕ, ◌+◌, ◌≤◌, Bool, List, [], ◌∷◌, ◌++◌, length, Option, Some, None, slice_get, refl, ◌∙◌, ap, arith}
use Rattle.sync_objects.specs.Setup.{SetupView}
use Rattle.flow_code.specs.declared.act.Act.TheVariants as act
use Rattle.flow_code.specs.declared.act.Instr.{Instr}
use Rattle.flow_code.specs.Threads.{Frame, Thread}
use Rattle.rr_base.specs.declared.position.Position.{Position}
use Rattle.core_tree.specs.Core.{Exp, Statement, block, compute, branch, branch_else, while_loop, do_loop, for_loop, break_at, continue_at, gives, Statements, no_statement, and_statement, Function, Program}
use Rattle.core_tree.specs.Runs.{Run, State, M, pure}
use Rattle.core_tree.specs.Meaning as meaning
use Rattle.core_tree.specs.Meaning.{Calls, Completion, goes, breaks, continues, returns, if_goes, value, test_value, step_value}
use Rattle.lowering_parts.specs.Kept.{kept, maybe_kept, statement_kept, statements_kept}
use Rattle.flow_lower.specs.Lowered.{held, instr, one, lowered, function_kinds, body_code, exp_kinds, maybe_kinds, width, exp_size, maybe_size, test_size, exp_code, maybe_code, test_code, statement_kinds, statements_kinds, statement_size, statements_size, statement_code, statements_code}
use Rattle.core_tree.specs.Within.{IsWithinExp, IsWithinMaybe, IsWithinStatement, AreWithinStatements}
use Rattle.lower_sound.specs.Follows.{Follows}
use Rattle.lower_sound.proofs.Machine.{Shows}
use Rattle.lower_sound.proofs.Places.{HasAt, has_at, has_front, has_back}
use Rattle.lower_sound.proofs.Events.{goes_to, by_jump, by_branch}
use Rattle.lower_sound.proofs.Arriving.{top, shows_at}
use Rattle.lower_sound.proofs.Lengths.{exp_length, test_length, statement_length}
use Rattle.lower_sound.proofs.Calling.{Serves}
use Rattle.lower_sound.proofs.Values.{ExpFollows}
use Rattle.lower_sound.proofs.Expressions.{exp_follows}
use Rattle.lower_sound.proofs.Loops.{Reached, Lands, TestFollows, StepFollows, BodyFollows, rounds, rounds_after}

module _ (p : Program) (s : SetupView) (t : ℕ) (i : ℕ) (f : Function) (is : slice_get p.functions i ≡ Some f) (callers : List Frame) (budget : ℕ) (calls : Calls) (serves : Serves p s t calls budget) where
  abbrev first : ℕ
  first = length f.pointers

  abbrev kinds : List Bool
  kinds = function_kinds f

  abbrev base : ℕ
  base = top p s t i f is callers budget

  abbrev Within : Statement → Type 0
  Within a = IsWithinStatement f.pointers (length f.objects) (length p.functions) a

  abbrev Follow : Exp → Type 0
  Follow e = ExpFollows p s t i f is callers budget calls e

  abbrev MayFollow : Option Exp → Type 0
  MayFollow None = Unit {0}
  MayFollow (Some e) = Follow e

  -- from wherever the code of a statement begins it makes the statement's events, if it makes the rest from where it ends
  abbrev pub Leads : Statement → Type 0
  Leads a = (r pc out on : ℕ) → HasAt (body_code f) pc (statement_code first a r pc out on) → HasAt kinds r (statement_kinds a) → base ≤ r → BodyFollows p s t i f is callers budget (meaning.meaning p s t calls a) pc (pc + statement_size a) out on

  here : (m : Thread) (pc : ℕ) (x : Instr) → m.top.instr ≡ pc → slice_get (body_code f) pc ≡ Some x → slice_get (body_code f) m.top.instr ≡ Some x
  here m pc x e h = ap (slice_get (body_code f)) e ∙ h

  past_exp : (e : Exp) (r pc : ℕ) (rest : List Instr) → HasAt (body_code f) pc (exp_code first e r pc ++ rest) → HasAt (body_code f) (pc + exp_size e) rest
  past_exp e r pc rest h = has_at (body_code f) (pc + length (exp_code first e r pc)) (pc + exp_size e) rest (ap (λ n. pc + n) (exp_length first e r pc)) (has_back (body_code f) pc (exp_code first e r pc) rest h)

  past_statement : (a : Statement) (r pc out on : ℕ) (rest : List Instr) → HasAt (body_code f) pc (statement_code first a r pc out on ++ rest) → HasAt (body_code f) (pc + statement_size a) rest
  past_statement a r pc out on rest h = has_at (body_code f) (pc + length (statement_code first a r pc out on)) (pc + statement_size a) rest (ap (λ n. pc + n) (statement_length first a r pc out on)) (has_back (body_code f) pc (statement_code first a r pc out on) rest h)

  -- a statement ends where the one that holds it does, or farther on
  ends_on : (m n o : Thread) (σ : State) (fl : Completion) (end end' out on : ℕ) → end ≡ end' → m.count ≤ n.count → Lands p s t i f is callers budget n o σ fl end out on → Lands p s t i f is callers budget m o σ fl end' out on
  ends_on m n o σ fl end end' out on e le x = record { reached = by fl x.reached; shows = x.shows; later = omega (arith, le, x.later) }
    where
      by : (fl : Completion) → Reached p s t i f is callers budget o fl end out on → Reached p s t i f is callers budget o fl end' out on
      by goes r = r ∙ e
      by breaks r = r
      by continues r = r
      by (returns w line) r = r

  -- a condition
  test_follows : (e : Exp) (at : Position) (r pc out : ℕ) (rest : List Instr) → Follow e → HasAt (body_code f) pc (exp_code first e r pc ++ (instr at (act.Branch (held first e r) (pc + exp_size e + 1) out) ∷ rest)) → HasAt kinds r (exp_kinds e) → base ≤ r
      → TestFollows p s t i f is callers budget (value p s t calls e) pc (pc + exp_size e + 1) out
  test_follows e at r pc out rest w code ks le Y N k m σ place h yes' no' =
      w r pc m σ _ (has_front (body_code f) pc (exp_code first e r pc) _ code) ks le place h (λ n v σ' x.
      by_branch p s t i f is callers budget n σ' at (held first e r) (pc + exp_size e + 1) out v Y N σ' k x.shows (here n (pc + exp_size e) _ x.place (past_exp e r pc _ code).0) x.value
      (λ some. yes' (goes_to n (pc + exp_size e + 1)) σ' refl (shows_at p s t i f is callers budget n σ' (pc + exp_size e + 1) x.shows) x.later)
      (λ none. no' (goes_to n out) σ' refl (shows_at p s t i f is callers budget n σ' out x.shows) x.later))

  compute_leads : (e : Exp) → Follow e → Leads (compute e)
  compute_leads e w r pc out on code ks le k m σ place h go =
      w r pc m σ _ code ks le place h (λ n v σ' x. go n goes σ' (record { reached = x.place; shows = x.shows; later = x.later }))

  break_leads : (at : Position) → Leads (break_at at)
  break_leads at r pc out on code ks le k m σ place h go =
      by_jump p s t i f is callers budget _ m σ at out h (here m pc _ place code.0) (go (goes_to m out) breaks σ (record { reached = refl; shows = shows_at p s t i f is callers budget m σ out h; later = omega arith }))

  continue_leads : (at : Position) → Leads (continue_at at)
  continue_leads at r pc out on code ks le k m σ place h go =
      by_jump p s t i f is callers budget _ m σ at on h (here m pc _ place code.0) (go (goes_to m on) continues σ (record { reached = refl; shows = shows_at p s t i f is callers budget m σ on h; later = omega arith }))

  gives_leads : (e : Option Exp) (at : Position) → MayFollow e → Leads (gives e at)
  gives_leads None at w r pc out on code ks le k m σ place h go =
      go m (returns 0 at.line) σ (record { reached = record { at = at; value = None; stands = here m pc _ place code.0; gives = refl; same_line = refl }; shows = h; later = omega arith })
  gives_leads (Some e) at w r pc out on code ks le k m σ place h go =
      w r pc m σ _ (has_front (body_code f) pc (exp_code first e r pc) _ code) ks le place h (λ n v σ' x.
      go n (returns v at.line) σ' (record { reached = record { at = at; value = Some (held first e r); stands = here n (pc + exp_size e) _ x.place (past_exp e r pc _ code).0; gives = x.value; same_line = refl }; shows = x.shows; later = x.later }))

  -- one statement after another
  both_lead : (a : Statement) (ss : Statements) (r pc out on : ℕ) (rest : M Completion) (k : Completion → State → Run) (m : Thread) (end : ℕ)
      → ((o : Thread) (σ : State) → o.top.instr ≡ pc + statement_size a → Shows p s t i f is callers budget o σ → m.count ≤ o.count → Follows (lowered p) s t (rest σ k) o)
      → ((o : Thread) (fl : Completion) (σ : State) → Lands p s t i f is callers budget m o σ fl end out on → Follows (lowered p) s t (k fl σ) o)
      → (o : Thread) (fl : Completion) (σ : State) → Lands p s t i f is callers budget m o σ fl (pc + statement_size a) out on → Follows (lowered p) s t (if_goes fl rest σ k) o
  both_lead a ss r pc out on rest k m end next go o goes σ x = next o σ x.reached x.shows x.later
  both_lead a ss r pc out on rest k m end next go o breaks σ x = go o breaks σ (record { reached = x.reached; shows = x.shows; later = x.later })
  both_lead a ss r pc out on rest k m end next go o continues σ x = go o continues σ (record { reached = x.reached; shows = x.shows; later = x.later })
  both_lead a ss r pc out on rest k m end next go o (returns w line) σ x = go o (returns w line) σ (record { reached = x.reached; shows = x.shows; later = x.later })

  abbrev pub LeadAll : Statements → Type 0
  LeadAll ss = (r pc out on : ℕ) → HasAt (body_code f) pc (statements_code first ss r pc out on) → HasAt kinds r (statements_kinds ss) → base ≤ r → BodyFollows p s t i f is callers budget (meaning.meanings p s t calls ss) pc (pc + statements_size ss) out on

  no_statement_leads : LeadAll no_statement
  no_statement_leads r pc out on code ks le k m σ place h go = go m goes σ (record { reached = place ∙ omega arith; shows = h; later = omega arith })

  and_statement_leads : (a : Statement) (ss : Statements) → Leads a → LeadAll ss → LeadAll (and_statement a ss)
  and_statement_leads a ss leads lead_all r pc out on code ks le k m σ place h go =
      leads r pc out on (has_front (body_code f) pc (statement_code first a r pc out on) _ code) (has_front kinds r (statement_kinds a) (statements_kinds ss) ks) le _ m σ place h
      (both_lead a ss r pc out on (meaning.meanings p s t calls ss) k m (pc + (statement_size a + statements_size ss)) (λ o σ' place' shows later.
      lead_all (r + length (statement_kinds a)) (pc + statement_size a) out on (past_statement a r pc out on _ code) (has_back kinds r (statement_kinds a) (statements_kinds ss) ks) (omega (arith, le)) k o σ' place' shows (λ q fl σ'' x.
      go q fl σ'' (ends_on m o q σ'' fl (pc + statement_size a + statements_size ss) (pc + (statement_size a + statements_size ss)) out on (omega arith) later x))) go)

  branch_leads : (e : Exp) (a : Statement) (at : Position) → Follow e → Leads a → Leads (branch e a at)
  branch_leads e a at w leads r pc out on code ks le k m σ place h go =
      let yes' = pc + exp_size e + 1 in
      let no' = yes' + statement_size a in
      let end = pc + (exp_size e + (1 + statement_size a)) in
      let is_end : no' ≡ end = omega arith in
      test_follows e at r pc no' _ w code (has_front kinds r (exp_kinds e) _ ks) le _ _ k m σ place h
      (λ o σ' place' shows later.
      leads (r + width e) yes' out on (past_exp e r pc _ code).1 (has_back kinds r (exp_kinds e) (statement_kinds a) ks) (omega (arith, le)) _ o σ' place' shows
      (λ q fl σ'' x. go q fl σ'' (ends_on m o q σ'' fl no' end out on is_end later x)))
      (λ o σ' place' shows later. go o goes σ' (record { reached = place' ∙ is_end; shows = shows; later = later }))

  branch_else_leads : (e : Exp) (a b : Statement) (at : Position) → Follow e → Leads a → Leads b → Leads (branch_else e a b at)
  branch_else_leads e a b at w leads_a leads_b r pc out on code ks le k m σ place h go =
      let yes' = pc + exp_size e + 1 in
      let no' = yes' + statement_size a + 1 in
      let x_a = r + width e in
      let x_b = x_a + length (statement_kinds a) in
      let end = pc + (exp_size e + (1 + (statement_size a + (1 + statement_size b)))) in
      let code_e = past_exp e r pc _ code in
      let code_a = code_e.1 in
      let code_j = past_statement a x_a yes' out on _ code_a in
      let kinds_ab = has_back kinds r (exp_kinds e) (statement_kinds a ++ statement_kinds b) ks in
      test_follows e at r pc no' _ w code (has_front kinds r (exp_kinds e) _ ks) le _ _ k m σ place h
      (λ o σ' place' shows later.
      leads_a x_a yes' out on (has_front (body_code f) yes' (statement_code first a x_a yes' out on) _ code_a) (has_front kinds x_a (statement_kinds a) (statement_kinds b) kinds_ab) (omega (arith, le)) _ o σ' place' shows
      (λ q fl σ'' x. jumped m o q fl σ'' (yes' + statement_size a) end out on k (no' + statement_size b) at (omega arith) later code_j.0 go x))
      (λ o σ' place' shows later.
      leads_b x_b no' out on code_j.1 (has_back kinds x_a (statement_kinds a) (statement_kinds b) kinds_ab) (omega (arith, le)) _ o σ' place' shows
      (λ q fl σ'' x. go q fl σ'' (ends_on m o q σ'' fl (no' + statement_size b) end out on (omega arith) later x)))
    where
      -- after the first of the two the second is jumped over
      jumped : (m o q : Thread) (fl : Completion) (σ'' : State) (stop end out on : ℕ) (k : Completion → State → Run) (to : ℕ) (at : Position) → to ≡ end → m.count ≤ o.count → slice_get (body_code f) stop ≡ Some (instr at (act.Jump to))
          → ((o : Thread) (fl : Completion) (σ : State) → Lands p s t i f is callers budget m o σ fl end out on → Follows (lowered p) s t (k fl σ) o)
          → Lands p s t i f is callers budget o q σ'' fl stop out on → Follows (lowered p) s t (k fl σ'') q
      jumped m o q goes σ'' stop end out on k to at e later code' go x =
          by_jump p s t i f is callers budget _ q σ'' at to x.shows (here q stop _ x.reached code') (go (goes_to q to) goes σ'' (record { reached = e; shows = shows_at p s t i f is callers budget q σ'' to x.shows; later = omega (arith, later, x.later) }))
      jumped m o q breaks σ'' stop end out on k to at e later code' go x = go q breaks σ'' (record { reached = x.reached; shows = x.shows; later = omega (arith, later, x.later) })
      jumped m o q continues σ'' stop end out on k to at e later code' go x = go q continues σ'' (record { reached = x.reached; shows = x.shows; later = omega (arith, later, x.later) })
      jumped m o q (returns w line) σ'' stop end out on k to at e later code' go x = go q (returns w line) σ'' (record { reached = x.reached; shows = x.shows; later = omega (arith, later, x.later) })

  -- ---- loops

  while_leads : (e : Exp) (a : Statement) (at : Position) → Follow e → Leads a → Leads (while_loop e a at)
  while_leads e a at w leads r pc out on code ks le k m σ place h go =
      let body = pc + 1 + exp_size e + 1 in
      let last = body + statement_size a in
      let end = last + 1 in
      let is_end : end ≡ pc + (1 + (exp_size e + (1 + (statement_size a + 1)))) = omega arith in
      let code_a = (past_exp e r (pc + 1) _ code.1).1 in
      let code_j = past_statement a (r + width e) body end last _ code_a in
      rounds p s t i f is callers budget at pc body last end code.0 (value p s t calls e) (meaning.meaning p s t calls a) (pure 0)
      (test_follows e at r (pc + 1) end _ w code.1 (has_front kinds r (exp_kinds e) (statement_kinds a) ks) le)
      (leads (r + width e) body end last (has_front (body_code f) body (statement_code first a (r + width e) body end last) _ code_a) (has_back kinds r (exp_kinds e) (statement_kinds a) ks) (omega (arith, le)))
      (λ R k' n σ' place' shows next. by_jump p s t i f is callers budget _ n σ' at pc shows (here n last _ place' code_j.0) (next (goes_to n pc) σ' refl (shows_at p s t i f is callers budget n σ' pc shows) (omega arith)))
      k m
      (λ n σ' place' shows later. go n goes σ' (record { reached = place' ∙ is_end; shows = shows; later = later }))
      (λ n v line σ' ret shows later. go n (returns v line) σ' (record { reached = ret; shows = shows; later = later }))
      s.limit m σ place h (omega arith) (omega arith)

  do_leads : (a : Statement) (e : Exp) (at : Position) → Follow e → Leads a → Leads (do_loop a e at)
  do_leads a e at w leads r pc out on code ks le k m σ place h go =
      let test = pc + 1 + statement_size a in
      let end = test + exp_size e + 1 in
      let is_end : end ≡ pc + (1 + (statement_size a + (exp_size e + 1))) = omega arith in
      let x = r + length (statement_kinds a) in
      let code_t = past_statement a r (pc + 1) end test _ code.1 in
      rounds_after p s t i f is callers budget at pc test end code.0 (value p s t calls e) (meaning.meaning p s t calls a)
      (leads r (pc + 1) end test (has_front (body_code f) (pc + 1) (statement_code first a r (pc + 1) end test) _ code.1) (has_front kinds r (statement_kinds a) (exp_kinds e) ks) le)
      (λ Y N k' n σ' place' shows yes' no'.
      w x test n σ' _ (has_front (body_code f) test (exp_code first e x test) _ code_t) (has_back kinds r (statement_kinds a) (exp_kinds e) ks) (omega (arith, le)) place' shows (λ o v σ'' y.
      by_branch p s t i f is callers budget o σ'' at (held first e x) pc end v Y N σ'' k' y.shows (here o (test + exp_size e) _ y.place (past_exp e x test _ code_t).0) y.value
      (λ some. yes' (goes_to o pc) σ'' refl (shows_at p s t i f is callers budget o σ'' pc y.shows) y.later)
      (λ none. no' (goes_to o end) σ'' refl (shows_at p s t i f is callers budget o σ'' end y.shows) y.later)))
      k m
      (λ n σ' place' shows later. go n goes σ' (record { reached = place' ∙ is_end; shows = shows; later = later }))
      (λ n v line σ' ret shows later. go n (returns v line) σ' (record { reached = ret; shows = shows; later = later }))
      s.limit m σ place h (omega arith) (omega arith)

  -- a condition that may not be there
  maybe_test_follows : (e : Option Exp) (at : Position) (r pc out : ℕ) (rest : List Instr) → MayFollow e → HasAt (body_code f) pc (test_code first at e r pc out ++ rest) → HasAt kinds r (maybe_kinds e) → base ≤ r
      → TestFollows p s t i f is callers budget (test_value p s t calls e) pc (pc + test_size e) out
  maybe_test_follows None at r pc out rest w code ks le Y N k m σ place h yes' no' = yes' m σ (place ∙ omega arith) h (omega arith)
  maybe_test_follows (Some e) at r pc out rest w code ks le Y N k m σ place h yes' no' =
      let there : pc + exp_size e + 1 ≡ pc + (exp_size e + 1) = omega arith in
      test_follows e at r pc out [] w (has_front (body_code f) pc (test_code first at (Some e) r pc out) rest code) ks le Y N k m σ place h (λ o σ' place' shows later. yes' o σ' (place' ∙ there) shows later) no'

  maybe_step_follows : (e : Option Exp) (at : Position) (r pc to : ℕ) → MayFollow e → HasAt (body_code f) pc (maybe_code first e r pc ++ one at (act.Jump to)) → HasAt kinds r (maybe_kinds e) → base ≤ r
      → StepFollows p s t i f is callers budget (step_value p s t calls e) pc to
  maybe_step_follows None at r pc to w code ks le R k m σ place h next = by_jump p s t i f is callers budget _ m σ at to h (here m pc _ place code.0) (next (goes_to m to) σ refl (shows_at p s t i f is callers budget m σ to h) (omega arith))
  maybe_step_follows (Some e) at r pc to w code ks le R k m σ place h next =
      w r pc m σ _ (has_front (body_code f) pc (exp_code first e r pc) _ code) ks le place h (λ n v σ' x.
      by_jump p s t i f is callers budget _ n σ' at to x.shows (here n (pc + exp_size e) _ x.place (past_exp e r pc _ code).0) (next (goes_to n to) σ' refl (shows_at p s t i f is callers budget n σ' to x.shows) x.later))

  for_leads : (start : Statement) (test step : Option Exp) (a : Statement) (at : Position) → MayFollow test → MayFollow step → Leads start → Leads a → Leads (for_loop start test step a at)
  for_leads start test step a at w_test w_step leads_start leads r pc out on code ks le k m σ place h go =
      let mark = pc + statement_size start in
      let body = mark + 1 + test_size test in
      let last = body + statement_size a in
      let end = last + maybe_size step + 1 in
      let tested = r + length (statement_kinds start) in
      let inner = tested + length (maybe_kinds test) in
      let stepped = inner + length (statement_kinds a) in
      let is_end : end ≡ pc + (statement_size start + (1 + (test_size test + (statement_size a + (maybe_size step + 1))))) = omega arith in
      let code_m = past_statement start r pc out on _ code in
      let code_t = code_m.1 in
      let code_a = has_at (body_code f) (mark + 1 + length (test_code first at test tested (mark + 1) end)) body _ (ap (λ n. mark + 1 + n) (test_length first at test tested (mark + 1) end)) (has_back (body_code f) (mark + 1) (test_code first at test tested (mark + 1) end) _ code_t) in
      let code_s = past_statement a inner body end last _ code_a in
      let kinds_t = has_back kinds r (statement_kinds start) (maybe_kinds test ++ (statement_kinds a ++ maybe_kinds step)) ks in
      let kinds_a = has_back kinds tested (maybe_kinds test) (statement_kinds a ++ maybe_kinds step) kinds_t in
      leads_start r pc out on (has_front (body_code f) pc (statement_code first start r pc out on) _ code) (has_front kinds r (statement_kinds start) _ ks) le _ m σ place h
      (both_lead start no_statement r pc out on _ k m (pc + (statement_size start + (1 + (test_size test + (statement_size a + (maybe_size step + 1)))))) (λ o σ' place' shows later.
      rounds p s t i f is callers budget at mark body last end code_m.0 (test_value p s t calls test) (meaning.meaning p s t calls a) (step_value p s t calls step)
      (maybe_test_follows test at tested (mark + 1) end _ w_test code_t (has_front kinds tested (maybe_kinds test) _ kinds_t) (omega (arith, le)))
      (leads inner body end last (has_front (body_code f) body (statement_code first a inner body end last) _ code_a) (has_front kinds inner (statement_kinds a) (maybe_kinds step) kinds_a) (omega (arith, le)))
      (maybe_step_follows step at stepped last mark w_step code_s (has_back kinds inner (statement_kinds a) (maybe_kinds step) kinds_a) (omega (arith, le)))
      k o
      (λ n σ'' place'' shows'' later''. go n goes σ'' (record { reached = place'' ∙ is_end; shows = shows''; later = omega (arith, later, later'') }))
      (λ n v line σ'' ret shows'' later''. go n (returns v line) σ'' (record { reached = ret; shows = shows''; later = omega (arith, later, later'') }))
      s.limit o σ' place' shows (omega arith) (omega arith)) go)

  follow : (e : Exp) → IsWithinExp f.pointers (length f.objects) (length p.functions) e → Follow (kept e)
  follow e w = exp_follows p s t i f is callers budget calls serves e w

  may_follow : (e : Option Exp) → IsWithinMaybe f.pointers (length f.objects) (length p.functions) e → MayFollow (maybe_kept e)
  may_follow None w = tt
  may_follow (Some e) w = exp_follows p s t i f is callers budget calls serves e w

  mutual
    -- the code of a statement with its copies
    pub statement_leads : (a : Statement) → Within a → Leads (statement_kept a)
    statement_leads (block ss) w = statements_lead ss w
    statement_leads (compute e) w = compute_leads (kept e) (follow e w)
    statement_leads (branch e a at) w = branch_leads (kept e) (statement_kept a) at (follow e w.0) (statement_leads a w.1)
    statement_leads (branch_else e a b at) w = branch_else_leads (kept e) (statement_kept a) (statement_kept b) at (follow e w.0) (statement_leads a w.1) (statement_leads b w.2)
    statement_leads (while_loop e a at) w = while_leads (kept e) (statement_kept a) at (follow e w.0) (statement_leads a w.1)
    statement_leads (do_loop a e at) w = do_leads (statement_kept a) (kept e) at (follow e w.1) (statement_leads a w.0)
    statement_leads (for_loop start test step a at) w = for_leads (statement_kept start) (maybe_kept test) (maybe_kept step) (statement_kept a) at (may_follow test w.1) (may_follow step w.2) (statement_leads start w.0) (statement_leads a w.3)
    statement_leads (break_at at) w = break_leads at
    statement_leads (continue_at at) w = continue_leads at
    statement_leads (gives e at) w = gives_leads (maybe_kept e) at (may_follow e w)

    pub statements_lead : (ss : Statements) → AreWithinStatements f.pointers (length f.objects) (length p.functions) ss → LeadAll (statements_kept ss)
    statements_lead no_statement w = no_statement_leads
    statements_lead (and_statement a ss) w = and_statement_leads (statement_kept a) (statements_kept ss) (statement_leads a w.0) (statements_lead ss w.1)
