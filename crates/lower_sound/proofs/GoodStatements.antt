-- The code of a sound statement fits its function.
use Rattle.std.proofs.Common.{◌≡◌, ℕ, ◌+◌, ◌<◌, ◌≤◌, Bool, true, List, [], ◌∷◌, ◌++◌, length, Option, Some, None, refl, ◌∙◌, ap, arith}
use Rattle.flow_code.specs.declared.act.Act.TheVariants as act
use Rattle.flow_code.specs.declared.act.Instr.{Instr}
use Rattle.flow_code.specs.declared.code.Code.{Code}
use Rattle.flow_code.specs.declared.code.Function.{Function as FlowFunction}
use Rattle.flow_code.specs.Kinds.{has_register, has_kind}
use Rattle.rr_base.specs.declared.position.Position.{Position}
use Rattle.core_tree.specs.Core.{Exp, Statement, block, compute, branch, branch_else, while_loop, do_loop, for_loop, break_at, continue_at, gives, Statements, no_statement, and_statement, Function, Program}
use Rattle.core_tree.specs.Meaning.{is_pointer}
use Rattle.flow_lower.specs.Lowered.{held, instr, one, exp_kinds, maybe_kinds, width, exp_size, maybe_size, test_size, exp_code, maybe_code, test_code, return_code, statement_kinds, statements_kinds, statement_size, statements_size, statement_code, statements_code}
use Rattle.core_tree.specs.Sound.{IsSoundExp, IsSoundMaybe, IsSoundResult, IsSoundStatement, AreSoundStatements}
use Rattle.lower_sound.proofs.Lengths.{exp_length, test_length, statement_length}
use Rattle.lower_sound.proofs.Places.{HasAt, has_at, has_front, has_back}
use Rattle.lower_sound.proofs.Fitting.{registered, kinded}
use Rattle.lower_sound.proofs.Good.{AreGood, good_append, jumps_on, jumps_back, branches_on, branches_back}
use Rattle.lower_sound.proofs.Images.{IsImage}
use Rattle.lower_sound.proofs.GoodExpressions.{exp_good, past_exp, held_kind}

module _ (p : Program) (home : ℕ → Option ℕ) (f : Function) (code : Code) (g : FlowFunction) (first : ℕ) (image : IsImage p home f code g first) where
  abbrev total : ℕ
  total = length g.instrs

  abbrev ks : List Bool
  ks = g.pointers

  abbrev Good : ℕ → List Instr → Type 0
  Good at is = AreGood code g at is

  past_statement : (a : Statement) (r pc out on : ℕ) (rest : List Instr) → Good pc (statement_code first a r pc out on) → Good (pc + statement_size a) rest → Good pc (statement_code first a r pc out on ++ rest)
  past_statement a r pc out on rest h k = good_append code g pc (statement_size a) (statement_code first a r pc out on) rest (statement_length first a r pc out on) h k

  -- ---- what stands where in the whole code

  after_exp : (e : Exp) (r pc : ℕ) (rest : List Instr) → HasAt g.instrs pc (exp_code first e r pc ++ rest) → HasAt g.instrs (pc + exp_size e) rest
  after_exp e r pc rest h = has_at g.instrs (pc + length (exp_code first e r pc)) (pc + exp_size e) rest (ap (λ n. pc + n) (exp_length first e r pc)) (has_back g.instrs pc (exp_code first e r pc) rest h)

  after_test : (at : Position) (e : Option Exp) (r pc out : ℕ) (rest : List Instr) → HasAt g.instrs pc (test_code first at e r pc out ++ rest) → HasAt g.instrs (pc + test_size e) rest
  after_test at e r pc out rest h = has_at g.instrs (pc + length (test_code first at e r pc out)) (pc + test_size e) rest (ap (λ n. pc + n) (test_length first at e r pc out)) (has_back g.instrs pc (test_code first at e r pc out) rest h)

  after_statement : (a : Statement) (r pc out on : ℕ) (rest : List Instr) → HasAt g.instrs pc (statement_code first a r pc out on ++ rest) → HasAt g.instrs (pc + statement_size a) rest
  after_statement a r pc out on rest h = has_at g.instrs (pc + length (statement_code first a r pc out on)) (pc + statement_size a) rest (ap (λ n. pc + n) (statement_length first a r pc out on)) (has_back g.instrs pc (statement_code first a r pc out on) rest h)

  before : (a : Statement) (r pc out on : ℕ) (rest : List Instr) → HasAt g.instrs pc (statement_code first a r pc out on ++ rest) → HasAt g.instrs pc (statement_code first a r pc out on)
  before a r pc out on rest h = has_front g.instrs pc (statement_code first a r pc out on) rest h

  -- ---- the parts of statements

  maybe_good : (e : Option Exp) (r pc : ℕ) (rest : List Instr) → IsSoundMaybe p home f e → HasAt ks r (maybe_kinds e) → pc + maybe_size e < total → Good (pc + maybe_size e) rest → Good pc (maybe_code first e r pc ++ rest)
  maybe_good None r pc rest s h lt k = good_append code g pc 0 [] rest refl tt k
  maybe_good (Some e) r pc rest s h lt k = past_exp p home f code g first image e r pc rest (exp_good p home f code g first image e r pc s h lt) k

  -- a register that is tested
  tested : (e : Exp) (r : ℕ) → IsSoundExp p home f e → HasAt ks r (exp_kinds e) → has_register g (held first e r) ≡ true
  tested e r s h = registered g image.sized (held first e r) (is_pointer e) (held_kind p home f code g first image e r s h)

  test_good : (at : Position) (e : Option Exp) (r pc out : ℕ) (rest : List Instr) → IsSoundMaybe p home f e → HasAt ks r (maybe_kinds e) → pc + test_size e < out → out < total → Good (pc + test_size e) rest → Good pc (test_code first at e r pc out ++ rest)
  test_good at None r pc out rest s h lt in' k = good_append code g pc 0 [] rest refl tt k
  test_good at (Some e) r pc out rest s h lt in' k =
      good_append code g pc (exp_size e + 1) (test_code first at (Some e) r pc out) rest (test_length first at (Some e) r pc out)
      (past_exp p home f code g first image e r pc (one at (act.Branch (held first e r) (pc + exp_size e + 1) out)) (exp_good p home f code g first image e r pc s h (omega (arith, lt, in')))
      (branches_on code g (pc + exp_size e) (held first e r) (pc + exp_size e + 1) out (tested e r s h) (omega arith) (omega (arith, lt)) (omega (arith, lt, in')) in', tt)) k

  return_good : (at : Position) (e : Option Exp) (r pc : ℕ) → IsSoundResult p home f e → HasAt ks r (maybe_kinds e) → pc + maybe_size e < total → Good pc (return_code first at e r pc)
  return_good at None r pc s h lt = (record { fits = refl; jumps = refl; plain = refl }, tt)
  return_good at (Some e) r pc s h lt =
      past_exp p home f code g first image e r pc (one at (act.Return (Some (held first e r)))) (exp_good p home f code g first image e r pc s.1 h lt)
      (record { fits = ap (λ k. has_kind g k (held first e r)) image.gives ∙ kinded g image.sized (held first e r) f.gives_pointer (held_kind p home f code g first image e r s.1 h ∙ ap Some s.0); jumps = refl; plain = refl }, tt)

  -- ---- statements

  mutual
    pub statement_good : (a : Statement) (r pc out on : ℕ) → IsSoundStatement p home f a → HasAt ks r (statement_kinds a) → HasAt g.instrs pc (statement_code first a r pc out on)
        → pc + statement_size a ≤ out → out < total → pc + statement_size a ≤ on → on < total → Good pc (statement_code first a r pc out on)
    statement_good (block ss) r pc out on s h c le in_out le' in_on = statements_good ss r pc out on s h c le in_out le' in_on
    statement_good (compute e) r pc out on s h c le in_out le' in_on = exp_good p home f code g first image e r pc s h (omega (arith, le, in_out))
    statement_good (branch e a at) r pc out on s h c le in_out le' in_on =
        let yes' = pc + exp_size e + 1 in
        let end = yes' + statement_size a in
        let x = r + width e in
        let after_e = instr at (act.Branch (held first e r) yes' end) ∷ statement_code first a x yes' out on in
        let ke = has_front ks r (exp_kinds e) (statement_kinds a) h in
        let ka = has_back ks r (exp_kinds e) (statement_kinds a) h in
        let ca = (after_exp e r pc after_e c).1 in
        past_exp p home f code g first image e r pc after_e (exp_good p home f code g first image e r pc s.0 ke (omega (arith, le, in_out))) (
          branches_on code g (pc + exp_size e) (held first e r) yes' end (tested e r s.0 ke) (omega arith) (omega arith) (omega (arith, le, in_out)) (omega (arith, le, in_out)),
          statement_good a x yes' out on s.1 ka ca (omega (arith, le)) in_out (omega (arith, le')) in_on,
        )
    statement_good (branch_else e a b at) r pc out on s h c le in_out le' in_on =
        let yes' = pc + exp_size e + 1 in
        let no' = yes' + statement_size a + 1 in
        let x = r + width e in
        let y = x + length (statement_kinds a) in
        let code_b = statement_code first b y no' out on in
        let after_a = instr at (act.Jump (no' + statement_size b)) ∷ code_b in
        let code_a = statement_code first a x yes' out on in
        let after_e = instr at (act.Branch (held first e r) yes' no') ∷ (code_a ++ after_a) in
        let ke = has_front ks r (exp_kinds e) (statement_kinds a ++ statement_kinds b) h in
        let kab = has_back ks r (exp_kinds e) (statement_kinds a ++ statement_kinds b) h in
        let ka = has_front ks x (statement_kinds a) (statement_kinds b) kab in
        let kb = has_back ks x (statement_kinds a) (statement_kinds b) kab in
        let ce = after_exp e r pc after_e c in
        let ca = before a x yes' out on after_a ce.1 in
        let cb = (after_statement a x yes' out on after_a ce.1).1 in
        past_exp p home f code g first image e r pc after_e (exp_good p home f code g first image e r pc s.0 ke (omega (arith, le, in_out))) (
          branches_on code g (pc + exp_size e) (held first e r) yes' no' (tested e r s.0 ke) (omega arith) (omega arith) (omega (arith, le, in_out)) (omega (arith, le, in_out)),
          past_statement a x yes' out on after_a (statement_good a x yes' out on s.1 ka ca (omega (arith, le)) in_out (omega (arith, le')) in_on) (
            jumps_on code g (yes' + statement_size a) (no' + statement_size b) (omega arith) (omega (arith, le, in_out)),
            statement_good b y no' out on s.2 kb cb (omega (arith, le)) in_out (omega (arith, le')) in_on,
          ),
        )
    statement_good (while_loop e a at) r pc out on s h c le in_out le' in_on =
        let body = pc + 1 + exp_size e + 1 in
        let end = body + statement_size a + 1 in
        let x = r + width e in
        let after_a = one at (act.Jump pc) in
        let code_a = statement_code first a x body end (body + statement_size a) in
        let after_e = instr at (act.Branch (held first e r) body end) ∷ (code_a ++ after_a) in
        let ke = has_front ks r (exp_kinds e) (statement_kinds a) h in
        let ka = has_back ks r (exp_kinds e) (statement_kinds a) h in
        let ce = after_exp e r (pc + 1) after_e c.1 in
        let ca = before a x body end (body + statement_size a) after_a ce.1 in
        let in_end : end < total = omega (arith, le, in_out) in (
          record { fits = refl; jumps = refl; plain = refl },
          past_exp p home f code g first image e r (pc + 1) after_e (exp_good p home f code g first image e r (pc + 1) s.0 ke (omega (arith, in_end))) (
            branches_on code g (pc + 1 + exp_size e) (held first e r) body end (tested e r s.0 ke) (omega arith) (omega arith) (omega (arith, in_end)) in_end,
            past_statement a x body end (body + statement_size a) after_a (statement_good a x body end (body + statement_size a) s.1 ka ca (omega arith) in_end (omega arith) (omega (arith, in_end)))
                (jumps_back code g (body + statement_size a) pc at c.0 (omega (arith, in_end)), tt),
          ),
        )
    statement_good (do_loop a e at) r pc out on s h c le in_out le' in_on =
        let test = pc + 1 + statement_size a in
        let end = test + exp_size e + 1 in
        let x = r + length (statement_kinds a) in
        let after_e = one at (act.Branch (held first e x) pc end) in
        let after_a = exp_code first e x test ++ after_e in
        let ka = has_front ks r (statement_kinds a) (exp_kinds e) h in
        let ke = has_back ks r (statement_kinds a) (exp_kinds e) h in
        let ca = before a r (pc + 1) end test after_a c.1 in
        let in_end : end < total = omega (arith, le, in_out) in (
          record { fits = refl; jumps = refl; plain = refl },
          past_statement a r (pc + 1) end test after_a (statement_good a r (pc + 1) end test s.0 ka ca (omega arith) in_end (omega arith) (omega (arith, in_end)))
              (past_exp p home f code g first image e x test after_e (exp_good p home f code g first image e x test s.1 ke (omega (arith, in_end)))
              (branches_back code g (test + exp_size e) (held first e x) pc end at (tested e x s.1 ke) c.0 (omega arith) (omega (arith, in_end)) in_end, tt)),
        )
    statement_good (for_loop start test step a at) r pc out on s h c le in_out le' in_on =
        let mark = pc + statement_size start in
        let body = mark + 1 + test_size test in
        let last = body + statement_size a in
        let end = last + maybe_size step + 1 in
        let tested' = r + length (statement_kinds start) in
        let inner = tested' + length (maybe_kinds test) in
        let stepped = inner + length (statement_kinds a) in
        let past_step = one at (act.Jump mark) in
        let after_a = maybe_code first step stepped last ++ past_step in
        let past_test = statement_code first a inner body end last ++ after_a in
        let past_start = instr at act.Mark ∷ (test_code first at test tested' (mark + 1) end ++ past_test) in
        let k_start = has_front ks r (statement_kinds start) (maybe_kinds test ++ (statement_kinds a ++ maybe_kinds step)) h in
        let k1 = has_back ks r (statement_kinds start) (maybe_kinds test ++ (statement_kinds a ++ maybe_kinds step)) h in
        let k_test = has_front ks tested' (maybe_kinds test) (statement_kinds a ++ maybe_kinds step) k1 in
        let k2 = has_back ks tested' (maybe_kinds test) (statement_kinds a ++ maybe_kinds step) k1 in
        let ka = has_front ks inner (statement_kinds a) (maybe_kinds step) k2 in
        let k_step = has_back ks inner (statement_kinds a) (maybe_kinds step) k2 in
        let c_start = before start r pc out on past_start c in
        let c_mark = after_statement start r pc out on past_start c in
        let ca = before a inner body end last after_a (after_test at test tested' (mark + 1) end past_test c_mark.1) in
        let in_end : end < total = omega (arith, le, in_out) in
        past_statement start r pc out on past_start (statement_good start r pc out on s.0 k_start c_start (omega (arith, le)) in_out (omega (arith, le')) in_on) (
          record { fits = refl; jumps = refl; plain = refl },
          test_good at test tested' (mark + 1) end past_test s.1 k_test (omega arith) in_end (
              past_statement a inner body end last after_a (statement_good a inner body end last s.3 ka ca (omega arith) in_end (omega arith) (omega (arith, in_end)))
              (maybe_good step stepped last past_step s.2 k_step (omega (arith, in_end)) (jumps_back code g (last + maybe_size step) mark at c_mark.0 (omega (arith, in_end)), tt))
              ),
        )
    statement_good (break_at at) r pc out on s h c le in_out le' in_on = (jumps_on code g pc out (omega (arith, le)) in_out, tt)
    statement_good (continue_at at) r pc out on s h c le in_out le' in_on = (jumps_on code g pc on (omega (arith, le')) in_on, tt)
    statement_good (gives e at) r pc out on s h c le in_out le' in_on = return_good at e r pc s h (omega (arith, le, in_out))

    pub statements_good : (ss : Statements) (r pc out on : ℕ) → AreSoundStatements p home f ss → HasAt ks r (statements_kinds ss) → HasAt g.instrs pc (statements_code first ss r pc out on)
        → pc + statements_size ss ≤ out → out < total → pc + statements_size ss ≤ on → on < total → Good pc (statements_code first ss r pc out on)
    statements_good no_statement r pc out on s h c le in_out le' in_on = tt
    statements_good (and_statement a ss) r pc out on s h c le in_out le' in_on =
        let x = r + length (statement_kinds a) in
        let next = pc + statement_size a in
        let rest = statements_code first ss x next out on in
        past_statement a r pc out on rest
        (statement_good a r pc out on s.0 (has_front ks r (statement_kinds a) (statements_kinds ss) h) (before a r pc out on rest c) (omega (arith, le)) in_out (omega (arith, le')) in_on)
        (statements_good ss x next out on s.1 (has_back ks r (statement_kinds a) (statements_kinds ss) h) (after_statement a r pc out on rest c) (omega (arith, le)) in_out (omega (arith, le')) in_on)
