-- The code of an expression makes its events, where that of its parts does.
use Rattle.std.proofs.Common.{◌≡◌, ◌≢◌, ℕ, zero, suc, ◌+◌, ◌≤◌, ◌<◌, ◌==◌, ◌||◌, Bool, true, false, not, cond, nat_eq, if◌then◌else◌, ℤ, pos, ◌*ℤ◌, List, ◌∷◌, ◌++◌, length, replicate, Some, slice_get, slice_set, Result, Ok, refl, sym, ◌∙◌, ap, subst, arith}
use Rattle.std.proofs.lemmas.Option.{slice_get_within}
use Rattle.std.proofs.lemmas.Bool.{eq-eqb}
use Rattle.std.proofs.lemmas.Bool.Decides.{nat_tests}
use Rattle.rr_base.proofs.Lists.{slice_get-append_found, slice_get-append_right}
use Rattle.sync_objects.specs.Setup.{SetupView}
use Rattle.rr_base.specs.declared.trap.Trap.{Trap}
use Rattle.flow_code.specs.declared.act.Act.TheVariants as act
use Rattle.flow_code.specs.declared.act.Instr.{Instr}
use Rattle.flow_code.specs.declared.work.Work.{Work}
use Rattle.flow_code.specs.declared.work.Work.TheVariants as work
use Rattle.word_semantics.specs.declared.operator.BinaryOp.{BinaryOp}
use Rattle.word_semantics.specs.Values.{number, word, truth, binary_of}
use Rattle.word_semantics.specs.Pointers.{moved, moved_by, directed, compared, elements_between, pointer_to, number_from}
use Rattle.flow_code.specs.Works.{is_pointer, work_of}
use Rattle.word_semantics.specs.Registers.{register}
use Rattle.word_semantics.specs.Operators.{based, either_binary_of}
use Rattle.flow_code.specs.Threads.{Frame, Thread}
use Rattle.flow_code.specs.Next.{one_more, in_frame, past, branch_to}
use Rattle.word_semantics.specs.Cells.{access_kind}
use Rattle.rr_base.specs.declared.position.Position.{Position}
use Rattle.core_tree.specs.declared.value.UnaryOp.{UnaryOp}
use Rattle.core_tree.specs.declared.value.UnaryOp.TheVariants as unary_op
use Rattle.core_tree.specs.declared.value.Change.{Change}
use Rattle.core_tree.specs.declared.value.Change.TheVariants as change
use Rattle.core_tree.specs.Core as core
use Rattle.core_tree.specs.Core.{Exp, null, object, global, load, unary, binary, move, advance, member, between, to_pointer, to_number, copy, both, either, conditional, comma, set_register, store, change_register, change_cell, Function, Program}
use Rattle.core_tree.specs.Runs.{Run, State, ◌>>=◌, result_at, counted, with_value}
use Rattle.core_tree.specs.Meaning as meaning
use Rattle.core_tree.specs.Meaning.{Calls, value, unary_of, changed}
use Rattle.lowering_parts.specs.Kept.{assigns, loses, copied_if}
use Rattle.flow_lower.specs.Lowered.{held, body_kept, statement_kinds, instr, lowered, function_kinds, body_code, exp_kinds, width, exp_size, exp_code, unary_work, change_work, computes, truth_code}
use Rattle.lower_sound.specs.Follows.{Follows}
use Rattle.lower_sound.proofs.Machine.{same_register, other_register, by_quiet, Shows}
use Rattle.lower_sound.proofs.Places.{HasAt, has_at, has_front, has_back, Having, own, named, of_object, having, kind_held, is_kind}
use Rattle.lower_sound.proofs.Events.{sets, goes_to, by_compute, by_jump, by_load, by_store, by_branch}
use Rattle.lower_sound.proofs.Arriving.{top, Keeps, Arrives, shows_set, shows_written, shows_counted, shows_past, shows_at, puts, puts_counted}
use Rattle.lower_sound.proofs.Lengths.{exp_length}

module _ (p : Program) (s : SetupView) (t : ℕ) (i : ℕ) (f : Function) (is : slice_get p.functions i ≡ Some f) (callers : List Frame) (budget : ℕ) (calls : Calls) where
  abbrev first : ℕ
  first = length f.pointers

  abbrev kinds : List Bool
  kinds = function_kinds f

  abbrev Shown : Thread → State → Type 0
  Shown m σ = Shows p s t i f is callers budget m σ

  abbrev Arrived : Thread → Thread → State → (r x v : ℕ) → (ℕ → Bool) → ℕ → Type 0
  Arrived m n σ r x v assigned pc = Arrives p s t i f is callers budget m n σ r x v assigned pc

  abbrev Kept : Thread → Thread → ℕ → (ℕ → Bool) → Type 0
  Kept m n r assigned = Keeps p s t i f is callers budget m n r assigned

  -- the registers that a part of the expression assigns
  abbrev Sets : Exp → ℕ → Bool
  Sets e q = assigns q e

  abbrev base : ℕ
  base = top p s t i f is callers budget

  -- From wherever the code of the expression begins it makes the expression's events, if it makes the rest from where a register
  -- has the value. Named registers that the expression doesn't assign are as they were.
  abbrev pub ExpFollows : Exp → Type 0
  ExpFollows e = (r pc : ℕ) (m : Thread) (σ : State) (k : ℕ → State → Run) → HasAt (body_code f) pc (exp_code first e r pc) → HasAt kinds r (exp_kinds e) → base ≤ r → m.top.instr ≡ pc → Shown m σ
      → ((n : Thread) (v : ℕ) (σ' : State) → Arrived m n σ' r (held first e r) v (Sets e) (pc + exp_size e) → Follows (lowered p) s t (k v σ') n)
      → Follows (lowered p) s t (value p s t calls e σ k) m

  -- what a register or an object is named is there
  abbrev pub IsThere : Exp → Type 0
  IsThere (core.register n pointer at) = slice_get f.pointers n ≡ Some pointer
  IsThere (object n at) = n < length f.objects
  IsThere _ = Unit {0}

  -- what stands after the code of an expression
  following : (e : Exp) (r pc : ℕ) (rest : List Instr) → HasAt (body_code f) pc (exp_code first e r pc ++ rest) → HasAt (body_code f) (pc + exp_size e) rest
  following e r pc rest h = has_at (body_code f) (pc + length (exp_code first e r pc)) (pc + exp_size e) rest (ap (λ n. pc + n) (exp_length first e r pc)) (has_back (body_code f) pc (exp_code first e r pc) rest h)

  ahead : (e : Exp) (r pc : ℕ) (rest : List Instr) → HasAt (body_code f) pc (exp_code first e r pc ++ rest) → HasAt (body_code f) pc (exp_code first e r pc)
  ahead e r pc rest h = has_front (body_code f) pc (exp_code first e r pc) rest h

  -- the kinds of two parts
  kinds_ahead : (r : ℕ) (ks ls : List Bool) → HasAt kinds r (ks ++ ls) → HasAt kinds r ks
  kinds_ahead r ks ls h = has_front kinds r ks ls h

  kinds_past : (r : ℕ) (ks ls : List Bool) → HasAt kinds r (ks ++ ls) → HasAt kinds (r + length ks) ls
  kinds_past r ks ls h = has_back kinds r ks ls h

  within : (r : ℕ) (b : Bool) → slice_get kinds r ≡ Some b → r < length kinds
  within r b h = slice_get_within kinds r b h

  here : (m : Thread) (pc : ℕ) (x : Instr) → m.top.instr ≡ pc → slice_get (body_code f) pc ≡ Some x → slice_get (body_code f) m.top.instr ≡ Some x
  here m pc x e h = ap (slice_get (body_code f)) e ∙ h

  -- ---- the registers of values

  replicated : (m n : ℕ) → n < m → slice_get (replicate m true) n ≡ Some true
  replicated zero n lt = absurd (omega (arith, lt))
  replicated (suc m) zero lt = refl
  replicated (suc m) (suc n) lt = replicated m n (omega (arith, lt))

  -- the kind of the register that has a value
  kind_of : (e : Exp) (r : ℕ) → IsThere e → HasAt kinds r (exp_kinds e) → is_pointer kinds (held first e r) ≡ meaning.is_pointer e
  kind_of e r there h =
      is_kind kinds (held first e r) (meaning.is_pointer e)
      (kind_held kinds first r e h (λ n pointer at same. slice_get-append_found f.pointers (replicate (length f.objects) true ++ statement_kinds (body_kept f)) n pointer (subst IsThere same there))
      (λ n at same.
      slice_get-append_right f.pointers (replicate (length f.objects) true ++ statement_kinds (body_kept f)) n
      ∙ slice_get-append_found (replicate (length f.objects) true) (statement_kinds (body_kept f)) n true (replicated (length f.objects) n (subst IsThere same there))))

  -- later parts leave it as it is, but for a named register that they assign
  pub held_stays : (e : Exp) (r : ℕ) (m n : Thread) (assigned : ℕ → Bool) → IsThere e → loses e assigned ≡ false → base ≤ r → Kept m n (r + width e) assigned → register n.top.registers (held first e r) ≡ register m.top.registers (held first e r)
  held_stays e r m n assigned there calm le keeps = by (having e)
    where
      by : Having e → register n.top.registers (held first e r) ≡ register m.top.registers (held first e r)
      by (own is ks k) =
          subst (λ x. register n.top.registers x ≡ register m.top.registers x) (sym (is first r)) (keeps r (omega (arith, ap length k)) (λ lt. absurd (omega (arith, le, lt))))
      by (named x pointer at same) =
          let there' : slice_get f.pointers x ≡ Some pointer = subst IsThere same there in
          let calm' : assigned x ≡ false = subst (λ z. loses z assigned ≡ false) same calm in
          let lt : x < length f.pointers = slice_get_within f.pointers x pointer there' in
          subst (λ z. register n.top.registers (held first z r) ≡ register m.top.registers (held first z r)) (sym same) (keeps x (omega (arith, lt, le)) (λ z. calm'))
      by (of_object x at same) =
          let there' : x < length f.objects = subst IsThere same there in
          subst (λ z. register n.top.registers (held first z r) ≡ register m.top.registers (held first z r)) (sym same) (keeps (first + x) (omega (arith, there', le)) (λ lt. absurd (omega (arith, lt))))

  -- the register that has a value isn't one of those that stand before it
  held_apart : (e : Exp) (r x : ℕ) → IsThere e → base ≤ x → x < r → held first e r ≢ x
  held_apart e r x there le lt = by (having e)
    where
      by : Having e → held first e r ≢ x
      by (own is ks k) = λ at_x. let e' : held first e r ≡ r = is first r in omega (arith, lt, e', at_x)
      by (named n pointer at same) =
          let there' : slice_get f.pointers n ≡ Some pointer = subst IsThere same there in
          let lt' : n < length f.pointers = slice_get_within f.pointers n pointer there' in
          subst (λ z. held first z r ≢ x) (sym same) (λ at_x. omega (arith, lt', le, at_x))
      by (of_object n at same) =
          let there' : n < length f.objects = subst IsThere same there in
          subst (λ z. held first z r ≢ x) (sym same) (λ at_x. omega (arith, there', le, at_x))

  -- neither of two parts assigns a register, if their whole doesn't
  not_left : (a b : Bool) → (a || b) ≡ false → a ≡ false
  not_left true b e = e
  not_left false b e = refl

  not_right : (a b : Bool) → (a || b) ≡ false → b ≡ false
  not_right true b e = absurd cc
  not_right false b e = e

  -- a part keeps what the whole keeps
  keeps_left : (m n : Thread) (r : ℕ) (A B : ℕ → Bool) → Kept m n r A → Kept m n r (λ q. A q || B q)
  keeps_left m n r A B keeps q lt free = keeps q lt (λ l. not_left (A q) (B q) (free l))

  keeps_right : (m n : Thread) (r : ℕ) (A B : ℕ → Bool) → Kept m n r B → Kept m n r (λ q. A q || B q)
  keeps_right m n r A B keeps q lt free = keeps q lt (λ l. not_right (A q) (B q) (free l))

  -- one part after another
  pub keeps_both : (m n o : Thread) (r x y : ℕ) (A B : ℕ → Bool) → r ≤ x → r ≤ y → Kept m n x A → Kept n o y B → Kept m o r (λ q. A q || B q)
  keeps_both m n o r x y A B le le' first_keeps then_keeps q lt free =
      then_keeps q (omega (arith, lt, le')) (λ l. not_right (A q) (B q) (free l)) ∙ first_keeps q (omega (arith, lt, le)) (λ l. not_left (A q) (B q) (free l))

  -- a register that the expression keeps isn't the one that it assigns
  apart : (n q : ℕ) (b : Bool) → n < first → (q < first → (n == q || b) ≡ false) → q ≢ n
  apart n q b lt free e =
      let no' : (n == q) ≡ false = not_left (n == q) b (free (omega (arith, lt, e))) in
      let yes' : (n == q) ≡ true = eq-eqb n q (sym e) in
      absurd cc

  -- ---- words without parts

  -- an instruction that gives a word alone
  gives_word : (at : Position) (r pc v : ℕ) (w : Work) (A : ℕ → Bool) (m : Thread) (σ : State) (k : ℕ → State → Run) (b : Bool) → slice_get (body_code f) pc ≡ Some (instr at (act.Compute r w)) → slice_get kinds r ≡ Some b
      → base ≤ r → m.top.instr ≡ pc → Shown m σ → work_of s.slots p.sites kinds m.top.registers w ≡ Ok v
      → ((n : Thread) (v : ℕ) (σ' : State) → Arrived m n σ' r r v A (pc + 1) → Follows (lowered p) s t (k v σ') n) → Follows (lowered p) s t (k v σ) m
  gives_word at r pc v w A m σ k b code_here kind_at le e h gives go =
      by_compute p s t i f is callers budget m σ at r w (Ok v) k h (here m pc _ e code_here) gives
      (λ v' same. go (sets m r v') v' σ (puts p s t i f is callers budget m m σ r v' A (pc + 1) le (within r b kind_at) h (λ q lt free. refl) (omega arith) (ap (λ x. x + 1) e)))

  pub number_follows : (z : ℤ) (at : Position) → ExpFollows (core.number z at)
  number_follows z at r pc m σ k code ks le e h go = gives_word at r pc (word z) (work.Constant z) (Sets (core.number z at)) m σ k false code.0 ks.0 le e h refl go

  pub null_follows : (at : Position) → ExpFollows (null at)
  null_follows at r pc m σ k code ks le e h go = gives_word at r pc 0 (work.Constant (pos 0)) (Sets (null at)) m σ k true code.0 ks.0 le e h refl go

  -- a named register has its value already
  there_already : (x pc v : ℕ) (r : ℕ) (A : ℕ → Bool) (m : Thread) (σ : State) → m.top.instr ≡ pc → Shown m σ → register m.top.registers x ≡ v → Arrived m m σ r x v A (pc + 0)
  there_already x pc v r A m σ e h is = record { place = e ∙ omega arith; shows = h; value = is; lower = λ q lt free. refl; later = omega arith }

  pub register_follows : (n : ℕ) (pointer : Bool) (at : Position) → n < first → ExpFollows (core.register n pointer at)
  register_follows n pointer at lt r pc m σ k code ks le e h go = go m (σ.registers n) σ (there_already n pc (σ.registers n) r (Sets (core.register n pointer at)) m σ e h (h.registers n lt))

  pub object_follows : (n : ℕ) (at : Position) → n < length f.objects → ExpFollows (object n at)
  object_follows n at lt r pc m σ k code ks le e h go = go m (σ.objects n) σ (there_already (first + n) pc (σ.objects n) r (Sets (object n at)) m σ e h (h.objects n lt))

  pub global_follows : (address : ℕ) (at : Position) → ExpFollows (global address at)
  global_follows address at r pc m σ k code ks le e h go = gives_word at r pc (based s.slots address) (work.Address address) (Sets (global address at)) m σ k true code.0 ks.0 le e h refl go

  -- ---- one operand

  -- one operand, and an instruction that computes
  one_operand : (a : Exp) → ExpFollows a → (at : Position) (w : Work) (result : ℕ → Result ℕ Trap) (b : Bool) (r pc : ℕ) (m : Thread) (σ : State) (k : ℕ → State → Run)
      → ((regs : List ℕ) (v : ℕ) → register regs (held first a (r + 1)) ≡ v → work_of s.slots p.sites kinds regs w ≡ result v)
      → HasAt (body_code f) pc (exp_code first a (r + 1) pc ++ computes at r w) → HasAt kinds r (b ∷ exp_kinds a) → base ≤ r → m.top.instr ≡ pc → Shown m σ
      → ((n : Thread) (v : ℕ) (σ' : State) → Arrived m n σ' r r v (Sets a) (pc + (exp_size a + 1)) → Follows (lowered p) s t (k v σ') n)
      → Follows (lowered p) s t ((value p s t calls a >>= λ v. result_at at.line (result v)) σ k) m
  one_operand a follows at w result b r pc m σ k gives code ks le e h go =
      follows (r + 1) pc m σ _ (ahead a (r + 1) pc _ code) ks.1 (omega (arith, le)) e h (λ n v σ' x.
      by_compute p s t i f is callers budget n σ' at r w (result v) k x.shows (here n (pc + exp_size a) _ x.place (following a (r + 1) pc _ code).0) (gives n.top.registers v x.value) (λ w' same.
      go (sets n r w') w' σ' (puts p s t i f is callers budget m n σ' r w' (Sets a) (pc + (exp_size a + 1)) le (within r b ks.0) x.shows (λ q lt free. x.lower q (omega (arith, lt)) free) x.later (omega (arith, x.place)))))

  pub unary_follows : (o : UnaryOp) (a : Exp) (at : Position) → ExpFollows a → ExpFollows (unary o a at)
  unary_follows o a at follows r pc m σ k code ks le e h go = one_operand a follows at (unary_work o (held first a (r + 1))) (unary_of o) false r pc m σ k (by o) code ks le e h go
    where
      by : (o : UnaryOp) (regs : List ℕ) (v : ℕ) → register regs (held first a (r + 1)) ≡ v → work_of s.slots p.sites kinds regs (unary_work o (held first a (r + 1))) ≡ unary_of o v
      by unary_op.Minus regs v same = ap (unary_of unary_op.Minus) same
      by unary_op.Complement regs v same = ap (unary_of unary_op.Complement) same
      by unary_op.Not regs v same = ap (unary_of unary_op.Not) same

  pub member_follows : (a : Exp) (n : ℕ) (at : Position) → ExpFollows a → ExpFollows (member a n at)
  member_follows a n at follows r pc m σ k code ks le e h go = one_operand a follows at (work.Member (held first a (r + 1)) n) (λ v. moved p.sites v (pos n)) true r pc m σ k (λ regs v same. ap (λ x. moved p.sites x (pos n)) same) code ks le e h go

  pub to_pointer_follows : (a : Exp) (at : Position) → ExpFollows a → ExpFollows (to_pointer a at)
  to_pointer_follows a at follows r pc m σ k code ks le e h go = one_operand a follows at (work.ToPointer (held first a (r + 1))) (λ v. pointer_to (number v)) true r pc m σ k (λ regs v same. ap (λ x. pointer_to (number x)) same) code ks le e h go

  pub to_number_follows : (a : Exp) (at : Position) → ExpFollows a → ExpFollows (to_number a at)
  to_number_follows a at follows r pc m σ k code ks le e h go = one_operand a follows at (work.ToNumber (held first a (r + 1))) (λ v. number_from p.sites v) false r pc m σ k (λ regs v same. ap (λ x. number_from p.sites x) same) code ks le e h go

  pub copy_follows : (a : Exp) (at : Position) → ExpFollows a → ExpFollows (copy a at)
  copy_follows a at follows r pc m σ k code ks le e h go = one_operand a follows at (work.Copy (held first a (r + 1))) Ok (meaning.is_pointer a) r pc m σ k (λ regs v same. ap Ok same) code ks le e h go

  -- an operand that is copied where it would be lost
  pub copied_follows : (lost : Bool) (a : Exp) (at : Position) → ExpFollows a → ExpFollows (copied_if lost at a)
  copied_follows true a at follows = copy_follows a at follows
  copied_follows false a at follows = follows

  pub copied_there : (lost : Bool) (a : Exp) (at : Position) → IsThere a → IsThere (copied_if lost at a)
  copied_there true a at there = tt
  copied_there false a at there = there

  pub load_follows : (a : Exp) (pointer : Bool) (at : Position) → ExpFollows a → ExpFollows (load a pointer at)
  load_follows a pointer at follows r pc m σ k code ks le e h go =
      follows (r + 1) pc m σ _ (ahead a (r + 1) pc _ code) ks.1 (omega (arith, le)) e h (λ n v σ' x.
      by_load p s t i f is callers budget n σ' at r (held first a (r + 1)) v (access_kind pointer) k x.shows (here n (pc + exp_size a) _ x.place (following a (r + 1) pc _ code).0) x.value (ap access_kind (is_kind kinds r pointer ks.0)) (λ low w.
      go (one_more (sets n r w)) w (counted σ') (puts_counted p s t i f is callers budget m n σ' r w (Sets a) (pc + (exp_size a + 1)) le (within r pointer ks.0) x.shows (λ q lt free. x.lower q (omega (arith, lt)) free) x.later (omega (arith, x.place)) low)))

  -- ---- two operands

  -- two operands, one after another, of which the second doesn't assign the register that the first one is
  two_values : (a b : Exp) → ExpFollows a → ExpFollows b → IsThere a → loses a (Sets b) ≡ false → (r pc : ℕ) (rest : List Instr) (m : Thread) (σ : State) (k : ℕ → ℕ → State → Run)
      → HasAt (body_code f) pc (exp_code first a r pc ++ (exp_code first b (r + width a) (pc + exp_size a) ++ rest)) → HasAt kinds r (exp_kinds a ++ exp_kinds b) → base ≤ r → m.top.instr ≡ pc → Shown m σ
      → ((n : Thread) (v w : ℕ) (σ' : State) → n.top.instr ≡ pc + exp_size a + exp_size b → Shown n σ' → register n.top.registers (held first a r) ≡ v → register n.top.registers (held first b (r + width a)) ≡ w → Kept m n r (λ q. assigns q a || assigns q b) → m.count ≤ n.count → Follows (lowered p) s t (k v w σ') n)
      → Follows (lowered p) s t (value p s t calls a σ (λ v σ1. value p s t calls b σ1 (λ w σ2. k v w σ2))) m
  two_values a b follows_a follows_b there calm r pc rest m σ k code ks le e h go =
      follows_a r pc m σ _ (ahead a r pc _ code) (kinds_ahead r (exp_kinds a) (exp_kinds b) ks) le e h (λ n v σ' x.
      follows_b (r + width a) (pc + exp_size a) n σ' _ (ahead b (r + width a) (pc + exp_size a) _ (following a r pc _ code)) (kinds_past r (exp_kinds a) (exp_kinds b) ks) (omega (arith, le)) x.place x.shows (λ o w σ'' y.
      go o v w σ'' y.place y.shows (held_stays a r n o (Sets b) there calm le y.lower ∙ x.value) y.value (keeps_both m n o r r (r + width a) (Sets a) (Sets b) (omega arith) (omega arith) x.lower y.lower) (omega (arith, x.later, y.later))))

  -- two operands, and an instruction that computes
  two_operands : (a b : Exp) → ExpFollows a → ExpFollows b → IsThere a → loses a (Sets b) ≡ false → (at : Position) (w : Work) (result : ℕ → ℕ → Result ℕ Trap) (kind : Bool) (r pc : ℕ) (m : Thread) (σ : State) (k : ℕ → State → Run)
      → ((regs : List ℕ) (v u : ℕ) → register regs (held first a (r + 1)) ≡ v → register regs (held first b (r + 1 + width a)) ≡ u → work_of s.slots p.sites kinds regs w ≡ result v u)
      → HasAt (body_code f) pc (exp_code first a (r + 1) pc ++ (exp_code first b (r + 1 + width a) (pc + exp_size a) ++ computes at r w)) → HasAt kinds r (kind ∷ (exp_kinds a ++ exp_kinds b)) → base ≤ r → m.top.instr ≡ pc → Shown m σ
      → ((n : Thread) (v : ℕ) (σ' : State) → Arrived m n σ' r r v (λ q. assigns q a || assigns q b) (pc + (exp_size a + (exp_size b + 1))) → Follows (lowered p) s t (k v σ') n)
      → Follows (lowered p) s t (value p s t calls a σ (λ v σ1. value p s t calls b σ1 (λ u σ2. result_at at.line (result v u) σ2 k))) m
  two_operands a b follows_a follows_b there calm at w result kind r pc m σ k gives code ks le e h go =
      two_values a b follows_a follows_b there calm (r + 1) pc (computes at r w) m σ _ code ks.1 (omega (arith, le)) e h (λ n v u σ' place shows is_v is_u keeps later.
      by_compute p s t i f is callers budget n σ' at r w (result v u) k shows
      (here n (pc + exp_size a + exp_size b) _ place (following b (r + 1 + width a) (pc + exp_size a) _ (following a (r + 1) pc _ code)).0) (gives n.top.registers v u is_v is_u) (λ w' same.
      go (sets n r w') w' σ' (puts p s t i f is callers budget m n σ' r w' (λ q. assigns q a || assigns q b) (pc + (exp_size a + (exp_size b + 1))) le (within r kind ks.0) shows (λ q lt free. keeps q (omega (arith, lt)) free) later (omega (arith, place)))))

  pub binary_follows : (o : BinaryOp) (a b : Exp) (at : Position) → ExpFollows a → ExpFollows b → IsThere a → loses a (Sets b) ≡ false → ExpFollows (binary o a b at)
  binary_follows o a b at follows_a follows_b there calm r pc m σ k code ks le e h go =
      let x = held first a (r + 1) in
      let y = held first b (r + 1 + width a) in
      two_operands a b follows_a follows_b there calm at (work.Binary o x y) (λ v u. either_binary_of (meaning.is_pointer a) p.sites o v u) false r pc m σ k
      (λ regs v u is_v is_u.
      ap (λ z. either_binary_of z p.sites o (register regs x) (register regs y)) (kind_of a (r + 1) there (kinds_ahead (r + 1) (exp_kinds a) (exp_kinds b) ks.1))
      ∙ ap (λ z. either_binary_of (meaning.is_pointer a) p.sites o z (register regs y)) is_v
      ∙ ap (λ z. either_binary_of (meaning.is_pointer a) p.sites o v z) is_u) code ks le e h go

  pub move_follows : (a b : Exp) (element : ℕ) (back : Bool) (at : Position) → ExpFollows a → ExpFollows b → IsThere a → loses a (Sets b) ≡ false → ExpFollows (move a b element back at)
  move_follows a b element back at follows_a follows_b there calm r pc m σ k code ks le e h go =
      let x = held first a (r + 1) in
      let y = held first b (r + 1 + width a) in
      two_operands a b follows_a follows_b there calm at (work.Move x y element back) (λ v u. moved_by p.sites v (directed back (number u) *ℤ pos element)) true r pc m σ k
      (λ regs v u is_v is_u.
      ap (λ z. moved_by p.sites z (directed back (number (register regs y)) *ℤ pos element)) is_v
      ∙ ap (λ z. moved_by p.sites v (directed back (number z) *ℤ pos element)) is_u) code ks le e h go

  pub advance_follows : (a b : Exp) (element : ℕ) (at : Position) → ExpFollows a → ExpFollows b → IsThere a → loses a (Sets b) ≡ false → ExpFollows (advance a b element at)
  advance_follows a b element at follows_a follows_b there calm r pc m σ k code ks le e h go =
      let x = held first a (r + 1) in
      let y = held first b (r + 1 + width a) in
      two_operands a b follows_a follows_b there calm at (work.Move y x element false) (λ v u. moved_by p.sites u (number v *ℤ pos element)) true r pc m σ k
      (λ regs v u is_v is_u.
      ap (λ z. moved_by p.sites z (number (register regs x) *ℤ pos element)) is_u
      ∙ ap (λ z. moved_by p.sites u (number z *ℤ pos element)) is_v) code ks le e h go

  pub between_follows : (a b : Exp) (element : ℕ) (at : Position) → ExpFollows a → ExpFollows b → IsThere a → loses a (Sets b) ≡ false → ExpFollows (between a b element at)
  between_follows a b element at follows_a follows_b there calm r pc m σ k code ks le e h go =
      let x = held first a (r + 1) in
      let y = held first b (r + 1 + width a) in
      two_operands a b follows_a follows_b there calm at (work.Between x y element) (λ v u. compared p.sites v u (elements_between v u element)) false r pc m σ k
      (λ regs v u is_v is_u.
      ap (λ z. compared p.sites z (register regs y) (elements_between z (register regs y) element)) is_v
      ∙ ap (λ z. compared p.sites v z (elements_between v z element)) is_u) code ks le e h go

  pub comma_follows : (a b : Exp) (at : Position) → ExpFollows a → ExpFollows b → ExpFollows (comma a b at)
  comma_follows a b at follows_a follows_b r pc m σ k code ks le e h go =
      let code_b = following a (r + 1) pc _ code in
      follows_a (r + 1) pc m σ _ (ahead a (r + 1) pc _ code) (kinds_ahead (r + 1) (exp_kinds a) (exp_kinds b) ks.1) (omega (arith, le)) e h (λ n v σ' x.
      follows_b (r + 1 + width a) (pc + exp_size a) n σ' _ (ahead b (r + 1 + width a) (pc + exp_size a) _ code_b) (kinds_past (r + 1) (exp_kinds a) (exp_kinds b) ks.1) (omega (arith, le)) x.place x.shows (λ o w σ'' y.
      by_compute p s t i f is callers budget o σ'' at r (work.Copy (held first b (r + 1 + width a))) (Ok w) k y.shows (here o (pc + exp_size a + exp_size b) _ y.place (following b (r + 1 + width a) (pc + exp_size a) _ code_b).0) (ap Ok y.value) (λ w' same.
      go (sets o r w') w' σ'' (puts p s t i f is callers budget m o σ'' r w' (λ q. assigns q a || assigns q b) (pc + (exp_size a + (exp_size b + 1))) le (within r (meaning.is_pointer b) ks.0) y.shows
      (keeps_both m n o r (r + 1) (r + 1 + width a) (Sets a) (Sets b) (omega arith) (omega arith) x.lower y.lower) (omega (arith, x.later, y.later)) (omega (arith, y.place))))))

  -- ---- assignments

  -- a register that holds a word still does so after an assignment of that word
  still : (regs : List ℕ) (n x v : ℕ) → n < length regs → register regs x ≡ v → register (slice_set regs n v) x ≡ v
  still regs n x v lt holds = by (nat_eq x n) refl
    where
      by : (b : Bool) → nat_eq x n ≡ b → register (slice_set regs n v) x ≡ v
      by true same = let e : x ≡ n = grind (arith, nat_tests) in ap (register (slice_set regs n v)) e ∙ same_register regs n v lt
      by false other = other_register regs n v x (λ e. grind (arith, nat_tests)) ∙ holds

  -- a register gets a value, which is the value of the expression too
  pub set_register_follows : (n : ℕ) (a : Exp) (at : Position) → n < first → ExpFollows a → ExpFollows (set_register n a at)
  set_register_follows n a at lt follows r pc m σ k code ks le e h go =
      let x = held first a (r + 1) in
      let code' = following a (r + 1) pc _ code in
      let in_range = within r (meaning.is_pointer a) ks.0 in
      follows (r + 1) pc m σ _ (ahead a (r + 1) pc _ code) ks.1 (omega (arith, le)) e h (λ o v σ' y.
      let next = sets o n v in
      let written = record σ' { registers = with_value σ'.registers n v } in
      let shows = shows_written p s t i f is callers budget o σ' n v lt (omega (arith, le, in_range)) y.shows in
      by_compute p s t i f is callers budget o σ' at n (work.Copy x) (Ok v) (λ v' σ''. k v (record σ'' { registers = with_value σ''.registers n v })) y.shows (here o (pc + exp_size a) _ y.place code'.0) (ap Ok y.value) (λ v' same.
      let same_v : v' ≡ v = cc in
      subst (λ z. Follows (lowered p) s t (k v written) (sets o n z)) (sym same_v)
      (by_compute p s t i f is callers budget next written at r (work.Copy x) (Ok v) k shows (here next (pc + exp_size a + 1) _ (ap (λ z. z + 1) y.place) code'.1.0)
      (ap Ok (still o.top.registers n x v (omega (arith, y.shows.size, lt, in_range, le)) y.value)) (λ w same'.
      go (sets next r w) w written (puts p s t i f is callers budget m next written r w (λ q. n == q || assigns q a) (pc + (exp_size a + 2)) le in_range shows
      (λ q l free. other_register o.top.registers n v q (apart n q (assigns q a) lt free) ∙ y.lower q (omega (arith, l)) (λ z. not_right (n == q) (assigns q a) (free z))) y.later (omega (arith, y.place)))))))

  -- the cell gets a value, which is the value of the expression too
  pub store_follows : (a b : Exp) (at : Position) → ExpFollows a → ExpFollows b → IsThere a → IsThere b → loses a (Sets b) ≡ false → ExpFollows (store a b at)
  store_follows a b at follows_a follows_b there there' calm r pc m σ k code ks le e h go =
      let x = held first a (r + 1) in
      let y = held first b (r + 1 + width a) in
      two_values a b follows_a follows_b there calm (r + 1) pc _ m σ _ code ks.1 (omega (arith, le)) e h (λ n v u σ' place shows is_v is_u keeps later.
      let code' = following b (r + 1 + width a) (pc + exp_size a) _ (following a (r + 1) pc _ code) in
      let next = one_more (in_frame n (past n.top)) in
      by_store p s t i f is callers budget n σ' at x y v u (access_kind (meaning.is_pointer b)) _ shows (here n (pc + exp_size a + exp_size b) _ place code'.0) is_v is_u
      (ap access_kind (kind_of b (r + 1 + width a) there' (kinds_past (r + 1) (exp_kinds a) (exp_kinds b) ks.1))) (λ low.
      let shows' = shows_counted p s t i f is callers budget (in_frame n (past n.top)) σ' low (shows_past p s t i f is callers budget n σ' shows) in
      by_compute p s t i f is callers budget next (counted σ') at r (work.Copy y) (Ok u) k shows' (here next (pc + exp_size a + exp_size b + 1) _ (ap (λ z. z + 1) place) code'.1.0) (ap Ok is_u) (λ w same.
      go (sets next r w) w (counted σ') (puts p s t i f is callers budget m next (counted σ') r w (λ q. assigns q a || assigns q b) (pc + (exp_size a + (exp_size b + 2))) le (within r (meaning.is_pointer b) ks.0) shows' (λ q l free. keeps q (omega (arith, l)) free) (omega (arith, later)) (omega (arith, place))))))

  -- ---- choices

  -- the value is there, and the thread goes on elsewhere
  arrives_jump : (m n : Thread) (σ : State) (r v : ℕ) (A : ℕ → Bool) (pc to : ℕ) → Arrived m n σ r r v A pc → Arrived m (goes_to n to) σ r r v A to
  arrives_jump m n σ r v A pc to x = record { place = refl; shows = shows_at p s t i f is callers budget n σ to x.shows; value = x.value; lower = x.lower; later = x.later }

  -- a constant, on the way to the end of a test
  constant : (z : ℕ) (at : Position) (r : ℕ) (A : ℕ → Bool) (pc : ℕ) (m n : Thread) (σ : State) (k : ℕ → State → Run) (b : Bool) → slice_get (body_code f) pc ≡ Some (instr at (act.Compute r (work.Constant (pos z)))) → word (pos z) ≡ z → slice_get kinds r ≡ Some b
      → base ≤ r → n.top.instr ≡ pc → Shown n σ → Kept m n r A → m.count ≤ n.count
      → ((o : Thread) → Arrived m o σ r r z A (pc + 1) → Follows (lowered p) s t (k z σ) o) → Follows (lowered p) s t (k z σ) n
  constant z at r A pc m n σ k b code_here same kind_at le e h keeps later go =
      by_compute p s t i f is callers budget n σ at r (work.Constant (pos z)) (Ok z) k h (here n pc _ e code_here) (ap Ok same)
      (λ v same_v. let is_z : v ≡ z = cc in subst (λ x. Follows (lowered p) s t (k x σ) (sets n r x)) (sym is_z)
      (go (sets n r z) (puts p s t i f is callers budget m n σ r z A (pc + 1) le (within r b kind_at) h keeps later (ap (λ x. x + 1) e))))

  -- 1, and then the end of the test
  one_comes : (at : Position) (r x : ℕ) (A : ℕ → Bool) (pc : ℕ) (m n : Thread) (σ : State) (k : ℕ → State → Run) (b : Bool) → HasAt (body_code f) pc (truth_code at r x pc) → slice_get kinds r ≡ Some b
      → base ≤ r → n.top.instr ≡ pc + 1 → Shown n σ → Kept m n r A → m.count ≤ n.count
      → ((o : Thread) → Arrived m o σ r r 1 A (pc + 4) → Follows (lowered p) s t (k 1 σ) o) → Follows (lowered p) s t (k 1 σ) n
  one_comes at r x A pc m n σ k b code kind_at le e h keeps later go =
      constant 1 at r A (pc + 1) m n σ k b code.1.0 refl kind_at le e h keeps later (λ o a.
      by_jump p s t i f is callers budget (k 1 σ) o σ at (pc + 4) a.shows (here o (pc + 1 + 1) _ a.place code.1.1.0) (go (goes_to o (pc + 4)) (arrives_jump m o σ r 1 A (pc + 1 + 1) (pc + 4) a)))

  zero_comes : (at : Position) (r x : ℕ) (A : ℕ → Bool) (pc : ℕ) (m n : Thread) (σ : State) (k : ℕ → State → Run) (b : Bool) → HasAt (body_code f) pc (truth_code at r x pc) → slice_get kinds r ≡ Some b
      → base ≤ r → n.top.instr ≡ pc + 3 → Shown n σ → Kept m n r A → m.count ≤ n.count
      → ((o : Thread) → Arrived m o σ r r 0 A (pc + 4) → Follows (lowered p) s t (k 0 σ) o) → Follows (lowered p) s t (k 0 σ) n
  zero_comes at r x A pc m n σ k b code kind_at le e h keeps later go =
      let there : pc + 1 + 1 + 1 ≡ pc + 3 = omega arith in
      let next : pc + 3 + 1 ≡ pc + 4 = omega arith in
      constant 0 at r A (pc + 3) m n σ k b (ap (slice_get (body_code f)) (sym there) ∙ code.1.1.1.0) refl kind_at le e h keeps later (λ o a. go o (subst (λ z. Arrived m o σ r r 0 A z) next a))

  -- the word in a register is tested
  truth_comes : (at : Position) (r x : ℕ) (A : ℕ → Bool) (pc w : ℕ) (m n : Thread) (σ : State) (k : ℕ → State → Run) (b : Bool) → HasAt (body_code f) pc (truth_code at r x pc) → slice_get kinds r ≡ Some b
      → base ≤ r → n.top.instr ≡ pc → Shown n σ → register n.top.registers x ≡ w → Kept m n r A → m.count ≤ n.count
      → ((o : Thread) (v : ℕ) → Arrived m o σ r r v A (pc + 4) → Follows (lowered p) s t (k v σ) o) → Follows (lowered p) s t (k (truth (not (nat_eq w 0))) σ) n
  truth_comes at r x A pc w m n σ k b code kind_at le e h holds keeps later go = by (nat_eq w 0) refl
    where
      by : (c : Bool) → nat_eq w 0 ≡ c → Follows (lowered p) s t (k (truth (not c)) σ) n
      by true is_c =
          let is_zero : w ≡ 0 = grind (arith, nat_tests) in
          by_quiet p s t i f is callers budget (k 0 σ) n (goes_to n (pc + 3)) σ at (act.Branch x (pc + 1) (pc + 3)) h (here n pc _ e code.0) refl (ap (λ z. goes_to n (branch_to z (pc + 1) (pc + 3))) (holds ∙ is_zero))
          (zero_comes at r x A pc m (goes_to n (pc + 3)) σ k b code kind_at le refl (shows_at p s t i f is callers budget n σ (pc + 3) h) keeps later (λ o a. go o 0 a))
      by false is_c =
          by_quiet p s t i f is callers budget (k 1 σ) n (goes_to n (pc + 1)) σ at (act.Branch x (pc + 1) (pc + 3)) h (here n pc _ e code.0) refl (ap (λ z. goes_to n (branch_to z (pc + 1) (pc + 3))) holds ∙ ap (λ c. goes_to n (cond c (pc + 3) (pc + 1))) is_c)
          (one_comes at r x A pc m (goes_to n (pc + 1)) σ k b code kind_at le refl (shows_at p s t i f is callers budget n σ (pc + 1) h) keeps later (λ o a. go o 1 a))

  pub both_follows : (a b : Exp) (at : Position) → ExpFollows a → ExpFollows b → ExpFollows (both a b at)
  both_follows a b at follows_a follows_b r pc m σ k code ks le e h go =
      let second = pc + exp_size a + 1 in
      let tested = second + exp_size b in
      let x_a = held first a (r + 1) in
      let x_b = held first b (r + 1 + width a) in
      let A : ℕ → Bool = λ q. assigns q a || assigns q b in
      let end : tested + 4 ≡ pc + (exp_size a + (1 + (exp_size b + 4))) = omega arith in
      let code_b = (following a (r + 1) pc _ code).1 in
      let code_t = following b (r + 1 + width a) second (truth_code at r x_b tested) code_b in
      follows_a (r + 1) pc m σ _ (ahead a (r + 1) pc _ code) (kinds_ahead (r + 1) (exp_kinds a) (exp_kinds b) ks.1) (omega (arith, le)) e h (λ n v σ' x.
      by_branch p s t i f is callers budget n σ' at x_a second (tested + 3) v _ _ σ' k x.shows (here n (pc + exp_size a) _ x.place (following a (r + 1) pc _ code).0) x.value
      (λ some.
      follows_b (r + 1 + width a) second (goes_to n second) σ' _ (ahead b (r + 1 + width a) second _ code_b) (kinds_past (r + 1) (exp_kinds a) (exp_kinds b) ks.1) (omega (arith, le)) refl (shows_at p s t i f is callers budget n σ' second x.shows) (λ o w σ'' y.
      truth_comes at r x_b A tested w m o σ'' k false code_t ks.0 le y.place y.shows y.value
      (keeps_both m (goes_to n second) o r (r + 1) (r + 1 + width a) (Sets a) (Sets b) (omega arith) (omega arith) x.lower y.lower) (omega (arith, x.later, y.later)) (λ z v' a'. go z v' σ'' (subst (λ z'. Arrived m z σ'' r r v' A z') end a'))))
      (λ none.
      zero_comes at r x_b A tested m (goes_to n (tested + 3)) σ' k false code_t ks.0 le refl (shows_at p s t i f is callers budget n σ' (tested + 3) x.shows)
      (λ q l free. x.lower q (omega (arith, l)) (λ z. not_left (assigns q a) (assigns q b) (free z))) x.later (λ z a'. go z 0 σ' (subst (λ z'. Arrived m z σ' r r 0 A z') end a'))))

  pub either_follows : (a b : Exp) (at : Position) → ExpFollows a → ExpFollows b → ExpFollows (either a b at)
  either_follows a b at follows_a follows_b r pc m σ k code ks le e h go =
      let second = pc + exp_size a + 1 in
      let tested = second + exp_size b in
      let x_a = held first a (r + 1) in
      let x_b = held first b (r + 1 + width a) in
      let A : ℕ → Bool = λ q. assigns q a || assigns q b in
      let end : tested + 4 ≡ pc + (exp_size a + (1 + (exp_size b + 4))) = omega arith in
      let code_b = (following a (r + 1) pc _ code).1 in
      let code_t = following b (r + 1 + width a) second (truth_code at r x_b tested) code_b in
      follows_a (r + 1) pc m σ _ (ahead a (r + 1) pc _ code) (kinds_ahead (r + 1) (exp_kinds a) (exp_kinds b) ks.1) (omega (arith, le)) e h (λ n v σ' x.
      by_branch p s t i f is callers budget n σ' at x_a (tested + 1) second v _ _ σ' k x.shows (here n (pc + exp_size a) _ x.place (following a (r + 1) pc _ code).0) x.value
      (λ some.
      one_comes at r x_b A tested m (goes_to n (tested + 1)) σ' k false code_t ks.0 le refl (shows_at p s t i f is callers budget n σ' (tested + 1) x.shows)
      (λ q l free. x.lower q (omega (arith, l)) (λ z. not_left (assigns q a) (assigns q b) (free z))) x.later (λ z a'. go z 1 σ' (subst (λ z'. Arrived m z σ' r r 1 A z') end a')))
      (λ none.
      follows_b (r + 1 + width a) second (goes_to n second) σ' _ (ahead b (r + 1 + width a) second _ code_b) (kinds_past (r + 1) (exp_kinds a) (exp_kinds b) ks.1) (omega (arith, le)) refl (shows_at p s t i f is callers budget n σ' second x.shows) (λ o w σ'' y.
      truth_comes at r x_b A tested w m o σ'' k false code_t ks.0 le y.place y.shows y.value
      (keeps_both m (goes_to n second) o r (r + 1) (r + 1 + width a) (Sets a) (Sets b) (omega arith) (omega arith) x.lower y.lower) (omega (arith, x.later, y.later)) (λ z v' a'. go z v' σ'' (subst (λ z'. Arrived m z σ'' r r v' A z') end a')))))

  -- a value is copied from the register that has it
  copied : (at : Position) (r x : ℕ) (A : ℕ → Bool) (pc v : ℕ) (m n : Thread) (σ : State) (k : ℕ → State → Run) (b : Bool) → slice_get (body_code f) pc ≡ Some (instr at (act.Compute r (work.Copy x))) → slice_get kinds r ≡ Some b
      → base ≤ r → n.top.instr ≡ pc → Shown n σ → register n.top.registers x ≡ v → Kept m n r A → m.count ≤ n.count
      → ((o : Thread) → Arrived m o σ r r v A (pc + 1) → Follows (lowered p) s t (k v σ) o) → Follows (lowered p) s t (k v σ) n
  copied at r x A pc v m n σ k b code_here kind_at le e h holds keeps later go =
      by_compute p s t i f is callers budget n σ at r (work.Copy x) (Ok v) k h (here n pc _ e code_here) (ap Ok holds)
      (λ w same_v. let is_v : w ≡ v = cc in subst (λ z. Follows (lowered p) s t (k z σ) (sets n r z)) (sym is_v)
      (go (sets n r v) (puts p s t i f is callers budget m n σ r v A (pc + 1) le (within r b kind_at) h keeps later (ap (λ z. z + 1) e))))

  -- what the whole keeps of its condition and of one of its values
  keeps_first : (m n o : Thread) (r x y : ℕ) (A B C : ℕ → Bool) → r ≤ x → r ≤ y → Kept m n x A → Kept n o y B → Kept m o r (λ q. A q || (B q || C q))
  keeps_first m n o r x y A B C le le' k l q lt free =
      keeps_both m n o r x y A B le le' k l q lt (λ z. both_false (A q) (B q) (not_left (A q) (B q || C q) (free z)) (not_left (B q) (C q) (not_right (A q) (B q || C q) (free z))))
    where
      both_false : (a b : Bool) → a ≡ false → b ≡ false → (a || b) ≡ false
      both_false a b e e' = ap (λ c. c || b) e ∙ e'

  keeps_second : (m n o : Thread) (r x y : ℕ) (A B C : ℕ → Bool) → r ≤ x → r ≤ y → Kept m n x A → Kept n o y C → Kept m o r (λ q. A q || (B q || C q))
  keeps_second m n o r x y A B C le le' k l q lt free =
      keeps_both m n o r x y A C le le' k l q lt (λ z. both_false (A q) (C q) (not_left (A q) (B q || C q) (free z)) (not_right (B q) (C q) (not_right (A q) (B q || C q) (free z))))
    where
      both_false : (a b : Bool) → a ≡ false → b ≡ false → (a || b) ≡ false
      both_false a b e e' = ap (λ c. c || b) e ∙ e'

  pub conditional_follows : (a b c : Exp) (at : Position) → ExpFollows a → ExpFollows b → ExpFollows c → ExpFollows (conditional a b c at)
  conditional_follows a b c at follows_a follows_b follows_c r pc m σ k code ks le e h go =
      let yes' = pc + exp_size a + 1 in
      let no' = yes' + exp_size b + 2 in
      let x_b = r + 1 + width a in
      let x_c = r + 1 + width a + width b in
      let A : ℕ → Bool = λ q. assigns q a || (assigns q b || assigns q c) in
      let last = no' + exp_size c + 1 in
      let end : last ≡ pc + (exp_size a + (1 + (exp_size b + (1 + (1 + (exp_size c + 1)))))) = omega arith in
      let code_a = following a (r + 1) pc _ code in
      let code_y = following b x_b yes' _ code_a.1 in
      let code_n = has_at (body_code f) (yes' + exp_size b + 1 + 1) no' _ (omega arith) code_y.1.1 in
      let code_c = following c x_c no' _ code_n in
      let kinds_bc = kinds_past (r + 1) (exp_kinds a) (exp_kinds b ++ exp_kinds c) ks.1 in
      let kinds_b = kinds_ahead x_b (exp_kinds b) (exp_kinds c) kinds_bc in
      let kinds_c = kinds_past x_b (exp_kinds b) (exp_kinds c) kinds_bc in
      follows_a (r + 1) pc m σ _ (ahead a (r + 1) pc _ code) (kinds_ahead (r + 1) (exp_kinds a) (exp_kinds b ++ exp_kinds c) ks.1) (omega (arith, le)) e h (λ n v σ' x.
      by_branch p s t i f is callers budget n σ' at (held first a (r + 1)) yes' no' v _ _ σ' k x.shows (here n (pc + exp_size a) _ x.place code_a.0) x.value
      (λ some.
      follows_b x_b yes' (goes_to n yes') σ' _ (ahead b x_b yes' _ code_a.1) kinds_b (omega (arith, le)) refl (shows_at p s t i f is callers budget n σ' yes' x.shows) (λ o w σ'' y.
      copied at r (held first b x_b) A (yes' + exp_size b) w m o σ'' k (meaning.is_pointer b) code_y.0 ks.0 le y.place y.shows y.value
      (keeps_first m (goes_to n yes') o r (r + 1) x_b (Sets a) (Sets b) (Sets c) (omega arith) (omega arith) x.lower y.lower) (omega (arith, x.later, y.later)) (λ z a'.
      by_jump p s t i f is callers budget (k w σ'') z σ'' at last a'.shows (here z (yes' + exp_size b + 1) _ a'.place code_y.1.0)
      (go (goes_to z last) w σ'' (subst (λ z'. Arrived m (goes_to z last) σ'' r r w A z') end (arrives_jump m z σ'' r w A (yes' + exp_size b + 1) last a'))))))
      (λ none.
      follows_c x_c no' (goes_to n no') σ' _ (ahead c x_c no' _ code_n) kinds_c (omega (arith, le)) refl (shows_at p s t i f is callers budget n σ' no' x.shows) (λ o w σ'' y.
      copied at r (held first c x_c) A (no' + exp_size c) w m o σ'' k (meaning.is_pointer b) code_c.0 ks.0 le y.place y.shows y.value
      (keeps_second m (goes_to n no') o r (r + 1) x_c (Sets a) (Sets b) (Sets c) (omega arith) (omega arith) x.lower y.lower) (omega (arith, x.later, y.later)) (λ z a'.
      go z w σ'' (subst (λ z'. Arrived m z σ'' r r w A z') end a')))))

  -- ---- changes

  -- what a change computes
  change_gives : (c : Change) (v w x y : ℕ) (regs : List ℕ) → register regs x ≡ v → register regs y ≡ w → is_pointer kinds x ≡ meaning.is_pointer_change c → work_of s.slots p.sites kinds regs (change_work c x y) ≡ changed p s t c v w
  change_gives (change.Compute o) v w x y regs is_v is_w kind =
      ap (λ b. either_binary_of b p.sites o (register regs x) (register regs y)) kind ∙ ap (λ z. binary_of o z (register regs y)) is_v ∙ ap (binary_of o v) is_w
  change_gives (change.Move element back) v w x y regs is_v is_w kind =
      ap (λ z. moved_by p.sites z (directed back (number (register regs y)) *ℤ pos element)) is_v ∙ ap (λ z. moved_by p.sites v (directed back (number z) *ℤ pos element)) is_w

  -- the word before or the word after
  old_or_new : (old : Bool) (regs : List ℕ) (x y v w : ℕ) → register regs x ≡ v → register regs y ≡ w → register regs (if old then x else y) ≡ (if old then v else w)
  old_or_new true regs x y v w is_v is_w = is_v
  old_or_new false regs x y v w is_v is_w = is_w

  -- a register of a value isn't a named one
  unnamed : (q : ℕ) {b : Bool} → first ≤ q → q < first → b ≡ false
  unnamed q le lt = absurd (omega (arith, le, lt))

  pub change_register_follows : (n : ℕ) (c : Change) (b : Exp) (old : Bool) (at : Position) → n < first → ExpFollows b → ExpFollows (change_register n c b old at)
  change_register_follows n c b old at lt follows r pc m σ k code ks le e h go =
      let in_r = within r (meaning.is_pointer_change c) ks.0 in
      let in_1 = within (r + 1) (meaning.is_pointer_change c) ks.1.0 in
      let two : r + 1 + 1 ≡ r + 2 = omega arith in
      let three : r + 1 + 1 + 1 ≡ r + 3 = omega arith in
      let kind_2 = ap (slice_get kinds) (sym two) ∙ ks.1.1.0 in
      let in_2 = within (r + 2) (meaning.is_pointer_change c) kind_2 in
      let kinds_b = has_at kinds (r + 1 + 1 + 1) (r + 3) (exp_kinds b) three ks.1.1.1 in
      let by' = held first b (r + 3) in
      let A : ℕ → Bool = λ q. n == q || assigns q b in
      let code_b = code.1 in
      let code' = following b (r + 3) (pc + 1) _ code_b in
      let v = σ.registers n in
      let m1 = sets m (r + 1) v in
      by_quiet p s t i f is callers budget _ m m1 σ at (act.Compute (r + 1) (work.Copy n)) h (here m pc _ e code.0) refl (ap (sets m (r + 1)) (h.registers n lt))
      (follows (r + 3) (pc + 1) m1 σ _ (ahead b (r + 3) (pc + 1) _ code_b) kinds_b (omega (arith, le)) (ap (λ z. z + 1) e) (shows_set p s t i f is callers budget m σ (r + 1) v (omega (arith, le)) h) (λ o w σ' x.
      let is_v = x.lower (r + 1) (omega arith) (unnamed (r + 1) (omega (arith, le))) ∙ same_register m.top.registers (r + 1) v (omega (arith, h.size, in_1)) in
      by_compute p s t i f is callers budget o σ' at (r + 2) (change_work c (r + 1) by') (changed p s t c v w) _ x.shows (here o (pc + 1 + exp_size b) _ x.place code'.0)
      (change_gives c v w (r + 1) by' o.top.registers is_v x.value (is_kind kinds (r + 1) (meaning.is_pointer_change c) ks.1.0)) (λ new made.
      let o1 = sets o (r + 2) new in
      let shows1 = shows_set p s t i f is callers budget o σ' (r + 2) new (omega (arith, le)) x.shows in
      let holds_new = same_register o.top.registers (r + 2) new (omega (arith, x.shows.size, in_2)) in
      let o2 = sets o1 n new in
      let written = record σ' { registers = with_value σ'.registers n new } in
      let shows2 = shows_written p s t i f is callers budget o1 σ' n new lt (omega (arith, le, in_r)) shows1 in
      by_quiet p s t i f is callers budget _ o1 o2 σ' at (act.Compute n (work.Copy (r + 2))) shows1 (here o1 (pc + 1 + exp_size b + 1) _ (ap (λ z. z + 1) x.place) code'.1.0) refl (ap (sets o1 n) holds_new)
      (copied at r (if old then r + 1 else r + 2) A (pc + 1 + exp_size b + 1 + 1) (if old then v else new) m o2 written k (meaning.is_pointer_change c) code'.1.1.0 ks.0 le (ap (λ z. z + 1 + 1) x.place) shows2
      (old_or_new old o2.top.registers (r + 1) (r + 2) v new
      (other_register o1.top.registers n new (r + 1) (λ z. omega (arith, lt, le)) ∙ other_register o.top.registers (r + 2) new (r + 1) (λ z. omega arith) ∙ is_v)
      (other_register o1.top.registers n new (r + 2) (λ z. omega (arith, lt, le)) ∙ holds_new))
      (λ q l free.
      other_register o1.top.registers n new q (apart n q (assigns q b) lt free) ∙ other_register o.top.registers (r + 2) new q (λ z. omega (arith, l))
      ∙ x.lower q (omega (arith, l)) (λ z. not_right (n == q) (assigns q b) (free z)) ∙ other_register m.top.registers (r + 1) v q (λ z. omega (arith, l)))
      x.later (λ z a'. go z (if old then v else new) written (subst (λ z'. Arrived m z written r r (if old then v else new) A z') (omega arith) a'))))))

  pub change_cell_follows : (a : Exp) (loaded : Position) (c : Change) (b : Exp) (old : Bool) (at : Position) → ExpFollows a → ExpFollows b → IsThere a → loses a (Sets b) ≡ false → ExpFollows (change_cell a loaded c b old at)
  change_cell_follows a loaded c b old at follows_a follows_b there calm r pc m σ k code ks le e h go =
      let kind = meaning.is_pointer_change c in
      let two : r + 1 + 1 ≡ r + 2 = omega arith in
      let three : r + 1 + 1 + 1 ≡ r + 3 = omega arith in
      let in_r = within r kind ks.0 in
      let in_1 = within (r + 1) kind ks.1.0 in
      let kind_2 = ap (slice_get kinds) (sym two) ∙ ks.1.1.0 in
      let in_2 = within (r + 2) kind kind_2 in
      let kinds_ab = has_at kinds (r + 1 + 1 + 1) (r + 3) (exp_kinds a ++ exp_kinds b) three ks.1.1.1 in
      let x_a = held first a (r + 3) in
      let x_b = held first b (r + 3 + width a) in
      let A : ℕ → Bool = λ q. assigns q a || assigns q b in
      let code_l = following a (r + 3) pc _ code in
      let code' = following b (r + 3 + width a) (pc + exp_size a + 1) _ code_l.1 in
      follows_a (r + 3) pc m σ _ (ahead a (r + 3) pc _ code) (kinds_ahead (r + 3) (exp_kinds a) (exp_kinds b) kinds_ab) (omega (arith, le)) e h (λ n pointer σ' x.
      by_load p s t i f is callers budget n σ' loaded (r + 1) x_a pointer (access_kind kind) _ x.shows (here n (pc + exp_size a) _ x.place code_l.0) x.value (ap access_kind (is_kind kinds (r + 1) kind ks.1.0)) (λ low v.
      let n1 = one_more (sets n (r + 1) v) in
      let shows1 = shows_counted p s t i f is callers budget (sets n (r + 1) v) σ' low (shows_set p s t i f is callers budget n σ' (r + 1) v (omega (arith, le)) x.shows) in
      follows_b (r + 3 + width a) (pc + exp_size a + 1) n1 (counted σ') _ (ahead b (r + 3 + width a) (pc + exp_size a + 1) _ code_l.1) (kinds_past (r + 3) (exp_kinds a) (exp_kinds b) kinds_ab) (omega (arith, le)) (ap (λ z. z + 1) x.place) shows1 (λ o w σ'' y.
      let is_v = y.lower (r + 1) (omega arith) (unnamed (r + 1) (omega (arith, le))) ∙ same_register n.top.registers (r + 1) v (omega (arith, x.shows.size, in_1)) in
      let apart_a = held_apart a (r + 3) (r + 1) there (omega (arith, le)) (omega arith) in
      let apart_2 = held_apart a (r + 3) (r + 2) there (omega (arith, le)) (omega arith) in
      let is_pointer' = held_stays a (r + 3) n1 o (Sets b) there calm (omega (arith, le)) y.lower ∙ other_register n.top.registers (r + 1) v x_a apart_a ∙ x.value in
      by_compute p s t i f is callers budget o σ'' at (r + 2) (change_work c (r + 1) x_b) (changed p s t c v w) _ y.shows (here o (pc + exp_size a + 1 + exp_size b) _ y.place code'.0)
      (change_gives c v w (r + 1) x_b o.top.registers is_v y.value (is_kind kinds (r + 1) kind ks.1.0)) (λ new made.
      let o1 = sets o (r + 2) new in
      let shows2 = shows_set p s t i f is callers budget o σ'' (r + 2) new (omega (arith, le)) y.shows in
      let holds_new = same_register o.top.registers (r + 2) new (omega (arith, y.shows.size, in_2)) in
      by_store p s t i f is callers budget o1 σ'' at x_a (r + 2) pointer new (access_kind kind) _ shows2 (here o1 (pc + exp_size a + 1 + exp_size b + 1) _ (ap (λ z. z + 1) y.place) code'.1.0)
      (other_register o.top.registers (r + 2) new x_a apart_2 ∙ is_pointer') holds_new (ap access_kind (is_kind kinds (r + 2) kind kind_2)) (λ low'.
      let o2 = one_more (in_frame o1 (past o1.top)) in
      let shows3 = shows_counted p s t i f is callers budget (in_frame o1 (past o1.top)) σ'' low' (shows_past p s t i f is callers budget o1 σ'' shows2) in
      copied at r (if old then r + 1 else r + 2) A (pc + exp_size a + 1 + exp_size b + 1 + 1) (if old then v else new) m o2 (counted σ'') k kind code'.1.1.0 ks.0 le (ap (λ z. z + 1 + 1) y.place) shows3
      (old_or_new old o2.top.registers (r + 1) (r + 2) v new (other_register o.top.registers (r + 2) new (r + 1) (λ z. omega arith) ∙ is_v) holds_new)
      (λ q l free.
      other_register o.top.registers (r + 2) new q (λ z. omega (arith, l)) ∙ y.lower q (omega (arith, l)) (λ z. not_right (assigns q a) (assigns q b) (free z))
      ∙ other_register n.top.registers (r + 1) v q (λ z. omega (arith, l)) ∙ x.lower q (omega (arith, l)) (λ z. not_left (assigns q a) (assigns q b) (free z)))
      (omega (arith, x.later, y.later)) (λ z a'. go z (if old then v else new) (counted σ'') (subst (λ z'. Arrived m z (counted σ'') r r (if old then v else new) A z') (omega arith) a')))))))
