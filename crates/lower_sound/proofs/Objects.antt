-- The objects that a function has from its entry on.
use Rattle.std.proofs.Common.{◌≡◌, ℕ, zero, suc, ◌+◌, ◌≤◌, ◌<◌, Bool, true, false, if◌then◌else◌, cond, nat_le, pos, List, [], ◌∷◌, ◌++◌, length, Option, Some, None, option_map, slice_set, refl, sym, ◌∙◌, ap, subst, append_assoc, arith}
use Rattle.std.proofs.lemmas.List.{length-set}
use Rattle.rr_base.specs.declared.layout.Site.{Site}
use Rattle.flow_code.specs.declared.act.Act.TheVariants as act
use Rattle.flow_code.specs.declared.act.Instr.{Instr}
use Rattle.word_semantics.specs.declared.library_call.LibraryCall.{LibraryCall}
use Rattle.flow_code.specs.declared.work.Work.TheVariants as work
use Rattle.word_semantics.specs.Pointers.{pointer_at}
use Rattle.word_semantics.specs.Registers.{register}
use Rattle.flow_code.specs.Threads.{Object, object, object_of, and_objects, objects_of, fitted, placed, with_arguments}
use Rattle.word_semantics.specs.Cells.{size_of}
use Rattle.rr_base.specs.declared.position.Position.{Position}
use Rattle.core_tree.specs.Core as core
use Rattle.core_tree.specs.Core.{Exp, null, load, unary, binary, move, advance, member, between, to_pointer, to_number, copy, both, either, conditional, comma, set_register, store, change_register, change_cell, call, library, allocate, Exps, no_exp, and_exp, Statement, block, compute, branch, branch_else, while_loop, do_loop, for_loop, break_at, continue_at, gives, Statements, no_statement, and_statement, Arrival, arrives}
use Rattle.core_tree.specs.Meaning.{made_objects, with_first, listed_word}
use Rattle.flow_lower.specs.Lowered.{instr, one, computes, gives_nothing, library_code, width, exp_size, exp_code, exps_code, value_registers, statement_kinds, statement_size, statement_code, statements_code, objects_code, arrivals_code}
use Rattle.lower_sound.proofs.Machine.{same_register, other_register}

-- ---- code that doesn't begin with an object

abbrev pub Begins : List Instr → Type 0
Begins [] = Unit {0}
Begins (i ∷ is) = object_of i.act ≡ None

begins_append : (xs ys : List Instr) → Begins xs → Begins ys → Begins (xs ++ ys)
begins_append [] ys h k = k
begins_append (x ∷ xs) ys h k = h

no_objects : (xs : List Instr) → Begins xs → objects_of xs ≡ []
no_objects [] h = refl
no_objects (x ∷ xs) h = ap (λ o. and_objects o (objects_of xs)) h

library_begins : (at : Position) (r : ℕ) (c : LibraryCall) (args : List ℕ) → Begins (library_code at r c args)
library_begins at r c args = by (gives_nothing c)
  where
    by : (b : Bool) → Begins (if b then instr at (act.Library c args None) ∷ computes at r (work.Constant (pos 0)) else one at (act.Library c args (Some r)))
    by true = refl
    by false = refl

mutual
  exp_begins : (first : ℕ) (e : Exp) (r pc : ℕ) → Begins (exp_code first e r pc)
  exp_begins first (core.number z at) r pc = refl
  exp_begins first (null at) r pc = refl
  exp_begins first (core.register n pointer at) r pc = tt
  exp_begins first (core.object n at) r pc = tt
  exp_begins first (core.global address at) r pc = refl
  exp_begins first (load a pointer at) r pc = begins_append (exp_code first a (r + 1) pc) _ (exp_begins first a (r + 1) pc) refl
  exp_begins first (unary o a at) r pc = begins_append (exp_code first a (r + 1) pc) _ (exp_begins first a (r + 1) pc) refl
  exp_begins first (member a by at) r pc = begins_append (exp_code first a (r + 1) pc) _ (exp_begins first a (r + 1) pc) refl
  exp_begins first (to_pointer a at) r pc = begins_append (exp_code first a (r + 1) pc) _ (exp_begins first a (r + 1) pc) refl
  exp_begins first (to_number a at) r pc = begins_append (exp_code first a (r + 1) pc) _ (exp_begins first a (r + 1) pc) refl
  exp_begins first (copy a at) r pc = begins_append (exp_code first a (r + 1) pc) _ (exp_begins first a (r + 1) pc) refl
  exp_begins first (both a b at) r pc = begins_append (exp_code first a (r + 1) pc) _ (exp_begins first a (r + 1) pc) refl
  exp_begins first (either a b at) r pc = begins_append (exp_code first a (r + 1) pc) _ (exp_begins first a (r + 1) pc) refl
  exp_begins first (conditional a b c at) r pc = begins_append (exp_code first a (r + 1) pc) _ (exp_begins first a (r + 1) pc) refl
  exp_begins first (set_register n a at) r pc = begins_append (exp_code first a (r + 1) pc) _ (exp_begins first a (r + 1) pc) refl
  exp_begins first (allocate site a at) r pc = begins_append (exp_code first a (r + 1) pc) _ (exp_begins first a (r + 1) pc) refl
  exp_begins first (binary o a b at) r pc = begins_append (exp_code first a (r + 1) pc) _ (exp_begins first a (r + 1) pc) (begins_append (exp_code first b (r + 1 + width a) (pc + exp_size a)) _ (exp_begins first b (r + 1 + width a) (pc + exp_size a)) refl)
  exp_begins first (move a b element back at) r pc = begins_append (exp_code first a (r + 1) pc) _ (exp_begins first a (r + 1) pc) (begins_append (exp_code first b (r + 1 + width a) (pc + exp_size a)) _ (exp_begins first b (r + 1 + width a) (pc + exp_size a)) refl)
  exp_begins first (advance a b element at) r pc = begins_append (exp_code first a (r + 1) pc) _ (exp_begins first a (r + 1) pc) (begins_append (exp_code first b (r + 1 + width a) (pc + exp_size a)) _ (exp_begins first b (r + 1 + width a) (pc + exp_size a)) refl)
  exp_begins first (between a b element at) r pc = begins_append (exp_code first a (r + 1) pc) _ (exp_begins first a (r + 1) pc) (begins_append (exp_code first b (r + 1 + width a) (pc + exp_size a)) _ (exp_begins first b (r + 1 + width a) (pc + exp_size a)) refl)
  exp_begins first (comma a b at) r pc = begins_append (exp_code first a (r + 1) pc) _ (exp_begins first a (r + 1) pc) (begins_append (exp_code first b (r + 1 + width a) (pc + exp_size a)) _ (exp_begins first b (r + 1 + width a) (pc + exp_size a)) refl)
  exp_begins first (store a b at) r pc = begins_append (exp_code first a (r + 1) pc) _ (exp_begins first a (r + 1) pc) (begins_append (exp_code first b (r + 1 + width a) (pc + exp_size a)) _ (exp_begins first b (r + 1 + width a) (pc + exp_size a)) refl)
  exp_begins first (change_register n c b old at) r pc = refl
  exp_begins first (change_cell a loaded c b old at) r pc = begins_append (exp_code first a (r + 3) pc) _ (exp_begins first a (r + 3) pc) refl
  exp_begins first (call f es pointer at) r pc = exps_begin first es (r + 1) pc _ refl
  exp_begins first (library c es at) r pc = exps_begin first es (r + 1) pc _ (library_begins at r c (value_registers first (r + 1) es))

  exps_begin : (first : ℕ) (es : Exps) (r pc : ℕ) (rest : List Instr) → Begins rest → Begins (exps_code first es r pc ++ rest)
  exps_begin first no_exp r pc rest h = h
  exps_begin first (and_exp e es) r pc rest h =
      subst Begins (sym (append_assoc (exp_code first e r pc) (exps_code first es (r + width e) (pc + exp_size e)) rest)) (begins_append (exp_code first e r pc) _ (exp_begins first e r pc) (exps_begin first es (r + width e) (pc + exp_size e) rest h))

mutual
  pub statement_begins : (first : ℕ) (a : Statement) (r pc out on : ℕ) (rest : List Instr) → Begins rest → Begins (statement_code first a r pc out on ++ rest)
  statement_begins first (block ss) r pc out on rest h = statements_begin first ss r pc out on rest h
  statement_begins first (compute e) r pc out on rest h = begins_append (exp_code first e r pc) rest (exp_begins first e r pc) h
  statement_begins first (branch e a at) r pc out on rest h = begins_append (statement_code first (branch e a at) r pc out on) rest (begins_append (exp_code first e r pc) _ (exp_begins first e r pc) refl) h
  statement_begins first (branch_else e a b at) r pc out on rest h = begins_append (statement_code first (branch_else e a b at) r pc out on) rest (begins_append (exp_code first e r pc) _ (exp_begins first e r pc) refl) h
  statement_begins first (while_loop e a at) r pc out on rest h = refl
  statement_begins first (do_loop a e at) r pc out on rest h = refl
  statement_begins first (for_loop start test step a at) r pc out on rest h =
      subst Begins (sym (append_assoc (statement_code first start r pc out on) _ rest)) (statement_begins first start r pc out on _ refl)
  statement_begins first (break_at at) r pc out on rest h = refl
  statement_begins first (continue_at at) r pc out on rest h = refl
  statement_begins first (gives None at) r pc out on rest h = refl
  statement_begins first (gives (Some e) at) r pc out on rest h = begins_append (statement_code first (gives (Some e) at) r pc out on) rest (begins_append (exp_code first e r pc) _ (exp_begins first e r pc) refl) h

  statements_begin : (first : ℕ) (ss : Statements) (r pc out on : ℕ) (rest : List Instr) → Begins rest → Begins (statements_code first ss r pc out on ++ rest)
  statements_begin first no_statement r pc out on rest h = h
  statements_begin first (and_statement a ss) r pc out on rest h =
      subst Begins (sym (append_assoc (statement_code first a r pc out on) _ rest)) (statement_begins first a r pc out on _ (statements_begin first ss (r + length (statement_kinds a)) (pc + statement_size a) out on rest h))

pub arrivals_begin : (first : ℕ) (arrivals : List Arrival) (rest : List Instr) → Begins rest → Begins (arrivals_code first arrivals ++ rest)
arrivals_begin first [] rest h = h
arrivals_begin first (arrives n k at ∷ more) rest h = refl

-- ---- the objects of a function's code

abbrev pub objects_from : ℕ → List ℕ → List Object
objects_from r [] = []
objects_from r (site ∷ more) = object r site ∷ objects_from (r + 1) more

pub objects_are : (at : Position) (r : ℕ) (sites : List ℕ) (rest : List Instr) → Begins rest → objects_of (objects_code at r sites ++ rest) ≡ objects_from r sites
objects_are at r [] rest h = no_objects rest h
objects_are at r (site ∷ more) rest h = ap (λ os. object r site ∷ os) (objects_are at (r + 1) more rest h)

pub count_of_objects : (r : ℕ) (sites : List ℕ) → length (objects_from r sites) ≡ length sites
count_of_objects r [] = refl
count_of_objects r (site ∷ more) = ap suc (count_of_objects (r + 1) more)

-- ---- whether they fit, and their addresses

second_of : (w : ℕ) (o : Option (List ℕ × ℕ)) → option_map (λ m. m.1) (with_first w o) ≡ option_map (λ m. m.1) o
second_of w None = refl
second_of w (Some made) = refl

pub fitted_same : (sites : List Site) (end r : ℕ) (of : List ℕ) (at : ℕ) → fitted sites end (objects_from r of) at ≡ option_map (λ m. m.1) (made_objects sites end of at)
fitted_same sites end r [] at = refl
fitted_same sites end r (site ∷ more) at = by (nat_le (at + size_of sites site) end) (fitted_same sites end (r + 1) more (at + size_of sites site))
  where
    by : (b : Bool) → fitted sites end (objects_from (r + 1) more) (at + size_of sites site) ≡ option_map (λ m. m.1) (made_objects sites end more (at + size_of sites site))
        → cond b (fitted sites end (objects_from (r + 1) more) (at + size_of sites site)) None ≡ option_map (λ m. m.1) (cond b (with_first (pointer_at site at (size_of sites site)) (made_objects sites end more (at + size_of sites site))) None)
    by true same = same ∙ sym (second_of (pointer_at site at (size_of sites site)) (made_objects sites end more (at + size_of sites site)))
    by false same = refl

pub placed_length : (sites : List Site) (os : List Object) (at : ℕ) (regs : List ℕ) → length (placed sites os at regs) ≡ length regs
placed_length sites [] at regs = refl
placed_length sites (object into site ∷ os) at regs = placed_length sites os (at + size_of sites site) (slice_set regs into (pointer_at site at (size_of sites site))) ∙ length-set regs into (pointer_at site at (size_of sites site))

-- a register below those of the objects
pub placed_below : (sites : List Site) (of : List ℕ) (r at q : ℕ) (regs : List ℕ) → q < r → register (placed sites (objects_from r of) at regs) q ≡ register regs q
placed_below sites [] r at q regs lt = refl
placed_below sites (site ∷ more) r at q regs lt = placed_below sites more (r + 1) (at + size_of sites site) q _ (omega (arith, lt)) ∙ other_register regs r (pointer_at site at (size_of sites site)) q (λ e. omega (arith, lt))

-- the addresses of the objects, one after another
abbrev pub addresses_of : List Site → List ℕ → ℕ → List ℕ
addresses_of sites [] at = []
addresses_of sites (site ∷ more) at = pointer_at site at (size_of sites site) ∷ addresses_of sites more (at + size_of sites site)

pub made_addresses : (sites : List Site) (end : ℕ) (of : List ℕ) (at : ℕ) (made : List ℕ × ℕ) → made_objects sites end of at ≡ Some made → made.0 ≡ addresses_of sites of at
made_addresses sites end [] at made e = by e
  where
    by : Some ([], at) ≡ Some made → made.0 ≡ []
    by e = cc
made_addresses sites end (site ∷ more) at made e = by (nat_le (at + size_of sites site) end) (λ rest d. made_addresses sites end more (at + size_of sites site) rest d) e
  where
    with : (o : Option (List ℕ × ℕ)) → ((rest : List ℕ × ℕ) → o ≡ Some rest → rest.0 ≡ addresses_of sites more (at + size_of sites site)) → with_first (pointer_at site at (size_of sites site)) o ≡ Some made → made.0 ≡ addresses_of sites (site ∷ more) at
    with None same e = absurd cc
    with (Some rest) same e =
        let first : made ≡ (pointer_at site at (size_of sites site) ∷ rest.0, rest.1) = cc in
        ap (λ m. m.0) first ∙ ap (λ l. pointer_at site at (size_of sites site) ∷ l) (same rest refl)

    by : (b : Bool) → ((rest : List ℕ × ℕ) → made_objects sites end more (at + size_of sites site) ≡ Some rest → rest.0 ≡ addresses_of sites more (at + size_of sites site))
        → cond b (with_first (pointer_at site at (size_of sites site)) (made_objects sites end more (at + size_of sites site))) None ≡ Some made → made.0 ≡ addresses_of sites (site ∷ more) at
    by true same e = with (made_objects sites end more (at + size_of sites site)) same e
    by false same e = absurd cc

-- each object's register holds its address
pub placed_at : (sites : List Site) (of : List ℕ) (r at k : ℕ) (regs : List ℕ) → k < length of → r + length of ≤ length regs → register (placed sites (objects_from r of) at regs) (r + k) ≡ listed_word (addresses_of sites of at) k
placed_at sites [] r at k regs lt le = absurd (omega (arith, lt))
placed_at sites (site ∷ more) r at zero regs lt le =
    let here : r + 0 ≡ r = omega arith in
    ap (register (placed sites (objects_from r (site ∷ more)) at regs)) here
    ∙ placed_below sites more (r + 1) (at + size_of sites site) r (slice_set regs r (pointer_at site at (size_of sites site))) (omega arith)
    ∙ same_register regs r (pointer_at site at (size_of sites site)) (omega (arith, le))
placed_at sites (site ∷ more) r at (suc k) regs lt le =
    let next : r + suc k ≡ r + 1 + k = omega arith in
    ap (register (placed sites (objects_from r (site ∷ more)) at regs)) next
    ∙ placed_at sites more (r + 1) (at + size_of sites site) k (slice_set regs r (pointer_at site at (size_of sites site))) (omega (arith, lt)) (omega (arith, le, length-set regs r (pointer_at site at (size_of sites site))))

-- ---- arguments

pub arguments_length : (n : ℕ) (ws : List ℕ) → length (with_arguments n ws) ≡ n
arguments_length zero ws = refl
arguments_length (suc n) [] = ap suc (arguments_length n [])
arguments_length (suc n) (w ∷ ws) = ap suc (arguments_length n ws)

pub arguments_are : (n : ℕ) (ws : List ℕ) (q : ℕ) → q < n → register (with_arguments n ws) q ≡ listed_word ws q
arguments_are zero ws q lt = absurd (omega (arith, lt))
arguments_are (suc n) [] zero lt = refl
arguments_are (suc n) [] (suc q) lt = arguments_are n [] q (omega (arith, lt))
arguments_are (suc n) (w ∷ ws) zero lt = refl
arguments_are (suc n) (w ∷ ws) (suc q) lt = arguments_are n ws q (omega (arith, lt))
