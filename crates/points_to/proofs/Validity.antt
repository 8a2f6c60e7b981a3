-- All that the constraints of a valid code speak of is there.
use Rattle.std.proofs.Common.{◌≡◌, ℕ, zero, suc, ◌+◌, ◌%◌, ◌^◌, ◌<◌, ◌≤◌, ◌++◌, Bool, true, false, List, [], ◌∷◌, length, take, drop, refl, sym, ap, add-one, ◌∙◌, subst, arith, ℤ, Option, Some, None}
use Rattle.std.specs.Prelude.{slice_get, nat_lt, nat_le, ◌&&◌, ◌==◌, not, if◌then◌else◌}
use Rattle.std.specs.List.{Contains, list_all}
use Rattle.std.proofs.lemmas.Option.{slice_get_within, same_Some}
use Rattle.rr_base.specs.Words.{site_of, class_of}
use Rattle.rr_base.specs.declared.layout.CellKind.{CellKind}
use Rattle.rr_base.specs.declared.layout.Site.{Site}
use Rattle.flow_code.specs.declared.act.Act.{Act}
use Rattle.flow_code.specs.declared.act.Act.TheVariants as act
use Rattle.flow_code.specs.declared.act.Instr.{Instr}
use Rattle.word_semantics.specs.declared.library_call.LibraryCall.{LibraryCall}
use Rattle.word_semantics.specs.declared.library_call.LibraryCall.TheVariants as call
use Rattle.flow_code.specs.declared.code.Code.{Code}
use Rattle.flow_code.specs.declared.code.Function.{Function}
use Rattle.flow_code.specs.declared.work.Work.{Work}
use Rattle.flow_code.specs.declared.work.Work.TheVariants as work
use Rattle.flow_code.specs.Works.{is_pointer}
use Rattle.flow_code.specs.Threads.{is_main_in}
use Rattle.word_semantics.specs.Pointers.{base_at}
use Rattle.flow_code.specs.Kinds.{has_register, has_pointer, has_whole, has_kind, have_kinds, formal_kinds, is_site, work_fits, value_fits, call_fits, may_start, starts_fit, library_value_fits, act_fits}
use Rattle.word_semantics.specs.Kinds.{library_kinds}
use Rattle.flow_code.specs.Addresses.{address_at, is_address, word_fits, words_fit, globals_fit}
use Rattle.flow_code.specs.Order.{order_fits}
use Rattle.flow_code.specs.Valid.{registers_fit, acts_fit, loops_fit, regions_fit, function_fits, functions_fit, all_locks_fit, has_one_main, most_locks, is_within_limits, is_valid}
use Rattle.flow_code.proofs.Objects.{words_do_fit, address_site}
use Rattle.word_semantics.specs.Layouts.{layout_fits, sites_fit}
use Rattle.facts.specs.Blocks.{constant_at}
use Rattle.facts.specs.declared.constraint.Node.{Node}
use Rattle.facts.specs.declared.constraint.Node.TheVariants.{Register, Result, Ended}
use Rattle.facts.specs.declared.constraint.Constraint.{Constraint}
use Rattle.facts.specs.PointsTo.{place, element_in, element_of, classes_of, move_constraint, work_constraints, argument_constraints, result_constraints, library_constraints, return_constraints, act_constraints, instrs_constraints, functions_constraints, word_constraints, cells_constraints, object_constraints, sites_constraints, constraints_of}
use Rattle.points_to.specs.Nodes.{IsNode, IsPlace, IsWithin, AreThere}
use Rattle.points_to.proofs.Places.{registers_width, cells_node}

-- ---- tests and lists

both : (a b : Bool) → (a && b) ≡ true → (a ≡ true) × (b ≡ true)
both true b h = (refl, h)
both false b h = cc

abbrev Each : Code → List Constraint → Type 0
Each code [] = Unit {0}
Each code (c ∷ cs) = IsWithin code c × Each code cs

each_append : (code : Code) (xs ys : List Constraint) → Each code xs → Each code ys → Each code (xs ++ ys)
each_append code [] ys h k = k
each_append code (x ∷ xs) ys h k = (h.0, each_append code xs ys h.1 k)

each_in : (code : Code) (xs : List Constraint) (c : Constraint) → Each code xs → Contains xs c → IsWithin code c
each_in code [] c h (k, lt, e) = absurd (omega arith)
each_in code (x ∷ xs) c h (zero, lt, e) = subst (IsWithin code) e h.0
each_in code (x ∷ xs) c h (suc k, lt, e) = each_in code xs c h.1 (k, omega arith, e)

all_got : {X : Type 0} (p : X → Bool) (xs : List X) (k : ℕ) (x : X) → list_all p xs ≡ true → slice_get xs k ≡ Some x → p x ≡ true
all_got p [] k x h e = cc
all_got p (y ∷ ys) zero x h e = subst (λ z. p z ≡ true) (same_Some y x e) (both (p y) (list_all p ys) h).0
all_got p (y ∷ ys) (suc k) x h e = all_got p ys k x (both (p y) (list_all p ys) h).1 e

less : (a b : ℕ) → nat_lt a b ≡ true → a < b
less a b h = grind arith

at_most : (a b : ℕ) → nat_le a b ≡ true → a ≤ b
at_most a b h = grind arith

same : (a b : ℕ) → (a == b) ≡ true → a ≡ b
same a b h = grind arith

-- ---- sites

size_fits : (sites : List Site) → sites_fit sites ≡ true → (s : ℕ) → 1 ≤ element_of sites s
size_fits sites h zero = omega arith
size_fits sites h (suc k) = go (slice_get sites k) refl
  where
    go : (o : Option Site) → slice_get sites k ≡ o → 1 ≤ element_in o
    go None e = omega arith
    go (Some site) e =
        let l : layout_fits site.layout ≡ true = all_got (λ (s : Site). layout_fits s.layout) sites k site h e in
        at_most 1 site.layout.element (both (nat_le 1 site.layout.size && nat_le site.layout.size 65535 && (length site.layout.kinds == site.layout.size)) (nat_le 1 site.layout.element) (both (nat_le 1 site.layout.size && nat_le site.layout.size 65535 && (length site.layout.kinds == site.layout.size) && nat_le 1 site.layout.element) (site.layout.size % site.layout.element == 0) l).0).1

some_if : (b : Bool) (element : ℕ) → nat_lt 64 element ≡ b → 1 ≤ element → 0 < (if b then 1 else element)
some_if true element e le = omega arith
some_if false element e le = le

some_class : (element : ℕ) → 1 ≤ element → 0 < classes_of element
some_class element le = some_if (nat_lt 64 element) element refl le

in_if : (b : Bool) (element offset : ℕ) → nat_lt 64 element ≡ b → 1 ≤ element → (if b then 0 else offset % element) < (if b then 1 else element)
in_if true element offset e le = omega arith
in_if false element offset e le = grind arith

class_in : (element offset : ℕ) → 1 ≤ element → class_of element offset < classes_of element
class_in element offset le = in_if (nat_lt 64 element) element offset refl le

-- what is asked of a code's sites
abbrev Elements : Code → Type 0
Elements code = (s : ℕ) → 1 ≤ element_of code.sites s

site_place : (code : Code) → Elements code → (s : ℕ) → is_site code s ≡ true → IsPlace code.sites (place s 0)
site_place code some s h =
    let b = both (nat_le 1 s) (nat_le s (length code.sites)) h in
    (at_most 1 s b.0, at_most s (length code.sites) b.1, some_class (element_of code.sites s) (some s))

address_place : (code : Code) → Elements code → (w : ℕ) → is_address code w ≡ true → IsPlace code.sites (place (site_of w) 0)
address_place code some w h = site_place code some (site_of w) (address_site code w h)

-- ---- registers and results

node_of : (code : Code) (f : ℕ) (fn : Function) (r : ℕ) → slice_get code.functions f ≡ Some fn → r < fn.registers → IsNode code (Register f r)
node_of code f fn r at lt = (slice_get_within code.functions f fn at, omega (arith, lt, registers_width code f fn at))

kind_node : (code : Code) (f : ℕ) (fn : Function) (k : Bool) (r : ℕ) → slice_get code.functions f ≡ Some fn → has_kind fn k r ≡ true → IsNode code (Register f r)
kind_node code f fn true r at h = node_of code f fn r at (less r fn.registers (both (has_register fn r) (is_pointer fn.pointers r) h).0)
kind_node code f fn false r at h = node_of code f fn r at (less r fn.registers (both (has_register fn r) (not (is_pointer fn.pointers r)) h).0)

result_node : (code : Code) (g : ℕ) → g < length code.functions → IsNode code (Result g)
result_node code g lt = (lt, omega arith)

ended_node : (code : Code) → IsNode code Ended
ended_node code = (tt, omega arith)

-- ---- what instructions compute

move_within : (code : Code) (a b : Node) (o : Option ℤ) (element : ℕ) (back : Bool) → IsNode code a → IsNode code b → IsWithin code (move_constraint a b o element back)
move_within code a b None element back h k = (h, k)
move_within code a b (Some z) element back h k = (h, k)

work_within : (code : Code) → Elements code → (f : ℕ) (fn : Function) → slice_get code.functions f ≡ Some fn → (is : List Instr) (k into : ℕ) (w : Work) → work_fits code fn into w ≡ true → Each code (work_constraints f is k into w)
work_within code some f fn at is k into (work.Address w) h =
    let b = both (has_pointer fn into) (is_address code w) h in
    ((kind_node code f fn true into at b.0, address_place code some w b.1), tt)
work_within code some f fn at is k into (work.Copy r) h =
    let b = both (has_kind fn (is_pointer fn.pointers into) r) (has_register fn into) h in
    ((kind_node code f fn (is_pointer fn.pointers into) r at b.0, node_of code f fn into at (less into fn.registers b.1)), tt)
work_within code some f fn at is k into (work.Move pointer by element back) h =
    let b = both (has_pointer fn into && has_pointer fn pointer && has_whole fn by) (nat_le 1 element) h in
    let d = both (has_pointer fn into) (has_pointer fn pointer) (both (has_pointer fn into && has_pointer fn pointer) (has_whole fn by) b.0).0 in
    (move_within code (Register f pointer) (Register f into) (constant_at is k by) element back (kind_node code f fn true pointer at d.1) (kind_node code f fn true into at d.0), tt)
work_within code some f fn at is k into (work.Member pointer by) h =
    let b = both (has_pointer fn into) (has_pointer fn pointer) h in
    ((kind_node code f fn true pointer at b.1, kind_node code f fn true into at b.0), tt)
work_within code some f fn at is k into _ h = tt

-- ---- calls

-- the formals of each function are registers
abbrev Formals : Code → Type 0
Formals code = (g : ℕ) (gn : Function) → slice_get code.functions g ≡ Some gn → gn.formals ≤ gn.registers

arguments_within : (code : Code) (f : ℕ) (fn : Function) → slice_get code.functions f ≡ Some fn → (g : ℕ) (gn : Function) → slice_get code.functions g ≡ Some gn → (rs : List ℕ) (ks : List Bool) (i : ℕ) → have_kinds fn rs ks ≡ true → i + length ks ≤ gn.registers → Each code (argument_constraints f rs g i)
arguments_within code f fn at g gn gat [] ks i h le = tt
arguments_within code f fn at g gn gat (r ∷ rs) [] i h le = cc
arguments_within code f fn at g gn gat (r ∷ rs) (k ∷ ks) i h le =
    let b = both (has_kind fn k r) (have_kinds fn rs ks) h in
    ((kind_node code f fn k r at b.0, node_of code g gn i gat (omega arith)), arguments_within code f fn at g gn gat rs ks (i + 1) b.1 (omega arith))

result_within : (code : Code) (f : ℕ) (fn : Function) → slice_get code.functions f ≡ Some fn → (g : ℕ) → g < length code.functions → (into : Option ℕ) (k : Bool) → value_fits fn into k ≡ true → Each code (result_constraints f g into)
result_within code f fn at g lt None k h = tt
result_within code f fn at g lt (Some r) k h = ((result_node code g lt, kind_node code f fn k r at h), tt)

taken_few : (n : ℕ) (ps : List Bool) → length (take n ps) ≤ n
taken_few zero ps = omega arith
taken_few (suc n) [] = omega arith
taken_few (suc n) (p ∷ ps) = let k = taken_few n ps in omega (arith, k)

few : (n : ℕ) (ps : List Bool) (m : ℕ) → n ≤ m → 0 + length (take n ps) ≤ m
few n ps m le = omega (arith, taken_few n ps)

call_within : (code : Code) → Formals code → (f : ℕ) (fn : Function) → slice_get code.functions f ≡ Some fn → (g : ℕ) (arguments : List ℕ) (into : Option ℕ) (o : Option Function) → slice_get code.functions g ≡ o → call_fits fn arguments into o ≡ true → Each code (argument_constraints f arguments g 0 ++ result_constraints f g into)
call_within code formals f fn at g arguments into None gat h = cc
call_within code formals f fn at g arguments into (Some gn) gat h =
    let b = both (not (is_main_in (Some gn)) && have_kinds fn arguments (formal_kinds gn)) (value_fits fn into gn.gives_pointer) h in
    let d = both (not (is_main_in (Some gn))) (have_kinds fn arguments (formal_kinds gn)) b.0 in
    each_append code (argument_constraints f arguments g 0) (result_constraints f g into)
    (arguments_within code f fn at g gn gat arguments (formal_kinds gn) 0 d.1 (few gn.formals gn.pointers gn.registers (formals g gn gat)))
    (result_within code f fn at g (slice_get_within code.functions g gn gat) into gn.gives_pointer b.1)

started : (code : Code) → Formals code → (g : ℕ) (o : Option Function) → slice_get code.functions g ≡ o → may_start o ≡ true → IsNode code (Register g 0) × IsNode code (Result g)
started code formals g None gat h = cc
started code formals g (Some gn) gat h =
    let a = both (not (is_main_in (Some gn)) && (gn.formals == 1) && is_pointer gn.pointers 0) gn.gives_pointer h in
    let b = both (not (is_main_in (Some gn)) && (gn.formals == 1)) (is_pointer gn.pointers 0) a.0 in
    let d = same gn.formals 1 (both (not (is_main_in (Some gn))) (gn.formals == 1) b.0).1 in
    (node_of code g gn 0 gat (omega (arith, d, formals g gn gat)), result_node code g (slice_get_within code.functions g gn gat))

library_within : (code : Code) → Formals code → (f : ℕ) (fn : Function) → slice_get code.functions f ≡ Some fn → (c : LibraryCall) (arguments : List ℕ) → starts_fit code c ≡ true → have_kinds fn arguments (library_kinds c) ≡ true → Each code (library_constraints f c arguments)
library_within code formals f fn at (call.Create g) (thread ∷ argument ∷ []) s h =
    let w = started code formals g (slice_get code.functions g) refl s in
    let b = both (has_kind fn true thread) (has_kind fn true argument && true) h in
    ((kind_node code f fn true argument at (both (has_kind fn true argument) true b.1).0, w.0), ((w.1, ended_node code), tt))
library_within code formals f fn at call.Join (thread ∷ into ∷ []) s h =
    let b = both (has_kind fn false thread) (has_kind fn true into && true) h in
    ((kind_node code f fn true into at (both (has_kind fn true into) true b.1).0, ended_node code), tt)
library_within code formals f fn at call.Exit (value ∷ []) s h =
    let b = both (has_kind fn true value) true h in
    ((kind_node code f fn true value at b.0, ended_node code), tt)
library_within code formals f fn at _ _ s h = tt

return_within : (code : Code) (f : ℕ) (fn : Function) → slice_get code.functions f ≡ Some fn → (value : Option ℕ) (k : Bool) → value_fits fn value k ≡ true → Each code (return_constraints f value)
return_within code f fn at None k h = tt
return_within code f fn at (Some r) k h = ((kind_node code f fn k r at h, result_node code f (slice_get_within code.functions f fn at)), tt)

-- ---- instructions and functions

act_within : (code : Code) → Elements code → Formals code → (f : ℕ) (fn : Function) → slice_get code.functions f ≡ Some fn → (is : List Instr) (k : ℕ) (a : Act) → act_fits code fn a ≡ true → Each code (act_constraints f is k a)
act_within code some formals f fn at is k (act.Compute into w) h = work_within code some f fn at is k into w h
act_within code some formals f fn at is k (act.Alloc into site size) h =
    let b = both (has_pointer fn into) (is_site code site) (both (has_pointer fn into && is_site code site) (value_fits fn size false) h).0 in
    ((kind_node code f fn true into at b.0, site_place code some site b.1), tt)
act_within code some formals f fn at is k (act.LoadCell into through) h =
    let b = both (has_register fn into) (has_pointer fn through) h in
    ((kind_node code f fn true through at b.1, node_of code f fn into at (less into fn.registers b.0)), tt)
act_within code some formals f fn at is k (act.StoreCell through from) h =
    let b = both (has_pointer fn through) (has_register fn from) h in
    ((kind_node code f fn true through at b.0, node_of code f fn from at (less from fn.registers b.1)), tt)
act_within code some formals f fn at is k (act.Call g arguments into) h = call_within code formals f fn at g arguments into (slice_get code.functions g) refl h
act_within code some formals f fn at is k (act.Library c arguments into) h =
    let b = both (starts_fit code c) (have_kinds fn arguments (library_kinds c)) (both (starts_fit code c && have_kinds fn arguments (library_kinds c)) (library_value_fits fn into c) h).0 in
    library_within code formals f fn at c arguments b.0 b.1
act_within code some formals f fn at is k (act.Return value) h = return_within code f fn at value fn.gives_pointer h
act_within code some formals f fn at is k _ h = tt

instrs_within : (code : Code) → Elements code → Formals code → (f : ℕ) (fn : Function) → slice_get code.functions f ≡ Some fn → (is : List Instr) (k : ℕ) (rest : List Instr) → acts_fit code fn rest ≡ true → Each code (instrs_constraints f is k rest)
instrs_within code some formals f fn at is k [] h = tt
instrs_within code some formals f fn at is k (i ∷ rest) h =
    let b = both (act_fits code fn i.act) (acts_fit code fn rest) h in
    each_append code (act_constraints f is k i.act) (instrs_constraints f is (k + 1) rest) (act_within code some formals f fn at is k i.act b.0) (instrs_within code some formals f fn at is (k + 1) rest b.1)

function_parts : (code : Code) (fn : Function) → function_fits code fn ≡ true → (registers_fit fn ≡ true) × (acts_fit code fn fn.instrs ≡ true)
function_parts code fn h =
    let a = both (registers_fit fn && order_fits fn.instrs && acts_fit code fn fn.instrs && loops_fit fn fn.loops) (regions_fit code fn fn.regions) h in
    let b = both (registers_fit fn && order_fits fn.instrs && acts_fit code fn fn.instrs) (loops_fit fn fn.loops) a.0 in
    let d = both (registers_fit fn && order_fits fn.instrs) (acts_fit code fn fn.instrs) b.0 in
    ((both (registers_fit fn) (order_fits fn.instrs) d.0).0, d.1)

formals_fit : (code : Code) → functions_fit code code.functions ≡ true → Formals code
formals_fit code h g gn gat =
    let p = function_parts code gn (all_got (function_fits code) code.functions g gn h gat) in
    at_most gn.formals gn.registers (both (nat_le gn.formals gn.registers) (length gn.pointers == gn.registers) p.0).0

functions_within : (code : Code) → Elements code → Formals code → (f : ℕ) (fns : List Function) → functions_fit code fns ≡ true → ((j : ℕ) (fn : Function) → slice_get fns j ≡ Some fn → slice_get code.functions (f + j) ≡ Some fn) → Each code (functions_constraints f fns)
functions_within code some formals f [] h at = tt
functions_within code some formals f (fn ∷ fns) h at =
    let b = both (function_fits code fn) (functions_fit code fns) h in
    let zero_on : f + 0 ≡ f = omega arith in
    each_append code (instrs_constraints f fn.instrs 0 fn.instrs) (functions_constraints (f + 1) fns)
    (instrs_within code some formals f fn (subst (λ n. slice_get code.functions n ≡ Some fn) zero_on (at 0 fn refl)) fn.instrs 0 fn.instrs (function_parts code fn b.0).1)
    (functions_within code some formals (f + 1) fns b.1 (λ j gn e. let on : f + suc j ≡ f + 1 + j = omega arith in subst (λ n. slice_get code.functions n ≡ Some gn) on (at (suc j) gn e)))

-- ---- start words

words_empty : (code : Code) (ks : List CellKind) → words_fit code ks [] ≡ true
words_empty code [] = refl
words_empty code (k ∷ ks) = refl

words_drop : (code : Code) (n : ℕ) (ks : List CellKind) (ws : List ℕ) → words_fit code ks ws ≡ true → words_fit code (drop n ks) (drop n ws) ≡ true
words_drop code zero ks ws h = h
words_drop code (suc n) [] ws h = refl
words_drop code (suc n) (k ∷ ks) [] h = words_empty code (drop n ks)
words_drop code (suc n) (k ∷ ks) (w ∷ ws) h = words_drop code n ks ws (both (word_fits code (address_at k w)) (words_fit code ks ws) h).1

words_take : (code : Code) (n : ℕ) (ks : List CellKind) (ws : List ℕ) → words_fit code ks ws ≡ true → words_fit code (take n ks) ws ≡ true
words_take code zero ks ws h = refl
words_take code (suc n) [] ws h = refl
words_take code (suc n) (k ∷ ks) [] h = refl
words_take code (suc n) (k ∷ ks) (w ∷ ws) h =
    let b = both (word_fits code (address_at k w)) (words_fit code ks ws) h in
    and_both b.0 (words_take code n ks ws b.1)
  where
    and_both : {x y : Bool} → x ≡ true → y ≡ true → (x && y) ≡ true
    and_both e g = cc

word_within : (code : Code) → Elements code → (s element offset : ℕ) → 1 ≤ s → s ≤ length code.sites → element ≡ element_of code.sites s → (o : Option ℕ) → word_fits code o ≡ true → Each code (word_constraints s element offset o)
word_within code some s element offset first last is None h = tt
word_within code some s element offset first last is (Some w) h =
    ((cells_node code (place s (class_of element offset)) (first, last, subst (λ e. class_of element offset < classes_of e) is (class_in element offset (subst (λ e. 1 ≤ e) (sym is) (some s)))), address_place code some w h), tt)

cells_within : (code : Code) → Elements code → (s element offset : ℕ) → 1 ≤ s → s ≤ length code.sites → element ≡ element_of code.sites s → (ks : List CellKind) (ws : List ℕ) → words_fit code ks ws ≡ true → Each code (cells_constraints s element offset ks ws)
cells_within code some s element offset first last is [] ws h = tt
cells_within code some s element offset first last is (k ∷ ks) [] h = tt
cells_within code some s element offset first last is (k ∷ ks) (w ∷ ws) h =
    let b = both (word_fits code (address_at k w)) (words_fit code ks ws) h in
    each_append code (word_constraints s element offset (address_at k w)) (cells_constraints s element (offset + 1) ks ws) (word_within code some s element offset first last is (address_at k w) b.0) (cells_within code some s element (offset + 1) first last is ks ws b.1)

object_within : (code : Code) → Elements code → words_fit code code.global_kinds code.globals ≡ true → (s : ℕ) (site : Site) → 1 ≤ s → s ≤ length code.sites → site.layout.element ≡ element_of code.sites s → (o : Option ℕ) → Each code (object_constraints code s site o)
object_within code some words s site first last is None = tt
object_within code some words s site first last is (Some base) =
    cells_within code some s site.layout.element 0 first last is (take site.layout.size (drop base code.global_kinds)) (drop base code.globals)
    (words_take code site.layout.size (drop base code.global_kinds) (drop base code.globals) (words_drop code base code.global_kinds code.globals words))

sites_within : (code : Code) → Elements code → words_fit code code.global_kinds code.globals ≡ true → (s : ℕ) (sites : List Site) → ((j : ℕ) (site : Site) → slice_get sites j ≡ Some site → slice_get code.sites (s + j) ≡ Some site) → Each code (sites_constraints code (s + 1) sites)
sites_within code some words s [] at = tt
sites_within code some words s (site ∷ sites) at =
    let zero_on : s + 0 ≡ s = omega arith in
    let got : slice_get code.sites s ≡ Some site = subst (λ n. slice_get code.sites n ≡ Some site) zero_on (at 0 site refl) in
    each_append code (object_constraints code (s + 1) site (base_at code.global_bases (s + 1))) (sites_constraints code (s + 1 + 1) sites)
    (object_within code some words (s + 1) site (omega arith) (omega (arith, slice_get_within code.sites s site got)) (sym (ap (element_of code.sites) (add-one s) ∙ ap element_in got)) (base_at code.global_bases (s + 1)))
    (sites_within code some words (s + 1) sites (λ j x e. let on : s + suc j ≡ s + 1 + j = omega arith in subst (λ n. slice_get code.sites n ≡ Some x) on (at (suc j) x e)))

-- ---- the code

starting : {X : Type 0} (xs : List X) (j : ℕ) (x : X) → slice_get xs j ≡ Some x → slice_get xs (0 + j) ≡ Some x
starting xs j x e = let on : j ≡ 0 + j = omega arith in subst (λ n. slice_get xs n ≡ Some x) on e

pub valid_there : (code : Code) → is_valid code ≡ true → AreThere code
valid_there code h =
    let a = both (is_within_limits code && sites_fit code.sites && all_locks_fit code code.locks && has_one_main code.functions && functions_fit code code.functions) (globals_fit code) h in
    let b = both (is_within_limits code && sites_fit code.sites && all_locks_fit code code.locks && has_one_main code.functions) (functions_fit code code.functions) a.0 in
    let d = both (is_within_limits code && sites_fit code.sites && all_locks_fit code code.locks) (has_one_main code.functions) b.0 in
    let e = both (is_within_limits code && sites_fit code.sites) (all_locks_fit code code.locks) d.0 in
    let l = both (is_within_limits code) (sites_fit code.sites) e.0 in
    let m = both (nat_le (length code.functions) (2 ^ 20)) (nat_le (length code.sites) 1023) (both (nat_le (length code.functions) (2 ^ 20) && nat_le (length code.sites) 1023) (nat_le (length code.globals) (2 ^ 20)) (both (nat_le (length code.functions) (2 ^ 20) && nat_le (length code.sites) 1023 && nat_le (length code.globals) (2 ^ 20)) (nat_le (length code.locks) most_locks) l.0).0).0 in
    let some : Elements code = size_fits code.sites l.1 in
    record {
      within = λ c k. each_in code (constraints_of code) c
          (each_append code (functions_constraints 0 code.functions) (sites_constraints code 1 code.sites)
          (functions_within code some (formals_fit code b.1) 0 code.functions b.1 (starting code.functions))
          (sites_within code some (words_do_fit code a.1) 0 code.sites (starting code.sites))) k;
      elements = some;
      sites = at_most (length code.sites) 1023 m.1;
      functions = at_most (length code.functions) (2 ^ 20) m.0;
    }
