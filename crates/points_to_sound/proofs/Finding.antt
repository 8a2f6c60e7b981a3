-- The constraints of a code have those of each of its instructions.
use Rattle.std.proofs.Common.{◌≡◌, ℕ, zero, suc, ◌+◌, List, [], ◌∷◌, Option, Some, None, refl, sym, ap, subst, arith}
use Rattle.std.specs.Prelude.{slice_get}
use Rattle.std.specs.List.{Contains}
use Rattle.std.proofs.lemmas.Option.{same_Some}
use Rattle.std.proofs.lemmas.List.Elements.{Contains-append_left, Contains-append_right}
use Rattle.flow_code.specs.declared.act.Act.{Act}
use Rattle.flow_code.specs.declared.act.Instr.{Instr}
use Rattle.flow_code.specs.declared.code.Code.{Code}
use Rattle.flow_code.specs.declared.code.Function.{Function}
use Rattle.flow_code.specs.Next.{act_in}
use Rattle.flow_code.specs.Threads.{instr_in, instrs_in}
use Rattle.facts.specs.PointsTo.{argument_constraints, act_constraints, instrs_constraints, functions_constraints, sites_constraints, constraints_of}
use Rattle.facts.specs.declared.constraint.Constraint.{Constraint}
use Rattle.facts.specs.declared.constraint.Constraint.TheVariants.{Included}
use Rattle.facts.specs.declared.constraint.Node.TheVariants.{Register}
use Rattle.points_to_sound.specs.Pointing.{act_of}

pub first_of : {X : Type 0} (x : X) (xs : List X) → Contains (x ∷ xs) x
first_of x xs = (0, omega arith, refl)

pub later_of : {X : Type 0} (x y : X) (xs : List X) → Contains xs y → Contains (x ∷ xs) y
later_of x y xs h = let lt = h.1 in (suc h.0, omega arith, h.2)

in_instrs : (f : ℕ) (is : List Instr) (j k : ℕ) (rest : List Instr) (i : Instr) (c : Constraint) → slice_get rest k ≡ Some i → Contains (act_constraints f is (j + k) i.act) c → Contains (instrs_constraints f is j rest) c
in_instrs f is j k [] i c e h = cc
in_instrs f is j zero (x ∷ rest) i c e h =
    let same : x ≡ i = same_Some x i e in
    let at : j + 0 ≡ j = omega arith in
    Contains-append_left (act_constraints f is j x.act) (instrs_constraints f is (j + 1) rest) c (subst (λ n. Contains (act_constraints f is n x.act) c) at (subst (λ (y : Instr). Contains (act_constraints f is (j + 0) y.act) c) (sym same) h))
in_instrs f is j (suc k) (x ∷ rest) i c e h =
    let at : j + suc k ≡ j + 1 + k = omega arith in
    Contains-append_right (act_constraints f is j x.act) (instrs_constraints f is (j + 1) rest) c (in_instrs f is (j + 1) k rest i c e (subst (λ n. Contains (act_constraints f is n i.act) c) at h))

in_functions : (j f : ℕ) (fs : List Function) (fn : Function) (c : Constraint) → slice_get fs f ≡ Some fn → Contains (instrs_constraints (j + f) fn.instrs 0 fn.instrs) c → Contains (functions_constraints j fs) c
in_functions j f [] fn c e h = cc
in_functions j zero (x ∷ fs) fn c e h =
    let same : x ≡ fn = same_Some x fn e in
    let at : j + 0 ≡ j = omega arith in
    Contains-append_left (instrs_constraints j x.instrs 0 x.instrs) (functions_constraints (j + 1) fs) c (subst (λ n. Contains (instrs_constraints n x.instrs 0 x.instrs) c) at (subst (λ (y : Function). Contains (instrs_constraints (j + 0) y.instrs 0 y.instrs) c) (sym same) h))
in_functions j (suc f) (x ∷ fs) fn c e h =
    let at : j + suc f ≡ j + 1 + f = omega arith in
    Contains-append_right (instrs_constraints j x.instrs 0 x.instrs) (functions_constraints (j + 1) fs) c (in_functions (j + 1) f fs fn c e (subst (λ n. Contains (instrs_constraints n fn.instrs 0 fn.instrs) c) at h))

-- an instruction of a function of the code
pub record Stands (code : Code) (f k : ℕ) (a : Act) : Type 0 where
  pub function : Function
  pub instr : Instr
  pub is_function : slice_get code.functions f ≡ Some function
  pub is_instr : slice_get function.instrs k ≡ Some instr
  pub is_act : instr.act ≡ a

pub stands : (code : Code) (f k : ℕ) (a : Act) → act_of code f k ≡ Some a → Stands code f k a
stands code f k a e = in_code (slice_get code.functions f) refl e
  where
    in_function : (fn : Function) (o : Option Instr) → slice_get code.functions f ≡ Some fn → slice_get fn.instrs k ≡ o → act_in o ≡ Some a → Stands code f k a
    in_function fn None g h e = cc
    in_function fn (Some i) g h e = record { function = fn; instr = i; is_function = g; is_instr = h; is_act = same_Some i.act a e }

    in_code : (o : Option Function) → slice_get code.functions f ≡ o → act_in (instr_in o k) ≡ Some a → Stands code f k a
    in_code None g e = cc
    in_code (Some fn) g e = in_function fn (slice_get fn.instrs k) g refl e

-- the constraints of the instruction are among the code's
pub constraint_of : (code : Code) (f k : ℕ) (a : Act) (c : Constraint) → act_of code f k ≡ Some a → Contains (act_constraints f (instrs_in (slice_get code.functions f)) k a) c → Contains (constraints_of code) c
constraint_of code f k a c e h =
    let x = stands code f k a e in
    let is_are : instrs_in (slice_get code.functions f) ≡ x.function.instrs = ap instrs_in x.is_function in
    let zero_f : 0 + f ≡ f = omega arith in
    let zero_k : 0 + k ≡ k = omega arith in
    let here = subst (λ b. Contains (act_constraints f x.function.instrs k b) c) (sym x.is_act) (subst (λ is. Contains (act_constraints f is k a) c) is_are h) in
    let at = in_instrs f x.function.instrs 0 k x.function.instrs x.instr c x.is_instr (subst (λ n. Contains (act_constraints f x.function.instrs n x.instr.act) c) (sym zero_k) here) in
    Contains-append_left (functions_constraints 0 code.functions) (sites_constraints code 1 code.sites) c
    (in_functions 0 f code.functions x.function c x.is_function (subst (λ n. Contains (instrs_constraints n x.function.instrs 0 x.function.instrs) c) (sym zero_f) at))

-- an argument goes to its formal
pub argument_passed : (f g i : ℕ) (arguments : List ℕ) (r j : ℕ) → slice_get arguments j ≡ Some r → Contains (argument_constraints f arguments g i) (Included (Register f r) (Register g (i + j)))
argument_passed f g i [] r j e = cc
argument_passed f g i (x ∷ xs) r zero e =
    let same : x ≡ r = same_Some x r e in
    let at : i ≡ i + 0 = omega arith in
    subst (λ n. Contains (argument_constraints f (x ∷ xs) g i) (Included (Register f r) (Register g n))) at
    (subst (λ n. Contains (argument_constraints f (x ∷ xs) g i) (Included (Register f n) (Register g i))) same (first_of (Included (Register f x) (Register g i)) (argument_constraints f xs g (i + 1))))
argument_passed f g i (x ∷ xs) r (suc j) e =
    let at : i + 1 + j ≡ i + suc j = omega arith in
    later_of (Included (Register f x) (Register g i)) (Included (Register f r) (Register g (i + suc j))) (argument_constraints f xs g (i + 1))
    (subst (λ n. Contains (argument_constraints f xs g (i + 1)) (Included (Register f r) (Register g n))) at (argument_passed f g (i + 1) xs r j e))
