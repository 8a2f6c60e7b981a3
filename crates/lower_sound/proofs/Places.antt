-- Where code and kinds stand.
use Rattle.std.proofs.Common.{◌≡◌, ℕ, ◌+◌, Bool, true, false, List, [], ◌∷◌, ◌++◌, length, replicate, Some, None, slice_get, refl, sym, ◌∙◌, ap, subst, append_assoc, arith, length-append}
use Rattle.std.proofs.lemmas.List.{length-replicate}
use Rattle.std.proofs.lemmas.Option.{get_or_from_slice_get}
use Rattle.rr_base.proofs.Lists.{slice_get-append_at}
use Rattle.flow_code.specs.declared.act.Act.TheVariants as act
use Rattle.flow_code.specs.declared.act.Instr.{Instr}
use Rattle.flow_code.specs.Works.{is_pointer}
use Rattle.rr_base.specs.declared.position.Position.{Position}
use Rattle.core_tree.specs.Core as core
use Rattle.core_tree.specs.Core.{Exp, null, load, unary, binary, move, advance, member, between, to_pointer, to_number, copy, both, either, conditional, comma, set_register, store, change_register, change_cell, call, library, allocate, Function}
use Rattle.core_tree.specs.Meaning as meaning
use Rattle.flow_lower.specs.Lowered.{instr, one, exp_kinds, function_kinds, body_code, statement_kinds, statement_size, statement_code, objects_code, arrivals_code, held, body_kept}
use Rattle.lower_sound.proofs.Lengths.{statement_length, objects_length, arrivals_length}

-- these instructions stand from this place on
abbrev pub HasAt : {X : Type 0} → List X → ℕ → List X → Type 0
HasAt code pc [] = Unit {0}
HasAt code pc (i ∷ is) = (slice_get code pc ≡ Some i) × HasAt code (pc + 1) is

pub has_at : {X : Type 0} (code : List X) (pc pc' : ℕ) (is : List X) → pc ≡ pc' → HasAt code pc is → HasAt code pc' is
has_at code pc pc' is e h = subst (λ p. HasAt code p is) e h

pub has_front : {X : Type 0} (code : List X) (pc : ℕ) (is js : List X) → HasAt code pc (is ++ js) → HasAt code pc is
has_front code pc [] js h = tt
has_front code pc (i ∷ is) js h = (h.0, has_front code (pc + 1) is js h.1)

pub has_back : {X : Type 0} (code : List X) (pc : ℕ) (is js : List X) → HasAt code pc (is ++ js) → HasAt code (pc + length is) js
has_back code pc [] js h = has_at code pc (pc + 0) js (omega arith) h
has_back code pc (i ∷ is) js h = has_at code (pc + 1 + length is) (pc + length (i ∷ is)) js (omega arith) (has_back code (pc + 1) is js h.1)

-- what stands after other things stands there
pub has_all : {X : Type 0} (is pre : List X) → HasAt (pre ++ is) (length pre) is
has_all [] pre = tt
has_all (i ∷ is) pre =
    let n : length (pre ++ i ∷ []) ≡ length pre + 1 = omega (arith, length-append pre (i ∷ [])) in
    let rest = has_all is (pre ++ i ∷ []) in
    let rest' = subst (λ l. HasAt l (length (pre ++ i ∷ [])) is) (append_assoc pre (i ∷ []) is) rest in
    (slice_get-append_at pre i is (length pre) refl, subst (λ m. HasAt (pre ++ i ∷ is) m is) n rest')

-- ---- kinds of values

-- how an expression has its value: in a register of its own, whose kind comes first, in a named register, or in that of the
-- address of an object
pub data Having (e : Exp) : Type 0 where
  own : ((first r : ℕ) → held first e r ≡ r) → (ks : List Bool) → exp_kinds e ≡ meaning.is_pointer e ∷ ks → Having e
  named : (n : ℕ) (pointer : Bool) (at : Position) → e ≡ core.register n pointer at → Having e
  of_object : (n : ℕ) (at : Position) → e ≡ core.object n at → Having e

pub having : (e : Exp) → Having e
having (core.number z at) = own (λ first r. refl) [] refl
having (null at) = own (λ first r. refl) [] refl
having (core.register n pointer at) = named n pointer at refl
having (core.object n at) = of_object n at refl
having (core.global address at) = own (λ first r. refl) [] refl
having (load e pointer at) = own (λ first r. refl) _ refl
having (unary o e at) = own (λ first r. refl) _ refl
having (binary o a b at) = own (λ first r. refl) _ refl
having (move a b element back at) = own (λ first r. refl) _ refl
having (advance a b element at) = own (λ first r. refl) _ refl
having (member a by at) = own (λ first r. refl) _ refl
having (between a b element at) = own (λ first r. refl) _ refl
having (to_pointer a at) = own (λ first r. refl) _ refl
having (to_number a at) = own (λ first r. refl) _ refl
having (copy a at) = own (λ first r. refl) _ refl
having (both a b at) = own (λ first r. refl) _ refl
having (either a b at) = own (λ first r. refl) _ refl
having (conditional a b c at) = own (λ first r. refl) _ refl
having (comma a b at) = own (λ first r. refl) _ refl
having (set_register n a at) = own (λ first r. refl) _ refl
having (store a b at) = own (λ first r. refl) _ refl
having (change_register n c b old at) = own (λ first r. refl) _ refl
having (change_cell a loaded c b old at) = own (λ first r. refl) _ refl
having (call f es pointer at) = own (λ first r. refl) _ refl
having (library c es at) = own (λ first r. refl) _ refl
having (allocate site a at) = own (λ first r. refl) _ refl

-- the kind of the register that has a value
pub kind_held : (kinds : List Bool) (first r : ℕ) (e : Exp) → HasAt kinds r (exp_kinds e)
    → ((n : ℕ) (pointer : Bool) (at : Position) → e ≡ core.register n pointer at → slice_get kinds n ≡ Some pointer)
    → ((n : ℕ) (at : Position) → e ≡ core.object n at → slice_get kinds (first + n) ≡ Some true)
    → slice_get kinds (held first e r) ≡ Some (meaning.is_pointer e)
kind_held kinds first r e h registers objects = by (having e)
  where
    by : Having e → slice_get kinds (held first e r) ≡ Some (meaning.is_pointer e)
    by (own is ks k) = ap (slice_get kinds) (is first r) ∙ (subst (λ ls. HasAt kinds r ls) k h).0
    by (named n pointer at is) = subst (λ z. slice_get kinds (held first z r) ≡ Some (meaning.is_pointer z)) (sym is) (registers n pointer at is)
    by (of_object n at is) = subst (λ z. slice_get kinds (held first z r) ≡ Some (meaning.is_pointer z)) (sym is) (objects n at is)

pub is_kind : (kinds : List Bool) (r : ℕ) (b : Bool) → slice_get kinds r ≡ Some b → is_pointer kinds r ≡ b
is_kind kinds r b h = get_or_from_slice_get kinds r b false h

-- ---- where the parts of a function's code stand

abbrev pub first_of : Function → ℕ
first_of f = length f.pointers

abbrev pub start_of : Function → ℕ
start_of f = length f.objects

abbrev pub body_at : Function → ℕ
body_at f = length f.objects + length f.arrivals

abbrev pub end_at : Function → ℕ
end_at f = body_at f + statement_size (body_kept f)

abbrev pub statement_part : Function → List Instr
statement_part f = statement_code (first_of f) (body_kept f) (first_of f + length f.objects) (body_at f) (end_at f) (end_at f)

abbrev pub from_arrivals : Function → List Instr
from_arrivals f = arrivals_code (first_of f) f.arrivals ++ (statement_part f ++ one f.place (act.Return None))

pub has_arrivals : (f : Function) → HasAt (body_code f) (start_of f) (arrivals_code (first_of f) f.arrivals ++ (statement_part f ++ one f.place (act.Return None)))
has_arrivals f = has_at (body_code f) (length (objects_code f.place (first_of f) f.objects)) (start_of f) (from_arrivals f) (objects_length f.place (first_of f) f.objects) (has_all (from_arrivals f) (objects_code f.place (first_of f) f.objects))

pub has_body : (f : Function) → HasAt (body_code f) (body_at f) (statement_part f ++ one f.place (act.Return None))
has_body f = has_at (body_code f) (start_of f + length (arrivals_code (first_of f) f.arrivals)) (body_at f) _ (ap (λ n. start_of f + n) (arrivals_length (first_of f) f.arrivals)) (has_back (body_code f) (start_of f) (arrivals_code (first_of f) f.arrivals) _ (has_arrivals f))

pub has_end : (f : Function) → slice_get (body_code f) (end_at f) ≡ Some (instr f.place (act.Return None))
has_end f = (has_at (body_code f) (body_at f + length (statement_part f)) (end_at f) (one f.place (act.Return None)) (ap (λ n. body_at f + n) (statement_length (first_of f) (body_kept f) (first_of f + length f.objects) (body_at f) (end_at f) (end_at f))) (has_back (body_code f) (body_at f) (statement_part f) (one f.place (act.Return None)) (has_body f))).0

pub has_kinds : (f : Function) → HasAt (function_kinds f) (first_of f + length f.objects) (statement_kinds (body_kept f))
has_kinds f =
    let following = has_all (replicate (length f.objects) true ++ statement_kinds (body_kept f)) f.pointers in
    has_at (function_kinds f) (first_of f + length (replicate (length f.objects) true)) (first_of f + length f.objects) (statement_kinds (body_kept f)) (ap (λ n. first_of f + n) (length-replicate (length f.objects) true))
    (has_back (function_kinds f) (first_of f) (replicate (length f.objects) true) (statement_kinds (body_kept f)) following)
