-- Operators with two or three operands: what stands for them is there, and of the kind that is known.
use Rattle.std.proofs.Common.{◌≡◌, ◌⊎◌, inl, inr, ℕ, ◌≤◌, Bool, true, false, not, ◌&&◌, ◌||◌, if◌then◌else◌, Option, refl, sym, ap, ◌∙◌, subst}
use Rattle.std.proofs.lemmas.Bool.{and_from}
use Rattle.word_semantics.specs.declared.operator.BinaryOp.{BinaryOp as FlowOp}
use Rattle.word_semantics.specs.declared.operator.BinaryOp.TheVariants as flow
use Rattle.word_semantics.specs.Kinds.{is_comparison}
use Rattle.c_tree.specs.declared.expr.BinaryOp.{BinaryOp}
use Rattle.c_tree.specs.declared.expr.BinaryOp.TheVariants as op
use Rattle.c_types.specs.declared.types.ObjectType.{ObjectType}
use Rattle.c_types.specs.declared.types.BaseType.TheVariants as base
use Rattle.c_types.specs.Types.{bare, pointer_to}
use Rattle.c_types.specs.Scopes.{cells_of_type}
use Rattle.c_types.specs.Operands.{no_type, Operand, any_operand, whole, zero_operand, null_operand, pointing, function_operand, no_operand, is_void, is_typed, is_whole, is_scalar, is_some_pointer, is_movable, points_to_void, are_alike, are_compatible, are_functions, are_whole, can_add, have_distance, can_subtract, takes, int_value, a_value, sum_of, difference_of, result_of, binary_standing, can_choose, chosen_target, chosen}
use Rattle.c_types.specs.Standing.{can_index, element_place, index_standing, conditional_standing}
use Rattle.rr_base.specs.declared.position.Position.{Position}
use Rattle.core_tree.specs.Core as core
use Rattle.core_tree.specs.Core.{Function, Program}
use Rattle.core_tree.specs.Meaning.{is_pointer}
use Rattle.c_operators.specs.declared.denoted.WordKind.{WordKind}
use Rattle.c_operators.specs.declared.denoted.WordKind.TheVariants as kind
use Rattle.c_operators.specs.Denoted.{denoted_cells, denoted_value, Part, operand_in, is_pointing, kind_of_both, value_in, wanted_in}
use Rattle.c_operators.specs.Context.{Source, element_of}
use Rattle.c_operators.specs.Operators.{element_of_either, operated_in, binary_in, conditional_in, index_in}
use Rattle.core_tree.specs.Sound.{IsSoundExp}
use Rattle.source_sound.proofs.Environment.{IsFormed, IsFormedOrVoid}
use Rattle.source_sound.proofs.Apart.{never, never', both, either_holds, not_true}
use Rattle.source_sound.proofs.Standings.{formed_pointee, IsFormedOperand, Gives, Stands, PartGives}
use Rattle.source_sound.proofs.FunctionWords.{both_functions, PartGivesAll}
use Rattle.source_sound.proofs.Choices.{gives_whole, where_true, settled_stands}

-- ---- which operands an operator takes

pub add_front : (t : ObjectType) (b : Operand) → can_add (pointing t) b ≡ true → (is_void t ≡ false) × (is_whole b ≡ true)
add_front t b h = by (either_holds (not (is_void t) && is_whole b) false h)
  where
    by : ((not (is_void t) && is_whole b) ≡ true) ⊎ (false ≡ true) → (is_void t ≡ false) × (is_whole b ≡ true)
    by (inl e) = (not_true (is_void t) (both (not (is_void t)) (is_whole b) e).0, (both (not (is_void t)) (is_whole b) e).1)
    by (inr e) = never e

pub compatible_pointers : (a b : Operand) → are_compatible a b ≡ true → (is_some_pointer a ≡ true) × (is_some_pointer b ≡ true)
compatible_pointers any_operand b h = both _ _ h
compatible_pointers whole b h = both _ _ h
compatible_pointers zero_operand b h = both _ _ h
compatible_pointers null_operand b h = both _ _ h
compatible_pointers (function_operand k) b h = both _ _ h
compatible_pointers no_operand b h = both _ _ h
compatible_pointers (pointing t) any_operand h = both _ _ h
compatible_pointers (pointing t) whole h = both _ _ h
compatible_pointers (pointing t) zero_operand h = both _ _ h
compatible_pointers (pointing t) null_operand h = both _ _ h
compatible_pointers (pointing t) (function_operand k) h = both _ _ h
compatible_pointers (pointing t) no_operand h = both _ _ h
compatible_pointers (pointing t) (pointing u) h = (refl, refl)

pub alike_pointers : (a b : Operand) → are_alike a b ≡ true → (is_some_pointer a ≡ true) × (is_some_pointer b ≡ true)
alike_pointers any_operand b h = both _ _ h
alike_pointers whole b h = both _ _ h
alike_pointers zero_operand b h = both _ _ h
alike_pointers null_operand b h = both _ _ h
alike_pointers (function_operand k) b h = both _ _ h
alike_pointers no_operand b h = both _ _ h
alike_pointers (pointing t) any_operand h = both _ _ h
alike_pointers (pointing t) whole h = both _ _ h
alike_pointers (pointing t) zero_operand h = both _ _ h
alike_pointers (pointing t) null_operand h = both _ _ h
alike_pointers (pointing t) (function_operand k) h = both _ _ h
alike_pointers (pointing t) no_operand h = both _ _ h
alike_pointers (pointing t) (pointing u) h = (refl, refl)

-- the distance of two is that of elements
distance_front : (a b : Operand) → have_distance a b ≡ true → (are_alike a b ≡ true) × (points_to_void a ≡ false) × (points_to_void b ≡ false)
distance_front a b h =
    let one = both (are_alike a b && not (points_to_void a) && not (points_to_void b)) (is_movable a || is_movable b) h in
    let two = both (are_alike a b && not (points_to_void a)) (not (points_to_void b)) one.0 in
    let three = both (are_alike a b) (not (points_to_void a)) two.0 in
    (three.0, not_true (points_to_void a) three.1, not_true (points_to_void b) two.1)

-- what a pointer is moved back by, or is less of, has a size
subtract_front : (t : ObjectType) (b : Operand) → can_subtract (pointing t) b ≡ true → is_void t ≡ false
subtract_front t b h = by (either_holds (not (is_void t) && is_whole b) (have_distance (pointing t) b) h)
  where
    by : ((not (is_void t) && is_whole b) ≡ true) ⊎ (have_distance (pointing t) b ≡ true) → is_void t ≡ false
    by (inl e) = not_true (is_void t) (both (not (is_void t)) (is_whole b) e).0
    by (inr e) = (distance_front (pointing t) b e).1

-- nothing is taken from a pointer that points to functions
no_function_less : (t : ObjectType) (k : ℕ) → can_subtract (pointing t) (function_operand k) ≡ true → false ≡ true
no_function_less t k h = by (either_holds (not (is_void t) && false) false h)
  where
    by : ((not (is_void t) && false) ≡ true) ⊎ (false ≡ true) → false ≡ true
    by (inl e) = (both (not (is_void t)) false e).1
    by (inr e) = e

-- the choice of two numbers, of two pointers to functions, and of two pointers to objects
pub chosen_number : (a b : Operand) → are_whole a b ≡ true → chosen a b ≡ int_value
chosen_number any_operand any_operand h = refl
chosen_number any_operand whole h = refl
chosen_number any_operand zero_operand h = refl
chosen_number any_operand null_operand h = never h
chosen_number any_operand (pointing t) h = never h
chosen_number any_operand (function_operand t) h = never h
chosen_number any_operand no_operand h = never h
chosen_number whole any_operand h = refl
chosen_number whole whole h = refl
chosen_number whole zero_operand h = refl
chosen_number whole null_operand h = never h
chosen_number whole (pointing t) h = never h
chosen_number whole (function_operand t) h = never h
chosen_number whole no_operand h = never h
chosen_number zero_operand any_operand h = refl
chosen_number zero_operand whole h = refl
chosen_number zero_operand zero_operand h = refl
chosen_number zero_operand null_operand h = never h
chosen_number zero_operand (pointing t) h = never h
chosen_number zero_operand (function_operand t) h = never h
chosen_number zero_operand no_operand h = never h
chosen_number null_operand any_operand h = never h
chosen_number null_operand whole h = never h
chosen_number null_operand zero_operand h = never h
chosen_number null_operand null_operand h = never h
chosen_number null_operand (pointing t) h = never h
chosen_number null_operand (function_operand t) h = never h
chosen_number null_operand no_operand h = never h
chosen_number (pointing s) any_operand h = never h
chosen_number (pointing s) whole h = never h
chosen_number (pointing s) zero_operand h = never h
chosen_number (pointing s) null_operand h = never h
chosen_number (pointing s) (pointing t) h = never h
chosen_number (pointing s) (function_operand t) h = never h
chosen_number (pointing s) no_operand h = never h
chosen_number (function_operand s) any_operand h = never h
chosen_number (function_operand s) whole h = never h
chosen_number (function_operand s) zero_operand h = never h
chosen_number (function_operand s) null_operand h = never h
chosen_number (function_operand s) (pointing t) h = never h
chosen_number (function_operand s) (function_operand t) h = never h
chosen_number (function_operand s) no_operand h = never h
chosen_number no_operand any_operand h = never h
chosen_number no_operand whole h = never h
chosen_number no_operand zero_operand h = never h
chosen_number no_operand null_operand h = never h
chosen_number no_operand (pointing t) h = never h
chosen_number no_operand (function_operand t) h = never h
chosen_number no_operand no_operand h = never h

chosen_function : (a b : Operand) → are_functions a b ≡ true → (k : ℕ) × (chosen a b ≡ a_value (bare (base.Function k)))
chosen_function any_operand any_operand h = never h
chosen_function any_operand whole h = never h
chosen_function any_operand zero_operand h = never h
chosen_function any_operand null_operand h = never h
chosen_function any_operand (pointing t) h = never h
chosen_function any_operand (function_operand t) h = (t, refl)
chosen_function any_operand no_operand h = never h
chosen_function whole any_operand h = never h
chosen_function whole whole h = never h
chosen_function whole zero_operand h = never h
chosen_function whole null_operand h = never h
chosen_function whole (pointing t) h = never h
chosen_function whole (function_operand t) h = never h
chosen_function whole no_operand h = never h
chosen_function zero_operand any_operand h = never h
chosen_function zero_operand whole h = never h
chosen_function zero_operand zero_operand h = never h
chosen_function zero_operand null_operand h = never h
chosen_function zero_operand (pointing t) h = never h
chosen_function zero_operand (function_operand t) h = (t, refl)
chosen_function zero_operand no_operand h = never h
chosen_function null_operand any_operand h = never h
chosen_function null_operand whole h = never h
chosen_function null_operand zero_operand h = never h
chosen_function null_operand null_operand h = never h
chosen_function null_operand (pointing t) h = never h
chosen_function null_operand (function_operand t) h = (t, refl)
chosen_function null_operand no_operand h = never h
chosen_function (pointing s) any_operand h = never h
chosen_function (pointing s) whole h = never h
chosen_function (pointing s) zero_operand h = never h
chosen_function (pointing s) null_operand h = never h
chosen_function (pointing s) (pointing t) h = never h
chosen_function (pointing s) (function_operand t) h = never h
chosen_function (pointing s) no_operand h = never h
chosen_function (function_operand s) any_operand h = (s, refl)
chosen_function (function_operand s) whole h = never h
chosen_function (function_operand s) zero_operand h = (s, refl)
chosen_function (function_operand s) null_operand h = (s, refl)
chosen_function (function_operand s) (pointing t) h = never h
chosen_function (function_operand s) (function_operand t) h = (s, refl)
chosen_function (function_operand s) no_operand h = never h
chosen_function no_operand any_operand h = never h
chosen_function no_operand whole h = never h
chosen_function no_operand zero_operand h = never h
chosen_function no_operand null_operand h = never h
chosen_function no_operand (pointing t) h = never h
chosen_function no_operand (function_operand t) h = never h
chosen_function no_operand no_operand h = never h

chosen_pointer : (a b : Operand) → is_some_pointer a ≡ true → is_some_pointer b ≡ true → are_whole a b ≡ false → chosen a b ≡ a_value (pointer_to (chosen_target a b))
chosen_pointer any_operand any_operand h g e = never' e
chosen_pointer any_operand whole h g e = never g
chosen_pointer any_operand zero_operand h g e = never' e
chosen_pointer any_operand null_operand h g e = refl
chosen_pointer any_operand (pointing t) h g e = refl
chosen_pointer any_operand (function_operand t) h g e = never g
chosen_pointer any_operand no_operand h g e = never g
chosen_pointer whole any_operand h g e = never h
chosen_pointer whole whole h g e = never h
chosen_pointer whole zero_operand h g e = never h
chosen_pointer whole null_operand h g e = never h
chosen_pointer whole (pointing t) h g e = never h
chosen_pointer whole (function_operand t) h g e = never h
chosen_pointer whole no_operand h g e = never h
chosen_pointer zero_operand any_operand h g e = never' e
chosen_pointer zero_operand whole h g e = never g
chosen_pointer zero_operand zero_operand h g e = never' e
chosen_pointer zero_operand null_operand h g e = refl
chosen_pointer zero_operand (pointing t) h g e = refl
chosen_pointer zero_operand (function_operand t) h g e = never g
chosen_pointer zero_operand no_operand h g e = never g
chosen_pointer null_operand any_operand h g e = refl
chosen_pointer null_operand whole h g e = never g
chosen_pointer null_operand zero_operand h g e = refl
chosen_pointer null_operand null_operand h g e = refl
chosen_pointer null_operand (pointing t) h g e = refl
chosen_pointer null_operand (function_operand t) h g e = never g
chosen_pointer null_operand no_operand h g e = never g
chosen_pointer (pointing s) any_operand h g e = refl
chosen_pointer (pointing s) whole h g e = never g
chosen_pointer (pointing s) zero_operand h g e = refl
chosen_pointer (pointing s) null_operand h g e = refl
chosen_pointer (pointing s) (pointing t) h g e = refl
chosen_pointer (pointing s) (function_operand t) h g e = never g
chosen_pointer (pointing s) no_operand h g e = never g
chosen_pointer (function_operand s) any_operand h g e = never h
chosen_pointer (function_operand s) whole h g e = never h
chosen_pointer (function_operand s) zero_operand h g e = never h
chosen_pointer (function_operand s) null_operand h g e = never h
chosen_pointer (function_operand s) (pointing t) h g e = never h
chosen_pointer (function_operand s) (function_operand t) h g e = never h
chosen_pointer (function_operand s) no_operand h g e = never h
chosen_pointer no_operand any_operand h g e = never h
chosen_pointer no_operand whole h g e = never h
chosen_pointer no_operand zero_operand h g e = never h
chosen_pointer no_operand null_operand h g e = never h
chosen_pointer no_operand (pointing t) h g e = never h
chosen_pointer no_operand (function_operand t) h g e = never h
chosen_pointer no_operand no_operand h g e = never h

-- where the other tests fail, this one holds
second_of_two : (a b : Bool) → (a || b) ≡ true → a ≡ false → b ≡ true
second_of_two true b h e = never' e
second_of_two false b h e = h

second_of_three : (a b c : Bool) → (a || b || c) ≡ true → a ≡ false → c ≡ false → b ≡ true
second_of_three true b c h e d = never' e
second_of_three false true c h e d = refl
second_of_three false false true h e d = never' d
second_of_three false false false h e d = never h

number_kind : (a b : Operand) → are_whole a b ≡ true → kind_of_both a b ≡ kind.Number
number_kind a b h = ap (λ q. if q then kind.Number else if are_functions a b then kind.Function else kind.Pointer) h

module _ (p : Program) (home : ℕ → Option ℕ) (f : Function) (structs : ℕ) where
  abbrev gives : Operand → core.Exp → core.Exp → Type 0
  gives = Gives p home f structs

  -- ---- two words of one kind

  -- an operator on numbers alone
  pub numbers_stand : (o : FlowOp) (a b : Part) (at : Position) → PartGives p home f structs a → PartGives p home f structs b → are_whole (operand_in a) (operand_in b) ≡ true →
      Stands p home f structs int_value (denoted_value (operated_in o a b at))
  numbers_stand o a b at ga gb e =
      let are = both (is_whole (operand_in a)) (is_whole (operand_in b)) e in
      let one = gives_whole p home f structs (operand_in a) _ _ ga are.0 in
      let two = gives_whole p home f structs (operand_in b) _ _ gb are.1 in
      subst (λ k. Stands p home f structs int_value (denoted_value (core.binary o (wanted_in k a) (wanted_in k b) at))) (sym (number_kind (operand_in a) (operand_in b) e)) (tt, refl, ((one ∙ sym two, λ k. never (sym one ∙ k)), ga.sound, gb.sound))

  -- two words, each a pointer to an object, or each a number
  pub record AreOfKind (pointer : Bool) (v w : core.Exp) : Type 0 where
    pub first : is_pointer v ≡ pointer
    pub second : is_pointer w ≡ pointer
    pub first_sound : IsSoundExp p home f v
    pub second_sound : IsSoundExp p home f w

  -- what two operands are, by whether they are numbers and whether they are pointers to functions
  abbrev pub kind_by : (w c : Bool) → WordKind
  kind_by w c = if w then kind.Number else if c then kind.Function else kind.Pointer

  words_of_kind : (a b : Part) (w c : Bool) → are_whole (operand_in a) (operand_in b) ≡ w → are_functions (operand_in a) (operand_in b) ≡ c → PartGivesAll p home f structs a → PartGivesAll p home f structs b →
      (w ≡ false → c ≡ false → (is_some_pointer (operand_in a) ≡ true) × (is_some_pointer (operand_in b) ≡ true)) → AreOfKind (not w && not c) (wanted_in (kind_by w c) a) (wanted_in (kind_by w c) b)
  words_of_kind a b true c e d ga gb h =
      let are = both (is_whole (operand_in a)) (is_whole (operand_in b)) e in
      record { first = gives_whole p home f structs (operand_in a) _ _ ga.objects are.0; second = gives_whole p home f structs (operand_in b) _ _ gb.objects are.1; first_sound = ga.objects.sound; second_sound = gb.objects.sound }
  words_of_kind a b false true e d ga gb h =
      let are = both_functions (operand_in a) (operand_in b) d in
      record { first = ga.functions.word are.0; second = gb.functions.word are.1; first_sound = ga.functions.sound; second_sound = gb.functions.sound }
  words_of_kind a b false false e d ga gb h =
      let are = h refl refl in
      record { first = ga.objects.pointer are.0; second = gb.objects.pointer are.1; first_sound = ga.objects.pointer_sound; second_sound = gb.objects.pointer_sound }

  -- two of one kind are compared
  compared_stand : (o : FlowOp) (a b : Part) (at : Position) → PartGivesAll p home f structs a → PartGivesAll p home f structs b → is_comparison o ≡ true →
      (are_whole (operand_in a) (operand_in b) ≡ false → are_functions (operand_in a) (operand_in b) ≡ false → (is_some_pointer (operand_in a) ≡ true) × (is_some_pointer (operand_in b) ≡ true)) →
      Stands p home f structs int_value (denoted_value (operated_in o a b at))
  compared_stand o a b at ga gb k h =
      let are = words_of_kind a b (are_whole (operand_in a) (operand_in b)) (are_functions (operand_in a) (operand_in b)) refl refl ga gb h in
      (tt, refl, ((are.first ∙ sym are.second, λ q. k), are.first_sound, are.second_sound))

  pub equal_stands : (o : FlowOp) (a b : Part) (at : Position) → PartGivesAll p home f structs a → PartGivesAll p home f structs b → is_comparison o ≡ true →
      (are_whole (operand_in a) (operand_in b) || are_compatible (operand_in a) (operand_in b) || are_functions (operand_in a) (operand_in b)) ≡ true →
      Stands p home f structs int_value (denoted_value (operated_in o a b at))
  equal_stands o a b at ga gb k e = compared_stand o a b at ga gb k (λ w c. compatible_pointers (operand_in a) (operand_in b) (second_of_three _ _ _ e w c))

  pub ordered_stands : (o : FlowOp) (a b : Part) (at : Position) → PartGivesAll p home f structs a → PartGivesAll p home f structs b → is_comparison o ≡ true → (are_whole (operand_in a) (operand_in b) || are_alike (operand_in a) (operand_in b)) ≡ true →
      Stands p home f structs int_value (denoted_value (operated_in o a b at))
  ordered_stands o a b at ga gb k e = compared_stand o a b at ga gb k (λ w c. alike_pointers (operand_in a) (operand_in b) (second_of_two _ _ e w))

  -- ---- the choice

  chosen_formed : (a b : Operand) → IsFormedOperand structs a → IsFormedOperand structs b → IsFormedOrVoid structs (chosen_target a b)
  chosen_formed (pointing s) (pointing t) h k = by (is_void t)
    where
      by : (v : Bool) → IsFormedOrVoid structs (if v then t else s)
      by true = k
      by false = h
  chosen_formed (pointing s) any_operand h k = h
  chosen_formed (pointing s) whole h k = h
  chosen_formed (pointing s) zero_operand h k = h
  chosen_formed (pointing s) null_operand h k = h
  chosen_formed (pointing s) (function_operand n0) h k = h
  chosen_formed (pointing s) no_operand h k = h
  chosen_formed any_operand (pointing t) h k = k
  chosen_formed whole (pointing t) h k = k
  chosen_formed zero_operand (pointing t) h k = k
  chosen_formed null_operand (pointing t) h k = k
  chosen_formed (function_operand n0) (pointing t) h k = k
  chosen_formed no_operand (pointing t) h k = k
  chosen_formed _ _ h k = tt

  chosen_stands : (a b c : Part) (at : Position) (w q : Bool) → are_whole (operand_in b) (operand_in c) ≡ w → are_functions (operand_in b) (operand_in c) ≡ q → (w || are_compatible (operand_in b) (operand_in c) || q) ≡ true →
      PartGives p home f structs a → PartGivesAll p home f structs b → PartGivesAll p home f structs c →
      Stands p home f structs (chosen (operand_in b) (operand_in c)) (denoted_value (core.conditional (value_in a) (wanted_in (kind_by w q) b) (wanted_in (kind_by w q) c) at))
  chosen_stands a b c at true q e d h ga gb gc =
      let are = words_of_kind b c true q e d gb gc (λ w. never' w) in
      subst (λ s. Stands p home f structs s (denoted_value (core.conditional (value_in a) (value_in b) (value_in c) at))) (sym (chosen_number (operand_in b) (operand_in c) e)) (tt, are.first, (are.first ∙ sym are.second, ga.sound, are.first_sound, are.second_sound))
  chosen_stands a b c at false true e d h ga gb gc =
      let are = words_of_kind b c false true e d gb gc (λ w q. never' q) in
      let is = chosen_function (operand_in b) (operand_in c) d in
      subst (λ s. Stands p home f structs s (denoted_value (core.conditional (value_in a) (wanted_in kind.Function b) (wanted_in kind.Function c) at))) (sym is.1) (tt, are.first, (are.first ∙ sym are.second, ga.sound, are.first_sound, are.second_sound))
  chosen_stands a b c at false false e d h ga gb gc =
      let some = compatible_pointers (operand_in b) (operand_in c) (second_of_three _ _ _ h refl refl) in
      let are = words_of_kind b c false false e d gb gc (λ w q. some) in
      subst (λ s. Stands p home f structs s (denoted_value (core.conditional (value_in a) (wanted_in kind.Pointer b) (wanted_in kind.Pointer c) at))) (sym (chosen_pointer (operand_in b) (operand_in c) some.0 some.1 e))
      (chosen_formed (operand_in b) (operand_in c) gb.objects.formed gc.objects.formed, are.first, (are.first ∙ sym are.second, ga.sound, are.first_sound, are.second_sound))

  pub conditional_stands : (a b c : Part) (at : Position) → PartGives p home f structs a → PartGivesAll p home f structs b → PartGivesAll p home f structs c → (is_scalar (operand_in a) && can_choose (operand_in b) (operand_in c)) ≡ true →
      Stands p home f structs (conditional_standing (operand_in a) (operand_in b) (operand_in c)) (denoted_value (conditional_in a b c at))
  conditional_stands a b c at ga gb gc h =
      let are = both (is_scalar (operand_in a)) (can_choose (operand_in b) (operand_in c)) h in
      where_true p home f structs (is_scalar (operand_in a) && is_typed (operand_in a)) _ no_type _ (and_from _ _ are.0 ga.typed)
      (settled_stands p home f structs (can_choose (operand_in b) (operand_in c)) (operand_in b) (operand_in c) (chosen (operand_in b) (operand_in c)) _ are.1 gb.objects.typed gc.objects.typed
      (chosen_stands a b c at (are_whole (operand_in b) (operand_in c)) (are_functions (operand_in b) (operand_in c)) refl refl are.1 ga gb gc))

  -- ---- pointers that move

  module _ (s : Source) (sizes : (t : ObjectType) → IsFormed structs t → 1 ≤ cells_of_type s.whole t) where
    -- what isn't Void has a size
    pub sized : (t : ObjectType) → IsFormedOrVoid structs t → is_void t ≡ false → 1 ≤ cells_of_type s.whole t
    sized t h v = sizes t (formed_pointee structs t.layers t.base h v)

    abbrev sum_by : Operand → Operand → core.Exp → core.Exp → Position → core.Exp
    sum_by a b va vb at = if is_pointing a then core.move va vb (element_of s a) false at else if is_pointing b then core.advance va vb (element_of s b) at else core.binary flow.Add va vb at

    move_stands : (t : ObjectType) (b : Operand) (va qa vb qb : core.Exp) (back : Bool) (at : Position) → gives (pointing t) va qa → gives b vb qb → is_void t ≡ false → is_whole b ≡ true →
        Stands p home f structs (a_value (pointer_to t)) (denoted_value (core.move va vb (cells_of_type s.whole t) back at))
    move_stands t b va qa vb qb back at ga gb v w = (ga.formed, refl, (ga.kind, gives_whole p home f structs b vb qb gb w, sized t ga.formed v, ga.sound, gb.sound))

    advance_stands : (t : ObjectType) (a : Operand) (va qa vb qb : core.Exp) (at : Position) → gives a va qa → gives (pointing t) vb qb → is_void t ≡ false → is_whole a ≡ true →
        Stands p home f structs (a_value (pointer_to t)) (denoted_value (core.advance va vb (cells_of_type s.whole t) at))
    advance_stands t a va qa vb qb at ga gb v w = (gb.formed, refl, (gives_whole p home f structs a va qa ga w, gb.kind, sized t gb.formed v, ga.sound, gb.sound))

    add_stands : (o : FlowOp) (a b : Operand) (va qa vb qb : core.Exp) (at : Position) → gives a va qa → gives b vb qb → is_whole a ≡ true → is_whole b ≡ true →
        Stands p home f structs int_value (denoted_value (core.binary o va vb at))
    add_stands o a b va qa vb qb at ga gb x y =
        let one = gives_whole p home f structs a va qa ga x in
        let two = gives_whole p home f structs b vb qb gb y in
        (tt, refl, ((one ∙ sym two, λ k. never (sym one ∙ k)), ga.sound, gb.sound))

    sum_stands : (a b : Operand) (va qa vb qb : core.Exp) (at : Position) → gives a va qa → gives b vb qb → can_add a b ≡ true →
        Stands p home f structs (sum_of a b) (denoted_value (sum_by a b va vb at))
    sum_stands any_operand b va qa vb qb at ga gb h = never ga.typed
    sum_stands (pointing t) b va qa vb qb at ga gb h = move_stands t b va qa vb qb false at ga gb (add_front t b h).0 (add_front t b h).1
    sum_stands null_operand b va qa vb qb at ga gb h = never h
    sum_stands (function_operand k) b va qa vb qb at ga gb h = never h
    sum_stands no_operand b va qa vb qb at ga gb h = never h
    sum_stands whole any_operand va qa vb qb at ga gb h = never gb.typed
    sum_stands whole whole va qa vb qb at ga gb h = add_stands flow.Add _ _ va qa vb qb at ga gb refl refl
    sum_stands whole zero_operand va qa vb qb at ga gb h = add_stands flow.Add _ _ va qa vb qb at ga gb refl refl
    sum_stands whole null_operand va qa vb qb at ga gb h = never h
    sum_stands whole (function_operand k) va qa vb qb at ga gb h = never h
    sum_stands whole no_operand va qa vb qb at ga gb h = never h
    sum_stands whole (pointing t) va qa vb qb at ga gb h = advance_stands t _ va qa vb qb at ga gb (not_true (is_void t) h) refl
    sum_stands zero_operand any_operand va qa vb qb at ga gb h = never gb.typed
    sum_stands zero_operand whole va qa vb qb at ga gb h = add_stands flow.Add _ _ va qa vb qb at ga gb refl refl
    sum_stands zero_operand zero_operand va qa vb qb at ga gb h = add_stands flow.Add _ _ va qa vb qb at ga gb refl refl
    sum_stands zero_operand null_operand va qa vb qb at ga gb h = never h
    sum_stands zero_operand (function_operand k) va qa vb qb at ga gb h = never h
    sum_stands zero_operand no_operand va qa vb qb at ga gb h = never h
    sum_stands zero_operand (pointing t) va qa vb qb at ga gb h = advance_stands t _ va qa vb qb at ga gb (not_true (is_void t) h) refl

    -- an element of an array
    element_front : (t : ObjectType) (b : Operand) → can_index (pointing t) b ≡ true → (is_void t ≡ false) × (is_whole b ≡ true)
    element_front t b h = add_front t b h

    element_stands : (a b : Operand) (va qa vb qb : core.Exp) (at : Position) → gives a va qa → gives b vb qb → can_index a b ≡ true →
        Stands p home f structs (element_place a b) (denoted_cells (sum_by a b va vb at) at)
    element_stands any_operand b va qa vb qb at ga gb h = never ga.typed
    element_stands (pointing t) b va qa vb qb at ga gb h =
        let m = move_stands t b va qa vb qb false at ga gb (element_front t b h).0 (element_front t b h).1 in
        (formed_pointee structs t.layers t.base ga.formed (element_front t b h).0, m.1, m.2)
    element_stands null_operand b va qa vb qb at ga gb h = never h
    element_stands (function_operand k) b va qa vb qb at ga gb h = never h
    element_stands no_operand b va qa vb qb at ga gb h = never h
    element_stands whole any_operand va qa vb qb at ga gb h = never gb.typed
    element_stands whole whole va qa vb qb at ga gb h = never h
    element_stands whole zero_operand va qa vb qb at ga gb h = never h
    element_stands whole null_operand va qa vb qb at ga gb h = never h
    element_stands whole (function_operand k) va qa vb qb at ga gb h = never h
    element_stands whole no_operand va qa vb qb at ga gb h = never h
    element_stands whole (pointing t) va qa vb qb at ga gb h =
        let m = advance_stands t _ va qa vb qb at ga gb (not_true (is_void t) h) refl in
        (formed_pointee structs t.layers t.base gb.formed (not_true (is_void t) h), m.1, m.2)
    element_stands zero_operand any_operand va qa vb qb at ga gb h = never gb.typed
    element_stands zero_operand whole va qa vb qb at ga gb h = never h
    element_stands zero_operand zero_operand va qa vb qb at ga gb h = never h
    element_stands zero_operand null_operand va qa vb qb at ga gb h = never h
    element_stands zero_operand (function_operand k) va qa vb qb at ga gb h = never h
    element_stands zero_operand no_operand va qa vb qb at ga gb h = never h
    element_stands zero_operand (pointing t) va qa vb qb at ga gb h =
        let m = advance_stands t _ va qa vb qb at ga gb (not_true (is_void t) h) refl in
        (formed_pointee structs t.layers t.base gb.formed (not_true (is_void t) h), m.1, m.2)

    pub index_stands : (a b : Part) (at : Position) → PartGives p home f structs a → PartGives p home f structs b → can_index (operand_in a) (operand_in b) ≡ true →
        Stands p home f structs (index_standing (operand_in a) (operand_in b)) (index_in s a b at)
    index_stands a b at ga gb h =
        settled_stands p home f structs (can_index (operand_in a) (operand_in b)) (operand_in a) (operand_in b) _ _ h ga.typed gb.typed (element_stands (operand_in a) (operand_in b) _ _ _ _ at ga gb h)

    -- ---- differences

    abbrev difference_by : Operand → Operand → (va qa vb qb : core.Exp) → Position → core.Exp
    difference_by a b va qa vb qb at =
        if is_pointing a && is_whole b then core.move va vb (element_of s a) true at
        else if are_whole a b then core.binary flow.Subtract va vb at
        else core.between qa qb (element_of_either s a b) at

    between_stands : (t : ObjectType) (a b : Operand) (va qa vb qb : core.Exp) (at : Position) → gives a va qa → gives b vb qb → is_some_pointer a ≡ true → is_some_pointer b ≡ true → IsFormedOrVoid structs t → is_void t ≡ false →
        Stands p home f structs int_value (denoted_value (core.between qa qb (cells_of_type s.whole t) at))
    between_stands t a b va qa vb qb at ga gb x y h v = (tt, refl, (ga.pointer x, gb.pointer y, sized t h v, ga.pointer_sound, gb.pointer_sound))

    null_less : (t : ObjectType) → ((true && not (is_void t)) && not (is_void t)) ≡ true → is_void t ≡ false
    null_less t h = not_true (is_void t) (both _ _ h).1

    difference_stands : (a b : Operand) (va qa vb qb : core.Exp) (at : Position) → gives a va qa → gives b vb qb → can_subtract a b ≡ true →
        Stands p home f structs (difference_of a b) (denoted_value (difference_by a b va qa vb qb at))
    difference_stands any_operand b va qa vb qb at ga gb h = never ga.typed
    difference_stands (pointing t) any_operand va qa vb qb at ga gb h = never gb.typed
    difference_stands (pointing t) whole va qa vb qb at ga gb h = move_stands t _ va qa vb qb true at ga gb (subtract_front t whole h) refl
    difference_stands (pointing t) zero_operand va qa vb qb at ga gb h = move_stands t _ va qa vb qb true at ga gb (subtract_front t zero_operand h) refl
    difference_stands (pointing t) null_operand va qa vb qb at ga gb h = between_stands t _ _ va qa vb qb at ga gb refl refl ga.formed (subtract_front t null_operand h)
    difference_stands (pointing t) (pointing u) va qa vb qb at ga gb h = between_stands t _ _ va qa vb qb at ga gb refl refl ga.formed (subtract_front t (pointing u) h)
    difference_stands (pointing t) (function_operand k) va qa vb qb at ga gb h = never (no_function_less t k h)
    difference_stands (pointing t) no_operand va qa vb qb at ga gb h = no_less (either_holds (not (is_void t) && false) (have_distance (pointing t) no_operand) h)
      where
        no_less : {A : Type 0} → ((not (is_void t) && false) ≡ true) ⊎ (have_distance (pointing t) no_operand ≡ true) → A
        no_less (inl e) = never (both (not (is_void t)) false e).1
        no_less (inr e) = never e
    difference_stands null_operand any_operand va qa vb qb at ga gb h = never gb.typed
    difference_stands null_operand whole va qa vb qb at ga gb h = never h
    difference_stands null_operand zero_operand va qa vb qb at ga gb h = never h
    difference_stands null_operand null_operand va qa vb qb at ga gb h = never h
    difference_stands null_operand (pointing t) va qa vb qb at ga gb h = between_stands t _ _ va qa vb qb at ga gb refl refl gb.formed (null_less t h)
    difference_stands null_operand (function_operand k) va qa vb qb at ga gb h = never h
    difference_stands null_operand no_operand va qa vb qb at ga gb h = never h
    difference_stands (function_operand k) b va qa vb qb at ga gb h = never h
    difference_stands no_operand b va qa vb qb at ga gb h = never h
    difference_stands whole any_operand va qa vb qb at ga gb h = never gb.typed
    difference_stands whole whole va qa vb qb at ga gb h = add_stands flow.Subtract _ _ va qa vb qb at ga gb refl refl
    difference_stands whole zero_operand va qa vb qb at ga gb h = add_stands flow.Subtract _ _ va qa vb qb at ga gb refl refl
    difference_stands whole null_operand va qa vb qb at ga gb h = never h
    difference_stands whole (pointing t) va qa vb qb at ga gb h = never h
    difference_stands whole (function_operand k) va qa vb qb at ga gb h = never h
    difference_stands whole no_operand va qa vb qb at ga gb h = never h
    difference_stands zero_operand any_operand va qa vb qb at ga gb h = never gb.typed
    difference_stands zero_operand whole va qa vb qb at ga gb h = add_stands flow.Subtract _ _ va qa vb qb at ga gb refl refl
    difference_stands zero_operand zero_operand va qa vb qb at ga gb h = add_stands flow.Subtract _ _ va qa vb qb at ga gb refl refl
    difference_stands zero_operand null_operand va qa vb qb at ga gb h = never h
    difference_stands zero_operand (pointing t) va qa vb qb at ga gb h = between_stands t _ _ va qa vb qb at ga gb refl refl gb.formed (null_less t h)
    difference_stands zero_operand (function_operand k) va qa vb qb at ga gb h = never h
    difference_stands zero_operand no_operand va qa vb qb at ga gb h = never h

    -- ---- all operators with two operands

    pub operation_stands : (o : BinaryOp) (a b : Part) (at : Position) → PartGivesAll p home f structs a → PartGivesAll p home f structs b → takes o (operand_in a) (operand_in b) ≡ true →
        Stands p home f structs (result_of o (operand_in a) (operand_in b)) (denoted_value (binary_in s o a b at))
    operation_stands op.LogicalOr a b at ga gb h = (tt, refl, (ga.objects.sound, gb.objects.sound))
    operation_stands op.LogicalAnd a b at ga gb h = (tt, refl, (ga.objects.sound, gb.objects.sound))
    operation_stands op.Or a b at ga gb h = numbers_stand flow.Or a b at ga.objects gb.objects h
    operation_stands op.Xor a b at ga gb h = numbers_stand flow.Xor a b at ga.objects gb.objects h
    operation_stands op.And a b at ga gb h = numbers_stand flow.And a b at ga.objects gb.objects h
    operation_stands op.Equal a b at ga gb h = equal_stands flow.Equal a b at ga gb refl h
    operation_stands op.NotEqual a b at ga gb h = equal_stands flow.NotEqual a b at ga gb refl h
    operation_stands op.Less a b at ga gb h = ordered_stands flow.Less a b at ga gb refl h
    operation_stands op.Greater a b at ga gb h = ordered_stands flow.Greater a b at ga gb refl h
    operation_stands op.LessEqual a b at ga gb h = ordered_stands flow.LessEqual a b at ga gb refl h
    operation_stands op.GreaterEqual a b at ga gb h = ordered_stands flow.GreaterEqual a b at ga gb refl h
    operation_stands op.ShiftLeft a b at ga gb h = numbers_stand flow.ShiftLeft a b at ga.objects gb.objects h
    operation_stands op.ShiftRight a b at ga gb h = numbers_stand flow.ShiftRight a b at ga.objects gb.objects h
    operation_stands op.Add a b at ga gb h = sum_stands (operand_in a) (operand_in b) _ _ _ _ at ga.objects gb.objects h
    operation_stands op.Subtract a b at ga gb h = difference_stands (operand_in a) (operand_in b) _ _ _ _ at ga.objects gb.objects h
    operation_stands op.Multiply a b at ga gb h = numbers_stand flow.Multiply a b at ga.objects gb.objects h
    operation_stands op.Divide a b at ga gb h = numbers_stand flow.Divide a b at ga.objects gb.objects h
    operation_stands op.Remainder a b at ga gb h = numbers_stand flow.Remainder a b at ga.objects gb.objects h

    pub binary_stands : (o : BinaryOp) (a b : Part) (at : Position) → PartGivesAll p home f structs a → PartGivesAll p home f structs b → takes o (operand_in a) (operand_in b) ≡ true →
        Stands p home f structs (binary_standing o (operand_in a) (operand_in b)) (denoted_value (binary_in s o a b at))
    binary_stands o a b at ga gb h =
        settled_stands p home f structs (takes o (operand_in a) (operand_in b)) (operand_in a) (operand_in b) _ _ h ga.objects.typed gb.objects.typed (operation_stands o a b at ga gb h)
