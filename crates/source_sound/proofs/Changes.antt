-- Assignments, `++` and `--`: what they change is there, and takes what it gets.
use Rattle.std.proofs.Common.{◌≡◌, ℕ, ◌≤◌, Bool, true, false, not, ◌&&◌, pos, List, [], ◌∷◌, Option, Some, None, refl, sym, ap, ◌∙◌}
use Rattle.std.proofs.lemmas.Bool.{and_from}
use Rattle.word_semantics.specs.declared.operator.BinaryOp.{BinaryOp as FlowOp}
use Rattle.c_tree.specs.declared.expr.AssignOp.{AssignOp}
use Rattle.c_tree.specs.declared.expr.AssignOp.TheVariants as assign_op
use Rattle.c_types.specs.declared.types.BaseType.{BaseType}
use Rattle.c_types.specs.declared.types.BaseType.TheVariants as base
use Rattle.c_types.specs.declared.types.Layer.{Layer}
use Rattle.c_types.specs.declared.types.Layer.TheVariants as layer
use Rattle.c_types.specs.declared.types.ObjectType.{ObjectType}
use Rattle.c_types.specs.Scopes.{cells_of_type}
use Rattle.c_types.specs.Operands.{Standing, no_type, zero_literal, null_literal, a_value, a_place, Operand, whole, pointing, function_operand, type_operand, layered_operand, layered_value, type_value, is_void, is_typed, is_whole, layered_accepts, accepts, layered_moves, moves, layered_is_int, is_int_type, assigns}
use Rattle.c_types.specs.Standing.{layered_struct, stepped, assign_standing}
use Rattle.c_rules.specs.Faults.{standing_type, assigns_to, steps}
use Rattle.rr_base.specs.declared.position.Position.{Position}
use Rattle.core_tree.specs.declared.value.Change.TheVariants as change
use Rattle.core_tree.specs.Core as core
use Rattle.core_tree.specs.Core.{Function, Program}
use Rattle.core_tree.specs.Meaning.{is_pointer}
use Rattle.c_operators.specs.declared.denoted.WordKind.{WordKind}
use Rattle.c_operators.specs.declared.denoted.WordKind.TheVariants as kind
use Rattle.c_operators.specs.Denoted.{Denoted, denoted_register, denoted_cells, denoted_zero, denoted_null, denoted_value, Part, part_by, operand_in, is_pointing, kind_of, value_in, wanted_in}
use Rattle.c_operators.specs.Context.{Source}
use Rattle.c_operators.specs.Operators.{changing_operator, change_of, changed_by, stored_in, assigned_in, stepped_in}
use Rattle.source_sound.proofs.Environment.{IsFormed}
use Rattle.source_sound.proofs.Apart.{never, both, not_true}
use Rattle.source_sound.proofs.Standings.{formed_or_void, address_layers, Gives, Stands}
use Rattle.source_sound.proofs.FunctionWords.{both_functions, GivesAll, any_sound, PartGivesAll}
use Rattle.source_sound.proofs.Choices.{gives_whole, where_true, type_value_stands}
use Rattle.source_sound.proofs.Operators.{compatible_pointers, sized}

-- an object that moves is a whole number, or a pointer to what has a size
pub no_struct_moves : (ls : List Layer) (b : BaseType) (a : Operand) → layered_moves ls b a ≡ true → layered_struct ls b ≡ None
no_struct_moves [] base.Int a h = refl
no_struct_moves [] (base.Function fn) a h = refl
no_struct_moves [] base.Void a h = refl
no_struct_moves [] (base.Struct k) a h = never h
no_struct_moves [] base.Mutex a h = refl
no_struct_moves [] base.Cond a h = refl
no_struct_moves [] base.Barrier a h = refl
no_struct_moves [] base.RwLock a h = refl
no_struct_moves (l ∷ ls) b a h = refl

no_struct_accepts : (ls : List Layer) (b : BaseType) (a : Operand) → layered_accepts ls b a ≡ true → layered_struct ls b ≡ None
no_struct_accepts [] base.Int a h = refl
no_struct_accepts [] (base.Function fn) a h = refl
no_struct_accepts [] base.Void a h = refl
no_struct_accepts [] (base.Struct k) a h = never h
no_struct_accepts [] base.Mutex a h = refl
no_struct_accepts [] base.Cond a h = refl
no_struct_accepts [] base.Barrier a h = refl
no_struct_accepts [] base.RwLock a h = refl
no_struct_accepts (l ∷ ls) b a h = refl

int_moves : (ls : List Layer) (b : BaseType) (a : Operand) → layered_is_int ls b ≡ true → is_whole a ≡ true → layered_moves ls b a ≡ true
int_moves [] base.Int a h w = w
int_moves [] (base.Function fn) a h w = never h
int_moves [] base.Void a h w = never h
int_moves [] (base.Struct k) a h w = never h
int_moves [] base.Mutex a h w = never h
int_moves [] base.Cond a h w = never h
int_moves [] base.Barrier a h w = never h
int_moves [] base.RwLock a h w = never h
int_moves (l ∷ ls) b a h w = never h

number_moves : (t : ObjectType) (a : Operand) → (is_int_type t && is_whole a) ≡ true → moves t a ≡ true
number_moves t a h = int_moves t.layers t.base a (both (is_int_type t) (is_whole a) h).0 (both (is_int_type t) (is_whole a) h).1

-- it is an object
abbrev pub IsPlace : Standing → Type 0
IsPlace (a_place t) = Unit {0}
IsPlace _ = ⊥

module _ (p : Program) (home : ℕ → Option ℕ) (f : Function) (structs : ℕ) where
  -- what an object of the type accepts is a word of its kind
  accepted_layers : (ls : List Layer) (b : BaseType) (a : Operand) (words : WordKind → core.Exp) → GivesAll p home f structs a words → layered_accepts ls b a ≡ true →
      is_pointer (words (kind_of (layered_operand ls b))) ≡ is_pointing (layered_operand ls b)
  accepted_layers [] base.Int a words g h = gives_whole p home f structs a _ _ g.objects h
  accepted_layers [] base.Void a words g h = never h
  accepted_layers [] (base.Struct k) a words g h = never h
  accepted_layers [] (base.Function k) a words g h = g.functions.word (both_functions (function_operand k) a h).1
  accepted_layers [] base.Mutex a words g h = never h
  accepted_layers [] base.Cond a words g h = never h
  accepted_layers [] base.Barrier a words g h = never h
  accepted_layers [] base.RwLock a words g h = never h
  accepted_layers (layer.Pointer ∷ ls) b a words g h = g.objects.pointer (compatible_pointers (pointing (record { layers = ls; base = b })) a h).1
  accepted_layers (layer.Array m ∷ ls) b a words g h = never h

  pub accepted : (t : ObjectType) (a : Operand) (words : WordKind → core.Exp) → GivesAll p home f structs a words → accepts t a ≡ true →
      is_pointer (words (kind_of (type_operand t))) ≡ is_pointing (type_operand t)
  accepted t a words g h = accepted_layers t.layers t.base a words g h

  -- ---- `=`

  stored_stands : (t : ObjectType) (x : Denoted) (a : Operand) (words : WordKind → core.Exp) (at : Position) → Stands p home f structs (a_place t) x → GivesAll p home f structs a words → accepts t a ≡ true →
      Stands p home f structs (type_value t) (denoted_value (stored_in x (words (kind_of (type_operand t))) at))
  stored_stands t (denoted_register n loaded) a words at h g e =
      let own = accepted t a words g e in
      type_value_stands p home f structs t.layers t.base _ (formed_or_void structs t.layers t.base h.0) (no_struct_accepts t.layers t.base a e)
      (own ∙ address_layers t.layers t.base) (h.2 ∙ ap Some (sym own), any_sound p home f structs (kind_of (type_operand t)) a words g)
  stored_stands t (denoted_cells to loaded) a words at h g e =
      let own = accepted t a words g e in
      type_value_stands p home f structs t.layers t.base _ (formed_or_void structs t.layers t.base h.0) (no_struct_accepts t.layers t.base a e)
      (own ∙ address_layers t.layers t.base) (h.1, h.2, any_sound p home f structs (kind_of (type_operand t)) a words g)
  stored_stands t (denoted_zero loaded) a words at h g e = absurd h
  stored_stands t (denoted_null loaded) a words at h g e = absurd h
  stored_stands t (denoted_value w) a words at h g e = absurd h

  -- ---- the other ones

  module _ (s : Source) (sizes : (t : ObjectType) → IsFormed structs t → 1 ≤ cells_of_type s.whole t) where
    number_changes : (x : Denoted) (o : FlowOp) (a : Operand) (v q : core.Exp) (old : Bool) (at : Position) → Stands p home f structs (a_place (record { layers = []; base = base.Int })) x → Gives p home f structs a v q → is_whole a ≡ true →
        Stands p home f structs (layered_value [] base.Int) (denoted_value (changed_by (change.Compute o) x v old at))
    number_changes (denoted_register n loaded) o a v q old at h g e = (tt, refl, (h.2, gives_whole p home f structs a v q g e, g.sound))
    number_changes (denoted_cells to loaded) o a v q old at h g e = (tt, refl, (h.1, gives_whole p home f structs a v q g e, h.2, g.sound))
    number_changes (denoted_zero loaded) o a v q old at h g e = absurd h
    number_changes (denoted_null loaded) o a v q old at h g e = absurd h
    number_changes (denoted_value w) o a v q old at h g e = absurd h

    pointer_changes : (ls : List Layer) (b : BaseType) (x : Denoted) (back : Bool) (a : Operand) (v q : core.Exp) (old : Bool) (at : Position) → Stands p home f structs (a_place (record { layers = layer.Pointer ∷ ls; base = b })) x → Gives p home f structs a v q →
        is_void (record { layers = ls; base = b }) ≡ false → is_whole a ≡ true →
        Stands p home f structs (layered_value (layer.Pointer ∷ ls) b) (denoted_value (changed_by (change.Move (cells_of_type s.whole (record { layers = ls; base = b })) back) x v old at))
    pointer_changes ls b (denoted_register n loaded) back a v q old at h g d e =
        (h.0, refl, (h.2, (gives_whole p home f structs a v q g e, sized p home f structs s sizes (record { layers = ls; base = b }) h.0 d), g.sound))
    pointer_changes ls b (denoted_cells to loaded) back a v q old at h g d e =
        (h.0, refl, (h.1, (gives_whole p home f structs a v q g e, sized p home f structs s sizes (record { layers = ls; base = b }) h.0 d), h.2, g.sound))
    pointer_changes ls b (denoted_zero loaded) back a v q old at h g d e = absurd h
    pointer_changes ls b (denoted_null loaded) back a v q old at h g d e = absurd h
    pointer_changes ls b (denoted_value w) back a v q old at h g d e = absurd h

    layers_change : (ls : List Layer) (b : BaseType) (x : Denoted) (o : FlowOp) (a : Operand) (v q : core.Exp) (old : Bool) (at : Position) → Stands p home f structs (a_place (record { layers = ls; base = b })) x → Gives p home f structs a v q → layered_moves ls b a ≡ true →
        Stands p home f structs (layered_value ls b) (denoted_value (changed_by (change_of s (layered_operand ls b) o) x v old at))
    layers_change [] base.Int x o a v q old at h g e = number_changes x o a v q old at h g e
    layers_change [] (base.Function fn) x o a v q old at h g e = never e
    layers_change [] base.Void x o a v q old at h g e = never e
    layers_change [] (base.Struct k) x o a v q old at h g e = never e
    layers_change [] base.Mutex x o a v q old at h g e = never e
    layers_change [] base.Cond x o a v q old at h g e = never e
    layers_change [] base.Barrier x o a v q old at h g e = never e
    layers_change [] base.RwLock x o a v q old at h g e = never e
    layers_change (layer.Pointer ∷ ls) b x o a v q old at h g e =
        let are = both (not (is_void (record { layers = ls; base = b }))) (is_whole a) e in
        pointer_changes ls b x _ a v q old at h g (not_true (is_void (record { layers = ls; base = b })) are.0) are.1
    layers_change (layer.Array m ∷ ls) b x o a v q old at h g e = never e

    pub changed_stands : (t : ObjectType) (x : Denoted) (o : FlowOp) (a : Operand) (v q : core.Exp) (old : Bool) (at : Position) → Stands p home f structs (a_place t) x → Gives p home f structs a v q → moves t a ≡ true →
        Stands p home f structs (type_value t) (denoted_value (changed_by (change_of s (type_operand t) o) x v old at))
    changed_stands t x o a v q old at h g e = layers_change t.layers t.base x o a v q old at h g e

    -- ---- `++` and `--`

    one_gives : (at : Position) → Gives p home f structs whole (core.number (pos 1) at) (core.number (pos 1) at)
    one_gives at = record { typed = refl; formed = tt; kind = refl; sound = tt; pointer = λ w. never w; pointer_sound = tt }

    pub stepped_stands : (sa : Standing) (x : Denoted) (o : FlowOp) (old : Bool) (at : Position) → Stands p home f structs sa x → IsPlace sa → steps (standing_type sa) ≡ true →
        Stands p home f structs (stepped sa) (denoted_value (stepped_in s o (part_by sa x) old at))
    stepped_stands no_type x o old at h place e = absurd place
    stepped_stands zero_literal x o old at h place e = absurd place
    stepped_stands null_literal x o old at h place e = absurd place
    stepped_stands (a_value t) x o old at h place e = absurd place
    stepped_stands (a_place t) x o old at h place e = where_true p home f structs (moves t whole) (type_value t) no_type _ e (changed_stands t x o whole _ _ old at h (one_gives at) e)

    -- ---- assignments

    assigned_at : (t : ObjectType) (x : Denoted) (o : AssignOp) (b : Part) (at : Position) → Stands p home f structs (a_place t) x → PartGivesAll p home f structs b → assigns o t (operand_in b) ≡ true →
        Stands p home f structs (type_value t) (denoted_value (assigned_in s o (part_by (a_place t) x) b at))
    assigned_at t x assign_op.Assign b at h g e = stored_stands t x (operand_in b) (λ k. wanted_in k b) at h g e
    assigned_at t x assign_op.Add b at h g e = changed_stands t x (changing_operator assign_op.Add) (operand_in b) (value_in b) (wanted_in kind.Pointer b) false at h g.objects e
    assigned_at t x assign_op.Subtract b at h g e = changed_stands t x (changing_operator assign_op.Subtract) (operand_in b) (value_in b) (wanted_in kind.Pointer b) false at h g.objects e
    assigned_at t x assign_op.Multiply b at h g e = changed_stands t x (changing_operator assign_op.Multiply) (operand_in b) (value_in b) (wanted_in kind.Pointer b) false at h g.objects (number_moves t (operand_in b) e)
    assigned_at t x assign_op.Divide b at h g e = changed_stands t x (changing_operator assign_op.Divide) (operand_in b) (value_in b) (wanted_in kind.Pointer b) false at h g.objects (number_moves t (operand_in b) e)
    assigned_at t x assign_op.Remainder b at h g e = changed_stands t x (changing_operator assign_op.Remainder) (operand_in b) (value_in b) (wanted_in kind.Pointer b) false at h g.objects (number_moves t (operand_in b) e)
    assigned_at t x assign_op.And b at h g e = changed_stands t x (changing_operator assign_op.And) (operand_in b) (value_in b) (wanted_in kind.Pointer b) false at h g.objects (number_moves t (operand_in b) e)
    assigned_at t x assign_op.Or b at h g e = changed_stands t x (changing_operator assign_op.Or) (operand_in b) (value_in b) (wanted_in kind.Pointer b) false at h g.objects (number_moves t (operand_in b) e)
    assigned_at t x assign_op.Xor b at h g e = changed_stands t x (changing_operator assign_op.Xor) (operand_in b) (value_in b) (wanted_in kind.Pointer b) false at h g.objects (number_moves t (operand_in b) e)
    assigned_at t x assign_op.ShiftLeft b at h g e = changed_stands t x (changing_operator assign_op.ShiftLeft) (operand_in b) (value_in b) (wanted_in kind.Pointer b) false at h g.objects (number_moves t (operand_in b) e)
    assigned_at t x assign_op.ShiftRight b at h g e = changed_stands t x (changing_operator assign_op.ShiftRight) (operand_in b) (value_in b) (wanted_in kind.Pointer b) false at h g.objects (number_moves t (operand_in b) e)

    pub assigned_stands : (sa : Standing) (x : Denoted) (o : AssignOp) (b : Part) (at : Position) → Stands p home f structs sa x → IsPlace sa → PartGivesAll p home f structs b → assigns_to o (standing_type sa) (operand_in b) ≡ true →
        Stands p home f structs (assign_standing o sa (operand_in b)) (denoted_value (assigned_in s o (part_by sa x) b at))
    assigned_stands no_type x o b at h place g e = absurd place
    assigned_stands zero_literal x o b at h place g e = absurd place
    assigned_stands null_literal x o b at h place g e = absurd place
    assigned_stands (a_value t) x o b at h place g e = absurd place
    assigned_stands (a_place t) x o b at h place g e =
        where_true p home f structs (assigns o t (operand_in b) && is_typed (operand_in b)) (type_value t) no_type _ (and_from _ _ e g.objects.typed) (assigned_at t x o b at h g e)
