-- Prefix operators, casts and members: what stands for them is there, and of the kind that is known.
use Rattle.std.proofs.Common.{◌≡◌, ℕ, ◌≤◌, Bool, true, false, ◌&&◌, if◌then◌else◌, List, [], ◌∷◌, Option, Some, None, is_none, refl, sym, ap, ◌∙◌, subst}
use Rattle.std.proofs.lemmas.Bool.{and_from}
use Rattle.rr_base.specs.Texts.{Text}
use Rattle.word_semantics.specs.declared.operator.BinaryOp.TheVariants as flow
use Rattle.c_tree.specs.declared.name.Name.{Name}
use Rattle.c_tree.specs.declared.expr.PrefixOp.{PrefixOp}
use Rattle.c_tree.specs.declared.expr.PrefixOp.TheVariants as prefix_op
use Rattle.rr_base.specs.declared.position.Position.{Position}
use Rattle.c_types.specs.declared.types.BaseType.{BaseType}
use Rattle.c_types.specs.declared.types.BaseType.TheVariants as base
use Rattle.c_types.specs.declared.types.Layer.{Layer}
use Rattle.c_types.specs.declared.types.ObjectType.{ObjectType}
use Rattle.c_types.specs.declared.fault.FaultKind.TheVariants as fault
use Rattle.c_types.specs.Types.{pointer_to}
use Rattle.c_types.specs.Scopes.{Known, member_of, cells_of_type}
use Rattle.c_types.specs.Operands.{Standing, no_type, zero_literal, null_literal, a_value, a_place, Operand, any_operand, whole, zero_operand, null_operand, pointing, function_operand, no_operand, operand_of, type_operand, layered_operand, type_value, is_void, is_typed, is_whole, is_scalar}
use Rattle.c_types.specs.Standing.{pointee, points_to_functions, address, prefix_standing, layered_struct, struct_of, pointed_struct, place_by, member_standing, casts_to, can_cast, cast_standing}
use Rattle.c_rules.specs.Faults.{can_follow, can_be_pointed_to, prefix_takes, lacks_struct, lacks_member, member_faults, name_place, mismatch}
use Rattle.c_types.specs.Found.{where_it_comes}
use Rattle.core_tree.specs.Core as core
use Rattle.core_tree.specs.Core.{Function, Program}
use Rattle.core_tree.specs.Meaning.{is_pointer}
use Rattle.c_operators.specs.Denoted.{Denoted, denoted_register, denoted_cells, denoted_zero, denoted_null, denoted_value, Part, part_by, operand_in, is_pointing, value_by, value_in}
use Rattle.c_operators.specs.Context.{Source}
use Rattle.c_operators.specs.Operators.{address_in, prefix_in, is_some_address, cast_in, member_in, arrow_in}
use Rattle.core_tree.specs.Sound.{IsSoundExp}
use Rattle.source_sound.proofs.Environment.{IsFormed, IsFormedGiven, IsFormedOrVoid}
use Rattle.source_sound.proofs.Apart.{append_nil, comes_not, never, not_true, there_is, some_not_none}
use Rattle.source_sound.proofs.Standings.{formed_or_void, formed_pointee, address_layers, Gives, Stands, PartGives, stands_gives}
use Rattle.source_sound.proofs.Choices.{gives_whole, where_true, where_false, made_stands, type_value_stands}
use Rattle.source_sound.proofs.Changes.{IsPlace, stepped_stands}

-- it is an object in cells
abbrev pub IsInCells : Denoted → Type 0
IsInCells (denoted_cells e at) = Unit {0}
IsInCells _ = ⊥

-- what `&`, `++` and `--` are applied to
abbrev pub SuitsPrefix : PrefixOp → Standing → Denoted → Type 0
SuitsPrefix prefix_op.Address sa x = IsInCells x
SuitsPrefix prefix_op.Increment sa x = IsPlace sa
SuitsPrefix prefix_op.Decrement sa x = IsPlace sa
SuitsPrefix _ sa x = Unit {0}

-- a value is no struct
no_struct_given : (n : ℕ) (ls : List Layer) (b : BaseType) → IsFormedGiven n ls b → layered_struct ls b ≡ None
no_struct_given n [] base.Int h = refl
no_struct_given n [] (base.Function fn) h = refl
no_struct_given n [] base.Void h = refl
no_struct_given n [] (base.Struct k) h = absurd h
no_struct_given n [] base.Mutex h = refl
no_struct_given n [] base.Cond h = refl
no_struct_given n [] base.Barrier h = refl
no_struct_given n [] base.RwLock h = refl
no_struct_given n (l ∷ ls) b h = refl

scalar_struct : (ls : List Layer) (b : BaseType) → is_scalar (layered_operand ls b) ≡ true → layered_struct ls b ≡ None
scalar_struct [] base.Int h = refl
scalar_struct [] (base.Function fn) h = refl
scalar_struct [] base.Void h = refl
scalar_struct [] (base.Struct k) h = never h
scalar_struct [] base.Mutex h = refl
scalar_struct [] base.Cond h = refl
scalar_struct [] base.Barrier h = refl
scalar_struct [] base.RwLock h = refl
scalar_struct (l ∷ ls) b h = refl

lacks_none : (a : Operand) (k : Option ℕ) → is_typed a ≡ true → lacks_struct a k ≡ false → is_none k ≡ false
lacks_none any_operand k t h = never t
lacks_none whole k t h = h
lacks_none zero_operand k t h = h
lacks_none null_operand k t h = h
lacks_none (pointing s) k t h = h
lacks_none (function_operand j) k t h = h
lacks_none no_operand k t h = h

module _ (p : Program) (home : ℕ → Option ℕ) (f : Function) (structs : ℕ) where
  -- ---- addresses, and what they lead to

  pub address_stands : (sa : Standing) (x : Denoted) → Stands p home f structs sa x → IsInCells x → can_be_pointed_to sa ≡ true → Stands p home f structs (address sa) (address_in x)
  address_stands no_type x h c q = absurd h
  address_stands zero_literal (denoted_zero at) h c q = absurd c
  address_stands zero_literal (denoted_null at) h c q = absurd c
  address_stands zero_literal (denoted_register n at) h c q = absurd c
  address_stands zero_literal (denoted_cells e at) h c q = absurd h
  address_stands zero_literal (denoted_value e) h c q = absurd c
  address_stands null_literal (denoted_zero at) h c q = absurd c
  address_stands null_literal (denoted_register n at) h c q = absurd c
  address_stands null_literal (denoted_cells e at) h c q = absurd h
  address_stands null_literal (denoted_null at) h c q = absurd c
  address_stands null_literal (denoted_value e) h c q = absurd h
  address_stands (a_value t) (denoted_zero at) h c q = absurd c
  address_stands (a_value t) (denoted_null at) h c q = absurd c
  address_stands (a_value t) (denoted_register n at) h c q = absurd c
  address_stands (a_value t) (denoted_cells e at) h c q = absurd h
  address_stands (a_value t) (denoted_value e) h c q = absurd c
  address_stands (a_place t) (denoted_zero at) h c q = absurd c
  address_stands (a_place t) (denoted_null at) h c q = absurd c
  address_stands (a_place t) (denoted_register n at) h c q = absurd c
  address_stands (a_place t) (denoted_cells e at) h c q = where_false p home f structs (points_to_functions t) no_type (a_value (pointer_to t)) _ (not_true (points_to_functions t) q) (formed_or_void structs t.layers t.base h.0, h.1, h.2)
  address_stands (a_place t) (denoted_value e) h c q = absurd c

  followed_stands : (a : Operand) (v q : core.Exp) (at : Position) → Gives p home f structs a v q → can_follow a ≡ true → Stands p home f structs (pointee a) (denoted_cells v at)
  followed_stands any_operand v q at g h = never g.typed
  followed_stands whole v q at g h = never h
  followed_stands zero_operand v q at g h = never h
  followed_stands null_operand v q at g h = never h
  followed_stands (function_operand k) v q at g h = never h
  followed_stands no_operand v q at g h = never h
  followed_stands (pointing t) v q at g h =
      let some = not_true (is_void t) h in
      where_false p home f structs (is_void t) no_type (a_place t) _ some (formed_pointee structs t.layers t.base g.formed some, g.kind, g.sound)

  module _ (s : Source) (sizes : (t : ObjectType) → IsFormed structs t → 1 ≤ cells_of_type s.whole t) where
    pub prefix_stands : (o : PrefixOp) (sa : Standing) (x : Denoted) (at : Position) → Stands p home f structs sa x → SuitsPrefix o sa x → prefix_takes o sa ≡ true →
        Stands p home f structs (prefix_standing o sa) (prefix_in s o (part_by sa x) at)
    prefix_stands prefix_op.Address sa x at h w e = address_stands sa x h w e
    prefix_stands prefix_op.Indirect sa x at h w e = followed_stands (operand_of sa) _ _ at (stands_gives p home f structs sa x h) e
    prefix_stands prefix_op.Plus sa x at h w e =
        let g = stands_gives p home f structs sa x h in
        made_stands p home f structs (is_whole (operand_of sa)) (operand_of sa) (core.copy (value_by sa x) at) e g.typed (gives_whole p home f structs (operand_of sa) _ _ g e) g.sound
    prefix_stands prefix_op.Minus sa x at h w e =
        let g = stands_gives p home f structs sa x h in
        made_stands p home f structs (is_whole (operand_of sa)) (operand_of sa) _ e g.typed refl (gives_whole p home f structs (operand_of sa) _ _ g e, g.sound)
    prefix_stands prefix_op.Not sa x at h w e =
        let g = stands_gives p home f structs sa x h in
        made_stands p home f structs (is_scalar (operand_of sa)) (operand_of sa) _ e g.typed refl (tt, g.sound)
    prefix_stands prefix_op.Complement sa x at h w e =
        let g = stands_gives p home f structs sa x h in
        made_stands p home f structs (is_whole (operand_of sa)) (operand_of sa) _ e g.typed refl (gives_whole p home f structs (operand_of sa) _ _ g e, g.sound)
    prefix_stands prefix_op.Increment sa x at h w e = stepped_stands p home f structs s sizes sa x flow.Add false at h w e
    prefix_stands prefix_op.Decrement sa x at h w e = stepped_stands p home f structs s sizes sa x flow.Subtract false at h w e

  -- ---- casts

  cast_word : (to from : Bool) (v : core.Exp) (at : Position) → is_pointer v ≡ from → IsSoundExp p home f v →
      (is_pointer (if to then (if from then core.copy v at else core.to_pointer v at) else (if from then core.to_number v at else core.copy v at)) ≡ to)
      × IsSoundExp p home f (if to then (if from then core.copy v at else core.to_pointer v at) else (if from then core.to_number v at else core.copy v at))
  cast_word true true v at k h = (k, h)
  cast_word true false v at k h = (refl, (k, h))
  cast_word false true v at k h = (refl, (k, h))
  cast_word false false v at k h = (k, h)

  pub cast_stands : (t : ObjectType) (stars : ℕ) (a : Part) (at : Position) → IsFormedOrVoid structs t → PartGives p home f structs a → (casts_to (Some t) stars && can_cast (operand_in a)) ≡ true →
      Stands p home f structs (cast_standing (Some t) stars (operand_in a)) (denoted_value (cast_in (is_pointing (type_operand t)) a at))
  cast_stands t stars a at formed g e =
      let word = cast_word (is_pointing (type_operand t)) (is_some_address (operand_in a)) (value_in a) at g.kind g.sound in
      where_true p home f structs (casts_to (Some t) stars && can_cast (operand_in a) && is_typed (operand_in a)) (type_value t) no_type _ (and_from _ _ e g.typed)
      (type_value_stands p home f structs t.layers t.base _ formed (scalar_struct t.layers t.base (first _ _ e)) (word.0 ∙ address_layers t.layers t.base) word.1)
    where
      first : (x y : Bool) → (x && y) ≡ true → x ≡ true
      first true y h = refl
      first false y h = h

  -- ---- members

  -- a struct stands in cells
  struct_in_cells : (sa : Standing) (x : Denoted) (k : ℕ) (by : ℕ) (at : Position) (t : ObjectType) → Stands p home f structs sa x → struct_of sa ≡ Some k → IsFormed structs t → Stands p home f structs (a_place t) (member_in x by at)
  struct_in_cells no_type x k by at t h e r = absurd h
  struct_in_cells zero_literal x k by at t h e r = some_not_none _ _ e refl
  struct_in_cells null_literal x k by at t h e r = some_not_none _ _ e refl
  struct_in_cells (a_value u) (denoted_value v) k by at t h e r = some_not_none _ _ e (no_struct_given structs u.layers u.base h.0)
  struct_in_cells (a_value u) (denoted_zero o) k by at t h e r = absurd h
  struct_in_cells (a_value u) (denoted_null o) k by at t h e r = absurd h
  struct_in_cells (a_value u) (denoted_register n o) k by at t h e r = absurd h
  struct_in_cells (a_value u) (denoted_cells v o) k by at t h e r = absurd h
  struct_in_cells (a_place u) (denoted_register n o) k by at t h e r = some_not_none _ _ e h.1
  struct_in_cells (a_place u) (denoted_cells v o) k by at t h e r = (r, refl, (h.1, h.2))
  struct_in_cells (a_place u) (denoted_zero o) k by at t h e r = absurd h
  struct_in_cells (a_place u) (denoted_null o) k by at t h e r = absurd h
  struct_in_cells (a_place u) (denoted_value v) k by at t h e r = absurd h

  pointed_in_cells : (a : Operand) (v q : core.Exp) (k : ℕ) (by : ℕ) (at : Position) (t : ObjectType) → Gives p home f structs a v q → pointed_struct a ≡ Some k → IsFormed structs t → Stands p home f structs (a_place t) (denoted_cells (core.member v by at) at)
  pointed_in_cells any_operand v q k by at t g e r = some_not_none _ _ e refl
  pointed_in_cells whole v q k by at t g e r = some_not_none _ _ e refl
  pointed_in_cells zero_operand v q k by at t g e r = some_not_none _ _ e refl
  pointed_in_cells null_operand v q k by at t g e r = some_not_none _ _ e refl
  pointed_in_cells (function_operand j) v q k by at t g e r = some_not_none _ _ e refl
  pointed_in_cells no_operand v q k by at t g e r = some_not_none _ _ e refl
  pointed_in_cells (pointing u) v q k by at t g e r = (r, refl, (g.kind, g.sound))

  module _ (known : Known) (members : (k : ℕ) (name : Text) (m : Option ObjectType) → member_of known k name ≡ Some m → (t : ObjectType) × (m ≡ Some t) × IsFormed structs t) where
    -- the struct, and the type of its member
    pub member_known : (a : Operand) (k : Option ℕ) (name : Name) (at : Position) → is_typed a ≡ true → member_faults known a k name at ≡ [] →
        (j : ℕ) × (t : ObjectType) × (k ≡ Some j) × (member_standing known k name.text ≡ a_place t) × IsFormed structs t
    member_known a k name at typed none =
        let none' = append_nil (mismatch (lacks_struct a k) at) (where_it_comes (lacks_member known k name.text) fault.UnknownName (name_place name)) none in
        let some = there_is k (lacks_none a k typed (comes_not (lacks_struct a k) fault.TypeMismatch at none'.0)) in
        let has : lacks_member known (Some some.0) name.text ≡ false = ap (λ z. lacks_member known z name.text) (sym some.1) ∙ comes_not (lacks_member known k name.text) fault.UnknownName (name_place name) none'.1 in
        let m = there_is (member_of known some.0 name.text) has in
        let t = members some.0 name.text m.0 m.1 in
        (some.0, t.0, some.1, ap (λ z. member_standing known z name.text) some.1 ∙ ap place_by (m.1 ∙ ap Some t.1), t.2)

    pub member_stands : (sa : Standing) (x : Denoted) (name : Name) (at : Position) (by : ℕ) (o : Position) → Stands p home f structs sa x → member_faults known (operand_of sa) (struct_of sa) name at ≡ [] →
        Stands p home f structs (member_standing known (struct_of sa) name.text) (member_in x by o)
    member_stands sa x name at by o h none =
        let m = member_known (operand_of sa) (struct_of sa) name at (stands_gives p home f structs sa x h).typed none in
        subst (λ z. Stands p home f structs z (member_in x by o)) (sym m.3) (struct_in_cells sa x m.0 by o m.1 h m.2 m.4)

    pub arrow_stands : (a : Part) (name : Name) (at : Position) (by : ℕ) (o : Position) → PartGives p home f structs a → member_faults known (operand_in a) (pointed_struct (operand_in a)) name at ≡ [] →
        Stands p home f structs (member_standing known (pointed_struct (operand_in a)) name.text) (arrow_in a by o)
    arrow_stands a name at by o g none =
        let m = member_known (operand_in a) (pointed_struct (operand_in a)) name at g.typed none in
        subst (λ z. Stands p home f structs z (arrow_in a by o)) (sym m.3) (pointed_in_cells (operand_in a) _ _ m.0 by o m.1 g m.2 m.4)
