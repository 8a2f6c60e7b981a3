-- Names, types by name, and which expressions are places: what is known of them where they have no fault.
use Rattle.std.proofs.Common.{◌≡◌, ℕ, zero, suc, ◌<◌, ◌==◌, nat_lt, Bool, true, false, not, ◌&&◌, if◌then◌else◌, ℤ, pos, [], ◌∷◌, length, replicate, option_map, Option, Some, None, is_some, Ok, refl, ap}
use Rattle.rr_base.specs.Texts.{Text}
use Rattle.c_tree.specs.declared.ctype.Specifier.{Specifier}
use Rattle.c_tree.specs.declared.ctype.Specifier.TheVariants as specifier
use Rattle.c_tree.specs.declared.ctype.CType.{CType}
use Rattle.c_tree.specs.declared.expr.PrefixOp.{PrefixOp}
use Rattle.c_tree.specs.declared.expr.PrefixOp.TheVariants as prefix_op
use Rattle.c_tree.specs.Tree.{Exp, comma, assign, conditional, binary, prefix, sizeof_exp, sizeof_type, cast, index, member, arrow, post_increment, post_decrement, named, call, number, letter, text, null, paren}
use Rattle.rr_base.specs.declared.position.Position.{Position}
use Rattle.c_types.specs.declared.types.BaseType.{BaseType}
use Rattle.c_types.specs.declared.types.BaseType.TheVariants as base
use Rattle.c_types.specs.declared.types.Layer.TheVariants as layer
use Rattle.c_types.specs.declared.types.ObjectType.{ObjectType}
use Rattle.c_types.specs.declared.fault.FaultKind.TheVariants as fault
use Rattle.c_types.specs.Constants.{constant_named}
use Rattle.c_types.specs.Library.{library_named}
use Rattle.c_types.specs.Scopes.{Known, Meaning, variable, function_of, seen, function_numbered, struct_numbered, base_of, starred, type_named, member_of}
use Rattle.c_types.specs.Operands.{Standing, no_type, zero_literal, null_literal, a_value, a_place, Operand, any_operand, whole, zero_operand, null_operand, pointing, function_operand, no_operand, operand_of, is_void, is_typed, int_value}
use Rattle.c_types.specs.Standing.{Target, no_target, pointee, can_index, element_place, place_by, struct_of, pointed_struct, member_standing, constant_standing, named_standing, sizeof_type_standing, standing}
use Rattle.c_rules.specs.Faults.{name_place, mismatch, lacks_struct_by, is_unknown_struct, specifier_faults, is_some_void, name_can_be_place, can_be_place, sizeof_type_faults}
use Rattle.c_numbers.specs.Numbered.{number_seen}
use Rattle.c_locals.specs.Addresses.{maybe_listed, number_of_operand}
use Rattle.core_tree.specs.Core as core
use Rattle.core_tree.specs.Core.{Function, Program}
use Rattle.c_operators.specs.declared.home.Home.{Home}
use Rattle.c_operators.specs.declared.home.Home.TheVariants as kept
use Rattle.c_operators.specs.Denoted.{Denoted, denoted_register, denoted_cells, denoted_zero, denoted_null, denoted_value, position_of}
use Rattle.c_operators.specs.Context.{Context, home_of, home_numbered, function_word}
use Rattle.c_operators.specs.Operators.{member_in}
use Rattle.c_values.specs.Expressions.{constant_by, variable_denoted, named_denoted, denoted}
use Rattle.source_sound.proofs.Environment.{IsFormedPointee, IsFormedLayered, IsFormedOrVoid, IsKept, AreKept}
use Rattle.source_sound.proofs.Apart.{append_nil, comes_not, never, never', both, not_true, not_false}
use Rattle.source_sound.proofs.Standings.{Stands}
use Rattle.source_sound.proofs.Changes.{IsPlace}
use Rattle.source_sound.proofs.Places.{IsInCells}

-- ---- types by name

module _ (known : Known) (structs : ℕ) (names : (name : Text) (k : ℕ) → struct_numbered known name ≡ Some k → k < structs) where
  -- the base of a specifier without a fault
  struct_known : (needs : Bool) (name : Text) (o : Option ℕ) → struct_numbered known name ≡ o → lacks_struct_by known needs o ≡ false →
      (b : BaseType) × (option_map base.Struct o ≡ Some b) × IsFormedPointee structs b
  struct_known needs name None e h = never' h
  struct_known needs name (Some k) e h = (base.Struct k, refl, names name k e)

  base_known : (needs : Bool) (s : Specifier) → specifier_faults known needs s ≡ [] → (b : BaseType) × (base_of known s ≡ Some b) × IsFormedPointee structs b
  base_known needs (specifier.Int at) h = (base.Int, refl, tt)
  base_known needs (specifier.Long second int at) h = (base.Int, refl, tt)
  base_known needs (specifier.Void at) h = (base.Void, refl, tt)
  base_known needs (specifier.Struct name at) h = struct_known needs name.text (struct_numbered known name.text) refl (comes_not (is_unknown_struct known needs name) fault.UnknownName (name_place name) h)
  base_known needs (specifier.PthreadT at) h = (base.Int, refl, tt)
  base_known needs (specifier.PthreadMutexT at) h = (base.Mutex, refl, tt)
  base_known needs (specifier.PthreadCondT at) h = (base.Cond, refl, tt)
  base_known needs (specifier.PthreadBarrierT at) h = (base.Barrier, refl, tt)
  base_known needs (specifier.PthreadRwlockT at) h = (base.RwLock, refl, tt)

  stars_formed : (n : ℕ) (b : BaseType) → IsFormedPointee structs b → IsFormedLayered structs (layer.Pointer ∷ replicate n layer.Pointer) b
  stars_formed zero b h = h
  stars_formed (suc n) b h = stars_formed n b h

  -- the type of a cast without a fault
  pub type_known : (t : CType) (needs : Bool) → specifier_faults known needs t.specifier ≡ [] → (u : ObjectType) × (type_named known t ≡ Some u) × IsFormedOrVoid structs u
  type_known t needs h =
      let b = base_known needs t.specifier h in
      (starred t.stars b.0, ap (option_map (starred t.stars)) b.1, stars_formed t.stars b.0 b.2)

-- a type whose name has no fault has a size
struct_sized : (known : Known) (o : Option ℕ) → lacks_struct_by known true o ≡ false → sizeof_type_standing known (option_map (starred 0) (option_map base.Struct o)) ≡ int_value
struct_sized known None h = never' h
struct_sized known (Some k) h = ap (λ z. if z then int_value else no_type) (not_false (nat_lt k (length known.structs)) h)

sized_by : (known : Known) (n : ℕ) (s : Specifier) → is_some_void (option_map (starred n) (base_of known s)) ≡ false → specifier_faults known (n == 0) s ≡ [] → sizeof_type_standing known (option_map (starred n) (base_of known s)) ≡ int_value
sized_by known zero (specifier.Int at) v h = refl
sized_by known zero (specifier.Long second int at) v h = refl
sized_by known zero (specifier.Void at) v h = never' v
sized_by known zero (specifier.Struct name at) v h = struct_sized known (struct_numbered known name.text) (comes_not (is_unknown_struct known true name) fault.UnknownName (name_place name) h)
sized_by known zero (specifier.PthreadT at) v h = refl
sized_by known zero (specifier.PthreadMutexT at) v h = refl
sized_by known zero (specifier.PthreadCondT at) v h = refl
sized_by known zero (specifier.PthreadBarrierT at) v h = refl
sized_by known zero (specifier.PthreadRwlockT at) v h = refl
sized_by known (suc n) (specifier.Int at) v h = refl
sized_by known (suc n) (specifier.Long second int at) v h = refl
sized_by known (suc n) (specifier.Void at) v h = refl
sized_by known (suc n) (specifier.Struct name at) v h = pointer_sized known n (struct_numbered known name.text) (comes_not (is_unknown_struct known (suc n == 0) name) fault.UnknownName (name_place name) h)
  where
    pointer_sized : (known : Known) (n : ℕ) (o : Option ℕ) → lacks_struct_by known (suc n == 0) o ≡ false → sizeof_type_standing known (option_map (starred (suc n)) (option_map base.Struct o)) ≡ int_value
    pointer_sized known n None h = never' h
    pointer_sized known n (Some k) h = refl
sized_by known (suc n) (specifier.PthreadT at) v h = refl
sized_by known (suc n) (specifier.PthreadMutexT at) v h = refl
sized_by known (suc n) (specifier.PthreadCondT at) v h = refl
sized_by known (suc n) (specifier.PthreadBarrierT at) v h = refl
sized_by known (suc n) (specifier.PthreadRwlockT at) v h = refl

pub sized_type : (known : Known) (t : CType) (at : Position) → sizeof_type_faults known t at ≡ [] → sizeof_type_standing known (type_named known t) ≡ int_value
sized_type known t at h =
    let none = append_nil (mismatch (is_some_void (type_named known t)) at) (specifier_faults known (t.stars == 0) t.specifier) h in
    sized_by known t.stars t.specifier (comes_not (is_some_void (type_named known t)) fault.TypeMismatch at none.0) none.1

module _ (p : Program) (home : ℕ → Option ℕ) (f : Function) (structs : ℕ) where
  -- ---- places

  abbrev IsPlaceOrNone : Standing → Type 0
  IsPlaceOrNone no_type = Unit {0}
  IsPlaceOrNone (a_place t) = Unit {0}
  IsPlaceOrNone _ = ⊥

  place_of_some : (s : Standing) (x : Denoted) → IsPlaceOrNone s → Stands p home f structs s x → IsPlace s
  place_of_some no_type x e h = absurd h
  place_of_some (a_place t) x e h = tt
  place_of_some zero_literal x e h = absurd e
  place_of_some null_literal x e h = absurd e
  place_of_some (a_value t) x e h = absurd e

  some_place : (c : Bool) (s : Standing) → IsPlaceOrNone s → IsPlaceOrNone (if c then s else no_type)
  some_place true s h = h
  some_place false s h = tt

  some_pointee : (a : Operand) → IsPlaceOrNone (pointee a)
  some_pointee (pointing t) = by (is_void t)
    where
      by : (c : Bool) → IsPlaceOrNone (if c then no_type else a_place t)
      by true = tt
      by false = tt
  some_pointee any_operand = tt
  some_pointee whole = tt
  some_pointee zero_operand = tt
  some_pointee null_operand = tt
  some_pointee (function_operand k) = tt
  some_pointee no_operand = tt

  some_element : (a b : Operand) → IsPlaceOrNone (element_place a b)
  some_element (pointing t) b = tt
  some_element _ (pointing t) = tt
  some_element _ _ = tt

  some_member : (m : Option (Option ObjectType)) → IsPlaceOrNone (place_by m)
  some_member None = tt
  some_member (Some None) = tt
  some_member (Some (Some t)) = tt

  some_member_of : (known : Known) (k : Option ℕ) (name : Text) → IsPlaceOrNone (member_standing known k name)
  some_member_of known None name = tt
  some_member_of known (Some k) name = some_member (member_of known k name)

  some_unseen : (c : Option ℤ) → is_some c ≡ false → IsPlaceOrNone (constant_standing c)
  some_unseen None h = tt
  some_unseen (Some n) h = never' h

  some_named : (known : Known) (name : Text) (m : Option Meaning) → name_can_be_place m name ≡ true → IsPlaceOrNone (named_standing known name m (constant_named name))
  some_named known name (Some (variable None)) h = tt
  some_named known name (Some (variable (Some t))) h = tt
  some_named known name (Some (function_of g)) h = never h
  some_named known name None h = some_unseen (constant_named name) (not_true (is_some (constant_named name)) (both (not (is_some (constant_named name))) (not (is_some (library_named name))) h).0)

  some_prefix : (known : Known) (w : Target) (o : PrefixOp) (a : Exp) (at : Position) → can_be_place known (prefix o a at) ≡ true → IsPlaceOrNone (standing known w (prefix o a at))
  some_prefix known w prefix_op.Indirect a at h = some_pointee (operand_of (standing known no_target a))
  some_prefix known w prefix_op.Address a at h = never h
  some_prefix known w prefix_op.Plus a at h = never h
  some_prefix known w prefix_op.Minus a at h = never h
  some_prefix known w prefix_op.Not a at h = never h
  some_prefix known w prefix_op.Complement a at h = never h
  some_prefix known w prefix_op.Increment a at h = never h
  some_prefix known w prefix_op.Decrement a at h = never h

  some_of : (known : Known) (w : Target) (e : Exp) → can_be_place known e ≡ true → IsPlaceOrNone (standing known w e)
  some_of known w (prefix o a at) h = some_prefix known w o a at h
  some_of known w (index a b at) h =
      let i = operand_of (standing known no_target a) in
      let j = operand_of (standing known no_target b) in
      some_place (can_index i j && is_typed i && is_typed j) (element_place i j) (some_element i j)
  some_of known w (member a name at) h = some_member_of known (struct_of (standing known no_target a)) name.text
  some_of known w (arrow a name at) h = some_member_of known (pointed_struct (operand_of (standing known no_target a))) name.text
  some_of known w (named name at) h = some_named known name (seen known name) h
  some_of known w (paren a at) h = some_of known w a h
  some_of known w (comma e es at) h = never h
  some_of known w (assign a o b at) h = never h
  some_of known w (conditional a b c at) h = never h
  some_of known w (binary a o b at) h = never h
  some_of known w (sizeof_exp a at) h = never h
  some_of known w (sizeof_type t at) h = never h
  some_of known w (cast t a at) h = never h
  some_of known w (post_increment a at) h = never h
  some_of known w (post_decrement a at) h = never h
  some_of known w (call name es at) h = never h
  some_of known w (number n at) h = never h
  some_of known w (letter n at) h = never h
  some_of known w (text bytes at) h = never h
  some_of known w (null at) h = never h

  -- what can be a place, and has no fault, is one
  pub is_place : (known : Known) (w : Target) (e : Exp) (x : Denoted) → can_be_place known e ≡ true → Stands p home f structs (standing known w e) x → IsPlace (standing known w e)
  is_place known w e x h s = place_of_some (standing known w e) x (some_of known w e h) s

  -- ---- places in cells

  -- a place is in a register or in cells
  no_value : {A : Type 0} (s : Standing) (e : core.Exp) → IsPlace s → Stands p home f structs s (denoted_value e) → A
  no_value no_type e h k = absurd h
  no_value zero_literal e h k = absurd h
  no_value null_literal e h k = absurd h
  no_value (a_value t) e h k = absurd h
  no_value (a_place t) e h k = absurd k

  no_zero : {A : Type 0} (s : Standing) (at : Position) → IsPlace s → Stands p home f structs s (denoted_zero at) → A
  no_zero no_type at h k = absurd h
  no_zero zero_literal at h k = absurd h
  no_zero null_literal at h k = absurd h
  no_zero (a_value t) at h k = absurd h
  no_zero (a_place t) at h k = absurd k

  member_in_cells : (s : Standing) (x : Denoted) (by : ℕ) (at : Position) → IsPlace s → Stands p home f structs s (member_in x by at) → IsInCells (member_in x by at)
  member_in_cells s (denoted_cells e o) by at h k = tt
  member_in_cells s (denoted_register n o) by at h k = no_zero s at h k
  member_in_cells s (denoted_zero o) by at h k = no_zero s at h k
  member_in_cells s (denoted_null o) by at h k = no_zero s at h k
  member_in_cells s (denoted_value e) by at h k = no_value s e h k

  kept_name : (h : Context) (o : Option ℕ) → AreKept h (maybe_listed o) → IsKept (home_numbered h.frame o)
  kept_name h None k = tt
  kept_name h (Some n) k = k.0

  variable_in_cells : (h : Context) (name : Text) (o : Option Home) (at : Position) → IsKept o → IsInCells (variable_denoted h name o at)
  variable_in_cells h name None at k = tt
  variable_in_cells h name (Some (kept.Register n)) at k = absurd k
  variable_in_cells h name (Some (kept.Object n)) at k = tt

  named_in_cells : (h : Context) (s : Standing) (name : Text) (m : Option Meaning) (b : Bool) (n : ℤ) (at : Position) → IsPlace s → AreKept h (maybe_listed (number_seen h.numbers.scopes name)) → Stands p home f structs s (constant_by b (Ok n) at (named_denoted h name m at)) → IsInCells (constant_by b (Ok n) at (named_denoted h name m at))
  named_in_cells h s name m true n at place k e = no_value s (core.number n at) place e
  named_in_cells h s name None false n at place k e = no_zero s at place e
  named_in_cells h s name (Some (function_of g)) false n at place k e = no_value s (core.number (pos (function_word (function_numbered h.known name))) at) place e
  named_in_cells h s name (Some (variable t)) false n at place k e = variable_in_cells h name (home_of h name) at (kept_name h (number_seen h.numbers.scopes name) k)

  prefix_in_cells : (h : Context) (w : Target) (o : PrefixOp) (a : Exp) (at : Position) → can_be_place h.known (prefix o a at) ≡ true → IsInCells (denoted h w (prefix o a at))
  prefix_in_cells h w prefix_op.Indirect a at e = tt
  prefix_in_cells h w prefix_op.Address a at e = never e
  prefix_in_cells h w prefix_op.Plus a at e = never e
  prefix_in_cells h w prefix_op.Minus a at e = never e
  prefix_in_cells h w prefix_op.Not a at e = never e
  prefix_in_cells h w prefix_op.Complement a at e = never e
  prefix_in_cells h w prefix_op.Increment a at e = never e
  prefix_in_cells h w prefix_op.Decrement a at e = never e

  -- what `&` is applied to is in cells
  pub in_cells : (h : Context) (w : Target) (e : Exp) → can_be_place h.known e ≡ true → AreKept h (number_of_operand h.numbers e) → Stands p home f structs (standing h.known w e) (denoted h w e) → IsInCells (denoted h w e)
  in_cells h w (prefix o a at) e k s = prefix_in_cells h w o a at e
  in_cells h w (index a b at) e k s = tt
  in_cells h w (member a name at) e k s = member_in_cells (standing h.known w (member a name at)) (denoted h no_target a) _ (position_of at) (is_place h.known w (member a name at) _ e s) s
  in_cells h w (arrow a name at) e k s = tt
  in_cells h w (named name at) e k s = named_in_cells h (standing h.known w (named name at)) name (seen h.known name) (is_some (constant_named name)) _ (position_of at) (is_place h.known w (named name at) _ e s) k s
  in_cells h w (paren a at) e k s = in_cells h w a e k s
  in_cells h w (comma a es at) e k s = never e
  in_cells h w (assign a o b at) e k s = never e
  in_cells h w (conditional a b c at) e k s = never e
  in_cells h w (binary a o b at) e k s = never e
  in_cells h w (sizeof_exp a at) e k s = never e
  in_cells h w (sizeof_type t at) e k s = never e
  in_cells h w (cast t a at) e k s = never e
  in_cells h w (post_increment a at) e k s = never e
  in_cells h w (post_decrement a at) e k s = never e
  in_cells h w (call name es at) e k s = never e
  in_cells h w (number n at) e k s = never e
  in_cells h w (letter n at) e k s = never e
  in_cells h w (text bytes at) e k s = never e
  in_cells h w (null at) e k s = never e
