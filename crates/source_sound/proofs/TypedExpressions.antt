-- Each expression without a fault has a type, where the names in reach have types.
use Rattle.std.proofs.Common.{◌≡◌, ℕ, zero, suc, ◌+◌, Bool, true, false, not, ◌&&◌, ◌||◌, ◌==◌, if◌then◌else◌, ℤ, List, [], ◌∷◌, ◌++◌, length, replicate, Option, Some, None, is_some, is_none, slice_get, refl, sym, ap, ◌∙◌, subst, arith, true≢false}
use Rattle.std.specs.Option.{option_map}
use Rattle.std.proofs.lemmas.Bool.{and_from, and_parts}
use Rattle.std.proofs.lemmas.Bool.Decides.{nat_tests}
use Rattle.std.proofs.lemmas.List.{length-replicate}
use Rattle.std.proofs.lemmas.Option.{same_Some, none-some}
use Rattle.rr_base.specs.Texts.{Text, entry_of}
use Rattle.c_tree.specs.declared.name.Name.{Name}
use Rattle.c_tree.specs.declared.ctype.CType.{CType}
use Rattle.c_tree.specs.declared.ctype.Specifier.{Specifier}
use Rattle.c_tree.specs.declared.ctype.Specifier.TheVariants as specifier
use Rattle.c_tree.specs.declared.expr.PrefixOp.{PrefixOp}
use Rattle.c_tree.specs.declared.expr.PrefixOp.TheVariants as prefix_op
use Rattle.c_tree.specs.declared.expr.AssignOp.{AssignOp}
use Rattle.c_tree.specs.declared.expr.AssignOp.TheVariants as assign_op
use Rattle.c_tree.specs.Tree.{Exp, comma, assign, conditional, binary, prefix, sizeof_exp, sizeof_type, cast, index, member, arrow, post_increment, post_decrement, named, call, number, letter, text, null, paren, Exps, no_exp, and_exp}
use Rattle.rr_base.specs.declared.position.Position.{Position}
use Rattle.c_types.specs.declared.types.BaseType.{BaseType}
use Rattle.c_types.specs.declared.types.BaseType.TheVariants as base
use Rattle.c_types.specs.declared.types.Layer.TheVariants as layer
use Rattle.c_types.specs.declared.types.ObjectType.{ObjectType}
use Rattle.c_types.specs.declared.library.StarredType.{StarredType}
use Rattle.c_types.specs.declared.library.Wanted.{Wanted}
use Rattle.c_types.specs.declared.library.Wanted.TheVariants as wants
use Rattle.c_types.specs.declared.library.LibraryName.{LibraryName}
use Rattle.c_types.specs.declared.library.LibraryName.TheVariants as library
use Rattle.c_types.specs.declared.names.Signature.{Signature}
use Rattle.c_types.specs.declared.fault.FaultKind.TheVariants as fault
use Rattle.c_types.specs.Found.{where_it_comes, found_at}
use Rattle.c_types.specs.Numbers.{is_zero}
use Rattle.c_types.specs.Types.{bare}
use Rattle.c_types.specs.Constants.{constant_named}
use Rattle.c_types.specs.Signatures.{type_numbered}
use Rattle.c_types.specs.Scopes.{Known, Scope, Members, Meaning, variable, function_of, seen, seen_in, or_else, has_name, base_of, starred, type_named, member_among, member_of, is_complete}
use Rattle.c_types.specs.Operands.{Standing, no_type, zero_literal, null_literal, a_value, a_place, Operand, any_operand, whole, zero_operand, null_operand, pointing, function_operand, no_operand, operand_of, type_value, is_void, layered_is_void, is_typed, accepts, int_value, takes}
use Rattle.c_types.specs.Library.{starred_type, an_int, wanted_by, given_by, library_named}
use Rattle.c_types.specs.Standing.{Target, no_target, type_target, assigned_target, cast_target, malloc_standing, pointee, is_sized, sizeof_type_standing, casts_to, can_cast, cast_standing, can_index, struct_of, pointed_struct, place_by, member_standing, type_function, signature_by, pointed_signature, pointer_callee, function_value, named_standing, is_main, can_be_used, callee, callee_wants, call_standing, given_type, format_of, number_standing, index_standing, prefix_standing, assign_standing, stepped, element_place, some_library_callee, library_callee, function_callee, callee_of, is_root, is_text, is_null, fits_wanted, can_go, let_go, following, standing, last_standing, fit_wanted}
use Rattle.c_rules.specs.Faults.{name_place, mismatch, specifier_faults, is_some_void, name_can_be_place, is_indirect, can_be_place, standing_type, assigns_to, steps, prefix_takes, needs_place, place_faults, lacks_struct, lacks_member, member_faults, named_faults, count_of, count_faults, begins_with_text, printf_wants, some_library_wants, library_wants, pointer_wants, pointer_call_faults, wants_of, has_no_target, printf_count_faults, library_call_faults, unseen_call_faults, callee_faults, format_faults, is_named, where_judged, one_argument_faults, condition_takes, go_faults, step_faults, place_of_first, sizeof_type_faults, cast_faults, assign_faults, prefix_faults, call_faults, faults, rest_faults, arguments_faults, root_faults, first_place}
use Rattle.c_names.specs.Signatures.{is_void_specifier}
use Rattle.source_sound.proofs.Environment.{IsFormed}
use Rattle.source_sound.proofs.FileLists.{append_nil, nil3, nil4, where_nil, not_nil}
use Rattle.source_sound.proofs.DeclaredTypes.{IsFileBase, base_known, complete_specifier, AreDeclarable, only_pointers, pointers_formed}
use Rattle.source_sound.proofs.FileStructs.{IsMember, AreMembers, AllMembers}
use Rattle.source_sound.proofs.Signatures.{IsKnown, IsSomeResult}
use Rattle.source_sound.proofs.Listed.{lists_of}
use Rattle.source_sound.proofs.PointerNumbers.{PointsKnown}
use Rattle.source_sound.proofs.FileScope.{AllOf, found_entry}
use Rattle.source_sound.proofs.Typing.{pointers_declarable, IsGood, IsGoodOperand, IsGoodTarget, IsObjectStanding, NeedsObject, good_operand, good_typed, as_value_good, given_good, place_target, malloc_good, where_good, made_good, binary_good, conditional_good, index_good, stepped_good, assign_good, prefix_good, let_go_good, after_good}

-- ---- the names in reach

module _ (n : ℕ) where
  -- what its type points to is known, and a function's type has a number
  abbrev pub IsTypedName : Known → Text → Meaning → Type 0
  IsTypedName lists name (variable None) = ⊥
  IsTypedName lists name (variable (Some t)) = IsFormed n t × AreDeclarable t.layers × PointsKnown lists n t
  IsTypedName lists name (function_of g) = IsKnown n g × ((k : ℕ) × (type_numbered lists g ≡ Some k))

  abbrev pub AreTypedScopes : Known → List Scope → Type 0
  AreTypedScopes lists [] = Unit {0}
  AreTypedScopes lists (s ∷ ss) = AllOf (IsTypedName lists) s × AreTypedScopes lists ss

  -- each name and each member has a type
  pub record AreTyped (known : Known) : Type 0 where
    pub names : AreTypedScopes (lists_of known) known.scopes
    pub members : AllMembers n 0 known.structs
    pub structs : length known.struct_names ≡ n

  seen_typed : (lists : Known) (ss : List Scope) (name : Text) (m : Meaning) → AreTypedScopes lists ss → seen_in ss name ≡ Some m → IsTypedName lists name m
  seen_typed lists [] name m h e = absurd (none-some m e)
  seen_typed lists (s ∷ ss) name m h e = by (entry_of s name) refl e (λ k. seen_typed lists ss name m h.1 k)
    where
      by : (o : Option Meaning) → entry_of s name ≡ o → or_else o (seen_in ss name) ≡ Some m → (seen_in ss name ≡ Some m → IsTypedName lists name m) → IsTypedName lists name m
      by None is e rec = rec e
      by (Some x) is e rec = subst (λ z. IsTypedName lists name z) (same_Some x m e) (found_entry (IsTypedName lists) s h.0 name x is)

  named_member : (j : ℕ) (ms : Members) → AreMembers n j ms → AllOf (λ name t. IsMember n j t) ms
  named_member j [] h = tt
  named_member j (m ∷ ms) h = (h.0, named_member j ms h.1)

  place_of_member : (j : ℕ) (m : Option ObjectType) → IsMember n j m → IsGood n (place_by (Some m))
  place_of_member j None h = absurd h
  place_of_member j (Some t) h = (h.0, h.1)

  member_typed : (j : ℕ) (structs : List Members) (k : ℕ) (name : Text) (m : Option ObjectType) → AllMembers n j structs → member_among (slice_get structs k) name ≡ Some m → IsGood n (place_by (Some m))
  member_typed j [] k name m h e = absurd (none-some m e)
  member_typed j (ms ∷ structs) zero name m h e = place_of_member j m (found_entry (λ x t. IsMember n j t) ms (named_member j ms h.0) name m e)
  member_typed j (ms ∷ structs) (suc k) name m h e = member_typed (j + 1) structs k name m h.1 e

  -- ---- named types

  starred_value : (stars : ℕ) (b : BaseType) → IsFileBase n b → IsGood n (type_value (starred stars b))
  starred_value zero b h = tt
  starred_value (suc k) b h = (pointers_formed n (replicate k layer.Pointer) b (only_pointers k) h, pointers_declarable (replicate k layer.Pointer) (only_pointers k))

  starred_target : (stars : ℕ) (b : BaseType) → IsFileBase n b → IsGoodTarget n (type_target (starred stars b))
  starred_target zero b h = tt
  starred_target (suc k) b h = place_target n (layer.Pointer ∷ replicate k layer.Pointer) b (pointers_formed n (replicate k layer.Pointer) b (only_pointers k) h) (only_pointers k)

  type_known : (known : Known) (needs : Bool) (t : CType) → length known.struct_names ≡ n → specifier_faults known needs t.specifier ≡ [] → (b : BaseType) × (base_of known t.specifier ≡ Some b) × (type_named known t ≡ Some (starred t.stars b)) × IsFileBase n b
  type_known known needs t size h =
      let bk = base_known known needs t.specifier h in
      (bk.0, bk.1, ap (λ o. option_map (starred t.stars) o) bk.1, subst (λ k. IsFileBase k bk.0) size bk.2)

  no_void_specifier : (known : Known) (s : Specifier) (b : BaseType) → base_of known s ≡ Some b → layered_is_void [] b ≡ false → is_void_specifier s ≡ false
  no_void_specifier known (specifier.Void at) b e v = absurd (true≢false (ap (λ x. layered_is_void [] x) (same_Some base.Void b e) ∙ v))
  no_void_specifier known (specifier.Int at) b e v = refl
  no_void_specifier known (specifier.Long second int at) b e v = refl
  no_void_specifier known (specifier.Struct name at) b e v = refl
  no_void_specifier known (specifier.PthreadT at) b e v = refl
  no_void_specifier known (specifier.PthreadMutexT at) b e v = refl
  no_void_specifier known (specifier.PthreadCondT at) b e v = refl
  no_void_specifier known (specifier.PthreadBarrierT at) b e v = refl
  no_void_specifier known (specifier.PthreadRwlockT at) b e v = refl

  complete_starred : (known : Known) (s : Specifier) (stars : ℕ) (b : BaseType) → specifier_faults known (stars == 0) s ≡ [] → base_of known s ≡ Some b → is_void (starred stars b) ≡ false → is_complete known (starred stars b) ≡ true
  complete_starred known s zero b h e v = complete_specifier known s b h (no_void_specifier known s b e v) e
  complete_starred known s (suc k) b h e v = refl

  sizeof_good : (known : Known) (t : CType) (at : Position) → length known.struct_names ≡ n → sizeof_type_faults known t at ≡ [] → IsGood n (sizeof_type_standing known (type_named known t))
  sizeof_good known t at size h =
      let a = append_nil (mismatch (is_some_void (type_named known t)) at) (specifier_faults known (t.stars == 0) t.specifier) h in
      let is = type_known known (t.stars == 0) t size a.1 in
      let v : is_void (starred t.stars is.0) ≡ false = ap is_some_void (sym is.2) ∙ where_nil _ _ _ a.0 in
      subst (λ o. IsGood n (sizeof_type_standing known o)) (sym is.2) (where_good n (is_complete known (starred t.stars is.0)) int_value (complete_starred known t.specifier t.stars is.0 a.1 is.1 v) tt)

  cast_good : (known : Known) (t : CType) (a : Operand) (at : Position) → length known.struct_names ≡ n → IsGoodOperand n a → cast_faults known t a at ≡ [] → IsGood n (cast_standing (type_named known t) t.stars a)
  cast_good known t a at size g h =
      let p = append_nil (mismatch (not (casts_to (type_named known t) t.stars && can_cast a)) at) (specifier_faults known false t.specifier) h in
      let is = type_known known false t size p.1 in
      let u = starred t.stars is.0 in
      let ok : (casts_to (Some u) t.stars && can_cast a) ≡ true = ap (λ o. casts_to o t.stars && can_cast a) (sym is.2) ∙ not_nil _ _ _ p.0 in
      subst (λ o. IsGood n (cast_standing o t.stars a)) (sym is.2) (where_good n (casts_to (Some u) t.stars && can_cast a && is_typed a) (type_value u) (and_from (casts_to (Some u) t.stars && can_cast a) (is_typed a) ok (good_typed n a g)) (starred_value t.stars is.0 is.3))

  pub cast_target_good : (known : Known) (t : CType) → length known.struct_names ≡ n → specifier_faults known false t.specifier ≡ [] → IsGoodTarget n (cast_target (type_named known t) t.stars)
  cast_target_good known t size h = let is = type_known known false t size h in subst (λ o. IsGoodTarget n (cast_target o t.stars)) (sym is.2) (starred_target t.stars is.0 is.3)

  -- the right side of an assignment
  pub assigned_good : (o : AssignOp) (s : Standing) → IsGood n s → IsGoodTarget n (assigned_target o s)
  assigned_good assign_op.Assign no_type h = absurd h
  assigned_good assign_op.Assign (a_place t) h = place_target n t.layers t.base h.0 h.1
  assigned_good assign_op.Assign zero_literal h = tt
  assigned_good assign_op.Assign null_literal h = tt
  assigned_good assign_op.Assign (a_value t) h = tt
  assigned_good assign_op.Add s h = tt
  assigned_good assign_op.Subtract s h = tt
  assigned_good assign_op.Multiply s h = tt
  assigned_good assign_op.Divide s h = tt
  assigned_good assign_op.Remainder s h = tt
  assigned_good assign_op.And s h = tt
  assigned_good assign_op.Or s h = tt
  assigned_good assign_op.Xor s h = tt
  assigned_good assign_op.ShiftLeft s h = tt
  assigned_good assign_op.ShiftRight s h = tt

  -- ---- places

  object_or_none : (o : Option (Option ObjectType)) → IsGood n (place_by o) → IsObjectStanding n (place_by o)
  object_or_none None h = absurd h
  object_or_none (Some None) h = absurd h
  object_or_none (Some (Some t)) h = tt

  member_object : (known : Known) (k : Option ℕ) (name : Text) → IsGood n (member_standing known k name) → IsObjectStanding n (member_standing known k name)
  member_object known None name h = absurd h
  member_object known (Some k) name h = object_or_none (member_of known k name) h

  pointee_object : (a : Operand) → IsGood n (pointee a) → IsObjectStanding n (pointee a)
  pointee_object (pointing t) h = by (is_void t) h
    where
      by : (c : Bool) → IsGood n (if c then no_type else a_place t) → IsObjectStanding n (if c then no_type else a_place t)
      by true h = absurd h
      by false h = tt
  pointee_object any_operand h = absurd h
  pointee_object whole h = absurd h
  pointee_object zero_operand h = absurd h
  pointee_object null_operand h = absurd h
  pointee_object (function_operand k) h = absurd h
  pointee_object no_operand h = absurd h

  element_object : (a b : Operand) → IsGood n (element_place a b) → IsObjectStanding n (element_place a b)
  element_object (pointing t) b h = tt
  element_object any_operand (pointing t) h = tt
  element_object any_operand any_operand h = absurd h
  element_object any_operand whole h = absurd h
  element_object any_operand zero_operand h = absurd h
  element_object any_operand null_operand h = absurd h
  element_object any_operand (function_operand k) h = absurd h
  element_object any_operand no_operand h = absurd h
  element_object whole (pointing t) h = tt
  element_object whole any_operand h = absurd h
  element_object whole whole h = absurd h
  element_object whole zero_operand h = absurd h
  element_object whole null_operand h = absurd h
  element_object whole (function_operand k) h = absurd h
  element_object whole no_operand h = absurd h
  element_object zero_operand (pointing t) h = tt
  element_object zero_operand any_operand h = absurd h
  element_object zero_operand whole h = absurd h
  element_object zero_operand zero_operand h = absurd h
  element_object zero_operand null_operand h = absurd h
  element_object zero_operand (function_operand k) h = absurd h
  element_object zero_operand no_operand h = absurd h
  element_object null_operand (pointing t) h = tt
  element_object null_operand any_operand h = absurd h
  element_object null_operand whole h = absurd h
  element_object null_operand zero_operand h = absurd h
  element_object null_operand null_operand h = absurd h
  element_object null_operand (function_operand k) h = absurd h
  element_object null_operand no_operand h = absurd h
  element_object (function_operand k) (pointing t) h = tt
  element_object no_operand (pointing t) h = tt
  element_object (function_operand k) any_operand h = absurd h
  element_object no_operand any_operand h = absurd h
  element_object (function_operand k) whole h = absurd h
  element_object no_operand whole h = absurd h
  element_object (function_operand k) zero_operand h = absurd h
  element_object no_operand zero_operand h = absurd h
  element_object (function_operand k) null_operand h = absurd h
  element_object no_operand null_operand h = absurd h
  element_object (function_operand k) (function_operand j) h = absurd h
  element_object no_operand (function_operand k) h = absurd h
  element_object (function_operand k) no_operand h = absurd h
  element_object no_operand no_operand h = absurd h

  index_object : (a b : Operand) → IsGood n (index_standing a b) → IsObjectStanding n (index_standing a b)
  index_object a b h = by (can_index a b && is_typed a && is_typed b) h
    where
      by : (c : Bool) → IsGood n (if c then element_place a b else no_type) → IsObjectStanding n (if c then element_place a b else no_type)
      by true h = element_object a b h
      by false h = absurd h

  named_object : (known : Known) (m : Option Meaning) (name : Text) → name_can_be_place m name ≡ true → IsGood n (named_standing known name m (constant_named name)) → IsObjectStanding n (named_standing known name m (constant_named name))
  named_object known (Some (variable None)) name e h = absurd h
  named_object known (Some (variable (Some t))) name e h = tt
  named_object known (Some (function_of f)) name e h = absurd (true≢false (sym e))
  named_object known None name e h = by (constant_named name) (and_parts (not (is_some (constant_named name))) (not (is_some (library_named name))) e).0 h
    where
      by : (o : Option ℤ) → not (is_some o) ≡ true → IsGood n (named_standing known name None o) → IsObjectStanding n (named_standing known name None o)
      by None e h = absurd h
      by (Some z) e h = absurd (true≢false (sym e))

  prefix_object : (known : Known) (o : PrefixOp) (s : Standing) → is_indirect o ≡ true → IsGood n (prefix_standing o s) → IsObjectStanding n (prefix_standing o s)
  prefix_object known prefix_op.Indirect s e h = pointee_object (operand_of s) h
  prefix_object known prefix_op.Address s e h = absurd (true≢false (sym e))
  prefix_object known prefix_op.Plus s e h = absurd (true≢false (sym e))
  prefix_object known prefix_op.Minus s e h = absurd (true≢false (sym e))
  prefix_object known prefix_op.Not s e h = absurd (true≢false (sym e))
  prefix_object known prefix_op.Complement s e h = absurd (true≢false (sym e))
  prefix_object known prefix_op.Increment s e h = absurd (true≢false (sym e))
  prefix_object known prefix_op.Decrement s e h = absurd (true≢false (sym e))

  -- what can be a place is an object
  pub is_object : (known : Known) (w : Target) (e : Exp) → can_be_place known e ≡ true → IsGood n (standing known w e) → IsObjectStanding n (standing known w e)
  is_object known w (prefix op a at) e h = prefix_object known op (standing known no_target a) e h
  is_object known w (index a b at) e h = index_object (operand_of (standing known no_target a)) (operand_of (standing known no_target b)) h
  is_object known w (member a name at) e h = member_object known (struct_of (standing known no_target a)) name.text h
  is_object known w (arrow a name at) e h = member_object known (pointed_struct (operand_of (standing known no_target a))) name.text h
  is_object known w (named name at) e h = named_object known (seen known name) name e h
  is_object known w (paren a at) e h = is_object known w a e h
  is_object known w (comma a es at) e h = absurd (true≢false (sym e))
  is_object known w (assign a op b at) e h = absurd (true≢false (sym e))
  is_object known w (conditional a b c at) e h = absurd (true≢false (sym e))
  is_object known w (binary a op b at) e h = absurd (true≢false (sym e))
  is_object known w (sizeof_exp a at) e h = absurd (true≢false (sym e))
  is_object known w (sizeof_type t at) e h = absurd (true≢false (sym e))
  is_object known w (cast t a at) e h = absurd (true≢false (sym e))
  is_object known w (post_increment a at) e h = absurd (true≢false (sym e))
  is_object known w (post_decrement a at) e h = absurd (true≢false (sym e))
  is_object known w (call name es at) e h = absurd (true≢false (sym e))
  is_object known w (number z at) e h = absurd (true≢false (sym e))
  is_object known w (letter z at) e h = absurd (true≢false (sym e))
  is_object known w (text bytes at) e h = absurd (true≢false (sym e))
  is_object known w (null at) e h = absurd (true≢false (sym e))

  -- ---- operators

  needs_object : (o : PrefixOp) (s : Standing) (place : Bool) → (place ≡ true → IsObjectStanding n s) → (not (needs_place o) || place) ≡ true → NeedsObject n o s
  needs_object prefix_op.Address s place h e = h e
  needs_object prefix_op.Increment s place h e = h e
  needs_object prefix_op.Decrement s place h e = h e
  needs_object prefix_op.Indirect s place h e = tt
  needs_object prefix_op.Plus s place h e = tt
  needs_object prefix_op.Minus s place h e = tt
  needs_object prefix_op.Not s place h e = tt
  needs_object prefix_op.Complement s place h e = tt

  prefix_typed : (known : Known) (op : PrefixOp) (a : Exp) (at : Position) → IsGood n (standing known no_target a) → prefix_faults known op a (standing known no_target a) at ≡ [] → IsGood n (prefix_standing op (standing known no_target a))
  prefix_typed known op a at g h =
      let s = standing known no_target a in
      let p = append_nil (place_faults (not (needs_place op) || can_be_place known a) at) (mismatch (not (prefix_takes op s)) at) h in
      prefix_good n op s g (needs_object op s (can_be_place known a) (λ e. is_object known no_target a e g) (not_nil (not (needs_place op) || can_be_place known a) _ _ p.0)) (not_nil (prefix_takes op s) _ _ p.1)

  step_typed : (known : Known) (a : Exp) (at : Position) → IsGood n (standing known no_target a) → step_faults known a (standing known no_target a) at ≡ [] → IsGood n (stepped (standing known no_target a))
  step_typed known a at g h =
      let s = standing known no_target a in
      let p = append_nil (place_faults (can_be_place known a) at) (mismatch (not (steps (standing_type s))) at) h in
      stepped_good n s g (is_object known no_target a (not_nil (can_be_place known a) _ _ p.0) g) (not_nil (steps (standing_type s)) _ _ p.1)

  assign_typed : (known : Known) (op : AssignOp) (a : Exp) (b : Operand) (at : Position) → IsGood n (standing known no_target a) → IsGoodOperand n b → assign_faults known op a (standing known no_target a) b at ≡ [] → IsGood n (assign_standing op (standing known no_target a) b)
  assign_typed known op a b at g k h =
      let s = standing known no_target a in
      let p = append_nil (place_faults (can_be_place known a) at) (mismatch (not (assigns_to op (standing_type s) b)) at) h in
      assign_good n op s b g (is_object known no_target a (not_nil (can_be_place known a) _ _ p.0) g) k (not_nil (assigns_to op (standing_type s) b) _ _ p.1)

  -- ---- members

  lacking : (a : Operand) (k : Option ℕ) → IsGoodOperand n a → lacks_struct a k ≡ false → is_none k ≡ false
  lacking any_operand k g e = absurd g
  lacking whole k g e = e
  lacking zero_operand k g e = e
  lacking null_operand k g e = e
  lacking (pointing t) k g e = e
  lacking (function_operand n0) k g e = e
  lacking no_operand k g e = e

  member_good : (known : Known) (a : Operand) (k : Option ℕ) (name : Name) (at : Position) → AreTyped known → IsGoodOperand n a → member_faults known a k name at ≡ [] → IsGood n (member_standing known k name.text)
  member_good known a k name at typed g h =
      let p = append_nil (mismatch (lacks_struct a k) at) (where_it_comes (lacks_member known k name.text) fault.UnknownName (name_place name)) h in
      by k (lacking a k g (where_nil _ _ _ p.0)) (where_nil _ _ _ p.1)
    where
      there : (i : ℕ) (o : Option (Option ObjectType)) → member_of known i name.text ≡ o → is_none o ≡ false → IsGood n (place_by o)
      there i None is e = absurd (true≢false e)
      there i (Some m) is e = member_typed 0 known.structs i name.text m typed.members is

      by : (k : Option ℕ) → is_none k ≡ false → lacks_member known k name.text ≡ false → IsGood n (member_standing known k name.text)
      by None e l = absurd (true≢false e)
      by (Some i) e l = there i (member_of known i name.text) refl l

  -- ---- names

  function_value_good : (used : Bool) (k : Option ℕ) → used ≡ true → ((j : ℕ) × (k ≡ Some j)) → IsGood n (function_value used k)
  function_value_good true None e some = absurd (none-some some.0 some.1)
  function_value_good true (Some j) e some = tt
  function_value_good false k e some = absurd (true≢false (sym e))

  named_good : (known : Known) (name : Text) (at : Position) (m : Option Meaning) → seen known name ≡ m → AreTyped known → named_faults known m name at ≡ [] → IsGood n (named_standing known name m (constant_named name))
  named_good known name at (Some (variable None)) is typed h = seen_typed (lists_of known) known.scopes name (variable None) typed.names is
  named_good known name at (Some (variable (Some t))) is typed h = let own = seen_typed (lists_of known) known.scopes name (variable (Some t)) typed.names is in (own.0, own.1)
  named_good known name at (Some (function_of f)) is typed h =
      let p = append_nil (where_it_comes (is_main name) fault.BadCall at) (where_it_comes (not (has_name known.defined name)) fault.UnknownName at) h in
      function_value_good (can_be_used known name) (type_numbered known f) (and_from (not (is_main name)) (has_name known.defined name) (ap not (where_nil _ _ _ p.0)) (not_nil (has_name known.defined name) _ _ p.1)) (seen_typed (lists_of known) known.scopes name (function_of f) typed.names is).1
  named_good known name at None is typed h = by (constant_named name) (is_some (library_named name)) h
    where
      by : (o : Option ℤ) (l : Bool) → (if is_some o then [] else (if l then found_at fault.TypeMismatch at ∷ [] else found_at fault.UnknownName at ∷ [])) ≡ [] → IsGood n (named_standing known name None o)
      by (Some z) l h = tt
      by None true h = cc
      by None false h = cc

  -- ---- calls

  same_count : (a b : ℕ) (at : Position) → count_faults a b at ≡ [] → a ≡ b
  same_count a b at h = let e : (a == b) ≡ true = not_nil (a == b) _ _ h in grind (arith, nat_tests)

  -- the arguments fit
  abbrev Fit : Known → List Wanted → Exps → Type 0
  Fit known ws es = fit_wanted known ws es ≡ true

  one_fits : (known : Known) (x : Wanted) (e : Exp) (at : Position) → (faults known no_target e ≡ [] → IsGood n (standing known no_target e)) → one_argument_faults known x at e (faults known no_target e) ≡ [] → fits_wanted known x e (standing known no_target e) ≡ true
  one_fits known (wants.Fits t) e at rec h =
      let s = standing known no_target e in
      let p = append_nil (faults known no_target e) (mismatch (not (accepts (starred_type t) (operand_of s))) at) h in
      and_from (accepts (starred_type t) (operand_of s)) (is_typed (operand_of s)) (not_nil (accepts (starred_type t) (operand_of s)) _ _ p.1) (good_typed n (operand_of s) (good_operand n s (rec p.0)))
  one_fits known wants.Anything e at rec h = let p = append_nil (faults known no_target e) [] h in good_typed n (operand_of (standing known no_target e)) (good_operand n (standing known no_target e) (rec p.0))
  one_fits known wants.Attribute e at rec h = let p = append_nil (faults known no_target e) (where_it_comes (not (is_null (standing known no_target e))) fault.OutOfProfile (first_place e)) h in not_nil (is_null (standing known no_target e)) _ _ p.1
  one_fits known wants.Root e at rec h =
      let p = append_nil (where_judged (not (is_named e)) (faults known no_target e)) (where_it_comes (not (is_root known e)) fault.BadRoot (first_place e) ++ root_faults known e) h in
      let q = append_nil (where_it_comes (not (is_root known e)) fault.BadRoot (first_place e)) (root_faults known e) p.1 in
      not_nil (is_root known e) _ _ q.0
  one_fits known wants.Text e at rec h = let p = append_nil (where_judged (not (is_text e)) (faults known no_target e)) (where_it_comes (not (is_text e)) fault.OutOfProfile (first_place e)) h in not_nil (is_text e) _ _ p.1

  given_result : (r : Option StarredType) → IsSomeResult n r → IsGood n (given_type r)
  given_result None h = absurd h
  given_result (Some t) h = given_good n t h

  function_good : (known : Known) (name : Text) (f : Signature) (es : Exps) → (not (is_main name) && has_name known.defined name) ≡ true → IsSomeResult n f.result → Fit known f.params es →
      IsGood n (call_standing (function_callee (can_be_used known name) f) (fit_wanted known (callee_wants (function_callee (can_be_used known name) f)) es))
  function_good known name f es is result fit =
      subst (λ b. IsGood n (call_standing (function_callee b f) (fit_wanted known (callee_wants (function_callee b f)) es))) (sym is) (where_good n (fit_wanted known f.params es) (given_type f.result) fit (given_result f.result result))

  some_target_is : (w : Target) → has_no_target w ≡ false → w ≡ no_target → ⊥
  some_target_is w e is = true≢false (sym (ap has_no_target is) ∙ e)

  -- what a call of the library gives, where its arguments fit
  abbrev LibraryGives : Known → Target → LibraryName → Option ℕ → Exps → Type 0
  LibraryGives known w c format es = IsGood n (call_standing (some_library_callee c w format) (fit_wanted known (callee_wants (some_library_callee c w format)) es))

  plain_given : (known : Known) (ws : List Wanted) (b : BaseType) (es : Exps) → Fit known ws es → IsGood n (call_standing (callee ws (type_value (bare b))) (fit_wanted known (callee_wants (callee ws (type_value (bare b)))) es))
  plain_given known ws b es fit = where_good n (fit_wanted known ws es) (type_value (bare b)) fit tt

  -- a format is known where the call has no fault
  printf_good : (known : Known) (w : Target) (format : Option ℕ) (es : Exps) (at here' : Position) → format_of es ≡ format → ((many : ℕ) → count_of es ≡ length (printf_wants format) → Fit known (printf_wants format) es) →
      printf_count_faults (begins_with_text es) format (count_of es) at ≡ [] → format_faults (begins_with_text es) (Some library.PrintFormat) None format here' ≡ [] → arguments_faults known (printf_wants format) at es ≡ [] → LibraryGives known w library.PrintFormat format es
  printf_good known w None es at here' is fit c f args = absurd (no_text es c f args)
    where
      no_text : (es : Exps) → printf_count_faults (begins_with_text es) None (count_of es) at ≡ [] → format_faults (begins_with_text es) (Some library.PrintFormat) None None here' ≡ [] → arguments_faults known (wants.Text ∷ []) at es ≡ [] → ⊥
      no_text no_exp c f args = cc
      no_text (and_exp e es) c f args = by e f (not_nil (is_text e) _ _ (append_nil (where_judged (not (is_text e)) (faults known no_target e)) (where_it_comes (not (is_text e)) fault.OutOfProfile (first_place e)) (append_nil (one_argument_faults known wants.Text at e (faults known no_target e)) (arguments_faults known [] at es) args).0).1)
        where
          by : (e : Exp) → format_faults (begins_with_text (and_exp e es)) (Some library.PrintFormat) None None here' ≡ [] → is_text e ≡ true → ⊥
          by (text bytes at) f q = cc
          by (comma a es at) f q = true≢false (sym q)
          by (assign a op b at) f q = true≢false (sym q)
          by (conditional a b c at) f q = true≢false (sym q)
          by (binary a op b at) f q = true≢false (sym q)
          by (prefix op a at) f q = true≢false (sym q)
          by (sizeof_exp a at) f q = true≢false (sym q)
          by (sizeof_type t at) f q = true≢false (sym q)
          by (cast t a at) f q = true≢false (sym q)
          by (index a b at) f q = true≢false (sym q)
          by (member a name at) f q = true≢false (sym q)
          by (arrow a name at) f q = true≢false (sym q)
          by (post_increment a at) f q = true≢false (sym q)
          by (post_decrement a at) f q = true≢false (sym q)
          by (named name at) f q = true≢false (sym q)
          by (call name es at) f q = true≢false (sym q)
          by (number z at) f q = true≢false (sym q)
          by (letter z at) f q = true≢false (sym q)
          by (null at) f q = true≢false (sym q)
          by (paren a at) f q = true≢false (sym q)
  printf_good known w (Some m) es at here' is fit c f args =
      let many = fit 0 (counted es c is) in
      where_good n (fit_wanted known (wants.Text ∷ replicate m an_int) es) int_value many tt
    where
      long : length (wants.Text ∷ replicate m an_int) ≡ m + 1
      long = let l = length-replicate m an_int in omega (arith, l)

      counted : (es : Exps) → printf_count_faults (begins_with_text es) (Some m) (count_of es) at ≡ [] → format_of es ≡ Some m → count_of es ≡ length (wants.Text ∷ replicate m an_int)
      counted es c is = by (begins_with_text es) refl c
        where
          no_format : (es : Exps) → begins_with_text es ≡ false → format_of es ≡ Some m → ⊥
          no_format no_exp b is = none-some m is
          no_format (and_exp e es) b is = first e b is
            where
              first : (e : Exp) → begins_with_text (and_exp e es) ≡ false → format_of (and_exp e es) ≡ Some m → ⊥
              first (text bytes at) q is = true≢false q
              first (comma a es at) q is = none-some m is
              first (assign a op b at) q is = none-some m is
              first (conditional a b c at) q is = none-some m is
              first (binary a op b at) q is = none-some m is
              first (prefix op a at) q is = none-some m is
              first (sizeof_exp a at) q is = none-some m is
              first (sizeof_type t at) q is = none-some m is
              first (cast t a at) q is = none-some m is
              first (index a b at) q is = none-some m is
              first (member a name at) q is = none-some m is
              first (arrow a name at) q is = none-some m is
              first (post_increment a at) q is = none-some m is
              first (post_decrement a at) q is = none-some m is
              first (named name at) q is = none-some m is
              first (call name es at) q is = none-some m is
              first (number z at) q is = none-some m is
              first (letter z at) q is = none-some m is
              first (null at) q is = none-some m is
              first (paren a at) q is = none-some m is

          by : (b : Bool) → begins_with_text es ≡ b → printf_count_faults b (Some m) (count_of es) at ≡ [] → count_of es ≡ length (wants.Text ∷ replicate m an_int)
          by true e h = same_count (count_of es) (m + 1) at h ∙ sym long
          by false e h = absurd (no_format es e is)

  library_good : (known : Known) (w : Target) (c : LibraryName) (format : Option ℕ) (es : Exps) (at here' : Position) → IsGoodTarget n w → format_of es ≡ format → (count_of es ≡ length (some_library_wants c format) → Fit known (some_library_wants c format) es) →
      library_call_faults c w (begins_with_text es) format (count_of es) at ≡ [] → format_faults (begins_with_text es) (Some c) None format here' ≡ [] → arguments_faults known (some_library_wants c format) at es ≡ [] → LibraryGives known w c format es
  library_good known w library.Malloc format es at here' target is fit c f args =
      let p = append_nil (where_it_comes (has_no_target w) fault.OutOfProfile at) (count_faults (count_of es) 1 at) c in
      where_good n (fit_wanted known (wanted_by library.Malloc) es) (malloc_standing w) (fit (same_count (count_of es) 1 at p.1)) (malloc_good n w target (some_target_is w (where_nil _ _ _ p.0)))
  library_good known w library.PrintFormat format es at here' target is fit c f args = printf_good known w format es at here' is (λ many e. fit e) c f args
  library_good known w library.Create format es at here' target is fit c f args = plain_given known (wanted_by library.Create) (given_by library.Create) es (fit (same_count (count_of es) (length (wanted_by library.Create)) at c))
  library_good known w library.Join format es at here' target is fit c f args = plain_given known (wanted_by library.Join) (given_by library.Join) es (fit (same_count (count_of es) (length (wanted_by library.Join)) at c))
  library_good known w library.Exit format es at here' target is fit c f args = plain_given known (wanted_by library.Exit) (given_by library.Exit) es (fit (same_count (count_of es) (length (wanted_by library.Exit)) at c))
  library_good known w library.SelfNumber format es at here' target is fit c f args = plain_given known (wanted_by library.SelfNumber) (given_by library.SelfNumber) es (fit (same_count (count_of es) (length (wanted_by library.SelfNumber)) at c))
  library_good known w library.SameThread format es at here' target is fit c f args = plain_given known (wanted_by library.SameThread) (given_by library.SameThread) es (fit (same_count (count_of es) (length (wanted_by library.SameThread)) at c))
  library_good known w library.MutexInit format es at here' target is fit c f args = plain_given known (wanted_by library.MutexInit) (given_by library.MutexInit) es (fit (same_count (count_of es) (length (wanted_by library.MutexInit)) at c))
  library_good known w library.MutexLock format es at here' target is fit c f args = plain_given known (wanted_by library.MutexLock) (given_by library.MutexLock) es (fit (same_count (count_of es) (length (wanted_by library.MutexLock)) at c))
  library_good known w library.MutexUnlock format es at here' target is fit c f args = plain_given known (wanted_by library.MutexUnlock) (given_by library.MutexUnlock) es (fit (same_count (count_of es) (length (wanted_by library.MutexUnlock)) at c))
  library_good known w library.MutexTryLock format es at here' target is fit c f args = plain_given known (wanted_by library.MutexTryLock) (given_by library.MutexTryLock) es (fit (same_count (count_of es) (length (wanted_by library.MutexTryLock)) at c))
  library_good known w library.MutexDestroy format es at here' target is fit c f args = plain_given known (wanted_by library.MutexDestroy) (given_by library.MutexDestroy) es (fit (same_count (count_of es) (length (wanted_by library.MutexDestroy)) at c))
  library_good known w library.CondInit format es at here' target is fit c f args = plain_given known (wanted_by library.CondInit) (given_by library.CondInit) es (fit (same_count (count_of es) (length (wanted_by library.CondInit)) at c))
  library_good known w library.CondWait format es at here' target is fit c f args = plain_given known (wanted_by library.CondWait) (given_by library.CondWait) es (fit (same_count (count_of es) (length (wanted_by library.CondWait)) at c))
  library_good known w library.CondSignal format es at here' target is fit c f args = plain_given known (wanted_by library.CondSignal) (given_by library.CondSignal) es (fit (same_count (count_of es) (length (wanted_by library.CondSignal)) at c))
  library_good known w library.CondBroadcast format es at here' target is fit c f args = plain_given known (wanted_by library.CondBroadcast) (given_by library.CondBroadcast) es (fit (same_count (count_of es) (length (wanted_by library.CondBroadcast)) at c))
  library_good known w library.CondDestroy format es at here' target is fit c f args = plain_given known (wanted_by library.CondDestroy) (given_by library.CondDestroy) es (fit (same_count (count_of es) (length (wanted_by library.CondDestroy)) at c))
  library_good known w library.BarrierInit format es at here' target is fit c f args = plain_given known (wanted_by library.BarrierInit) (given_by library.BarrierInit) es (fit (same_count (count_of es) (length (wanted_by library.BarrierInit)) at c))
  library_good known w library.BarrierWait format es at here' target is fit c f args = plain_given known (wanted_by library.BarrierWait) (given_by library.BarrierWait) es (fit (same_count (count_of es) (length (wanted_by library.BarrierWait)) at c))
  library_good known w library.BarrierDestroy format es at here' target is fit c f args = plain_given known (wanted_by library.BarrierDestroy) (given_by library.BarrierDestroy) es (fit (same_count (count_of es) (length (wanted_by library.BarrierDestroy)) at c))
  library_good known w library.RwInit format es at here' target is fit c f args = plain_given known (wanted_by library.RwInit) (given_by library.RwInit) es (fit (same_count (count_of es) (length (wanted_by library.RwInit)) at c))
  library_good known w library.RwRdLock format es at here' target is fit c f args = plain_given known (wanted_by library.RwRdLock) (given_by library.RwRdLock) es (fit (same_count (count_of es) (length (wanted_by library.RwRdLock)) at c))
  library_good known w library.RwWrLock format es at here' target is fit c f args = plain_given known (wanted_by library.RwWrLock) (given_by library.RwWrLock) es (fit (same_count (count_of es) (length (wanted_by library.RwWrLock)) at c))
  library_good known w library.RwUnlock format es at here' target is fit c f args = plain_given known (wanted_by library.RwUnlock) (given_by library.RwUnlock) es (fit (same_count (count_of es) (length (wanted_by library.RwUnlock)) at c))
  library_good known w library.RwDestroy format es at here' target is fit c f args = plain_given known (wanted_by library.RwDestroy) (given_by library.RwDestroy) es (fit (same_count (count_of es) (length (wanted_by library.RwDestroy)) at c))
  library_good known w library.Free format es at here' target is fit c f args = plain_given known (wanted_by library.Free) (given_by library.Free) es (fit (same_count (count_of es) (length (wanted_by library.Free)) at c))
  library_good known w library.GetChar format es at here' target is fit c f args = plain_given known (wanted_by library.GetChar) (given_by library.GetChar) es (fit (same_count (count_of es) (length (wanted_by library.GetChar)) at c))
  library_good known w library.PutChar format es at here' target is fit c f args = plain_given known (wanted_by library.PutChar) (given_by library.PutChar) es (fit (same_count (count_of es) (length (wanted_by library.PutChar)) at c))
  library_good known w library.PutText format es at here' target is fit c f args = plain_given known (wanted_by library.PutText) (given_by library.PutText) es (fit (same_count (count_of es) (length (wanted_by library.PutText)) at c))

  unseen_good : (known : Known) (w : Target) (name : Text) (c : Option LibraryName) (format : Option ℕ) (es : Exps) (at here' : Position) → IsGoodTarget n w → format_of es ≡ format → (count_of es ≡ length (library_wants c format) → Fit known (library_wants c format) es) →
      unseen_call_faults c name w (begins_with_text es) format (count_of es) at ≡ [] → format_faults (begins_with_text es) c None format here' ≡ [] → arguments_faults known (library_wants c format) at es ≡ [] → IsGood n (call_standing (library_callee c w format) (fit_wanted known (callee_wants (library_callee c w format)) es))
  unseen_good known w name None format es at here' target is fit c f args = by (is_some (constant_named name)) c
    where
      by : (b : Bool) → (if b then found_at fault.TypeMismatch at ∷ [] else found_at fault.UnknownName at ∷ []) ≡ [] → IsGood n no_type
      by true h = cc
      by false h = cc
  unseen_good known w name (Some c) format es at here' target is fit f g args = library_good known w c format es at here' target is fit f g args

  -- a call through a variable gives what the functions give
  pointer_good : (known : Known) (name : Text) (t : ObjectType) (es : Exps) (at : Position) → seen known name ≡ Some (variable (Some t)) → AreTyped known → (k : Option ℕ) → type_function t ≡ k → (g : Option Signature) → signature_by known k ≡ g →
      (count_of es ≡ length (pointer_wants g) → Fit known (pointer_wants g) es) → pointer_call_faults g (count_of es) at ≡ [] → IsGood n (call_standing (pointer_callee g) (fit_wanted known (callee_wants (pointer_callee g)) es))
  pointer_good known name t es at is typed k e None q fit c = absurd (true≢false (where_nil true _ _ c))
  pointer_good known name t es at is typed None e (Some g) q fit c = absurd (none-some g q)
  pointer_good known name t es at is typed (Some k) e (Some g) q fit c =
      let own = (seen_typed (lists_of known) known.scopes name (variable (Some t)) typed.names is).2 k g e q in
      where_good n (fit_wanted known g.params es) (given_type g.result) (fit (same_count (count_of es) (length g.params) at c)) (given_result g.result own.1)

  called_good : (known : Known) (w : Target) (name : Text) (es : Exps) (at : Position) (m : Option Meaning) → seen known name ≡ m → AreTyped known → IsGoodTarget n w →
      (count_of es ≡ length (wants_of known name (format_of es) m) → Fit known (wants_of known name (format_of es) m) es) →
      callee_faults known name w (begins_with_text es) (format_of es) (count_of es) at m ≡ [] → format_faults (begins_with_text es) (library_named name) m (format_of es) (place_of_first es) ≡ [] → arguments_faults known (wants_of known name (format_of es) m) at es ≡ [] →
      IsGood n (call_standing (callee_of known w name (format_of es) m) (fit_wanted known (callee_wants (callee_of known w name (format_of es) m)) es))
  called_good known w name es at (Some (variable None)) is typed target fit c f args = absurd (true≢false (where_nil true _ _ c))
  called_good known w name es at (Some (variable (Some t))) is typed target fit c f args = pointer_good known name t es at is typed (type_function t) refl (pointed_signature known (Some t)) refl fit c
  called_good known w name es at (Some (function_of g)) is typed target fit c f args =
      let p = nil3 (where_it_comes (is_main name) fault.BadCall at) (where_it_comes (not (has_name known.defined name)) fault.UnknownName at) (count_faults (count_of es) (length g.params) at) c in
      let own = (seen_typed (lists_of known) known.scopes name (function_of g) typed.names is).0 in
      let main : not (is_main name) ≡ true = ap not (where_nil _ _ _ p.0) in
      function_good known name g es (and_from (not (is_main name)) (has_name known.defined name) main (not_nil (has_name known.defined name) _ _ p.1)) own.1 (fit (same_count (count_of es) (length g.params) at p.2))
  called_good known w name es at None is typed target fit c f args = unseen_good known w name (library_named name) (format_of es) es at (place_of_first es) target refl fit c f args

  -- ---- expressions

  literal_good : (z : ℤ) → IsGood n (number_standing z)
  literal_good z = by (is_zero z)
    where
      by : (b : Bool) → IsGood n (if b then zero_literal else int_value)
      by true = tt
      by false = tt

  module _ (known : Known) (typed : AreTyped known) where
    mutual
      pub exp_good : (w : Target) → IsGoodTarget n w → (e : Exp) → faults known w e ≡ [] → IsGood n (standing known w e)
      exp_good w target (comma e es at) h =
          let p = nil3 (faults known no_target e) (go_faults (standing known no_target e) e) (rest_faults known es) h in
          let one = exp_good no_target tt e p.0 in
          rest_good (let_go (standing known no_target e)) (let_go_good n (standing known no_target e) one (not_nil (can_go (standing known no_target e)) _ _ p.1)) es p.2
      exp_good w target (assign a op b at) h =
          let to = assigned_target op (standing known no_target a) in
          let p = nil3 (faults known no_target a) (faults known to b) (assign_faults known op a (standing known no_target a) (operand_of (standing known to b)) at) h in
          let one = exp_good no_target tt a p.0 in
          let two = exp_good to (assigned_good op (standing known no_target a) one) b p.1 in
          assign_typed known op a (operand_of (standing known to b)) at one (good_operand n (standing known to b) two) p.2
      exp_good w target (conditional a b c at) h =
          let x = operand_of (standing known no_target a) in
          let y = operand_of (standing known no_target b) in
          let z = operand_of (standing known no_target c) in
          let p = nil4 (faults known no_target a) (faults known no_target b) (faults known no_target c) (mismatch (not (condition_takes x y z)) at) h in
          conditional_good n x y z (good_operand n (standing known no_target a) (exp_good no_target tt a p.0)) (good_operand n (standing known no_target b) (exp_good no_target tt b p.1)) (good_operand n (standing known no_target c) (exp_good no_target tt c p.2)) (not_nil (condition_takes x y z) _ _ p.3)
      exp_good w target (binary a op b at) h =
          let x = operand_of (standing known no_target a) in
          let y = operand_of (standing known no_target b) in
          let p = nil3 (faults known no_target a) (faults known no_target b) (mismatch (not (takes op x y)) at) h in
          binary_good n op x y (good_operand n (standing known no_target a) (exp_good no_target tt a p.0)) (good_operand n (standing known no_target b) (exp_good no_target tt b p.1)) (not_nil (takes op x y) _ _ p.2)
      exp_good w target (prefix op a at) h =
          let p = append_nil (faults known no_target a) (prefix_faults known op a (standing known no_target a) at) h in
          prefix_typed known op a at (exp_good no_target tt a p.0) p.1
      exp_good w target (sizeof_exp a at) h =
          let s = standing known no_target a in
          let p = append_nil (faults known no_target a) (mismatch (not (is_sized known s)) at) h in
          made_good n (is_sized known s) (operand_of s) (not_nil (is_sized known s) _ _ p.1) (good_operand n s (exp_good no_target tt a p.0))
      exp_good w target (sizeof_type t at) h = sizeof_good known t at typed.structs h
      exp_good w target (cast t a at) h =
          let to = cast_target (type_named known t) t.stars in
          let p = append_nil (faults known to a) (cast_faults known t (operand_of (standing known to a)) at) h in
          let q = append_nil (mismatch (not (casts_to (type_named known t) t.stars && can_cast (operand_of (standing known to a)))) at) (specifier_faults known false t.specifier) p.1 in
          cast_good known t (operand_of (standing known to a)) at typed.structs (good_operand n (standing known to a) (exp_good to (cast_target_good known t typed.structs q.1) a p.0)) p.1
      exp_good w target (index a b at) h =
          let x = operand_of (standing known no_target a) in
          let y = operand_of (standing known no_target b) in
          let p = nil3 (faults known no_target a) (faults known no_target b) (mismatch (not (can_index x y)) at) h in
          index_good n x y (good_operand n (standing known no_target a) (exp_good no_target tt a p.0)) (good_operand n (standing known no_target b) (exp_good no_target tt b p.1)) (not_nil (can_index x y) _ _ p.2)
      exp_good w target (member a name at) h =
          let s = standing known no_target a in
          let p = append_nil (faults known no_target a) (member_faults known (operand_of s) (struct_of s) name at) h in
          member_good known (operand_of s) (struct_of s) name at typed (good_operand n s (exp_good no_target tt a p.0)) p.1
      exp_good w target (arrow a name at) h =
          let s = standing known no_target a in
          let p = append_nil (faults known no_target a) (member_faults known (operand_of s) (pointed_struct (operand_of s)) name at) h in
          member_good known (operand_of s) (pointed_struct (operand_of s)) name at typed (good_operand n s (exp_good no_target tt a p.0)) p.1
      exp_good w target (post_increment a at) h = let p = append_nil (faults known no_target a) (step_faults known a (standing known no_target a) at) h in step_typed known a at (exp_good no_target tt a p.0) p.1
      exp_good w target (post_decrement a at) h = let p = append_nil (faults known no_target a) (step_faults known a (standing known no_target a) at) h in step_typed known a at (exp_good no_target tt a p.0) p.1
      exp_good w target (named name at) h = named_good known name at (seen known name) refl typed h
      exp_good w target (call name es at) h =
          let ws = wants_of known name (format_of es) (seen known name) in
          let p = append_nil (call_faults known w name es at) (arguments_faults known ws at es) h in
          let q = append_nil (callee_faults known name w (begins_with_text es) (format_of es) (count_of es) at (seen known name)) (format_faults (begins_with_text es) (library_named name) (seen known name) (format_of es) (place_of_first es)) p.0 in
          called_good known w name es at (seen known name) refl typed target (λ many. all_fit ws at es many p.1) q.0 q.1 p.1
      exp_good w target (number z at) h = literal_good z
      exp_good w target (letter z at) h = tt
      exp_good w target (text bytes at) h = cc
      exp_good w target (null at) h = tt
      exp_good w target (paren a at) h = exp_good w target a h

      rest_good : (s : Standing) → IsGood n s → (es : Exps) → rest_faults known es ≡ [] → IsGood n (last_standing known s es)
      rest_good s g no_exp h = as_value_good n s g
      rest_good s g (and_exp e es) h =
          let p = nil3 (faults known no_target e) (go_faults (standing known no_target e) e) (rest_faults known es) h in
          let one = let_go_good n (standing known no_target e) (exp_good no_target tt e p.0) (not_nil (can_go (standing known no_target e)) _ _ p.1) in
          rest_good (following s (let_go (standing known no_target e))) (after_good n s (let_go (standing known no_target e)) g one) es p.2

      all_fit : (ws : List Wanted) (at : Position) (es : Exps) → count_of es ≡ length ws → arguments_faults known ws at es ≡ [] → Fit known ws es
      all_fit [] at no_exp many h = refl
      all_fit [] at (and_exp e es) many h = absurd (omega (arith, many))
      all_fit (x ∷ ws) at no_exp many h = absurd (omega (arith, many))
      all_fit (x ∷ ws) at (and_exp e es) many h =
          let p = append_nil (one_argument_faults known x at e (faults known no_target e)) (arguments_faults known ws at es) h in
          and_from (fits_wanted known x e (standing known no_target e)) (fit_wanted known ws es) (one_fits known x e at (λ k. exp_good no_target tt e k) p.0) (all_fit ws at es (omega (arith, many)) p.1)
