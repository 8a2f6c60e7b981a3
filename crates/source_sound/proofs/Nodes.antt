-- What stands for each kind of expression, by what stands for its parts.
use Rattle.std.proofs.Common.{◌≡◌, ℕ, Bool, true, false, not, ◌&&◌, ◌||◌, if◌then◌else◌, ℤ, pos, [], ◌∷◌, Option, Some, None, is_some, unwrap_or, Ok, refl, ap}
use Rattle.std.proofs.lemmas.Bool.{and_from}
use Rattle.rr_base.specs.Texts.{Text}
use Rattle.c_tree.specs.declared.expr.AssignOp.{AssignOp}
use Rattle.c_tree.specs.declared.expr.PrefixOp.{PrefixOp}
use Rattle.c_tree.specs.declared.expr.PrefixOp.TheVariants as prefix_op
use Rattle.word_semantics.specs.declared.operator.BinaryOp.{BinaryOp as FlowOp}
use Rattle.c_tree.specs.Tree.{Exp, named, number, sizeof_exp}
use Rattle.rr_base.specs.declared.position.Position.{Position}
use Rattle.c_types.specs.declared.types.ObjectType.{ObjectType}
use Rattle.c_types.specs.declared.fault.FaultKind.TheVariants as fault
use Rattle.c_types.specs.Numbers.{is_zero}
use Rattle.c_types.specs.Constants.{constant_named, is_constant, is_address}
use Rattle.c_types.specs.Library.{library_named}
use Rattle.c_types.specs.Scopes.{Meaning, variable, function_of, seen, has_name, function_numbered}
use Rattle.c_types.specs.Signatures.{type_numbered}
use Rattle.c_types.specs.Operands.{Standing, no_type, zero_literal, null_literal, a_value, a_place, operand_of, as_value, int_value}
use Rattle.c_constants.specs.Values.{value_here, size_here}
use Rattle.c_types.specs.Standing.{Target, no_target, stepped, prefix_standing, assign_standing, casts_to, can_cast, cast_standing, is_main, can_be_used, function_value, named_standing, can_go, let_go, following, is_sized, standing}
use Rattle.c_types.specs.Found.{where_it_comes, found_at}
use Rattle.c_rules.specs.Faults.{mismatch, own_place, place_faults, can_be_place, go_faults, steps, standing_type, assigns_to, needs_place, prefix_takes, step_faults, assign_faults, prefix_faults, named_faults}
use Rattle.c_locals.specs.Addresses.{where_address, number_of_operand}
use Rattle.core_tree.specs.Core as core
use Rattle.core_tree.specs.Core.{Function, Program}
use Rattle.core_tree.specs.Meaning.{is_pointer}
use Rattle.c_operators.specs.declared.home.Home.{Home}
use Rattle.c_operators.specs.declared.home.Home.TheVariants as kept
use Rattle.c_operators.specs.Denoted.{Denoted, denoted_zero, denoted_value, Part, part_by, operand_in, position_of}
use Rattle.c_operators.specs.Context.{Context, home_of, function_word}
use Rattle.c_operators.specs.Operators.{assigned_in, stepped_in, prefix_in, cast_in, is_some_address}
use Rattle.c_values.specs.Expressions.{constant_by, folded, variable_denoted, named_denoted, is_pointer_type, denoted}
use Rattle.core_tree.specs.Sound.{IsSoundExp}
use Rattle.source_sound.proofs.Environment.{IsFormed, AreKept, DenotedFits, Suits}
use Rattle.source_sound.proofs.Apart.{not_nothing, append_nil, comes_not, keeps, never, never'}
use Rattle.source_sound.proofs.Standings.{Stands, PartGives, stands_gives}
use Rattle.source_sound.proofs.FunctionWords.{PartGivesAll}
use Rattle.source_sound.proofs.Choices.{as_value_stands}
use Rattle.source_sound.proofs.Changes.{stepped_stands, assigned_stands}
use Rattle.source_sound.proofs.Places.{SuitsPrefix, prefix_stands, cast_stands}
use Rattle.source_sound.proofs.Folding.{named_int, IsFolded, constant_is_int, value_stands, folded_stands}
use Rattle.source_sound.proofs.Names.{is_place, in_cells}
use Rattle.source_sound.proofs.Targets.{IsKnownType}

none_not_some : (j : ℕ) → None ≡ Some j → ⊥
none_not_some j e = cc

module _ (p : Program) (home : ℕ → Option ℕ) (f : Function) (h : Context) (suits : Suits p home f h) where
  abbrev stands : Standing → Denoted → Type 0
  stands = Stands p home f suits.structs

  -- ---- constants

  pub folded_here : (w : Target) (e : Exp) (x : Denoted) (o : Position) → IsFolded h.known suits.own e → stands (standing h.known w e) x → stands (standing h.known w e) (folded h.known e o x)
  folded_here w e x o is s =
      folded_stands p home f suits.structs (is_constant e) (value_here h.known e) (standing h.known w e) x o
      (λ k. constant_is_int h.known suits.own w e is k (stands_gives p home f suits.structs (standing h.known w e) x s).typed) s

  pub number_stands : (n : ℤ) (at : Position) (w : Target) → stands (standing h.known w (number n at)) (denoted h w (number n at))
  number_stands n at w = by (is_zero n)
    where
      by : (b : Bool) → Stands p home f suits.structs (if b then zero_literal else int_value) (if b then denoted_zero (position_of at) else denoted_value (core.number n (position_of at)))
      by true = tt
      by false = (tt, refl, tt)

  -- the operand of `sizeof` has a size
  pub sized_stands : (w : Target) (a : Exp) (at : Position) → stands (standing h.known no_target a) (denoted h no_target a) → is_sized h.known (standing h.known no_target a) ≡ true → stands (standing h.known w (sizeof_exp a at)) (denoted h w (sizeof_exp a at))
  sized_stands w a at s e =
      value_stands p home f suits.structs true (pos (size_here h.known (sizeof_exp a at))) (standing h.known w (sizeof_exp a at)) (denoted_zero (position_of at)) (position_of at) refl
      (ap (λ c. if c then int_value else no_type) (and_from _ _ e (stands_gives p home f suits.structs (standing h.known no_target a) (denoted h no_target a) s).typed))

  -- ---- names

  variable_stands : (t : ObjectType) (name : Text) (at : Position) (o : Option Home) → home_of h name ≡ o → IsFormed suits.structs t → seen h.known name ≡ Some (variable (Some t)) → DenotedFits p home f (a_place t) (variable_denoted h name o at) → stands (a_place t) (variable_denoted h name o at)
  variable_stands t name at None e formed s fits = (formed, fits.1, fits.2)
  variable_stands t name at (Some (kept.Object n)) e formed s fits = (formed, fits.1, fits.2)
  variable_stands t name at (Some (kept.Register n)) e formed s fits = (formed, suits.registers name t n s e, fits.1)

  not_constant : (c : Option ℤ) (x : Denoted) (s : Standing) (at : Position) → c ≡ None → stands s x → stands s (constant_by (is_some c) (Ok (unwrap_or c (pos 0))) at x)
  not_constant None x s at e k = k
  not_constant (Some n) x s at e k = never' (ap is_some e)

  -- a function's name is a number, one more than that of the function
  function_word_stands : (n : ℕ) (o : Position) (used : Bool) (k : Option ℕ) → used ≡ true → ((j : ℕ) × (k ≡ Some j)) → stands (function_value used k) (denoted_value (core.number (pos n) o))
  function_word_stands n o true None used some = let no : ⊥ = none_not_some some.0 some.1 in absurd no
  function_word_stands n o true (Some j) used some = (tt, refl, tt)
  function_word_stands n o false k used some = never used

  undeclared_constant : (b c : Bool) (at : Position) → (if b then [] else (if c then found_at fault.TypeMismatch at ∷ [] else found_at fault.UnknownName at ∷ [])) ≡ [] → b ≡ true
  undeclared_constant true c at e = refl
  undeclared_constant false true at e = not_nothing _ _ e
  undeclared_constant false false at e = not_nothing _ _ e

  named_by : (name : Text) (at : Position) (o : Position) (m : Option Meaning) → seen h.known name ≡ m → named_faults h.known m name at ≡ [] →
      stands (named_standing h.known name m (constant_named name)) (constant_by (is_some (constant_named name)) (Ok (unwrap_or (constant_named name) (pos 0))) o (named_denoted h name m o))
  named_by name at o (Some (variable None)) e none = absurd (suits.typed name e)
  named_by name at o (Some (variable (Some t))) e none =
      not_constant (constant_named name) (variable_denoted h name (home_of h name) o) (a_place t) o (suits.own name (variable (Some t)) e)
      (variable_stands t name o (home_of h name) refl (suits.formed name t e) e (suits.variables name t o e))
  named_by name at o (Some (function_of g)) e none =
      let apart = append_nil (where_it_comes (is_main name) fault.BadCall at) (where_it_comes (not (has_name h.known.defined name)) fault.UnknownName at) none in
      let used = and_from _ _ (ap not (comes_not (is_main name) fault.BadCall at apart.0)) (keeps (has_name h.known.defined name) fault.UnknownName at apart.1) in
      not_constant (constant_named name) (named_denoted h name (Some (function_of g)) o) (function_value (can_be_used h.known name) (type_numbered h.known g)) o (suits.own name (function_of g) e)
      (function_word_stands (function_word (function_numbered h.known name)) o (can_be_used h.known name) (type_numbered h.known g) used (suits.numbered name g e))
  named_by name at o None e none =
      let is = undeclared_constant (is_some (constant_named name)) (is_some (library_named name)) at none in
      value_stands p home f suits.structs (is_some (constant_named name)) (unwrap_or (constant_named name) (pos 0)) (named_standing h.known name None (constant_named name)) (denoted_zero o) o is (named_int h.known suits.own name None e is)

  pub named_stands : (name : Text) (at : Position) (w : Target) → named_faults h.known (seen h.known name) name at ≡ [] → stands (standing h.known w (named name at)) (denoted h w (named name at))
  named_stands name at w none = named_by name at (position_of at) (seen h.known name) refl none

  -- ---- changes

  pub steps_stands : (a : Exp) (o : FlowOp) (old : Bool) (at : Position) (q : Position) → stands (standing h.known no_target a) (denoted h no_target a) → step_faults h.known a (standing h.known no_target a) at ≡ [] →
      stands (stepped (standing h.known no_target a)) (denoted_value (stepped_in h.source o (part_by (standing h.known no_target a) (denoted h no_target a)) old q))
  steps_stands a o old at q s none =
      let apart = append_nil (place_faults (can_be_place h.known a) at) (mismatch (not (steps (standing_type (standing h.known no_target a)))) at) none in
      stepped_stands p home f suits.structs h.source suits.sizes (standing h.known no_target a) (denoted h no_target a) o old q s
      (is_place p home f suits.structs h.known no_target a (denoted h no_target a) (keeps (can_be_place h.known a) fault.NotPlace at apart.0) s)
      (keeps (steps (standing_type (standing h.known no_target a))) fault.TypeMismatch at apart.1)

  pub assigns_stands : (a : Exp) (o : AssignOp) (b : Part) (at : Position) (q : Position) → stands (standing h.known no_target a) (denoted h no_target a) → PartGivesAll p home f suits.structs b →
      assign_faults h.known o a (standing h.known no_target a) (operand_in b) at ≡ [] →
      stands (assign_standing o (standing h.known no_target a) (operand_in b)) (denoted_value (assigned_in h.source o (part_by (standing h.known no_target a) (denoted h no_target a)) b q))
  assigns_stands a o b at q s g none =
      let apart = append_nil (place_faults (can_be_place h.known a) at) (mismatch (not (assigns_to o (standing_type (standing h.known no_target a)) (operand_in b))) at) none in
      assigned_stands p home f suits.structs h.source suits.sizes (standing h.known no_target a) (denoted h no_target a) o b q s
      (is_place p home f suits.structs h.known no_target a (denoted h no_target a) (keeps (can_be_place h.known a) fault.NotPlace at apart.0) s) g
      (keeps (assigns_to o (standing_type (standing h.known no_target a)) (operand_in b)) fault.TypeMismatch at apart.1)

  -- ---- prefix operators

  suits_prefix : (o : PrefixOp) (a : Exp) → (not (needs_place o) || can_be_place h.known a) ≡ true → AreKept h (where_address (is_address o) (number_of_operand h.numbers a)) → stands (standing h.known no_target a) (denoted h no_target a) → SuitsPrefix o (standing h.known no_target a) (denoted h no_target a)
  suits_prefix prefix_op.Address a c k s = in_cells p home f suits.structs h no_target a c k s
  suits_prefix prefix_op.Increment a c k s = is_place p home f suits.structs h.known no_target a (denoted h no_target a) c s
  suits_prefix prefix_op.Decrement a c k s = is_place p home f suits.structs h.known no_target a (denoted h no_target a) c s
  suits_prefix prefix_op.Indirect a c k s = tt
  suits_prefix prefix_op.Plus a c k s = tt
  suits_prefix prefix_op.Minus a c k s = tt
  suits_prefix prefix_op.Not a c k s = tt
  suits_prefix prefix_op.Complement a c k s = tt

  pub prefixed_stands : (o : PrefixOp) (a : Exp) (at : Position) (q : Position) → stands (standing h.known no_target a) (denoted h no_target a) → AreKept h (where_address (is_address o) (number_of_operand h.numbers a)) →
      prefix_faults h.known o a (standing h.known no_target a) at ≡ [] → stands (prefix_standing o (standing h.known no_target a)) (prefix_in h.source o (part_by (standing h.known no_target a) (denoted h no_target a)) q)
  prefixed_stands o a at q s k none =
      let apart = append_nil (place_faults (not (needs_place o) || can_be_place h.known a) at) (mismatch (not (prefix_takes o (standing h.known no_target a))) at) none in
      prefix_stands p home f suits.structs h.source suits.sizes o (standing h.known no_target a) (denoted h no_target a) q s
      (suits_prefix o a (keeps (not (needs_place o) || can_be_place h.known a) fault.NotPlace at apart.0) k s)
      (keeps (prefix_takes o (standing h.known no_target a)) fault.TypeMismatch at apart.1)

  -- ---- casts

  pub casts_stand : (o : Option ObjectType) (stars : ℕ) (a : Part) (q : Position) → IsKnownType suits.structs o → PartGives p home f suits.structs a → (casts_to o stars && can_cast (operand_in a)) ≡ true →
      stands (cast_standing o stars (operand_in a)) (denoted_value (cast_in (is_pointer_type o) a q))
  casts_stand None stars a q known g e = absurd known
  casts_stand (Some t) stars a q known g e = cast_stands p home f suits.structs t stars a q known g e

  -- ---- commas

  pub comma_stands : (s : Standing) (before e : core.Exp) (o : Position) → IsSoundExp p home f before → stands s (denoted_value e) → stands s (denoted_value (core.comma before e o))
  comma_stands no_type before e o b s = absurd s
  comma_stands zero_literal before e o b s = absurd s
  comma_stands null_literal before e o b s = absurd s
  comma_stands (a_value t) before e o b s = (s.0, s.1, (b, s.2))
  comma_stands (a_place t) before e o b s = absurd s

  go_by : (c : Bool) (s : Standing) (e : core.Exp) → c ≡ true → stands (as_value s) (denoted_value e) → stands (as_value (if c then s else no_type)) (denoted_value e)
  go_by true s e k h' = h'
  go_by false s e k h' = never k

  -- a value that is let go
  pub gone_stands : (a : Exp) (e : core.Exp) → stands (standing h.known no_target a) (denoted h no_target a) → go_faults (standing h.known no_target a) a ≡ [] → is_pointer e ≡ is_some_address (operand_of (standing h.known no_target a)) → IsSoundExp p home f e →
      stands (as_value (let_go (standing h.known no_target a))) (denoted_value e)
  gone_stands a e s none k sound =
      let can = keeps (can_go (standing h.known no_target a)) fault.TypeMismatch (own_place a) none in
      go_by (can_go (standing h.known no_target a)) (standing h.known no_target a) e can (as_value_stands p home f suits.structs (standing h.known no_target a) (denoted h no_target a) e s can k sound)

  -- after one that has a type
  pub after_stands : (s t : Standing) (e v : core.Exp) → stands (as_value s) (denoted_value e) → stands (as_value t) (denoted_value v) → stands (as_value (following s t)) (denoted_value v)
  after_stands no_type t e v s k = absurd s
  after_stands zero_literal t e v s k = k
  after_stands null_literal t e v s k = k
  after_stands (a_value u) t e v s k = k
  after_stands (a_place u) t e v s k = k
