-- The words as which a global starts: one for each cell, and in a pointer cell null or the pointer to a global.
use Rattle.std.proofs.Common.{◌≡◌, ℕ, zero, suc, ◌+◌, ◌-◌, ◌<◌, true, false, not, ◌&&◌, nat_lt, if◌then◌else◌, ℤ, pos, negsuc, List, [], ◌∷◌, ◌++◌, length, replicate, Option, Some, None, is_none, is_some, slice_get, Ok, ◌⊎◌, inl, inr, refl, sym, ap, ◌∙◌, subst, arith, true≢false, append-nil}
use Rattle.std.specs.Option.{option_map}
use Rattle.std.proofs.lemmas.Bool.Decides.{nat_tests}
use Rattle.std.proofs.lemmas.Option.{same_Some, none-some}
use Rattle.rr_base.specs.declared.layout.CellKind.{CellKind}
use Rattle.rr_base.specs.declared.layout.CellKind.TheVariants as kind
use Rattle.rr_base.specs.Texts.{Text, entry_of}
use Rattle.c_tree.specs.declared.expr.PrefixOp.{PrefixOp}
use Rattle.c_tree.specs.declared.expr.PrefixOp.TheVariants as prefix_op
use Rattle.c_tree.specs.Tree.{Exp, comma, assign, conditional, binary, prefix, sizeof_exp, sizeof_type, cast, index, member, arrow, post_increment, post_decrement, named, call, number, letter, text, null, paren, Init, value, braces, mutex_start, cond_start, rwlock_start, Inits, no_init, and_init}
use Rattle.rr_base.specs.declared.position.Position.{Position}
use Rattle.c_types.specs.declared.types.BaseType.{BaseType}
use Rattle.c_types.specs.declared.types.BaseType.TheVariants as base
use Rattle.c_types.specs.declared.types.Layer.{Layer}
use Rattle.c_types.specs.declared.types.Layer.TheVariants as layer
use Rattle.c_types.specs.declared.types.ObjectType.{ObjectType}
use Rattle.c_types.specs.declared.fault.FaultKind.TheVariants as fault
use Rattle.c_types.specs.Numbers.{is_zero}
use Rattle.c_types.specs.Constants.{constant_named, is_address}
use Rattle.c_types.specs.Types.{repeated, base_kinds, layered_kinds, kinds_of_type, members_kinds}
use Rattle.c_types.specs.Found.{where_it_comes}
use Rattle.c_rules.specs.Faults.{mismatch, faults, first_place}
use Rattle.c_constants.specs.Values.{value_here}
use Rattle.c_rules.specs.Sizes.{constant_faults}
use Rattle.c_types.specs.Scopes.{Known, Meaning, variable, function_of, seen, function_numbered, Members, members_of}
use Rattle.c_types.specs.Operands.{Operand, operand_of, accepts, layered_accepts, same_base}
use Rattle.c_types.specs.Standing.{Target, no_target, points_to_functions, standing}
use Rattle.c_programs.specs.Initials.{alike_part, part_at, part_type, is_array_meaning, is_variable, is_variable_name, is_constant_address, is_constant_function, layered_is_pointer, global_value_faults, starts_as, layered_is_base, may_be_base, where_global, value_faults, initial_faults, inits_faults}
use Rattle.c_sites.specs.Sites.{types_of_members}
use Rattle.c_operators.specs.Context.{Source, pointer_or_null, global_named}
use Rattle.c_globals.specs.Globals.{named_word, address_word, computed_word, constant_word, start_words, parts_words}
use Rattle.source_sound.proofs.FileLists.{nil3, where_nil, not_nil}
use Rattle.source_sound.proofs.Structs.{IsWithin, within_more}
use Rattle.source_sound.proofs.FileStructs.{AreMembers, IsStruct}

module _ (Good : ℕ → Type 0) where
  -- a pointer cell holds null or a good word
  abbrev pub IsWord : CellKind → ℕ → Type 0
  IsWord kind.Pointer w = (w ≡ 0) ⊎ Good w
  IsWord kind.Whole w = Unit {0}
  IsWord kind.Mutex w = Unit {0}
  IsWord kind.Cond w = Unit {0}
  IsWord kind.Barrier w = Unit {0}
  IsWord kind.Rw w = Unit {0}

  -- a word for each cell
  abbrev pub AreWords : List CellKind → List ℕ → Type 0
  AreWords [] [] = Unit {0}
  AreWords [] (w ∷ ws) = ⊥
  AreWords (k ∷ ks) [] = ⊥
  AreWords (k ∷ ks) (w ∷ ws) = IsWord k w × AreWords ks ws

  -- words for the first cells
  abbrev pub AreFirst : List CellKind → List ℕ → Type 0
  AreFirst ks [] = Unit {0}
  AreFirst [] (w ∷ ws) = ⊥
  AreFirst (k ∷ ks) (w ∷ ws) = IsWord k w × AreFirst ks ws

  zero_word : (k : CellKind) → IsWord k 0
  zero_word kind.Pointer = inl refl
  zero_word kind.Whole = tt
  zero_word kind.Mutex = tt
  zero_word kind.Cond = tt
  zero_word kind.Barrier = tt
  zero_word kind.Rw = tt

  pub zeros : (ks : List CellKind) → AreWords ks (replicate (length ks) 0)
  zeros [] = tt
  zeros (k ∷ ks) = (zero_word k, zeros ks)

  pub words_parts : (ks ls : List CellKind) (vs ws : List ℕ) → AreWords ks vs → AreWords ls ws → AreWords (ks ++ ls) (vs ++ ws)
  words_parts [] ls [] ws h g = g
  words_parts [] ls (v ∷ vs) ws h g = absurd h
  words_parts (k ∷ ks) ls [] ws h g = absurd h
  words_parts (k ∷ ks) ls (v ∷ vs) ws h g = (h.0, words_parts ks ls vs ws h.1 g)

  pub words_length : (ks : List CellKind) (ws : List ℕ) → AreWords ks ws → length ks ≡ length ws
  words_length [] [] h = refl
  words_length [] (w ∷ ws) h = absurd h
  words_length (k ∷ ks) [] h = absurd h
  words_length (k ∷ ks) (w ∷ ws) h = let more = words_length ks ws h.1 in omega (arith, more)

  pub word_got : (ks : List CellKind) (ws : List ℕ) → AreWords ks ws → (i w : ℕ) → slice_get ks i ≡ Some kind.Pointer → slice_get ws i ≡ Some w → (w ≡ 0) ⊎ Good w
  word_got [] [] h i w p q = absurd (none-some w q)
  word_got [] (v ∷ ws) h i w p q = absurd h
  word_got (k ∷ ks) [] h i w p q = absurd h
  word_got (k ∷ ks) (v ∷ ws) h zero w p q = subst (λ z. IsWord z w) (same_Some k kind.Pointer p) (subst (λ z. IsWord k z) (same_Some v w q) h.0)
  word_got (k ∷ ks) (v ∷ ws) h (suc i) w p q = word_got ks ws h.1 i w p q

  first_parts : (ks ls : List CellKind) (vs ws : List ℕ) → AreWords ks vs → AreFirst ls ws → AreFirst (ks ++ ls) (vs ++ ws)
  first_parts [] ls [] ws h g = g
  first_parts [] ls (v ∷ vs) ws h g = absurd h
  first_parts (k ∷ ks) ls [] ws h g = absurd h
  first_parts (k ∷ ks) ls (v ∷ vs) ws h g = (h.0, first_parts ks ls vs ws h.1 g)

  first_more : (ks more : List CellKind) (ws : List ℕ) → AreFirst ks ws → AreFirst (ks ++ more) ws
  first_more ks more [] h = tt
  first_more [] more (w ∷ ws) h = absurd h
  first_more (k ∷ ks) more (w ∷ ws) h = (h.0, first_more ks more ws h.1)

  padded_are : (ks : List CellKind) (ws : List ℕ) → AreFirst ks ws → AreWords ks (ws ++ replicate (length ks - length ws) 0)
  padded_are ks [] h = let e : length ks - 0 ≡ length ks = omega arith in subst (λ n. AreWords ks (replicate n 0)) (sym e) (zeros ks)
  padded_are [] (w ∷ ws) h = absurd h
  padded_are (k ∷ ks) (w ∷ ws) h = let e : suc (length ks) - suc (length ws) ≡ length ks - length ws = omega arith in (h.0, subst (λ n. AreWords ks (ws ++ replicate n 0)) (sym e) (padded_are ks ws h.1))

  module _ (s : Source) (known : Known) (n : ℕ)
      (globals : (name : Text) (t : Option ObjectType) → seen known name ≡ Some (variable t) → (constant_named name ≡ None) × Good (global_named s name) × (is_some (entry_of s.globals name) ≡ true))
      (structs : (k : ℕ) → k < length known.structs → IsStruct n known.structs s.kinds k) where
    -- ---- addresses

    abbrev IsNullOr : ℕ → Type 0
    IsNullOr w = (w ≡ 0) ⊎ Good w

    zero_computed : (z : ℤ) → is_zero z ≡ true → z ≡ pos 0
    zero_computed (pos m) e = let is : m ≡ 0 = grind (arith, nat_tests) in ap pos is
    zero_computed (negsuc m) e = absurd (true≢false (sym e))

    by_meaning : (name : Text) (m : Option Meaning) → seen known name ≡ m → is_variable m ≡ true → (constant_named name ≡ None) × Good (global_named s name) × (is_some (entry_of s.globals name) ≡ true)
    by_meaning name None is e = absurd (true≢false (sym e))
    by_meaning name (Some (variable t)) is e = globals name t is
    by_meaning name (Some (function_of f)) is e = absurd (true≢false (sym e))

    array_variable : (m : Option Meaning) → is_array_meaning m ≡ true → is_variable m ≡ true
    array_variable None e = absurd (true≢false (sym e))
    array_variable (Some (variable t)) e = refl
    array_variable (Some (function_of f)) e = absurd (true≢false (sym e))

    -- a global goes before the functions
    found_global : (o f : Option ℕ) → is_some o ≡ true → named_word o f ≡ pointer_or_null o
    found_global None f e = absurd (true≢false (sym e))
    found_global (Some w) f e = refl

    -- what `&` is applied to
    operand_word : (e : Exp) → is_variable_name known e ≡ true → Good (address_word s e)
    operand_word (named name at) h = let g = by_meaning name (seen known name) refl h in subst Good (sym (found_global (entry_of s.globals name) (function_numbered s.whole name) g.2)) g.1
    operand_word (paren e at) h = operand_word e h
    operand_word (comma e es at) h = absurd (true≢false (sym h))
    operand_word (assign a op b at) h = absurd (true≢false (sym h))
    operand_word (conditional a b c at) h = absurd (true≢false (sym h))
    operand_word (binary a op b at) h = absurd (true≢false (sym h))
    operand_word (prefix op a at) h = absurd (true≢false (sym h))
    operand_word (sizeof_exp a at) h = absurd (true≢false (sym h))
    operand_word (sizeof_type t at) h = absurd (true≢false (sym h))
    operand_word (cast t a at) h = absurd (true≢false (sym h))
    operand_word (index a b at) h = absurd (true≢false (sym h))
    operand_word (member a name at) h = absurd (true≢false (sym h))
    operand_word (arrow a name at) h = absurd (true≢false (sym h))
    operand_word (post_increment a at) h = absurd (true≢false (sym h))
    operand_word (post_decrement a at) h = absurd (true≢false (sym h))
    operand_word (call name es at) h = absurd (true≢false (sym h))
    operand_word (number z at) h = absurd (true≢false (sym h))
    operand_word (letter z at) h = absurd (true≢false (sym h))
    operand_word (text bytes at) h = absurd (true≢false (sym h))
    operand_word (null at) h = absurd (true≢false (sym h))

    prefix_word : (op : PrefixOp) (e : Exp) (at : Position) → (is_address op && is_variable_name known e) ≡ true → IsNullOr (constant_word s known (prefix op e at))
    prefix_word prefix_op.Address e at h = inr (operand_word e h)
    prefix_word prefix_op.Indirect e at h = absurd (true≢false (sym h))
    prefix_word prefix_op.Plus e at h = absurd (true≢false (sym h))
    prefix_word prefix_op.Minus e at h = absurd (true≢false (sym h))
    prefix_word prefix_op.Not e at h = absurd (true≢false (sym h))
    prefix_word prefix_op.Complement e at h = absurd (true≢false (sym h))
    prefix_word prefix_op.Increment e at h = absurd (true≢false (sym h))
    prefix_word prefix_op.Decrement e at h = absurd (true≢false (sym h))

    -- the word of a constant address
    address_good : (e : Exp) → is_constant_address known e ≡ true → IsNullOr (constant_word s known e)
    address_good (null at) h = inl refl
    address_good (number z at) h = inl (ap (λ y. computed_word (Ok y)) (zero_computed z h))
    address_good (named name at) h =
        let g = by_meaning name (seen known name) refl (array_variable (seen known name) h) in
        subst (λ b. IsNullOr (if b then computed_word (value_here known (named name at)) else address_word s (named name at))) (sym (ap is_some g.0)) (inr (subst Good (sym (found_global (entry_of s.globals name) (function_numbered s.whole name) g.2)) g.1))
    address_good (prefix op e at) h = prefix_word op e at h
    address_good (paren e at) h = address_good e h
    address_good (comma e es at) h = absurd (true≢false (sym h))
    address_good (assign a op b at) h = absurd (true≢false (sym h))
    address_good (conditional a b c at) h = absurd (true≢false (sym h))
    address_good (binary a op b at) h = absurd (true≢false (sym h))
    address_good (sizeof_exp a at) h = absurd (true≢false (sym h))
    address_good (sizeof_type t at) h = absurd (true≢false (sym h))
    address_good (cast t a at) h = absurd (true≢false (sym h))
    address_good (index a b at) h = absurd (true≢false (sym h))
    address_good (member a name at) h = absurd (true≢false (sym h))
    address_good (arrow a name at) h = absurd (true≢false (sym h))
    address_good (post_increment a at) h = absurd (true≢false (sym h))
    address_good (post_decrement a at) h = absurd (true≢false (sym h))
    address_good (call name es at) h = absurd (true≢false (sym h))
    address_good (letter z at) h = absurd (true≢false (sym h))
    address_good (text bytes at) h = absurd (true≢false (sym h))

    -- ---- one value

    layers_value : (ls : List Layer) (b : BaseType) (a : Operand) (e : Exp) (own : List _) → layered_accepts ls b a ≡ true → (if layered_is_pointer ls then where_it_comes (not (is_constant_address known e)) fault.NotConstant (first_place e) else own) ≡ [] → AreWords (layered_kinds s.kinds ls b) (constant_word s known e ∷ [])
    layers_value [] base.Int a e own h g = (tt, tt)
    layers_value [] (base.Function fn) a e own h g = (tt, tt)
    layers_value [] base.Void a e own h g = absurd (true≢false (sym h))
    layers_value [] (base.Struct k) a e own h g = absurd (true≢false (sym h))
    layers_value [] base.Mutex a e own h g = absurd (true≢false (sym h))
    layers_value [] base.Cond a e own h g = absurd (true≢false (sym h))
    layers_value [] base.Barrier a e own h g = absurd (true≢false (sym h))
    layers_value [] base.RwLock a e own h g = absurd (true≢false (sym h))
    layers_value (layer.Pointer ∷ ls) b a e own h g = (address_good e (not_nil (is_constant_address known e) _ _ g), tt)
    layers_value (layer.Array m ∷ ls) b a e own h g = absurd (true≢false (sym h))

    value_good : (w : Target) (t : ObjectType) (at : Position) (e : Exp) → value_faults known true w (Some t) at e ≡ [] → AreWords (kinds_of_type s.kinds t) (constant_word s known e ∷ [])
    value_good w t at e h =
        let a = nil3 (faults known w e) (mismatch (not (starts_as (Some t) (operand_of (standing known w e)))) at) (where_global true (global_value_faults known (Some t) e)) h in
        layers_value t.layers t.base (operand_of (standing known w e)) e (if points_to_functions t then where_it_comes (not (is_constant_function known e)) fault.NotConstant (first_place e) else constant_faults known e) (not_nil (accepts t (operand_of (standing known w e))) _ _ a.1) a.2

    -- ---- a lock or a condition variable

    base_start : (c : BaseType) (ls : List Layer) (b : BaseType) → layered_is_base c ls b ≡ true → AreWords (base_kinds s.kinds c) (0 ∷ []) → AreWords (layered_kinds s.kinds ls b) (0 ∷ [])
    base_start c [] b h g = subst (λ x. AreWords (base_kinds s.kinds x) (0 ∷ [])) (same_bases c b h) g
      where
        same_bases : (c b : BaseType) → same_base c b ≡ true → c ≡ b
        same_bases base.Int base.Int h = refl
        same_bases base.Void base.Void h = refl
        same_bases (base.Struct j) (base.Struct k) h = let is : j ≡ k = grind (arith, nat_tests) in ap base.Struct is
        same_bases base.Mutex base.Mutex h = refl
        same_bases base.Cond base.Cond h = refl
        same_bases base.Barrier base.Barrier h = refl
        same_bases base.RwLock base.RwLock h = refl
        same_bases base.Int _ h = absurd (true≢false (sym h))
        same_bases (base.Function j) (base.Function k) h = let is : j ≡ k = grind (arith, nat_tests) in ap base.Function is
        same_bases (base.Function j) _ h = absurd (true≢false (sym h))
        same_bases base.Void _ h = absurd (true≢false (sym h))
        same_bases (base.Struct j) _ h = absurd (true≢false (sym h))
        same_bases base.Mutex _ h = absurd (true≢false (sym h))
        same_bases base.Cond _ h = absurd (true≢false (sym h))
        same_bases base.Barrier _ h = absurd (true≢false (sym h))
        same_bases base.RwLock _ h = absurd (true≢false (sym h))
    base_start c (l ∷ ls) b h g = absurd (true≢false (sym h))

    -- ---- the parts that braces start

    -- from the k-th on they are of these types
    abbrev ArePartsFrom : ObjectType → ℕ → List ObjectType → Type 0
    ArePartsFrom t k ts = (j : ℕ) → part_at known (Some t) (k + j) ≡ option_map (λ x. Some x) (slice_get ts j)

    abbrev AllWithin : List ObjectType → Type 0
    AllWithin [] = Unit {0}
    AllWithin (t ∷ ts) = IsWithin (length known.structs) t.layers t.base × AllWithin ts

    -- a lock has no parts, but a cell
    record HasParts (t : ObjectType) : Type 0 where
      parts : List ObjectType
      are : ArePartsFrom t 0 parts
      within : AllWithin parts
      rest : List CellKind
      cells : kinds_of_type s.kinds t ≡ members_kinds s.kinds parts ++ rest

    -- many of one type
    abbrev alike : ℕ → ObjectType → List ObjectType
    alike zero t = []
    alike (suc m) t = t ∷ alike m t

    alike_got : (m : ℕ) (t : ObjectType) (j : ℕ) → alike_part m t j ≡ option_map (λ x. Some x) (slice_get (alike m t) j)
    alike_got zero t j = let e : nat_lt j 0 ≡ false = grind (arith, nat_tests) in ap (λ b. if b then Some (Some t) else None) e
    alike_got (suc m) t zero = let e : nat_lt 0 (suc m) ≡ true = grind (arith, nat_tests) in ap (λ b. if b then Some (Some t) else None) e
    alike_got (suc m) t (suc j) = let e : nat_lt (suc j) (suc m) ≡ nat_lt j m = grind (arith, nat_tests) in ap (λ b. if b then Some (Some t) else None) e ∙ alike_got m t j

    alike_within : (m : ℕ) (t : ObjectType) → IsWithin (length known.structs) t.layers t.base → AllWithin (alike m t)
    alike_within zero t h = tt
    alike_within (suc m) t h = (h, alike_within m t h)

    alike_kinds : (m : ℕ) (t : ObjectType) → repeated m (kinds_of_type s.kinds t) ≡ members_kinds s.kinds (alike m t)
    alike_kinds zero t = refl
    alike_kinds (suc m) t = ap (λ xs. kinds_of_type s.kinds t ++ xs) (alike_kinds m t)

    member_got : (j : ℕ) (ms : Members) (i : ℕ) → AreMembers n j ms → slice_get (members_of (Some ms)) i ≡ option_map (λ x. Some x) (slice_get (types_of_members ms) i)
    member_got j [] i h = refl
    member_got j ((name, None) ∷ ms) i h = absurd h.0
    member_got j ((name, Some t) ∷ ms) zero h = refl
    member_got j ((name, Some t) ∷ ms) (suc i) h = member_got j ms i h.1

    members_within : (j : ℕ) (ms : Members) → j < length known.structs → AreMembers n j ms → AllWithin (types_of_members ms)
    members_within j [] lt h = tt
    members_within j ((name, None) ∷ ms) lt h = absurd h.0
    members_within j ((name, Some t) ∷ ms) lt h = (within_more j (length known.structs) (omega (arith, lt)) t.layers t.base h.0.2, members_within j ms lt h.1)

    abbrev typed_by : List Layer → BaseType → ObjectType
    typed_by ls b = record { layers = ls; base = b }

    -- `0 + j` is j
    from_first : (t : ObjectType) (ts : List ObjectType) → ((j : ℕ) → part_at known (Some t) j ≡ option_map (λ x. Some x) (slice_get ts j)) → ArePartsFrom t 0 ts
    from_first t ts h j = let e : 0 + j ≡ j = omega arith in ap (λ i. part_at known (Some t) i) e ∙ h j

    single : (t : ObjectType) → IsWithin (length known.structs) t.layers t.base → ((j : ℕ) → part_at known (Some t) j ≡ alike_part 1 t j) → HasParts t
    single t h same = record {
      parts = alike 1 t;
      are = from_first t (alike 1 t) (λ j. same j ∙ alike_got 1 t j);
      within = alike_within 1 t h;
      rest = [];
      cells = sym (append-nil (kinds_of_type s.kinds t)) ∙ sym (append-nil (kinds_of_type s.kinds t ++ []));
    }

    no_part : (t : ObjectType) → ((j : ℕ) → part_at known (Some t) j ≡ None) → HasParts t
    no_part t same = record { parts = []; are = from_first t [] same; within = tt; rest = kinds_of_type s.kinds t; cells = refl }

    has_parts : (ls : List Layer) (b : BaseType) → IsWithin (length known.structs) ls b → HasParts (typed_by ls b)
    has_parts [] base.Void h = absurd h
    has_parts [] base.Int h = single (typed_by [] base.Int) tt (λ j. refl)
    has_parts [] (base.Function k) h = single (typed_by [] (base.Function k)) tt (λ j. refl)
    has_parts [] base.Mutex h = no_part (typed_by [] base.Mutex) (λ j. refl)
    has_parts [] base.Cond h = no_part (typed_by [] base.Cond) (λ j. refl)
    has_parts [] base.Barrier h = no_part (typed_by [] base.Barrier) (λ j. refl)
    has_parts [] base.RwLock h = no_part (typed_by [] base.RwLock) (λ j. refl)
    has_parts [] (base.Struct k) h =
        let is = structs k h in
        record {
          parts = types_of_members is.members;
          are = from_first (typed_by [] (base.Struct k)) (types_of_members is.members) (λ j. ap (λ o. slice_get (members_of o) j) is.got ∙ member_got k is.members j is.are);
          within = members_within k is.members h is.are;
          rest = [];
          cells = is.cells ∙ sym (append-nil (members_kinds s.kinds (types_of_members is.members)));
        }
    has_parts (layer.Pointer ∷ ls) b h = single (typed_by (layer.Pointer ∷ ls) b) tt (λ j. refl)
    has_parts (layer.Array m ∷ ls) b h = record {
      parts = alike m (typed_by ls b);
      are = from_first (typed_by (layer.Array m ∷ ls) b) (alike m (typed_by ls b)) (λ j. alike_got m (typed_by ls b) j);
      within = alike_within m (typed_by ls b) h.1;
      rest = [];
      cells = alike_kinds m (typed_by ls b) ∙ sym (append-nil (members_kinds s.kinds (alike m (typed_by ls b))));
    }

    later_parts : (t : ObjectType) (k : ℕ) (u : ObjectType) (ts : List ObjectType) → ArePartsFrom t k (u ∷ ts) → ArePartsFrom t (k + 1) ts
    later_parts t k u ts h j = let e : k + 1 + j ≡ k + suc j = omega arith in ap (λ i. part_at known (Some t) i) e ∙ h (suc j)

    this_part : (t : ObjectType) (k : ℕ) (ts : List ObjectType) → ArePartsFrom t k ts → part_at known (Some t) k ≡ option_map (λ x. Some x) (slice_get ts 0)
    this_part t k ts h = let e : k ≡ k + 0 = omega arith in ap (λ i. part_at known (Some t) i) e ∙ h 0

    mutual
      pub start_good : (w : Target) (t : ObjectType) (at : Position) (i : Init) → IsWithin (length known.structs) t.layers t.base → initial_faults known true w (Some t) at i ≡ [] → AreWords (kinds_of_type s.kinds t) (start_words s known (Some t) i)
      start_good w t at (value e) h g = value_good w t at e g
      start_good w t at (braces is trailing here) h g =
          let parts = has_parts t.layers t.base h in
          let first = first_more (members_kinds s.kinds parts.parts) parts.rest (parts_words s known (Some t) 0 is) (inits_good t 0 parts.parts at is parts.are parts.within g) in
          padded_are (kinds_of_type s.kinds t) (parts_words s known (Some t) 0 is) (subst (λ ks. AreFirst ks (parts_words s known (Some t) 0 is)) (sym parts.cells) first)
      start_good w t at (mutex_start here) h g = base_start base.Mutex t.layers t.base (not_nil (may_be_base base.Mutex (Some t)) _ _ g) (tt, tt)
      start_good w t at (cond_start here) h g = base_start base.Cond t.layers t.base (not_nil (may_be_base base.Cond (Some t)) _ _ g) (tt, tt)
      start_good w t at (rwlock_start here) h g = base_start base.RwLock t.layers t.base (not_nil (may_be_base base.RwLock (Some t)) _ _ g) (tt, tt)

      inits_good : (t : ObjectType) (k : ℕ) (ts : List ObjectType) (at : Position) (is : Inits) → ArePartsFrom t k ts → AllWithin ts → inits_faults known true (Some t) k at is ≡ [] → AreFirst (members_kinds s.kinds ts) (parts_words s known (Some t) k is)
      inits_good t k ts at no_init are within g = tt
      inits_good t k [] at (and_init x is) are within g =
          let a = nil3 (initial_faults known true no_target (part_type (part_at known (Some t) k)) at x) (mismatch (is_none (part_at known (Some t) k)) at) (inits_faults known true (Some t) (k + 1) at is) g in
          absurd (true≢false (sym (ap is_none (this_part t k [] are)) ∙ where_nil _ _ _ a.1))
      inits_good t k (u ∷ ts) at (and_init x is) are within g =
          let a = nil3 (initial_faults known true no_target (part_type (part_at known (Some t) k)) at x) (mismatch (is_none (part_at known (Some t) k)) at) (inits_faults known true (Some t) (k + 1) at is) g in
          let own : part_type (part_at known (Some t) k) ≡ Some u = ap part_type (this_part t k (u ∷ ts) are) in
          let one = start_good no_target u at x within.0 (subst (λ o. initial_faults known true no_target o at x ≡ []) own a.0) in
          first_parts (kinds_of_type s.kinds u) (members_kinds s.kinds ts) (start_words s known (part_type (part_at known (Some t) k)) x) (parts_words s known (Some t) (k + 1) is)
          (subst (λ o. AreWords (kinds_of_type s.kinds u) (start_words s known o x)) (sym own) one)
          (inits_good t (k + 1) ts at is (later_parts t k u ts are) within.1 a.2)
