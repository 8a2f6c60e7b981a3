-- An expression without a fault: what stands for it is there, and is of the kind that is known of it.
use Rattle.std.proofs.Common.{◌≡◌, ℕ, suc, pred, true, false, not, ◌&&◌, List, [], ◌∷◌, length, Option, Some, refl, sym, ap, subst, arith}
use Rattle.word_semantics.specs.declared.operator.BinaryOp.TheVariants as flow
use Rattle.c_tree.specs.declared.ctype.CType.{CType}
use Rattle.c_tree.specs.Tree.{Exp, comma, assign, conditional, binary, prefix, sizeof_exp, sizeof_type, cast, index, member, arrow, post_increment, post_decrement, named, call, number, letter, text, null, paren, Exps, no_exp, and_exp}
use Rattle.rr_base.specs.declared.position.Position.{Position}
use Rattle.c_types.specs.declared.library.Wanted.{Wanted}
use Rattle.c_types.specs.declared.library.Wanted.TheVariants as wants
use Rattle.c_types.specs.declared.fault.FaultKind.TheVariants as fault
use Rattle.c_types.specs.Library.{library_named}
use Rattle.c_types.specs.Scopes.{seen, type_named}
use Rattle.c_types.specs.Operands.{Standing, Operand, operand_of, as_value, takes}
use Rattle.c_types.specs.Standing.{Target, no_target, assigned_target, cast_target, casts_to, can_cast, can_index, struct_of, pointed_struct, let_go, following, is_sized, format_of, standing, last_standing}
use Rattle.c_rules.specs.Faults.{mismatch, condition_takes, go_faults, step_faults, cast_faults, specifier_faults, assign_faults, prefix_faults, member_faults, callee_faults, format_faults, begins_with_text, count_of, place_of_first, call_faults, wants_of, one_argument_faults, faults, rest_faults, arguments_faults}
use Rattle.c_types.specs.Constants.{is_address}
use Rattle.c_locals.specs.Addresses.{where_address, number_of_operand, addressed, all_addressed}
use Rattle.c_spots.specs.Spots.{is_malloc, where_malloc, allocations, all_allocations}
use Rattle.core_tree.specs.Core as core
use Rattle.core_tree.specs.Core.{Function, Program}
use Rattle.c_operators.specs.Denoted.{Denoted, denoted_value, denoted_zero, value_by, position_of}
use Rattle.c_operators.specs.Context.{Context, offset_in}
use Rattle.c_operators.specs.Operators.{conditional_in, binary_in, prefix_in, cast_in}
use Rattle.c_operators.specs.Commas.{with_last}
use Rattle.c_values.specs.Expressions.{with_tail, is_pointer_type, denoted, tail_of, part}
use Rattle.core_tree.specs.Sound.{IsSoundExp}
use Rattle.source_sound.proofs.Environment.{IsFormedTarget, AreKept, places_of, Suits, HaveSites}
use Rattle.source_sound.proofs.Apart.{not_nothing, append_nil, append_nil₃, append_nil₄, keeps}
use Rattle.source_sound.proofs.Standings.{Stands, PartGives, stands_gives}
use Rattle.source_sound.proofs.FunctionWords.{PartGivesAll, stands_all}
use Rattle.source_sound.proofs.Operators.{conditional_stands, index_stands, binary_stands}
use Rattle.source_sound.proofs.Places.{member_stands, arrow_stands}
use Rattle.source_sound.proofs.Folding.{value_stands}
use Rattle.source_sound.proofs.Calls.{AreWanted}
use Rattle.source_sound.proofs.Names.{type_known, sized_type}
use Rattle.source_sound.proofs.Called.{AllFit, no_arguments, argument_fits, called_stands}
use Rattle.source_sound.proofs.Targets.{IsKnownType, formed_assigned_target, formed_cast_target, sites_apart, sites_apart₃, malloc_site, kept_apart, kept_apart₃}
use Rattle.source_sound.proofs.Commas.{AllSound, LastStands, Joined, with_last_sound, with_last_stands, after_last, joined_stands}
use Rattle.source_sound.proofs.Nodes.{folded_here, sized_stands, number_stands, named_stands, steps_stands, assigns_stands, prefixed_stands, casts_stand, comma_stands, gone_stands, after_stands}

module _ (p : Program) (home : ℕ → Option ℕ) (f : Function) (h : Context) (suits : Suits p home f h) where
  abbrev structs : ℕ
  structs = suits.structs

  abbrev stands : Standing → Denoted → Type 0
  stands = Stands p home f suits.structs

  -- of an expression of this place
  abbrev StandsHere : Target → Exp → Type 0
  StandsHere w e = stands (standing h.known w e) (denoted h w e)

  abbrev word : Exp → core.Exp
  word e = value_by (standing h.known no_target e) (denoted h no_target e)

  gives_here : (w : Target) (e : Exp) → StandsHere w e → PartGives p home f structs (part h w e)
  gives_here w e s = stands_gives p home f structs (standing h.known w e) (denoted h w e) s

  all_here : (w : Target) (e : Exp) → StandsHere w e → PartGivesAll p home f structs (part h w e)
  all_here w e s = stands_all p home f structs (part h w e) s

  -- ---- casts

  known_type : (t : CType) → specifier_faults h.known false t.specifier ≡ [] → IsKnownType structs (type_named h.known t)
  known_type t none =
      let u = type_known h.known structs suits.names t false none in
      subst (IsKnownType structs) (sym u.1) u.2

  cast_apart : (t : CType) (a : Operand) (at : Position) → cast_faults h.known t a at ≡ [] → (casts_to (type_named h.known t) t.stars && can_cast a) ≡ true
  cast_apart t a at none = keeps (casts_to (type_named h.known t) t.stars && can_cast a) fault.TypeMismatch at (append_nil (mismatch (not (casts_to (type_named h.known t) t.stars && can_cast a)) at) (specifier_faults h.known false t.specifier) none).0

  cast_specifier : (t : CType) (a : Operand) (at : Position) → cast_faults h.known t a at ≡ [] → specifier_faults h.known false t.specifier ≡ []
  cast_specifier t a at none = (append_nil (mismatch (not (casts_to (type_named h.known t) t.stars && can_cast a)) at) (specifier_faults h.known false t.specifier) none).1

  -- ---- commas

  -- the word that comes after those so far
  abbrev Tail : Standing → Exps → List (Option core.Exp) → Position → Type 0
  Tail s es places at = Joined p home f h suits (last_standing h.known s es) (tail_of h es places at)

  comma_tail : (s : Standing) (v : core.Exp) (es : Exps) (at : Position) → IsSoundExp p home f v → Tail s es [] at → stands (last_standing h.known s es) (denoted_value (with_tail v (tail_of h es [] at) at))
  comma_tail s v es at sound t =
      subst (λ z. stands (last_standing h.known s es) (denoted_value (with_tail v z at))) (sym t.is)
      (comma_stands p home f h suits (last_standing h.known s es) v t.last at sound t.stands_last)

  -- ---- arguments

  no_count : (n : ℕ) → 0 ≡ suc n → ⊥
  no_count n e = omega arith

  more_wanted : (x : Wanted) (ws : List Wanted) → AreWanted (x ∷ ws) → AreWanted ws
  more_wanted (wants.Fits t) ws v = v
  more_wanted wants.Anything ws v = absurd v
  more_wanted wants.Attribute ws v = v
  more_wanted wants.Root ws v = v
  more_wanted wants.Text ws v = v

  -- ---- expressions

  mutual
    pub exp_stands : (e : Exp) (w : Target) → faults h.known w e ≡ [] → HaveSites p home f h (places_of (allocations h.known w e)) → AreKept h (addressed h.numbers e) → IsFormedTarget structs w → StandsHere w e
    exp_stands (comma e no_exp at) w none sites kept formed =
        let none' = append_nil₃ (faults h.known no_target e) (go_faults (standing h.known no_target e) e) [] none in
        let s = exp_stands e no_target none'.0 (sites_apart p home f h (allocations h.known no_target e) [] sites).0 (kept_apart h (addressed h.numbers e) [] kept).0 tt in
        let g = gives_here no_target e s in
        gone_stands p home f h suits e (word e) s none'.1 g.kind g.sound
    exp_stands (comma e (and_exp x xs) at) w none sites kept formed =
        let none' = append_nil₃ (faults h.known no_target e) (go_faults (standing h.known no_target e) e) (rest_faults h.known (and_exp x xs)) none in
        let more = append_nil₃ (faults h.known no_target x) (go_faults (standing h.known no_target x) x) (rest_faults h.known xs) none'.2 in
        let sites' = sites_apart p home f h (allocations h.known no_target e) (all_allocations h.known (and_exp x xs)) sites in
        let sites'' = sites_apart p home f h (allocations h.known no_target x) (all_allocations h.known xs) sites'.1 in
        let kept' = kept_apart h (addressed h.numbers e) (all_addressed h.numbers (and_exp x xs)) kept in
        let kept'' = kept_apart h (addressed h.numbers x) (all_addressed h.numbers xs) kept'.1 in
        let s = exp_stands e no_target none'.0 sites'.0 kept'.0 tt in
        let s' = exp_stands x no_target more.0 sites''.0 kept''.0 tt in
        let g = gives_here no_target e s in
        let g' = gives_here no_target x s' in
        let gone = gone_stands p home f h suits e (word e) s none'.1 g.kind g.sound in
        let gone' = gone_stands p home f h suits x (word x) s' more.1 g'.kind g'.sound in
        comma_tail (let_go (standing h.known no_target e)) (word e) (and_exp x xs) (position_of at) g.sound
        (tail_stands xs (following (let_go (standing h.known no_target e)) (let_go (standing h.known no_target x))) (Some (word x) ∷ []) (position_of at)
        (after_stands p home f h suits (let_go (standing h.known no_target e)) (let_go (standing h.known no_target x)) (word e) (word x) gone gone') (g'.sound, tt) more.2 sites''.1 kept''.1)
    exp_stands (assign a o b at) w none sites kept formed =
        let sa = standing h.known no_target a in
        let w' = assigned_target o sa in
        let none' = append_nil₃ (faults h.known no_target a) (faults h.known w' b) (assign_faults h.known o a sa (operand_of (standing h.known w' b)) at) none in
        let sites' = sites_apart p home f h (allocations h.known no_target a) (allocations h.known w' b) sites in
        let kept' = kept_apart h (addressed h.numbers a) (addressed h.numbers b) kept in
        let s = exp_stands a no_target none'.0 sites'.0 kept'.0 tt in
        let s' = exp_stands b w' none'.1 sites'.1 kept'.1 (formed_assigned_target p home f structs o sa (denoted h no_target a) s) in
        assigns_stands p home f h suits a o (part h w' b) at (position_of at) s (all_here w' b s') none'.2
    exp_stands (conditional a b c at) w none sites kept formed =
        let none' = append_nil₄ (faults h.known no_target a) (faults h.known no_target b) (faults h.known no_target c) (mismatch (not (condition_takes (operand_of (standing h.known no_target a)) (operand_of (standing h.known no_target b)) (operand_of (standing h.known no_target c)))) at) none in
        let sites' = sites_apart₃ p home f h (allocations h.known no_target a) (allocations h.known no_target b) (allocations h.known no_target c) sites in
        let kept' = kept_apart₃ h (addressed h.numbers a) (addressed h.numbers b) (addressed h.numbers c) kept in
        let s = exp_stands a no_target none'.0 sites'.0 kept'.0 tt in
        let s' = exp_stands b no_target none'.1 sites'.1 kept'.1 tt in
        let s'' = exp_stands c no_target none'.2 sites'.2 kept'.2 tt in
        folded_here p home f h suits w (conditional a b c at) (denoted_value (conditional_in (part h no_target a) (part h no_target b) (part h no_target c) (position_of at))) (position_of at) tt
        (conditional_stands p home f structs (part h no_target a) (part h no_target b) (part h no_target c) (position_of at) (gives_here no_target a s) (all_here no_target b s') (all_here no_target c s'')
        (keeps (condition_takes (operand_of (standing h.known no_target a)) (operand_of (standing h.known no_target b)) (operand_of (standing h.known no_target c))) fault.TypeMismatch at none'.3))
    exp_stands (binary a o b at) w none sites kept formed =
        let none' = append_nil₃ (faults h.known no_target a) (faults h.known no_target b) (mismatch (not (takes o (operand_of (standing h.known no_target a)) (operand_of (standing h.known no_target b)))) at) none in
        let sites' = sites_apart p home f h (allocations h.known no_target a) (allocations h.known no_target b) sites in
        let kept' = kept_apart h (addressed h.numbers a) (addressed h.numbers b) kept in
        let s = exp_stands a no_target none'.0 sites'.0 kept'.0 tt in
        let s' = exp_stands b no_target none'.1 sites'.1 kept'.1 tt in
        folded_here p home f h suits w (binary a o b at) (denoted_value (binary_in h.source o (part h no_target a) (part h no_target b) (position_of at))) (position_of at) tt
        (binary_stands p home f structs h.source suits.sizes o (part h no_target a) (part h no_target b) (position_of at) (all_here no_target a s) (all_here no_target b s')
        (keeps (takes o (operand_of (standing h.known no_target a)) (operand_of (standing h.known no_target b))) fault.TypeMismatch at none'.2))
    exp_stands (prefix o a at) w none sites kept formed =
        let none' = append_nil (faults h.known no_target a) (prefix_faults h.known o a (standing h.known no_target a) at) none in
        let kept' = kept_apart h (where_address (is_address o) (number_of_operand h.numbers a)) (addressed h.numbers a) kept in
        let s = exp_stands a no_target none'.0 sites kept'.1 tt in
        folded_here p home f h suits w (prefix o a at) (prefix_in h.source o (part h no_target a) (position_of at)) (position_of at) tt
        (prefixed_stands p home f h suits o a at (position_of at) s kept'.0 none'.1)
    exp_stands (sizeof_exp a at) w none sites kept formed =
        let none' = append_nil (faults h.known no_target a) (mismatch (not (is_sized h.known (standing h.known no_target a))) at) none in
        let s = exp_stands a no_target none'.0 sites kept tt in
        sized_stands p home f h suits w a at s (keeps (is_sized h.known (standing h.known no_target a)) fault.TypeMismatch at none'.1)
    exp_stands (sizeof_type t at) w none sites kept formed =
        value_stands p home f structs true _ (standing h.known w (sizeof_type t at)) (denoted_zero (position_of at)) (position_of at) refl (sized_type h.known t at none)
    exp_stands (cast t a at) w none sites kept formed =
        let w' = cast_target (type_named h.known t) t.stars in
        let none' = append_nil (faults h.known w' a) (cast_faults h.known t (operand_of (standing h.known w' a)) at) none in
        let known = known_type t (cast_specifier t (operand_of (standing h.known w' a)) at none'.1) in
        let s = exp_stands a w' none'.0 sites kept (formed_cast_target structs (type_named h.known t) t.stars known) in
        folded_here p home f h suits w (cast t a at) (denoted_value (cast_in (is_pointer_type (type_named h.known t)) (part h w' a) (position_of at))) (position_of at) tt
        (casts_stand p home f h suits (type_named h.known t) t.stars (part h w' a) (position_of at) known (gives_here w' a s) (cast_apart t (operand_of (standing h.known w' a)) at none'.1))
    exp_stands (index a b at) w none sites kept formed =
        let none' = append_nil₃ (faults h.known no_target a) (faults h.known no_target b) (mismatch (not (can_index (operand_of (standing h.known no_target a)) (operand_of (standing h.known no_target b)))) at) none in
        let sites' = sites_apart p home f h (allocations h.known no_target a) (allocations h.known no_target b) sites in
        let kept' = kept_apart h (addressed h.numbers a) (addressed h.numbers b) kept in
        let s = exp_stands a no_target none'.0 sites'.0 kept'.0 tt in
        let s' = exp_stands b no_target none'.1 sites'.1 kept'.1 tt in
        index_stands p home f structs h.source suits.sizes (part h no_target a) (part h no_target b) (position_of at) (gives_here no_target a s) (gives_here no_target b s')
        (keeps (can_index (operand_of (standing h.known no_target a)) (operand_of (standing h.known no_target b))) fault.TypeMismatch at none'.2)
    exp_stands (member a name at) w none sites kept formed =
        let sa = standing h.known no_target a in
        let none' = append_nil (faults h.known no_target a) (member_faults h.known (operand_of sa) (struct_of sa) name at) none in
        let s = exp_stands a no_target none'.0 sites kept tt in
        member_stands p home f structs h.known suits.members sa (denoted h no_target a) name at (offset_in h.source (struct_of sa) name.text) (position_of at) s none'.1
    exp_stands (arrow a name at) w none sites kept formed =
        let sa = standing h.known no_target a in
        let none' = append_nil (faults h.known no_target a) (member_faults h.known (operand_of sa) (pointed_struct (operand_of sa)) name at) none in
        let s = exp_stands a no_target none'.0 sites kept tt in
        arrow_stands p home f structs h.known suits.members (part h no_target a) name at (offset_in h.source (pointed_struct (operand_of sa)) name.text) (position_of at) (gives_here no_target a s) none'.1
    exp_stands (post_increment a at) w none sites kept formed =
        let none' = append_nil (faults h.known no_target a) (step_faults h.known a (standing h.known no_target a) at) none in
        steps_stands p home f h suits a flow.Add true at (position_of at) (exp_stands a no_target none'.0 sites kept tt) none'.1
    exp_stands (post_decrement a at) w none sites kept formed =
        let none' = append_nil (faults h.known no_target a) (step_faults h.known a (standing h.known no_target a) at) none in
        steps_stands p home f h suits a flow.Subtract true at (position_of at) (exp_stands a no_target none'.0 sites kept tt) none'.1
    exp_stands (named name at) w none sites kept formed = named_stands p home f h suits name at w none
    exp_stands (call name es at) w none sites kept formed =
        let ws = wants_of h.known name (format_of es) (seen h.known name) in
        let none' = append_nil (call_faults h.known w name es at) (arguments_faults h.known ws at es) none in
        let own = append_nil (callee_faults h.known name w (begins_with_text es) (format_of es) (count_of es) at (seen h.known name)) (format_faults (begins_with_text es) (library_named name) (seen h.known name) (format_of es) (place_of_first es)) none'.0 in
        let sites' = sites_apart p home f h (where_malloc (is_malloc h.known name) w at) (all_allocations h.known es) sites in
        called_stands p home f h suits w name (seen h.known name) es at (place_of_first es) (position_of at) refl formed
        (λ e e'. malloc_site p home f h name w at sites'.0 e e') own.0 own.1 none'.1 (λ ws' n c v. arguments_fit es ws' at n sites'.1 kept c v)
    exp_stands (number n at) w none sites kept formed = number_stands p home f h suits n at w
    exp_stands (letter n at) w none sites kept formed = (tt, refl, tt)
    exp_stands (text bytes at) w none sites kept formed = not_nothing _ [] none
    exp_stands (null at) w none sites kept formed = tt
    exp_stands (paren a at) w none sites kept formed = exp_stands a w none sites kept formed

    -- the expressions after a comma
    tail_stands : (es : Exps) (s : Standing) (places : List (Option core.Exp)) (at : Position) → LastStands p home f h suits (as_value s) places → AllSound p home f h suits places → rest_faults h.known es ≡ [] → HaveSites p home f h (places_of (all_allocations h.known es)) → AreKept h (all_addressed h.numbers es) → Tail s es places at
    tail_stands no_exp s places at last sound none sites kept = joined_stands p home f h suits (as_value s) places at sound last
    tail_stands (and_exp x xs) s places at last sound none sites kept =
        let more = append_nil₃ (faults h.known no_target x) (go_faults (standing h.known no_target x) x) (rest_faults h.known xs) none in
        let sites' = sites_apart p home f h (allocations h.known no_target x) (all_allocations h.known xs) sites in
        let kept' = kept_apart h (addressed h.numbers x) (all_addressed h.numbers xs) kept in
        let s' = exp_stands x no_target more.0 sites'.0 kept'.0 tt in
        let g = gives_here no_target x s' in
        let gone = gone_stands p home f h suits x (word x) s' more.1 g.kind g.sound in
        let next = following s (let_go (standing h.known no_target x)) in
        let stands_next = after_last p home f h suits s (let_go (standing h.known no_target x)) places (word x) last gone in
        tail_stands xs next (with_last (word x) places at) at (with_last_stands p home f h suits (as_value next) (word x) places at stands_next sound)
        (with_last_sound p home f h suits (word x) places at g.sound sound) more.2 sites'.1 kept'.1

    pub arguments_fit : (es : Exps) (ws : List Wanted) (at : Position) → arguments_faults h.known ws at es ≡ [] → HaveSites p home f h (places_of (all_allocations h.known es)) → AreKept h (all_addressed h.numbers es) → count_of es ≡ length ws → AreWanted ws → AllFit p home f h suits ws es
    arguments_fit no_exp [] at none sites kept c v = no_arguments p home f h suits
    arguments_fit no_exp (x ∷ ws) at none sites kept c v = absurd (no_count (length ws) c)
    arguments_fit (and_exp e es) [] at none sites kept c v = absurd (no_count (count_of es) (sym c))
    arguments_fit (and_exp e es) (x ∷ ws) at none sites kept c v =
        let none' = append_nil (one_argument_faults h.known x at e (faults h.known no_target e)) (arguments_faults h.known ws at es) none in
        let sites' = sites_apart p home f h (allocations h.known no_target e) (all_allocations h.known es) sites in
        let kept' = kept_apart h (addressed h.numbers e) (all_addressed h.numbers es) kept in
        argument_fits p home f h suits x e ws es at v none'.0 (λ n. exp_stands e no_target n sites'.0 kept'.0 tt)
        (arguments_fit es ws at none'.1 sites'.1 kept'.1 (ap pred c) (more_wanted x ws v))
