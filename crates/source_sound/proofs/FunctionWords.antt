-- The words of an expression of which a pointer to functions is wanted, which is a number.
use Rattle.std.proofs.Common.{◌≡◌, ℕ, Bool, true, false, if◌then◌else◌, List, [], ◌∷◌, Option, refl, sym, ap, ◌∙◌}
use Rattle.c_types.specs.declared.types.BaseType.{BaseType}
use Rattle.c_types.specs.declared.types.BaseType.TheVariants as base
use Rattle.c_types.specs.declared.types.Layer.{Layer}
use Rattle.c_types.specs.declared.types.Layer.TheVariants as layer
use Rattle.c_types.specs.Operands.{Standing, no_type, zero_literal, null_literal, a_value, a_place, Operand, any_operand, whole, zero_operand, null_operand, pointing, function_operand, no_operand, operand_of, layered_operand, fits_functions, are_functions}
use Rattle.c_types.specs.Types.{layered_is_array}
use Rattle.rr_base.specs.declared.position.Position.{Position}
use Rattle.core_tree.specs.Core as core
use Rattle.core_tree.specs.Core.{Function, Program}
use Rattle.core_tree.specs.Meaning.{is_pointer}
use Rattle.c_operators.specs.declared.denoted.WordKind.{WordKind}
use Rattle.c_operators.specs.declared.denoted.WordKind.TheVariants as kind
use Rattle.c_operators.specs.Denoted.{Denoted, denoted_register, denoted_cells, denoted_zero, denoted_null, denoted_value, Part, operand_in, is_pointing, value_by, function_by, wanted_in}
use Rattle.c_operators.specs.Operators.{is_some_address}
use Rattle.core_tree.specs.Sound.{IsPointer, IsSoundExp}
use Rattle.source_sound.proofs.Environment.{DenotedFits}
use Rattle.source_sound.proofs.Apart.{never}
use Rattle.source_sound.proofs.Standings.{address_layers, Gives, Stands, stands_gives}

-- a pointer to functions, or what fits each
abbrev pub is_some_function : Operand → Bool
is_some_function (function_operand k) = true
is_some_function any_operand = true
is_some_function whole = false
is_some_function zero_operand = true
is_some_function null_operand = true
is_some_function (pointing t) = false
is_some_function no_operand = false

-- an object that is one is no pointer to objects
no_address : (ls : List Layer) (b : BaseType) → is_some_function (layered_operand ls b) ≡ true → is_some_address (layered_operand ls b) ≡ false
no_address [] base.Int h = refl
no_address [] base.Void h = refl
no_address [] (base.Struct k) h = refl
no_address [] (base.Function k) h = refl
no_address [] base.Mutex h = refl
no_address [] base.Cond h = refl
no_address [] base.Barrier h = refl
no_address [] base.RwLock h = refl
no_address (layer.Pointer ∷ ls) b h = never h
no_address (layer.Array m ∷ ls) b h = never h

-- of two that fit each other, each fits
fits_one : (a : Operand) → fits_functions a ≡ true → is_some_function a ≡ true
fits_one any_operand h = refl
fits_one whole h = never h
fits_one zero_operand h = refl
fits_one null_operand h = refl
fits_one (pointing t) h = never h
fits_one (function_operand k) h = refl
fits_one no_operand h = never h

pub both_functions : (a b : Operand) → are_functions a b ≡ true → (is_some_function a ≡ true) × (is_some_function b ≡ true)
both_functions any_operand any_operand h = never h
both_functions any_operand whole h = never h
both_functions any_operand zero_operand h = never h
both_functions any_operand null_operand h = never h
both_functions any_operand (pointing t) h = never h
both_functions any_operand (function_operand t) h = (fits_one any_operand h, refl)
both_functions any_operand no_operand h = never h
both_functions whole any_operand h = never h
both_functions whole whole h = never h
both_functions whole zero_operand h = never h
both_functions whole null_operand h = never h
both_functions whole (pointing t) h = never h
both_functions whole (function_operand t) h = (fits_one whole h, refl)
both_functions whole no_operand h = never h
both_functions zero_operand any_operand h = never h
both_functions zero_operand whole h = never h
both_functions zero_operand zero_operand h = never h
both_functions zero_operand null_operand h = never h
both_functions zero_operand (pointing t) h = never h
both_functions zero_operand (function_operand t) h = (fits_one zero_operand h, refl)
both_functions zero_operand no_operand h = never h
both_functions null_operand any_operand h = never h
both_functions null_operand whole h = never h
both_functions null_operand zero_operand h = never h
both_functions null_operand null_operand h = never h
both_functions null_operand (pointing t) h = never h
both_functions null_operand (function_operand t) h = (fits_one null_operand h, refl)
both_functions null_operand no_operand h = never h
both_functions (pointing s) any_operand h = never h
both_functions (pointing s) whole h = never h
both_functions (pointing s) zero_operand h = never h
both_functions (pointing s) null_operand h = never h
both_functions (pointing s) (pointing t) h = never h
both_functions (pointing s) (function_operand t) h = (fits_one (pointing s) h, refl)
both_functions (pointing s) no_operand h = never h
both_functions (function_operand s) any_operand h = (refl, fits_one any_operand h)
both_functions (function_operand s) whole h = (refl, fits_one whole h)
both_functions (function_operand s) zero_operand h = (refl, fits_one zero_operand h)
both_functions (function_operand s) null_operand h = (refl, fits_one null_operand h)
both_functions (function_operand s) (pointing t) h = (refl, fits_one (pointing t) h)
both_functions (function_operand s) (function_operand t) h = (refl, refl)
both_functions (function_operand s) no_operand h = (refl, fits_one no_operand h)
both_functions no_operand any_operand h = never h
both_functions no_operand whole h = never h
both_functions no_operand zero_operand h = never h
both_functions no_operand null_operand h = never h
both_functions no_operand (pointing t) h = never h
both_functions no_operand (function_operand t) h = (fits_one no_operand h, refl)
both_functions no_operand no_operand h = never h

module _ (p : Program) (home : ℕ → Option ℕ) (f : Function) (structs : ℕ) where
  -- the word of an operand where a pointer to functions is wanted
  pub record GivesFunction (a : Operand) (r : core.Exp) : Type 0 where
    pub word : is_some_function a ≡ true → is_pointer r ≡ false
    pub sound : IsSoundExp p home f r

  -- such a word is its value, but for `0` and `NULL`
  own_word : (ls : List Layer) (b : BaseType) (v q : core.Exp) → Gives p home f structs (layered_operand ls b) v q → GivesFunction (layered_operand ls b) v
  own_word ls b v q g = record { word = λ w. g.kind ∙ no_address ls b w; sound = g.sound }

  pub stands_function : (s : Standing) (x : Denoted) → Stands p home f structs s x → GivesFunction (operand_of s) (function_by s x)
  stands_function no_type x h = absurd h
  stands_function zero_literal (denoted_zero at) h = record { word = λ w. refl; sound = tt }
  stands_function zero_literal (denoted_null at) h = absurd h
  stands_function zero_literal (denoted_register n at) h = absurd h
  stands_function zero_literal (denoted_cells e at) h = absurd h
  stands_function zero_literal (denoted_value e) h = absurd h
  stands_function null_literal (denoted_null at) h = record { word = λ w. refl; sound = tt }
  stands_function null_literal (denoted_zero at) h = absurd h
  stands_function null_literal (denoted_register n at) h = absurd h
  stands_function null_literal (denoted_cells e at) h = absurd h
  stands_function null_literal (denoted_value e) h = absurd h
  stands_function (a_value t) (denoted_value e) h = own_word t.layers t.base _ _ (stands_gives p home f structs (a_value t) (denoted_value e) h)
  stands_function (a_value t) (denoted_zero at) h = absurd h
  stands_function (a_value t) (denoted_null at) h = absurd h
  stands_function (a_value t) (denoted_register n at) h = absurd h
  stands_function (a_value t) (denoted_cells e at) h = absurd h
  stands_function (a_place t) (denoted_register n at) h = own_word t.layers t.base _ _ (stands_gives p home f structs (a_place t) (denoted_register n at) h)
  stands_function (a_place t) (denoted_cells e at) h = own_word t.layers t.base _ _ (stands_gives p home f structs (a_place t) (denoted_cells e at) h)
  stands_function (a_place t) (denoted_zero at) h = absurd h
  stands_function (a_place t) (denoted_null at) h = absurd h
  stands_function (a_place t) (denoted_value e) h = absurd h

  -- that of a part
  abbrev pub PartGivesFunction : Part → Type 0
  PartGivesFunction a = GivesFunction (operand_in a) (wanted_in kind.Function a)

  -- the words of one operand, by what is wanted of it
  pub record GivesAll (a : Operand) (words : WordKind → core.Exp) : Type 0 where
    pub objects : Gives p home f structs a (words kind.Number) (words kind.Pointer)
    pub functions : GivesFunction a (words kind.Function)

  -- each is sound
  pub any_sound : (k : WordKind) (a : Operand) (words : WordKind → core.Exp) → GivesAll a words → IsSoundExp p home f (words k)
  any_sound kind.Number a words g = g.objects.sound
  any_sound kind.Pointer a words g = g.objects.pointer_sound
  any_sound kind.Function a words g = g.functions.sound

  -- those of a part
  abbrev pub PartGivesAll : Part → Type 0
  PartGivesAll a = GivesAll (operand_in a) (λ k. wanted_in k a)

  pub stands_all : (a : Part) → Stands p home f structs a.standing a.denoted → PartGivesAll a
  stands_all a h = record { objects = stands_gives p home f structs a.standing a.denoted h; functions = stands_function a.standing a.denoted h }

  -- ---- what fits gives a sound word

  cells_word : (ls : List Layer) (b : BaseType) (e : core.Exp) (at : Position) → IsPointer e → IsSoundExp p home f e →
      (is_pointer (if layered_is_array ls then e else core.load e (is_pointing (layered_operand ls b)) at) ≡ is_some_address (layered_operand ls b))
      × IsSoundExp p home f (if layered_is_array ls then e else core.load e (is_pointing (layered_operand ls b)) at)
  cells_word [] b e at k s = (address_layers [] b, (k, s))
  cells_word (layer.Pointer ∷ ls) b e at k s = (refl, (k, s))
  cells_word (layer.Array m ∷ ls) b e at k s = (k, s)

  pub value_fits : (s : Standing) (x : Denoted) → DenotedFits p home f s x → (is_pointer (value_by s x) ≡ is_some_address (operand_of s)) × IsSoundExp p home f (value_by s x)
  value_fits no_type (denoted_register n at) h = absurd h.0
  value_fits zero_literal (denoted_register n at) h = absurd h.0
  value_fits null_literal (denoted_register n at) h = absurd h.0
  value_fits (a_value t) (denoted_register n at) h = absurd h.0
  value_fits (a_place t) (denoted_register n at) h = (address_layers t.layers t.base, h.1)
  value_fits no_type (denoted_cells e at) h = absurd h.0
  value_fits zero_literal (denoted_cells e at) h = absurd h.0
  value_fits null_literal (denoted_cells e at) h = absurd h.0
  value_fits (a_value t) (denoted_cells e at) h = absurd h.0
  value_fits (a_place t) (denoted_cells e at) h = cells_word t.layers t.base e at h.1 h.2
  value_fits s (denoted_zero at) h = (ap (λ z. is_some_address (operand_of z)) (sym h), tt)
  value_fits s (denoted_null at) h = (ap (λ z. is_some_address (operand_of z)) (sym h), tt)
  value_fits s (denoted_value e) h = (h.0, h.1)
