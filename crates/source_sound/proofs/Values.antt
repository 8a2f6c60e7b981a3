-- The word of an expression without a fault: it is sound, and a pointer or a number as it is wanted.
use Rattle.std.proofs.Common.{◌≡◌, ℕ, true, [], Option}
use Rattle.c_tree.specs.Tree.{Exp}
use Rattle.c_types.specs.declared.types.ObjectType.{ObjectType}
use Rattle.c_types.specs.declared.library.StarredType.{StarredType}
use Rattle.c_types.specs.Library.{starred_type}
use Rattle.c_types.specs.Operands.{Standing, no_type, zero_literal, null_literal, a_value, a_place, operand_of, type_operand, is_typed, is_whole, is_some_pointer, accepts}
use Rattle.c_types.specs.Standing.{Target, no_target, standing}
use Rattle.c_rules.specs.Faults.{faults}
use Rattle.c_locals.specs.Addresses.{addressed}
use Rattle.c_spots.specs.Spots.{allocations}
use Rattle.core_tree.specs.Core.{Function, Program}
use Rattle.core_tree.specs.Meaning.{is_pointer}
use Rattle.c_operators.specs.declared.denoted.WordKind.{WordKind}
use Rattle.c_operators.specs.declared.denoted.WordKind.TheVariants as kind
use Rattle.c_operators.specs.Denoted.{Denoted, denoted_register, denoted_cells, denoted_zero, denoted_null, denoted_value, is_pointing, kind_of}
use Rattle.c_operators.specs.Context.{Context}
use Rattle.c_operators.specs.Operators.{is_some_address}
use Rattle.c_values.specs.Calls.{is_pointer_wanted, kind_wanted}
use Rattle.c_values.specs.Expressions.{denoted, part, value_of, wanted_of}
use Rattle.core_tree.specs.Sound.{IsPointer, IsWhole, IsSoundExp}
use Rattle.source_sound.proofs.Environment.{IsFormed, IsFormedValue, IsFormedTarget, AreKept, places_of, DenotedFits, HaveSites, Suits}
use Rattle.source_sound.proofs.Standings.{Stands, PartGives, stands_denoted, stands_gives}
use Rattle.source_sound.proofs.FunctionWords.{any_sound, PartGivesAll, stands_all}
use Rattle.source_sound.proofs.Choices.{gives_whole}
use Rattle.source_sound.proofs.Changes.{accepted}
use Rattle.source_sound.proofs.Calls.{fitting_word}
use Rattle.source_sound.proofs.Expressions.{exp_stands}

-- an object's type is formed, and a value is no struct or array
abbrev pub IsFormedStanding : ℕ → Standing → Type 0
IsFormedStanding n (a_place t) = IsFormed n t
IsFormedStanding n (a_value t) = IsFormedValue n t
IsFormedStanding n _ = Unit {0}

module _ (p : Program) (home : ℕ → Option ℕ) (f : Function) where
  formed_standing : (n : ℕ) (s : Standing) (x : Denoted) → Stands p home f n s x → IsFormedStanding n s
  formed_standing n no_type x h = tt
  formed_standing n zero_literal x h = tt
  formed_standing n null_literal x h = tt
  formed_standing n (a_value t) (denoted_value e) h = h.0
  formed_standing n (a_value t) (denoted_zero at) h = absurd h
  formed_standing n (a_value t) (denoted_null at) h = absurd h
  formed_standing n (a_value t) (denoted_register r at) h = absurd h
  formed_standing n (a_value t) (denoted_cells e at) h = absurd h
  formed_standing n (a_place t) (denoted_register r at) h = h.0
  formed_standing n (a_place t) (denoted_cells e at) h = h.0
  formed_standing n (a_place t) (denoted_zero at) h = absurd h
  formed_standing n (a_place t) (denoted_null at) h = absurd h
  formed_standing n (a_place t) (denoted_value e) h = absurd h

  module _ (h : Context) (suits : Suits p home f h) where
    -- an expression without a fault, whose allocations have sites, and which takes the address of no register
    pub record IsApt (w : Target) (e : Exp) : Type 0 where
      pub none : faults h.known w e ≡ []
      pub sites : HaveSites p home f h (places_of (allocations h.known w e))
      pub kept : AreKept h (addressed h.numbers e)
      pub target : IsFormedTarget suits.structs w

    pub stands_here : (w : Target) (e : Exp) → IsApt w e → Stands p home f suits.structs (standing h.known w e) (denoted h w e)
    stands_here w e a = exp_stands p home f h suits e w a.none a.sites a.kept a.target

    pub expression_fits : (w : Target) (e : Exp) → IsApt w e → DenotedFits p home f (standing h.known w e) (denoted h w e)
    expression_fits w e a = stands_denoted p home f suits.structs (standing h.known w e) (denoted h w e) (stands_here w e a)

    pub expression_gives : (w : Target) (e : Exp) → IsApt w e → PartGives p home f suits.structs (part h w e)
    expression_gives w e a = stands_gives p home f suits.structs (standing h.known w e) (denoted h w e) (stands_here w e a)

    -- it has a type, which is formed
    pub expression_typed : (w : Target) (e : Exp) → IsApt w e → is_typed (operand_of (standing h.known w e)) ≡ true
    expression_typed w e a = (expression_gives w e a).typed

    pub expression_formed : (w : Target) (e : Exp) → IsApt w e → IsFormedStanding suits.structs (standing h.known w e)
    expression_formed w e a = formed_standing suits.structs (standing h.known w e) (denoted h w e) (stands_here w e a)

    -- ---- words

    pub value_sound : (e : Exp) → IsApt no_target e → IsSoundExp p home f (value_of h e)
    value_sound e a = (expression_gives no_target e a).sound

    pub value_kind : (e : Exp) → IsApt no_target e → is_pointer (value_of h e) ≡ is_some_address (operand_of (standing h.known no_target e))
    value_kind e a = (expression_gives no_target e a).kind

    pub value_whole : (e : Exp) → IsApt no_target e → is_whole (operand_of (standing h.known no_target e)) ≡ true → IsWhole (value_of h e)
    value_whole e a w = gives_whole p home f suits.structs (operand_of (standing h.known no_target e)) _ _ (expression_gives no_target e a) w

    pub expression_words : (w : Target) (e : Exp) → IsApt w e → PartGivesAll p home f suits.structs (part h w e)
    expression_words w e a = stands_all p home f suits.structs (part h w e) (stands_here w e a)

    -- whichever is wanted
    pub wanted_sound : (k : WordKind) (w : Target) (e : Exp) → IsApt w e → IsSoundExp p home f (wanted_of h k w e)
    wanted_sound k w e a = any_sound p home f suits.structs k (operand_of (standing h.known w e)) (λ q. wanted_of h q w e) (expression_words w e a)

    -- a pointer is wanted, and it is one or the literal `0`
    pub wanted_pointer : (w : Target) (e : Exp) → IsApt w e → is_some_pointer (operand_of (standing h.known w e)) ≡ true → IsPointer (wanted_of h kind.Pointer w e)
    wanted_pointer w e a k = (expression_gives w e a).pointer k

    -- an object of the type gets the word, as a first value or by an assignment
    pub wanted_kind : (t : ObjectType) (w : Target) (e : Exp) → IsApt w e → accepts t (operand_of (standing h.known w e)) ≡ true → is_pointer (wanted_of h (kind_of (type_operand t)) w e) ≡ is_pointing (type_operand t)
    wanted_kind t w e a k = accepted p home f suits.structs t (operand_of (standing h.known w e)) (λ q. wanted_of h q w e) (expression_words w e a) k

    -- a function gives the word, or gets it
    pub wanted_kind_starred : (t : StarredType) (w : Target) (e : Exp) → IsApt w e → accepts (starred_type t) (operand_of (standing h.known w e)) ≡ true → is_pointer (wanted_of h (kind_wanted t) w e) ≡ is_pointer_wanted t
    wanted_kind_starred t w e a k = fitting_word p home f suits.structs t (operand_of (standing h.known w e)) (λ q. wanted_of h q w e) (expression_words w e a) k
