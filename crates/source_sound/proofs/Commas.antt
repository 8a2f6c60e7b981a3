-- Expressions with commas between them: joined as they are, all are sound, and what is made of them stands as the last.
use Rattle.std.proofs.Common.{◌≡◌, ℕ, List, [], ◌∷◌, Option, Some, None, refl}
use Rattle.rr_base.specs.declared.position.Position.{Position}
use Rattle.c_types.specs.Operands.{Standing, as_value}
use Rattle.c_types.specs.Standing.{following}
use Rattle.core_tree.specs.Core as core
use Rattle.core_tree.specs.Core.{Function, Program}
use Rattle.c_operators.specs.Denoted.{Denoted, denoted_value}
use Rattle.c_operators.specs.Context.{Context}
use Rattle.c_operators.specs.Commas.{with_last, joined}
use Rattle.core_tree.specs.Sound.{IsSoundExp}
use Rattle.source_sound.proofs.Environment.{Suits}
use Rattle.source_sound.proofs.Standings.{Stands}
use Rattle.source_sound.proofs.Nodes.{comma_stands, after_stands}

module _ (p : Program) (home : ℕ → Option ℕ) (f : Function) (h : Context) (suits : Suits p home f h) where
  abbrev stands : Standing → Denoted → Type 0
  stands = Stands p home f suits.structs

  -- the words so far are sound
  abbrev pub AllSound : List (Option core.Exp) → Type 0
  AllSound [] = Unit {0}
  AllSound (None ∷ places) = AllSound places
  AllSound (Some e ∷ places) = IsSoundExp p home f e × AllSound places

  -- there is a last one, which stands as this
  abbrev pub LastStands : Standing → List (Option core.Exp) → Type 0
  LastStands s [] = ⊥
  LastStands s (None ∷ places) = LastStands s places
  LastStands s (Some e ∷ places) = stands s (denoted_value e)

  pub with_last_sound : (e : core.Exp) (places : List (Option core.Exp)) (at : Position) → IsSoundExp p home f e → AllSound places → AllSound (with_last e places at)
  with_last_sound e [] at sound all = (sound, tt)
  with_last_sound e (None ∷ places) at sound all = (sound, all)
  with_last_sound e (Some before ∷ places) at sound all = with_last_sound (core.comma before e at) places at (all.0, sound) all.1

  pub with_last_stands : (s : Standing) (e : core.Exp) (places : List (Option core.Exp)) (at : Position) → stands s (denoted_value e) → AllSound places → LastStands s (with_last e places at)
  with_last_stands s e [] at k all = k
  with_last_stands s e (None ∷ places) at k all = k
  with_last_stands s e (Some before ∷ places) at k all =
      with_last_stands s (core.comma before e at) places at (comma_stands p home f h suits s before e at all.0 k) all.1

  -- after words that have a type
  pub after_last : (s t : Standing) (places : List (Option core.Exp)) (v : core.Exp) → LastStands (as_value s) places → stands (as_value t) (denoted_value v) → stands (as_value (following s t)) (denoted_value v)
  after_last s t [] v last k = absurd last
  after_last s t (None ∷ places) v last k = after_last s t places v last k
  after_last s t (Some e ∷ places) v last k = after_stands p home f h suits s t e v last k

  -- all of them as one
  pub record Joined (s : Standing) (whole : Option core.Exp) : Type 0 where
    pub last : core.Exp
    pub is : whole ≡ Some last
    pub stands_last : stands s (denoted_value last)

  before_stands : (s : Standing) (places : List (Option core.Exp)) (e : core.Exp) (at : Position) → AllSound places → stands s (denoted_value e) → Joined s (joined places (Some e) at)
  before_stands s [] e at all k = record { last = e; is = refl; stands_last = k }
  before_stands s (None ∷ places) e at all k = before_stands s places e at all k
  before_stands s (Some before ∷ places) e at all k =
      before_stands s places (core.comma before e at) at all.1 (comma_stands p home f h suits s before e at all.0 k)

  pub joined_stands : (s : Standing) (places : List (Option core.Exp)) (at : Position) → AllSound places → LastStands s places → Joined s (joined places None at)
  joined_stands s [] at all k = absurd k
  joined_stands s (None ∷ places) at all k = joined_stands s places at all k
  joined_stands s (Some before ∷ places) at all k = before_stands s places before at all.1 k
