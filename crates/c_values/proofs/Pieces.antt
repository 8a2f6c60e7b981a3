-- The pieces of a format, one byte after another, and what stands first in a list.
use Rattle.std.proofs.Common.{◌≡◌, ◌<◌, ℕ, List, [], ◌∷◌, length, map, slice_get, Some, refl, arith}
use Rattle.c_types.specs.declared.format.Inside.{Inside}
use Rattle.c_types.specs.declared.format.Inside.TheVariants as inside
use Rattle.c_types.specs.declared.library.LibraryName.{LibraryName}
use Rattle.c_types.specs.declared.library.LibraryName.TheVariants as library
use Rattle.c_types.specs.Scopes.{Known}
use Rattle.c_tree.specs.Tree.{Exps}
use Rattle.rr_base.specs.declared.position.Position.{Position}
use Rattle.core_tree.specs.declared.value.Value.{Value}
use Rattle.core_tree.specs.Core as core
use Rattle.core_tree.specs.View.{exp_of}
use Rattle.c_values.specs.Calls.{pieces_from, first_of, library_called, library_of}

pub pieces_at_end : (i : Inside) → pieces_from i [] ≡ []
pieces_at_end inside.Text = refl
pieces_at_end inside.Percent = refl
pieces_at_end inside.Long = refl
pieces_at_end inside.LongLong = refl

pub first_met : (es : List Value) (e : Value) (at : Position) → slice_get es 0 ≡ Some e → first_of (map exp_of es) at ≡ exp_of e
first_met [] e at q = cc
first_met (x ∷ xs) e at q = cc

pub first_there : (es : List Value) → (es ≡ [] → ⊥) → 0 < length es
first_there [] some = absurd (some refl)
first_there (x ∷ xs) some = omega arith

-- each call but `malloc` is one of the library
pub library_other : (known : Known) (site : ℕ) (c : LibraryName) (es : Exps) (arguments : List core.Exp) (at : Position) → (c ≡ library.Malloc → ⊥) →
    library_called known site (Some c) es arguments at ≡ core.library (library_of known c es) (core.listed arguments) at
library_other known site library.Malloc es arguments at not = absurd (not refl)
library_other known site _ es arguments at not = refl
