-- Expressions with commas between them (C99 6.5.17): each is computed, and all but the last are let go. The words so far
-- are joined as a counter counts them: the k-th place has 2^k words as one, or none, and what came last stands first. So of n
-- words none stands within more commas than n has binary digits.
use Rattle.std.specs.Prelude.{List, [], ◌∷◌, Option, Some, None}
use Rattle.rr_base.specs.declared.position.Position.{Position}
use Rattle.core_tree.specs.Core as core

-- one word after another, whose value is let go
abbrev pub following : Option core.Exp → Option core.Exp → Position → Option core.Exp
following None e at = e
following (Some before) None at = Some before
following (Some before) (Some e) at = Some (core.comma before e at)

-- a word more after those so far
abbrev pub with_last : core.Exp → List (Option core.Exp) → Position → List (Option core.Exp)
with_last e [] at = Some e ∷ []
with_last e (None ∷ places) at = Some e ∷ places
with_last e (Some before ∷ places) at = None ∷ with_last (core.comma before e at) places at

-- all words so far as one, before what comes last
abbrev pub joined : List (Option core.Exp) → Option core.Exp → Position → Option core.Exp
joined [] last at = last
joined (before ∷ places) last at = joined places (following before last at) at
