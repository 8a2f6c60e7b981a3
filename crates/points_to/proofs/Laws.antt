-- Constraints that a code has.
use Rattle.std.proofs.Common.{◌≡◌, ◌<◌, ℕ, List, length, get_or, subst}
use Rattle.std.proofs.lemmas.List.Elements.{Contains-get_or}
use Rattle.std.specs.List.{Contains}
use Rattle.flow_code.specs.declared.code.Code.{Code}
use Rattle.facts.specs.declared.constraint.Constraint.{Constraint}
use Rattle.facts.specs.PointsTo.{constraints_of}

pub held : (code : Code) (c d : Constraint) → c ≡ d → Contains (constraints_of code) c → Contains (constraints_of code) d
held code c d e h = subst (Contains (constraints_of code)) e h

pub taken : (cs ds : List Constraint) (k : ℕ) (d : Constraint) → cs ≡ ds → k < length cs → Contains ds (get_or cs k d)
taken cs ds k d e lt = subst (λ z. Contains z (get_or cs k d)) e (Contains-get_or cs k d lt)
