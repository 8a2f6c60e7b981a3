use Rattle.std.proofs.Common.{◌≡◌, ℕ, Option, Some, None, refl, ap, ◌∙◌}
use Rattle.std.specs.Map.{lookup}
use Rattle.std.specs.Option.{option_map_or, unwrap_or}
use Rattle.run_theory.specs.Same.{same_object}
use Rattle.entry_merge.proofs.Objects.{eq, eq_is_same, lookup_same}
use Rattle.entry_merge.proofs.count_of.Goals as goal

or_zero : (o : Option ℕ) → unwrap_or o 0 ≡ option_map_or (λ n. n) o 0
or_zero None = refl
or_zero (Some n) = refl

pub returns : goal.returns
returns c =
    c.unwrap_or.ensures
    ∙ ap (λ o. unwrap_or o 0) (c.copied.ensures ∙ c.get.ensures.value ∙ lookup_same (eq c.args.obj) (same_object c.args.obj) (eq_is_same c.args.obj) c.args.counts.now.entries)
    ∙ or_zero (lookup (same_object c.args.obj) c.args.counts.now.entries)
