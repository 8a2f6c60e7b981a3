use Rattle.std.proofs.Common.{◌≡◌, ℕ, suc, Bool, true, false, List, [], ◌∷◌, Option, Some, refl, sym, ap, ◌∙◌, cond, rules}
use Rattle.std.specs.Prelude.{if◌then◌else◌}
use Rattle.std.specs.Option.{option_map_or}
use Rattle.std.specs.Map.{lookup}
use Rattle.indexmap.specs.IndexMap.{get}
use Rattle.sync_objects.specs.declared.object.ObjId.{ObjId}
use Rattle.run_theory.specs.Same.{same_object}
use Rattle.run_theory.proofs.SameEntries.{same_object-true}
use Rattle.entry_merge.specs.Counts.{count_in}
use Rattle.entry_merge.proofs.Objects.{eq, eq_is_same, lookup_same}
use Rattle.entry_merge.proofs.count_up.Goals as goal

abbrev value_or_zero : Option ℕ → ℕ
value_or_zero o = option_map_or (λ n. n) o 0

-- the count of one object after it was raised at another
raised : (counts : ObjId → Option ℕ) (o p : ObjId) (count : ℕ) (b : Bool) → b ≡ same_object o p → count ≡ suc (value_or_zero (counts o)) →
    value_or_zero (cond b (Some count) (counts p)) ≡ (if b then suc (value_or_zero (counts p)) else value_or_zero (counts p))
raised counts o p count true same is = is ∙ ap (λ q. suc (value_or_zero (counts q))) (same_object-true o p (sym same))
raised counts o p count false same is = refl

pub returns : goal.returns
returns c p =
    ap value_or_zero (
    sym (lookup_same (eq p) (same_object p) (eq_is_same p) c.insert.new.self.entries)
    ∙ c.in_ok-insert.ensures.updates.0 p
    ∙ ap (λ b. cond b (Some c.in_ok-count.count) (lookup (eq p) c.args.counts.now.entries)) (eq_is_same c.args.obj p)
    ∙ ap (λ o. cond (same_object c.args.obj p) (Some c.in_ok-count.count) o) (lookup_same (eq p) (same_object p) (eq_is_same p) c.args.counts.now.entries)
    )
    ∙ raised (get same_object c.args.counts.now) c.args.obj p c.in_ok-count.count (same_object c.args.obj p) refl is
  where
    is : c.in_ok-count.count ≡ suc (count_in c.args.counts.now c.args.obj)
    is = search rules
