use Rattle.std.proofs.Common.{◌≡◌, rules, arith}
use Rattle.std.proofs.lemmas.Grind.{common_steps}
use Rattle.snapshot_reader.proofs.CallsFit.{join_at_one, join_later}
use Rattle.snapshot_reader.proofs.calls.join_fits.Goals as goal

pub returns-then-is_misuse : goal.returns-then-is_misuse
returns-then-is_misuse c = let e : c.args.call.made ≡ 1 = c.if-call-eq1.true in rw join_at_one (first_of (search rules, grind (arith, common_steps)))

pub returns-then-is_below : goal.returns-then-is_below
returns-then-is_below c = let e : c.args.call.made ≡ 1 = c.if-call-eq1.true in rw join_at_one (first_of (search rules, grind (arith, common_steps)))

pub returns-else-is_below : goal.returns-else-is_below
returns-else-is_below c = let e : c.args.call.made ≡ 1 = c.if-call-eq1.true in rw join_at_one (first_of (search rules, grind (arith, common_steps)))

pub returns-else-call-eq1 : goal.returns-else-call-eq1
returns-else-call-eq1 c = let other : c.args.call.made ≡ 1 → ⊥ = λ (e : c.args.call.made ≡ 1). omega arith in rw join_later (first_of (search rules, grind (arith, common_steps)))
