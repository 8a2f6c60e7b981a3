use Rattle.std.proofs.Common.{◌≡◌, true}
use Rattle.weaken.proofs.Found.{put_same, put_value, put_ascends}
use Rattle.weaken.proofs.locks.put_number.Goals as goal

pub returns-then-has_number_at-clause-value : goal.returns-then-has_number_at-clause-value
returns-then-has_number_at-clause-value c = put_same c.args.found.now c.as_slice.result.now c.as_slice-2.result.now c.args.number c.number_in-at.result c.as_slice.ensures c.as_slice-2.ensures c.number_in-at.ensures.bound c.number_in-at.ensures.below c.number_in-at.ensures.above (c.has_number_at.ensures.0 c.if-has_number_at.true)

pub returns-clause-ascending : goal.returns-clause-ascending
returns-clause-ascending c = put_ascends c.args.found.now c.insert.new.self c.args.number c.insert.result c.requires (put_value c.args.found.now c.as_slice.result.now c.as_slice-2.result.now c.insert.new.self c.args.number c.number_in-at.result c.insert.result c.as_slice.ensures c.as_slice-2.ensures c.number_in-at.ensures.bound c.number_in-at.ensures.below c.number_in-at.ensures.above (λ e. let h : c.has_number_at.result ≡ true = c.has_number_at.ensures.1 e in cc) c.insert.ensures.ok) c.insert.ensures.err

pub returns-clause-value : goal.returns-clause-value
returns-clause-value c = put_value c.args.found.now c.as_slice.result.now c.as_slice-2.result.now c.insert.new.self c.args.number c.number_in-at.result c.insert.result c.as_slice.ensures c.as_slice-2.ensures c.number_in-at.ensures.bound c.number_in-at.ensures.below c.number_in-at.ensures.above (λ e. let h : c.has_number_at.result ≡ true = c.has_number_at.ensures.1 e in cc) c.insert.ensures.ok
