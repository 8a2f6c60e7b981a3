use Rattle.std.proofs.Common.{length, refl}
use Rattle.lockset_summary.proofs.Visiting.{left, is_listed, stays_listed}
use Rattle.lockset_summary.proofs.visits.leave.Goals as goal

pub returns-clause-search : goal.returns-clause-search
returns-clause-search c = left (length c.args._code.now.functions) c.args.search.now _ c.args.f c.requires.search c.requires.within c.set.ensures c.in_ok-push.ensures.ok refl

pub returns-clause-listed : goal.returns-clause-listed
returns-clause-listed c = is_listed (length c.args._code.now.functions) c.args.search.now (record { marks = c.set.new.self; path = c.args.search.now.path; order = c.push.new.self }) c.args.f c.requires.search c.requires.within c.set.ensures

pub returns-clause-kept : goal.returns-clause-kept
returns-clause-kept c = stays_listed (length c.args._code.now.functions) c.args.search.now (record { marks = c.set.new.self; path = c.args.search.now.path; order = c.push.new.self }) c.args.f c.requires.search c.requires.within c.set.ensures
