use Rattle.std.proofs.Common.{refl, ap, Err}
use Rattle.jobs.proofs.Ending.{found_ends, found_lacks, stopped_ends, usage_ends}
use Rattle.jobs.proofs.top.do_job.Goals as goal

pub returns-in_default-clause-ends : goal.returns-in_default-clause-ends
returns-in_default-clause-ends g c = usage_ends _ _ _ _ c.args.found _ _ _ _ refl c.in_default.is refl refl refl c.tell_answer.ensures

pub returns-in-Ok-clause-ends : goal.returns-in-Ok-clause-ends
returns-in-Ok-clause-ends g c = found_ends _ _ _ _ c.args.found _ _ _ _ refl c.in-Some.job c.in-Ok.outcome _ c.in-Some.is c.in-Ok.ensures.outcome c.in-Ok.ensures.faults.0 c.in-Ok.ensures.faults.1 c.in-Ok.ensures.faults.2 c.finish.ensures.finishes

pub returns-in-Err-clause-ends : goal.returns-in-Err-clause-ends
returns-in-Err-clause-ends g c = stopped_ends _ _ _ _ c.args.found _ _ _ _ refl c.in-Some.job c.in-Err.stop c.in-Some.is c.in-Err.ensures.outcome c.in-Err.ensures.faults c.in-Err.ensures.causes c.tell_stop.ensures

pub returns-in-Err-clause-lacks : goal.returns-in-Err-clause-lacks
returns-in-Err-clause-lacks g c sound nine = found_lacks _ _ _ _ nine c.args.found c.in-Some.job c.in-Err.stop c.in-Some.is c.tell_stop.ensures (λ e. c.in-Err.ensures.lacks sound (ap Err e))
