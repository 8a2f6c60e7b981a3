use Rattle.profiles.specs.declared.profile.Profile.TheVariants as profile
use Rattle.job_laws.specs.Listings.{ListsRaces}
use Rattle.jobs.proofs.Found.{races_listed, memory_is_pure, not_compiled, compile_is_pure, or_memory}
use Rattle.jobs.proofs.races.listed.Goals as goal

pub compiled-requires : goal.compiled-requires
compiled-requires c = c.requires

pub returns-in-Ok-clause-outcome : goal.returns-in-Ok-clause-outcome
returns-in-Ok-clause-outcome c = races_listed c.args.source.now c.in-Ok.weakened c.or_stop-told.result c.in-Ok.ensures (or_memory _ c.listing_of.result c.or_stop-told.result c.listing_of.ensures c.or_stop-told.ensures)

pub returns-in-Ok-clause-pure : goal.returns-in-Ok-clause-pure
returns-in-Ok-clause-pure c = memory_is_pure _ c.or_stop-told.result c.or_stop-told.ensures

pub returns-in-Err-clause-outcome : goal.returns-in-Err-clause-outcome
returns-in-Err-clause-outcome c = not_compiled c.args.source.now profile.All ListsRaces c.in-Err.stop c.in-Err.ensures

pub returns-in-Err-clause-pure : goal.returns-in-Err-clause-pure
returns-in-Err-clause-pure c = compile_is_pure c.args.source.now profile.All c.in-Err.stop c.in-Err.ensures
