use Rattle.std.proofs.Common.{refl}
use Rattle.std.specs.Prelude.{map, string_bytes}
use Rattle.command_line.specs.Jobs.{job_of}
use Rattle.job_laws.specs.Moments.{EndsFor, moment, sight_of}
use Rattle.jobs.proofs.Ending.{for_found, memory_ends}
use Rattle.job_laws.proofs.Headlines.{headline}
use Rattle.jobs.proofs.top.chimera.Goals as goal

pub returns-in-Ok-clause-ends : goal.returns-in-Ok-clause-ends
returns-in-Ok-clause-ends g c = for_found _ _ _ _ c.in-Ok.found _ _ _ _ c.in-Ok.ensures.job c.in-Ok.found refl c.do_job.ensures.ends

pub returns-in-Ok-clause-headline : goal.returns-in-Ok-clause-headline
returns-in-Ok-clause-headline g c =
    let old = moment g.S.Shelf g.I.Source g.C.Crew c.args.shelf.now c.args.input.now c.args.crew.now in
    let new = moment g.S.Shelf g.I.Source g.C.Crew c.do_job.new.shelf c.do_job.new.input c.do_job.new.crew in
    let first = sight_of g.O.Sink c.args.out.now in
    let last = sight_of g.O.Sink c.do_job.new.out in
    let job = job_of (map string_bytes c.args.words.now) in
    let ends : EndsFor job old new first last c.do_job.result = for_found _ _ _ _ c.in-Ok.found _ _ _ _ c.in-Ok.ensures.job c.in-Ok.found refl c.do_job.ensures.ends in
    headline job old new first last c.do_job.result ends

pub returns-in-Err-clause-ends : goal.returns-in-Err-clause-ends
returns-in-Err-clause-ends g c = memory_ends _ _ _ _ _ _ _ _ refl refl c.tell_stop.ensures

pub returns-in-Err-clause-headline : goal.returns-in-Err-clause-headline
returns-in-Err-clause-headline g c =
    let old = moment g.S.Shelf g.I.Source g.C.Crew c.args.shelf.now c.args.input.now c.args.crew.now in
    let first = sight_of g.O.Sink c.args.out.now in
    let last = sight_of g.O.Sink c.tell_stop.new.out in
    let job = job_of (map string_bytes c.args.words.now) in
    let ends : EndsFor job old old first last c.tell_stop.result = memory_ends _ _ _ _ _ _ _ _ refl refl c.tell_stop.ensures in
    headline job old old first last c.tell_stop.result ends
