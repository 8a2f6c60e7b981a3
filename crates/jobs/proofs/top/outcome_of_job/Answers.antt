use Rattle.std.proofs.Common.{refl, sym, subst}
use Rattle.command_line.specs.Jobs.{told}
use Rattle.command_line.specs.declared.job.Job.{Job}
use Rattle.job_laws.specs.Asks.{AsksCrew, AsksInput}
use Rattle.job_laws.specs.Moments.{ComesFor, StopsFor, moment}
use Rattle.jobs.proofs.Asked.{none_read, stops_by}
use Rattle.job_laws.proofs.Outcomes.{chain_comes, checkpoint_comes, make_comes, profile_comes, races_come, record_comes, replay_comes, resume_comes, watch_comes, weaken_come}
use Rattle.jobs.proofs.top.outcome_of_job.Goals as goal
use Rattle.std.specs.Prelude.{Some}

pub returns-in-Races-clause-outcome : goal.returns-in-Races-clause-outcome
returns-in-Races-clause-outcome g c =
    let old = moment g.S.Shelf g.I.Source g.C.Crew c.args.shelf.now c.args.input.now c.args.crew.now in
    let new = moment g.S.Shelf g.I.Source g.C.Crew c.races.new.shelf c.args.input.now c.args.crew.now in
    subst (λ (j : Job). ComesFor (told j) old new c.races.result) (sym c.in-Races.is) (races_come old new c.races.result c.races.ensures.files refl _ c.races.ensures.outcome)

pub returns-in-Weaken-clause-outcome : goal.returns-in-Weaken-clause-outcome
returns-in-Weaken-clause-outcome g c =
    let old = moment g.S.Shelf g.I.Source g.C.Crew c.args.shelf.now c.args.input.now c.args.crew.now in
    let new = moment g.S.Shelf g.I.Source g.C.Crew c.weak_locks.new.shelf c.args.input.now c.args.crew.now in
    subst (λ (j : Job). ComesFor (told j) old new c.weak_locks.result) (sym c.in-Weaken.is) (weaken_come old new c.weak_locks.result c.weak_locks.ensures.files refl _ _ c.weak_locks.ensures.outcome)

pub returns-in-Profile-clause-outcome : goal.returns-in-Profile-clause-outcome
returns-in-Profile-clause-outcome g c =
    let old = moment g.S.Shelf g.I.Source g.C.Crew c.args.shelf.now c.args.input.now c.args.crew.now in
    let new = moment g.S.Shelf g.I.Source g.C.Crew c.profile_log.new.shelf c.args.input.now c.args.crew.now in
    subst (λ (j : Job). ComesFor (told j) old new c.profile_log.result) (sym c.in-Profile.is) (profile_comes old new c.profile_log.result c.profile_log.ensures.files refl _ _ _ c.profile_log.ensures.outcome)

pub returns-in-Watch-clause-outcome : goal.returns-in-Watch-clause-outcome
returns-in-Watch-clause-outcome g c =
    let old = moment g.S.Shelf g.I.Source g.C.Crew c.args.shelf.now c.args.input.now c.args.crew.now in
    let new = moment g.S.Shelf g.I.Source g.C.Crew c.watch_log.new.shelf c.args.input.now c.args.crew.now in
    subst (λ (j : Job). ComesFor (told j) old new c.watch_log.result) (sym c.in-Watch.is) (watch_comes old new c.watch_log.result c.watch_log.ensures.files refl _ _ _ c.watch_log.ensures.outcome)

pub returns-in-Chain-clause-outcome : goal.returns-in-Chain-clause-outcome
returns-in-Chain-clause-outcome g c =
    let old = moment g.S.Shelf g.I.Source g.C.Crew c.args.shelf.now c.args.input.now c.args.crew.now in
    let new = moment g.S.Shelf g.I.Source g.C.Crew c.chain_log.new.shelf c.args.input.now c.args.crew.now in
    subst (λ (j : Job). ComesFor (told j) old new c.chain_log.result) (sym c.in-Chain.is) (chain_comes old new c.chain_log.result c.chain_log.ensures.files refl _ _ _ _ c.chain_log.ensures.outcome)

pub returns-in-Checkpoint-clause-outcome : goal.returns-in-Checkpoint-clause-outcome
returns-in-Checkpoint-clause-outcome g c =
    let old = moment g.S.Shelf g.I.Source g.C.Crew c.args.shelf.now c.args.input.now c.args.crew.now in
    let new = moment g.S.Shelf g.I.Source g.C.Crew c.keep_state.new.shelf c.args.input.now c.args.crew.now in
    subst (λ (j : Job). ComesFor (told j) old new c.keep_state.result) (sym c.in-Checkpoint.is) (checkpoint_comes old new c.keep_state.result c.keep_state.ensures.files refl _ _ _ _ c.keep_state.ensures.outcome)

pub returns-in-Resume-clause-outcome : goal.returns-in-Resume-clause-outcome
returns-in-Resume-clause-outcome g c =
    let old = moment g.S.Shelf g.I.Source g.C.Crew c.args.shelf.now c.args.input.now c.args.crew.now in
    let new = moment g.S.Shelf g.I.Source g.C.Crew c.go_on_from.new.shelf c.args.input.now c.args.crew.now in
    subst (λ (j : Job). ComesFor (told j) old new c.go_on_from.result) (sym c.in-Resume.is) (resume_comes old new c.go_on_from.result c.go_on_from.ensures.files refl _ _ _ c.go_on_from.ensures.outcome)

pub returns-in-Record-clause-outcome : goal.returns-in-Record-clause-outcome
returns-in-Record-clause-outcome g c =
    let old = moment g.S.Shelf g.I.Source g.C.Crew c.args.shelf.now c.args.input.now c.args.crew.now in
    let new = moment g.S.Shelf g.I.Source g.C.Crew c.record_source.new.shelf c.record_source.new.input c.record_source.new.crew in
    subst (λ (j : Job). ComesFor (told j) old new c.record_source.result) (sym c.in-Record.is) (record_comes old new c.record_source.result c.record_source.ensures.idle _ c.record_source.ensures.outcome c.record_source.ensures.files)

pub returns-in-Replay-clause-outcome : goal.returns-in-Replay-clause-outcome
returns-in-Replay-clause-outcome g c =
    let old = moment g.S.Shelf g.I.Source g.C.Crew c.args.shelf.now c.args.input.now c.args.crew.now in
    let new = moment g.S.Shelf g.I.Source g.C.Crew c.replay.new.shelf c.args.input.now c.replay.new.crew in
    subst (λ (j : Job). ComesFor (told j) old new c.replay.result) (sym c.in-Replay.is) (replay_comes old new c.replay.result c.replay.ensures.idle _ _ _ c.replay.ensures.outcome c.replay.ensures.files)

pub returns-in-Make-clause-outcome : goal.returns-in-Make-clause-outcome
returns-in-Make-clause-outcome g c =
    let old = moment g.S.Shelf g.I.Source g.C.Crew c.args.shelf.now c.args.input.now c.args.crew.now in
    let new = moment g.S.Shelf g.I.Source g.C.Crew c.make.new.shelf c.args.input.now c.make.new.crew in
    subst (λ (j : Job). ComesFor (told j) old new c.make.result) (sym c.in-Make.is) (make_comes old new c.make.result c.make.ensures.idle _ _ c.make.ensures.outcome)

pub returns-in-Record-clause-causes : goal.returns-in-Record-clause-causes
returns-in-Record-clause-causes g c =
    let old = moment g.S.Shelf g.I.Source g.C.Crew c.args.shelf.now c.args.input.now c.args.crew.now in
    subst (λ (j : Job). StopsFor (told j) old c.record_source.result) (sym c.in-Record.is) (stops_by _ _ _ c.record_source.result tt c.record_source.ensures.reads c.record_source.ensures.runs)

pub returns-in-Replay-clause-causes : goal.returns-in-Replay-clause-causes
returns-in-Replay-clause-causes g c =
    let old = moment g.S.Shelf g.I.Source g.C.Crew c.args.shelf.now c.args.input.now c.args.crew.now in
    subst (λ (j : Job). StopsFor (told j) old c.replay.result) (sym c.in-Replay.is) (stops_by _ _ _ c.replay.result tt (none_read _ _ c.replay.result _ _ _ _ c.replay.ensures.faults) c.replay.ensures.runs)

pub returns-in-Record-clause-input : goal.returns-in-Record-clause-input
returns-in-Record-clause-input g c none =
    let files = g.S.Shelf.files c.args.shelf.now in
    c.record_source.ensures.input (subst (λ (j : Job). AsksInput files (Some (told j)) → ⊥) c.in-Record.is none)

pub returns-in-Record-clause-crew : goal.returns-in-Record-clause-crew
returns-in-Record-clause-crew g c none =
    let files = g.S.Shelf.files c.args.shelf.now in
    let left = g.I.Source.left c.args.input.now in
    c.record_source.ensures.crew (subst (λ (j : Job). AsksCrew files left (Some (told j)) → ⊥) c.in-Record.is none)
