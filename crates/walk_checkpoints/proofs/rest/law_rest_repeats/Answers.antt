use Rattle.std.proofs.Common.{◌≡◌, ◌∷◌, [], ℕ, List, ap, sym, ◌∙◌, subst}
use Rattle.checkpoint.specs.Going.{no_reads}
use Rattle.checkpoint.specs.Resuming.{TakenIs}
use Rattle.checkpoint.specs.declared.outcome.Taken.{Taken}
use Rattle.checkpoint.specs.declared.outcome.Taken.TheVariants as taken
use Rattle.job_outcomes.specs.declared.outcome.Outcome.{Outcome}
use Rattle.walk_checkpoints.specs.Telling.{GoesOn, IsReadBack}
use Rattle.walk_checkpoints.proofs.Repeated.{put_of, told}
use Rattle.walk_checkpoints.proofs.rest.law_rest_repeats.Goals as goal

pub returns : goal.returns
returns c = λ a s es k name bytes f whole o p is limits takes puts walks goes.
    let put = put_of name bytes takes.found (ap (λ (q : Outcome). q.puts) (sym takes.told) ∙ puts) in
    let x = put.0 in
    let state = subst (TakenIs a.weak s es k) put.1 takes.takes in
    let read = subst (IsReadBack a.weak s es) put.1 takes.read in
    let st = state.0 in
    let after = state.1 in
    let runs = c.law_weakened_runs.ensures a is in
    (st, after.walked, told a.weak s es k st whole (λ rest h. c.law_rest.ensures a.weak s es k st f no_reads whole rest runs limits after walks h) (c.law_has_cells.ensures a.weak s es k st runs limits (c.law_cells.ensures.refused a s is limits) after) x state.2 read c.law_read_back.ensures p (subst (λ (b : List ℕ). GoesOn a.weak s es b p) put.2 goes))
