use Rattle.std.proofs.Common.{ℕ, List, None, map, refl, string_bytes, sym, subst}
use Rattle.command_line.specs.Endings.{Sight}
use Rattle.command_line.specs.Jobs.{job_of}
use Rattle.job_outcomes.specs.Faults.{Counts}
use Rattle.job_runs.specs.Works.{Work}
use Rattle.job_laws.specs.Moments.{EndsFor, Moment}
use Rattle.chimera.specs.Mains.{IsEndOf}
use Rattle.chimera.proofs.run.Goals as goal

-- a moment at which neither files nor input are told
abbrev untold : Work → Counts → Moment
untold work counts = record { files = None; left = None; work = work; counts = counts }

end_of : (words : List (List ℕ)) (status : ℕ) (a b : Work) (before after : Counts) (first last : Sight) → EndsFor (job_of words) (untold a before) (untold b after) first last status → IsEndOf words status
end_of words status a b before after first last ends = record { old = untold a before; new = untold b after; out_old = first; out_new = last; untold_files = refl; untold_input = refl; ends = ends }

-- src/main.rt:62:1
pub returns : goal.returns
returns g c = subst (IsEndOf (map string_bytes c.args.words.now)) (sym c.from.ensures) (end_of _ _ _ _ _ _ _ _ c.chimera.ensures.ends)
