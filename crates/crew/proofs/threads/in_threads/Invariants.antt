use Rattle.crew.proofs.threads.in_threads.Given as goal

-- the jobs that this call was given
abbrev pub ghosts-run_given : goal.ghosts-run_given
ghosts-run_given g a = record { given = a.jobs.items }
