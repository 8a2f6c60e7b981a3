use Rattle.std.proofs.Common.{rules, ◌≡◌, ◌==◌, ◌∙◌, true, false, length, map, string_bytes}
use Rattle.command_line.specs.Arguments.{arguments, are_fit, positional}
use Rattle.command_line.specs.Jobs.{takes}
use Rattle.command_line.specs.Reader.{words_of}
use Rattle.clap.specs.Matches.{found_of}
use Rattle.command_line.proofs.JobLimits.{limits_of_job}
use Rattle.command_line.proofs.Matched.{asked_is, job_by_is, no_job_by}
use Rattle.command_line.proofs.asking.read.Goals as goal

pub returns-then-not-has_positional-clause-job : goal.returns-then-not-has_positional-clause-job
returns-then-not-has_positional-clause-job c =
    let given = arguments (map string_bytes c.args.words.now) in
    let fit : are_fit (takes c.args.command) given ≡ true = search rules in
    let other : (length (positional given) == length (words_of c.args.command)) ≡ false = search rules in
    no_job_by c.args.command given fit other

pub returns-clause-job : goal.returns-clause-job
returns-clause-job c =
    let given = arguments (map string_bytes c.args.words.now) in
    let fit : are_fit (takes c.args.command) given ≡ true = search rules in
    let number : length (positional given) ≡ length (words_of c.args.command) = search rules in
    c.asked.ensures ∙ asked_is c.args.command given (found_of c.in_ok-matches.matches) fit number c.in_ok-matches.ensures ∙ job_by_is c.args.command given fit

pub returns-clause-limits : goal.returns-clause-limits
returns-clause-limits c =
    let given = arguments (map string_bytes c.args.words.now) in
    let fit : are_fit (takes c.args.command) given ≡ true = search rules in
    let number : length (positional given) ≡ length (words_of c.args.command) = search rules in
    limits_of_job c.asked.result c.args.command (positional given) given
    (c.asked.ensures ∙ asked_is c.args.command given (found_of c.in_ok-matches.matches) fit number c.in_ok-matches.ensures)
