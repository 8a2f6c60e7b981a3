use Rattle.std.proofs.Common.{arith, ◌≡◌, ap, length, ◌∙◌}
use Rattle.std.proofs.lemmas.Grind.{common_steps}
use Rattle.workload.specs.Program.{program_text}
use Rattle.workload.proofs.Lengths.{program_long}
use Rattle.workload.proofs.program.program_of.Goals as goal

pub returns-clause-len : goal.returns-clause-len
returns-clause-len c =
    let text : c.extend_from_slice-3.new.self ≡ program_text c.args.n = grind (arith, common_steps) in
    ap length text ∙ program_long c.args.n
