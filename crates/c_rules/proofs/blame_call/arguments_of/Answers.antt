use Rattle.std.proofs.Common.{sym}
use Rattle.c_rules.proofs.Counts.{count_of_listed}
use Rattle.c_rules.proofs.blame_call.arguments_of.Goals as goal

pub returns : goal.returns
returns c = record { many = sym (count_of_listed c.args.arguments.now); is_format = c.begins_with_text.ensures; format = c.format_of.ensures }
