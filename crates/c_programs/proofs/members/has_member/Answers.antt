use Rattle.std.proofs.Common.{ap, ◌∙◌, is_some}
use Rattle.c_programs.proofs.ByName.{lookup-shown_members}
use Rattle.c_programs.proofs.members.has_member.Goals as goal

pub returns : goal.returns
returns c = c.contains_key.ensures ∙ ap is_some (lookup-shown_members c.args.members.now.entries c.args.name.now)
