use Rattle.command_line.proofs.Numbers.{signed_unread}
use Rattle.command_line.proofs.number.signed_number.Goals as goal

pub returns-in_default : goal.returns-in_default
returns-in_default c = signed_unread c.args.text.now c.parse.result c.parse.ensures.value.0 c.in_default.field-0 c.in_default.is
