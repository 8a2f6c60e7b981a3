use Rattle.std.proofs.Common.{sym, ◌∙◌}
use Rattle.weaken.proofs.Parts.{no_stretch, one_stretch}
use Rattle.weaken.proofs.stretches.put_function.Goals as goal

pub returns-in_ok-push : goal.returns-in_ok-push
returns-in_ok-push c = one_stretch c.args.function.now c.args.accesses.now c.args.stretches.now.items c.push.new.self.items c.as_slice.result.now c.objects_len.result c.len.result c.in_ok-locks_of_function.field-0 (sym c.any_whole.ensures ∙ c.if-any_whole.true) c.as_slice.ensures c.objects_len.ensures c.len.ensures c.in_ok-locks_of_function.ensures c.in_ok-push.ensures.items

pub returns-else-any_whole : goal.returns-else-any_whole
returns-else-any_whole c = no_stretch c.args.function.now c.args.accesses.now c.args.stretches.now.items (sym c.any_whole.ensures ∙ c.if-any_whole.false)
