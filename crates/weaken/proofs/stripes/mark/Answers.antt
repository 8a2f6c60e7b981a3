use Rattle.std.proofs.Common.{arith, refl, sym, ◌∙◌, Some, None, length}
use Rattle.weaken.proofs.Striped.{mark_set, mark_none, beyond}
use Rattle.weaken.proofs.stripes.mark.Goals as goal

pub returns-then-number-len : goal.returns-then-number-len
returns-then-number-len c = mark_set c.args.locked.now c.args.place c.in-Some.number c.args.striped.now.items _ c.requires (sym c.lock_at.ensures ∙ c.in-Some.is) (omega (arith, c.if-number-len.true, c.len.ensures)) refl

pub returns-else-number-len : goal.returns-else-number-len
returns-else-number-len c = mark_none c.args.locked.now c.args.place (Some c.in-Some.number) c.args.striped.now.items c.requires (sym c.lock_at.ensures ∙ c.in-Some.is) (λ n l. beyond c.in-Some.number (length c.args.striped.now.items) n (omega (arith, c.if-number-len.false, c.len.ensures)) l)

pub returns-in_default : goal.returns-in_default
returns-in_default c = mark_none c.args.locked.now c.args.place None c.args.striped.now.items c.requires (sym c.lock_at.ensures ∙ c.in_default.is) (λ n l. refl)
