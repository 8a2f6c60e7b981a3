use Rattle.std.proofs.Common.{ℕ, List, ap, subst, ◌∙◌, arith}
use Rattle.std.specs.Prelude.{slice_set, Contains}
use Rattle.seen_pairs.specs.Pairings.{Notes, IsElsewhere}
use Rattle.seen_pairs.proofs.Changes.{follows_here}
use Rattle.seen_pairs.proofs.noting.note_change.Goals as goal

pub returns-clause-pairs : goal.returns-clause-pairs
returns-clause-pairs c =
    follows_here c.args.stacks.now c.set.new.self c.args.thread c.in_ok-stack.stack c.args.pairs.now.keys c.note_thread.new.pairs.keys (omega (arith, c.requires.thread, c.requires.stacks))
    (c.set.ensures ∙ ap (λ n. slice_set c.args.stacks.now n c.in_ok-stack.stack) c.from-own.ensures)
    (subst (λ (xs : List ℕ). Notes c.args.pairs.now.keys c.note_thread.new.pairs.keys (λ f g. Contains xs f × IsElsewhere c.args.stacks.now c.args.thread g)) c.as_slice.ensures c.in_ok-note_thread.ensures)
