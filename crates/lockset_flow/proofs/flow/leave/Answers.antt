use Rattle.std.proofs.Common.{ap, sym, ◌∙◌, Some}
use Rattle.lockset_flow.proofs.Relaxed.{relaxed_exit, ok_map}
use Rattle.lockset_flow.proofs.flow.leave.Goals as goal

pub returns : goal.returns
returns c = ok_map c.meet_exit.result _ _ (λ changed h exits f i at ret. relaxed_exit exits f c.args.k i c.args.facts.now c.meet_exit.new.self c.in_ok-locks.locks changed at ret (c.row.ensures ∙ ap Some (sym c.in_ok-locks.ensures)) h) c.meet_exit.ensures
