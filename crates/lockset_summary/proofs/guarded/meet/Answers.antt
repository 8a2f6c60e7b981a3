use Rattle.std.proofs.Common.{◌≡◌, arith, sym, subst, true}
use Rattle.facts.specs.Paths.{are_small_actuals}
use Rattle.lockset_summary.proofs.Making.{met_call, call_made, own_is_made}
use Rattle.lockset_summary.proofs.Naming.{actuals_are}
use Rattle.lockset_summary.proofs.Rounds.{ok_map}
use Rattle.lockset_summary.proofs.Small.{small_actuals}
use Rattle.lockset_summary.proofs.guarded.meet.Goals as goal

pub put_called-requires-clause-small : goal.put_called-requires-clause-small
put_called-requires-clause-small c = subst (λ z. are_small_actuals z ≡ true) (sym (actuals_are c.at-function.result.now c.args.k c.at.result.now c.in-Call.g c.in-Call.arguments c.in-Call.into c.names_at.result.now c.in_ok-actuals-in-Call.actuals c.as_slice.result.now c.in-Call.is (c.names_at.ensures c.at.result.now c.at.ensures) c.in_ok-actuals-in-Call.ensures c.as_slice.ensures)) (small_actuals c.at-function.result.now c.args.k c.in-Call.arguments)

pub put_called-requires-clause-makes : goal.put_called-requires-clause-makes
put_called-requires-clause-makes c = call_made c.args.code.now c.args.points.now c.args.rows.now.items c.args.rows.now.items c.args.f c.args.k c.at-function.result.now c.at.result.now c.locks_at-locks.result.now c.requires.ready (record { function = c.at-function.ensures; instr = c.at.ensures }) c.locks_at-locks.ensures c.in-Call.g c.in-Call.arguments c.in-Call.into c.as_slice.result.now c.in-Call.is (actuals_are c.at-function.result.now c.args.k c.at.result.now c.in-Call.g c.in-Call.arguments c.in-Call.into c.names_at.result.now c.in_ok-actuals-in-Call.actuals c.as_slice.result.now c.in-Call.is (c.names_at.ensures c.at.result.now c.at.ensures) c.in_ok-actuals-in-Call.ensures c.as_slice.ensures) (omega (arith, c.requires.ready.long, c.requires.function))

pub put_if-requires : goal.put_if-requires
put_if-requires c = record {
  within = omega (arith, c.requires.sound.long, c.requires.function);
  sound = c.requires.sound;
  makes = λ a. own_is_made c.args.code.now c.args.points.now c.args.rows.now.items c.args.rows.now.items c.args.f c.args.k c.at-function.result.now c.at.result.now c.locks_at-locks.result.now c.requires.ready (record { function = c.at-function.ensures; instr = c.at.ensures }) c.locks_at-locks.ensures c.in_ok-access-in_default.access a (omega (arith, c.requires.ready.long, c.requires.function)) c.in_ok-access-in_default.ensures;
}

pub returns-in_ok-actuals-in-Call : goal.returns-in_ok-actuals-in-Call
returns-in_ok-actuals-in-Call c = ok_map c.put_called.result _ _ (λ a s. met_call c.args.code.now c.args.points.now c.args.rows.now.items c.put_called.new.rows.items c.args.f c.args.k c.at-function.result.now c.at.result.now c.locks_at-locks.result.now c.requires.ready (record { function = c.at-function.ensures; instr = c.at.ensures }) c.locks_at-locks.ensures c.in-Call.g c.in-Call.arguments c.in-Call.into c.as_slice.result.now a c.in-Call.is (actuals_are c.at-function.result.now c.args.k c.at.result.now c.in-Call.g c.in-Call.arguments c.in-Call.into c.names_at.result.now c.in_ok-actuals-in-Call.actuals c.as_slice.result.now c.in-Call.is (c.names_at.ensures c.at.result.now c.at.ensures) c.in_ok-actuals-in-Call.ensures c.as_slice.ensures) s) c.put_called.ensures
