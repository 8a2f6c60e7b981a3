use Rattle.std.proofs.Common.{◌≡◌, sym, ap, subst, ◌∙◌, true}
use Rattle.facts.specs.Paths.{are_small_actuals, substituted}
use Rattle.facts.specs.Summaries.{own, called}
use Rattle.lockset_summary.proofs.Knowing.{told_library, told_call}
use Rattle.lockset_summary.proofs.Naming.{name_is, actuals_are}
use Rattle.lockset_summary.proofs.Rounds.{ok_map}
use Rattle.lockset_summary.proofs.Small.{small_actuals}
use Rattle.lockset_summary.proofs.universe.tell.Goals as goal

pub put_named-requires-clause-knows : goal.put_named-requires-clause-knows
put_named-requires-clause-knows c q e = own c.args.f c.args.k c.args.function.now c.at.result.now q (record { function = c.requires.function; instr = c.at.ensures }) (sym (name_is c.args.function.now c.args.k c.at.result.now c.in-Library.call c.in-Library.arguments c.in-Library.into c.names_at-arguments.result.now c.lock_name.result c.in-Library.is (c.names_at-arguments.ensures c.at.result.now c.at.ensures) c.lock_name.ensures) ∙ e)

pub put_all_called-requires-clause-small : goal.put_all_called-requires-clause-small
put_all_called-requires-clause-small c = subst (λ z. are_small_actuals z ≡ true) (sym (actuals_are c.args.function.now c.args.k c.at.result.now c.in-Call.g c.in-Call.arguments c.in-Call.into c.names_at-arguments.result.now c.in_ok-actuals-in-Call.actuals c.as_slice.result.now c.in-Call.is (c.names_at-arguments.ensures c.at.result.now c.at.ensures) c.in_ok-actuals-in-Call.ensures c.as_slice.ensures)) (small_actuals c.args.function.now c.args.k c.in-Call.arguments)

pub put_all_called-requires-clause-knows : goal.put_all_called-requires-clause-knows
put_all_called-requires-clause-knows c p q h s n = called c.args.f c.args.k c.args.function.now c.at.result.now c.in-Call.g c.in-Call.arguments c.in-Call.into p q (record { function = c.requires.function; instr = c.at.ensures }) c.in-Call.is h (ap (substituted p) (sym (actuals_are c.args.function.now c.args.k c.at.result.now c.in-Call.g c.in-Call.arguments c.in-Call.into c.names_at-arguments.result.now c.in_ok-actuals-in-Call.actuals c.as_slice.result.now c.in-Call.is (c.names_at-arguments.ensures c.at.result.now c.at.ensures) c.in_ok-actuals-in-Call.ensures c.as_slice.ensures)) ∙ s) n

pub returns-in-Library : goal.returns-in-Library
returns-in-Library c = ok_map c.put_named.result _ _ (λ a s. told_library c.args.code.now c.args.rows.now.items c.put_named.new.rows.items c.args.f c.args.k c.args.function.now c.at.result.now c.at.ensures c.in-Library.call c.in-Library.arguments c.in-Library.into c.lock_name.result a c.in-Library.is (name_is c.args.function.now c.args.k c.at.result.now c.in-Library.call c.in-Library.arguments c.in-Library.into c.names_at-arguments.result.now c.lock_name.result c.in-Library.is (c.names_at-arguments.ensures c.at.result.now c.at.ensures) c.lock_name.ensures) s) c.put_named.ensures

pub returns-in_ok-actuals-in-Call : goal.returns-in_ok-actuals-in-Call
returns-in_ok-actuals-in-Call c = ok_map c.put_all_called.result _ _ (λ a s. told_call c.args.code.now c.args.rows.now.items c.put_all_called.new.rows.items c.args.f c.args.k c.args.function.now c.at.result.now c.at.ensures c.in-Call.g c.in-Call.arguments c.in-Call.into c.as_slice.result.now a c.in-Call.is (actuals_are c.args.function.now c.args.k c.at.result.now c.in-Call.g c.in-Call.arguments c.in-Call.into c.names_at-arguments.result.now c.in_ok-actuals-in-Call.actuals c.as_slice.result.now c.in-Call.is (c.names_at-arguments.ensures c.at.result.now c.at.ensures) c.in_ok-actuals-in-Call.ensures c.as_slice.ensures) s) c.put_all_called.ensures
