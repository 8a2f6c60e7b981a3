use Rattle.std.proofs.Common.{sym, ap, ◌∙◌}
use Rattle.std.specs.Prelude.{slice_get}
use Rattle.lockset_summary.specs.Known.{row_of}
use Rattle.lockset_summary.proofs.Knowing.{read_in, seen_one}
use Rattle.lockset_summary.proofs.Rounds.{ok_map}
use Rattle.lockset_summary.proofs.Small.{known_small}
use Rattle.lockset_summary.proofs.universe.put_called.Goals as goal

pub substitute-requires-clause-path : goal.substitute-requires-clause-path
substitute-requires-clause-path c = known_small c.args.code.now c.args.g c.in-Some.path (c.requires.known.known c.args.g c.in-Some.path (read_in c.args.rows.now.items c.args.g c.args.j c.in-Some.path (ap (λ z. slice_get (row_of z c.args.g) c.args.j) (sym c.deref.ensures.value) ∙ sym c.path_at.ensures ∙ c.in-Some.is)))

pub put_seen-requires-clause-knows : goal.put_seen-requires-clause-knows
put_seen-requires-clause-knows c q e n = c.requires.knows c.in-Some.path q (c.requires.known.known c.args.g c.in-Some.path (read_in c.args.rows.now.items c.args.g c.args.j c.in-Some.path (ap (λ z. slice_get (row_of z c.args.g) c.args.j) (sym c.deref.ensures.value) ∙ sym c.path_at.ensures ∙ c.in-Some.is))) (sym c.substitute.ensures ∙ e) n

pub returns-in-Some : goal.returns-in-Some
returns-in-Some c = ok_map c.put_seen.result _ _ (λ a s. seen_one c.args.code.now c.args.rows.now.items c.put_seen.new.rows.items c.args.f c.args.g c.args.j c.args.actuals.now c.in-Some.path c.substitute.result a (ap (λ z. slice_get (row_of z c.args.g) c.args.j) (sym c.deref.ensures.value) ∙ sym c.path_at.ensures ∙ c.in-Some.is) c.substitute.ensures s) c.put_seen.ensures
