use Rattle.std.proofs.Common.{◌≡◌, [], length, sym, ap, subst, ◌∙◌, arith}
use Rattle.chain_report.specs.Directions.{may_lead}
use Rattle.chain_report.specs.Past.{AreLinks}
use Rattle.chain_report.specs.Rows.{AreRows}
use Rattle.chain_report.specs.Tables.{rows_from}
use Rattle.chain_report.proofs.Directions.{leads_nowhere}
use Rattle.chain_report.proofs.RowLinks.{rows_count, all_rows}
use Rattle.chain_report.proofs.lowest.lowest_chain.Goals as goal

pub returns-then-not-may_lead : goal.returns-then-not-may_lead
returns-then-not-may_lead c = leads_nowhere c.args.entries.now c.args.from c.args.to (ap (may_lead c.args.from c.args.to) (sym c.as_slice.ensures) ∙ sym c.may_lead.ensures ∙ c.if-not-may_lead.true)

module _ (c : goal.After-as_slice-3) where
  rows_are : c.as_slice-2.result.now ≡ rows_from c.args.from c.args.entries.now [] c.args.entries.now
  rows_are = c.as_slice-2.ensures ∙ c.in_ok-noted.ensures.rows

pub read_off-requires-clause-few : goal.read_off-requires-clause-few
read_off-requires-clause-few c = omega (arith, c.requires.few, ap length (rows_are c), rows_count c.args.entries.now c.args.from [] c.args.entries.now)

pub read_off-requires-clause-all : goal.read_off-requires-clause-all
read_off-requires-clause-all c = omega (arith, ap length (rows_are c), rows_count c.args.entries.now c.args.from [] c.args.entries.now)

pub read_off-requires-clause-rows : goal.read_off-requires-clause-rows
read_off-requires-clause-rows c = subst (AreRows c.args.entries.now c.args.from) (sym (rows_are c)) (all_rows c.args.entries.now c.args.from)

pub read_off-requires-clause-links : goal.read_off-requires-clause-links
read_off-requires-clause-links c = subst (λ rows. AreLinks rows c.as_slice-3.result.now) (sym c.as_slice-2.ensures) (subst (AreLinks c.in_ok-noted.noted.rows) (sym c.as_slice-3.ensures) c.in_ok-noted.ensures.links)
