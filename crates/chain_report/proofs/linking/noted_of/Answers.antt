use Rattle.std.proofs.Common.{◌≡◌, ◌+◌, ◌++◌, ◌∷◌, [], length, take, drop, Some, sym, ap, subst, ◌∙◌, arith, rules}
use Rattle.std.specs.Prelude.{slice_get}
use Rattle.std.proofs.lemmas.List.{length-append}
use Rattle.chain_report.specs.Past.{PastIs}
use Rattle.chain_report.specs.Tables.{row_of, rows_from}
use Rattle.chain_report.proofs.PastRows.{before_more, rows_more}
use Rattle.chain_report.proofs.linking.noted_of.Goals as goal

module _ (c : goal.In_ok-push) where
  at : slice_get c.args.entries.now (length c.loop-at.rows) ≡ Some c.at.result.now
  at = ap (slice_get c.args.entries.now) c.loop-at.invariant.place ∙ c.at.ensures

  pushed : c.push.new.self ≡ c.loop-at.rows ++ c.in_ok-row.row ∷ []
  pushed = c.in_ok-push.ensures.ok

  noted : (c.in_ok-row.row ≡ row_of c.args.from (take (length c.loop-at.rows) c.args.entries.now) c.loop-at.rows c.at.result.now)
      × PastIs (take (length c.loop-at.rows) c.args.entries.now ++ c.at.result.now ∷ []) (c.loop-at.rows ++ c.in_ok-row.row ∷ []) c.note.new.self
  noted = c.in_ok-row.ensures.noted (take (length c.loop-at.rows) c.args.entries.now) c.loop-at.rows c.loop-at.invariant.past c.loop-at.invariant.place

  longer : length c.push.new.self ≡ c.loop-at.at + 1
  longer = omega (arith, ap length pushed, length-append c.loop-at.rows (c.in_ok-row.row ∷ []), c.loop-at.invariant.place)

pub loop-at-preserved : goal.loop-at-preserved
loop-at-preserved c = record {
  same =
      c.loop-at.invariant.same
      ∙ ap (λ n. rows_from c.args.from c.args.entries.now c.loop-at.rows (drop n c.args.entries.now)) (sym c.loop-at.invariant.place)
      ∙ rows_more c.args.from c.args.entries.now c.loop-at.rows c.in_ok-row.row c.at.result.now (at c) (noted c).0
      ∙ ap (λ rs. rows_from c.args.from c.args.entries.now rs (drop (length rs) c.args.entries.now)) (sym (pushed c))
      ∙ ap (λ n. rows_from c.args.from c.args.entries.now c.push.new.self (drop n c.args.entries.now)) (longer c);
  place = longer c;
  within = omega arith;
  past =
      subst (λ rs. PastIs (take (length rs) c.args.entries.now) rs c.note.new.self) (sym (pushed c))
      (subst (λ before. PastIs before (c.loop-at.rows ++ c.in_ok-row.row ∷ []) c.note.new.self) (sym (before_more c.args.from c.args.entries.now c.loop-at.rows c.in_ok-row.row c.at.result.now (at c))) (noted c).1);
  room = search rules;
}
