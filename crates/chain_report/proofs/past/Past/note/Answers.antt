use Rattle.std.proofs.Common.{◌≡◌, ◌<◌, ◌++◌, ◌∷◌, [], length, true, if◌then◌else◌, List, None, Some, sym, ap, subst, ◌∙◌, rules}
use Rattle.std.specs.Prelude.{slice_get, slice_set}
use Rattle.sync_objects.specs.declared.entry.Entry.{Entry}
use Rattle.chain_report.specs.Past.{asks_hold, same_hold, kept_in, hold_in, row_by, first_or, kept_after, KeptIs, PastIs, AreLinks}
use Rattle.chain_report.specs.Replayed.{hold_after, hold_over}
use Rattle.chain_report.specs.Tables.{is_there, row_of, first_from, is_link_of}
use Rattle.chain_report.specs.declared.kept.Hold.{Hold}
use Rattle.chain_report.specs.declared.row.Row.{Row}
use Rattle.chain_report.proofs.PastRows.{some_there, objects_more, holds_stay, holds_more, links_more, row_is}
use Rattle.chain_report.proofs.past.Past.note.Goals.{then-asks_hold, else-asks_hold, then-asks_hold-2+in_ok-note_hold, else-asks_hold-2}
use Rattle.chain_report.proofs.past.Past.note.Goals as goal

module _ (c : goal.After-set) (before : List Entry) (rows : List Row) (past : PastIs before rows c.args.self.now) (same : length rows ≡ c.args.at) where
  -- what was known before
  small : c.args.entry.thread < 256
  small = search rules

  at : slice_get c.args.self.now.links c.args.entry.thread ≡ Some c.at.result.now
  at = search rules

  link_is : c.at.result.now ≡ first_from (is_link_of c.args.entry.thread) 0 rows
  link_is = let e : Some c.at.result.now ≡ Some (first_from (is_link_of c.args.entry.thread) 0 rows) = sym at ∙ past.links c.args.entry.thread small in cc

  held_is : c.if-asks_hold.held ≡ (if asks_hold c.args.entry.op then hold_over c.args.entry.obj c.args.entry.thread None before else None)
  held_is = elim c.if-asks_hold.branch [
    | then-asks_hold w ↦ w.held-is ∙ w.hold_of-held.ensures ∙ past.holds _ ∙ sym (ap (λ b. if b then hold_over c.args.entry.obj c.args.entry.thread None before else None) (sym c.asks_hold.ensures ∙ w.if-asks_hold.true))
    | else-asks_hold w ↦ w.held-is ∙ sym (ap (λ b. if b then hold_over c.args.entry.obj c.args.entry.thread None before else None) (sym c.asks_hold.ensures ∙ w.if-asks_hold.false))
  ]

  is_row : c.row_by-row.result ≡ row_of c.args.from before rows c.args.entry
  is_row =
      c.row_by-row.ensures
      ∙ ap (λ b. row_by c.args.from c.kept_of-kept.result c.if-asks_hold.held b c.args.entry) (c.is_some.ensures ∙ some_there c.at.result.now)
      ∙ row_is c.args.from before rows c.args.entry c.kept_of-kept.result c.if-asks_hold.held c.at.result.now (subst (KeptIs before rows c.args.entry.obj) (sym c.kept_of-kept.ensures) (past.objects c.args.entry.obj)) held_is link_is

  entry_is : c.row_by-row.result.entry ≡ c.args.entry
  entry_is = ap (λ (r : Row). r.entry) is_row

  -- the objects
  objects_are : c.if-asks_hold-2.self.objects ≡ c.keep.new.objects
  objects_are = elim c.if-asks_hold-2.branch [
    | then-asks_hold-2+in_ok-note_hold w ↦ ap (λ s. s.objects) w.self-is
    | else-asks_hold-2 w ↦ ap (λ s. s.objects) w.self-is
  ]

  kept_is : c.kept_after.result ≡ kept_after (kept_in c.args.self.now.objects c.args.entry.obj) c.row_by-row.result (length rows)
  kept_is =
      c.kept_after.ensures
      ∙ ap (λ k. kept_after k c.row_by-row.result c.args.at) c.kept_of-kept.ensures
      ∙ ap (kept_after (kept_in c.args.self.now.objects c.args.entry.obj) c.row_by-row.result) (sym same)

  -- the holds
  asked : c.asks_hold-2.result ≡ true → c.if-asks_hold.held ≡ hold_in c.args.self.now.holds (record { lock = c.args.entry.obj; thread = c.args.entry.thread })
  asked so = held_is ∙ ap (λ b. if b then hold_over c.args.entry.obj c.args.entry.thread None before else None) (sym c.asks_hold-2.ensures ∙ so) ∙ sym (past.holds _)

  holds_are : (hold : Hold) → hold_in c.if-asks_hold-2.self.holds hold ≡ hold_over hold.lock hold.thread None (before ++ c.args.entry ∷ [])
  holds_are = elim c.if-asks_hold-2.branch [
    | then-asks_hold-2+in_ok-note_hold w ↦ λ hold.
        ap (λ s. hold_in s.holds hold) w.self-is
        ∙ holds_more before c.args.entry (hold_in c.args.self.now.holds) past.holds (hold_in w.note_hold.new.holds)
        (λ h. w.in_ok-note_hold.ensures h ∙ ap (λ m. if same_hold (record { lock = c.args.entry.obj; thread = c.args.entry.thread }) h then m else hold_in c.args.self.now.holds h) (w.hold_after.ensures ∙ ap (hold_after c.args.entry.op) (asked w.if-asks_hold-2.true)))
        hold
    | else-asks_hold-2 w ↦ λ hold.
        ap (λ s. hold_in s.holds hold) w.self-is
        ∙ holds_stay before c.args.entry (hold_in c.args.self.now.holds) past.holds (sym c.asks_hold-2.ensures ∙ w.if-asks_hold-2.false) hold
  ]

  old_links : c.if-asks_hold-2.self.links ≡ c.args.self.now.links
  old_links = elim c.if-asks_hold-2.branch [
    | then-asks_hold-2+in_ok-note_hold w ↦ ap (λ s. s.links) w.self-is
    | else-asks_hold-2 w ↦ ap (λ s. s.links) w.self-is
  ]

  -- the links
  links_are : c.set.new.self ≡ slice_set c.args.self.now.links c.args.entry.thread (first_or c.at.result.now (is_there c.row_by-row.result.link) (length rows))
  links_are =
      c.set.ensures
      ∙ ap (λ ls. slice_set ls c.from-2.result c.first_or.result) old_links
      ∙ ap (λ t. slice_set c.args.self.now.links t c.first_or.result) c.from-2.ensures
      ∙ ap (slice_set c.args.self.now.links c.args.entry.thread)
      (c.first_or.ensures
      ∙ ap (λ b. first_or c.at.result.now b c.args.at) (c.is_some-2.ensures ∙ some_there c.row_by-row.result.link)
      ∙ ap (first_or c.at.result.now (is_there c.row_by-row.result.link)) (sym same))

pub returns-clause-noted : goal.returns-clause-noted
returns-clause-noted c before rows past same = (
  is_row c before rows past same,
  record {
    objects = λ o. subst (λ m. KeptIs (before ++ c.args.entry ∷ []) (rows ++ c.row_by-row.result ∷ []) o (kept_in m o)) (sym (objects_are c before rows past same))
        (objects_more before rows c.args.entry c.row_by-row.result c.kept_after.result (kept_in c.args.self.now.objects) (kept_in c.keep.new.objects)
        (entry_is c before rows past same) (kept_is c before rows past same) past.objects c.in_ok-keep.ensures o);
    holds = holds_are c before rows past same;
    links = subst (AreLinks (rows ++ c.row_by-row.result ∷ [])) (sym (links_are c before rows past same))
        (links_more rows c.row_by-row.result c.args.entry.thread c.args.self.now.links c.at.result.now (ap (λ (e : Entry). e.thread) (entry_is c before rows past same)) past.links (small c before rows past same) (at c before rows past same));
  },
)
