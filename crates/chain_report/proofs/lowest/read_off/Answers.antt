use Rattle.std.proofs.Common.{◌≡◌, true, [], ◌∷◌, reverse, sym, ap, subst, ◌∙◌}
use Rattle.std.proofs.lemmas.List.{reverse-append}
use Rattle.std.proofs.lemmas.Option.{slice_get-get_or}
use Rattle.chain_report.specs.Chains.{is_chain as is_chain_of}
use Rattle.chain_report.specs.Finds.{IsLowest}
use Rattle.chain_report.proofs.LowestChain.{At, no_end, begins, link_of, link_within, finishes, never, continues}
use Rattle.chain_report.proofs.lowest.read_off.Goals.{After-from_vec}
use Rattle.chain_report.proofs.lowest.read_off.Goals as goal

pub returns-in_default : goal.returns-in_default
returns-in_default c = no_end c.args.entries.now c.args.from c.args.to c.args.rows.now c.requires.rows c.requires.all (sym c.first_end.ensures.value ∙ c.in_default.is)

pub loop-reached-init : goal.loop-reached-init
loop-reached-init c = record {
  at = λ all same. subst (λ back. At c.args.entries.now c.args.from c.args.to c.args.rows.now all same c.in-Some.reached (reverse back)) (sym c.new-backwards.ensures)
      (begins c.args.entries.now c.args.from c.args.to c.args.rows.now all same c.in-Some.reached (sym c.first_end.ensures.value ∙ c.in-Some.is));
}

pub bounds : goal.bounds
bounds c = (c.loop-reached.invariant.at c.requires.rows c.requires.all).within

pub bounds-rows-link : goal.bounds-rows-link
bounds-rows-link c =
    let at = c.loop-reached.invariant.at c.requires.rows c.requires.all in
    (link_within c.args.entries.now c.args.from c.args.to c.args.rows.now c.requires.rows c.requires.all c.loop-reached.reached c.in-Some-link.link (reverse c.loop-reached.backwards) _ at (slice_get-get_or c.args.rows.now c.loop-reached.reached _ at.within) c.in-Some-link.is).1

turned : (c : After-from_vec) → c.from_vec.result ≡ (c.in-Some-link.link, c.loop-reached.reached) ∷ reverse c.loop-reached.backwards
turned c =
    c.from_vec.ensures
    ∙ c.reverse.ensures.items
    ∙ ap reverse (c.into_vec-passes.ensures ∙ c.in_ok-push.ensures.ok)
    ∙ reverse-append c.loop-reached.backwards ((c.in-Some-link.link, c.loop-reached.reached) ∷ [])

pub returns-then-is_after : goal.returns-then-is_after
returns-then-is_after c =
    let at = c.loop-reached.invariant.at c.requires.rows c.requires.all in
    let is = slice_get-get_or c.args.rows.now c.loop-reached.reached _ at.within in
    let in_rows = (link_within c.args.entries.now c.args.from c.args.to c.args.rows.now c.requires.rows c.requires.all c.loop-reached.reached c.in-Some-link.link (reverse c.loop-reached.backwards) _ at is c.in-Some-link.is).1 in
    subst (λ given. IsLowest c.args.entries.now c.args.from c.args.to given × (is_chain_of c.args.entries.now c.args.from c.args.to given ≡ true)) (sym (turned c))
    (finishes c.args.entries.now c.args.from c.args.to c.args.rows.now c.requires.rows c.requires.all c.loop-reached.reached c.in-Some-link.link (reverse c.loop-reached.backwards) _ _ at is c.in-Some-link.is (slice_get-get_or c.args.rows.now c.in-Some-link.link _ in_rows) (sym c.is_after.ensures ∙ c.if-is_after.true))

pub returns-in_default-first_of_thread : goal.returns-in_default-first_of_thread
returns-in_default-first_of_thread c =
    let at = c.loop-reached.invariant.at c.requires.rows c.requires.all in
    let is = slice_get-get_or c.args.rows.now c.loop-reached.reached _ at.within in
    let in_rows = (link_within c.args.entries.now c.args.from c.args.to c.args.rows.now c.requires.rows c.requires.all c.loop-reached.reached c.in-Some-link.link (reverse c.loop-reached.backwards) _ at is c.in-Some-link.is).1 in
    absurd (never c.args.entries.now c.args.from c.args.to c.args.rows.now c.requires.rows c.requires.all c.loop-reached.reached c.in-Some-link.link (reverse c.loop-reached.backwards) _ _ at is c.in-Some-link.is (slice_get-get_or c.args.rows.now c.in-Some-link.link _ in_rows) (sym c.is_after.ensures ∙ c.if-is_after.false) (sym (c.first_of_thread.ensures.value c.args.rows.now c.requires.links) ∙ c.in_default-first_of_thread.is))

pub loop-reached-smaller : goal.loop-reached-smaller
loop-reached-smaller c =
    let at = c.loop-reached.invariant.at c.requires.rows c.requires.all in
    let is = slice_get-get_or c.args.rows.now c.loop-reached.reached _ at.within in
    let in_rows = (link_within c.args.entries.now c.args.from c.args.to c.args.rows.now c.requires.rows c.requires.all c.loop-reached.reached c.in-Some-link.link (reverse c.loop-reached.backwards) _ at is c.in-Some-link.is).1 in
    (continues c.args.entries.now c.args.from c.args.to c.args.rows.now c.requires.rows c.requires.all c.loop-reached.reached c.in-Some-link.link (reverse c.loop-reached.backwards) _ _ at is c.in-Some-link.is (slice_get-get_or c.args.rows.now c.in-Some-link.link _ in_rows) c.in-Some-first_of_thread.before (sym c.is_after.ensures ∙ c.if-is_after.false) (sym (c.first_of_thread.ensures.value c.args.rows.now c.requires.links) ∙ c.in-Some-first_of_thread.is)).1

pub loop-reached-preserved : goal.loop-reached-preserved
loop-reached-preserved c = record {
  at = λ all same.
      let at = c.loop-reached.invariant.at all same in
      let is = slice_get-get_or c.args.rows.now c.loop-reached.reached _ at.within in
      let in_rows = (link_within c.args.entries.now c.args.from c.args.to c.args.rows.now all same c.loop-reached.reached c.in-Some-link.link (reverse c.loop-reached.backwards) _ at is c.in-Some-link.is).1 in
      subst (At c.args.entries.now c.args.from c.args.to c.args.rows.now all same c.in-Some-first_of_thread.before) (sym (ap reverse c.in_ok-push.ensures.ok ∙ reverse-append c.loop-reached.backwards ((c.in-Some-link.link, c.loop-reached.reached) ∷ [])))
      (continues c.args.entries.now c.args.from c.args.to c.args.rows.now all same c.loop-reached.reached c.in-Some-link.link (reverse c.loop-reached.backwards) _ _ at is c.in-Some-link.is (slice_get-get_or c.args.rows.now c.in-Some-link.link _ in_rows) c.in-Some-first_of_thread.before (sym c.is_after.ensures ∙ c.if-is_after.false) (sym (c.first_of_thread.ensures.value c.args.rows.now c.requires.links) ∙ c.in-Some-first_of_thread.is)).0;
}

pub returns : goal.returns
returns c =
    let at = c.loop-reached.invariant.at c.requires.rows c.requires.all in
    absurd (link_of c.args.entries.now c.args.from c.args.to c.args.rows.now c.requires.rows c.requires.all c.loop-reached.reached (reverse c.loop-reached.backwards) _ at (slice_get-get_or c.args.rows.now c.loop-reached.reached _ at.within) c.in_default-link.is)
