use Rattle.std.proofs.Common.{rules, ◌≡◌, ◌+◌, ◌*◌, ◌&&◌, ℕ, List, true, length, sym, ap, subst, ◌∙◌, arith}
use Rattle.std.specs.List.{list_all}
use Rattle.std.specs.Vec.{with_items}
use Rattle.std.proofs.lemmas.Bool.{true≢false}
use Rattle.std.proofs.lemmas.List.{with_items_is}
use Rattle.snapshots.specs.Conditions.{all_differ, is_among, is_from, opens}
use Rattle.snapshot_reader.specs.Tallies.{AreBelow}
use Rattle.snapshot_reader.proofs.LookedUp.{copied}
use Rattle.snapshot_reader.proofs.RegionSteps.{next_mark, next_region}
use Rattle.snapshot_reader.proofs.regions.misfit_region.Goals.{then-opens, else-opens}
use Rattle.snapshot_reader.proofs.regions.misfit_region.Goals as goal

pub loop-rest-preserved : goal.loop-rest-preserved
loop-rest-preserved c =
    let r = c.region-item.result in
    let before = c.loop-rest.invariant in
    let marks = c.pairs_fit.new.marks in
    let both : (c.opens.result ≡ true) × (is_from c.loop-rest.before r.frame ≡ true) =
    elim c.if-opens.branch [ then-opens w ↦ (w.if-opens.true, sym w.is_from-stands.ensures ∙ sym w.stands-is ∙ c.if-not-stands.false) | else-opens w ↦ absurd (true≢false (sym c.if-not-stands.false ∙ w.stands-is ∙ w.if-opens.false)) ] in
    let frame = copied c.args.frames.now r.frame c.get.result c.get.ensures.lookup.0 c.get.ensures.lookup.1 in
    let opened = ap (λ f. opens c.args.code.now f r.instr) (sym frame) ∙ sym c.opens.ensures ∙ both.0 in
    let whole : length marks ≡ 8 * length c.args.code.now.locks = c.pairs_fit.ensures.marks ∙ ap (λ (n : ℕ). 8 * n) c.len-locks.ensures in
    let same : (with_items c.loop-rest.marks marks).items ≡ marks = with_items_is c.loop-rest.marks marks (let f = before.whole in let g = c.loop-rest.marks.ok.0 in omega arith) in
    record {
      judging = λ stripes listed.
          let pairs : (all_differ r.stripes && list_all (is_among stripes) r.stripes) ≡ true =
          ap (λ (ps : List (ℕ × ℕ)). all_differ ps && list_all (is_among stripes) ps) (sym c.as_slice.ensures) ∙ sym (c.pairs_fit.ensures.fits stripes (search rules)) ∙ c.if-not-pairs_fit.false in
          next_region c.args.code.now c.args.frames.now stripes _ c.loop-rest.before c.loop-rest.rest.now r c.args.first c.loop-rest.line c.saturating_add-line.result c.in-len1-up.len_at_least c.region-item.is (before.judging stripes listed) opened both.1 pairs c.saturating_add-line.ensures;
      whole = ap length same ∙ whole;
      fresh = subst (AreBelow (c.loop-rest.mark + 1)) (sym same) c.pairs_fit.ensures.used;
      numbered = next_mark c.loop-rest.mark (length c.args.regions.now + 1) c.loop-rest.rest.now c.in-len1-up.len_at_least before.numbered;
    }
