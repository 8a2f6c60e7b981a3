use Rattle.std.proofs.Common.{◌≡◌, ◌++◌, ℕ, [], drop, map}
use Rattle.rr_base.specs.declared.layout.Site.{Site}
use Rattle.facts.specs.PointsTo.{classes_of}
use Rattle.points_to.specs.Ascending.{row_at, widths}
use Rattle.points_to.proofs.least.push_classes.Given as goal

-- what is pushed and the rest make the whole
abbrev pub invariant-loop-site : goal.invariant-loop-site
invariant-loop-site l = record {
  wide : widths l.sets ++ map (λ (s : Site). classes_of s.layout.element) (drop l.site-index l.sites) ≡ widths l.fn.sets ++ map (λ (s : Site). classes_of s.layout.element) l.sites;
  empty : ((b n : ℕ) → row_at l.fn.sets b n ≡ []) → (b n : ℕ) → row_at l.sets b n ≡ [];
}
