use Rattle.std.proofs.Common.{◌≡◌, ℕ, ◌+◌, ◌<◌, List, ◌∷◌, Option, length, get_or, drop, map, sym, ap, ◌∙◌, arith}
use Rattle.std.proofs.lemmas.List.{at_drop_more}
use Rattle.c_tree.specs.declared.program.External.{External}
use Rattle.c_tree.specs.View.{outer_of}
use Rattle.c_types.specs.declared.fault.Found.{Found}
use Rattle.c_types.specs.Found.{first_among}
use Rattle.c_types.specs.Scopes.{Known}
use Rattle.c_programs.specs.Programs.{outer_faults, after_outer, outers_faults}
use Rattle.c_types.proofs.First.{first_of_both}
use Rattle.c_sites.proofs.checking.note_externals.Goals as goal

-- one part of the source, and what stands after it
first_after : (before after : Known) (first more : Option Found) (parts : List External) (i : ℕ) (x : External) →
    i < length parts → x ≡ get_or parts i x →
    after ≡ after_outer before (outer_of x) →
    more ≡ first_among first (outer_faults before (outer_of x)) →
    first_among more (outers_faults after (map outer_of (drop (i + 1) parts))) ≡ first_among first (outers_faults before (map outer_of (drop i parts)))
first_after before after first more parts i x lt is e f =
    let rest = map outer_of (drop (i + 1) parts) in
    ap (λ m. first_among m (outers_faults after rest)) f
    ∙ ap (λ k. first_among (first_among first (outer_faults before (outer_of x))) (outers_faults k rest)) e
    ∙ sym (first_of_both first (outer_faults before (outer_of x)) (outers_faults (after_outer before (outer_of x)) rest))
    ∙ ap (λ y. first_among first (outers_faults before (outer_of y ∷ rest))) is
    ∙ sym (at_drop_more (λ (ys : List External). first_among first (outers_faults before (map outer_of ys))) parts i x lt)

pub loop-external-preserved : goal.loop-external-preserved
loop-external-preserved c =
    let lt : c.loop-external.external-index < length c.args.externals.now = omega arith in
    first_after _ _ _ _ _ _ c.external-item.result lt c.external-item.is c.in_ok-note_external.ensures.known c.in_ok-note_external.ensures.first
    ∙ c.loop-external.invariant
