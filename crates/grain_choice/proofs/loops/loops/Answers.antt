use Rattle.std.proofs.Common.{◌∙◌, ap, arith, List}
use Rattle.std.specs.Prelude.{pos, ◌∷◌, [], slice_index_or}
use Rattle.std.proofs.lemmas.List.{take_all}
use Rattle.weak_lock_facts.specs.declared.range.Range.{Range}
use Rattle.weak_lock_facts.specs.Grains.{loop_of}
use Rattle.grain_choice.specs.Loops.{first_of}
use Rattle.grain_choice.proofs.Putting.{loop_of-more}
use Rattle.grain_choice.proofs.loops.loops.Goals as goal

abbrev blank : Range
blank = record { function = 0; instr = 0; loop_at = 0; shift = pos 0 }

pub loop-range-preserved : goal.loop-range-preserved
loop-range-preserved c a =
    c.in_ok-put.ensures a
    ∙ ap (λ o. first_of o (loop_of (slice_index_or c.args.ranges.now c.loop-range.range-index blank ∷ []) a)) (c.loop-range.invariant a)
    ∙ loop_of-more c.args.ranges.now c.loop-range.range-index blank a c.loop-range-test.true

pub returns : goal.returns
returns c a = c.loop-range.invariant a ∙ ap (λ (rs : List Range). loop_of rs a) (take_all c.loop-range.range-index c.args.ranges.now (omega arith))
