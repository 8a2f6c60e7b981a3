use Rattle.std.proofs.Common.{◌∙◌, sym, ap, arith, List}
use Rattle.std.specs.Prelude.{◌||◌, slice_index_or}
use Rattle.std.proofs.lemmas.List.{take_all}
use Rattle.std.proofs.lemmas.List.Folds.{list_any_more}
use Rattle.facts.specs.declared.pair.Pair.{Pair}
use Rattle.weak_lock_facts.specs.Grains.{is_racy, stands_in}
use Rattle.grain_choice.proofs.accesses.both_of_all.Goals as goal

abbrev blank : Pair
blank = record { place = record { site = 0; class = 0 }; first = record { function = 0; instr = 0 }; second = record { function = 0; instr = 0 } }

pub loop-pair-preserved : goal.loop-pair-preserved
loop-pair-preserved c = (
  c.in_ok-push_both.ensures.agree,
  λ a.
      c.in_ok-push_both.ensures.listed a
      ∙ ap (λ b. b || stands_in a (slice_index_or c.args.pairs.now c.loop-pair.pair-index blank)) (c.loop-pair.invariant.1 a)
      ∙ sym (list_any_more (λ p. stands_in a p) c.args.pairs.now c.loop-pair.pair-index blank c.loop-pair-test.true),
)

pub returns : goal.returns
returns c a = c.loop-pair.invariant.1 a ∙ ap (λ (ps : List Pair). is_racy ps a) (take_all c.loop-pair.pair-index c.args.pairs.now (omega arith))
