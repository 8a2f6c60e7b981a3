use Rattle.std.proofs.Common.{◌∙◌, ◌++◌, ◌∷◌, [], ◌<◌, ap, sym, subst, length, arith}
use Rattle.std.specs.List.{filter_map}
use Rattle.core_run.specs.Words.{place_of}
use Rattle.checkpoint.specs.Groups.{listed_of}
use Rattle.checkpoint.proofs.Grouping.{group_start, group_step, group_end}
use Rattle.checkpoint.proofs.grouped.list_group.Goals as goal

pub loop-number-init : goal.loop-number-init
loop-number-init c = record { within = omega arith; found = group_start c.args.cells c.args.words.now c.args.group c.args.found.now c.args.count }

pub object_at-requires : goal.object_at-requires
object_at-requires c = c.requires.numbered c.loop-number.number c.loop-number-test.true

pub list_object-requires : goal.list_object-requires
list_object-requires c = subst (λ o. place_of c.args.cells o < length c.args.words.now) (sym c.object_at.ensures) (c.requires.places c.loop-number.number c.loop-number-test.true)

pub loop-number-preserved : goal.loop-number-preserved
loop-number-preserved c = record {
  within = omega (arith, c.loop-number-test.true);
  found = group_step c.args.cells c.args.words.now c.args.group _ c.loop-number.found c.list_object.new.found c.loop-number.number c.args.count c.loop-number-test.true
      (c.in_ok-list_object.ensures ∙ ap (λ o. c.loop-number.found ++ filter_map (listed_of c.args.cells c.args.words.now) (o ∷ [])) c.object_at.ensures)
      c.loop-number.invariant.found;
}

pub returns : goal.returns
returns c = group_end c.args.cells c.args.words.now c.args.group c.loop-number.found _ c.loop-number.number c.args.count c.loop-number-test.false c.loop-number.invariant.found
