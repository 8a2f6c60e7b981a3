use Rattle.std.proofs.Common.{List, subst, arith, refl, []}
use Rattle.std.specs.List.{Contains}
use Rattle.sync_objects.specs.declared.mode.Mode.TheVariants.{Read, Write}
use Rattle.facts.specs.declared.locks.Held.{Held}
use Rattle.race_pairs.specs.Gains.{Gains}
use Rattle.race_pairs.specs.Races.{held_cell}
use Rattle.race_pairs.proofs.Elements.{gets}
use Rattle.race_pairs.proofs.grouping.group_of.Goals as goal

pub returns : goal.returns
returns c = record {
  v = _;
  at = gets c.args.touches.now c.args.from _ (omega arith);
  place = refl;
  root = c.alone.ensures;
  store = refl;
  ascend = record { writing = c.in_ok-writing.ensures.ascend; reading = c.in_ok-reading.ensures.ascend };
  locks = record {
    writing = subst (λ (hs : List Held). Gains (λ n. Contains hs (held_cell Write n)) [] c.in_ok-writing.writing) c.as_slice.ensures c.in_ok-writing.ensures.cells;
    reading = subst (λ (hs : List Held). Gains (λ n. Contains hs (held_cell Read n)) [] c.in_ok-reading.reading) c.as_slice-2.ensures c.in_ok-reading.ensures.cells;
  };
  accesses = c.in_ok-accesses.ensures;
}
