use Rattle.std.proofs.Common.{rules, ◌<◌, length, arith}
use Rattle.snapshot_reader.proofs.Tallying.{place_within}
use Rattle.snapshot_reader.proofs.PairSteps.{below_marked, left_all, left_marked, left_outside}
use Rattle.snapshot_reader.proofs.regions.pairs_fit.Goals as goal

pub loop-rest-init : goal.loop-rest-init
loop-rest-init c = record {
  marks = c.requires.marks;
  used = λ k. let h = c.requires.fresh k in omega arith;
  fits = λ stripes listed. left_all c.args.mark c.args.marks.now c.requires.fresh stripes c.args.pairs.now;
}

pub returns-in_default-place_in-clause-fits : goal.returns-in_default-place_in-clause-fits
returns-in_default-place_in-clause-fits c = λ stripes listed.
    left_outside c.args.locks c.args.mark c.loop-rest.marks c.args.listed.now stripes c.loop-rest.rest.now _ _ c.in-len1-up.len_at_least c.in_default-place_in.ensures listed (c.loop-rest.invariant.fits stripes listed)

pub loop-rest-preserved : goal.loop-rest-preserved
loop-rest-preserved c =
    let before = c.loop-rest.invariant in
    let here = c.in-Some.ensures in
    let within : c.in-Some.place < length c.loop-rest.marks = let h = place_within c.args.locks _ here.0 in let e = here.1 in let f = before.marks in omega arith in
    record {
      marks = search rules;
      used = below_marked c.args.mark c.in-Some.place c.loop-rest.marks before.used within;
      fits = λ stripes listed. left_marked c.args.locks c.args.mark c.in-Some.place c.loop-rest.marks c.args.listed.now stripes c.loop-rest.rest.now _ _ c.in-len1-up.len_at_least here.0 here.1 before.marks c.if-marks-place.false c.if-listed-place-eq0.false listed (before.fits stripes listed);
    }
