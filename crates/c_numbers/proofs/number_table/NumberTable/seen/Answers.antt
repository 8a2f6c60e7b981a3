use Rattle.std.proofs.Common.{◌<◌, ◌≤◌, length, map, ◌∙◌, arith}
use Rattle.c_types.proofs.Keyed.{lookup-entry_of}
use Rattle.c_numbers.proofs.Seen.{seen-innermost}
use Rattle.c_numbers.proofs.number_table.NumberTable.seen.Goals as goal

pub returns-in-Some : goal.returns-in-Some
returns-in-Some c =
    let some : 0 < c.loop-left.left = omega arith in
    let within : c.loop-left.left ≤ length c.args.self.now.scopes = omega arith in
    let found = c.in-Some.ensures.value ∙ lookup-entry_of (λ k. k.now) c.at.result.now.entries c.args.name.now in
    seen-innermost (λ s. map (λ e. (e.0.now, e.1)) s.entries) c.args.self.now.scopes c.loop-left.left c.at.result.now c.args.name.now _ some within c.at.ensures found
    ∙ c.loop-left.invariant.seen

pub loop-left-preserved : goal.loop-left-preserved
loop-left-preserved c =
    let some : 0 < c.loop-left.left = omega arith in
    let within : c.loop-left.left ≤ length c.args.self.now.scopes = omega arith in
    let found = c.in-None.ensures.value ∙ lookup-entry_of (λ k. k.now) c.at.result.now.entries c.args.name.now in
    record {
      within = omega arith;
      seen =
          seen-innermost (λ s. map (λ e. (e.0.now, e.1)) s.entries) c.args.self.now.scopes c.loop-left.left c.at.result.now c.args.name.now _ some within c.at.ensures found
          ∙ c.loop-left.invariant.seen;
    }
