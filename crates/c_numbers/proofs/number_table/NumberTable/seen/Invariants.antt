use Rattle.std.proofs.Common.{◌≡◌, ◌≤◌, length, map, reverse, take}
use Rattle.c_numbers.specs.Numbered.{number_seen}
use Rattle.c_numbers.proofs.number_table.NumberTable.seen.Given as goal

-- the scopes that are left decide
abbrev pub invariant-loop-left : goal.invariant-loop-left
invariant-loop-left l = record {
  within : l.left ≤ length l.self.scopes;
  seen :
      number_seen (reverse (map (λ s. map (λ e. (e.0.now, e.1)) s.entries) (take l.left l.self.scopes))) l.name
      ≡ number_seen (reverse (map (λ s. map (λ e. (e.0.now, e.1)) s.entries) l.self.scopes)) l.name;
}

abbrev pub decreases-loop-left : goal.decreases-loop-left
decreases-loop-left l = l.left
