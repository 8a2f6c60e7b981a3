use Rattle.std.proofs.Common.{ℕ, List, [], sym, subst}
use Rattle.std.specs.List.{Contains}
use Rattle.std.specs.List.Sorted.{IsNonDecreasing}
use Rattle.std.proofs.lemmas.List.Sorted.{IsNonDecreasingBy-from_sort, IsPermutation-sym, Contains-permutation}
use Rattle.race_pairs.specs.Gains.{Gains}
use Rattle.race_pairs.specs.Races.{held_cell}
use Rattle.race_pairs.proofs.Gaining.{gains_too}
use Rattle.race_pairs.proofs.meeting.lock_cells.Goals as goal

pub returns-clause-ascend : goal.returns-clause-ascend
returns-clause-ascend c = subst (λ (xs : List ℕ). IsNonDecreasing xs) (sym c.from_vec.ensures) (IsNonDecreasingBy-from_sort (λ n. n) c.sort_unstable.new.self.items c.sort_unstable.ensures.sorted)

pub returns-clause-cells : goal.returns-clause-cells
returns-clause-cells c =
    let xs = c.in_ok-cells.cells.items in
    let ys = c.sort_unstable.new.self.items in
    let perm = c.sort_unstable.ensures.permutation in
    subst (λ (zs : List ℕ). Gains (λ n. Contains c.args.locks.now (held_cell c.args.mode n)) [] zs) (sym c.from_vec.ensures)
    (gains_too (λ n. Contains c.args.locks.now (held_cell c.args.mode n)) xs ys (λ n h. Contains-permutation xs ys n perm h) (λ n h. Contains-permutation ys xs n (IsPermutation-sym xs ys perm) h) c.in_ok-cells.ensures)
