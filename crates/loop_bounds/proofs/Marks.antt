-- One step of the search for the Mark of the loop round an instruction.
use Rattle.std.proofs.Common.{◌≡◌, ℕ, suc, ◌-◌, true, false, cond, List, Some, ap, ◌∙◌}
use Rattle.flow_code.specs.declared.act.Instr.{Instr}
use Rattle.weak_lock_facts.specs.Ranges.{begins_round, mark_before}

stepped : (is : List Instr) (k m n : ℕ) → m ≡ suc n → mark_before is k m ≡ cond (begins_round is k n) (Some n) (mark_before is k n)
stepped is k m n e = ap (λ j. mark_before is k j) e

pub found : (is : List Instr) (k m n : ℕ) → m ≡ suc n → begins_round is k n ≡ true → mark_before is k m ≡ Some n
found is k m n e h = stepped is k m n e ∙ ap (λ b. cond b (Some n) (mark_before is k n)) h

pub passed : (is : List Instr) (k m n : ℕ) → m ≡ suc n → begins_round is k n ≡ false → mark_before is k m ≡ mark_before is k n
passed is k m n e h = stepped is k m n e ∙ ap (λ b. cond b (Some n) (mark_before is k n)) h
