-- What holds in a part of a turn that is entered at one instruction: what that one brings about, and the others keep.
use Rattle.std.proofs.Common.{◌≡◌, ℕ, ◌<◌, ◌≤◌, List, Option, Some, None, refl, subst, arith, ◌⊎◌, ⊎_elim}
use Rattle.std.proofs.lemmas.Bool.{cases_lt}
use Rattle.flow_code.specs.declared.act.Act.{Act}
use Rattle.flow_code.specs.declared.act.Instr.{Instr}
use Rattle.weak_lock_facts.specs.Loops.{nth}
use Rattle.loop_bounds.specs.Forms.{IsEnteredAt}
use Rattle.loop_bounds.specs.Turns.{Setting, Goes, Comes, begins, goes}
use Rattle.loop_bounds.proofs.Steps.{onward}

-- of the instructions after a and up to b, others are come from only at a
abbrev pub IsEntered : Setting → List Instr → (a b : ℕ) → Type 0
IsEntered s is a b = (k j : ℕ) (rs qs : List ℕ) → Goes s (nth is k) k rs j qs → a < j → j ≤ b → (a ≤ k) × (k ≤ b)

pub comes_in : (s : Setting) (is : List Instr) (a b : ℕ) → IsEnteredAt is a b → IsEntered s is a b
comes_in s is a b h k j rs qs g lt le = at_it (nth is k) refl g
  where
    at_it : (o : Option Act) → nth is k ≡ o → Goes s o k rs j qs → (a ≤ k) × (k ≤ b)
    at_it None e w = absurd w
    at_it (Some x) e w = ⊎_elim (λ n. (omega arith, omega arith)) (λ t. h k j x e t lt le) (onward s x k j rs qs w)

pub holds_in : (s : Setting) (is : List Instr) (mark : ℕ) (start : List ℕ) (a b : ℕ) (P : List ℕ → Type 0) → mark ≤ a → IsEntered s is a b → ((j : ℕ) (rs qs : List ℕ) → Comes s is mark start a rs → Goes s (nth is a) a rs j qs → a < j → j ≤ b → P qs) → ((k j : ℕ) (rs qs : List ℕ) → a < k → k ≤ b → a < j → j ≤ b → Comes s is mark start k rs → Goes s (nth is k) k rs j qs → P rs → P qs) → (k : ℕ) (rs : List ℕ) → Comes s is mark start k rs → a < k → k ≤ b → P rs
holds_in s is mark start a b P le way first keep k rs begins lt below = absurd (omega arith)
holds_in s is mark start a b P le way first keep j qs (goes {k = k} {rs = rs} c g n) lt below =
    let inside = way k j rs qs g lt below in
    ⊎_elim (λ following. keep k j rs qs following inside.1 lt below c g (holds_in s is mark start a b P le way first keep k rs c following inside.1))
    (λ not_after. let e : k ≡ a = omega arith in first j rs qs (subst (λ z. Comes s is mark start z rs) e c) (subst (λ z. Goes s (nth is z) z rs j qs) e g) lt below)
    (cases_lt a k)

-- at the Mark the turn has just begun
pub at_mark : (s : Setting) (is : List Instr) (mark : ℕ) (start : List ℕ) (k : ℕ) (rs : List ℕ) → k ≡ mark → Comes s is mark start k rs → rs ≡ start
at_mark s is mark start k rs e begins = refl
at_mark s is mark start k rs e (goes c g n) = absurd (n e)
