-- What a turn of a counted loop keeps.
use Rattle.std.proofs.Common.{◌≡◌, ◌≢◌, ℕ, ◌+◌, ◌-◌, ◌<◌, ◌≤◌, false, List, Option, refl, ap, subst, ◌∙◌, arith, ◌⊎◌, ⊎_elim}
use Rattle.std.proofs.lemmas.Bool.{cases_lt}
use Rattle.flow_code.specs.declared.act.Act.{Act}
use Rattle.flow_code.specs.declared.act.Act.TheVariants as act
use Rattle.flow_code.specs.declared.act.Instr.{Instr}
use Rattle.flow_code.specs.declared.code.LoopInfo.{LoopInfo}
use Rattle.flow_code.specs.declared.work.Work.TheVariants as work
use Rattle.word_semantics.specs.Registers.{register}
use Rattle.facts.specs.Blocks.{assigns}
use Rattle.weak_lock_facts.specs.Loops.{nth}
use Rattle.loop_bounds.specs.Forms.{IsBorneOut, IsLastPart}
use Rattle.loop_bounds.specs.Turns.{Setting, Goes, Comes}
use Rattle.loop_bounds.proofs.Steps.{kept}
use Rattle.loop_bounds.proofs.Regions.{IsEntered, comes_in, holds_in, at_mark}

-- the last part has four instructions at least, and stands after the condition
pub begins_early : (is : List Instr) (l : LoopInfo) (b : IsBorneOut is l) → b.last_part.begin ≤ l.last - 3
begins_early is l b = ⊎_elim (λ x. omega (arith, x.0)) (λ x. omega (arith, x.0)) b.last_part.is_old

pub far : (is : List Instr) (l : LoopInfo) → IsBorneOut is l → l.at + 6 ≤ l.last
far is l b = let early = begins_early is l b in omega (arith, early, b.begins, b.ends)

-- up to where the counter is raised, the loop is entered at its Mark alone
pub way_in : (s : Setting) (is : List Instr) (l : LoopInfo) → IsBorneOut is l → IsEntered s is l.at (l.last - 1)
way_in s is l b k j rs qs g lt le =
    let ends : l.at + 6 ≤ l.last = far is l b in
    let inside = comes_in s is l.at (l.last + 1) b.entered k j rs qs g lt (omega arith) in
    let low : l.at ≤ k = inside.0 in
    let high : k ≤ l.last + 1 = inside.1 in
    ⊎_elim (λ before. (low, omega arith)) (λ following. ⊎_elim (λ last. absurd (at_last (omega arith))) (λ back. absurd (at_back (omega arith))) (cases_lt k (l.last + 1))) (cases_lt k l.last)
  where
    at_last : k ≡ l.last → ⊥
    at_last e =
        let v = b.value in
        let w = subst (λ (n : ℕ). Goes s (nth is n) n rs j qs) e g in
        let x = subst (λ (a : Option Act). Goes s a l.last rs j qs) v.2 w in
        let p : j ≡ l.last + 1 = x.0 in
        omega arith

    at_back : k ≡ l.last + 1 → ⊥
    at_back e =
        let w = subst (λ (n : ℕ). Goes s (nth is n) n rs j qs) e g in
        let x = subst (λ (a : Option Act). Goes s a (l.last + 1) rs j qs) b.jumps_back w in
        let p : j ≡ l.at = x.0 in
        omega arith

-- a register that is assigned at most where the counter is raised has till then what it had at the Mark
pub stays : (s : Setting) (is : List Instr) (l : LoopInfo) (b : IsBorneOut is l) (start : List ℕ) (r : ℕ) → ((k : ℕ) → l.at ≤ k → k ≤ l.last + 1 → k ≢ l.last - 1 → assigns r (nth is k) ≡ false) → (k : ℕ) (rs : List ℕ) → Comes s is l.at start k rs → l.at < k → k ≤ l.last - 1 → register rs r ≡ register start r
stays s is l b start r never k rs c lt le = holds_in s is l.at start l.at (l.last - 1) (λ z. register z r ≡ register start r) (omega arith) (way_in s is l b) first keep k rs c lt le
  where
    first : (j : ℕ) (ps qs : List ℕ) → Comes s is l.at start l.at ps → Goes s (nth is l.at) l.at ps j qs → l.at < j → j ≤ l.last - 1 → register qs r ≡ register start r
    first j ps qs d g lt2 le2 =
        let ends : l.at + 6 ≤ l.last = far is l b in
        let apart : l.at ≢ l.last - 1 = λ e. omega arith in
        kept s (nth is l.at) l.at j ps qs r g (never l.at (omega arith) (omega arith) apart) ∙ ap (λ z. register z r) (at_mark s is l.at start l.at ps refl d)

    raising : (j m : ℕ) (ps qs : List ℕ) → m ≡ l.last - 1 → Goes s (nth is m) m ps j qs → j ≤ l.last - 1 → ⊥
    raising j m ps qs e g le2 =
        let w = subst (λ (n : ℕ). Goes s (nth is n) n ps j qs) e g in
        let lp : IsLastPart is l = b.last_part in
        let x = subst (λ (a : Option Act). Goes s a (l.last - 1) ps j qs) lp.raises w in
        let p : j ≡ (l.last - 1) + 1 = x.0 in
        omega arith

    keep : (m j : ℕ) (ps qs : List ℕ) → l.at < m → m ≤ l.last - 1 → l.at < j → j ≤ l.last - 1 → Comes s is l.at start m ps → Goes s (nth is m) m ps j qs → register ps r ≡ register start r → register qs r ≡ register start r
    keep m j ps qs lt2 le2 lt3 le3 d g p = kept s (nth is m) m j ps qs r g (never m (omega arith) (omega arith) (λ e. raising j m ps qs e g le3)) ∙ p
