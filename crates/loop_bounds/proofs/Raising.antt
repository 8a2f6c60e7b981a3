-- What the counter is where the loop jumps back.
use Rattle.std.proofs.Common.{◌≡◌, ◌≢◌, ℕ, ◌+◌, ◌-◌, ◌<◌, ◌≤◌, false, ℤ, ◌+ℤ◌, List, length, Option, Some, sym, ap, subst, ◌∙◌, arith, ◌⊎◌, ⊎_elim, ne_eqb, to_z-of_z}
use Rattle.std.proofs.lemmas.Bool.{cases_lt}
use Rattle.flow_code.specs.declared.act.Act.{Act}
use Rattle.flow_code.specs.declared.act.Act.TheVariants as act
use Rattle.flow_code.specs.declared.act.Instr.{Instr}
use Rattle.flow_code.specs.declared.code.LoopInfo.{LoopInfo}
use Rattle.flow_code.specs.declared.work.Work.{Work}
use Rattle.flow_code.specs.declared.work.Work.TheVariants as work
use Rattle.word_semantics.specs.declared.operator.BinaryOp.TheVariants as op
use Rattle.word_semantics.specs.Values.{number, word}
use Rattle.word_semantics.specs.Registers.{register}
use Rattle.facts.specs.Blocks.{assigns}
use Rattle.weak_lock_facts.specs.Loops.{nth}
use Rattle.loop_bounds.specs.Forms.{IsBorneOut, IsLastPart}
use Rattle.loop_bounds.specs.Turns.{Setting, Goes, Comes, AreFit}
use Rattle.loop_bounds.proofs.Steps.{kept, same_register}
use Rattle.loop_bounds.proofs.Regions.{IsEntered, comes_in, holds_in}
use Rattle.loop_bounds.proofs.Turning.{begins_early, far, stays}
use Rattle.loop_bounds.proofs.Pointing.{IsTurn, given, copy_word, fitting_ok, plain_sum}

computing : (s : Setting) (is : List Instr) (k m j into : ℕ) (w : Work) (ps qs : List ℕ) → k ≡ m → nth is m ≡ Some (act.Compute into w) → Goes s (nth is k) k ps j qs → j ≡ k + 1
computing s is k m j into w ps qs e h g =
    let there : nth is k ≡ Some (act.Compute into w) = ap (λ n. nth is n) e ∙ h in
    let x : Goes s (Some (act.Compute into w)) k ps j qs = subst (λ (z : Option Act). Goes s z k ps j qs) there g in
    x.0

-- the last part goes from one instruction to the next
part_step : (s : Setting) (is : List Instr) (l : LoopInfo) (b : IsBorneOut is l) → (k j : ℕ) (ps qs : List ℕ) → b.last_part.begin ≤ k → k ≤ l.last → Goes s (nth is k) k ps j qs → j ≡ k + 1
part_step s is l b k j ps qs low high g =
    let v = b.value in
    let ends : l.at + 6 ≤ l.last = far is l b in
    ⊎_elim (λ (x : k < l.last - 3). copies x) (λ (x3 : l.last - 3 ≤ k).
    ⊎_elim (λ (x : k < l.last - 2). computing s is k (l.last - 3) j lp.by (work.Constant l.step) ps qs (omega arith) lp.puts g) (λ (x2 : l.last - 2 ≤ k).
    ⊎_elim (λ (x : k < l.last - 1). computing s is k (l.last - 2) j lp.new (work.Binary op.Add lp.old lp.by) ps qs (omega arith) lp.adds g) (λ (x1 : l.last - 1 ≤ k).
    ⊎_elim (λ (x : k < l.last). computing s is k (l.last - 1) j l.counter (work.Copy lp.new) ps qs (omega arith) lp.raises g) (λ (x0 : l.last ≤ k).
    computing s is k l.last j v.0 (work.Copy v.1) ps qs (omega arith) v.2 g)
    (cases_lt k l.last)) (cases_lt k (l.last - 1))) (cases_lt k (l.last - 2))) (cases_lt k (l.last - 3))
  where
    lp : IsLastPart is l
    lp = b.last_part

    copies : k < l.last - 3 → j ≡ k + 1
    copies x = ⊎_elim (λ y. absurd (omega (arith, x, low, y.0))) (λ y. computing s is k (l.last - 4) j lp.old (work.Copy l.counter) ps qs (omega (arith, x, low, y.0)) y.1 g) lp.is_old

jumped : (s : Setting) (is : List Instr) (l : LoopInfo) → IsBorneOut is l → (k j : ℕ) (ps qs : List ℕ) → k ≡ l.last + 1 → Goes s (nth is k) k ps j qs → j ≡ l.at
jumped s is l b k j ps qs e g =
    let there : nth is k ≡ Some (act.Jump l.at) = ap (λ n. nth is n) e ∙ b.jumps_back in
    let x : Goes s (Some (act.Jump l.at)) k ps j qs = subst (λ (z : Option Act). Goes s z k ps j qs) there g in
    x.0

-- so each instruction after its first is come from at the one before
next_in : (s : Setting) (is : List Instr) (l : LoopInfo) (b : IsBorneOut is l) → (k j : ℕ) (ps qs : List ℕ) → Goes s (nth is k) k ps j qs → b.last_part.begin < j → j ≤ l.last + 1 → (b.last_part.begin ≤ k) × (j ≡ k + 1)
next_in s is l b k j ps qs g lt le =
    let ends : l.at + 6 ≤ l.last = far is l b in
    let inside = comes_in s is b.last_part.begin (l.last + 1) b.last_part_entered k j ps qs g lt le in
    let low : b.last_part.begin ≤ k = inside.0 in
    let high : k ≤ l.last + 1 = inside.1 in
    ⊎_elim (λ (before : k < l.last + 1). (low, part_step s is l b k j ps qs low (omega arith) g))
    (λ (following : l.last + 1 ≤ k). let e : j ≡ l.at = jumped s is l b k j ps qs (omega arith) g in absurd (omega (arith, e, lt, b.begins, b.ends)))
    (cases_lt k (l.last + 1))

way_to : (s : Setting) (is : List Instr) (l : LoopInfo) (b : IsBorneOut is l) → (a c : ℕ) → b.last_part.begin ≤ a → c ≤ l.last + 1 → IsEntered s is a c
way_to s is l b a c low high k j ps qs g lt le =
    let n = next_in s is l b k j ps qs g (omega (arith, low, lt)) (omega (arith, high, le)) in
    let e : j ≡ k + 1 = n.1 in
    (omega arith, omega arith)

old_word : (s : Setting) (is : List Instr) (l : LoopInfo) (start : List ℕ) (t : IsTurn s is l start) (rs : List ℕ) → Comes s is l.at start (l.last - 2) rs → register rs t.borne.last_part.old ≡ register start l.counter
old_word s is l start t rs c = ⊎_elim (λ x. ap (λ r. register rs r) x.1 ∙ stays s is l b start l.counter b.keeps_counter (l.last - 2) rs c (omega (arith, ends)) (omega (arith, ends))) (λ x. copied x.0 x.1) lp.is_old
  where
    b : IsBorneOut is l
    b = t.borne

    lp : IsLastPart is l
    lp = b.last_part

    ends : l.at + 6 ≤ l.last
    ends = far is l b

    copied : lp.begin ≡ l.last - 4 → nth is (l.last - 4) ≡ Some (act.Compute lp.old (work.Copy l.counter)) → register rs lp.old ≡ register start l.counter
    copied at_four copies =
        holds_in s is l.at start (l.last - 4) (l.last - 2) (λ z. register z lp.old ≡ register start l.counter) (omega (arith, ends)) (way_to s is l b (l.last - 4) (l.last - 2) (omega (arith, at_four)) (omega (arith, ends))) first keep (l.last - 2) rs c (omega (arith, ends)) (omega arith)
      where
        following : l.at < l.last - 4
        following = omega (arith, at_four, b.begins, b.ends)

        first : (j : ℕ) (ps qs : List ℕ) → Comes s is l.at start (l.last - 4) ps → Goes s (nth is (l.last - 4)) (l.last - 4) ps j qs → l.last - 4 < j → j ≤ l.last - 2 → register qs lp.old ≡ register start l.counter
        first j ps qs d g lt le = copy_word s ps l.counter (register qs lp.old) (given s is l.at start t.fit (l.last - 4) j lp.old lp.old (work.Copy l.counter) ps qs copies (ap (λ a. assigns lp.old a) copies ∙ same_register lp.old) d g) ∙ stays s is l b start l.counter b.keeps_counter (l.last - 4) ps d following (omega arith)

        keep : (i j : ℕ) (ps qs : List ℕ) → l.last - 4 < i → i ≤ l.last - 2 → l.last - 4 < j → j ≤ l.last - 2 → Comes s is l.at start i ps → Goes s (nth is i) i ps j qs → register ps lp.old ≡ register start l.counter → register qs lp.old ≡ register start l.counter
        keep i j ps qs lt le lt2 le2 d g p =
            let n = next_in s is l b i j ps qs g (omega (arith, at_four, lt2)) (omega (arith, ends, le2)) in
            let e : j ≡ i + 1 = n.1 in
            let at : i ≡ l.last - 3 = omega (arith, lt, e, le2, ends) in
            let other : lp.by ≢ lp.old = λ w. lp.apart (sym w) in
            let not_it : assigns lp.old (nth is i) ≡ false = ap (λ n. assigns lp.old (nth is n)) at ∙ ap (λ a. assigns lp.old a) lp.puts ∙ ne_eqb lp.by lp.old other in
            kept s (nth is i) i j ps qs lp.old g not_it ∙ p

-- a property of what one instruction puts, at the next
at_next : (s : Setting) (is : List Instr) (l : LoopInfo) (start : List ℕ) (b : IsBorneOut is l) → (a : ℕ) (P : List ℕ → Type 0) → b.last_part.begin ≤ a → a ≤ l.last → ((j : ℕ) (ps qs : List ℕ) → Comes s is l.at start a ps → Goes s (nth is a) a ps j qs → P qs) → (rs : List ℕ) → Comes s is l.at start (a + 1) rs → P rs
at_next s is l start b a P low high brings rs c =
    let mark : l.at ≤ a = omega (arith, low, b.begins, b.ends) in
    holds_in s is l.at start a (a + 1) P mark (way_to s is l b a (a + 1) low (omega (arith, high))) (λ j ps qs d g lt le. brings j ps qs d g) keep (a + 1) rs c (omega arith) (omega arith)
  where
    keep : (i j : ℕ) (ps qs : List ℕ) → a < i → i ≤ a + 1 → a < j → j ≤ a + 1 → Comes s is l.at start i ps → Goes s (nth is i) i ps j qs → P ps → P qs
    keep i j ps qs lt le lt2 le2 d g p =
        let n = next_in s is l b i j ps qs g (omega (arith, low, lt2)) (omega (arith, high, le2)) in
        let e : j ≡ i + 1 = n.1 in
        absurd (omega (arith, e, lt, le2))

pub raised : (s : Setting) (is : List Instr) (l : LoopInfo) (start : List ℕ) → IsTurn s is l start → (rs : List ℕ) → Comes s is l.at start (l.last + 1) rs → number (register rs l.counter) ≡ number (register start l.counter) +ℤ l.step
raised s is l start t rs c = at_next s is l start b l.last (λ z. number (register z l.counter) ≡ number (register start l.counter) +ℤ l.step) (omega (arith, early, ends)) (omega arith) following rs c
  where
    b : IsBorneOut is l
    b = t.borne

    lp : IsLastPart is l
    lp = b.last_part

    f : AreFit is (length start)
    f = t.fit

    ends : l.at + 6 ≤ l.last
    ends = far is l b

    early : b.last_part.begin ≤ l.last - 3
    early = begins_early is l b

    to_two : (l.last - 3) + 1 ≡ l.last - 2
    to_two = omega (arith, ends)

    to_one : (l.last - 2) + 1 ≡ l.last - 1
    to_one = omega (arith, ends)

    to_last : (l.last - 1) + 1 ≡ l.last
    to_last = omega (arith, ends)

    step_word : (ps : List ℕ) → Comes s is l.at start (l.last - 2) ps → number (register ps lp.by) ≡ l.step
    step_word ps d = at_next s is l start b (l.last - 3) (λ z. number (register z lp.by) ≡ l.step) (omega (arith, ends, early)) (omega arith)
        (λ j os qs w g. let x = given s is l.at start f (l.last - 3) j lp.by lp.by (work.Constant l.step) os qs lp.puts (ap (λ a. assigns lp.by a) lp.puts ∙ same_register lp.by) w g in let e : register qs lp.by ≡ word l.step = cc (x.gives) in ap number e ∙ to_z-of_z (f.constants (l.last - 3) lp.by l.step lp.puts))
        ps (subst (λ (n : ℕ). Comes s is l.at start n ps) (sym to_two) d)

    new_word : (ps : List ℕ) → Comes s is l.at start (l.last - 1) ps → number (register ps lp.new) ≡ number (register start l.counter) +ℤ l.step
    new_word ps d = at_next s is l start b (l.last - 2) (λ z. number (register z lp.new) ≡ number (register start l.counter) +ℤ l.step) (omega (arith, ends, early)) (omega arith)
        (λ j os qs w g.
        let x = given s is l.at start f (l.last - 2) j lp.new lp.new (work.Binary op.Add lp.old lp.by) os qs lp.adds (ap (λ a. assigns lp.new a) lp.adds ∙ same_register lp.new) w g in
        fitting_ok (number (register os lp.old) +ℤ number (register os lp.by)) (register qs lp.new) (plain_sum s os lp.old lp.by (register qs lp.new) x.gives)
        ∙ ap (λ v. number v +ℤ number (register os lp.by)) (old_word s is l start t os w)
        ∙ ap (λ z. number (register start l.counter) +ℤ z) (step_word os w))
        ps (subst (λ (n : ℕ). Comes s is l.at start n ps) (sym to_one) d)

    counter_word : (ps : List ℕ) → Comes s is l.at start l.last ps → number (register ps l.counter) ≡ number (register start l.counter) +ℤ l.step
    counter_word ps d = at_next s is l start b (l.last - 1) (λ z. number (register z l.counter) ≡ number (register start l.counter) +ℤ l.step) (omega (arith, ends, early)) (omega arith)
        (λ j os qs w g. let x = given s is l.at start f (l.last - 1) j l.counter l.counter (work.Copy lp.new) os qs lp.raises (ap (λ a. assigns l.counter a) lp.raises ∙ same_register l.counter) w g in ap number (copy_word s os lp.new (register qs l.counter) x) ∙ new_word os w)
        ps (subst (λ (n : ℕ). Comes s is l.at start n ps) (sym to_last) d)

    following : (j : ℕ) (ps qs : List ℕ) → Comes s is l.at start l.last ps → Goes s (nth is l.last) l.last ps j qs → number (register qs l.counter) ≡ number (register start l.counter) +ℤ l.step
    following j ps qs d g =
        let apart : l.last ≢ l.last - 1 = λ e. omega (arith, ends) in
        ap number (kept s (nth is l.last) l.last j ps qs l.counter g (b.keeps_counter l.last (omega (arith, ends)) (omega arith) apart)) ∙ counter_word ps d
