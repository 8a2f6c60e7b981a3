-- After a counted loop's condition the counter is less than the bound.
use Rattle.std.proofs.Common.{◌≡◌, ◌≢◌, ℕ, ◌+◌, ◌-◌, ◌<◌, ◌≤◌, Bool, true, false, cond, List, length, Option, Some, None, Ok, refl, ap, subst, ◌∙◌, arith, ◌⊎◌, inl, inr, ⊎_elim, to_z-of_z}
use Rattle.std.specs.Prelude.{◌<ℤ◌, int_lt, ◌==◌}
use Rattle.std.specs.Option.{option_and_then}
use Rattle.std.proofs.lemmas.Bool.{cases_lt}
use Rattle.std.proofs.lemmas.Int.{ints}
use Rattle.flow_code.specs.declared.act.Act.{Act}
use Rattle.flow_code.specs.declared.act.Act.TheVariants as act
use Rattle.flow_code.specs.declared.act.Instr.{Instr}
use Rattle.flow_code.specs.declared.code.LoopInfo.{LoopInfo}
use Rattle.flow_code.specs.declared.region.Bound.{Bound}
use Rattle.flow_code.specs.declared.region.Bound.TheVariants as bound
use Rattle.flow_code.specs.declared.work.Work.{Work}
use Rattle.flow_code.specs.declared.work.Work.TheVariants as work
use Rattle.flow_code.specs.Next.{branch_to}
use Rattle.flow_code.specs.Stripes.{bound_of}
use Rattle.flow_code.specs.Works.{is_pointer, work_of}
use Rattle.word_semantics.specs.declared.operator.BinaryOp.TheVariants as op
use Rattle.word_semantics.specs.Operators.{either_binary_of}
use Rattle.word_semantics.specs.Registers.{register}
use Rattle.word_semantics.specs.Values.{number, word, truth}
use Rattle.facts.specs.Blocks.{assigns}
use Rattle.weak_lock_facts.specs.Loops.{nth, bound_size, condition_end}
use Rattle.weak_lock_facts.specs.Ranges.{pointer_of}
use Rattle.loop_bounds.specs.Forms.{HasBound, IsCondition}
use Rattle.loop_bounds.specs.Turns.{Setting, Goes, Comes, AreFit}
use Rattle.loop_bounds.proofs.Steps.{same_register}
use Rattle.loop_bounds.proofs.Regions.{IsEntered, comes_in, holds_in}
use Rattle.loop_bounds.proofs.Turning.{far, way_in, stays}
use Rattle.loop_bounds.proofs.Pointing.{IsTurn, given}

branched : (w m n : ℕ) → ((branch_to w m n ≡ m) ⊎ (branch_to w m n ≡ n))
branched w m n = go (w == 0)
  where
    go : (b : Bool) → ((cond b n m ≡ m) ⊎ (cond b n m ≡ n))
    go true = inr refl
    go false = inl refl

-- an instruction that computes goes to the next
computing : (s : Setting) (is : List Instr) (k m j into : ℕ) (w : Work) (ps qs : List ℕ) → k ≡ m → nth is m ≡ Some (act.Compute into w) → Goes s (nth is k) k ps j qs → j ≡ k + 1
computing s is k m j into w ps qs e h g =
    let there : nth is k ≡ Some (act.Compute into w) = ap (λ n. nth is n) e ∙ h in
    let x : Goes s (Some (act.Compute into w)) k ps j qs = subst (λ (z : Option Act). Goes s z k ps j qs) there g in
    x.0

small : (b : Bound) → bound_size b ≤ 1
small (bound.Number z) = omega arith
small (bound.Register r) = omega arith

module _ (s : Setting) (is : List Instr) (l : LoopInfo) (start : List ℕ) (t : IsTurn s is l start) where
  abbrev End : ℕ
  End = condition_end l

  -- where the counter is compared
  abbrev At : ℕ
  At = l.at + 1 + bound_size l.bound

  condition : IsCondition is l
  condition = t.borne.condition

  ends : End + 3 ≤ l.last - 1
  ends = let e = far is l t.borne in let m = small l.bound in omega (arith, e, m, t.borne.begins, t.borne.ends, early)
    where
      early : t.borne.last_part.begin ≤ l.last - 3
      early = ⊎_elim (λ x. omega (arith, x.0)) (λ x. omega (arith, x.0)) t.borne.last_part.is_old

  marks : (k j : ℕ) (ps qs : List ℕ) → k ≡ l.at → Goes s (nth is k) k ps j qs → j ≡ k + 1
  marks k j ps qs e g =
      let there : nth is k ≡ Some act.Mark = ap (λ n. nth is n) e ∙ t.borne.marks in
      let x : Goes s (Some act.Mark) k ps j qs = subst (λ (z : Option Act). Goes s z k ps j qs) there g in
      x.0

  -- the condition goes from one instruction to the next up to its branch
  front_step : (k j : ℕ) (ps qs : List ℕ) → l.at ≤ k → k < End → Goes s (nth is k) k ps j qs → j ≡ k + 1
  front_step k j ps qs low high g = ⊎_elim first (λ ge. marks k j ps qs (omega (arith, ge, low)) g) (cases_lt l.at k)
    where
      puts : (b : Bound) → l.bound ≡ b → HasBound b (nth is (l.at + 1)) condition.b → k < l.at + 1 + bound_size b → l.at < k → j ≡ k + 1
      puts (bound.Number z) e h lt above = computing s is k (l.at + 1) j condition.b (work.Constant z) ps qs (omega (arith, lt, above)) h g
      puts (bound.Register r) e h lt above = absurd (omega (arith, lt, above))

      first : l.at < k → j ≡ k + 1
      first above = ⊎_elim
          (λ (lt : k < At). puts l.bound refl condition.has_bound lt above)
          (λ ge. computing s is k At j condition.less (work.Binary op.Less l.counter condition.b) ps qs (omega (arith, ge, high)) condition.compares g)
          (cases_lt k At)

  branches : (k j : ℕ) (ps qs : List ℕ) → k ≡ End → Goes s (nth is k) k ps j qs → (j ≡ branch_to (register ps condition.less) l.first (l.last + 2)) × (qs ≡ ps)
  branches k j ps qs e g =
      let there : nth is k ≡ Some (act.Branch condition.less l.first (l.last + 2)) = ap (λ n. nth is n) e ∙ condition.branches in
      subst (λ (z : Option Act). Goes s z k ps j qs) there g

  past_end : (k j : ℕ) (ps qs : List ℕ) → k ≡ End → Goes s (nth is k) k ps j qs → End < j
  past_end k j ps qs e g =
      let b = branches k j ps qs e g in
      ⊎_elim (λ (q : branch_to (register ps condition.less) l.first (l.last + 2) ≡ l.first). omega (arith, b.0, q, t.borne.begins))
      (λ (q : branch_to (register ps condition.less) l.first (l.last + 2) ≡ l.last + 2). omega (arith, b.0, q, ends))
      (branched (register ps condition.less) l.first (l.last + 2))

  front_way : (a c : ℕ) → l.at ≤ a → c ≤ End → IsEntered s is a c
  front_way a c low high k j ps qs g lt le =
      let w = comes_in s is l.at End t.borne.condition_entered k j ps qs g (omega (arith, lt, low)) (omega (arith, le, high)) in
      ⊎_elim (λ (b : k < End). let e = front_step k j ps qs w.0 b g in (omega (arith, e, lt), omega (arith, e, le)))
      (λ ge. absurd (omega (arith, past_end k j ps qs (omega (arith, ge, w.1)) g, le, high)))
      (cases_lt k End)

  -- what the a-th of them brings about holds at the next
  at_next : (a : ℕ) (P : List ℕ → Type 0) → l.at ≤ a → a < End → ((j : ℕ) (ps qs : List ℕ) → Comes s is l.at start a ps → Goes s (nth is a) a ps j qs → P qs) → (rs : List ℕ) → Comes s is l.at start (a + 1) rs → P rs
  at_next a P low high brings rs c =
      holds_in s is l.at start a (a + 1) P low (front_way a (a + 1) low (omega (arith, high))) (λ j ps qs d g lt le. brings j ps qs d g) keep (a + 1) rs c (omega arith) (omega arith)
    where
      keep : (i j : ℕ) (ps qs : List ℕ) → a < i → i ≤ a + 1 → a < j → j ≤ a + 1 → Comes s is l.at start i ps → Goes s (nth is i) i ps j qs → P ps → P qs
      keep i j ps qs lt le lt2 le2 d g p = absurd (bad (cases_lt i End))
        where
          bad : (i < End) ⊎ (End ≤ i) → ⊥
          bad (inl b) = omega (arith, front_step i j ps qs (omega (arith, lt, low)) b g, lt, le2)
          bad (inr ge) = omega (arith, past_end i j ps qs (omega (arith, ge, le, high)) g, le2, high)

  -- ---- the numbers that are compared

  counter_word : (ps : List ℕ) → Comes s is l.at start At ps → register ps l.counter ≡ register start l.counter
  counter_word ps c = stays s is l t.borne start l.counter t.borne.keeps_counter At ps c (omega arith) (omega (arith, ends))

  bound_word : (b : Bound) → l.bound ≡ b → HasBound b (nth is (l.at + 1)) condition.b → (ps : List ℕ) → Comes s is l.at start (l.at + 1 + bound_size b) ps → number (register ps condition.b) ≡ bound_of start b
  bound_word (bound.Register r) e h ps c =
      let never : (k : ℕ) → l.at ≤ k → k ≤ l.last + 1 → k ≢ l.last - 1 → assigns r (nth is k) ≡ false = λ k low high apart. t.borne.keeps_bound r k e low high in
      ap (λ q. number (register ps q)) h ∙ ap number (stays s is l t.borne start r never (l.at + 1 + 0) ps c (omega arith) (omega (arith, ends)))
  bound_word (bound.Number z) e h ps c = at_next (l.at + 1) (λ qs. number (register qs condition.b) ≡ z) (omega arith) (omega (arith, ap bound_size e)) brings ps c
    where
      brings : (j : ℕ) (os qs : List ℕ) → Comes s is l.at start (l.at + 1) os → Goes s (nth is (l.at + 1)) (l.at + 1) os j qs → number (register qs condition.b) ≡ z
      brings j os qs d g =
          let f : AreFit is (length start) = t.fit in
          let x = given s is l.at start f (l.at + 1) j condition.b condition.b (work.Constant z) os qs h (ap (λ a. assigns condition.b a) h ∙ same_register condition.b) d g in
          let w : register qs condition.b ≡ word z = cc (x.gives) in
          ap number w ∙ to_z-of_z (f.constants (l.at + 1) condition.b z h)

  plain_less : is_pointer s.pointers l.counter ≡ false → (ps : List ℕ) (v : ℕ) → work_of s.slots s.sites s.pointers ps (work.Binary op.Less l.counter condition.b) ≡ Ok v → v ≡ truth (int_lt (number (register ps l.counter)) (number (register ps condition.b)))
  plain_less whole ps v h =
      let x : either_binary_of false s.sites op.Less (register ps l.counter) (register ps condition.b) ≡ Ok v = subst (λ b. either_binary_of b s.sites op.Less (register ps l.counter) (register ps condition.b) ≡ Ok v) whole h in
      cc (x)

  less_word : is_pointer s.pointers l.counter ≡ false → (ps : List ℕ) → Comes s is l.at start End ps → register ps condition.less ≡ truth (int_lt (number (register start l.counter)) (bound_of start l.bound))
  less_word whole ps c = at_next At (λ qs. register qs condition.less ≡ truth (int_lt (number (register start l.counter)) (bound_of start l.bound))) (omega arith) (omega arith) brings ps (subst (λ n. Comes s is l.at start n ps) next c)
    where
      next : End ≡ At + 1
      next = omega arith

      brings : (j : ℕ) (os qs : List ℕ) → Comes s is l.at start At os → Goes s (nth is At) At os j qs → register qs condition.less ≡ truth (int_lt (number (register start l.counter)) (bound_of start l.bound))
      brings j os qs d g =
          let x = given s is l.at start t.fit At j condition.less condition.less (work.Binary op.Less l.counter condition.b) os qs condition.compares (ap (λ a. assigns condition.less a) condition.compares ∙ same_register condition.less) d g in
          plain_less whole os (register qs condition.less) x.gives
          ∙ ap (λ n. truth (int_lt (number n) (number (register os condition.b)))) (counter_word os d)
          ∙ ap (λ z. truth (int_lt (number (register start l.counter)) z)) (bound_word l.bound refl condition.has_bound os d)

  -- ---- after the branch

  into_body : (w m n j : ℕ) (b : Bool) → w ≡ truth b → j ≡ branch_to w m n → j ≢ n → b ≡ true
  into_body w m n j true e h apart = refl
  into_body w m n j false e h apart = absurd (apart (h ∙ ap (λ z. branch_to z m n) e))

  body_way : IsEntered s is End (l.last - 1)
  body_way k j ps qs g lt le =
      let w = way_in s is l t.borne k j ps qs g (omega (arith, lt)) le in
      ⊎_elim (λ (b : k < End). absurd (omega (arith, front_step k j ps qs w.0 b g, lt, b))) (λ ge. (ge, w.1)) (cases_lt k End)

  pub before_bound : is_pointer s.pointers l.counter ≡ false → (k : ℕ) (rs : List ℕ) → End < k → k ≤ l.last - 1 → Comes s is l.at start k rs → number (register start l.counter) <ℤ bound_of start l.bound
  before_bound whole k rs lt le c =
      holds_in s is l.at start End (l.last - 1) (λ z. number (register start l.counter) <ℤ bound_of start l.bound) (omega arith) body_way first (λ i j ps qs lt2 le2 lt3 le3 d g p. p) k rs c lt le
    where
      first : (j : ℕ) (ps qs : List ℕ) → Comes s is l.at start End ps → Goes s (nth is End) End ps j qs → End < j → j ≤ l.last - 1 → number (register start l.counter) <ℤ bound_of start l.bound
      first j ps qs d g lt2 le2 =
          let b = branches End j ps qs refl g in
          let v = into_body (register ps condition.less) l.first (l.last + 2) j (int_lt (number (register start l.counter)) (bound_of start l.bound)) (less_word whole ps d) b.0 (λ e. omega (arith, e, le2)) in
          grind (arith, ints, v)

  -- ---- an access

  stands_at : (k m p : ℕ) (a : Act) → k ≡ m → nth is m ≡ Some a → pointer_of a ≡ None → option_and_then pointer_of (nth is k) ≡ Some p → ⊥
  stands_at k m p a e h none acc =
      let w : option_and_then pointer_of (nth is k) ≡ None = ap (λ n. option_and_then pointer_of (nth is n)) e ∙ ap (λ z. option_and_then pointer_of z) h ∙ none in
      cc

  -- one in the loop stands after the condition
  pub access_past : (k p : ℕ) → option_and_then pointer_of (nth is k) ≡ Some p → l.at < k → End < k
  access_past k p acc low = ⊎_elim (λ (lt : End < k). lt) (λ le. absurd (in_condition le)) (cases_lt End k)
    where
      puts : (b : Bound) → l.bound ≡ b → HasBound b (nth is (l.at + 1)) condition.b → k < l.at + 1 + bound_size b → ⊥
      puts (bound.Number z) e h lt = stands_at k (l.at + 1) p (act.Compute condition.b (work.Constant z)) (omega (arith, lt, low)) h refl acc
      puts (bound.Register r) e h lt = omega (arith, lt, low)

      in_condition : k ≤ End → ⊥
      in_condition le = ⊎_elim
          (λ (lt : k < At). puts l.bound refl condition.has_bound lt)
          (λ ge. ⊎_elim
          (λ (lt : k < End). stands_at k At p (act.Compute condition.less (work.Binary op.Less l.counter condition.b)) (omega (arith, ge, lt)) condition.compares refl acc)
          (λ ge2. stands_at k End p (act.Branch condition.less l.first (l.last + 2)) (omega (arith, ge2, le)) condition.branches refl acc)
          (cases_lt k End))
          (cases_lt k At)

  -- and isn't its last instruction
  pub access_before : (k p : ℕ) → option_and_then pointer_of (nth is k) ≡ Some p → k ≤ l.last → k ≤ l.last - 1
  access_before k p acc le = ⊎_elim (λ (lt : k < l.last). omega (arith, lt)) (λ ge. let v = t.borne.value in absurd (stands_at k l.last p (act.Compute v.0 (work.Copy v.1)) (omega (arith, ge, le)) v.2 refl acc)) (cases_lt k l.last)
