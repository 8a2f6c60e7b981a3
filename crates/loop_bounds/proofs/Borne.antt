-- What the tests of a counted loop find.
use Rattle.std.proofs.Common.{◌≡◌, ◌≢◌, ℕ, ◌+◌, ◌-◌, ◌≤◌, Bool, true, false, cond, ◌&&◌, not, ℤ, List, Option, Some, None, refl, sym, ap, subst, ◌∙◌, arith, ◌⊎◌, inl, inr, ⊎_elim, eqb-true, leb-true, eq-eqb}
use Rattle.std.specs.Prelude.{slice_range, nat_le, ◌==◌, if◌then◌else◌}
use Rattle.std.specs.Option.{option_and_then}
use Rattle.std.specs.Ordering.{int_eq}
use Rattle.std.proofs.lemmas.Bool.{cases_lt}
use Rattle.std.proofs.lemmas.Bool.Decides.{Decides-int_eq}
use Rattle.flow_code.specs.declared.act.Act.{Act}
use Rattle.flow_code.specs.declared.act.Act.TheVariants as act
use Rattle.flow_code.specs.declared.act.Instr.{Instr}
use Rattle.flow_code.specs.declared.code.Function.{Function}
use Rattle.flow_code.specs.declared.code.LoopInfo.{LoopInfo}
use Rattle.flow_code.specs.declared.region.Bound.{Bound}
use Rattle.flow_code.specs.declared.region.Bound.TheVariants as bound
use Rattle.flow_code.specs.declared.work.Work.TheVariants as work
use Rattle.word_semantics.specs.declared.operator.BinaryOp.TheVariants as op
use Rattle.flow_code.specs.Order.{is_mark}
use Rattle.facts.specs.Blocks.{assigns}
use Rattle.facts.specs.Paths.{is_never_assigned}
use Rattle.weak_lock_facts.specs.Loops.{nth, copy_into, number_into, bound_into, bound_size, are_apart, less_into, sum_into, is_branch, is_copy, is_any_copy, is_jump, are_numbers, adds_itself, last_part_at, condition_end, added as added_at, has_places, tested, begins_so, raised, ends_so, has_form, keeps, keeps_counter, keeps_bound, keeps_numbers, is_entered_at, is_entered_so, is_counted}
use Rattle.loop_bounds.specs.Forms.{HasBound, IsEnteredAt, IsCondition, IsLastPart, IsBorneOut}
use Rattle.loop_bounds.proofs.Steps.{both_true, not_true, never_there, is_entered}

pub cond_some : {X : Type 0} (b : Bool) (o : Option X) (x : X) → cond b o None ≡ Some x → (b ≡ true) × (o ≡ Some x)
cond_some true o x h = (refl, h)
cond_some false o x h = cc

pub chained : {X Y : Type 0} (f : X → Option Y) (o : Option X) (y : Y) → option_and_then f o ≡ Some y → (x : X) × (o ≡ Some x) × (f x ≡ Some y)
chained f None y h = cc
chained f (Some x) y h = (x, refl, h)

-- ---- single instructions

marked : (a : Option Act) → is_mark a ≡ true → a ≡ Some act.Mark
marked (Some act.Mark) h = refl
marked _ h = cc

pub copied : (r : ℕ) (a : Option Act) (into : ℕ) → copy_into r a ≡ Some into → a ≡ Some (act.Compute into (work.Copy r))
copied r (Some (act.Compute i (work.Copy q))) into h =
    let c = cond_some (q == r) (Some i) into h in
    let e : q ≡ r = eqb-true q r c.0 in
    let f : i ≡ into = cc (c.1) in
    cc (e, f)
copied r _ into h = cc

same_number : (y z : ℤ) → int_eq y z ≡ true → y ≡ z
same_number y z h = (Decides-int_eq y z).0 h

numbered : (z : ℤ) (a : Option Act) (into : ℕ) → number_into z a ≡ Some into → a ≡ Some (act.Compute into (work.Constant z))
numbered z (Some (act.Compute i (work.Constant y))) into h =
    let c = cond_some (int_eq y z) (Some i) into h in
    let e : y ≡ z = same_number y z c.0 in
    let f : i ≡ into = cc (c.1) in
    cc (e, f)
numbered z _ into h = cc

bounded : (b : Bound) (a : Option Act) (into : ℕ) → bound_into b a ≡ Some into → HasBound b a into
bounded (bound.Number z) a into h = numbered z a into h
bounded (bound.Register r) a into h = cc

apart_of : (x y left right : ℕ) → are_apart x y left right ≡ true → (left ≡ x) × (right ≡ y) × (x ≢ y)
apart_of x y left right h =
    let c = both_true ((left == x) && (right == y)) (not (x == y)) h in
    let d = both_true (left == x) (right == y) c.0 in (
      eqb-true left x d.0,
      eqb-true right y d.1,
      λ e. let t : x == y ≡ true = eq-eqb x y e in let f : x == y ≡ false = not_true (x == y) c.1 in cc,
    )

compared : (x y : ℕ) (a : Option Act) (into : ℕ) → less_into x y a ≡ Some into → (a ≡ Some (act.Compute into (work.Binary op.Less x y))) × (x ≢ y)
compared x y (Some (act.Compute i (work.Binary op.Less left right))) into h =
    let c = cond_some (are_apart x y left right) (Some i) into h in
    let p = apart_of x y left right c.0 in
    let f : i ≡ into = cc (c.1) in
    let l : left ≡ x = p.0 in
    let r : right ≡ y = p.1 in
    (cc (f, l, r), p.2)
compared x y _ into h = cc

added : (x y : ℕ) (a : Option Act) (into : ℕ) → sum_into x y a ≡ Some into → (a ≡ Some (act.Compute into (work.Binary op.Add x y))) × (x ≢ y)
added x y (Some (act.Compute i (work.Binary op.Add left right))) into h =
    let c = cond_some (are_apart x y left right) (Some i) into h in
    let p = apart_of x y left right c.0 in
    let f : i ≡ into = cc (c.1) in
    let l : left ≡ x = p.0 in
    let r : right ≡ y = p.1 in
    (cc (f, l, r), p.2)
added x y _ into h = cc

branches_on : (o : Option ℕ) (m n : ℕ) (a : Option Act) → is_branch o m n a ≡ true → (r : ℕ) × (o ≡ Some r) × (a ≡ Some (act.Branch r m n))
branches_on (Some r) m n (Some (act.Branch on then_at else_at)) h =
    let c = both_true ((on == r) && (then_at == m)) (else_at == n) h in
    let d = both_true (on == r) (then_at == m) c.0 in
    let e : on ≡ r = eqb-true on r d.0 in
    let f : then_at ≡ m = eqb-true then_at m d.1 in
    let g : else_at ≡ n = eqb-true else_at n c.1 in
    (r, refl, cc (e, f, g))
branches_on _ m n _ h = cc

copies_from : (o : Option ℕ) (r : ℕ) (a : Option Act) → is_copy o r a ≡ true → (q : ℕ) × (o ≡ Some q) × (a ≡ Some (act.Compute r (work.Copy q)))
copies_from (Some q) r (Some (act.Compute into (work.Copy from))) h =
    let c = both_true (from == q) (into == r) h in
    let e : from ≡ q = eqb-true from q c.0 in
    let f : into ≡ r = eqb-true into r c.1 in
    (q, refl, cc (e, f))
copies_from _ r _ h = cc

copies_some : (a : Option Act) → is_any_copy a ≡ true → (into : ℕ) × (from : ℕ) × (a ≡ Some (act.Compute into (work.Copy from)))
copies_some (Some (act.Compute into (work.Copy from))) h = (into, from, refl)
copies_some _ h = cc

jumps_to : (k : ℕ) (a : Option Act) → is_jump k a ≡ true → a ≡ Some (act.Jump k)
jumps_to k (Some (act.Jump to)) h = let e : to ≡ k = eqb-true to k h in cc (e)
jumps_to k _ h = cc

-- ---- the loop

condition_of : (is : List Instr) (l : LoopInfo) → is_branch (tested is l) l.first (l.last + 2) (nth is (condition_end l)) ≡ true → IsCondition is l
condition_of is l h =
    let compare = nth is (l.at + 1 + bound_size l.bound) in
    let w = branches_on (tested is l) l.first (l.last + 2) (nth is (condition_end l)) h in
    let y = chained (λ b. less_into l.counter b compare) (bound_into l.bound (nth is (l.at + 1))) w.0 w.1 in
    let z = compared l.counter y.0 compare w.0 y.2 in
    record {
      b = y.0;
      less = w.0;
      has_bound = bounded l.bound (nth is (l.at + 1)) y.0 y.1;
      compares = z.0;
      apart = z.1;
      branches = w.2;
    }

-- the last part begins with its number or with a copy before it
begun : (is : List Instr) (l : LoopInfo) (old : ℕ) (b : Bool) → (if b then Some l.counter else copy_into l.counter (nth is (l.last - 4))) ≡ Some old
    → (((if b then l.last - 3 else l.last - 4) ≡ l.last - 3) × (old ≡ l.counter)) ⊎ (((if b then l.last - 3 else l.last - 4) ≡ l.last - 4) × (nth is (l.last - 4) ≡ Some (act.Compute old (work.Copy l.counter))))
begun is l old true h = inl (refl, cc)
begun is l old false h = inr (refl, copied l.counter (nth is (l.last - 4)) old h)

last_part_of : (is : List Instr) (l : LoopInfo) → is_copy (raised is l) l.counter (nth is (l.last - 1)) ≡ true → (lp : IsLastPart is l) × (lp.begin ≡ last_part_at is l)
last_part_of is l h =
    let w = copies_from (raised is l) l.counter (nth is (l.last - 1)) h in
    let x = chained (λ i. option_and_then (λ c. sum_into i c (nth is (l.last - 2))) (number_into l.step (nth is (l.last - 3)))) (added_at is l) w.0 w.1 in
    let y = chained (λ c. sum_into x.0 c (nth is (l.last - 2))) (number_into l.step (nth is (l.last - 3))) w.0 x.2 in
    let z = added x.0 y.0 (nth is (l.last - 2)) w.0 y.2 in (
      record {
        begin = last_part_at is l;
        old = x.0;
        by = y.0;
        new = w.0;
        is_old = begun is l x.0 (adds_itself is l) x.1;
        puts = numbered l.step (nth is (l.last - 3)) y.0 y.1;
        adds = z.0;
        apart = z.1;
        raises = w.2;
      },
      refl,
    )

begins_before : (is : List Instr) (l : LoopInfo) → last_part_at is l ≤ l.last - 3
begins_before is l = by (adds_itself is l)
  where
    by : (b : Bool) → (if b then l.last - 3 else l.last - 4) ≤ l.last - 3
    by true = omega arith
    by false = omega arith

-- nothing from its Mark to its jump back assigns a register that it keeps
pub kept_there : (is : List Instr) (l : LoopInfo) (r k : ℕ) → keeps is l r ≡ true → l.at ≤ k → k ≤ l.last + 1 → assigns r (nth is k) ≡ false
kept_there is l r k h le lt = never_there is l.at (l.last + 2) r k h le (omega arith)

bound_kept : (is : List Instr) (l : LoopInfo) (b : Bound) (r k : ℕ) → keeps_bound is l b ≡ true → b ≡ bound.Register r → l.at ≤ k → k ≤ l.last + 1 → assigns r (nth is k) ≡ false
bound_kept is l (bound.Number z) r k h e le lt = cc
bound_kept is l (bound.Register q) r k h e le lt = let s : q ≡ r = cc in ap (λ n. assigns n (nth is k)) (sym s) ∙ kept_there is l q k h le lt

counter_kept : (is : List Instr) (l : LoopInfo) → 4 ≤ l.last → keeps_counter is l ≡ true → (k : ℕ) → l.at ≤ k → k ≤ l.last + 1 → k ≢ l.last - 1 → assigns l.counter (nth is k) ≡ false
counter_kept is l far h k le lt apart =
    let c = both_true (is_never_assigned (slice_range is l.at (l.last - 1)) l.counter) (is_never_assigned (slice_range is l.last (l.last + 2)) l.counter) h in
    ⊎_elim (λ before. never_there is l.at (l.last - 1) l.counter k c.0 le before)
    (λ following. let o : l.last ≤ k = omega arith in never_there is l.last (l.last + 2) l.counter k c.1 o (omega arith))
    (cases_lt k (l.last - 1))

pub borne_out : (fn : Function) (l : LoopInfo) → is_counted fn l ≡ true → IsBorneOut fn.instrs l
borne_out fn l h =
    let is = fn.instrs in
    let c = both_true (are_numbers fn l && has_form is l && keeps_numbers is l) (is_entered_so is l) h in
    let d = both_true (are_numbers fn l && has_form is l) (keeps_numbers is l) c.0 in
    let form = both_true (has_places is l && begins_so is l) (ends_so is l) (both_true (are_numbers fn l) (has_form is l) d.0).1 in
    let front = both_true (has_places is l) (begins_so is l) form.0 in
    let places = both_true (l.first == condition_end l + 1) (nat_le l.first (last_part_at is l)) front.0 in
    let head = both_true (is_mark (nth is l.at)) (is_branch (tested is l) l.first (l.last + 2) (nth is (condition_end l))) front.1 in
    let tail = both_true (is_copy (raised is l) l.counter (nth is (l.last - 1)) && is_any_copy (nth is l.last)) (is_jump l.at (nth is (l.last + 1))) form.1 in
    let lasts = both_true (is_copy (raised is l) l.counter (nth is (l.last - 1))) (is_any_copy (nth is l.last)) tail.0 in
    let numbers = both_true (keeps_counter is l) (keeps_bound is l l.bound) d.1 in
    let ways = both_true (is_entered_at is l.at (l.last + 1) && is_entered_at is l.at (condition_end l)) (is_entered_at is (last_part_at is l) (l.last + 1)) c.1 in
    let two = both_true (is_entered_at is l.at (l.last + 1)) (is_entered_at is l.at (condition_end l)) ways.0 in
    let begins' : l.first ≡ condition_end l + 1 = eqb-true l.first (condition_end l + 1) places.0 in
    let ends' : l.first ≤ last_part_at is l = leb-true l.first (last_part_at is l) places.1 in
    let before = begins_before is l in
    let part = last_part_of is l lasts.0 in
    record {
      begins = begins';
      marks = marked (nth is l.at) head.0;
      condition = condition_of is l head.1;
      last_part = part.0;
      ends = omega (arith, ends', part.1);
      value = copies_some (nth is l.last) lasts.1;
      jumps_back = jumps_to l.at (nth is (l.last + 1)) tail.1;
      keeps_counter = counter_kept is l (omega (arith, begins', ends', before)) numbers.0;
      keeps_bound = λ r k e le lt. bound_kept is l l.bound r k numbers.1 e le lt;
      entered = is_entered is l.at (l.last + 1) two.0;
      condition_entered = is_entered is l.at (condition_end l) two.1;
      last_part_entered = subst (λ n. IsEnteredAt is n (l.last + 1)) (sym part.1) (is_entered is (last_part_at is l) (l.last + 1) ways.1);
    }
