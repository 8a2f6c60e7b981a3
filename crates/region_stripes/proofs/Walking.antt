-- A frame of weakened code, while a loop's region is open, goes through the loop as one of the plain code does.
use Rattle.std.proofs.Common.{◌≡◌, ℕ, zero, suc, ◌+◌, ◌<◌, ◌≤◌, ◌&&◌, Bool, true, false, not, List, [], ◌∷◌, length, map, refl, sym, ap, ◌∙◌, subst, arith, Option, Some, None, ⊎_elim, reverse}
use Rattle.std.specs.Prelude.{slice_get, if◌then◌else◌, nat_le, ◌==◌}
use Rattle.std.proofs.lemmas.Bool.Decides.{nat_tests}
use Rattle.std.proofs.lemmas.Option.{same_Some, slice_get_within}
use Rattle.flow_code.specs.declared.act.Act.{Act}
use Rattle.flow_code.specs.declared.act.Act.TheVariants as act
use Rattle.flow_code.specs.declared.act.Instr.{Instr}
use Rattle.flow_code.specs.declared.code.LoopInfo.{LoopInfo}
use Rattle.flow_code.specs.Next.{act_in}
use Rattle.flow_code.specs.Order.{order_fits}
use Rattle.word_semantics.specs.Registers.{register}
use Rattle.loop_bounds.specs.Turns.{Setting, Goes}
use Rattle.weak_code.specs.declared.stretch.Stretch.{Stretch}
use Rattle.weak_code.specs.Places.{begins_at, covers, beginning, ending, gives, takes, left, turned, before, numbers_from, enter}
use Rattle.weak_code.specs.Stripped.{is_weak, plain_of}
use Rattle.weak_code.specs.Weakened.{retarget, weakened_instrs}
use Rattle.weak_code.proofs.Stripping.{IsPlain, ArePlain, plain_place, plain_seat, plain_enter, not_weak, weak_before}
use Rattle.weak_valid.proofs.Tests.{both, got_map}
use Rattle.weak_valid.proofs.OrderFits.{plain_at, weak_at}
use Rattle.guard_paths.specs.Guards.{IsSeat}
use Rattle.guard_paths.specs.Walked.{Opening, opened_with, Walked}
use Rattle.guard_paths.specs.Walked as walked
use Rattle.guard_paths.proofs.Guarded.{In}
use Rattle.guard_paths.proofs.Nested.{IsIn}
use Rattle.guard_paths.proofs.Opened.{of_append}
use Rattle.guard_paths.proofs.Passing.{AreNested, Here, at_weak, at_plain, standing, along}
use Rattle.guard_paths.proofs.Covered.{not_open}
use Rattle.guard_paths.proofs.Walks.{numbers, way, weak_goes, in_numbers, of_closed, plain_opened, plain_next}
use Rattle.guard_paths.proofs.Standing.{times, has_test, returns, stays}
use Rattle.region_stripes.specs.Inside.{Inside, enters, goes}

-- ---- steps and lists

abbrev entry : ℕ → List ℕ → Opening
entry r rs = (r, rs)

-- the instruction that a step is of
stepped_at : (s : Setting) (is : List Instr) (w v : ℕ) (rs qs : List ℕ) → Goes s (act_in (slice_get is w)) w rs v qs → (i : Instr) × (slice_get is w ≡ Some i) × Goes s (Some i.act) w rs v qs
stepped_at s is w v rs qs g = at_it (slice_get is w) refl g
  where
    at_it : (o : Option Instr) → slice_get is w ≡ o → Goes s (act_in o) w rs v qs → (i : Instr) × (slice_get is w ≡ Some i) × Goes s (Some i.act) w rs v qs
    at_it None e g = absurd g
    at_it (Some i) e g = (i, e, g)

-- the numbers of the items that pass a test
passes : (m n : ℕ) (test : Stretch → Bool) (ss : List Stretch) → In m (numbers_from n test ss) → (d : ℕ) × (m ≡ n + d) × (has_test test (slice_get ss d) ≡ true)
passes m n test [] (k, h) = cc
passes m n test (x ∷ xs) h = go (test x) refl h (λ i. passes m (n + 1) test xs i)
  where
    later : (d : ℕ) × (m ≡ (n + 1) + d) × (has_test test (slice_get xs d) ≡ true) → (d : ℕ) × (m ≡ n + d) × (has_test test (slice_get (x ∷ xs) d) ≡ true)
    later r = (suc r.0, omega (arith, r.1), r.2)

    go : (b : Bool) → test x ≡ b → In m (if b then n ∷ numbers_from (n + 1) test xs else numbers_from (n + 1) test xs) → (In m (numbers_from (n + 1) test xs) → (d : ℕ) × (m ≡ (n + 1) + d) × (has_test test (slice_get xs d) ≡ true)) → (d : ℕ) × (m ≡ n + d) × (has_test test (slice_get (x ∷ xs) d) ≡ true)
    go true e (zero, h) rec = (0, omega (arith, same_Some n m h), e)
    go true e (suc k, h) rec = later (rec (k, h))
    go false e h rec = later (rec h)

-- a Take that stands before an instruction is of a region that begins with it
no_give : (q : ℕ) (xs : List ℕ) → In (act.Take q) (map (λ r. act.Give r) xs) → ⊥
no_give q xs (k, h) = let m = got_map (λ r. act.Give r) xs k (act.Take q) h in differ m.2
  where
    differ : {r : ℕ} → act.Take q ≡ act.Give r → ⊥
    differ e = cc

taken_from : (q : ℕ) (xs : List ℕ) → In (act.Take q) (map (λ r. act.Take r) xs) → In q xs
taken_from q xs (k, h) = let m = got_map (λ r. act.Take r) xs k (act.Take q) h in (k, m.1 ∙ ap Some (same m.0 m.2))
  where
    same : (r : ℕ) → act.Take q ≡ act.Take r → r ≡ q
    same r e = cc

take_begins : (ss : List Stretch) (k : ℕ) (a : Act) (q : ℕ) → In (act.Take q) (before ss k a) → has_test (begins_at k) (slice_get ss q) ≡ true
take_begins ss k a q h = ⊎_elim front (λ i. absurd (no_give q (reverse (left ss k a)) i)) (of_append (turned ss k) (gives (left ss k a)) (act.Take q) h)
  where
    begun : In q (beginning ss k) → has_test (begins_at k) (slice_get ss q) ≡ true
    begun i = let p = passes q 0 (begins_at k) ss i in let e : p.0 ≡ q = omega (arith, p.1) in subst (λ n. has_test (begins_at k) (slice_get ss n) ≡ true) e p.2

    front : In (act.Take q) (turned ss k) → has_test (begins_at k) (slice_get ss q) ≡ true
    front i = ⊎_elim (λ j. absurd (no_give q (reverse (ending ss k)) j)) (λ j. begun (taken_from q (beginning ss k) j)) (of_append (gives (ending ss k)) (takes (beginning ss k)) (act.Take q) i)

-- ---- steps

-- a step of an instruction with other targets is one of the instruction, if the places are mapped back
plain_goes : (s : Setting) (n : ℕ) (to back : ℕ → ℕ) (a : Act) (w v k : ℕ) (rs qs : List ℕ) → IsPlain n a → ((j : ℕ) → j < n → back (to j) ≡ j) → back (w + 1) ≡ k + 1 → Goes s (Some (retarget to a)) w rs v qs → Goes s (Some a) k rs (back v) qs
plain_goes s n to back (act.Compute into x) w v k rs qs p e h g = (ap back g.0 ∙ h, g.1)
plain_goes s n to back (act.Alloc into site size) w v k rs qs p e h g = (ap back g.0 ∙ h, g.1)
plain_goes s n to back (act.LoadCell into through) w v k rs qs p e h g = (ap back g.0 ∙ h, g.1)
plain_goes s n to back (act.StoreCell through from) w v k rs qs p e h g = (ap back g.0 ∙ h, g.1)
plain_goes s n to back act.Mark w v k rs qs p e h g = (ap back g.0 ∙ h, g.1)
plain_goes s n to back (act.Call f arguments into) w v k rs qs p e h g = (ap back g.0 ∙ h, g.1)
plain_goes s n to back (act.Library c arguments into) w v k rs qs p e h g = (ap back g.0 ∙ h, g.1)
plain_goes s n to back (act.Jump j) w v k rs qs p e h g = (ap back g.0 ∙ e j p, g.1)
plain_goes s n to back (act.Branch on then_at else_at) w v k rs qs p e h g = (ap back g.0 ∙ either (register rs on == 0), g.1)
  where
    either : (b : Bool) → back (if b then to else_at else to then_at) ≡ (if b then else_at else then_at)
    either true = e else_at p.1
    either false = e then_at p.0
plain_goes s n to back (act.Return value) w v k rs qs p e h g = absurd g
plain_goes s n to back (act.Take r) w v k rs qs p e h g = absurd p
plain_goes s n to back (act.Give r) w v k rs qs p e h g = absurd p

differ : (b : Bool) → b ≡ true → b ≡ false → ⊥
differ true p q = cc
differ false p q = cc

-- ---- a loop's region

module _ (s : Setting) (ss : List Stretch) (is : List Instr) (plain : ArePlain (length is) is) (order : order_fits is ≡ true) (nested : AreNested is ss) (r : ℕ) (st : Stretch) (one : slice_get ss r ≡ Some st) (l : LoopInfo) (first : st.first ≡ l.at) (last : st.last ≡ l.last + 1) where
  abbrev Weak : List Instr
  Weak = weakened_instrs ss is

  abbrev Plain : ℕ → ℕ
  Plain w = plain_of Weak w

  -- while the region is open and the frame stands in the loop, it is inside since the Take
  abbrev Since : ℕ → List ℕ → List Opening → Type 0
  Since w rs opened = (start : List ℕ) → In (r, start) opened → IsIn st (Plain w) → Inside s is l start (Plain w) rs

  covered_at : (k : ℕ) (a : Act) (opened : List Opening) (start : List ℕ) → In (r, start) opened → times r (numbers opened) ≡ (if stays (slice_get ss r) k a then 1 else 0) → IsIn st k
  covered_at k a opened start i h = go (stays (slice_get ss r) k a) refl h
    where
      inside : (covers k st && not (returns a)) ≡ true → IsIn st k
      inside e = let c = both (nat_le st.first k) (nat_le k st.last) (both (covers k st) (not (returns a)) e).0 in let x : st.first ≤ k = grind (arith, nat_tests, c.0) in let y : k ≤ st.last = grind (arith, nat_tests, c.1) in (x, y)

      go : (b : Bool) → stays (slice_get ss r) k a ≡ b → times r (numbers opened) ≡ (if b then 1 else 0) → IsIn st k
      go true e h = inside (ap (λ o. stays o k a) (sym one) ∙ e)
      go false e h = absurd (not_open r (numbers opened) h (in_numbers (r, start) opened i))

  -- past a weak instruction
  weak_step : (k : ℕ) (x : Instr) (b : Act) (w v : ℕ) (rs qs : List ℕ) (opened : List Opening) → In b (before ss k x.act) → is_weak b ≡ true → Plain w ≡ k → Plain v ≡ k → qs ≡ rs → Since w rs opened → Since v qs (opened_with (Some b) rs opened)
  weak_step k x b w v rs qs opened i weak pw pv same h start c at = by_act b i weak c
    where
      stay : In (r, start) opened → Inside s is l start (Plain v) qs
      stay j =
          let e : Plain w ≡ Plain v = pw ∙ sym pv in
          subst (λ zs. Inside s is l start (Plain v) zs) (sym same) (subst (λ n. Inside s is l start n rs) e (h start j (subst (IsIn st) (sym e) at)))

      taken : (q : ℕ) → has_test (begins_at k) (slice_get ss q) ≡ true → entry q rs ≡ entry r start → Inside s is l start (Plain v) qs
      taken q t e =
          let a : q ≡ r = ap (λ (o : Opening). o.0) e in
          let z : rs ≡ start = ap (λ (o : Opening). o.1) e in
          let u : begins_at k st ≡ true = ap (has_test (begins_at k)) (sym one) ∙ ap (λ n. has_test (begins_at k) (slice_get ss n)) (sym a) ∙ t in
          let f : l.at ≡ Plain v = (let y : st.first ≡ k = grind (arith, nat_tests, u) in sym first ∙ y ∙ sym pv) in
          subst (λ n. Inside s is l start n qs) f (subst (λ zs. Inside s is l start l.at zs) (sym (same ∙ z)) enters)

      by_act : (b : Act) → In b (before ss k x.act) → is_weak b ≡ true → In (r, start) (opened_with (Some b) rs opened) → Inside s is l start (Plain v) qs
      by_act (act.Give q) i u c = stay (of_closed (r, start) q opened c)
      by_act (act.Take q) i u (zero, e) = taken q (take_begins ss k x.act q i) (same_Some (entry q rs) (entry r start) e)
      by_act (act.Take q) i u (suc n, e) = stay (n, e)
      by_act _ i u c = cc

  -- past an instruction of its own
  own_step : (k : ℕ) (x : Instr) (w v : ℕ) (rs qs : List ℕ) (opened : List Opening) → slice_get is k ≡ Some x → Plain w ≡ k → times r (numbers opened) ≡ (if stays (slice_get ss r) k x.act then 1 else 0) → Goes s (Some x.act) k rs (Plain v) qs → Since w rs opened → Since v qs opened
  own_step k x w v rs qs opened at pw open_so g h start c within =
      let now = covered_at k x.act opened start c open_so in
      let was = subst (λ n. Inside s is l start n rs) pw (h start c (subst (IsIn st) (sym pw) now)) in
      goes was (subst (λ (o : Option Instr). Goes s (act_in o) k rs (Plain v) qs) (sym at) g) (omega (arith, within.0, first)) (omega (arith, within.1, last))

  step : (w v : ℕ) (rs qs : List ℕ) (opened : List Opening) (i : Instr) → slice_get Weak w ≡ Some i → Here ss is plain order nested w (numbers opened) i → Goes s (Some i.act) w rs v qs → Since w rs opened → Since v qs (opened_with (Some i.act) rs opened)
  step w v rs qs opened i found (at_weak k x j b at q p e stands) g h =
      let weak = weak_at (before ss k x.act) j b (weak_before ss k x.act) q in
      let is_b : i.act ≡ b = ap (λ (y : Instr). y.act) e in
      let z : k ≡ 0 + k = omega arith in
      let lt : j ≤ length (before ss (0 + k) x.act) = subst (λ m. j ≤ length (before ss m x.act)) z (let y = slice_get_within (before ss k x.act) j b q in omega (arith, y)) in
      let pw : Plain w ≡ k = ap (plain_of Weak) p ∙ plain_place ss is (length is) 0 k j is x plain at lt in
      let go = weak_goes s b w v rs qs weak (subst (λ a. Goes s (Some a) w rs v qs) is_b g) in
      let pv : Plain v ≡ k = ap (plain_of Weak) go.0 ∙ plain_next Weak w i found ∙ ap (λ c. if c then plain_of Weak w else suc (plain_of Weak w)) (ap is_weak is_b ∙ weak) ∙ pw in
      subst (λ a. Since v qs (opened_with (Some a) rs opened)) (sym is_b) (weak_step k x b w v rs qs opened (j, q) weak pw pv go.1 h)
  step w v rs qs opened i found (at_plain k x at p e stands) g h =
      let is_a : i.act ≡ retarget (enter ss is k) x.act = ap (λ (y : Instr). y.act) e in
      let own = plain_at (length is) is k x plain at in
      let pw : Plain w ≡ k = ap (plain_of Weak) p ∙ plain_seat ss (length is) k is plain (slice_get_within is k x at) in
      let n : k + 1 ≡ suc k = omega arith in
      let following : Plain (w + 1) ≡ k + 1 = plain_next Weak w i found ∙ ap (λ c. if c then plain_of Weak w else suc (plain_of Weak w)) (ap is_weak is_a ∙ not_weak (enter ss is k) (length is) x.act own) ∙ ap suc pw ∙ sym n in
      let go = plain_goes s (length is) (enter ss is k) (plain_of Weak) x.act w v k rs qs own (λ j lt. plain_enter ss (length is) k j is plain lt) following (subst (λ a. Goes s (Some a) w rs v qs) is_a g) in
      let same : opened_with (Some i.act) rs opened ≡ opened = plain_opened i.act rs opened (ap is_weak is_a ∙ not_weak (enter ss is k) (length is) x.act own) in
      subst (λ os. Since v qs os) (sym same) (own_step k x w v rs qs opened at pw (stands r) go h)

  since : {w : ℕ} {rs : List ℕ} {opened : List Opening} → Walked s Weak w rs opened → Since w rs opened
  since (walked.begins rs) = λ start i at. nothing start i
    where
      nothing : {P : Type 0} (start : List ℕ) → In (entry r start) [] → P
      nothing start (k, h) = cc
  since (walked.goes {w = w} {v = v} {rs = rs} {qs = qs} {opened = opened} x g) =
      let i = stepped_at s Weak w v rs qs g in
      let here = standing ss is plain order nested w (numbers opened) i.0 (along ss is plain order nested (way x)) i.1 in
      subst (λ (o : Option Instr). Since v qs (opened_with (act_in o) rs opened)) (sym i.1) (step w v rs qs opened i.0 i.1 here i.2 (since x))

  -- at an instruction that isn't weak
  pub inside_at : (w k : ℕ) (rs : List ℕ) (opened : List Opening) (start : List ℕ) → Walked s Weak w rs opened → IsSeat Weak w k → In (r, start) opened → IsIn st k × Inside s is l start k rs
  inside_at w k rs opened start x seat i = go (standing ss is plain order nested w (numbers opened) seat.instr (along ss is plain order nested (way x)) seat.at)
    where
      at_it : IsIn st k → IsIn st k × Inside s is l start k rs
      at_it c = (c, subst (λ n. Inside s is l start n rs) seat.plain (since x start i (subst (IsIn st) (sym seat.plain) c)))

      go : Here ss is plain order nested w (numbers opened) seat.instr → IsIn st k × Inside s is l start k rs
      go (at_weak m y j b at q p e h) = absurd (differ (is_weak b) (weak_at (before ss m y.act) j b (weak_before ss m y.act) q) (ap (λ (u : Instr). is_weak u.act) (sym e) ∙ seat.own))
      go (at_plain m y at p e h) =
          let same : m ≡ k = sym (plain_seat ss (length is) m is plain (slice_get_within is m y at)) ∙ ap (plain_of Weak) (sym p) ∙ seat.plain in
          at_it (subst (IsIn st) same (covered_at m y.act opened start i (h r)))
