-- A region of one access alone is taken with the registers that the access has.
use Rattle.std.proofs.Common.{◌≡◌, ℕ, zero, suc, ◌+◌, ◌≤◌, Bool, true, false, not, List, [], length, refl, sym, ap, ◌∙◌, subst, arith, Option, Some, None}
use Rattle.std.specs.Prelude.{slice_get, if◌then◌else◌, nat_le}
use Rattle.std.proofs.lemmas.Bool.Decides.{nat_tests}
use Rattle.std.proofs.lemmas.Option.{same_Some, slice_get_within}
use Rattle.flow_code.specs.declared.act.Act.{Act}
use Rattle.flow_code.specs.declared.act.Act.TheVariants as act
use Rattle.flow_code.specs.declared.act.Instr.{Instr}
use Rattle.flow_code.specs.declared.code.Function.{Function}
use Rattle.flow_code.specs.Next.{act_in}
use Rattle.flow_code.specs.Order.{order_fits}
use Rattle.facts.specs.Accesses.{Access, access_of}
use Rattle.loop_bounds.specs.Turns.{Setting, Goes}
use Rattle.weak_code.specs.declared.stretch.Stretch.{Stretch}
use Rattle.weak_code.specs.Places.{before, covers, enter}
use Rattle.weak_code.specs.Stripped.{is_weak, plain_of}
use Rattle.weak_code.specs.Weakened.{retarget, at_instr, weakened_instrs}
use Rattle.weak_code.proofs.Stripping.{ArePlain, plain_seat, weak_before}
use Rattle.weak_valid.proofs.OrderFits.{weak_at}
use Rattle.weak_valid.proofs.Tests.{both}
use Rattle.guard_paths.specs.Guards.{IsSeat}
use Rattle.guard_paths.specs.Ways.{Way}
use Rattle.guard_paths.specs.Walked as walked
use Rattle.guard_paths.specs.Walked.{Opening, opened_with, Walked}
use Rattle.guard_paths.proofs.Guarded.{In}
use Rattle.guard_paths.proofs.Nested.{IsIn}
use Rattle.guard_paths.proofs.Passing.{AreNested, Here, at_weak, at_plain, standing, along}
use Rattle.guard_paths.proofs.Standing.{times, has_test, returns, stays}
use Rattle.guard_paths.proofs.Walks.{numbers, way, weak_goes, in_numbers, of_closed, in_times, plain_opened, plain_next}

differ : (b : Bool) → b ≡ true → b ≡ false → ⊥
differ true p q = cc
differ false p q = cc

-- ---- steps

some_times : (b : Bool) → 1 ≤ (if b then 1 else 0) → b ≡ true
some_times true l = refl
some_times false l = absurd (omega (arith, l))

covered_in : (k : ℕ) (t : Stretch) → covers k t ≡ true → IsIn t k
covered_in k t h = let b = both (nat_le t.first k) (nat_le k t.last) h in (grind (arith, nat_tests, b.0), grind (arith, nat_tests, b.1))

access_goes : (s : Setting) (to : ℕ → ℕ) (a : Act) (x : Access) (w v : ℕ) (rs qs : List ℕ) → access_of a ≡ Some x → Goes s (Some (retarget to a)) w rs v qs → v ≡ w + 1
access_goes s to (act.LoadCell into through) x w v rs qs h g = g.0
access_goes s to (act.StoreCell through from) x w v rs qs h g = g.0
access_goes s to (act.Library c arguments into) x w v rs qs h g = g.0
access_goes s to _ x w v rs qs h g = cc

-- ---- one function

module _ (fn : Function) (ss : List Stretch) (plain : ArePlain (length fn.instrs) fn.instrs) (order : order_fits fn.instrs ≡ true) (nested : AreNested fn.instrs ss) where
  abbrev Weak : List Instr
  Weak = weakened_instrs ss fn.instrs

  -- what stands at the seat of an instruction, and which regions are open there
  record AtSeat (k : ℕ) (opened : List ℕ) (j : Instr) : Type 0 where
    instr : Instr
    at : slice_get fn.instrs k ≡ Some instr
    is : j ≡ at_instr instr (retarget (enter ss fn.instrs k) instr.act)
    open_now : (r : ℕ) → times r opened ≡ (if stays (slice_get ss r) k instr.act then 1 else 0)

  at_seat : (w k : ℕ) (opened : List ℕ) (seat : IsSeat Weak w k) → Way Weak w opened → AtSeat k opened seat.instr
  at_seat w k opened seat path = go (standing ss fn.instrs plain order nested w opened seat.instr (along ss fn.instrs plain order nested path) seat.at)
    where
      go : Here ss fn.instrs plain order nested w opened seat.instr → AtSeat k opened seat.instr
      go (at_weak m y j b g q p e h) = absurd (differ (is_weak b) (weak_at (before ss m y.act) j b (weak_before ss m y.act) q) (ap (λ (u : Instr). is_weak u.act) (sym e) ∙ seat.own))
      go (at_plain m y g p e h) =
          let z : m ≡ k = sym (plain_seat ss (length fn.instrs) m fn.instrs plain (slice_get_within fn.instrs m y g)) ∙ ap (plain_of Weak) (sym p) ∙ seat.plain in
          subst (λ n. AtSeat n opened seat.instr) z (record { instr = y; at = g; is = e; open_now = h })

  open_round : (w k r : ℕ) (opened : List ℕ) (t : Stretch) → IsSeat Weak w k → Way Weak w opened → In r opened → slice_get ss r ≡ Some t → IsIn t k
  open_round w k r opened t seat path i e =
      let a = at_seat w k opened seat path in
      let l : 1 ≤ (if stays (slice_get ss r) k a.instr.act then 1 else 0) = subst (λ n. 1 ≤ n) (a.open_now r) (in_times r opened i) in
      let b = both (has_test (covers k) (slice_get ss r)) (not (returns a.instr.act)) (some_times (stays (slice_get ss r) k a.instr.act) l) in
      covered_in k t (sym (ap (has_test (covers k)) e) ∙ b.0)

  -- the region has one instruction
  abbrev IsAlone : ℕ → ℕ → Type 0
  IsAlone k r = (t : Stretch) × (slice_get ss r ≡ Some t) × (t.first ≡ k) × (t.last ≡ k)

  module _ (s : Setting) (k : ℕ) (i : Instr) (x : Access) (at : slice_get fn.instrs k ≡ Some i) (is_access : access_of i.act ≡ Some x) where
    -- before the instruction, the registers are those at the Take
    AreKept : (w : ℕ) (rs : List ℕ) (opened : List Opening) → Type 0
    AreKept w rs opened = plain_of Weak w ≡ k → (y : Opening) → In y opened → IsAlone k y.0 → y.1 ≡ rs

    weak_step : (a : Act) (w v : ℕ) (rs qs : List ℕ) (opened : List Opening) (y : Opening) → is_weak a ≡ true → Goes s (Some a) w rs v qs → (In y opened → y.1 ≡ rs) → In y (opened_with (Some a) rs opened) → y.1 ≡ qs
    weak_step (act.Take r) w v rs qs opened y t g rec (zero, h) = ap (λ (z : Opening). z.1) (sym (same_Some (r, rs) y h)) ∙ sym g.1
    weak_step (act.Take r) w v rs qs opened y t g rec (suc n, h) = rec (n, h) ∙ sym g.1
    weak_step (act.Give r) w v rs qs opened y t g rec h = rec (of_closed y r opened h) ∙ sym g.1
    weak_step _ w v rs qs opened y t g rec h = cc

    -- one that isn't weak leads to the next place
    plain_step : (j : Instr) (w v : ℕ) (rs qs : List ℕ) (opened : List Opening) (y : Opening) → slice_get Weak w ≡ Some j → is_weak j.act ≡ false → Way Weak w (numbers opened) → Goes s (Some j.act) w rs v qs → In y opened → IsAlone k y.0 → plain_of Weak v ≡ suc k
    plain_step j w v rs qs opened y g own path step c alone =
        let seat : IsSeat Weak w (plain_of Weak w) = record { instr = j; at = g; own = own; plain = refl } in
        let r = open_round w (plain_of Weak w) y.0 (numbers opened) alone.0 seat path (in_numbers y opened c) alone.1 in
        let m : plain_of Weak w ≡ k = omega (arith, r.0, r.1, alone.2, alone.3) in
        let here = at_seat w (plain_of Weak w) (numbers opened) seat path in
        let same : here.instr ≡ i = same_Some here.instr i (sym here.at ∙ ap (slice_get fn.instrs) m ∙ at) in
        let acc : access_of here.instr.act ≡ Some x = ap (λ (z : Instr). access_of z.act) same ∙ is_access in
        let e : v ≡ w + 1 = access_goes s (enter ss fn.instrs (plain_of Weak w)) here.instr.act x w v rs qs acc (subst (λ (z : Instr). Goes s (Some z.act) w rs v qs) here.is step) in
        ap (plain_of Weak) e ∙ plain_next Weak w j g ∙ ap (λ b. if b then plain_of Weak w else suc (plain_of Weak w)) own ∙ ap suc m

    step_kept : (o : Option Instr) (w v : ℕ) (rs qs : List ℕ) (opened : List Opening) → slice_get Weak w ≡ o → Goes s (act_in o) w rs v qs → Way Weak w (numbers opened) → AreKept w rs opened → AreKept v qs (opened_with (act_in o) rs opened)
    unfolding AreKept
    step_kept None w v rs qs opened e g path rec p y c alone = absurd g
    step_kept (Some j) w v rs qs opened e g path rec p y c alone = go (is_weak j.act) refl
      where
        go : (b : Bool) → is_weak j.act ≡ b → y.1 ≡ qs
        go true t =
            let place : v ≡ w + 1 → plain_of Weak w ≡ k = λ n. sym (ap (plain_of Weak) n ∙ plain_next Weak w j e ∙ ap (λ b. if b then plain_of Weak w else suc (plain_of Weak w)) t) ∙ p in
            let next : v ≡ w + 1 = (weak_goes s j.act w v rs qs t g).0 in
            weak_step j.act w v rs qs opened y t g (λ i. rec (place next) y i alone) c
        go false t =
            let q = plain_step j w v rs qs opened y e t path g (subst (In y) (plain_opened j.act rs opened t) c) alone in
            absurd (omega (arith, q, p))

    are_kept : {w : ℕ} {rs : List ℕ} {opened : List Opening} → Walked s Weak w rs opened → AreKept w rs opened
    unfolding AreKept
    are_kept (walked.begins rs) = λ p y c alone. absurd (none y c)
      where
        none : (y : Opening) → In y [] → ⊥
        none y (n, h) = cc
    are_kept (walked.goes {w} {v} {rs} {qs} {opened} walk step) = step_kept (slice_get Weak w) w v rs qs opened refl step (way walk) (are_kept walk)

    -- at the seat of an access, a region alone that is open was taken with these registers
    pub taken_now : (w : ℕ) (rs : List ℕ) (opened : List Opening) (y : Opening) (t : Stretch) → Walked s Weak w rs opened → IsSeat Weak w k → In y opened → slice_get ss y.0 ≡ Some t → t.first ≡ t.last → y.1 ≡ rs
    unfolding AreKept
    taken_now w rs opened y t walk seat c e one =
        let r = open_round w k y.0 (numbers opened) t seat (way walk) (in_numbers y opened c) e in
        are_kept walk seat.plain y c (t, e, omega (arith, r.0, r.1, one), omega (arith, r.0, r.1, one))
