-- Which regions are open along the ways of a weakened function.
use Rattle.std.proofs.Common.{◌≡◌, ℕ, zero, suc, ◌+◌, ◌-◌, ◌<◌, ◌≤◌, ◌&&◌, ◌||◌, Bool, true, false, not, List, [], ◌∷◌, ◌++◌, length, map, refl, sym, ap, ◌∙◌, subst, arith, Option, Some, None, ◌⊎◌, inl, inr, ⊎_elim, drop}
use Rattle.std.specs.Prelude.{slice_get, if◌then◌else◌, nat_le, nat_lt, ◌==◌, is_none}
use Rattle.std.specs.List.{Contains}
use Rattle.std.proofs.lemmas.Bool.{cases_lt}
use Rattle.std.proofs.lemmas.Bool.Decides.{nat_tests}
use Rattle.std.proofs.lemmas.Option.{same_Some, slice_get_within}
use Rattle.flow_code.specs.declared.act.Act.{Act}
use Rattle.flow_code.specs.declared.act.Act.TheVariants as act
use Rattle.flow_code.specs.declared.act.Instr.{Instr}
use Rattle.flow_code.specs.Next.{act_in}
use Rattle.flow_code.specs.Order.{is_end, ends_in_itself, is_mark, jump_fits, jumps_fit_at, jumps_fit, makes_no_object, objects_are_first, order_fits}
use Rattle.flow_code.specs.Threads.{Object, object_of, and_objects, objects_of}
use Rattle.weak_code.specs.declared.stretch.Stretch.{Stretch}
use Rattle.weak_code.specs.Places.{begins_at, ends_before, covers, turned, before, place_from, place_of, seat_of, enter}
use Rattle.weak_code.specs.Stripped.{is_weak}
use Rattle.weak_code.specs.Weakened.{retarget, at_instr, blocks, weakened_instrs}
use Rattle.weak_code.proofs.Stripping.{AreWeak, weak_before, IsPlain, ArePlain}
use Rattle.guard_paths.specs.Ways.{nexts, opened_by, Way, begins, goes}
use Rattle.weak_valid.proofs.Tests.{both, found}
use Rattle.weak_valid.proofs.Spots.{place_next, front_at}
use Rattle.weak_valid.proofs.OrderFits.{weak_at, plain_at, jumps_at, seat_is, at_seat, object_kept, made_here, none_turned, AreAfter}
use Rattle.weak_valid.proofs.RegionsFit.{past_objects}
use Rattle.guard_paths.proofs.Standing.{times, one_if, has_test, Enters, EntersAt, returns, stays, IsLong, Stands, Follows, stands_past, stands_before, follows_before, follows_drop}

weak_none : (a : Act) → is_weak a ≡ true → object_of a ≡ None
weak_none (act.Take r) h = refl
weak_none (act.Give r) h = refl
weak_none _ h = cc

-- ---- regions that nest

-- a region is entered with its first instruction and left behind its last, and a jump back neither enters nor leaves it
pub record IsNested (is : List Instr) (s : Stretch) : Type 0 where
  pub long : s.first ≤ s.last
  pub following : length (objects_of is) ≤ s.first
  pub forth : (k j : ℕ) (i : Instr) → slice_get is k ≡ Some i → Contains (nexts i.act k) j → k < j → Enters (ends_before j s) (begins_at j s) (covers j s) (if covers k s then 1 else 0)
  pub back : (k j : ℕ) (i : Instr) → slice_get is k ≡ Some i → Contains (nexts i.act k) j → j ≤ k → covers k s ≡ covers j s

abbrev pub AreNested : List Instr → List Stretch → Type 0
AreNested is ss = (r : ℕ) (s : Stretch) → slice_get ss r ≡ Some s → IsNested is s

nested_long : (is : List Instr) (ss : List Stretch) → AreNested is ss → (r : ℕ) → IsLong (slice_get ss r)
nested_long is ss h r = go (slice_get ss r) refl
  where
    go : (o : Option Stretch) → slice_get ss r ≡ o → IsLong o
    go None e = tt
    go (Some s) e = (h r s e).long

-- ---- where a way has come

-- so many of the weak instructions before the k-th are passed, and each region is open so often as it may be there
pub record Stage (ss : List Stretch) (is : List Instr) (w : ℕ) (opened : List ℕ) : Type 0 where
  pub k : ℕ
  pub instr : Instr
  pub at : slice_get is k ≡ Some instr
  pub passed : ℕ
  pub few : passed ≤ length (before ss k instr.act)
  pub place : w ≡ place_of ss is k + passed
  pub stands : (r : ℕ) → Stands (stays (slice_get ss r) k instr.act) r (drop passed (before ss k instr.act)) (times r opened)

drop_got : {X : Type 0} (xs : List X) (j : ℕ) (x : X) → slice_get xs j ≡ Some x → drop j xs ≡ x ∷ drop (j + 1) xs
drop_got [] j x h = cc
drop_got (y ∷ ys) zero x h = ap (λ z. z ∷ ys) (same_Some y x h)
drop_got (y ∷ ys) (suc j) x h = let e : suc (j + 1) ≡ suc j + 1 = omega arith in drop_got ys j x h ∙ ap (λ n. x ∷ drop n (y ∷ ys)) e

drop_end : {X : Type 0} (xs : List X) → drop (length xs) xs ≡ []
drop_end [] = refl
drop_end (x ∷ xs) = drop_end xs

only : (x j : ℕ) → Contains (x ∷ []) j → j ≡ x
only x j (zero, lt, e) = sym e
only x j (suc k, lt, e) = absurd (omega (arith, lt))

pub either : (x y j : ℕ) → Contains (x ∷ y ∷ []) j → (j ≡ x) ⊎ (j ≡ y)
either x y j (zero, lt, e) = inl (sym e)
either x y j (suc zero, lt, e) = inr (sym e)
either x y j (suc (suc k), lt, e) = absurd (omega (arith, lt))

weak_goes : (b : Act) (w v : ℕ) → is_weak b ≡ true → Contains (nexts b w) v → v ≡ w + 1
weak_goes (act.Take r) w v h c = only (w + 1) v c
weak_goes (act.Give r) w v h c = only (w + 1) v c
weak_goes _ w v h c = cc

plain_opens : (n : ℕ) (to : ℕ → ℕ) (a : Act) (opened : List ℕ) → IsPlain n a → opened_by (retarget to a) opened ≡ opened
plain_opens n to (act.Compute into w) opened p = refl
plain_opens n to (act.Alloc into site size) opened p = refl
plain_opens n to (act.LoadCell into through) opened p = refl
plain_opens n to (act.StoreCell through from) opened p = refl
plain_opens n to act.Mark opened p = refl
plain_opens n to (act.Call g arguments into) opened p = refl
plain_opens n to (act.Library c arguments into) opened p = refl
plain_opens n to (act.Jump k) opened p = refl
plain_opens n to (act.Branch on then_at else_at) opened p = refl
plain_opens n to (act.Return value) opened p = refl
plain_opens n to (act.Take r) opened p = absurd p
plain_opens n to (act.Give r) opened p = absurd p

module _ (ss : List Stretch) (is : List Instr) (plain : ArePlain (length is) is) (order : order_fits is ≡ true) (nested : AreNested is ss) where
  abbrev Weak : List Instr
  Weak = weakened_instrs ss is

  abbrev IsStage : ℕ → List ℕ → Type 0
  IsStage w opened = Stage ss is w opened

  -- ---- past a weak instruction

  weak_step : (k : ℕ) (i : Instr) (j : ℕ) (b : Act) (opened : List ℕ) → slice_get is k ≡ Some i → slice_get (before ss k i.act) j ≡ Some b → ((r : ℕ) → Stands (stays (slice_get ss r) k i.act) r (drop j (before ss k i.act)) (times r opened)) → IsStage (place_of ss is k + (j + 1)) (opened_by b opened)
  weak_step k i j b opened at g h =
      record {
        k = k;
        instr = i;
        at = at;
        passed = j + 1;
        few = omega (arith, slice_get_within (before ss k i.act) j b g);
        place = refl;
        stands = λ r.
            let e = drop_got (before ss k i.act) j b g in
            stands_past (stays (slice_get ss r) k i.act) r b (drop (j + 1) (before ss k i.act)) opened
            (subst (λ bs. Follows (stays (slice_get ss r) k i.act) r bs) e (follows_drop (stays (slice_get ss r) k i.act) r (before ss k i.act) j (follows_before ss k i.act r (nested_long is ss nested r))))
            (subst (λ bs. Stands (stays (slice_get ss r) k i.act) r bs (times r opened)) e (h r));
      }

  -- ---- along an edge of the plain code

  -- before what stands before an instruction
  front_stage : (j : ℕ) (opened : List ℕ) → j < length is → ((r : ℕ) → EntersAt (slice_get ss r) j (times r opened)) → IsStage (place_of ss is j) opened
  front_stage j opened lt h = let i = found is j lt in record {
    k = j;
    instr = i.0;
    at = i.1;
    passed = 0;
    few = omega arith;
    place = omega arith;
    stands = λ r. stands_before ss j i.0.act r (times r opened) (nested_long is ss nested r) (h r);
  }

  -- at a Mark
  seat_stage : (j : ℕ) (opened : List ℕ) (i : Instr) → slice_get is j ≡ Some i → ((r : ℕ) → times r opened ≡ (if stays (slice_get ss r) j i.act then 1 else 0)) → IsStage (seat_of ss is j) opened
  seat_stage j opened i at h = record {
    k = j;
    instr = i;
    at = at;
    passed = length (before ss j i.act);
    few = omega arith;
    place = seat_is ss is j i at;
    stands = λ r. subst (λ bs. Stands (stays (slice_get ss r) j i.act) r bs (times r opened)) (sym (drop_end (before ss j i.act))) (h r);
  }

  open_all : (k : ℕ) (a : Act) (o : Option Stretch) (n : ℕ) → returns a ≡ false → n ≡ (if stays o k a then 1 else 0) → n ≡ (if has_test (covers k) o then 1 else 0)
  open_all k a o n e h = h ∙ ap (λ b. one_if (has_test (covers k) o && not b)) e ∙ last (has_test (covers k) o)
    where
      last : (c : Bool) → one_if (c && true) ≡ one_if c
      last true = refl
      last false = refl

  enters_at : (k j : ℕ) (i : Instr) (r : ℕ) (n : ℕ) → slice_get is k ≡ Some i → Contains (nexts i.act k) j → k < j → n ≡ (if has_test (covers k) (slice_get ss r) then 1 else 0) → EntersAt (slice_get ss r) j n
  enters_at k j i r n at c lt e = go (slice_get ss r) refl e
    where
      go : (o : Option Stretch) → slice_get ss r ≡ o → n ≡ (if has_test (covers k) o then 1 else 0) → EntersAt o j n
      go None s e = e
      go (Some s) q e = subst (Enters (ends_before j s) (begins_at j s) (covers j s)) (sym e) ((nested r s q).forth k j i at c lt)

  returns_back : (a : Act) → is_mark (Some a) ≡ true → returns a ≡ false
  returns_back act.Mark h = refl
  returns_back _ h = cc

  back_open : (k j : ℕ) (i m : Instr) (r n : ℕ) → slice_get is k ≡ Some i → Contains (nexts i.act k) j → j ≤ k → is_mark (Some m.act) ≡ true → n ≡ (if has_test (covers k) (slice_get ss r) then 1 else 0) → n ≡ (if stays (slice_get ss r) j m.act then 1 else 0)
  back_open k j i m r n at c le mark e = go (slice_get ss r) refl e
    where
      kept : (b : Bool) → b && not (returns m.act) ≡ b
      kept true = ap not (returns_back m.act mark)
      kept false = refl

      go : (o : Option Stretch) → slice_get ss r ≡ o → n ≡ (if has_test (covers k) o then 1 else 0) → n ≡ (if stays o j m.act then 1 else 0)
      go None s e = e
      go (Some s) q e = e ∙ ap one_if ((nested r s q).back k j i at c le) ∙ ap one_if (sym (kept (covers j s)))

  -- a jump fits
  marked : (k j : ℕ) → j ≤ k → jump_fits is k j ≡ true → j < length is → (m : Instr) × (slice_get is j ≡ Some m) × (is_mark (Some m.act) ≡ true)
  marked k j le f lt =
      let m = found is j lt in
      let no : nat_lt k j ≡ false = grind (arith, nat_tests, le) in
      (m.0, m.1, sym (ap (λ o. is_mark (act_in o)) m.1) ∙ second (nat_lt k j) (is_mark (act_in (slice_get is j))) no f)
    where
      second : (p q : Bool) → p ≡ false → (p || q) ≡ true → q ≡ true
      second true q e h = cc
      second false q e h = h

  jump_stage : (k j : ℕ) (i : Instr) (opened : List ℕ) → slice_get is k ≡ Some i → Contains (nexts i.act k) j → j < length is → jump_fits is k j ≡ true → ((r : ℕ) → times r opened ≡ (if has_test (covers k) (slice_get ss r) then 1 else 0)) → IsStage (enter ss is k j) opened
  jump_stage k j i opened at c lt f h = go (nat_le j k) refl
    where
      go : (b : Bool) → nat_le j k ≡ b → IsStage (if b then seat_of ss is j else place_of ss is j) opened
      go true e =
          let le : j ≤ k = grind (arith, nat_tests, e) in
          let m = marked k j le f lt in
          seat_stage j opened m.0 m.1 (λ r. back_open k j i m.0 r (times r opened) at c le m.2 (h r))
      go false e =
          let l : k < j = grind (arith, nat_tests, e) in
          front_stage j opened lt (λ r. enters_at k j i r (times r opened) at c l (h r))

  -- on to the next instruction
  next_stage : (k : ℕ) (i : Instr) (opened : List ℕ) → slice_get is k ≡ Some i → is_end (Some i.act) ≡ false → Contains (nexts i.act k) (k + 1) → ((r : ℕ) → times r opened ≡ (if has_test (covers k) (slice_get ss r) then 1 else 0)) → IsStage (seat_of ss is k + 1) opened
  next_stage k i opened at e c h = subst (λ w. IsStage w opened) place (front_stage (k + 1) opened lt (λ r. enters_at k (k + 1) i r (times r opened) at c (omega arith) (h r)))
    where
      last : (is : List Instr) → slice_get is k ≡ Some i → ends_in_itself is ≡ true → k + 1 ≡ length is → ⊥
      last is at f z =
          let q : length is - 1 ≡ k = omega (arith, z) in
          let t : is_end (Some i.act) ≡ true = sym (ap (λ o. is_end (act_in o)) at) ∙ ap (λ m. is_end (act_in (slice_get is m))) (sym q) ∙ f in
          let u = sym e ∙ t in cc

      in_itself : ends_in_itself is ≡ true
      in_itself = (both (ends_in_itself is) (jumps_fit is 0 is) (both (ends_in_itself is && jumps_fit is 0 is) (objects_are_first is) order).0).0

      lt : k + 1 < length is
      lt = ⊎_elim (λ (g : k + 1 < length is). g) (λ g. absurd (last is at in_itself (omega (arith, g, slice_get_within is k i at)))) (cases_lt (k + 1) (length is))

      place : place_of ss is (k + 1) ≡ seat_of ss is k + 1
      place =
          let z : 0 + k ≡ k = omega arith in
          let s : k + 1 ≡ suc k = omega arith in
          omega (arith, ap (place_of ss is) s, place_next ss 0 is k i at, ap (λ m. length (before ss m i.act)) z, seat_is ss is k i at)

  fits_at : (k : ℕ) (i : Instr) → slice_get is k ≡ Some i → jumps_fit_at is k i.act ≡ true
  fits_at k i at =
      let z : 0 + k ≡ k = omega arith in
      subst (λ n. jumps_fit_at is n i.act ≡ true) z (jumps_at is 0 is k i (both (ends_in_itself is) (jumps_fit is 0 is) (both (ends_in_itself is && jumps_fit is 0 is) (objects_are_first is) order).0).1 at)

  own_step : (k : ℕ) (i : Instr) (a : Act) (v : ℕ) (opened : List ℕ) → slice_get is k ≡ Some i → i.act ≡ a → IsPlain (length is) a → jumps_fit_at is k a ≡ true → Contains (nexts (retarget (enter ss is k) a) (seat_of ss is k)) v → ((r : ℕ) → times r opened ≡ (if stays (slice_get ss r) k a then 1 else 0)) → IsStage v opened
  own_step k i (act.Jump to) v opened at e p f c h =
      subst (λ w. IsStage w opened) (sym (only (enter ss is k to) v c))
      (jump_stage k to i opened at (subst (λ a. Contains (nexts a k) to) (sym e) (0, omega arith, refl)) p f (λ r. open_all k (act.Jump to) (slice_get ss r) (times r opened) refl (h r)))
  own_step k i (act.Branch on then_at else_at) v opened at e p f c h =
      let b = both (jump_fits is k then_at) (jump_fits is k else_at) f in
      let all : (r : ℕ) → times r opened ≡ one_if (has_test (covers k) (slice_get ss r)) = λ r. open_all k (act.Branch on then_at else_at) (slice_get ss r) (times r opened) refl (h r) in
      ⊎_elim
      (λ (q : v ≡ enter ss is k then_at). subst (λ w. IsStage w opened) (sym q) (jump_stage k then_at i opened at (subst (λ a. Contains (nexts a k) then_at) (sym e) (0, omega arith, refl)) p.0 b.0 all))
      (λ (q : v ≡ enter ss is k else_at). subst (λ w. IsStage w opened) (sym q) (jump_stage k else_at i opened at (subst (λ a. Contains (nexts a k) else_at) (sym e) (1, omega arith, refl)) p.1 b.1 all))
      (either (enter ss is k then_at) (enter ss is k else_at) v c)
  own_step k i (act.Return value) v opened at e p f (n, lt, q) h = absurd (omega (arith, lt))
  own_step k i (act.Take r) v opened at e p f c h = absurd p
  own_step k i (act.Give r) v opened at e p f c h = absurd p
  own_step k i (act.Compute into x) v opened at e p f c h = subst (λ w. IsStage w opened) (sym (only (seat_of ss is k + 1) v c)) (next_stage k i opened at (ap (λ a. is_end (Some a)) e) (subst (λ a. Contains (nexts a k) (k + 1)) (sym e) (0, omega arith, refl)) (λ r. open_all k (act.Compute into x) (slice_get ss r) (times r opened) refl (h r)))
  own_step k i (act.Alloc into site size) v opened at e p f c h = subst (λ w. IsStage w opened) (sym (only (seat_of ss is k + 1) v c)) (next_stage k i opened at (ap (λ a. is_end (Some a)) e) (subst (λ a. Contains (nexts a k) (k + 1)) (sym e) (0, omega arith, refl)) (λ r. open_all k (act.Alloc into site size) (slice_get ss r) (times r opened) refl (h r)))
  own_step k i (act.LoadCell into through) v opened at e p f c h = subst (λ w. IsStage w opened) (sym (only (seat_of ss is k + 1) v c)) (next_stage k i opened at (ap (λ a. is_end (Some a)) e) (subst (λ a. Contains (nexts a k) (k + 1)) (sym e) (0, omega arith, refl)) (λ r. open_all k (act.LoadCell into through) (slice_get ss r) (times r opened) refl (h r)))
  own_step k i (act.StoreCell through from) v opened at e p f c h = subst (λ w. IsStage w opened) (sym (only (seat_of ss is k + 1) v c)) (next_stage k i opened at (ap (λ a. is_end (Some a)) e) (subst (λ a. Contains (nexts a k) (k + 1)) (sym e) (0, omega arith, refl)) (λ r. open_all k (act.StoreCell through from) (slice_get ss r) (times r opened) refl (h r)))
  own_step k i act.Mark v opened at e p f c h = subst (λ w. IsStage w opened) (sym (only (seat_of ss is k + 1) v c)) (next_stage k i opened at (ap (λ a. is_end (Some a)) e) (subst (λ a. Contains (nexts a k) (k + 1)) (sym e) (0, omega arith, refl)) (λ r. open_all k act.Mark (slice_get ss r) (times r opened) refl (h r)))
  own_step k i (act.Call g arguments into) v opened at e p f c h = subst (λ w. IsStage w opened) (sym (only (seat_of ss is k + 1) v c)) (next_stage k i opened at (ap (λ a. is_end (Some a)) e) (subst (λ a. Contains (nexts a k) (k + 1)) (sym e) (0, omega arith, refl)) (λ r. open_all k (act.Call g arguments into) (slice_get ss r) (times r opened) refl (h r)))
  own_step k i (act.Library x arguments into) v opened at e p f c h = subst (λ w. IsStage w opened) (sym (only (seat_of ss is k + 1) v c)) (next_stage k i opened at (ap (λ a. is_end (Some a)) e) (subst (λ a. Contains (nexts a k) (k + 1)) (sym e) (0, omega arith, refl)) (λ r. open_all k (act.Library x arguments into) (slice_get ss r) (times r opened) refl (h r)))

  -- ---- one step, and all

  -- what stands at the place of a stage
  pub data Here (w : ℕ) (opened : List ℕ) (x : Instr) : Type 0 where
    at_weak : (k : ℕ) (i : Instr) (j : ℕ) (b : Act) → slice_get is k ≡ Some i → slice_get (before ss k i.act) j ≡ Some b → w ≡ place_of ss is k + j → x ≡ at_instr i b → ((r : ℕ) → Stands (stays (slice_get ss r) k i.act) r (drop j (before ss k i.act)) (times r opened)) → Here w opened x
    at_plain : (k : ℕ) (i : Instr) → slice_get is k ≡ Some i → w ≡ seat_of ss is k → x ≡ at_instr i (retarget (enter ss is k) i.act) → ((r : ℕ) → times r opened ≡ (if stays (slice_get ss r) k i.act then 1 else 0)) → Here w opened x

  pub standing : (w : ℕ) (opened : List ℕ) (x : Instr) → IsStage w opened → slice_get Weak w ≡ Some x → Here w opened x
  standing w opened x s g = ⊎_elim weak_one (λ ge. seat (omega (arith, ge, s.few))) (cases_lt s.passed (length (before ss s.k s.instr.act)))
    where
      weak_one : s.passed < length (before ss s.k s.instr.act) → Here w opened x
      weak_one lt =
          let b = found (before ss s.k s.instr.act) s.passed lt in
          let z : s.k ≡ 0 + s.k = omega arith in
          let f = front_at ss is 0 is s.k s.instr s.passed b.0 s.at (ap (λ m. slice_get (before ss m s.instr.act) s.passed) (sym z) ∙ b.1) in
          at_weak s.k s.instr s.passed b.0 s.at b.1 s.place (same_Some x (at_instr s.instr b.0) (sym g ∙ ap (slice_get Weak) s.place ∙ f)) s.stands

      seat : s.passed ≡ length (before ss s.k s.instr.act) → Here w opened x
      seat e =
          let p : w ≡ seat_of ss is s.k = omega (arith, s.place, e, seat_is ss is s.k s.instr s.at) in
          at_plain s.k s.instr s.at p (same_Some x (at_instr s.instr (retarget (enter ss is s.k) s.instr.act)) (sym g ∙ ap (slice_get Weak) p ∙ at_seat ss is s.k s.instr s.at))
          (λ r. subst (λ bs. Stands (stays (slice_get ss r) s.k s.instr.act) r bs (times r opened)) (ap (λ n. drop n (before ss s.k s.instr.act)) e ∙ drop_end (before ss s.k s.instr.act)) (s.stands r))

  step : (w : ℕ) (opened : List ℕ) (x : Instr) (v : ℕ) → Here w opened x → Contains (nexts x.act w) v → IsStage v (opened_by x.act opened)
  step w opened x v (at_weak k i j b at g p e h) c =
      let z = weak_at (before ss k i.act) j b (weak_before ss k i.act) g in
      let q : v ≡ place_of ss is k + (j + 1) = omega (arith, p, weak_goes b w v z (subst (λ (y : Instr). Contains (nexts y.act w) v) e c)) in
      subst (λ n. IsStage n (opened_by x.act opened)) (sym q) (subst (λ (y : Instr). IsStage (place_of ss is k + (j + 1)) (opened_by y.act opened)) (sym e) (weak_step k i j b opened at g h))
  step w opened x v (at_plain k i at p e h) c =
      let t = plain_at (length is) is k i plain at in
      let s = own_step k i i.act v opened at refl t (fits_at k i at) (subst (λ n. Contains (nexts (retarget (enter ss is k) i.act) n) v) p (subst (λ (y : Instr). Contains (nexts y.act w) v) e c)) h in
      subst (λ os. IsStage v os) (sym (ap (λ (y : Instr). opened_by y.act opened) e ∙ plain_opens (length is) (enter ss is k) i.act opened t)) s

  -- ---- the beginning

  starts_at : (r : ℕ) → EntersAt (slice_get ss r) (length (objects_of is)) 0
  starts_at r = go (slice_get ss r) refl
    where
      none : (s : Stretch) (e f c : Bool) → ends_before (length (objects_of is)) s ≡ e → begins_at (length (objects_of is)) s ≡ f → covers (length (objects_of is)) s ≡ c → length (objects_of is) ≤ s.first → Enters e f c 0
      none s true f c p q t b = omega arith
      none s false true c p q t b = refl
      none s false false false p q t b = refl
      none s false false true p q t b =
          let x = both (nat_le s.first (length (objects_of is))) (nat_le (length (objects_of is)) s.last) t in
          let y : s.first ≤ length (objects_of is) = grind (arith, nat_tests, x.0) in
          let z : s.first ≡ length (objects_of is) = omega (arith, y, b) in
          let u : (s.first == length (objects_of is)) ≡ true = grind (arith, nat_tests, z) in
          let v = sym u ∙ q in cc

      go : (o : Option Stretch) → slice_get ss r ≡ o → EntersAt o (length (objects_of is)) 0
      go None e = refl
      go (Some s) e = none s (ends_before (length (objects_of is)) s) (begins_at (length (objects_of is)) s) (covers (length (objects_of is)) s) refl refl refl (nested r s e).following

  after_from : (xs : List Stretch) → ((r : ℕ) (s : Stretch) → slice_get xs r ≡ Some s → IsNested is s) → AreAfter (length (objects_of is)) xs
  after_from [] h = tt
  after_from (s ∷ xs) h = let n = h 0 s refl in ((n.following, omega (arith, n.following, n.long)), after_from xs (λ r x g. h (suc r) x g))

  begins_before_end : length (objects_of is) < length is
  begins_before_end = last is (both (ends_in_itself is) (jumps_fit is 0 is) (both (ends_in_itself is && jumps_fit is 0 is) (objects_are_first is) order).0).0
    where
      no_object : (a : Act) → is_end (Some a) ≡ true → object_of a ≡ None
      no_object (act.Alloc into site size) h = cc
      no_object _ h = refl

      last : (is : List Instr) → ends_in_itself is ≡ true → length (objects_of is) < length is
      last [] h = cc
      last (x ∷ xs) h =
          let z : length (x ∷ xs) - 1 ≡ length xs = omega arith in
          let y = found (x ∷ xs) (length xs) (omega arith) in
          let e : is_end (Some y.0.act) ≡ true = sym (ap (λ o. is_end (act_in o)) (ap (slice_get (x ∷ xs)) z ∙ y.1)) ∙ h in
          omega (arith, past_objects (x ∷ xs) (length xs) y.0 y.1 (no_object y.0.act e))

  starts_weak : (n : ℕ) (rest : List Instr) → ((k : ℕ) → k < length (objects_of rest) → turned ss (n + k) ≡ []) → length (objects_of (blocks ss is n rest)) ≡ place_from ss n rest (length (objects_of rest))
  starts_weak n [] free = refl
  starts_weak n (i ∷ rest) free = go (object_of i.act) refl (λ f. starts_weak (n + 1) rest f)
    where
      none_now : (bs : List Act) (p : Instr) (more : List Instr) → AreWeak bs → object_of p.act ≡ None → objects_of ((map (at_instr i) bs ++ p ∷ []) ++ more) ≡ []
      none_now [] p more w e = ap (λ o. and_objects o (objects_of more)) e
      none_now (b ∷ bs) p more w e = ap (λ o. and_objects o (objects_of ((map (at_instr i) bs ++ p ∷ []) ++ more))) (weak_none b w.0)

      go : (o : Option Object) → object_of i.act ≡ o → (((k : ℕ) → k < length (objects_of rest) → turned ss ((n + 1) + k) ≡ []) → length (objects_of (blocks ss is (n + 1) rest)) ≡ place_from ss (n + 1) rest (length (objects_of rest))) → length (objects_of (blocks ss is n (i ∷ rest))) ≡ place_from ss n (i ∷ rest) (length (objects_of (i ∷ rest)))
      go None e rec =
          let a = none_now (before ss n i.act) (at_instr i (retarget (enter ss is n) i.act)) (blocks ss is (n + 1) rest) (weak_before ss n i.act) (object_kept (enter ss is n) i.act ∙ e) in
          let b : objects_of (i ∷ rest) ≡ [] = ap (λ o. and_objects o (objects_of rest)) e in
          ap (λ (os : List Object). length os) a ∙ sym (ap (λ (os : List Object). place_from ss n (i ∷ rest) (length os)) b)
      go (Some o) e rec =
          let m : makes_no_object i ≡ false = ap is_none e in
          let l : length (objects_of (i ∷ rest)) ≡ suc (length (objects_of rest)) = ap (λ p. length (and_objects p (objects_of rest))) e in
          let z : n + 0 ≡ n = omega arith in
          let b : before ss n i.act ≡ [] = made_here ss n i.act m (subst (λ q. turned ss q ≡ []) z (free 0 (omega (arith, l)))) in
          let r = rec (λ k lt. let s : n + suc k ≡ (n + 1) + k = omega arith in subst (λ q. turned ss q ≡ []) s (free (suc k) (omega (arith, l)))) in
          ap (λ (bs : List Act). length (objects_of ((map (at_instr i) bs ++ at_instr i (retarget (enter ss is n) i.act) ∷ []) ++ blocks ss is (n + 1) rest))) b
          ∙ ap (λ p. length (and_objects p (objects_of (blocks ss is (n + 1) rest)))) (object_kept (enter ss is n) i.act ∙ e)
          ∙ omega (arith, r, ap (λ (bs : List Act). length bs) b)
          ∙ ap (place_from ss n (i ∷ rest)) (sym l)

  starts : length (objects_of Weak) ≡ place_of ss is (length (objects_of is))
  starts = starts_weak 0 is (λ k lt. let e : k ≡ 0 + k = omega arith in subst (λ q. turned ss q ≡ []) e (none_turned (length (objects_of is)) k ss (after_from ss nested) lt))

  -- ---- ways

  pub along : {w : ℕ} {opened : List ℕ} → Way Weak w opened → IsStage w opened
  along begins = subst (λ w. IsStage w []) (sym starts) (front_stage (length (objects_of is)) [] begins_before_end starts_at)
  along (goes {w} {opened} i v way g c) = step w opened i v (standing w opened i (along way) g) c
