-- The order of a weakened function's instructions.
use Rattle.std.proofs.Common.{◌≡◌, ℕ, zero, suc, ◌+◌, ◌-◌, ◌<◌, ◌≤◌, ◌&&◌, ◌||◌, Bool, true, false, List, [], ◌∷◌, ◌++◌, length, map, refl, sym, ap, ◌∙◌, subst, arith, Option, Some, None}
use Rattle.std.specs.Prelude.{slice_get, if◌then◌else◌, nat_le, nat_lt, ◌==◌, is_none}
use Rattle.std.proofs.lemmas.Bool.Decides.{nat_tests}
use Rattle.std.proofs.lemmas.Option.{same_Some}
use Rattle.flow_code.specs.declared.act.Act.{Act}
use Rattle.flow_code.specs.declared.act.Act.TheVariants as act
use Rattle.flow_code.specs.declared.act.Instr.{Instr}
use Rattle.flow_code.specs.Next.{act_in}
use Rattle.flow_code.specs.Order.{is_end, ends_in_itself, is_mark, jump_fits, jumps_fit_at, jumps_fit, makes_no_object, make_no_objects, objects_are_first, order_fits}
use Rattle.flow_code.specs.Threads.{Object, object_of, and_objects, objects_of}
use Rattle.weak_code.specs.declared.stretch.Stretch.{Stretch}
use Rattle.weak_code.specs.Places.{numbers_from, begins_at, ends_before, beginning, gives, takes, turned, before, place_of, act_or_mark, seat_of, enter}
use Rattle.weak_code.specs.Weakened.{retarget, at_instr, block, blocks, weakened_instrs}
use Rattle.weak_code.specs.Stripped.{is_weak}
use Rattle.weak_code.proofs.Stripping.{AreWeak, weak_before, IsPlain, ArePlain}
use Rattle.weak_valid.proofs.Tests.{both, two, all_append, found}
use Rattle.weak_valid.proofs.Spots.{total, place_next, place_mono, seat_at, Spot, put, own, spot}

-- ---- weak instructions

pub weak_at : (bs : List Act) (j : ℕ) (b : Act) → AreWeak bs → slice_get bs j ≡ Some b → is_weak b ≡ true
weak_at [] j b w h = cc
weak_at (a ∷ bs) zero b w h = subst (λ z. is_weak z ≡ true) (same_Some a b h) w.0
weak_at (a ∷ bs) (suc j) b w h = weak_at bs j b w.1 h

pub plain_at : (n : ℕ) (is : List Instr) (k : ℕ) (i : Instr) → ArePlain n is → slice_get is k ≡ Some i → IsPlain n i.act
plain_at n [] k i p h = cc
plain_at n (x ∷ is) zero i p h = subst (λ (y : Instr). IsPlain n y.act) (same_Some x i h) p.0
plain_at n (x ∷ is) (suc k) i p h = plain_at n is k i p.1 h

weak_jumps : (is : List Instr) (w : ℕ) (a : Act) → is_weak a ≡ true → jumps_fit_at is w a ≡ true
weak_jumps is w (act.Compute into x) h = refl
weak_jumps is w (act.Alloc into site size) h = refl
weak_jumps is w (act.LoadCell into through) h = refl
weak_jumps is w (act.StoreCell through from) h = refl
weak_jumps is w act.Mark h = refl
weak_jumps is w (act.Call g arguments into) h = refl
weak_jumps is w (act.Library c arguments into) h = refl
weak_jumps is w (act.Jump to) h = cc
weak_jumps is w (act.Branch on then_at else_at) h = cc
weak_jumps is w (act.Return value) h = refl
weak_jumps is w (act.Take r) h = refl
weak_jumps is w (act.Give r) h = refl

-- ---- what targets leave

end_kept : (to : ℕ → ℕ) (a : Act) → is_end (Some (retarget to a)) ≡ is_end (Some a)
end_kept to (act.Compute into x) = refl
end_kept to (act.Alloc into site size) = refl
end_kept to (act.LoadCell into through) = refl
end_kept to (act.StoreCell through from) = refl
end_kept to act.Mark = refl
end_kept to (act.Call g arguments into) = refl
end_kept to (act.Library c arguments into) = refl
end_kept to (act.Jump k) = refl
end_kept to (act.Branch on then_at else_at) = refl
end_kept to (act.Return value) = refl
end_kept to (act.Take r) = refl
end_kept to (act.Give r) = refl

mark_kept : (to : ℕ → ℕ) (a : Act) → is_mark (Some (retarget to a)) ≡ is_mark (Some a)
mark_kept to (act.Compute into x) = refl
mark_kept to (act.Alloc into site size) = refl
mark_kept to (act.LoadCell into through) = refl
mark_kept to (act.StoreCell through from) = refl
mark_kept to act.Mark = refl
mark_kept to (act.Call g arguments into) = refl
mark_kept to (act.Library c arguments into) = refl
mark_kept to (act.Jump k) = refl
mark_kept to (act.Branch on then_at else_at) = refl
mark_kept to (act.Return value) = refl
mark_kept to (act.Take r) = refl
mark_kept to (act.Give r) = refl

pub object_kept : (to : ℕ → ℕ) (a : Act) → object_of (retarget to a) ≡ object_of a
object_kept to (act.Compute into x) = refl
object_kept to (act.Alloc into site size) = refl
object_kept to (act.LoadCell into through) = refl
object_kept to (act.StoreCell through from) = refl
object_kept to act.Mark = refl
object_kept to (act.Call g arguments into) = refl
object_kept to (act.Library c arguments into) = refl
object_kept to (act.Jump k) = refl
object_kept to (act.Branch on then_at else_at) = refl
object_kept to (act.Return value) = refl
object_kept to (act.Take r) = refl
object_kept to (act.Give r) = refl

-- ---- its end

last_item : {X : Type 0} (x : X) (xs : List X) → (y : X) × (slice_get (x ∷ xs) (length xs) ≡ Some y)
last_item x xs = found (x ∷ xs) (length xs) (omega arith)

pub ends : (ss : List Stretch) (is : List Instr) → ends_in_itself is ≡ true → ends_in_itself (weakened_instrs ss is) ≡ true
ends ss [] h = cc
ends ss (i ∷ is) h =
    let y = last_item i is in
    let z : length (i ∷ is) - 1 ≡ length is = omega arith in
    let g : slice_get (i ∷ is) (length (i ∷ is) - 1) ≡ Some y.0 = ap (slice_get (i ∷ is)) z ∙ y.1 in
    let e : is_end (Some y.0.act) ≡ true = sym (ap (λ o. is_end (act_in o)) g) ∙ h in
    let n : 0 + length is ≡ length is = omega arith in
    let p : length (weakened_instrs ss (i ∷ is)) - 1 ≡ place_of ss (i ∷ is) (length is) + length (before ss (0 + length is) y.0.act) = omega (arith, total ss (i ∷ is) 0 (i ∷ is), place_next ss 0 (i ∷ is) (length is) y.0 y.1) in
    ap (λ w. is_end (act_in (slice_get (weakened_instrs ss (i ∷ is)) w))) p
    ∙ ap (λ o. is_end (act_in o)) (seat_at ss (i ∷ is) 0 (i ∷ is) (length is) y.0 y.1)
    ∙ end_kept (enter ss (i ∷ is) (0 + length is)) y.0.act ∙ e

-- ---- its jumps

jumps_of : (is : List Instr) (at : ℕ) (xs : List Instr) → ((j : ℕ) (x : Instr) → slice_get xs j ≡ Some x → jumps_fit_at is (at + j) x.act ≡ true) → jumps_fit is at xs ≡ true
jumps_of is at [] h = refl
jumps_of is at (x ∷ xs) h =
    let e : at + 0 ≡ at = omega arith in
    two (jumps_fit_at is at x.act) (jumps_fit is (at + 1) xs)
    (subst (λ n. jumps_fit_at is n x.act ≡ true) e (h 0 x refl))
    (jumps_of is (at + 1) xs (λ j y g. let z : at + suc j ≡ (at + 1) + j = omega arith in subst (λ n. jumps_fit_at is n y.act ≡ true) z (h (suc j) y g)))

pub jumps_at : (is : List Instr) (at : ℕ) (xs : List Instr) (j : ℕ) (x : Instr) → jumps_fit is at xs ≡ true → slice_get xs j ≡ Some x → jumps_fit_at is (at + j) x.act ≡ true
jumps_at is at [] j x h g = cc
jumps_at is at (y ∷ ys) zero x h g =
    let e : at ≡ at + 0 = omega arith in
    subst (λ n. jumps_fit_at is n x.act ≡ true) e (subst (λ (z : Instr). jumps_fit_at is at z.act ≡ true) (same_Some y x g) (both (jumps_fit_at is at y.act) (jumps_fit is (at + 1) ys) h).0)
jumps_at is at (y ∷ ys) (suc j) x h g =
    let z : (at + 1) + j ≡ at + suc j = omega arith in
    subst (λ n. jumps_fit_at is n x.act ≡ true) z (jumps_at is (at + 1) ys j x (both (jumps_fit_at is at y.act) (jumps_fit is (at + 1) ys) h).1 g)

later_true : (p q : Bool) → q ≡ true → p || q ≡ true
later_true true q h = refl
later_true false q h = h

sooner_true : (p q : Bool) → p ≡ true → p || q ≡ true
sooner_true true q h = refl
sooner_true false q h = cc

second_true : (p q : Bool) → p ≡ false → p || q ≡ true → q ≡ true
second_true true q e h = cc
second_true false q e h = h

-- the seat of an instruction, found by its place
pub seat_is : (ss : List Stretch) (is : List Instr) (k : ℕ) (i : Instr) → slice_get is k ≡ Some i → seat_of ss is k ≡ place_of ss is k + length (before ss k i.act)
seat_is ss is k i h = ap (λ o. place_of ss is k + length (before ss k (act_or_mark o))) h

pub at_seat : (ss : List Stretch) (is : List Instr) (k : ℕ) (i : Instr) → slice_get is k ≡ Some i → slice_get (weakened_instrs ss is) (seat_of ss is k) ≡ Some (at_instr i (retarget (enter ss is k) i.act))
at_seat ss is k i h =
    let e : 0 + k ≡ k = omega arith in
    ap (slice_get (weakened_instrs ss is)) (seat_is ss is k i h)
    ∙ subst (λ m. slice_get (weakened_instrs ss is) (place_of ss is k + length (before ss m i.act)) ≡ Some (at_instr i (retarget (enter ss is m) i.act))) e (seat_at ss is 0 is k i h)

-- an instruction before another has its seat before the other's place
pub seat_before : (ss : List Stretch) (is : List Instr) (j k : ℕ) (i : Instr) → slice_get is j ≡ Some i → j < k → k ≤ length is → seat_of ss is j < place_of ss is k
seat_before ss is j k i h lt le =
    let e : 0 + j ≡ j = omega arith in
    omega (arith, seat_is ss is j i h, place_next ss 0 is j i h, ap (λ m. length (before ss m i.act)) e, place_mono ss is (suc j) k (omega arith) le)

target_fits : (ss : List Stretch) (is : List Instr) (k to : ℕ) (i : Instr) → slice_get is k ≡ Some i → to < length is → jump_fits is k to ≡ true → jump_fits (weakened_instrs ss is) (seat_of ss is k) (enter ss is k to) ≡ true
target_fits ss is k to i h lt f = go (nat_le to k) refl
  where
    go : (b : Bool) → nat_le to k ≡ b → jump_fits (weakened_instrs ss is) (seat_of ss is k) (if b then seat_of ss is to else place_of ss is to) ≡ true
    go true e =
        let y = found is to lt in
        let no : nat_lt k to ≡ false = grind (arith, nat_tests, e) in
        let m : is_mark (Some y.0.act) ≡ true = sym (ap (λ o. is_mark (act_in o)) y.1) ∙ second_true (nat_lt k to) (is_mark (act_in (slice_get is to))) no f in
        later_true (nat_lt (seat_of ss is k) (seat_of ss is to)) (is_mark (act_in (slice_get (weakened_instrs ss is) (seat_of ss is to))))
        (ap (λ o. is_mark (act_in o)) (at_seat ss is to y.0 y.1) ∙ mark_kept (enter ss is to) y.0.act ∙ m)
    go false e =
        let l : k < to = grind (arith, nat_tests, e) in
        let b : seat_of ss is k < place_of ss is to = seat_before ss is k to i h l (omega arith) in
        let t : nat_lt (seat_of ss is k) (place_of ss is to) ≡ true = grind (arith, nat_tests, b) in
        sooner_true (nat_lt (seat_of ss is k) (place_of ss is to)) (is_mark (act_in (slice_get (weakened_instrs ss is) (place_of ss is to)))) t

own_jumps : (ss : List Stretch) (is : List Instr) (k : ℕ) (i : Instr) (a : Act) → slice_get is k ≡ Some i → IsPlain (length is) a → jumps_fit_at is k a ≡ true → jumps_fit_at (weakened_instrs ss is) (seat_of ss is k) (retarget (enter ss is k) a) ≡ true
own_jumps ss is k i (act.Compute into x) h p f = refl
own_jumps ss is k i (act.Alloc into site size) h p f = refl
own_jumps ss is k i (act.LoadCell into through) h p f = refl
own_jumps ss is k i (act.StoreCell through from) h p f = refl
own_jumps ss is k i act.Mark h p f = refl
own_jumps ss is k i (act.Call g arguments into) h p f = refl
own_jumps ss is k i (act.Library c arguments into) h p f = refl
own_jumps ss is k i (act.Jump to) h p f = target_fits ss is k to i h p f
own_jumps ss is k i (act.Branch on then_at else_at) h p f =
    let b = both (jump_fits is k then_at) (jump_fits is k else_at) f in
    two (jump_fits (weakened_instrs ss is) (seat_of ss is k) (enter ss is k then_at)) (jump_fits (weakened_instrs ss is) (seat_of ss is k) (enter ss is k else_at))
    (target_fits ss is k then_at i h p.0 b.0) (target_fits ss is k else_at i h p.1 b.1)
own_jumps ss is k i (act.Return value) h p f = refl
own_jumps ss is k i (act.Take r) h p f = refl
own_jumps ss is k i (act.Give r) h p f = refl

pub jumps : (ss : List Stretch) (is : List Instr) → ArePlain (length is) is → jumps_fit is 0 is ≡ true → jumps_fit (weakened_instrs ss is) 0 (weakened_instrs ss is) ≡ true
jumps ss is p f = jumps_of (weakened_instrs ss is) 0 (weakened_instrs ss is) (λ w x g. let e : w ≡ 0 + w = omega arith in subst (λ n. jumps_fit_at (weakened_instrs ss is) n x.act ≡ true) e (each w x (spot ss is 0 is w x g)))
  where
    each : (w : ℕ) (x : Instr) → Spot ss is 0 is w x → jumps_fit_at (weakened_instrs ss is) w x.act ≡ true
    each w x (put k i j b h q e s) =
        subst (λ (y : Instr). jumps_fit_at (weakened_instrs ss is) w y.act ≡ true) (sym s) (weak_jumps (weakened_instrs ss is) w b (weak_at (before ss (0 + k) i.act) j b (weak_before ss (0 + k) i.act) q))
    each w x (own k i h e s) =
        let z : k ≡ 0 + k = omega arith in
        let o = own_jumps ss is k i i.act h (plain_at (length is) is k i p h) (subst (λ n. jumps_fit_at is n i.act ≡ true) (sym z) (jumps_at is 0 is k i f h)) in
        let v : seat_of ss is k ≡ w = omega (arith, seat_is ss is k i h, e, ap (λ m. length (before ss m i.act)) z) in
        subst (λ (y : Instr). jumps_fit_at (weakened_instrs ss is) w y.act ≡ true) (sym s)
        (subst (λ m. jumps_fit_at (weakened_instrs ss is) w (retarget (enter ss is m) i.act) ≡ true) z
        (subst (λ n. jumps_fit_at (weakened_instrs ss is) n (retarget (enter ss is k) i.act) ≡ true) v o))

-- ---- its objects

none_first : (is : List Instr) → make_no_objects is ≡ true → objects_are_first is ≡ true
none_first [] h = refl
none_first (i ∷ is) h = let b = both (makes_no_object i) (make_no_objects is) h in ap (λ c. if c then make_no_objects is else objects_are_first is) b.0 ∙ b.1

weak_object : (a : Act) → is_weak a ≡ true → is_none (object_of a) ≡ true
weak_object (act.Compute into x) h = cc
weak_object (act.Alloc into site size) h = cc
weak_object (act.LoadCell into through) h = cc
weak_object (act.StoreCell through from) h = cc
weak_object act.Mark h = cc
weak_object (act.Call g arguments into) h = cc
weak_object (act.Library c arguments into) h = cc
weak_object (act.Jump to) h = cc
weak_object (act.Branch on then_at else_at) h = cc
weak_object (act.Return value) h = cc
weak_object (act.Take r) h = refl
weak_object (act.Give r) h = refl

weak_objects : (i : Instr) (bs : List Act) → AreWeak bs → make_no_objects (map (at_instr i) bs) ≡ true
weak_objects i [] w = refl
weak_objects i (b ∷ bs) w = two (is_none (object_of b)) (make_no_objects (map (at_instr i) bs)) (weak_object b w.0) (weak_objects i bs w.1)

block_objects : (ss : List Stretch) (all : List Instr) (n : ℕ) (i : Instr) → makes_no_object i ≡ true → make_no_objects (block ss all n i) ≡ true
block_objects ss all n i h =
    all_append makes_no_object (map (at_instr i) (before ss n i.act)) (at_instr i (retarget (enter ss all n) i.act) ∷ []) (weak_objects i (before ss n i.act) (weak_before ss n i.act))
    (two (is_none (object_of (retarget (enter ss all n) i.act))) true (ap is_none (object_kept (enter ss all n) i.act) ∙ h) refl)

no_objects : (ss : List Stretch) (all : List Instr) (n : ℕ) (is : List Instr) → make_no_objects is ≡ true → make_no_objects (blocks ss all n is) ≡ true
no_objects ss all n [] h = refl
no_objects ss all n (i ∷ is) h =
    let b = both (makes_no_object i) (make_no_objects is) h in
    all_append makes_no_object (block ss all n i) (blocks ss all (n + 1) is) (block_objects ss all n i b.0) (no_objects ss all (n + 1) is b.1)

pub made_here : (ss : List Stretch) (n : ℕ) (a : Act) → is_none (object_of a) ≡ false → turned ss n ≡ [] → before ss n a ≡ []
made_here ss n (act.Compute into x) h e = cc
made_here ss n (act.Alloc into site size) h e = ap (λ (z : List Act). z ++ []) e
made_here ss n (act.LoadCell into through) h e = cc
made_here ss n (act.StoreCell through from) h e = cc
made_here ss n act.Mark h e = cc
made_here ss n (act.Call g arguments into) h e = cc
made_here ss n (act.Library c arguments into) h e = cc
made_here ss n (act.Jump to) h e = cc
made_here ss n (act.Branch on then_at else_at) h e = cc
made_here ss n (act.Return value) h e = cc
made_here ss n (act.Take r) h e = cc
made_here ss n (act.Give r) h e = cc

objects_from : (ss : List Stretch) (all : List Instr) (n : ℕ) (is : List Instr) → objects_are_first is ≡ true → ((k : ℕ) → k < length (objects_of is) → turned ss (n + k) ≡ []) → objects_are_first (blocks ss all n is) ≡ true
objects_from ss all n [] h free = refl
objects_from ss all n (i ∷ is) h free = go (object_of i.act) refl (λ k f. objects_from ss all (n + 1) is k f)
  where
    go : (o : Option Object) → object_of i.act ≡ o → (objects_are_first is ≡ true → ((k : ℕ) → k < length (objects_of is) → turned ss ((n + 1) + k) ≡ []) → objects_are_first (blocks ss all (n + 1) is) ≡ true) → objects_are_first (blocks ss all n (i ∷ is)) ≡ true
    go None e rec =
        let m : makes_no_object i ≡ true = ap is_none e in
        let r : make_no_objects is ≡ true = ap (λ c. if c then make_no_objects is else objects_are_first is) (sym m) ∙ h in
        none_first (blocks ss all n (i ∷ is)) (no_objects ss all n (i ∷ is) (two (makes_no_object i) (make_no_objects is) m r))
    go (Some o) e rec =
        let m : makes_no_object i ≡ false = ap is_none e in
        let r : objects_are_first is ≡ true = ap (λ c. if c then make_no_objects is else objects_are_first is) (sym m) ∙ h in
        let l : length (objects_of (i ∷ is)) ≡ suc (length (objects_of is)) = ap (λ p. length (and_objects p (objects_of is))) e in
        let z : n + 0 ≡ n = omega arith in
        let b : before ss n i.act ≡ [] = made_here ss n i.act m (subst (λ q. turned ss q ≡ []) z (free 0 (omega (arith, l)))) in
        let x : makes_no_object (at_instr i (retarget (enter ss all n) i.act)) ≡ false = ap is_none (object_kept (enter ss all n) i.act) ∙ m in
        ap (λ (bs : List Act). objects_are_first ((map (at_instr i) bs ++ at_instr i (retarget (enter ss all n) i.act) ∷ []) ++ blocks ss all (n + 1) is)) b
        ∙ ap (λ c. if c then make_no_objects (blocks ss all (n + 1) is) else objects_are_first (blocks ss all (n + 1) is)) x
        ∙ rec r (λ k lt. let s : n + suc k ≡ (n + 1) + k = omega arith in subst (λ q. turned ss q ≡ []) s (free (suc k) (omega (arith, l))))

-- the region begins and ends after the objects
abbrev pub IsAfter : ℕ → Stretch → Type 0
IsAfter m s = (m ≤ s.first) × (m ≤ s.last + 1)

abbrev pub AreAfter : ℕ → List Stretch → Type 0
AreAfter m [] = Unit {0}
AreAfter m (s ∷ ss) = IsAfter m s × AreAfter m ss

none_begins : (m k n : ℕ) (ss : List Stretch) → AreAfter m ss → k < m → numbers_from n (begins_at k) ss ≡ []
none_begins m k n [] h lt = refl
none_begins m k n (s ∷ ss) h lt =
    let no : (s.first == k) ≡ false = grind (arith, nat_tests, h.0.0) in
    ap (λ c. if c then n ∷ numbers_from (n + 1) (begins_at k) ss else numbers_from (n + 1) (begins_at k) ss) no ∙ none_begins m k (n + 1) ss h.1 lt

none_ends : (m k n : ℕ) (ss : List Stretch) → AreAfter m ss → k < m → numbers_from n (ends_before k) ss ≡ []
none_ends m k n [] h lt = refl
none_ends m k n (s ∷ ss) h lt =
    let no : (s.last + 1 == k) ≡ false = grind (arith, nat_tests, h.0.1) in
    ap (λ c. if c then n ∷ numbers_from (n + 1) (ends_before k) ss else numbers_from (n + 1) (ends_before k) ss) no ∙ none_ends m k (n + 1) ss h.1 lt

pub none_turned : (m k : ℕ) (ss : List Stretch) → AreAfter m ss → k < m → turned ss k ≡ []
none_turned m k ss h lt = ap (λ z. gives z ++ takes (beginning ss k)) (none_ends m k 0 ss h lt) ∙ ap (λ z. takes z) (none_begins m k 0 ss h lt)

pub objects : (ss : List Stretch) (is : List Instr) → AreAfter (length (objects_of is)) ss → objects_are_first is ≡ true → objects_are_first (weakened_instrs ss is) ≡ true
objects ss is b h = objects_from ss is 0 is h (λ k lt. let e : k ≡ 0 + k = omega arith in subst (λ q. turned ss q ≡ []) e (none_turned (length (objects_of is)) k ss b lt))

-- ---- all of it

pub order : (ss : List Stretch) (is : List Instr) → ArePlain (length is) is → AreAfter (length (objects_of is)) ss → order_fits is ≡ true → order_fits (weakened_instrs ss is) ≡ true
order ss is p b h =
    let c = both (ends_in_itself is && jumps_fit is 0 is) (objects_are_first is) h in
    let d = both (ends_in_itself is) (jumps_fit is 0 is) c.0 in
    two (ends_in_itself (weakened_instrs ss is) && jumps_fit (weakened_instrs ss is) 0 (weakened_instrs ss is)) (objects_are_first (weakened_instrs ss is))
    (two (ends_in_itself (weakened_instrs ss is)) (jumps_fit (weakened_instrs ss is) 0 (weakened_instrs ss is)) (ends ss is d.0) (jumps ss is p d.1))
    (objects ss is b c.1)
