-- The weakened code, stripped, is the plain code.
use Rattle.std.proofs.Common.{◌≡◌, ℕ, zero, suc, ◌+◌, ◌<◌, ◌≤◌, ◌&&◌, Bool, true, false, List, [], ◌∷◌, ◌++◌, length, map, refl, sym, ap, ◌∙◌, subst, arith, append_assoc, Some}
use Rattle.std.specs.Prelude.{slice_get, if◌then◌else◌, nat_le, ◌==◌, reverse}
use Rattle.std.specs.List.{list_all}
use Rattle.std.proofs.lemmas.Bool.Decides.{nat_tests}
use Rattle.rr_base.specs.declared.layout.Place.{Place}
use Rattle.flow_code.specs.declared.act.Act.{Act}
use Rattle.flow_code.specs.declared.act.Act.TheVariants as act
use Rattle.flow_code.specs.declared.act.Instr.{Instr}
use Rattle.flow_code.specs.declared.code.Code.{Code}
use Rattle.flow_code.specs.declared.code.Function.{Function}
use Rattle.flow_code.specs.declared.code.LoopInfo.{LoopInfo}
use Rattle.flow_code.specs.declared.region.Region.{Region}
use Rattle.flow_code.specs.declared.code.LockInfo.{LockInfo}
use Rattle.flow_code.specs.Order.{order_fits}
use Rattle.flow_code.specs.Kinds.{act_fits, has_instr, has_register}
use Rattle.flow_code.specs.Regions.{loop_fits, bound_is_register}
use Rattle.flow_code.specs.Valid.{is_valid, is_within_limits, all_locks_fit, has_one_main, functions_fit, function_fits, registers_fit, acts_fit, loops_fit, regions_fit}
use Rattle.word_semantics.specs.Layouts.{sites_fit}
use Rattle.flow_code.specs.Addresses.{globals_fit}
use Rattle.facts.specs.declared.pair.Pair.{Pair}
use Rattle.facts.specs.PointsTo.{Tables}
use Rattle.weak_lock_facts.specs.declared.grain.Grained.{Grained}
use Rattle.weak_lock_facts.specs.declared.range.Range.{Range}
use Rattle.weak_code.specs.declared.stretch.Stretch.{Stretch}
use Rattle.weak_code.specs.WeakLocks.{places_in}
use Rattle.weak_code.specs.Places.{gives, takes, turned, left, before, ending, beginning, place_from, place_of, act_or_mark, seat_of, enter}
use Rattle.weak_code.specs.Weakened.{retarget, at_instr, block, blocks, weakened_instrs, moved_loop, with_stretches, weakened_functions, weakened}
use Rattle.weak_code.specs.Stretches.{racy_accesses, stretches_of}
use Rattle.weak_code.specs.Stripped.{is_weak, plain_of, stripped, stripped_loop, strip_function, strip, is_plain}

both : (p q : Bool) → p && q ≡ true → (p ≡ true) × (q ≡ true)
both true q h = (refl, h)
both false q h = cc

two : (p q : Bool) → p ≡ true → q ≡ true → p && q ≡ true
two true q h k = k
two false q h k = cc

-- ---- weak instructions

abbrev pub AreWeak : List Act → Type 0
AreWeak [] = Unit {0}
AreWeak (a ∷ bs) = (is_weak a ≡ true) × AreWeak bs

weak-append : (xs ys : List Act) → AreWeak xs → AreWeak ys → AreWeak (xs ++ ys)
weak-append [] ys h k = k
weak-append (x ∷ xs) ys h k = (h.0, weak-append xs ys h.1 k)

weak_gives : (rs : List ℕ) → AreWeak (map (λ r. act.Give r) rs)
weak_gives [] = tt
weak_gives (r ∷ rs) = (refl, weak_gives rs)

weak_takes : (rs : List ℕ) → AreWeak (map (λ r. act.Take r) rs)
weak_takes [] = tt
weak_takes (r ∷ rs) = (refl, weak_takes rs)

pub weak_before : (ss : List Stretch) (k : ℕ) (a : Act) → AreWeak (before ss k a)
weak_before ss k a = weak-append (turned ss k) (gives (left ss k a)) (weak-append (gives (ending ss k)) (takes (beginning ss k)) (weak_gives (reverse (ending ss k))) (weak_takes (beginning ss k))) (weak_gives (reverse (left ss k a)))

-- an instruction that isn't weak, and whose targets are among the first n
abbrev pub IsPlain : ℕ → Act → Type 0
IsPlain n (act.Take r) = ⊥
IsPlain n (act.Give r) = ⊥
IsPlain n (act.Jump to) = to < n
IsPlain n (act.Branch on then_at else_at) = (then_at < n) × (else_at < n)
IsPlain n _ = Unit {0}

abbrev pub ArePlain : ℕ → List Instr → Type 0
ArePlain n [] = Unit {0}
ArePlain n (i ∷ is) = IsPlain n i.act × ArePlain n is

pub not_weak : (to : ℕ → ℕ) (n : ℕ) (a : Act) → IsPlain n a → is_weak (retarget to a) ≡ false
not_weak to n (act.Compute into w) h = refl
not_weak to n (act.Alloc into site size) h = refl
not_weak to n (act.LoadCell into through) h = refl
not_weak to n (act.StoreCell through from) h = refl
not_weak to n act.Mark h = refl
not_weak to n (act.Call g arguments into) h = refl
not_weak to n (act.Library c arguments into) h = refl
not_weak to n (act.Jump k) h = refl
not_weak to n (act.Branch on then_at else_at) h = refl
not_weak to n (act.Return value) h = refl
not_weak to n (act.Take r) h = absurd h
not_weak to n (act.Give r) h = absurd h

pub retarget_back : (f g : ℕ → ℕ) (n : ℕ) (a : Act) → ((k : ℕ) → k < n → f (g k) ≡ k) → IsPlain n a → retarget f (retarget g a) ≡ a
retarget_back f g n (act.Compute into w) e h = refl
retarget_back f g n (act.Alloc into site size) e h = refl
retarget_back f g n (act.LoadCell into through) e h = refl
retarget_back f g n (act.StoreCell through from) e h = refl
retarget_back f g n act.Mark e h = refl
retarget_back f g n (act.Call c arguments into) e h = refl
retarget_back f g n (act.Library c arguments into) e h = refl
retarget_back f g n (act.Jump k) e h = ap (λ z. act.Jump z) (e k h)
retarget_back f g n (act.Branch on then_at else_at) e h = ap (λ z. act.Branch on z (f (g else_at))) (e then_at h.0) ∙ ap (λ z. act.Branch on then_at z) (e else_at h.1)
retarget_back f g n (act.Return value) e h = refl
retarget_back f g n (act.Take r) e h = absurd h
retarget_back f g n (act.Give r) e h = absurd h

-- ---- places

length_map : {X Y : Type 0} (f : X → Y) (xs : List X) → length (map f xs) ≡ length xs
length_map f [] = refl
length_map f (x ∷ xs) = ap suc (length_map f xs)

pub plain_zero : (xs : List Instr) → plain_of xs 0 ≡ 0
plain_zero [] = refl
plain_zero (x ∷ xs) = refl

-- within the weak instructions at the front
plain_front : (i : Instr) (bs : List Act) (ys : List Instr) (w : ℕ) → AreWeak bs → w ≤ length bs → plain_of (map (at_instr i) bs ++ ys) w ≡ 0
plain_front i [] ys w h le = ap (plain_of ys) (omega arith) ∙ plain_zero ys
plain_front i (a ∷ bs) ys zero h le = refl
plain_front i (a ∷ bs) ys (suc w) h le = ap (λ b. if b then plain_of (map (at_instr i) bs ++ ys) w else suc (plain_of (map (at_instr i) bs ++ ys) w)) h.0 ∙ plain_front i bs ys w h.1 (omega arith)

suc_add : (m n : ℕ) → suc m + n ≡ suc (m + n)
suc_add m n = omega arith

-- past them
plain_past : (i : Instr) (bs : List Act) (ys : List Instr) (w : ℕ) → AreWeak bs → plain_of (map (at_instr i) bs ++ ys) (length bs + w) ≡ plain_of ys w
plain_past i [] ys w h = let e : 0 + w ≡ w = omega arith in ap (plain_of ys) e
plain_past i (a ∷ bs) ys w h =
    ap (plain_of (at_instr i a ∷ (map (at_instr i) bs ++ ys))) (suc_add (length bs) w)
    ∙ ap (λ b. if b then plain_of (map (at_instr i) bs ++ ys) (length bs + w) else suc (plain_of (map (at_instr i) bs ++ ys) (length bs + w))) h.0
    ∙ plain_past i bs ys w h.1

stripped_past : (f : ℕ → ℕ) (i : Instr) (bs : List Act) (ys : List Instr) → AreWeak bs → stripped f (map (at_instr i) bs ++ ys) ≡ stripped f ys
stripped_past f i [] ys h = refl
stripped_past f i (a ∷ bs) ys h = ap (λ b. if b then stripped f (map (at_instr i) bs ++ ys) else at_instr i (retarget f a) ∷ stripped f (map (at_instr i) bs ++ ys)) h.0 ∙ stripped_past f i bs ys h.1

-- a block, with what follows it
pub block_then : (ss : List Stretch) (all : List Instr) (k : ℕ) (i : Instr) (ys : List Instr) → block ss all k i ++ ys ≡ map (at_instr i) (before ss k i.act) ++ at_instr i (retarget (enter ss all k) i.act) ∷ ys
block_then ss all k i ys = append_assoc (map (at_instr i) (before ss k i.act)) (at_instr i (retarget (enter ss all k) i.act) ∷ []) ys

-- the place that is so far into what stands before the k-th instruction
pub plain_place : (ss : List Stretch) (all : List Instr) (m n k w : ℕ) (is : List Instr) (x : Instr) → ArePlain m is → slice_get is k ≡ Some x → w ≤ length (before ss (n + k) x.act) → plain_of (blocks ss all n is) (place_from ss n is k + w) ≡ k
plain_place ss all m n k w [] x p h le = cc
plain_place ss all m n zero w (i ∷ is) x p h le =
    let e : 0 + w ≡ w = omega arith in
    let s : x ≡ i = cc in
    let z : n + 0 ≡ n = omega arith in
    let l : w ≤ length (before ss n i.act) = subst (λ j. w ≤ length (before ss j i.act)) z (subst (λ y. w ≤ length (before ss (n + 0) y.act)) s le) in
    ap (λ ys. plain_of ys (0 + w)) (block_then ss all n i (blocks ss all (n + 1) is))
    ∙ ap (plain_of (map (at_instr i) (before ss n i.act) ++ at_instr i (retarget (enter ss all n) i.act) ∷ blocks ss all (n + 1) is)) e
    ∙ plain_front i (before ss n i.act) (at_instr i (retarget (enter ss all n) i.act) ∷ blocks ss all (n + 1) is) w (weak_before ss n i.act) l
plain_place ss all m n (suc k) w (i ∷ is) x p h le =
    let z : n + suc k ≡ (n + 1) + k = omega arith in
    let l : w ≤ length (before ss ((n + 1) + k) x.act) = subst (λ j. w ≤ length (before ss j x.act)) z le in
    ap (λ ys. plain_of ys (length (before ss n i.act) + 1 + place_from ss (n + 1) is k + w)) (block_then ss all n i (blocks ss all (n + 1) is))
    ∙ ap (plain_of (map (at_instr i) (before ss n i.act) ++ at_instr i (retarget (enter ss all n) i.act) ∷ blocks ss all (n + 1) is)) (shift (length (before ss n i.act)) (place_from ss (n + 1) is k) w)
    ∙ plain_past i (before ss n i.act) (at_instr i (retarget (enter ss all n) i.act) ∷ blocks ss all (n + 1) is) (suc (place_from ss (n + 1) is k + w)) (weak_before ss n i.act)
    ∙ ap (λ b. if b then plain_of (blocks ss all (n + 1) is) (place_from ss (n + 1) is k + w) else suc (plain_of (blocks ss all (n + 1) is) (place_from ss (n + 1) is k + w))) (not_weak (enter ss all n) m i.act p.0)
    ∙ ap suc (plain_place ss all m (n + 1) k w is x p.1 h l)
  where
    shift : (l q w : ℕ) → (l + 1 + q) + w ≡ l + suc (q + w)
    shift l q w = omega arith

found : {X : Type 0} (xs : List X) (k : ℕ) → k < length xs → (x : X) × (slice_get xs k ≡ Some x)
found [] k lt = absurd (omega arith)
found (x ∷ xs) zero lt = (x, refl)
found (x ∷ xs) (suc k) lt = found xs k (omega arith)

pub plain_front_of : (ss : List Stretch) (m k : ℕ) (is : List Instr) → ArePlain m is → k < length is → plain_of (weakened_instrs ss is) (place_of ss is k) ≡ k
plain_front_of ss m k is p lt = let x = found is k lt in let e : place_of ss is k ≡ place_of ss is k + 0 = omega arith in ap (plain_of (weakened_instrs ss is)) e ∙ plain_place ss is m 0 k 0 is x.0 p x.1 (omega arith)

pub plain_seat : (ss : List Stretch) (m k : ℕ) (is : List Instr) → ArePlain m is → k < length is → plain_of (weakened_instrs ss is) (seat_of ss is k) ≡ k
plain_seat ss m k is p lt =
    let x = found is k lt in
    let z : k ≡ 0 + k = omega arith in
    let l : length (before ss k x.0.act) ≤ length (before ss (0 + k) x.0.act) = subst (λ j. length (before ss k x.0.act) ≤ length (before ss j x.0.act)) z (omega arith) in
    ap (λ o. plain_of (weakened_instrs ss is) (place_of ss is k + length (before ss k (act_or_mark o)))) x.1
    ∙ plain_place ss is m 0 k (length (before ss k x.0.act)) is x.0 p x.1 l

pub plain_enter : (ss : List Stretch) (m j k : ℕ) (is : List Instr) → ArePlain m is → k < length is → plain_of (weakened_instrs ss is) (enter ss is j k) ≡ k
plain_enter ss m j k is p lt = go (nat_le k j)
  where
    go : (b : Bool) → plain_of (weakened_instrs ss is) (if b then seat_of ss is k else place_of ss is k) ≡ k
    go true = plain_seat ss m k is p lt
    go false = plain_front_of ss m k is p lt

-- ---- functions

stripped_blocks : (f : ℕ → ℕ) (ss : List Stretch) (all : List Instr) (m n : ℕ) (is : List Instr) → ((j k : ℕ) → k < m → f (enter ss all j k) ≡ k) → ArePlain m is → stripped f (blocks ss all n is) ≡ is
stripped_blocks f ss all m n [] e p = refl
stripped_blocks f ss all m n (i ∷ is) e p =
    ap (stripped f) (block_then ss all n i (blocks ss all (n + 1) is))
    ∙ stripped_past f i (before ss n i.act) (at_instr i (retarget (enter ss all n) i.act) ∷ blocks ss all (n + 1) is) (weak_before ss n i.act)
    ∙ ap (λ b. if b then stripped f (blocks ss all (n + 1) is) else at_instr i (retarget f (retarget (enter ss all n) i.act)) ∷ stripped f (blocks ss all (n + 1) is)) (not_weak (enter ss all n) m i.act p.0)
    ∙ ap (λ a. at_instr i a ∷ stripped f (blocks ss all (n + 1) is)) (retarget_back f (enter ss all n) m i.act (e n) p.0)
    ∙ ap (λ zs. i ∷ zs) (stripped_blocks f ss all m (n + 1) is e p.1)

pub stripped_instrs : (ss : List Stretch) (is : List Instr) → ArePlain (length is) is → stripped (plain_of (weakened_instrs ss is)) (weakened_instrs ss is) ≡ is
stripped_instrs ss is p = stripped_blocks (plain_of (weakened_instrs ss is)) ss is (length is) 0 is (λ j k lt. plain_enter ss (length is) j k is p lt) p

-- the loop's instructions are in the function
abbrev pub IsWithin : ℕ → LoopInfo → Type 0
IsWithin n l = (l.at < n) × (l.first < n) × (l.last < n)

abbrev pub AreWithin : ℕ → List LoopInfo → Type 0
AreWithin n [] = Unit {0}
AreWithin n (l ∷ ls) = IsWithin n l × AreWithin n ls

loop_at : LoopInfo → ℕ → ℕ → ℕ → LoopInfo
loop_at l at first last = record { at = at; first = first; last = last; counter = l.counter; bound = l.bound; step = l.step }

stripped_moved : (ss : List Stretch) (is : List Instr) (l : LoopInfo) → ArePlain (length is) is → IsWithin (length is) l → stripped_loop (plain_of (weakened_instrs ss is)) (moved_loop ss is l) ≡ l
unfolding loop_at
stripped_moved ss is l p h =
    ap (λ z. loop_at l z (plain_of (weakened_instrs ss is) (place_of ss is l.first)) (plain_of (weakened_instrs ss is) (seat_of ss is l.last))) (plain_seat ss (length is) l.at is p h.0)
    ∙ ap (λ z. loop_at l l.at z (plain_of (weakened_instrs ss is) (seat_of ss is l.last))) (plain_front_of ss (length is) l.first is p h.1)
    ∙ ap (λ z. loop_at l l.at l.first z) (plain_seat ss (length is) l.last is p h.2)

stripped_loops : (ss : List Stretch) (is : List Instr) (ls : List LoopInfo) → ArePlain (length is) is → AreWithin (length is) ls → map (stripped_loop (plain_of (weakened_instrs ss is))) (map (moved_loop ss is) ls) ≡ ls
stripped_loops ss is [] p h = refl
stripped_loops ss is (l ∷ ls) p h = ap (λ z. z ∷ map (stripped_loop (plain_of (weakened_instrs ss is))) (map (moved_loop ss is) ls)) (stripped_moved ss is l p h.0) ∙ ap (λ zs. l ∷ zs) (stripped_loops ss is ls p h.1)

function_with : Function → List Instr → List LoopInfo → List Region → Function
function_with fn is ls rs = record { name = fn.name; line = fn.line; formals = fn.formals; registers = fn.registers; pointers = fn.pointers; gives_pointer = fn.gives_pointer; instrs = is; loops = ls; regions = rs }

pub strip_with : (fn : Function) (ss : List Stretch) → ArePlain (length fn.instrs) fn.instrs → AreWithin (length fn.instrs) fn.loops → fn.regions ≡ [] → strip_function (with_stretches fn ss) ≡ fn
unfolding function_with
strip_with fn ss p h r =
    ap (λ z. function_with fn z (map (stripped_loop (plain_of (weakened_instrs ss fn.instrs))) (map (moved_loop ss fn.instrs) fn.loops)) []) (stripped_instrs ss fn.instrs p)
    ∙ ap (λ z. function_with fn fn.instrs z []) (stripped_loops ss fn.instrs fn.loops p h)
    ∙ ap (λ z. function_with fn fn.instrs fn.loops z) (sym r)

-- ---- valid codes without regions

pub no_items : {X : Type 0} (xs : List X) → (length xs == 0) ≡ true → xs ≡ []
no_items [] h = refl
no_items (x ∷ xs) h = let e : length (x ∷ xs) ≡ 0 = grind (arith, nat_tests, h) in absurd (omega (arith, e))

pub plain_act : (code : Code) (fn : Function) (a : Act) → fn.regions ≡ [] → act_fits code fn a ≡ true → IsPlain (length fn.instrs) a
plain_act code fn (act.Compute into w) r h = tt
plain_act code fn (act.Alloc into site size) r h = tt
plain_act code fn (act.LoadCell into through) r h = tt
plain_act code fn (act.StoreCell through from) r h = tt
plain_act code fn act.Mark r h = tt
plain_act code fn (act.Call g arguments into) r h = tt
plain_act code fn (act.Library c arguments into) r h = tt
plain_act code fn (act.Jump to) r h = grind (arith, nat_tests, h)
plain_act code fn (act.Branch on then_at else_at) r h =
    let a = both (has_register fn on && has_instr fn then_at) (has_instr fn else_at) h in
    let b = both (has_register fn on) (has_instr fn then_at) a.0 in
    let t : then_at < length fn.instrs = grind (arith, nat_tests, b.1) in
    let e : else_at < length fn.instrs = grind (arith, nat_tests, a.1) in
    (t, e)
plain_act code fn (act.Return value) r h = tt
plain_act code fn (act.Take q) r h = let n : length fn.regions ≡ 0 = ap (λ (z : List Region). length z) r in let l : q < length fn.regions = grind (arith, nat_tests, h) in absurd (omega (arith, l, n))
plain_act code fn (act.Give q) r h = let n : length fn.regions ≡ 0 = ap (λ (z : List Region). length z) r in let l : q < length fn.regions = grind (arith, nat_tests, h) in absurd (omega (arith, l, n))

pub plain_acts : (code : Code) (fn : Function) (is : List Instr) → fn.regions ≡ [] → list_all (λ i. act_fits code fn i.act) is ≡ true → ArePlain (length fn.instrs) is
plain_acts code fn [] r h = tt
plain_acts code fn (i ∷ is) r h = let a = both (act_fits code fn i.act) (list_all (λ j. act_fits code fn j.act) is) h in (plain_act code fn i.act r a.0, plain_acts code fn is r a.1)

loop_within : (fn : Function) (l : LoopInfo) → loop_fits fn l ≡ true → IsWithin (length fn.instrs) l
loop_within fn l h =
    let a = both (has_instr fn l.at && has_instr fn l.first && has_instr fn l.last && has_register fn l.counter) (bound_is_register fn l.bound) h in
    let b = both (has_instr fn l.at && has_instr fn l.first && has_instr fn l.last) (has_register fn l.counter) a.0 in
    let c = both (has_instr fn l.at && has_instr fn l.first) (has_instr fn l.last) b.0 in
    let d = both (has_instr fn l.at) (has_instr fn l.first) c.0 in
    let x : l.at < length fn.instrs = grind (arith, nat_tests, d.0) in
    let y : l.first < length fn.instrs = grind (arith, nat_tests, d.1) in
    let z : l.last < length fn.instrs = grind (arith, nat_tests, c.1) in
    (x, y, z)

pub loops_within : (fn : Function) (ls : List LoopInfo) → list_all (loop_fits fn) ls ≡ true → AreWithin (length fn.instrs) ls
loops_within fn [] h = tt
loops_within fn (l ∷ ls) h = let a = both (loop_fits fn l) (list_all (loop_fits fn) ls) h in (loop_within fn l a.0, loops_within fn ls a.1)

pub strip_fitting : (code : Code) (fn : Function) (ss : List Stretch) → function_fits code fn ≡ true → (length fn.regions == 0) ≡ true → strip_function (with_stretches fn ss) ≡ fn
strip_fitting code fn ss h n =
    let r = no_items fn.regions n in
    let a = both (registers_fit fn && order_fits fn.instrs && acts_fit code fn fn.instrs && loops_fit fn fn.loops) (regions_fit code fn fn.regions) h in
    let b = both (registers_fit fn && order_fits fn.instrs && acts_fit code fn fn.instrs) (loops_fit fn fn.loops) a.0 in
    let c = both (registers_fit fn && order_fits fn.instrs) (acts_fit code fn fn.instrs) b.0 in
    strip_with fn ss (plain_acts code fn fn.instrs r c.1) (loops_within fn fn.loops b.1) r

strip_functions : (code : Code) (t : Tables) (locked : List Place) (rs : List Range) (rows : List Grained) (f : ℕ) (fns : List Function) → list_all (function_fits code) fns ≡ true → list_all (λ fn. length fn.regions == 0) fns ≡ true → map strip_function (weakened_functions code t locked rs rows f fns) ≡ fns
strip_functions code t locked rs rows f [] h n = refl
strip_functions code t locked rs rows f (fn ∷ fns) h n =
    let a = both (function_fits code fn) (list_all (function_fits code) fns) h in
    let b = both (length fn.regions == 0) (list_all (λ fn. length fn.regions == 0) fns) n in
    ap (λ z. z ∷ map strip_function (weakened_functions code t locked rs rows (f + 1) fns)) (strip_fitting code fn (stretches_of fn (racy_accesses code t locked rs rows f)) a.0 b.0)
    ∙ ap (λ zs. fn ∷ zs) (strip_functions code t locked rs rows (f + 1) fns a.1 b.1)

code_with : Code → List Function → List LockInfo → Code
code_with code fns locks = record { functions = fns; sites = code.sites; globals = code.globals; global_kinds = code.global_kinds; global_bases = code.global_bases; locks = locks }

pub strip-weakened : (code : Code) (t : Tables) (vs : List Pair) (rs : List Range) (rows : List Grained) → is_valid code ≡ true → is_plain code ≡ true → strip (weakened code t vs rs rows) ≡ code
unfolding weakened code_with
strip-weakened code t vs rs rows v p =
    let a = both (is_within_limits code && sites_fit code.sites && all_locks_fit code code.locks && has_one_main code.functions && functions_fit code code.functions) (globals_fit code) v in
    let b = both (is_within_limits code && sites_fit code.sites && all_locks_fit code code.locks && has_one_main code.functions) (functions_fit code code.functions) a.0 in
    let n = both (length code.locks == 0) (list_all (λ fn. length fn.regions == 0) code.functions) p in
    ap (λ z. code_with code z []) (strip_functions code t (places_in vs) rs rows 0 code.functions b.1 n.1)
    ∙ ap (λ z. code_with code code.functions z) (sym (no_items code.locks n.0))
