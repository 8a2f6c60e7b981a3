-- What the instructions of a weakened function name.
use Rattle.std.proofs.Common.{◌≡◌, ℕ, zero, suc, ◌+◌, ◌<◌, ◌≤◌, ◌&&◌, ◌||◌, Bool, true, false, not, List, [], ◌∷◌, ◌++◌, length, map, refl, sym, ap, ◌∙◌, subst, arith, Option, Some, None, reverse, option_map}
use Rattle.std.specs.Prelude.{slice_get, if◌then◌else◌, nat_lt, nat_le}
use Rattle.std.specs.List.{list_all}
use Rattle.std.proofs.lemmas.Bool.Decides.{nat_tests}
use Rattle.std.proofs.lemmas.List.{reverse-append}
use Rattle.std.proofs.lemmas.Option.{same_Some, slice_get-map}
use Rattle.word_semantics.specs.declared.library_call.LibraryCall.{LibraryCall}
use Rattle.word_semantics.specs.declared.library_call.LibraryCall.TheVariants as call
use Rattle.flow_code.specs.declared.act.Act.{Act}
use Rattle.flow_code.specs.declared.act.Act.TheVariants as act
use Rattle.flow_code.specs.declared.act.Instr.{Instr}
use Rattle.flow_code.specs.declared.code.Code.{Code}
use Rattle.flow_code.specs.declared.code.Function.{Function}
use Rattle.flow_code.specs.declared.code.LockInfo.{LockInfo}
use Rattle.flow_code.specs.declared.code.LoopInfo.{LoopInfo}
use Rattle.flow_code.specs.declared.region.Region.{Region}
use Rattle.flow_code.specs.declared.work.Work.{Work}
use Rattle.flow_code.specs.declared.work.Work.TheVariants as work
use Rattle.flow_code.specs.Kinds.{has_register, has_pointer, has_whole, has_kind, have_kinds, is_site, work_fits, formal_kinds, value_fits, call_fits, may_start, starts_fit, library_value_fits, library_fits, has_instr, act_fits}
use Rattle.word_semantics.specs.Kinds.{is_comparison, library_kinds}
use Rattle.flow_code.specs.Threads.{is_main_in}
use Rattle.flow_code.specs.Works.{is_pointer}
use Rattle.weak_code.specs.declared.stretch.Stretch.{Stretch}
use Rattle.weak_code.specs.Places.{numbers_from, begins_at, ends_before, covers, beginning, ending, gives, takes, turned, left, before, place_of, seat_of, enter}
use Rattle.weak_code.specs.Weakened.{retarget, weakened_instrs}
use Rattle.weak_code.proofs.Stripping.{IsPlain, ArePlain}
use Rattle.weak_valid.proofs.Tests.{both, two, all_of, all_at, found}
use Rattle.weak_valid.proofs.Spots.{total, Spot, put, own, spot}
use Rattle.weak_valid.proofs.OrderFits.{plain_at, seat_is, seat_before}

-- ---- a function with other instructions, a code with other functions

abbrev pub function_with : Function → List Instr → List LoopInfo → List Region → Function
function_with fn is ls rs = record { name = fn.name; line = fn.line; formals = fn.formals; registers = fn.registers; pointers = fn.pointers; gives_pointer = fn.gives_pointer; instrs = is; loops = ls; regions = rs }

abbrev pub code_with : Code → List Function → List LockInfo → Code
code_with code fns locks = record { functions = fns; sites = code.sites; globals = code.globals; global_kinds = code.global_kinds; global_bases = code.global_bases; locks = locks }

-- what calls see of a function
abbrev pub bare : Function → Function
bare fn = function_with fn [] [] []

call_bare : (f : Function) (arguments : List ℕ) (into : Option ℕ) (o : Option Function) → call_fits f arguments into (option_map bare o) ≡ call_fits f arguments into o
call_bare f arguments into None = refl
call_bare f arguments into (Some g) = refl

start_bare : (o : Option Function) → may_start (option_map bare o) ≡ may_start o
start_bare None = refl
start_bare (Some g) = refl

at_bare : (fs gs : List Function) (k : ℕ) → map bare gs ≡ map bare fs → option_map bare (slice_get gs k) ≡ option_map bare (slice_get fs k)
at_bare fs gs k e = sym (slice_get-map bare gs k) ∙ ap (λ (z : List Function). slice_get z k) e ∙ slice_get-map bare fs k

-- ---- registers

module _ (fn : Function) (is : List Instr) (ls : List LoopInfo) (rs : List Region) where
  pub kind_same : (b : Bool) (r : ℕ) → has_kind (function_with fn is ls rs) b r ≡ has_kind fn b r
  kind_same true r = refl
  kind_same false r = refl

  kinds_same : (xs : List ℕ) (ks : List Bool) → have_kinds (function_with fn is ls rs) xs ks ≡ have_kinds fn xs ks
  kinds_same [] [] = refl
  kinds_same [] (k ∷ ks) = refl
  kinds_same (x ∷ xs) [] = refl
  kinds_same (x ∷ xs) (k ∷ ks) = ap (λ b. b && have_kinds (function_with fn is ls rs) xs ks) (kind_same k x) ∙ ap (λ b. has_kind fn k x && b) (kinds_same xs ks)

  value_same : (o : Option ℕ) (k : Bool) → value_fits (function_with fn is ls rs) o k ≡ value_fits fn o k
  value_same None k = refl
  value_same (Some r) k = kind_same k r

  call_same : (arguments : List ℕ) (into : Option ℕ) (o : Option Function) → call_fits (function_with fn is ls rs) arguments into o ≡ call_fits fn arguments into o
  call_same arguments into None = refl
  call_same arguments into (Some g) =
      ap (λ b. not (is_main_in (Some g)) && b && value_fits (function_with fn is ls rs) into g.gives_pointer) (kinds_same arguments (formal_kinds g))
      ∙ ap (λ b. not (is_main_in (Some g)) && have_kinds fn arguments (formal_kinds g) && b) (value_same into g.gives_pointer)

  library_value_same : (into : Option ℕ) (c : LibraryCall) → library_value_fits (function_with fn is ls rs) into c ≡ library_value_fits fn into c
  library_value_same into (call.Create g) = value_same into false
  library_value_same into call.Join = value_same into false
  library_value_same into call.Exit = refl
  library_value_same into call.SelfNumber = value_same into false
  library_value_same into call.SameThread = value_same into false
  library_value_same into call.MutexInit = value_same into false
  library_value_same into call.MutexLock = value_same into false
  library_value_same into call.MutexUnlock = value_same into false
  library_value_same into call.MutexTryLock = value_same into false
  library_value_same into call.MutexDestroy = value_same into false
  library_value_same into call.CondInit = value_same into false
  library_value_same into call.CondWait = value_same into false
  library_value_same into call.CondSignal = value_same into false
  library_value_same into call.CondDestroy = value_same into false
  library_value_same into call.BarrierInit = value_same into false
  library_value_same into call.BarrierWait = value_same into false
  library_value_same into call.BarrierDestroy = value_same into false
  library_value_same into call.RwInit = value_same into false
  library_value_same into call.RwRdLock = value_same into false
  library_value_same into call.RwWrLock = value_same into false
  library_value_same into call.RwUnlock = value_same into false
  library_value_same into call.RwDestroy = value_same into false
  library_value_same into call.Free = refl
  library_value_same into call.GetChar = value_same into false
  library_value_same into (call.Print format) = value_same into false
  library_value_same into call.PutChar = value_same into false

  -- ---- instructions

  module _ (code : Code) (fns : List Function) (locks : List LockInfo) (same : map bare fns ≡ map bare code.functions) where
    starts_same : (c : LibraryCall) → starts_fit (code_with code fns locks) c ≡ starts_fit code c
    starts_same (call.Create g) = sym (start_bare (slice_get fns g)) ∙ ap may_start (at_bare code.functions fns g same) ∙ start_bare (slice_get code.functions g)
    starts_same call.Join = refl
    starts_same call.Exit = refl
    starts_same call.SelfNumber = refl
    starts_same call.SameThread = refl
    starts_same call.MutexInit = refl
    starts_same call.MutexLock = refl
    starts_same call.MutexUnlock = refl
    starts_same call.MutexTryLock = refl
    starts_same call.MutexDestroy = refl
    starts_same call.CondInit = refl
    starts_same call.CondWait = refl
    starts_same call.CondSignal = refl
    starts_same call.CondDestroy = refl
    starts_same call.BarrierInit = refl
    starts_same call.BarrierWait = refl
    starts_same call.BarrierDestroy = refl
    starts_same call.RwInit = refl
    starts_same call.RwRdLock = refl
    starts_same call.RwWrLock = refl
    starts_same call.RwUnlock = refl
    starts_same call.RwDestroy = refl
    starts_same call.Free = refl
    starts_same call.GetChar = refl
    starts_same (call.Print format) = refl
    starts_same call.PutChar = refl

    work_same : (into : ℕ) (w : Work) → work_fits (code_with code fns locks) (function_with fn is ls rs) into w ≡ work_fits code fn into w
    work_same into (work.Constant z) = refl
    work_same into (work.Address w) = refl
    work_same into (work.Copy r) = ap (λ b. b && has_register fn into) (kind_same (is_pointer fn.pointers into) r)
    work_same into (work.Minus r) = refl
    work_same into (work.Complement r) = refl
    work_same into (work.Not r) = refl
    work_same into (work.Binary o left right) = ap (λ b. has_whole fn into && (not (is_pointer fn.pointers left) || is_comparison o) && (b && has_register fn left)) (kind_same (is_pointer fn.pointers left) right)
    work_same into (work.Move pointer by element back) = refl
    work_same into (work.Member pointer by) = refl
    work_same into (work.Between left right element) = refl
    work_same into (work.ToPointer r) = refl
    work_same into (work.ToNumber r) = refl

    lookup_same : (arguments : List ℕ) (into : Option ℕ) (g : ℕ) → call_fits fn arguments into (slice_get fns g) ≡ call_fits fn arguments into (slice_get code.functions g)
    lookup_same arguments into g = sym (call_bare fn arguments into (slice_get fns g)) ∙ ap (call_fits fn arguments into) (at_bare code.functions fns g same) ∙ call_bare fn arguments into (slice_get code.functions g)

    library_same : (c : LibraryCall) (arguments : List ℕ) (into : Option ℕ) → library_fits (code_with code fns locks) (function_with fn is ls rs) c arguments into ≡ library_fits code fn c arguments into
    library_same c arguments into =
        ap (λ b. b && have_kinds (function_with fn is ls rs) arguments (library_kinds c) && library_value_fits (function_with fn is ls rs) into c) (starts_same c)
        ∙ ap (λ b. starts_fit code c && b && library_value_fits (function_with fn is ls rs) into c) (kinds_same arguments (library_kinds c))
        ∙ ap (λ b. starts_fit code c && have_kinds fn arguments (library_kinds c) && b) (library_value_same into c)

    target_there : (to : ℕ → ℕ) (n k : ℕ) → ((k : ℕ) → k < n → to k < length is) → k < n → nat_lt (to k) (length is) ≡ true
    target_there to n k t lt = let l : to k < length is = t k lt in grind (arith, nat_tests, l)

    pub own_fits : (to : ℕ → ℕ) (n : ℕ) (a : Act) → ((k : ℕ) → k < n → to k < length is) → IsPlain n a → act_fits code fn a ≡ true → act_fits (code_with code fns locks) (function_with fn is ls rs) (retarget to a) ≡ true
    own_fits to n (act.Compute into w) t p h = work_same into w ∙ h
    own_fits to n (act.Alloc into site size) t p h = ap (λ b. has_pointer fn into && is_site code site && b) (value_same size false) ∙ h
    own_fits to n (act.LoadCell into through) t p h = h
    own_fits to n (act.StoreCell through from) t p h = h
    own_fits to n act.Mark t p h = refl
    own_fits to n (act.Call g arguments into) t p h = call_same arguments into (slice_get fns g) ∙ lookup_same arguments into g ∙ h
    own_fits to n (act.Library c arguments into) t p h = library_same c arguments into ∙ h
    own_fits to n (act.Jump k) t p h = target_there to n k t p
    own_fits to n (act.Branch on then_at else_at) t p h =
        let b = both (has_register fn on && has_instr fn then_at) (has_instr fn else_at) h in
        let c = both (has_register fn on) (has_instr fn then_at) b.0 in
        two (has_register fn on && nat_lt (to then_at) (length is)) (nat_lt (to else_at) (length is))
        (two (has_register fn on) (nat_lt (to then_at) (length is)) c.0 (target_there to n then_at t p.0)) (target_there to n else_at t p.1)
    own_fits to n (act.Return value) t p h = value_same value fn.gives_pointer ∙ h
    own_fits to n (act.Take r) t p h = absurd p
    own_fits to n (act.Give r) t p h = absurd p

-- ---- numbers of regions

abbrev AreBelow : ℕ → List ℕ → Type 0
AreBelow m [] = Unit {0}
AreBelow m (r ∷ rs) = (r < m) × AreBelow m rs

below_append : (m : ℕ) (xs ys : List ℕ) → AreBelow m xs → AreBelow m ys → AreBelow m (xs ++ ys)
below_append m [] ys h k = k
below_append m (x ∷ xs) ys h k = (h.0, below_append m xs ys h.1 k)

below_reverse : (m : ℕ) (xs : List ℕ) → AreBelow m xs → AreBelow m (reverse xs)
below_reverse m [] h = tt
below_reverse m (x ∷ xs) h = subst (AreBelow m) (sym (reverse-append (x ∷ []) xs)) (below_append m (reverse xs) (x ∷ []) (below_reverse m xs h.1) (h.0, tt))

numbers_below : {X : Type 0} (m n : ℕ) (test : X → Bool) (xs : List X) → n + length xs ≤ m → AreBelow m (numbers_from n test xs)
numbers_below m n test [] le = tt
numbers_below m n test (x ∷ xs) le = go (test x) (numbers_below m (n + 1) test xs (omega arith))
  where
    go : (b : Bool) → AreBelow m (numbers_from (n + 1) test xs) → AreBelow m (if b then n ∷ numbers_from (n + 1) test xs else numbers_from (n + 1) test xs)
    go true r = (omega arith, r)
    go false r = r

-- a Take or Give of one of m regions
abbrev pub IsNumbered : ℕ → Act → Type 0
IsNumbered m (act.Take r) = r < m
IsNumbered m (act.Give r) = r < m
IsNumbered m _ = ⊥

abbrev AreNumbered : ℕ → List Act → Type 0
AreNumbered m [] = Unit {0}
AreNumbered m (a ∷ bs) = IsNumbered m a × AreNumbered m bs

numbered_append : (m : ℕ) (xs ys : List Act) → AreNumbered m xs → AreNumbered m ys → AreNumbered m (xs ++ ys)
numbered_append m [] ys h k = k
numbered_append m (x ∷ xs) ys h k = (h.0, numbered_append m xs ys h.1 k)

numbered_gives : (m : ℕ) (rs : List ℕ) → AreBelow m rs → AreNumbered m (map (λ r. act.Give r) rs)
numbered_gives m [] h = tt
numbered_gives m (r ∷ rs) h = (h.0, numbered_gives m rs h.1)

numbered_takes : (m : ℕ) (rs : List ℕ) → AreBelow m rs → AreNumbered m (map (λ r. act.Take r) rs)
numbered_takes m [] h = tt
numbered_takes m (r ∷ rs) h = (h.0, numbered_takes m rs h.1)

left_below : (ss : List Stretch) (k : ℕ) (a : Act) → AreBelow (length ss) (left ss k a)
left_below ss k (act.Compute into w) = tt
left_below ss k (act.Alloc into site size) = tt
left_below ss k (act.LoadCell into through) = tt
left_below ss k (act.StoreCell through from) = tt
left_below ss k act.Mark = tt
left_below ss k (act.Call g arguments into) = tt
left_below ss k (act.Library c arguments into) = tt
left_below ss k (act.Jump to) = tt
left_below ss k (act.Branch on then_at else_at) = tt
left_below ss k (act.Return value) = numbers_below (length ss) 0 (covers k) ss (omega arith)
left_below ss k (act.Take r) = tt
left_below ss k (act.Give r) = tt

numbered_before : (ss : List Stretch) (k : ℕ) (a : Act) → AreNumbered (length ss) (before ss k a)
numbered_before ss k a =
    numbered_append (length ss) (turned ss k) (gives (left ss k a))
    (numbered_append (length ss) (gives (ending ss k)) (takes (beginning ss k))
    (numbered_gives (length ss) (reverse (ending ss k)) (below_reverse (length ss) (ending ss k) (numbers_below (length ss) 0 (ends_before k) ss (omega arith))))
    (numbered_takes (length ss) (beginning ss k) (numbers_below (length ss) 0 (begins_at k) ss (omega arith))))
    (numbered_gives (length ss) (reverse (left ss k a)) (below_reverse (length ss) (left ss k a) (left_below ss k a)))

pub numbered_at : (m : ℕ) (bs : List Act) (j : ℕ) (b : Act) → AreNumbered m bs → slice_get bs j ≡ Some b → IsNumbered m b
numbered_at m [] j b h g = cc
numbered_at m (a ∷ bs) zero b h g = subst (IsNumbered m) (same_Some a b g) h.0
numbered_at m (a ∷ bs) (suc j) b h g = numbered_at m bs j b h.1 g

put_fits : (code : Code) (fn : Function) (m : ℕ) (b : Act) → length fn.regions ≡ m → IsNumbered m b → act_fits code fn b ≡ true
put_fits code fn m (act.Compute into w) e h = absurd h
put_fits code fn m (act.Alloc into site size) e h = absurd h
put_fits code fn m (act.LoadCell into through) e h = absurd h
put_fits code fn m (act.StoreCell through from) e h = absurd h
put_fits code fn m act.Mark e h = absurd h
put_fits code fn m (act.Call g arguments into) e h = absurd h
put_fits code fn m (act.Library c arguments into) e h = absurd h
put_fits code fn m (act.Jump to) e h = absurd h
put_fits code fn m (act.Branch on then_at else_at) e h = absurd h
put_fits code fn m (act.Return value) e h = absurd h
put_fits code fn m (act.Take r) e h = let l : r < length fn.regions = omega (arith, e, h) in grind (arith, nat_tests, l)
put_fits code fn m (act.Give r) e h = let l : r < length fn.regions = omega (arith, e, h) in grind (arith, nat_tests, l)

-- ---- all instructions

-- places of instructions are in the weakened function
pub seat_within : (ss : List Stretch) (is : List Instr) (k : ℕ) → k < length is → seat_of ss is k < length (weakened_instrs ss is)
seat_within ss is k lt = let i = found is k lt in omega (arith, seat_before ss is k (length is) i.0 i.1 lt (omega arith), total ss is 0 is)

pub place_within : (ss : List Stretch) (is : List Instr) (k : ℕ) → k < length is → place_of ss is k < length (weakened_instrs ss is)
place_within ss is k lt = let i = found is k lt in omega (arith, seat_is ss is k i.0 i.1, seat_within ss is k lt)

pub enter_within : (ss : List Stretch) (is : List Instr) (j k : ℕ) → k < length is → enter ss is j k < length (weakened_instrs ss is)
enter_within ss is j k lt = go (nat_le k j)
  where
    go : (b : Bool) → (if b then seat_of ss is k else place_of ss is k) < length (weakened_instrs ss is)
    go true = seat_within ss is k lt
    go false = place_within ss is k lt

pub acts : (code : Code) (fn : Function) (fns : List Function) (locks : List LockInfo) (ss : List Stretch) (ls : List LoopInfo) (rs : List Region)
    → map bare fns ≡ map bare code.functions → length rs ≡ length ss → ArePlain (length fn.instrs) fn.instrs → list_all (λ i. act_fits code fn i.act) fn.instrs ≡ true
    → list_all (λ i. act_fits (code_with code fns locks) (function_with fn (weakened_instrs ss fn.instrs) ls rs) i.act) (weakened_instrs ss fn.instrs) ≡ true
acts code fn fns locks ss ls rs same long p h = all_of (λ i. act_fits (code_with code fns locks) (function_with fn (weakened_instrs ss fn.instrs) ls rs) i.act) (weakened_instrs ss fn.instrs) (λ w x g. each w x (spot ss fn.instrs 0 fn.instrs w x g))
  where
    each : (w : ℕ) (x : Instr) → Spot ss fn.instrs 0 fn.instrs w x → act_fits (code_with code fns locks) (function_with fn (weakened_instrs ss fn.instrs) ls rs) x.act ≡ true
    each w x (put k i j b g q e s) =
        subst (λ (y : Instr). act_fits (code_with code fns locks) (function_with fn (weakened_instrs ss fn.instrs) ls rs) y.act ≡ true) (sym s)
        (put_fits (code_with code fns locks) (function_with fn (weakened_instrs ss fn.instrs) ls rs) (length ss) b long (numbered_at (length ss) (before ss (0 + k) i.act) j b (numbered_before ss (0 + k) i.act) q))
    each w x (own k i g e s) =
        subst (λ (y : Instr). act_fits (code_with code fns locks) (function_with fn (weakened_instrs ss fn.instrs) ls rs) y.act ≡ true) (sym s)
        (own_fits fn (weakened_instrs ss fn.instrs) ls rs code fns locks same (enter ss fn.instrs (0 + k)) (length fn.instrs) i.act (λ m lt. enter_within ss fn.instrs (0 + k) m lt) (plain_at (length fn.instrs) fn.instrs k i p g) (all_at (λ j. act_fits code fn j.act) fn.instrs k i h g))
