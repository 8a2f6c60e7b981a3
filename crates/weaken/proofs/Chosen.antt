-- What a valid code, and its own rows and ranges, give to a function.
use Rattle.std.proofs.Common.{◌≡◌, ℕ, zero, suc, ◌+◌, ◌<◌, ◌&&◌, Bool, true, false, List, [], ◌∷◌, ◌++◌, length, drop, refl, sym, ap, ◌∙◌, subst, arith, append_assoc, Option, Some, None}
use Rattle.std.specs.Prelude.{slice_get, slice_index_or, if◌then◌else◌, filter, find, option_map, ◌==◌, ◌||◌, All}
use Rattle.std.specs.List.{filter_map, list_all}
use Rattle.std.proofs.lemmas.Bool.Decides.{nat_tests}
use Rattle.std.proofs.lemmas.Option.{same_Some}
use Rattle.std.proofs.lemmas.List.Elements.{All-nil, All-cons}
use Rattle.rr_base.specs.declared.layout.Place.{Place}
use Rattle.flow_code.specs.declared.act.Act.{Act}
use Rattle.flow_code.specs.declared.act.Act.TheVariants as act
use Rattle.flow_code.specs.declared.act.Instr.{Instr}
use Rattle.flow_code.specs.declared.code.Code.{Code}
use Rattle.flow_code.specs.declared.code.Function.{Function}
use Rattle.flow_code.specs.Next.{act_in}
use Rattle.flow_code.specs.Threads.{instrs_in}
use Rattle.flow_code.specs.Order.{order_fits, ends_in_itself, jumps_fit, objects_are_first}
use Rattle.flow_code.specs.Kinds.{act_fits, has_instr, has_register}
use Rattle.flow_code.specs.Valid.{is_valid, is_within_limits, all_locks_fit, has_one_main, functions_fit, function_fits, registers_fit, acts_fit, loops_fit, regions_fit}
use Rattle.word_semantics.specs.Layouts.{sites_fit}
use Rattle.flow_code.specs.Addresses.{globals_fit}
use Rattle.facts.specs.declared.pair.AccessAt.{AccessAt}
use Rattle.facts.specs.declared.pair.Pair.{Pair}
use Rattle.facts.specs.Accesses.{Access}
use Rattle.facts.specs.Pairs.{access_in, act_of, pairs_ascend, pair_less, place_less, place_same, access_less, access_same}
use Rattle.facts.specs.PointsTo.{Tables, are_ascending, is_before}
use Rattle.weak_lock_facts.specs.declared.grain.Grained.{Grained}
use Rattle.weak_lock_facts.specs.declared.range.Range.{Range}
use Rattle.weak_code.specs.declared.stretch.RacyAccess.{RacyAccess}
use Rattle.weak_code.specs.WeakLocks.{places_in}
use Rattle.weak_code.specs.Stretches.{racy_access, racy_through, racy_accesses}
use Rattle.weak_code.specs.WeakLocks.{locks_for}
use Rattle.weak_code.specs.Weakened.{weakened_function, weakened_functions, weakened}
use Rattle.rr_base.specs.declared.layout.Site.{Site}
use Rattle.rr_base.specs.declared.layout.CellKind.{CellKind}
use Rattle.flow_code.specs.declared.code.LockInfo.{LockInfo}
use Rattle.weaken.specs.Registers.{access_through, through_of}
use Rattle.weaken.specs.Tables.{AreShifts}
use Rattle.weaken.specs.Jumps.{jumps_within, all_jumps_within}
use Rattle.weaken.proofs.Nexts.{dropped, found}
use Rattle.weaken.proofs.Found.{same_place, Ahead}

pub both : (p q : Bool) → p && q ≡ true → (p ≡ true) × (q ≡ true)
both true q h = (refl, h)
both false q h = cc

two : (p q : Bool) → p ≡ true → q ≡ true → p && q ≡ true
two true q h k = k
two false q h k = cc

-- ---- what validity gives

pub all_at : {X : Type 0} (p : X → Bool) (xs : List X) (i : ℕ) (x : X) → list_all p xs ≡ true → slice_get xs i ≡ Some x → p x ≡ true
all_at p [] i x h g = cc
all_at p (y ∷ ys) zero x h g = subst (λ z. p z ≡ true) (same_Some y x g) (both (p y) (list_all p ys) h).0
all_at p (y ∷ ys) (suc i) x h g = all_at p ys i x (both (p y) (list_all p ys) h).1 g

pub fits_at : (code : Code) (f : ℕ) (fn : Function) → is_valid code ≡ true → slice_get code.functions f ≡ Some fn → function_fits code fn ≡ true
fits_at code f fn v g =
    let a = both (is_within_limits code && sites_fit code.sites && all_locks_fit code code.locks && has_one_main code.functions && functions_fit code code.functions) (globals_fit code) v in
    let b = both (is_within_limits code && sites_fit code.sites && all_locks_fit code code.locks && has_one_main code.functions) (functions_fit code code.functions) a.0 in
    all_at (function_fits code) code.functions f fn b.1 g

fits_loops : (code : Code) (fn : Function) → function_fits code fn ≡ true → ((registers_fit fn && order_fits fn.instrs && acts_fit code fn fn.instrs) ≡ true) × (loops_fit fn fn.loops ≡ true)
fits_loops code fn h =
    let a = both (registers_fit fn && order_fits fn.instrs && acts_fit code fn fn.instrs && loops_fit fn fn.loops) (regions_fit code fn fn.regions) h in
    both (registers_fit fn && order_fits fn.instrs && acts_fit code fn fn.instrs) (loops_fit fn fn.loops) a.0

pub loops_of_fits : (code : Code) (fn : Function) → function_fits code fn ≡ true → loops_fit fn fn.loops ≡ true
loops_of_fits code fn h = (fits_loops code fn h).1

acts_of_fits : (code : Code) (fn : Function) → function_fits code fn ≡ true → acts_fit code fn fn.instrs ≡ true
acts_of_fits code fn h = (both (registers_fit fn && order_fits fn.instrs) (acts_fit code fn fn.instrs) (fits_loops code fn h).0).1

pub filled : (code : Code) (fn : Function) → function_fits code fn ≡ true → 0 < length fn.instrs
filled code fn h = go fn.instrs e
  where
    e : ends_in_itself fn.instrs ≡ true
    e =
        let a = both (registers_fit fn && order_fits fn.instrs) (acts_fit code fn fn.instrs) (fits_loops code fn h).0 in
        let b = both (registers_fit fn) (order_fits fn.instrs) a.0 in
        let c = both (ends_in_itself fn.instrs && jumps_fit fn.instrs 0 fn.instrs) (objects_are_first fn.instrs) b.1 in
        (both (ends_in_itself fn.instrs) (jumps_fit fn.instrs 0 fn.instrs) c.0).0

    go : (is : List Instr) → ends_in_itself is ≡ true → 0 < length is
    go [] e = cc
    go (i ∷ is) e = omega arith

act_jumps : (code : Code) (fn : Function) (a : Act) → act_fits code fn a ≡ true → jumps_within (length fn.instrs) a ≡ true
act_jumps code fn (act.Compute into w) h = refl
act_jumps code fn (act.Alloc into site size) h = refl
act_jumps code fn (act.LoadCell into through) h = refl
act_jumps code fn (act.StoreCell through from) h = refl
act_jumps code fn act.Mark h = refl
act_jumps code fn (act.Call g arguments into) h = refl
act_jumps code fn (act.Library c arguments into) h = refl
act_jumps code fn (act.Jump to) h = h
act_jumps code fn (act.Branch on then_at else_at) h =
    let a = both (has_register fn on && has_instr fn then_at) (has_instr fn else_at) h in
    two (has_instr fn then_at) (has_instr fn else_at) (both (has_register fn on) (has_instr fn then_at) a.0).1 a.1
act_jumps code fn (act.Return value) h = refl
act_jumps code fn (act.Take r) h = refl
act_jumps code fn (act.Give r) h = refl

all_jumps : (code : Code) (fn : Function) (is : List Instr) → list_all (λ i. act_fits code fn i.act) is ≡ true → list_all (λ i. jumps_within (length fn.instrs) i.act) is ≡ true
all_jumps code fn [] h = refl
all_jumps code fn (i ∷ is) h = let a = both (act_fits code fn i.act) (list_all (λ j. act_fits code fn j.act) is) h in two (jumps_within (length fn.instrs) i.act) (list_all (λ j. jumps_within (length fn.instrs) j.act) is) (act_jumps code fn i.act a.0) (all_jumps code fn is a.1)

pub jumps_of_fits : (code : Code) (fn : Function) → function_fits code fn ≡ true → all_jumps_within (length fn.instrs) fn.instrs ≡ true
jumps_of_fits code fn h = all_jumps code fn fn.instrs (acts_of_fits code fn h)

-- ---- ranges

filter_passes : {X : Type 0} (p : X → Bool) (xs : List X) (k : ℕ) (x : X) → slice_get (filter p xs) k ≡ Some x → p x ≡ true
filter_passes p [] k x h = cc
filter_passes {X} p (y ∷ ys) k x h = go (p y) refl k h (λ j g. filter_passes p ys j x g)
  where
    go : (b : Bool) → p y ≡ b → (k : ℕ) → slice_get (if b then y ∷ filter p ys else filter p ys) k ≡ Some x → ((j : ℕ) → slice_get (filter p ys) j ≡ Some x → p x ≡ true) → p x ≡ true
    go true e zero h r = subst (λ z. p z ≡ true) (same_Some y x h) e
    go true e (suc k) h r = r k h
    go false e k h r = r k h

-- the first of those of the function at an instruction is the first of all at both
first_found : (f k : ℕ) (rs : List Range) → slice_get (filter (λ r. r.instr == k) (filter (λ r. r.function == f) rs)) 0 ≡ find (λ r. (r.function == f) && (r.instr == k)) rs
first_found f k [] = refl
first_found f k (r ∷ rs) = go (r.function == f) (r.instr == k) (first_found f k rs)
  where
    go : (a b : Bool) → slice_get (filter (λ r. r.instr == k) (filter (λ r. r.function == f) rs)) 0 ≡ find (λ r. (r.function == f) && (r.instr == k)) rs → slice_get (filter (λ r. r.instr == k) (if a then r ∷ filter (λ r. r.function == f) rs else filter (λ r. r.function == f) rs)) 0 ≡ (if a && (r.instr == k) then Some r else find (λ r. (r.function == f) && (r.instr == k)) rs)
    go true c e = one (r.instr == k)
      where
        one : (b : Bool) → slice_get (if b then r ∷ filter (λ r. r.instr == k) (filter (λ r. r.function == f) rs) else filter (λ r. r.instr == k) (filter (λ r. r.function == f) rs)) 0 ≡ (if b then Some r else find (λ r. (r.function == f) && (r.instr == k)) rs)
        one true = refl
        one false = e
    go false c e = e

instr_inside : (code : Code) (a : AccessAt) (fn : Function) (r : ℕ) → slice_get code.functions a.function ≡ Some fn → access_through code a ≡ Some r → a.instr < length fn.instrs
instr_inside code a fn r g h = go (slice_get fn.instrs a.instr) refl (subst (λ (o : Option Function). through_of (access_in (act_in (slice_get (instrs_in o) a.instr))) ≡ Some r) g h)
  where
    inside : {X : Type 0} (ys : List X) (j : ℕ) (y : X) → slice_get ys j ≡ Some y → j < length ys
    inside [] j y h = cc
    inside (z ∷ zs) zero y h = omega arith
    inside (z ∷ zs) (suc j) y h = let r = inside zs j y h in omega arith

    go : (o : Option Instr) → slice_get fn.instrs a.instr ≡ o → through_of (access_in (act_in o)) ≡ Some r → a.instr < length fn.instrs
    go None e h = cc
    go (Some i) e h = inside fn.instrs a.instr i e

pub are_shifts : (code : Code) (f : ℕ) (fn : Function) (rs own_rs : List Range) (rows own : List Grained) (groups : List (List Range)) → slice_get code.functions f ≡ Some fn → own_rs ≡ filter (λ r. r.function == f) rs → own ≡ filter (λ g. g.access.function == f) rows
    → ((k : ℕ) → k < length fn.instrs → slice_index_or groups k [] ≡ filter (λ r. r.instr == k) own_rs) → AreShifts code rs groups own
are_shifts code f fn rs own_rs rows own groups h e o each k r g at through =
    let of_f : (g.access.function == f) ≡ true = filter_passes (λ g. g.access.function == f) rows k g (ap (λ z. slice_get z k) (sym o) ∙ at) in
    let s : f ≡ g.access.function = grind (arith, nat_tests, of_f) in
    let lt : g.access.instr < length fn.instrs = instr_inside code g.access fn r (ap (slice_get code.functions) (sym s) ∙ h) through in
    ap (λ (z : List Range). option_map (λ r. r.shift) (slice_get z 0)) (each g.access.instr lt ∙ ap (filter (λ r. r.instr == g.access.instr)) (e ∙ ap (λ n. filter (λ r. r.function == n) rs) s))
    ∙ ap (option_map (λ r. r.shift)) (first_found g.access.function g.access.instr rs)

-- ---- accesses are in their function

filter_map_all : {X Y : Type 0} (f : X → Option Y) (P : Y → Type 0) (xs : List X) → ((x : X) (y : Y) (k : ℕ) → slice_get xs k ≡ Some x → f x ≡ Some y → P y) → All P (filter_map f xs)
filter_map_all f P [] h = All-nil P
filter_map_all {X} {Y} f P (x ∷ xs) h = go (f x) refl (filter_map_all f P xs (λ z y k. h z y (suc k)))
  where
    go : (o : Option Y) → f x ≡ o → All P (filter_map f xs) → All P (filter_map f (x ∷ xs))
    go None e r = subst (All P) (sym (nothing e)) r
      where
        nothing : f x ≡ None → filter_map f (x ∷ xs) ≡ filter_map f xs
        nothing e = grind (arith, e)
    go (Some y) e r = subst (All P) (sym (one e)) (All-cons P y (filter_map f xs) (h x y 0 refl e) r)
      where
        one : f x ≡ Some y → filter_map f (x ∷ xs) ≡ y ∷ filter_map f xs
        one e = grind (arith, e)

racy_instr : (code : Code) (t : Tables) (locked : List Place) (rs : List Range) (g : Grained) (a : RacyAccess) → racy_access code t locked rs g ≡ Some a → (a.instr ≡ g.access.instr) × ((r : ℕ) × (access_through code g.access ≡ Some r))
racy_instr code t locked rs g a h = go (access_in (act_of code g.access)) refl h
  where
    go : (o : Option Access) → access_in (act_of code g.access) ≡ o → option_map (racy_through code t locked rs g) o ≡ Some a → (a.instr ≡ g.access.instr) × ((r : ℕ) × (access_through code g.access ≡ Some r))
    go None e h = cc
    go (Some x) e h = (ap (λ (z : RacyAccess). z.instr) (sym (same_Some (racy_through code t locked rs g x) a h)), (x.through, ap through_of e))

pub accesses_inside : (code : Code) (t : Tables) (locked : List Place) (rs : List Range) (rows : List Grained) (f : ℕ) (fn : Function) → slice_get code.functions f ≡ Some fn → All (λ a. a.instr < length fn.instrs) (racy_accesses code t locked rs rows f)
accesses_inside code t locked rs rows f fn h = filter_map_all (racy_access code t locked rs) (λ a. a.instr < length fn.instrs) (filter (λ g. g.access.function == f) rows) each
  where
    each : (g : Grained) (a : RacyAccess) (k : ℕ) → slice_get (filter (λ g. g.access.function == f) rows) k ≡ Some g → racy_access code t locked rs g ≡ Some a → a.instr < length fn.instrs
    each g a k at e =
        let of_f : (g.access.function == f) ≡ true = filter_passes (λ g. g.access.function == f) rows k g at in
        let s : f ≡ g.access.function = grind (arith, nat_tests, of_f) in
        let r = racy_instr code t locked rs g a e in
        let lt : g.access.instr < length fn.instrs = instr_inside code g.access fn r.1.0 (ap (slice_get code.functions) (sym s) ∙ h) r.1.1 in
        omega (arith, r.0, lt)

-- ---- places of pairs

same_class : (p q : Place) → place_same p q ≡ true → p ≡ q
same_class p q h = same_place p q h

first_place : (p : Place) (v : Pair) (vs : List Pair) → is_before p v.place ≡ true → Ahead p (places_in (v ∷ vs))
first_place p v [] h = h
first_place p v (w ∷ vs) h = go (place_same v.place w.place) refl (λ b. first_place p w vs b)
  where
    go : (b : Bool) → place_same v.place w.place ≡ b → (is_before p w.place ≡ true → Ahead p (places_in (w ∷ vs))) → Ahead p (if b then places_in (w ∷ vs) else v.place ∷ places_in (w ∷ vs))
    go true e r = r (subst (λ z. is_before p z ≡ true) (same_place v.place w.place e) h)
    go false e r = h

pair_before : (v w : Pair) → pair_less v w ≡ true → place_same v.place w.place ≡ false → is_before v.place w.place ≡ true
pair_before v w h s = go (place_less v.place w.place) refl h
  where
    go : (b : Bool) → place_less v.place w.place ≡ b → (b || (place_same v.place w.place && (access_less v.first w.first || (access_same v.first w.first && access_less v.second w.second)))) ≡ true → is_before v.place w.place ≡ true
    go true e h = e
    go false e h = let f = ap (λ c. c && (access_less v.first w.first || (access_same v.first w.first && access_less v.second w.second))) s in cc

ahead_ascends : (p : Place) (ps : List Place) → Ahead p ps → are_ascending ps ≡ true → are_ascending (p ∷ ps) ≡ true
ahead_ascends p [] a h = refl
ahead_ascends p (q ∷ qs) a h = two (is_before p q) (are_ascending (q ∷ qs)) a h

pub places_ascend : (vs : List Pair) → pairs_ascend vs ≡ true → are_ascending (places_in vs) ≡ true
places_ascend [] h = refl
places_ascend (v ∷ []) h = refl
places_ascend (v ∷ w ∷ vs) h = let b = both (pair_less v w) (pairs_ascend (w ∷ vs)) h in go (place_same v.place w.place) refl b.0 (places_ascend (w ∷ vs) b.1)
  where
    go : (b : Bool) → place_same v.place w.place ≡ b → pair_less v w ≡ true → are_ascending (places_in (w ∷ vs)) ≡ true → are_ascending (if b then places_in (w ∷ vs) else v.place ∷ places_in (w ∷ vs)) ≡ true
    go true e l r = r
    go false e l r = ahead_ascends v.place (places_in (w ∷ vs)) (first_place v.place w vs (pair_before v w l e)) r

-- ---- functions

pub functions_step : (code : Code) (t : Tables) (locked : List Place) (rs : List Range) (rows : List Grained) (f : ℕ) (fn g : Function) (old new all : List Function) → slice_get code.functions f ≡ Some fn → ((x : Function) → slice_get code.functions f ≡ Some x → g ≡ weakened_function code t locked rs rows f x) → new ≡ old ++ g ∷ []
    → old ++ weakened_functions code t locked rs rows f (drop f code.functions) ≡ all → new ++ weakened_functions code t locked rs rows (f + 1) (drop (f + 1) code.functions) ≡ all
functions_step code t locked rs rows f fn g old new all h e p q =
    ap (λ z. z ++ weakened_functions code t locked rs rows (f + 1) (drop (f + 1) code.functions)) (p ∙ ap (λ z. old ++ z ∷ []) (e fn h))
    ∙ append_assoc old (weakened_function code t locked rs rows f fn ∷ []) (weakened_functions code t locked rs rows (f + 1) (drop (f + 1) code.functions))
    ∙ ap (λ z. old ++ z) (sym (ap (weakened_functions code t locked rs rows f) (dropped code.functions f fn h))) ∙ q

pub functions_step_in : (code : Code) (t : Tables) (locked : List Place) (rs : List Range) (rows : List Grained) (f : ℕ) (g : Function) (old new all : List Function) → f < length code.functions → ((x : Function) → slice_get code.functions f ≡ Some x → g ≡ weakened_function code t locked rs rows f x) → new ≡ old ++ g ∷ []
    → old ++ weakened_functions code t locked rs rows f (drop f code.functions) ≡ all → new ++ weakened_functions code t locked rs rows (f + 1) (drop (f + 1) code.functions) ≡ all
functions_step_in code t locked rs rows f g old new all lt e p q = let x = found code.functions f lt in functions_step code t locked rs rows f x.0 g old new all x.1 e p q

code_of : List Function → List Site → List ℕ → List CellKind → List (Option ℕ) → List LockInfo → Code
code_of fns sites globals kinds bases locks = record { functions = fns; sites = sites; globals = globals; global_kinds = kinds; global_bases = bases; locks = locks }

pub weakened-is : (code : Code) (t : Tables) (vs : List Pair) (rs : List Range) (rows : List Grained) (ps : List Place) (fns : List Function) (sites : List Site) (globals : List ℕ) (kinds : List CellKind) (bases : List (Option ℕ)) (locks : List LockInfo)
    → ps ≡ places_in vs → fns ≡ weakened_functions code t ps rs rows 0 code.functions → sites ≡ code.sites → globals ≡ code.globals → kinds ≡ code.global_kinds → bases ≡ code.global_bases → locks ≡ locks_for code t rows ps
    → record { functions = fns; sites = sites; globals = globals; global_kinds = kinds; global_bases = bases; locks = locks } ≡ weakened code t vs rs rows
unfolding weakened code_of
weakened-is code t vs rs rows ps fns sites globals kinds bases locks e f g h i b j =
    ap (λ z. code_of z sites globals kinds bases locks) (f ∙ ap (λ z. weakened_functions code t z rs rows 0 code.functions) e)
    ∙ ap (λ z. code_of (weakened_functions code t (places_in vs) rs rows 0 code.functions) z globals kinds bases locks) g
    ∙ ap (λ z. code_of (weakened_functions code t (places_in vs) rs rows 0 code.functions) code.sites z kinds bases locks) h
    ∙ ap (λ z. code_of (weakened_functions code t (places_in vs) rs rows 0 code.functions) code.sites code.globals z bases locks) i
    ∙ ap (λ z. code_of (weakened_functions code t (places_in vs) rs rows 0 code.functions) code.sites code.globals code.global_kinds z locks) b
    ∙ ap (λ z. code_of (weakened_functions code t (places_in vs) rs rows 0 code.functions) code.sites code.globals code.global_kinds code.global_bases z) (j ∙ ap (locks_for code t rows) e)

pub weakened_same : (code : Code) (t : Tables) (us vs : List Pair) (qs rs : List Range) (ws rows : List Grained) → us ≡ vs → qs ≡ rs → ws ≡ rows → weakened code t us qs ws ≡ weakened code t vs rs rows
weakened_same code t us vs qs rs ws rows e f g = ap (λ z. weakened code t z qs ws) e ∙ ap (λ z. weakened code t vs z ws) f ∙ ap (weakened code t vs rs) g
