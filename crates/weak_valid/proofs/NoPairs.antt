-- A code without race pairs.
use Rattle.std.proofs.Common.{◌≡◌, ℕ, zero, suc, ◌+◌, ◌<◌, ◌≤◌, ◌&&◌, Bool, true, false, List, [], ◌∷◌, ◌++◌, length, map, refl, sym, ap, ◌∙◌, arith}
use Rattle.std.specs.Prelude.{slice_get, if◌then◌else◌, nat_le, ◌==◌, reverse}
use Rattle.std.specs.List.{list_all, filter_map}
use Rattle.flow_code.specs.declared.act.Act.{Act}
use Rattle.flow_code.specs.declared.act.Act.TheVariants as act
use Rattle.flow_code.specs.declared.act.Instr.{Instr}
use Rattle.flow_code.specs.declared.code.Code.{Code}
use Rattle.flow_code.specs.declared.code.Function.{Function}
use Rattle.flow_code.specs.declared.code.LockInfo.{LockInfo}
use Rattle.flow_code.specs.declared.code.LoopInfo.{LoopInfo}
use Rattle.flow_code.specs.declared.region.Region.{Region}
use Rattle.flow_code.specs.Order.{order_fits}
use Rattle.flow_code.specs.Addresses.{globals_fit}
use Rattle.flow_code.specs.Valid.{is_valid, is_within_limits, all_locks_fit, has_one_main, functions_fit, function_fits, registers_fit, acts_fit, loops_fit, regions_fit}
use Rattle.word_semantics.specs.Layouts.{sites_fit}
use Rattle.profiles.specs.declared.profile.Profile.{Profile}
use Rattle.facts.specs.PointsTo.{Tables}
use Rattle.weak_lock_facts.specs.declared.grain.Grained.{Grained}
use Rattle.weak_lock_facts.specs.declared.range.Range.{Range}
use Rattle.weak_lock_facts.specs.Grains.{AreGrains}
use Rattle.weak_code.specs.declared.stretch.Stretch.{Stretch}
use Rattle.weak_code.specs.Places.{before, left, place_from, place_of, act_or_mark, seat_of, enter}
use Rattle.weak_code.specs.Stretches.{loop_stretch, spans_of, stretches_of}
use Rattle.weak_code.specs.Stripped.{is_plain}
use Rattle.weak_code.specs.Weakened.{retarget, at_instr, blocks, moved_loop, with_stretches, weakened_functions, weakened}
use Rattle.weak_code.proofs.Stripping.{IsPlain, ArePlain, IsWithin, AreWithin, plain_acts, loops_within, no_items}
use Rattle.weak_valid.proofs.Tests.{both}

-- ---- nothing stands before an instruction

no_left : (k : ℕ) (a : Act) → left [] k a ≡ []
no_left k (act.Compute into w) = refl
no_left k (act.Alloc into site size) = refl
no_left k (act.LoadCell into through) = refl
no_left k (act.StoreCell through from) = refl
no_left k act.Mark = refl
no_left k (act.Call g arguments into) = refl
no_left k (act.Library c arguments into) = refl
no_left k (act.Jump to) = refl
no_left k (act.Branch on then_at else_at) = refl
no_left k (act.Return value) = refl
no_left k (act.Take r) = refl
no_left k (act.Give r) = refl

nothing : (k : ℕ) (a : Act) → before [] k a ≡ []
nothing k a = ap (λ rs. map (λ r. act.Give r) (reverse rs)) (no_left k a)

none_long : (k : ℕ) (a : Act) → length (before [] k a) ≡ 0
none_long k a = ap (λ (bs : List Act). length bs) (nothing k a)

place_same : (n : ℕ) (is : List Instr) (k : ℕ) → k ≤ length is → place_from [] n is k ≡ k
place_same n [] k le = omega arith
place_same n (i ∷ is) zero le = refl
place_same n (i ∷ is) (suc k) le = omega (arith, none_long n i.act, place_same (n + 1) is k (omega arith))

seat_same : (is : List Instr) (k : ℕ) → k < length is → seat_of [] is k ≡ k
seat_same is k lt = omega (arith, none_long k (act_or_mark (slice_get is k)), place_same 0 is k (omega arith))

enter_same : (is : List Instr) (j k : ℕ) → k < length is → enter [] is j k ≡ k
enter_same is j k lt = go (nat_le k j)
  where
    go : (b : Bool) → (if b then seat_of [] is k else place_of [] is k) ≡ k
    go true = seat_same is k lt
    go false = place_same 0 is k (omega arith)

retarget_same : (g : ℕ → ℕ) (n : ℕ) (a : Act) → ((k : ℕ) → k < n → g k ≡ k) → IsPlain n a → retarget g a ≡ a
retarget_same g n (act.Compute into w) e h = refl
retarget_same g n (act.Alloc into site size) e h = refl
retarget_same g n (act.LoadCell into through) e h = refl
retarget_same g n (act.StoreCell through from) e h = refl
retarget_same g n act.Mark e h = refl
retarget_same g n (act.Call c arguments into) e h = refl
retarget_same g n (act.Library c arguments into) e h = refl
retarget_same g n (act.Jump k) e h = ap (λ z. act.Jump z) (e k h)
retarget_same g n (act.Branch on then_at else_at) e h = ap (λ z. act.Branch on z (g else_at)) (e then_at h.0) ∙ ap (λ z. act.Branch on then_at z) (e else_at h.1)
retarget_same g n (act.Return value) e h = refl
retarget_same g n (act.Take r) e h = refl
retarget_same g n (act.Give r) e h = refl

blocks_same : (all : List Instr) (n : ℕ) (is : List Instr) → ArePlain (length all) is → blocks [] all n is ≡ is
blocks_same all n [] p = refl
blocks_same all n (i ∷ is) p =
    ap (λ (bs : List Act). (map (at_instr i) bs ++ at_instr i (retarget (enter [] all n) i.act) ∷ []) ++ blocks [] all (n + 1) is) (nothing n i.act)
    ∙ ap (λ a. at_instr i a ∷ blocks [] all (n + 1) is) (retarget_same (enter [] all n) (length all) i.act (λ k lt. enter_same all n k lt) p.0)
    ∙ ap (λ zs. i ∷ zs) (blocks_same all (n + 1) is p.1)

-- ---- functions

loop_at : LoopInfo → ℕ → ℕ → ℕ → LoopInfo
loop_at l at first last = record { at = at; first = first; last = last; counter = l.counter; bound = l.bound; step = l.step }

loop_same : (is : List Instr) (l : LoopInfo) → IsWithin (length is) l → moved_loop [] is l ≡ l
unfolding loop_at
loop_same is l h =
    ap (λ z. loop_at l z (place_of [] is l.first) (seat_of [] is l.last)) (seat_same is l.at h.0)
    ∙ ap (λ z. loop_at l l.at z (seat_of [] is l.last)) (place_same 0 is l.first (omega (arith, h.1)))
    ∙ ap (λ z. loop_at l l.at l.first z) (seat_same is l.last h.2)

loops_same : (is : List Instr) (ls : List LoopInfo) → AreWithin (length is) ls → map (moved_loop [] is) ls ≡ ls
loops_same is [] h = refl
loops_same is (l ∷ ls) h = ap (λ z. z ∷ map (moved_loop [] is) ls) (loop_same is l h.0) ∙ ap (λ zs. l ∷ zs) (loops_same is ls h.1)

function_with : Function → List Instr → List LoopInfo → List Region → Function
function_with fn is ls rs = record { name = fn.name; line = fn.line; formals = fn.formals; registers = fn.registers; pointers = fn.pointers; gives_pointer = fn.gives_pointer; instrs = is; loops = ls; regions = rs }

no_stretches : (code : Code) (fn : Function) → function_fits code fn ≡ true → (length fn.regions == 0) ≡ true → with_stretches fn [] ≡ fn
unfolding function_with
no_stretches code fn h n =
    let r = no_items fn.regions n in
    let a = both (registers_fit fn && order_fits fn.instrs && acts_fit code fn fn.instrs && loops_fit fn fn.loops) (regions_fit code fn fn.regions) h in
    let b = both (registers_fit fn && order_fits fn.instrs && acts_fit code fn fn.instrs) (loops_fit fn fn.loops) a.0 in
    let c = both (registers_fit fn && order_fits fn.instrs) (acts_fit code fn fn.instrs) b.0 in
    ap (λ z. function_with fn z (map (moved_loop [] fn.instrs) fn.loops) []) (blocks_same fn.instrs 0 fn.instrs (plain_acts code fn fn.instrs r c.1))
    ∙ ap (λ z. function_with fn fn.instrs z []) (loops_same fn.instrs fn.loops (loops_within fn fn.loops b.1))
    ∙ ap (λ z. function_with fn fn.instrs fn.loops z) (sym r)

no_loops : (is : List Instr) (ls : List LoopInfo) → filter_map (λ l. loop_stretch l (spans_of is l.at [])) ls ≡ []
no_loops is [] = refl
no_loops is (l ∷ ls) = no_loops is ls

none_open : (fn : Function) → stretches_of fn [] ≡ []
none_open fn = ap (λ (z : List Stretch). z ++ ([] ++ [])) (no_loops fn.instrs fn.loops)

functions_same : (code : Code) (t : Tables) (rs : List Range) (f : ℕ) (fns : List Function) → list_all (function_fits code) fns ≡ true → list_all (λ fn. length fn.regions == 0) fns ≡ true → weakened_functions code t [] rs [] f fns ≡ fns
functions_same code t rs f [] h n = refl
functions_same code t rs f (fn ∷ fns) h n =
    let a = both (function_fits code fn) (list_all (function_fits code) fns) h in
    let b = both (length fn.regions == 0) (list_all (λ fn. length fn.regions == 0) fns) n in
    ap (λ ss. with_stretches fn ss ∷ weakened_functions code t [] rs [] (f + 1) fns) (none_open fn)
    ∙ ap (λ z. z ∷ weakened_functions code t [] rs [] (f + 1) fns) (no_stretches code fn a.0 b.0)
    ∙ ap (λ zs. fn ∷ zs) (functions_same code t rs (f + 1) fns a.1 b.1)

-- ---- the code

no_rows : (code : Code) (rs : List Range) (profile : Profile) (rows : List Grained) → AreGrains code [] rs profile rows → rows ≡ []
no_rows code rs profile [] g = refl
no_rows code rs profile (x ∷ xs) g = let e = g.racy x (0, (omega arith), refl) in cc

code_with : Code → List Function → List LockInfo → Code
code_with code fns locks = record { functions = fns; sites = code.sites; globals = code.globals; global_kinds = code.global_kinds; global_bases = code.global_bases; locks = locks }

pub no_pairs : (code : Code) (t : Tables) (rs : List Range) (profile : Profile) (rows : List Grained) → is_valid code ≡ true → is_plain code ≡ true → AreGrains code [] rs profile rows → weakened code t [] rs rows ≡ code
unfolding weakened code_with
no_pairs code t rs profile rows v p g =
    let a = both (is_within_limits code && sites_fit code.sites && all_locks_fit code code.locks && has_one_main code.functions && functions_fit code code.functions) (globals_fit code) v in
    let b = both (is_within_limits code && sites_fit code.sites && all_locks_fit code code.locks && has_one_main code.functions) (functions_fit code code.functions) a.0 in
    let n = both (length code.locks == 0) (list_all (λ fn. length fn.regions == 0) code.functions) p in
    ap (λ z. weakened code t [] rs z) (no_rows code rs profile rows g)
    ∙ ap (λ z. code_with code z []) (functions_same code t rs 0 code.functions b.1 n.1)
    ∙ ap (λ z. code_with code code.functions z) (sym (no_items code.locks n.0))
