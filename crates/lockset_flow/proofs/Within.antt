-- In a valid code control stays in each function.
use Rattle.std.proofs.Common.{◌≡◌, ℕ, ◌+◌, ◌-◌, ◌<◌, ◌≤◌, Bool, true, false, List, [], ◌∷◌, length, refl, sym, ap, ◌∙◌, arith, ⊎_elim, Some}
use Rattle.std.specs.Prelude.{slice_get, ◌&&◌}
use Rattle.std.specs.List.{Contains}
use Rattle.std.proofs.lemmas.Option.{slice_get_within}
use Rattle.std.proofs.lemmas.Bool.{cases_lt}
use Rattle.flow_code.specs.declared.act.Act.{Act}
use Rattle.flow_code.specs.declared.act.Act.TheVariants as act
use Rattle.flow_code.specs.declared.act.Instr.{Instr}
use Rattle.flow_code.specs.declared.code.Code.{Code}
use Rattle.flow_code.specs.declared.code.Function.{Function}
use Rattle.flow_code.specs.Kinds.{has_instr, act_fits, has_register}
use Rattle.flow_code.specs.Next.{act_in}
use Rattle.flow_code.specs.Order.{is_end, ends_in_itself, jumps_fit, objects_are_first, order_fits}
use Rattle.flow_code.specs.Valid.{is_valid, is_within_limits, all_locks_fit, has_one_main, functions_fit, function_fits, registers_fit, acts_fit, loops_fit, regions_fit}
use Rattle.word_semantics.specs.Layouts.{sites_fit}
use Rattle.flow_code.specs.Addresses.{globals_fit}
use Rattle.facts.specs.Locks.{successors}
use Rattle.lockset_flow.specs.Flow.{FlowsWithin}
use Rattle.lockset_flow.proofs.Meets.{and_both}
use Rattle.lockset_flow.proofs.Relaxed.{only, either, neither}
use Rattle.lockset_flow.proofs.Sizes.{all_get}

-- an instruction that goes on to the next one isn't the last
next_within : (is : List Instr) (k n : ℕ) (i : Instr) → ends_in_itself is ≡ true → slice_get is k ≡ Some i → is_end (Some i.act) ≡ false → n ≡ k + 1 → n < length is
next_within is k n i ends at goes e =
    ⊎_elim
    (λ (lt : k + 1 < length is). omega arith)
    (λ (le : length is ≤ k + 1).
    let w : k < length is = slice_get_within is k i at in
    let last : length is - 1 ≡ k = omega arith in
    absurd (differ (is_end (Some i.act)) goes (ap (λ o. is_end (act_in o)) (sym at) ∙ ap (λ m. is_end (act_in (slice_get is m))) (sym last) ∙ ends)))
    (cases_lt (k + 1) (length is))
  where
    differ : (b : Bool) → b ≡ false → b ≡ true → ⊥
    differ b h k = cc

pub within : (code : Code) (f : Function) → ends_in_itself f.instrs ≡ true → acts_fit code f f.instrs ≡ true → FlowsWithin f
within code f ends fit k to i at h = go i.act refl fits h
  where
    fits : act_fits code f i.act ≡ true
    fits = all_get (λ j. act_fits code f j.act) f.instrs k i fit at

    next : is_end (Some i.act) ≡ false → to ≡ k + 1 → to < length f.instrs
    next goes e = next_within f.instrs k to i ends at goes e

    go : (a : Act) → i.act ≡ a → act_fits code f a ≡ true → Contains (successors k a) to → to < length f.instrs
    go (act.Jump target) e fit_act c = let lt : target < length f.instrs = grind (arith, fit_act) in let d : to ≡ target = only (target ∷ []) target to refl c in omega arith
    go (act.Branch on then_at else_at) e fit_act c =
        let r = and_both (has_register f on && has_instr f then_at) (has_instr f else_at) fit_act in
        let q = and_both (has_register f on) (has_instr f then_at) r.0 in
        let a : then_at < length f.instrs = grind (arith, q.1) in
        let b : else_at < length f.instrs = grind (arith, r.1) in
        ⊎_elim (λ (d : to ≡ then_at). omega arith) (λ (d : to ≡ else_at). omega arith) (either (then_at ∷ else_at ∷ []) then_at else_at to refl c)
    go (act.Return value) e fit_act c = absurd (neither [] to refl c)
    go (act.Compute into work) e fit_act c = next (ap (λ a. is_end (Some a)) e) (only ((k + 1) ∷ []) (k + 1) to refl c)
    go (act.Alloc into site size) e fit_act c = next (ap (λ a. is_end (Some a)) e) (only ((k + 1) ∷ []) (k + 1) to refl c)
    go (act.LoadCell into through) e fit_act c = next (ap (λ a. is_end (Some a)) e) (only ((k + 1) ∷ []) (k + 1) to refl c)
    go (act.StoreCell through from) e fit_act c = next (ap (λ a. is_end (Some a)) e) (only ((k + 1) ∷ []) (k + 1) to refl c)
    go act.Mark e fit_act c = next (ap (λ a. is_end (Some a)) e) (only ((k + 1) ∷ []) (k + 1) to refl c)
    go (act.Call g arguments into) e fit_act c = next (ap (λ a. is_end (Some a)) e) (only ((k + 1) ∷ []) (k + 1) to refl c)
    go (act.Library l arguments into) e fit_act c = next (ap (λ a. is_end (Some a)) e) (only ((k + 1) ∷ []) (k + 1) to refl c)
    go (act.Take region) e fit_act c = next (ap (λ a. is_end (Some a)) e) (only ((k + 1) ∷ []) (k + 1) to refl c)
    go (act.Give region) e fit_act c = next (ap (λ a. is_end (Some a)) e) (only ((k + 1) ∷ []) (k + 1) to refl c)

pub flows_within : (code : Code) (f : ℕ) (fn : Function) → is_valid code ≡ true → slice_get code.functions f ≡ Some fn → FlowsWithin fn
flows_within code f fn valid at =
    let a = and_both (is_within_limits code && sites_fit code.sites && all_locks_fit code code.locks && has_one_main code.functions && functions_fit code code.functions) (globals_fit code) valid in
    let b = and_both (is_within_limits code && sites_fit code.sites && all_locks_fit code code.locks && has_one_main code.functions) (functions_fit code code.functions) a.0 in
    let g = all_get (function_fits code) code.functions f fn b.1 at in
    let c = and_both (registers_fit fn && order_fits fn.instrs && acts_fit code fn fn.instrs && loops_fit fn fn.loops) (regions_fit code fn fn.regions) g in
    let d = and_both (registers_fit fn && order_fits fn.instrs && acts_fit code fn fn.instrs) (loops_fit fn fn.loops) c.0 in
    let e = and_both (registers_fit fn && order_fits fn.instrs) (acts_fit code fn fn.instrs) d.0 in
    let h = and_both (registers_fit fn) (order_fits fn.instrs) e.0 in
    let i = and_both (ends_in_itself fn.instrs && jumps_fit fn.instrs 0 fn.instrs) (objects_are_first fn.instrs) h.1 in
    let j = and_both (ends_in_itself fn.instrs) (jumps_fit fn.instrs 0 fn.instrs) i.0 in
    within code fn j.0 e.1
