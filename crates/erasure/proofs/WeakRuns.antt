-- Weakened code can be run where the plain code can.
use Rattle.std.proofs.Common.{◌≡◌, ℕ, zero, suc, ◌+◌, ◌<◌, inl, inr, ⊎_elim, Bool, true, false, List, [], ◌∷◌, length, refl, sym, ap, ◌∙◌, subst, arith, zero-add, Some, None, Option}
use Rattle.std.specs.Prelude.{slice_get, if◌then◌else◌, nat_le, option_map}
use Rattle.std.proofs.lemmas.Bool.{true≢false, leb-true, leb-false}
use Rattle.rr_base.specs.declared.layout.Place.{Place}
use Rattle.flow_code.specs.declared.act.Act.{Act}
use Rattle.flow_code.specs.declared.act.Act.TheVariants as act
use Rattle.flow_code.specs.declared.act.Instr.{Instr}
use Rattle.flow_code.specs.declared.code.Code.{Code}
use Rattle.flow_code.specs.declared.code.Function.{Function}
use Rattle.flow_code.specs.Next.{act_in}
use Rattle.flow_code.specs.Settle.{IsJump, IsSoundAct, IsRunnable}
use Rattle.flow_code.specs.Threads.{instrs_in}
use Rattle.facts.specs.declared.pair.Pair.{Pair}
use Rattle.facts.specs.PointsTo.{Tables}
use Rattle.weak_lock_facts.specs.declared.grain.Grained.{Grained}
use Rattle.weak_lock_facts.specs.declared.range.Range.{Range}
use Rattle.weak_code.specs.declared.stretch.Stretch.{Stretch}
use Rattle.weak_code.specs.Places.{before, place_from, place_of, act_or_mark, seat_of, enter}
use Rattle.weak_code.specs.Stretches.{racy_accesses, stretches_of}
use Rattle.weak_code.specs.Stripped.{is_weak}
use Rattle.weak_code.specs.WeakLocks.{places_in}
use Rattle.weak_code.specs.Weakened.{retarget, weakened_instrs, weakened_function, weakened_functions, weakened}
use Rattle.erasure.proofs.Seats.{IsSeated, stands_from, seats_from, seat_first}

-- ---- jumps

weak_sound : (is : List Instr) (x : ℕ) (a : Act) → is_weak a ≡ true → IsSoundAct is x (Some a)
weak_sound is x (act.Take r) h = tt
weak_sound is x (act.Give r) h = tt
weak_sound is x (act.Jump to) h = absurd (true≢false (sym h))
weak_sound is x (act.Branch on then_at else_at) h = absurd (true≢false (sym h))
weak_sound is x (act.Library c arguments into) h = absurd (true≢false (sym h))
weak_sound is x _ h = tt

module _ (ss : List Stretch) (is : List Instr) where
  abbrev ws : List Instr
  ws = weakened_instrs ss is

  -- a Mark is still one
  marked : (to : ℕ) (o : Option Instr) → slice_get is to ≡ o → act_in o ≡ Some act.Mark → act_in (slice_get ws (seat_of ss is to)) ≡ Some act.Mark
  marked to None e m = cc
  marked to (Some i) e m =
      let mark : i.act ≡ act.Mark = cc in
      let zeroth : 0 + to ≡ to = zero-add to in
      let seat : seat_of ss is to ≡ place_from ss 0 is to + length (before ss (0 + to) i.act) =
      ap (λ o. place_of ss is to + length (before ss to (act_or_mark o))) e ∙ ap (λ m. place_of ss is to + length (before ss m i.act)) (sym zeroth) in
      ap (λ x. act_in (slice_get ws x)) seat ∙ ap act_in (seats_from ss is 0 is to i e) ∙ ap (λ a. Some (retarget (enter ss is (0 + to)) a)) mark

  jump_sound : (k to : ℕ) (i : Instr) → slice_get is k ≡ Some i → IsJump is k to → IsJump ws (place_of ss is k + length (before ss k i.act)) (enter ss is k to)
  jump_sound k to i e jump = by (nat_le to k) refl
    where
      on : k < to → IsJump ws (place_of ss is k + length (before ss k i.act)) (place_of ss is to)
      on lt = inl (subst (λ m. place_of ss is k + length (before ss m i.act) < place_of ss is to) (zero-add k) (seat_first ss is 0 is k to i e lt))

      by : (b : Bool) → nat_le to k ≡ b → IsJump ws (place_of ss is k + length (before ss k i.act)) (if b then seat_of ss is to else place_of ss is to)
      by true low = ⊎_elim (λ lt. let le = leb-true to k low in absurd (omega (arith, le, lt))) (λ m. inr (marked to (slice_get is to) refl m)) jump
      by false high = on (leb-false to k high)

  seated_sound : (k : ℕ) (i : Instr) (a : Act) → slice_get is k ≡ Some i → i.act ≡ a → IsSoundAct is k (Some a) → IsSoundAct ws (place_of ss is k + length (before ss k i.act)) (Some (retarget (enter ss is k) a))
  seated_sound k i (act.Jump to) e same h = jump_sound k to i e h
  seated_sound k i (act.Branch on then_at else_at) e same h = (jump_sound k then_at i e h.0, jump_sound k else_at i e h.1)
  seated_sound k i (act.Library c arguments into) e same h = h
  seated_sound k i (act.Compute into work) e same h = tt
  seated_sound k i (act.Alloc into site size) e same h = tt
  seated_sound k i (act.LoadCell into through) e same h = tt
  seated_sound k i (act.StoreCell through from) e same h = tt
  seated_sound k i act.Mark e same h = tt
  seated_sound k i (act.Call function arguments into) e same h = tt
  seated_sound k i (act.Return value) e same h = tt
  seated_sound k i (act.Take r) e same h = tt
  seated_sound k i (act.Give r) e same h = tt

  module _ (sound : (k : ℕ) → IsSoundAct is k (act_in (slice_get is k))) where
    seat_sound : (x : ℕ) (j : Instr) → IsSeated ss is 0 is x j → IsSoundAct ws x (Some j.act)
    seat_sound x j h =
        let i = h.instr in
        let k = h.number in
        let zeroth : 0 + k ≡ k = zero-add k in
        let seat : x ≡ place_of ss is k + length (before ss k i.act) = h.seat ∙ ap (λ m. place_of ss is k + length (before ss m i.act)) zeroth in
        let moved : retarget (enter ss is k) i.act ≡ j.act = sym (ap (λ (z : Instr). z.act) h.moved ∙ ap (λ m. retarget (enter ss is m) i.act) zeroth) in
        let here : IsSoundAct is k (Some i.act) = subst (λ o. IsSoundAct is k (act_in o)) h.here (sound k) in
        subst (λ y. IsSoundAct ws y (Some j.act)) (sym seat) (subst (λ a. IsSoundAct ws (place_of ss is k + length (before ss k i.act)) (Some a)) moved (seated_sound k i i.act h.here refl here))

    pub instrs_sound : (x : ℕ) (o : Option Instr) → slice_get ws x ≡ o → IsSoundAct ws x (act_in o)
    instrs_sound x None e = tt
    instrs_sound x (Some j) e = ⊎_elim (weak_sound ws x j.act) (seat_sound x j) (stands_from ss is 0 is x j e)

-- ---- functions

pub weakened_at : (code : Code) (t : Tables) (locked : List Place) (rs : List Range) (rows : List Grained) (n : ℕ) (fns : List Function) (f : ℕ) → slice_get (weakened_functions code t locked rs rows n fns) f ≡ option_map (weakened_function code t locked rs rows (n + f)) (slice_get fns f)
weakened_at code t locked rs rows n [] f = refl
weakened_at code t locked rs rows n (fn ∷ fns) zero = let none : n ≡ n + 0 = omega arith in ap (λ m. Some (weakened_function code t locked rs rows m fn)) none
weakened_at code t locked rs rows n (fn ∷ fns) (suc f) =
    let further : (n + 1) + f ≡ n + suc f = omega arith in
    weakened_at code t locked rs rows (n + 1) fns f ∙ ap (λ m. option_map (weakened_function code t locked rs rows m) (slice_get fns f)) further

weakened_length : (code : Code) (t : Tables) (locked : List Place) (rs : List Range) (rows : List Grained) (n : ℕ) (fns : List Function) → length (weakened_functions code t locked rs rows n fns) ≡ length fns
weakened_length code t locked rs rows n [] = refl
weakened_length code t locked rs rows n (fn ∷ fns) = ap suc (weakened_length code t locked rs rows (n + 1) fns)

module _ (code : Code) (t : Tables) (vs : List Pair) (rs : List Range) (rows : List Grained) where
  function_sound : (f : ℕ) (o : Option Function) → ((k : ℕ) → IsSoundAct (instrs_in o) k (act_in (slice_get (instrs_in o) k))) → (x : ℕ) →
      IsSoundAct (instrs_in (option_map (weakened_function code t (places_in vs) rs rows f) o)) x (act_in (slice_get (instrs_in (option_map (weakened_function code t (places_in vs) rs rows f) o)) x))
  function_sound f None h x = tt
  function_sound f (Some fn) h x =
      let ss = stretches_of fn (racy_accesses code t (places_in vs) rs rows f) in
      instrs_sound ss fn.instrs h x (slice_get (weakened_instrs ss fn.instrs) x) refl

  pub weakened_runnable : IsRunnable code → IsRunnable (weakened code t vs rs rows)
  unfolding weakened
  weakened_runnable runs = record {
    jumps = λ f x.
        subst (λ (o : Option Function). IsSoundAct (instrs_in o) x (act_in (slice_get (instrs_in o) x))) (sym (weakened_at code t (places_in vs) rs rows 0 code.functions f))
        (function_sound (0 + f) (slice_get code.functions f) (λ k. runs.jumps f k) x);
    few_globals = runs.few_globals;
    few_functions = let same = weakened_length code t (places_in vs) rs rows 0 code.functions in let few = runs.few_functions in omega (arith, same, few);
  }
