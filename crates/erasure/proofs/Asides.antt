-- The steps that a thread makes for its weak locks: it takes or gives a stripe, or passes, and stays where it is without them.
use Rattle.std.proofs.Common.{◌≡◌, ℕ, Bool, true, false, if◌then◌else◌, ℤ, pos, List, [], ◌∷◌, Option, Some, None, refl, sym, ap, ◌∙◌}
use Rattle.std.proofs.lemmas.Bool.{true≢false}
use Rattle.sync_objects.specs.Setup.{SetupView}
use Rattle.sync_objects.specs.declared.object.ObjId.TheVariants as object
use Rattle.sync_objects.specs.declared.operation.Op.TheVariants as op
use Rattle.flow_code.specs.declared.act.Act.{Act}
use Rattle.flow_code.specs.declared.act.Act.TheVariants as act
use Rattle.flow_code.specs.declared.code.Code.{Code}
use Rattle.flow_code.specs.declared.region.Region.{Region}
use Rattle.flow_code.specs.declared.thread.Phase.{Phase}
use Rattle.flow_code.specs.declared.thread.Phase.TheVariants as phase
use Rattle.flow_code.specs.declared.thread.Stripe.{Stripe}
use Rattle.word_semantics.specs.declared.event.Due.{Due}
use Rattle.word_semantics.specs.declared.event.Due.TheVariants as due
use Rattle.flow_code.specs.Stripes.{stripe_of}
use Rattle.flow_code.specs.Holding.{region_of, lacked, take_or_quiet, taken, open_place, to_give, give_or_quiet, gives_at, parting, parting_due, owes, left_after}
use Rattle.flow_code.specs.Threads.{Thread, OpenRegion}
use Rattle.flow_code.specs.Next.{past, act_at, on_unless, act_due, act_after, phase_due, phase_after}
use Rattle.weak_code.specs.Stripped.{plain_of}
use Rattle.erasure.proofs.Kept.{weak_at}
use Rattle.erasure.proofs.Bare.{frame_with, instrs_of, bare, same_place}
use Rattle.erasure.proofs.ActDues.{has_some, is_aside, steps_aside}
use Rattle.erasure.proofs.Placed.{IsPlaced}

-- ---- what is due

pub data IsWeakDue : Due → Type 0 where
  passes : IsWeakDue due.Quiet
  takes : (lock stripe : ℕ) → IsWeakDue (due.Operate op.Take (object.Weak lock stripe))
  gives : (lock stripe : ℕ) → IsWeakDue (due.Operate op.Give (object.Weak lock stripe))

take_due_is : (o : Option ℕ) → IsWeakDue (take_or_quiet o)
take_due_is None = passes
take_due_is (Some n) = takes (stripe_of n).0 (stripe_of n).1

give_due_is : (o : Option (ℕ × ℕ)) → IsWeakDue (give_or_quiet o)
give_due_is None = passes
give_due_is (Some x) = gives x.0 x.1

parting_is : (xs : List Stripe) (d : Due) → has_some xs ≡ true → IsWeakDue (parting_due xs d)
parting_is [] d h = absurd (true≢false (sym h))
parting_is (x ∷ xs) d h = by (owes (x ∷ xs))
  where
    by : (b : Bool) → IsWeakDue (if b then due.Quiet else due.Operate op.Give (object.Weak x.lock x.stripe))
    by true = passes
    by false = gives x.lock x.stripe

act_aside : (w : Code) (s : SetupView) (t : ℕ) (th : Thread) (o : Option Act) → is_aside th o ≡ true → IsWeakDue (act_due w s t th o)
act_aside w s t th (Some (act.Take r)) h = take_due_is (lacked w th (region_of w th.top r))
act_aside w s t th (Some (act.Give r)) h = give_due_is (to_give w th r)
act_aside w s t th (Some (act.Library call arguments into)) h = parting_is (parting call th.top.made th.stripes) _ h
act_aside w s t th _ h = absurd (true≢false (sym h))

pub aside_due : (w : Code) (s : SetupView) (t : ℕ) (th : Thread) (p : Phase) → steps_aside w th p ≡ true → IsWeakDue (phase_due w s t th p)
aside_due w s t th phase.Running h = act_aside w s t th (act_at w th.top) h
aside_due w s t th _ h = absurd (true≢false (sym h))

-- ---- what becomes of the thread

module _ (w : Code) where
  -- without its weak locks it is where it was
  pub record IsBeside (th q : Thread) : Type 0 where
    pub bare : (e : ℕ) → bare w e q ≡ bare w e th
    pub phase : q.phase ≡ th.phase
    pub placed : IsPlaced w q

  module _ (th : Thread) (placed : IsPlaced w th) where
    -- with other stripes and regions
    with_stripes : (xs : List Stripe) (rs : List OpenRegion) → IsBeside th (record th { stripes = xs; regions = rs })
    with_stripes xs rs = record { bare = λ e. refl; phase = refl; placed = record { fresh = placed.fresh; callers = placed.callers } }

    -- and past a weak instruction
    past_weak : (rs : List OpenRegion) → weak_at (act_at w th.top) ≡ true → IsBeside th (record th { top = past th.top; regions = rs })
    past_weak rs h = record {
      bare = λ e.
          let stands : ℕ → ℕ → ℤ → Thread = λ k made kept. record (bare w e th) { top = frame_with th.top.function k made kept th.top.registers } in
          let k = plain_of (instrs_of w th.top.function) th.top.instr in
          let fresh = placed.fresh h in
          ap (λ k. stands k 0 (pos 0)) (same_place w th.top h) ∙ ap (λ made. stands k made (pos 0)) (sym fresh.0) ∙ ap (λ kept. stands k th.top.made kept) (sym fresh.1);
      phase = refl;
      placed = record { fresh = λ e. (refl, refl); callers = placed.callers };
    }

    take_beside : (r : Option Region) (next : Option ℕ) → weak_at (act_at w th.top) ≡ true → IsBeside th (on_unless next (taken w th r next))
    take_beside None None h = past_weak th.regions h
    take_beside None (Some n) h = with_stripes th.stripes th.regions
    take_beside (Some r) None h = past_weak _ h
    take_beside (Some r) (Some n) h = with_stripes _ _

    give_beside : (place : Option ℕ) (next : Option (ℕ × ℕ)) → weak_at (act_at w th.top) ≡ true → IsBeside th (on_unless next (gives_at th place next))
    give_beside None None h = past_weak th.regions h
    give_beside None (Some x) h = with_stripes th.stripes th.regions
    give_beside (Some i) None h = past_weak _ h
    give_beside (Some i) (Some x) h = with_stripes _ _

    part_beside : (xs : List Stripe) (q : Thread) → has_some xs ≡ true → IsBeside th (left_after th xs q)
    part_beside [] q h = absurd (true≢false (sym h))
    part_beside (x ∷ xs) q h = with_stripes _ _

    act_beside : (s : SetupView) (t : ℕ) (o : Option Act) (answer : ℤ) → act_at w th.top ≡ o → is_aside th o ≡ true → IsBeside th (act_after w s t th o answer)
    act_beside s t (Some (act.Take r)) answer at h = take_beside (region_of w th.top r) (lacked w th (region_of w th.top r)) (ap weak_at at)
    act_beside s t (Some (act.Give r)) answer at h = give_beside (open_place w th r) (to_give w th r) (ap weak_at at)
    act_beside s t (Some (act.Library call arguments into)) answer at h = part_beside (parting call th.top.made th.stripes) _ h
    act_beside s t _ answer at h = absurd (true≢false (sym h))

    pub phase_beside : (s : SetupView) (t : ℕ) (p : Phase) (answer : ℤ) → steps_aside w th p ≡ true → IsBeside th (phase_after w s t th p answer)
    phase_beside s t phase.Running answer h = act_beside s t (act_at w th.top) answer refl h
    phase_beside s t _ answer h = absurd (true≢false (sym h))
