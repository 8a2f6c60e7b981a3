-- Each step of a thread keeps that its stripes are those of its open regions; and what it does to those that are held.
use Rattle.std.proofs.Common.{◌≡◌, ℕ, zero, suc, ◌-◌, ◌/◌, ◌%◌, ◌==◌, ◌⊎◌, inl, ⊎_elim, Bool, true, false, if◌then◌else◌, List, length, Option, Some, None, Result, Ok, Err, refl, sym, ap, subst, ◌∙◌, arith}
use Rattle.std.specs.Prelude.{slice_get}
use Rattle.rr_base.specs.declared.trap.Trap.{Trap}
use Rattle.word_semantics.specs.declared.event.Due.{Due}
use Rattle.word_semantics.specs.declared.event.Onward.{Onward}
use Rattle.word_semantics.specs.declared.event.Onward.TheVariants as onward
use Rattle.flow_code.specs.declared.code.Code.{Code}
use Rattle.flow_code.specs.declared.region.Region.{Region}
use Rattle.flow_code.specs.declared.thread.Stripe.{Stripe}
use Rattle.flow_code.specs.Threads.{Frame, Thread, is_main}
use Rattle.flow_code.specs.Holding.{number_of_pair, with_stripe, lacked, take_or_quiet, taken, alone_at, give_or_quiet, gives_at}
use Rattle.flow_code.specs.Next.{first_owed, computed, end_onward, back_in, returned, resumed, on_unless}
use Rattle.lock_ownership.proofs.Standings.{standing, is_held, with_standing, without_standing}
use Rattle.lock_ownership.proofs.Holds.{numbered}
use Rattle.lock_ownership.proofs.Regions.{Agree}
use Rattle.lock_ownership.proofs.Taking.{take_agrees, lacked_none}
use Rattle.lock_ownership.proofs.Giving.{give_agrees, give_there, give_released, give_counted}
use Rattle.lock_ownership.proofs.PlainDues.{IsPlain}
use Rattle.lock_ownership.proofs.Moves.{HoldsAlike, gains, loses, Moves, same_moves, held_if, gain, loss}

-- a step to a thread, where something is due: its stripes agree with its open regions again, and those that are held have moved
pub record Steps (th q : Thread) (d : Due) : Type 0 where
  pub agrees : Agree th.stripes th.regions → Agree q.stripes q.regions
  pub moves : Agree th.stripes th.regions → Moves th.stripes q.stripes d

-- the thread has the stripes and open regions that it had
pub record HasSame (th q : Thread) : Type 0 where
  pub stripes : q.stripes ≡ th.stripes
  pub regions : q.regions ≡ th.regions

pub alike : (xs ys : List Stripe) → ys ≡ xs → HoldsAlike xs ys
alike xs ys e n = ap (λ zs. is_held (standing zs n)) e

pub same_agrees : (th q : Thread) → HasSame th q → Agree th.stripes th.regions → Agree q.stripes q.regions
same_agrees th q s h = subst (λ xs. Agree xs q.regions) (sym s.stripes) (subst (Agree th.stripes) (sym s.regions) h)

pub same_steps : (t : ℕ) (th q : Thread) (d : Due) → HasSame th q → IsPlain t d → Steps th q d
same_steps t th q d s n = record { agrees = same_agrees th q s; moves = λ h. same_moves t th.stripes q.stripes d (alike th.stripes q.stripes s.stripes) n }

-- ---- what instructions leave as it is

pub computed_same : (th : Thread) (into : ℕ) (r : Result ℕ Trap) → HasSame th (computed th into r)
computed_same th into (Ok w) = record { stripes = refl; regions = refl }
computed_same th into (Err t) = record { stripes = refl; regions = refl }

end_same : (m : Bool) (th : Thread) (made : ℕ) → HasSame th (end_onward m th made)
end_same true th made = record { stripes = refl; regions = refl }
end_same false th zero = record { stripes = refl; regions = refl }
end_same false th (suc zero) = record { stripes = refl; regions = refl }
end_same false th (suc (suc n)) = record { stripes = refl; regions = refl }

back_same : (code : Code) (th : Thread) (value : ℕ) (o : Option Frame) → HasSame th (back_in code th value o)
back_same code th value None = record { stripes = refl; regions = refl }
back_same code th value (Some f) = record { stripes = refl; regions = refl }

pub returned_same : (code : Code) (th : Thread) (value : ℕ) → HasSame th (returned code th value)
returned_same code th value = by (length th.below == 0)
  where
    by : (b : Bool) → HasSame th (if b then end_onward (is_main code th.top.function) th th.top.made else back_in code th value (slice_get th.below (length th.below - 1)))
    by true = end_same (is_main code th.top.function) th th.top.made
    by false = back_same code th value (slice_get th.below (length th.below - 1))

pub went_same : (th : Thread) (n : ℕ) (into : Option ℕ) (o : Onward) → HasSame th (resumed (record th { printed = n }) into o)
went_same th n into (onward.Stays kept) = record { stripes = refl; regions = refl }
went_same th n into (onward.Gives w) = record { stripes = refl; regions = refl }
went_same th n into onward.Ends = record { stripes = refl; regions = refl }

-- ---- Take, Give and pthread_exit

same_pair : (n : ℕ) → numbered (n / 8) (n % 8) ≡ n
same_pair n = omega arith

none_held : (o : Option Bool) → o ≡ None → is_held o ≡ false
none_held o e = ap is_held e

pub take_steps : (code : Code) (th : Thread) (r : Option Region) (next : Option ℕ) → lacked code th r ≡ next → Steps th (on_unless next (taken code th r next)) (take_or_quiet next)
take_steps code th None None e = record { agrees = λ h. h; moves = λ h n. refl }
take_steps code th (Some r) None e = record { agrees = take_agrees code th (Some r) None e; moves = λ h n. refl }
take_steps code th None (Some n) e = cc
take_steps code th (Some r) (Some n) e = record {
  agrees = take_agrees code th (Some r) (Some n) e;
  moves = λ h. gains (n / 8) (n % 8) (omega arith) refl (inl refl)
      (gain th.stripes (with_stripe n th.stripes) (numbered (n / 8) (n % 8)) (ap (λ k. is_held (standing th.stripes k)) (same_pair n) ∙ none_held (standing th.stripes n) (lacked_none code th r n e))
      (λ m. with_standing n m th.stripes (lacked_none code th r n e) ∙ ap (λ k. if k == m then Some false else standing th.stripes m) (sym (same_pair n))));
}

pub give_steps : (th : Thread) (place : Option ℕ) (next : Option (ℕ × ℕ)) → alone_at th.regions place ≡ next → first_owed th.stripes ≡ None ⊎ (next ≡ None) → Steps th (on_unless next (gives_at th place next)) (give_or_quiet next)
give_steps th place None e none = record {
  agrees = give_agrees th place None e;
  moves = λ h. alike th.stripes (gives_at th place None).stripes (give_counted th place);
}
give_steps th place (Some x) e none = record {
  agrees = give_agrees th place (Some x) e;
  moves = λ h. let there = give_there th place x e h in
      loses x.0 x.1 there.1 refl (inl refl)
      (loss None th.stripes (gives_at th place (Some x)).stripes (number_of_pair x) refl (held_if th.stripes (number_of_pair x) (⊎_elim (λ z. z) (λ z. cc) none) ∙ there.0)
      (λ m. ap (λ zs. standing zs m) (give_released th place x e) ∙ without_standing (number_of_pair x) m th.stripes));
}
