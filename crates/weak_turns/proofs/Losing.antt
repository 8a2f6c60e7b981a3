-- A thread from which a stripe is taken comes to the same by its quiet steps, whether some of them were made before or not.
use Rattle.std.proofs.Common.{◌≡◌, ℕ, zero, suc, ◌+◌, not, Bool, true, false, if◌then◌else◌, List, [], ◌∷◌, map, drop, filter, Option, Some, pos, refl, sym, ap, subst, ◌∙◌}
use Rattle.sync_objects.specs.Setup.{SetupView}
use Rattle.sync_objects.specs.declared.object.ObjId.TheVariants as object
use Rattle.sync_objects.specs.declared.operation.Op.TheVariants as op
use Rattle.word_semantics.specs.declared.event.Due.{Due}
use Rattle.word_semantics.specs.declared.event.Due.TheVariants as due
use Rattle.word_semantics.specs.declared.library_call.LibraryCall.TheVariants as call
use Rattle.word_semantics.specs.Library.{library_due}
use Rattle.word_semantics.specs.Registers.{words_of}
use Rattle.flow_code.specs.declared.act.Act.{Act}
use Rattle.flow_code.specs.declared.act.Act.TheVariants as act
use Rattle.flow_code.specs.declared.code.Code.{Code}
use Rattle.flow_code.specs.declared.thread.Phase.TheVariants as phase
use Rattle.flow_code.specs.declared.thread.Stripe.{Stripe}
use Rattle.flow_code.specs.Holding.{number_of_pair, is_listed, held, owes, has_stripes, open_ones, with_pairs, keeping, left_after, parting, parting_due}
use Rattle.flow_code.specs.Next.{act_at, act_due, act_after, caller, call_after, phase_due, due_of, stepped, gave_up, holds, lost, same_stripe}
use Rattle.flow_code.specs.Settle.{settled, IsRunnable}
use Rattle.flow_code.specs.Threads.{OpenRegion, Thread}
use Rattle.flow_code.proofs.Dues.{quiet_due}
use Rattle.flow_code.proofs.Quietly.{IsQuiet, is_quiet_step}
use Rattle.flow_code.proofs.Settle.{settled_keeps, settled_step}
use Rattle.lock_ownership.proofs.DueSteps.{stepped_steps}
use Rattle.lock_ownership.proofs.Holds.{numbered, holds_is, holds_small}
use Rattle.lock_ownership.proofs.Regions.{Agree}
use Rattle.lock_ownership.proofs.Standings.{held_sorted, marked, marks}
use Rattle.lock_ownership.proofs.ThreadSteps.{Steps}
use Rattle.weak_turns.proofs.Beside.{beside, is_leaving, act_due_beside, act_after_beside}
use Rattle.weak_turns.proofs.Lists.{others, keeps, all_keep, all_keep_twice, held_again, held_marked, listed_marked, listed_filter, owes_marked, owes_lost, holds_held}

-- ---- a thread that leaves

record Leaves (o : Option Act) (made : ℕ) : Type 0 where
  arguments : List ℕ
  into : Option ℕ
  call_is : o ≡ Some (act.Library call.Exit arguments into)
  first : made ≡ 0

leaves : (o : Option Act) (made : ℕ) → is_leaving o made ≡ true → Leaves o made
leaves (Some (act.Library call.Exit arguments into)) zero e = record { arguments = arguments; into = into; call_is = refl; first = refl }
leaves (Some (act.Library call.Exit arguments into)) (suc n) e = cc
leaves _ made e = cc

parting_quiet : (xs : List Stripe) (d : Due) → owes xs ≡ true → parting_due xs d ≡ due.Quiet
parting_quiet [] d e = cc
parting_quiet (x ∷ xs) d e = ap (λ b. if b then due.Quiet else due.Operate op.Give (object.Weak x.lock x.stripe)) e

left_held : (th : Thread) (xs : List Stripe) (q : Thread) → owes xs ≡ true → left_after th xs q ≡ keeping th (held xs)
left_held th [] q e = cc
left_held th (x ∷ xs) q e = ap (λ b. keeping th (if b then held (x ∷ xs) else drop 1 (x ∷ xs))) e

owes_if : (lock stripe : ℕ) (xs : List Stripe) (d : Due) → holds xs lock stripe ≡ true → parting_due xs d ≡ due.Quiet → owes xs ≡ true
owes_if lock stripe [] d h e = cc
owes_if lock stripe (x ∷ xs) d h e = by (owes (x ∷ xs)) e
  where
    by : (b : Bool) → (if b then due.Quiet else due.Operate op.Give (object.Weak x.lock x.stripe)) ≡ due.Quiet → b ≡ true
    by true q = refl
    by false q = cc

keep_is : (xs : List Stripe) (rs : List OpenRegion) → open_ones (map (λ r. with_pairs r (filter (λ x. is_listed xs (number_of_pair x)) r.stripes)) rs) ≡ all_keep xs rs
keep_is xs [] = refl
keep_is xs (r ∷ rs) = ap (λ qs. if has_stripes (keeps xs r) then keeps xs r ∷ qs else qs) (keep_is xs rs)

module _ (code : Code) (s : SetupView) (t : ℕ) where
  module _ (p : Thread) (l : Leaves (act_at code p.top) p.top.made) where
    abbrev event : Due
    event = library_due (caller code s t p) call.Exit (words_of p.top.registers l.arguments) p.top.made p.top.kept

    due_leaving : act_due code s t p (act_at code p.top) ≡ parting_due p.stripes event
    due_leaving = ap (act_due code s t p) l.call_is ∙ ap (λ k. parting_due (parting call.Exit k p.stripes) event) l.first

    after_leaving : act_after code s t p (act_at code p.top) (pos 0) ≡ left_after p p.stripes (call_after code s t p call.Exit l.arguments l.into (pos 0))
    after_leaving = ap (λ o. act_after code s t p o (pos 0)) l.call_is ∙ ap (λ k. left_after p (parting call.Exit k p.stripes) (call_after code s t p call.Exit l.arguments l.into (pos 0))) l.first

    -- while something is owed, it forgets that by a quiet step
    forgets : p.phase ≡ phase.Running → owes p.stripes ≡ true → (due_of code s t p ≡ due.Quiet) × (stepped code s t p (pos 0) ≡ keeping p (held p.stripes))
    forgets runs e =
        let q : due_of code s t p ≡ due.Quiet = quiet_due code s t p (ap (phase_due code s t p) runs ∙ due_leaving ∙ parting_quiet p.stripes event e) in
        (q, (is_quiet_step code s t p q).becomes (pos 0) ∙ after_leaving ∙ left_held p p.stripes (call_after code s t p call.Exit l.arguments l.into (pos 0)) e)

  module _ (runnable : IsRunnable code) (lock stripe : ℕ) where
    abbrev p : Stripe → Bool
    p = same_stripe lock stripe

    abbrev less : Thread → Thread
    less th = gave_up th lock stripe

    lost_is : (xs : List Stripe) → lost xs lock stripe ≡ marked p true xs
    lost_is xs = marks p true xs

    listed_lost : (xs : List Stripe) (n : ℕ) → is_listed (lost xs lock stripe) n ≡ is_listed xs n
    listed_lost xs n = ap (λ ys. is_listed ys n) (lost_is xs) ∙ listed_marked p true n xs

    module _ (th : Thread) (q : IsQuiet code s t th) (agree : Agree th.stripes th.regions) (has : holds th.stripes lock stripe ≡ true) where
      -- ---- a thread that stays

      module _ (stays : is_leaving (act_at code th.top) th.top.made ≡ false) where
        abbrev m : Thread
        m = act_after code s t th (act_at code th.top) (pos 0)

        itself : m ≡ beside m th.stripes th.entries th.revokes
        itself = act_after_beside code s t th th.stripes th.entries th.revokes (λ n. refl) (act_at code th.top) (pos 0) stays q.act_is

        less_is : less m ≡ beside m (lost th.stripes lock stripe) (th.entries + 1) (th.revokes + 1)
        less_is =
            ap (λ (z : Thread). beside m (lost z.stripes lock stripe) (m.entries + 1) (m.revokes + 1)) itself
            ∙ ap (λ (z : Thread). beside m (lost th.stripes lock stripe) (z.entries + 1) (m.revokes + 1)) itself
            ∙ ap (λ (z : Thread). beside m (lost th.stripes lock stripe) (th.entries + 1) (z.revokes + 1)) itself

        due_less : due_of code s t (less th) ≡ due.Quiet
        due_less = quiet_due code s t (less th) (ap (phase_due code s t (less th)) q.runs ∙ act_due_beside code s t th (lost th.stripes lock stripe) (th.entries + 1) (th.revokes + 1) (listed_lost th.stripes) (act_at code th.top) stays ∙ q.act_is)

        stays_alike : settled code s t (less (stepped code s t th (pos 0))) ≡ settled code s t (less th)
        stays_alike =
            ap (λ z. settled code s t (less z)) (q.becomes (pos 0))
            ∙ ap (settled code s t) (less_is
            ∙ sym (act_after_beside code s t th (lost th.stripes lock stripe) (th.entries + 1) (th.revokes + 1) (listed_lost th.stripes) (act_at code th.top) (pos 0) stays q.act_is)
            ∙ sym ((is_quiet_step code s t (less th) due_less).becomes (pos 0)))
            ∙ settled_step code s t runnable (less th) (pos 0) due_less

      -- ---- a thread that leaves

      module _ (l : Leaves (act_at code th.top) th.top.made) where
        owed : owes th.stripes ≡ true
        owed = owes_if lock stripe th.stripes (event th l) has (sym (due_leaving th l) ∙ q.act_is)

        abbrev kept : Thread
        kept = keeping th (held th.stripes)

        now : stepped code s t th (pos 0) ≡ kept
        now = (forgets th l q.runs owed).1

        first : (due_of code s t (less th) ≡ due.Quiet) × (stepped code s t (less th) (pos 0) ≡ keeping (less th) (held (lost th.stripes lock stripe)))
        first = forgets (less th) l q.runs (ap owes (lost_is th.stripes) ∙ owes_marked p th.stripes owed)

        later : (due_of code s t (less kept) ≡ due.Quiet) × (stepped code s t (less kept) (pos 0) ≡ keeping (less kept) (held (lost (held th.stripes) lock stripe)))
        later = forgets (less kept) l q.runs (ap owes (lost_is (held th.stripes)) ∙ owes_lost lock stripe (held th.stripes) (holds_held lock stripe th.stripes ∙ has))

        abbrev left : List Stripe
        left = others p (held th.stripes)

        left_first : held (lost th.stripes lock stripe) ≡ left
        left_first = ap held (lost_is th.stripes) ∙ held_marked lock stripe 0 th.stripes agree.sorted

        left_later : held (lost (held th.stripes) lock stripe) ≡ left
        left_later = ap held (lost_is (held th.stripes)) ∙ held_marked lock stripe 0 (held th.stripes) (held_sorted 0 th.stripes agree.sorted) ∙ ap (others p) (held_again th.stripes)

        same_regions : all_keep left (all_keep (held th.stripes) th.regions) ≡ all_keep left th.regions
        same_regions = all_keep_twice left (held th.stripes) (λ n e. listed_filter (λ x. not (p x)) n (held th.stripes) e) th.regions

        abbrev with_regions : List OpenRegion → Thread
        with_regions rs = record (less th) { stripes = left; regions = rs }

        both : keeping (less kept) left ≡ keeping (less th) left
        both =
            ap with_regions (keep_is left (open_ones (map (λ r. with_pairs r (filter (λ x. is_listed (held th.stripes) (number_of_pair x)) r.stripes)) th.regions)))
            ∙ ap (λ rs. with_regions (all_keep left rs)) (keep_is (held th.stripes) th.regions)
            ∙ ap with_regions same_regions
            ∙ sym (ap with_regions (keep_is left th.regions))

        leaves_alike : settled code s t (less (stepped code s t th (pos 0))) ≡ settled code s t (less th)
        leaves_alike =
            ap (λ z. settled code s t (less z)) now
            ∙ sym (settled_step code s t runnable (less kept) (pos 0) later.0)
            ∙ ap (settled code s t) (later.1 ∙ ap (keeping (less kept)) left_later ∙ both ∙ sym (ap (keeping (less th)) left_first) ∙ sym first.1)
            ∙ settled_step code s t runnable (less th) (pos 0) first.0

      step_alike : settled code s t (less (stepped code s t th (pos 0))) ≡ settled code s t (less th)
      step_alike = by (is_leaving (act_at code th.top) th.top.made) refl
        where
          by : (b : Bool) → is_leaving (act_at code th.top) th.top.made ≡ b → settled code s t (less (stepped code s t th (pos 0))) ≡ settled code s t (less th)
          by true e = leaves_alike (leaves (act_at code th.top) th.top.made e)
          by false e = stays_alike e

    -- ---- all quiet steps

    record Keeps (th q : Thread) : Type 0 where
      agree : Agree q.stripes q.regions
      has : holds q.stripes lock stripe ≡ true
      same : settled code s t (less q) ≡ settled code s t (less th)

    keeps_on : (th q : Thread) → due_of code s t q ≡ due.Quiet → Keeps th q → Keeps th (stepped code s t q (pos 0))
    keeps_on th q e k =
        let steps : Steps q (stepped code s t q (pos 0)) due.Quiet = subst (Steps q (stepped code s t q (pos 0))) e (stepped_steps code s t q (pos 0)) in
        let small = holds_small 0 lock stripe q.stripes k.agree.sorted k.has in
        let agree = steps.agrees k.agree in
        record {
          agree = agree;
          has = holds_is 0 lock stripe (stepped code s t q (pos 0)).stripes small agree.sorted ∙ steps.moves k.agree (numbered lock stripe) ∙ sym (holds_is 0 lock stripe q.stripes small k.agree.sorted) ∙ k.has;
          same = step_alike q (is_quiet_step code s t q e) k.agree k.has ∙ k.same;
        }

    all_kept : (th : Thread) → Agree th.stripes th.regions → holds th.stripes lock stripe ≡ true → Keeps th (settled code s t th)
    all_kept th agree has = settled_keeps code s t (Keeps th) (λ q e k. keeps_on th q e k) th (record { agree = agree; has = has; same = refl })

    pub settled_less : (th : Thread) → Agree th.stripes th.regions → holds th.stripes lock stripe ≡ true → settled code s t (gave_up (settled code s t th) lock stripe) ≡ settled code s t (gave_up th lock stripe)
    settled_less th agree has = (all_kept th agree has).same
