-- How a step of the machine moves the stripes that its thread holds.
use Rattle.std.proofs.Common.{◌≡◌, ℕ, ◌==◌, ◌&&◌, not, nat_lt, inl, inr, true, false, if◌then◌else◌, List, sym, ap, subst, ◌∙◌, ℤ}
use Rattle.std.proofs.lemmas.Bool.{and_parts}
use Rattle.sync_objects.specs.Setup.{SetupView}
use Rattle.sync_objects.specs.Names.{name_of, kind_of}
use Rattle.sync_objects.specs.States.{LockState, Free, HeldBy}
use Rattle.sync_objects.specs.Packing.{shown, lock_of}
use Rattle.sync_objects.specs.Words.{state_of}
use Rattle.sync_objects.specs.Table.{Moves as RowMoves, first_row, rows}
use Rattle.sync_objects.specs.declared.object.ObjId.{ObjId}
use Rattle.sync_objects.specs.declared.object.ObjId.TheVariants as object
use Rattle.sync_objects.specs.declared.operation.Op.{Op}
use Rattle.sync_objects.specs.declared.operation.Op.TheVariants as op
use Rattle.sync_objects.proofs.RowsOf.{take_rows, give_rows}
use Rattle.word_semantics.specs.declared.event.Due.{Due}
use Rattle.word_semantics.specs.declared.event.Due.TheVariants as due
use Rattle.word_semantics.specs.declared.event.Action.{Action}
use Rattle.word_semantics.specs.declared.event.Action.TheVariants as action
use Rattle.word_semantics.specs.Limits.{most_entries, most_revokes}
use Rattle.flow_code.specs.declared.code.Code.{Code}
use Rattle.flow_code.specs.declared.thread.Stripe.{Stripe}
use Rattle.flow_code.specs.Threads.{Thread}
use Rattle.flow_code.specs.Next.{holds, due_of, action_of, has_ended, stepped as thread_stepped, gave_up, stopped, slot_closed}
use Rattle.flow_code.specs.Settle.{settled}
use Rattle.flow_code.proofs.Counts.{IsAccessAction}
use Rattle.flow_code.proofs.Settle.{action_is}
use Rattle.core_run.specs.Machine.{may_revoke}
use Rattle.run_theory.specs.Labels.{Label, label_thread}
use Rattle.lock_ownership.proofs.Holds.{numbered}
use Rattle.lock_ownership.proofs.Regions.{Agree}
use Rattle.lock_ownership.proofs.PlainDues.{is_stripe}
use Rattle.lock_ownership.proofs.Moves.{HoldsAlike, Gains, Loses, Gets, LetsGo, ByOperation, elsewhere, gains, loses, Moves}
use Rattle.lock_ownership.proofs.ThreadSteps.{Steps}
use Rattle.lock_ownership.proofs.DueSteps.{stepped_steps, revoked_steps, stopped_steps, shut_steps, settled_settles}
use Rattle.lock_ownership.proofs.Stepping.{ComesTo, Makes, by_itself, by_revoke, by_stop, by_close}

-- the stripes of a thread after an operation agree with its open regions, and those that it holds have moved
pub record OperationMoves (th q : Thread) (o : Op) (obj : ObjId) : Type 0 where
  pub agrees : Agree q.stripes q.regions
  pub moves : ByOperation th.stripes q.stripes o obj

pub record AccessMoves (th q : Thread) : Type 0 where
  pub agrees : Agree q.stripes q.regions
  pub alike : HoldsAlike th.stripes q.stripes

-- the same where nothing has moved before
alike_gains : (xs ys zs : List Stripe) (k : ℕ) → HoldsAlike xs ys → Gains ys zs k → Gains xs zs k
alike_gains xs ys zs k h g = record { before = sym (h k) ∙ g.before; after = λ n. g.after n ∙ ap (λ b. if k == n then true else b) (h n) }

alike_loses : (xs ys zs : List Stripe) (k : ℕ) → HoldsAlike xs ys → Loses ys zs k → Loses xs zs k
alike_loses xs ys zs k h g = record { before = sym (h k) ∙ g.before; after = λ n. g.after n ∙ ap (λ b. if k == n then false else b) (h n) }

alike_operation : (xs ys zs : List Stripe) (o : Op) (obj : ObjId) → HoldsAlike xs ys → ByOperation ys zs o obj → ByOperation xs zs o obj
alike_operation xs ys zs o obj h (elsewhere e f) = elsewhere e (λ n. f n ∙ h n)
alike_operation xs ys zs o obj h (gains lock stripe small on gets g) = gains lock stripe small on gets (alike_gains xs ys zs (numbered lock stripe) h g)
alike_operation xs ys zs o obj h (loses lock stripe small on lets g) = loses lock stripe small on lets (alike_loses xs ys zs (numbered lock stripe) h g)

operation_due : (xs ys : List Stripe) (d : Due) (o : Op) (obj : ObjId) → action_of d ≡ action.Operate o obj → Moves xs ys d → ByOperation xs ys o obj
operation_due xs ys due.Nothing o obj e m = cc
operation_due xs ys due.Quiet o obj e m = cc
operation_due xs ys (due.Load c) o obj e m = cc
operation_due xs ys (due.Store c w) o obj e m = cc
operation_due xs ys due.Mark o obj e m = cc
operation_due xs ys (due.Operate p q) o obj e m = let a : p ≡ o = cc in let b : q ≡ obj = cc in subst (λ z. ByOperation xs ys z obj) a (subst (ByOperation xs ys p) b m)
operation_due xs ys (due.Trap kind) o obj e m = let b : object.Halt ≡ obj = cc in elsewhere (ap is_stripe (sym b)) m

access_due : (xs ys : List Stripe) (d : Due) → IsAccessAction (action_of d) → Moves xs ys d → HoldsAlike xs ys
access_due xs ys due.Nothing e m = absurd e
access_due xs ys due.Quiet e m = absurd e
access_due xs ys (due.Load c) e m = m
access_due xs ys (due.Store c w) e m = m
access_due xs ys due.Mark e m = m
access_due xs ys (due.Operate p q) e m = absurd e
access_due xs ys (due.Trap kind) e m = absurd e

module _ (code : Code) (s : SetupView) (l : Label) (th q : Thread) (h : Agree th.stripes th.regions) where
  abbrev calm : Thread
  calm = settled code s (label_thread l) th

  pub access_moves : (a : Action) (answer : ℤ) → IsAccessAction a → ComesTo code s l th a answer q → AccessMoves th q
  access_moves a answer is c =
      let k = settled_settles code s (label_thread l) th in
      let m = stepped_steps code s (label_thread l) calm answer in
      let access = subst IsAccessAction (sym c.comes ∙ action_is code s (label_thread l) calm) is in
      record {
        agrees = subst (λ z. Agree z.stripes z.regions) (sym c.after) (m.agrees (k.agrees h));
        alike = subst (λ z. HoldsAlike th.stripes z.stripes) (sym c.after) (λ n. access_due calm.stripes (thread_stepped code s (label_thread l) calm answer).stripes (due_of code s (label_thread l) calm) access (m.moves (k.agrees h)) n ∙ k.alike h n);
      }

  own_moves : (o : Op) (obj : ObjId) (answer : ℤ) → ComesTo code s l th (action.Operate o obj) answer q → OperationMoves th q o obj
  own_moves o obj answer c =
      let k = settled_settles code s (label_thread l) th in
      let m = stepped_steps code s (label_thread l) calm answer in
      let e = sym (action_is code s (label_thread l) calm) ∙ c.comes in
      record {
        agrees = subst (λ z. Agree z.stripes z.regions) (sym c.after) (m.agrees (k.agrees h));
        moves = subst (λ z. ByOperation th.stripes z.stripes o obj) (sym c.after)
            (alike_operation th.stripes calm.stripes (thread_stepped code s (label_thread l) calm answer).stripes o obj (k.alike h)
            (operation_due calm.stripes (thread_stepped code s (label_thread l) calm answer).stripes (due_of code s (label_thread l) calm) o obj e (m.moves (k.agrees h))));
      }

  by_steps : (o : Op) (obj : ObjId) (r : Thread) → q ≡ r → Steps th r (due.Operate o obj) → OperationMoves th q o obj
  by_steps o obj r e m = record { agrees = subst (λ z. Agree z.stripes z.regions) (sym e) (m.agrees h); moves = subst (λ z. ByOperation th.stripes z.stripes o obj) (sym e) (m.moves h) }

  revoke_holds : (lock stripe : ℕ) → may_revoke th lock stripe ≡ true → holds th.stripes lock stripe ≡ true
  revoke_holds lock stripe e =
      let a = and_parts (not (has_ended th.phase) && holds th.stripes lock stripe && nat_lt th.entries most_entries) (nat_lt th.revokes most_revokes) e in
      let b = and_parts (not (has_ended th.phase) && holds th.stripes lock stripe) (nat_lt th.entries most_entries) a.0 in
      (and_parts (not (has_ended th.phase)) (holds th.stripes lock stripe) b.0).1

  pub operation_moves : (o : Op) (obj : ObjId) (answer : ℤ) → Makes code s l th o obj answer q → OperationMoves th q o obj
  operation_moves o obj answer (by_itself c) = own_moves o obj answer c
  operation_moves o obj answer (by_revoke lock stripe may e f after) =
      subst (λ z. OperationMoves th q z obj) (sym e) (subst (OperationMoves th q op.Revoke) (sym f) (by_steps op.Revoke (object.Weak lock stripe) (gave_up th lock stripe) after (revoked_steps th lock stripe (revoke_holds lock stripe may))))
  operation_moves o obj answer (by_stop may e f after) = subst (λ z. OperationMoves th q z obj) (sym e) (subst (OperationMoves th q op.Stop) (sym f) (by_steps op.Stop object.Halt (stopped th) after (stopped_steps th)))
  operation_moves o obj answer (by_close may e f after) = subst (λ z. OperationMoves th q z obj) (sym e) (subst (OperationMoves th q op.Close) (sym f) (by_steps op.Close (object.Slot (label_thread l)) (slot_closed th) after (shut_steps th (label_thread l))))

-- ---- what an operation on a stripe says of its word

abbrev lock_in : ℕ → LockState
lock_in w = lock_of (state_of w)

pub gets_row : (o : Op) (t : ℕ) (answer : ℤ) (w v : ℕ) → Gets o → first_row (rows o t) (shown (kind_of (name_of o)) w) ≡ RowMoves (shown (kind_of (name_of o)) v) answer → (lock_in w ≡ Free) × (lock_in v ≡ HeldBy t)
gets_row op.Take t answer w v g e = let r = take_rows t (lock_in w) (lock_in v) answer e in (r.0, r.1)
gets_row op.Retake t answer w v g e = let r = take_rows t (lock_in w) (lock_in v) answer e in (r.0, r.1)
gets_row o t answer w v (inl e) r = cc
gets_row o t answer w v (inr e) r = cc

pub lets_row : (o : Op) (t : ℕ) (answer : ℤ) (w v : ℕ) → LetsGo o → first_row (rows o t) (shown (kind_of (name_of o)) w) ≡ RowMoves (shown (kind_of (name_of o)) v) answer → (lock_in w ≡ HeldBy t) × (lock_in v ≡ Free)
lets_row op.Give t answer w v g e = let r = give_rows t (lock_in w) (lock_in v) answer e in (r.0, r.1)
lets_row op.Revoke t answer w v g e = let r = give_rows t (lock_in w) (lock_in v) answer e in (r.0, r.1)
lets_row o t answer w v (inl e) r = cc
lets_row o t answer w v (inr e) r = cc
