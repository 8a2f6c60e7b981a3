-- Why a step is made.
use Rattle.std.proofs.Common.{◌≡◌, ℕ, List, ◌++◌, Option, Some, None, refl, sym, subst, ◌∙◌}
use Rattle.flow_code.specs.Next.{has_begun}
use Rattle.sync_objects.specs.declared.object.ObjId.{ObjId}
use Rattle.sync_objects.specs.declared.object.ObjId.TheVariants as object
use Rattle.sync_objects.specs.declared.operation.Op.{Op}
use Rattle.sync_objects.specs.declared.operation.Op.TheVariants as op
use Rattle.shared_cells.specs.Rule.{Board}
use Rattle.shared_cells.specs.Seats.{AttemptIs}
use Rattle.shared_cells.specs.Views.{Note}
use Rattle.shared_cells.specs.declared.attempt.Attempt.{Attempt}
use Rattle.shared_cells.specs.declared.seat.Seat.{Seat}
use Rattle.weak_turns.specs.Finding.{FindsEnd, FindsRevoke, HasFinished, Steps, is_stop}
use Rattle.weak_turns.specs.Turns.{thread_of, number_of, Meets, NoEndIsDue, IsCloseDue, IsStopDue, IsRevokeDue, NoRevokeIsDue, ActIs, IsFree, IsCause, StepIs}
use Rattle.weak_turns.specs.declared.ends.End.{End}
use Rattle.weak_turns.specs.declared.ends.End.TheVariants as end
use Rattle.weak_turns.specs.declared.played.Played.{Played}
use Rattle.weak_turns.specs.declared.played.Played.TheVariants as played
use Rattle.weak_turns.specs.declared.revokes.LockStripe.{LockStripe}
use Rattle.weak_turns.proofs.Noting.{newer, older, no_end_on, revoke_on, no_revoke_on, meets_then, same_thread, same_number}

-- an end that is due is a stop exactly where the thread has begun
pub end_begun : (cells : Board) (a b : Seat) (e : End) → FindsEnd cells a b (Some e) → has_begun (thread_of a).phase ≡ is_stop e
end_begun cells a b end.Stop f = f.is.begun
end_begun cells a b end.Close f = f.is.early

module _ (cells : Board) (a b : Seat) (since : List ℕ) (budget turn : ℕ) where
  stopped : (new : Seat) (o : Op) (obj : ObjId) (came : Attempt) (f : FindsEnd cells a b (Some end.Stop)) → HasFinished b new end.Stop (played.Tried o obj came) → StepIs cells b new since since budget turn f.fresh (played.Tried o obj came)
  stopped new o obj came f h =
      subst (λ z. StepIs cells b new since since budget turn f.fresh (played.Tried z obj came)) (sym h.0)
      (subst (λ z. StepIs cells b new since since budget turn f.fresh (played.Tried op.Stop z came)) (sym h.1)
      (subst (IsStopDue cells f.fresh) (sym (same_thread a b f.fresh f.meets)) f.is, h.2, refl))

  closed : (new : Seat) (o : Op) (obj : ObjId) (came : Attempt) (f : FindsEnd cells a b (Some end.Close)) → HasFinished b new end.Close (played.Tried o obj came) → StepIs cells b new since since budget turn f.fresh (played.Tried o obj came)
  closed new o obj came f h =
      subst (λ z. StepIs cells b new since since budget turn f.fresh (played.Tried z obj came)) (sym h.0)
      (subst (λ z. StepIs cells b new since since budget turn f.fresh (played.Tried op.Close z came)) (sym h.1)
      ((refl, subst (λ t. IsCloseDue cells t f.fresh (thread_of b)) (sym (same_number a b f.fresh f.meets)) (subst (IsCloseDue cells (number_of a) f.fresh) (sym (same_thread a b f.fresh f.meets)) f.is)), h.2, refl))

  pub finished : (new : Seat) (e : End) (p : Played) → FindsEnd cells a b (Some e) → HasFinished b new e p → Steps cells a new since since budget turn p
  finished new end.Stop (played.Tried o obj came) f h = record { mid = b; fresh = f.fresh; meets = f.meets; step = stopped new o obj came f h }
  finished new end.Close (played.Tried o obj came) f h = record { mid = b; fresh = f.fresh; meets = f.meets; step = closed new o obj came f h }
  finished new end.Stop played.Went f h = absurd h
  finished new end.Close played.Went f h = absurd h

  module _ (f : FindsEnd cells a b None) (c : Seat) (place : Option LockStripe) (g : FindsRevoke cells b c since budget turn place) where
    abbrev all : List Note
    all = g.fresh ++ f.fresh

    no_end : NoEndIsDue cells (number_of c) all (thread_of c)
    no_end =
        let same = same_thread b c g.fresh g.meets ∙ same_thread a b f.fresh f.meets in
        let number = same_number b c g.fresh g.meets ∙ same_number a b f.fresh f.meets in
        subst (λ t. NoEndIsDue cells t all (thread_of c)) (sym number)
        (subst (NoEndIsDue cells (number_of a) all) (sym same)
        (no_end_on f.fresh all (older g.fresh f.fresh) cells (number_of a) (thread_of a) f.is))

    meets : Meets a c all
    meets = meets_then a b c f.fresh g.fresh f.meets g.meets

  pub revoked : (f : FindsEnd cells a b None) (c new : Seat) (p : LockStripe) (came : Attempt) → FindsRevoke cells b c since budget turn (Some p) → AttemptIs None c new op.Revoke (object.Weak p.lock p.stripe) came → Steps cells a new since since budget turn (played.Tried op.Revoke (object.Weak p.lock p.stripe) came)
  revoked f c new p came g h = record {
    mid = c;
    fresh = g.fresh ++ f.fresh;
    meets = meets f c (Some p) g;
    step = ((no_end f c (Some p) g, revoke_on g.fresh (g.fresh ++ f.fresh) (newer g.fresh f.fresh) cells (thread_of c) since budget turn p.lock p.stripe (subst (λ th. IsRevokeDue cells th since budget turn g.fresh p.lock p.stripe) (sym (same_thread b c g.fresh g.meets)) g.is)), h, refl);
  }

  is_free : (f : FindsEnd cells a b None) (c : Seat) (g : FindsRevoke cells b c since budget turn None) → IsFree cells c since budget turn (g.fresh ++ f.fresh)
  is_free f c g = record {
    no_end = no_end f c None g;
    no_revoke = no_revoke_on g.fresh (g.fresh ++ f.fresh) (newer g.fresh f.fresh) cells (thread_of c) since budget turn (subst (λ th. NoRevokeIsDue cells th since budget turn g.fresh) (sym (same_thread b c g.fresh g.meets)) g.is);
  }

  acts_so : (f : FindsEnd cells a b None) (c new : Seat) (later : List ℕ) (p : Played) (g : FindsRevoke cells b c since budget turn None) → ActIs c new since later turn p → StepIs cells c new since later budget turn (g.fresh ++ f.fresh) p
  acts_so f c new later (played.Tried o obj came) g h = (subst (λ w. IsCause w cells c since budget turn (g.fresh ++ f.fresh) o obj) (sym h.0) (is_free f c g, h.1), h.2, h.3)
  acts_so f c new later played.Went g h = (is_free f c g, h)

  pub acted : (f : FindsEnd cells a b None) (c new : Seat) (later : List ℕ) (p : Played) → FindsRevoke cells b c since budget turn None → ActIs c new since later turn p → Steps cells a new since later budget turn p
  acted f c new later p g h = record { mid = c; fresh = g.fresh ++ f.fresh; meets = meets f c None g; step = acts_so f c new later p g h }
