-- Threads that go on as others did: each label does the same with both, so walks from their states come to the same.
use Rattle.std.proofs.Common.{◌≡◌, ℕ, zero, suc, ◌+◌, ◌⊎◌, inl, inr, Bool, true, false, if◌then◌else◌, nat_lt, List, [], ◌∷◌, ◌++◌, length, drop, Option, Some, None, refl, sym, ap, subst, ◌∙◌, ℤ, pos, append_assoc, append-nil}
use Rattle.std.specs.Prelude.{slice_get, slice_index, ◌↔◌}
use Rattle.std.proofs.lemmas.Bool.{true≢false}
use Rattle.std.proofs.lemmas.Option.{same_Some}
use Rattle.rr_base.specs.declared.trap.Trap.{Trap}
use Rattle.sync_objects.specs.Setup.{SetupView}
use Rattle.sync_objects.specs.Names.{name_of}
use Rattle.sync_objects.specs.Words.{number_of}
use Rattle.sync_objects.specs.Advance.{Advance, NotAllowed as NoRow, Advances, advanced}
use Rattle.sync_objects.specs.declared.entry.Entry.{Entry}
use Rattle.sync_objects.specs.declared.object.ObjId.{ObjId}
use Rattle.sync_objects.specs.declared.object.ObjId.TheVariants as object
use Rattle.sync_objects.specs.declared.operation.Op.{Op}
use Rattle.sync_objects.specs.declared.operation.Op.TheVariants as op
use Rattle.flow_code.specs.declared.code.Code.{Code}
use Rattle.word_semantics.specs.declared.event.Action.{Action}
use Rattle.word_semantics.specs.declared.event.Due.TheVariants as due
use Rattle.word_semantics.specs.declared.event.Action.TheVariants as action
use Rattle.word_semantics.specs.Values.{number}
use Rattle.flow_code.specs.Threads.{Thread}
use Rattle.flow_code.specs.Next.{stepped as thread_stepped, action_at, due_of, gave_up, stopped, slot_closed, has_ended}
use Rattle.flow_code.specs.Settle.{settled}
use Rattle.flow_code.proofs.Counts.{ended_due, ended_action}
use Rattle.flow_code.proofs.Settle.{settled_keeps}
use Rattle.thread_interpreter.specs.Endings.{trap_of}
use Rattle.thread_interpreter.specs.Pieces.{piece_next}
use Rattle.core_run.specs.Words.{cells_of, has_object, place_of}
use Rattle.core_run.specs.Machine.{Told, accessed, marked, operated, change_of, access_of, entry_of, operation, action_effect, may_revoke, may_stop, may_close, effect_of, machine}
use Rattle.core_run.specs.Walks.{pieces_of, joined, printed_between, Trapping, trap_or, first_trap, walk_of, out_of, out_on}
use Rattle.core_run.specs.Histories.{HaveEnded}
use Rattle.core_run.proofs.Lawful.{effect_go, effect_revoke, effect_stop, effect_close}
use Rattle.core_run.proofs.ThreadRanges.{revoke_lives, stop_lives, close_lives}
use Rattle.run_theory.specs.Labels.{Label, Go, Revoke, Stop, Close, label_thread}
use Rattle.run_theory.specs.Steps.{Becomes, Effect, Refused, Marks, Loads, Stores, Operates, State, load_outcome, changed_outcome, change_outcome}
use Rattle.run_theory.specs.Walk.{part}
use Rattle.checkpoint.specs.Alike.{EndAlike, BothEndAlike, WalkAlike}
use Rattle.checkpoint.proofs.Simulation.{SameOutcome, SameEffect, SameOption, SameState, SameStates, part_same, walk_same}

-- both threads have ended, by the same trap or by none
pub record EndedAlike (a b : Thread) : Type 0 where
  pub first : has_ended a.phase ≡ true
  pub second : has_ended b.phase ≡ true
  pub trap : trap_of a.phase ≡ trap_of b.phase
  pub count : a.count ≡ b.count

-- the same thread, or both have ended alike
abbrev pub SameThread : Thread → Thread → Type 0
SameThread a b = (a ≡ b) ⊎ EndedAlike a b

-- the second thread goes on as the first one, which had printed these pieces before
pub record Follows (past : ℕ → List (List ℕ)) (t : ℕ) (a b : Told) : Type 0 where
  pub thread : SameThread a.thread b.thread
  pub pieces : a.pieces ≡ past t ++ b.pieces

-- a thread that there isn't has printed nothing
abbrev pub NonePast : (ℕ → List (List ℕ)) → ℕ → Type 0
NonePast past t = past t ≡ []

-- nothing is done with a thread that has ended

pub ended_settles : (code : Code) (s : SetupView) (t : ℕ) (th : Thread) → has_ended th.phase ≡ true → has_ended (settled code s t th).phase ≡ true
ended_settles code s t th h =
    settled_keeps code s t (λ q. has_ended q.phase ≡ true) (λ q e k. let clash : due.Quiet ≡ due.Nothing = sym e ∙ ended_due code s t q k in absurd (cc clash)) th h

if_false : (b : Bool) (e : Effect Told) → (b ≡ true → ⊥) → (if b then e else Refused) ≡ Refused
if_false true e h = absurd (h refl)
if_false false e h = refl

pub ended_refused : (code : Code) (s : SetupView) (l : Label) (told : Told) → has_ended told.thread.phase ≡ true → effect_of code s l told ≡ Refused
ended_refused code s (Go t) told h = effect_go code s t told ∙ ap (action_effect code s t told (settled code s t told.thread)) (ended_action code s t (settled code s t told.thread) (ended_settles code s t told.thread h))
ended_refused code s (Revoke t lock stripe) told h = effect_revoke code s t lock stripe told ∙ if_false (may_revoke told.thread lock stripe) _ (λ m. true≢false (sym h ∙ revoke_lives told.thread lock stripe m))
ended_refused code s (Stop t) told h = effect_stop code s t told ∙ if_false (may_stop told.thread) _ (λ m. true≢false (sym h ∙ stop_lives told.thread m))
ended_refused code s (Close t) told h = effect_close code s t told ∙ if_false (may_close told.thread) _ (λ m. true≢false (sym h ∙ close_lives told.thread m))

module _ (code : Code) (s : SetupView) (past : ℕ → List (List ℕ)) where
  abbrev Same : ℕ → Effect Told → Effect Told → Type 0
  Same t e f = SameEffect (machine code s) (Follows past) (NonePast past) t e f

  refused_same : (t : ℕ) → Same t Refused Refused
  refused_same t = record { entry = λ ws. refl; leaves = λ ws. tt }

  if_same : (t : ℕ) (b : Bool) (e f : Effect Told) → Same t e f → Same t (if b then e else Refused) (if b then f else Refused)
  if_same t true e f h = h
  if_same t false e f h = refused_same t

  module _ (t : ℕ) (a b : Told) (printed_so_far : a.pieces ≡ past t ++ b.pieces) where
    more_pieces : (printed : List (List ℕ)) → a.pieces ++ printed ≡ past t ++ (b.pieces ++ printed)
    more_pieces printed = ap (λ ps. ps ++ printed) printed_so_far ∙ append_assoc (past t) b.pieces printed

    change_same : (ws : List ℕ) (i : ℕ) (x y : Entry) (printed : List (List ℕ)) (after : ℤ → Thread) (w : ℕ) (r : Advance) → SameOutcome (machine code s) (Follows past) (NonePast past) t (changed_outcome ws i (change_of a x printed after w r)) (changed_outcome ws i (change_of b y printed after w r))
    change_same ws i x y printed after w NoRow = tt
    change_same ws i x y printed after w (Advances new answer) = (refl, record { thread = inl refl; pieces = more_pieces printed })

    word_same : (ws : List ℕ) (i : ℕ) (x y : Entry) (printed : List (List ℕ)) (after : ℤ → Thread) (o : Op) (w : Option ℕ) →
        SameOutcome (machine code s) (Follows past) (NonePast past) t (change_outcome ws i (λ v. change_of a x printed after v (advanced o t v)) w) (change_outcome ws i (λ v. change_of b y printed after v (advanced o t v)) w)
    word_same ws i x y printed after o None = tt
    word_same ws i x y printed after o (Some w) = change_same ws i x y printed after w (advanced o t w)

    operation_same : (o : Op) (obj : ObjId) (printed : List (List ℕ)) (after : ℤ → Thread) → a.thread ≡ b.thread → Same t (operation code s t a o obj printed after) (operation code s t b o obj printed after)
    operation_same o obj printed after e =
        if_same t (has_object code s obj) _ _ (record {
          entry = λ ws. ap (λ (th : Thread). record { entry = entry_of t th (name_of o) obj; number = number_of (slice_index ws (place_of (cells_of code s) obj)) } ∷ []) e;
          leaves = λ ws. word_same ws (place_of (cells_of code s) obj) (entry_of t a.thread (name_of o) obj) (entry_of t b.thread (name_of o) obj) printed after o (slice_get ws (place_of (cells_of code s) obj));
        })

    load_same : (th : Thread) (c : ℕ) (ws : List ℕ) (o : Option ℕ) →
        SameOutcome (machine code s) (Follows past) (NonePast past) t (load_outcome ws (λ w. accessed a (thread_stepped code s t th (number w)) (access_of t th c w false)) o) (load_outcome ws (λ w. accessed b (thread_stepped code s t th (number w)) (access_of t th c w false)) o)
    load_same th c ws None = tt
    load_same th c ws (Some w) = (refl, record { thread = inl refl; pieces = printed_so_far })

    store_same : (th : Thread) (c v : ℕ) (ws : List ℕ) (o : Option ℕ) →
        SameOutcome (machine code s) (Follows past) (NonePast past) t (change_outcome ws c (λ _. Becomes v (pos 0) (accessed a (thread_stepped code s t th (pos 0)) (access_of t th c v true))) o) (change_outcome ws c (λ _. Becomes v (pos 0) (accessed b (thread_stepped code s t th (pos 0)) (access_of t th c v true))) o)
    store_same th c v ws None = tt
    store_same th c v ws (Some w) = (refl, record { thread = inl refl; pieces = printed_so_far })

  action_same : (t : ℕ) (a b : Told) (th : Thread) (x : Action) → a.pieces ≡ past t ++ b.pieces → Same t (action_effect code s t a th x) (action_effect code s t b th x)
  action_same t a b th action.Quiet p = refused_same t
  action_same t a b th (action.Load c) p = if_same t (nat_lt c (cells_of code s)) _ _ (record { entry = λ ws. refl; leaves = λ ws. load_same t a b p th c ws (slice_get ws c) })
  action_same t a b th (action.Store c v) p = if_same t (nat_lt c (cells_of code s)) _ _ (record { entry = λ ws. refl; leaves = λ ws. store_same t a b p th c v ws (slice_get ws c) })
  action_same t a b th action.Mark p = record { entry = λ ws. refl; leaves = λ ws. (refl, record { thread = inl refl; pieces = p }) }
  action_same t a b th (action.Operate o obj) p = operation_same t (record a { thread = th }) (record b { thread = th }) p o obj (piece_next code th o) (λ answer. thread_stepped code s t th answer) refl
  action_same t a b th action.Ended p = refused_same t

  both : (t : ℕ) (e f e1 f1 : Effect Told) → e ≡ e1 → f ≡ f1 → Same t e1 f1 → Same t e f
  both t e f e1 f1 p q h = subst (λ z. Same t z f) (sym p) (subst (Same t e1) (sym q) h)

  live_same : (l : Label) (a b : Told) → a.thread ≡ b.thread → a.pieces ≡ past (label_thread l) ++ b.pieces → Same (label_thread l) (effect_of code s l a) (effect_of code s l b)
  live_same (Go t) a b e p =
      both t _ _ _ _ (effect_go code s t a) (effect_go code s t b ∙ ap (λ th. action_effect code s t b (settled code s t th) (action_at code s t (settled code s t th))) (sym e))
      (action_same t a b (settled code s t a.thread) (action_at code s t (settled code s t a.thread)) p)
  live_same (Revoke t lock stripe) a b e p =
      both t _ _ _ _ (effect_revoke code s t lock stripe a) (effect_revoke code s t lock stripe b ∙ ap (λ th. if may_revoke th lock stripe then operation code s t b op.Revoke (object.Weak lock stripe) [] (λ answer. gave_up th lock stripe) else Refused) (sym e))
      (if_same t (may_revoke a.thread lock stripe) _ _ (operation_same t a b p op.Revoke (object.Weak lock stripe) [] (λ answer. gave_up a.thread lock stripe) e))
  live_same (Stop t) a b e p =
      both t _ _ _ _ (effect_stop code s t a) (effect_stop code s t b ∙ ap (λ th. if may_stop th then operation code s t b op.Stop object.Halt [] (λ answer. stopped th) else Refused) (sym e))
      (if_same t (may_stop a.thread) _ _ (operation_same t a b p op.Stop object.Halt [] (λ answer. stopped a.thread) e))
  live_same (Close t) a b e p =
      both t _ _ _ _ (effect_close code s t a) (effect_close code s t b ∙ ap (λ th. if may_close th then operation code s t b op.Close (object.Slot t) [] (λ answer. slot_closed th) else Refused) (sym e))
      (if_same t (may_close a.thread) _ _ (operation_same t a b p op.Close (object.Slot t) [] (λ answer. slot_closed a.thread) e))

  -- each label does the same with a thread and one that goes on as it did
  pub effects_same : (l : Label) (a b : Told) → Follows past (label_thread l) a b → Same (label_thread l) (effect_of code s l a) (effect_of code s l b)
  effects_same l a b h = by h.thread
    where
      by : SameThread a.thread b.thread → Same (label_thread l) (effect_of code s l a) (effect_of code s l b)
      by (inl e) = live_same l a b e h.pieces
      by (inr e) = both (label_thread l) _ _ _ _ (ended_refused code s l a e.first) (ended_refused code s l b e.second) (refused_same (label_thread l))

  pub counts_same : (t : ℕ) (a b : Told) → Follows past t a b → a.thread.count ≡ b.thread.count
  counts_same t a b h = by h.thread
    where
      by : SameThread a.thread b.thread → a.thread.count ≡ b.thread.count
      by (inl e) = ap (λ z. z.count) e
      by (inr e) = e.count

  abbrev pub Beside : State Told → State Told → Type 0
  Beside a b = SameState (machine code s) (Follows past) (NonePast past) a b

  abbrev pub BothBeside : Option (State Told) → Option (State Told) → Type 0
  BothBeside o p = SameStates (machine code s) (Follows past) (NonePast past) o p

  -- what is printed

  pieces_same : (t : ℕ) (o p : Option Told) → SameOption (machine code s) (Follows past) (NonePast past) t o p → pieces_of o ≡ past t ++ pieces_of p
  pieces_same t None None h = sym (append-nil (past t) ∙ h)
  pieces_same t None (Some b) h = absurd h
  pieces_same t (Some a) None h = absurd h
  pieces_same t (Some a) (Some b) h = h.pieces

  drop_past : (xs ys zs : List (List ℕ)) → drop (length (xs ++ ys)) (xs ++ zs) ≡ drop (length ys) zs
  drop_past [] ys zs = refl
  drop_past (x ∷ xs) ys zs = drop_past xs ys zs

  printed_same : (t : ℕ) (a b a1 b1 : State Told) → Beside a b → Beside a1 b1 → printed_between t a a1 ≡ printed_between t b b1
  printed_same t a b a1 b1 h k =
      let before = pieces_same t (slice_get a.threads t) (slice_get b.threads t) (h.threads t) in
      let after = pieces_same t (slice_get a1.threads t) (slice_get b1.threads t) (k.threads t) in
      ap (λ ps. joined (drop (length ps) (pieces_of (slice_get a1.threads t)))) before
      ∙ ap (λ ps. joined (drop (length (past t ++ pieces_of (slice_get b.threads t))) ps)) after
      ∙ ap joined (drop_past (past t) (pieces_of (slice_get b.threads t)) (pieces_of (slice_get b1.threads t)))

  pub out_same : (es : List Entry) (a b : State Told) → Beside a b → out_of code s es a ≡ out_of code s es b
  out_same [] a b h = refl
  out_same (e ∷ es) a b h = go (part (machine code s) e a) (part (machine code s) e b) (part_same (machine code s) (Follows past) (NonePast past) effects_same counts_same e a b h) (out_same es)
    where
      go : (o p : Option (State Told)) → BothBeside o p → ((x y : State Told) → Beside x y → out_of code s es x ≡ out_of code s es y) → out_on code s (out_of code s es) e a o ≡ out_on code s (out_of code s es) e b p
      go None None k again = refl
      go None (Some y) k again = absurd k
      go (Some x) None k again = absurd k
      go (Some x) (Some y) k again = ap (λ ps. ps ++ out_of code s es x) (printed_same e.thread a b x y h k) ∙ ap (λ ps. printed_between e.thread b y ++ ps) (again x y k)

  -- how the threads have ended

  phase_ended : (a b : Thread) → SameThread a b → has_ended a.phase ≡ has_ended b.phase
  phase_ended a b (inl e) = ap (λ z. has_ended z.phase) e
  phase_ended a b (inr e) = e.first ∙ sym e.second

  phase_trap : (a b : Thread) → SameThread a b → trap_of a.phase ≡ trap_of b.phase
  phase_trap a b (inl e) = ap (λ z. trap_of z.phase) e
  phase_trap a b (inr e) = e.trap

  ended_there : (t : ℕ) (o p : Option Told) → SameOption (machine code s) (Follows past) (NonePast past) t o p → ((x : Told) → o ≡ Some x → has_ended x.thread.phase ≡ true) → (y : Told) → p ≡ Some y → has_ended y.thread.phase ≡ true
  ended_there t None None h k y e = cc
  ended_there t None (Some b) h k y e = absurd h
  ended_there t (Some a) None h k y e = absurd h
  ended_there t (Some a) (Some b) h k y e = subst (λ (z : Told). has_ended z.thread.phase ≡ true) (same_Some b y e) (sym (phase_ended a.thread b.thread h.thread) ∙ k a refl)

  ended_here : (t : ℕ) (o p : Option Told) → SameOption (machine code s) (Follows past) (NonePast past) t o p → ((y : Told) → p ≡ Some y → has_ended y.thread.phase ≡ true) → (x : Told) → o ≡ Some x → has_ended x.thread.phase ≡ true
  ended_here t None None h k x e = cc
  ended_here t None (Some b) h k x e = absurd h
  ended_here t (Some a) None h k x e = absurd h
  ended_here t (Some a) (Some b) h k x e = subst (λ (z : Told). has_ended z.thread.phase ≡ true) (same_Some a x e) (phase_ended a.thread b.thread h.thread ∙ k b refl)

  traps_same : (t : ℕ) (xs ys : List Told) → ((u : ℕ) → (n : ℕ) × SameOption (machine code s) (Follows past) (NonePast past) n (slice_get xs u) (slice_get ys u)) → first_trap t xs ≡ first_trap t ys
  traps_same t [] [] h = refl
  traps_same t [] (b ∷ ys) h = absurd (h 0).1
  traps_same t (a ∷ xs) [] h = absurd (h 0).1
  traps_same t (a ∷ xs) (b ∷ ys) h = ap (λ o. trap_or t o (first_trap (t + 1) xs)) (phase_trap a.thread b.thread (h 0).1.thread) ∙ ap (trap_or t (trap_of b.thread.phase)) (traps_same (t + 1) xs ys (λ u. h (suc u)))

  ends_same : (a b : State Told) → Beside a b → EndAlike code s a b
  ends_same a b h = record {
    ended = (
      (λ all t y e. ended_there t (slice_get a.threads t) (slice_get b.threads t) (h.threads t) (all t) y e),
      (λ all t x e. ended_here t (slice_get a.threads t) (slice_get b.threads t) (h.threads t) (all t) x e),
    );
    trap = traps_same 0 a.threads b.threads (λ u. (u, h.threads u));
  }

  -- walks from states whose threads go on alike come to the same
  pub walks_alike : (es : List Entry) (a b : State Told) → Beside a b → WalkAlike code s es a b
  walks_alike es a b h = record {
    out = out_same es a b h;
    ends = by (walk_of code s es a) (walk_of code s es b) (walk_same (machine code s) (Follows past) (NonePast past) effects_same counts_same es a b h);
  }
    where
      by : (o p : Option (State Told)) → BothBeside o p → BothEndAlike code s o p
      by None None k = tt
      by None (Some y) k = absurd k
      by (Some x) None k = absurd k
      by (Some x) (Some y) k = ends_same x y k
