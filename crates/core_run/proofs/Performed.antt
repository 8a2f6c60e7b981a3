-- What an operation that comes next does to the words and the thread.
use Rattle.std.proofs.Common.{◌≡◌, ℕ, ◌<◌, ◌-◌, ◌^◌, Bool, true, false, List, [], ◌∷◌, Some, None, refl, sym, ap, ◌∙◌, subst, arith, ℤ}
use Rattle.std.specs.Prelude.{slice_get, slice_set, slice_index, if◌then◌else◌}
use Rattle.sync_objects.specs.Setup.{SetupView, IsWithinLimits}
use Rattle.sync_objects.specs.Names.{name_of, kind_of, Fits}
use Rattle.sync_objects.specs.Sound.{IsSoundWord, IsInRange}
use Rattle.sync_objects.specs.Words.{number_of}
use Rattle.sync_objects.specs.Advance.{NotAllowed as NoRow, Advances, advanced}
use Rattle.sync_objects.specs.declared.entry.Entry.{Entry}
use Rattle.sync_objects.specs.declared.object.ObjId.{ObjId}
use Rattle.sync_objects.specs.declared.operation.Op.{Op}
use Rattle.sync_objects.specs.declared.operation.Op.TheVariants as op
use Rattle.flow_code.specs.declared.code.Code.{Code}
use Rattle.word_semantics.specs.declared.event.Action.TheVariants as action
use Rattle.flow_code.specs.Threads.{Thread}
use Rattle.flow_code.specs.Next.{stepped, act_at, action_at}
use Rattle.flow_code.specs.Settle.{IsRunnable}
use Rattle.flow_code.proofs.Asked.{own_action}
use Rattle.core_run.specs.Machine.{Told, effect_of, action_effect, change_of, operated, entry_of}
use Rattle.core_run.specs.Words.{cells_of, has_object, place_of}
use Rattle.thread_interpreter.specs.Pieces.{piece_next, piece_at}
use Rattle.core_run.specs.Parts.{made_outcome, MadeOutcome, MadeIs, is_print, PerformedIs, AreUsable, noted}
use Rattle.core_run.specs.declared.parts.Made.{Made}
use Rattle.core_run.proofs.PartFacts.{effect_here}
use Rattle.run_theory.specs.Labels.{Go, label_of}
use Rattle.flow_code.specs.Settle.{settled}
use Rattle.word_semantics.specs.declared.event.Action.{Action}
use Rattle.std.specs.Prelude.{nat_lt}
use Rattle.run_theory.specs.Same.{same_entry}
use Rattle.run_theory.specs.Steps.{Refused, Operates, Loads, Stores, Change, Blocked, Leaves, change_outcome, changed_outcome}
use Rattle.run_theory.proofs.SameEntries.{same_entry-refl, same_entry-true}
use Rattle.std.proofs.lemmas.Option.{get_or_from_slice_get}

-- what `advance` asks of an object's word
pub record Askable (code : Code) (s : SetupView) (o : Op) (w : ℕ) : Type 0 where
  pub sound : IsSoundWord (kind_of (name_of o)) w
  pub number : number_of w < 2 ^ 32 - 1

pub askable : (code : Code) (s : SetupView) (ws : List ℕ) (o : Op) (obj : ObjId) (w : ℕ) → AreUsable code s ws → has_object code s obj ≡ true → slice_get ws (place_of (cells_of code s) obj) ≡ Some w → Fits (name_of o) obj → Askable code s o w
askable code s ws o obj w h has at fits =
    let k = h.each obj w has at in
    let low = k.1 in
    record { sound = subst (λ z. IsSoundWord z w) (sym fits) k.0; number = omega arith }

-- an operation other than a print prints nothing
pub silent : (code : Code) (th : Thread) (o : Op) → is_print o ≡ false → piece_next code th o ≡ []
silent code th op.Lock h = refl
silent code th op.TryLock h = refl
silent code th op.Unlock h = refl
silent code th op.MutexInit h = refl
silent code th op.CondEnter h = refl
silent code th (op.CondWake epoch) h = refl
silent code th op.Signal h = refl
silent code th (op.BarrierInit count) h = refl
silent code th op.Arrive h = refl
silent code th (op.Pass generation) h = refl
silent code th op.RdLock h = refl
silent code th op.WrLock h = refl
silent code th op.RwUnlock h = refl
silent code th op.RwInit h = refl
silent code th op.Take h = refl
silent code th op.Retake h = refl
silent code th op.Give h = refl
silent code th op.Revoke h = refl
silent code th (op.Draw slots) h = refl
silent code th (op.Start function) h = refl
silent code th op.Begin h = refl
silent code th op.End h = refl
silent code th op.Join h = refl
silent code th op.Close h = refl
silent code th op.Leave h = refl
silent code th op.HaltAll h = refl
silent code th op.TrapHere h = refl
silent code th op.Stop h = refl
silent code th (op.GetChar len) h = refl
silent code th op.Print h = cc

-- a print prints the piece of the call at which the thread stands
pub prints : (code : Code) (th : Thread) (o : Op) → is_print o ≡ true → piece_next code th o ≡ piece_at (act_at code th.top) th.top.registers ∷ []
prints code th op.Print h = refl
prints code th op.Lock h = cc
prints code th op.TryLock h = cc
prints code th op.Unlock h = cc
prints code th op.MutexInit h = cc
prints code th op.CondEnter h = cc
prints code th (op.CondWake epoch) h = cc
prints code th op.Signal h = cc
prints code th (op.BarrierInit count) h = cc
prints code th op.Arrive h = cc
prints code th (op.Pass generation) h = cc
prints code th op.RdLock h = cc
prints code th op.WrLock h = cc
prints code th op.RwUnlock h = cc
prints code th op.RwInit h = cc
prints code th op.Take h = cc
prints code th op.Retake h = cc
prints code th op.Give h = cc
prints code th op.Revoke h = cc
prints code th (op.Draw slots) h = cc
prints code th (op.Start function) h = cc
prints code th op.Begin h = cc
prints code th op.End h = cc
prints code th op.Join h = cc
prints code th op.Close h = cc
prints code th op.Leave h = cc
prints code th op.HaltAll h = cc
prints code th op.TrapHere h = cc
prints code th op.Stop h = cc
prints code th (op.GetChar len) h = cc

module _ (code : Code) (s : SetupView) (t : ℕ) (told : Told) (th : Thread) (o : Op) (obj : ObjId) (ws : List ℕ) where
  abbrev own_entry : Entry
  own_entry = entry_of t th (name_of o) obj

  abbrev change : ℕ → Change Told
  change w = change_of (record told { thread = th }) own_entry (piece_next code th o) (λ answer. stepped code s t th answer) w (advanced o t w)

  abbrev place : ℕ
  place = place_of (cells_of code s) obj

  pub lacks_object : has_object code s obj ≡ false → made_outcome (cells_of code s) own_entry ws (action_effect code s t told th (action.Operate o obj)) ≡ Blocked
  lacks_object h = ap (λ b. made_outcome (cells_of code s) own_entry ws (if b then Operates own_entry change else Refused)) h

  -- what its object's word decides
  decided : has_object code s obj ≡ true → made_outcome (cells_of code s) own_entry ws (action_effect code s t told th (action.Operate o obj)) ≡ change_outcome ws place change (slice_get ws place)
  decided h =
      ap (λ b. made_outcome (cells_of code s) own_entry ws (if b then Operates own_entry change else Refused)) h
      ∙ ap (λ b. if b then change_outcome ws place change (slice_get ws place) else Blocked) (same_entry-refl own_entry)

  pub lacks_word : has_object code s obj ≡ true → slice_get ws place ≡ None → made_outcome (cells_of code s) own_entry ws (action_effect code s t told th (action.Operate o obj)) ≡ Blocked
  lacks_word h e = decided h ∙ ap (change_outcome ws place change) e

  pub not_allowed : (w : ℕ) → has_object code s obj ≡ true → slice_get ws place ≡ Some w → advanced o t w ≡ NoRow → made_outcome (cells_of code s) own_entry ws (action_effect code s t told th (action.Operate o obj)) ≡ Blocked
  not_allowed w h e a =
      decided h ∙ ap (change_outcome ws place change) e
      ∙ ap (λ z. changed_outcome ws place (change_of (record told { thread = th }) own_entry (piece_next code th o) (λ answer. stepped code s t th answer) w z)) a

  pub allowed : (w next : ℕ) (answer : ℤ) (ws1 : List ℕ) (th1 : Thread) (printed : List (List ℕ)) → has_object code s obj ≡ true → slice_get ws place ≡ Some w → advanced o t w ≡ Advances next answer → ws1 ≡ slice_set ws place next → th1 ≡ stepped code s t th answer → piece_next code th o ≡ printed → made_outcome (cells_of code s) own_entry ws (action_effect code s t told th (action.Operate o obj)) ≡ Leaves ws1 (operated told th1 (record { entry = own_entry; number = noted code s ws own_entry }) printed)
  allowed w next answer ws1 th1 printed h e a words_are thread_is pieces =
      decided h ∙ ap (change_outcome ws place change) e
      ∙ ap (λ z. changed_outcome ws place (change_of (record told { thread = th }) own_entry (piece_next code th o) (λ answer. stepped code s t th answer) w z)) a
      ∙ ap (λ z. Leaves z (operated told (stepped code s t th answer) (record { entry = own_entry; number = number_of w }) (piece_next code th o))) (sym words_are)
      ∙ ap (λ z. Leaves ws1 (operated told z (record { entry = own_entry; number = number_of w }) (piece_next code th o))) (sym thread_is)
      ∙ ap (λ z. Leaves ws1 (operated told th1 (record { entry = own_entry; number = number_of w }) z)) pieces
      ∙ ap (λ z. Leaves ws1 (operated told th1 (record { entry = own_entry; number = number_of z }) printed)) (sym (index_is ws place w e))
    where
      index_is : (xs : List ℕ) (i x : ℕ) → slice_get xs i ≡ Some x → slice_index xs i ≡ x
      index_is xs i x h = get_or_from_slice_get xs i x 0 h

-- what the code knows of an operation that comes next
pub askable_next : (code : Code) (s : SetupView) (t : ℕ) (th : Thread) (ws : List ℕ) (o : Op) (obj : ObjId) (w : ℕ) → IsRunnable code → action_at code s t th ≡ action.Operate o obj → AreUsable code s ws → true ≡ has_object code s obj → Some w ≡ slice_get ws (place_of (cells_of code s) obj) → Askable code s o w
askable_next code s t th ws o obj w run next usable has at = askable code s ws o obj w usable (sym has) (sym at) (own_action code s t th o obj run next).fits

pub range_next : (code : Code) (s : SetupView) (t : ℕ) (th : Thread) (o : Op) (obj : ObjId) → IsRunnable code → IsWithinLimits s → action_at code s t th ≡ action.Operate o obj → IsInRange o
range_next code s t th o obj run limits next = (own_action code s t th o obj run next).range limits

-- ---- the operation of an entry, if it is the thread's next one

-- an operation of another entry than this one
pub other_entry : (cells : ℕ) (want own : Entry) (ws : List ℕ) (b : Bool) (change : ℕ → Change Told) → same_entry own want ≡ false → made_outcome cells want ws (if b then Operates own change else Refused) ≡ Blocked
other_entry cells want own ws true change h = ap (λ z. if z then change_outcome ws (place_of cells own.obj) change (slice_get ws (place_of cells own.obj)) else Blocked) h
other_entry cells want own ws false change h = refl

-- an access is no operation
pub no_load : (cells : ℕ) (want : Entry) (ws : List ℕ) (b : Bool) (c : ℕ) (next : ℕ → Told) → made_outcome cells want ws (if b then Loads c next else Refused) ≡ Blocked
no_load cells want ws true c next = refl
no_load cells want ws false c next = refl

pub no_store : (cells : ℕ) (want : Entry) (ws : List ℕ) (b : Bool) (c w : ℕ) (th : Told) → made_outcome cells want ws (if b then Stores c w th else Refused) ≡ Blocked
no_store cells want ws true c w th = refl
no_store cells want ws false c w th = refl

module _ (code code1 : Code) (s s1 : SetupView) (n0 n1 : ℕ) (e : Entry) (told : Told) (th st : Thread) (a : Action) (same_code : code1 ≡ code) (same_setup : s1 ≡ s) (same_number : n1 ≡ n0) (number : n0 ≡ e.thread) (is : told.thread ≡ th) (settles : st ≡ settled code s n0 th) (acts : a ≡ action_at code1 s1 n1 st) (label : label_of e ≡ Go e.thread) where
  -- what the entry's label does
  label_effect : effect_of code s (label_of e) told ≡ action_effect code s e.thread told st a
  label_effect = ap (λ z. effect_of code s z told) label ∙ effect_here code code1 s s1 e.thread n0 n1 told th st a same_code same_setup same_number number is settles acts

  pub not_operating : (ws : List ℕ) → ((o : Op) (obj : ObjId) → a ≡ action.Operate o obj → ⊥) → made_outcome (cells_of code s) e ws (effect_of code s (label_of e) told) ≡ Blocked
  not_operating ws never = ap (made_outcome (cells_of code s) e ws) label_effect ∙ by a never
    where
      by : (b : Action) → ((o : Op) (obj : ObjId) → b ≡ action.Operate o obj → ⊥) → made_outcome (cells_of code s) e ws (action_effect code s e.thread told st b) ≡ Blocked
      by action.Quiet never = refl
      by (action.Load c) never = no_load (cells_of code s) e ws (nat_lt c (cells_of code s)) c _
      by (action.Store c w) never = no_store (cells_of code s) e ws (nat_lt c (cells_of code s)) c w _
      by action.Mark never = refl
      by (action.Operate o obj) never = absurd (never o obj refl)
      by action.Ended never = refl

  pub other_operation : (ws : List ℕ) (o : Op) (obj : ObjId) → a ≡ action.Operate o obj → same_entry (entry_of e.thread st (name_of o) obj) e ≡ false → made_outcome (cells_of code s) e ws (effect_of code s (label_of e) told) ≡ Blocked
  other_operation ws o obj q h =
      ap (made_outcome (cells_of code s) e ws) (label_effect ∙ ap (action_effect code s e.thread told st) q)
      ∙ other_entry (cells_of code s) e (entry_of e.thread st (name_of o) obj) ws (has_object code s obj) _ h

  pub this_operation : (ws ws1 : List ℕ) (th1 : Thread) (o : Op) (obj : ObjId) (m : Made) → a ≡ action.Operate o obj → same_entry (entry_of e.thread st (name_of o) obj) e ≡ true → PerformedIs code1 s1 e.thread told st o obj ws ws1 th1 m → MadeIs code s told e ws ws1 th1 m
  this_operation ws ws1 th1 o obj m q h p =
      subst (λ z. MadeOutcome code s told e ws ws1 th1 m z) (sym (label_effect ∙ ap (action_effect code s e.thread told st) q))
      (subst (λ z. MadeOutcome code s told z ws ws1 th1 m (action_effect code s e.thread told st (action.Operate o obj))) (same_entry-true (entry_of e.thread st (name_of o) obj) e h)
      (subst (λ z. PerformedIs code z e.thread told st o obj ws ws1 th1 m) same_setup
      (subst (λ z. PerformedIs z s1 e.thread told st o obj ws ws1 th1 m) same_code p)))
