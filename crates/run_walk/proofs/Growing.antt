-- An entry's part of a walk puts one piece after those of its thread if it is a print, and none else.
use Rattle.std.proofs.Common.{◌≡◌, ℕ, zero, suc, ◌-◌, Bool, true, false, if◌then◌else◌, nat_lt, List, [], ◌∷◌, ◌++◌, map, Option, Some, None, refl, sym, ap, subst, ◌∙◌, ℤ, pos}
use Rattle.std.specs.Prelude.{slice_get, slice_set, option_and_then}
use Rattle.std.specs.Option.{option_map}
use Rattle.std.proofs.lemmas.List.{map-set}
use Rattle.std.proofs.lemmas.Option.{same_Some, slice_get-map}
use Rattle.rr_base.proofs.Lists.{slice_set-get}
use Rattle.sync_objects.specs.Setup.{SetupView}
use Rattle.sync_objects.specs.Names.{name_of}
use Rattle.sync_objects.specs.Advance.{advanced}
use Rattle.sync_objects.specs.declared.entry.Entry.{Entry}
use Rattle.sync_objects.specs.declared.entry.Noted.{Noted}
use Rattle.sync_objects.specs.declared.object.ObjId.{ObjId}
use Rattle.sync_objects.specs.declared.object.ObjId.TheVariants as object
use Rattle.sync_objects.specs.declared.operation.Op.{Op}
use Rattle.sync_objects.specs.declared.operation.Op.TheVariants as op
use Rattle.sync_objects.specs.declared.operation.OpName.{OpName}
use Rattle.word_semantics.specs.declared.event.Action.{Action}
use Rattle.word_semantics.specs.declared.event.Action.TheVariants as action
use Rattle.flow_code.specs.declared.code.Code.{Code}
use Rattle.flow_code.specs.Threads.{Thread}
use Rattle.flow_code.specs.Next.{act_at, action_at, stepped as thread_stepped, gave_up, stopped, slot_closed}
use Rattle.flow_code.specs.Settle.{settled}
use Rattle.core_run.specs.Words.{cells_of, has_object}
use Rattle.thread_interpreter.specs.Pieces.{piece_at, piece_next}
use Rattle.core_run.specs.Machine.{Told, entry_of, operation, action_effect, may_revoke, may_stop, may_close, effect_of, machine}
use Rattle.core_run.proofs.Lawful.{effect_go, effect_revoke, effect_stop, effect_close, change_is}
use Rattle.run_theory.specs.Labels.{Label, Go, Revoke, Stop, Close, label_thread, label_of}
use Rattle.run_theory.specs.Same.{same_entry}
use Rattle.run_theory.specs.Steps.{Becomes, Leaves, Effect, Refused, Marks, Loads, Stores, Operates, State, outcome, stepped, effect_entry, added, count_of}
use Rattle.run_theory.specs.Walk.{if_nothing, if_only, alone, made, part}
use Rattle.run_theory.proofs.Apart.{thread_of_label}
use Rattle.run_theory.proofs.SameEntries.{same_entry-true}
use Rattle.run_theory.proofs.Swap.{load_inv, change_inv, steps_of, adds_of}
use Rattle.run_walk.specs.Printed.{is_print}

-- ---- pieces that come to those of before

-- one piece where something prints, and none else
abbrev pub IsFresh : Bool → List (List ℕ) → Type 0
IsFresh true ps = (p : List ℕ) × (ps ≡ p ∷ [])
IsFresh false ps = ps ≡ []

pub record Grows (prints : Bool) (before after : List (List ℕ)) : Type 0 where
  pub fresh : List (List ℕ)
  pub is : IsFresh prints fresh
  pub grown : after ≡ before ++ fresh

-- what the entries that a step adds make of the pieces of its thread
abbrev GrowsBy : List Noted → List (List ℕ) → List (List ℕ) → Type 0
GrowsBy [] before after = after ≡ before
GrowsBy (x ∷ xs) before after = Grows (is_print x.entry.op) before after

-- the pieces of all threads
abbrev pub all_pieces : State Told → List (List (List ℕ))
all_pieces st = map (λ (told : Told). told.pieces) st.threads

-- the pieces of this thread grow by an operation of this name
pub record GrowsAt (o : OpName) (t : ℕ) (before after : List (List (List ℕ))) : Type 0 where
  pub old : List (List ℕ)
  pub new : List (List ℕ)
  pub at : slice_get before t ≡ Some old
  pub to : after ≡ slice_set before t new
  pub grows : Grows (is_print o) old new

-- ---- parts taken apart

pub then_inv : {A B : Type 0} (f : A → Option B) (o : Option A) (y : B) → option_and_then f o ≡ Some y → (x : A) × (o ≡ Some x) × (f x ≡ Some y)
then_inv f None y h = cc
then_inv f (Some x) y h = (x, refl, h)

nothing_inv : {A : Type 0} (xs : List Noted) (o : Option A) (x : A) → if_nothing xs o ≡ Some x → (xs ≡ []) × (o ≡ Some x)
nothing_inv [] o x h = (refl, h)
nothing_inv (y ∷ ys) o x h = cc

if_inv : {A : Type 0} (b : Bool) (o : Option A) (x : A) → (if b then o else None) ≡ Some x → (b ≡ true) × (o ≡ Some x)
if_inv true o x h = (refl, h)
if_inv false o x h = cc

only_inv : {A : Type 0} (e : Entry) (xs : List Noted) (o : Option A) (y : A) → if_only e xs o ≡ Some y → (number : ℕ) × (xs ≡ record { entry = e; number = number } ∷ []) × (o ≡ Some y)
only_inv e [] o y h = cc
only_inv e (x ∷ []) o y h =
    let r = if_inv (same_entry x.entry e) o y h in
    (x.number, ap (λ z. record { entry = z; number = x.number } ∷ []) (same_entry-true x.entry e r.0), r.1)
only_inv e (x ∷ z ∷ xs) o y h = cc

module _ (code : Code) (s : SetupView) where
  -- ---- one label

  -- an operation adds the pieces of its entry to those of its thread, and nothing else does
  abbrev Adds : Told → Effect Told → Type 0
  Adds told Refused = Unit {0}
  Adds told (Marks q) = q.pieces ≡ told.pieces
  Adds told (Loads c next) = (w : ℕ) → (next w).pieces ≡ told.pieces
  Adds told (Stores c w q) = q.pieces ≡ told.pieces
  Adds told (Operates e change) = (old new : ℕ) (answer : ℤ) (q : Told) → change old ≡ Becomes new answer q → Grows (is_print e.op) told.pieces q.pieces

  if_adds : (told : Told) (b : Bool) (e : Effect Told) → Adds told e → Adds told (if b then e else Refused)
  if_adds told true e h = h
  if_adds told false e h = tt

  fresh_next : (th : Thread) (o : Op) → IsFresh (is_print (name_of o)) (piece_next code th o)
  fresh_next th op.Print = (piece_at (act_at code th.top) th.top.registers, refl)
  fresh_next th _ = refl

  operation_adds : (t : ℕ) (told before : Told) (o : Op) (obj : ObjId) (printed : List (List ℕ)) (after : ℤ → Thread) → before.pieces ≡ told.pieces → IsFresh (is_print (name_of o)) printed → Adds told (operation code s t before o obj printed after)
  operation_adds t told before o obj printed after same fresh =
      if_adds told (has_object code s obj) _ (λ old new answer q e. record {
        fresh = printed;
        is = fresh;
        grown = ap (λ (z : Told). z.pieces) (change_is before (entry_of t before.thread (name_of o) obj) printed after old (advanced o t old) new answer q e).1 ∙ ap (λ ps. ps ++ printed) same;
      })

  action_adds : (t : ℕ) (told : Told) (th : Thread) (a : Action) → Adds told (action_effect code s t told th a)
  action_adds t told th action.Quiet = tt
  action_adds t told th (action.Load c) = if_adds told (nat_lt c (cells_of code s)) _ (λ w. refl)
  action_adds t told th (action.Store c w) = if_adds told (nat_lt c (cells_of code s)) _ refl
  action_adds t told th action.Mark = refl
  action_adds t told th (action.Operate o obj) = operation_adds t told (record told { thread = th }) o obj (piece_next code th o) (λ answer. thread_stepped code s t th answer) refl (fresh_next th o)
  action_adds t told th action.Ended = tt

  label_adds : (l : Label) (told : Told) → Adds told (effect_of code s l told)
  label_adds (Go t) told = subst (Adds told) (sym (effect_go code s t told)) (action_adds t told (settled code s t told.thread) (action_at code s t (settled code s t told.thread)))
  label_adds (Revoke t lock stripe) told = subst (Adds told) (sym (effect_revoke code s t lock stripe told)) (if_adds told (may_revoke told.thread lock stripe) _ (operation_adds t told told op.Revoke (object.Weak lock stripe) [] (λ answer. gave_up told.thread lock stripe) refl refl))
  label_adds (Stop t) told = subst (Adds told) (sym (effect_stop code s t told)) (if_adds told (may_stop told.thread) _ (operation_adds t told told op.Stop object.Halt [] (λ answer. stopped told.thread) refl refl))
  label_adds (Close t) told = subst (Adds told) (sym (effect_close code s t told)) (if_adds told (may_close told.thread) _ (operation_adds t told told op.Close (object.Slot t) [] (λ answer. slot_closed told.thread) refl refl))

  outcome_adds : (words after : List ℕ) (e : Effect Told) (told q : Told) → Adds told e → outcome (machine code s) words e ≡ Leaves after q → GrowsBy (effect_entry (machine code s) words e) told.pieces q.pieces
  outcome_adds words after Refused told q h e = cc
  outcome_adds words after (Marks th) told q h e = let same : th ≡ q = cc in ap (λ (z : Told). z.pieces) (sym same) ∙ h
  outcome_adds words after (Loads c next) told q h e = let i = load_inv words next (slice_get words c) after q e in ap (λ (z : Told). z.pieces) i.3 ∙ h i.0
  outcome_adds words after (Stores c w th) told q h e =
      let i = change_inv words c (λ v. Becomes w (pos 0) th) (slice_get words c) after q e in
      let becomes : Becomes w (pos 0) th ≡ Becomes i.1 i.2 q = i.4 in
      let same : th ≡ q = cc in
      ap (λ (z : Told). z.pieces) (sym same) ∙ h
  outcome_adds words after (Operates x change) told q h e =
      let p = (machine code s).place x.obj in
      let i = change_inv words p change (slice_get words p) after q e in
      h i.0 i.1 i.2 q i.4

  -- ---- one step

  record Steps (st : State Told) (l : Label) (st1 : State Told) : Type 0 where
    old : List (List ℕ)
    new : List (List ℕ)
    at : slice_get (all_pieces st) (label_thread l) ≡ Some old
    to : all_pieces st1 ≡ slice_set (all_pieces st) (label_thread l) new
    grows : GrowsBy (added (machine code s) st l) old new

  step_adds : (st st1 : State Told) (l : Label) → stepped (machine code s) st l ≡ Some st1 → Steps st l st1
  step_adds st st1 l e =
      let t = label_thread l in
      let x = steps_of (machine code s) st l st1 e in
      let adds = adds_of (machine code s) st l st1 x in
      record {
        old = x.before.pieces;
        new = x.after.pieces;
        at = slice_get-map (λ (told : Told). told.pieces) st.threads t ∙ ap (option_map (λ (told : Told). told.pieces)) x.stands;
        to = ap all_pieces x.to ∙ map-set (λ (told : Told). told.pieces) st.threads t x.after;
        grows = subst (λ xs. GrowsBy xs x.before.pieces x.after.pieces) (sym adds) (outcome_adds st.words x.words (effect_of code s l x.before) x.before x.after (label_adds l x.before) x.leaves);
      }

  -- a step that adds no entry adds no piece
  quiet_step : (st st1 : State Told) (l : Label) → stepped (machine code s) st l ≡ Some st1 → added (machine code s) st l ≡ [] → all_pieces st1 ≡ all_pieces st
  quiet_step st st1 l e none =
      let x = step_adds st st1 l e in
      let same : x.new ≡ x.old = subst (λ xs. GrowsBy xs x.old x.new) none x.grows in
      x.to ∙ ap (slice_set (all_pieces st) (label_thread l)) same ∙ slice_set-get (all_pieces st) (label_thread l) x.old x.at

  alone_adds : (n t : ℕ) (st st1 : State Told) → alone (machine code s) n t st ≡ Some st1 → all_pieces st1 ≡ all_pieces st
  alone_adds zero t st st1 h = ap all_pieces (sym (same_Some st st1 h))
  alone_adds (suc n) t st st1 h =
      let a = nothing_inv (added (machine code s) st (Go t)) (option_and_then (alone (machine code s) n t) (stepped (machine code s) st (Go t))) st1 h in
      let b = then_inv (alone (machine code s) n t) (stepped (machine code s) st (Go t)) st1 a.1 in
      alone_adds n t b.0 st1 b.2 ∙ quiet_step st b.0 (Go t) b.1 a.0

  made_adds : (e : Entry) (st st1 : State Told) → made (machine code s) e st ≡ Some st1 → GrowsAt e.op e.thread (all_pieces st) (all_pieces st1)
  made_adds e st st1 h =
      let o = only_inv e (added (machine code s) st (label_of e)) (stepped (machine code s) st (label_of e)) st1 h in
      let x = step_adds st st1 (label_of e) o.2 in
      let own : label_thread (label_of e) ≡ e.thread = sym (thread_of_label e (label_of e) refl) in
      record {
        old = x.old;
        new = x.new;
        at = ap (slice_get (all_pieces st)) (sym own) ∙ x.at;
        to = x.to ∙ ap (λ t. slice_set (all_pieces st) t x.new) own;
        grows = subst (λ xs. GrowsBy xs x.old x.new) o.1 x.grows;
      }

  -- ---- the part of one entry

  pub part_adds : (e : Entry) (st st1 : State Told) → part (machine code s) e st ≡ Some st1 → GrowsAt e.op e.thread (all_pieces st) (all_pieces st1)
  part_adds e st st1 h =
      let a = then_inv (made (machine code s) e) (alone (machine code s) (e.count - count_of (machine code s) st e.thread) e.thread st) st1 h in
      subst (λ ps. GrowsAt e.op e.thread ps (all_pieces st1)) (alone_adds (e.count - count_of (machine code s) st e.thread) e.thread st a.0 a.1) (made_adds e a.0 st1 a.2)
