-- What a walk tells is what it prints as a run.
use Rattle.std.proofs.Common.{◌≡◌, ℕ, zero, suc, ◌-◌, Bool, true, false, if◌then◌else◌, nat_lt, List, [], ◌∷◌, ◌++◌, Option, Some, None, length, replicate, refl, sym, ap, subst, ◌∙◌, ℤ, pos, append-nil, append_assoc}
use Rattle.std.specs.Prelude.{slice_get, drop, option_and_then}
use Rattle.std.proofs.lemmas.List.{drop_at}
use Rattle.std.proofs.lemmas.List.Concat.{flat_map-append}
use Rattle.std.proofs.lemmas.Option.{same_Some}
use Rattle.rr_base.proofs.Lists.{slice_get-set_same}
use Rattle.sync_objects.specs.Setup.{SetupView}
use Rattle.sync_objects.specs.Names.{name_of}
use Rattle.sync_objects.specs.Advance.{advanced}
use Rattle.sync_objects.specs.declared.entry.Entry.{Entry}
use Rattle.sync_objects.specs.declared.object.ObjId.{ObjId}
use Rattle.sync_objects.specs.declared.object.ObjId.TheVariants as object
use Rattle.sync_objects.specs.declared.operation.Op.{Op}
use Rattle.sync_objects.specs.declared.operation.Op.TheVariants as op
use Rattle.flow_code.specs.declared.code.Code.{Code}
use Rattle.word_semantics.specs.declared.event.Due.{Due}
use Rattle.word_semantics.specs.declared.event.Due.TheVariants as due
use Rattle.word_semantics.specs.declared.event.Action.{Action}
use Rattle.word_semantics.specs.declared.event.Action.TheVariants as action
use Rattle.flow_code.specs.Threads.{Thread}
use Rattle.flow_code.specs.Next.{due_of, action_of, action_at, stepped as thread_stepped, gave_up, stopped, slot_closed}
use Rattle.flow_code.specs.Settle.{settled}
use Rattle.flow_code.proofs.Settle.{action_is}
use Rattle.core_tree.specs.Runs.{printed_in}
use Rattle.core_run.specs.Words.{cells_of, has_object}
use Rattle.thread_interpreter.specs.Pieces.{piece_next}
use Rattle.core_run.specs.Machine.{Told, entry_of, operation, action_effect, may_revoke, may_stop, may_close, effect_of, machine, start_state}
use Rattle.core_run.specs.Walks.{pieces_of, joined, printed_between, walk_of, out_of, out_on}
use Rattle.core_run.proofs.Lawful.{effect_go, effect_revoke, effect_stop, effect_close, change_is}
use Rattle.run_theory.specs.Labels.{Label, Go, Revoke, Stop, Close, label_thread, label_of}
use Rattle.run_theory.specs.Steps.{Becomes, Leaves, Effect, Refused, Marks, Loads, Stores, Operates, State, outcome, stepped, run, count_of}
use Rattle.run_theory.specs.Walk.{AllOf, part}
use Rattle.run_theory.proofs.Apart.{thread_of_label}
use Rattle.run_theory.proofs.Swap.{load_inv, change_inv, steps_of}
use Rattle.lowering_simulation.specs.RunEvents.{event_of, transition_of, transition_at, transitions_on, transitions_from}
use Rattle.lowering_simulation.specs.SourceRuns.{ThreadTransition, printed_by, bytes_of}
use Rattle.lowering_simulation.specs.WalkEvents.{part_labels, labels_on, labels_from, events_of_walk}
use Rattle.lowering_simulation.proofs.WalkRuns.{then_inv, part_runs}

pub joined_append : (ps qs : List (List ℕ)) → joined (ps ++ qs) ≡ joined ps ++ joined qs
joined_append [] qs = refl
joined_append (p ∷ ps) qs = ap (λ x. p ++ x) (joined_append ps qs) ∙ sym (append_assoc p (joined ps) (joined qs))

-- some pieces came to those of before, and these are their bytes
record Grows (before after : List (List ℕ)) (out : List ℕ) : Type 0 where
  pieces : List (List ℕ)
  grown : after ≡ before ++ pieces
  bytes : joined pieces ≡ out

stays : (before after : List (List ℕ)) → after ≡ before → Grows before after []
stays before after e = record { pieces = []; grown = e ∙ sym (append-nil before); bytes = refl }

grows_on : (before between after : List (List ℕ)) (out more : List ℕ) → Grows before between out → Grows between after more → Grows before after (out ++ more)
grows_on before between after out more g h = record {
  pieces = g.pieces ++ h.pieces;
  grown = h.grown ∙ ap (λ x. x ++ h.pieces) g.grown ∙ append_assoc before g.pieces h.pieces;
  bytes = joined_append g.pieces h.pieces ∙ ap (λ x. x ++ joined h.pieces) g.bytes ∙ ap (λ x. out ++ x) h.bytes;
}

module _ (code : Code) (s : SetupView) where
  -- ---- one label

  abbrev pieces_by : Thread → Action → List (List ℕ)
  pieces_by th (action.Operate o obj) = piece_next code th o
  pieces_by th _ = []

  -- an effect that adds these pieces to the thread's
  abbrev Adds : Told → List (List ℕ) → Effect Told → Type 0
  Adds told ps Refused = Unit {0}
  Adds told ps (Marks q) = q.pieces ≡ told.pieces ++ ps
  Adds told ps (Loads c next) = (w : ℕ) → (next w).pieces ≡ told.pieces ++ ps
  Adds told ps (Stores c w q) = q.pieces ≡ told.pieces ++ ps
  Adds told ps (Operates e change) = (old new : ℕ) (answer : ℤ) (q : Told) → change old ≡ Becomes new answer q → q.pieces ≡ told.pieces ++ ps

  if_adds : (told : Told) (ps : List (List ℕ)) (b : Bool) (e : Effect Told) → Adds told ps e → Adds told ps (if b then e else Refused)
  if_adds told ps true e h = h
  if_adds told ps false e h = tt

  operation_adds : (t : ℕ) (told before : Told) (o : Op) (obj : ObjId) (printed : List (List ℕ)) (after : ℤ → Thread) → before.pieces ≡ told.pieces → Adds told printed (operation code s t before o obj printed after)
  operation_adds t told before o obj printed after same =
      if_adds told printed (has_object code s obj) _ (λ old new answer q e.
      ap (λ (z : Told). z.pieces) (change_is before (entry_of t before.thread (name_of o) obj) printed after old (advanced o t old) new answer q e).1 ∙ ap (λ ps. ps ++ printed) same)

  action_adds : (t : ℕ) (told : Told) (n : Thread) (a : Action) → Adds told (pieces_by n a) (action_effect code s t told n a)
  action_adds t told n action.Quiet = tt
  action_adds t told n (action.Load c) = if_adds told [] (nat_lt c (cells_of code s)) _ (λ w. sym (append-nil told.pieces))
  action_adds t told n (action.Store c w) = if_adds told [] (nat_lt c (cells_of code s)) _ (sym (append-nil told.pieces))
  action_adds t told n action.Mark = sym (append-nil told.pieces)
  action_adds t told n (action.Operate o obj) = operation_adds t told (record told { thread = n }) o obj (piece_next code n o) (λ answer. thread_stepped code s t n answer) refl
  action_adds t told n action.Ended = tt

  abbrev pieces_at : Label → Thread → List (List ℕ)
  pieces_at (Go t) th = pieces_by (settled code s t th) (action_at code s t (settled code s t th))
  pieces_at _ th = []

  label_adds : (l : Label) (told : Told) → Adds told (pieces_at l told.thread) (effect_of code s l told)
  label_adds (Go t) told = subst (Adds told (pieces_at (Go t) told.thread)) (sym (effect_go code s t told)) (action_adds t told (settled code s t told.thread) (action_at code s t (settled code s t told.thread)))
  label_adds (Revoke t lock stripe) told = subst (Adds told []) (sym (effect_revoke code s t lock stripe told)) (if_adds told [] (may_revoke told.thread lock stripe) _ (operation_adds t told told op.Revoke (object.Weak lock stripe) [] (λ answer. gave_up told.thread lock stripe) refl))
  label_adds (Stop t) told = subst (Adds told []) (sym (effect_stop code s t told)) (if_adds told [] (may_stop told.thread) _ (operation_adds t told told op.Stop object.Halt [] (λ answer. stopped told.thread) refl))
  label_adds (Close t) told = subst (Adds told []) (sym (effect_close code s t told)) (if_adds told [] (may_close told.thread) _ (operation_adds t told told op.Close (object.Slot t) [] (λ answer. slot_closed told.thread) refl))

  outcome_adds : (words after : List ℕ) (e : Effect Told) (told q : Told) (ps : List (List ℕ)) → Adds told ps e → outcome (machine code s) words e ≡ Leaves after q → q.pieces ≡ told.pieces ++ ps
  outcome_adds words after Refused told q ps h e = cc
  outcome_adds words after (Marks th) told q ps h e = let same : th ≡ q = cc in ap (λ (z : Told). z.pieces) (sym same) ∙ h
  outcome_adds words after (Loads c next) told q ps h e = let i = load_inv words next (slice_get words c) after q e in ap (λ (z : Told). z.pieces) i.3 ∙ h i.0
  outcome_adds words after (Stores c w th) told q ps h e =
      let i = change_inv words c (λ v. Becomes w (pos 0) th) (slice_get words c) after q e in
      let becomes : Becomes w (pos 0) th ≡ Becomes i.1 i.2 q = i.4 in
      let same : th ≡ q = cc in
      ap (λ (z : Told). z.pieces) (sym same) ∙ h
  outcome_adds words after (Operates x change) told q ps h e =
      let p = (machine code s).place x.obj in
      let i = change_inv words p change (slice_get words p) after q e in
      h i.0 i.1 i.2 q i.4

  -- a transition prints the pieces of its label
  event_prints : (ws : List ℕ) (t : ℕ) (n : Thread) (d : Due) → joined (pieces_by n (action_of d)) ≡ printed_in (event_of code s ws t n d)
  event_prints ws t n due.Nothing = refl
  event_prints ws t n due.Quiet = refl
  event_prints ws t n (due.Load c) = refl
  event_prints ws t n (due.Store c w) = refl
  event_prints ws t n due.Mark = refl
  event_prints ws t n (due.Operate o obj) = refl
  event_prints ws t n (due.Trap why) = refl

  transition_prints : (ws : List ℕ) (l : Label) (th : Thread) → joined (pieces_at l th) ≡ printed_by (transition_of code s ws l th)
  transition_prints ws (Go t) th = let n = settled code s t th in ap (λ a. joined (pieces_by n a)) (action_is code s t n) ∙ event_prints ws t n (due_of code s t n)
  transition_prints ws (Revoke t lock stripe) th = refl
  transition_prints ws (Stop t) th = refl
  transition_prints ws (Close t) th = refl

  -- ---- the labels of one thread

  abbrev pieces_in : State Told → ℕ → List (List ℕ)
  pieces_in st t = pieces_of (slice_get st.threads t)

  -- what is done by the label
  abbrev transitions_here : State Told → Label → List ThreadTransition
  transitions_here st l = transition_at code s st.words l (slice_get st.threads (label_thread l))

  step_grows : (st st1 : State Told) (l : Label) → stepped (machine code s) st l ≡ Some st1 → Grows (pieces_in st (label_thread l)) (pieces_in st1 (label_thread l)) (bytes_of (transitions_here st l))
  step_grows st st1 l e =
      let t = label_thread l in
      let x = steps_of (machine code s) st l st1 e in
      let there : pieces_in st1 t ≡ x.after.pieces = ap (λ (z : State Told). pieces_in z t) x.to ∙ ap pieces_of (slice_get-set_same st.threads t x.after x.before x.stands) in
      record {
        pieces = pieces_at l x.before.thread;
        grown = there ∙ outcome_adds st.words x.words (effect_of code s l x.before) x.before x.after (pieces_at l x.before.thread) (label_adds l x.before) x.leaves ∙ ap (λ o. pieces_of o ++ pieces_at l x.before.thread) (sym x.stands);
        bytes = transition_prints st.words l x.before.thread ∙ sym (append-nil (printed_by (transition_of code s st.words l x.before.thread))) ∙ ap (λ o. bytes_of (transition_at code s st.words l o)) (sym x.stands);
      }

  run_grows : (ls : List Label) (t : ℕ) (st end : State Told) → AllOf t ls → run (machine code s) ls st ≡ Some end → Grows (pieces_in st t) (pieces_in end t) (bytes_of (transitions_from code s ls st))
  run_grows [] t st end all h = stays (pieces_in st t) (pieces_in end t) (ap (λ (z : State Told). pieces_in z t) (sym (same_Some st end h)))
  run_grows (l ∷ ls) t st end all h = by (stepped (machine code s) st l) refl h (λ st1 h1. run_grows ls t st1 end all.1 h1)
    where
      by : (o : Option (State Told)) → stepped (machine code s) st l ≡ o → option_and_then (run (machine code s) ls) o ≡ Some end →
          ((st1 : State Told) → run (machine code s) ls st1 ≡ Some end → Grows (pieces_in st1 t) (pieces_in end t) (bytes_of (transitions_from code s ls st1))) →
          Grows (pieces_in st t) (pieces_in end t) (bytes_of (transitions_here st l ++ transitions_on code s (transitions_from code s ls) o))
      by None e h more = cc
      by (Some st1) e h more =
          let first : Grows (pieces_in st t) (pieces_in st1 t) (bytes_of (transitions_here st l)) = subst (λ u. Grows (pieces_in st u) (pieces_in st1 u) (bytes_of (transitions_here st l))) all.0 (step_grows st st1 l e) in
          subst (Grows (pieces_in st t) (pieces_in end t)) (sym (flat_map-append (λ (d : ThreadTransition). printed_by d.transition) (transitions_here st l) (transitions_from code s ls st1)))
          (grows_on (pieces_in st t) (pieces_in st1 t) (pieces_in end t) (bytes_of (transitions_here st l)) (bytes_of (transitions_from code s ls st1)) first (more st1 h))

  -- ---- the part of one entry

  all_own : (n t : ℕ) (l : Label) → label_thread l ≡ t → AllOf t (replicate n (Go t) ++ l ∷ [])
  all_own zero t l e = (e, tt)
  all_own (suc n) t l e = (refl, all_own n t l e)

  part_prints : (e : Entry) (st st1 : State Told) → part (machine code s) e st ≡ Some st1 → printed_between e.thread st st1 ≡ bytes_of (transitions_from code s (part_labels code s e st) st)
  part_prints e st st1 h =
      let n = e.count - count_of (machine code s) st e.thread in
      let g = run_grows (part_labels code s e st) e.thread st st1 (all_own n e.thread (label_of e) (sym (thread_of_label e (label_of e) refl))) (part_runs code s e st st1 h) in
      ap (λ ps. joined (drop (length (pieces_in st e.thread)) ps)) g.grown ∙ ap joined (drop_at (pieces_in st e.thread) g.pieces (length (pieces_in st e.thread)) refl) ∙ g.bytes

  -- ---- the whole walk

  transitions_append : (ls ks : List Label) (st st1 : State Told) → run (machine code s) ls st ≡ Some st1 → transitions_from code s (ls ++ ks) st ≡ transitions_from code s ls st ++ transitions_from code s ks st1
  transitions_append [] ks st st1 h = ap (transitions_from code s ks) (same_Some st st1 h)
  transitions_append (l ∷ ls) ks st st1 h = by (stepped (machine code s) st l) h (λ mid h1. transitions_append ls ks mid st1 h1)
    where
      by : (o : Option (State Told)) → option_and_then (run (machine code s) ls) o ≡ Some st1 → ((mid : State Told) → run (machine code s) ls mid ≡ Some st1 → transitions_from code s (ls ++ ks) mid ≡ transitions_from code s ls mid ++ transitions_from code s ks st1) →
          transitions_here st l ++ transitions_on code s (transitions_from code s (ls ++ ks)) o ≡ (transitions_here st l ++ transitions_on code s (transitions_from code s ls) o) ++ transitions_from code s ks st1
      by None h more = cc
      by (Some mid) h more = ap (λ ds. transitions_here st l ++ ds) (more mid h) ∙ sym (append_assoc (transitions_here st l) (transitions_from code s ls mid) (transitions_from code s ks st1))

  walk_tells : (es : List Entry) (st end : State Told) → walk_of code s es st ≡ Some end → out_of code s es st ≡ bytes_of (transitions_from code s (labels_from code s es st) st)
  walk_tells [] st end h = refl
  walk_tells (e ∷ es) st end h =
      let a = then_inv (walk_of code s es) (part (machine code s) e st) end h in
      let first = part_labels code s e st in
      let more = labels_from code s es a.0 in
      ap (out_on code s (out_of code s es) e st) a.1
      ∙ ap (λ x. x ++ out_of code s es a.0) (part_prints e st a.0 a.1)
      ∙ ap (λ x. bytes_of (transitions_from code s first st) ++ x) (walk_tells es a.0 end a.2)
      ∙ sym (flat_map-append (λ (d : ThreadTransition). printed_by d.transition) (transitions_from code s first st) (transitions_from code s more a.0))
      ∙ ap bytes_of (sym (transitions_append first more st a.0 (part_runs code s e st a.0 a.1)))
      ∙ ap (λ o. bytes_of (transitions_from code s (first ++ labels_on code s (labels_from code s es) o) st)) (sym a.1)

  -- the bytes that a walk tells are those that it prints as a run
  pub walk_prints : (es : List Entry) (end : State Told) → walk_of code s es (start_state code s) ≡ Some end → out_of code s es (start_state code s) ≡ bytes_of (events_of_walk code s es)
  walk_prints es end h = walk_tells es (start_state code s) end h
