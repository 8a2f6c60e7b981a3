-- Where the entries of a log stand in the run that its walk is.
use Rattle.std.proofs.Common.{◌≡◌, ℕ, zero, suc, ◌+◌, ◌-◌, ◌<◌, Bool, true, false, if◌then◌else◌, List, [], ◌∷◌, ◌++◌, length, replicate, take, Option, Some, None, refl, sym, ap, subst, ◌∙◌, arith, append_assoc}
use Rattle.std.specs.Prelude.{option_and_then, slice_get}
use Rattle.std.proofs.lemmas.List.{length-append, length-replicate}
use Rattle.std.proofs.lemmas.Option.{same_Some}
use Rattle.sync_objects.specs.Setup.{SetupView}
use Rattle.sync_objects.specs.declared.entry.Entry.{Entry}
use Rattle.sync_objects.specs.declared.entry.Noted.{Noted}
use Rattle.flow_code.specs.declared.code.Code.{Code}
use Rattle.core_run.specs.Histories.{IsReachable}
use Rattle.core_run.specs.Machine.{Told, machine, start_state}
use Rattle.core_run.specs.Walks.{walk_of}
use Rattle.run_theory.specs.Labels.{Label, Go, label_of}
use Rattle.run_theory.specs.Ordered.{event_of, event_at, state_at}
use Rattle.run_theory.specs.Same.{same_entry}
use Rattle.run_theory.specs.Steps.{Machine, State, stepped, added, run, count_of}
use Rattle.run_theory.specs.Walk.{if_nothing, if_only, alone, made, part}
use Rattle.run_theory.proofs.Kept.{reaches_step, reaches_more}
use Rattle.run_theory.proofs.Locked.{event_first, event_more}
use Rattle.run_theory.proofs.SameEntries.{same_entry-true}
use Rattle.lowering_simulation.specs.WalkEvents.{part_labels, labels_on, labels_from}
use Rattle.lowering_simulation.proofs.WalkRuns.{then_inv, part_runs}

-- ---- one run after another

module _ {T : Type 0} (m : Machine T) where
  run_inv : (l : Label) (ls : List Label) (s s1 : State T) → run m (l ∷ ls) s ≡ Some s1 → (mid : State T) × (stepped m s l ≡ Some mid) × (run m ls mid ≡ Some s1)
  run_inv l ls s s1 h = then_inv (run m ls) (stepped m s l) s1 h

  pub state_past : (ls ks : List Label) (s s1 : State T) (k : ℕ) → run m ls s ≡ Some s1 → state_at m (ls ++ ks) s (length ls + k) ≡ state_at m ks s1 k
  state_past [] ks s s1 k h = let e : 0 + k ≡ k = omega arith in ap (state_at m ks s) e ∙ ap (λ z. state_at m ks z k) (same_Some s s1 h)
  state_past (l ∷ ls) ks s s1 k h =
      let i = run_inv l ls s s1 h in
      let e : length (l ∷ ls) + k ≡ suc (length ls + k) = omega arith in
      ap (state_at m (l ∷ (ls ++ ks)) s) e ∙ ap (option_and_then (λ z. state_at m (ls ++ ks) z (length ls + k))) i.1 ∙ state_past ls ks i.0 s1 k i.2

  pub event_past : (ls ks : List Label) (s s1 : State T) (k : ℕ) → run m ls s ≡ Some s1 → event_at m (ls ++ ks) s (length ls + k) ≡ event_at m ks s1 k
  event_past [] ks s s1 k h = let e : 0 + k ≡ k = omega arith in ap (event_at m ks s) e ∙ ap (λ z. event_at m ks z k) (same_Some s s1 h)
  event_past (l ∷ ls) ks s s1 k h =
      let i = run_inv l ls s s1 h in
      let e : length (l ∷ ls) + k ≡ suc (length ls + k) = omega arith in
      ap (event_at m (l ∷ (ls ++ ks)) s) e ∙ event_more m l (ls ++ ks) s i.0 (length ls + k) i.1 ∙ event_past ls ks i.0 s1 k i.2

-- ---- a part

pub nothing_inv : {A : Type 0} (xs : List Noted) (o : Option A) (x : A) → if_nothing xs o ≡ Some x → (xs ≡ []) × (o ≡ Some x)
nothing_inv [] o x h = (refl, h)
nothing_inv (y ∷ ys) o x h = cc

if_inv : {A : Type 0} (b : Bool) (o : Option A) (x : A) → (if b then o else None) ≡ Some x → (b ≡ true) × (o ≡ Some x)
if_inv true o x h = (refl, h)
if_inv false o x h = cc

only_inv : {A : Type 0} (e : Entry) (xs : List Noted) (o : Option A) (y : A) → if_only e xs o ≡ Some y → (number : ℕ) × (xs ≡ record { entry = e; number = number } ∷ []) × (o ≡ Some y)
only_inv e [] o y h = cc
only_inv e (x ∷ []) o y h =
    let r = if_inv (same_entry x.entry e) o y h in
    (x.number, ap (λ z. record { entry = z; number = x.number } ∷ []) (same_entry-true x.entry e r.0), r.1)
only_inv e (x ∷ z ∷ xs) o y h = cc

module _ (code : Code) (s : SetupView) where
  -- how many own steps come before the entry
  abbrev pub turns : Entry → State Told → ℕ
  turns e st = e.count - count_of (machine code s) st e.thread

  alone_runs : (n t : ℕ) (st mid : State Told) → alone (machine code s) n t st ≡ Some mid → run (machine code s) (replicate n (Go t)) st ≡ Some mid
  alone_runs zero t st mid h = h
  alone_runs (suc n) t st mid h =
      let a = nothing_inv (added (machine code s) st (Go t)) (option_and_then (alone (machine code s) n t) (stepped (machine code s) st (Go t))) mid h in
      let b = then_inv (alone (machine code s) n t) (stepped (machine code s) st (Go t)) mid a.1 in
      ap (option_and_then (run (machine code s) (replicate n (Go t)))) b.1 ∙ alone_runs n t b.0 mid b.2

  -- the step by which the entry is made
  pub record Makes (e : Entry) (mid after : State Told) : Type 0 where
    pub number : ℕ
    pub adds : added (machine code s) mid (label_of e) ≡ record { entry = e; number = number } ∷ []
    pub steps : stepped (machine code s) mid (label_of e) ≡ Some after

  -- the first part of a walk, and the rest
  pub record First (e : Entry) (es : List Entry) (st end : State Told) : Type 0 where
    pub mid : State Told
    pub after : State Told
    pub turns_are : alone (machine code s) (turns e st) e.thread st ≡ Some mid
    pub makes : Makes e mid after
    pub part_is : part (machine code s) e st ≡ Some after
    pub rest : walk_of code s es after ≡ Some end

  pub first_of : (e : Entry) (es : List Entry) (st end : State Told) → walk_of code s (e ∷ es) st ≡ Some end → First e es st end
  first_of e es st end h =
      let p = then_inv (walk_of code s es) (part (machine code s) e st) end h in
      let a = then_inv (made (machine code s) e) (alone (machine code s) (turns e st) e.thread st) p.0 p.1 in
      let o = only_inv e (added (machine code s) a.0 (label_of e)) (stepped (machine code s) a.0 (label_of e)) p.0 a.2 in
      record { mid = a.0; after = p.0; turns_are = a.1; makes = record { number = o.0; adds = o.1; steps = o.2 }; part_is = p.1; rest = p.2 }

  -- ---- places

  abbrev spot_on : (State Told → ℕ) → Option (State Told) → ℕ
  spot_on rest None = 0
  spot_on rest (Some st) = rest st

  -- the place in the run of the label that makes the entry at this position
  abbrev pub spot : List Entry → State Told → ℕ → ℕ
  spot [] st k = 0
  spot (e ∷ es) st zero = turns e st
  spot (e ∷ es) st (suc k) = length (part_labels code s e st) + spot_on (λ st1. spot es st1 k) (part (machine code s) e st)

  pub part_length : (e : Entry) (st : State Told) → length (part_labels code s e st) ≡ turns e st + 1
  part_length e st =
      let a = length-append (replicate (turns e st) (Go e.thread)) (label_of e ∷ []) in
      let b = length-replicate (turns e st) (Go e.thread) in
      omega (arith, a, b)

  module _ (e : Entry) (es : List Entry) (st end : State Told) (f : First e es st end) where
    abbrev goes : List Label
    goes = replicate (turns e st) (Go e.thread)

    pub labels_are : labels_from code s (e ∷ es) st ≡ part_labels code s e st ++ labels_from code s es f.after
    labels_are = ap (λ o. part_labels code s e st ++ labels_on code s (labels_from code s es) o) f.part_is

    pub labels_split : labels_from code s (e ∷ es) st ≡ goes ++ (label_of e ∷ labels_from code s es f.after)
    labels_split = labels_are ∙ append_assoc goes (label_of e ∷ []) (labels_from code s es f.after)

    pub spot_later : (k : ℕ) → spot (e ∷ es) st (suc k) ≡ length (part_labels code s e st) + spot es f.after k
    spot_later k = ap (λ o. length (part_labels code s e st) + spot_on (λ st1. spot es st1 k) o) f.part_is

    spot_first : turns e st ≡ length goes + 0
    spot_first = let a = length-replicate (turns e st) (Go e.thread) in omega (arith, a)

    pub state_first : state_at (machine code s) (labels_from code s (e ∷ es) st) st (spot (e ∷ es) st 0) ≡ Some f.mid
    state_first =
        ap (λ ls. state_at (machine code s) ls st (turns e st)) labels_split
        ∙ ap (state_at (machine code s) (goes ++ (label_of e ∷ labels_from code s es f.after)) st) spot_first
        ∙ state_past (machine code s) goes (label_of e ∷ labels_from code s es f.after) st f.mid 0 (alone_runs (turns e st) e.thread st f.mid f.turns_are)

    pub event_here : event_at (machine code s) (labels_from code s (e ∷ es) st) st (spot (e ∷ es) st 0) ≡ event_of (machine code s) f.mid (label_of e)
    event_here =
        ap (λ ls. event_at (machine code s) ls st (turns e st)) labels_split
        ∙ ap (event_at (machine code s) (goes ++ (label_of e ∷ labels_from code s es f.after)) st) spot_first
        ∙ event_past (machine code s) goes (label_of e ∷ labels_from code s es f.after) st f.mid 0 (alone_runs (turns e st) e.thread st f.mid f.turns_are)
        ∙ event_first (machine code s) (label_of e) (labels_from code s es f.after) f.mid f.after f.makes.steps

    pub state_later : (k : ℕ) → state_at (machine code s) (labels_from code s (e ∷ es) st) st (spot (e ∷ es) st (suc k)) ≡ state_at (machine code s) (labels_from code s es f.after) f.after (spot es f.after k)
    state_later k =
        ap (λ ls. state_at (machine code s) ls st (spot (e ∷ es) st (suc k))) labels_are
        ∙ ap (state_at (machine code s) (part_labels code s e st ++ labels_from code s es f.after) st) (spot_later k)
        ∙ state_past (machine code s) (part_labels code s e st) (labels_from code s es f.after) st f.after (spot es f.after k) (part_runs code s e st f.after f.part_is)

    pub event_later : (k : ℕ) → event_at (machine code s) (labels_from code s (e ∷ es) st) st (spot (e ∷ es) st (suc k)) ≡ event_at (machine code s) (labels_from code s es f.after) f.after (spot es f.after k)
    event_later k =
        ap (λ ls. event_at (machine code s) ls st (spot (e ∷ es) st (suc k))) labels_are
        ∙ ap (event_at (machine code s) (part_labels code s e st ++ labels_from code s es f.after) st) (spot_later k)
        ∙ event_past (machine code s) (part_labels code s e st) (labels_from code s es f.after) st f.after (spot es f.after k) (part_runs code s e st f.after f.part_is)

    reached_mid : IsReachable code s st → IsReachable code s f.mid
    reached_mid r = reaches_more (machine code s) (start_state code s) st f.mid r (goes, alone_runs (turns e st) e.thread st f.mid f.turns_are)

    reached_after : IsReachable code s st → IsReachable code s f.after
    reached_after r = reaches_more (machine code s) (start_state code s) st f.after r (part_labels code s e st, part_runs code s e st f.after f.part_is)

    spot_above : (k : ℕ) → spot (e ∷ es) st 0 < spot (e ∷ es) st (suc k)
    spot_above k = omega (arith, part_length e st, spot_later k)

  -- later entries stand at later places
  pub spots_ascend : (es : List Entry) (st end : State Told) (j k : ℕ) → walk_of code s es st ≡ Some end → j < k → k < length es → spot es st j < spot es st k
  spots_ascend [] st end j k h lt within = absurd (omega arith)
  spots_ascend (e ∷ es) st end j zero h lt within = absurd (omega arith)
  spots_ascend (e ∷ es) st end zero (suc k) h lt within = spot_above e es st end (first_of e es st end h) k
  spots_ascend (e ∷ es) st end (suc j) (suc k) h lt within =
      let f = first_of e es st end h in
      let r = spots_ascend es f.after end j k f.rest (omega arith) (omega (arith, within)) in
      omega (arith, spot_later e es st end f j, spot_later e es st end f k, r)

  -- what stands at an entry's place
  pub record Stands (ls : List Label) (st : State Told) (i : ℕ) (e : Entry) : Type 0 where
    pub mid : State Told
    pub after : State Told
    pub makes : Makes e mid after
    pub reached : IsReachable code s mid
    pub at : state_at (machine code s) ls st i ≡ Some mid
    pub event : event_at (machine code s) ls st i ≡ event_of (machine code s) mid (label_of e)

  pub stands : (es : List Entry) (st end : State Told) (k : ℕ) (e : Entry) → IsReachable code s st → walk_of code s es st ≡ Some end → slice_get es k ≡ Some e → Stands (labels_from code s es st) st (spot es st k) e
  stands [] st end k e r h at = cc
  stands (x ∷ es) st end zero e r h at =
      subst (Stands (labels_from code s (x ∷ es) st) st (spot (x ∷ es) st 0)) (same_Some x e at)
      (let f = first_of x es st end h in
      record { mid = f.mid; after = f.after; makes = f.makes; reached = reached_mid x es st end f r; at = state_first x es st end f; event = event_here x es st end f })
  stands (x ∷ es) st end (suc k) e r h at =
      let f = first_of x es st end h in
      let q = stands es f.after end k e (reached_after x es st end f r) f.rest at in
      record { mid = q.mid; after = q.after; makes = q.makes; reached = q.reached; at = state_later x es st end f k ∙ q.at; event = event_later x es st end f k ∙ q.event }

  -- ---- what is kept along a walk

  -- what the states of a run show of an object, and what an entry makes of it
  module _ (A : Type 0) (Shows : State Told → A → Type 0) (move : Entry → A → A) (over : A → List Entry → A)
      (over_none : (a : A) → over a [] ≡ a) (over_more : (a : A) (e : Entry) (es : List Entry) → over a (e ∷ es) ≡ over (move e a) es)
      (quiet : (a : A) (st st1 : State Told) (l : Label) → IsReachable code s st → stepped (machine code s) st l ≡ Some st1 → added (machine code s) st l ≡ [] → Shows st a → Shows st1 a)
      (making : (a : A) (e : Entry) (mid after : State Told) → IsReachable code s mid → Makes e mid after → Shows mid a → Shows after (move e a)) where
    turns_keep : (n t : ℕ) (st mid : State Told) (a : A) → IsReachable code s st → alone (machine code s) n t st ≡ Some mid → Shows st a → Shows mid a
    turns_keep zero t st mid a r h x = subst (λ z. Shows z a) (same_Some st mid h) x
    turns_keep (suc n) t st mid a r h x =
        let i = nothing_inv (added (machine code s) st (Go t)) (option_and_then (alone (machine code s) n t) (stepped (machine code s) st (Go t))) mid h in
        let b = then_inv (alone (machine code s) n t) (stepped (machine code s) st (Go t)) mid i.1 in
        turns_keep n t b.0 mid a (reaches_step (machine code s) (start_state code s) st b.0 (Go t) r b.1) b.2 (quiet a st b.0 (Go t) r b.1 i.0 x)

    pub shown_at : (es : List Entry) (st end mid : State Told) (k : ℕ) (a : A) → IsReachable code s st → walk_of code s es st ≡ Some end → k < length es → state_at (machine code s) (labels_from code s es st) st (spot es st k) ≡ Some mid → Shows st a → Shows mid (over a (take k es))
    shown_at [] st end mid k a r h within at x = absurd (omega arith)
    shown_at (e ∷ es) st end mid zero a r h within at x =
        let f = first_of e es st end h in
        subst (Shows mid) (sym (over_none a))
        (subst (λ z. Shows z a) (same_Some f.mid mid (sym (state_first e es st end f) ∙ at)) (turns_keep (turns e st) e.thread st f.mid a r f.turns_are x))
    shown_at (e ∷ es) st end mid (suc k) a r h within at x =
        let f = first_of e es st end h in
        let y = turns_keep (turns e st) e.thread st f.mid a r f.turns_are x in
        subst (Shows mid) (sym (over_more a e (take k es)))
        (shown_at es f.after end mid k (move e a) (reached_after e es st end f r) f.rest (omega (arith, within)) (sym (state_later e es st end f k) ∙ at) (making a e f.mid f.after (reached_mid e es st end f r) f.makes y))
