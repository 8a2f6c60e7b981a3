-- A machine whose threads keep the events that they make, and its runs, which are those of the machine without them.
use Rattle.std.proofs.Common.{◌≡◌, ℕ, List, [], ◌∷◌, ◌++◌, map, Option, Some, None, refl, sym, ap, ◌∙◌, ℤ, pos, append_assoc, ⊎_elim, eq-eqb, ne_eqb}
use Rattle.std.specs.Prelude.{slice_get, slice_set, slice_index, option_and_then, option_map, option_to_list, ◌==◌, if◌then◌else◌}
use Rattle.std.proofs.lemmas.Bool.{cases_eq}
use Rattle.std.proofs.lemmas.List.{append-nil, map-set}
use Rattle.std.proofs.lemmas.Option.{same_Some, slice_get-map, get_or_from_slice_get}
use Rattle.sync_objects.specs.declared.entry.Noted.{Noted}
use Rattle.run_theory.specs.Labels.{Label, label_thread}
use Rattle.run_theory.specs.Steps.{Change, NotAllowed, Becomes, Outcome, Blocked, Leaves, Effect, Refused, Marks, Loads, Stores, Operates, Machine, State, load_outcome, changed_outcome, change_outcome, outcome, with_thread, step_of_thread, stepped, effect_entry, entry_of_thread, added, run, trace, trace_on}
use Rattle.run_theory.specs.Laws.{IsLawfulEffect, IsLawful}
use Rattle.run_theory.specs.Ordered.{Event, Marked, Loaded, Stored, Did, operation_event, effect_event, event_of_thread, event_of}
use Rattle.run_theory.proofs.Lists.{slice_get-set_same, slice_get-set_other}
use Rattle.run_theory.proofs.Swap.{steps_of, load_inv, change_inv}

-- a thread's state, with the events that it has made
pub record Keeping (T : Type 0) : Type 0 where
  pub thread : T
  pub events : List Event

abbrev pub kept_change : {T : Type 0} → ℕ → List Event → Noted → ℕ → Change T → Change (Keeping T)
kept_change t h x w NotAllowed = NotAllowed
kept_change t h x w (Becomes v answer th) = Becomes v answer (record { thread = th; events = h ++ Did t x w answer ∷ [] })

kept_inv : {T : Type 0} (t : ℕ) (h : List Event) (x : Noted) (w v : ℕ) (answer : ℤ) (c : Change T) (y : Keeping T) → kept_change t h x w c ≡ Becomes v answer y → (c ≡ Becomes v answer y.thread) × (y.events ≡ h ++ Did t x w answer ∷ [])
kept_inv t h x w v answer NotAllowed y e = cc
kept_inv t h x w v answer (Becomes u a th) y e =
    let k : record { thread = th; events = h ++ Did t x w a ∷ [] } ≡ y = cc in
    let b : a ≡ answer = cc in
    (cc (ap (λ (z : Keeping _). z.thread) k), sym (ap (λ (z : Keeping _). z.events) k) ∙ ap (λ z. h ++ Did t x w z ∷ []) b)

-- what an effect leaves, without the events
abbrev plain_outcome : {T : Type 0} → Outcome (Keeping T) → Outcome T
plain_outcome Blocked = Blocked
plain_outcome (Leaves ws x) = Leaves ws x.thread

-- a state without the events
abbrev pub plain : {T : Type 0} → State (Keeping T) → State T
plain s = record { words = s.words; threads = map (λ (x : Keeping _). x.thread) s.threads }

-- a state in which no thread has made an event
abbrev pub fresh : {T : Type 0} → State T → State (Keeping T)
fresh s = record { words = s.words; threads = map (λ th. record { thread = th; events = [] }) s.threads }

threads_back : {T : Type 0} (ths : List T) → map (λ (x : Keeping T). x.thread) (map (λ th. record { thread = th; events = [] }) ths) ≡ ths
threads_back [] = refl
threads_back (x ∷ xs) = ap (λ z. x ∷ z) (threads_back xs)

pub plain_fresh : {T : Type 0} (s : State T) → plain (fresh s) ≡ s
plain_fresh s = λ i. record { words = s.words; threads = threads_back s.threads i }

abbrev events_in : {T : Type 0} → Option (Keeping T) → List Event
events_in None = []
events_in (Some x) = x.events

-- the events that the thread has made
abbrev pub history : {T : Type 0} → ℕ → State (Keeping T) → List Event
history t s = events_in (slice_get s.threads t)

pub history_fresh : {T : Type 0} (t : ℕ) (s : State T) → history t (fresh s) ≡ []
history_fresh {T} t s = ap events_in (slice_get-map (λ th. record { thread = th; events = [] }) s.threads t) ∙ none (slice_get s.threads t)
  where
    none : (o : Option T) → events_in (option_map (λ th. record { thread = th; events = [] }) o) ≡ []
    none None = refl
    none (Some x) = refl

module _ {T : Type 0} (m : Machine T) where
  abbrev pub kept_effect : ℕ → List Event → Effect T → Effect (Keeping T)
  kept_effect t h Refused = Refused
  kept_effect t h (Marks th) = Marks (record { thread = th; events = h ++ Marked t ∷ [] })
  kept_effect t h (Loads c f) = Loads c (λ w. record { thread = f w; events = h ++ Loaded t c ∷ [] })
  kept_effect t h (Stores c w th) = Stores c w (record { thread = th; events = h ++ Stored t c ∷ [] })
  kept_effect t h (Operates e f) = Operates e (λ w. kept_change t h (record { entry = e; number = m.number w }) w (f w))

  -- the machine whose threads keep their events
  abbrev pub keeping : Machine (Keeping T)
  keeping = record {
    effect = λ l x. kept_effect (label_thread l) x.events (m.effect l x.thread);
    count = λ x. m.count x.thread;
    has_ended = λ x. m.has_ended x.thread;
    cells = m.cells;
    has_object = m.has_object;
    place = m.place;
    number = m.number;
  }

  kept_lawful : (l : Label) (x : Keeping T) (f : Effect T) → IsLawfulEffect m l x.thread f → IsLawfulEffect keeping l x (kept_effect (label_thread l) x.events f)
  kept_lawful l x Refused h = tt
  kept_lawful l x (Marks th) h = (h.0, record { counted = h.1.counted; lives = h.1.lives })
  kept_lawful l x (Loads c f) h = (h.0, h.1, λ w. record { counted = (h.2 w).counted; lives = (h.2 w).lives })
  kept_lawful l x (Stores c w th) h = (h.0, h.1, record { counted = h.2.counted; lives = h.2.lives })
  kept_lawful l x (Operates e f) h = record {
    labelled = h.labelled;
    counted = h.counted;
    object = h.object;
    draws = λ old new answer after q.
        let d = h.draws old new answer after.thread (kept_inv (label_thread l) x.events (record { entry = e; number = m.number old }) old new answer (f old) after q).0 in
        record { numbered = d.numbered; counted = d.counted };
  }

  pub keeping_lawful : IsLawful m → IsLawful keeping
  keeping_lawful law = record {
    effects = λ l x. kept_lawful l x (m.effect l x.thread) (law.effects l x.thread);
    following = law.following;
    apart = law.apart;
  }

  -- ---- without the events each step is the machine's

  load_same : (ws : List ℕ) (f : ℕ → T) (h : List Event) (o : Option ℕ) → plain_outcome (load_outcome ws (λ w. record { thread = f w; events = h }) o) ≡ load_outcome ws f o
  load_same ws f h None = refl
  load_same ws f h (Some w) = refl

  changed_same : (ws : List ℕ) (i t : ℕ) (h : List Event) (x : Noted) (w : ℕ) (c : Change T) → plain_outcome (changed_outcome ws i (kept_change t h x w c)) ≡ changed_outcome ws i c
  changed_same ws i t h x w NotAllowed = refl
  changed_same ws i t h x w (Becomes v a th) = refl

  outcome_same : (t : ℕ) (h : List Event) (ws : List ℕ) (e : Effect T) → plain_outcome (outcome keeping ws (kept_effect t h e)) ≡ outcome m ws e
  outcome_same t h ws Refused = refl
  outcome_same t h ws (Marks th) = refl
  outcome_same t h ws (Loads c f) = load_same ws f (h ++ Loaded t c ∷ []) (slice_get ws c)
  outcome_same t h ws (Stores c w th) = go (slice_get ws c)
    where
      go : (o : Option ℕ) → plain_outcome (change_outcome ws c (λ _. Becomes w (pos 0) (record { thread = th; events = h ++ Stored t c ∷ [] })) o) ≡ change_outcome ws c (λ _. Becomes w (pos 0) th) o
      go None = refl
      go (Some v) = refl
  outcome_same t h ws (Operates e f) = go (slice_get ws (m.place e.obj))
    where
      go : (o : Option ℕ) → plain_outcome (change_outcome ws (m.place e.obj) (λ w. kept_change t h (record { entry = e; number = m.number w }) w (f w)) o) ≡ change_outcome ws (m.place e.obj) f o
      go None = refl
      go (Some w) = changed_same ws (m.place e.obj) t h (record { entry = e; number = m.number w }) w (f w)

  with_same : (ths : List (Keeping T)) (t : ℕ) (o : Outcome (Keeping T)) → option_map plain (with_thread keeping ths t o) ≡ with_thread m (map (λ (x : Keeping T). x.thread) ths) t (plain_outcome o)
  with_same ths t Blocked = refl
  with_same ths t (Leaves ws y) = λ i. Some (record { words = ws; threads = map-set (λ (x : Keeping T). x.thread) ths t y i })

  step_same : (s : State (Keeping T)) (l : Label) (o : Option (Keeping T)) → option_map plain (step_of_thread keeping s l o) ≡ step_of_thread m (plain s) l (option_map (λ (x : Keeping T). x.thread) o)
  step_same s l None = refl
  step_same s l (Some x) = with_same s.threads (label_thread l) (outcome keeping s.words (kept_effect (label_thread l) x.events (m.effect l x.thread))) ∙ ap (with_thread m (map (λ (x : Keeping T). x.thread) s.threads) (label_thread l)) (outcome_same (label_thread l) x.events s.words (m.effect l x.thread))

  pub stepped_same : (s : State (Keeping T)) (l : Label) → option_map plain (stepped keeping s l) ≡ stepped m (plain s) l
  stepped_same s l = step_same s l (slice_get s.threads (label_thread l)) ∙ ap (step_of_thread m (plain s) l) (sym (slice_get-map (λ (x : Keeping T). x.thread) s.threads (label_thread l)))

  entries_same : (t : ℕ) (h : List Event) (ws : List ℕ) (e : Effect T) → effect_entry keeping ws (kept_effect t h e) ≡ effect_entry m ws e
  entries_same t h ws Refused = refl
  entries_same t h ws (Marks th) = refl
  entries_same t h ws (Loads c f) = refl
  entries_same t h ws (Stores c w th) = refl
  entries_same t h ws (Operates e f) = refl

  added_same : (s : State (Keeping T)) (l : Label) → added keeping s l ≡ added m (plain s) l
  added_same s l = go (slice_get s.threads (label_thread l)) ∙ ap (entry_of_thread m s.words l) (sym (slice_get-map (λ (x : Keeping T). x.thread) s.threads (label_thread l)))
    where
      go : (o : Option (Keeping T)) → entry_of_thread keeping s.words l o ≡ entry_of_thread m s.words l (option_map (λ (x : Keeping T). x.thread) o)
      go None = refl
      go (Some x) = entries_same (label_thread l) x.events s.words (m.effect l x.thread)

  pub run_same : (R : List Label) (s : State (Keeping T)) → option_map plain (run keeping R s) ≡ run m R (plain s)
  run_same [] s = refl
  run_same (l ∷ R) s = go (stepped keeping s l) (λ s1. run_same R s1) ∙ ap (option_and_then (run m R)) (stepped_same s l)
    where
      go : (o : Option (State (Keeping T))) → ((s1 : State (Keeping T)) → option_map plain (run keeping R s1) ≡ run m R (plain s1)) → option_map plain (option_and_then (run keeping R) o) ≡ option_and_then (run m R) (option_map plain o)
      go None again = refl
      go (Some s1) again = again s1

  pub trace_same : (R : List Label) (s : State (Keeping T)) → trace keeping R s ≡ trace m R (plain s)
  trace_same [] s = refl
  trace_same (l ∷ R) s = ap (λ z. z ++ trace_on keeping (trace keeping R) (stepped keeping s l)) (added_same s l) ∙ ap (λ z. added m (plain s) l ++ z) (go (stepped keeping s l) (λ s1. trace_same R s1) ∙ ap (trace_on m (trace m R)) (stepped_same s l))
    where
      go : (o : Option (State (Keeping T))) → ((s1 : State (Keeping T)) → trace keeping R s1 ≡ trace m R (plain s1)) → trace_on keeping (trace keeping R) o ≡ trace_on m (trace m R) (option_map plain o)
      go None again = refl
      go (Some s1) again = again s1

  -- ---- the events of each thread

  abbrev own_of : ℕ → Label → Option Event → List Event
  own_of t l o = if label_thread l == t then option_to_list o else []

  abbrev own_after : ℕ → Label → State T → (State T → List Event) → Option (State T) → List Event
  own_after t l s rest None = []
  own_after t l s rest (Some s1) = own_of t l (event_of m s l) ++ rest s1

  -- the events of the thread in the run, in their order
  abbrev pub own_events : ℕ → List Label → State T → List Event
  own_events t [] s = []
  own_events t (l ∷ R) s = own_after t l s (own_events t R) (stepped m s l)

  event_kept : (t : ℕ) (h : List Event) (ws ws1 : List ℕ) (y : Keeping T) (e : Effect T) → outcome keeping ws (kept_effect t h e) ≡ Leaves ws1 y → y.events ≡ h ++ option_to_list (effect_event m t ws e)
  event_kept t h ws ws1 y Refused on = cc
  event_kept t h ws ws1 y (Marks th) on = let k : record { thread = th; events = h ++ Marked t ∷ [] } ≡ y = cc in sym (ap (λ (z : Keeping T). z.events) k)
  event_kept t h ws ws1 y (Loads c f) on = let r = load_inv ws (λ w. record { thread = f w; events = h ++ Loaded t c ∷ [] }) (slice_get ws c) ws1 y on in ap (λ (z : Keeping T). z.events) r.3
  event_kept t h ws ws1 y (Stores c w th) on =
      let r = change_inv ws c (λ _. Becomes w (pos 0) (record { thread = th; events = h ++ Stored t c ∷ [] })) (slice_get ws c) ws1 y on in
      let k : record { thread = th; events = h ++ Stored t c ∷ [] } ≡ y = cc in sym (ap (λ (z : Keeping T). z.events) k)
  event_kept t h ws ws1 y (Operates e f) on =
      let at = m.place e.obj in
      let r = change_inv ws at (λ w. kept_change t h (record { entry = e; number = m.number w }) w (f w)) (slice_get ws at) ws1 y on in
      let k = kept_inv t h (record { entry = e; number = m.number r.0 }) r.0 r.1 r.2 (f r.0) y r.4 in
      let w : slice_index ws at ≡ r.0 = get_or_from_slice_get ws at r.0 0 r.3 in
      let is : operation_event t (record { entry = e; number = m.number (slice_index ws at) }) (slice_index ws at) (f (slice_index ws at)) ≡ Some (Did t (record { entry = e; number = m.number r.0 }) r.0 r.2) =
      ap (λ z. operation_event t (record { entry = e; number = m.number z }) z (f z)) w ∙ ap (operation_event t (record { entry = e; number = m.number r.0 }) r.0) k.0 in
      k.1 ∙ sym (ap (λ z. h ++ option_to_list z) is)

  history_step : (t : ℕ) (s s1 : State (Keeping T)) (l : Label) → stepped keeping s l ≡ Some s1 → history t s1 ≡ history t s ++ own_of t l (event_of m (plain s) l)
  history_step t s s1 l h =
      let x = steps_of keeping s l s1 h in
      let ths : s1.threads ≡ slice_set s.threads (label_thread l) x.after = ap (λ z. z.threads) x.to in
      ⊎_elim
      (λ (w : label_thread l ≡ t).
      let now : slice_get s1.threads t ≡ Some x.after = ap (λ z. slice_get z t) ths ∙ ap (λ z. slice_get (slice_set s.threads z x.after) t) w ∙ slice_get-set_same s.threads t x.after x.before (ap (slice_get s.threads) (sym w) ∙ x.stands) in
      let was : slice_get s.threads t ≡ Some x.before = ap (slice_get s.threads) (sym w) ∙ x.stands in
      let event : event_of m (plain s) l ≡ effect_event m (label_thread l) s.words (m.effect l x.before.thread) = ap (event_of_thread m s.words l) (slice_get-map (λ (z : Keeping T). z.thread) s.threads (label_thread l) ∙ ap (option_map (λ (z : Keeping T). z.thread)) x.stands) in
      ap events_in now ∙ event_kept (label_thread l) x.before.events s.words x.words x.after (m.effect l x.before.thread) x.leaves
      ∙ sym (ap (λ z. history t s ++ (if z then option_to_list (event_of m (plain s) l) else [])) (eq-eqb (label_thread l) t w) ∙ ap (λ z. events_in z ++ option_to_list (event_of m (plain s) l)) was ∙ ap (λ z. x.before.events ++ option_to_list z) event))
      (λ (w : label_thread l ≡ t → ⊥).
      ap (λ z. events_in (slice_get z t)) ths ∙ ap events_in (slice_get-set_other s.threads (label_thread l) t x.after (λ q. w (sym q)))
      ∙ sym (ap (λ z. history t s ++ (if z then option_to_list (event_of m (plain s) l) else [])) (ne_eqb (label_thread l) t w) ∙ append-nil (history t s)))
      (cases_eq (label_thread l) t)

  pub history_run : (t : ℕ) (R : List Label) (s s1 : State (Keeping T)) → run keeping R s ≡ Some s1 → history t s1 ≡ history t s ++ own_events t R (plain s)
  history_run t [] s s1 h = ap (history t) (sym (same_Some _ _ h)) ∙ sym (append-nil (history t s))
  history_run t (l ∷ R) s s1 h = go (stepped keeping s l) refl h (λ mid. history_run t R mid s1)
    where
      go : (o : Option (State (Keeping T))) → stepped keeping s l ≡ o → option_and_then (run keeping R) o ≡ Some s1 → ((mid : State (Keeping T)) → run keeping R mid ≡ Some s1 → history t s1 ≡ history t mid ++ own_events t R (plain mid)) → history t s1 ≡ history t s ++ own_events t (l ∷ R) (plain s)
      go None e q again = cc
      go (Some mid) e q again =
          let k : stepped m (plain s) l ≡ Some (plain mid) = sym (stepped_same s l) ∙ ap (option_map plain) e in
          again mid q ∙ ap (λ z. z ++ own_events t R (plain mid)) (history_step t s mid l e) ∙ append_assoc (history t s) (own_of t l (event_of m (plain s) l)) (own_events t R (plain mid)) ∙ sym (ap (λ z. history t s ++ own_after t l (plain s) (own_events t R) z) k)
