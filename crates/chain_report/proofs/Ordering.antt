-- What is a chain over the entries of a log orders the accesses between which it leads.
use Rattle.std.proofs.Common.{◌≡◌, ◌≢◌, ℕ, suc, ◌<◌, ◌≤◌, nat_lt, nat_le, ◌==◌, ◌&&◌, ◌⊎◌, inl, inr, ⊎_elim, Bool, true, false, List, [], ◌∷◌, Option, Some, None, refl, sym, ap, subst, ◌∙◌, ℤ, arith}
use Rattle.std.specs.Prelude.{option_and_then, slice_get}
use Rattle.std.proofs.lemmas.Bool.{and_parts, ltb-true, leb-true, eqb-true}
use Rattle.std.proofs.lemmas.Option.{same_Some}
use Rattle.sync_objects.specs.Setup.{SetupView, IsWithinLimits}
use Rattle.sync_objects.specs.declared.entry.Entry.{Entry}
use Rattle.sync_objects.specs.declared.entry.Noted.{Noted}
use Rattle.flow_code.specs.declared.code.Code.{Code}
use Rattle.flow_code.specs.Settle.{IsRunnable}
use Rattle.core_run.specs.Machine.{Told, machine, start_state}
use Rattle.core_run.specs.Walks.{walk_of}
use Rattle.core_run.proofs.Lawful.{lawful}
use Rattle.run_theory.specs.Labels.{Label, Go, label_thread, label_of}
use Rattle.run_theory.specs.Laws.{NoAccess}
use Rattle.run_theory.specs.Ordered.{Event, Did, event_access, event_thread, event_of, event_at, state_at, PassesTo, Link, Ordered, last, more}
use Rattle.run_theory.specs.Steps.{State, stepped, added, run, count_or_zero, count_of}
use Rattle.run_theory.proofs.Apart.{adds_cases}
use Rattle.run_theory.proofs.Counts.{counted, entry_law_at}
use Rattle.run_theory.proofs.Grows.{run_grows}
use Rattle.run_theory.proofs.InTime.{places}
use Rattle.run_theory.proofs.Swap.{steps_of}
use Rattle.lock_ownership.specs.Holders.{word_of_object}
use Rattle.lock_ownership.proofs.Stepping.{event_is_own, has_stepped}
use Rattle.lock_ownership.proofs.Turns.{Place, place_at, along}
use Rattle.lowering_simulation.specs.WalkEvents.{labels_of_walk}
use Rattle.chain_report.specs.Accesses.{IsAccessOf, AreInOrder}
use Rattle.chain_report.specs.Chains.{passes, is_after, is_before, is_of_one, goes_on, ends, chain_from, is_chain}
use Rattle.chain_report.specs.declared.point.Point.{Point}
use Rattle.chain_report.proofs.Passing.{events, place, Operation, operation_at, Passing, passing}
use Rattle.chain_report.proofs.Shown.{operation}
use Rattle.chain_report.proofs.Spots.{spots_ascend}

module _ (code : Code) (s : SetupView) (run_ok : IsRunnable code) (limits : IsWithinLimits s) (es : List Entry) (end : State Told) (walked : walk_of code s es (start_state code s) ≡ Some end) where
  abbrev labels : List Label
  labels = labels_of_walk code s es

  abbrev begin_state : State Told
  begin_state = start_state code s

  abbrev at : ℕ → Option Event
  at = events code s run_ok limits es end walked

  abbrev spot : ℕ → ℕ
  spot = place code s run_ok limits es end walked

  abbrev Op : ℕ → Entry → Type 0
  Op = Operation code s run_ok limits es end walked

  -- ---- counts along the walk

  -- a count never falls from one place to a later one
  pub grows : (t i j : ℕ) (a b : State Told) → i ≤ j → state_at (machine code s) labels begin_state i ≡ Some a → state_at (machine code s) labels begin_state j ≡ Some b → count_of (machine code s) a t ≤ count_of (machine code s) b t
  grows t i j a b le e f =
      along code s (λ x y. count_of (machine code s) x t ≤ count_of (machine code s) y t)
      (λ x. omega arith)
      (λ x y z p q. omega (arith, p, q))
      (λ x y l r h. run_grows (machine code s) (lawful code s run_ok limits) (l ∷ []) x y t (one x y l h))
      labels begin_state a b i j ([], refl) le e f
    where
      one : (x y : State Told) (l : Label) → stepped (machine code s) x l ≡ Some y → run (machine code s) (l ∷ []) x ≡ Some y
      one x y l h = ap (λ o. option_and_then (run (machine code s) []) o) h

  -- the entry that an operation is has its thread's count
  pub op_count : (k : ℕ) (e : Entry) (o : Op k e) → count_of (machine code s) o.mid e.thread ≡ e.count
  op_count k e o =
      let x = steps_of (machine code s) o.mid (label_of e) o.after o.makes.steps in
      let law = entry_law_at (machine code s) (lawful code s run_ok limits) o.mid o.after (label_of e) (record { entry = e; number = o.makes.number }) x o.makes.adds in
      ap (λ t. count_or_zero (machine code s) (slice_get o.mid.threads t)) law.of_thread ∙ ap (count_or_zero (machine code s)) x.stands ∙ sym law.counted

  -- an access raises its thread's count
  pub record Access (p : Point) (i : ℕ) : Type 0 where
    pub event : Event
    pub happens : at i ≡ Some event
    pub own : event_thread event ≡ p.thread
    pub accesses : event_access event ≢ NoAccess
    pub before : State Told
    pub stands : state_at (machine code s) labels begin_state i ≡ Some before
    pub counts : count_of (machine code s) before p.thread ≡ p.count
    pub after : State Told
    pub next : state_at (machine code s) labels begin_state (suc i) ≡ Some after
    pub risen : count_of (machine code s) after p.thread ≡ suc p.count

  pub access : (p : Point) (i : ℕ) → IsAccessOf code s es p i → Access p i
  access p i a =
      let q = place_at code s labels begin_state i a.event ([], refl) a.happens in
      let same : q.before ≡ a.before = same_Some q.before a.before (sym q.at ∙ a.stands) in
      let told = by q (adds_cases (machine code s) (lawful code s run_ok limits) q.before q.after q.label q.steps) in
      record {
        event = a.event;
        happens = a.happens;
        own = a.own;
        accesses = a.accesses;
        before = a.before;
        stands = a.stands;
        counts = a.counted;
        after = q.after;
        next = q.next;
        risen = ap (count_of (machine code s) q.after) (sym told.0) ∙ counted (machine code s) (lawful code s run_ok limits) q.label q.before q.after q.steps told.1 ∙ ap suc (ap (count_of (machine code s) q.before) told.0 ∙ ap (λ z. count_of (machine code s) z p.thread) same ∙ a.counted);
      }
    where
      same_event : (x : Event) (t : ℕ) (y : Noted) (w : ℕ) (answer : ℤ) → Some x ≡ Some (Did t y w answer) → x ≡ Did t y w answer
      same_event x t y w answer e = same_Some x (Did t y w answer) e

      by : (q : Place code s labels begin_state i a.event) → ((added (machine code s) q.before q.label ≡ []) × (q.label ≡ Go (label_thread q.label))) ⊎ ((x : Noted) × (added (machine code s) q.before q.label ≡ x ∷ []) × (x.entry.thread ≡ label_thread q.label)) → (label_thread q.label ≡ p.thread) × (added (machine code s) q.before q.label ≡ [])
      by q (inl none) = (sym (event_is_own code s q.before q.after q.label (has_stepped code s q.before q.after q.label q.steps) a.event q.event) ∙ a.own, none.0)
      by q (inr x) =
          let o = operation (machine code s) q.before q.after q.label x.0 q.steps x.1 in
          absurd (a.accesses (ap event_access (same_event a.event (label_thread q.label) x.0 o.word o.answer (sym q.event ∙ o.happens))))

  -- an entry whose count is above the point's is made after the access
  after_access : (p : Point) (i k : ℕ) (e : Entry) → Access p i → (o : Op k e) → e.thread ≡ p.thread → p.count < e.count → i < spot k
  after_access p i k e a o own lt =
      ⊎_elim
      (λ less. less)
      (λ q. absurd (let g = grows p.thread (spot k) i o.mid a.before (not_less q) o.at a.stands in
      let c = ap (count_of (machine code s) o.mid) (sym own) ∙ op_count k e o in
      omega (arith, lt, g, c, a.counts)))
      (places i (spot k))
    where
      not_less : (i ≡ spot k) ⊎ (spot k < i) → spot k ≤ i
      not_less (inl q) = omega (arith, q)
      not_less (inr q) = omega (arith, q)

  -- one whose count isn't is made before it
  before_access : (p : Point) (j k : ℕ) (e : Entry) → Access p j → (o : Op k e) → e.thread ≡ p.thread → e.count ≤ p.count → spot k < j
  before_access p j k e a o own le =
      ⊎_elim
      (λ less. less)
      (λ q. ⊎_elim
      (λ same. absurd (other a same))
      (λ more. absurd (let g = grows p.thread (suc j) (spot k) a.after o.mid (omega (arith, more)) a.next o.at in
      let c = ap (count_of (machine code s) o.mid) (sym own) ∙ op_count k e o in
      omega (arith, le, g, c, a.risen)))
      q)
      (places (spot k) j)
    where
      other : (a : Access p j) → spot k ≡ j → ⊥
      other a same = a.accesses (ap event_access (same_Some a.event (Did e.thread (record { entry = e; number = o.number }) (word_of_object code s e.obj o.mid) o.step.answer) (sym a.happens ∙ sym (ap at same) ∙ o.happens)))

  -- ---- links

  link : (i a b : ℕ) (start : Event) → at i ≡ Some start → (x : Passing code s run_ok limits es end walked a b) → i < spot a → event_thread start ≡ x.first.thread → Link at i (spot b)
  link i a b start start_is x lt own = record {
    start = start;
    start_is = start_is;
    a = spot a;
    after = lt;
    first = record { entry = x.first; number = x.gives.number };
    first_before = word_of_object code s x.first.obj x.gives.mid;
    first_answer = x.gives.step.answer;
    first_is = x.gives.happens ∙ ap (λ t. Some (Did t (record { entry = x.first; number = x.gives.number }) (word_of_object code s x.first.obj x.gives.mid) x.gives.step.answer)) (sym own);
    taker = x.second.thread;
    second = record { entry = x.second; number = x.takes.number };
    before = word_of_object code s x.second.obj x.takes.mid;
    answer = x.takes.step.answer;
    second_is = x.takes.happens;
    passes = subst (λ t. PassesTo t (record { entry = x.first; number = x.gives.number }) (word_of_object code s x.first.obj x.gives.mid) (record { entry = x.second; number = x.takes.number }) x.takes.step.answer) (sym own) x.to;
  }

  -- what a place of a chain leads on to
  is_after_inv : (p : Point) (a : ℕ) (x : Entry) → slice_get es a ≡ Some x → is_after p (slice_get es a) ≡ true → (x.thread ≡ p.thread) × (p.count < x.count)
  is_after_inv p a x e h =
      let parts = and_parts (x.thread == p.thread) (nat_lt p.count x.count) (sym (ap (is_after p) e) ∙ h) in
      (eqb-true x.thread p.thread parts.0, ltb-true p.count x.count parts.1)

  is_before_inv : (p : Point) (b : ℕ) (y : Entry) → slice_get es b ≡ Some y → is_before p (slice_get es b) ≡ true → (y.thread ≡ p.thread) × (y.count ≤ p.count)
  is_before_inv p b y e h =
      let parts = and_parts (y.thread == p.thread) (nat_le y.count p.count) (sym (ap (is_before p) e) ∙ h) in
      (eqb-true y.thread p.thread parts.0, leb-true y.count p.count parts.1)

  next_inv : (b a : ℕ) (y x : Entry) → slice_get es b ≡ Some y → slice_get es a ≡ Some x → (nat_lt b a && is_of_one (slice_get es b) (slice_get es a)) ≡ true → (b < a) × (y.thread ≡ x.thread)
  next_inv b a y x e f h =
      let parts = and_parts (nat_lt b a) (y.thread == x.thread) (sym (ap (λ u. nat_lt b a && is_of_one u (slice_get es a)) e ∙ ap (λ v. nat_lt b a && is_of_one (Some y) v) f) ∙ h) in
      (ltb-true b a parts.0, eqb-true y.thread x.thread parts.1)

  module _ (from to : Point) (i j : ℕ) (first : Access from i) (second : Access to j) where
    -- the chain goes on from where the last pass led to
    leads : (rest : List (ℕ × ℕ)) (i0 b : ℕ) (y : Entry) (e : slice_get es b ≡ Some y) (o : Op b y) → Link at i0 (spot b) → chain_from es from to (Some b) rest ≡ true → Ordered at i0 j
    leads [] i0 b y e o k h =
        let q = is_before_inv to b y e h in
        last (spot b) (Did y.thread (record { entry = y; number = o.number }) (word_of_object code s y.obj o.mid) o.step.answer) second.event k
        (before_access to j b y second o q.0 q.1) o.happens second.happens (q.0 ∙ sym second.own)
    leads (x ∷ rest) i0 b y e o k h =
        let parts = and_parts (goes_on es from (Some b) x.0 && passes es x.0 x.1) (chain_from es from to (Some x.1) rest) h in
        let two = and_parts (goes_on es from (Some b) x.0) (passes es x.0 x.1) parts.0 in
        let p = passing code s run_ok limits es end walked x.0 x.1 two.1 in
        let q = next_inv b x.0 y p.first e p.first_is two.0 in
        let lt = spots_ascend code s es begin_state end b x.0 walked q.0 p.gives.within in
        more (spot b) k
        (leads rest (spot b) x.1 p.second p.second_is p.takes
        (link (spot b) x.0 x.1 (Did y.thread (record { entry = y; number = o.number }) (word_of_object code s y.obj o.mid) o.step.answer) o.happens p lt q.1)
        parts.1)

    chained : (given : List (ℕ × ℕ)) → is_chain es from to given ≡ true → Ordered at i j
    chained [] h = cc
    chained (x ∷ rest) h =
        let parts = and_parts (goes_on es from None x.0 && passes es x.0 x.1) (chain_from es from to (Some x.1) rest) h in
        let two = and_parts (goes_on es from None x.0) (passes es x.0 x.1) parts.0 in
        let p = passing code s run_ok limits es end walked x.0 x.1 two.1 in
        let q = is_after_inv from x.0 p.first p.first_is two.0 in
        let lt = after_access from i x.0 p.first first p.gives q.0 q.1 in
        leads rest i x.1 p.second p.second_is p.takes
        (link i x.0 x.1 first.event first.happens p lt (first.own ∙ sym q.0))
        parts.1

pub chain_orders : (code : Code) (s : SetupView) (es : List Entry) (from to : Point) (given : List (ℕ × ℕ)) → IsRunnable code → IsWithinLimits s → is_chain es from to given ≡ true → AreInOrder code s es from to
chain_orders code s es from to given run_ok limits h = λ end i j walked first second.
    chained code s run_ok limits es end walked from to i j (access code s run_ok limits es end walked from i first) (access code s run_ok limits es end walked to j second) given h
