-- Quiet steps, stores and operations keep objects apart and cells good.
use Rattle.std.proofs.Common.{◌≡◌, ℕ, ◌+◌, ◌*◌, ◌<◌, ◌≤◌, ⊎_elim, true, List, length, Option, Some, refl, sym, ap, subst, ◌∙◌, pos, arith}
use Rattle.std.specs.Prelude.{slice_get, slice_set}
use Rattle.rr_base.proofs.Lists.{slice_get-set_same, slice_set-get}
use Rattle.rr_base.specs.Words.{class_of}
use Rattle.rr_base.specs.declared.layout.CellKind.TheVariants as kind
use Rattle.sync_objects.specs.Setup.{SetupView, IsWithinLimits}
use Rattle.word_semantics.specs.Cells.{result_cell}
use Rattle.word_semantics.specs.Library.{slot_in}
use Rattle.word_semantics.specs.Operators.{based}
use Rattle.word_semantics.specs.Pointers.{site_at, kind_in}
use Rattle.word_semantics.specs.declared.library_call.LibraryCall.TheVariants as call
use Rattle.flow_code.specs.Constants.{constants_fit}
use Rattle.flow_code.specs.declared.act.Act.TheVariants as act
use Rattle.flow_code.specs.declared.code.Code.{Code}
use Rattle.flow_code.specs.declared.thread.Phase.{Phase}
use Rattle.flow_code.specs.declared.thread.Phase.TheVariants as phase
use Rattle.flow_code.specs.declared.work.Work.TheVariants as work
use Rattle.flow_code.specs.Next.{act_at, stepped as thread_stepped}
use Rattle.flow_code.specs.Settle.{settled}
use Rattle.flow_code.specs.Threads.{Thread}
use Rattle.flow_code.specs.Valid.{is_valid}
use Rattle.flow_code.proofs.Counts.{quiet_keeps}
use Rattle.flow_code.proofs.Ranges.{arena_end_fits}
use Rattle.flow_code.proofs.Runnable.{valid_runnable}
use Rattle.flow_code.proofs.Settle.{settled_keeps}
use Rattle.core_run.specs.Words.{cells_of}
use Rattle.facts.specs.PointsTo.{place, element_of}
use Rattle.facts.specs.declared.constraint.Node.{Node}
use Rattle.facts.specs.declared.constraint.Node.TheVariants.{Register, Ended, Cells}
use Rattle.points_to_sound.specs.Objects.{Object, IsObject, HasCell, IsLeft}
use Rattle.points_to_sound.specs.Pointing.{act_of, IsGood, GoodThread, GoodResults}
use Rattle.points_to_sound.proofs.Acting.{Knows, Leaves}
use Rattle.points_to_sound.proofs.Laying.{lays_good}
use Rattle.points_to_sound.proofs.Layouts.{set_got, set_twice, arena_inside, AreLaid, all_laid}
use Rattle.points_to_sound.proofs.Storing.{Writes, to_cell, to_argument, to_result}
use Rattle.points_to_sound.proofs.ThreadSteps.{Arrives, quiet_good}

-- what is known of the code and the setup; and the address of a global is good where it is computed
pub record Sets (code : Code) (s : SetupView) : Type 0 where
  pub valid : is_valid code ≡ true
  pub constants : constants_fit code ≡ true
  pub limits : IsWithinLimits s
  pub addresses : (made : List Object) (f k into a : ℕ) → act_of code f k ≡ Some (act.Compute into (work.Address a)) → IsGood code s made (Register f into) (based s.slots a)

-- what is good stays good
abbrev pub Grows : Code → SetupView → List Object → List Object → Type 0
Grows code s made after = (n : Node) (w : ℕ) → IsGood code s made n w → IsGood code s after n w

-- a thread that has come to q, with the objects that it has laid since
pub record Settling (code : Code) (s : SetupView) (t : ℕ) (made : List Object) (words marks : List ℕ) (th q : Thread) : Type 0 where
  pub after : List Object
  pub grows : Grows code s made after
  pub laid : AreLaid code s after words (slice_set marks t q.arena)
  pub good : GoodThread code s after q

module _ (code : Code) (s : SetupView) (x : Sets code s) (t : ℕ) (lt : t < s.slots) (made : List Object) (marks : List ℕ) where
  pub knows : (words : List ℕ) (after : List Object) (marks2 : List ℕ) → Grows code s made after → GoodResults code s made words → AreLaid code s after words marks2 → Knows code s t after words
  knows words after marks2 grows results laid = record {
    valid = x.valid;
    constants = x.constants;
    low = arena_end_fits code s t (valid_runnable code x.valid) x.limits lt;
    sized = laid.laid.sized;
    cells = laid.cells;
    results = λ k w few at. grows Ended w (results k w few at);
    addresses = x.addresses after;
  }

  -- one step further, with what was good before it
  pub record Further (words : List ℕ) (th q p : Thread) (z : Settling code s t made words marks th q) : Type 0 where
    pub settling : Settling code s t made words marks th p
    pub later : Grows code s z.after settling.after

  pub settling_further : (words : List ℕ) (th q p : Thread) (mark : ℕ) → slice_get marks t ≡ Some mark → (z : Settling code s t made words marks th q) → Leaves code s t z.after q p → Further words th q p z
  settling_further words th q p mark is z l = record {
    settling = record {
      after = l.after;
      grows = λ n w g. lays_good code s t z.after q.arena l.after p.arena n w l.lays (z.grows n w g);
      laid = subst (AreLaid code s l.after words) (set_twice marks t q.arena p.arena) (all_laid code s t z.after q.arena l.after p.arena words (slice_set marks t q.arena) lt (slice_get-set_same marks t q.arena mark is) l.lays z.laid);
      good = l.good;
    };
    later = λ n w g. lays_good code s t z.after q.arena l.after p.arena n w l.lays g;
  }

  pub settling_more : (words : List ℕ) (th q p : Thread) (mark : ℕ) → slice_get marks t ≡ Some mark → (z : Settling code s t made words marks th q) → Leaves code s t z.after q p → Settling code s t made words marks th p
  settling_more words th q p mark is z l = (settling_further words th q p mark is z l).settling

  pub settling_none : (words : List ℕ) (th : Thread) → slice_get marks t ≡ Some th.arena → AreLaid code s made words marks → GoodThread code s made th → Settling code s t made words marks th th
  settling_none words th is laid good = record { after = made; grows = λ n w g. g; laid = subst (AreLaid code s made words) (sym (slice_set-get marks t th.arena is)) laid; good = good }

  -- the argument of a begun thread stays good
  arrives_grows : (words : List ℕ) (after : List Object) (p : Phase) → Grows code s made after → Arrives code s made words t p → Arrives code s after words t p
  arrives_grows words after (phase.Begun f) grows a = λ w some at. grows (Register f 0) w (a w some at)
  arrives_grows words after phase.Fresh grows a = tt
  arrives_grows words after (phase.Loaded f w) grows a = tt
  arrives_grows words after phase.Running grows a = tt
  arrives_grows words after phase.Ended grows a = tt
  arrives_grows words after phase.Halted grows a = tt
  arrives_grows words after (phase.Trapped kind line) grows a = tt
  arrives_grows words after phase.Stopped grows a = tt
  arrives_grows words after phase.Closed grows a = tt

  -- a thread after its quiet steps
  pub record Settled (words : List ℕ) (th q : Thread) : Type 0 where
    pub settling : Settling code s t made words marks th q
    pub phase : q.phase ≡ th.phase

  pub arrives_now : (words : List ℕ) (th q : Thread) (z : Settled words th q) → Arrives code s made words t th.phase → Arrives code s z.settling.after words t q.phase
  arrives_now words th q z a = subst (Arrives code s z.settling.after words t) (sym z.phase) (arrives_grows words z.settling.after th.phase z.settling.grows a)

  pub settled_good : (words : List ℕ) (th : Thread) → slice_get marks t ≡ Some th.arena → AreLaid code s made words marks → GoodResults code s made words → GoodThread code s made th → Arrives code s made words t th.phase → Settled words th (settled code s t th)
  settled_good words th is laid results good arrives =
      settled_keeps code s t (Settled words th)
      (λ q e z.
      let l = quiet_good code s t z.settling.after words (knows words z.settling.after (slice_set marks t q.arena) z.settling.grows results z.settling.laid) q z.settling.good (arrives_now words th q z arrives) e in
      record { settling = settling_more words th q (thread_stepped code s t q (pos 0)) th.arena is z.settling l; phase = (quiet_keeps code s t q (pos 0) e).phase ∙ z.phase })
      th (record { settling = settling_none words th is laid good; phase = refl })

-- ---- words that change

module _ (code : Code) (s : SetupView) (t : ℕ) (lt : t < s.slots) (made : List Object) (words marks : List ℕ) (l : AreLaid code s made words marks) where
  left_high : (c : ℕ) → IsLeft code s marks c → 2 * s.slots ≤ c
  left_high c h = let a = l.laid.arenas h.thread h.mark h.is in let f = h.from in omega arith

  pub object_high : (o : Object) (c : ℕ) → IsObject code s made o → HasCell o c → 2 * s.slots ≤ c
  object_high o c is h = (l.laid.inside o c is h).0

  -- a store
  module _ (th : Thread) (c w : ℕ) (writes : Writes code s t made th c w) (few : (f : ℕ) (arguments : List ℕ) (into : Option ℕ) → act_at code th.top ≡ Some (act.Library (call.Create f) arguments into) → th.top.made ≡ 1 → slot_in th.top.kept < s.slots) where
    -- a hand-off cell, or a cell of an object
    left_not : Writes code s t made th c w → IsLeft code s marks c → ⊥
    left_not (to_cell o offset is within at good) h = l.laid.unused o c is (record { from = omega arith; to = omega arith }) h
    left_not (to_argument f arguments into at made_one c_is good) h = let b = left_high c h in let k = few f arguments into at made_one in absurd (omega arith)
    left_not (to_result c_is good) h = let b = left_high c h in absurd (omega arith)

    same_offset : (o p : Object) (i j : ℕ) → o ≡ p → o.base + i ≡ p.base + j → i ≡ j
    same_offset o p i j e f = let b = ap (λ (q : Object). q.base) e in omega arith

    in_cell : Writes code s t made th c w → (o : Object) (offset : ℕ) → IsObject code s made o → offset < o.cells → kind_in (site_at code.sites o.site) offset ≡ Some kind.Pointer → o.base + offset ≡ c → IsGood code s made (Cells (place o.site (class_of (element_of code.sites o.site) offset))) w
    in_cell (to_cell p i is within at good) o offset h lo kinds e =
        let same : o ≡ p = l.laid.one o p c h is (record { from = omega arith; to = omega arith }) (record { from = omega arith; to = omega arith }) in
        let there : offset ≡ i = same_offset o p offset i same (e ∙ at) in
        let back = good (ap (λ (q : Object). kind_in (site_at code.sites q.site) i) (sym same) ∙ ap (kind_in (site_at code.sites o.site)) (sym there) ∙ kinds) in
        subst (λ j. IsGood code s made (Cells (place o.site (class_of (element_of code.sites o.site) j))) w) (sym there)
        (subst (λ (q : Object). IsGood code s made (Cells (place q.site (class_of (element_of code.sites q.site) i))) w) (sym same) back)
    in_cell (to_argument f arguments into at made_one c_is good) o offset h lo kinds e =
        let high = object_high o (o.base + offset) h (record { from = omega arith; to = omega arith }) in
        let k = few f arguments into at made_one in
        absurd (omega arith)
    in_cell (to_result c_is good) o offset h lo kinds e =
        let high = object_high o (o.base + offset) h (record { from = omega arith; to = omega arith }) in
        absurd (omega arith)

    in_result : Writes code s t made th c w → (k : ℕ) → k < s.slots → result_cell k ≡ c → IsGood code s made Ended w
    in_result (to_cell p i is within at good) k lk e = let high = object_high p c is (record { from = omega arith; to = omega arith }) in absurd (omega arith)
    in_result (to_argument f arguments into at made_one c_is good) k lk e = absurd (omega arith)
    in_result (to_result c_is good) k lk e = good

    pub stored_laid : AreLaid code s made (slice_set words c w) marks
    stored_laid = record {
      laid = record {
        sized = l.laid.sized;
        inside = l.laid.inside;
        one = l.laid.one;
        unused = l.laid.unused;
        fresh = λ d v h e. ⊎_elim (λ o. l.laid.fresh d v h o.1) (λ o. absurd (left_not writes (subst (IsLeft code s marks) o.0 h))) (set_got words c d w v e);
        arenas = l.laid.arenas;
      };
      cells = λ o offset v is lo kinds e. ⊎_elim (λ old. l.cells o offset v is lo kinds old.1) (λ new. subst (IsGood code s made (Cells (place o.site (class_of (element_of code.sites o.site) offset)))) new.1 (in_cell writes o offset is lo kinds new.0)) (set_got words c (o.base + offset) w v e);
    }

    pub stored_results : GoodResults code s made words → GoodResults code s made (slice_set words c w)
    stored_results g k v lk e = ⊎_elim (λ old. g k v lk old.1) (λ new. subst (IsGood code s made Ended) new.1 (in_result writes k lk new.0)) (set_got words c (result_cell k) w v e)

  -- other words change
  module _ (after : List ℕ) (same : (c : ℕ) → c < cells_of code s → slice_get after c ≡ slice_get words c) (within : (k mark : ℕ) → slice_get marks k ≡ Some mark → k < s.slots) where
    pub same_laid : AreLaid code s made after marks
    same_laid = record {
      laid = record {
        sized = l.laid.sized;
        inside = l.laid.inside;
        one = l.laid.one;
        unused = l.laid.unused;
        fresh = λ c v h e. let to = h.to in let k = within h.thread h.mark h.is in l.laid.fresh c v h (sym (same c (arena_inside s.slots (2 * s.slots + length code.globals) s.cells h.thread c k (omega arith))) ∙ e);
        arenas = l.laid.arenas;
      };
      cells = λ o offset v is lo kinds e. l.cells o offset v is lo kinds (sym (same (o.base + offset) (l.laid.inside o (o.base + offset) is (record { from = omega arith; to = omega arith })).1) ∙ e);
    }

    pub same_results : GoodResults code s made words → GoodResults code s made after
    same_results g k v lk e = g k v lk (sym (same (result_cell k) (omega arith)) ∙ e)
