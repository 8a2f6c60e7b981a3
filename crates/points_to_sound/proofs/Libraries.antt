-- Calls of the library, takes and gives leave a thread's frames good.
use Rattle.std.proofs.Common.{◌≡◌, ℕ, zero, suc, ◌+◌, ◌<◌, ◌&&◌, ◌==◌, nat_le, nat_lt, not, Bool, true, false, if◌then◌else◌, List, [], ◌∷◌, length, length-set, Option, Some, None, Result, Ok, Err, refl, sym, ap, subst, ◌∙◌, ℤ, pos, negsuc, arith}
use Rattle.std.specs.Prelude.{slice_get, slice_set}
use Rattle.std.proofs.lemmas.Bool.{true≢false, ltb-true}
use Rattle.rr_base.specs.declared.trap.Trap.{Trap}
use Rattle.rr_base.specs.declared.trap.Trap.TheVariants as trap
use Rattle.rr_base.specs.declared.layout.CellKind.TheVariants as kind
use Rattle.sync_objects.specs.Setup.{SetupView}
use Rattle.sync_objects.specs.declared.object.ObjId.TheVariants as object
use Rattle.sync_objects.specs.declared.operation.Op.TheVariants as op
use Rattle.word_semantics.specs.Cells.{result_cell}
use Rattle.word_semantics.specs.Library.{Caller, argument, slot_in, is_misuse, is_joinable, join_thread_due, at_cell, cell_of, join_due, library_due, join_onward, library_onward, piece_of}
use Rattle.word_semantics.specs.Registers.{words_of}
use Rattle.word_semantics.specs.Values.{number, word}
use Rattle.word_semantics.specs.declared.event.Due.{Due}
use Rattle.word_semantics.specs.declared.event.Due.TheVariants as due
use Rattle.word_semantics.specs.declared.event.Onward.{Onward}
use Rattle.word_semantics.specs.declared.event.Onward.TheVariants as onward
use Rattle.word_semantics.specs.declared.library_call.LibraryCall.{LibraryCall}
use Rattle.word_semantics.specs.declared.library_call.LibraryCall.TheVariants as call
use Rattle.flow_code.specs.declared.act.Act.{Act}
use Rattle.flow_code.specs.declared.act.Act.TheVariants as act
use Rattle.flow_code.specs.declared.code.Code.{Code}
use Rattle.flow_code.specs.declared.code.Function.{Function}
use Rattle.flow_code.specs.declared.region.Region.{Region}
use Rattle.flow_code.specs.declared.thread.Phase.TheVariants as phase
use Rattle.flow_code.specs.declared.thread.Stripe.{Stripe}
use Rattle.flow_code.specs.Holding.{taken, gives_at, parting, parting_due, left_of, keeping, left_after}
use Rattle.flow_code.specs.Kinds.{have_kinds, library_value_fits, library_fits, starts_fit}
use Rattle.word_semantics.specs.Kinds.{library_kinds}
use Rattle.flow_code.specs.Next.{past, act_at, in_frame, pointers_in, resumed, caller, call_after, on_unless}
use Rattle.flow_code.specs.Threads.{Thread}
use Rattle.flow_code.specs.Works.{is_pointer}
use Rattle.flow_code.proofs.ValidParts.{left, right}
use Rattle.facts.specs.Blocks.{constant_of}
use Rattle.facts.specs.declared.constraint.Node.TheVariants.{Ended}
use Rattle.points_to_sound.specs.Objects.{Object}
use Rattle.points_to_sound.specs.Pointing.{IsGood, joined, GoodKept, GoodRunning, GoodPhase}
use Rattle.points_to_sound.proofs.Acting.{Answers, Knows, Leaves, leaves_same, next_is, in_place, passed_good, after_good}
use Rattle.points_to_sound.proofs.Classes.{word_number}
use Rattle.points_to_sound.proofs.Finding.{Stands, stands}
use Rattle.points_to_sound.proofs.Fitting.{stands_fit, whole_is}
use Rattle.points_to_sound.proofs.Frames.{same_thread}
use Rattle.points_to_sound.proofs.Laying.{Lays}
use Rattle.points_to_sound.proofs.Reaching.{good_fits}
use Rattle.points_to_sound.proofs.Registers.{good_set}

-- ---- values

-- the register that gets a library call's value isn't a pointer
value_whole : (f : Function) (into : Option ℕ) (c : LibraryCall) (r : ℕ) → library_value_fits f into c ≡ true → into ≡ Some r → is_pointer f.pointers r ≡ false
value_whole f into c r h e = by c (subst (λ i. library_value_fits f i c ≡ true) e h)
  where
    by : (c : LibraryCall) → library_value_fits f (Some r) c ≡ true → is_pointer f.pointers r ≡ false
    by call.Exit h = cc
    by call.Free h = cc
    by _ h = whole_is f r h

-- ---- joins

joinable_slot : (w : Caller) (n : ℤ) → is_joinable w n ≡ true → slot_in n < w.setup.slots
joinable_slot w (negsuc n) h = cc
joinable_slot w (pos n) h = by (nat_lt n 16)
  where
    lt : n < w.setup.slots
    lt = ltb-true n w.setup.slots (right (nat_le 1 n) (nat_lt n w.setup.slots) (left (nat_le 1 n && nat_lt n w.setup.slots) (not (n == w.thread)) h))

    by : (b : Bool) → (if b then n else 0) < w.setup.slots
    by true = lt
    by false = let h = lt in omega arith

module _ (code : Code) (s : SetupView) (t : ℕ) (made : List Object) (words : List ℕ) (x : Knows code s t made words) where
  thread_slot : (w : Caller) (n : ℤ) (answer : ℤ) → Answers code words (join_thread_due w n) answer → slot_in n < w.setup.slots
  thread_slot w n answer h = by (is_joinable w n) refl h
    where
      by : (b : Bool) → is_joinable w n ≡ b → Answers code words (if b then due.Operate op.Join (object.Slot (slot_in n)) else due.Trap trap.BadThread) answer → slot_in n < w.setup.slots
      by true e h = joinable_slot w n e
      by false e h = absurd h

  first_slot : (w : Caller) (ws : List ℕ) (answer : ℤ) (b : Bool) (r : Result ℕ Trap) → Answers code words (if b then join_thread_due w (number (argument ws 0)) else at_cell r (λ c. join_thread_due w (number (argument ws 0)))) answer → slot_in (number (argument ws 0)) < w.setup.slots
  first_slot w ws answer true r h = thread_slot w (number (argument ws 0)) answer h
  first_slot w ws answer false (Ok c) h = thread_slot w (number (argument ws 0)) answer h
  first_slot w ws answer false (Err e) h = absurd h

  loaded_result : (misuse : Bool) (k : ℕ) (answer : ℤ) → k < s.slots → Answers code words (if misuse then due.Trap trap.BadThread else due.Load (result_cell k)) answer → IsGood code s made Ended (word answer)
  loaded_result true k answer lt h = absurd h
  loaded_result false k answer lt (w, at, answered) =
      let good = x.results k w lt at in
      subst (IsGood code s made Ended) (sym (ap word answered ∙ word_number w (good_fits code s made x.valid x.sized Ended w good))) good

  same_stays : (k n : ℤ) → onward.Stays k ≡ onward.Stays n → k ≡ n
  same_stays k n e = cc

  join_kept : (w : Caller) (registers arguments : List ℕ) (into : Option ℕ) (asked : Bool) (n : ℕ) (kept answer k : ℤ) → w.setup ≡ s → GoodKept code s made registers (Some (act.Library call.Join arguments into)) n kept → Answers code words (join_due w (words_of registers arguments) n kept) answer → join_onward asked n answer ≡ onward.Stays k → GoodKept code s made registers (Some (act.Library call.Join arguments into)) (suc n) k
  join_kept w registers arguments into asked zero kept answer k setup g h e =
      let ws = words_of registers arguments in
      subst (λ (v : SetupView). joined registers arguments < v.slots) setup (first_slot w ws answer (argument ws 1 == 0) (cell_of w ws 1 kind.Pointer) h)
  join_kept w registers arguments into asked (suc zero) kept answer k setup g h e =
      subst (λ z. IsGood code s made Ended (word z)) (same_stays answer k e) (loaded_result (is_misuse kept) (joined registers arguments) answer g h)
  join_kept w registers arguments into asked (suc (suc n)) kept answer k setup g h e = cc

  -- what a call keeps as it goes on
  call_kept : (w : Caller) (c : LibraryCall) (registers arguments : List ℕ) (into : Option ℕ) (n : ℕ) (kept answer k : ℤ) → w.setup ≡ s → GoodKept code s made registers (Some (act.Library c arguments into)) n kept → Answers code words (library_due w c (words_of registers arguments) n kept) answer → library_onward w c (words_of registers arguments) n kept answer ≡ onward.Stays k → GoodKept code s made registers (Some (act.Library c arguments into)) (suc n) k
  call_kept w call.Join registers arguments into n kept answer k setup g h e = join_kept w registers arguments into (not (argument (words_of registers arguments) 1 == 0)) n kept answer k setup g h e
  call_kept w _ registers arguments into n kept answer k setup g h e = tt

  -- ---- a call goes on

  module _ (th : Thread) (runs : th.phase ≡ phase.Running) (g : GoodRunning code s made th) where
    went_good : (c : LibraryCall) (arguments : List ℕ) (into : Option ℕ) (o : Onward) → act_at code th.top ≡ Some (act.Library c arguments into) → ((k : ℤ) → o ≡ onward.Stays k → GoodKept code s made th.top.registers (Some (act.Library c arguments into)) (suc th.top.made) k) → Leaves code s t made th (resumed th into o)
    went_good c arguments into (onward.Stays k) at kept =
        in_place code s t made words x th runs g th.top.instr (th.top.made + 1) k th.top.registers g.frames.0
        (record { all = g.constants.all; constants = g.constants.constants })
        (subst (λ o. GoodKept code s made th.top.registers o (th.top.made + 1) k) (sym at) (subst (λ n. GoodKept code s made th.top.registers (Some (act.Library c arguments into)) n k) (sym (next_is th.top.made)) (kept k refl)))
    went_good c arguments None (onward.Gives w) at kept = after_good code s t made words x th runs g (act.Library c arguments None) th.top.registers at refl refl g.frames.0
    went_good c arguments (Some r) (onward.Gives w) at kept =
        after_good code s t made words x th runs g (act.Library c arguments (Some r)) (slice_set th.top.registers r w) at refl (length-set th.top.registers r w)
        (good_set code s made th.top.function th.top.registers r w (λ p. absurd (true≢false (sym p ∙ whole))) g.frames.0)
      where
        y : Stands code th.top.function th.top.instr (act.Library c arguments (Some r))
        y = stands code th.top.function th.top.instr (act.Library c arguments (Some r)) at

        fit : library_fits code y.function c arguments (Some r) ≡ true
        fit = stands_fit code x.valid th.top.function th.top.instr (act.Library c arguments (Some r)) y

        whole : is_pointer (pointers_in (slice_get code.functions th.top.function)) r ≡ false
        whole = ap (λ o. is_pointer (pointers_in o) r) y.is_function ∙ value_whole y.function (Some r) c r (right (starts_fit code c && have_kinds y.function arguments (library_kinds c)) (library_value_fits y.function (Some r) c) fit) refl
    went_good c arguments into onward.Ends at kept = leaves_same code s t made th (resumed th into onward.Ends) refl tt

  module _ (th : Thread) (runs : th.phase ≡ phase.Running) (g : GoodRunning code s made th) where
    -- the same thread in its frames, where nothing but other parts has changed
    pub beside_good : (q : Thread) → q.top ≡ th.top → q.below ≡ th.below → q.phase ≡ th.phase → q.arena ≡ th.arena → Leaves code s t made th q
    beside_good q e b p a = leaves_same code s t made th q a (same_thread code s made th q e b p (subst (GoodPhase code s made th) (sym runs) g))

    called_good : (c : LibraryCall) (arguments : List ℕ) (into : Option ℕ) (answer : ℤ) → act_at code th.top ≡ Some (act.Library c arguments into) → Answers code words (library_due (caller code s t th) c (words_of th.top.registers arguments) th.top.made th.top.kept) answer → Leaves code s t made th (call_after code s t th c arguments into answer)
    called_good c arguments into answer at h =
        let q = record th { printed = th.printed + length (piece_of c (words_of th.top.registers arguments)) } in
        let l = went_good q runs (record { frames = g.frames; constants = g.constants; kept = g.kept }) c arguments into (library_onward (caller code s t th) c (words_of th.top.registers arguments) th.top.made th.top.kept answer) at
        (λ k e. call_kept (caller code s t th) c th.top.registers arguments into th.top.made th.top.kept answer k refl (subst (λ o. GoodKept code s made th.top.registers o th.top.made th.top.kept) at g.kept) h e) in
        record { after = l.after; lays = l.lays; good = l.good }

    parted_good : (xs : List Stripe) (d : Due) (q : Thread) (answer : ℤ) → (Answers code words d answer → Leaves code s t made th q) → Answers code words (parting_due xs d) answer → Leaves code s t made th (left_after th xs q)
    parted_good [] d q answer f h = f h
    parted_good (y ∷ ys) d q answer f h = beside_good (keeping th (left_of (y ∷ ys))) refl refl refl refl

    pub library_good : (c : LibraryCall) (arguments : List ℕ) (into : Option ℕ) (answer : ℤ) → act_at code th.top ≡ Some (act.Library c arguments into) → Answers code words (parting_due (parting c th.top.made th.stripes) (library_due (caller code s t th) c (words_of th.top.registers arguments) th.top.made th.top.kept)) answer → Leaves code s t made th (left_after th (parting c th.top.made th.stripes) (call_after code s t th c arguments into answer))
    library_good c arguments into answer at h =
        parted_good (parting c th.top.made th.stripes) (library_due (caller code s t th) c (words_of th.top.registers arguments) th.top.made th.top.kept) (call_after code s t th c arguments into answer) answer
        (λ a. called_good c arguments into answer at a) h

    -- ---- takes and gives

    next_good : (q : Thread) (a : Act) → act_at code th.top ≡ Some a → constant_of (Some a) ≡ None → q.top ≡ th.top → q.below ≡ th.below → q.phase ≡ th.phase → q.arena ≡ th.arena → Leaves code s t made th (in_frame q (past q.top))
    next_good q a at none e b p ar =
        let l = passed_good code s t made words x q (p ∙ runs) (subst (GoodPhase code s made q) (p ∙ runs) (same_thread code s made th q e b p (subst (GoodPhase code s made th) (sym runs) g))) a (subst (λ f. act_at code f ≡ Some a) (sym e) at) none in
        record { after = l.after; lays = subst (λ n. Lays code s t made n l.after q.arena) ar l.lays; good = l.good }

    pub take_good : (k : ℕ) (r : Option Region) (next : Option ℕ) → act_at code th.top ≡ Some (act.Take k) → Leaves code s t made th (on_unless next (taken code th r next))
    take_good k None None at = next_good th (act.Take k) at refl refl refl refl refl
    take_good k (Some r) None at = next_good (taken code th (Some r) None) (act.Take k) at refl refl refl refl refl
    take_good k None (Some n) at = beside_good th refl refl refl refl
    take_good k (Some r) (Some n) at = beside_good (taken code th (Some r) (Some n)) refl refl refl refl

    pub give_good : (k : ℕ) (place : Option ℕ) (next : Option (ℕ × ℕ)) → act_at code th.top ≡ Some (act.Give k) → Leaves code s t made th (on_unless next (gives_at th place next))
    give_good k None None at = next_good th (act.Give k) at refl refl refl refl refl
    give_good k (Some i) None at = next_good (gives_at th (Some i) None) (act.Give k) at refl refl refl refl refl
    give_good k None (Some n) at = beside_good th refl refl refl refl
    give_good k (Some i) (Some n) at = beside_good (gives_at th (Some i) (Some n)) refl refl refl refl
