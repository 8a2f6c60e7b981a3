-- A call of the library makes its events.
use Rattle.std.proofs.Common.{◌≡◌, ℕ, zero, suc, ◌+◌, ◌≤◌, ◌<◌, ◌≢◌, ◌⊎◌, inl, inr, Bool, true, false, not, cond, nat_le, ◌&&◌, ◌||◌, ℤ, pos, List, [], length, Option, Some, None, slice_get, Ok, refl, sym, ◌∙◌, ap, subst, arith}
use Rattle.std.proofs.lemmas.List.{length-set}
use Rattle.sync_objects.specs.Setup.{SetupView}
use Rattle.sync_objects.specs.Names.{name_of, is_ending, is_weak}
use Rattle.sync_objects.specs.declared.object.ObjId.{ObjId}
use Rattle.sync_objects.specs.declared.object.ObjId.TheVariants as object_id
use Rattle.sync_objects.specs.declared.operation.Op.{Op}
use Rattle.sync_objects.specs.declared.operation.Op.TheVariants as op
use Rattle.rr_base.specs.declared.trap.Trap.TheVariants as trap
use Rattle.flow_code.specs.declared.act.Act.{Act}
use Rattle.flow_code.specs.declared.act.Act.TheVariants as act
use Rattle.word_semantics.specs.declared.library_call.LibraryCall.{LibraryCall}
use Rattle.word_semantics.specs.declared.library_call.LibraryCall.TheVariants as call
use Rattle.flow_code.specs.declared.work.Work.TheVariants as work
use Rattle.flow_code.specs.declared.code.Code.{Code}
use Rattle.flow_code.specs.declared.thread.Phase.TheVariants as phase
use Rattle.word_semantics.specs.declared.event.Due.{Due}
use Rattle.word_semantics.specs.declared.event.Due.TheVariants as due
use Rattle.word_semantics.specs.declared.event.Action.TheVariants as action
use Rattle.word_semantics.specs.declared.event.Onward.{Onward}
use Rattle.word_semantics.specs.declared.event.Onward.TheVariants as onward
use Rattle.word_semantics.specs.Registers.{register}
use Rattle.word_semantics.specs.Library.{Caller, argument, printed_piece, most_printed, library_due, library_onward, piece_of}
use Rattle.flow_code.specs.Threads.{Frame, Thread, line_of, line_in, instr_at}
use Rattle.word_semantics.specs.Cells.{result_cell}
use Rattle.flow_code.specs.declared.thread.Stripe.{Stripe}
use Rattle.flow_code.specs.Holding.{parting, parting_due, left_after}
use Rattle.flow_code.specs.Next.{act_in, act_at, act_due, act_after, due_of, action_of, stepped, limited, listed, owing, first_owed, phase_due, phase_after, after_due, one_more, resumed, call_after, caller, past}
use Rattle.word_semantics.specs.Limits.{most_entries, is_free_of_limit}
use Rattle.word_semantics.specs.Registers.{words_of}
use Rattle.rr_base.specs.declared.position.Position.{Position}
use Rattle.core_tree.specs.Core.{Function, Program}
use Rattle.core_tree.specs.Runs.{Run, does, traps, ends, State, is_free}
use Rattle.core_tree.specs.Meaning as meaning
use Rattle.flow_lower.specs.Lowered.{instr, library_size, library_code, lowered, function_kinds, body_code}
use Rattle.lower_sound.specs.Follows.{Prints, Follows, here}
use Rattle.lower_sound.proofs.Machine.{Shows, instr_of, same_register, other_register, goes_quietly, by_quiet, quiet_passes, trap_passes}
use Rattle.lower_sound.proofs.Places.{HasAt}
use Rattle.lower_sound.proofs.Events as events
use Rattle.lower_sound.proofs.Events.{sets, by_compute, plain_by, action_is, load_passes, store_passes, mark_passes}
use Rattle.lower_sound.proofs.Arriving.{puts}
use Rattle.lower_sound.proofs.Calls.{IsPlain, IsNotExit, plain_due, IsTrap, IsOver, ends_by_four}

-- ---- operations

or_left : (a b : Bool) → (a || b) ≡ false → a ≡ false
or_left true b e = e
or_left false b e = refl

or_right : (a b : Bool) → (a || b) ≡ false → b ≡ false
or_right true b e = absurd (true_is_not e)
  where
    true_is_not : true ≡ false → ⊥
    true_is_not e = cc
or_right false b e = e

-- one entry more
abbrev pub one_entry : Thread → Thread
one_entry m = record m { count = m.count + 1; entries = m.entries + 1 }

-- an operation that is neither one with which a thread ends nor one on a stripe
after_operation : (code : Code) (s : SetupView) (t : ℕ) (m : Thread) (o : Op) (obj : ObjId) (answer : ℤ) → is_free_of_limit o ≡ false → after_due code s t m (due.Operate o obj) answer ≡ one_entry (phase_after code s t m m.phase answer)
after_operation code s t m op.Lock obj answer e = refl
after_operation code s t m op.TryLock obj answer e = refl
after_operation code s t m op.Unlock obj answer e = refl
after_operation code s t m op.MutexInit obj answer e = refl
after_operation code s t m op.CondEnter obj answer e = refl
after_operation code s t m (op.CondWake x) obj answer e = refl
after_operation code s t m op.Signal obj answer e = refl
after_operation code s t m (op.BarrierInit x) obj answer e = refl
after_operation code s t m op.Arrive obj answer e = refl
after_operation code s t m (op.Pass x) obj answer e = refl
after_operation code s t m op.RdLock obj answer e = refl
after_operation code s t m op.WrLock obj answer e = refl
after_operation code s t m op.RwUnlock obj answer e = refl
after_operation code s t m op.RwInit obj answer e = refl
after_operation code s t m op.Take obj answer e = absurd cc
after_operation code s t m op.Retake obj answer e = absurd cc
after_operation code s t m op.Give obj answer e = absurd cc
after_operation code s t m op.Revoke obj answer e = absurd cc
after_operation code s t m (op.Draw x) obj answer e = refl
after_operation code s t m (op.Start x) obj answer e = refl
after_operation code s t m op.Begin obj answer e = refl
after_operation code s t m op.End obj answer e = absurd cc
after_operation code s t m op.Join obj answer e = refl
after_operation code s t m op.Close obj answer e = absurd cc
after_operation code s t m op.Leave obj answer e = absurd cc
after_operation code s t m op.HaltAll obj answer e = absurd cc
after_operation code s t m op.TrapHere obj answer e = absurd cc
after_operation code s t m op.Stop obj answer e = absurd cc
after_operation code s t m (op.GetChar x) obj answer e = refl
after_operation code s t m op.Print obj answer e = refl

-- a thread without stripes gives none before a call
parting_empty : (c : LibraryCall) (made : ℕ) (xs : List Stripe) → xs ≡ [] → parting c made xs ≡ []
parting_empty call.Exit zero xs e = e
parting_empty call.Exit (suc n) xs e = refl
parting_empty _ made xs e = refl

-- a print is an operation of a call that prints a piece, and any other operation of one that prints none
abbrev HasPiece : Op → List ℕ → Type 0
HasPiece op.Print piece = Unit {0}
HasPiece o piece = piece ≡ []

print_has : (b : Bool) (piece : List ℕ) (o : Op) (obj : ObjId) → cond b (due.Operate op.Print object_id.Output) (due.Trap trap.Limit) ≡ due.Operate o obj → HasPiece o piece
print_has true piece o obj e = let same : op.Print ≡ o = cc in subst (λ x. HasPiece x piece) same tt
print_has false piece o obj e = cc

none_has : (o : Op) → HasPiece o []
none_has op.Print = tt
none_has o = refl

operates_piece : (w : Caller) (c : LibraryCall) (ws : List ℕ) (made : ℕ) (kept : ℤ) (o : Op) (obj : ObjId) → library_due w c ws made kept ≡ due.Operate o obj → HasPiece o (piece_of c ws)
operates_piece w (call.Print format) ws made kept o obj e = print_has (nat_le (w.printed + length (printed_piece format ws)) most_printed) (printed_piece format ws) o obj e
operates_piece w call.PutChar ws made kept o obj e = print_has (nat_le (w.printed + 1) most_printed) (piece_of call.PutChar ws) o obj e
operates_piece w c ws made kept o obj e = none_has o

prints_piece : (code : Code) (n : Thread) (c : LibraryCall) (args : List ℕ) (into : Option ℕ) (ws : List ℕ) (o : Op) (obj : ObjId) → n.phase ≡ phase.Running → act_at code n.top ≡ Some (act.Library c args into) → words_of n.top.registers args ≡ ws → HasPiece o (piece_of c ws) → Prints code n (action.Operate o obj) (piece_of c ws)
prints_piece code n c args into ws op.Print obj runs stands are h = (runs, c, args, into, stands, ap (piece_of c) (sym are))
prints_piece code n c args into ws o obj runs stands are h = h

-- an operation with which a thread ends
abbrev IsEndOrLeave : Op → Type 0
IsEndOrLeave op.End = Unit {0}
IsEndOrLeave op.Leave = Unit {0}
IsEndOrLeave _ = ⊥

module _ (p : Program) (s : SetupView) (t : ℕ) (i : ℕ) (f : Function) (is : slice_get p.functions i ≡ Some f) (callers : List Frame) (budget : ℕ) where
  -- n is in the call to which m has come, after so many of its events
  record InCall (m n : Thread) (σ : State) (made : ℕ) (kept : ℤ) : Type 0 where
    frame : n.top ≡ record m.top { made = made; kept = kept }
    function : m.top.function ≡ i
    phase : n.phase ≡ phase.Running
    below : n.below ≡ callers
    stripes : n.stripes ≡ []
    size : length m.top.registers ≡ length (function_kinds f)
    registers : (q : ℕ) → q < length f.pointers → register m.top.registers q ≡ σ.registers q
    objects : (k : ℕ) → k < length f.objects → register m.top.registers (length f.pointers + k) ≡ σ.objects k
    count : n.count ≡ σ.count
    arena : n.arena ≡ σ.arena
    printed : n.printed ≡ σ.printed
    depth : σ.depth ≡ length callers + 1
    enough : s.limit ≤ n.count + budget
    later : m.count ≤ n.count

  same_frame : (x : Frame) → x.made ≡ 0 → x.kept ≡ pos 0 → x ≡ record x { made = 0; kept = pos 0 }
  same_frame x e d = ap (λ z. record x { made = z }) e ∙ ap (λ z. record x { made = 0; kept = z }) d

  begins : (m : Thread) (σ : State) → Shows p s t i f is callers budget m σ → InCall m m σ 0 (pos 0)
  begins m σ h = record {
    frame = same_frame m.top h.made h.kept;
    function = h.function;
    phase = h.phase;
    below = h.below;
    stripes = h.stripes;
    size = h.size;
    registers = h.registers;
    objects = h.objects;
    count = h.count;
    arena = h.arena;
    printed = h.printed;
    depth = h.depth;
    enough = h.enough;
    later = omega arith;
  }

  module _ (m : Thread) (at : Position) (c : LibraryCall) (args : List ℕ) (into : Option ℕ) (ws : List ℕ) (stands : instr_at (lowered p) m.top ≡ Some (instr at (act.Library c args into))) (are : words_of m.top.registers args ≡ ws) where
    lib : Act
    lib = act.Library c args into

    here_act : (n : Thread) (σ : State) (made : ℕ) (kept : ℤ) → InCall m n σ made kept → act_at (lowered p) n.top ≡ Some (act.Library c args into)
    here_act n σ made kept h = ap (λ x. act_at (lowered p) x) h.frame ∙ ap act_in stands

    here_line : (n : Thread) (σ : State) (made : ℕ) (kept : ℤ) → InCall m n σ made kept → line_of (lowered p) n.phase n.top ≡ at.line
    here_line n σ made kept h = ap (λ x. line_of (lowered p) x n.top) h.phase ∙ ap (λ x. line_in (instr_at (lowered p) x)) h.frame ∙ ap line_in stands

    -- what is due by the table
    abbrev due_now : State → ℕ → ℤ → Due
    due_now σ made kept = library_due (meaning.caller p s t σ) c ws made kept

    same_due : (n : Thread) (σ : State) (made : ℕ) (kept : ℤ) → InCall m n σ made kept → act_due (lowered p) s t n (Some (act.Library c args into)) ≡ due_now σ made kept
    same_due n σ made kept h =
        ap (λ x. parting_due x (library_due (caller (lowered p) s t n) c (words_of n.top.registers args) n.top.made n.top.kept)) (parting_empty c n.top.made n.stripes h.stripes)
        ∙ ap (λ x. library_due (caller (lowered p) s t n) c (words_of x.registers args) x.made x.kept) h.frame
        ∙ ap (λ x. library_due (caller (lowered p) s t n) c x made kept) are
        ∙ ap (λ x. library_due (record { sites = p.sites; setup = s; thread = t; printed = x }) c ws made kept) h.printed

    all_due : (n : Thread) (σ : State) (made : ℕ) (kept : ℤ) → InCall m n σ made kept → due_of (lowered p) s t n ≡ listed (nat_le most_entries n.entries) (owing None (limited (nat_le s.limit n.count) (due_now σ made kept)))
    all_due n σ made kept h =
        ap (λ x. listed (nat_le most_entries n.entries) (owing (first_owed x) (limited (nat_le s.limit n.count) (phase_due (lowered p) s t n n.phase)))) h.stripes
        ∙ ap (λ x. listed (nat_le most_entries n.entries) (owing None (limited (nat_le s.limit n.count) (phase_due (lowered p) s t n x)))) h.phase
        ∙ ap (λ x. listed (nat_le most_entries n.entries) (owing None (limited (nat_le s.limit n.count) (act_due (lowered p) s t n x)))) (here_act n σ made kept h)
        ∙ ap (λ x. listed (nat_le most_entries n.entries) (owing None (limited (nat_le s.limit n.count) x))) (same_due n σ made kept h)

    -- the thread after what is due
    abbrev goes_on : Thread → State → ℕ → ℤ → ℤ → Thread
    goes_on n σ made kept answer = resumed (record n { printed = n.printed + length (piece_of c ws) }) into (library_onward (meaning.caller p s t σ) c ws made kept answer)

    same_onward : (n : Thread) (σ : State) (made : ℕ) (kept answer : ℤ) → InCall m n σ made kept → phase_after (lowered p) s t n n.phase answer ≡ goes_on n σ made kept answer
    same_onward n σ made kept answer h =
        ap (λ x. phase_after (lowered p) s t n x answer) h.phase
        ∙ ap (λ x. act_after (lowered p) s t n x answer) (here_act n σ made kept h)
        ∙ ap (λ x. left_after n x (call_after (lowered p) s t n c args into answer)) (parting_empty c n.top.made n.stripes h.stripes)
        ∙ ap (λ x. resumed (record n { printed = n.printed + length (piece_of c (words_of x.registers args)) }) into (library_onward (caller (lowered p) s t n) c (words_of x.registers args) x.made x.kept answer)) h.frame
        ∙ ap (λ x. resumed (record n { printed = n.printed + length (piece_of c x) }) into (library_onward (caller (lowered p) s t n) c x made kept answer)) are
        ∙ ap (λ x. resumed (record n { printed = n.printed + length (piece_of c ws) }) into (library_onward (record { sites = p.sites; setup = s; thread = t; printed = x }) c ws made kept answer)) h.printed

    -- ---- where an answer leads to

    abbrev bytes : ℕ
    bytes = length (piece_of c ws)

    -- the thread after an event, with its count and the length of its list of entries
    abbrev landed : Thread → Onward → (count entries : ℕ) → Thread
    landed n o count entries = record (resumed (record n { printed = n.printed + bytes }) into o) { count = count; entries = entries }

    quiet_lands : (n : Thread) (o : Onward) → resumed (record n { printed = n.printed + bytes }) into o ≡ landed n o n.count n.entries
    quiet_lands n (onward.Stays kept) = refl
    quiet_lands n (onward.Gives w) = refl
    quiet_lands n onward.Ends = refl

    more_lands : (n : Thread) (o : Onward) → one_more (resumed (record n { printed = n.printed + bytes }) into o) ≡ landed n o (n.count + 1) n.entries
    more_lands n (onward.Stays kept) = refl
    more_lands n (onward.Gives w) = refl
    more_lands n onward.Ends = refl

    entry_lands : (n : Thread) (o : Onward) → one_entry (resumed (record n { printed = n.printed + bytes }) into o) ≡ landed n o (n.count + 1) (n.entries + 1)
    entry_lands n (onward.Stays kept) = refl
    entry_lands n (onward.Gives w) = refl
    entry_lands n onward.Ends = refl

    -- the state after it
    abbrev state_after : State → ℕ → State
    state_after σ count = record σ { count = count; printed = σ.printed + bytes }

    -- where the value comes, if it is asked for in the register r
    abbrev Goes : ℕ → (ℕ → State → Run) → Type 0
    Goes r k = (n : Thread) (v : ℕ) (σ' : State) → n.top.instr ≡ m.top.instr + 1 → Shows p s t i f is callers budget n σ' → register n.top.registers r ≡ v
        → ((q : ℕ) → q ≢ r → register n.top.registers q ≡ register m.top.registers q) → m.count ≤ n.count → Follows (lowered p) s t (k v σ') n

    stays_in : (n : Thread) (σ : State) (made : ℕ) (kept kept' : ℤ) (count entries : ℕ) → InCall m n σ made kept → n.count ≤ count → InCall m (landed n (onward.Stays kept') count entries) (state_after σ count) (made + 1) kept'
    stays_in n σ made kept kept' count entries h le = record {
      frame = ap (λ (x : Frame). record x { made = x.made + 1; kept = kept' }) h.frame;
      function = h.function;
      phase = h.phase;
      below = h.below;
      stripes = h.stripes;
      size = h.size;
      registers = h.registers;
      objects = h.objects;
      count = refl;
      arena = h.arena;
      printed = ap (λ x. x + bytes) h.printed;
      depth = h.depth;
      enough = omega (arith, h.enough, le);
      later = omega (arith, h.later, le);
    }

    ended_due : (n : Thread) → n.phase ≡ phase.Ended → n.stripes ≡ [] → due_of (lowered p) s t n ≡ due.Nothing
    ended_due n e d =
        ap (λ x. listed (nat_le most_entries n.entries) (owing (first_owed x) (limited (nat_le s.limit n.count) (phase_due (lowered p) s t n n.phase)))) d
        ∙ ap (λ x. listed (nat_le most_entries n.entries) (owing None (limited (nat_le s.limit n.count) (phase_due (lowered p) s t n x)))) e
        ∙ nothing_passes (nat_le most_entries n.entries) (nat_le s.limit n.count)
      where
        nothing_passes : (l b : Bool) → listed l (owing None (limited b due.Nothing)) ≡ due.Nothing
        nothing_passes true true = refl
        nothing_passes true false = refl
        nothing_passes false true = refl
        nothing_passes false false = refl

    -- ---- what is due

    -- a load, a store or a Mark
    plain_event : (n : Thread) (σ : State) (made : ℕ) (kept : ℤ) (d : Due) (more : ℤ → Run) → InCall m n σ made kept → due_now σ made kept ≡ d → ((l b : Bool) → listed l (limited b d) ≡ cond b (due.Trap trap.Limit) d) → is_free (action_of d) ≡ false → Prints (lowered p) n (action_of d) []
        → (n.count < s.limit → due_of (lowered p) s t n ≡ d → (answer : ℤ) → Follows (lowered p) s t (more answer) (stepped (lowered p) s t n answer))
        → Follows (lowered p) s t (cond (nat_le s.limit σ.count && not (is_free (action_of d))) (traps trap.Limit at.line) (does (action_of d) [] more)) n
    plain_event n σ made kept d more h is_d passes free none next =
        let all = all_due n σ made kept h ∙ ap (λ x. listed (nat_le most_entries n.entries) (owing None (limited (nat_le s.limit n.count) x))) is_d ∙ passes (nat_le most_entries n.entries) (nat_le s.limit n.count) in
        let same : (nat_le s.limit σ.count && not (is_free (action_of d))) ≡ nat_le s.limit n.count = ap (λ b. nat_le s.limit σ.count && not b) free ∙ and_true (nat_le s.limit σ.count) ∙ ap (nat_le s.limit) (sym h.count) in
        subst (λ b. Follows (lowered p) s t (cond b (traps trap.Limit at.line) (does (action_of d) [] more)) n) (sym same)
        (plain_by p s t i f is callers budget n at.line d more (nat_le s.limit n.count) (here_line n σ made kept h) all none
        (λ low. next (events.below p s t i f is callers budget (nat_le s.limit n.count) n refl low) (all ∙ ap (λ b. cond b (due.Trap trap.Limit) d) low)))
      where
        and_true : (b : Bool) → (b && true) ≡ b
        and_true true = refl
        and_true false = refl

    operate_by : (n : Thread) (line : ℕ) (o : Op) (obj : ObjId) (more : ℤ → Run) (l b : Bool) → line_of (lowered p) n.phase n.top ≡ line → nat_le most_entries n.entries ≡ l → is_free_of_limit o ≡ false
        → due_of (lowered p) s t n ≡ listed l (limited b (due.Operate o obj)) → Prints (lowered p) n (action.Operate o obj) (piece_of c ws) → (b ≡ false → due_of (lowered p) s t n ≡ due.Operate o obj → (answer : ℤ) → Follows (lowered p) s t (more answer) (stepped (lowered p) s t n answer))
        → Follows (lowered p) s t (cond b (traps trap.Limit line) (does (action.Operate o obj) (piece_of c ws) more)) n
    operate_by n line o obj more l true at' full free e prints next = (n, here, e ∙ ap (λ x. listed l (cond x (due.Operate o obj) (due.Trap trap.Limit))) free ∙ trap_listed l, at')
      where
        trap_listed : (l : Bool) → listed l (due.Trap trap.Limit) ≡ due.Trap trap.Limit
        trap_listed true = refl
        trap_listed false = refl
    operate_by n line o obj more true false at' full free e prints next =
        let not_ending = or_left (is_ending (name_of o)) (is_weak (name_of o)) free in
        (n, here, inl (record { entry = ap not not_ending; full = full; traps = e ∙ ap (λ x. cond x (due.Operate o obj) (due.Trap trap.LogFull)) not_ending }))
    operate_by n line o obj more false false at' full free e prints next = (n, here, inr (action_is p s t i f is callers budget n (due.Operate o obj) e, prints, next refl e))

    -- what the call's operation prints: its piece, if it is a print, and else nothing
    call_prints : (n : Thread) (σ : State) (made : ℕ) (kept : ℤ) (o : Op) (obj : ObjId) → InCall m n σ made kept → due_now σ made kept ≡ due.Operate o obj → Prints (lowered p) n (action.Operate o obj) (piece_of c ws)
    call_prints n σ made kept o obj h is_d = prints_piece (lowered p) n c args into ws o obj h.phase (here_act n σ made kept h) (ap (λ x. words_of x.registers args) h.frame ∙ are) (operates_piece (meaning.caller p s t σ) c ws made kept o obj is_d)

    operate_event : (n : Thread) (σ : State) (made : ℕ) (kept : ℤ) (o : Op) (obj : ObjId) (more : ℤ → Run) → InCall m n σ made kept → due_now σ made kept ≡ due.Operate o obj → is_free_of_limit o ≡ false
        → (n.count < s.limit → due_of (lowered p) s t n ≡ due.Operate o obj → (answer : ℤ) → Follows (lowered p) s t (more answer) (stepped (lowered p) s t n answer))
        → Follows (lowered p) s t (cond (nat_le s.limit σ.count && not (is_free (action.Operate o obj))) (traps trap.Limit at.line) (does (action.Operate o obj) (piece_of c ws) more)) n
    operate_event n σ made kept o obj more h is_d free next =
        let all = all_due n σ made kept h ∙ ap (λ x. listed (nat_le most_entries n.entries) (owing None (limited (nat_le s.limit n.count) x))) is_d in
        let same : (nat_le s.limit σ.count && not (is_free_of_limit o)) ≡ nat_le s.limit n.count = ap (λ b. nat_le s.limit σ.count && not b) free ∙ and_true (nat_le s.limit σ.count) ∙ ap (nat_le s.limit) (sym h.count) in
        subst (λ b. Follows (lowered p) s t (cond b (traps trap.Limit at.line) (does (action.Operate o obj) (piece_of c ws) more)) n) (sym same)
        (operate_by n at.line o obj more (nat_le most_entries n.entries) (nat_le s.limit n.count) (here_line n σ made kept h) refl free all (call_prints n σ made kept o obj h is_d)
        (λ low e. next (events.below p s t i f is callers budget (nat_le s.limit n.count) n refl low) e))
      where
        and_true : (b : Bool) → (b && true) ≡ b
        and_true true = refl
        and_true false = refl

    step_load : (n : Thread) (σ : State) (made : ℕ) (kept : ℤ) (cell : ℕ) (answer : ℤ) → InCall m n σ made kept → due_of (lowered p) s t n ≡ due.Load cell → stepped (lowered p) s t n answer ≡ landed n (library_onward (meaning.caller p s t σ) c ws made kept answer) (n.count + 1) n.entries
    unfolding stepped
    step_load n σ made kept cell answer h e = ap (λ x. after_due (lowered p) s t n x answer) e ∙ ap one_more (same_onward n σ made kept answer h) ∙ more_lands n (library_onward (meaning.caller p s t σ) c ws made kept answer)

    step_store : (n : Thread) (σ : State) (made : ℕ) (kept : ℤ) (cell w : ℕ) (answer : ℤ) → InCall m n σ made kept → due_of (lowered p) s t n ≡ due.Store cell w → stepped (lowered p) s t n answer ≡ landed n (library_onward (meaning.caller p s t σ) c ws made kept answer) (n.count + 1) n.entries
    unfolding stepped
    step_store n σ made kept cell w answer h e = ap (λ x. after_due (lowered p) s t n x answer) e ∙ ap one_more (same_onward n σ made kept answer h) ∙ more_lands n (library_onward (meaning.caller p s t σ) c ws made kept answer)

    step_mark : (n : Thread) (σ : State) (made : ℕ) (kept : ℤ) (answer : ℤ) → InCall m n σ made kept → due_of (lowered p) s t n ≡ due.Mark → stepped (lowered p) s t n answer ≡ landed n (library_onward (meaning.caller p s t σ) c ws made kept answer) (n.count + 1) n.entries
    unfolding stepped
    step_mark n σ made kept answer h e = ap (λ x. after_due (lowered p) s t n x answer) e ∙ ap one_more (same_onward n σ made kept answer h) ∙ more_lands n (library_onward (meaning.caller p s t σ) c ws made kept answer)

    step_quiet : (n : Thread) (σ : State) (made : ℕ) (kept : ℤ) → InCall m n σ made kept → due_of (lowered p) s t n ≡ due.Quiet → stepped (lowered p) s t n (pos 0) ≡ landed n (library_onward (meaning.caller p s t σ) c ws made kept (pos 0)) n.count n.entries
    unfolding stepped
    step_quiet n σ made kept h e = ap (λ x. after_due (lowered p) s t n x (pos 0)) e ∙ same_onward n σ made kept (pos 0) h ∙ quiet_lands n (library_onward (meaning.caller p s t σ) c ws made kept (pos 0))

    step_operate : (n : Thread) (σ : State) (made : ℕ) (kept : ℤ) (o : Op) (obj : ObjId) (answer : ℤ) → InCall m n σ made kept → is_free_of_limit o ≡ false → due_of (lowered p) s t n ≡ due.Operate o obj
        → stepped (lowered p) s t n answer ≡ landed n (library_onward (meaning.caller p s t σ) c ws made kept answer) (n.count + 1) (n.entries + 1)
    unfolding stepped
    step_operate n σ made kept o obj answer h free e =
        ap (λ x. after_due (lowered p) s t n x answer) e ∙ after_operation (lowered p) s t n o obj answer free ∙ ap one_entry (same_onward n σ made kept answer h) ∙ entry_lands n (library_onward (meaning.caller p s t σ) c ws made kept answer)

    module _ (r : ℕ) (asks : into ≡ Some r) (in_values : length f.pointers + length f.objects ≤ r) (in_range : r < length (function_kinds f)) (k : ℕ → State → Run) (go : Goes r k) where
      lands : (fuel : ℕ) (n : Thread) (σ : State) (made : ℕ) (kept : ℤ) (count entries : ℕ) (o : Onward) → InCall m n σ made kept → n.count ≤ count → count ≤ s.limit
          → ((kept' : ℤ) → o ≡ onward.Stays kept' → InCall m (landed n o count entries) (state_after σ count) (made + 1) kept' → Follows (lowered p) s t (meaning.library_from p s t fuel at.line c ws (made + 1) kept' (state_after σ count) k) (landed n o count entries))
          → Follows (lowered p) s t (meaning.onwards p s t (meaning.library_from p s t fuel at.line c ws (made + 1)) o (state_after σ count) k) (landed n o count entries)
      lands fuel n σ made kept count entries (onward.Stays kept') h le low again =
          again kept' refl (stays_in n σ made kept kept' count entries h le)
      lands fuel n σ made kept count entries (onward.Gives w) h le low again =
          subst (λ x. Follows (lowered p) s t (k w (state_after σ count)) (record (resumed (record n { printed = n.printed + bytes }) x (onward.Gives w)) { count = count; entries = entries })) (sym asks)
          (go (record (resumed (record n { printed = n.printed + bytes }) (Some r) (onward.Gives w)) { count = count; entries = entries }) w (state_after σ count) (ap (λ x. x.instr + 1) h.frame) (record {
            function = ap (λ x. x.function) h.frame ∙ h.function;
            made = refl;
            kept = refl;
            phase = h.phase;
            below = h.below;
            stripes = h.stripes;
            size = length-set n.top.registers r w ∙ ap (λ x. length x.registers) h.frame ∙ h.size;
            registers = λ q lt. other_register n.top.registers r w q (λ e. omega (arith, lt, in_values)) ∙ ap (λ x. register x.registers q) h.frame ∙ h.registers q lt;
            objects = λ q lt. other_register n.top.registers r w (length f.pointers + q) (λ e. omega (arith, lt, in_values)) ∙ ap (λ x. register x.registers (length f.pointers + q)) h.frame ∙ h.objects q lt;
            count = refl;
            arena = h.arena;
            printed = ap (λ x. x + bytes) h.printed;
            depth = h.depth;
            small = low;
            enough = omega (arith, h.enough, le);
          })
          (same_register n.top.registers r w (omega (arith, ap (λ x. length x.registers) h.frame, h.size, in_range)))
          (λ q ne. other_register n.top.registers r w q ne ∙ ap (λ x. register x.registers q) h.frame) (omega (arith, h.later, le)))
      lands fuel n σ made kept count entries onward.Ends h le low again = (landed n onward.Ends count entries, here, ended_due (landed n onward.Ends count entries) refl h.stripes)

      -- ---- the whole call

      -- a call goes on only before its third event
      goes_on_early : (σ : State) (made : ℕ) (kept answer kept' : ℤ) → made ≤ 3 → IsNotExit c → (IsTrap (due_now σ made kept) → ⊥) → library_onward (meaning.caller p s t σ) c ws made kept answer ≡ onward.Stays kept' → made + 1 ≤ 3
      goes_on_early σ zero kept answer kept' few not_exit no_trap stays = omega arith
      goes_on_early σ (suc zero) kept answer kept' few not_exit no_trap stays = omega arith
      goes_on_early σ (suc (suc zero)) kept answer kept' few not_exit no_trap stays = omega arith
      goes_on_early σ (suc (suc (suc n))) kept answer kept' few not_exit no_trap stays = by (ends_by_four (meaning.caller p s t σ) c ws n kept answer not_exit)
        where
          by : IsTrap (due_now σ (suc (suc (suc n))) kept) ⊎ IsOver (library_onward (meaning.caller p s t σ) c ws (suc (suc (suc n))) kept answer) → suc (suc (suc n)) + 1 ≤ 3
          by (inl trap') = absurd (no_trap trap')
          by (inr over) = absurd (subst IsOver stays over)

      -- where so many turns are left
      abbrev Whole : ℕ → Type 0
      Whole fuel = (n : Thread) (σ : State) (made : ℕ) (kept : ℤ) → InCall m n σ made kept → n.count ≤ s.limit → fuel + made ≡ 5 → made ≤ 3 → Follows (lowered p) s t (meaning.library_from p s t fuel at.line c ws made kept σ k) n

      -- after an event
      past_event : (fuel : ℕ) → Whole fuel → (n : Thread) (σ : State) (made : ℕ) (kept answer : ℤ) (entries : ℕ) → InCall m n σ made kept → suc fuel + made ≡ 5 → made ≤ 3 → IsNotExit c → (IsTrap (due_now σ made kept) → ⊥) → n.count < s.limit
          → Follows (lowered p) s t (meaning.onwards p s t (meaning.library_from p s t fuel at.line c ws (made + 1)) (library_onward (meaning.caller p s t σ) c ws made kept answer) (state_after σ (σ.count + 1)) k)
          (landed n (library_onward (meaning.caller p s t σ) c ws made kept answer) (n.count + 1) entries)
      past_event fuel whole n σ made kept answer entries h left few not_exit no_trap low =
          subst (λ x. Follows (lowered p) s t (meaning.onwards p s t (meaning.library_from p s t fuel at.line c ws (made + 1)) (library_onward (meaning.caller p s t σ) c ws made kept answer) (state_after σ x) k)
          (landed n (library_onward (meaning.caller p s t σ) c ws made kept answer) (n.count + 1) entries)) (ap (λ x. x + 1) h.count)
          (lands fuel n σ made kept (n.count + 1) entries (library_onward (meaning.caller p s t σ) c ws made kept answer) h (omega arith) (omega (arith, low))
          (λ kept' stays inside. whole _ _ (made + 1) kept' inside (omega (arith, low)) (omega (arith, left)) (goes_on_early σ made kept answer kept' few not_exit no_trap stays)))

      past_quiet : (fuel : ℕ) → Whole fuel → (n : Thread) (σ : State) (made : ℕ) (kept : ℤ) → InCall m n σ made kept → n.count ≤ s.limit → suc fuel + made ≡ 5 → made ≤ 3 → IsNotExit c → (IsTrap (due_now σ made kept) → ⊥)
          → Follows (lowered p) s t (meaning.onwards p s t (meaning.library_from p s t fuel at.line c ws (made + 1)) (library_onward (meaning.caller p s t σ) c ws made kept (pos 0)) (state_after σ σ.count) k)
          (landed n (library_onward (meaning.caller p s t σ) c ws made kept (pos 0)) n.count n.entries)
      past_quiet fuel whole n σ made kept h small left few not_exit no_trap =
          subst (λ x. Follows (lowered p) s t (meaning.onwards p s t (meaning.library_from p s t fuel at.line c ws (made + 1)) (library_onward (meaning.caller p s t σ) c ws made kept (pos 0)) (state_after σ x) k)
          (landed n (library_onward (meaning.caller p s t σ) c ws made kept (pos 0)) n.count n.entries)) h.count
          (lands fuel n σ made kept n.count n.entries (library_onward (meaning.caller p s t σ) c ws made kept (pos 0)) h (omega arith) small
          (λ kept' stays inside. whole _ _ (made + 1) kept' inside small (omega (arith, left)) (goes_on_early σ made kept (pos 0) kept' few not_exit no_trap stays)))

      -- the run after an answer
      abbrev rest : ℕ → State → ℕ → ℤ → ℤ → Run
      rest fuel σ made kept answer = meaning.onwards p s t (meaning.library_from p s t fuel at.line c ws (made + 1)) (library_onward (meaning.caller p s t σ) c ws made kept answer) (state_after σ (σ.count + 1)) k

      by_what_is_due : (fuel : ℕ) → Whole fuel → (n : Thread) (σ : State) (made : ℕ) (kept : ℤ) (d : Due) → due_now σ made kept ≡ d → IsPlain d → InCall m n σ made kept → n.count ≤ s.limit → suc fuel + made ≡ 5 → made ≤ 3 → IsNotExit c
          → Follows (lowered p) s t (meaning.by_due p s t at.line (piece_of c ws) d σ (λ answer σ1. meaning.onwards p s t (meaning.library_from p s t fuel at.line c ws (made + 1)) (library_onward (meaning.caller p s t σ) c ws made kept answer) (record σ1 { printed = σ1.printed + bytes }) k)) n
      by_what_is_due fuel whole n σ made kept due.Nothing is_d plain h small left few not_exit = absurd plain
      by_what_is_due fuel whole n σ made kept due.Quiet is_d plain h small left few not_exit =
          let quiet = all_due n σ made kept h ∙ ap (λ x. listed (nat_le most_entries n.entries) (owing None (limited (nat_le s.limit n.count) x))) is_d ∙ quiet_passes (nat_le most_entries n.entries) (nat_le s.limit n.count) in
          goes_quietly (lowered p) s t _ n _ quiet (step_quiet n σ made kept h quiet) (past_quiet fuel whole n σ made kept h small left few not_exit (λ tr. subst IsTrap is_d tr))
      by_what_is_due fuel whole n σ made kept (due.Load cell) is_d plain h small left few not_exit =
          plain_event n σ made kept (due.Load cell) _ h is_d (load_passes p s t i f is callers budget cell) refl refl (λ low e answer.
          subst (λ x. Follows (lowered p) s t (rest fuel σ made kept answer) x) (sym (step_load n σ made kept cell answer h e)) (past_event fuel whole n σ made kept answer n.entries h left few not_exit (λ tr. subst IsTrap is_d tr) low))
      by_what_is_due fuel whole n σ made kept (due.Store cell w) is_d plain h small left few not_exit =
          plain_event n σ made kept (due.Store cell w) _ h is_d (store_passes p s t i f is callers budget cell w) refl refl (λ low e answer.
          subst (λ x. Follows (lowered p) s t (rest fuel σ made kept answer) x) (sym (step_store n σ made kept cell w answer h e)) (past_event fuel whole n σ made kept answer n.entries h left few not_exit (λ tr. subst IsTrap is_d tr) low))
      by_what_is_due fuel whole n σ made kept due.Mark is_d plain h small left few not_exit =
          plain_event n σ made kept due.Mark _ h is_d (mark_passes p s t i f is callers budget) refl refl (λ low e answer.
          subst (λ x. Follows (lowered p) s t (rest fuel σ made kept answer) x) (sym (step_mark n σ made kept answer h e)) (past_event fuel whole n σ made kept answer n.entries h left few not_exit (λ tr. subst IsTrap is_d tr) low))
      by_what_is_due fuel whole n σ made kept (due.Operate o obj) is_d plain h small left few not_exit =
          operate_event n σ made kept o obj _ h is_d plain (λ low e answer.
          subst (λ x. Follows (lowered p) s t (rest fuel σ made kept answer) x) (sym (step_operate n σ made kept o obj answer h plain e)) (past_event fuel whole n σ made kept answer (n.entries + 1) h left few not_exit (λ tr. subst IsTrap is_d tr) low))
      by_what_is_due fuel whole n σ made kept (due.Trap kind) is_d plain h small left few not_exit = (
        n,
        here,
        all_due n σ made kept h ∙ ap (λ x. listed (nat_le most_entries n.entries) (owing None (limited (nat_le s.limit n.count) x))) is_d ∙ trap_passes (nat_le most_entries n.entries) (nat_le s.limit n.count) kind,
        here_line n σ made kept h,
      )

      whole_call : IsNotExit c → (fuel : ℕ) → Whole fuel
      whole_call not_exit zero n σ made kept h small left few = absurd (omega (arith, left, few))
      whole_call not_exit (suc fuel) n σ made kept h small left few =
          by_what_is_due fuel (whole_call not_exit fuel) n σ made kept (due_now σ made kept) refl (plain_due (meaning.caller p s t σ) c ws made kept not_exit) h small left few not_exit

    -- ---- pthread_exit, whose last two events come at the limit too

    ends_event : (n : Thread) (σ : State) (made : ℕ) (kept : ℤ) (o : Op) (obj : ObjId) (more : ℤ → Run) → InCall m n σ made kept → due_now σ made kept ≡ due.Operate o obj → is_free_of_limit o ≡ true → is_ending (name_of o) ≡ true
        → (due_of (lowered p) s t n ≡ due.Operate o obj → (answer : ℤ) → Follows (lowered p) s t (more answer) (stepped (lowered p) s t n answer))
        → Follows (lowered p) s t (cond (nat_le s.limit σ.count && not (is_free (action.Operate o obj))) (traps trap.Limit at.line) (does (action.Operate o obj) (piece_of c ws) more)) n
    ends_event n σ made kept o obj more h is_d free ending next =
        let all = all_due n σ made kept h ∙ ap (λ x. listed (nat_le most_entries n.entries) (owing None (limited (nat_le s.limit n.count) x))) is_d ∙ passes (nat_le most_entries n.entries) (nat_le s.limit n.count) in
        let same : (nat_le s.limit σ.count && not (is_free_of_limit o)) ≡ false = ap (λ b. nat_le s.limit σ.count && not b) free ∙ and_false (nat_le s.limit σ.count) in
        subst (λ b. Follows (lowered p) s t (cond b (traps trap.Limit at.line) (does (action.Operate o obj) (piece_of c ws) more)) n) (sym same)
        (n, here, inr (action_is p s t i f is callers budget n (due.Operate o obj) all, call_prints n σ made kept o obj h is_d, next all))
      where
        and_false : (b : Bool) → (b && false) ≡ false
        and_false true = refl
        and_false false = refl

        passes : (l b : Bool) → listed l (owing None (limited b (due.Operate o obj))) ≡ due.Operate o obj
        passes l true = ap (λ x. listed l (cond x (due.Operate o obj) (due.Trap trap.Limit))) free ∙ listed_ending l
          where
            listed_ending : (l : Bool) → listed l (due.Operate o obj) ≡ due.Operate o obj
            listed_ending true = ap (λ x. cond x (due.Operate o obj) (due.Trap trap.LogFull)) ending
            listed_ending false = refl
        passes true false = ap (λ x. cond x (due.Operate o obj) (due.Trap trap.LogFull)) ending
        passes false false = refl

    step_ends : (n : Thread) (σ : State) (made : ℕ) (kept answer : ℤ) (o : Op) (obj : ObjId) → InCall m n σ made kept → IsEndOrLeave o → due_of (lowered p) s t n ≡ due.Operate o obj
        → stepped (lowered p) s t n answer ≡ landed n (library_onward (meaning.caller p s t σ) c ws made kept answer) (n.count + 1) n.entries
    unfolding stepped
    step_ends n σ made kept answer op.End obj h last e = ap (λ x. after_due (lowered p) s t n x answer) e ∙ ap one_more (same_onward n σ made kept answer h) ∙ more_lands n (library_onward (meaning.caller p s t σ) c ws made kept answer)
    step_ends n σ made kept answer op.Leave obj h last e = ap (λ x. after_due (lowered p) s t n x answer) e ∙ ap one_more (same_onward n σ made kept answer h) ∙ more_lands n (library_onward (meaning.caller p s t σ) c ws made kept answer)
    step_ends n σ made kept answer _ obj h last e = absurd last

  -- `pthread_exit`: the value is handed over, the slot ended, and the live threads left
  exit_call : (m : Thread) (at : Position) (args : List ℕ) (ws : List ℕ) (σ : State) (k : ℕ → State → Run) → instr_at (lowered p) m.top ≡ Some (instr at (act.Library call.Exit args None)) → words_of m.top.registers args ≡ ws
      → Shows p s t i f is callers budget m σ → Follows (lowered p) s t (meaning.library_call p s t at.line call.Exit ws σ k) m
  exit_call m at args ws σ k stands are h = handed
    where
      first_stands : InCall m m σ 0 (pos 0)
      first_stands = begins m σ h

      m1 : Thread
      m1 = landed m at call.Exit args None ws stands are m (onward.Stays (pos 0)) (m.count + 1) m.entries

      σ1 : State
      σ1 = state_after m at call.Exit args None ws stands are σ (m.count + 1)

      second_stands : InCall m m1 σ1 1 (pos 0)
      second_stands = stays_in m at call.Exit args None ws stands are m σ 0 (pos 0) (pos 0) (m.count + 1) m.entries first_stands (omega arith)

      m2 : Thread
      m2 = landed m at call.Exit args None ws stands are m1 (onward.Stays (pos 0)) (m1.count + 1) m1.entries

      σ2 : State
      σ2 = state_after m at call.Exit args None ws stands are σ1 (m1.count + 1)

      third_stands : InCall m m2 σ2 2 (pos 0)
      third_stands = stays_in m at call.Exit args None ws stands are m1 σ1 1 (pos 0) (pos 0) (m1.count + 1) m1.entries second_stands (omega arith)

      m3 : Thread
      m3 = landed m at call.Exit args None ws stands are m2 onward.Ends (m2.count + 1) m2.entries

      over : Follows (lowered p) s t ends m3
      over = (m3, here, ended_due m at call.Exit args None ws stands are m3 refl h.stripes)

      leaves : Follows (lowered p) s t (meaning.library_from p s t 3 at.line call.Exit ws 2 (pos 0) σ2 k) m2
      leaves =
          ends_event m at call.Exit args None ws stands are m2 σ2 2 (pos 0) op.Leave object_id.Threads _ third_stands refl refl refl (λ e answer.
          subst (λ x. Follows (lowered p) s t ends x) (sym (step_ends m at call.Exit args None ws stands are m2 σ2 2 (pos 0) answer op.Leave object_id.Threads third_stands tt e)) over)

      ended : Follows (lowered p) s t (meaning.library_from p s t 4 at.line call.Exit ws 1 (pos 0) σ1 k) m1
      ended =
          ends_event m at call.Exit args None ws stands are m1 σ1 1 (pos 0) op.End (object_id.Slot t) _ second_stands refl refl refl (λ e answer.
          subst (λ x. Follows (lowered p) s t (meaning.library_from p s t 3 at.line call.Exit ws 2 (pos 0) σ2 k) x) (sym (step_ends m at call.Exit args None ws stands are m1 σ1 1 (pos 0) answer op.End (object_id.Slot t) second_stands tt e)) leaves)

      handed : Follows (lowered p) s t (meaning.library_call p s t at.line call.Exit ws σ k) m
      handed =
          plain_event m at call.Exit args None ws stands are m σ 0 (pos 0) (due.Store (result_cell t) (argument ws 0)) _ first_stands refl (store_passes p s t i f is callers budget (result_cell t) (argument ws 0)) refl refl (λ low e answer.
          subst (λ x. Follows (lowered p) s t (meaning.library_from p s t 4 at.line call.Exit ws 1 (pos 0) (state_after m at call.Exit args None ws stands are σ (σ.count + 1)) k) x)
          (sym (step_store m at call.Exit args None ws stands are m σ 0 (pos 0) (result_cell t) (argument ws 0) answer first_stands e))
          (subst (λ x. Follows (lowered p) s t (meaning.library_from p s t 4 at.line call.Exit ws 1 (pos 0) (state_after m at call.Exit args None ws stands are σ x) k) m1) (ap (λ x. x + 1) h.count) ended))

  -- `free`: the word 0 comes into its register after the call
  free_call : (m : Thread) (at : Position) (args : List ℕ) (r : ℕ) (ws : List ℕ) (σ : State) (k : ℕ → State → Run) → HasAt (body_code f) m.top.instr (library_code at r call.Free args) → Shows p s t i f is callers budget m σ
      → length f.pointers + length f.objects ≤ r → r < length (function_kinds f)
      → ((n : Thread) (v : ℕ) (σ' : State) → n.top.instr ≡ m.top.instr + 2 → Shows p s t i f is callers budget n σ' → register n.top.registers r ≡ v → ((q : ℕ) → q ≢ r → register n.top.registers q ≡ register m.top.registers q) → m.count ≤ n.count → Follows (lowered p) s t (k v σ') n)
      → Follows (lowered p) s t (meaning.library_call p s t at.line call.Free ws σ k) m
  free_call m at args r ws σ k code h in_values in_range go =
      by_quiet p s t i f is callers budget _ m n σ at (act.Library call.Free args None) h code.0 refl refl
      (by_compute p s t i f is callers budget n σ' at r (work.Constant (pos 0)) (Ok 0) k shows code.1.0 refl (λ v same.
      let x = puts p s t i f is callers budget m n σ' r v (λ q. false) (m.top.instr + 2) in_values in_range shows (λ q lt free. refl) (omega arith) (omega arith) in
      go (sets n r v) v σ' x.place x.shows x.value (λ q ne. other_register m.top.registers r v q ne) x.later))
    where
      n : Thread
      n = record m { top = past m.top; printed = m.printed + 0 }

      σ' : State
      σ' = record σ { printed = σ.printed + 0 }

      shows : Shows p s t i f is callers budget n σ'
      shows = record {
        function = h.function;
        made = refl;
        kept = refl;
        phase = h.phase;
        below = h.below;
        stripes = h.stripes;
        size = h.size;
        registers = h.registers;
        objects = h.objects;
        count = h.count;
        arena = h.arena;
        printed = ap (λ x. x + 0) h.printed;
        depth = h.depth;
        small = h.small;
        enough = h.enough;
      }

  pub library_follows : (c : LibraryCall) (m : Thread) (at : Position) (args : List ℕ) (r : ℕ) (ws : List ℕ) (σ : State) (k : ℕ → State → Run) → HasAt (body_code f) m.top.instr (library_code at r c args) → words_of m.top.registers args ≡ ws
      → Shows p s t i f is callers budget m σ → length f.pointers + length f.objects ≤ r → r < length (function_kinds f)
      → ((n : Thread) (v : ℕ) (σ' : State) → n.top.instr ≡ m.top.instr + library_size c → Shows p s t i f is callers budget n σ' → register n.top.registers r ≡ v → ((q : ℕ) → q ≢ r → register n.top.registers q ≡ register m.top.registers q) → m.count ≤ n.count → Follows (lowered p) s t (k v σ') n)
      → Follows (lowered p) s t (meaning.library_call p s t at.line c ws σ k) m
  library_follows call.Exit m at args r ws σ k code are h in_values in_range go = exit_call m at args ws σ k (instr_of p s t i f is callers budget m σ h ∙ code.0) are h
  library_follows call.Free m at args r ws σ k code are h in_values in_range go = free_call m at args r ws σ k code h in_values in_range go
  library_follows c m at args r ws σ k code are h in_values in_range go =
      whole_call m at c args (Some r) ws (instr_of p s t i f is callers budget m σ h ∙ code.0) are r refl in_values in_range k go tt 5 m σ 0 (pos 0) (begins m σ h) h.small (omega arith) (omega arith)
