-- What functions know of the registers of a thread's frames is kept by each of its steps.
use Rattle.std.proofs.Common.{◌≡◌, ℕ, zero, suc, ◌+◌, ◌-◌, ◌<◌, ◌≤◌, ◌==◌, ◌||◌, Bool, true, false, if◌then◌else◌, ℤ, pos, List, [], ◌∷◌, ◌++◌, length, take, reverse, Option, Some, None, Result, Ok, Err, refl, sym, ap, subst, ◌∙◌, arith, eq-eqb}
use Rattle.std.specs.Prelude.{slice_get, slice_set}
use Rattle.std.specs.List.{list_any}
use Rattle.std.proofs.lemmas.Bool.{true≢false}
use Rattle.std.proofs.lemmas.List.{length-set, reverse-append, take_all, take_more}
use Rattle.std.proofs.lemmas.Option.{same_Some, slice_get_within, get_or_from_slice_get}
use Rattle.sync_objects.specs.Setup.{SetupView}
use Rattle.rr_base.specs.declared.trap.Trap.{Trap}
use Rattle.word_semantics.specs.declared.event.Onward.{Onward}
use Rattle.word_semantics.specs.declared.event.Onward.TheVariants as onward
use Rattle.word_semantics.specs.Library.{library_onward, piece_of}
use Rattle.word_semantics.specs.Registers.{register, words_of}
use Rattle.flow_code.specs.declared.act.Act.{Act}
use Rattle.flow_code.specs.declared.act.Act.TheVariants as act
use Rattle.flow_code.specs.declared.act.Instr.{Instr}
use Rattle.flow_code.specs.declared.code.Code.{Code}
use Rattle.flow_code.specs.declared.code.Function.{Function}
use Rattle.flow_code.specs.declared.region.Region.{Region}
use Rattle.flow_code.specs.declared.thread.Stripe.{Stripe}
use Rattle.flow_code.specs.Constants.{constant_fits, constants_fit_in, constants_fit}
use Rattle.flow_code.specs.Holding.{region_of, lacked, taken, to_give, gives_at, gave, open_place, parting, left_after}
use Rattle.flow_code.specs.Kinds.{act_fits, work_fits}
use Rattle.flow_code.specs.Next.{act_in, act_at, past, jumped, given, value_of, pointers_in, pointers_of, in_frame, computed, one_made, entered, result_of, back_in, end_onward, returned, resumed, call_after, on_unless, act_after, caller}
use Rattle.flow_code.specs.Threads.{Frame, Thread, instr_in, is_main}
use Rattle.flow_code.specs.Valid.{is_valid, function_fits}
use Rattle.flow_code.specs.Works.{work_of}
use Rattle.flow_code.proofs.ValidParts.{each, function_is_fit, act_is_fit}
use Rattle.facts.specs.Blocks.{ends_block, goes_to, is_target, may_end_block, follows_end, assigned, is_register, constant_of}
use Rattle.facts.specs.Paths.{known_of}
use Rattle.facts.specs.Summaries.{StandsAt}
use Rattle.lockset_sound.proofs.Known.{set_other, IsKnown, Changes, begins, step, known_before, constant_before}
use Rattle.lockset_sound.proofs.Computed.{computes}
use Rattle.lockset_sound.proofs.Means.{or_right}
use Rattle.lockset_sound.proofs.Entering.{frame_known}

-- ---- what is kept

abbrev pub KnownAt : Code → ℕ → (function instr : ℕ) → List ℕ → Type 0
KnownAt code slots function instr rs = (f : Function) → slice_get code.functions function ≡ Some f → IsKnown code slots f instr rs

-- a block ends where the frame stands
abbrev pub EndsHere : Code → Frame → Type 0
EndsHere code g = (f : Function) (i : Instr) → StandsAt code g.function g.instr f i → ends_block i.act ≡ true

abbrev pub KnownBelow : Code → ℕ → List Frame → Type 0
KnownBelow code slots [] = Unit {0}
KnownBelow code slots (g ∷ gs) = KnownAt code slots g.function g.instr g.registers × EndsHere code g × KnownBelow code slots gs

abbrev pub KnownThread : Code → ℕ → Thread → Type 0
KnownThread code slots th = KnownAt code slots th.top.function th.top.instr th.top.registers × KnownBelow code slots (reverse th.below)

-- ---- where a frame stands

pub record Stands (code : Code) (f : Frame) (a : Act) : Type 0 where
  pub function : Function
  pub instr : Instr
  pub here : StandsAt code f.function f.instr function instr
  pub is : instr.act ≡ a

pub stands : (code : Code) (f : Frame) (a : Act) → act_at code f ≡ Some a → Stands code f a
stands code f a e = by (slice_get code.functions f.function) refl e
  where
    at : (fn : Function) (o : Option Instr) → slice_get code.functions f.function ≡ Some fn → slice_get fn.instrs f.instr ≡ o → act_in o ≡ Some a → Stands code f a
    at fn None h k g = cc
    at fn (Some i) h k g = record { function = fn; instr = i; here = record { function = h; instr = k }; is = same_Some i.act a g }

    by : (o : Option Function) → slice_get code.functions f.function ≡ o → act_in (instr_in o f.instr) ≡ Some a → Stands code f a
    by None h g = cc
    by (Some fn) h g = at fn (slice_get fn.instrs f.instr) h refl g

pub known_one : (code : Code) (slots function instr : ℕ) (rs : List ℕ) (f : Function) → slice_get code.functions function ≡ Some f → IsKnown code slots f instr rs → KnownAt code slots function instr rs
known_one code slots function instr rs f h k g e = subst (λ z. IsKnown code slots z instr rs) (same_Some f g (sym h ∙ e)) k

any_at : (p : Instr → Bool) (xs : List Instr) (k : ℕ) (x : Instr) → slice_get xs k ≡ Some x → p x ≡ true → list_any p xs ≡ true
any_at p [] k x e h = cc
any_at p (y ∷ ys) zero x e h = ap (λ b. b || list_any p ys) (ap p (same_Some y x e) ∙ h)
any_at p (y ∷ ys) (suc k) x e h = or_right (p y) (list_any p ys) (any_at p ys k x e h)

last_of : (xs : List Frame) (f : Frame) → slice_get xs (length xs - 1) ≡ Some f → xs ≡ take (length xs - 1) xs ++ f ∷ []
last_of xs f h =
    let lt : length xs - 1 < length xs = slice_get_within xs (length xs - 1) f h in
    sym (take_all (length xs - 1 + 1) xs (omega arith)) ∙ take_more xs (length xs - 1) f lt ∙ ap (λ z. take (length xs - 1) xs ++ z ∷ []) (get_or_from_slice_get xs (length xs - 1) f f h)

-- the frames below, the latest first
pub below_is : (xs : List Frame) (f : Frame) → slice_get xs (length xs - 1) ≡ Some f → reverse xs ≡ f ∷ reverse (take (length xs - 1) xs)
below_is xs f h = ap reverse (last_of xs f h) ∙ reverse-append (take (length xs - 1) xs) (f ∷ [])

-- ---- what becomes of frames

module _ (code : Code) (slots : ℕ) where
  goes_on : (f : Frame) (a : Act) (x : Stands code f a) (qs : List ℕ) → KnownAt code slots f.function f.instr f.registers → Changes code slots x.function f.instr x.instr.act f.registers qs → KnownAt code slots f.function (f.instr + 1) qs
  goes_on f a x qs known c =
      let next : suc f.instr ≡ f.instr + 1 = omega arith in
      known_one code slots f.function (f.instr + 1) qs x.function x.here.function
      (subst (λ k. IsKnown code slots x.function k qs) next (step code slots x.function f.instr x.instr f.registers qs x.here.instr (known x.function x.here.function) c))

  jumps_to : (f : Frame) (a : Act) (x : Stands code f a) (to : ℕ) → goes_to to a ≡ true → KnownAt code slots f.function f.instr f.registers → KnownAt code slots f.function to f.registers
  jumps_to f a x to g known =
      known_one code slots f.function to f.registers x.function x.here.function
      (begins code slots x.function to f.registers (known x.function x.here.function).long
      (or_right (follows_end x.function.instrs to) (is_target x.function.instrs to) (any_at (λ i. goes_to to i.act) x.function.instrs f.instr x.instr x.here.instr (ap (goes_to to) x.is ∙ g))))

  following : (g : Frame) (qs : List ℕ) → length qs ≡ length g.registers → EndsHere code g → KnownAt code slots g.function g.instr g.registers → KnownAt code slots g.function (g.instr + 1) qs
  following g qs long ends known f e =
      let next : suc g.instr ≡ g.instr + 1 = omega arith in
      subst (λ k. IsKnown code slots f k qs) next (begins code slots f (suc g.instr) qs (long ∙ (known f e).long) (ap (λ b. b || is_target f.instrs (suc g.instr)) (ended (slice_get f.instrs g.instr) refl)))
    where
      ended : (o : Option Instr) → slice_get f.instrs g.instr ≡ o → may_end_block (act_in o) ≡ true
      ended None h = refl
      ended (Some i) h = ends f i (record { function = e; instr = h })

  -- ---- instructions that no name comes from

  same : (fn : Function) (k : ℕ) (a : Act) (rs : List ℕ) → known_of (known_before fn k) (constant_before fn k) (Some a) ≡ None → constant_of (Some a) ≡ None → Changes code slots fn k a rs rs
  same fn k a rs h c = record { long = refl; others = λ r n. refl; gives = λ r n s g. absurd (none (sym h ∙ g)); constant = λ r z s g. absurd (none (sym c ∙ g)) }
    where
      none : {X : Type 0} {x : X} → None ≡ Some x → ⊥
      none h = cc

  put : (fn : Function) (k : ℕ) (a : Act) (rs : List ℕ) (into w : ℕ) → assigned a ≡ Some into → known_of (known_before fn k) (constant_before fn k) (Some a) ≡ None → constant_of (Some a) ≡ None → Changes code slots fn k a rs (slice_set rs into w)
  put fn k a rs into w e h c = record {
    long = length-set rs into w;
    others = λ r n. set_other rs into w r (λ q. true≢false (sym (eq-eqb into r (sym q)) ∙ sym (ap (is_register r) e) ∙ n));
    gives = λ r n s g. absurd (none (sym h ∙ g));
    constant = λ r z s g. absurd (none (sym c ∙ g));
  }
    where
      none : {X : Type 0} {x : X} → None ≡ Some x → ⊥
      none h = cc

  changes_as : (fn : Function) (k : ℕ) (a b : Act) (rs qs : List ℕ) → b ≡ a → Changes code slots fn k a rs qs → Changes code slots fn k b rs qs
  changes_as fn k a b rs qs e c = subst (λ z. Changes code slots fn k z rs qs) (sym e) c

  given_known : (fn : Function) (k : ℕ) (a : Act) (f : Frame) (into : Option ℕ) (w : ℕ) → assigned a ≡ into → known_of (known_before fn k) (constant_before fn k) (Some a) ≡ None → constant_of (Some a) ≡ None → Changes code slots fn k a f.registers (given f into w).registers
  given_known fn k a f None w e h c = same fn k a f.registers h c
  given_known fn k a f (Some into) w e h c = put fn k a f.registers into w e h c

  given_long : (f : Frame) (into : Option ℕ) (w : ℕ) → length (given f into w).registers ≡ length f.registers
  given_long f None w = refl
  given_long f (Some into) w = length-set f.registers into w

  given_function : (f : Frame) (into : Option ℕ) (w : ℕ) → (given f into w).function ≡ f.function
  given_function f None w = refl
  given_function f (Some into) w = refl

  given_instr : (f : Frame) (into : Option ℕ) (w : ℕ) → (given f into w).instr ≡ f.instr
  given_instr f None w = refl
  given_instr f (Some into) w = refl

  past_given : (f : Frame) (into : Option ℕ) (w : ℕ) → KnownAt code slots f.function (f.instr + 1) (given f into w).registers → KnownAt code slots (past (given f into w)).function (past (given f into w)).instr (past (given f into w)).registers
  past_given f None w h = h
  past_given f (Some into) w h = h

  -- ---- threads in other frames

  on_known : (o : Option ℕ) (th q : Thread) → q.top ≡ th.top → q.below ≡ th.below → KnownThread code slots th → KnownAt code slots th.top.function (th.top.instr + 1) th.top.registers → KnownThread code slots (on_unless o q)
  on_known None th q t b h n = (subst (λ (z : Frame). KnownAt code slots z.function (z.instr + 1) z.registers) (sym t) n, subst (λ z. KnownBelow code slots (reverse z)) (sym b) h.1)
  on_known (Some x) th q t b h n = (subst (λ (z : Frame). KnownAt code slots z.function z.instr z.registers) (sym t) h.0, subst (λ z. KnownBelow code slots (reverse z)) (sym b) h.1)

  on_known_pair : (o : Option (ℕ × ℕ)) (th q : Thread) → q.top ≡ th.top → q.below ≡ th.below → KnownThread code slots th → KnownAt code slots th.top.function (th.top.instr + 1) th.top.registers → KnownThread code slots (on_unless o q)
  on_known_pair None th q t b h n = (subst (λ (z : Frame). KnownAt code slots z.function (z.instr + 1) z.registers) (sym t) n, subst (λ z. KnownBelow code slots (reverse z)) (sym b) h.1)
  on_known_pair (Some x) th q t b h n = (subst (λ (z : Frame). KnownAt code slots z.function z.instr z.registers) (sym t) h.0, subst (λ z. KnownBelow code slots (reverse z)) (sym b) h.1)

  went_known : (th : Thread) (n : ℕ) (into : Option ℕ) (o : Onward) → KnownThread code slots th → ((w : ℕ) → KnownAt code slots th.top.function (th.top.instr + 1) (given th.top into w).registers) → KnownThread code slots (resumed (record th { printed = n }) into o)
  went_known th n into (onward.Stays kept) h g = h
  went_known th n into (onward.Gives w) h g = (past_given th.top into w (g w), h.1)
  went_known th n into onward.Ends h g = h

  left_known : (th q : Thread) (ys : List Stripe) → KnownThread code slots th → KnownThread code slots q → KnownThread code slots (left_after th ys q)
  left_known th q [] h g = g
  left_known th q (y ∷ ys) h g = h

  end_known : (b : Bool) (th : Thread) (made : ℕ) → KnownThread code slots th → KnownThread code slots (end_onward b th made)
  end_known true th made h = h
  end_known false th zero h = h
  end_known false th (suc zero) h = h
  end_known false th (suc (suc n)) h = h

  back_known : (th : Thread) (value : ℕ) (o : Option Frame) → slice_get th.below (length th.below - 1) ≡ o → KnownThread code slots th → KnownThread code slots (back_in code th value o)
  back_known th value None e h = h
  back_known th value (Some g) e h =
      let s = subst (KnownBelow code slots) (below_is th.below g e) h.1 in
      (past_given g (result_of (act_at code g)) value (following g (given g (result_of (act_at code g)) value).registers (given_long g (result_of (act_at code g)) value) s.1 s.0), s.2)

  returned_known : (th : Thread) (value : ℕ) → KnownThread code slots th → KnownThread code slots (returned code th value)
  returned_known th value h = by (length th.below == 0)
    where
      by : (b : Bool) → KnownThread code slots (if b then end_onward (is_main code th.top.function) th th.top.made else back_in code th value (slice_get th.below (length th.below - 1)))
      by true = end_known (is_main code th.top.function) th th.top.made h
      by false = back_known th value (slice_get th.below (length th.below - 1)) refl h

  pub entered_known : (s : SetupView) (t : ℕ) (th : Thread) (below : List Frame) (f : ℕ) (args : List ℕ) → KnownBelow code slots (reverse below) → KnownThread code slots (entered code s t th below f args)
  entered_known s t th below f args h = (λ fn e. frame_known code slots f fn e args th.arena, h)

  taken_top : (th : Thread) (r : Option Region) (o : Option ℕ) → (taken code th r o).top ≡ th.top
  taken_top th None o = refl
  taken_top th (Some r) None = refl
  taken_top th (Some r) (Some n) = refl

  taken_below : (th : Thread) (r : Option Region) (o : Option ℕ) → (taken code th r o).below ≡ th.below
  taken_below th None o = refl
  taken_below th (Some r) None = refl
  taken_below th (Some r) (Some n) = refl

  gives_top : (th : Thread) (p : Option ℕ) (o : Option (ℕ × ℕ)) → (gives_at th p o).top ≡ th.top
  gives_top th None o = refl
  gives_top th (Some i) o = refl

  gives_below : (th : Thread) (p : Option ℕ) (o : Option (ℕ × ℕ)) → (gives_at th p o).below ≡ th.below
  gives_below th None o = refl
  gives_below th (Some i) o = refl

-- ---- each instruction

module _ (code : Code) (valid : is_valid code ≡ true) (constants : constants_fit code ≡ true) (s : SetupView) (few : s.slots ≤ 16) (t : ℕ) (th : Thread) (h : KnownThread code s.slots th) where
  plain : (a : Act) (x : Stands code th.top a) → known_of (known_before x.function th.top.instr) (constant_before x.function th.top.instr) (Some a) ≡ None → constant_of (Some a) ≡ None → KnownAt code s.slots th.top.function (th.top.instr + 1) th.top.registers
  plain a x n c = goes_on code s.slots th.top a x th.top.registers h.0 (changes_as code s.slots x.function th.top.instr a x.instr.act th.top.registers th.top.registers x.is (same code s.slots x.function th.top.instr a th.top.registers n c))

  puts : (a : Act) (x : Stands code th.top a) (into w : ℕ) → assigned a ≡ Some into → known_of (known_before x.function th.top.instr) (constant_before x.function th.top.instr) (Some a) ≡ None → constant_of (Some a) ≡ None → KnownAt code s.slots th.top.function (th.top.instr + 1) (slice_set th.top.registers into w)
  puts a x into w e n c = goes_on code s.slots th.top a x (slice_set th.top.registers into w) h.0 (changes_as code s.slots x.function th.top.instr a x.instr.act th.top.registers (slice_set th.top.registers into w) x.is (put code s.slots x.function th.top.instr a th.top.registers into w e n c))

  pub known_act : (o : Option Act) (answer : ℤ) → act_at code th.top ≡ o → KnownThread code s.slots (act_after code s t th o answer)
  known_act None answer e = h
  known_act (Some (act.Compute into w)) answer e = by (work_of s.slots code.sites (pointers_of code th.top) th.top.registers w) refl
    where
      x : Stands code th.top (act.Compute into w)
      x = stands code th.top (act.Compute into w) e

      fit : function_fits code x.function ≡ true
      fit = function_is_fit code valid th.top.function x.function x.here.function

      work_is_fit : work_fits code x.function into w ≡ true
      work_is_fit = subst (λ a. act_fits code x.function a ≡ true) x.is (act_is_fit code x.function fit th.top.instr x.instr x.here.instr)

      constant_is_fit : constant_fits (act.Compute into w) ≡ true
      constant_is_fit = subst (λ a. constant_fits a ≡ true) x.is (each (λ i. constant_fits i.act) x.function.instrs th.top.instr x.instr (each (λ f. constants_fit_in f.instrs) code.functions th.top.function x.function constants x.here.function) x.here.instr)

      by : (r : Result ℕ Trap) → work_of s.slots code.sites (pointers_of code th.top) th.top.registers w ≡ r → KnownThread code s.slots (computed th into r)
      by (Err k) g = h
      by (Ok v) g =
          let work = subst (λ f. work_of s.slots code.sites (pointers_in f) th.top.registers w ≡ Ok v) x.here.function g in
          let c = computes code s.slots few valid x.function th.top.instr into th.top.registers (h.0 x.function x.here.function) w v work_is_fit constant_is_fit work in
          (goes_on code s.slots th.top (act.Compute into w) x (slice_set th.top.registers into v) h.0 (changes_as code s.slots x.function th.top.instr (act.Compute into w) x.instr.act th.top.registers (slice_set th.top.registers into v) x.is c), h.1)
  known_act (Some (act.Alloc into site None)) answer e = (plain (act.Alloc into site None) (stands code th.top (act.Alloc into site None) e) refl refl, h.1)
  known_act (Some (act.Alloc into site (Some size))) answer e = (puts (act.Alloc into site (Some size)) (stands code th.top (act.Alloc into site (Some size)) e) into _ refl refl refl, h.1)
  known_act (Some (act.LoadCell into through)) answer e = (puts (act.LoadCell into through) (stands code th.top (act.LoadCell into through) e) into _ refl refl refl, h.1)
  known_act (Some (act.StoreCell through from)) answer e = (plain (act.StoreCell through from) (stands code th.top (act.StoreCell through from) e) refl refl, h.1)
  known_act (Some act.Mark) answer e = (plain act.Mark (stands code th.top act.Mark e) refl refl, h.1)
  known_act (Some (act.Call g args into)) answer e =
      entered_known code s.slots s t th (th.below ++ one_made th.top (pos 0) ∷ []) g (words_of th.top.registers args)
      (subst (KnownBelow code s.slots) (sym (reverse-append th.below (one_made th.top (pos 0) ∷ []))) (h.0, ends, h.1))
    where
      x : Stands code th.top (act.Call g args into)
      x = stands code th.top (act.Call g args into) e

      ends : EndsHere code (one_made th.top (pos 0))
      ends f i at =
          let same_f = same_Some x.function f (sym x.here.function ∙ at.function) in
          let same_i = same_Some x.instr i (sym (subst (λ z. slice_get z.instrs th.top.instr ≡ Some x.instr) same_f x.here.instr) ∙ at.instr) in
          subst (λ z. ends_block z.act ≡ true) same_i (ap ends_block x.is)
  known_act (Some (act.Library c args into)) answer e =
      left_known code s.slots th (call_after code s t th c args into answer) (parting c th.top.made th.stripes) h
      (went_known code s.slots th (th.printed + length (piece_of c (words_of th.top.registers args))) into (library_onward (caller code s t th) c (words_of th.top.registers args) th.top.made th.top.kept answer) h
      (λ w. (let x = stands code th.top (act.Library c args into) e in
      goes_on code s.slots th.top (act.Library c args into) x (given th.top into w).registers h.0
      (changes_as code s.slots x.function th.top.instr (act.Library c args into) x.instr.act th.top.registers (given th.top into w).registers x.is
      (given_known code s.slots x.function th.top.instr (act.Library c args into) th.top into w refl refl refl)))))
  known_act (Some (act.Jump to)) answer e = (jumps_to code s.slots th.top (act.Jump to) (stands code th.top (act.Jump to) e) to (eq-eqb to to refl) h.0, h.1)
  known_act (Some (act.Branch on then_at else_at)) answer e = by (register th.top.registers on == 0)
    where
      x : Stands code th.top (act.Branch on then_at else_at)
      x = stands code th.top (act.Branch on then_at else_at) e

      by : (b : Bool) → KnownThread code s.slots (in_frame th (jumped th.top (if b then else_at else then_at)))
      by true = (jumps_to code s.slots th.top (act.Branch on then_at else_at) x else_at (or_right (then_at == else_at) (else_at == else_at) (eq-eqb else_at else_at refl)) h.0, h.1)
      by false = (jumps_to code s.slots th.top (act.Branch on then_at else_at) x then_at (ap (λ b. b || (else_at == then_at)) (eq-eqb then_at then_at refl)) h.0, h.1)
  known_act (Some (act.Return value)) answer e = returned_known code s.slots th (value_of th.top.registers value) h
  known_act (Some (act.Take region)) answer e =
      let r = region_of code th.top region in
      on_known code s.slots (lacked code th r) th (taken code th r (lacked code th r)) (taken_top code s.slots th r (lacked code th r)) (taken_below code s.slots th r (lacked code th r)) h (plain (act.Take region) (stands code th.top (act.Take region) e) refl refl)
  known_act (Some (act.Give region)) answer e =
      on_known_pair code s.slots (to_give code th region) th (gave code th region) (gives_top code s.slots th (open_place code th region) (to_give code th region)) (gives_below code s.slots th (open_place code th region) (to_give code th region)) h (plain (act.Give region) (stands code th.top (act.Give region) e) refl refl)
