-- What is due in a thread, and what would be due by its code alone: limits and owed stripes change accesses, marks and
-- operations, and nothing else.
use Rattle.std.proofs.Common.{◌≡◌, ℕ, ◌<◌, ◌⊎◌, inl, inr, ⊎_elim, Bool, true, false, if◌then◌else◌, Option, Some, None, refl, sym, ap, subst, ◌∙◌, nat_le}
use Rattle.std.proofs.lemmas.Bool.{leb-false}
use Rattle.sync_objects.specs.Setup.{SetupView}
use Rattle.sync_objects.specs.Names.{name_of, is_ending, is_weak}
use Rattle.sync_objects.specs.declared.object.ObjId.{ObjId}
use Rattle.sync_objects.specs.declared.object.ObjId.TheVariants as object
use Rattle.sync_objects.specs.declared.operation.Op.{Op}
use Rattle.sync_objects.specs.declared.operation.Op.TheVariants as op
use Rattle.rr_base.specs.declared.trap.Trap.{Trap}
use Rattle.rr_base.specs.declared.trap.Trap.TheVariants as trap
use Rattle.flow_code.specs.declared.code.Code.{Code}
use Rattle.flow_code.specs.declared.thread.Stripe.{Stripe}
use Rattle.word_semantics.specs.declared.event.Due.{Due}
use Rattle.word_semantics.specs.declared.event.Due.TheVariants as due
use Rattle.flow_code.specs.Threads.{Thread}
use Rattle.flow_code.specs.Next.{limited, first_owed, retake, owing, listed, phase_due, due_of}
use Rattle.word_semantics.specs.Limits.{most_entries, is_free_of_limit}

-- what needs a count below the limit
abbrev pub NeedsCount : Due → Type 0
NeedsCount (due.Load c) = Unit {0}
NeedsCount (due.Store c w) = Unit {0}
NeedsCount due.Mark = Unit {0}
NeedsCount (due.Operate o obj) = is_free_of_limit o ≡ false
NeedsCount _ = ⊥

-- what needs room in the list of entries
abbrev pub NeedsRoom : Due → Type 0
NeedsRoom (due.Operate o obj) = is_ending (name_of o) ≡ false
NeedsRoom _ = ⊥

-- from where something due comes: it is due by the code alone, or an owed stripe or a limit stands in its place
pub data Source (code : Code) (s : SetupView) (t : ℕ) (th : Thread) (d : Due) : Type 0 where
  plain : phase_due code s t th th.phase ≡ d → (NeedsCount d → th.count < s.limit) → Source code s t th d
  owed : (x : Stripe) → d ≡ retake x → Source code s t th d
  ends : (kind : Trap) → d ≡ due.Trap kind → Source code s t th d

limited_is : (over : Bool) (d : Due) → (limited over d ≡ d) × (NeedsCount d → over ≡ false) ⊎ (limited over d ≡ due.Trap trap.Limit)
limited_is false d = inl (refl, λ _. refl)
limited_is true due.Nothing = inl (refl, λ h. absurd h)
limited_is true due.Quiet = inl (refl, λ h. absurd h)
limited_is true (due.Load c) = inr refl
limited_is true (due.Store c w) = inr refl
limited_is true due.Mark = inr refl
limited_is true (due.Operate o obj) = by (is_free_of_limit o)
  where
    by : (b : Bool) → ((if b then due.Operate o obj else due.Trap trap.Limit) ≡ due.Operate o obj) × (b ≡ false → true ≡ false) ⊎ ((if b then due.Operate o obj else due.Trap trap.Limit) ≡ due.Trap trap.Limit)
    by true = inl (refl, λ e. e)
    by false = inr refl
limited_is true (due.Trap kind) = inl (refl, λ h. absurd h)

owing_op : (x : Stripe) (o : Op) (obj : ObjId) → (owing (Some x) (due.Operate o obj) ≡ due.Operate o obj) ⊎ ((y : Stripe) × (owing (Some x) (due.Operate o obj) ≡ retake y))
owing_op x o obj = by (is_weak (name_of o))
  where
    by : (b : Bool) → ((if b then retake x else due.Operate o obj) ≡ due.Operate o obj) ⊎ ((y : Stripe) × ((if b then retake x else due.Operate o obj) ≡ retake y))
    by true = inr (x, refl)
    by false = inl refl

owing_is : (first : Option Stripe) (d : Due) → (owing first d ≡ d) ⊎ ((x : Stripe) × (owing first d ≡ retake x))
owing_is None d = inl refl
owing_is (Some x) due.Nothing = inl refl
owing_is (Some x) due.Quiet = inl refl
owing_is (Some x) (due.Load c) = inr (x, refl)
owing_is (Some x) (due.Store c w) = inr (x, refl)
owing_is (Some x) due.Mark = inr (x, refl)
owing_is (Some x) (due.Operate o obj) = owing_op x o obj
owing_is (Some x) (due.Trap kind) = inl refl

listed_is : (full : Bool) (d : Due) → (listed full d ≡ d) × (NeedsRoom d → full ≡ false) ⊎ (listed full d ≡ due.Trap trap.LogFull)
listed_is false d = inl (refl, λ _. refl)
listed_is true due.Nothing = inl (refl, λ h. absurd h)
listed_is true due.Quiet = inl (refl, λ h. absurd h)
listed_is true (due.Load c) = inl (refl, λ h. absurd h)
listed_is true (due.Store c w) = inl (refl, λ h. absurd h)
listed_is true due.Mark = inl (refl, λ h. absurd h)
listed_is true (due.Operate o obj) = by (is_ending (name_of o))
  where
    by : (b : Bool) → ((if b then due.Operate o obj else due.Trap trap.LogFull) ≡ due.Operate o obj) × (b ≡ false → true ≡ false) ⊎ ((if b then due.Operate o obj else due.Trap trap.LogFull) ≡ due.Trap trap.LogFull)
    by true = inl (refl, λ e. e)
    by false = inr refl
listed_is true (due.Trap kind) = inl (refl, λ h. absurd h)

below_limit : (code : Code) (s : SetupView) (t : ℕ) (th : Thread) (d : Due) → phase_due code s t th th.phase ≡ d → Source code s t th (limited (nat_le s.limit th.count) d)
below_limit code s t th d e = ⊎_elim (λ h. subst (Source code s t th) (sym h.0) (plain e (λ n. leb-false s.limit th.count (h.1 n)))) (λ h. ends trap.Limit h) (limited_is (nat_le s.limit th.count) d)

unless_owed : (code : Code) (s : SetupView) (t : ℕ) (th : Thread) (o : Option Stripe) (d : Due) → Source code s t th d → Source code s t th (owing o d)
unless_owed code s t th o d h = ⊎_elim (λ e. subst (Source code s t th) (sym e) h) (λ e. owed e.0 e.1) (owing_is o d)

unless_full : (code : Code) (s : SetupView) (t : ℕ) (th : Thread) (full : Bool) (d : Due) → Source code s t th d → Source code s t th (listed full d)
unless_full code s t th full d h = ⊎_elim (λ e. subst (Source code s t th) (sym e.0) h) (λ e. ends trap.LogFull e) (listed_is full d)

-- each due has a source
source : (code : Code) (s : SetupView) (t : ℕ) (th : Thread) → Source code s t th (due_of code s t th)
source code s t th =
    unless_full code s t th (nat_le most_entries th.entries) _ (unless_owed code s t th (first_owed th.stripes) _ (below_limit code s t th _ refl))

pub source_of : (code : Code) (s : SetupView) (t : ℕ) (th : Thread) (d : Due) → due_of code s t th ≡ d → Source code s t th d
source_of code s t th d e = subst (Source code s t th) e (source code s t th)

-- what is quiet, an access, a mark or nothing is due by the code alone

quiet_source : (code : Code) (s : SetupView) (t : ℕ) (th : Thread) → Source code s t th due.Quiet → phase_due code s t th th.phase ≡ due.Quiet
quiet_source code s t th (plain e h) = e
quiet_source code s t th (owed x e) = cc
quiet_source code s t th (ends kind e) = cc

pub quiet_by_code : (code : Code) (s : SetupView) (t : ℕ) (th : Thread) → due_of code s t th ≡ due.Quiet → phase_due code s t th th.phase ≡ due.Quiet
quiet_by_code code s t th e = quiet_source code s t th (source_of code s t th due.Quiet e)

nothing_source : (code : Code) (s : SetupView) (t : ℕ) (th : Thread) → Source code s t th due.Nothing → phase_due code s t th th.phase ≡ due.Nothing
nothing_source code s t th (plain e h) = e
nothing_source code s t th (owed x e) = cc
nothing_source code s t th (ends kind e) = cc

pub nothing_by_code : (code : Code) (s : SetupView) (t : ℕ) (th : Thread) → due_of code s t th ≡ due.Nothing → phase_due code s t th th.phase ≡ due.Nothing
nothing_by_code code s t th e = nothing_source code s t th (source_of code s t th due.Nothing e)

-- an access or a mark, and that there is an event left for it
abbrev pub IsAccess : Due → Type 0
IsAccess (due.Load c) = Unit {0}
IsAccess (due.Store c w) = Unit {0}
IsAccess due.Mark = Unit {0}
IsAccess _ = ⊥

access_source : (code : Code) (s : SetupView) (t : ℕ) (th : Thread) (d : Due) → IsAccess d → Source code s t th d → (phase_due code s t th th.phase ≡ d) × (th.count < s.limit)
access_source code s t th (due.Load c) a (plain e h) = (e, h tt)
access_source code s t th (due.Load c) a (owed x e) = cc
access_source code s t th (due.Load c) a (ends kind e) = cc
access_source code s t th (due.Store c w) a (plain e h) = (e, h tt)
access_source code s t th (due.Store c w) a (owed x e) = cc
access_source code s t th (due.Store c w) a (ends kind e) = cc
access_source code s t th due.Mark a (plain e h) = (e, h tt)
access_source code s t th due.Mark a (owed x e) = cc
access_source code s t th due.Mark a (ends kind e) = cc
access_source code s t th due.Nothing a h = absurd a
access_source code s t th due.Quiet a h = absurd a
access_source code s t th (due.Operate o obj) a h = absurd a
access_source code s t th (due.Trap kind) a h = absurd a

pub access_by_code : (code : Code) (s : SetupView) (t : ℕ) (th : Thread) (d : Due) → IsAccess d → due_of code s t th ≡ d → (phase_due code s t th th.phase ≡ d) × (th.count < s.limit)
access_by_code code s t th d a e = access_source code s t th d a (source_of code s t th d e)

-- an operation is due by the code alone, within the limit or free of it, or it takes a stripe again
operate_source : (code : Code) (s : SetupView) (t : ℕ) (th : Thread) (o : Op) (obj : ObjId) → Source code s t th (due.Operate o obj) →
    (phase_due code s t th th.phase ≡ due.Operate o obj) × (is_free_of_limit o ≡ false → th.count < s.limit) ⊎ ((x : Stripe) × (o ≡ op.Retake) × (obj ≡ object.Weak x.lock x.stripe))
operate_source code s t th o obj (plain e h) = inl (e, h)
operate_source code s t th o obj (owed x e) = inr (x, cc, cc)
operate_source code s t th o obj (ends kind e) = cc

pub operate_by_code : (code : Code) (s : SetupView) (t : ℕ) (th : Thread) (o : Op) (obj : ObjId) → due_of code s t th ≡ due.Operate o obj →
    (phase_due code s t th th.phase ≡ due.Operate o obj) × (is_free_of_limit o ≡ false → th.count < s.limit) ⊎ ((x : Stripe) × (o ≡ op.Retake) × (obj ≡ object.Weak x.lock x.stripe))
operate_by_code code s t th o obj e = operate_source code s t th o obj (source_of code s t th (due.Operate o obj) e)

room_by_code : (full : Bool) (d : Due) (o : Op) (obj : ObjId) → listed full d ≡ due.Operate o obj → is_ending (name_of o) ≡ false → full ≡ false
room_by_code full d o obj e n = ⊎_elim (λ h. h.1 (subst NeedsRoom (sym e ∙ h.0) n)) (λ h. cc) (listed_is full d)

-- an operation that isn't an ending one has room in the list of entries
pub operate_room : (code : Code) (s : SetupView) (t : ℕ) (th : Thread) (o : Op) (obj : ObjId) → due_of code s t th ≡ due.Operate o obj → is_ending (name_of o) ≡ false → th.entries < most_entries
operate_room code s t th o obj e n = leb-false most_entries th.entries (room_by_code (nat_le most_entries th.entries) _ o obj e n)

-- what limits and owed stripes leave as it is

same_due : (full over : Bool) (first : Option Stripe) (d x : Due) → d ≡ x → listed full (owing first (limited over x)) ≡ x → listed full (owing first (limited over d)) ≡ x
same_due full over first d x e h = ap (λ z. listed full (owing first (limited over z))) e ∙ h

quiet_stays : (full over : Bool) (first : Option Stripe) → listed full (owing first (limited over due.Quiet)) ≡ due.Quiet
quiet_stays true true None = refl
quiet_stays true true (Some x) = refl
quiet_stays true false None = refl
quiet_stays true false (Some x) = refl
quiet_stays false true None = refl
quiet_stays false true (Some x) = refl
quiet_stays false false None = refl
quiet_stays false false (Some x) = refl

nothing_stays : (full over : Bool) (first : Option Stripe) → listed full (owing first (limited over due.Nothing)) ≡ due.Nothing
nothing_stays true true None = refl
nothing_stays true true (Some x) = refl
nothing_stays true false None = refl
nothing_stays true false (Some x) = refl
nothing_stays false true None = refl
nothing_stays false true (Some x) = refl
nothing_stays false false None = refl
nothing_stays false false (Some x) = refl

leave_stays : (full over : Bool) (first : Option Stripe) → listed full (owing first (limited over (due.Operate op.Leave object.Threads))) ≡ due.Operate op.Leave object.Threads
leave_stays true true None = refl
leave_stays true true (Some x) = refl
leave_stays true false None = refl
leave_stays true false (Some x) = refl
leave_stays false true None = refl
leave_stays false true (Some x) = refl
leave_stays false false None = refl
leave_stays false false (Some x) = refl

pub quiet_due : (code : Code) (s : SetupView) (t : ℕ) (th : Thread) → phase_due code s t th th.phase ≡ due.Quiet → due_of code s t th ≡ due.Quiet
quiet_due code s t th e = same_due (nat_le most_entries th.entries) (nat_le s.limit th.count) (first_owed th.stripes) _ due.Quiet e (quiet_stays (nat_le most_entries th.entries) (nat_le s.limit th.count) (first_owed th.stripes))

pub nothing_due : (code : Code) (s : SetupView) (t : ℕ) (th : Thread) → phase_due code s t th th.phase ≡ due.Nothing → due_of code s t th ≡ due.Nothing
nothing_due code s t th e = same_due (nat_le most_entries th.entries) (nat_le s.limit th.count) (first_owed th.stripes) _ due.Nothing e (nothing_stays (nat_le most_entries th.entries) (nat_le s.limit th.count) (first_owed th.stripes))

pub leave_due : (code : Code) (s : SetupView) (t : ℕ) (th : Thread) → phase_due code s t th th.phase ≡ due.Operate op.Leave object.Threads → due_of code s t th ≡ due.Operate op.Leave object.Threads
leave_due code s t th e = same_due (nat_le most_entries th.entries) (nat_le s.limit th.count) (first_owed th.stripes) _ (due.Operate op.Leave object.Threads) e (leave_stays (nat_le most_entries th.entries) (nat_le s.limit th.count) (first_owed th.stripes))
