-- A draft is that of one snapshot.
use Rattle.std.proofs.Common.{◌≡◌, ℕ, ◌+◌, List, [], ◌∷◌, Some, refl, sym, ap, ◌∙◌}
use Rattle.std.proofs.lemmas.Option.{same_Some}
use Rattle.rr_base.specs.Traps.{trap_number}
use Rattle.rr_base.specs.declared.trap.Trap.{Trap}
use Rattle.rr_base.specs.declared.trap.Trap.TheVariants.{DivideByZero, Overflow, ShiftRange, BadDereference, OutOfObject, BadKind, BadSize, ArenaFull, MutexMisuse, BarrierMisuse, BadThread, Limit, CastRange, PointerToNumber, CompareObjects, Depth, LogFull, RwMisuse}
use Rattle.thread_interpreter.specs.declared.part.PhasePart.{PhasePart}
use Rattle.thread_interpreter.specs.declared.part.PhasePart.TheVariants as part
use Rattle.thread_interpreter.specs.declared.part.ThreadPart.{ThreadPart}
use Rattle.snapshots.specs.Text.{draft_of, head_phase, thread_draft, threads_from}
use Rattle.snapshots.specs.declared.draft.Draft.{Draft}
use Rattle.snapshots.specs.declared.draft.DraftThread.{DraftThread}
use Rattle.snapshots.specs.declared.draft.HeadPhase.{HeadPhase}
use Rattle.snapshots.specs.declared.draft.HeadPhase.TheVariants as phase
use Rattle.snapshots.specs.declared.snapshot.Snapshot.{Snapshot}
use Rattle.snapshot_reader.specs.Traps.{trap_of_number}

pub trap_again : (t : Trap) → trap_of_number (trap_number t) ≡ Some t
trap_again DivideByZero = refl
trap_again Overflow = refl
trap_again ShiftRange = refl
trap_again BadDereference = refl
trap_again OutOfObject = refl
trap_again BadKind = refl
trap_again BadSize = refl
trap_again ArenaFull = refl
trap_again MutexMisuse = refl
trap_again BarrierMisuse = refl
trap_again BadThread = refl
trap_again Limit = refl
trap_again CastRange = refl
trap_again PointerToNumber = refl
trap_again CompareObjects = refl
trap_again Depth = refl
trap_again LogFull = refl
trap_again RwMisuse = refl

trap_once : (t u : Trap) → trap_number t ≡ trap_number u → t ≡ u
trap_once t u e = same_Some t u (sym (trap_again t) ∙ ap trap_of_number e ∙ trap_again u)

abbrev begun_in : HeadPhase → ℕ
begun_in phase.Fresh = 0
begun_in (phase.Begun f) = f
begun_in phase.Running = 0
begun_in phase.Ended = 0
begun_in (phase.Trapped kind line) = kind

abbrev line_in : HeadPhase → ℕ
line_in phase.Fresh = 0
line_in (phase.Begun f) = 0
line_in phase.Running = 0
line_in phase.Ended = 0
line_in (phase.Trapped kind line) = line

phase_once : (p q : PhasePart) → head_phase p ≡ head_phase q → p ≡ q
phase_once part.Fresh part.Fresh e = refl
phase_once part.Fresh (part.Begun g) e = cc
phase_once part.Fresh part.Running e = cc
phase_once part.Fresh part.Ended e = cc
phase_once part.Fresh (part.Trapped other place) e = cc
phase_once (part.Begun f) part.Fresh e = cc
phase_once (part.Begun f) (part.Begun g) e = ap part.Begun (ap begun_in e)
phase_once (part.Begun f) part.Running e = cc
phase_once (part.Begun f) part.Ended e = cc
phase_once (part.Begun f) (part.Trapped other place) e = cc
phase_once part.Running part.Fresh e = cc
phase_once part.Running (part.Begun g) e = cc
phase_once part.Running part.Running e = refl
phase_once part.Running part.Ended e = cc
phase_once part.Running (part.Trapped other place) e = cc
phase_once part.Ended part.Fresh e = cc
phase_once part.Ended (part.Begun g) e = cc
phase_once part.Ended part.Running e = cc
phase_once part.Ended part.Ended e = refl
phase_once part.Ended (part.Trapped other place) e = cc
phase_once (part.Trapped kind line) part.Fresh e = cc
phase_once (part.Trapped kind line) (part.Begun g) e = cc
phase_once (part.Trapped kind line) part.Running e = cc
phase_once (part.Trapped kind line) part.Ended e = cc
phase_once (part.Trapped kind line) (part.Trapped other place) e = let k = trap_once kind other (ap begun_in e) in let l = ap line_in e in λ i. part.Trapped (k i) (l i)

thread_once : (t : ℕ) (p q : ThreadPart) → thread_draft t p ≡ thread_draft t q → p ≡ q
thread_once t p q e =
    let count = ap (λ (d : DraftThread). d.head.count) e in
    let arena = ap (λ (d : DraftThread). d.head.arena) e in
    let entries = ap (λ (d : DraftThread). d.head.entries) e in
    let revokes = ap (λ (d : DraftThread). d.head.revokes) e in
    let printed = ap (λ (d : DraftThread). d.head.printed) e in
    let frames = ap (λ (d : DraftThread). d.frames) e in
    let stripes = ap (λ (d : DraftThread). d.stripes) e in
    let regions = ap (λ (d : DraftThread). d.regions) e in
    let far = phase_once p.phase q.phase (ap (λ (d : DraftThread). d.head.phase) e) in
    λ i. record { count = count i; arena = arena i; entries = entries i; revokes = revokes i; printed = printed i; frames = frames i; stripes = stripes i; regions = regions i; phase = far i }

abbrev first_of : DraftThread → List DraftThread → DraftThread
first_of d [] = d
first_of d (x ∷ xs) = x

abbrev rest_of : List DraftThread → List DraftThread
rest_of [] = []
rest_of (x ∷ xs) = xs

threads_once : (t : ℕ) (ps qs : List ThreadPart) → threads_from t ps ≡ threads_from t qs → ps ≡ qs
threads_once t [] [] e = refl
threads_once t [] (q ∷ qs) e = cc
threads_once t (p ∷ ps) [] e = cc
threads_once t (p ∷ ps) (q ∷ qs) e =
    let first = thread_once t p q (ap (first_of (thread_draft t p)) e) in
    let rest = threads_once (t + 1) ps qs (ap rest_of e) in
    λ i. first i ∷ rest i

pub snapshot_once : (x y : Snapshot) → draft_of x ≡ draft_of y → x ≡ y
snapshot_once x y e =
    let at = ap (λ (d : Draft). d.at) e in
    let cells = ap (λ (d : Draft). d.cells) e in
    let objects = ap (λ (d : Draft). d.objects) e in
    let threads = threads_once 0 x.threads y.threads (ap (λ (d : Draft). d.threads) e) in
    λ i. record { at = at i; cells = cells i; objects = objects i; threads = threads i }
