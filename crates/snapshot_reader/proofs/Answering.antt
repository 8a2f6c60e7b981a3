-- From the judgements of a draft to the answer.
use Rattle.std.proofs.Common.{◌≡◌, ℕ, ◌+◌, ◌^◌, ◌<◌, ◌≤◌, true, false, inr, List, [], ◌∷◌, ◌++◌, length, map, take, Some, None, Ok, Err, refl, sym, ap, subst, ◌∙◌, arith}
use Rattle.std.specs.Prelude.{◌&&◌, ◌==◌, nat_le, nat_lt, slice_get, IsTrue}
use Rattle.std.specs.List.{AllByRecursion}
use Rattle.std.proofs.lemmas.Bool.{and_parts, eqb-true, leb-true, ltb-true}
use Rattle.std.proofs.lemmas.List.{length-map}
use Rattle.profiles.specs.Profile.{Text}
use Rattle.sync_objects.specs.Setup.{SetupView, IsWithinLimits}
use Rattle.word_semantics.specs.Library.{most_printed}
use Rattle.word_semantics.specs.Limits.{most_entries, most_revokes}
use Rattle.flow_code.specs.declared.code.Code.{Code}
use Rattle.flow_code.specs.Settle.{IsRunnable}
use Rattle.flow_code.specs.Threads.{arena_end, arena_start}
use Rattle.thread_interpreter.specs.Flows.{most_extra}
use Rattle.order_log.proofs.Lists.{All_back, All_front}
use Rattle.snapshots.specs.Conditions.{AllFit, IsForm, IsThreadForm, cells_judged, head_fits, is_alone, judgements, objects_judged, phase_fits, thread_judged, threads_judged}
use Rattle.snapshots.specs.Text.{draft_of, draft_text}
use Rattle.snapshots.specs.declared.draft.Draft.{Draft}
use Rattle.snapshots.specs.declared.draft.DraftThread.{DraftThread}
use Rattle.snapshots.specs.declared.draft.Head.{Head}
use Rattle.snapshots.specs.declared.draft.HeadPhase.{HeadPhase}
use Rattle.snapshots.specs.declared.draft.HeadPhase.TheVariants as phase
use Rattle.snapshots.specs.declared.snapshot.Snapshot.{Snapshot}
use Rattle.snapshot_lines.specs.Lines.{clipped_region, clipped_stripe}
use Rattle.snapshot_grammar.specs.Drafts.{clipped_draft, clipped_thread}
use Rattle.snapshot_reader.specs.Made.{AllCanBe, IsPhase}
use Rattle.snapshot_reader.specs.Misfits.{Misfits}
use Rattle.snapshot_reader.specs.Reading.{AreFew, AreShort, IsAnswer}
use Rattle.snapshot_reader.specs.declared.fault.SnapshotFault.TheVariants.{Refused}
use Rattle.snapshot_reader.proofs.ClippedDrafts.{draft_alike, draft_kept}
use Rattle.snapshot_reader.proofs.Clips.{alike_first, alike_fit}

-- ---- as few threads, stripes and regions as were read

few_of : (ds : List DraftThread) → AreFew (map clipped_thread ds) → AreFew ds
few_of [] h = tt
few_of (d ∷ ds) h =
    let a = h.0.0 in
    let b = h.0.1 in
    let x = length-map d.stripes clipped_stripe in
    let y = length-map d.regions clipped_region in
    ((subst (λ (n : ℕ). n < 4294967295) x a, subst (λ (n : ℕ). n < 4294967295) y b), few_of ds h.1)

pub few_threads : (slots : ℕ) (d y : Draft) → slots ≤ 16 → IsForm slots d → y ≡ clipped_draft d → length y.threads ≤ 16
few_threads slots d y few form e = let a = ap (λ (z : Draft). length z.threads) e in let b = length-map d.threads clipped_thread in let c = form.count in omega arith

-- ---- each thread can be

phase_of : (code : Code) (t : ℕ) (h : Head) (p : HeadPhase) → phase_fits code t h p ≡ true → IsPhase p
phase_of code t h phase.Fresh e = tt
phase_of code t h (phase.Begun f) e = tt
phase_of code t h phase.Running e = tt
phase_of code t h phase.Ended e = tt
phase_of code t h (phase.Trapped kind line) e =
    let q = and_parts (nat_le 1 kind) (nat_le kind 18 && (nat_lt line (2 ^ 32) && is_alone h)) e in
    let r = and_parts (nat_le kind 18) (nat_lt line (2 ^ 32) && is_alone h) q.1 in
    let u = and_parts (nat_lt line (2 ^ 32)) (is_alone h) r.1 in
    (leb-true 1 kind q.0, leb-true kind 18 r.0, ltb-true line (2 ^ 32) u.0)

head_of : (code : Code) (s : SetupView) (t : ℕ) (h : Head) → head_fits code s t h ≡ true → (h.number ≡ t) × (phase_fits code t h h.phase ≡ true)
head_of code s t h e =
    let p7 = phase_fits code t h h.phase in
    let p6 = nat_le h.printed most_printed && p7 in
    let p5 = nat_le h.revokes most_revokes && p6 in
    let p4 = nat_le h.entries most_entries && p5 in
    let p3 = nat_le h.arena (arena_end code s t) && p4 in
    let p2 = nat_le (arena_start code s t) h.arena && p3 in
    let p1 = nat_le h.count (s.limit + most_extra) && p2 in
    let q0 = and_parts (h.number == t) p1 e in
    let q1 = and_parts (nat_le h.count (s.limit + most_extra)) p2 q0.1 in
    let q2 = and_parts (nat_le (arena_start code s t) h.arena) p3 q1.1 in
    let q3 = and_parts (nat_le h.arena (arena_end code s t)) p4 q2.1 in
    let q4 = and_parts (nat_le h.entries most_entries) p5 q3.1 in
    let q5 = and_parts (nat_le h.revokes most_revokes) p6 q4.1 in
    let q6 = and_parts (nat_le h.printed most_printed) p7 q5.1 in
    (eqb-true h.number t q0.0, q6.1)

all_can : (code : Code) (s : SetupView) (t : ℕ) (ds : List DraftThread) → AllByRecursion IsThreadForm ds → AllFit (threads_judged code s t ds) → AllCanBe t ds
all_can code s t [] form h = tt
all_can code s t (d ∷ ds) form h =
    let first = All_front IsTrue (thread_judged code s t d) (threads_judged code s (t + 1) ds) h in
    let rest = All_back IsTrue (thread_judged code s t d) (threads_judged code s (t + 1) ds) h in
    let head = head_of code s t d.head first.0 in
    (record { number = head.0; frames = sym form.0.frames; stripes = sym form.0.stripes; regions = sym form.0.regions; phase = phase_of code t d.head d.head.phase head.1 }, all_can code s (t + 1) ds form.1 rest)

fit_threads : (code : Code) (s : SetupView) (n : ℕ) (d : Draft) → AllFit (judgements code s n d) → AllFit (threads_judged code s 0 d.threads)
fit_threads code s n d h =
    let after_cells = All_back IsTrue (cells_judged code s None d.cells) (true ∷ (objects_judged code s None d.objects ++ threads_judged code s 0 d.threads)) h.1.1.1 in
    All_back IsTrue (objects_judged code s None d.objects) (threads_judged code s 0 d.threads) after_cells.1

-- ---- answers

module _ (code : Code) (s : SetupView) (n : ℕ) (run : IsRunnable code) (limits : IsWithinLimits s) (locks : length code.locks ≤ 65472) (few : n ≤ 16777312) (short : AreShort code.functions) where
  module _ (d y : Draft) (form : IsForm s.slots d) (e : y ≡ clipped_draft d) (fewer : AreFew y.threads) where
    fewer_in : AreFew d.threads
    fewer_in = few_of d.threads (subst (λ (z : Draft). AreFew z.threads) e fewer)

    -- where all of it is as it must be, nothing was cut off
    pub as_read : AllFit (judgements code s n y) → (y ≡ d) × AllFit (judgements code s n d)
    as_read h =
        let alike = draft_alike code s run limits locks short n few d form fewer_in in
        let fits = alike_fit (judgements code s n d) (judgements code s n (clipped_draft d)) alike (subst (λ (z : Draft). AllFit (judgements code s n z)) e h) in
        (e ∙ draft_kept code s run limits locks short n few d form fewer_in fits, fits)

    pub can_be : AllFit (judgements code s n y) → AllCanBe 0 y.threads
    can_be h =
        let r = as_read h in
        subst (λ (z : Draft). AllCanBe 0 z.threads) (sym r.0) (all_can code s 0 d.threads form.threads (fit_threads code s n d r.1))

    pub refused : (bytes : Text) (line : ℕ) → bytes ≡ draft_text d → Misfits (judgements code s n y) 1 (Some line) → IsAnswer code s n bytes (Err (Refused 26 line))
    refused bytes line text h =
        let alike = draft_alike code s run limits locks short n few d form fewer_in in
        let fit = subst (λ (z : Draft). AllFit (take h.0 (judgements code s n z))) e h.2 in
        let misfit = subst (λ (z : Draft). slice_get (judgements code s n z) h.0 ≡ Some false) e h.3 in
        let first = alike_first (judgements code s n d) (judgements code s n (clipped_draft d)) h.0 alike fit misfit in
        (h.0, let a = h.1 in omega arith, inr (refl, record { draft = d; form = form; text = text; fit = first.0; misfit = first.1 }))

    pub accepted : (bytes : Text) (x : Snapshot) → bytes ≡ draft_text d → AllFit (judgements code s n y) → draft_of x ≡ y → IsAnswer code s n bytes (Ok x)
    accepted bytes x text h made =
        let r = as_read h in
        let same : d ≡ draft_of x = sym r.0 ∙ sym made in
        (record { form = subst (IsForm s.slots) same form; fits = subst (λ (z : Draft). AllFit (judgements code s n z)) same r.1 }, text ∙ ap draft_text same)
