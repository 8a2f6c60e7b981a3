-- A draft whose numbers are cut off is judged as the draft itself.
use Rattle.std.proofs.Common.{◌≡◌, ℕ, zero, suc, ◌+◌, ◌*◌, ◌^◌, ◌<◌, ◌≤◌, min, Bool, true, false, List, [], ◌∷◌, ◌++◌, length, map, Option, Some, None, refl, sym, ap, subst, ◌∙◌, arith}
use Rattle.std.specs.Prelude.{◌&&◌, ◌==◌, nat_lt, nat_le, slice_get, IsTrue}
use Rattle.std.specs.List.{AllByRecursion}
use Rattle.std.proofs.lemmas.Bool.{and_parts, leb-true, ltb-true, ltb-false, eqb-true, true≢false}
use Rattle.std.proofs.lemmas.Option.{slice_get_past, slice_get_within}
use Rattle.sync_objects.specs.Setup.{SetupView, IsWithinLimits}
use Rattle.sync_objects.specs.declared.object.ObjId.{ObjId}
use Rattle.word_semantics.specs.Library.{most_printed}
use Rattle.word_semantics.specs.Limits.{most_entries, most_frames, most_revokes}
use Rattle.flow_code.specs.declared.code.Code.{Code}
use Rattle.flow_code.specs.declared.code.Function.{Function}
use Rattle.flow_code.specs.Kinds.{may_start}
use Rattle.flow_code.specs.Settle.{IsRunnable}
use Rattle.flow_code.specs.Threads.{arena_end, arena_start, is_main, is_main_in}
use Rattle.thread_interpreter.specs.Flows.{most_extra}
use Rattle.thread_interpreter.specs.declared.part.FramePart.{FramePart}
use Rattle.thread_interpreter.specs.declared.part.StripePart.{StripePart}
use Rattle.core_run.specs.Words.{cells_of}
use Rattle.order_log.proofs.Lists.{All_front, All_back}
use Rattle.snapshots.specs.Conditions.{AllFit, IsForm, IsThreadForm, begins, cells_judged, frames_judged, head_fits, is_alone, judgements, object_fits, objects_judged, phase_fits, rank, regions_judged, stripes_judged, thread_judged, threads_judged}
use Rattle.snapshots.specs.declared.draft.Draft.{Draft}
use Rattle.snapshots.specs.declared.draft.DraftThread.{DraftThread}
use Rattle.snapshots.specs.declared.draft.Head.{Head}
use Rattle.snapshots.specs.declared.draft.HeadPhase.{HeadPhase}
use Rattle.snapshots.specs.declared.draft.HeadPhase.TheVariants as phase
use Rattle.snapshot_lines.specs.Lines.{byte_most, clipped_cell, clipped_entry, clipped_frame, clipped_head, clipped_phase, clipped_region, clipped_stripe, long_most, word_most}
use Rattle.snapshot_grammar.specs.Drafts.{clipped_draft, clipped_thread}
use Rattle.snapshot_reader.specs.Reading.{AreFew, AreShort}
use Rattle.snapshot_reader.proofs.ClippedThreads.{frames_alike, frames_kept, regions_alike, regions_kept, stripes_alike, stripes_in, stripes_kept}
use Rattle.snapshot_reader.proofs.Clipping.{cell_kept, cell_same, clip_eq, clip_ge, clip_le, clip_le_alone, clip_lt, entry_kept, kept_le, kept_lt, object_same}
use Rattle.snapshot_reader.proofs.Clips.{Alike, alike_append}
use Rattle.snapshot_reader.proofs.StateNumbers.{number_low}

fit_front : (bs cs : List Bool) → AllFit (bs ++ cs) → AllFit bs
fit_front bs cs h = All_front IsTrue bs cs h

fit_back : (bs cs : List Bool) → AllFit (bs ++ cs) → AllFit cs
fit_back bs cs h = All_back IsTrue bs cs h

module _ (code : Code) (s : SetupView) (run : IsRunnable code) (limits : IsWithinLimits s) (locks : length code.locks ≤ 65472) (short : AreShort code.functions) where
  functions : length code.functions ≤ 2 ^ 20
  functions = run.few_functions

  -- at most 16 arenas of 131,072 cells
  few_cells : cells_of code s ≤ 4194304
  few_cells =
      let slots = limits.few_slots in
      let cells = limits.few_cells in
      let globals = run.few_globals in
      let product : s.slots * s.cells ≤ 16 * 131072 = times s.slots s.cells slots cells in
      omega arith
    where
      times : (a b : ℕ) → a ≤ 16 → b ≤ 131072 → a * b ≤ 16 * 131072
      times a b h k = grind arith

  -- ---- cells and objects

  cells_alike : (b : Option ℕ) (cs : List (ℕ × ℕ)) → Alike (cells_judged code s b cs) (cells_judged code s b (map clipped_cell cs))
  cells_alike b [] = tt
  cells_alike b (c ∷ cs) = (
    cell_same code s few_cells b c,
    λ t. subst (λ (d : ℕ × ℕ). Alike (cells_judged code s (Some c.0) cs) (cells_judged code s (Some d.0) (map clipped_cell cs))) (sym (cell_kept code s few_cells b c t)) (cells_alike (Some c.0) cs),
  )

  cells_kept : (b : Option ℕ) (cs : List (ℕ × ℕ)) → AllFit (cells_judged code s b cs) → map clipped_cell cs ≡ cs
  cells_kept b [] h = refl
  cells_kept b (c ∷ cs) h = let first = cell_kept code s few_cells b c h.0 in let rest = cells_kept (Some c.0) cs h.1 in λ i. first i ∷ rest i

  abbrev rank_in : ObjId → ℕ
  rank_in o = rank (cells_of code s) (length code.locks) o

  same_entry : (b : Option ℕ) (o : ObjId × ℕ × ℕ) → object_fits code s b o ≡ object_fits code s b (clipped_entry o)
  same_entry b o = object_same code s few_cells locks limits.few_slots (λ n x k few e. number_low code s n run limits.few_slots k x few e) b o

  kept_entry : (b : Option ℕ) (o : ObjId × ℕ × ℕ) → object_fits code s b o ≡ true → clipped_entry o ≡ o
  kept_entry b o = entry_kept code s few_cells locks limits.few_slots (λ n x k few e. number_low code s n run limits.few_slots k x few e) b o

  objects_alike : (b : Option ℕ) (os : List (ObjId × ℕ × ℕ)) → Alike (objects_judged code s b os) (objects_judged code s b (map clipped_entry os))
  objects_alike b [] = tt
  objects_alike b (o ∷ os) = (
    same_entry b o,
    λ t. subst (λ (p : ObjId × ℕ × ℕ). Alike (objects_judged code s (Some (rank_in o.0)) os) (objects_judged code s (Some (rank_in p.0)) (map clipped_entry os))) (sym (kept_entry b o t)) (objects_alike (Some (rank_in o.0)) os),
  )

  objects_kept : (b : Option ℕ) (os : List (ObjId × ℕ × ℕ)) → AllFit (objects_judged code s b os) → map clipped_entry os ≡ os
  objects_kept b [] h = refl
  objects_kept b (o ∷ os) h = let first = kept_entry b o h.0 in let rest = objects_kept (Some (rank_in o.0)) os h.1 in λ i. first i ∷ rest i

  -- ---- the first line of a thread

  started_same : (f : ℕ) → slice_get code.functions f ≡ slice_get code.functions (min f word_most)
  started_same f = by (nat_lt f 4294967295) refl
    where
      by : (t : Bool) → nat_lt f 4294967295 ≡ t → slice_get code.functions f ≡ slice_get code.functions (min f word_most)
      by true e = let lt = ltb-true f 4294967295 e in let same : min f word_most ≡ f = omega arith in ap (slice_get code.functions) (sym same)
      by false e = let few = functions in let ge : 4294967295 ≤ f = omega (arith, ltb-false f 4294967295 e) in slice_get_past code.functions f (omega arith) ∙ sym (slice_get_past code.functions (min f word_most) (omega arith))

  begins_same : (t f : ℕ) → begins code t f ≡ begins code t (min f word_most)
  begins_same zero f = ap is_main_in (started_same f)
  begins_same (suc k) f = ap may_start (started_same f)

  zero_same : (n : ℕ) → (n == 0) ≡ (min n long_most == 0)
  zero_same n = clip_eq n 0 long_most (omega arith)

  alone_same : (h : Head) → is_alone h ≡ is_alone (clipped_head h)
  alone_same h = λ i. zero_same h.frames i && (zero_same h.stripes i && zero_same h.regions i)

  phase_same : (t : ℕ) (h : Head) (p : HeadPhase) → phase_fits code t h p ≡ phase_fits code t (clipped_head h) (clipped_phase p)
  phase_same t h phase.Fresh = ap (λ (b : Bool). nat_le 1 t && b) (zero_same h.frames)
  phase_same t h (phase.Begun f) = λ i. begins_same t f i && zero_same h.frames i
  phase_same t h phase.Running = (λ i. clip_ge h.frames 1 long_most (omega arith) i && clip_le_alone h.frames most_frames long_most (omega arith) i)
  phase_same t h phase.Ended = alone_same h
  phase_same t h (phase.Trapped kind line) =
      ap (λ (b : Bool). nat_le 1 kind && (nat_le kind 18 && (nat_lt line (2 ^ 32) && b))) (alone_same h)
      ∙ ap (λ (b : Bool). nat_le 1 kind && (nat_le kind 18 && b)) (clip_lt line (2 ^ 32) long_most (λ z. is_alone (clipped_head h)) (omega arith))
      ∙ (λ i. clip_ge kind 1 byte_most (omega arith) i && clip_le kind 18 byte_most (λ z. nat_lt (min line long_most) (2 ^ 32) && is_alone (clipped_head h)) (omega arith) i)

  module _ (t : ℕ) (slot : t < 16) where
    arena_low : arena_end code s t < 4294967295
    arena_low =
        let cells = limits.few_cells in
        let slots = limits.few_slots in
        let globals = run.few_globals in
        let product : t * s.cells ≤ 16 * 131072 = times t s.cells (omega arith) cells in
        omega arith
      where
        times : (a b : ℕ) → a ≤ 16 → b ≤ 131072 → a * b ≤ 16 * 131072
        times a b h k = grind arith

    head_same : (h : Head) → head_fits code s t h ≡ head_fits code s t (clipped_head h)
    head_same h =
        let events = limits.few_events in
        let end = arena_low in
        λ i.
        clip_eq h.number t word_most (omega arith) i
        && (clip_le_alone h.count (s.limit + most_extra) word_most (omega arith) i
        && (clip_ge h.arena (arena_start code s t) word_most (omega arith) i
        && (clip_le_alone h.arena (arena_end code s t) word_most (omega arith) i
        && (clip_le_alone h.entries most_entries word_most (omega arith) i
        && (clip_le_alone h.revokes most_revokes word_most (omega arith) i
        && (clip_le_alone h.printed most_printed word_most (omega arith) i
        && phase_same t h h.phase i))))))

    phase_kept : (h : Head) (p : HeadPhase) → phase_fits code t h p ≡ true → (clipped_phase p ≡ p) × (h.frames ≤ 1000)
    phase_kept h phase.Fresh e = let q = and_parts (nat_le 1 t) (h.frames == 0) e in let z = eqb-true h.frames 0 q.1 in (refl, omega arith)
    phase_kept h (phase.Begun f) e =
        let q = and_parts (begins code t f) (h.frames == 0) e in
        let z = eqb-true h.frames 0 q.1 in
        (ap phase.Begun (begun_kept t f q.0), omega arith)
      where
        started_kept : (o : ℕ) → may_start (slice_get code.functions o) ≡ true → min o word_most ≡ o
        started_kept o e = by (slice_get code.functions o) refl e
          where
            by : (x : Option Function) → slice_get code.functions o ≡ x → may_start x ≡ true → min o word_most ≡ o
            by None is k = absurd (true≢false (sym k))
            by (Some g) is k = let within = slice_get_within code.functions o g is in let few = functions in omega arith

        main_kept : (o : ℕ) → is_main code o ≡ true → min o word_most ≡ o
        main_kept o e = by (slice_get code.functions o) refl e
          where
            by : (x : Option Function) → slice_get code.functions o ≡ x → is_main_in x ≡ true → min o word_most ≡ o
            by None is k = absurd (true≢false (sym k))
            by (Some g) is k = let within = slice_get_within code.functions o g is in let few = functions in omega arith

        begun_kept : (u o : ℕ) → begins code u o ≡ true → min o word_most ≡ o
        begun_kept zero o k = main_kept o k
        begun_kept (suc u) o k = started_kept o k
    phase_kept h phase.Running e = let q = and_parts (nat_le 1 h.frames) (nat_le h.frames most_frames) e in (refl, leb-true h.frames most_frames q.1)
    phase_kept h phase.Ended e = let q = and_parts (h.frames == 0) ((h.stripes == 0) && (h.regions == 0)) e in let z = eqb-true h.frames 0 q.0 in (refl, omega arith)
    phase_kept h (phase.Trapped kind line) e =
        let q = and_parts (nat_le 1 kind) (nat_le kind 18 && (nat_lt line (2 ^ 32) && is_alone h)) e in
        let r = and_parts (nat_le kind 18) (nat_lt line (2 ^ 32) && is_alone h) q.1 in
        let u = and_parts (nat_lt line (2 ^ 32)) (is_alone h) r.1 in
        let v = and_parts (h.frames == 0) ((h.stripes == 0) && (h.regions == 0)) u.1 in
        let z = eqb-true h.frames 0 v.0 in
        let k = kept_le kind 18 byte_most r.0 (omega arith) in
        let l = kept_lt line (2 ^ 32) long_most u.0 (omega arith) in
        (λ i. phase.Trapped (k i) (l i), omega arith)

    head_kept : (h : Head) → h.stripes < 4294967295 → h.regions < 4294967295 → head_fits code s t h ≡ true → (clipped_head h ≡ h) × (h.frames ≤ 1000)
    head_kept h few_stripes few_regions e =
        let events = limits.few_events in
        let end = arena_low in
        let p7 = phase_fits code t h h.phase in
        let p6 = nat_le h.printed most_printed && p7 in
        let p5 = nat_le h.revokes most_revokes && p6 in
        let p4 = nat_le h.entries most_entries && p5 in
        let p3 = nat_le h.arena (arena_end code s t) && p4 in
        let p2 = nat_le (arena_start code s t) h.arena && p3 in
        let p1 = nat_le h.count (s.limit + most_extra) && p2 in
        let q0 = and_parts (h.number == t) p1 e in
        let q1 = and_parts (nat_le h.count (s.limit + most_extra)) p2 q0.1 in
        let q2 = and_parts (nat_le (arena_start code s t) h.arena) p3 q1.1 in
        let q3 = and_parts (nat_le h.arena (arena_end code s t)) p4 q2.1 in
        let q4 = and_parts (nat_le h.entries most_entries) p5 q3.1 in
        let q5 = and_parts (nat_le h.revokes most_revokes) p6 q4.1 in
        let q6 = and_parts (nat_le h.printed most_printed) p7 q5.1 in
        let same = eqb-true h.number t q0.0 in
        let number : min h.number word_most ≡ h.number = omega arith in
        let count = kept_le h.count (s.limit + most_extra) word_most q1.0 (omega arith) in
        let arena = kept_le h.arena (arena_end code s t) word_most q3.0 (omega arith) in
        let entries = kept_le h.entries most_entries word_most q4.0 (omega arith) in
        let revokes = kept_le h.revokes most_revokes word_most q5.0 (omega arith) in
        let printed = kept_le h.printed most_printed word_most q6.0 (omega arith) in
        let far = phase_kept h h.phase q6.1 in
        let shallow = far.1 in
        let frames : min h.frames long_most ≡ h.frames = omega arith in
        let stripes : min h.stripes long_most ≡ h.stripes = omega arith in
        let regions : min h.regions long_most ≡ h.regions = omega arith in
        (λ i. record { number = number i; count = count i; arena = arena i; entries = entries i; revokes = revokes i; printed = printed i; frames = frames i; stripes = stripes i; regions = regions i; phase = far.0 i }, shallow)

    -- ---- threads

    module _ (d : DraftThread) (form : IsThreadForm d) (few_stripes : length d.stripes < 4294967295) (few_regions : length d.regions < 4294967295) where
      kept_head : head_fits code s t d.head ≡ true → (clipped_head d.head ≡ d.head) × (d.head.frames ≤ 1000)
      kept_head e = let a = form.stripes in let b = form.regions in head_kept d.head (omega arith) (omega arith) e

      shallow : head_fits code s t d.head ≡ true → length d.frames < 4294967295
      shallow e = let a = form.frames in let b = (kept_head e).1 in omega arith

      thread_alike : Alike (thread_judged code s t d) (thread_judged code s t (clipped_thread d))
      thread_alike = (
        head_same d.head,
        λ e. alike_append (frames_judged code s None d.frames) (frames_judged code s None (map clipped_frame d.frames)) _ _ (frames_alike code s short functions None d.frames)
            (λ f. alike_append (stripes_judged code s d.regions None d.stripes) (stripes_judged code s (map clipped_region d.regions) None (map clipped_stripe d.stripes)) _ _
            (stripes_alike code s short functions locks d.regions few_regions None d.stripes)
            (λ x. subst (λ (fs : List FramePart). Alike (regions_judged code d.frames d.stripes None d.regions) (regions_judged code fs (map clipped_stripe d.stripes) None (map clipped_region d.regions))) (sym (frames_kept code s short functions None d.frames f))
            (subst (λ (xs : List StripePart). Alike (regions_judged code d.frames d.stripes None d.regions) (regions_judged code d.frames xs None (map clipped_region d.regions))) (sym (stripes_kept code s short functions locks d.regions few_regions None d.stripes x))
            (regions_alike code s short functions locks d.frames d.stripes (stripes_in code s short functions locks d.regions None d.stripes x) (shallow e) None d.regions)))),
      )

      thread_kept : AllFit (thread_judged code s t d) → clipped_thread d ≡ d
      thread_kept h =
          let frames_part = frames_judged code s None d.frames in
          let stripes_part = stripes_judged code s d.regions None d.stripes in
          let regions_part = regions_judged code d.frames d.stripes None d.regions in
          let f = fit_front frames_part (stripes_part ++ regions_part) h.1 in
          let rest = fit_back frames_part (stripes_part ++ regions_part) h.1 in
          let x = fit_front stripes_part regions_part rest in
          let r = fit_back stripes_part regions_part rest in
          let head = (kept_head h.0).0 in
          let frames = frames_kept code s short functions None d.frames f in
          let stripes = stripes_kept code s short functions locks d.regions few_regions None d.stripes x in
          let regions = regions_kept code s short functions locks d.frames d.stripes (stripes_in code s short functions locks d.regions None d.stripes x) (shallow h.0) None d.regions r in
          λ i. record { head = head i; frames = frames i; stripes = stripes i; regions = regions i }

  threads_alike : (t : ℕ) (ds : List DraftThread) → t + length ds ≤ 16 → AllByRecursion IsThreadForm ds → AreFew ds → Alike (threads_judged code s t ds) (threads_judged code s t (map clipped_thread ds))
  threads_alike t [] le form few = tt
  threads_alike t (d ∷ ds) le form few =
      alike_append (thread_judged code s t d) (thread_judged code s t (clipped_thread d)) (threads_judged code s (t + 1) ds) (threads_judged code s (t + 1) (map clipped_thread ds))
      (thread_alike t (omega arith) d form.0 few.0.0 few.0.1) (λ h. threads_alike (t + 1) ds (omega arith) form.1 few.1)

  threads_kept : (t : ℕ) (ds : List DraftThread) → t + length ds ≤ 16 → AllByRecursion IsThreadForm ds → AreFew ds → AllFit (threads_judged code s t ds) → map clipped_thread ds ≡ ds
  threads_kept t [] le form few h = refl
  threads_kept t (d ∷ ds) le form few h =
      let first = thread_kept t (omega arith) d form.0 few.0.0 few.0.1 (fit_front (thread_judged code s t d) (threads_judged code s (t + 1) ds) h) in
      let rest = threads_kept (t + 1) ds (omega arith) form.1 few.1 (fit_back (thread_judged code s t d) (threads_judged code s (t + 1) ds) h) in
      λ i. first i ∷ rest i

  -- ---- drafts

  module _ (n : ℕ) (few_entries : n ≤ 16777312) (d : Draft) (form : IsForm s.slots d) (few : AreFew d.threads) where
    slots_of : 0 + length d.threads ≤ 16
    slots_of = let a = form.count in let b = limits.few_slots in omega arith

    pub draft_alike : Alike (judgements code s n d) (judgements code s n (clipped_draft d))
    draft_alike = (
      refl,
      λ a. (
        clip_le_alone d.at n word_most (omega arith),
        λ b. (
          refl,
          λ c. alike_append (cells_judged code s None d.cells) (cells_judged code s None (map clipped_cell d.cells)) _ _ (cells_alike None d.cells)
              (λ cells. (
                refl,
                λ e. alike_append (objects_judged code s None d.objects) (objects_judged code s None (map clipped_entry d.objects)) _ _ (objects_alike None d.objects)
                    (λ objects. threads_alike 0 d.threads slots_of form.threads few),
              )),
        ),
      ),
    )

    pub draft_kept : AllFit (judgements code s n d) → clipped_draft d ≡ d
    draft_kept h =
        let cells_part = cells_judged code s None d.cells in
        let objects_part = objects_judged code s None d.objects in
        let threads_part = threads_judged code s 0 d.threads in
        let after_cells = fit_back cells_part (true ∷ (objects_part ++ threads_part)) h.1.1.1 in
        let at = kept_le d.at n word_most h.1.0 (omega arith) in
        let cells = cells_kept None d.cells (fit_front cells_part (true ∷ (objects_part ++ threads_part)) h.1.1.1) in
        let objects = objects_kept None d.objects (fit_front objects_part threads_part after_cells.1) in
        let threads = threads_kept 0 d.threads slots_of form.threads few (fit_back objects_part threads_part after_cells.1) in
        λ i. record { at = at i; cells = cells i; objects = objects i; threads = threads i }
