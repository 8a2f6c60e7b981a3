-- The first misfit of a draft's lines, from those of its parts.
use Rattle.std.proofs.Common.{◌≡◌, ℕ, ◌+◌, true, false, ◌∷◌, ◌++◌, length, Option, Some, None, refl, ap, arith}
use Rattle.std.specs.Prelude.{nat_le}
use Rattle.order_log.specs.Reading.{shown}
use Rattle.sync_objects.specs.Setup.{SetupView}
use Rattle.flow_code.specs.declared.code.Code.{Code}
use Rattle.snapshots.specs.Conditions.{cells_judged, judgements, objects_judged, threads_judged}
use Rattle.snapshots.specs.declared.draft.Draft.{Draft}
use Rattle.snapshot_reader.specs.Misfits.{Misfits}
use Rattle.snapshot_reader.proofs.Counts.{cells_count, objects_count}
use Rattle.snapshot_reader.proofs.Judging.{misfits_back, misfits_front}
use Rattle.snapshot_reader.proofs.PartMisfits.{after_head}

module _ (code : Code) (s : SetupView) (n : ℕ) (d : Draft) where
  -- the snapshot was taken later than the log ends
  pub at_misfit : nat_le d.at n ≡ false → Misfits (judgements code s n d) 1 (Some 2)
  at_misfit late = (1, let e : 2 ≡ shown (1 + 1) = omega arith in e, (refl, tt), ap Some late)

  after_opening : (r : Option ℕ) → nat_le d.at n ≡ true → Misfits (cells_judged code s None d.cells ++ (true ∷ (objects_judged code s None d.objects ++ threads_judged code s 0 d.threads))) 4 r → Misfits (judgements code s n d) 1 r
  after_opening r soon h =
      let tail = cells_judged code s None d.cells ++ (true ∷ (objects_judged code s None d.objects ++ threads_judged code s 0 d.threads)) in
      after_head true (nat_le d.at n ∷ true ∷ tail) 1 2 r refl (omega arith) (after_head (nat_le d.at n) (true ∷ tail) 2 3 r soon (omega arith) (after_head true tail 3 4 r refl (omega arith) h))

  pub cell_misfit : (line : ℕ) → nat_le d.at n ≡ true → Misfits (cells_judged code s None d.cells) 4 (Some line) → Misfits (judgements code s n d) 1 (Some line)
  cell_misfit line soon h = after_opening (Some line) soon (misfits_front (cells_judged code s None d.cells) (true ∷ (objects_judged code s None d.objects ++ threads_judged code s 0 d.threads)) 4 line h)

  after_cells : (objects_at : ℕ) (r : Option ℕ) → nat_le d.at n ≡ true → Misfits (cells_judged code s None d.cells) 4 None → objects_at ≡ shown (5 + length d.cells)
      → Misfits (objects_judged code s None d.objects ++ threads_judged code s 0 d.threads) objects_at r → Misfits (judgements code s n d) 1 r
  after_cells objects_at r soon cells here h =
      let tail = objects_judged code s None d.objects ++ threads_judged code s 0 d.threads in
      let count = cells_count code s None d.cells in
      let next : shown (4 + length d.cells) ≡ shown (4 + length (cells_judged code s None d.cells)) = omega arith in
      let step : objects_at ≡ shown (shown (4 + length d.cells) + 1) = omega arith in
      after_opening r soon (misfits_back (cells_judged code s None d.cells) (true ∷ tail) 4 (shown (4 + length d.cells)) r next cells (after_head true tail (shown (4 + length d.cells)) objects_at r refl step h))

  pub object_misfit : (objects_at line : ℕ) → nat_le d.at n ≡ true → Misfits (cells_judged code s None d.cells) 4 None → objects_at ≡ shown (5 + length d.cells)
      → Misfits (objects_judged code s None d.objects) objects_at (Some line) → Misfits (judgements code s n d) 1 (Some line)
  object_misfit objects_at line soon cells here h = after_cells objects_at (Some line) soon cells here (misfits_front (objects_judged code s None d.objects) (threads_judged code s 0 d.threads) objects_at line h)

  pub threads_misfit : (objects_at threads_at : ℕ) (r : Option ℕ) → nat_le d.at n ≡ true → Misfits (cells_judged code s None d.cells) 4 None → objects_at ≡ shown (5 + length d.cells)
      → Misfits (objects_judged code s None d.objects) objects_at None → threads_at ≡ shown (objects_at + length d.objects)
      → Misfits (threads_judged code s 0 d.threads) threads_at r → Misfits (judgements code s n d) 1 r
  threads_misfit objects_at threads_at r soon cells here objects next h =
      let count = objects_count code s None d.objects in
      after_cells objects_at r soon cells here (misfits_back (objects_judged code s None d.objects) (threads_judged code s 0 d.threads) objects_at threads_at r (omega arith) objects h)
