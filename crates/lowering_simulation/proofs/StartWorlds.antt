-- The start of a machine with the source's cells shows the start of the source.
use Rattle.std.proofs.Common.{◌≡◌, ℕ, zero, suc, ◌+◌, ◌-◌, ◌*◌, ◌<◌, ◌≤◌, Bool, true, false, if◌then◌else◌, nat_lt, List, [], ◌∷◌, ◌++◌, length, replicate, Option, Some, None, refl, sym, ap, subst, ◌∙◌, length-append, arith}
use Rattle.std.specs.Prelude.{slice_get}
use Rattle.std.proofs.lemmas.Bool.{ltb-true}
use Rattle.std.proofs.lemmas.List.{length-replicate}
use Rattle.rr_base.specs.declared.layout.CellKind.{CellKind}
use Rattle.rr_base.specs.declared.layout.CellKind.TheVariants as kind
use Rattle.rr_base.proofs.Lists.{slice_get-append_left, slice_get-append_right}
use Rattle.sync_objects.specs.Setup.{SetupView, IsWithinLimits}
use Rattle.flow_code.specs.declared.code.Code.{Code}
use Rattle.flow_code.specs.Settle.{IsRunnable}
use Rattle.flow_code.specs.Threads.{Thread}
use Rattle.core_tree.specs.Core.{Program}
use Rattle.core_tree.specs.Runs.{Run}
use Rattle.core_tree.specs.Meaning.{run_of}
use Rattle.core_run.specs.Histories as histories
use Rattle.core_run.specs.Words.{cells_of, start_global, start_globals, start_cells, start_objects, start_words}
use Rattle.core_run.specs.Machine.{Told, start_state}
use Rattle.thread_interpreter.specs.Starts.{start_thread}
use Rattle.core_run.proofs.Beginnings.{length-start_cells, start_word_at}
use Rattle.core_run.proofs.Reached.{start_length}
use Rattle.core_run.proofs.ThreadRanges.{start_thread_is}
use Rattle.run_theory.specs.Labels.{Label}
use Rattle.run_theory.specs.Steps.{State}
use Rattle.lowering_simulation.specs.RunEvents.{events_of_run, without_stripes}
use Rattle.lowering_simulation.specs.SourceRuns.{global_word, start_cell, start_standing, start_world, cell_count, IsSourceRun}
use Rattle.lowering_simulation.proofs.Makings.{IsMaking, IsProgress}
use Rattle.lowering_simulation.proofs.Simulates.{Matches, simulates}
use Rattle.lowering_simulation.proofs.Worlds.{is_had}

module _ (p : Program) (s : SetupView) where
  zero_at : (n i : ℕ) → i < n → slice_get {X = ℕ} (replicate n 0) i ≡ Some 0
  zero_at zero i h = absurd (omega arith)
  zero_at (suc n) zero h = refl
  zero_at (suc n) (suc i) h = zero_at n i (omega arith)

  first_global : (k : CellKind) (w : ℕ) → Some (start_global s.slots k w) ≡ Some (global_word p s (Some k) (Some w))
  first_global kind.Pointer w = refl
  first_global k w = refl

  global_at : (ks : List CellKind) (ws : List ℕ) (i : ℕ) → length ks ≡ length ws → i < length ws → slice_get (start_globals s.slots ks ws) i ≡ Some (global_word p s (slice_get ks i) (slice_get ws i))
  global_at [] [] i e lt = absurd (omega arith)
  global_at [] (w ∷ ws) i e lt = absurd (omega arith)
  global_at (k ∷ ks) [] i e lt = absurd (omega arith)
  global_at (k ∷ ks) (w ∷ ws) zero e lt = first_global k w
  global_at (k ∷ ks) (w ∷ ws) (suc i) e lt = global_at ks ws i (omega arith) (omega arith)

  no_global : (o : Option CellKind) → global_word p s o None ≡ 0
  no_global None = refl
  no_global (Some kind.Pointer) = refl
  no_global (Some k) = refl

  after_all : (ws : List ℕ) (i : ℕ) → length ws ≤ i → slice_get ws i ≡ None
  after_all [] i h = refl
  after_all (w ∷ ws) zero h = absurd (omega arith)
  after_all (w ∷ ws) (suc i) h = after_all ws i (omega arith)

  globals_length : (ks : List CellKind) (ws : List ℕ) → length (start_globals s.slots ks ws) ≡ length ws
  globals_length [] ws = refl
  globals_length (k ∷ ks) [] = refl
  globals_length (k ∷ ks) (w ∷ ws) = ap suc (globals_length ks ws)

  abbrev hands : List ℕ
  hands = replicate (2 * s.slots) 0

  abbrev globals : List ℕ
  globals = start_globals s.slots p.global_kinds p.globals

  abbrev arenas : List ℕ
  arenas = replicate (s.slots * s.cells) 0

  cell_of_hands : (c : ℕ) → c < 2 * s.slots → slice_get ((hands ++ globals) ++ arenas) c ≡ Some 0
  cell_of_hands c lt =
      let a : length hands ≡ 2 * s.slots = length-replicate (2 * s.slots) 0 in
      let b : length (hands ++ globals) ≡ length hands + length globals = length-append hands globals in
      slice_get-append_left (hands ++ globals) arenas c (omega arith) ∙ slice_get-append_left hands globals c (omega arith) ∙ zero_at (2 * s.slots) c lt

  cell_of_globals : (k : ℕ) → length p.global_kinds ≡ length p.globals → k < length p.globals → slice_get ((hands ++ globals) ++ arenas) (2 * s.slots + k) ≡ Some (global_word p s (slice_get p.global_kinds k) (slice_get p.globals k))
  cell_of_globals k kinds lt =
      let a : length hands ≡ 2 * s.slots = length-replicate (2 * s.slots) 0 in
      let b : length (hands ++ globals) ≡ length hands + length globals = length-append hands globals in
      let g = globals_length p.global_kinds p.globals in
      slice_get-append_left (hands ++ globals) arenas (2 * s.slots + k) (omega arith)
      ∙ ap (λ n. slice_get (hands ++ globals) (n + k)) (sym a) ∙ slice_get-append_right hands globals k ∙ global_at p.global_kinds p.globals k kinds lt

  cell_of_arenas : (i : ℕ) → i < s.slots * s.cells → slice_get ((hands ++ globals) ++ arenas) (2 * s.slots + (length p.globals + i)) ≡ Some 0
  cell_of_arenas i lt =
      let a : length hands ≡ 2 * s.slots = length-replicate (2 * s.slots) 0 in
      let b : length (hands ++ globals) ≡ length hands + length globals = length-append hands globals in
      let g = globals_length p.global_kinds p.globals in
      let place : 2 * s.slots + (length p.globals + i) ≡ length (hands ++ globals) + i = omega arith in
      ap (slice_get ((hands ++ globals) ++ arenas)) place ∙ slice_get-append_right (hands ++ globals) arenas i ∙ zero_at (s.slots * s.cells) i lt

  -- after the hand-off cells
  cell_after : (k : ℕ) (b : Bool) → nat_lt k (length p.globals) ≡ b → length p.global_kinds ≡ length p.globals → 2 * s.slots + k < cell_count p s → slice_get ((hands ++ globals) ++ arenas) (2 * s.slots + k) ≡ Some (global_word p s (slice_get p.global_kinds k) (slice_get p.globals k))
  cell_after k true e kinds lt = cell_of_globals k kinds (ltb-true k (length p.globals) e)
  cell_after k false e kinds lt =
      let high = not_below k (length p.globals) e in
      let i = k - length p.globals in
      let place : 2 * s.slots + k ≡ 2 * s.slots + (length p.globals + i) = omega arith in
      ap (slice_get ((hands ++ globals) ++ arenas)) place ∙ cell_of_arenas i (omega arith)
      ∙ sym (ap Some (ap (global_word p s (slice_get p.global_kinds k)) (after_all p.globals k high) ∙ no_global (slice_get p.global_kinds k)))
    where
      not_below : (m n : ℕ) → nat_lt m n ≡ false → n ≤ m
      not_below m n h = grind (arith, h)

  cell_by : (c : ℕ) (b : Bool) → nat_lt c (2 * s.slots) ≡ b → length p.global_kinds ≡ length p.globals → c < cell_count p s →
      slice_get ((hands ++ globals) ++ arenas) c ≡ Some (if b then 0 else global_word p s (slice_get p.global_kinds (c - 2 * s.slots)) (slice_get p.globals (c - 2 * s.slots)))
  cell_by c true e kinds lt = cell_of_hands c (ltb-true c (2 * s.slots) e)
  cell_by c false e kinds lt =
      let high = not_below c (2 * s.slots) e in
      let k = c - 2 * s.slots in
      let place : c ≡ 2 * s.slots + k = omega arith in
      ap (slice_get ((hands ++ globals) ++ arenas)) place ∙ cell_after k (nat_lt k (length p.globals)) refl kinds (omega arith)
    where
      not_below : (m n : ℕ) → nat_lt m n ≡ false → n ≤ m
      not_below m n h = grind (arith, h)

-- ---- a machine with the source's cells

module _ (p : Program) (s : SetupView) (code : Code) (globals_are : code.globals ≡ p.globals) (kinds_are : code.global_kinds ≡ p.global_kinds) (each_kind : length p.global_kinds ≡ length p.globals) where
  pub same_cells : cells_of code s ≡ cell_count p s
  same_cells = ap (λ (ws : List ℕ). 2 * s.slots + length ws + s.slots * s.cells) globals_are

  start_cells_are : start_cells code s ≡ (hands p s ++ globals p s) ++ arenas p s
  start_cells_are =
      ap (λ (ws : List ℕ). (hands p s ++ start_globals s.slots code.global_kinds ws) ++ arenas p s) globals_are
      ∙ ap (λ (ks : List CellKind). (hands p s ++ start_globals s.slots ks p.globals) ++ arenas p s) kinds_are

  start_cell_at : (c : ℕ) → c < cells_of code s → slice_get (start_words code s) c ≡ Some (start_cell p s c)
  start_cell_at c lt =
      let n = length-start_cells code s in
      let same = same_cells in
      slice_get-append_left (start_cells code s) (start_objects code s) c (omega arith)
      ∙ ap (λ (ws : List ℕ). slice_get ws c) start_cells_are ∙ cell_by p s c (nat_lt c (2 * s.slots)) refl each_kind (omega arith)

  module _ (limits : IsWithinLimits s) (runnable : IsRunnable code) (MayFill : Run → Type 0) (Makes : ℕ → Run → Thread → Type 0) (making : IsMaking code s MayFill Makes) (starts : (t : ℕ) → Makes t (run_of p s t) (start_thread code s t)) where
    stands : (t : ℕ) → IsProgress code s MayFill Makes t (start_standing p s t) (start_thread code s t)
    stands zero = (refl, refl, starts 0)
    stands (suc k) = (refl, refl, starts (suc k))

    matches : Matches p s code same_cells limits runnable MayFill Makes making (start_state code s) (start_world p s)
    matches = record {
      words = record { cells = start_cell_at; objects = λ o is. start_word_at code s o limits (is_had p s code same_cells limits o is) };
      count = start_length code s 0 s.slots;
      threads = λ t told e. subst (λ (z : Told). IsProgress code s MayFill Makes t (start_standing p s t) z.thread) (sym (start_thread_is code s t told e)) (stands t);
    }

    -- each run of a code whose threads make the runs of the source is a run of the source, but for its operations on stripes
    pub made_run : (labels : List Label) (end : State Told) → histories.run_of code s labels ≡ Some end → IsSourceRun p s MayFill (without_stripes (events_of_run code s labels))
    made_run labels end h = simulates p s code same_cells limits runnable MayFill Makes making labels (start_state code s) end (start_world p s) matches h
