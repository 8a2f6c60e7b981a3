-- What the theory of runs says of whole runs of the machine.
use Rattle.std.proofs.Common.{◌≡◌, ℕ, true, List, length, Some, sym, ap, subst, ◌∙◌}
use Rattle.std.proofs.lemmas.Option.{get_or_from_slice_get}
use Rattle.sync_objects.specs.Setup.{SetupView, IsWithinLimits}
use Rattle.sync_objects.specs.Start.{start_word}
use Rattle.sync_objects.specs.Words.{number_of}
use Rattle.sync_objects.specs.declared.entry.Noted.{Noted}
use Rattle.sync_objects.specs.declared.object.ObjId.{ObjId}
use Rattle.flow_code.specs.declared.code.Code.{Code}
use Rattle.flow_code.specs.Settle.{IsRunnable}
use Rattle.core_run.specs.Words.{cells_of, has_object, place_of, start_words}
use Rattle.core_run.specs.Machine.{Told, machine, start_state}
use Rattle.core_run.specs.Walks.{walk_of}
use Rattle.core_run.specs.Histories.{run_of, HasNoRace, HaveEnded, list_of, lists_of, entries_in}
use Rattle.core_run.proofs.Beginnings.{start_word_at, start_number}
use Rattle.core_run.proofs.Lawful.{lawful}
use Rattle.core_run.proofs.Reached.{kept, start_length}
use Rattle.core_run.proofs.Told.{list_is, lists_are_told}
use Rattle.run_theory.specs.Labels.{Label}
use Rattle.run_theory.specs.Merge.{IsMerge, lists_from, written_merge}
use Rattle.run_theory.specs.Steps.{State, number_at, trace}
use Rattle.run_theory.proofs.Converge.{converge}
use Rattle.run_theory.proofs.Merges.{merge_walks}
use Rattle.run_theory.proofs.Numbered.{trace_written}

module _ (code : Code) (s : SetupView) (runnable : IsRunnable code) (limits : IsWithinLimits s) where
  -- the entries of a run from the start
  abbrev entries_of_run : List Label → List Noted
  entries_of_run labels = trace (machine code s) labels (start_state code s)

  pub ends_converge : (labels other : List Label) (end other_end : State Told) → HasNoRace code s → run_of code s labels ≡ Some end → run_of code s other ≡ Some other_end → HaveEnded code s end → HaveEnded code s other_end → ((t : ℕ) → list_of end t ≡ list_of other_end t) → end ≡ other_end
  ends_converge labels other end other_end free runs other_runs ended other_ended same =
      converge (machine code s) (lawful code s runnable limits) labels other (start_state code s) end other_end free runs other_runs ended other_ended
      (λ t. sym (list_is code s labels end t runs) ∙ same t ∙ list_is code s other other_end t other_runs)

  pub merges_walk : (labels : List Label) (end : State Told) (merged : List Noted) → HasNoRace code s → run_of code s labels ≡ Some end → HaveEnded code s end → IsMerge (list_of end) merged → walk_of code s (entries_in merged) (start_state code s) ≡ Some end
  merges_walk labels end merged free runs ended merges =
      merge_walks (machine code s) (lawful code s runnable limits) merged labels (start_state code s) end runs free ended
      (record { threads = λ t. merges.threads t ∙ list_is code s labels end t runs; ascending = merges.ascending })

  no_number : (o : ObjId) → has_object code s o ≡ true → number_at (machine code s) (start_words code s) o ≡ 0
  no_number o has = ap number_of (get_or_from_slice_get (start_words code s) (place_of (cells_of code s) o) (start_word o) 0 (start_word_at code s o limits has)) ∙ start_number o

  same_length : (labels : List Label) (end : State Told) → run_of code s labels ≡ Some end → length (start_state code s).threads ≡ length end.threads
  same_length labels end runs = start_length code s 0 s.slots ∙ sym (kept code s runnable limits end (labels, runs)).threads

  pub written_is_merge : (labels : List Label) (end : State Told) → run_of code s labels ≡ Some end → IsMerge (list_of end) (written_merge (lists_of end))
  written_is_merge labels end runs =
      let lists : lists_from 0 (length (start_state code s).threads) (entries_of_run labels) ≡ lists_of end = ap (λ n. lists_from 0 n (entries_of_run labels)) (same_length labels end runs) ∙ lists_are_told code s labels end runs in
      let m = trace_written (machine code s) (lawful code s runnable limits) labels (start_state code s) end runs no_number in
      subst (λ ls. IsMerge (list_of end) (written_merge ls)) lists (record { threads = λ t. m.threads t ∙ sym (list_is code s labels end t runs); ascending = m.ascending })
