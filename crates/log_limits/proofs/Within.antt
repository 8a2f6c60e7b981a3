-- The entries of a run are within the limits of a log.
use Rattle.std.proofs.Common.{◌≡◌, ℕ, ◌+◌, ◌*◌, ◌-◌, ◌^◌, ◌<◌, ◌≤◌, ◌⊎◌, inl, inr, ⊎_elim, Bool, true, false, ◌&&◌, not, nat_lt, List, [], length, Option, Some, None, refl, sym, ap, subst, ◌∙◌, arith}
use Rattle.std.specs.Prelude.{slice_get, count_by, if◌then◌else◌}
use Rattle.std.specs.List.{AllByRecursion}
use Rattle.std.proofs.lemmas.Bool.{ltb-true, and_parts, true≢false}
use Rattle.std.proofs.lemmas.Option.{slice_get_within}
use Rattle.sync_objects.specs.Setup.{SetupView, IsWithinLimits}
use Rattle.sync_objects.specs.Names.{Fits, is_ending}
use Rattle.sync_objects.specs.declared.entry.Entry.{Entry}
use Rattle.sync_objects.specs.declared.entry.Noted.{Noted}
use Rattle.sync_objects.specs.declared.object.ObjId.{ObjId}
use Rattle.sync_objects.specs.declared.object.ObjId.TheVariants as object
use Rattle.sync_objects.specs.declared.operation.OpName.{OpName}
use Rattle.sync_objects.specs.declared.operation.OpName.TheVariants as name
use Rattle.word_semantics.specs.Limits.{most_entries, most_revokes}
use Rattle.flow_code.specs.declared.code.Code.{Code}
use Rattle.flow_code.specs.Next.{holds as has_it, has_ended}
use Rattle.flow_code.specs.Ranges.{IsCounted, within, leaving, over}
use Rattle.flow_code.specs.Settle.{IsRunnable}
use Rattle.flow_code.specs.Threads.{Thread}
use Rattle.flow_code.specs.Valid.{is_valid}
use Rattle.flow_code.proofs.Endings.{few_endings}
use Rattle.flow_code.proofs.Runnable.{valid_runnable}
use Rattle.flow_code.proofs.ValidParts.{few_locks}
use Rattle.core_run.specs.Histories.{run_of, IsReachable, list_in, list_of, lists_of, entries_in}
use Rattle.core_run.specs.Kept.{AreInRange, endings_in, IsAllowed}
use Rattle.core_run.specs.Machine.{Told, may_revoke, machine, start_state}
use Rattle.core_run.specs.Words.{cells_of, has_object}
use Rattle.core_run.proofs.Listed.{AreListed, threads_listed, start_listed}
use Rattle.core_run.proofs.Reached.{kept}
use Rattle.core_run.proofs.ThreadRanges.{start_all_in_range, threads_in_range, revoke_lives}
use Rattle.run_theory.specs.Labels.{Label}
use Rattle.run_theory.specs.Merge.{IsMerge, total_length, written_merge}
use Rattle.run_theory.specs.Steps.{State, stepped, entries_of}
use Rattle.run_theory.proofs.Kept.{kept_along}
use Rattle.run_theory.proofs.Lists.{AllIn, AllIn-map, AllIn-of_threads}
use Rattle.order_log.specs.Log.{IsObjectWithin, last_count, IsEntryWithin, is_ending_of, is_other_of, AreWithin}
use Rattle.open_regions.proofs.Machines.{all_reached}
use Rattle.log_limits.proofs.Counting.{all_in, both_in, each_entry, count_own, count_endings, count_others, length_entries, few_merged, few_in_all}
use Rattle.log_limits.proofs.Entries.{IsFitting, AreRevokedEarly, all_fitting}
use Rattle.log_limits.proofs.Leaving.{EndsEmpty, leaves_with_none}

-- ---- what a thread's list holds

module _ (code : Code) (s : SetupView) where
  record Holds (st : State Told) : Type 0 where
    in_range : AreInRange code s st.threads
    listed : AreListed code s st.threads

  holds_after : (st st1 : State Told) (l : Label) → Holds st → stepped (machine code s) st l ≡ Some st1 → Holds st1
  holds_after st st1 l h e = record { in_range = threads_in_range code s st st1 l e h.in_range; listed = threads_listed code s st st1 l e h.in_range h.listed }

  all_hold : (st : State Told) → IsReachable code s st → Holds st
  all_hold st reached = kept_along (machine code s) Holds (λ a b l h e. holds_after a b l h e) reached.0 (start_state code s) st reached.1 (record { in_range = start_all_in_range code s; listed = start_listed code s })

  -- at most 2^20 of a thread's entries are other than ending ones, and at most two are those
  pub record IsShort (xs : List Noted) : Type 0 where
    pub others : count_by (λ (e : Entry). not (is_ending e.op)) (entries_in xs) ≤ 1048576
    pub endings : endings_in xs ≤ 2

  pub short_lists : (st : State Told) → IsReachable code s st → (t : ℕ) (told : Told) → slice_get st.threads t ≡ Some told → IsShort told.entries
  short_lists st reached t told at =
      let h = all_hold st reached in
      let l = h.listed.each t told at in
      let r = (h.in_range.each t told at).few_entries in
      let sum = l.sum in
      let all = count_others told.entries in
      record { others = omega arith; endings = few_endings code s t told.thread (endings_in told.entries) l.ends }

  list_is_short : (st : State Told) → IsReachable code s st → (t : ℕ) → IsShort (list_of st t)
  list_is_short st reached t = by (slice_get st.threads t) refl
    where
      by : (o : Option Told) → slice_get st.threads t ≡ o → IsShort (list_in o)
      by None e = record { others = omega arith; endings = omega arith }
      by (Some told) e = short_lists st reached t told e

  -- ---- a log is short

  pub merge_is_short : IsRunnable code → IsWithinLimits s → (labels : List Label) (end : State Told) → run_of code s labels ≡ Some end → length (entries_in (written_merge (lists_of end))) < 2 ^ 32 - 1
  merge_is_short run limits labels end runs =
      let k = kept code s run limits end (labels, runs) in
      let few = few_in_all end.threads (λ t told at. let h = short_lists end (labels, runs) t told at in let o = h.others in let e = h.endings in let all = count_others told.entries in omega arith) in
      let merged = few_merged (total_length (lists_of end)) [] (lists_of end) in
      let same = length_entries (written_merge (lists_of end)) in
      let slots = k.threads in
      let most = limits.few_slots in
      omega arith

  -- ---- each entry is within the limits

  cells_bound : (slots cells globals : ℕ) → slots ≤ 16 → cells ≤ 131072 → globals ≤ 2 ^ 20 → 2 * slots + globals + slots * cells < 4194304
  cells_bound slots cells globals a b c = grind arith

  few_cells : IsRunnable code → IsWithinLimits s → cells_of code s < 4194304
  few_cells run limits = cells_bound s.slots s.cells (length code.globals) limits.few_slots limits.few_cells run.few_globals

  below_cells : IsRunnable code → IsWithinLimits s → (c : ℕ) → nat_lt c (cells_of code s) ≡ true → c < 4194304
  below_cells run limits c e = let few = few_cells run limits in let lt = ltb-true c (cells_of code s) e in omega arith

  object_within : is_valid code ≡ true → IsWithinLimits s → (o : ObjId) → has_object code s o ≡ true → IsObjectWithin s.slots o
  object_within valid limits (object.Mutex cell) e = below_cells (valid_runnable code valid) limits cell e
  object_within valid limits (object.Cond cell) e = below_cells (valid_runnable code valid) limits cell e
  object_within valid limits (object.Barrier cell) e = below_cells (valid_runnable code valid) limits cell e
  object_within valid limits (object.Rw cell) e = below_cells (valid_runnable code valid) limits cell e
  object_within valid limits (object.Weak lock stripe) e =
      let p = and_parts (nat_lt lock (length code.locks)) (nat_lt stripe 8) e in
      let low = ltb-true lock (length code.locks) p.0 in
      let small = ltb-true stripe 8 p.1 in
      let few = few_locks code valid in
      (omega arith, omega arith)
  object_within valid limits (object.Slot slot) e = ltb-true slot s.slots e
  object_within valid limits object.Threads e = tt
  object_within valid limits object.Halt e = tt
  object_within valid limits object.Input e = tt
  object_within valid limits object.Output e = tt

  count_within : (t : ℕ) (x : Entry) → IsAllowed code s t x → IsFitting s x → x.count ≤ last_count s.limit x.op
  count_within t x a f = by (is_ending x.op) refl
    where
      is_revoke : (o : OpName) → (o ≡ name.Revoke → ⊥) ⊎ (o ≡ name.Revoke)
      is_revoke name.Revoke = inr refl
      is_revoke _ = inl (λ e. cc)

      by : (b : Bool) → is_ending x.op ≡ b → x.count ≤ (if b then s.limit + 1 else s.limit)
      by true e = a.count
      by false e = ⊎_elim (λ ne. a.early e ne) (λ same. f.revoked same) (is_revoke x.op)

  entry_within : is_valid code ≡ true → IsWithinLimits s → (t : ℕ) (x : Entry) → t < s.slots → IsAllowed code s t x → IsFitting s x → IsEntryWithin s x
  entry_within valid limits t x lt a f = record {
    thread = subst (λ k. k < s.slots) (sym a.thread) lt;
    count = count_within t x a f;
    object = object_within valid limits x.obj a.object;
  }

  module _ (valid : is_valid code ≡ true) (limits : IsWithinLimits s) (early : AreRevokedEarly code s) where
    -- an entry is within the limits, and fits its object
    record IsGood (x : Noted) : Type 0 where
      within_limits : IsEntryWithin s x.entry
      fits : Fits x.entry.op x.entry.obj

    told_is_good : (st : State Told) → IsReachable code s st → (t : ℕ) (told : Told) → slice_get st.threads t ≡ Some told → AllIn IsGood told.entries
    told_is_good st reached t told at =
        let k = kept code s (valid_runnable code valid) limits st reached in
        let slots = k.threads in
        let here = slice_get_within st.threads t told at in
        let lt : t < s.slots = omega arith in
        let allowed = all_in (λ x. IsAllowed code s t x.entry) told.entries (k.logged t told at).allowed in
        let fitting = all_fitting code s (valid_runnable code valid) early st reached t told at in
        AllIn-map (λ x. IsAllowed code s t x.entry × IsFitting s x.entry) IsGood told.entries
        (λ x p. record { within_limits = entry_within valid limits t x.entry lt p.0 p.1; fits = p.1.fits })
        (both_in (λ x. IsAllowed code s t x.entry) (λ x. IsFitting s x.entry) told.entries allowed fitting)

    list_is_good : (st : State Told) → IsReachable code s st → (t : ℕ) → AllIn IsGood (list_of st t)
    list_is_good st reached t = by (slice_get st.threads t) refl
      where
        by : (o : Option Told) → slice_get st.threads t ≡ o → AllIn IsGood (list_in o)
        by None e = tt
        by (Some told) e = told_is_good st reached t told e

    -- the entries of a merge are within the limits, and each fits its object
    pub merge_is_within : (labels : List Label) (end : State Told) (merged : List Noted) → run_of code s labels ≡ Some end → IsMerge (list_of end) merged → AreWithin s (entries_in merged) × AllByRecursion (λ (e : Entry). Fits e.op e.obj) (entries_in merged)
    merge_is_within labels end merged runs m =
        let good = AllIn-of_threads IsGood merged (λ t. subst (AllIn IsGood) (sym (m.threads t)) (list_is_good end (labels, runs) t)) in (
          record {
            each = each_entry (IsEntryWithin s) merged (AllIn-map IsGood (λ x. IsEntryWithin s x.entry) merged (λ x g. g.within_limits) good);
            others = λ t. others t;
            endings = λ t. endings t;
          },
          each_entry (λ (e : Entry). Fits e.op e.obj) merged (AllIn-map IsGood (λ x. Fits x.entry.op x.entry.obj) merged (λ x g. g.fits) good),
        )
      where
        lists : (t : ℕ) → IsShort (entries_of t merged)
        lists t = subst IsShort (sym (m.threads t)) (list_is_short end (labels, runs) t)

        others : (t : ℕ) → count_by (is_other_of t) (entries_in merged) ≤ 1048576
        others t = let few = (lists t).others in let same = count_own t (λ (e : Entry). not (is_ending e.op)) merged in omega (arith, same)

        endings : (t : ℕ) → count_by (is_ending_of t) (entries_in merged) ≤ 6
        endings t = let few = (lists t).endings in let same = count_own t (λ (e : Entry). is_ending e.op) merged in let all = count_endings (entries_of t merged) in omega (arith, same)

-- ---- where threads have no stripe at the end of their first function

module _ (code : Code) (s : SetupView) (run : IsRunnable code) (limits : IsWithinLimits s) (empty : EndsEmpty code s) where
  held_first : (th : Thread) (lock stripe : ℕ) → may_revoke th lock stripe ≡ true → has_it th.stripes lock stripe ≡ true
  held_first th lock stripe e =
      let a = and_parts (not (has_ended th.phase) && has_it th.stripes lock stripe && nat_lt th.entries most_entries) (nat_lt th.revokes most_revokes) e in
      let b = and_parts (not (has_ended th.phase) && has_it th.stripes lock stripe) (nat_lt th.entries most_entries) a.0 in
      (and_parts (not (has_ended th.phase)) (has_it th.stripes lock stripe) b.0).1

  pub revoked_early : AreRevokedEarly code s
  revoked_early st reached t told at lock stripe may = by ((kept code s run limits st reached).in_range.each t told at).counted
    where
      by : IsCounted code s 0 t told.thread → told.thread.count ≤ s.limit
      by (within h) = omega arith
      by (leaving h d) =
          let none = leaves_with_none code s t told.thread empty (all_reached code s st reached t told at) d in
          absurd (true≢false (sym (held_first told.thread lock stripe may) ∙ ap (λ xs. has_it xs lock stripe) none))
      by (over h e) = absurd (true≢false (sym e ∙ revoke_lives told.thread lock stripe may))
