-- A log has one checkpoint after so many entries, and one rest from a checkpoint, on a code.
use Rattle.std.proofs.Common.{◌≡◌, ℕ, zero, suc, ◌+◌, ◌-◌, ◌<◌, ◌≤◌, ◌⊎◌, inl, inr, List, [], ◌∷◌, length, take, Option, Some, None, Result, Ok, Err, refl, sym, ◌∙◌, ap, subst, arith}
use Rattle.std.specs.Prelude.{option_and_then, slice_get}
use Rattle.std.proofs.lemmas.Bool.{cases_lt}
use Rattle.std.proofs.lemmas.List.{take_all}
use Rattle.std.proofs.lemmas.Option.{same_Some}
use Rattle.checkpoint.specs.Going.{LacksCell, no_reads}
use Rattle.checkpoint.specs.Resuming.{IsStateAfter, IsTooShort, ResumedIs, TakenIs}
use Rattle.checkpoint.specs.declared.outcome.Resumed.{Resumed}
use Rattle.checkpoint.specs.declared.outcome.Resumed.TheVariants as resumed
use Rattle.checkpoint.specs.declared.outcome.Taken.{Taken}
use Rattle.checkpoint.specs.declared.outcome.Taken.TheVariants as taken
use Rattle.command_line.specs.declared.answer.Answer.{Answer}
use Rattle.command_line.specs.declared.answer.Answer.TheVariants as answer
use Rattle.core_run.proofs.LeavingCells.{comes_stuck}
use Rattle.core_run.specs.Machine.{Told, machine, start_state}
use Rattle.core_run.specs.Outside.{IsOutside}
use Rattle.core_run.specs.Walks.{IsRefusedAt, walk_of}
use Rattle.flow_code.specs.declared.code.Code.{Code}
use Rattle.job_outcomes.specs.Outcomes.{answers}
use Rattle.job_outcomes.specs.Steps.{Then}
use Rattle.job_outcomes.specs.declared.outcome.Outcome.{Outcome}
use Rattle.run_theory.specs.Labels.{Go}
use Rattle.run_theory.specs.Steps.{State, added, count_of, stepped}
use Rattle.run_theory.specs.Walk.{alone, if_nothing, made, part}
use Rattle.snapshot_reader.proofs.OneAnswer.{one_answer}
use Rattle.snapshot_reader.specs.Reading.{IsAnswer}
use Rattle.snapshot_reader.specs.declared.fault.SnapshotFault.{SnapshotFault}
use Rattle.snapshot_reader.specs.declared.fault.SnapshotFault.TheVariants.{Refused, OutOfMemory}
use Rattle.snapshots.specs.Snapshots.{resumed_state, snapshot_of}
use Rattle.snapshots.specs.declared.snapshot.Snapshot.{Snapshot}
use Rattle.sync_objects.specs.Setup.{SetupView}
use Rattle.sync_objects.specs.declared.entry.Entry.{Entry}
use Rattle.sync_objects.specs.declared.entry.Noted.{Noted}
use Rattle.walk_answers.proofs.OneWalk.{not_refused, one_place, one_walk_from, refused_on}
use Rattle.walk_checkpoints.specs.Telling.{GoesOn, IsCheckpointIn, IsRefusal, TakesCheckpoint, WalksRest, rest_answer, taken_outcome}

module _ (code : Code) (s : SetupView) where
  -- ---- taking

  module _ (es : List Entry) (k : ℕ) where
    abbrev start : State Told
    start = start_state code s

    short_walk : (at : ℕ) (h : IsTooShort code s es k at) → walk_of code s (take k es) start ≡ Some h.last
    short_walk at h = ap (λ xs. walk_of code s xs start) (take_all k es (omega (arith, h.fewer))) ∙ h.walked

    never_refused : (last : State Told) (at : ℕ) → walk_of code s (take k es) start ≡ Some last → IsRefusedAt code s start (take k es) at → ⊥
    never_refused last at w h = not_refused code s (take k es) (at + 1) start last w (omega (arith, h.within)) h.refused

    abbrev IsWrong : ℕ → Type 0
    IsWrong at = IsRefusedAt code s start (take k es) at ⊎ IsTooShort code s es k at

    never_wrong : (st : State Told) (at : ℕ) → IsStateAfter code s es k st → IsWrong at → ⊥
    never_wrong st at h (inl g) = never_refused st at h.walked g
    never_wrong st at h (inr g) = omega (arith, h.within, g.fewer)

    one_wrong : (a b : ℕ) → IsWrong a → IsWrong b → a ≡ b
    one_wrong a b (inl h) (inl g) = one_place code s start 0 (take k es) a b h g
    one_wrong a b (inl h) (inr g) = absurd (never_refused g.last a (short_walk b g) h)
    one_wrong a b (inr h) (inl g) = absurd (never_refused h.last b (short_walk a h) g)
    one_wrong a b (inr h) (inr g) = h.all ∙ sym g.all

    one_taken : (x y : Taken) → TakenIs code s es k x → TakenIs code s es k y → x ≡ y
    one_taken (taken.State x) (taken.State y) h g =
        let same : h.0 ≡ g.0 = same_Some h.0 g.0 (sym h.1.walked ∙ g.1.walked) in
        ap taken.State (h.2 ∙ ap (snapshot_of code s k) same ∙ sym g.2)
    one_taken (taken.State x) (taken.Wrong b) h g = absurd (never_wrong h.0 b h.1 g)
    one_taken (taken.Wrong a) (taken.State y) h g = absurd (never_wrong g.0 a g.1 h)
    one_taken (taken.Wrong a) (taken.Wrong b) h g = ap taken.Wrong (one_wrong a b h g)

  -- ---- cells that there aren't

  nothing_none : (xs : List Noted) → if_nothing {A = State Told} xs None ≡ None
  nothing_none [] = refl
  nothing_none (x ∷ xs) = refl

  -- a thread that is stuck after fewer steps makes no more
  stuck : (n k t : ℕ) (st last : State Told) → k < n → alone (machine code s) k t st ≡ Some last → stepped (machine code s) last (Go t) ≡ None → alone (machine code s) n t st ≡ None
  stuck zero k t st last lt goes none = absurd (omega (arith, lt))
  stuck (suc n) zero t st last lt goes none =
      let here : stepped (machine code s) st (Go t) ≡ None = subst (λ x. stepped (machine code s) x (Go t) ≡ None) (sym (same_Some st last goes)) none in
      ap (λ o. if_nothing (added (machine code s) st (Go t)) (option_and_then (alone (machine code s) n t) o)) here ∙ nothing_none (added (machine code s) st (Go t))
  stuck (suc n) (suc k) t st last lt goes none = go (added (machine code s) st (Go t)) (stepped (machine code s) st (Go t)) goes (λ mid h. stuck n k t mid last (omega (arith, lt)) h none)
    where
      go : (xs : List Noted) (o : Option (State Told)) → if_nothing xs (option_and_then (alone (machine code s) k t) o) ≡ Some last → ((mid : State Told) → alone (machine code s) k t mid ≡ Some last → alone (machine code s) n t mid ≡ None) → if_nothing xs (option_and_then (alone (machine code s) n t) o) ≡ None
      go [] None h on = refl
      go [] (Some mid) h on = on mid h
      go (x ∷ xs) o h on = refl

  -- an entry on whose way its thread comes to such a cell isn't allowed
  outside_refused : (e : Entry) (st : State Told) → IsOutside code s e st → part (machine code s) e st ≡ None
  outside_refused e st g =
      let n = e.count - count_of (machine code s) st e.thread in
      ap (option_and_then (made (machine code s) e)) (stuck n g.steps e.thread st g.last g.fewer g.goes (comes_stuck code s e.thread g.last g.comes))

  module _ (from : State Told) (es : List Entry) where
    -- so a walk is refused there
    lacks_refused : (t : ℕ) (h : LacksCell code s from es t) → walk_of code s (take (h.at + 1) es) from ≡ None
    lacks_refused t h = go es h.at from h.stands h.front
      where
        go : (xs : List Entry) (n : ℕ) (st : State Told) → slice_get xs n ≡ Some h.entry → walk_of code s (take n xs) st ≡ Some h.before → walk_of code s (take (n + 1) xs) st ≡ None
        go [] n st stands front = cc
        go (x ∷ xs) zero st stands front =
            let same : x ≡ h.entry = same_Some x h.entry stands in
            let here : st ≡ h.before = same_Some st h.before front in
            let none : part (machine code s) x st ≡ None = outside_refused x st (subst (λ y. IsOutside code s x y) (sym here) (subst (λ e. IsOutside code s e h.before) (sym same) h.outside)) in
            ap (option_and_then (walk_of code s [])) none
        go (x ∷ xs) (suc n) st stands front =
            let more : suc n + 1 ≡ suc (n + 1) = omega arith in
            subst (λ m. walk_of code s (take m (x ∷ xs)) st ≡ None) (sym more) (by (part (machine code s) x st) (λ st1 e. go xs n st1 stands e) front)
          where
            by : (o : Option (State Told)) → ((st1 : State Told) → walk_of code s (take n xs) st1 ≡ Some h.before → walk_of code s (take (n + 1) xs) st1 ≡ None) → option_and_then (walk_of code s (take n xs)) o ≡ Some h.before → option_and_then (walk_of code s (take (n + 1) xs)) o ≡ None
            by None on e = refl
            by (Some st1) on e = on st1 e

    lacks_at : (t : ℕ) (h : LacksCell code s from es t) → (u : ℕ) (g : LacksCell code s from es u) → h.at < g.at → ⊥
    lacks_at t h u g lt =
        let none : walk_of code s (take g.at es) from ≡ None = refused_on code s es (h.at + 1) g.at from (omega (arith, lt)) (lacks_refused t h) in
        absurd (cc (none, g.front))

    one_thread : (t u : ℕ) → LacksCell code s from es t → LacksCell code s from es u → t ≡ u
    one_thread t u h g = by (cases_lt h.at g.at) (cases_lt g.at h.at)
      where
        by : (h.at < g.at) ⊎ (g.at ≤ h.at) → (g.at < h.at) ⊎ (h.at ≤ g.at) → t ≡ u
        by (inl lt) _ = absurd (lacks_at t h u g lt)
        by (inr ge) (inl lt) = absurd (lacks_at u g t h lt)
        by (inr ge) (inr le) =
            let place : h.at ≡ g.at = omega (arith, le, ge) in
            let same : h.entry ≡ g.entry = same_Some h.entry g.entry (sym h.stands ∙ ap (slice_get es) place ∙ g.stands) in
            sym h.thread ∙ ap (λ (e : Entry). e.thread) same ∙ g.thread

  -- ---- going on

  one_rest_answer : (x : Snapshot) (es : List Entry) (v w : Resumed) → ResumedIs code s x es v → ResumedIs code s x es w → rest_answer v ≡ rest_answer w
  one_rest_answer x es (resumed.Walked v) (resumed.Walked w) h g = (one_walk_from code s (resumed_state code s x) x.at _ no_reads v w h.0 g.0).0
  one_rest_answer x es (resumed.Walked v) (resumed.BadCell u) h g = absurd (h.1 u g)
  one_rest_answer x es (resumed.BadCell t) (resumed.Walked w) h g = absurd (g.1 t h)
  one_rest_answer x es (resumed.BadCell t) (resumed.BadCell u) h g = ap (answer.CheckpointRefused 27) (one_thread (resumed_state code s x) _ t u h g)

  same_walks : (es : List Entry) (x : Snapshot) (o p : Outcome) → WalksRest code s es x o → WalksRest code s es x p → o ≡ p
  same_walks es x o p h g = h.told ∙ ap answers (one_rest_answer x es h.rest g.rest h.walks g.walks) ∙ sym g.told

  module _ (es : List Entry) (bytes : List ℕ) where
    refusal_once : (f : SnapshotFault) (a b : Answer) → IsRefusal f a → IsRefusal f b → a ≡ b
    refusal_once (Refused number line) a b h g = h ∙ sym g
    refusal_once OutOfMemory a b h g = absurd h

    read_once : (r q : Result Snapshot Answer) → IsCheckpointIn code s es bytes r → IsCheckpointIn code s es bytes q → r ≡ q
    read_once (Ok x) (Ok y) h g = let e = one_answer code s (length es) bytes (Ok x) (Ok y) h g in cc
    read_once (Ok x) (Err b) h g = let e = one_answer code s (length es) bytes (Ok x) (Err g.0) h g.1 in absurd (cc e)
    read_once (Err a) (Ok y) h g = let e = one_answer code s (length es) bytes (Err h.0) (Ok y) h.1 g in absurd (cc e)
    read_once (Err a) (Err b) h g =
        let same : h.0 ≡ g.0 = cc (one_answer code s (length es) bytes (Err h.0) (Err g.0) h.1 g.1) in
        ap Err (refusal_once g.0 a b (subst (λ f. IsRefusal f a) same h.2) g.2)

    then_once : (r q : Result Snapshot Answer) (o p : Outcome) → r ≡ q → Then (WalksRest code s es) r o → Then (WalksRest code s es) q p → o ≡ p
    then_once (Ok x) (Ok y) o p e h g = same_walks es y o p (subst (λ z. WalksRest code s es z o) (cc e) h) g
    then_once (Ok x) (Err b) o p e h g = absurd (cc e)
    then_once (Err a) (Ok y) o p e h g = absurd (cc e)
    then_once (Err a) (Err b) o p e h g = let same : a ≡ b = cc e in h ∙ ap answers same ∙ sym g

pub one_checkpoint : (code : Code) (s : SetupView) (es : List Entry) (k : ℕ) (name : List ℕ) (o p : Outcome) → TakesCheckpoint code s es k name o → TakesCheckpoint code s es k name p → o ≡ p
one_checkpoint code s es k name o p h g = h.told ∙ ap (taken_outcome name) (one_taken code s es k h.found g.found h.takes g.takes) ∙ sym g.told

pub one_rest : (code : Code) (s : SetupView) (es : List Entry) (bytes : List ℕ) (o p : Outcome) → GoesOn code s es bytes o → GoesOn code s es bytes p → o ≡ p
one_rest code s es bytes o p h g = then_once code s es bytes h.step g.step o p (read_once code s es bytes h.step g.step h.is g.is) h.next g.next
