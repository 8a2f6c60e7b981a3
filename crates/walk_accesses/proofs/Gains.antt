-- What steps of the machine add to the accesses of a thread.
use Rattle.std.proofs.Common.{◌≡◌, ℕ, suc, ◌<◌, ◌≤◌, ◌⊎◌, ⊎_elim, Bool, true, false, if◌then◌else◌, nat_lt, List, [], ◌∷◌, ◌++◌, refl, sym, ap, subst, ◌∙◌, ℤ, pos, arith, append-nil, append_assoc}
use Rattle.std.specs.Prelude.{slice_get, Contains}
use Rattle.std.proofs.lemmas.List.Elements.{Contains-append_cases}
use Rattle.sync_objects.specs.Setup.{SetupView}
use Rattle.sync_objects.specs.Names.{name_of}
use Rattle.sync_objects.specs.Advance.{advanced}
use Rattle.sync_objects.specs.declared.object.ObjId.{ObjId}
use Rattle.sync_objects.specs.declared.object.ObjId.TheVariants as object
use Rattle.sync_objects.specs.declared.operation.Op.{Op}
use Rattle.sync_objects.specs.declared.operation.Op.TheVariants as op
use Rattle.word_semantics.specs.declared.event.Action.{Action}
use Rattle.word_semantics.specs.declared.event.Action.TheVariants as action
use Rattle.flow_code.specs.declared.code.Code.{Code}
use Rattle.flow_code.specs.Threads.{Thread}
use Rattle.flow_code.specs.Next.{stepped as thread_stepped, action_at, gave_up, stopped, slot_closed}
use Rattle.flow_code.specs.Settle.{settled}
use Rattle.flow_code.proofs.Counts.{settled_count}
use Rattle.thread_interpreter.specs.declared.access.Access.{Access}
use Rattle.thread_interpreter.specs.Pieces.{piece_next}
use Rattle.core_run.specs.Words.{cells_of, has_object}
use Rattle.core_run.specs.Machine.{Told, access_of, entry_of, operation, action_effect, may_revoke, may_stop, may_close, effect_of, machine}
use Rattle.core_run.proofs.Lawful.{effect_go, effect_revoke, effect_stop, effect_close, change_is}
use Rattle.run_theory.specs.Labels.{Label, Go, Revoke, Stop, Close, label_thread}
use Rattle.run_theory.specs.Laws.{IsLawfulEffect}
use Rattle.run_theory.specs.Steps.{Becomes, Leaves, Effect, Refused, Marks, Loads, Stores, Operates, outcome, effect_entry}
use Rattle.run_theory.proofs.Swap.{load_inv, change_inv}
use Rattle.walk_accesses.proofs.Lists.{none, only_one}

-- accesses of thread t have come after those before, with counts from its own on and below its later one
pub record Gained (t : ℕ) (told after : Told) : Type 0 where
  pub more : List Access
  pub accesses : after.accesses ≡ told.accesses ++ more
  pub own : (a : Access) → Contains more a → a.thread ≡ t
  pub low : (a : Access) → Contains more a → told.thread.count ≤ a.count
  pub high : (a : Access) → Contains more a → a.count < after.thread.count
  pub rises : told.thread.count ≤ after.thread.count

pub gained_none : (t : ℕ) (told after : Told) → after.accesses ≡ told.accesses → told.thread.count ≤ after.thread.count → Gained t told after
gained_none t told after e le = record {
  more = [];
  accesses = e ∙ sym (append-nil told.accesses);
  own = λ a c. absurd (none a c);
  low = λ a c. absurd (none a c);
  high = λ a c. absurd (none a c);
  rises = le;
}

pub gained_one : (t : ℕ) (told after : Told) (a : Access) → after.accesses ≡ told.accesses ++ a ∷ [] → a.thread ≡ t → a.count ≡ told.thread.count → told.thread.count < after.thread.count → Gained t told after
gained_one t told after a e thread count lt = record {
  more = a ∷ [];
  accesses = e;
  own = λ b c. ap (λ (z : Access). z.thread) (sym (only_one a b c)) ∙ thread;
  low = λ b c. let same : a.count ≡ b.count = ap (λ (z : Access). z.count) (only_one a b c) in omega (arith, same, count);
  high = λ b c. let same : a.count ≡ b.count = ap (λ (z : Access). z.count) (only_one a b c) in omega (arith, same, count, lt);
  rises = omega (arith, lt);
}

pub gained_both : (t : ℕ) (x y z : Told) → Gained t x y → Gained t y z → Gained t x z
gained_both t x y z g h = record {
  more = g.more ++ h.more;
  accesses = h.accesses ∙ ap (λ xs. xs ++ h.more) g.accesses ∙ append_assoc x.accesses g.more h.more;
  own = λ a c. ⊎_elim (λ (q : Contains g.more a). g.own a q) (λ (q : Contains h.more a). h.own a q) (Contains-append_cases g.more h.more a c);
  low = low;
  high = high;
  rises = omega (arith, g.rises, h.rises);
}
  where
    low : (a : Access) → Contains (g.more ++ h.more) a → x.thread.count ≤ a.count
    low a c = ⊎_elim (λ (q : Contains g.more a). g.low a q) (λ (q : Contains h.more a). let le = h.low a q in omega (arith, le, g.rises)) (Contains-append_cases g.more h.more a c)

    high : (a : Access) → Contains (g.more ++ h.more) a → a.count < z.thread.count
    high a c = ⊎_elim (λ (q : Contains g.more a). let lt = g.high a q in omega (arith, lt, h.rises)) (λ (q : Contains h.more a). h.high a q) (Contains-append_cases g.more h.more a c)

module _ (code : Code) (s : SetupView) where
  -- a load or a store is put after the accesses before it, with its thread's count, and nothing else changes them
  abbrev Adds : ℕ → Told → Effect Told → Type 0
  Adds t told Refused = Unit {0}
  Adds t told (Marks q) = q.accesses ≡ told.accesses
  Adds t told (Loads c next) = (w : ℕ) → (a : Access) × ((next w).accesses ≡ told.accesses ++ a ∷ []) × (a.thread ≡ t) × (a.count ≡ told.thread.count)
  Adds t told (Stores c w q) = (a : Access) × (q.accesses ≡ told.accesses ++ a ∷ []) × (a.thread ≡ t) × (a.count ≡ told.thread.count)
  Adds t told (Operates e change) = (old new : ℕ) (answer : ℤ) (q : Told) → change old ≡ Becomes new answer q → q.accesses ≡ told.accesses

  if_adds : (t : ℕ) (told : Told) (b : Bool) (e : Effect Told) → Adds t told e → Adds t told (if b then e else Refused)
  if_adds t told true e h = h
  if_adds t told false e h = tt

  operation_adds : (t : ℕ) (told before : Told) (o : Op) (obj : ObjId) (printed : List (List ℕ)) (after : ℤ → Thread) → before.accesses ≡ told.accesses → Adds t told (operation code s t before o obj printed after)
  operation_adds t told before o obj printed after same =
      if_adds t told (has_object code s obj) _ (λ old new answer q e.
      ap (λ (z : Told). z.accesses) (change_is before (entry_of t before.thread (name_of o) obj) printed after old (advanced o t old) new answer q e).1 ∙ same)

  action_adds : (t : ℕ) (told : Told) (st : Thread) (a : Action) → st.count ≡ told.thread.count → Adds t told (action_effect code s t told st a)
  action_adds t told st action.Quiet same = tt
  action_adds t told st (action.Load c) same = if_adds t told (nat_lt c (cells_of code s)) _ (λ w. (access_of t st c w false, refl, refl, same))
  action_adds t told st (action.Store c w) same = if_adds t told (nat_lt c (cells_of code s)) _ (access_of t st c w true, refl, refl, same)
  action_adds t told st action.Mark same = refl
  action_adds t told st (action.Operate o obj) same = operation_adds t told (record told { thread = st }) o obj (piece_next code st o) (λ answer. thread_stepped code s t st answer) refl
  action_adds t told st action.Ended same = tt

  pub effect_adds : (l : Label) (told : Told) → Adds (label_thread l) told (effect_of code s l told)
  effect_adds (Go t) told = subst (Adds t told) (sym (effect_go code s t told)) (action_adds t told (settled code s t told.thread) (action_at code s t (settled code s t told.thread)) (settled_count code s t told.thread))
  effect_adds (Revoke t lock stripe) told = subst (Adds t told) (sym (effect_revoke code s t lock stripe told)) (if_adds t told (may_revoke told.thread lock stripe) _ (operation_adds t told told op.Revoke (object.Weak lock stripe) [] (λ answer. gave_up told.thread lock stripe) refl))
  effect_adds (Stop t) told = subst (Adds t told) (sym (effect_stop code s t told)) (if_adds t told (may_stop told.thread) _ (operation_adds t told told op.Stop object.Halt [] (λ answer. stopped told.thread) refl))
  effect_adds (Close t) told = subst (Adds t told) (sym (effect_close code s t told)) (if_adds t told (may_close told.thread) _ (operation_adds t told told op.Close (object.Slot t) [] (λ answer. slot_closed told.thread) refl))

  pub outcome_gains : (l : Label) (t : ℕ) (told after : Told) (ws ws1 : List ℕ) (e : Effect Told) → IsLawfulEffect (machine code s) l told e → Adds t told e → outcome (machine code s) ws e ≡ Leaves ws1 after → Gained t told after
  outcome_gains l t told after ws ws1 Refused law adds h = cc
  outcome_gains l t told after ws ws1 (Marks q) law adds h =
      let same : q ≡ after = cc in
      let count : after.thread.count ≡ suc told.thread.count = ap (λ (z : Told). z.thread.count) (sym same) ∙ law.1.counted in
      gained_none t told after (ap (λ (z : Told). z.accesses) (sym same) ∙ adds) (omega (arith, count))
  outcome_gains l t told after ws ws1 (Loads c next) law adds h =
      let i = load_inv ws next (slice_get ws c) ws1 after h in
      let a = adds i.0 in
      let count : after.thread.count ≡ suc told.thread.count = ap (λ (z : Told). z.thread.count) i.3 ∙ (law.2 i.0).counted in
      gained_one t told after a.0 (ap (λ (z : Told). z.accesses) i.3 ∙ a.1) a.2 a.3 (omega (arith, count))
  outcome_gains l t told after ws ws1 (Stores c w q) law adds h =
      let i = change_inv ws c (λ v. Becomes w (pos 0) q) (slice_get ws c) ws1 after h in
      let becomes : Becomes w (pos 0) q ≡ Becomes i.1 i.2 after = i.4 in
      let same : q ≡ after = cc in
      let count : after.thread.count ≡ suc told.thread.count = ap (λ (z : Told). z.thread.count) (sym same) ∙ law.2.counted in
      gained_one t told after adds.0 (ap (λ (z : Told). z.accesses) (sym same) ∙ adds.1) adds.2 adds.3 (omega (arith, count))
  outcome_gains l t told after ws ws1 (Operates e change) law adds h =
      let p = (machine code s).place e.obj in
      let i = change_inv ws p change (slice_get ws p) ws1 after h in
      let draws = law.draws i.0 i.1 i.2 after i.4 in
      gained_none t told after (adds i.0 i.1 i.2 after i.4) draws.counted

  -- what adds an entry makes no access
  pub outcome_silent : (t : ℕ) (told after : Told) (ws ws1 : List ℕ) (e : Effect Told) → Adds t told e → (effect_entry (machine code s) ws e ≡ [] → ⊥) → outcome (machine code s) ws e ≡ Leaves ws1 after → after.accesses ≡ told.accesses
  outcome_silent t told after ws ws1 Refused adds some h = cc
  outcome_silent t told after ws ws1 (Marks q) adds some h = absurd (some refl)
  outcome_silent t told after ws ws1 (Loads c next) adds some h = absurd (some refl)
  outcome_silent t told after ws ws1 (Stores c w q) adds some h = absurd (some refl)
  outcome_silent t told after ws ws1 (Operates e change) adds some h =
      let p = (machine code s).place e.obj in
      let i = change_inv ws p change (slice_get ws p) ws1 after h in
      adds i.0 i.1 i.2 after i.4
