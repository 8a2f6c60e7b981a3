-- The part of an entry changes one thread.
use Rattle.std.proofs.Common.{◌≡◌, ℕ, zero, suc, ◌-◌, ◌⊎◌, inl, inr, ⊎_elim, Bool, true, false, if◌then◌else◌, List, [], ◌∷◌, map, Option, Some, None, refl, sym, ap, ◌∙◌, subst, set-set}
use Rattle.std.specs.Prelude.{slice_get, slice_set, option_and_then}
use Rattle.std.proofs.lemmas.List.{map-set}
use Rattle.std.proofs.lemmas.Option.{same_Some}
use Rattle.rr_base.proofs.Lists.{slice_get-set_same}
use Rattle.sync_objects.specs.declared.entry.Entry.{Entry}
use Rattle.sync_objects.specs.declared.entry.Noted.{Noted}
use Rattle.sync_objects.specs.declared.object.ObjId.{ObjId}
use Rattle.sync_objects.specs.declared.object.ObjId.TheVariants as object
use Rattle.sync_objects.specs.declared.operation.OpName.{OpName}
use Rattle.sync_objects.specs.declared.operation.OpName.TheVariants as name
use Rattle.run_theory.specs.Labels.{Label, Go, label_thread, operation_label, revoke_label, label_of}
use Rattle.run_theory.specs.Same.{same_entry}
use Rattle.run_theory.specs.Steps.{Machine, State, stepped, added, count_of}
use Rattle.run_theory.specs.Walk.{if_nothing, if_only, alone, made, part}
use Rattle.run_theory.proofs.Swap.{steps_of}

-- an entry's label is of its thread
revoke_own : (t : ℕ) (obj : ObjId) → label_thread (revoke_label t obj) ≡ t
revoke_own t (object.Weak lock stripe) = refl
revoke_own t _ = refl

label_own : (t : ℕ) (o : OpName) (obj : ObjId) → label_thread (operation_label t o obj) ≡ t
label_own t name.Revoke obj = revoke_own t obj
label_own t name.Stop obj = refl
label_own t name.Close obj = refl
label_own t _ obj = refl

module _ {T : Type 0} (m : Machine T) where
  -- thread t has come to another state, and nothing else has changed of the threads
  pub record Changes (t : ℕ) (st st1 : State T) : Type 0 where
    pub before : T
    pub stands : slice_get st.threads t ≡ Some before
    pub after : T
    pub threads : st1.threads ≡ slice_set st.threads t after

  step_changes : (st st1 : State T) (l : Label) (t : ℕ) → label_thread l ≡ t → stepped m st l ≡ Some st1 → Changes t st st1
  step_changes st st1 l t own e =
      let x = steps_of m st l st1 e in
      record {
        before = x.before;
        stands = ap (slice_get st.threads) (sym own) ∙ x.stands;
        after = x.after;
        threads = ap (λ (z : State T). z.threads) x.to ∙ ap (λ u. slice_set st.threads u x.after) own;
      }

  both_change : (t : ℕ) (st mid st1 : State T) → Changes t st mid → Changes t mid st1 → Changes t st st1
  both_change t st mid st1 a b = record {
    before = a.before;
    stands = a.stands;
    after = b.after;
    threads = b.threads ∙ ap (λ ths. slice_set ths t b.after) a.threads ∙ set-set st.threads t a.after b.after;
  }

  -- steps of a thread alone change nothing or its state
  alone_changes : (n t : ℕ) (st st1 : State T) → alone m n t st ≡ Some st1 → (st ≡ st1) ⊎ Changes t st st1
  alone_changes zero t st st1 e = inl (same_Some st st1 e)
  alone_changes (suc n) t st st1 e = by (added m st (Go t)) (stepped m st (Go t)) refl e (alone_changes n t)
    where
      by : (xs : List Noted) (o : Option (State T)) → stepped m st (Go t) ≡ o → if_nothing xs (option_and_then (alone m n t) o) ≡ Some st1 → ((a b : State T) → alone m n t a ≡ Some b → (a ≡ b) ⊎ Changes t a b) → (st ≡ st1) ⊎ Changes t st st1
      by [] None q h more = cc
      by [] (Some mid) q h more =
          let first = step_changes st mid (Go t) t refl q in
          ⊎_elim (λ same. inr (subst (Changes t st) same first)) (λ rest. inr (both_change t st mid st1 first rest)) (more mid st1 h)
      by (x ∷ xs) o q h more = cc

  made_steps : (e : Entry) (xs : List Noted) (o : Option (State T)) (st1 : State T) → if_only e xs o ≡ Some st1 → o ≡ Some st1
  made_steps e [] o st1 h = cc
  made_steps e (x ∷ []) o st1 h = by (same_entry x.entry e) h
    where
      by : (b : Bool) → (if b then o else None) ≡ Some st1 → o ≡ Some st1
      by true q = q
      by false q = cc
  made_steps e (x ∷ y ∷ xs) o st1 h = cc

  made_changes : (e : Entry) (st st1 : State T) → made m e st ≡ Some st1 → Changes e.thread st st1
  made_changes e st st1 h = step_changes st st1 (label_of e) e.thread (label_own e.thread e.op e.obj) (made_steps e (added m st (label_of e)) (stepped m st (label_of e)) st1 h)

  pub part_changes : (e : Entry) (st st1 : State T) → part m e st ≡ Some st1 → Changes e.thread st st1
  part_changes e st st1 h = by (alone m (e.count - count_of m st e.thread) e.thread st) refl h
    where
      by : (o : Option (State T)) → alone m (e.count - count_of m st e.thread) e.thread st ≡ o → option_and_then (made m e) o ≡ Some st1 → Changes e.thread st st1
      by None q r = cc
      by (Some mid) q r =
          ⊎_elim
          (λ same. subst (λ z. Changes e.thread z st1) (sym same) (made_changes e mid st1 r))
          (λ first. both_change e.thread st mid st1 first (made_changes e mid st1 r))
          (alone_changes (e.count - count_of m st e.thread) e.thread st mid q)

  -- what is seen of each thread changes for one alone
  pub seen_changes : {A : Type 0} (see : T → A) (t : ℕ) (st st1 : State T) (th : T) → Changes t st st1 → slice_get st1.threads t ≡ Some th → map see st1.threads ≡ slice_set (map see st.threads) t (see th)
  seen_changes see t st st1 th c at =
      let is : c.after ≡ th = same_Some c.after th (sym (slice_get-set_same st.threads t c.after c.before c.stands) ∙ ap (λ ths. slice_get ths t) (sym c.threads) ∙ at) in
      ap (map see) c.threads ∙ map-set see st.threads t c.after ∙ ap (λ x. slice_set (map see st.threads) t (see x)) is
