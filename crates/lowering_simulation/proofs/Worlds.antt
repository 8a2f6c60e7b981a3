-- The words of the machine show the words of the world, and keep to them.
use Rattle.std.proofs.Common.{◌≡◌, ℕ, ◌<◌, Bool, true, false, if◌then◌else◌, nat_eq, List, Some, refl, sym, ap, subst, ◌∙◌, ℤ, arith}
use Rattle.std.specs.Prelude.{slice_get, slice_set}
use Rattle.std.proofs.lemmas.Bool.{ltb-true, lt-ltb, eqb-true, true≢false}
use Rattle.std.proofs.lemmas.Option.{same_Some}
use Rattle.rr_base.proofs.Lists.{slice_get-set_other, slice_get-set_same}
use Rattle.sync_objects.specs.Setup.{SetupView, IsWithinLimits}
use Rattle.sync_objects.specs.Advance.{Advances, advanced}
use Rattle.sync_objects.specs.Names.{object_kind, kind_of, is_weak}
use Rattle.sync_objects.specs.declared.kind.ObjKind.{ObjKind}
use Rattle.sync_objects.specs.declared.kind.ObjKind.TheVariants as kind
use Rattle.sync_objects.specs.declared.object.ObjId.{ObjId}
use Rattle.sync_objects.specs.declared.object.ObjId.TheVariants as object
use Rattle.sync_objects.specs.declared.operation.Op.{Op}
use Rattle.sync_objects.specs.declared.operation.OpName.{OpName}
use Rattle.sync_objects.specs.declared.operation.OpName.TheVariants as name
use Rattle.flow_code.specs.declared.code.Code.{Code}
use Rattle.word_semantics.specs.declared.event.Action.TheVariants as action
use Rattle.core_tree.specs.Core.{Program}
use Rattle.core_run.specs.Words.{cells_of, has_object, place_of}
use Rattle.core_run.proofs.Places.{place_past, place_apart}
use Rattle.run_theory.specs.Same.{same_object}
use Rattle.run_theory.proofs.SameEntries.{same_object-true, same_object-refl}
use Rattle.lowering_simulation.specs.SourceRuns.{World, word_after, operated, acted, cell_count, IsThere}

abbrev pub IsStripe : ObjId → Type 0
IsStripe (object.Weak lock stripe) = Unit {0}
IsStripe _ = ⊥

-- the kind of stripes, and any other
abbrev is_weak_kind : ObjKind → Bool
is_weak_kind kind.Weak = true
is_weak_kind _ = false

weak_by_kind : (n : OpName) → is_weak_kind (kind_of n) ≡ is_weak n
weak_by_kind name.Take = refl
weak_by_kind name.Retake = refl
weak_by_kind name.Give = refl
weak_by_kind name.Revoke = refl
weak_by_kind n = refl

weak_stripe : (obj : ObjId) → IsStripe obj → is_weak_kind (object_kind obj) ≡ true
weak_stripe (object.Weak lock stripe) h = refl
weak_stripe (object.Mutex c) h = absurd h
weak_stripe (object.Cond c) h = absurd h
weak_stripe (object.Barrier c) h = absurd h
weak_stripe (object.Rw c) h = absurd h
weak_stripe (object.Slot k) h = absurd h
weak_stripe object.Threads h = absurd h
weak_stripe object.Halt h = absurd h
weak_stripe object.Input h = absurd h
weak_stripe object.Output h = absurd h

-- an operation that is none on stripes is made on no stripe
pub not_stripe : (n : OpName) (obj : ObjId) → kind_of n ≡ object_kind obj → is_weak n ≡ false → IsStripe obj → ⊥
not_stripe n obj fits strong h = true≢false (sym (weak_stripe obj h) ∙ ap is_weak_kind (sym fits) ∙ weak_by_kind n ∙ strong)

module _ (p : Program) (s : SetupView) (code : Code) (same_cells : cells_of code s ≡ cell_count p s) (limits : IsWithinLimits s) where
  abbrev place : ObjId → ℕ
  place o = place_of (cells_of code s) o

  pub record Shows (words : List ℕ) (w : World) : Type 0 where
    pub cells : (c : ℕ) → c < cells_of code s → slice_get words c ≡ Some (w.cells c)
    pub objects : (o : ObjId) → IsThere p s o → slice_get words (place_of (cells_of code s) o) ≡ Some (w.objects o)

  pub cell_there : (c : ℕ) → c < cells_of code s → c < cell_count p s
  cell_there c lt = let same = same_cells in omega arith

  -- the source's objects are the machine's, but for stripes
  pub there : (o : ObjId) → has_object code s o ≡ true → (IsStripe o → ⊥) → IsThere p s o
  there (object.Mutex c) h not' = cell_there c (ltb-true c (cells_of code s) h)
  there (object.Cond c) h not' = cell_there c (ltb-true c (cells_of code s) h)
  there (object.Barrier c) h not' = cell_there c (ltb-true c (cells_of code s) h)
  there (object.Rw c) h not' = cell_there c (ltb-true c (cells_of code s) h)
  there (object.Slot k) h not' = ltb-true k s.slots h
  there (object.Weak lock stripe) h not' = not' tt
  there object.Threads h not' = tt
  there object.Halt h not' = tt
  there object.Input h not' = tt
  there object.Output h not' = tt

  pub is_had : (o : ObjId) → IsThere p s o → has_object code s o ≡ true
  is_had (object.Mutex c) h = lt-ltb c (cells_of code s) (let same = same_cells in omega arith)
  is_had (object.Cond c) h = lt-ltb c (cells_of code s) (let same = same_cells in omega arith)
  is_had (object.Barrier c) h = lt-ltb c (cells_of code s) (let same = same_cells in omega arith)
  is_had (object.Rw c) h = lt-ltb c (cells_of code s) (let same = same_cells in omega arith)
  is_had (object.Slot k) h = lt-ltb k s.slots h
  is_had (object.Weak lock stripe) h = absurd h
  is_had object.Threads h = refl
  is_had object.Halt h = refl
  is_had object.Input h = refl
  is_had object.Output h = refl

  no_stripe : (o : ObjId) → IsThere p s o → IsStripe o → ⊥
  no_stripe (object.Weak lock stripe) h k = h
  no_stripe (object.Mutex c) h k = k
  no_stripe (object.Cond c) h k = k
  no_stripe (object.Barrier c) h k = k
  no_stripe (object.Rw c) h k = k
  no_stripe (object.Slot n) h k = k
  no_stripe object.Threads h k = k
  no_stripe object.Halt h k = k
  no_stripe object.Input h k = k
  no_stripe object.Output h k = k

  -- ---- after a store

  stored_cell : (words : List ℕ) (w : World) (c v d : ℕ) (b : Bool) → nat_eq d c ≡ b → c < cells_of code s → d < cells_of code s → Shows words w → slice_get (slice_set words c v) d ≡ Some (if b then v else w.cells d)
  stored_cell words w c v d true e lt ld h = let same : d ≡ c = eqb-true d c e in ap (slice_get (slice_set words c v)) same ∙ slice_get-set_same words c v (w.cells c) (h.cells c lt)
  stored_cell words w c v d false e lt ld h = slice_get-set_other words c d v (λ same. true≢false (sym (eq_is d c same) ∙ e)) ∙ h.cells d ld
    where
      eq_is : (m n : ℕ) → m ≡ n → nat_eq m n ≡ true
      eq_is m n same = grind (arith, same)

  pub shows_store : (words : List ℕ) (w : World) (t c v : ℕ) → c < cells_of code s → Shows words w → Shows (slice_set words c v) (acted w t (action.Store c v))
  shows_store words w t c v lt h = record {
    cells = λ d ld. stored_cell words w c v d (nat_eq d c) refl lt ld h;
    objects = λ o is.
        let following = place_past (cells_of code s) o in
        slice_get-set_other words c (place o) v (λ e. absurd (omega arith)) ∙ h.objects o is;
  }

  -- ---- after an operation

  -- cells keep their words
  cell_kept : (words : List ℕ) (w : World) (obj : ObjId) (new c : ℕ) → c < cells_of code s → Shows words w → slice_get (slice_set words (place obj) new) c ≡ Some (w.cells c)
  cell_kept words w obj new c lt h =
      let following = place_past (cells_of code s) obj in
      slice_get-set_other words (place obj) c new (λ e. absurd (omega arith)) ∙ h.cells c lt

  object_after : (words : List ℕ) (w : World) (obj o : ObjId) (old new : ℕ) (b : Bool) → same_object o obj ≡ b → has_object code s obj ≡ true → IsThere p s o → slice_get words (place obj) ≡ Some old → Shows words w →
      slice_get (slice_set words (place obj) new) (place o) ≡ Some (if b then new else w.objects o)
  object_after words w obj o old new true e has_obj is at h = ap (λ z. slice_get (slice_set words (place obj) new) (place z)) (same_object-true o obj e) ∙ slice_get-set_same words (place obj) new old at
  object_after words w obj o old new false e has_obj is at h =
      slice_get-set_other words (place obj) (place o) new
      (λ same. let one = place_apart code s o obj limits (is_had o is) has_obj same in true≢false (sym (ap (same_object o) (sym one) ∙ same_object-refl o) ∙ e))
      ∙ h.objects o is

  pub shows_operated : (words : List ℕ) (w : World) (t old new : ℕ) (o : Op) (obj : ObjId) (answer : ℤ) → has_object code s obj ≡ true → IsThere p s obj → slice_get words (place_of (cells_of code s) obj) ≡ Some old → advanced o t old ≡ Advances new answer → Shows words w →
      Shows (slice_set words (place_of (cells_of code s) obj) new) (operated w t o obj)
  shows_operated words w t old new o obj answer has_obj is at row h =
      let word_is : old ≡ w.objects obj = same_Some old (w.objects obj) (sym at ∙ h.objects obj is) in
      let new_is : new ≡ word_after (w.objects obj) (advanced o t (w.objects obj)) = ap (word_after (w.objects obj)) (sym row ∙ ap (advanced o t) word_is) in
      record {
        cells = λ c lt. cell_kept words w obj new c lt h;
        objects = λ q there'.
            object_after words w obj q old new (same_object q obj) refl has_obj there' at h
            ∙ ap (λ n. Some (if same_object q obj then n else w.objects q)) new_is;
      }

  -- an operation on a stripe changes nothing of the source
  pub shows_stripe : (words : List ℕ) (w : World) (new : ℕ) (obj : ObjId) → has_object code s obj ≡ true → IsStripe obj → Shows words w → Shows (slice_set words (place_of (cells_of code s) obj) new) w
  shows_stripe words w new obj has_obj is h = record {
    cells = λ c lt. cell_kept words w obj new c lt h;
    objects = λ q there'.
        slice_get-set_other words (place obj) (place q) new (λ same. no_stripe q there' (subst IsStripe (sym (place_apart code s q obj limits (is_had q there') has_obj same)) is))
        ∙ h.objects q there';
  }
