-- What a step of the machine has come to, by what it did.
use Rattle.std.proofs.Common.{◌≡◌, ℕ, ◌<◌, Bool, true, false, if◌then◌else◌, nat_lt, List, Some, refl, sym, ap, ◌∙◌, ℤ, pos}
use Rattle.std.specs.Prelude.{slice_get, slice_set}
use Rattle.std.proofs.lemmas.Bool.{ltb-true}
use Rattle.sync_objects.specs.Setup.{SetupView}
use Rattle.sync_objects.specs.Names.{name_of}
use Rattle.sync_objects.specs.Advance.{Advances, advanced}
use Rattle.sync_objects.specs.declared.object.ObjId.{ObjId}
use Rattle.sync_objects.specs.declared.operation.Op.{Op}
use Rattle.flow_code.specs.declared.code.Code.{Code}
use Rattle.flow_code.specs.Threads.{Thread}
use Rattle.core_run.specs.Words.{cells_of, has_object, place_of}
use Rattle.core_run.specs.Machine.{Told, change_of, entry_of, operation, machine}
use Rattle.core_run.proofs.Lawful.{change_is}
use Rattle.run_theory.specs.Steps.{Becomes, Leaves, Effect, Refused, Marks, Loads, Stores, Operates, outcome}
use Rattle.run_theory.proofs.Swap.{load_inv, change_inv}

module _ (code : Code) (s : SetupView) where
  pub record Operated (words after : List ℕ) (t : ℕ) (o : Op) (obj : ObjId) (next : ℤ → Thread) (q : Thread) : Type 0 where
    pub has : has_object code s obj ≡ true
    pub old : ℕ
    pub new : ℕ
    pub answer : ℤ
    pub at : slice_get words (place_of (cells_of code s) obj) ≡ Some old
    pub row : advanced o t old ≡ Advances new answer
    pub words_are : after ≡ slice_set words (place_of (cells_of code s) obj) new
    pub thread_is : q ≡ next answer

  pub operated_inv : (words after : List ℕ) (t : ℕ) (told q : Told) (o : Op) (obj : ObjId) (printed : List (List ℕ)) (next : ℤ → Thread) → outcome (machine code s) words (operation code s t told o obj printed next) ≡ Leaves after q → Operated words after t o obj next q.thread
  operated_inv words after t told q o obj printed next h = by (has_object code s obj) refl h
    where
      by : (b : Bool) → has_object code s obj ≡ b → outcome (machine code s) words (if b then Operates (entry_of t told.thread (name_of o) obj) (λ w. change_of told (entry_of t told.thread (name_of o) obj) printed next w (advanced o t w)) else Refused) ≡ Leaves after q → Operated words after t o obj next q.thread
      by false e h = cc
      by true e h =
          let p = place_of (cells_of code s) obj in
          let i = change_inv words p (λ w. change_of told (entry_of t told.thread (name_of o) obj) printed next w (advanced o t w)) (slice_get words p) after q h in
          let row = change_is told (entry_of t told.thread (name_of o) obj) printed next i.0 (advanced o t i.0) i.1 i.2 q i.4 in
          record { has = e; old = i.0; new = i.1; answer = i.2; at = i.3; row = row.0; words_are = i.5; thread_is = ap (λ (z : Told). z.thread) row.1 }

  pub loaded_inv : (words after : List ℕ) (c : ℕ) (next : ℕ → Told) (q : Told) → outcome (machine code s) words (if nat_lt c (cells_of code s) then Loads c next else Refused) ≡ Leaves after q → (c < cells_of code s) × (v : ℕ) × (slice_get words c ≡ Some v) × (after ≡ words) × (q ≡ next v)
  loaded_inv words after c next q h = by (nat_lt c (cells_of code s)) refl h
    where
      by : (b : Bool) → nat_lt c (cells_of code s) ≡ b → outcome (machine code s) words (if b then Loads c next else Refused) ≡ Leaves after q → (c < cells_of code s) × (v : ℕ) × (slice_get words c ≡ Some v) × (after ≡ words) × (q ≡ next v)
      by false e h = cc
      by true e h =
          let i = load_inv words next (slice_get words c) after q h in
          (ltb-true c (cells_of code s) e, i.0, i.1, i.2, i.3)

  pub stored_inv : (words after : List ℕ) (c v : ℕ) (next q : Told) → outcome (machine code s) words (if nat_lt c (cells_of code s) then Stores c v next else Refused) ≡ Leaves after q → (c < cells_of code s) × (after ≡ slice_set words c v) × (q ≡ next)
  stored_inv words after c v next q h = by (nat_lt c (cells_of code s)) refl h
    where
      by : (b : Bool) → nat_lt c (cells_of code s) ≡ b → outcome (machine code s) words (if b then Stores c v next else Refused) ≡ Leaves after q → (c < cells_of code s) × (after ≡ slice_set words c v) × (q ≡ next)
      by false e h = cc
      by true e h =
          let i = change_inv words c (λ x. Becomes v (pos 0) next) (slice_get words c) after q h in
          let becomes : Becomes v (pos 0) next ≡ Becomes i.1 i.2 q = i.4 in
          let word_is : v ≡ i.1 = cc in
          let thread_is : next ≡ q = cc in
          (ltb-true c (cells_of code s) e, i.5 ∙ ap (slice_set words c) (sym word_is), sym thread_is)

  pub marked_inv : (words after : List ℕ) (next q : Told) → outcome (machine code s) words (Marks next) ≡ Leaves after q → (after ≡ words) × (q ≡ next)
  marked_inv words after next q h =
      let words_are : words ≡ after = cc in
      let thread_is : next ≡ q = cc in
      (sym words_are, sym thread_is)

  -- where something is done, it may be done
  pub allowed_inv : (words after : List ℕ) (b : Bool) (e : Effect Told) (q : Told) → outcome (machine code s) words (if b then e else Refused) ≡ Leaves after q → (b ≡ true) × (outcome (machine code s) words e ≡ Leaves after q)
  allowed_inv words after true e q h = (refl, h)
  allowed_inv words after false e q h = cc
