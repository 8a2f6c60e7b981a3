-- What steps of the machine come to: which words change, and what becomes of the thread.
use Rattle.std.proofs.Common.{◌≡◌, ℕ, ◌<◌, Bool, true, false, if◌then◌else◌, nat_lt, List, Some, refl, ap, ◌∙◌, ℤ, pos}
use Rattle.std.specs.Prelude.{slice_get, slice_set}
use Rattle.std.proofs.lemmas.Bool.{ltb-true, lt-ltb}
use Rattle.sync_objects.specs.Advance.{Advances, advanced}
use Rattle.sync_objects.specs.Names.{name_of}
use Rattle.sync_objects.specs.Setup.{SetupView}
use Rattle.sync_objects.specs.Words.{number_of}
use Rattle.sync_objects.specs.declared.object.ObjId.{ObjId}
use Rattle.sync_objects.specs.declared.operation.Op.{Op}
use Rattle.flow_code.specs.declared.code.Code.{Code}
use Rattle.flow_code.specs.Threads.{Thread}
use Rattle.core_run.specs.Machine.{Told, operated, change_of, entry_of, operation, machine}
use Rattle.core_run.specs.Words.{cells_of, has_object, place_of}
use Rattle.run_theory.specs.Steps.{Becomes, Leaves, Refused, Loads, Stores, Operates, outcome}
use Rattle.run_theory.proofs.Swap.{change_inv, change_is, load_is}

module _ (code : Code) (s : SetupView) (words : List ℕ) where
  pub loads_leave : (c v : ℕ) (next : ℕ → Told) → c < cells_of code s → slice_get words c ≡ Some v → outcome (machine code s) words (if nat_lt c (cells_of code s) then Loads c next else Refused) ≡ Leaves words (next v)
  loads_leave c v next lt at =
      ap (λ b. outcome (machine code s) words (if b then Loads c next else Refused)) (lt-ltb c (cells_of code s) lt) ∙ load_is words v next (slice_get words c) at

  pub stores_leave : (c v x : ℕ) (q : Told) → c < cells_of code s → slice_get words c ≡ Some x → outcome (machine code s) words (if nat_lt c (cells_of code s) then Stores c v q else Refused) ≡ Leaves (slice_set words c v) q
  stores_leave c v x q lt at =
      ap (λ b. outcome (machine code s) words (if b then Stores c v q else Refused)) (lt-ltb c (cells_of code s) lt)
      ∙ change_is words c x v (pos 0) (λ _. Becomes v (pos 0) q) (slice_get words c) q at refl

  pub operates_leave : (t : ℕ) (told : Told) (o : Op) (obj : ObjId) (printed : List (List ℕ)) (next : ℤ → Thread) (old new : ℕ) (answer : ℤ) → has_object code s obj ≡ true → slice_get words (place_of (cells_of code s) obj) ≡ Some old → advanced o t old ≡ Advances new answer →
      outcome (machine code s) words (operation code s t told o obj printed next) ≡ Leaves (slice_set words (place_of (cells_of code s) obj) new) (operated told (next answer) (record { entry = entry_of t told.thread (name_of o) obj; number = number_of old }) printed)
  operates_leave t told o obj printed next old new answer has at row =
      let e = entry_of t told.thread (name_of o) obj in
      let p = place_of (cells_of code s) obj in
      let q = operated told (next answer) (record { entry = e; number = number_of old }) printed in
      ap (λ b. outcome (machine code s) words (if b then Operates e (λ w. change_of told e printed next w (advanced o t w)) else Refused)) has
      ∙ change_is words p old new answer (λ w. change_of told e printed next w (advanced o t w)) (slice_get words p) q at (ap (change_of told e printed next old) row)

  -- a store needs a word there
  pub record Stored (after : List ℕ) (c v : ℕ) (next q : Told) : Type 0 where
    pub within : c < cells_of code s
    pub old : ℕ
    pub at : slice_get words c ≡ Some old
    pub words_are : after ≡ slice_set words c v
    pub told_is : q ≡ next

  pub stored_inv : (after : List ℕ) (c v : ℕ) (next q : Told) → outcome (machine code s) words (if nat_lt c (cells_of code s) then Stores c v next else Refused) ≡ Leaves after q → Stored after c v next q
  stored_inv after c v next q h = by (nat_lt c (cells_of code s)) refl h
    where
      by : (b : Bool) → nat_lt c (cells_of code s) ≡ b → outcome (machine code s) words (if b then Stores c v next else Refused) ≡ Leaves after q → Stored after c v next q
      by false e h = cc
      by true e h =
          let i = change_inv words c (λ x. Becomes v (pos 0) next) (slice_get words c) after q h in
          let becomes : Becomes v (pos 0) next ≡ Becomes i.1 i.2 q = i.4 in
          let word_is : i.1 ≡ v = cc in
          let thread_is : q ≡ next = cc in
          record { within = ltb-true c (cells_of code s) e; old = i.0; at = i.3; words_are = i.5 ∙ ap (slice_set words c) word_is; told_is = thread_is }
