-- What is asked of a join, by the number of its events that are made, and of the calls of which nothing is asked.
use Rattle.std.proofs.Common.{◌≡◌, ℕ, zero, suc, true, List, refl, subst, sym}
use Rattle.std.specs.Prelude.{◌&&◌, ◌||◌, ℤ}
use Rattle.rr_base.specs.declared.layout.CellKind.TheVariants as cell
use Rattle.rr_base.specs.declared.layout.Site.{Site}
use Rattle.word_semantics.specs.Library.{argument, is_misuse}
use Rattle.word_semantics.specs.Values.{number}
use Rattle.word_semantics.specs.declared.library_call.LibraryCall.{LibraryCall}
use Rattle.word_semantics.specs.declared.library_call.LibraryCall.TheVariants as call
use Rattle.snapshots.specs.Conditions.{is_below, leads, join_fits, call_goes_on}

-- one event is made
pub join_at_one : (sites : List Site) (slots : ℕ) (words : List ℕ) (made : ℕ) (kept : ℤ) → made ≡ 1
    → join_fits sites slots words made kept ≡ (is_misuse kept || (is_below slots (number (argument words 0)) && leads sites words 1 cell.Pointer))
join_at_one sites slots words made kept e = subst (λ (m : ℕ). join_fits sites slots words m kept ≡ (is_misuse kept || (is_below slots (number (argument words 0)) && leads sites words 1 cell.Pointer))) (sym e) refl

-- another number is
pub join_later : (sites : List Site) (slots : ℕ) (words : List ℕ) (made : ℕ) (kept : ℤ) → (made ≡ 1 → ⊥)
    → join_fits sites slots words made kept ≡ leads sites words 1 cell.Pointer
join_later sites slots words zero kept other = refl
join_later sites slots words (suc zero) kept other = absurd (other refl)
join_later sites slots words (suc (suc m)) kept other = refl

-- nothing is asked of another call
pub other_call : (sites : List Site) (slots : ℕ) (library : LibraryCall) (words : List ℕ) (made : ℕ) (kept : ℤ)
    → ((f : ℕ) → library ≡ call.Create f → ⊥) → (library ≡ call.Join → ⊥) → (library ≡ call.CondWait → ⊥) → (library ≡ call.BarrierWait → ⊥)
    → true ≡ call_goes_on sites slots library words made kept
other_call sites slots (call.Create f) words made kept create join wait meet = absurd (create f refl)
other_call sites slots call.Join words made kept create join wait meet = absurd (join refl)
other_call sites slots call.CondWait words made kept create join wait meet = absurd (wait refl)
other_call sites slots call.BarrierWait words made kept create join wait meet = absurd (meet refl)
other_call sites slots _ words made kept create join wait meet = refl
