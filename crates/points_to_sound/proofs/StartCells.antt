-- At the start the cells of global objects hold good words, and all other cells hold 0.
use Rattle.std.proofs.Common.{◌≡◌, ℕ, zero, suc, ◌+◌, ◌*◌, ◌<◌, ◌⊎◌, inl, inr, ⊎_elim, true, List, [], ◌∷◌, ◌++◌, length, replicate, take, drop, Some, refl, sym, ap, subst, ◌∙◌, arith}
use Rattle.std.specs.Prelude.{slice_get}
use Rattle.std.specs.List.{Contains}
use Rattle.std.proofs.lemmas.Option.{same_Some}
use Rattle.std.proofs.lemmas.List.Elements.{Contains-append_left, Contains-append_right}
use Rattle.rr_base.proofs.Lists.{slice_get-drop, slice_get-take}
use Rattle.rr_base.specs.Words.{site_of, class_of}
use Rattle.rr_base.specs.declared.layout.CellKind.{CellKind}
use Rattle.rr_base.specs.declared.layout.Site.{Site}
use Rattle.sync_objects.specs.Setup.{SetupView}
use Rattle.word_semantics.specs.Pointers.{site_at, base_at}
use Rattle.flow_code.specs.Addresses.{address_at}
use Rattle.flow_code.specs.declared.code.Code.{Code}
use Rattle.flow_code.specs.Valid.{is_valid}
use Rattle.flow_code.proofs.Objects.{kinds_are_all}
use Rattle.flow_code.proofs.ValidParts.{globals_are_fit}
use Rattle.core_run.specs.Words.{cells_of, start_global, start_globals, start_cells, start_objects, start_words}
use Rattle.core_run.proofs.Beginnings.{length-start_cells}
use Rattle.facts.specs.PointsTo.{place, word_constraints, cells_constraints, object_constraints, sites_constraints, functions_constraints, constraints_of}
use Rattle.facts.specs.declared.constraint.Constraint.{Constraint}
use Rattle.facts.specs.declared.constraint.Constraint.TheVariants.{Given}
use Rattle.facts.specs.declared.constraint.Node.TheVariants.{Cells}
use Rattle.points_to_sound.proofs.Finding.{first_of}

-- ---- words at the start

got_append : {X : Type 0} (xs ys : List X) (i : ℕ) (x : X) → slice_get (xs ++ ys) i ≡ Some x → ((i < length xs) × (slice_get xs i ≡ Some x)) ⊎ ((j : ℕ) × (i ≡ length xs + j) × (slice_get ys j ≡ Some x))
got_append [] ys i x e = inr (i, omega arith, e)
got_append (y ∷ xs) ys zero x e = inl (omega arith, e)
got_append (y ∷ xs) ys (suc i) x e = ⊎_elim (λ (h : (i < length xs) × (slice_get xs i ≡ Some x)). let lt = h.0 in inl (omega arith, h.1)) (λ (h : (j : ℕ) × (i ≡ length xs + j) × (slice_get ys j ≡ Some x)). let at = h.1 in inr (h.0, omega arith, h.2)) (got_append xs ys i x e)

zeros_hold : (n i w : ℕ) → slice_get (replicate n 0) i ≡ Some w → w ≡ 0
zeros_hold zero i w e = cc
zeros_hold (suc n) zero w e = sym (same_Some 0 w e)
zeros_hold (suc n) (suc i) w e = zeros_hold n i w e

abbrev zeros : ℕ → List ℕ
zeros n = replicate n 0

zeros_long : (n : ℕ) → length (zeros n) ≡ n
zeros_long zero = refl
zeros_long (suc n) = ap suc (zeros_long n)

pub record FromGlobal (slots : ℕ) (ks : List CellKind) (ws : List ℕ) (i w : ℕ) : Type 0 where
  pub kind : CellKind
  pub word : ℕ
  pub is_kind : slice_get ks i ≡ Some kind
  pub is_word : slice_get ws i ≡ Some word
  pub is : start_global slots kind word ≡ w

global_got : (slots : ℕ) (ks : List CellKind) (ws : List ℕ) (i w : ℕ) → length ks ≡ length ws → slice_get (start_globals slots ks ws) i ≡ Some w → FromGlobal slots ks ws i w
global_got slots [] [] i w n e = cc
global_got slots [] (v ∷ ws) i w n e = absurd (omega arith)
global_got slots (k ∷ ks) [] i w n e = cc
global_got slots (k ∷ ks) (v ∷ ws) zero w n e = record { kind = k; word = v; is_kind = refl; is_word = refl; is = same_Some (start_global slots k v) w e }
global_got slots (k ∷ ks) (v ∷ ws) (suc i) w n e = let x = global_got slots ks ws i w (omega arith) e in record { kind = x.kind; word = x.word; is_kind = x.is_kind; is_word = x.is_word; is = x.is }

-- a cell holds 0 at the start, or it is that of a global
pub data StartsWith (code : Code) (s : SetupView) (c w : ℕ) : Type 0 where
  with_zero : w ≡ 0 → StartsWith code s c w
  with_global : (i : ℕ) → c ≡ 2 * s.slots + i → FromGlobal s.slots code.global_kinds code.globals i w → StartsWith code s c w

module _ (code : Code) (s : SetupView) (valid : is_valid code ≡ true) where
  kinds_long : length code.global_kinds ≡ length code.globals
  kinds_long = kinds_are_all code (globals_are_fit code valid)

  abbrev hands : List ℕ
  hands = replicate (2 * s.slots) 0

  abbrev globals_now : List ℕ
  globals_now = start_globals s.slots code.global_kinds code.globals

  abbrev arenas_now : List ℕ
  arenas_now = replicate (s.slots * s.cells) 0

  in_front : (c w : ℕ) → slice_get (hands ++ globals_now) c ≡ Some w → StartsWith code s c w
  in_front c w e =
      ⊎_elim
      (λ h. with_zero (zeros_hold (2 * s.slots) c w h.1))
      (λ h. let n = zeros_long (2 * s.slots) in with_global h.0 (h.1 ∙ ap (λ k. k + h.0) n) (global_got s.slots code.global_kinds code.globals h.0 w kinds_long h.2))
      (got_append hands globals_now c w e)

  in_cells : (c w : ℕ) → slice_get (start_cells code s) c ≡ Some w → StartsWith code s c w
  in_cells c w e = ⊎_elim (λ h. in_front c w h.1) (λ h. with_zero (zeros_hold (s.slots * s.cells) h.0 w h.2)) (got_append (hands ++ globals_now) arenas_now c w e)

  pub starts_with : (c w : ℕ) → c < cells_of code s → slice_get (start_words code s) c ≡ Some w → StartsWith code s c w
  starts_with c w lt e =
      ⊎_elim
      (λ h. in_cells c w h.1)
      (λ h. let n = length-start_cells code s in let at = h.1 in absurd (omega arith))
      (got_append (start_cells code s) (start_objects code s) c w e)

  -- ---- the pointers of global cells are given places

  in_sites : (j k : ℕ) (sites : List Site) (site : Site) (c : Constraint) → slice_get sites k ≡ Some site → Contains (object_constraints code (j + k) site (base_at code.global_bases (j + k))) c → Contains (sites_constraints code j sites) c
  in_sites j k [] site c e h = cc
  in_sites j zero (x ∷ sites) site c e h =
      let at : j + 0 ≡ j = omega arith in
      Contains-append_left (object_constraints code j x (base_at code.global_bases j)) (sites_constraints code (j + 1) sites) c
      (subst (λ n. Contains (object_constraints code n x (base_at code.global_bases n)) c) at (subst (λ (y : Site). Contains (object_constraints code (j + 0) y (base_at code.global_bases (j + 0))) c) (sym (same_Some x site e)) h))
  in_sites j (suc k) (x ∷ sites) site c e h =
      let at : j + suc k ≡ j + 1 + k = omega arith in
      Contains-append_right (object_constraints code j x (base_at code.global_bases j)) (sites_constraints code (j + 1) sites) c
      (in_sites (j + 1) k sites site c e (subst (λ n. Contains (object_constraints code n site (base_at code.global_bases n)) c) at h))

  in_cells_of : (k element offset i : ℕ) (ks : List CellKind) (ws : List ℕ) (kind : CellKind) (v w : ℕ) → slice_get ks i ≡ Some kind → slice_get ws i ≡ Some v → address_at kind v ≡ Some w → Contains (cells_constraints k element offset ks ws) (Given (Cells (place k (class_of element (offset + i)))) (place (site_of w) 0))
  in_cells_of k element offset i [] ws kind v w a b c = cc
  in_cells_of k element offset i (x ∷ ks) [] kind v w a b c = cc
  in_cells_of k element offset zero (x ∷ ks) (y ∷ ws) kind v w a b c =
      let at : offset ≡ offset + 0 = omega arith in
      let is : address_at x y ≡ Some w = ap (λ n. address_at n y) (same_Some x kind a) ∙ ap (address_at kind) (same_Some y v b) ∙ c in
      Contains-append_left (word_constraints k element offset (address_at x y)) (cells_constraints k element (offset + 1) ks ws) (Given (Cells (place k (class_of element (offset + 0)))) (place (site_of w) 0))
      (subst (λ o. Contains (word_constraints k element offset o) (Given (Cells (place k (class_of element (offset + 0)))) (place (site_of w) 0))) (sym is)
      (subst (λ n. Contains (word_constraints k element offset (Some w)) (Given (Cells (place k (class_of element n))) (place (site_of w) 0))) at (first_of (Given (Cells (place k (class_of element offset))) (place (site_of w) 0)) [])))
  in_cells_of k element offset (suc i) (x ∷ ks) (y ∷ ws) kind v w a b c =
      let at : offset + 1 + i ≡ offset + suc i = omega arith in
      Contains-append_right (word_constraints k element offset (address_at x y)) (cells_constraints k element (offset + 1) ks ws) (Given (Cells (place k (class_of element (offset + suc i)))) (place (site_of w) 0))
      (subst (λ n. Contains (cells_constraints k element (offset + 1) ks ws) (Given (Cells (place k (class_of element n))) (place (site_of w) 0))) at (in_cells_of k element (offset + 1) i ks ws kind v w a b c))

  -- the constraint of a pointer that a global's cell holds at the start
  pub cell_given : (k : ℕ) (site : Site) (base i : ℕ) (kind : CellKind) (v w : ℕ) → site_at code.sites k ≡ Some site → base_at code.global_bases k ≡ Some base → i < site.layout.size → slice_get code.global_kinds (base + i) ≡ Some kind → slice_get code.globals (base + i) ≡ Some v → address_at kind v ≡ Some w → Contains (constraints_of code) (Given (Cells (place k (class_of site.layout.element i))) (place (site_of w) 0))
  cell_given zero site base i kind v w e f lt x y c = cc
  cell_given (suc k) site base i kind v w e f lt x y c =
      let at : 1 + k ≡ suc k = omega arith in
      let zero_i : 0 + i ≡ i = omega arith in
      let here = in_cells_of (suc k) site.layout.element 0 i (take site.layout.size (drop base code.global_kinds)) (drop base code.globals) kind v w
      (slice_get-take site.layout.size (drop base code.global_kinds) i lt ∙ slice_get-drop base code.global_kinds i ∙ x) (slice_get-drop base code.globals i ∙ y) c in
      let g = Given (Cells (place (suc k) (class_of site.layout.element i))) (place (site_of w) 0) in
      Contains-append_right (functions_constraints 0 code.functions) (sites_constraints code 1 code.sites) g
      (in_sites 1 k code.sites site g e
      (subst (λ n. Contains (object_constraints code n site (base_at code.global_bases n)) g) (sym at)
      (subst (λ o. Contains (object_constraints code (suc k) site o) g) (sym f)
      (subst (λ n. Contains (cells_constraints (suc k) site.layout.element 0 (take site.layout.size (drop base code.global_kinds)) (drop base code.globals)) (Given (Cells (place (suc k) (class_of site.layout.element n))) (place (site_of w) 0))) zero_i here))))
