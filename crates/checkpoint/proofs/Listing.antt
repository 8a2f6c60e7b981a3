-- The words that a snapshot lists, put one after another: each cell and each object gets its word, and no other changes.
use Rattle.std.proofs.Common.{◌≡◌, ◌≢◌, ℕ, zero, suc, ◌+◌, ◌<◌, ◌≤◌, ◌⊎◌, inl, inr, ⊎_elim, ◌==◌, Bool, true, false, if◌then◌else◌, List, [], ◌∷◌, ◌++◌, length, replicate, Option, Some, None, refl, sym, ap, subst, ◌∙◌, arith, append_assoc, length-append, length-set}
use Rattle.std.specs.Prelude.{slice_get, slice_set, slice_index}
use Rattle.std.specs.List.{filter_map}
use Rattle.std.proofs.lemmas.Bool.{cases_eq, eqb-true}
use Rattle.std.proofs.lemmas.Option.{same_Some, slice_get_within, slice_get_past, slice_get-get_or}
use Rattle.rr_base.proofs.Lists.{slice_get-set_other, slice_get-set_within, slice_get_outside}
use Rattle.sync_objects.specs.Start.{start_word}
use Rattle.sync_objects.specs.Words.{number_of, state_of, word_of}
use Rattle.sync_objects.specs.declared.object.ObjId.{ObjId}
use Rattle.sync_objects.proofs.Packings.{word_of-parts}
use Rattle.core_run.specs.Words.{place_of}
use Rattle.snapshots.specs.Snapshots.{cells_from, object_with, with_cells, with_objects}

-- ---- cells

pub set_at : (pre rest : List ℕ) (x w : ℕ) → slice_set (pre ++ x ∷ rest) (length pre) w ≡ pre ++ w ∷ rest
set_at [] rest x w = refl
set_at (p ∷ pre) rest x w = ap (λ z. p ∷ z) (set_at pre rest x w)

-- these cells get their words among zeros
abbrev Fills : List ℕ → List ℕ → List ℕ → ℕ → Type 0
Fills ws pre rest first = with_cells (cells_from first ws) (pre ++ (replicate (length ws) 0 ++ rest)) ≡ pre ++ (ws ++ rest)

-- the listed cells get their words among zeros
pub cells_fill : (ws pre rest : List ℕ) (first : ℕ) → first ≡ length pre → Fills ws pre rest first
cells_fill [] pre rest first e = refl
cells_fill (w ∷ ws) pre rest first e = by (λ x. cells_fill ws (pre ++ x ∷ []) rest (first + 1) (omega (arith, e, length-append pre (x ∷ [])))) (w == 0) refl
  where
    more : ((x : ℕ) → Fills ws (pre ++ x ∷ []) rest (first + 1)) → (x : ℕ) → with_cells (cells_from (first + 1) ws) (pre ++ x ∷ (replicate (length ws) 0 ++ rest)) ≡ pre ++ x ∷ (ws ++ rest)
    more again x =
        ap (with_cells (cells_from (first + 1) ws)) (sym (append_assoc pre (x ∷ []) (replicate (length ws) 0 ++ rest)))
        ∙ again x
        ∙ append_assoc pre (x ∷ []) (ws ++ rest)

    by : ((x : ℕ) → Fills ws (pre ++ x ∷ []) rest (first + 1)) → (b : Bool) → (w == 0) ≡ b → with_cells (if w == 0 then cells_from (first + 1) ws else (first, w) ∷ cells_from (first + 1) ws) (pre ++ 0 ∷ (replicate (length ws) 0 ++ rest)) ≡ pre ++ w ∷ (ws ++ rest)
    by again true h =
        ap (λ b. with_cells (if b then cells_from (first + 1) ws else (first, w) ∷ cells_from (first + 1) ws) (pre ++ 0 ∷ (replicate (length ws) 0 ++ rest))) h
        ∙ more again 0
        ∙ ap (λ x. pre ++ x ∷ (ws ++ rest)) (sym (eqb-true w 0 h))
    by again false h =
        ap (λ b. with_cells (if b then cells_from (first + 1) ws else (first, w) ∷ cells_from (first + 1) ws) (pre ++ 0 ∷ (replicate (length ws) 0 ++ rest))) h
        ∙ ap (λ k. with_cells (cells_from (first + 1) ws) (slice_set (pre ++ 0 ∷ (replicate (length ws) 0 ++ rest)) k w)) e
        ∙ ap (with_cells (cells_from (first + 1) ws)) (set_at pre (replicate (length ws) 0 ++ rest) 0 w)
        ∙ more again w

-- ---- objects

-- what holds of each item of a list
abbrev pub AllIn : (ObjId → Type 0) → List ObjId → Type 0
AllIn P [] = Unit {0}
AllIn P (o ∷ os) = P o × AllIn P os

-- the item is in the list
abbrev pub Has : ObjId → List ObjId → Type 0
Has o os = (k : ℕ) × (slice_get os k ≡ Some o)

pub filter_none : {A B : Type 0} (f : A → Option B) (x : A) (xs : List A) → f x ≡ None → filter_map f (x ∷ xs) ≡ filter_map f xs
filter_none f x xs e = rw e refl

pub filter_some : {A B : Type 0} (f : A → Option B) (x : A) (xs : List A) (y : B) → f x ≡ Some y → filter_map f (x ∷ xs) ≡ y ∷ filter_map f xs
filter_some f x xs y e = rw e refl

-- words, those at the start, and how many cells there are
module _ (cells : ℕ) (words start : List ℕ) where
  abbrev pub word_at : ObjId → ℕ
  word_at o = slice_index words (place_of cells o)

  abbrev pub listed_at : ObjId → Option (ObjId × ℕ × ℕ)
  listed_at o = object_with o (word_at o)

  -- the object's word after its turn
  abbrev put : ObjId → List ℕ → List ℕ
  put o ws = if word_at o == start_word o then ws else slice_set ws (place_of cells o) (word_at o)

  pub turn : (o : ObjId) (os : List ObjId) (ws : List ℕ) → with_objects cells (filter_map listed_at (o ∷ os)) ws ≡ with_objects cells (filter_map listed_at os) (put o ws)
  turn o os ws = by (word_at o == start_word o) refl
    where
      by : (b : Bool) → (word_at o == start_word o) ≡ b → with_objects cells (filter_map listed_at (o ∷ os)) ws ≡ with_objects cells (filter_map listed_at os) (put o ws)
      by true h =
          let none : listed_at o ≡ None = ap (λ b. if b then None else Some (o, number_of (word_at o), state_of (word_at o))) h in
          ap (λ zs. with_objects cells zs ws) (filter_none listed_at o os none)
          ∙ ap (λ b. with_objects cells (filter_map listed_at os) (if b then ws else slice_set ws (place_of cells o) (word_at o))) (sym h)
      by false h =
          let some : listed_at o ≡ Some (o, number_of (word_at o), state_of (word_at o)) = ap (λ b. if b then None else Some (o, number_of (word_at o), state_of (word_at o))) h in
          ap (λ zs. with_objects cells zs ws) (filter_some listed_at o os (o, number_of (word_at o), state_of (word_at o)) some)
          ∙ ap (λ v. with_objects cells (filter_map listed_at os) (slice_set ws (place_of cells o) v)) (word_of-parts (word_at o))
          ∙ ap (λ b. with_objects cells (filter_map listed_at os) (if b then ws else slice_set ws (place_of cells o) (word_at o))) (sym h)

  -- at this place there is the word already, or the one at the start
  abbrev pub Near : List ℕ → ℕ → Type 0
  Near ws i = (slice_get ws i ≡ slice_get words i) ⊎ (slice_get ws i ≡ slice_get start i)

  put_length : (o : ObjId) (ws : List ℕ) → length (put o ws) ≡ length ws
  put_length o ws = by (word_at o == start_word o)
    where
      by : (b : Bool) → length (if b then ws else slice_set ws (place_of cells o) (word_at o)) ≡ length ws
      by true = refl
      by false = length-set ws (place_of cells o) (word_at o)

  put_other : (o : ObjId) (ws : List ℕ) (i : ℕ) → i ≢ place_of cells o → slice_get (put o ws) i ≡ slice_get ws i
  put_other o ws i ne = by (word_at o == start_word o)
    where
      by : (b : Bool) → slice_get (if b then ws else slice_set ws (place_of cells o) (word_at o)) i ≡ slice_get ws i
      by true = refl
      by false = slice_get-set_other ws (place_of cells o) i (word_at o) ne

  -- after its turn an object has its word
  put_here : (o : ObjId) (ws : List ℕ) → place_of cells o < length words → length ws ≡ length words → slice_get start (place_of cells o) ≡ Some (start_word o) → Near ws (place_of cells o) → slice_get (put o ws) (place_of cells o) ≡ slice_get words (place_of cells o)
  put_here o ws lt len at near = by (word_at o == start_word o) refl
    where
      here : slice_get words (place_of cells o) ≡ Some (word_at o)
      here = slice_get-get_or words (place_of cells o) 0 lt

      by : (b : Bool) → (word_at o == start_word o) ≡ b → slice_get (if b then ws else slice_set ws (place_of cells o) (word_at o)) (place_of cells o) ≡ slice_get words (place_of cells o)
      by true h = ⊎_elim (λ e. e) (λ e. e ∙ at ∙ ap Some (sym (eqb-true (word_at o) (start_word o) h)) ∙ sym here) near
      by false h = slice_get-set_within ws (place_of cells o) (word_at o) (subst (λ n. place_of cells o < n) (sym len) lt) ∙ sym here

  -- a word that is there stays
  pub stays : (os : List ObjId) (ws : List ℕ) (i : ℕ) → length ws ≡ length words → slice_get ws i ≡ slice_get words i → slice_get (with_objects cells (filter_map listed_at os) ws) i ≡ slice_get words i
  stays [] ws i len e = e
  stays (o ∷ os) ws i len e = ap (λ zs. slice_get zs i) (turn o os ws) ∙ stays os (put o ws) i (put_length o ws ∙ len) (by (cases_eq i (place_of cells o)))
    where
      at : (b : Bool) → i ≡ place_of cells o → (v : Option ℕ) → slice_get words i ≡ v → slice_get (if b then ws else slice_set ws (place_of cells o) (word_at o)) i ≡ slice_get words i
      at true same v w = e
      at false same None w =
          let past : length words ≤ i = slice_get_outside words i w in
          slice_get_past (slice_set ws (place_of cells o) (word_at o)) i (omega (arith, past, len, length-set ws (place_of cells o) (word_at o))) ∙ sym w
      at false same (Some v) w =
          let lt = slice_get_within words i v w in
          ap (slice_get (slice_set ws (place_of cells o) (word_at o))) same
          ∙ slice_get-set_within ws (place_of cells o) (word_at o) (omega (arith, lt, len, same))
          ∙ sym (slice_get-get_or words (place_of cells o) 0 (omega (arith, lt, same)))
          ∙ ap (slice_get words) (sym same)

      by : (i ≡ place_of cells o) ⊎ (i ≢ place_of cells o) → slice_get (put o ws) i ≡ slice_get words i
      by (inl same) = at (word_at o == start_word o) same (slice_get words i) refl
      by (inr ne) = put_other o ws i ne ∙ e

  -- each listed object gets its word
  abbrev pub StartsAt : ObjId → Type 0
  StartsAt o = (place_of cells o < length words) × (slice_get start (place_of cells o) ≡ Some (start_word o))

  -- the object with number k in the list gets its word
  abbrev Gets : List ObjId → List ℕ → ℕ → ObjId → ℕ → Type 0
  Gets os ws i o k = length ws ≡ length words → AllIn StartsAt os → slice_get os k ≡ Some o → place_of cells o ≡ i → Near ws i → slice_get (with_objects cells (filter_map listed_at os) ws) i ≡ slice_get words i

  pub gets : (os : List ObjId) (ws : List ℕ) (i k : ℕ) (o : ObjId) → length ws ≡ length words → AllIn StartsAt os → slice_get os k ≡ Some o → place_of cells o ≡ i → Near ws i → slice_get (with_objects cells (filter_map listed_at os) ws) i ≡ slice_get words i
  gets [] ws i k o len all at same near = cc
  gets (x ∷ os) ws i k o len all at same near = ap (λ zs. slice_get zs i) (turn x os ws) ∙ by (λ k. gets os (put x ws) i k o) (cases_eq i (place_of cells x)) k at
    where
      by : ((k : ℕ) → Gets os (put x ws) i o k) → (i ≡ place_of cells x) ⊎ (i ≢ place_of cells x) → (k : ℕ) → slice_get (x ∷ os) k ≡ Some o → slice_get (with_objects cells (filter_map listed_at os) (put x ws)) i ≡ slice_get words i
      by again (inl here) k at =
          stays os (put x ws) i (put_length x ws ∙ len)
          (subst (λ n. slice_get (put x ws) n ≡ slice_get words n) (sym here) (put_here x ws all.0.0 len all.0.1 (subst (Near ws) here near)))
      by again (inr ne) zero at = let is : x ≡ o = same_Some x o at in absurd (ne (sym same ∙ ap (place_of cells) (sym is)))
      by again (inr ne) (suc k) at = again k (put_length x ws ∙ len) all.1 at same (⊎_elim (λ e. inl (put_other x ws i ne ∙ e)) (λ e. inr (put_other x ws i ne ∙ e)) near)
