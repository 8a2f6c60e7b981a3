-- The words of a snapshot are as many as at the start and sound, as those are that it lists.
use Rattle.std.proofs.Common.{◌≡◌, ◌≢◌, ℕ, zero, suc, ◌+◌, ◌-◌, ◌<◌, ◌≤◌, ◌⊎◌, ⊎_elim, inl, inr, true, List, [], ◌∷◌, ◌++◌, length, drop, replicate, Option, Some, None, refl, sym, ap, subst, ◌∙◌, arith, length-append, length-set}
use Rattle.std.specs.Prelude.{slice_get, slice_set}
use Rattle.std.proofs.lemmas.List.{length-replicate}
use Rattle.std.proofs.lemmas.Option.{same_Some, slice_get_within}
use Rattle.rr_base.proofs.Lists.{slice_get-set_other, slice_get-set_within, slice_get-append_right}
use Rattle.sync_objects.specs.Setup.{SetupView, IsWithinLimits}
use Rattle.sync_objects.specs.Names.{object_kind}
use Rattle.sync_objects.specs.Sound.{IsSoundWord}
use Rattle.sync_objects.specs.Words.{number_of, word_of}
use Rattle.sync_objects.specs.declared.object.ObjId.{ObjId}
use Rattle.sync_objects.proofs.Packings.{number_of-word_of}
use Rattle.flow_code.specs.declared.code.Code.{Code}
use Rattle.core_run.specs.Kept.{AreSound, most_operations}
use Rattle.core_run.specs.Parts.{KeepsObjects}
use Rattle.core_run.specs.Words.{cells_of, has_object, place_of, start_cells, start_objects, start_words}
use Rattle.core_run.proofs.Beginnings.{length-start_cells, length-start_words}
use Rattle.core_run.proofs.EntryParts.{still_sound}
use Rattle.core_run.proofs.Places.{place_past, place_apart}
use Rattle.core_run.proofs.SoundWords.{sound_more, sound_start, sound_store}
use Rattle.run_theory.proofs.SameEntries.{object_cases}
use Rattle.snapshots.specs.Snapshots.{with_cells, with_objects, words_of, IsListedObject}
use Rattle.snapshots.specs.declared.snapshot.Snapshot.{Snapshot}
use Rattle.checkpoint.proofs.Grouping.{place_within, there_within}

drop_all : (xs ys : List ℕ) → drop (length xs) (xs ++ ys) ≡ ys
drop_all [] ys = refl
drop_all (x ∷ xs) ys = drop_all xs ys

module _ (code : Code) (s : SetupView) where
  abbrev zeros : List ℕ
  zeros = replicate (cells_of code s) 0 ++ start_objects code s

  objects_left : drop (cells_of code s) (start_words code s) ≡ start_objects code s
  objects_left = ap (λ n. drop n (start_words code s)) (sym (length-start_cells code s)) ∙ drop_all (start_cells code s) (start_objects code s)

  -- zeros for the cells, and after them the objects' words at the start
  pub zeros_are : (n : ℕ) (front start rest all : List ℕ) → n ≡ cells_of code s → front ≡ replicate n 0 → start ≡ start_words code s → rest ≡ drop n start → all ≡ front ++ rest → all ≡ zeros
  zeros_are n front start rest all same a b c d =
      d ∙ ap (λ z. z ++ rest) (a ∙ ap (λ k. replicate k 0) same) ∙ ap (λ z. replicate (cells_of code s) 0 ++ z) (c ∙ ap (drop n) b ∙ ap (λ k. drop k (start_words code s)) same ∙ objects_left)

  pub words_put : (n : ℕ) (x : Snapshot) (cs : List (ℕ × ℕ)) (os : List (ObjId × ℕ × ℕ)) (first second third : List ℕ) → n ≡ cells_of code s → cs ≡ x.cells → os ≡ x.objects → first ≡ zeros → second ≡ with_cells cs first → third ≡ with_objects n os second → third ≡ words_of code s x
  words_put n x cs os first second third same a b e f g =
      g
      ∙ ap (with_objects n os) (f ∙ ap (with_cells cs) e ∙ ap (λ z. with_cells z zeros) a)
      ∙ ap (λ z. with_objects n z (with_cells x.cells zeros)) b
      ∙ ap (λ k. with_objects k x.objects (with_cells x.cells zeros)) same

  pub zeros_length : length zeros ≡ length (start_words code s)
  zeros_length = omega (arith, length-append (replicate (cells_of code s) 0) (start_objects code s), length-replicate {A = ℕ} (cells_of code s) 0, length-append (start_cells code s) (start_objects code s), length-start_cells code s)

  zeros_objects : (i : ℕ) → cells_of code s ≤ i → slice_get zeros i ≡ slice_get (start_words code s) i
  zeros_objects i low =
      let n = i - cells_of code s in
      let zero_cells : List ℕ = replicate (cells_of code s) 0 in
      let here : i ≡ length zero_cells + n = omega (arith, low, length-replicate {A = ℕ} (cells_of code s) 0) in
      let there : i ≡ length (start_cells code s) + n = omega (arith, low, length-start_cells code s) in
      ap (slice_get zeros) here
      ∙ slice_get-append_right zero_cells (start_objects code s) n
      ∙ sym (slice_get-append_right (start_cells code s) (start_objects code s) n)
      ∙ ap (slice_get (start_words code s)) (sym there)

  cells_length : (cs : List (ℕ × ℕ)) (words : List ℕ) → length (with_cells cs words) ≡ length words
  cells_length [] words = refl
  cells_length (c ∷ cs) words = cells_length cs (slice_set words c.0 c.1) ∙ length-set words c.0 c.1

  objects_length : (cells : ℕ) (os : List (ObjId × ℕ × ℕ)) (words : List ℕ) → length (with_objects cells os words) ≡ length words
  objects_length cells [] words = refl
  objects_length cells (o ∷ os) words = objects_length cells os (slice_set words (place_of cells o.0) (word_of o.1 o.2)) ∙ length-set words (place_of cells o.0) (word_of o.1 o.2)

module _ (code : Code) (s : SetupView) (limits : IsWithinLimits s) where
  zeros_sound : AreSound code s most_operations (zeros code s)
  zeros_sound = still_sound code s most_operations (cells_of code s) (start_words code s) (zeros code s) refl (record { len = zeros_length code s; objects = zeros_objects code s }) (sound_more code s 0 most_operations (start_words code s) (omega arith) (sound_start code s limits))

  cells_sound : (cs : List (ℕ × ℕ)) (words : List ℕ) → ((k : ℕ) (c : ℕ × ℕ) → slice_get cs k ≡ Some c → c.0 < cells_of code s) → AreSound code s most_operations words → AreSound code s most_operations (with_cells cs words)
  cells_sound [] words h k = k
  cells_sound (c ∷ cs) words h k = cells_sound cs (slice_set words c.0 c.1) (λ i d e. h (suc i) d e) (sound_store code s most_operations words c.0 c.1 (h 0 c refl) k)

  -- one listed object gets its word
  object_sound : (o : ObjId × ℕ × ℕ) (words : List ℕ) → length words ≡ length (start_words code s) → IsListedObject code s o → AreSound code s most_operations words → AreSound code s most_operations (slice_set words (place_of (cells_of code s) o.0) (word_of o.1 o.2))
  object_sound o words len h k = record {
    each = λ p w has at. ⊎_elim (λ e. here p w e at) (λ ne. there p w ne has at) (object_cases p o.0);
  }
    where
      here : (p : ObjId) (w : ℕ) → p ≡ o.0 → slice_get (slice_set words (place_of (cells_of code s) o.0) (word_of o.1 o.2)) (place_of (cells_of code s) p) ≡ Some w → IsSoundWord (object_kind p) w × (number_of w ≤ most_operations)
      here p w e at =
          let lt = place_within code s limits o.0 (length words) len h.there in
          let is : word_of o.1 o.2 ≡ w = same_Some (word_of o.1 o.2) w (sym (slice_get-set_within words (place_of (cells_of code s) o.0) (word_of o.1 o.2) lt) ∙ ap (λ q. slice_get (slice_set words (place_of (cells_of code s) o.0) (word_of o.1 o.2)) (place_of (cells_of code s) q)) (sym e) ∙ at) in
          let number = number_of-word_of o.1 o.2 in
          let few = h.few in
          (subst (λ q. IsSoundWord (object_kind q) w) (sym e) (subst (IsSoundWord (object_kind o.0)) is h.sound), subst (λ z. number_of z ≤ most_operations) is (omega (arith, number, few)))

      there : (p : ObjId) (w : ℕ) → p ≢ o.0 → has_object code s p ≡ true → slice_get (slice_set words (place_of (cells_of code s) o.0) (word_of o.1 o.2)) (place_of (cells_of code s) p) ≡ Some w → IsSoundWord (object_kind p) w × (number_of w ≤ most_operations)
      there p w ne has at = k.each p w has (sym (slice_get-set_other words (place_of (cells_of code s) o.0) (place_of (cells_of code s) p) (word_of o.1 o.2) (λ e. ne (place_apart code s p o.0 limits has h.there e))) ∙ at)

  objects_sound : (os : List (ObjId × ℕ × ℕ)) (words : List ℕ) → length words ≡ length (start_words code s) → ((k : ℕ) (o : ObjId × ℕ × ℕ) → slice_get os k ≡ Some o → IsListedObject code s o) → AreSound code s most_operations words → AreSound code s most_operations (with_objects (cells_of code s) os words)
  objects_sound [] words len h k = k
  objects_sound (o ∷ os) words len h k =
      objects_sound os (slice_set words (place_of (cells_of code s) o.0) (word_of o.1 o.2)) (length-set words (place_of (cells_of code s) o.0) (word_of o.1 o.2) ∙ len) (λ i p e. h (suc i) p e) (object_sound o words len (h 0 o refl) k)

  pub put_length : (x : Snapshot) → length (words_of code s x) ≡ length (start_words code s)
  put_length x = objects_length code s (cells_of code s) x.objects (with_cells x.cells (zeros code s)) ∙ cells_length code s x.cells (zeros code s) ∙ zeros_length code s

  pub put_sound : (x : Snapshot) → ((k : ℕ) (c : ℕ × ℕ) → slice_get x.cells k ≡ Some c → c.0 < cells_of code s) → ((k : ℕ) (o : ObjId × ℕ × ℕ) → slice_get x.objects k ≡ Some o → IsListedObject code s o) → AreSound code s most_operations (words_of code s x)
  put_sound x cells objects = objects_sound x.objects (with_cells x.cells (zeros code s)) (cells_length code s x.cells (zeros code s) ∙ zeros_length code s) objects (cells_sound x.cells (zeros code s) cells zeros_sound)

  -- ---- places of what is listed

  pub cell_below : (cell : ℕ) (words : List ℕ) → words ≡ zeros code s → cell < cells_of code s → cell < length words
  cell_below cell words e lt = omega (arith, lt, ap length e ∙ zeros_length code s, length-start_words code s)

  pub object_below : (n : ℕ) (cs : List (ℕ × ℕ)) (o : ObjId) (old new : List ℕ) → n ≡ cells_of code s → old ≡ zeros code s → new ≡ with_cells cs old → has_object code s o ≡ true → place_of n o < length new
  object_below n cs o old new same e f has = there_within code s limits n same new (ap length f ∙ cells_length code s cs old ∙ ap length e ∙ zeros_length code s) o has
