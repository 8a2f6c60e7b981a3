-- What a walk prints is what its entries print by the pieces of their threads.
use Rattle.std.proofs.Common.{◌≡◌, ℕ, zero, suc, ◌+◌, Bool, true, false, if◌then◌else◌, List, [], ◌∷◌, ◌++◌, length, drop, map, Option, Some, None, refl, sym, ap, subst, ◌∙◌}
use Rattle.std.specs.Prelude.{slice_get, slice_set}
use Rattle.std.specs.Option.{option_map, unwrap_or}
use Rattle.std.proofs.lemmas.List.{append-nil, append_assoc, drop_at, length-map, set-set}
use Rattle.std.proofs.lemmas.Option.{same_Some, slice_get-map}
use Rattle.rr_base.proofs.Lists.{slice_set-get, slice_get-set_same}
use Rattle.sync_objects.specs.Setup.{SetupView}
use Rattle.sync_objects.specs.declared.entry.Entry.{Entry}
use Rattle.flow_code.specs.declared.code.Code.{Code}
use Rattle.core_run.specs.Machine.{Told, machine, start_state, start_threads_from}
use Rattle.core_run.specs.Walks.{joined, pieces_of, printed_between, walk_of, out_of, out_on}
use Rattle.run_theory.specs.Steps.{State}
use Rattle.run_theory.specs.Walk.{part}
use Rattle.run_walk.specs.Printed.{bytes_by, first_piece, is_print, pieces_at}
use Rattle.run_walk.proofs.Growing.{IsFresh, all_pieces, part_adds, then_inv}

-- ---- pieces that are still to come

-- of each thread, the pieces of before with those that are still to come are all of them
abbrev AreLeft : List (List (List ℕ)) → List (List (List ℕ)) → List (List (List ℕ)) → Type 0
AreLeft [] [] [] = Unit {0}
AreLeft (b ∷ before) (r ∷ left) (a ∷ all) = (b ++ r ≡ a) × AreLeft before left all
AreLeft _ _ _ = ⊥

none_left : (all : List (List (List ℕ))) → AreLeft all (map (λ ps. []) all) all
none_left [] = tt
none_left (a ∷ all) = (append-nil a, none_left all)

-- there are pieces of this thread that are still to come, if only none
left_at : (t : ℕ) (before left all : List (List (List ℕ))) (b : List (List ℕ)) → AreLeft before left all → slice_get before t ≡ Some b → slice_get left t ≡ Some (pieces_at left t)
left_at t [] left all b h at = cc
left_at t (x ∷ before) [] all b h at = absurd h
left_at t (x ∷ before) (r ∷ left) [] b h at = absurd h
left_at zero (x ∷ before) (r ∷ left) (a ∷ all) b h at = refl
left_at (suc t) (x ∷ before) (r ∷ left) (a ∷ all) b h at = left_at t before left all b h.1 at

-- the pieces that were put after those of a thread were to come before
more_left : (t : ℕ) (before left all : List (List (List ℕ))) (b fresh : List (List ℕ)) → slice_get before t ≡ Some b → AreLeft (slice_set before t (b ++ fresh)) left all → AreLeft before (slice_set left t (fresh ++ pieces_at left t)) all
more_left t [] left all b fresh at h = cc
more_left zero (x ∷ before) [] all b fresh at h = absurd h
more_left (suc t) (x ∷ before) [] all b fresh at h = absurd h
more_left zero (x ∷ before) (r ∷ left) [] b fresh at h = absurd h
more_left (suc t) (x ∷ before) (r ∷ left) [] b fresh at h = absurd h
more_left zero (x ∷ before) (r ∷ left) (a ∷ all) b fresh at h = (ap (λ z. z ++ (fresh ++ r)) (same_Some x b at) ∙ sym (append_assoc b fresh r) ∙ h.0, h.1)
more_left (suc t) (x ∷ before) (r ∷ left) (a ∷ all) b fresh at h = (h.0, more_left t before left all b fresh at h.1)

-- there are as many threads before and after
left_set : (t : ℕ) (before left all : List (List (List ℕ))) (b new : List (List ℕ)) → slice_get before t ≡ Some b → AreLeft (slice_set before t new) left all → slice_get left t ≡ Some (pieces_at left t)
left_set t before left all b new at h = left_at t (slice_set before t new) left all new h (slice_get-set_same before t new b at)

module _ (code : Code) (s : SetupView) where
  -- the pieces from this state on that are still to come, by which the entries print what the walk prints
  record Prints (es : List Entry) (st end : State Told) : Type 0 where
    left : List (List (List ℕ))
    are : AreLeft (all_pieces st) left (all_pieces end)
    out : out_of code s es st ≡ bytes_by es left

  at_thread : (st : State Told) (t : ℕ) (b : List (List ℕ)) → slice_get (all_pieces st) t ≡ Some b → pieces_of (slice_get st.threads t) ≡ b
  at_thread st t b at = by (slice_get st.threads t) (sym (slice_get-map (λ (told : Told). told.pieces) st.threads t) ∙ at)
    where
      by : (o : Option Told) → option_map (λ (told : Told). told.pieces) o ≡ Some b → pieces_of o ≡ b
      by None e = cc
      by (Some told) e = same_Some told.pieces b e

  -- what a thread has printed between two states
  between : (t : ℕ) (st st1 : State Told) (b fresh : List (List ℕ)) → slice_get (all_pieces st) t ≡ Some b → all_pieces st1 ≡ slice_set (all_pieces st) t (b ++ fresh) → printed_between t st st1 ≡ joined fresh
  between t st st1 b fresh at to =
      let old = at_thread st t b at in
      let new = at_thread st1 t (b ++ fresh) (ap (λ ps. slice_get ps t) to ∙ slice_get-set_same (all_pieces st) t (b ++ fresh) b at) in
      ap (λ ps. joined (drop (length ps) (pieces_of (slice_get st1.threads t)))) old
      ∙ ap (λ ps. joined (drop (length b) ps)) new
      ∙ ap joined (drop_at b fresh (length b) refl)

  -- an entry's part, and then the rest
  module _ (e : Entry) (es : List Entry) (st st1 end : State Told) (is : part (machine code s) e st ≡ Some st1) (old fresh : List (List ℕ)) (at : slice_get (all_pieces st) e.thread ≡ Some old) (to : all_pieces st1 ≡ slice_set (all_pieces st) e.thread (old ++ fresh)) (more : Prints es st1 end) where
    out_first : out_of code s (e ∷ es) st ≡ joined fresh ++ bytes_by es more.left
    out_first =
        ap (out_on code s (out_of code s es) e st) is
        ∙ ap (λ z. z ++ out_of code s es st1) (between e.thread st st1 old fresh at to)
        ∙ ap (λ z. joined fresh ++ z) more.out

    are_more : AreLeft (all_pieces st) (slice_set more.left e.thread (fresh ++ pieces_at more.left e.thread)) (all_pieces end)
    are_more = more_left e.thread (all_pieces st) more.left (all_pieces end) old fresh at (subst (λ ps. AreLeft ps more.left (all_pieces end)) to more.are)

    left_there : slice_get more.left e.thread ≡ Some (pieces_at more.left e.thread)
    left_there = left_set e.thread (all_pieces st) more.left (all_pieces end) old (old ++ fresh) at (subst (λ ps. AreLeft ps more.left (all_pieces end)) to more.are)

    prints_with : (b : Bool) → is_print e.op ≡ b → IsFresh b fresh → Prints (e ∷ es) st end
    prints_with false silent none = record {
      left = more.left;
      are = subst (λ ps. AreLeft (all_pieces st) ps (all_pieces end)) (ap (λ ps. slice_set more.left e.thread (ps ++ pieces_at more.left e.thread)) none ∙ slice_set-get more.left e.thread (pieces_at more.left e.thread) left_there) are_more;
      out = out_first ∙ ap (λ ps. joined ps ++ bytes_by es more.left) none ∙ ap (λ b. if b then first_piece (pieces_at more.left e.thread) ++ bytes_by es (slice_set more.left e.thread (drop 1 (pieces_at more.left e.thread))) else bytes_by es more.left) (sym silent);
    }
    prints_with true prints one =
        let p = one.0 in
        let rest = pieces_at more.left e.thread in
        let left = slice_set more.left e.thread (p ∷ rest) in
        let here : pieces_at left e.thread ≡ p ∷ rest = ap (λ o. unwrap_or o []) (slice_get-set_same more.left e.thread (p ∷ rest) rest left_there) in
        let back : slice_set left e.thread rest ≡ more.left = set-set more.left e.thread (p ∷ rest) rest ∙ slice_set-get more.left e.thread rest left_there in
        record {
          left = left;
          are = subst (λ ps. AreLeft (all_pieces st) (slice_set more.left e.thread (ps ++ rest)) (all_pieces end)) one.1 are_more;
          out = out_first
              ∙ ap (λ ps. joined ps ++ bytes_by es more.left) one.1
              ∙ ap (λ z. z ++ bytes_by es more.left) (append-nil p)
              ∙ ap (λ ps. p ++ bytes_by es ps) (sym back)
              ∙ ap (λ ps. first_piece ps ++ bytes_by es (slice_set left e.thread (drop 1 ps))) (sym here)
              ∙ ap (λ b. if b then first_piece (pieces_at left e.thread) ++ bytes_by es (slice_set left e.thread (drop 1 (pieces_at left e.thread))) else bytes_by es left) (sym prints);
        }

  walk_prints : (es : List Entry) (st end : State Told) → walk_of code s es st ≡ Some end → Prints es st end
  walk_prints [] st end h = record {
    left = map (λ (ps : List (List ℕ)). []) (all_pieces end);
    are = subst (λ z. AreLeft (all_pieces z) (map (λ (ps : List (List ℕ)). []) (all_pieces end)) (all_pieces end)) (sym (same_Some st end h)) (none_left (all_pieces end));
    out = refl;
  }
  walk_prints (e ∷ es) st end h =
      let a = then_inv (walk_of code s es) (part (machine code s) e st) end h in
      let g = part_adds code s e st a.0 a.1 in
      prints_with e es st a.0 end a.1 g.old g.grows.fresh g.at (g.to ∙ ap (slice_set (all_pieces st) e.thread) g.grows.grown) (walk_prints es a.0 end a.2) (is_print e.op) refl g.grows.is

  -- at the start all pieces are still to come
  all_left : (k n : ℕ) (left all : List (List (List ℕ))) → AreLeft (map (λ (told : Told). told.pieces) (start_threads_from code s k n)) left all → left ≡ all
  all_left k zero [] [] h = refl
  all_left k zero [] (a ∷ all) h = absurd h
  all_left k zero (r ∷ left) all h = absurd h
  all_left k (suc n) [] all h = absurd h
  all_left k (suc n) (r ∷ left) [] h = absurd h
  all_left k (suc n) (r ∷ left) (a ∷ all) h = ap (λ z. z ∷ left) h.0 ∙ ap (λ zs. a ∷ zs) (all_left (k + 1) n left all h.1)

  -- what a walk prints is what its entries print, by the pieces that their threads have printed at its end
  pub walk_bytes : (es : List Entry) (end : State Told) → walk_of code s es (start_state code s) ≡ Some end → out_of code s es (start_state code s) ≡ bytes_by es (all_pieces end)
  walk_bytes es end h =
      let p = walk_prints es (start_state code s) end h in
      p.out ∙ ap (bytes_by es) (all_left 0 s.slots p.left (all_pieces end) p.are)

  left_long : (before left all : List (List (List ℕ))) → AreLeft before left all → length all ≡ length before
  left_long [] [] [] h = refl
  left_long [] [] (a ∷ all) h = absurd h
  left_long [] (r ∷ left) all h = absurd h
  left_long (b ∷ before) [] all h = absurd h
  left_long (b ∷ before) (r ∷ left) [] h = absurd h
  left_long (b ∷ before) (r ∷ left) (a ∷ all) h = ap suc (left_long before left all h.1)

  start_long : (k n : ℕ) → length (start_threads_from code s k n) ≡ n
  start_long k zero = refl
  start_long k (suc n) = ap suc (start_long (k + 1) n)

  -- a walk has as many threads at its end as there are slots
  pub thread_count : (es : List Entry) (end : State Told) → walk_of code s es (start_state code s) ≡ Some end → length end.threads ≡ s.slots
  thread_count es end h =
      let p = walk_prints es (start_state code s) end h in
      sym (length-map end.threads (λ (told : Told). told.pieces))
      ∙ left_long (all_pieces (start_state code s)) p.left (all_pieces end) p.are
      ∙ length-map (start_state code s).threads (λ (told : Told). told.pieces)
      ∙ start_long 0 s.slots
