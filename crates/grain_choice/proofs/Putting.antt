-- The loops of accesses, one range after another.
use Rattle.std.proofs.Common.{◌≡◌, ℕ, ◌+◌, ◌<◌, Bool, true, false, cond, List, [], ◌∷◌, ◌++◌, length, take, get_or, refl, sym, ap, ◌∙◌, Option, Some, None}
use Rattle.std.specs.Prelude.{is_some}
use Rattle.std.specs.BTreeMap as tree
use Rattle.std.specs.Ordering.{is_eq}
use Rattle.std.proofs.lemmas.List.{take_more}
use Rattle.facts.specs.declared.pair.AccessAt.{AccessAt}
use Rattle.weak_lock_facts.specs.declared.range.Range.{Range}
use Rattle.weak_lock_facts.specs.Grains.{is_range_of, loop_of}
use Rattle.grain_choice.specs.Loops.{key_order, loop_at, first_of}
use Rattle.grain_choice.proofs.Ascents.{ties, same_is}

abbrev at_range : Range → AccessAt
at_range r = record { function = r.function; instr = r.instr }

first_kept : (o : Option ℕ) → o ≡ first_of o None
first_kept None = refl
first_kept (Some x) = refl

none_there : (o : Option ℕ) → is_some o ≡ false → o ≡ None
none_there None h = refl
none_there (Some x) h = cc

pub put_first : (old new : tree.BTreeMap (ℕ × ℕ) ℕ) (r : Range) (a : AccessAt) → is_some (loop_at old (at_range r)) ≡ false → loop_at new a ≡ cond (is_eq (key_order (r.function, r.instr) (a.function, a.instr))) (Some r.loop_at) (loop_at old a) → loop_at new a ≡ first_of (loop_at old a) (loop_of (r ∷ []) a)
put_first old new r a absent is = go (is_range_of a r) refl
  where
    test_is : is_range_of a r ≡ is_eq (key_order (r.function, r.instr) (a.function, a.instr))
    test_is = ties (at_range r) a

    go : (b : Bool) → is_range_of a r ≡ b → loop_at new a ≡ first_of (loop_at old a) (cond b (Some r.loop_at) None)
    go true e =
        let same : at_range r ≡ a = same_is (at_range r) a e in
        let none : loop_at old a ≡ None = ap (λ (z : AccessAt). loop_at old z) (sym same) ∙ none_there (loop_at old (at_range r)) absent in
        is ∙ ap (λ b. cond b (Some r.loop_at) (loop_at old a)) (sym test_is ∙ e) ∙ ap (λ o. first_of o (Some r.loop_at)) (sym none)
    go false e = is ∙ ap (λ b. cond b (Some r.loop_at) (loop_at old a)) (sym test_is ∙ e) ∙ first_kept (loop_at old a)

loop_of-push : (rs : List Range) (r : Range) (a : AccessAt) → loop_of (rs ++ r ∷ []) a ≡ first_of (loop_of rs a) (loop_of (r ∷ []) a)
loop_of-push [] r a = refl
loop_of-push (q ∷ rs) r a = go (is_range_of a q) (loop_of-push rs r a)
  where
    go : (b : Bool) → loop_of (rs ++ r ∷ []) a ≡ first_of (loop_of rs a) (loop_of (r ∷ []) a) → cond b (Some q.loop_at) (loop_of (rs ++ r ∷ []) a) ≡ first_of (cond b (Some q.loop_at) (loop_of rs a)) (loop_of (r ∷ []) a)
    go true h = refl
    go false h = h

pub loop_of-more : (rs : List Range) (i : ℕ) (d : Range) (a : AccessAt) → i < length rs → first_of (loop_of (take i rs) a) (loop_of (get_or rs i d ∷ []) a) ≡ loop_of (take (i + 1) rs) a
loop_of-more rs i d a lt = sym (loop_of-push (take i rs) (get_or rs i d) a) ∙ ap (λ (qs : List Range). loop_of qs a) (sym (take_more rs i d lt))
