-- Objects stay apart as more are laid, and what their cells hold stays good.
use Rattle.std.proofs.Common.{◌≡◌, ℕ, zero, suc, ◌+◌, ◌*◌, ◌<◌, ◌≤◌, ◌⊎◌, inl, inr, ⊎_elim, List, [], ◌∷◌, length, Some, refl, sym, ap, subst, ◌∙◌, arith}
use Rattle.std.specs.Prelude.{slice_get, slice_set}
use Rattle.std.proofs.lemmas.Bool.{cases_lt}
use Rattle.std.proofs.lemmas.Nat.{mul-le}
use Rattle.std.proofs.lemmas.Option.{same_Some}
use Rattle.rr_base.proofs.Lists.{slice_set-get, slice_get-set_same}
use Rattle.rr_base.specs.Words.{site_of}
use Rattle.sync_objects.specs.Setup.{SetupView}
use Rattle.core_run.specs.Words.{cells_of}
use Rattle.flow_code.specs.declared.code.Code.{Code}
use Rattle.flow_code.specs.Threads.{arena_start, arena_end}
use Rattle.points_to_sound.specs.Objects.{Object, IsObject, global, made_one, HasCell, IsSized, IsLeft, AreLaidOut}
use Rattle.points_to_sound.specs.Pointing.{nowhere, GoodCells}
use Rattle.points_to_sound.proofs.Laying.{Lays, lays_none, lays_one}
use Rattle.points_to_sound.proofs.Moving.{good_more}

-- what stands in a list after a write
pub set_got : {X : Type 0} (xs : List X) (i j : ℕ) (w v : X) → slice_get (slice_set xs i w) j ≡ Some v → ((j ≡ i → ⊥) × (slice_get xs j ≡ Some v)) ⊎ ((j ≡ i) × (w ≡ v))
set_got [] i j w v h = cc
set_got (x ∷ xs) zero zero w v h = inr (refl, same_Some w v h)
set_got (x ∷ xs) zero (suc j) w v h = inl ((λ e. absurd (omega arith)), h)
set_got (x ∷ xs) (suc i) zero w v h = inl ((λ e. absurd (omega arith)), h)
set_got (x ∷ xs) (suc i) (suc j) w v h = ⊎_elim (λ (e : (j ≡ i → ⊥) × (slice_get xs j ≡ Some v)). inl ((λ n. e.0 (omega arith)), e.1)) (λ (e : (j ≡ i) × (w ≡ v)). inr (ap suc e.0, e.1)) (set_got xs i j w v h)

pub set_twice : {X : Type 0} (xs : List X) (i : ℕ) (v w : X) → slice_set (slice_set xs i v) i w ≡ slice_set xs i w
set_twice [] i v w = refl
set_twice (x ∷ xs) zero v w = refl
set_twice (x ∷ xs) (suc i) v w = ap (λ ys. x ∷ ys) (set_twice xs i v w)

-- two arenas have no cell in common
apart_below : (base n k t c : ℕ) → k < t → c < base + k * n + n → base + t * n ≤ c → ⊥
apart_below base n k t c lt below above = let m = mul-le (suc k) n t n (omega arith) (omega arith) in let e : suc k * n ≡ k * n + n = omega arith in absurd (omega arith)

arenas_apart : (code : Code) (s : SetupView) (k t c : ℕ) → (k ≡ t → ⊥) → arena_start code s k ≤ c → c < arena_end code s k → arena_start code s t ≤ c → c < arena_end code s t → ⊥
arenas_apart code s k t c ne a b d e =
    ⊎_elim
    (λ lt. apart_below (2 * s.slots + length code.globals) s.cells k t c lt b d)
    (λ le. apart_below (2 * s.slots + length code.globals) s.cells t k c (omega arith) e a)
    (cases_lt k t)

pub arena_inside : (slots base n t c : ℕ) → t < slots → c < base + t * n + n → c < base + slots * n
arena_inside slots base n t c lt h = let m = mul-le (suc t) n slots n (omega arith) (omega arith) in let e : suc t * n ≡ t * n + n = omega arith in omega arith

object_either : (code : Code) (s : SetupView) (made : List Object) (new o : Object) → IsObject code s (new ∷ made) o → (new ≡ o) ⊎ IsObject code s made o
object_either code s made new o (global base a e) = inr (global base a e)
object_either code s made new o (made_one zero e) = inl (same_Some new o e)
object_either code s made new o (made_one (suc i) e) = inr (made_one i e)

module _ (code : Code) (s : SetupView) (t : ℕ) (made : List Object) (words marks : List ℕ) (l : AreLaidOut code s made words marks) (at : ℕ) (is : slice_get marks t ≡ Some at) (new : Object) (here : new.base ≡ at) (fits : at + new.cells ≤ arena_end code s t) where
  abbrev marks_after : List ℕ
  marks_after = slice_set marks t (at + new.cells)

  -- what is left was left before
  left_before : (c : ℕ) → IsLeft code s marks_after c → IsLeft code s marks c
  left_before c h =
      ⊎_elim
      (λ e. record { thread = h.thread; mark = h.mark; is = e.1; from = h.from; to = h.to })
      (λ e. record { thread = t; mark = at; is = is; from = let f = h.from in let m = e.1 in omega arith; to = subst (λ k. c < arena_end code s k) e.0 h.to })
      (set_got marks t h.thread (at + new.cells) h.mark h.is)

  -- the new object's cells were left before
  new_left : (c : ℕ) → HasCell new c → IsLeft code s marks c
  new_left c h = record { thread = t; mark = at; is = is; from = let f = h.from in omega arith; to = let f = h.to in omega arith }

  -- and aren't any more
  new_used : (c : ℕ) → HasCell new c → IsLeft code s marks_after c → ⊥
  new_used c h k =
      ⊎_elim
      (λ e. let f = h.from in let g = h.to in let a = l.arenas t at is in let b = l.arenas k.thread k.mark e.1 in let m = k.from in
      arenas_apart code s k.thread t c e.0 (omega arith) k.to (omega arith) (omega arith))
      (λ e. let f = h.to in let m = e.1 in let n = k.from in absurd (omega arith))
      (set_got marks t k.thread (at + new.cells) k.mark k.is)

  new_only : (o : Object) (c : ℕ) → IsObject code s made o → HasCell o c → HasCell new c → ⊥
  new_only o c k h n = l.unused o c k h (new_left c n)

  pub one_laid : t < s.slots → IsSized code new → AreLaidOut code s (new ∷ made) words marks_after
  one_laid lt z = record {
    sized = λ o k. ⊎_elim (λ e. subst (IsSized code) e z) (λ h. l.sized o h) (object_either code s made new o k);
    inside = λ o c k h. ⊎_elim (λ (e : new ≡ o). inside c (subst (λ p. HasCell p c) (sym e) h)) (λ j. l.inside o c j h) (object_either code s made new o k);
    one = λ o p c k j h g. ⊎_elim
        (λ (e : new ≡ o). ⊎_elim (λ (f : new ≡ p). sym e ∙ f) (λ f. absurd (new_only p c f g (subst (λ q. HasCell q c) (sym e) h))) (object_either code s made new p j))
        (λ e. ⊎_elim (λ (f : new ≡ p). absurd (new_only o c e h (subst (λ q. HasCell q c) (sym f) g))) (λ f. l.one o p c e f h g) (object_either code s made new p j))
        (object_either code s made new o k);
    unused = λ o c k h f. ⊎_elim (λ (e : new ≡ o). new_used c (subst (λ p. HasCell p c) (sym e) h) f) (λ e. l.unused o c e h (left_before c f)) (object_either code s made new o k);
    fresh = λ c w f e. l.fresh c w (left_before c f) e;
    arenas = λ k mark e. ⊎_elim (λ f. l.arenas k mark f.1) (λ f. let a = l.arenas t at is in let m = f.1 in subst (λ n. arena_start code s n ≤ mark) (sym f.0) (omega arith)) (set_got marks t k (at + new.cells) mark e);
  }
    where
      inside : (c : ℕ) → HasCell new c → (2 * s.slots ≤ c) × (c < cells_of code s)
      inside c h = let a = l.arenas t at is in let f = h.from in let g = h.to in (omega arith, arena_inside s.slots (2 * s.slots + length code.globals) s.cells t c lt (omega arith))

  -- its cells hold 0
  pub one_cells : GoodCells code s made words → GoodCells code s (new ∷ made) words
  one_cells g o offset w k lt kinds e =
      ⊎_elim
      (λ (same : new ≡ o).
      let zero_is = l.fresh (o.base + offset) w (new_left (o.base + offset) (subst (λ p. HasCell p (o.base + offset)) (sym same) (record { from = omega arith; to = omega arith }))) e in
      nowhere (ap site_of zero_is))
      (λ h. good_more code s made new _ w (g o offset w h lt kinds e))
      (object_either code s made new o k)

-- a list of objects
pub record AreLaid (code : Code) (s : SetupView) (made : List Object) (words marks : List ℕ) : Type 0 where
  pub laid : AreLaidOut code s made words marks
  pub cells : GoodCells code s made words

pub all_laid : (code : Code) (s : SetupView) (t : ℕ) (made : List Object) (from : ℕ) (after : List Object) (to : ℕ) (words marks : List ℕ) → t < s.slots → slice_get marks t ≡ Some from → Lays code s t made from after to → AreLaid code s made words marks → AreLaid code s after words (slice_set marks t to)
all_laid code s t made from after to words marks lt is lays_none h = subst (AreLaid code s made words) (sym (slice_set-get marks t from is)) h
all_laid code s t made from after to words marks lt is (lays_one before at o l b z le) h =
    let k = all_laid code s t made from before at words marks lt is l h in
    let there = slice_get-set_same marks t at from is in
    subst (AreLaid code s (o ∷ before) words) (set_twice marks t at (at + o.cells)) (record {
      laid = one_laid code s t before words (slice_set marks t at) k.laid at there o b le lt z;
      cells = one_cells code s t before words (slice_set marks t at) k.laid at there o b le k.cells;
    })
