-- Marks of locks.
use Rattle.std.proofs.Common.{◌≡◌, ℕ, zero, suc, ◌+◌, ◌<◌, ◌≤◌, Bool, true, false, List, [], ◌∷◌, ◌++◌, length, take, get_or, refl, sym, ap, ◌∙◌, subst, arith, Option, Some, replicate}
use Rattle.std.specs.Prelude.{slice_get, slice_set, slice_index_or, if◌then◌else◌, ◌==◌, ◌||◌}
use Rattle.std.proofs.lemmas.Bool.Decides.{nat_tests}
use Rattle.rr_base.specs.declared.layout.Place.{Place}
use Rattle.flow_code.specs.declared.code.LockInfo.{LockInfo}
use Rattle.facts.specs.PointsTo.{are_ascending, Tables}
use Rattle.facts.specs.Pairs.{place_same}
use Rattle.flow_code.specs.declared.code.Code.{Code}
use Rattle.weak_lock_facts.specs.declared.grain.Grained.{Grained}
use Rattle.weak_code.specs.WeakLocks.{lock_at, is_striped, lock_for, locks_for}
use Rattle.weaken.specs.Marks.{Marks}
use Rattle.weaken.proofs.Nexts.{map_next, any_default}
use Rattle.weaken.proofs.Found.{is_number, same_by_lock}

abbrev lock_with : Place → Bool → LockInfo
lock_with p c = record { site = p.site; class = p.class; stripes = if c then 8 else 1 }

or_false : (b : Bool) → b ≡ (b || false)
or_false true = refl
or_false false = refl

or_true : (b : Bool) → true ≡ (b || true)
or_true true = refl
or_true false = refl

set_same : (bs : List Bool) (n : ℕ) → n < length bs → slice_index_or (slice_set bs n true) n false ≡ true
set_same [] n lt = absurd (omega arith)
set_same (b ∷ bs) zero lt = refl
set_same (b ∷ bs) (suc n) lt = set_same bs n (omega arith)

set_other : (bs : List Bool) (m n : ℕ) → (m == n) ≡ false → slice_index_or (slice_set bs m true) n false ≡ slice_index_or bs n false
set_other [] m n t = refl
set_other (b ∷ bs) zero zero t = cc
set_other (b ∷ bs) zero (suc n) t = refl
set_other (b ∷ bs) (suc m) zero t = refl
set_other (b ∷ bs) (suc m) (suc n) t = set_other bs m n (grind (arith, nat_tests, t))

length_set : (bs : List Bool) (n : ℕ) → length (slice_set bs n true) ≡ length bs
length_set [] n = refl
length_set (b ∷ bs) zero = refl
length_set (b ∷ bs) (suc n) = ap suc (length_set bs n)

pub mark_set : (qs : List Place) (p : Place) (m : ℕ) (old new : List Bool) → are_ascending qs ≡ true → lock_at qs p ≡ Some m → m < length old → new ≡ slice_set old m true → Marks qs (λ q. place_same q p) old new
mark_set qs p m old new up e lt f = record {
  long = ap (λ z. length z) f ∙ length_set old m;
  at = λ n x h l. ap (λ z. slice_index_or z n false) f ∙ go n l (m == n) refl ∙ ap (λ b. slice_index_or old n false || b) (sym (same_by_lock qs p (Some m) n x up e h));
}
  where
    go : (n : ℕ) → n < length old → (b : Bool) → (m == n) ≡ b → slice_index_or (slice_set old m true) n false ≡ (slice_index_or old n false || (m == n))
    go n l true t = let s : m ≡ n = grind (arith, nat_tests, t) in ap (λ k. slice_index_or (slice_set old k true) n false) s ∙ set_same old n l ∙ or_true (slice_index_or old n false) ∙ ap (λ b. slice_index_or old n false || b) (sym t)
    go n l false t = set_other old m n t ∙ or_false (slice_index_or old n false) ∙ ap (λ b. slice_index_or old n false || b) (sym t)

-- no lock is marked: none is the place's, or it has no mark
pub mark_none : (qs : List Place) (p : Place) (o : Option ℕ) (old : List Bool) → are_ascending qs ≡ true → lock_at qs p ≡ o → ((n : ℕ) → n < length old → is_number o n ≡ false) → Marks qs (λ q. place_same q p) old old
mark_none qs p o old up e no' = record {
  long = refl;
  at = λ n x h l. or_false (slice_index_or old n false) ∙ ap (λ b. slice_index_or old n false || b) (sym (same_by_lock qs p o n x up e h ∙ no' n l));
}

pub beyond : (m len n : ℕ) → len ≤ m → n < len → (m == n) ≡ false
beyond m len n le lt = grind (arith, nat_tests, le, lt)

pub mark_more : {X : Type 0} (items : List X) (p q r : X → Bool) (old mid new : List Bool) → ((x : X) → r x ≡ (p x || q x)) → Marks items p old mid → Marks items q mid new → Marks items r old new
mark_more items p q r old mid new e a b = record {
  long = b.long ∙ a.long;
  at = λ n x h l. b.at n x h (subst (λ k. n < k) (sym a.long) l) ∙ ap (λ z. z || q x) (a.at n x h l) ∙ assoc (slice_index_or old n false) (p x) (q x) ∙ ap (λ z. slice_index_or old n false || z) (sym (e x));
}
  where
    assoc : (u v w : Bool) → ((u || v) || w) ≡ (u || (v || w))
    assoc true v w = refl
    assoc false v w = refl

pub mark_start : {X : Type 0} (items : List X) (p : X → Bool) (old : List Bool) → ((x : X) → p x ≡ false) → Marks items p old old
mark_start items p old e = record { long = refl; at = λ n x h l. or_false (slice_index_or old n false) ∙ ap (λ b. slice_index_or old n false || b) (sym (e x)) }

pub mark_as : {X : Type 0} (items : List X) (p q : X → Bool) (old new : List Bool) → ((x : X) → p x ≡ q x) → Marks items p old new → Marks items q old new
mark_as items p q old new e a = record { long = a.long; at = λ n x h l. a.at n x h l ∙ ap (λ b. slice_index_or old n false || b) (e x) }

none_marked : (len n : ℕ) → slice_index_or (replicate len false) n false ≡ false
none_marked zero n = refl
none_marked (suc len) zero = refl
none_marked (suc len) (suc n) = none_marked len n

inside : {X : Type 0} (ys : List X) (j : ℕ) (y : X) → slice_get ys j ≡ Some y → j < length ys
inside [] j y h = cc
inside (z ∷ zs) zero y h = omega arith
inside (z ∷ zs) (suc j) y h = let r = inside zs j y h in omega arith

length_none : (len : ℕ) → length (replicate len false) ≡ len
length_none zero = refl
length_none (suc len) = ap suc (length_none len)

pub marked_from_none : {X : Type 0} (items : List X) (p : X → Bool) (new : List Bool) → Marks items p (replicate (length items) false) new → (n : ℕ) (x : X) → slice_get items n ≡ Some x → slice_index_or new n false ≡ p x
marked_from_none items p new a n x h = a.at n x h (subst (λ k. n < k) (sym (length_none (length items))) (inside items n x h)) ∙ ap (λ b. b || p x) (none_marked (length items) n)

pub lock_next : (code : Code) (t : Tables) (rows : List Grained) (locked : List Place) (striped : List Bool) (i : ℕ) (p : Place) (b : Bool) (x : LockInfo) (old new : List LockInfo) → slice_get locked i ≡ Some p → i < length striped → b ≡ get_or striped i b → get_or striped i false ≡ is_striped code t rows p → x ≡ record { site = p.site; class = p.class; stripes = if b then 8 else 1 } → old ≡ locks_for code t rows (take i locked) → new ≡ old ++ x ∷ [] → new ≡ locks_for code t rows (take (i + 1) locked)
lock_next code t rows locked striped i p b x old new h lt r s e f g =
    g ∙ ap (λ z. z ++ x ∷ []) f ∙ ap (λ z. locks_for code t rows (take i locked) ++ z ∷ []) (e ∙ ap (λ (c : Bool). lock_with p c) (r ∙ any_default striped i b false lt ∙ s)) ∙ sym (map_next (lock_for code t rows) locked i p h)
