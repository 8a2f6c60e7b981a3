-- Two lists that ascend, walked through together.
use Rattle.std.proofs.Common.{◌≡◌, ℕ, zero, suc, ◌+◌, Bool, true, false, List, [], ◌∷◌, ◌++◌, drop, refl, sym, ap, ◌∙◌, subst, ⊎_elim, append_assoc}
use Rattle.std.specs.Prelude.{◌||◌, if◌then◌else◌}
use Rattle.std.specs.List.{filter, list_all}
use Rattle.std.proofs.lemmas.Bool.{true≢false}
use Rattle.facts.specs.declared.locks.LockPath.{LockPath}
use Rattle.facts.specs.declared.locks.Minus.TheVariants.{Listed}
use Rattle.facts.specs.Locks.{is_less, is_same, both}
use Rattle.facts.specs.Locks as locks
use Rattle.facts.specs.Sets.{Orders, has, are_ascending, with, union}
use Rattle.facts.proofs.ItemSets.{irr, less_other, ascending_parts}
use Rattle.facts.proofs.TotalOrders.{orders_paths}
use Rattle.lockset_flow.specs.Meeting.{from_item, begins_with_item}
use Rattle.lockset_flow.proofs.Meets.{and_both, or_cases}

module _ {X : Type 0} (less same : X → X → Bool) (o : Orders less same) where
  -- ---- what ascends

  pub ascending_drop : (ps : List X) (n : ℕ) → are_ascending less ps ≡ true → are_ascending less (drop n ps) ≡ true
  ascending_drop ps zero h = h
  ascending_drop [] (suc n) h = h
  ascending_drop (p ∷ ps) (suc n) h = ascending_drop ps n (ascending_parts less same o p ps h).1

  -- all after the first come after it
  later : (p q : X) (ps : List X) → are_ascending less (p ∷ ps) ≡ true → has same q ps ≡ true → less p q ≡ true
  later p q [] h i = absurd (true≢false (sym i))
  later p q (x ∷ ps) h i =
      let a = ascending_parts less same o p (x ∷ ps) h in
      let rest = later x q ps a.1 in
      ⊎_elim (λ same. subst (λ z. less p z ≡ true) (sym (o.same_is q x same)) a.0) (λ more. o.along p x q a.0 (rest more)) (or_cases (same q x) (has same q ps) i)

  less_apart : (p q : X) → less p q ≡ true → same p q ≡ false
  less_apart p q h = by (same p q) refl
    where
      by : (b : Bool) → same p q ≡ b → same p q ≡ false
      by true e = absurd (irr less same o q (subst (λ z. less z q ≡ true) (o.same_is p q e) h))
      by false e = e

  less_apart_back : (p q : X) → less q p ≡ true → same p q ≡ false
  less_apart_back p q h = by (same p q) refl
    where
      by : (b : Bool) → same p q ≡ b → same p q ≡ false
      by true e = absurd (irr less same o q (subst (λ z. less q z ≡ true) (o.same_is p q e) h))
      by false e = e

  -- an item that comes before the first isn't there
  before_all : (p q : X) (qs : List X) → are_ascending less (q ∷ qs) ≡ true → less p q ≡ true → has same p qs ≡ false
  before_all p q qs h lt = by (has same p qs) refl
    where
      by : (b : Bool) → has same p qs ≡ b → has same p qs ≡ false
      by true e = absurd (irr less same o p (o.along p q p lt (later q p qs h e)))
      by false e = e

  -- ---- items that are there

  with_there : (p : X) (ps : List X) → are_ascending less ps ≡ true → has same p ps ≡ true → with less same p ps ≡ ps
  with_there p [] h i = absurd (true≢false (sym i))
  with_there p (q ∷ qs) h i = by (with_there p qs (ascending_parts less same o q qs h).1) (less p q) refl (same p q) refl
    where
      by : (has same p qs ≡ true → with less same p qs ≡ qs) → (l : Bool) → less p q ≡ l → (s : Bool) → same p q ≡ s → (if l then p ∷ q ∷ qs else if s then q ∷ qs else q ∷ with less same p qs) ≡ q ∷ qs
      by rest true e s f = absurd (true≢false (sym i ∙ ap (λ b. b || has same p qs) (less_apart p q e) ∙ before_all p q qs h e))
      by rest false e true f = refl
      by rest false e false f = ap (λ z. q ∷ z) (rest (sym (ap (λ b. b || has same p qs) f) ∙ i))

  union_there : (ps qs : List X) → are_ascending less ps ≡ true → list_all (λ q. has same q ps) qs ≡ true → union less same ps qs ≡ ps
  union_there ps [] h all = refl
  union_there ps (q ∷ qs) h all =
      let r = and_both (has same q ps) (list_all (λ x. has same x ps) qs) all in
      ap (with less same q) (union_there ps qs h r.1) ∙ with_there q ps h r.0

  -- ---- the walk

  -- the item is there if the rest begins with it
  pub found_first : (p : X) (qs : List X) → are_ascending less qs ≡ true → begins_with_item same p (from_item less p qs) ≡ has same p qs
  found_first p [] h = refl
  found_first p (q ∷ qs) h = by (found_first p qs (ascending_parts less same o q qs h).1) (less q p) refl
    where
      following : (s : Bool) → same p q ≡ s → less q p ≡ false → same p q ≡ (same p q || has same p qs)
      following true e n = e ∙ ap (λ b. b || has same p qs) (sym e)
      following false e n =
          let other : same q p ≡ false = apart (same q p) refl in
          let lt = less_other less same o q p n other in
          e ∙ sym (ap (λ b. b || has same p qs) e ∙ before_all p q qs h lt)
        where
          apart : (b : Bool) → same q p ≡ b → same q p ≡ false
          apart true g = absurd (true≢false (sym (subst (λ z. same p z ≡ true) (sym (o.same_is q p g)) (o.same_self p)) ∙ e))
          apart false g = g

      by : begins_with_item same p (from_item less p qs) ≡ has same p qs → (b : Bool) → less q p ≡ b → begins_with_item same p (if b then from_item less p qs else q ∷ qs) ≡ (same p q || has same p qs)
      by rest true e = rest ∙ sym (ap (λ b. b || has same p qs) (less_apart_back p q e))
      by rest false e = following (same p q) refl e

  -- what comes before an item comes before a later one
  pub from_later : (p r : X) (qs : List X) → less p r ≡ true → from_item less r (from_item less p qs) ≡ from_item less r qs
  from_later p r [] lt = refl
  from_later p r (q ∷ qs) lt = by (from_later p r qs lt) (less q p) refl
    where
      by : from_item less r (from_item less p qs) ≡ from_item less r qs → (b : Bool) → less q p ≡ b → from_item less r (if b then from_item less p qs else q ∷ qs) ≡ from_item less r (q ∷ qs)
      by rest true e = rest ∙ sym (ap (λ b. if b then from_item less r qs else q ∷ qs) (o.along q p r e lt))
      by rest false e = refl

  -- the walk has same come as far as the items that are left need
  abbrev pub Walked : (left rest others : List X) → Type 0
  Walked left rest others = (p : X) → has same p left ≡ true → from_item less p rest ≡ from_item less p others

  first_there : (p : X) (ps : List X) → has same p (p ∷ ps) ≡ true
  first_there p ps = ap (λ b. b || has same p ps) (o.same_self p)

  pub walked_here : (p : X) (ps rest others next : List X) → are_ascending less others ≡ true → Walked (p ∷ ps) rest others → next ≡ from_item less p rest → begins_with_item same p next ≡ has same p others
  walked_here p ps rest others next h was is = ap (begins_with_item same p) (is ∙ was p (first_there p ps)) ∙ found_first p others h

  pub walked_on : (p : X) (ps rest others next : List X) → are_ascending less (p ∷ ps) ≡ true → Walked (p ∷ ps) rest others → next ≡ from_item less p rest → Walked ps next others
  walked_on p ps rest others next h was is r there =
      ap (from_item less r) is ∙ from_later p r rest (later p r ps h there) ∙ was r (or_there (same r p) there)
    where
      or_there : (a : Bool) {b : Bool} → b ≡ true → (a || b) ≡ true
      or_there true e = refl
      or_there false e = e

  -- what the items from one on have, all of them have
  pub from_has : (p q : X) (qs : List X) → has same q (from_item less p qs) ≡ true → has same q qs ≡ true
  from_has p q [] h = h
  from_has p q (x ∷ qs) h = by (from_has p q qs) (less x p) h
    where
      right : (a b : Bool) → b ≡ true → (a || b) ≡ true
      right true b e = refl
      right false b e = e

      by : (has same q (from_item less p qs) ≡ true → has same q qs ≡ true) → (b : Bool) → has same q (if b then from_item less p qs else x ∷ qs) ≡ true → has same q (x ∷ qs) ≡ true
      by rest true g = right (same q x) (has same q qs) (rest g)
      by rest false g = g

  pub begins_has : (p : X) (qs : List X) → begins_with_item same p qs ≡ true → has same p qs ≡ true
  begins_has p [] h = h
  begins_has p (q ∷ qs) h = ap (λ b. b || has same p qs) h

pub both_there : (ps qs : List LockPath) → locks.are_ascending ps ≡ true → list_all (λ q. locks.has q ps) qs ≡ true → both (Listed ps) (Listed qs) ≡ Listed ps
both_there ps qs h all = ap Listed (union_there is_less is_same orders_paths ps qs h all)

-- what is kept and the rest make the whole
pub kept_on : {X : Type 0} (t : X → Bool) (p : X) (ps kept next left whole : List X) (b : Bool) → left ≡ p ∷ ps → t p ≡ b → next ≡ (if b then kept ++ p ∷ [] else kept) → kept ++ filter t left ≡ whole → next ++ filter t ps ≡ whole
kept_on t p ps kept next left whole true split e is was = ap (λ z. z ++ filter t ps) is ∙ append_assoc kept (p ∷ []) (filter t ps) ∙ ap (λ b. kept ++ (if b then p ∷ filter t ps else filter t ps)) (sym e) ∙ ap (λ z. kept ++ filter t z) (sym split) ∙ was
kept_on t p ps kept next left whole false split e is was = ap (λ z. z ++ filter t ps) is ∙ ap (λ b. kept ++ (if b then p ∷ filter t ps else filter t ps)) (sym e) ∙ ap (λ z. kept ++ filter t z) (sym split) ∙ was
