-- What one step of a frame assigns, and where it goes.
use Rattle.std.proofs.Common.{◌≡◌, ◌≢◌, ℕ, zero, suc, ◌+◌, ◌-◌, ◌<◌, ◌≤◌, Bool, true, false, cond, ◌&&◌, ◌||◌, not, List, [], ◌∷◌, length, get_or, set, take, drop, Option, Some, None, refl, sym, ap, ◌∙◌, arith, ◌⊎◌, inl, inr, ⊎_elim, eq-eqb, eqb-true, lt-ltb, le-leb}
use Rattle.std.specs.Prelude.{slice_get, slice_set, slice_range, nat_lt, nat_le, ◌==◌}
use Rattle.std.specs.List.{list_all}
use Rattle.std.proofs.lemmas.Bool.{cases_lt}
use Rattle.std.proofs.lemmas.List.{get_or-set_other, length-set}
use Rattle.flow_code.specs.declared.act.Act.{Act}
use Rattle.flow_code.specs.declared.act.Act.TheVariants as act
use Rattle.flow_code.specs.declared.act.Instr.{Instr}
use Rattle.flow_code.specs.Next.{act_in, branch_to}
use Rattle.word_semantics.specs.Registers.{register}
use Rattle.facts.specs.Blocks.{assigns, assigned, is_register, goes_to}
use Rattle.facts.specs.Paths.{is_never_assigned}
use Rattle.weak_lock_facts.specs.Loops.{nth, goes_into, none_goes_into, is_entered_at, is_within}
use Rattle.loop_bounds.specs.Forms.{IsEnteredAt}
use Rattle.loop_bounds.specs.Turns.{Setting, Goes}

-- ---- what is assigned

pub record Writes (a : Option Act) (rs qs : List ℕ) : Type 0 where
  pub at : ℕ
  pub word : ℕ
  pub assigns_it : assigns at a ≡ true
  pub is : qs ≡ slice_set rs at word

pub same_register : (r : ℕ) → is_register r (Some r) ≡ true
same_register r = eq-eqb r r refl

pub written : (s : Setting) (a : Option Act) (k j : ℕ) (rs qs : List ℕ) → Goes s a k rs j qs → (qs ≡ rs) ⊎ Writes a rs qs
written s None k j rs qs g = absurd g
written s (Some (act.Return value)) k j rs qs g = absurd g
written s (Some (act.Jump to)) k j rs qs g = inl g.1
written s (Some (act.Branch on then_at else_at)) k j rs qs g = inl g.1
written s (Some (act.Compute into w)) k j rs qs g = inr (record { at = into; word = g.1.0; assigns_it = same_register into; is = g.1.2 })
written s (Some (act.Alloc into site size)) k j rs qs g = inr (record { at = into; word = g.1.0; assigns_it = same_register into; is = g.1.1 })
written s (Some (act.LoadCell into through)) k j rs qs g = inr (record { at = into; word = g.1.0; assigns_it = same_register into; is = g.1.1 })
written s (Some (act.Call f arguments None)) k j rs qs g = inl g.1
written s (Some (act.Call f arguments (Some into))) k j rs qs g = inr (record { at = into; word = g.1.0; assigns_it = same_register into; is = g.1.1 })
written s (Some (act.Library c arguments None)) k j rs qs g = inl g.1
written s (Some (act.Library c arguments (Some into))) k j rs qs g = inr (record { at = into; word = g.1.0; assigns_it = same_register into; is = g.1.1 })
written s (Some (act.StoreCell through from)) k j rs qs g = inl g.1
written s (Some act.Mark) k j rs qs g = inl g.1
written s (Some (act.Take region)) k j rs qs g = inl g.1
written s (Some (act.Give region)) k j rs qs g = inl g.1

pub kept : (s : Setting) (a : Option Act) (k j : ℕ) (rs qs : List ℕ) (r : ℕ) → Goes s a k rs j qs → assigns r a ≡ false → register qs r ≡ register rs r
kept s a k j rs qs r g n = ⊎_elim (λ e. ap (λ z. register z r) e) other (written s a k j rs qs g)
  where
    other : Writes a rs qs → register qs r ≡ register rs r
    other w =
        let apart : r ≢ w.at = λ e. let t : assigns r a ≡ true = ap (λ z. assigns z a) e ∙ w.assigns_it in cc in
        ap (λ z. register z r) w.is ∙ get_or-set_other rs w.at r w.word 0 apart

pub as_long : (s : Setting) (a : Option Act) (k j : ℕ) (rs qs : List ℕ) → Goes s a k rs j qs → length qs ≡ length rs
as_long s a k j rs qs g = ⊎_elim (λ e. ap (λ (z : List ℕ). length z) e) (λ w. ap (λ (z : List ℕ). length z) w.is ∙ length-set rs w.at w.word) (written s a k j rs qs g)

-- ---- where it goes

branched : (w m n : ℕ) → ((branch_to w m n ≡ m) ⊎ (branch_to w m n ≡ n))
branched w m n = go (w == 0)
  where
    go : (b : Bool) → ((cond b n m ≡ m) ⊎ (cond b n m ≡ n))
    go true = inr refl
    go false = inl refl

or_left : (p q : Bool) → p ≡ true → p || q ≡ true
or_left true q h = refl
or_left false q h = cc

or_right : (p q : Bool) → q ≡ true → p || q ≡ true
or_right true q h = refl
or_right false q h = h

pub onward : (s : Setting) (a : Act) (k j : ℕ) (rs qs : List ℕ) → Goes s (Some a) k rs j qs → (j ≡ k + 1) ⊎ (goes_to j a ≡ true)
onward s (act.Return value) k j rs qs g = absurd g
onward s (act.Jump to) k j rs qs g = inr (eq-eqb to j (sym g.0))
onward s (act.Branch on then_at else_at) k j rs qs g =
    ⊎_elim (λ e. inr (or_left (then_at == j) (else_at == j) (eq-eqb then_at j (sym (g.0 ∙ e)))))
    (λ e. inr (or_right (then_at == j) (else_at == j) (eq-eqb else_at j (sym (g.0 ∙ e)))))
    (branched (register rs on) then_at else_at)
onward s (act.Compute into w) k j rs qs g = inl g.0
onward s (act.Alloc into site size) k j rs qs g = inl g.0
onward s (act.LoadCell into through) k j rs qs g = inl g.0
onward s (act.Call f arguments into) k j rs qs g = inl g.0
onward s (act.Library c arguments into) k j rs qs g = inl g.0
onward s (act.StoreCell through from) k j rs qs g = inl g.0
onward s act.Mark k j rs qs g = inl g.0
onward s (act.Take region) k j rs qs g = inl g.0
onward s (act.Give region) k j rs qs g = inl g.0

-- ---- parts of lists

pub all_got : {X : Type 0} (p : X → Bool) (xs : List X) (k : ℕ) (x : X) → list_all p xs ≡ true → slice_get xs k ≡ Some x → p x ≡ true
all_got p [] k x h e = cc
all_got p (y ∷ ys) zero x h e = let s : y ≡ x = cc in ap p (sym s) ∙ (both (p y) (list_all p ys) h).0
  where
    both : (a b : Bool) → a && b ≡ true → (a ≡ true) × (b ≡ true)
    both true b h = (refl, h)
    both false b h = cc
all_got p (y ∷ ys) (suc k) x h e = all_got p ys k x (both (p y) (list_all p ys) h).1 e
  where
    both : (a b : Bool) → a && b ≡ true → (a ≡ true) × (b ≡ true)
    both true b h = (refl, h)
    both false b h = cc

pub take_got : {X : Type 0} (xs : List X) (n k : ℕ) → k < n → slice_get (take n xs) k ≡ slice_get xs k
take_got [] zero k lt = refl
take_got [] (suc n) k lt = refl
take_got (x ∷ xs) zero k lt = absurd (omega arith)
take_got (x ∷ xs) (suc n) zero lt = refl
take_got (x ∷ xs) (suc n) (suc k) lt = take_got xs n k (omega arith)

pub drop_got : {X : Type 0} (xs : List X) (n k : ℕ) → slice_get (drop n xs) k ≡ slice_get xs (n + k)
drop_got xs zero k = let e : k ≡ 0 + k = omega arith in ap (λ j. slice_get xs j) e
drop_got [] (suc n) k = refl
drop_got (x ∷ xs) (suc n) k = let e : suc (n + k) ≡ suc n + k = omega arith in drop_got xs n k ∙ ap (λ j. slice_get (x ∷ xs) j) e

pub range_got : {X : Type 0} (xs : List X) (a b k : ℕ) → a ≤ k → k < b → slice_get (slice_range xs a b) (k - a) ≡ slice_get xs k
range_got xs a b k le lt =
    let e : a + (k - a) ≡ k = omega arith in
    take_got (drop a xs) (b - a) (k - a) (omega arith) ∙ drop_got xs a (k - a) ∙ ap (λ j. slice_get xs j) e

pub not_true : (b : Bool) → not b ≡ true → b ≡ false
not_true true h = cc
not_true false h = refl

pub never_there : (is : List Instr) (a b r k : ℕ) → is_never_assigned (slice_range is a b) r ≡ true → a ≤ k → k < b → assigns r (nth is k) ≡ false
never_there is a b r k h le lt = at_it (slice_get is k) refl
  where
    at_it : (o : Option Instr) → slice_get is k ≡ o → assigns r (act_in o) ≡ false
    at_it None e = refl
    at_it (Some i) e = not_true (assigns r (Some i.act)) (all_got (λ (x : Instr). not (assigns r (Some x.act))) (slice_range is a b) (k - a) i h (range_got is a b k le lt ∙ e))

-- ---- ways in

and_true : (p q : Bool) → p ≡ true → q ≡ true → p && q ≡ true
and_true true q h k = k
and_true false q h k = cc

into_target : (a b j to : ℕ) → to == j ≡ true → a < j → j ≤ b → is_within a b to ≡ true
into_target a b j to h lt le =
    let e : to ≡ j = eqb-true to j h in
    and_true (nat_lt a to) (nat_le to b) (lt-ltb a to (omega arith)) (le-leb to b (omega arith))

either_true : (p q : Bool) → p || q ≡ true → (p ≡ true) ⊎ (q ≡ true)
either_true true q h = inl refl
either_true false q h = inr h

went_into : (a b j : ℕ) (x : Act) → goes_to j x ≡ true → a < j → j ≤ b → goes_into a b x ≡ true
went_into a b j (act.Jump to) h lt le = into_target a b j to h lt le
went_into a b j (act.Branch on then_at else_at) h lt le =
    ⊎_elim (λ e. or_left (is_within a b then_at) (is_within a b else_at) (into_target a b j then_at e lt le))
    (λ e. or_right (is_within a b then_at) (is_within a b else_at) (into_target a b j else_at e lt le))
    (either_true (then_at == j) (else_at == j) h)
went_into a b j (act.Compute into w) h lt le = cc
went_into a b j (act.Alloc into site size) h lt le = cc
went_into a b j (act.LoadCell into through) h lt le = cc
went_into a b j (act.Call f arguments into) h lt le = cc
went_into a b j (act.Library c arguments into) h lt le = cc
went_into a b j (act.StoreCell through from) h lt le = cc
went_into a b j act.Mark h lt le = cc
went_into a b j (act.Return value) h lt le = cc
went_into a b j (act.Take region) h lt le = cc
went_into a b j (act.Give region) h lt le = cc

pub both_true : (a b : Bool) → a && b ≡ true → (a ≡ true) × (b ≡ true)
both_true true b h = (refl, h)
both_true false b h = cc

some_act : (o : Option Instr) (x : Act) → act_in o ≡ Some x → (i : Instr) × (o ≡ Some i) × (i.act ≡ x)
some_act None x e = cc
some_act (Some i) x e = (i, refl, cc)

pub is_entered : (is : List Instr) (a b : ℕ) → is_entered_at is a b ≡ true → IsEnteredAt is a b
is_entered is a b h k j x e t lt le = inside (some_act (slice_get is k) x e) (cases_lt k a) (cases_lt k (b + 1))
  where
    ways : (none_goes_into a b (take a is) ≡ true) × (none_goes_into a b (drop (b + 1) is) ≡ true)
    ways = both_true (none_goes_into a b (take a is)) (none_goes_into a b (drop (b + 1) is)) h

    never : (i : Instr) (l : List Instr) (n : ℕ) → none_goes_into a b l ≡ true → slice_get l n ≡ Some i → i.act ≡ x → ⊥
    never i l n all at is_x =
        let no : goes_into a b i.act ≡ false = not_true (goes_into a b i.act) (all_got (λ (y : Instr). not (goes_into a b y.act)) l n i all at) in
        let yes : goes_into a b x ≡ true = went_into a b j x t lt le in
        let same : goes_into a b i.act ≡ goes_into a b x = ap (λ z. goes_into a b z) is_x in
        cc

    inside : (i : Instr) × (slice_get is k ≡ Some i) × (i.act ≡ x) → (k < a) ⊎ (a ≤ k) → (k < b + 1) ⊎ (b + 1 ≤ k) → (a ≤ k) × (k ≤ b)
    inside (i, at, is_x) (inl below) o = absurd (never i (take a is) k ways.0 (take_got is a k below ∙ at) is_x)
    inside (i, at, is_x) (inr above) (inl under) = (above, omega arith)
    inside (i, at, is_x) (inr above) (inr following) =
        let p : (b + 1) + (k - (b + 1)) ≡ k = omega arith in
        absurd (never i (drop (b + 1) is) (k - (b + 1)) ways.1 (drop_got is (b + 1) (k - (b + 1)) ∙ ap (λ n. slice_get is n) p ∙ at) is_x)
