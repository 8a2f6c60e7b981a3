-- What the makers of registers are, and what a register has that was made in its block.
use Rattle.std.proofs.Common.{◌≡◌, ℕ, zero, suc, ◌+◌, ◌-◌, ◌<◌, ◌≤◌, Bool, true, false, cond, ◌||◌, ℤ, List, [], ◌∷◌, length, Option, Some, None, refl, sym, ap, subst, ◌∙◌, arith, ◌⊎◌, ⊎_elim}
use Rattle.std.specs.Prelude.{slice_get}
use Rattle.std.specs.List.{list_any}
use Rattle.std.proofs.lemmas.Bool.{cases_lt}
use Rattle.flow_code.specs.declared.act.Act.{Act}
use Rattle.flow_code.specs.declared.act.Act.TheVariants as act
use Rattle.flow_code.specs.declared.act.Instr.{Instr}
use Rattle.flow_code.specs.declared.work.Work.TheVariants as work
use Rattle.flow_code.specs.Next.{act_in}
use Rattle.word_semantics.specs.Registers.{register}
use Rattle.facts.specs.Blocks.{begins_block, follows_end, is_target, goes_to, assigns, constant_of, constant_at}
use Rattle.weak_lock_facts.specs.Loops.{nth}
use Rattle.weak_lock_facts.specs.Ranges.{maker_at, last_maker}
use Rattle.loop_bounds.specs.Turns.{Setting, Goes, Comes, begins, goes}
use Rattle.loop_bounds.proofs.Steps.{kept, as_long, onward}
use Rattle.loop_bounds.proofs.Regions.{IsEntered, holds_in}

-- the m-th is the last instruction before the k-th in its block that assigns the register
pub record IsMade (is : List Instr) (k r m : ℕ) : Type 0 where
  pub before : m < k
  pub makes : assigns r (nth is m) ≡ true
  pub alone : (j : ℕ) → m < j → j < k → assigns r (nth is j) ≡ false
  pub inside : (j : ℕ) → m < j → j ≤ k → begins_block is j ≡ false

made_here : (is : List Instr) (k r : ℕ) → assigns r (nth is k) ≡ true → begins_block is (suc k) ≡ false → IsMade is (suc k) r k
made_here is k r e n = record {
  before = omega arith;
  makes = e;
  alone = λ j lt le. absurd (omega arith);
  inside = λ j lt le. let g : suc k ≡ j = omega arith in subst (λ z. begins_block is z ≡ false) g n;
}

made_there : (is : List Instr) (k r m : ℕ) → assigns r (nth is k) ≡ false → begins_block is (suc k) ≡ false → IsMade is k r m → IsMade is (suc k) r m
made_there is k r m e n x = record {
  before = let b : m < k = x.before in omega arith;
  makes = x.makes;
  alone = λ j lt le. ⊎_elim (λ l. x.alone j lt l) (λ o. let g : k ≡ j = omega arith in subst (λ z. assigns r (nth is z) ≡ false) g e) (cases_lt j k);
  inside = λ j lt le. ⊎_elim (λ (l : j < suc k). let h : j ≤ k = omega arith in x.inside j lt h) (λ (o : suc k ≤ j). let g : suc k ≡ j = omega arith in subst (λ z. begins_block is z ≡ false) g n) (cases_lt j (suc k));
}

by_assigned : (is : List Instr) (k r m : ℕ) (a : Bool) → assigns r (nth is k) ≡ a → begins_block is (suc k) ≡ false → (maker_at is k r ≡ Some m → IsMade is k r m) → cond a (Some k) (maker_at is k r) ≡ Some m → IsMade is (suc k) r m
by_assigned is k r m true e n rec w = let f : k ≡ m = cc (w) in subst (λ z. IsMade is (suc k) r z) f (made_here is k r e n)
by_assigned is k r m false e n rec w = made_there is k r m e n (rec w)

by_block : (is : List Instr) (k r m : ℕ) (b : Bool) → begins_block is (suc k) ≡ b → (maker_at is k r ≡ Some m → IsMade is k r m) → cond b None (cond (assigns r (nth is k)) (Some k) (maker_at is k r)) ≡ Some m → IsMade is (suc k) r m
by_block is k r m true e rec w = cc
by_block is k r m false e rec w = by_assigned is k r m (assigns r (nth is k)) refl e rec w

pub made : (is : List Instr) (k r m : ℕ) → maker_at is k r ≡ Some m → IsMade is k r m
made is zero r m h = cc
made is (suc k) r m h = by_block is k r m (begins_block is (suc k)) refl (λ w. made is k r m w) h

-- ---- constants

pub record IsConstant (is : List Instr) (k r : ℕ) (z : ℤ) : Type 0 where
  pub at : ℕ
  pub made_so : IsMade is k r at
  pub is_so : constant_of (nth is at) ≡ Some z

constant_by : (is : List Instr) (k r : ℕ) (z : ℤ) (a : Bool) → assigns r (nth is k) ≡ a → begins_block is (suc k) ≡ false → (constant_at is k r ≡ Some z → IsConstant is k r z) → cond a (constant_of (nth is k)) (constant_at is k r) ≡ Some z → IsConstant is (suc k) r z
constant_by is k r z true e n rec w = record { at = k; made_so = made_here is k r e n; is_so = w }
constant_by is k r z false e n rec w = let x : IsConstant is k r z = rec w in record { at = x.at; made_so = made_there is k r x.at e n x.made_so; is_so = x.is_so }

constant_in : (is : List Instr) (k r : ℕ) (z : ℤ) (b : Bool) → begins_block is (suc k) ≡ b → (constant_at is k r ≡ Some z → IsConstant is k r z) → cond b None (cond (assigns r (nth is k)) (constant_of (nth is k)) (constant_at is k r)) ≡ Some z → IsConstant is (suc k) r z
constant_in is k r z true e rec w = cc
constant_in is k r z false e rec w = constant_by is k r z (assigns r (nth is k)) refl e rec w

pub constant_made : (is : List Instr) (k r : ℕ) (z : ℤ) → constant_at is k r ≡ Some z → IsConstant is k r z
constant_made is zero r z h = cc
constant_made is (suc k) r z h = constant_in is k r z (begins_block is (suc k)) refl (λ w. constant_made is k r z w) h

pub constant_act : (a : Option Act) (z : ℤ) → constant_of a ≡ Some z → (into : ℕ) × (a ≡ Some (act.Compute into (work.Constant z)))
constant_act (Some (act.Compute into (work.Constant y))) z h = let e : y ≡ z = cc in (into, ap (λ x. Some (act.Compute into (work.Constant x))) e)
constant_act _ z h = cc

-- ---- the last maker

pub record IsLastMaker (is : List Instr) (k r q : ℕ) : Type 0 where
  pub before : q < k
  pub makes : assigns r (nth is q) ≡ true
  pub alone : (j : ℕ) → q < j → j < k → assigns r (nth is j) ≡ false

last_by : (is : List Instr) (k r q : ℕ) (a : Bool) → assigns r (nth is k) ≡ a → (last_maker is k r ≡ Some q → IsLastMaker is k r q) → cond a (Some k) (last_maker is k r) ≡ Some q → IsLastMaker is (suc k) r q
last_by is k r q true e rec w =
    let f : k ≡ q = cc (w) in
    subst (λ z. IsLastMaker is (suc k) r z) f (record { before = omega arith; makes = e; alone = λ j lt le. absurd (omega arith) })
last_by is k r q false e rec w =
    let x : IsLastMaker is k r q = rec w in
    let b : q < k = x.before in
    record { before = omega arith; makes = x.makes; alone = λ j lt le. ⊎_elim (λ l. x.alone j lt l) (λ o. let g : k ≡ j = omega arith in subst (λ z. assigns r (nth is z) ≡ false) g e) (cases_lt j k) }

pub last_made : (is : List Instr) (k r q : ℕ) → last_maker is k r ≡ Some q → IsLastMaker is k r q
last_made is zero r q h = cc
last_made is (suc k) r q h = last_by is k r q (assigns r (nth is k)) refl (λ w. last_made is k r q w) h

-- ---- steps of a block

some_any : {X : Type 0} (f : X → Bool) (xs : List X) (k : ℕ) (x : X) → slice_get xs k ≡ Some x → f x ≡ true → list_any f xs ≡ true
some_any f [] k x e h = cc
some_any f (y ∷ ys) zero x e h = left (f y) (list_any f ys) (let s : y ≡ x = cc in ap f s ∙ h)
  where
    left : (a b : Bool) → a ≡ true → a || b ≡ true
    left true b h = refl
    left false b h = cc
some_any f (y ∷ ys) (suc k) x e h = right (f y) (list_any f ys) (some_any f ys k x e h)
  where
    right : (a b : Bool) → b ≡ true → a || b ≡ true
    right true b h = refl
    right false b h = h

pub targeted : (is : List Instr) (k j : ℕ) (x : Act) → nth is k ≡ Some x → goes_to j x ≡ true → is_target is j ≡ true
targeted is k j x e t = at_it (slice_get is k) refl e
  where
    at_it : (o : Option Instr) → slice_get is k ≡ o → act_in o ≡ Some x → is_target is j ≡ true
    at_it None g w = cc
    at_it (Some i) g w = let same : i.act ≡ x = cc in some_any (λ (y : Instr). goes_to j y.act) is k i g (ap (λ a. goes_to j a) same ∙ t)

begun : (is : List Instr) (j : ℕ) → is_target is j ≡ true → begins_block is j ≡ true
begun is j h = right (follows_end is j) (is_target is j) h
  where
    right : (a b : Bool) → b ≡ true → a || b ≡ true
    right true b h = refl
    right false b h = h

block_step : (s : Setting) (is : List Instr) (k r m : ℕ) → IsMade is k r m → (i j : ℕ) (ps qs : List ℕ) → Goes s (nth is i) i ps j qs → m < j → j ≤ k → j ≡ i + 1
block_step s is k r m x i j ps qs g lt le = at_it (nth is i) refl g
  where
    at_it : (o : Option Act) → nth is i ≡ o → Goes s o i ps j qs → j ≡ i + 1
    at_it None e w = absurd w
    at_it (Some a) e w = ⊎_elim (λ n. n) (λ t. let yes : begins_block is j ≡ true = begun is j (targeted is i j a e t) in let no : begins_block is j ≡ false = x.inside j lt le in cc) (onward s a i j ps qs w)

-- a place where a block begins doesn't stand between a register's maker and its use in a block
pub after_target : (is : List Instr) (k r m j : ℕ) → IsMade is k r m → is_target is j ≡ true → j ≤ k → j ≤ m
after_target is k r m j x h le = ⊎_elim (λ lt. let yes : begins_block is j ≡ true = begun is j h in let no : begins_block is j ≡ false = x.inside j lt le in cc) (λ o. o) (cases_lt m j)

-- what the maker brings about of its register holds at the use
pub made_value : (s : Setting) (is : List Instr) (mark : ℕ) (start : List ℕ) (k r m : ℕ) (V : ℕ → Type 0) → IsMade is k r m → mark ≤ m → ((j : ℕ) (ps qs : List ℕ) → Comes s is mark start m ps → Goes s (nth is m) m ps j qs → V (register qs r)) → (rs : List ℕ) → Comes s is mark start k rs → V (register rs r)
made_value s is mark start k r m V x le brings rs c =
    let before : m < k = x.before in
    holds_in s is mark start m k (λ z. V (register z r)) le way (λ j ps qs d g lt le2. brings j ps qs d g) keep k rs c before (omega arith)
  where
    way : IsEntered s is m k
    way i j ps qs g lt le2 = let e : j ≡ i + 1 = block_step s is k r m x i j ps qs g lt le2 in (omega arith, omega arith)

    keep : (i j : ℕ) (ps qs : List ℕ) → m < i → i ≤ k → m < j → j ≤ k → Comes s is mark start i ps → Goes s (nth is i) i ps j qs → V (register ps r) → V (register qs r)
    keep i j ps qs lt le2 lt2 le3 d g p =
        let e : j ≡ i + 1 = block_step s is k r m x i j ps qs g lt2 le3 in
        let l : i < k = omega arith in
        subst V (sym (kept s (nth is i) i j ps qs r g (x.alone i lt l))) p

-- a frame keeps the number of its registers
pub as_long_as : (s : Setting) (is : List Instr) (mark : ℕ) (start : List ℕ) (k : ℕ) (rs : List ℕ) → Comes s is mark start k rs → length rs ≡ length start
as_long_as s is mark start k rs begins = refl
as_long_as s is mark start j qs (goes {k = k} {rs = rs} c g n) = as_long s (nth is k) k j rs qs g ∙ as_long_as s is mark start k rs c
