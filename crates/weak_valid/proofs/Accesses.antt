-- What the accesses of a function that may race have: instructions, pointers, locks and loops.
use Rattle.std.proofs.Common.{◌≡◌, ℕ, zero, suc, ◌<◌, Bool, true, false, List, [], ◌∷◌, ◌++◌, length, refl, ap, ◌∙◌, subst, arith, Option, Some, None, filter, option_map}
use Rattle.std.specs.Prelude.{slice_get, if◌then◌else◌, nat_lt, ◌==◌}
use Rattle.std.specs.List.{list_all, filter_map, cons_option}
use Rattle.std.proofs.lemmas.Bool.Decides.{nat_tests}
use Rattle.std.proofs.lemmas.List.Quantifiers.{position-Some}
use Rattle.std.proofs.lemmas.Option.{same_Some}
use Rattle.rr_base.specs.declared.layout.Place.{Place}
use Rattle.flow_code.specs.declared.act.Instr.{Instr}
use Rattle.flow_code.specs.declared.code.Code.{Code}
use Rattle.flow_code.specs.declared.code.Function.{Function}
use Rattle.flow_code.specs.declared.code.LoopInfo.{LoopInfo}
use Rattle.flow_code.specs.Next.{act_in}
use Rattle.flow_code.specs.Regions.{ascend}
use Rattle.flow_code.specs.Threads.{instrs_in}
use Rattle.facts.specs.Accesses.{Access, access_of}
use Rattle.facts.specs.Pairs.{access_in, place_same, places_of}
use Rattle.facts.specs.PointsTo.{Tables}
use Rattle.weak_lock_facts.specs.declared.grain.Grain.{Grain}
use Rattle.weak_lock_facts.specs.declared.grain.Grain.TheVariants as grain
use Rattle.weak_lock_facts.specs.declared.grain.Grained.{Grained}
use Rattle.weak_lock_facts.specs.declared.range.Range.{Range}
use Rattle.weak_lock_facts.specs.Loops.{is_counted}
use Rattle.weak_code.specs.declared.stretch.RacyAccess.{RacyAccess}
use Rattle.weak_code.specs.Stretches.{racy_through, racy_access, racy_accesses, same_grain, with_grain, with_all, with_their_locks, all_locks}
use Rattle.weak_code.specs.WeakLocks.{lock_at, with_number, with_some, with_locks, locks_of}
use Rattle.weak_valid.proofs.Tests.{both, two}

-- ---- lists

abbrev pub Each : {X : Type 0} → (X → Type 0) → List X → Type 0
Each P [] = Unit {0}
Each P (x ∷ xs) = P x × Each P xs

pub each_append : {X : Type 0} (P : X → Type 0) (xs ys : List X) → Each P xs → Each P ys → Each P (xs ++ ys)
each_append P [] ys h k = k
each_append P (x ∷ xs) ys h k = (h.0, each_append P xs ys h.1 k)

pub each_filter : {X : Type 0} (P : X → Type 0) (test : X → Bool) (xs : List X) → Each P xs → Each P (filter test xs)
each_filter P test [] h = tt
each_filter P test (x ∷ xs) h = go (test x) (each_filter P test xs h.1)
  where
    go : (b : Bool) → Each P (filter test xs) → Each P (if b then x ∷ filter test xs else filter test xs)
    go true r = (h.0, r)
    go false r = r

pub each_at : {X : Type 0} (P : X → Type 0) (xs : List X) (k : ℕ) (x : X) → Each P xs → slice_get xs k ≡ Some x → P x
each_at P [] k x h g = cc
each_at P (y ∷ ys) zero x h g = subst P (same_Some y x g) h.0
each_at P (y ∷ ys) (suc k) x h g = each_at P ys k x h.1 g

pub each_of : {X : Type 0} (P : X → Type 0) (xs : List X) → ((k : ℕ) (x : X) → slice_get xs k ≡ Some x → P x) → Each P xs
each_of P [] h = tt
each_of P (x ∷ xs) h = (h 0 x refl, each_of P xs (λ k y g. h (suc k) y g))

pub each_filter_map : {X Y : Type 0} (P : Y → Type 0) (f : X → Option Y) (xs : List X) → ((k : ℕ) (x : X) (y : Y) → slice_get xs k ≡ Some x → f x ≡ Some y → P y) → Each P (filter_map f xs)
each_filter_map P f [] h = tt
each_filter_map {X} {Y} P f (x ∷ xs) h = go (f x) refl (each_filter_map P f xs (λ k y z. h (suc k) y z))
  where
    go : (o : Option Y) → f x ≡ o → Each P (filter_map f xs) → Each P (cons_option o (filter_map f xs))
    go None e r = r
    go (Some y) e r = (h 0 x y refl e, r)

pub filtered : {X : Type 0} (test : X → Bool) (xs : List X) (k : ℕ) (x : X) → slice_get (filter test xs) k ≡ Some x → (j : ℕ) × (slice_get xs j ≡ Some x) × (test x ≡ true)
filtered test [] k x h = cc
filtered {X} test (y ∷ ys) k x h = go (test y) refl k h (λ j g. filtered test ys j x g)
  where
    go : (b : Bool) → test y ≡ b → (k : ℕ) → slice_get (if b then y ∷ filter test ys else filter test ys) k ≡ Some x → ((j : ℕ) → slice_get (filter test ys) j ≡ Some x → (i : ℕ) × (slice_get ys i ≡ Some x) × (test x ≡ true)) → (i : ℕ) × (slice_get (y ∷ ys) i ≡ Some x) × (test x ≡ true)
    go true e zero h r = (0, h, subst (λ z. test z ≡ true) (same_Some y x h) e)
    go true e (suc k) h r = let s = r k h in (suc s.0, s.1, s.2)
    go false e k h r = let s = r k h in (suc s.0, s.1, s.2)

-- ---- numbers of locks

-- ascending numbers below m
abbrev pub AreLocks : ℕ → List ℕ → Type 0
AreLocks m xs = (ascend xs ≡ true) × (list_all (λ l. nat_lt l m) xs ≡ true)

-- the number is less than the first of these
abbrev ahead : ℕ → List ℕ → Bool
ahead x [] = true
ahead x (y ∷ ys) = nat_lt x y

ascend_cons : (x : ℕ) (ys : List ℕ) → ahead x ys ≡ true → ascend ys ≡ true → ascend (x ∷ ys) ≡ true
ascend_cons x [] a h = refl
ascend_cons x (y ∷ ys) a h = two (nat_lt x y) (ascend (y ∷ ys)) a h

ascend_parts : (x : ℕ) (ys : List ℕ) → ascend (x ∷ ys) ≡ true → (ahead x ys ≡ true) × (ascend ys ≡ true)
ascend_parts x [] h = (refl, refl)
ascend_parts x (y ∷ ys) h = both (nat_lt x y) (ascend (y ∷ ys)) h

ahead_number : (x n : ℕ) (ys : List ℕ) → x < n → ahead x ys ≡ true → ahead x (with_number n ys) ≡ true
ahead_number x n [] lt a = grind (arith, nat_tests, lt)
ahead_number x n (y ∷ ys) lt a = go (nat_lt y n) (y == n)
  where
    go : (b c : Bool) → ahead x (if b then y ∷ with_number n ys else (if c then y ∷ ys else n ∷ y ∷ ys)) ≡ true
    go true c = a
    go false true = a
    go false false = grind (arith, nat_tests, lt)

ascend_number : (n : ℕ) (xs : List ℕ) → ascend xs ≡ true → ascend (with_number n xs) ≡ true
ascend_number n [] h = refl
ascend_number n (x ∷ xs) h = let p = ascend_parts x xs h in go (nat_lt x n) (x == n) refl refl p.0 (ascend_number n xs p.1)
  where
    go : (b c : Bool) → nat_lt x n ≡ b → (x == n) ≡ c → ahead x xs ≡ true → ascend (with_number n xs) ≡ true → ascend (if b then x ∷ with_number n xs else (if c then x ∷ xs else n ∷ x ∷ xs)) ≡ true
    go true c e f a r = let lt : x < n = grind (arith, nat_tests, e) in ascend_cons x (with_number n xs) (ahead_number x n xs lt a) r
    go false true e f a r = h
    go false false e f a r = let l : nat_lt n x ≡ true = grind (arith, nat_tests, e, f) in two (nat_lt n x) (ascend (x ∷ xs)) l h

below_number : (m n : ℕ) (xs : List ℕ) → n < m → list_all (λ l. nat_lt l m) xs ≡ true → list_all (λ l. nat_lt l m) (with_number n xs) ≡ true
below_number m n [] lt h = two (nat_lt n m) true (grind (arith, nat_tests, lt)) refl
below_number m n (x ∷ xs) lt h = let b = both (nat_lt x m) (list_all (λ l. nat_lt l m) xs) h in go (nat_lt x n) (x == n) b.0 (below_number m n xs lt b.1)
  where
    go : (b c : Bool) → nat_lt x m ≡ true → list_all (λ l. nat_lt l m) (with_number n xs) ≡ true → list_all (λ l. nat_lt l m) (if b then x ∷ with_number n xs else (if c then x ∷ xs else n ∷ x ∷ xs)) ≡ true
    go true c p r = two (nat_lt x m) (list_all (λ l. nat_lt l m) (with_number n xs)) p r
    go false true p r = h
    go false false p r = two (nat_lt n m) (list_all (λ l. nat_lt l m) (x ∷ xs)) (grind (arith, nat_tests, lt)) h

locks_number : (m n : ℕ) (xs : List ℕ) → n < m → AreLocks m xs → AreLocks m (with_number n xs)
locks_number m n xs lt h = (ascend_number n xs h.0, below_number m n xs lt h.1)

locks_some : (m : ℕ) (o : Option ℕ) (xs : List ℕ) → ((n : ℕ) → o ≡ Some n → n < m) → AreLocks m xs → AreLocks m (with_some o xs)
locks_some m None xs lt h = h
locks_some m (Some n) xs lt h = locks_number m n xs (lt n refl) h

lock_below : (locked : List Place) (p : Place) (n : ℕ) → lock_at locked p ≡ Some n → n < length locked
lock_below locked p n h = (position-Some (λ q. place_same p q) locked n p h).0

locks_with : (locked : List Place) (found : List ℕ) (ps : List Place) → AreLocks (length locked) found → AreLocks (length locked) (with_locks locked found ps)
locks_with locked found [] h = h
locks_with locked found (p ∷ ps) h = locks_with locked (with_some (lock_at locked p) found) ps (locks_some (length locked) (lock_at locked p) found (λ n e. lock_below locked p n e) h)

pub locks_are : (locked : List Place) (ps : List Place) → AreLocks (length locked) (locks_of locked ps)
locks_are locked ps = locks_with locked [] ps (refl, refl)

locks_all : (m : ℕ) (found ns : List ℕ) → AreLocks m found → list_all (λ l. nat_lt l m) ns ≡ true → AreLocks m (with_all found ns)
locks_all m found [] h k = h
locks_all m found (n ∷ ns) h k =
    let b = both (nat_lt n m) (list_all (λ l. nat_lt l m) ns) k in
    let lt : n < m = grind (arith, nat_tests, b.0) in
    locks_all m (with_number n found) ns (locks_number m n found lt h) b.1

locks_their : (m : ℕ) (found : List ℕ) (accesses : List RacyAccess) → AreLocks m found → Each (λ a. AreLocks m a.locks) accesses → AreLocks m (with_their_locks found accesses)
locks_their m found [] h k = h
locks_their m found (a ∷ more) h k = locks_their m (with_all found a.locks) more (locks_all m found a.locks h k.0.1) k.1

pub all_are : (m : ℕ) (accesses : List RacyAccess) → Each (λ a. AreLocks m a.locks) accesses → AreLocks m (all_locks accesses)
all_are m accesses h = locks_their m [] accesses (refl, refl) h

-- ---- accesses

-- the loop of each row that is guarded with a loop is counted
abbrev pub LoopsAreCounted : Code → List Grained → Type 0
LoopsAreCounted code rows = (j : ℕ) (g : Grained) (fn : Function) (k : ℕ) (l : LoopInfo) → slice_get rows j ≡ Some g → slice_get code.functions g.access.function ≡ Some fn → slice_get fn.loops k ≡ Some l → g.grain ≡ grain.Loop l.at → is_counted fn l ≡ true

-- what an access has that may race, where there are m locks
pub record IsFit (fn : Function) (m : ℕ) (a : RacyAccess) : Type 0 where
  pub locks : AreLocks m a.locks
  pub instr : Instr
  pub access : Access
  pub at : slice_get fn.instrs a.instr ≡ Some instr
  pub is : access_of instr.act ≡ Some access
  pub through : access.through ≡ a.through
  pub counted : (k : ℕ) (l : LoopInfo) → slice_get fn.loops k ≡ Some l → a.grain ≡ grain.Loop l.at → is_counted fn l ≡ true

module _ (code : Code) (t : Tables) (locked : List Place) (rs : List Range) (rows : List Grained) (counted : LoopsAreCounted code rows) (f : ℕ) (fn : Function) (at : slice_get code.functions f ≡ Some fn) where
  made_fit : (j : ℕ) (g : Grained) (i : Instr) (x : Access) → slice_get rows j ≡ Some g → g.access.function ≡ f → slice_get fn.instrs g.access.instr ≡ Some i → access_of i.act ≡ Some x → IsFit fn (length locked) (racy_through code t locked rs g x)
  made_fit j g i x r e s h = record {
    locks = locks_are locked (places_of code t g.access);
    instr = i;
    access = x;
    at = s;
    is = h;
    through = refl;
    counted = λ k l p q. counted j g fn k l r (ap (slice_get code.functions) e ∙ at) p q;
  }

  instr_fit : (j : ℕ) (g : Grained) (o : Option Instr) (a : RacyAccess) → slice_get rows j ≡ Some g → g.access.function ≡ f → slice_get fn.instrs g.access.instr ≡ o → option_map (racy_through code t locked rs g) (access_in (act_in o)) ≡ Some a → IsFit fn (length locked) a
  instr_fit j g None a r e s h = cc
  instr_fit j g (Some i) a r e s h = go (access_of i.act) refl h
    where
      go : (o : Option Access) → access_of i.act ≡ o → option_map (racy_through code t locked rs g) o ≡ Some a → IsFit fn (length locked) a
      go None q h = cc
      go (Some x) q h = subst (IsFit fn (length locked)) (same_Some (racy_through code t locked rs g x) a h) (made_fit j g i x r e s q)

  row_fit : (j : ℕ) (g : Grained) (a : RacyAccess) → slice_get rows j ≡ Some g → g.access.function ≡ f → racy_access code t locked rs g ≡ Some a → IsFit fn (length locked) a
  row_fit j g a r e h =
      let s : slice_get code.functions g.access.function ≡ Some fn = ap (slice_get code.functions) e ∙ at in
      instr_fit j g (slice_get fn.instrs g.access.instr) a r e refl (subst (λ (o : Option Function). option_map (racy_through code t locked rs g) (access_in (act_in (slice_get (instrs_in o) g.access.instr))) ≡ Some a) s h)

  pub accesses_fit : Each (IsFit fn (length locked)) (racy_accesses code t locked rs rows f)
  accesses_fit = each_filter_map (IsFit fn (length locked)) (racy_access code t locked rs) (filter (λ g. g.access.function == f) rows) (λ k g a s h. let q = filtered (λ g. g.access.function == f) rows k g s in let e : g.access.function ≡ f = grind (arith, nat_tests, q.2) in row_fit q.0 g a q.1 e h)

-- ---- grains

pub grain_is : (x y : Grain) → same_grain x y ≡ true → y ≡ x
grain_is grain.Function grain.Function h = refl
grain_is (grain.Loop m) (grain.Loop n) h = let e : n ≡ m = grind (arith, nat_tests, h) in ap (λ z. grain.Loop z) e
grain_is (grain.Block m) (grain.Block n) h = let e : n ≡ m = grind (arith, nat_tests, h) in ap (λ z. grain.Block z) e
grain_is grain.Instruction grain.Instruction h = refl
grain_is _ _ h = cc

pub grain_at : (x : Grain) (accesses : List RacyAccess) (k : ℕ) (a : RacyAccess) → slice_get (with_grain x accesses) k ≡ Some a → (j : ℕ) × (slice_get accesses j ≡ Some a) × (a.grain ≡ x)
grain_at x accesses k a h = let q = filtered (λ a. same_grain x a.grain) accesses k a h in (q.0, q.1, grain_is x a.grain q.2)
