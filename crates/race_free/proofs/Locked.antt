-- Two accesses that may race at a place are racy, and each has the place's lock.
use Rattle.std.proofs.Common.{◌≡◌, ℕ, zero, suc, ◌+◌, ◌||◌, Bool, true, false, List, [], ◌∷◌, Option, Some, None, refl, sym, ap, subst, ◌∙◌, arith, filter}
use Rattle.std.specs.Prelude.{slice_get, if◌then◌else◌, ◌==◌, cond}
use Rattle.std.specs.List.{list_any, Contains, position_from}
use Rattle.std.proofs.lemmas.Bool.Decides.{nat_tests}
use Rattle.std.proofs.lemmas.Iterator.Adapters.{position_from-zero}
use Rattle.std.proofs.lemmas.Option.{same_Some}
use Rattle.rr_base.specs.declared.layout.Place.{Place}
use Rattle.flow_code.specs.declared.code.Code.{Code}
use Rattle.facts.specs.declared.locks.Summary.{Summary}
use Rattle.facts.specs.declared.pair.AccessAt.{AccessAt}
use Rattle.facts.specs.declared.pair.Pair.{Pair}
use Rattle.profiles.specs.declared.profile.Profile.{Profile}
use Rattle.facts.specs.Accesses.{Access}
use Rattle.facts.specs.Pairs.{MayRace, ArePairs, access_in, act_of, access_less, access_same, place_same, places_of}
use Rattle.facts.specs.PointsTo.{Tables}
use Rattle.weak_lock_facts.specs.declared.grain.Grained.{Grained}
use Rattle.weak_lock_facts.specs.declared.range.Range.{Range}
use Rattle.weak_lock_facts.specs.Grains.{AreGrains, stands_in}
use Rattle.weak_code.specs.declared.stretch.RacyAccess.{RacyAccess}
use Rattle.weak_code.specs.Stretches.{racy_through, racy_access, racy_accesses}
use Rattle.weak_code.specs.WeakLocks.{comes_again, places_in, lock_at, with_some, with_locks}
use Rattle.guard_paths.proofs.Guarded.{In, contains_in, in_filter_map, number_in, number_kept}
use Rattle.guard_paths.proofs.Opened.{in_filtered}

-- ---- lists

pub any_of : {X : Type 0} (p : X → Bool) (xs : List X) (x : X) → In x xs → p x ≡ true → list_any p xs ≡ true
any_of p [] x (k, h) e = cc
any_of p (y ∷ xs) x (zero, h) e = either (p y) (list_any p xs) (ap p (same_Some y x h) ∙ e)
  where
    either : (a b : Bool) → a ≡ true → (a || b) ≡ true
    either true b h = refl
    either false b h = cc
any_of p (y ∷ xs) x (suc k, h) e = or (p y) (list_any p xs) (any_of p xs x (k, h) e)
  where
    or : (a b : Bool) → b ≡ true → (a || b) ≡ true
    or true b h = refl
    or false b h = h

-- ---- places

same_place : (p q : Place) → place_same p q ≡ true → p ≡ q
same_place p q h =
    let s : p.site ≡ q.site = grind (arith, nat_tests, h) in
    let c : p.class ≡ q.class = grind (arith, nat_tests, h) in
    ap (λ n. at n p.class) s ∙ ap (λ n. at q.site n) c
  where
    at : ℕ → ℕ → Place
    at s c = record { site = s; class = c }

place_self : (p : Place) → place_same p p ≡ true
place_self p = grind (arith, nat_tests)

again : (p : Place) (vs : List Pair) → comes_again p vs ≡ true → (v : Pair) × In v vs × (v.place ≡ p)
again p [] h = cc
again p (v ∷ vs) h = (v, (0, refl), sym (same_place p v.place h))

-- the place of each pair has a lock
pub place_in : (vs : List Pair) (v : Pair) → In v vs → In v.place (places_in vs)
place_in [] v (k, h) = cc
place_in (x ∷ vs) v h = go (comes_again x.place vs) refl h (λ w i. place_in vs w i)
  where
    go : (b : Bool) → comes_again x.place vs ≡ b → In v (x ∷ vs) → ((w : Pair) → In w vs → In w.place (places_in vs)) → In v.place (if b then places_in vs else x.place ∷ places_in vs)
    go true e (zero, g) later =
        let a = again x.place vs e in
        subst (λ p. In p (places_in vs)) (a.2 ∙ ap (λ (z : Pair). z.place) (same_Some x v g)) (later a.0 a.1)
    go true e (suc k, g) later = later v (k, g)
    go false e (zero, g) later = (0, ap (λ (z : Pair). Some z.place) (same_Some x v g))
    go false e (suc k, g) later = let r = later v (k, g) in (suc r.0, r.1)

-- ---- the lock of a place

found_from : (i : ℕ) (locked : List Place) (p : Place) → In p locked → (n : ℕ) × (position_from (λ q. place_same p q) i locked ≡ Some (i + n)) × (slice_get locked n ≡ Some p)
found_from i [] p (k, h) = cc
found_from i (q ∷ locked) p h = go (place_same p q) refl h (λ j. found_from (i + 1) locked p j)
  where
    differs : place_same p q ≡ false → q ≡ p → ⊥
    differs e s = let t : place_same p q ≡ true = ap (place_same p) s ∙ place_self p in cc

    here : i ≡ i + 0
    here = omega arith

    go : (b : Bool) → place_same p q ≡ b → In p (q ∷ locked) → (In p locked → (n : ℕ) × (position_from (λ q. place_same p q) (i + 1) locked ≡ Some (i + 1 + n)) × (slice_get locked n ≡ Some p)) → (n : ℕ) × (cond b (Some i) (position_from (λ q. place_same p q) (i + 1) locked) ≡ Some (i + n)) × (slice_get (q ∷ locked) n ≡ Some p)
    go true e j rest = (0, ap Some here, ap Some (sym (same_place p q e)))
    go false e (zero, g) rest = absurd (differs e (same_Some q p g))
    go false e (suc k, g) rest = let r = rest (k, g) in (suc r.0, r.1 ∙ ap Some (later r.0), r.2)
      where
        later : (n : ℕ) → i + 1 + n ≡ i + suc n
        later n = omega arith

-- the place's lock is the one that stands for it
pub lock_of_place : (locked : List Place) (p : Place) → In p locked → (n : ℕ) × (lock_at locked p ≡ Some n) × (slice_get locked n ≡ Some p)
lock_of_place locked p h = let f = found_from 0 locked p h in (f.0, position_from-zero (λ q. place_same p q) locked ∙ f.1 ∙ ap Some (none_added f.0), f.2)
  where
    none_added : (n : ℕ) → 0 + n ≡ n
    none_added n = omega arith

kept_locks : (locked : List Place) (found : List ℕ) (ps : List Place) (n : ℕ) → In n found → In n (with_locks locked found ps)
kept_locks locked found [] n h = h
kept_locks locked found (p ∷ ps) n h = kept_locks locked (with_some (lock_at locked p) found) ps n (by (lock_at locked p))
  where
    by : (o : Option ℕ) → In n (with_some o found)
    by None = h
    by (Some m) = number_kept n m found h

pub has_lock : (locked : List Place) (found : List ℕ) (ps : List Place) (p : Place) (n : ℕ) → In p ps → lock_at locked p ≡ Some n → In n (with_locks locked found ps)
has_lock locked found [] p n (k, h) e = cc
has_lock locked found (q ∷ ps) p n (zero, h) e =
    kept_locks locked (with_some (lock_at locked q) found) ps n (subst (λ o. In n (with_some o found)) (sym (ap (lock_at locked) (same_Some q p h) ∙ e)) (number_in n found))
has_lock locked found (q ∷ ps) p n (suc k, h) e = has_lock locked (with_some (lock_at locked q) found) ps p n (k, h) e

-- ---- racy accesses

less_once : (a b : AccessAt) → access_less b a ≡ true → access_less a b ≡ false
less_once a b h = grind (arith, nat_tests, h)

access_self : (a : AccessAt) → access_same a a ≡ true
access_self a = grind (arith, nat_tests)

-- a pair has both accesses
pub record IsPairOf (vs : List Pair) (p : Place) (a b : AccessAt) : Type 0 where
  pub pair : Pair
  pub is : In pair vs
  pub place : pair.place ≡ p
  pub first : stands_in a pair ≡ true
  pub second : stands_in b pair ≡ true

pub pair_of : (code : Code) (t : Tables) (ss : List Summary) (vs : List Pair) (p : Place) (a b : AccessAt) → ArePairs code t ss vs → MayRace code t ss p a b → MayRace code t ss p b a → IsPairOf vs p a b
pair_of code t ss vs p a b are one other = go (access_less b a) refl
  where
    left : (x y : Bool) → x ≡ true → (x || y) ≡ true
    left true y h = refl
    left false y h = cc

    right : (x y : Bool) → y ≡ true → (x || y) ≡ true
    right true y h = refl
    right false y h = h

    go : (l : Bool) → access_less b a ≡ l → IsPairOf vs p a b
    go false e = record {
      pair = record { place = p; first = a; second = b };
      is = contains_in (record { place = p; first = a; second = b }) vs (are.all p a b one e);
      place = refl;
      first = left (access_same a a) (access_same b a) (access_self a);
      second = right (access_same a b) (access_same b b) (access_self b);
    }
    go true e = record {
      pair = record { place = p; first = b; second = a };
      is = contains_in (record { place = p; first = b; second = a }) vs (are.all p b a other (less_once a b e));
      place = refl;
      first = right (access_same b a) (access_same a a) (access_self a);
      second = left (access_same b b) (access_same a b) (access_self b);
    }

-- the access is one of those of its function that may race, with the lock of this number
pub record HasLock (code : Code) (t : Tables) (vs : List Pair) (rs : List Range) (rows : List Grained) (a : AccessAt) (x : Access) (n : ℕ) : Type 0 where
  pub racy : RacyAccess
  pub is : In racy (racy_accesses code t (places_in vs) rs rows a.function)
  pub instr : racy.instr ≡ a.instr
  pub through : racy.through ≡ x.through
  pub locks : In n racy.locks

pub locked_access : (code : Code) (t : Tables) (vs : List Pair) (rs : List Range) (profile : Profile) (rows : List Grained) (p : Place) (a : AccessAt) (x : Access) (n : ℕ) → AreGrains code vs rs profile rows → (v : Pair) → In v vs → stands_in a v ≡ true → lock_at (places_in vs) p ≡ Some n → access_in (act_of code a) ≡ Some x → Contains (places_of code t a) p → HasLock code t vs rs rows a x n
locked_access code t vs rs profile rows p a x n grains v iv stands lock does touches =
    let row = grains.all a (any_of (stands_in a) vs v iv stands) in
    let g = row.0 in
    let same : g.access ≡ a = row.2 in
    let found : racy_access code t (places_in vs) rs g ≡ Some (racy_through code t (places_in vs) rs g x) = ap (λ o. made g o) (ap (λ b. access_in (act_of code b)) same ∙ does) in
    record {
      racy = racy_through code t (places_in vs) rs g x;
      is = in_filter_map (racy_access code t (places_in vs) rs) g (racy_through code t (places_in vs) rs g x) (filter (λ y. y.access.function == a.function) rows)
          (in_filtered (λ y. y.access.function == a.function) g rows (contains_in g rows row.1) (of_function g same)) found;
      instr = ap (λ (b : AccessAt). b.instr) same;
      through = refl;
      locks = has_lock (places_in vs) [] (places_of code t g.access) p n (contains_in p (places_of code t g.access) (subst (λ b. Contains (places_of code t b) p) (sym same) touches)) lock;
    }
  where
    made : Grained → Option Access → Option RacyAccess
    made g None = None
    made g (Some y) = Some (racy_through code t (places_in vs) rs g y)

    of_function : (g : Grained) → g.access ≡ a → (g.access.function == a.function) ≡ true
    of_function g e = let f : g.access.function ≡ a.function = ap (λ (b : AccessAt). b.function) e in grind (arith, nat_tests, f)
