-- Total orders with a test of equality: those of numbers, and those by a first part, then by a second, as that of places,
-- of paths and of locks that are held.
use Rattle.std.proofs.Common.{◌≡◌, ℕ, Bool, true, false, ◌&&◌, ◌||◌, refl, sym, ap, subst, ◌∙◌, arith, ◌⊎◌, inl, inr, ⊎_elim}
use Rattle.std.specs.Prelude.{nat_lt, ◌==◌}
use Rattle.std.proofs.lemmas.Bool.Decides.{nat_tests}
use Rattle.rr_base.specs.declared.layout.Place.{Place}
use Rattle.sync_objects.specs.declared.mode.Mode.{Mode}
use Rattle.sync_objects.specs.declared.mode.Mode.TheVariants.{Read, Write}
use Rattle.facts.specs.declared.locks.Held.{Held}
use Rattle.facts.specs.declared.locks.LockPath.{LockPath}
use Rattle.facts.specs.declared.locks.LockPath.TheVariants.{Cell, Formal}
use Rattle.facts.specs.Locks.{is_less, is_same, mode_less, mode_same, held_less, held_same}
use Rattle.facts.specs.Pairs.{place_less, place_same}
pub use Rattle.facts.specs.Sets.{Orders}

pub orders_numbers : Orders nat_lt (λ x y. x == y)
orders_numbers = record {
  same_is = λ x y h. grind (arith, nat_tests, h);
  same_self = λ x. grind (arith, nat_tests);
  self = λ x. grind (arith, nat_tests);
  along = λ x y z h k. grind (arith, nat_tests, h, k);
  total = λ x y h k. grind (arith, nat_tests, h, k);
}

pub or_cases : (p q r : Bool) → p || (q && r) ≡ true → (p ≡ true) ⊎ ((q ≡ true) × (r ≡ true))
or_cases true q r h = inl refl
or_cases false true r h = inr (refl, h)
or_cases false false r h = cc

pub or_left : (p q : Bool) → p ≡ true → p || q ≡ true
or_left true q h = refl
or_left false q h = cc

pub or_right : (p q r : Bool) → q ≡ true → r ≡ true → p || (q && r) ≡ true
or_right true q r h k = refl
or_right false true r h k = k
or_right false false r h k = cc

pub or_none : (p q r : Bool) → p || (q && r) ≡ false → (p ≡ false) × (q ≡ true → r ≡ false)
or_none true q r h = cc
or_none false true r h = (refl, λ e. h)
or_none false false r h = (refl, λ e. cc)

or_false : (p q r : Bool) → p ≡ false → r ≡ false → p || (q && r) ≡ false
or_false true q r h k = cc
or_false false true r h k = k
or_false false false r h k = refl

module _ {X A B : Type 0} (f : X → A) (g : X → B) (la sa : A → A → Bool) (lb sb : B → B → Bool) (a : Orders la sa) (b : Orders lb sb) where
  abbrev less : X → X → Bool
  less x y = la (f x) (f y) || (sa (f x) (f y) && lb (g x) (g y))

  tied : (x y : X) → f x ≡ f y → sa (f x) (f y) ≡ true
  tied x y e = ap (λ z. sa (f x) z) (sym e) ∙ a.same_self (f x)

  parts : (x y : X) → less x y ≡ false → less y x ≡ false → (f x ≡ f y) × (g x ≡ g y)
  parts x y h k =
      let m = or_none (la (f x) (f y)) (sa (f x) (f y)) (lb (g x) (g y)) h in
      let n = or_none (la (f y) (f x)) (sa (f y) (f x)) (lb (g y) (g x)) k in
      let e = a.total (f x) (f y) m.0 n.0 in
      (e, b.total (g x) (g y) (m.1 (tied x y e)) (n.1 (tied y x (sym e))))

  through : (x y z : X) → less x y ≡ true → less y z ≡ true → less x z ≡ true
  through x y z h k = go (or_cases (la (f x) (f y)) (sa (f x) (f y)) (lb (g x) (g y)) h) (or_cases (la (f y) (f z)) (sa (f y) (f z)) (lb (g y) (g z)) k)
    where
      left : la (f x) (f z) ≡ true → less x z ≡ true
      left h = or_left (la (f x) (f z)) (sa (f x) (f z) && lb (g x) (g z)) h

      go : (la (f x) (f y) ≡ true) ⊎ ((sa (f x) (f y) ≡ true) × (lb (g x) (g y) ≡ true)) → (la (f y) (f z) ≡ true) ⊎ ((sa (f y) (f z) ≡ true) × (lb (g y) (g z) ≡ true)) → less x z ≡ true
      go (inl p) (inl q) = left (a.along (f x) (f y) (f z) p q)
      go (inl p) (inr (s, q)) = left (subst (λ v. la (f x) v ≡ true) (a.same_is (f y) (f z) s) p)
      go (inr (s, p)) (inl q) = left (subst (λ v. la v (f z) ≡ true) (sym (a.same_is (f x) (f y) s)) q)
      go (inr (s, p)) (inr (t, q)) = or_right (la (f x) (f z)) (sa (f x) (f z)) (lb (g x) (g z)) (tied x z (a.same_is (f x) (f y) s ∙ a.same_is (f y) (f z) t)) (b.along (g x) (g y) (g z) p q)

  and_both : (p q : Bool) → p && q ≡ true → (p ≡ true) × (q ≡ true)
  and_both true q h = (refl, h)
  and_both false q h = cc

  both_and : (p q : Bool) → p ≡ true → q ≡ true → p && q ≡ true
  both_and true q h k = k
  both_and false q h k = cc

  -- a value is known by its two parts
  pub orders_by : ((x y : X) → f x ≡ f y → g x ≡ g y → x ≡ y) → Orders (λ x y. la (f x) (f y) || (sa (f x) (f y) && lb (g x) (g y))) (λ x y. sa (f x) (f y) && sb (g x) (g y))
  orders_by known = record {
    same_is = λ x y h. let m = and_both (sa (f x) (f y)) (sb (g x) (g y)) h in known x y (a.same_is (f x) (f y) m.0) (b.same_is (g x) (g y) m.1);
    same_self = λ x. both_and (sa (f x) (f x)) (sb (g x) (g x)) (a.same_self (f x)) (b.same_self (g x));
    self = λ x. or_false (la (f x) (f x)) (sa (f x) (f x)) (lb (g x) (g x)) (a.self (f x)) (b.self (g x));
    along = through;
    total = λ x y h k. let e = parts x y h k in known x y e.0 e.1;
  }

pub orders_places : Orders place_less place_same
orders_places = orders_by (λ (p : Place). p.site) (λ p. p.class) nat_lt (λ x y. x == y) nat_lt (λ x y. x == y) orders_numbers orders_numbers (λ x y e f. λ i. record { site = e i; class = f i })

pub orders_paths : Orders is_less is_same
orders_paths = record {
  same_is = known;
  same_self = itself;
  self = apart;
  along = along;
  total = λ p q h k. by p q h k (is_same p q) refl;
}
  where
    eq_of : (a b : ℕ) → (a == b) ≡ true → a ≡ b
    eq_of a b e = grind (arith, nat_tests, e)

    eq_self : (a : ℕ) → (a == a) ≡ true
    eq_self a = grind (arith, nat_tests)

    both : (a b : Bool) → a && b ≡ true → (a ≡ true) × (b ≡ true)
    both true b e = (refl, e)
    both false b e = cc

    known : (p q : LockPath) → is_same p q ≡ true → p ≡ q
    known (Cell a) (Cell b) e = ap Cell (eq_of a b e)
    known (Cell a) (Formal j n) e = cc
    known (Formal i m) (Cell b) e = cc
    known (Formal i m) (Formal j n) e = let d = both (i == j) (m == n) e in ap (λ x. Formal x m) (eq_of i j d.0) ∙ ap (λ x. Formal j x) (eq_of m n d.1)

    itself : (p : LockPath) → is_same p p ≡ true
    itself (Cell a) = eq_self a
    itself (Formal i m) = grind (arith, nat_tests)

    apart : (p : LockPath) → is_less p p ≡ false
    apart (Cell a) = grind (arith, nat_tests)
    apart (Formal i m) = grind (arith, nat_tests)

    along : (p q r : LockPath) → is_less p q ≡ true → is_less q r ≡ true → is_less p r ≡ true
    along (Cell a) (Cell b) (Cell c) d e = grind (arith, nat_tests, d, e)
    along (Cell a) (Cell b) (Formal k o) d e = refl
    along (Cell a) (Formal j n) (Cell c) d e = cc
    along (Cell a) (Formal j n) (Formal k o) d e = refl
    along (Formal i m) (Cell b) r d e = cc
    along (Formal i m) (Formal j n) (Cell c) d e = cc
    along (Formal i m) (Formal j n) (Formal k o) d e = grind (arith, nat_tests, d, e)

    other : (p q : LockPath) → is_less p q ≡ false → is_same p q ≡ false → is_less q p ≡ true
    other (Cell a) (Cell b) h k = grind (arith, nat_tests, h, k)
    other (Cell a) (Formal j n) h k = cc
    other (Formal i m) (Cell b) h k = refl
    other (Formal i m) (Formal j n) h k = grind (arith, nat_tests, h, k)

    by : (p q : LockPath) → is_less p q ≡ false → is_less q p ≡ false → (b : Bool) → is_same p q ≡ b → p ≡ q
    by p q h k true e = known p q e
    by p q h k false e = let g = other p q h e in cc

orders_modes : Orders mode_less mode_same
orders_modes = record {
  same_is = mode_same_is;
  same_self = mode_self;
  self = mode_apart;
  along = mode_along;
  total = mode_total;
}
  where
    mode_same_is : (a b : Mode) → mode_same a b ≡ true → a ≡ b
    mode_same_is Read Read h = refl
    mode_same_is Read Write h = cc
    mode_same_is Write Read h = cc
    mode_same_is Write Write h = refl

    mode_self : (a : Mode) → mode_same a a ≡ true
    mode_self Read = refl
    mode_self Write = refl

    mode_apart : (a : Mode) → mode_less a a ≡ false
    mode_apart Read = refl
    mode_apart Write = refl

    mode_along : (a b c : Mode) → mode_less a b ≡ true → mode_less b c ≡ true → mode_less a c ≡ true
    mode_along Read b Read h k = no_less b k
      where
        no_less : (b : Mode) → mode_less b Read ≡ true → false ≡ true
        no_less Read h = h
        no_less Write h = h
    mode_along Read b Write h k = refl
    mode_along Write b c h k = cc

    mode_total : (a b : Mode) → mode_less a b ≡ false → mode_less b a ≡ false → a ≡ b
    mode_total Read Read h k = refl
    mode_total Read Write h k = cc
    mode_total Write Read h k = cc
    mode_total Write Write h k = refl

pub orders_held : Orders held_less held_same
orders_held = orders_by (λ (h : Held). h.path) (λ h. h.mode) is_less is_same mode_less mode_same orders_paths orders_modes (λ h k e f. λ i. record { path = e i; mode = f i })

module _ {X : Type 0} (less same : X → X → Bool) (o : Orders less same) where
  either : (b : Bool) → (b ≡ true) ⊎ (b ≡ false)
  either true = inl refl
  either false = inr refl

  -- what isn't less than what isn't less
  pub not_less_along : (x y z : X) → less y x ≡ false → less z y ≡ false → less z x ≡ false
  not_less_along x y z h k = ⊎_elim (λ e. absurd (both (either (less x y)) e)) (λ e. e) (either (less z x))
    where
      both : (less x y ≡ true) ⊎ (less x y ≡ false) → less z x ≡ true → ⊥
      both (inl u) e = let w = o.along z x y e u in cc
      both (inr u) e = let w = ap (λ v. less z v) (o.total x y u h) in cc

  pub less_after : (x y : X) → less x y ≡ false → (x ≡ y → ⊥) → less y x ≡ true
  less_after x y h apart = ⊎_elim (λ e. e) (λ e. absurd (apart (o.total x y h e))) (either (less y x))
