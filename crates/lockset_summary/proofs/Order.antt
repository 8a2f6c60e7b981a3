-- The order of guarded accesses is total and transitive.
use Rattle.std.proofs.Common.{◌≡◌, ℕ, Bool, true, false, ◌&&◌, ◌||◌, List, [], ◌∷◌, refl, sym, ap, ap₂, ◌∙◌, subst, arith, ◌⊎◌, inl, inr, ⊎_elim, nat_lt, ◌==◌}
use Rattle.std.proofs.lemmas.Bool.{and_parts, and_from, or_parts, and_cases}
use Rattle.facts.specs.declared.locks.Held.{Held}
use Rattle.facts.specs.declared.locks.Minus.{Minus}
use Rattle.facts.specs.declared.locks.Minus.TheVariants.{All, Listed}
use Rattle.facts.specs.declared.locks.RelLocks.{RelLocks}
use Rattle.facts.specs.declared.locks.Guarded.{Guarded}
use Rattle.facts.specs.Sets as sets
use Rattle.facts.specs.Sets.{Orders}
use Rattle.facts.specs.Summaries.{plus_less, plus_same, minus_less, locks_less, locks_of, first_less, number_of, guarded_less}
use Rattle.lockset_summary.specs.Exits.{minus_same, locks_same, all_same}
use Rattle.facts.proofs.TotalOrders.{orders_paths, orders_held}
use Rattle.lockset_summary.proofs.Sets.{or_first, or_second, less_other, all_same_eq, all_same_self}

-- ---- lists

module _ {X : Type 0} {less same : X → X → Bool} (o : Orders less same) where
  list_other : (xs ys : List X) → sets.list_less less same xs ys ≡ false → (xs ≡ ys) ⊎ (sets.list_less less same ys xs ≡ true)
  list_other [] [] h = inl refl
  list_other [] (y ∷ ys) h = cc
  list_other (x ∷ xs) [] h = inr refl
  list_other (x ∷ xs) (y ∷ ys) h = go (and_cases (same x y) (sets.list_less less same xs ys) a.1) (same x y) refl (list_other xs ys)
    where
      a : (less x y ≡ false) × ((same x y && sets.list_less less same xs ys) ≡ false)
      a = or_parts (less x y) (same x y && sets.list_less less same xs ys) h

      rest : x ≡ y → (sets.list_less less same xs ys ≡ false → (xs ≡ ys) ⊎ (sets.list_less less same ys xs ≡ true)) → sets.list_less less same xs ys ≡ false → (x ∷ xs ≡ y ∷ ys) ⊎ ((less y x || (same y x && sets.list_less less same ys xs)) ≡ true)
      rest e f l = ⊎_elim
          (λ (z : xs ≡ ys). inl (ap₂ (λ a b. a ∷ b) e z))
          (λ (z : sets.list_less less same ys xs ≡ true). inr (or_second (less y x) (same y x && sets.list_less less same ys xs) (and_from (same y x) (sets.list_less less same ys xs) (subst (λ w. same w x ≡ true) e (o.same_self x)) z)))
          (f l)

      go : (same x y ≡ false) ⊎ (sets.list_less less same xs ys ≡ false) → (b : Bool) → same x y ≡ b → (sets.list_less less same xs ys ≡ false → (xs ≡ ys) ⊎ (sets.list_less less same ys xs ≡ true)) → (x ∷ xs ≡ y ∷ ys) ⊎ ((less y x || (same y x && sets.list_less less same ys xs)) ≡ true)
      go (inl z) b e f = inr (or_first (less y x) (same y x && sets.list_less less same ys xs) (less_other o x y a.0 z))
      go (inr z) true e f = rest (o.same_is x y e) f z
      go (inr z) false e f = inr (or_first (less y x) (same y x && sets.list_less less same ys xs) (less_other o x y a.0 e))

-- ---- locks

minus_other : (m n : Minus) → minus_less m n ≡ false → (m ≡ n) ⊎ (minus_less n m ≡ true)
minus_other All All h = inl refl
minus_other All (Listed qs) h = inr refl
minus_other (Listed ps) All h = cc
minus_other (Listed ps) (Listed qs) h = ⊎_elim (λ e. inl (ap Listed e)) (λ l. inr l) (list_other orders_paths ps qs h)

locks_other : (l m : RelLocks) → locks_less l m ≡ false → (l ≡ m) ⊎ (locks_less m l ≡ true)
locks_other l m h = ⊎_elim same (λ (z : plus_less m.plus l.plus ≡ true). inr (or_first (plus_less m.plus l.plus) (plus_same m.plus l.plus && minus_less m.minus l.minus) z)) (list_other orders_held l.plus m.plus o.0)
  where
    o : (plus_less l.plus m.plus ≡ false) × ((plus_same l.plus m.plus && minus_less l.minus m.minus) ≡ false)
    o = or_parts (plus_less l.plus m.plus) (plus_same l.plus m.plus && minus_less l.minus m.minus) h

    both : (p q : List Held) (m n : Minus) → p ≡ q → m ≡ n → ◌≡◌ {A = RelLocks} (record { plus = p; minus = m }) (record { plus = q; minus = n })
    both p q m n e g = ap₂ {C = RelLocks} (λ a b. record { plus = a; minus = b }) e g

    same : l.plus ≡ m.plus → (l ≡ m) ⊎ (locks_less m l ≡ true)
    same e =
        let s : plus_same l.plus m.plus ≡ true = subst (λ z. plus_same l.plus z ≡ true) e (all_same_self orders_held l.plus) in
        let n : minus_less l.minus m.minus ≡ false = ap (λ b. b && minus_less l.minus m.minus) (sym s) ∙ o.1 in
        ⊎_elim
        (λ (z : l.minus ≡ m.minus). inl (both l.plus m.plus l.minus m.minus e z))
        (λ (z : minus_less m.minus l.minus ≡ true). inr (or_second (plus_less m.plus l.plus) (plus_same m.plus l.plus && minus_less m.minus l.minus) (and_from (plus_same m.plus l.plus) (minus_less m.minus l.minus) (subst (λ y. plus_same y l.plus ≡ true) e (all_same_self orders_held l.plus)) z)))
        (minus_other l.minus m.minus n)

-- ---- accesses

first_other : (Q : Type 0) (x y : ℕ) (b c : Bool) → first_less x y b ≡ false → (b ≡ false → Q ⊎ (c ≡ true)) → ((x ≡ y) × Q) ⊎ (first_less y x c ≡ true)
first_other Q x y b c h f = go (x == y) refl
  where
    o : (nat_lt x y ≡ false) × (((x == y) && b) ≡ false)
    o = or_parts (nat_lt x y) ((x == y) && b) h

    more : nat_lt x y ≡ false → (x == y) ≡ false → nat_lt y x ≡ true
    more l e = grind (arith, l, e)

    eq : (m n : ℕ) → (m == n) ≡ true → m ≡ n
    eq m n g = grind (arith, g)

    back : (m n : ℕ) → m ≡ n → (n == m) ≡ true
    back m n g = grind (arith, g)

    go : (t : Bool) → (x == y) ≡ t → ((x ≡ y) × Q) ⊎ (first_less y x c ≡ true)
    go true e = ⊎_elim (λ q. inl (eq x y e, q)) (λ (z : c ≡ true). inr (or_second (nat_lt y x) ((y == x) && c) (and_from (y == x) c (back x y (eq x y e)) z))) (f (ap (λ t. t && b) (sym e) ∙ o.1))
    go false e = inr (or_first (nat_lt y x) ((y == x) && c) (more o.0 e))

number_same : (a b : Bool) → number_of a ≡ number_of b → a ≡ b
number_same true true h = refl
number_same true false h = cc
number_same false true h = cc
number_same false false h = refl

guarded_same : (a b : Guarded) → a.function ≡ b.function → a.instr ≡ b.instr → a.store ≡ b.store → locks_of a ≡ locks_of b → a ≡ b
guarded_same a b e f g h = go a.function b.function a.instr b.instr a.store b.store (locks_of a) (locks_of b) e f g h
  where
    made : ℕ → ℕ → Bool → RelLocks → Guarded
    made f k s l = record { function = f; instr = k; store = s; plus = l.plus; minus = l.minus }

    go : (f g k j : ℕ) (s t : Bool) (l m : RelLocks) → f ≡ g → k ≡ j → s ≡ t → l ≡ m → ◌≡◌ {A = Guarded} (record { function = f; instr = k; store = s; plus = l.plus; minus = l.minus }) (record { function = g; instr = j; store = t; plus = m.plus; minus = m.minus })
    go f g k j s t l m e h i d = subst (λ z. ◌≡◌ {A = Guarded} (record { function = f; instr = k; store = s; plus = l.plus; minus = l.minus }) (record { function = z; instr = j; store = t; plus = m.plus; minus = m.minus })) e
        (subst (λ z. ◌≡◌ {A = Guarded} (record { function = f; instr = k; store = s; plus = l.plus; minus = l.minus }) (record { function = f; instr = z; store = t; plus = m.plus; minus = m.minus })) h
        (subst (λ z. ◌≡◌ {A = Guarded} (record { function = f; instr = k; store = s; plus = l.plus; minus = l.minus }) (record { function = f; instr = k; store = z; plus = m.plus; minus = m.minus })) i
        (ap {B = Guarded} (λ (z : RelLocks). record { function = f; instr = k; store = s; plus = z.plus; minus = z.minus }) d)))

pub guarded_other : (a b : Guarded) → guarded_less a b ≡ false → (a ≡ b) ⊎ (guarded_less b a ≡ true)
guarded_other a b h = ⊎_elim
    (λ (z : (a.function ≡ b.function) × ((a.instr ≡ b.instr) × ((number_of a.store ≡ number_of b.store) × (locks_of a ≡ locks_of b)))). inl (guarded_same a b z.0 z.1.0 (number_same a.store b.store z.1.1.0) z.1.1.1))
    (λ z. inr z)
    (first_other ((a.instr ≡ b.instr) × ((number_of a.store ≡ number_of b.store) × (locks_of a ≡ locks_of b))) a.function b.function _ _ h
    (λ i. first_other ((number_of a.store ≡ number_of b.store) × (locks_of a ≡ locks_of b)) a.instr b.instr _ _ i
    (λ j. first_other (locks_of a ≡ locks_of b) (number_of a.store) (number_of b.store) _ _ j (locks_other (locks_of a) (locks_of b)))))

-- ---- exits

same_minus : (m n : Minus) → minus_same m n ≡ true → m ≡ n
same_minus All All h = refl
same_minus All (Listed qs) h = cc
same_minus (Listed ps) All h = cc
same_minus (Listed ps) (Listed qs) h = ap Listed (all_same_eq orders_paths ps qs h)

minus_itself : (m : Minus) → minus_same m m ≡ true
minus_itself All = refl
minus_itself (Listed ps) = all_same_self orders_paths ps

same_locks : (l m : RelLocks) → locks_same l m ≡ true → l ≡ m
same_locks l m h = let e = and_parts (plus_same l.plus m.plus) (minus_same l.minus m.minus) h in both l.plus m.plus l.minus m.minus (all_same_eq orders_held l.plus m.plus e.0) (same_minus l.minus m.minus e.1)
  where
    both : (p q : List Held) (m n : Minus) → p ≡ q → m ≡ n → ◌≡◌ {A = RelLocks} (record { plus = p; minus = m }) (record { plus = q; minus = n })
    both p q m n e g = ap₂ {C = RelLocks} (λ a b. record { plus = a; minus = b }) e g

pub same_exits : (ls ms : List RelLocks) → all_same ls ms ≡ true → ls ≡ ms
same_exits [] [] h = refl
same_exits [] (m ∷ ms) h = cc
same_exits (l ∷ ls) [] h = cc
same_exits (l ∷ ls) (m ∷ ms) h = let e = and_parts (locks_same l m) (all_same ls ms) h in ap₂ (λ a b. a ∷ b) (same_locks l m e.0) (same_exits ls ms e.1)

pub exits_itself : (ls : List RelLocks) → all_same ls ls ≡ true
exits_itself [] = refl
exits_itself (l ∷ ls) = and_from (locks_same l l) (all_same ls ls) (and_from (plus_same l.plus l.plus) (minus_same l.minus l.minus) (all_same_self orders_held l.plus) (minus_itself l.minus)) (exits_itself ls)
