-- The summaries of a code, and its race pairs, are the only ones.
use Rattle.std.proofs.Common.{◌≡◌, ℕ, zero, suc, ◌+◌, ◌||◌, Bool, true, false, List, [], ◌∷◌, length, refl, sym, ap, ◌∙◌, subst, inl, inr, arith}
use Rattle.std.specs.Prelude.{◌↔◌, slice_get, Some}
use Rattle.std.specs.List.{list_all, Contains}
use Rattle.flow_code.specs.declared.code.Code.{Code}
use Rattle.facts.specs.declared.locks.Guarded.{Guarded}
use Rattle.facts.specs.declared.locks.Held.{Held}
use Rattle.facts.specs.declared.locks.Minus.{Minus}
use Rattle.facts.specs.declared.locks.Minus.TheVariants.{All, Listed}
use Rattle.facts.specs.declared.locks.RelLocks.{RelLocks}
use Rattle.facts.specs.declared.locks.Summary.{Summary}
use Rattle.facts.specs.declared.pair.Pair.{Pair}
use Rattle.facts.specs.Locks.{held_ascend, minus_ascends, ascends, MinusBelow, Below, Points, PointsBelow}
use Rattle.facts.specs.Pairs.{pair_less, pairs_ascend, ArePairs}
use Rattle.facts.specs.PointsTo.{Tables}
use Rattle.facts.specs.Summaries.{ListsKnown, AllListsKnown, AreGreatest, in_order, guarded_less, guarded_ascend, IsSummary, AreSummaries}
use Rattle.profiles.proofs.Ascending as ascending
use Rattle.profiles.proofs.Ascending.{and_left, and_right}
use Rattle.facts.proofs.HeldSets.{one_plus}
use Rattle.facts.proofs.Orders.{guarded_irr, guarded_trans, pair_irr, pair_trans}
use Rattle.facts.proofs.PathSets.{one_paths}

-- ---- locks that are below each other

one_minus : (m n : Minus) → MinusBelow m n → MinusBelow n m → minus_ascends m ≡ true → minus_ascends n ≡ true → m ≡ n
one_minus All All f g a b = refl
one_minus All (Listed ys) f g a b = absurd g
one_minus (Listed xs) All f g a b = absurd f
one_minus (Listed xs) (Listed ys) f g a b = ap Listed (one_paths xs ys a b g f)

pub one_locks : (l m : RelLocks) → Below l m → Below m l → ascends l ≡ true → ascends m ≡ true → l ≡ m
one_locks l m f g a b =
    both (one_plus l.plus m.plus (and_left (held_ascend l.plus) (minus_ascends l.minus) a) (and_left (held_ascend m.plus) (minus_ascends m.minus) b) f.plus g.plus)
    (one_minus l.minus m.minus f.minus g.minus (and_right (held_ascend l.plus) (minus_ascends l.minus) a) (and_right (held_ascend m.plus) (minus_ascends m.minus) b))
  where
    both : l.plus ≡ m.plus → l.minus ≡ m.minus → l ≡ m
    both e d = ap (λ x. record { plus = x; minus = l.minus }) e ∙ ap (λ x. record { plus = m.plus; minus = x }) d

-- ---- points

one_rows : (ls ms : List RelLocks) → length ls ≡ length ms → ((k : ℕ) (l m : RelLocks) → slice_get ls k ≡ Some l → slice_get ms k ≡ Some m → Below l m) → ((k : ℕ) (l m : RelLocks) → slice_get ms k ≡ Some l → slice_get ls k ≡ Some m → Below l m) → list_all ascends ls ≡ true → list_all ascends ms ≡ true → ls ≡ ms
one_rows [] [] e f g a b = refl
one_rows [] (m ∷ ms) e f g a b = absurd (omega (arith, e))
one_rows (l ∷ ls) [] e f g a b = absurd (omega (arith, e))
one_rows (l ∷ ls) (m ∷ ms) e f g a b =
    let h : l ≡ m = one_locks l m (f zero l m refl refl) (g zero m l refl refl) (and_left (ascends l) (list_all ascends ls) a) (and_left (ascends m) (list_all ascends ms) b) in
    let t : ls ≡ ms = one_rows ls ms (omega (arith, e)) (λ k x y p q. f (suc k) x y p q) (λ k x y p q. g (suc k) x y p q) (and_right (ascends l) (list_all ascends ls) a) (and_right (ascends m) (list_all ascends ms) b) in
    ap (λ x. x ∷ ls) h ∙ ap (λ xs. m ∷ xs) t

one_points : (x y : Points) → length x.before ≡ length y.before → PointsBelow x y → PointsBelow y x → in_order x ≡ true → in_order y ≡ true → x ≡ y
one_points x y e f g a b =
    both (one_rows x.before y.before e f.before g.before (and_left (list_all ascends x.before) (ascends x.exit) a) (and_left (list_all ascends y.before) (ascends y.exit) b))
    (one_locks x.exit y.exit f.exit g.exit (and_right (list_all ascends x.before) (ascends x.exit) a) (and_right (list_all ascends y.before) (ascends y.exit) b))
  where
    both : x.before ≡ y.before → x.exit ≡ y.exit → x ≡ y
    both d c = ap (λ z. record { before = z; exit = x.exit }) d ∙ ap (λ z. record { before = y.before; exit = z }) c

-- the points of all functions
one_all : (xs ys : List Points) → length xs ≡ length ys → ((f : ℕ) (x y : Points) → slice_get xs f ≡ Some x → slice_get ys f ≡ Some y → (length x.before ≡ length y.before) × PointsBelow x y × PointsBelow y x) → list_all in_order xs ≡ true → list_all in_order ys ≡ true → xs ≡ ys
one_all [] [] e f a b = refl
one_all [] (y ∷ ys) e f a b = absurd (omega (arith, e))
one_all (x ∷ xs) [] e f a b = absurd (omega (arith, e))
one_all (x ∷ xs) (y ∷ ys) e f a b =
    let p = f zero x y refl refl in
    let h : x ≡ y = one_points x y p.0 p.1 p.2 (and_left (in_order x) (list_all in_order xs) a) (and_left (in_order y) (list_all in_order ys) b) in
    let t : xs ≡ ys = one_all xs ys (omega (arith, e)) (λ k v w i j. f (suc k) v w i j) (and_right (in_order x) (list_all in_order xs) a) (and_right (in_order y) (list_all in_order ys) b) in
    ap (λ z. z ∷ xs) h ∙ ap (λ zs. y ∷ zs) t

-- an item of one list has one beside it in a list of the same length
there : {X Y : Type 0} (xs : List X) (ys : List Y) (k : ℕ) (x : X) → length xs ≡ length ys → slice_get xs k ≡ Some x → (y : Y) × (slice_get ys k ≡ Some y)
there [] ys k x e h = absurd (cc h)
there (z ∷ xs) [] k x e h = absurd (omega (arith, e))
there (z ∷ xs) (y ∷ ys) zero x e h = (y, refl)
there (z ∷ xs) (y ∷ ys) (suc k) x e h = there xs ys k x (omega (arith, e)) h

pub one_greatest : (code : Code) (tops : List (List Held)) (xs ys : List Points) → length tops ≡ length code.functions → AreGreatest code tops xs → AreGreatest code tops ys → xs ≡ ys
one_greatest code tops xs ys n g h =
    one_all xs ys (g.solves.long ∙ sym h.solves.long)
    (λ f x y i j.
    let fn = there xs code.functions f x g.solves.long i in
    let top = there code.functions tops f fn.0 (sym n) fn.1 in
    let s = g.solves.each f fn.0 top.0 x fn.1 top.1 i in
    let t = h.solves.each f fn.0 top.0 y fn.1 top.1 j in
    (s.long ∙ sym t.long, h.most xs g.solves f y x j i, g.most ys h.solves f x y i j))
    g.ordered h.ordered

-- ---- the locks that functions know

one_tops_from : (code : Code) (n : ℕ) (ps qs : List (List Held)) → length ps ≡ length qs → ((f : ℕ) (xs : List Held) → slice_get ps f ≡ Some xs → ListsKnown code (n + f) xs) → ((f : ℕ) (xs : List Held) → slice_get qs f ≡ Some xs → ListsKnown code (n + f) xs) → ps ≡ qs
one_tops_from code n [] [] e f g = refl
one_tops_from code n [] (q ∷ qs) e f g = absurd (omega (arith, e))
one_tops_from code n (p ∷ ps) [] e f g = absurd (omega (arith, e))
one_tops_from code n (p ∷ ps) (q ∷ qs) e f g =
    let a = f zero p refl in
    let b = g zero q refl in
    let h : p ≡ q = one_plus p q a.ascending b.ascending (λ z i. (b.of z).1 ((a.of z).0 i)) (λ z i. (a.of z).1 ((b.of z).0 i)) in
    let step : (k : ℕ) → n + suc k ≡ suc n + k = λ k. omega arith in
    let t : ps ≡ qs = one_tops_from code (suc n) ps qs (omega (arith, e)) (λ k xs i. subst (λ m. ListsKnown code m xs) (step k) (f (suc k) xs i)) (λ k xs i. subst (λ m. ListsKnown code m xs) (step k) (g (suc k) xs i)) in
    ap (λ z. z ∷ ps) h ∙ ap (λ zs. q ∷ zs) t

one_tops : (code : Code) (ps qs : List (List Held)) → AllListsKnown code ps → AllListsKnown code qs → ps ≡ qs
one_tops code ps qs a b = let first : (k : ℕ) → k ≡ 0 + k = λ k. omega arith in one_tops_from code 0 ps qs (a.0 ∙ sym b.0) (λ f xs i. subst (λ m. ListsKnown code m xs) (first f) (a.1 f xs i)) (λ f xs i. subst (λ m. ListsKnown code m xs) (first f) (b.1 f xs i))

-- ---- guarded accesses

guarded_up : (xs : List Guarded) → guarded_ascend xs ≡ true → ascending.Up guarded_less guarded_irr guarded_trans xs
guarded_up [] e = tt
guarded_up (a ∷ []) e = (tt, tt)
guarded_up (a ∷ b ∷ xs) e =
    let u = guarded_up (b ∷ xs) (and_right (guarded_less a b) (guarded_ascend (b ∷ xs)) e) in
    let l = and_left (guarded_less a b) (guarded_ascend (b ∷ xs)) e in
    ((l, ascending.before_less guarded_less guarded_irr guarded_trans a b xs l u.0), u)

one_guarded : (Set : Guarded → Type 0) (xs ys : List Guarded) → guarded_ascend xs ≡ true → guarded_ascend ys ≡ true → ((a : Guarded) → Contains xs a ↔ Set a) → ((a : Guarded) → Contains ys a ↔ Set a) → xs ≡ ys
one_guarded Set xs ys a b f g =
    ascending.one_list guarded_less guarded_irr guarded_trans xs ys (guarded_up xs a) (guarded_up ys b)
    (λ z i. ascending.In_at guarded_less guarded_irr guarded_trans ys z ((g z).1 ((f z).0 (ascending.at_In guarded_less guarded_irr guarded_trans xs z i))))
    (λ z i. ascending.In_at guarded_less guarded_irr guarded_trans xs z ((f z).1 ((g z).0 (ascending.at_In guarded_less guarded_irr guarded_trans ys z i))))

-- ---- summaries

one_summary : (code : Code) (xs : List Points) (f : ℕ) (x : Points) (s t : Summary) → IsSummary code xs f x s → IsSummary code xs f x t → s ≡ t
one_summary code xs f x s t a b = both (a.exit ∙ sym b.exit) (one_guarded _ s.guarded t.guarded a.ascending b.ascending a.of b.of)
  where
    both : s.exit ≡ t.exit → s.guarded ≡ t.guarded → s ≡ t
    both d e = ap (λ z. record { exit = z; guarded = s.guarded }) d ∙ ap (λ z. record { exit = t.exit; guarded = z }) e

by_items : {X : Type 0} (xs ys : List X) → length xs ≡ length ys → ((k : ℕ) (x y : X) → slice_get xs k ≡ Some x → slice_get ys k ≡ Some y → x ≡ y) → xs ≡ ys
by_items [] [] e h = refl
by_items [] (y ∷ ys) e h = absurd (omega (arith, e))
by_items (x ∷ xs) [] e h = absurd (omega (arith, e))
by_items (x ∷ xs) (y ∷ ys) e h = ap (λ z. z ∷ xs) (h zero x y refl refl) ∙ ap (λ zs. y ∷ zs) (by_items xs ys (omega (arith, e)) (λ k v w i j. h (suc k) v w i j))

over_points : (code : Code) (xs ys : List Points) (ss ts : List Summary) → xs ≡ ys → length xs ≡ length code.functions → length ss ≡ length code.functions → length ts ≡ length code.functions → ((f : ℕ) (x : Points) (s : Summary) → slice_get xs f ≡ Some x → slice_get ss f ≡ Some s → IsSummary code xs f x s) → ((f : ℕ) (x : Points) (s : Summary) → slice_get ys f ≡ Some x → slice_get ts f ≡ Some s → IsSummary code ys f x s) → ss ≡ ts
over_points code xs ys ss ts same n m l f g =
    by_items ss ts (m ∙ sym l) (λ k s t i j. let x = there ss xs k s (m ∙ sym n) i in one_summary code xs k x.0 s t (f k x.0 s x.1 i) (subst (λ zs. IsSummary code zs k x.0 t) (sym same) (g k x.0 t (subst (λ zs. slice_get zs k ≡ Some x.0) same x.1) j)))

-- the summaries of a code are the only ones
pub one_answer : (code : Code) (ss ts : List Summary) → AreSummaries code ss → AreSummaries code ts → ss ≡ ts
one_answer code ss ts a b =
    let tops : b.tops ≡ a.tops = one_tops code b.tops a.tops b.known a.known in
    let points : a.points ≡ b.points = one_greatest code a.tops a.points b.points a.known.0 a.greatest (subst (λ z. AreGreatest code z b.points) tops b.greatest) in
    over_points code a.points b.points ss ts points a.greatest.solves.long a.long b.long a.each b.each

-- ---- race pairs

pairs_up : (vs : List Pair) → pairs_ascend vs ≡ true → ascending.Up pair_less pair_irr pair_trans vs
pairs_up [] e = tt
pairs_up (v ∷ []) e = (tt, tt)
pairs_up (v ∷ w ∷ vs) e =
    let u = pairs_up (w ∷ vs) (and_right (pair_less v w) (pairs_ascend (w ∷ vs)) e) in
    let l = and_left (pair_less v w) (pairs_ascend (w ∷ vs)) e in
    ((l, ascending.before_less pair_less pair_irr pair_trans v w vs l u.0), u)

pairs_within : (code : Code) (t : Tables) (ss : List Summary) (vs ws : List Pair) → ArePairs code t ss vs → ArePairs code t ss ws → (v : Pair) → ascending.In pair_less pair_irr pair_trans v vs → ascending.In pair_less pair_irr pair_trans v ws
pairs_within code t ss vs ws a b v i =
    let c = ascending.at_In pair_less pair_irr pair_trans vs v i in
    ascending.In_at pair_less pair_irr pair_trans ws v (b.all v.place v.first v.second (a.race v c) (a.ordered v c))

-- the race pairs of a code are the only ones
pub one_list : (code : Code) (t : Tables) (ss : List Summary) (vs ws : List Pair) → ArePairs code t ss vs → ArePairs code t ss ws → vs ≡ ws
one_list code t ss vs ws a b = ascending.one_list pair_less pair_irr pair_trans vs ws (pairs_up vs a.ascending) (pairs_up ws b.ascending) (pairs_within code t ss vs ws a b) (pairs_within code t ss ws vs b a)
