-- What stands before instructions, how long it is, and where it comes to stand.
use Rattle.std.proofs.Common.{◌≡◌, ℕ, zero, suc, ◌+◌, ◌-◌, ◌<◌, ◌≤◌, ◌&&◌, Bool, true, false, List, [], ◌∷◌, ◌++◌, length, take, map, get_or, refl, sym, ap, ◌∙◌, arith, Some, length-append, ◌⊎◌, inl, inr}
use Rattle.std.specs.Prelude.{slice_get, slice_index_or, if◌then◌else◌, nat_lt, nat_le, ◌==◌, reverse}
use Rattle.std.proofs.lemmas.Bool.Decides.{nat_tests}
use Rattle.std.proofs.lemmas.Bool.{cases_lt}
use Rattle.std.proofs.lemmas.List.{length-reverse}
use Rattle.std.proofs.lemmas.Option.{same_Some}
use Rattle.flow_code.specs.declared.act.Act.{Act}
use Rattle.flow_code.specs.declared.act.Act.TheVariants as act
use Rattle.flow_code.specs.declared.act.Instr.{Instr}
use Rattle.weak_code.specs.declared.stretch.Stretch.{Stretch}
use Rattle.weak_code.specs.Places.{numbers_from, covers, beginning, ending, covering, left, gives, takes, turned, before, place_from, place_of, act_or_mark, seat_of}
use Rattle.weaken.specs.Tables.{returns}
use Rattle.weaken.proofs.Nexts.{number_next, any_default, found}

-- ---- regions at an instruction

pub number_put : {X : Type 0} (p : X → Bool) (xs : List X) (i m : ℕ) (x : X) (old new : List ℕ) → slice_get xs i ≡ Some x → m ≡ i → old ≡ numbers_from 0 p (take i xs) → new ≡ (if p x then old ++ m ∷ [] else old) → new ≡ numbers_from 0 p (take (i + 1) xs)
number_put p xs i m x old new h n e f = number_next p xs i x old new h e (f ∙ ap (λ k. if p x then old ++ k ∷ [] else old) n)

pub number_put_at : {X : Type 0} (f : X → ℕ) (k : ℕ) (xs : List X) (i m a : ℕ) (x : X) (old new : List ℕ) → slice_get xs i ≡ Some x → m ≡ i → a ≡ f x → old ≡ numbers_from 0 (λ s. f s == k) (take i xs) → new ≡ (if a == k then old ++ m ∷ [] else old) → new ≡ numbers_from 0 (λ s. f s == k) (take (i + 1) xs)
number_put_at f k xs i m a x old new h n g e p = number_put (λ s. f s == k) xs i m x old new h n e (p ∙ ap (λ b. if b == k then old ++ m ∷ [] else old) g)

-- a return leaves the regions that cover it
pub left-is : (ss : List Stretch) (k : ℕ) (a : Act) → left ss k a ≡ (if returns a then covering ss k else [])
left-is ss k (act.Compute into w) = refl
left-is ss k (act.Alloc into site size) = refl
left-is ss k (act.LoadCell into through) = refl
left-is ss k (act.StoreCell through from) = refl
left-is ss k act.Mark = refl
left-is ss k (act.Call g arguments into) = refl
left-is ss k (act.Library c arguments into) = refl
left-is ss k (act.Jump to) = refl
left-is ss k (act.Branch on then_at else_at) = refl
left-is ss k (act.Return value) = refl
left-is ss k (act.Take r) = refl
left-is ss k (act.Give r) = refl

pub left_next : (ss : List Stretch) (i m k : ℕ) (s : Stretch) (a : Act) (old new : List ℕ) → slice_get ss i ≡ Some s → m ≡ i → old ≡ left (take i ss) k a → new ≡ (if returns a && covers k s then old ++ m ∷ [] else old) → new ≡ left (take (i + 1) ss) k a
left_next ss i m k s a old new h n e f = go (returns a) (e ∙ left-is (take i ss) k a) f ∙ sym (left-is (take (i + 1) ss) k a)
  where
    go : (b : Bool) → old ≡ (if b then covering (take i ss) k else []) → new ≡ (if b && covers k s then old ++ m ∷ [] else old) → new ≡ (if b then covering (take (i + 1) ss) k else [])
    go true e f = number_put (covers k) ss i m s old new h n e f
    go false e f = f ∙ e

pub left_none : (k : ℕ) (a : Act) → [] ≡ left [] k a
left_none k a = go (returns a) ∙ sym (left-is [] k a)
  where
    go : (b : Bool) → covering [] k ≡ (if b then covering [] k else [])
    go true = refl
    go false = refl

-- one more instruction at which a region is left
pub returns_next : {X : Type 0} (r : Bool) (first at k : ℕ) (x : X) (old mid new : List X) → first ≤ at → mid ≡ (if r && (nat_le first k && nat_lt k at) then old ++ x ∷ [] else old) → new ≡ (if r && (at == k) then mid ++ x ∷ [] else mid) → new ≡ (if r && (nat_le first k && nat_lt k (at + 1)) then old ++ x ∷ [] else old)
returns_next false first at k x old mid new le e f = f ∙ e
returns_next true first at k x old mid new le e f = go (at == k) refl
  where
    go : (b : Bool) → (at == k) ≡ b → new ≡ (if nat_le first k && nat_lt k (at + 1) then old ++ x ∷ [] else old)
    go true t =
        let n : at ≡ k = grind (arith, nat_tests, t) in
        let was : (nat_le first k && nat_lt k at) ≡ false = grind (arith, nat_tests, n) in
        let now : (nat_le first k && nat_lt k (at + 1)) ≡ true = grind (arith, nat_tests, n, le) in
        f ∙ ap (λ b. if b then mid ++ x ∷ [] else mid) t ∙ ap (λ l. l ++ x ∷ []) (e ∙ ap (λ b. if b then old ++ x ∷ [] else old) was) ∙ sym (ap (λ b. if b then old ++ x ∷ [] else old) now)
    go false t =
        let same : nat_lt k at ≡ nat_lt k (at + 1) = grind (arith, nat_tests, t) in
        f ∙ ap (λ b. if b then mid ++ x ∷ [] else mid) t ∙ e ∙ ap (λ b. if nat_le first k && b then old ++ x ∷ [] else old) same

-- all of them
pub returns_all : {X : Type 0} (r : Bool) (first last end at k : ℕ) (x : X) (old new : List X) → nat_lt k end ≡ nat_le k last → end ≤ at → (first ≤ end → at ≤ end) → (end < first → at ≡ first) → new ≡ (if r && (nat_le first k && nat_lt k at) then old ++ x ∷ [] else old) → new ≡ (if r && (nat_le first k && nat_le k last) then old ++ x ∷ [] else old)
returns_all r first last end at k x old new e le within late f = f ∙ ap (λ b. if r && b then old ++ x ∷ [] else old) (go (cases_lt end first))
  where
    go : (end < first) ⊎ (first ≤ end) → (nat_le first k && nat_lt k at) ≡ (nat_le first k && nat_le k last)
    go (inr g) = let n : at ≡ end = omega (arith, within g, le) in ap (λ m. nat_le first k && nat_lt k m) n ∙ ap (λ b. nat_le first k && b) e
    go (inl l) = both (cases_lt k first)
      where
        both : (k < first) ⊎ (first ≤ k) → (nat_le first k && nat_lt k at) ≡ (nat_le first k && nat_le k last)
        both (inl m) = let z : nat_le first k ≡ false = grind (arith, nat_tests, m) in ap (λ b. b && nat_lt k at) z ∙ sym (ap (λ b. b && nat_le k last) z)
        both (inr m) =
            let n : at ≡ first = late l in
            let u : nat_lt k at ≡ false = grind (arith, nat_tests, n, m) in
            let v : nat_lt k end ≡ false = grind (arith, nat_tests, l, m) in
            ap (λ b. nat_le first k && b) (u ∙ sym v ∙ e)

-- ---- lengths

length_map : {X Y : Type 0} (f : X → Y) (xs : List X) → length (map f xs) ≡ length xs
length_map f [] = refl
length_map f (x ∷ xs) = ap suc (length_map f xs)

pub length-gives : (rs : List ℕ) → length (gives rs) ≡ length rs
length-gives rs = length_map (λ r. act.Give r) (reverse rs) ∙ length-reverse rs

pub length-takes : (rs : List ℕ) → length (takes rs) ≡ length rs
length-takes rs = length_map (λ r. act.Take r) rs

pub length-turned : (ss : List Stretch) (k : ℕ) → length (turned ss k) ≡ length (ending ss k) + length (beginning ss k)
length-turned ss k = let a = length-gives (ending ss k) in let b = length-takes (beginning ss k) in length-append (gives (ending ss k)) (takes (beginning ss k)) ∙ ap (λ n. n + length (takes (beginning ss k))) a ∙ ap (λ n. length (ending ss k) + n) b

pub length-before : (ss : List Stretch) (k : ℕ) (a : Act) → length (before ss k a) ≡ length (ending ss k) + length (beginning ss k) + length (left ss k a)
length-before ss k a = length-append (turned ss k) (gives (left ss k a)) ∙ ap (λ n. n + length (gives (left ss k a))) (length-turned ss k) ∙ ap (λ n. length (ending ss k) + length (beginning ss k) + n) (length-gives (left ss k a))

-- ---- places

pub place_zero : (ss : List Stretch) (n : ℕ) (is : List Instr) → place_from ss n is 0 ≡ 0
place_zero ss n [] = refl
place_zero ss n (i ∷ is) = refl

pub place_next : (ss : List Stretch) (n : ℕ) (is : List Instr) (i : ℕ) (x : Instr) → slice_get is i ≡ Some x → place_from ss n is (i + 1) ≡ place_from ss n is i + (length (before ss (n + i) x.act) + 1)
place_next ss n [] i x h = cc
place_next ss n (y ∷ ys) zero x h =
    let e : y ≡ x = same_Some y x h in
    let z : length (before ss n y.act) + 1 + place_from ss (n + 1) ys 0 ≡ 0 + (length (before ss n y.act) + 1) = omega (arith, place_zero ss (n + 1) ys) in
    let m : n ≡ n + 0 = omega arith in
    z ∙ ap (λ i. 0 + (length (before ss n i.act) + 1)) e ∙ ap (λ k. 0 + (length (before ss k x.act) + 1)) m
place_next ss n (y ∷ ys) (suc i) x h =
    let e : suc i + 1 ≡ suc (i + 1) = omega arith in
    let m : (n + 1) + i ≡ n + suc i = omega arith in
    let r = place_next ss (n + 1) ys i x h in
    let s : length (before ss n y.act) + 1 + (place_from ss (n + 1) ys i + (length (before ss ((n + 1) + i) x.act) + 1)) ≡ (length (before ss n y.act) + 1 + place_from ss (n + 1) ys i) + (length (before ss ((n + 1) + i) x.act) + 1) = omega arith in
    ap (λ k. place_from ss n (y ∷ ys) k) e ∙ ap (λ k. length (before ss n y.act) + 1 + k) r ∙ s ∙ ap (λ k. (length (before ss n y.act) + 1 + place_from ss (n + 1) ys i) + (length (before ss k x.act) + 1)) m

-- what follows from the lengths that a loop adds
pub place_step : (ss : List Stretch) (is : List Instr) (i p q : ℕ) (x : Instr) (es bs ls : List ℕ) → slice_get is i ≡ Some x → es ≡ ending ss i → bs ≡ beginning ss i → ls ≡ left ss i x.act → p ≡ place_of ss is i → q ≡ p + (length es + length bs + length ls + 1) → q ≡ place_of ss is (i + 1)
place_step ss is i p q x es bs ls h e b l f g =
    let r = place_next ss 0 is i x h in
    let z : 0 + i ≡ i = omega arith in
    let r' : place_of ss is (i + 1) ≡ place_of ss is i + (length (before ss i x.act) + 1) = r ∙ ap (λ k. place_of ss is i + (length (before ss k x.act) + 1)) z in
    let t = length-before ss i x.act in
    let u = ap (λ (w : List ℕ). length w) e in
    let v = ap (λ (w : List ℕ). length w) b in
    let w = ap (λ (w : List ℕ). length w) l in
    omega (arith, r', t, u, v, w, f, g)

pub pushed : (xs : List ℕ) (x : ℕ) (f : ℕ → ℕ) (n k : ℕ) → length xs ≡ n → ((j : ℕ) → j < n → slice_index_or xs j 0 ≡ f j) → x ≡ f n → k < n + 1 → slice_index_or (xs ++ x ∷ []) k 0 ≡ f k
pushed [] x f n zero e h g lt = let z : n ≡ 0 = omega (arith, e) in g ∙ ap f z
pushed [] x f n (suc k) e h g lt = absurd (omega (arith, e))
pushed (y ∷ ys) x f n zero e h g lt = h 0 (omega (arith, e))
pushed (y ∷ ys) x f n (suc k) e h g lt = let m : length ys ≡ n - 1 = omega (arith, e) in let s : suc (n - 1) ≡ n = omega (arith, e) in pushed ys x (λ j. f (suc j)) (n - 1) k m (λ j l. h (suc j) (omega (arith, s))) (g ∙ ap f (sym s)) (omega (arith, s))

-- where an instruction itself stands, by the lengths before it
pub seat-is : (ss : List Stretch) (is : List Instr) (k p m n : ℕ) (i : Instr) (es bs ls : List ℕ) → slice_get is k ≡ Some i → es ≡ ending ss k → bs ≡ beginning ss k → ls ≡ left ss k i.act → p ≡ place_of ss is k → m ≡ length es + length bs + length ls → n ≡ p + m → n ≡ seat_of ss is k
seat-is ss is k p m n i es bs ls h e b l f g j =
    let t = length-before ss k i.act in
    let u = ap (λ (w : List ℕ). length w) e in
    let v = ap (λ (w : List ℕ). length w) b in
    let w = ap (λ (w : List ℕ). length w) l in
    let x : n ≡ place_of ss is k + length (before ss k i.act) = omega (arith, t, u, v, w, f, g, j) in
    x ∙ ap (λ o. place_of ss is k + length (before ss k (act_or_mark o))) (sym h)

-- ---- what tables tell

pub place_in : (ss : List Stretch) (is : List Instr) (ends begins lefts : List (List ℕ)) (k p q x y z : ℕ) (es bs ls : List ℕ) → k < length is → length ends ≡ length is → length begins ≡ length is → length lefts ≡ length is
    → get_or ends k [] ≡ ending ss k → get_or begins k [] ≡ beginning ss k → ((i : Instr) → slice_get is k ≡ Some i → get_or lefts k [] ≡ left ss k i.act)
    → es ≡ get_or ends k es → bs ≡ get_or begins k bs → ls ≡ get_or lefts k ls → x ≡ length es → y ≡ length bs → z ≡ length ls
    → p ≡ place_of ss is k → q ≡ p + (x + y + z + 1) → q ≡ place_of ss is (k + 1)
place_in ss is ends begins lefts k p q x y z es bs ls lt le lb ll re rb rl e b l ex by lz f g =
    let i = found is k lt in
    let re' : es ≡ ending ss k = e ∙ any_default ends k es [] (omega (arith, le, lt)) ∙ re in
    let rb' : bs ≡ beginning ss k = b ∙ any_default begins k bs [] (omega (arith, lb, lt)) ∙ rb in
    let rl' : ls ≡ left ss k i.0.act = l ∙ any_default lefts k ls [] (omega (arith, ll, lt)) ∙ rl i.0 i.1 in
    place_step ss is k p q i.0 es bs ls i.1 re' rb' rl' f (omega (arith, ex, by, lz, g))

pub seat_in : (ss : List Stretch) (is : List Instr) (ends begins lefts : List (List ℕ)) (places : List ℕ) (k turned' len before' p n : ℕ) (ls : List ℕ) → k < length is → length lefts ≡ length is → length places ≡ length is
    → get_or ends k [] ≡ ending ss k → get_or begins k [] ≡ beginning ss k → ((i : Instr) → slice_get is k ≡ Some i → get_or lefts k [] ≡ left ss k i.act) → get_or places k 0 ≡ place_of ss is k
    → turned' ≡ length (get_or ends k []) + length (get_or begins k []) → ls ≡ get_or lefts k ls → len ≡ length ls → before' ≡ turned' + len → p ≡ get_or places k p → n ≡ p + before' → n ≡ seat_of ss is k
seat_in ss is ends begins lefts places k turned' len before' p n ls lt ll lp re rb rl rp t l e b q g =
    let i = found is k lt in
    let rl' : ls ≡ left ss k i.0.act = l ∙ any_default lefts k ls [] (omega (arith, ll, lt)) ∙ rl i.0 i.1 in
    let rp' : p ≡ place_of ss is k = q ∙ any_default places k p 0 (omega (arith, lp, lt)) ∙ rp in
    seat-is ss is k p before' n i.0 (get_or ends k []) (get_or begins k []) ls i.1 re rb rl' rp' (omega (arith, t, e, b)) g
