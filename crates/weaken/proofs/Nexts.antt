-- What loops over a list have after one more item.
use Rattle.std.proofs.Common.{◌≡◌, ℕ, zero, suc, ◌+◌, ◌<◌, ◌≤◌, Bool, true, false, List, [], ◌∷◌, ◌++◌, length, take, drop, map, get_or, refl, sym, ap, ◌∙◌, subst, arith, Option, Some, None}
use Rattle.std.specs.Prelude.{slice_get, slice_index_or, if◌then◌else◌, filter, option_to_list, ◌||◌, Result, Ok, Err, IfOk, OnOk}
use Rattle.std.specs.List.{filter_map, list_any}
use Rattle.std.proofs.lemmas.Option.{same_Some}
use Rattle.std.proofs.lemmas.List.Elements.{filter-append, filter_map-append}
use Rattle.weak_code.specs.Places.{numbers_from}

pub taken : {X : Type 0} (xs : List X) (i : ℕ) (x : X) → slice_get xs i ≡ Some x → take (i + 1) xs ≡ take i xs ++ x ∷ []
taken [] i x h = cc
taken (y ∷ ys) zero x h = ap (λ z. z ∷ []) (same_Some y x h)
taken (y ∷ ys) (suc i) x h = let e : suc i + 1 ≡ suc (i + 1) = omega arith in ap (λ n. take n (y ∷ ys)) e ∙ ap (λ zs. y ∷ zs) (taken ys i x h)

pub take_all : {X : Type 0} (xs : List X) (i : ℕ) → length xs ≤ i → take i xs ≡ xs
take_all [] zero le = refl
take_all [] (suc i) le = refl
take_all (x ∷ xs) zero le = absurd (omega arith)
take_all (x ∷ xs) (suc i) le = ap (λ zs. x ∷ zs) (take_all xs i (omega arith))

pub dropped : {X : Type 0} (xs : List X) (i : ℕ) (x : X) → slice_get xs i ≡ Some x → drop i xs ≡ x ∷ drop (i + 1) xs
dropped [] i x h = cc
dropped (y ∷ ys) zero x h = ap (λ z. z ∷ ys) (same_Some y x h)
dropped (y ∷ ys) (suc i) x h = let e : suc (i + 1) ≡ suc i + 1 = omega arith in dropped ys i x h ∙ ap (λ n. x ∷ drop n (y ∷ ys)) e

pub drop_all : {X : Type 0} (xs : List X) (i : ℕ) → length xs ≤ i → drop i xs ≡ []
drop_all [] zero le = refl
drop_all [] (suc i) le = refl
drop_all (x ∷ xs) zero le = absurd (omega arith)
drop_all (x ∷ xs) (suc i) le = drop_all xs i (omega arith)

-- the item that a loop by index reads
pub here : {X : Type 0} (xs : List X) (i : ℕ) (x : X) → i < length xs → x ≡ get_or xs i x → slice_get xs i ≡ Some x
here [] i x lt e = absurd (omega arith)
here (y ∷ ys) zero x lt e = ap Some (sym e)
here (y ∷ ys) (suc i) x lt e = here ys i x (omega arith) e

pub gets : {X : Type 0} (xs : List X) (k : ℕ) (d : X) → k < length xs → slice_get xs k ≡ Some (get_or xs k d)
gets [] k d lt = absurd (omega arith)
gets (y ∷ ys) zero d lt = refl
gets (y ∷ ys) (suc k) d lt = gets ys k d (omega arith)

append_nil : {X : Type 0} (xs : List X) → xs ++ [] ≡ xs
append_nil [] = refl
append_nil (x ∷ xs) = ap (λ zs. x ∷ zs) (append_nil xs)

pub pick : {X : Type 0} (b : Bool) (old more : List X) → (if b then old ++ more else old) ≡ old ++ (if b then more else [])
pick true old more = refl
pick false old more = sym (append_nil old)

-- ---- groups

pub filter_next : {X : Type 0} (p : X → Bool) (xs : List X) (i : ℕ) (x : X) → slice_get xs i ≡ Some x → filter p (take (i + 1) xs) ≡ (if p x then filter p (take i xs) ++ x ∷ [] else filter p (take i xs))
filter_next p xs i x h = ap (filter p) (taken xs i x h) ∙ filter-append p (take i xs) (x ∷ []) ∙ one (p x)
  where
    one : (b : Bool) → filter p (take i xs) ++ (if b then x ∷ [] else []) ≡ (if b then filter p (take i xs) ++ x ∷ [] else filter p (take i xs))
    one b = sym (pick b (filter p (take i xs)) (x ∷ []))

pub put_next : {X : Type 0} (p : X → Bool) (xs : List X) (i : ℕ) (x : X) (old new : List X) → slice_get xs i ≡ Some x → old ≡ filter p (take i xs) → new ≡ (if p x then old ++ x ∷ [] else old) → new ≡ filter p (take (i + 1) xs)
put_next p xs i x old new h e f = f ∙ ap (λ z. if p x then z ++ x ∷ [] else z) e ∙ sym (filter_next p xs i x h)

pub filter_map_one : {X Y : Type 0} (f : X → Option Y) (x : X) → filter_map f (x ∷ []) ≡ option_to_list (f x)
filter_map_one {X} {Y} f x = both (f x) refl
  where
    both : (o : Option Y) → f x ≡ o → filter_map f (x ∷ []) ≡ option_to_list o
    both None e = grind (arith, e)
    both (Some y) e = grind (arith, e)

pub filter_map_next : {X Y : Type 0} (f : X → Option Y) (xs : List X) (i : ℕ) (x : X) → slice_get xs i ≡ Some x → filter_map f (take (i + 1) xs) ≡ filter_map f (take i xs) ++ option_to_list (f x)
filter_map_next f xs i x h = ap (filter_map f) (taken xs i x h) ∙ filter_map-append f (take i xs) (x ∷ []) ∙ ap (λ z. filter_map f (take i xs) ++ z) (filter_map_one f x)

pub map_next : {X Y : Type 0} (f : X → Y) (xs : List X) (i : ℕ) (x : X) → slice_get xs i ≡ Some x → map f (take (i + 1) xs) ≡ map f (take i xs) ++ f x ∷ []
map_next f [] i x h = cc
map_next f (y ∷ ys) zero x h = ap (λ z. f z ∷ []) (same_Some y x h)
map_next f (y ∷ ys) (suc i) x h = let e : suc i + 1 ≡ suc (i + 1) = omega arith in ap (λ n. map f (take n (y ∷ ys))) e ∙ ap (λ zs. f y ∷ zs) (map_next f ys i x h)

pub numbers_next : {X : Type 0} (p : X → Bool) (n : ℕ) (xs : List X) (i : ℕ) (x : X) → slice_get xs i ≡ Some x → numbers_from n p (take (i + 1) xs) ≡ (if p x then numbers_from n p (take i xs) ++ (n + i) ∷ [] else numbers_from n p (take i xs))
numbers_next p n [] i x h = cc
numbers_next {X} p n (y ∷ ys) zero x h = let e : y ≡ x = same_Some y x h in subst (λ z. numbers_from n p (y ∷ []) ≡ (if p z then (n + 0) ∷ [] else [])) e (one (p y))
  where
    plus : n ≡ n + 0
    plus = omega arith

    one : (b : Bool) → (if b then n ∷ [] else []) ≡ (if b then (n + 0) ∷ [] else [])
    one b = ap (λ m. if b then m ∷ [] else []) plus
numbers_next p n (y ∷ ys) (suc i) x h =
    let e : suc i + 1 ≡ suc (i + 1) = omega arith in
    let f : (n + 1) + i ≡ n + suc i = omega arith in
    ap (λ m. numbers_from n p (take m (y ∷ ys))) e ∙ ap (λ zs. if p y then n ∷ zs else zs) (numbers_next p (n + 1) ys i x h ∙ ap (λ m. if p x then numbers_from (n + 1) p (take i ys) ++ m ∷ [] else numbers_from (n + 1) p (take i ys)) f) ∙ swap (p y) (p x) (numbers_from (n + 1) p (take i ys))
  where
    swap : (b c : Bool) (zs : List ℕ) → (if b then n ∷ (if c then zs ++ (n + suc i) ∷ [] else zs) else (if c then zs ++ (n + suc i) ∷ [] else zs)) ≡ (if c then (if b then n ∷ zs else zs) ++ (n + suc i) ∷ [] else (if b then n ∷ zs else zs))
    swap true true zs = refl
    swap true false zs = refl
    swap false true zs = refl
    swap false false zs = refl

pub number_next : {X : Type 0} (p : X → Bool) (xs : List X) (i : ℕ) (x : X) (old new : List ℕ) → slice_get xs i ≡ Some x → old ≡ numbers_from 0 p (take i xs) → new ≡ (if p x then old ++ i ∷ [] else old) → new ≡ numbers_from 0 p (take (i + 1) xs)
number_next p xs i x old new h e f =
    let z : i ≡ 0 + i = omega arith in
    f ∙ ap (λ l. if p x then l ++ i ∷ [] else l) e ∙ ap (λ m. if p x then numbers_from 0 p (take i xs) ++ m ∷ [] else numbers_from 0 p (take i xs)) z ∙ sym (numbers_next p 0 xs i x h)

pub any_next : {X : Type 0} (p : X → Bool) (xs : List X) (i : ℕ) (x : X) → slice_get xs i ≡ Some x → list_any p (take (i + 1) xs) ≡ (list_any p (take i xs) || p x)
any_next p [] i x h = cc
any_next p (y ∷ ys) zero x h = let e : y ≡ x = same_Some y x h in subst (λ z. list_any p (y ∷ []) ≡ p z) e (right (p y))
  where
    right : (b : Bool) → (b || false) ≡ b
    right true = refl
    right false = refl
any_next p (y ∷ ys) (suc i) x h = let e : suc i + 1 ≡ suc (i + 1) = omega arith in ap (λ n. list_any p (take n (y ∷ ys))) e ∙ ap (λ b. p y || b) (any_next p ys i x h) ∙ assoc (p y) (list_any p (take i ys)) (p x)
  where
    assoc : (a b c : Bool) → (a || (b || c)) ≡ ((a || b) || c)
    assoc true b c = refl
    assoc false b c = refl

-- ---- empty groups

pub empty_next : {X : Type 0} (xs : List (List X)) → ((k : ℕ) → slice_index_or xs k [] ≡ []) → (k : ℕ) → slice_index_or (xs ++ [] ∷ []) k [] ≡ []
empty_next [] h zero = refl
empty_next [] h (suc k) = refl
empty_next (x ∷ xs) h zero = h 0
empty_next (x ∷ xs) h (suc k) = empty_next xs (λ j. h (suc j)) k

-- ---- items that are there

pub any_default : {X : Type 0} (xs : List X) (k : ℕ) (d e : X) → k < length xs → get_or xs k d ≡ get_or xs k e
any_default [] k d e lt = absurd (omega arith)
any_default (x ∷ xs) zero d e lt = refl
any_default (x ∷ xs) (suc k) d e lt = any_default xs k d e (omega arith)

pub found : {X : Type 0} (xs : List X) (k : ℕ) → k < length xs → (x : X) × (slice_get xs k ≡ Some x)
found [] k lt = absurd (omega arith)
found (x ∷ xs) zero lt = (x, refl)
found (x ∷ xs) (suc k) lt = found xs k (omega arith)

pub inside : {X : Type 0} (xs : List X) (k : ℕ) (x : X) → slice_get xs k ≡ Some x → k < length xs
inside [] k x h = cc
inside (y ∷ ys) zero x h = omega arith
inside (y ∷ ys) (suc k) x h = let r = inside ys k x h in omega arith

-- the item that is read from a list that is the same
pub here_in : {X : Type 0} (xs ys : List X) (k : ℕ) (x : X) → ys ≡ xs → k < length xs → x ≡ get_or ys k x → slice_get xs k ≡ Some x
here_in xs ys k x e lt h = here xs k x lt (h ∙ ap (λ z. get_or z k x) e)

pub filter_map_step : {X Y : Type 0} (f : X → Option Y) (xs : List X) (i : ℕ) (x : X) (old new : List Y) → slice_get xs i ≡ Some x → old ≡ filter_map f (take i xs) → new ≡ old ++ option_to_list (f x) → new ≡ filter_map f (take (i + 1) xs)
filter_map_step f xs i x old new h e g = g ∙ ap (λ z. z ++ option_to_list (f x)) e ∙ sym (filter_map_next f xs i x h)

-- ---- results

pub ok_map : {A B : Type 0} (r : Result A B) (P Q : A → Type 0) → ((a : A) → P a → Q a) → IfOk r P → IfOk r Q
ok_map (Ok a) P Q f h = f a h
ok_map (Err e) P Q f h = tt

pub ok_on : {A B : Type 0} (r : Result A B) (P Q : Type 0) → (P → Q) → OnOk r P → OnOk r Q
ok_on (Ok a) P Q f h = f h
ok_on (Err e) P Q f h = tt

pub gets_in : {X : Type 0} (xs ys : List X) (k : ℕ) (d : X) → ys ≡ xs → k < length ys → slice_get xs k ≡ Some (get_or ys k d)
gets_in xs ys k d e lt = ap (λ z. slice_get z k) (sym e) ∙ gets ys k d lt
