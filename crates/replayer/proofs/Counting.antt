-- How many turns the followers were given: at least as many as entries were made.
use Rattle.std.proofs.Common.{◌≡◌, ℕ, zero, suc, ◌+◌, ◌<◌, ◌≤◌, Bool, List, [], ◌∷◌, length, take, Some, refl, ap, subst, ◌∙◌, ⊎_elim, arith}
use Rattle.std.specs.Prelude.{slice_get, IfOk, Result, Ok, Err}
use Rattle.std.proofs.lemmas.Bool.{cases_eq}
use Rattle.std.proofs.lemmas.List.{length-append, length-map}
use Rattle.crew.specs.Counts.{RoseAtLeast, RoseBy, rises}
use Rattle.shared_cells.specs.Rule.{Board}
use Rattle.shared_cells.specs.declared.seat.Seat.{Seat}
use Rattle.sync_objects.specs.declared.entry.Entry.{Entry}
use Rattle.sync_objects.specs.declared.entry.Noted.{Noted}
use Rattle.run_theory.specs.Paths.{IsPrefixOf}
use Rattle.run_theory.specs.Steps.{entries_of}
use Rattle.run_theory.proofs.Lists.{own_in, own_out}
use Rattle.replayer.specs.Following.{Following, made_in}
use Rattle.run_walk.specs.declared.remains.Remains.{Remains}
use Rattle.replayer.specs.Replays.{AreFresh, HaveFollowed}
use Rattle.replayer.specs.Wants.{noted_in}
use Rattle.replayer.specs.declared.wanted.Wanted.{Wanted}

-- ---- entries by thread

-- the entries of so many threads from this one on
own_total : ℕ → ℕ → List Noted → ℕ
own_total t zero xs = 0
own_total t (suc n) xs = length (entries_of t xs) + own_total (t + 1) n xs

total_out : (t n : ℕ) (x : Noted) (xs : List Noted) → x.entry.thread < t → own_total t n (x ∷ xs) ≡ own_total t n xs
unfolding own_total
total_out t zero x xs lt = refl
total_out t (suc n) x xs lt =
    let one = ap length (own_out t x xs (λ e. omega (arith, e, lt))) in
    let more = total_out (t + 1) n x xs (omega (arith, lt)) in
    omega (arith, one, more)

total_in : (t n : ℕ) (x : Noted) (xs : List Noted) → t ≤ x.entry.thread → x.entry.thread < t + n → own_total t n (x ∷ xs) ≡ suc (own_total t n xs)
unfolding own_total
total_in t zero x xs le lt = absurd (omega (arith, le, lt))
total_in t (suc n) x xs le lt = ⊎_elim
    (λ (e : x.entry.thread ≡ t).
    let one = ap length (own_in t x xs e) in
    let more = total_out (t + 1) n x xs (omega (arith, e)) in
    omega (arith, one, more))
    (λ (ne : x.entry.thread ≡ t → ⊥).
    let one = ap length (own_out t x xs ne) in
    let more = total_in (t + 1) n x xs (omega (arith, ne, le)) (omega (arith, lt)) in
    omega (arith, one, more))
    (cases_eq x.entry.thread t)

-- entries of the first so many threads are all counted
counted : (n : ℕ) (xs : List Noted) → ((k : ℕ) (x : Noted) → slice_get xs k ≡ Some x → x.entry.thread < n) → length xs ≤ own_total 0 n xs
counted n [] h = omega arith
counted n (x ∷ xs) h =
    let one = total_in 0 n x xs (omega arith) (let lt = h 0 x refl in omega (arith, lt)) in
    let more = counted n xs (λ k y e. h (suc k) y e) in
    omega (arith, one, more)

-- followers that have made them have made as many
made_total : (t : ℕ) (xs : List Noted) (fs : List Following) → ((i : ℕ) (f : Following) → slice_get fs i ≡ Some f → length (entries_of (t + i) xs) ≤ f.made) → own_total t (length fs) xs ≤ made_in fs
unfolding own_total
made_total t xs [] h = omega arith
made_total t xs (f ∷ fs) h =
    let here : t + 0 ≡ t = omega arith in
    let one : length (entries_of t xs) ≤ f.made = subst (λ n. length (entries_of n xs) ≤ f.made) here (h 0 f refl) in
    let more = made_total (t + 1) xs fs (λ i g e.
    let there : t + suc i ≡ t + 1 + i = omega arith in
    subst (λ n. length (entries_of n xs) ≤ g.made) there (h (suc i) g e)) in
    omega (arith, one, more)

pub made_enough : (xs : List Noted) (fs : List Following) → ((k : ℕ) (x : Noted) → slice_get xs k ≡ Some x → x.entry.thread < length fs) → ((i : ℕ) (f : Following) → slice_get fs i ≡ Some f → length (entries_of i xs) ≤ f.made) → length xs ≤ made_in fs
made_enough xs fs small h =
    let a = counted (length fs) xs small in
    let b = made_total 0 xs fs (λ i f e. let here : i ≡ 0 + i = omega arith in subst (λ n. length (entries_of n xs) ≤ f.made) here (h i f e)) in
    omega (arith, a, b)

-- a front part is no longer
pub prefix_short : {A : Type 0} (xs ys : List A) → IsPrefixOf xs ys → length xs ≤ length ys
prefix_short xs ys p =
    let same = ap length p.1 in
    let sum = length-append xs p.0 in
    omega (arith, same, sum)

take_short : {A : Type 0} (n : ℕ) (xs : List A) → length (take n xs) ≤ n
take_short zero xs = omega arith
take_short (suc n) [] = omega arith
take_short (suc n) (x ∷ xs) = let h = take_short n xs in omega (arith, h)

pub noted_short : (n : ℕ) (ws : List Wanted) → length (noted_in (take n ws)) ≤ n
noted_short n ws =
    let same = length-map (take n ws) (λ (w : Wanted). w.noted) in
    let short = take_short n ws in
    omega (arith, same, short)

pub take_within : {A : Type 0} (n : ℕ) (xs : List A) → n ≤ length xs → length (take n xs) ≡ n
take_within zero xs le = refl
take_within (suc n) [] le = absurd (omega (arith, le))
take_within (suc n) (x ∷ xs) le = ap suc (take_within n xs (omega (arith, le)))

pub take_beyond : {A : Type 0} (n : ℕ) (xs : List A) → length xs ≤ n → length (take n xs) ≡ length xs
take_beyond zero [] le = refl
take_beyond zero (x ∷ xs) le = absurd (omega (arith, le))
take_beyond (suc n) [] le = refl
take_beyond (suc n) (x ∷ xs) le = ap suc (take_beyond n xs (omega (arith, le)))

-- ---- turns

pub rises_made : (jobs backs : List Following) → length backs ≡ length jobs → ((k : ℕ) (f : Following) → slice_get jobs k ≡ Some f → f.turns ≡ 0) → ((k : ℕ) (f : Following) → slice_get backs k ≡ Some f → f.made ≤ f.turns) → made_in backs ≤ rises (λ (f : Following). f.turns) jobs backs
rises_made [] [] e fresh listed = omega arith
rises_made [] (b ∷ bs) e fresh listed = absurd (omega (arith, e))
rises_made (j ∷ js) [] e fresh listed = omega arith
rises_made (j ∷ js) (b ∷ bs) e fresh listed =
    let none = fresh 0 j refl in
    let one = listed 0 b refl in
    let more = rises_made js bs (omega (arith, e)) (λ k f q. fresh (suc k) f q) (λ k f q. listed (suc k) f q) in
    omega (arith, none, one, more)

pub turns_rose : (cells : Board) (es : List Entry) (seats : List Seat) (remains : List Remains) (all_ended : Bool) (jobs backs : List Following) (h : HaveFollowed cells es seats remains all_ended) → h.fs ≡ backs → length backs ≡ length jobs → AreFresh jobs → (taken old new : ℕ) → taken ≤ made_in h.fs → RoseBy (rises (λ (f : Following). f.turns) jobs backs) old new → RoseAtLeast taken old new
turns_rose cells es seats remains all_ended jobs backs h same long fresh taken old new most r =
    let made = rises_made jobs backs long fresh (λ k f e. (h.whole k f (ap (λ fs. slice_get fs k) same ∙ e)).1.listed) in
    let is = r.rises in
    let all = ap made_in same in
    omega (arith, most, made, all, is)

-- what holds of a value holds of it where a call has answered it
pub if_ok_map : {A E : Type 0} (P Q : A → Type 0) → ((a : A) → P a → Q a) → (r : Result A E) → IfOk r P → IfOk r Q
if_ok_map P Q f (Ok a) h = f a h
if_ok_map P Q f (Err e) h = h
