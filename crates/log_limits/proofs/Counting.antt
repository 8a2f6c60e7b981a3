-- Counting entries of one thread in a merge of the threads' lists.
use Rattle.std.proofs.Common.{◌≡◌, ℕ, zero, suc, ◌+◌, ◌*◌, ◌^◌, ◌≤◌, Bool, true, false, cond, List, [], ◌∷◌, ◌++◌, length, map, Some, refl, sym, ap, ◌∙◌, arith}
use Rattle.std.specs.Prelude.{count_by, not, ◌&&◌, ◌==◌, if◌then◌else◌, slice_get}
use Rattle.std.specs.List.{AllByRecursion}
use Rattle.std.proofs.lemmas.List.Sums.{sum_by-cons}
use Rattle.sync_objects.specs.Names.{is_ending}
use Rattle.sync_objects.specs.declared.entry.Entry.{Entry}
use Rattle.sync_objects.specs.declared.entry.Noted.{Noted}
use Rattle.core_run.specs.Histories.{entries_in}
use Rattle.core_run.specs.Kept.{endings_in}
use Rattle.core_run.specs.Machine.{Told}
use Rattle.run_theory.specs.Merge.{Taken, Stuck, Takes, next_entry, merged_on, merged_after, total_length}
use Rattle.run_theory.specs.Steps.{entries_of}
use Rattle.run_theory.proofs.Lists.{AllIn}

-- ---- facts of each entry

pub all_in : (P : Noted → Type 0) (xs : List Noted) → ((k : ℕ) (x : Noted) → slice_get xs k ≡ Some x → P x) → AllIn P xs
all_in P [] h = tt
all_in P (x ∷ xs) h = (h 0 x refl, all_in P xs (λ k. h (suc k)))

pub both_in : (P Q : Noted → Type 0) (xs : List Noted) → AllIn P xs → AllIn Q xs → AllIn (λ x. P x × Q x) xs
both_in P Q [] h k = tt
both_in P Q (x ∷ xs) h k = ((h.0, k.0), both_in P Q xs h.1 k.1)

pub each_entry : (P : Entry → Type 0) (xs : List Noted) → AllIn (λ x. P x.entry) xs → AllByRecursion P (entries_in xs)
each_entry P [] h = tt
each_entry P (x ∷ xs) h = (h.0, each_entry P xs h.1)

-- ---- counts

-- those of a thread that pass a test are those of its own entries that do
pub count_own : (t : ℕ) (p : Entry → Bool) (xs : List Noted) → count_by (λ (e : Entry). (e.thread == t) && p e) (entries_in xs) ≡ count_by p (entries_in (entries_of t xs))
count_own t p [] = refl
count_own t p (x ∷ xs) = sum_by-cons (λ (e : Entry). cond ((e.thread == t) && p e) 1 0) x.entry (entries_in xs) ∙ by (x.entry.thread == t) (count_own t p xs)
  where
    by : (b : Bool) → count_by (λ (e : Entry). (e.thread == t) && p e) (entries_in xs) ≡ count_by p (entries_in (entries_of t xs))
        → cond {A = ℕ} (b && p x.entry) 1 0 + count_by (λ (e : Entry). (e.thread == t) && p e) (entries_in xs) ≡ count_by p (entries_in (if b then x ∷ entries_of t xs else entries_of t xs))
    by true e = ap (λ n. cond (p x.entry) 1 0 + n) e ∙ sym (sum_by-cons (λ (e : Entry). cond (p e) 1 0) x.entry (entries_in (entries_of t xs)))
    by false e = omega (arith, e)

pub count_endings : (xs : List Noted) → count_by (λ (e : Entry). is_ending e.op) (entries_in xs) ≡ endings_in xs
count_endings [] = refl
count_endings (x ∷ xs) = sum_by-cons (λ (e : Entry). cond (is_ending e.op) 1 0) x.entry (entries_in xs) ∙ by (is_ending x.entry.op) (count_endings xs)
  where
    by : (b : Bool) → count_by (λ (e : Entry). is_ending e.op) (entries_in xs) ≡ endings_in xs → cond {A = ℕ} b 1 0 + count_by (λ (e : Entry). is_ending e.op) (entries_in xs) ≡ (if b then suc (endings_in xs) else endings_in xs)
    by true e = omega (arith, e)
    by false e = omega (arith, e)

-- the others are the rest
pub count_others : (xs : List Noted) → count_by (λ (e : Entry). not (is_ending e.op)) (entries_in xs) + endings_in xs ≡ length xs
count_others [] = refl
count_others (x ∷ xs) = by (is_ending x.entry.op) (sum_by-cons (λ (e : Entry). cond (not (is_ending e.op)) 1 0) x.entry (entries_in xs)) (count_others xs)
  where
    by : (b : Bool) → count_by (λ (e : Entry). not (is_ending e.op)) (entries_in (x ∷ xs)) ≡ cond {A = ℕ} (not b) 1 0 + count_by (λ (e : Entry). not (is_ending e.op)) (entries_in xs)
        → count_by (λ (e : Entry). not (is_ending e.op)) (entries_in xs) + endings_in xs ≡ length xs
        → count_by (λ (e : Entry). not (is_ending e.op)) (entries_in (x ∷ xs)) + (if b then suc (endings_in xs) else endings_in xs) ≡ suc (length xs)
    by true c e = omega (arith, c, e)
    by false c e = omega (arith, c, e)

-- ---- lengths

pub length_entries : (xs : List Noted) → length (entries_in xs) ≡ length xs
length_entries [] = refl
length_entries (x ∷ xs) = ap suc (length_entries xs)

-- a written merge takes no more entries than it is asked for
pub few_merged : (n : ℕ) (before : List Noted) (lists : List (List Noted)) → length (merged_after n before lists) ≤ n
few_merged zero before lists = omega arith
few_merged (suc n) before lists = on (next_entry before lists) (few_merged n)
  where
    on : (t : Taken) → ((b : List Noted) (ls : List (List Noted)) → length (merged_after n b ls) ≤ n) → length (merged_on (merged_after n) before t) ≤ suc n
    on Stuck more = omega arith
    on (Takes x rest) more = let few = more (before ++ x ∷ []) rest in omega arith

-- the most entries of a thread: the last two are ending ones
abbrev pub most_listed : ℕ
most_listed = 2 ^ 20 + 2

pub few_in_all : (threads : List Told) → ((t : ℕ) (told : Told) → slice_get threads t ≡ Some told → length told.entries ≤ most_listed) → total_length (map (λ (told : Told). told.entries) threads) ≤ length threads * most_listed
few_in_all [] h = omega arith
few_in_all (x ∷ xs) h =
    let first = h 0 x refl in
    let rest = few_in_all xs (λ t. h (suc t)) in
    omega arith
