-- The written merge of a run's lists takes all their entries, and is a merge.
use Rattle.std.proofs.Common.{◌≡◌, ◌≢◌, ℕ, zero, suc, ◌+◌, ◌<◌, ◌≤◌, Bool, true, false, List, [], ◌∷◌, ◌++◌, length, refl, sym, ap, ◌∙◌, subst, arith, ⊎_elim, eq-eqb, ne_eqb, eqb}
use Rattle.std.specs.Prelude.{if◌then◌else◌}
use Rattle.std.proofs.lemmas.Bool.{cases_eq, eqb-true, eqb-false}
use Rattle.sync_objects.specs.declared.entry.Noted.{Noted}
use Rattle.sync_objects.specs.declared.object.ObjId.{ObjId}
use Rattle.run_theory.specs.Same.{same_object}
use Rattle.run_theory.specs.Steps.{entries_of}
use Rattle.run_theory.specs.Merge.{ComesBefore, IsAscending, IsMerge, lists_from, entries_at, Taken, Stuck, Takes, after_list, next_entry, merged_on, merged_after, total_length, written_merge}
use Rattle.run_theory.proofs.Lists.{AllIn, AllIn-map, AllIn-entries_of, entries_of-thread, own_in, own_out}
use Rattle.run_theory.proofs.SameEntries.{same_object-refl, same_object-ne}

-- counting the entries of an object
pub entries_at-append : (o : ObjId) (xs ys : List Noted) → entries_at o (xs ++ ys) ≡ entries_at o xs + entries_at o ys
entries_at-append o [] ys = omega arith
entries_at-append o (x ∷ xs) ys = go (same_object x.entry.obj o) (entries_at-append o xs ys)
  where
    go : (b : Bool) → entries_at o (xs ++ ys) ≡ entries_at o xs + entries_at o ys → (if b then suc (entries_at o (xs ++ ys)) else entries_at o (xs ++ ys)) ≡ (if b then suc (entries_at o xs) else entries_at o xs) + entries_at o ys
    go true e = omega (arith, e)
    go false e = e

pub one_here : (x : Noted) (o : ObjId) → x.entry.obj ≡ o → entries_at o (x ∷ []) ≡ 1
one_here x o e = ap (λ b. if b then 1 else 0) (ap (same_object x.entry.obj) (sym e) ∙ same_object-refl x.entry.obj)

pub none_here : (x : Noted) (o : ObjId) → x.entry.obj ≢ o → entries_at o (x ∷ []) ≡ 0
none_here x o ne = ap (λ b. if b then 1 else 0) (same_object-ne x.entry.obj o ne)

-- each entry's number is how many entries of its object came before, these ones included
abbrev pub IsNumbered : List Noted → List Noted → Type 0
IsNumbered before [] = Unit {0}
IsNumbered before (x ∷ xs) = (x.number ≡ entries_at x.entry.obj before) × IsNumbered (before ++ x ∷ []) xs

-- only the counts matter
numbered_same : (before also xs : List Noted) → ((o : ObjId) → entries_at o before ≡ entries_at o also) → IsNumbered before xs → IsNumbered also xs
numbered_same before also [] same h = tt
numbered_same before also (x ∷ xs) same h =
    (h.0 ∙ same x.entry.obj, numbered_same (before ++ x ∷ []) (also ++ x ∷ []) xs (λ o. entries_at-append o before (x ∷ []) ∙ ap (λ z. z + entries_at o (x ∷ [])) (same o) ∙ sym (entries_at-append o also (x ∷ []))) h.1)

-- a number that isn't below the count at its object
record IsAtLeast (before : List Noted) (x : Noted) : Type 0 where
  is : entries_at x.entry.obj before ≤ x.number

numbered_above : (before xs : List Noted) → IsNumbered before xs → AllIn (IsAtLeast before) xs
numbered_above before [] h = tt
numbered_above before (x ∷ xs) h =
    (record { is = omega (arith, h.0) }, AllIn-map (IsAtLeast (before ++ x ∷ [])) (IsAtLeast before) xs (λ y q. record { is = omega (arith, q.is, entries_at-append y.entry.obj before (x ∷ [])) }) (numbered_above (before ++ x ∷ []) xs h.1))

comes_before : (before : List Noted) (x : Noted) (xs : List Noted) → x.number ≡ entries_at x.entry.obj before → AllIn (IsAtLeast (before ++ x ∷ [])) xs → ComesBefore x xs
comes_before before x [] n h = tt
comes_before before x (y ∷ ys) n h = (
  (λ e.
      let a = entries_at-append y.entry.obj before (x ∷ []) in
      let b = one_here x y.entry.obj (sym e) in
      let c = ap (λ z. entries_at z before) e in
      omega (arith, h.0.is)),
  comes_before before x ys n h.1,
)

pub numbered_ascends : (before xs : List Noted) → IsNumbered before xs → IsAscending xs
numbered_ascends before [] h = tt
numbered_ascends before (x ∷ xs) h = (comes_before before x xs h.0 (numbered_above (before ++ x ∷ []) xs h.1), numbered_ascends (before ++ x ∷ []) xs h.1)

-- the entries without the first one of the thread
abbrev without : ℕ → List Noted → List Noted
without t [] = []
without t (x ∷ xs) = if eqb x.entry.thread t then xs else x ∷ without t xs

without_here : (t : ℕ) (x : Noted) (xs : List Noted) → x.entry.thread ≡ t → without t (x ∷ xs) ≡ xs
without_here t x xs e = rw (eq-eqb x.entry.thread t e)

without_there : (t : ℕ) (x : Noted) (xs : List Noted) → x.entry.thread ≢ t → without t (x ∷ xs) ≡ x ∷ without t xs
without_there t x xs ne = rw (ne_eqb x.entry.thread t ne)

without_own : (t : ℕ) (y : Noted) (ys xs : List Noted) → entries_of t xs ≡ y ∷ ys → entries_of t (without t xs) ≡ ys
without_own t y ys [] h = cc
without_own t y ys (x ∷ xs) h =
    ⊎_elim
    (λ e. ap (entries_of t) (without_here t x xs e) ∙ tail (entries_of t xs) (sym (own_in t x xs e) ∙ h))
    (λ ne. ap (entries_of t) (without_there t x xs ne) ∙ own_out t x (without t xs) ne ∙ without_own t y ys xs (sym (own_out t x xs ne) ∙ h))
    (cases_eq x.entry.thread t)
  where
    tail : (zs : List Noted) → x ∷ zs ≡ y ∷ ys → zs ≡ ys
    tail zs e = cc

without_other : (t u : ℕ) (xs : List Noted) → u ≢ t → entries_of u (without t xs) ≡ entries_of u xs
without_other t u [] ne = refl
without_other t u (x ∷ xs) ne =
    ⊎_elim
    (λ e. ap (entries_of u) (without_here t x xs e) ∙ sym (own_out u x xs (λ q. ne (sym q ∙ e))))
    (λ isnt. ap (entries_of u) (without_there t x xs isnt) ∙ more (without_other t u xs ne))
    (cases_eq x.entry.thread t)
  where
    more : entries_of u (without t xs) ≡ entries_of u xs → entries_of u (x ∷ without t xs) ≡ entries_of u (x ∷ xs)
    more again = ap (λ z. if eqb x.entry.thread u then x ∷ z else z) again

without_length : (t : ℕ) (y : Noted) (ys xs : List Noted) → entries_of t xs ≡ y ∷ ys → suc (length (without t xs)) ≡ length xs
without_length t y ys [] h = cc
without_length t y ys (x ∷ xs) h =
    ⊎_elim
    (λ e. let q = ap length (without_here t x xs e) in omega arith)
    (λ ne. let q = ap length (without_there t x xs ne) in let a = without_length t y ys xs (sym (own_out t x xs ne) ∙ h) in omega arith)
    (cases_eq x.entry.thread t)

without_all : (P : Noted → Type 0) (t : ℕ) (y : Noted) (ys xs : List Noted) → entries_of t xs ≡ y ∷ ys → AllIn P xs → AllIn P (without t xs)
without_all P t y ys [] o h = cc
without_all P t y ys (x ∷ xs) o h =
    ⊎_elim
    (λ e. subst (AllIn P) (sym (without_here t x xs e)) h.1)
    (λ ne. subst (AllIn P) (sym (without_there t x xs ne)) (h.0, without_all P t y ys xs (sym (own_out t x xs ne) ∙ o) h.1))
    (cases_eq x.entry.thread t)

-- a thread's first entry whose number comes next can be taken first
without_numbered : (t : ℕ) (y : Noted) (ys before xs : List Noted) → entries_of t xs ≡ y ∷ ys → y.number ≡ entries_at y.entry.obj before → IsNumbered before xs → IsNumbered (before ++ y ∷ []) (without t xs)
without_numbered t y ys before [] o n h = cc
without_numbered t y ys before (x ∷ xs) o n h = ⊎_elim here (there (λ b o2 n2 h2. without_numbered t y ys b xs o2 n2 h2)) (cases_eq x.entry.thread t)
  where
    head : (zs : List Noted) → x ∷ zs ≡ y ∷ ys → x ≡ y
    head zs e = cc

    here : x.entry.thread ≡ t → IsNumbered (before ++ y ∷ []) (without t (x ∷ xs))
    here e =
        let same = head (entries_of t xs) (sym (own_in t x xs e) ∙ o) in
        subst (IsNumbered (before ++ y ∷ [])) (sym (without_here t x xs e)) (subst (λ z. IsNumbered (before ++ z ∷ []) xs) same h.1)

    apart : x.entry.thread ≢ t → x.entry.obj ≢ y.entry.obj
    apart ne = λ e.
        let o2 = sym (own_out t x xs ne) ∙ o in
        let a = (subst (AllIn (IsAtLeast (before ++ x ∷ []))) o2 (AllIn-entries_of (IsAtLeast (before ++ x ∷ [])) t xs (numbered_above (before ++ x ∷ []) xs h.1))).0 in
        let b = entries_at-append y.entry.obj before (x ∷ []) in
        let c = one_here x y.entry.obj e in
        absurd (omega (arith, a.is))

    swapped : (o : ObjId) → entries_at o ((before ++ x ∷ []) ++ y ∷ []) ≡ entries_at o ((before ++ y ∷ []) ++ x ∷ [])
    swapped p =
        let a = entries_at-append p (before ++ x ∷ []) (y ∷ []) in
        let b = entries_at-append p before (x ∷ []) in
        let c = entries_at-append p (before ++ y ∷ []) (x ∷ []) in
        let d = entries_at-append p before (y ∷ []) in
        omega arith

    there : ((b : List Noted) → entries_of t xs ≡ y ∷ ys → y.number ≡ entries_at y.entry.obj b → IsNumbered b xs → IsNumbered (b ++ y ∷ []) (without t xs)) → x.entry.thread ≢ t → IsNumbered (before ++ y ∷ []) (without t (x ∷ xs))
    there again ne =
        let d = apart ne in
        let n2 : y.number ≡ entries_at y.entry.obj (before ++ x ∷ []) = (let a = entries_at-append y.entry.obj before (x ∷ []) in let b = none_here x y.entry.obj d in omega arith) in
        let n3 : x.number ≡ entries_at x.entry.obj (before ++ y ∷ []) = (let a = entries_at-append x.entry.obj before (y ∷ []) in let b = none_here y x.entry.obj (λ q. d (sym q)) in let c = h.0 in omega arith) in
        let rest = again (before ++ x ∷ []) (sym (own_out t x xs ne) ∙ o) n2 h.1 in
        subst (IsNumbered (before ++ y ∷ [])) (sym (without_there t x xs ne)) (n3, numbered_same ((before ++ x ∷ []) ++ y ∷ []) ((before ++ y ∷ []) ++ x ∷ []) (without t xs) swapped rest)

-- the lists from a thread on are those of other entries, if each of these threads has the same
lists_same : (t n : ℕ) (xs ys : List Noted) → ((u : ℕ) → t ≤ u → entries_of u xs ≡ entries_of u ys) → lists_from t n xs ≡ lists_from t n ys
lists_same t zero xs ys same = refl
lists_same t (suc n) xs ys same = ap (λ z. z ∷ lists_from (t + 1) n xs) (same t (omega arith)) ∙ ap (λ z. entries_of t ys ∷ z) (lists_same (t + 1) n xs ys (λ u le. same u (omega arith)))

-- what the choice among the lists of these threads comes to: none may be taken, or the first entry of one thread is
data Choice (before xs : List Noted) (t n : ℕ) : Taken → Type 0 where
  none_ready : ((u : ℕ) (y : Noted) (ys : List Noted) → t ≤ u → u < t + n → entries_of u xs ≡ y ∷ ys → y.number ≢ entries_at y.entry.obj before) → Choice before xs t n Stuck
  one_ready : (u : ℕ) (y : Noted) (ys : List Noted) (rest : List (List Noted)) → t ≤ u → entries_of u xs ≡ y ∷ ys → y.number ≡ entries_at y.entry.obj before → rest ≡ lists_from t n (without u xs) → Choice before xs t n (Takes y rest)

choice_after : (before xs : List Noted) (t n : ℕ) (taken : Taken) → ((y : Noted) (ys : List Noted) → entries_of t xs ≡ y ∷ ys → y.number ≢ entries_at y.entry.obj before) → Choice before xs (t + 1) n taken → Choice before xs t (suc n) (after_list (entries_of t xs) taken)
choice_after before xs t n _ not_here (none_ready none) = none_ready (λ u y ys le lt o. ⊎_elim (λ (e : u ≡ t). not_here y ys (ap (λ z. entries_of z xs) (sym e) ∙ o)) (λ (ne : u ≡ t → ⊥). none u y ys (omega (arith, ne)) (omega arith) o) (cases_eq u t))
choice_after before xs t n _ not_here (one_ready u y ys rest le o ready is) =
    one_ready u y ys (entries_of t xs ∷ rest) (omega arith) o ready
    (ap (λ z. z ∷ rest) (sym (without_other u t xs (omega arith))) ∙ ap (λ z. entries_of t (without u xs) ∷ z) is)

choice_here : (before xs : List Noted) (t n : ℕ) (zs : List Noted) → entries_of t xs ≡ zs → Choice before xs (t + 1) n (next_entry before (lists_from (t + 1) n xs)) → Choice before xs t (suc n) (next_entry before (zs ∷ lists_from (t + 1) n xs))
choice_here before xs t n [] o later =
    subst (λ z. Choice before xs t (suc n) (after_list z (next_entry before (lists_from (t + 1) n xs)))) o
    (choice_after before xs t n (next_entry before (lists_from (t + 1) n xs)) (λ y ys e. cc (o, e)) later)
choice_here before xs t n (y ∷ ys) o later = go (eqb y.number (entries_at y.entry.obj before)) refl
  where
    lists : List (List Noted)
    lists = lists_from (t + 1) n xs

    ready_of : eqb y.number (entries_at y.entry.obj before) ≡ true → y.number ≡ entries_at y.entry.obj before
    ready_of e = eqb-true y.number (entries_at y.entry.obj before) e

    head : (z : Noted) (zs : List Noted) → y ∷ ys ≡ z ∷ zs → y ≡ z
    head z zs e = cc

    go : (b : Bool) → eqb y.number (entries_at y.entry.obj before) ≡ b → Choice before xs t (suc n) (if b then Takes y (ys ∷ lists_from (t + 1) n xs) else after_list (y ∷ ys) (next_entry before (lists_from (t + 1) n xs)))
    go true e =
        one_ready t y ys (ys ∷ lists_from (t + 1) n xs) (omega arith) o (ready_of e)
        (ap (λ z. z ∷ lists_from (t + 1) n xs) (sym (without_own t y ys xs o)) ∙ ap (λ z. entries_of t (without t xs) ∷ z) (lists_same (t + 1) n xs (without t xs) (λ u le. sym (without_other t u xs (omega arith)))))
    go false e =
        subst (λ z. Choice before xs t (suc n) (after_list z (next_entry before (lists_from (t + 1) n xs)))) o
        (choice_after before xs t n (next_entry before (lists_from (t + 1) n xs))
        (λ z zs q. λ r. let same = head z zs (sym o ∙ q) in eqb-false y.number (entries_at y.entry.obj before) e (ap (λ k. k.number) same ∙ r ∙ ap (λ k. entries_at k.entry.obj before) (sym same)))
        later)

choice : (before xs : List Noted) (t n : ℕ) → Choice before xs t n (next_entry before (lists_from t n xs))
choice before xs t zero = none_ready (λ u y ys le lt o. absurd (omega arith))
choice before xs t (suc n) = choice_here before xs t n (entries_of t xs) refl (choice before xs (t + 1) n)

-- how much of the lists is left is what is left of the entries
longer_out : (t n : ℕ) (x : Noted) (xs : List Noted) → x.entry.thread < t → lists_from t n (x ∷ xs) ≡ lists_from t n xs
longer_out t n x xs lt = lists_same t n (x ∷ xs) xs (λ u le. own_out u x xs (λ e. omega arith))

longer : (t n : ℕ) (x : Noted) (xs : List Noted) → t ≤ x.entry.thread → x.entry.thread < t + n → total_length (lists_from t n (x ∷ xs)) ≡ suc (total_length (lists_from t n xs))
longer t zero x xs le lt = absurd (omega arith)
longer t (suc n) x xs le lt =
    ⊎_elim
    (λ (e : x.entry.thread ≡ t).
    let a = ap length (own_in t x xs e) in
    let b = ap total_length (longer_out (t + 1) n x xs (omega arith)) in
    omega arith)
    (λ (ne : x.entry.thread ≡ t → ⊥).
    let a = ap length (own_out t x xs ne) in
    let b = longer (t + 1) n x xs (omega (arith, ne)) (omega arith) in
    omega arith)
    (cases_eq x.entry.thread t)

-- an entry of one of so many threads
record IsOfThreads (n : ℕ) (x : Noted) : Type 0 where
  below : x.entry.thread < n

long_enough : (n : ℕ) (xs : List Noted) → AllIn (IsOfThreads n) xs → length xs ≤ total_length (lists_from 0 n xs)
long_enough n [] h = omega arith
long_enough n (x ∷ xs) h = let a = longer 0 n x xs (omega arith) (omega (arith, h.0.below)) in let b = long_enough n xs h.1 in omega arith

-- what is merged after these entries: all entries that are left, each with its number
record Merges (before xs merged : List Noted) : Type 0 where
  threads : (t : ℕ) → entries_of t merged ≡ entries_of t xs
  numbered : IsNumbered before merged

merges_nothing : (n threads : ℕ) (before : List Noted) → Merges before [] (merged_after n before (lists_from 0 threads []))
merges_nothing n threads before = subst (Merges before []) (sym (empty n (next_entry before (lists_from 0 threads [])) (choice before [] 0 threads))) (record { threads = λ t. refl; numbered = tt })
  where
    nothing : (t : Taken) → Choice before [] 0 threads t → t ≡ Stuck
    nothing _ (none_ready none) = refl
    nothing _ (one_ready u y ys rest le o ready is) = cc

    empty : (n : ℕ) (t : Taken) → Choice before [] 0 threads t → merged_after n before (lists_from 0 threads []) ≡ []
    empty zero t c = refl
    empty (suc n) t c = ap (merged_on (merged_after n) before) (nothing (next_entry before (lists_from 0 threads [])) (choice before [] 0 threads))

merges : (n threads : ℕ) (before xs : List Noted) → length xs ≤ n → AllIn (IsOfThreads threads) xs → IsNumbered before xs → Merges before xs (merged_after n before (lists_from 0 threads xs))
merges n threads before [] le within h = merges_nothing n threads before
merges zero threads before (x ∷ xs) le within h = absurd (omega arith)
merges (suc n) threads before (x ∷ xs) le within h = go (next_entry before (lists_from 0 threads (x ∷ xs))) (choice before (x ∷ xs) 0 threads) (λ b ys le2 w2 h2. merges n threads b ys le2 w2 h2)
  where
    go : (t : Taken) → Choice before (x ∷ xs) 0 threads t → ((b ys : List Noted) → length ys ≤ n → AllIn (IsOfThreads threads) ys → IsNumbered b ys → Merges b ys (merged_after n b (lists_from 0 threads ys))) → Merges before (x ∷ xs) (merged_on (merged_after n) before t)
    go _ (none_ready none) again = absurd (none x.entry.thread x (entries_of x.entry.thread xs) (omega arith) (omega (arith, within.0.below)) (own_in x.entry.thread x xs refl) h.0)
    go _ (one_ready u y ys rest from o ready is) again =
        let left = without u (x ∷ xs) in
        let r = again (before ++ y ∷ []) left (let a = without_length u y ys (x ∷ xs) o in omega arith) (without_all (IsOfThreads threads) u y ys (x ∷ xs) o within) (without_numbered u y ys before (x ∷ xs) o ready h) in
        let y_thread : y.entry.thread ≡ u = (subst (AllIn (λ z. z.entry.thread ≡ u)) o (entries_of-thread u (x ∷ xs))).0 in
        subst (λ z. Merges before (x ∷ xs) (y ∷ merged_after n (before ++ y ∷ []) z)) (sym is) (record {
          threads = λ t. ⊎_elim
              (λ (e : t ≡ u). own_in t y (merged_after n (before ++ y ∷ []) (lists_from 0 threads left)) (y_thread ∙ sym e) ∙ ap (λ z. y ∷ z) (r.threads t ∙ ap (λ z. entries_of z left) e ∙ without_own u y ys (x ∷ xs) o) ∙ sym (ap (λ z. entries_of z (x ∷ xs)) e ∙ o))
              (λ (ne : t ≡ u → ⊥). own_out t y (merged_after n (before ++ y ∷ []) (lists_from 0 threads left)) (λ q. ne (sym q ∙ y_thread)) ∙ r.threads t ∙ without_other u t (x ∷ xs) ne)
              (cases_eq t u);
          numbered = (ready, r.numbered);
        })

-- entries that are numbered from nothing are all taken by the written merge, in an order that is a merge
pub written_merges : (threads : ℕ) (xs : List Noted) → AllIn (λ x. x.entry.thread < threads) xs → IsNumbered [] xs → IsMerge (λ t. entries_of t xs) (written_merge (lists_from 0 threads xs))
written_merges threads xs within h =
    let w = AllIn-map (λ x. x.entry.thread < threads) (IsOfThreads threads) xs (λ x q. record { below = q }) within in
    let r = merges (total_length (lists_from 0 threads xs)) threads [] xs (long_enough threads xs w) w h in
    record { threads = r.threads; ascending = numbered_ascends [] _ r.numbered }
