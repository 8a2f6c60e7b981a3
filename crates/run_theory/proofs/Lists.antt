-- Lemmas on lists: reading what was written, and facts of each entry of a list.
use Rattle.std.proofs.Common.{◌≡◌, ◌≢◌, ℕ, zero, suc, List, [], ◌∷◌, ◌++◌, Some, refl, sym, ap, ◌∙◌, subst, ◌≤◌, ⊎_elim, eq-eqb, ne_eqb}
use Rattle.std.specs.Prelude.{slice_get, slice_set}
use Rattle.std.proofs.lemmas.Bool.{cases_eq}
use Rattle.sync_objects.specs.declared.entry.Noted.{Noted}
use Rattle.run_theory.specs.Steps.{entries_of}

pub slice_get-set_other : {X : Type 0} (xs : List X) (i j : ℕ) (x : X) → j ≢ i → slice_get (slice_set xs i x) j ≡ slice_get xs j
slice_get-set_other [] i j x ne = refl
slice_get-set_other (y ∷ ys) zero zero x ne = elim (ne refl) [ ]
slice_get-set_other (y ∷ ys) zero (suc j) x ne = refl
slice_get-set_other (y ∷ ys) (suc i) zero x ne = refl
slice_get-set_other (y ∷ ys) (suc i) (suc j) x ne = slice_get-set_other ys i j x (λ e. ne (ap suc e))

pub slice_get-set_same : {X : Type 0} (xs : List X) (i : ℕ) (x y : X) → slice_get xs i ≡ Some y → slice_get (slice_set xs i x) i ≡ Some x
slice_get-set_same [] i x y h = cc
slice_get-set_same (z ∷ zs) zero x y h = refl
slice_get-set_same (z ∷ zs) (suc i) x y h = slice_get-set_same zs i x y h

-- P holds of each entry
abbrev pub AllIn : (Noted → Type 0) → List Noted → Type 0
AllIn P [] = Unit {0}
AllIn P (x ∷ xs) = P x × AllIn P xs

pub AllIn-front : (P : Noted → Type 0) (xs ys : List Noted) → AllIn P (xs ++ ys) → AllIn P xs
AllIn-front P [] ys h = tt
AllIn-front P (x ∷ xs) ys h = (h.0, AllIn-front P xs ys h.1)

pub AllIn-back : (P : Noted → Type 0) (xs ys : List Noted) → AllIn P (xs ++ ys) → AllIn P ys
AllIn-back P [] ys h = h
AllIn-back P (x ∷ xs) ys h = AllIn-back P xs ys h.1

pub AllIn-append : (P : Noted → Type 0) (xs ys : List Noted) → AllIn P xs → AllIn P ys → AllIn P (xs ++ ys)
AllIn-append P [] ys h k = k
AllIn-append P (x ∷ xs) ys h k = (h.0, AllIn-append P xs ys h.1 k)

pub AllIn-map : (P Q : Noted → Type 0) (xs : List Noted) → ((x : Noted) → P x → Q x) → AllIn P xs → AllIn Q xs
AllIn-map P Q [] f h = tt
AllIn-map P Q (x ∷ xs) f h = (f x h.0, AllIn-map P Q xs f h.1)

-- e's number is not above x's, where they are of one object
abbrev pub IsFirst : Noted → Noted → Type 0
IsFirst e x = x.entry.obj ≡ e.entry.obj → e.number ≤ x.number

pub own_in : (t : ℕ) (x : Noted) (xs : List Noted) → x.entry.thread ≡ t → entries_of t (x ∷ xs) ≡ x ∷ entries_of t xs
own_in t x xs e = rw (eq-eqb x.entry.thread t e)

pub own_out : (t : ℕ) (x : Noted) (xs : List Noted) → x.entry.thread ≢ t → entries_of t (x ∷ xs) ≡ entries_of t xs
own_out t x xs ne = rw (ne_eqb x.entry.thread t ne)

pub entries_of-append : (t : ℕ) (xs ys : List Noted) → entries_of t (xs ++ ys) ≡ entries_of t xs ++ entries_of t ys
entries_of-append t [] ys = refl
entries_of-append t (x ∷ xs) ys =
    ⊎_elim
    (λ e. own_in t x (xs ++ ys) e ∙ ap (λ z. x ∷ z) (entries_of-append t xs ys) ∙ ap (λ z. z ++ entries_of t ys) (sym (own_in t x xs e)))
    (λ ne. own_out t x (xs ++ ys) ne ∙ entries_of-append t xs ys ∙ ap (λ z. z ++ entries_of t ys) (sym (own_out t x xs ne)))
    (cases_eq x.entry.thread t)

pub AllIn-entries_of : (P : Noted → Type 0) (t : ℕ) (xs : List Noted) → AllIn P xs → AllIn P (entries_of t xs)
AllIn-entries_of P t [] h = tt
AllIn-entries_of P t (x ∷ xs) h =
    ⊎_elim
    (λ e. subst (AllIn P) (sym (own_in t x xs e)) (h.0, AllIn-entries_of P t xs h.1))
    (λ ne. subst (AllIn P) (sym (own_out t x xs ne)) (AllIn-entries_of P t xs h.1))
    (cases_eq x.entry.thread t)

-- what holds of each thread's entries holds of all
pub AllIn-of_threads : (P : Noted → Type 0) (xs : List Noted) → ((t : ℕ) → AllIn P (entries_of t xs)) → AllIn P xs
AllIn-of_threads P [] h = tt
AllIn-of_threads P (x ∷ xs) h =
    let here = subst (AllIn P) (own_in x.entry.thread x xs refl) (h x.entry.thread) in
    (here.0, AllIn-of_threads P xs (λ t. ⊎_elim (λ e. (subst (AllIn P) (own_in t x xs e) (h t)).1) (λ ne. subst (AllIn P) (own_out t x xs ne) (h t)) (cases_eq x.entry.thread t)))

pub entries_of-thread : (t : ℕ) (xs : List Noted) → AllIn (λ x. x.entry.thread ≡ t) (entries_of t xs)
entries_of-thread t [] = tt
entries_of-thread t (x ∷ xs) = ⊎_elim (λ e. subst (AllIn (λ x. x.entry.thread ≡ t)) (sym (own_in t x xs e)) (e, entries_of-thread t xs)) (λ ne. subst (AllIn (λ x. x.entry.thread ≡ t)) (sym (own_out t x xs ne)) (entries_of-thread t xs)) (cases_eq x.entry.thread t)

pub nil_of_threads : (xs : List Noted) → ((t : ℕ) → entries_of t xs ≡ []) → xs ≡ []
nil_of_threads [] h = refl
nil_of_threads (x ∷ xs) h = cc (own_in x.entry.thread x xs refl, h x.entry.thread)

pub nil_front : {A : Type 0} (xs ys : List A) → xs ++ ys ≡ [] → xs ≡ []
nil_front [] ys h = refl
nil_front (x ∷ xs) ys h = cc

pub nil_back : {A : Type 0} (xs ys : List A) → xs ++ ys ≡ [] → ys ≡ []
nil_back [] ys h = h
nil_back (x ∷ xs) ys h = cc

pub nil_cons : {A : Type 0} (xs : List A) (e : A) (ys : List A) → xs ++ e ∷ ys ≡ [] → ⊥
nil_cons [] e ys h = cc
nil_cons (x ∷ xs) e ys h = cc
