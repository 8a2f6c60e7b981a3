-- Loops over a slice from its front: what holds after one item more.
use Rattle.std.proofs.Common.{◌≡◌, ℕ, zero, suc, ◌+◌, ◌-◌, ◌≤◌, List, [], ◌∷◌, ◌++◌, length, map, take, drop, get_or, Some, refl, sym, ap, subst, ◌∙◌, arith, append_assoc}
use Rattle.std.specs.Prelude.{slice_get}
use Rattle.std.proofs.lemmas.List.{map-append, take_rest}
use Rattle.std.proofs.lemmas.Option.{same_Some}
use Rattle.sync_objects.specs.Setup.{SetupView}
use Rattle.flow_code.specs.declared.code.Code.{Code}
use Rattle.flow_code.specs.Ranges.{InRange}
use Rattle.thread_interpreter.specs.Flows.{Running, most_extra}
use Rattle.thread_interpreter.specs.Parts.{part_of, thread_of}
use Rattle.thread_interpreter.specs.declared.part.ThreadPart.{ThreadPart}
use Rattle.core_run.specs.Shown.{running_thread}

-- the first item and those after it
pub first_is : {A : Type 0} (xs : List A) (x : A) → 1 ≤ length xs → x ≡ get_or xs 0 x → xs ≡ x ∷ take (length xs - 1) (drop 1 xs)
first_is [] x lt is = absurd (omega (arith, lt))
first_is (y ∷ ys) x lt is = ap (λ z. z ∷ ys) (sym is) ∙ ap (λ z. x ∷ z) (sym (take_rest (y ∷ ys) 1))

-- so many are left
pub place_rest : {A : Type 0} (n m : ℕ) (xs more : List A) (x : A) → xs ≡ x ∷ more → n + length xs ≡ m → n + 1 + length more ≡ m
place_rest n m xs more x e h = omega (arith, ap length e, h)

-- ---- threads of parts

pub range_first : (code : Code) (s : SetupView) (n : ℕ) (xs more : List ThreadPart) (x : ThreadPart) → xs ≡ x ∷ more → ((t : ℕ) (p : ThreadPart) → slice_get xs t ≡ Some p → InRange code s most_extra (n + t) (thread_of p)) → InRange code s most_extra n (thread_of x)
range_first code s n xs more x e h = let same : n + 0 ≡ n = omega arith in subst (λ k. InRange code s most_extra k (thread_of x)) same (h 0 x (ap (λ z. slice_get z 0) e))

pub range_rest : (code : Code) (s : SetupView) (n : ℕ) (xs more : List ThreadPart) (x : ThreadPart) → xs ≡ x ∷ more → ((t : ℕ) (p : ThreadPart) → slice_get xs t ≡ Some p → InRange code s most_extra (n + t) (thread_of p)) → (t : ℕ) (p : ThreadPart) → slice_get more t ≡ Some p → InRange code s most_extra (n + 1 + t) (thread_of p)
range_rest code s n xs more x e h t p at = let same : n + suc t ≡ n + 1 + t = omega arith in subst (λ k. InRange code s most_extra k (thread_of p)) same (h (suc t) p (ap (λ z. slice_get z (suc t)) e ∙ at))

pub threads_more : (flows flows1 : List Running) (r : Running) (xs more all : List ThreadPart) (x : ThreadPart) → flows1 ≡ flows ++ r ∷ [] → xs ≡ x ∷ more → r.kept.thread ≡ thread_of x → map running_thread flows ++ map thread_of xs ≡ map thread_of all → map running_thread flows1 ++ map thread_of more ≡ map thread_of all
threads_more flows flows1 r xs more all x i e f h =
    ap (λ z. map running_thread z ++ map thread_of more) i
    ∙ ap (λ z. z ++ map thread_of more) (map-append running_thread flows (r ∷ []))
    ∙ append_assoc (map running_thread flows) (r.kept.thread ∷ []) (map thread_of more)
    ∙ ap (λ z. map running_thread flows ++ z ∷ map thread_of more) f
    ∙ ap (λ z. map running_thread flows ++ map thread_of z) (sym e)
    ∙ h

-- ---- parts of threads

pub parts_more : (parts parts1 : List ThreadPart) (p : ThreadPart) (xs more : List Running) (all : List ThreadPart) (x : Running) → parts1 ≡ parts ++ p ∷ [] → xs ≡ x ∷ more → p ≡ part_of x.kept.thread → parts ++ map (λ (r : Running). part_of r.kept.thread) xs ≡ all → parts1 ++ map (λ (r : Running). part_of r.kept.thread) more ≡ all
parts_more parts parts1 p xs more all x i e f h =
    let fs = map (λ (r : Running). part_of r.kept.thread) more in
    ap (λ z. z ++ fs) i
    ∙ append_assoc parts (p ∷ []) fs
    ∙ ap (λ z. parts ++ z ∷ fs) f
    ∙ ap (λ z. parts ++ map (λ (r : Running). part_of r.kept.thread) z) (sym e)
    ∙ h

-- what holds of the first and of each other holds of all
pub each_more : (P : Running → Type 0) (xs more : List Running) (x : Running) → xs ≡ x ∷ more → P x → ((k : ℕ) (r : Running) → slice_get more k ≡ Some r → P r) → (k : ℕ) (r : Running) → slice_get xs k ≡ Some r → P r
each_more P xs more x e first rest k r at = by k (ap (λ z. slice_get z k) (sym e) ∙ at)
  where
    by : (j : ℕ) → slice_get (x ∷ more) j ≡ Some r → P r
    by zero h = subst P (same_Some x r h) first
    by (suc j) h = rest j r h

pub each_rest : (P : Running → Type 0) (xs more : List Running) (x : Running) → xs ≡ x ∷ more → ((k : ℕ) (r : Running) → slice_get xs k ≡ Some r → P r) → (k : ℕ) (r : Running) → slice_get more k ≡ Some r → P r
each_rest P xs more x e h k r at = h (suc k) r (ap (λ z. slice_get z (suc k)) e ∙ at)
