-- The mutex or read-write lock of which a library call speaks, by the names of the call's arguments.
use Rattle.std.proofs.Common.{◌≡◌, ◌≢◌, ◌+◌, ℕ, zero, suc, subst, List, [], ◌∷◌, length, get_or, map, refl, sym, ap, ◌∙◌, ◌++◌, ◌≤◌, take, add-one, arith, Option, Some}
use Rattle.std.specs.Prelude.{slice_get}
use Rattle.word_semantics.specs.declared.library_call.LibraryCall.{LibraryCall}
use Rattle.word_semantics.specs.declared.library_call.LibraryCall.TheVariants as call
use Rattle.flow_code.specs.declared.code.Function.{Function}
use Rattle.facts.specs.declared.locks.Naming.{Naming}
use Rattle.facts.specs.declared.locks.Naming.TheVariants.{Unknown}
use Rattle.flow_code.specs.declared.act.Act.TheVariants as act
use Rattle.flow_code.specs.declared.act.Instr.{Instr}
use Rattle.facts.specs.declared.locks.LockPath.{LockPath}
use Rattle.std.proofs.lemmas.Option.{same_Some}
use Rattle.facts.specs.Locks.{actuals_at}
use Rattle.facts.specs.Paths.{naming_at, namings_from, argument_namings, arguments_of, actual_of}
use Rattle.facts.specs.Summaries.{lock_register, naming_in, lock_naming}
use Rattle.lockset_summary.specs.Names.{only_name, second_name, lock_name}

pub only_is : (ns : List Naming) (d : Naming) → length ns ≡ 1 → get_or ns 0 d ≡ only_name ns
only_is [] d h = absurd (omega (arith, h))
only_is (m ∷ []) d h = refl
only_is (m ∷ n ∷ ns) d h = absurd (omega (arith, h))

pub not_only : (ns : List Naming) → length ns ≢ 1 → Unknown ≡ only_name ns
not_only [] h = refl
not_only (m ∷ []) h = absurd (h refl)
not_only (m ∷ n ∷ ns) h = refl

pub second_is : (ns : List Naming) (d : Naming) → length ns ≡ 2 → get_or ns 1 d ≡ second_name ns
second_is [] d h = absurd (omega (arith, h))
second_is (m ∷ []) d h = absurd (omega (arith, h))
second_is (m ∷ n ∷ []) d h = refl
second_is (m ∷ n ∷ o ∷ ns) d h = absurd (omega (arith, h))

pub not_second : (ns : List Naming) → length ns ≢ 2 → Unknown ≡ second_name ns
not_second [] h = refl
not_second (m ∷ []) h = refl
not_second (m ∷ n ∷ []) h = absurd (h refl)
not_second (m ∷ n ∷ o ∷ ns) h = refl

pub lock_named : (f : Function) (k : ℕ) (c : LibraryCall) (arguments : List ℕ) → lock_name c (map (naming_at f k) arguments) ≡ naming_in f k (lock_register c arguments)
lock_named f k call.MutexInit [] = refl
lock_named f k call.MutexInit (m ∷ []) = refl
lock_named f k call.MutexInit (m ∷ n ∷ rs) = refl
lock_named f k call.MutexLock [] = refl
lock_named f k call.MutexLock (m ∷ []) = refl
lock_named f k call.MutexLock (m ∷ n ∷ rs) = refl
lock_named f k call.MutexUnlock [] = refl
lock_named f k call.MutexUnlock (m ∷ []) = refl
lock_named f k call.MutexUnlock (m ∷ n ∷ rs) = refl
lock_named f k call.MutexTryLock [] = refl
lock_named f k call.MutexTryLock (m ∷ []) = refl
lock_named f k call.MutexTryLock (m ∷ n ∷ rs) = refl
lock_named f k call.MutexDestroy [] = refl
lock_named f k call.MutexDestroy (m ∷ []) = refl
lock_named f k call.MutexDestroy (m ∷ n ∷ rs) = refl
lock_named f k call.CondWait [] = refl
lock_named f k call.CondWait (c ∷ []) = refl
lock_named f k call.CondWait (c ∷ m ∷ []) = refl
lock_named f k call.CondWait (c ∷ m ∷ n ∷ rs) = refl
lock_named f k (call.Create g) arguments = refl
lock_named f k call.Join arguments = refl
lock_named f k call.Exit arguments = refl
lock_named f k call.SelfNumber arguments = refl
lock_named f k call.SameThread arguments = refl
lock_named f k call.CondInit arguments = refl
lock_named f k call.CondSignal arguments = refl
lock_named f k call.CondDestroy arguments = refl
lock_named f k call.BarrierInit arguments = refl
lock_named f k call.BarrierWait arguments = refl
lock_named f k call.BarrierDestroy arguments = refl
lock_named f k call.RwInit [] = refl
lock_named f k call.RwInit (m ∷ []) = refl
lock_named f k call.RwInit (m ∷ n ∷ rs) = refl
lock_named f k call.RwRdLock [] = refl
lock_named f k call.RwRdLock (m ∷ []) = refl
lock_named f k call.RwRdLock (m ∷ n ∷ rs) = refl
lock_named f k call.RwWrLock [] = refl
lock_named f k call.RwWrLock (m ∷ []) = refl
lock_named f k call.RwWrLock (m ∷ n ∷ rs) = refl
lock_named f k call.RwUnlock [] = refl
lock_named f k call.RwUnlock (m ∷ []) = refl
lock_named f k call.RwUnlock (m ∷ n ∷ rs) = refl
lock_named f k call.RwDestroy [] = refl
lock_named f k call.RwDestroy (m ∷ []) = refl
lock_named f k call.RwDestroy (m ∷ n ∷ rs) = refl
lock_named f k call.Free arguments = refl
lock_named f k call.GetChar arguments = refl
lock_named f k (call.Print format) arguments = refl
lock_named f k call.PutChar arguments = refl

-- ---- the names of the arguments of an instruction

namings_at : (f : Function) (m : ℕ) (is : List Instr) (k : ℕ) (i : Instr) → slice_get is k ≡ Some i → slice_get (namings_from f m is) k ≡ Some (map (naming_at f (m + k)) (arguments_of i.act))
namings_at f m [] k i h = cc
namings_at f m (j ∷ is) zero i h = let e : m + 0 ≡ m = omega arith in subst (λ n. Some (map (naming_at f m) (arguments_of j.act)) ≡ Some (map (naming_at f n) (arguments_of i.act))) (sym e) (ap (λ z. Some (map (naming_at f m) (arguments_of z.act))) (same_Some j i h))
namings_at f m (j ∷ is) (suc k) i h = let e : suc m + k ≡ m + suc k = omega arith in subst (λ n. slice_get (namings_from f (suc m) is) k ≡ Some (map (naming_at f n) (arguments_of i.act))) e (namings_at f (suc m) is k i h)

long_namings : (f : Function) (m : ℕ) (is : List Instr) → length (namings_from f m is) ≡ length is
long_namings f m [] = refl
long_namings f m (i ∷ is) = ap suc (long_namings f (suc m) is)

pub names_long : (f : Function) (names : List (List Naming)) → names ≡ argument_namings f → length names ≡ length f.instrs
names_long f names e = ap (λ (z : List (List Naming)). length z) e ∙ long_namings f 0 f.instrs

pub names_there : (f : Function) (names : List (List Naming)) (k : ℕ) (ns : List Naming) (i : Instr) → names ≡ argument_namings f → slice_get names k ≡ Some ns → slice_get f.instrs k ≡ Some i → ns ≡ map (naming_at f k) (arguments_of i.act)
names_there f names k ns i e h at = let z : 0 + k ≡ k = omega arith in
    same_Some ns (map (naming_at f k) (arguments_of i.act)) (sym h ∙ ap (λ y. slice_get y k) e ∙ subst (λ n. slice_get (namings_from f 0 f.instrs) k ≡ Some (map (naming_at f n) (arguments_of i.act))) z (namings_at f 0 f.instrs k i at))

pub actuals_there : (f : Function) (k : ℕ) (arguments : List ℕ) → map actual_of (map (naming_at f k) arguments) ≡ actuals_at f k arguments
actuals_there f k [] = refl
actuals_there f k (r ∷ rs) = ap (λ z. actual_of (naming_at f k r) ∷ z) (actuals_there f k rs)

-- ---- what an instruction's names tell

pub name_is : (f : Function) (k : ℕ) (i : Instr) (c : LibraryCall) (arguments : List ℕ) (into : Option ℕ) (ns : List Naming) (n : Naming) → i.act ≡ act.Library c arguments into → ns ≡ map (naming_at f k) (arguments_of i.act) → n ≡ lock_name c ns → n ≡ lock_naming f k i.act
name_is f k i c arguments into ns n is e h = h ∙ ap (lock_name c) (e ∙ ap (λ a. map (naming_at f k) (arguments_of a)) is) ∙ lock_named f k c arguments ∙ ap (lock_naming f k) (sym is)

pub actuals_are : (f : Function) (k : ℕ) (i : Instr) (g : ℕ) (arguments : List ℕ) (into : Option ℕ) (ns : List Naming) (made zs : List (Option LockPath)) → i.act ≡ act.Call g arguments into → ns ≡ map (naming_at f k) (arguments_of i.act) → made ≡ map actual_of ns → zs ≡ made → zs ≡ actuals_at f k arguments
actuals_are f k i g arguments into ns made zs is e h j = j ∙ h ∙ ap (map actual_of) (e ∙ ap (λ a. map (naming_at f k) (arguments_of a)) is) ∙ actuals_there f k arguments

-- ---- lists made item by item

pub map_more : {X Y : Type 0} (f : X → Y) (xs : List X) (k : ℕ) (x : X) (ys : List Y) → slice_get xs k ≡ Some x → ys ≡ map f (take k xs) → ys ++ f x ∷ [] ≡ map f (take (k + 1) xs)
map_more f xs k x ys at e = ap (λ z. z ++ f x ∷ []) e ∙ subst (λ n. map f (take k xs) ++ f x ∷ [] ≡ map f (take n xs)) (sym (add-one k)) (go f xs k x at)
  where
    go : {X Y : Type 0} (f : X → Y) (xs : List X) (k : ℕ) (x : X) → slice_get xs k ≡ Some x → map f (take k xs) ++ f x ∷ [] ≡ map f (take (suc k) xs)
    go f [] k x at = cc
    go f (y ∷ ys) zero x at = ap (λ z. f z ∷ []) (sym (same_Some y x at))
    go f (y ∷ ys) (suc k) x at = ap (λ z. f y ∷ z) (go f ys k x at)

pub map_all : {X Y : Type 0} (f : X → Y) (xs : List X) (k : ℕ) (ys : List Y) → length xs ≤ k → ys ≡ map f (take k xs) → ys ≡ map f xs
map_all f xs k ys le e = e ∙ go f xs k le
  where
    go : {X Y : Type 0} (f : X → Y) (xs : List X) (k : ℕ) → length xs ≤ k → map f (take k xs) ≡ map f xs
    go f [] zero le = refl
    go f [] (suc k) le = refl
    go f (y ∷ ys) zero le = absurd (omega arith)
    go f (y ∷ ys) (suc k) le = ap (λ z. f y ∷ z) (go f ys k (omega arith))

pub map_at : {X Y : Type 0} (f : X → Y) (xs : List X) (ys : List Y) (k : ℕ) (x : X) (y : Y) → ys ≡ map f xs → slice_get xs k ≡ Some x → slice_get ys k ≡ Some y → y ≡ f x
map_at f xs ys k x y e at h = go f xs k (ap (λ z. slice_get z k) (sym e) ∙ h) at
  where
    go : {X Y : Type 0} (f : X → Y) {y : Y} {x : X} (xs : List X) (k : ℕ) → slice_get (map f xs) k ≡ Some y → slice_get xs k ≡ Some x → y ≡ f x
    go f [] k h at = cc
    go f {y} {x} (z ∷ zs) zero h at = sym (same_Some (f z) y h) ∙ ap f (same_Some z x at)
    go f (z ∷ zs) (suc k) h at = go f zs k h at
