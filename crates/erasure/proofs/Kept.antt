-- Where instructions stand once the weak ones are taken out.
use Rattle.std.proofs.Common.{◌≡◌, ℕ, zero, suc, Bool, true, false, List, [], ◌∷◌, length, Option, Some, None, refl, ap, ◌∙◌}
use Rattle.std.specs.Prelude.{if◌then◌else◌, slice_get, option_map, ◌&&◌, is_none}
use Rattle.flow_code.specs.declared.act.Act.{Act}
use Rattle.flow_code.specs.declared.act.Act.TheVariants as act
use Rattle.flow_code.specs.declared.act.Instr.{Instr}
use Rattle.flow_code.specs.Order.{makes_no_object, make_no_objects, objects_are_first}
use Rattle.flow_code.specs.Threads.{Object, object_of, and_objects, objects_of}
use Rattle.flow_code.specs.Next.{act_in}
use Rattle.weak_code.specs.Weakened.{retarget, at_instr}
use Rattle.weak_code.specs.Stripped.{is_weak, plain_of, stripped}
use Rattle.weak_code.proofs.Stripping.{plain_zero}

-- the instruction is a weak one
abbrev pub weak_at : Option Act → Bool
weak_at None = false
weak_at (Some a) = is_weak a

-- an instruction with other targets of its jumps
abbrev pub moved_instr : (ℕ → ℕ) → Instr → Instr
moved_instr to i = at_instr i (retarget to i.act)

kept_after : (b : Bool) (y : Instr) (xs : List Instr) (n : ℕ) → slice_get (if b then xs else y ∷ xs) (if b then n else suc n) ≡ slice_get xs n
kept_after true y xs n = refl
kept_after false y xs n = refl

-- an instruction that isn't weak stays, and what is after the last one has nothing there
pub kept_at : (to : ℕ → ℕ) (is : List Instr) (k : ℕ) → weak_at (act_in (slice_get is k)) ≡ false → slice_get (stripped to is) (plain_of is k) ≡ option_map (moved_instr to) (slice_get is k)
kept_at to [] k h = refl
kept_at to (i ∷ is) zero h = ap (λ b. slice_get (if b then stripped to is else moved_instr to i ∷ stripped to is) 0) h
kept_at to (i ∷ is) (suc k) h = kept_after (is_weak i.act) (moved_instr to i) (stripped to is) (plain_of is k) ∙ kept_at to is k h

-- after it the next place is one further
pub plain_next : (is : List Instr) (k : ℕ) (i : Instr) → slice_get is k ≡ Some i → is_weak i.act ≡ false → plain_of is (suc k) ≡ suc (plain_of is k)
plain_next [] k i e h = cc
plain_next (x ∷ is) zero i e h =
    let same : x ≡ i = cc in
    ap (λ b. if b then plain_of is 0 else suc (plain_of is 0)) (ap (λ (z : Instr). is_weak z.act) same ∙ h) ∙ ap suc (plain_zero is)
plain_next (x ∷ is) (suc k) i e h = by (is_weak x.act) (plain_next is k i e h)
  where
    by : (b : Bool) → plain_of is (suc k) ≡ suc (plain_of is k) → (if b then plain_of is (suc k) else suc (plain_of is (suc k))) ≡ suc (if b then plain_of is k else suc (plain_of is k))
    by true r = r
    by false r = ap suc r

-- after a weak one it is the same
pub plain_stays : (is : List Instr) (k : ℕ) → weak_at (act_in (slice_get is k)) ≡ true → plain_of is (suc k) ≡ plain_of is k
plain_stays [] k h = refl
plain_stays (x ∷ is) zero h = ap (λ b. if b then plain_of is 0 else suc (plain_of is 0)) h ∙ plain_zero is
plain_stays (x ∷ is) (suc k) h = by (is_weak x.act) (plain_stays is k h)
  where
    by : (b : Bool) → plain_of is (suc k) ≡ plain_of is k → (if b then plain_of is (suc k) else suc (plain_of is (suc k))) ≡ (if b then plain_of is k else suc (plain_of is k))
    by true r = r
    by false r = ap suc r

-- ---- the objects of a function's entry

-- they stand where they stood
pub plain_objects : (is : List Instr) → plain_of is (length (objects_of is)) ≡ length (objects_of is)
plain_objects [] = refl
plain_objects (i ∷ is) = by i.act (plain_objects is)
  where
    by : (a : Act) → plain_of is (length (objects_of is)) ≡ length (objects_of is) → plain_of (at_instr i a ∷ is) (length (and_objects (object_of a) (objects_of is))) ≡ length (and_objects (object_of a) (objects_of is))
    by (act.Alloc into site None) h = ap suc h
    by (act.Alloc into site (Some size)) h = refl
    by _ h = refl

both : (p q : Bool) → p && q ≡ true → (p ≡ true) × (q ≡ true)
both true q h = (refl, h)
both false q h = cc

pub same_object : (to : ℕ → ℕ) (a : Act) → object_of (retarget to a) ≡ object_of a
same_object to (act.Alloc into site None) = refl
same_object to (act.Alloc into site (Some size)) = refl
same_object to _ = refl

none_is : (o : Option Object) → is_none o ≡ true → o ≡ None
none_is None h = refl
none_is (Some x) h = cc

no_objects : (to : ℕ → ℕ) (is : List Instr) → make_no_objects is ≡ true → objects_of (stripped to is) ≡ []
no_objects to [] h = refl
no_objects to (i ∷ is) h =
    let b = both (makes_no_object i) (make_no_objects is) h in
    by (is_weak i.act) (no_objects to is b.1) (same_object to i.act ∙ none_is (object_of i.act) b.0)
  where
    by : (b : Bool) → objects_of (stripped to is) ≡ [] → object_of (retarget to i.act) ≡ None → objects_of (if b then stripped to is else moved_instr to i ∷ stripped to is) ≡ []
    by true rest none = rest
    by false rest none = ap (λ o. and_objects o (objects_of (stripped to is))) none

strong_object : (a : Act) (x : Object) → object_of a ≡ Some x → is_weak a ≡ false
strong_object (act.Take r) x h = cc
strong_object (act.Give r) x h = cc
strong_object _ x h = refl

-- and where all stand at the front of a function, they are the same
pub same_objects : (to : ℕ → ℕ) (is : List Instr) → objects_are_first is ≡ true → objects_of (stripped to is) ≡ objects_of is
same_objects to [] h = refl
same_objects to (i ∷ is) h = by (object_of i.act) refl (λ g. same_objects to is g) h
  where
    apart : (b : Bool) → objects_of (stripped to is) ≡ [] → object_of (retarget to i.act) ≡ None → objects_of (if b then stripped to is else moved_instr to i ∷ stripped to is) ≡ []
    apart true rest none = rest
    apart false rest none = ap (λ o. and_objects o (objects_of (stripped to is))) none

    by : (o : Option Object) → object_of i.act ≡ o → (objects_are_first is ≡ true → objects_of (stripped to is) ≡ objects_of is) → (if is_none o then make_no_objects is else objects_are_first is) ≡ true → objects_of (stripped to (i ∷ is)) ≡ and_objects o (objects_of is)
    by None e rest g = apart (is_weak i.act) (no_objects to is g) (same_object to i.act ∙ e)
    by (Some x) e rest g =
        ap (λ b. objects_of (if b then stripped to is else moved_instr to i ∷ stripped to is)) (strong_object i.act x e)
        ∙ ap (λ o. and_objects o (objects_of (stripped to is))) (same_object to i.act ∙ e)
        ∙ ap (λ os. x ∷ os) (rest g)
