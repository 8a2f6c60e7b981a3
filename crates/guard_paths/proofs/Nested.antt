-- How regions are entered and left.
use Rattle.std.proofs.Common.{◌≡◌, ℕ, zero, suc, ◌+◌, ◌-◌, ◌<◌, ◌≤◌, ◌&&◌, ◌||◌, Bool, true, false, not, List, [], ◌∷◌, length, refl, sym, ap, ◌∙◌, subst, arith, Option, Some, None, ◌⊎◌, inl, inr, ⊎_elim, take, drop}
use Rattle.std.specs.Prelude.{slice_get, if◌then◌else◌, nat_le, nat_lt, ◌==◌}
use Rattle.std.specs.List.{list_any, Contains}
use Rattle.std.proofs.lemmas.Bool.{cases_lt}
use Rattle.std.proofs.lemmas.Bool.Decides.{nat_tests}
use Rattle.std.proofs.lemmas.Option.{same_Some, slice_get_within}
use Rattle.flow_code.specs.declared.act.Act.{Act}
use Rattle.flow_code.specs.declared.act.Act.TheVariants as act
use Rattle.flow_code.specs.declared.act.Instr.{Instr}
use Rattle.flow_code.specs.declared.code.LoopInfo.{LoopInfo}
use Rattle.flow_code.specs.Next.{act_in}
use Rattle.flow_code.specs.Order.{is_end, ends_in_itself, is_mark, jump_fits, jumps_fit_at, jumps_fit, objects_are_first, order_fits}
use Rattle.flow_code.specs.Threads.{object_of, objects_of}
use Rattle.facts.specs.Blocks.{ends_block, goes_to, is_target}
use Rattle.weak_lock_facts.specs.Loops.{nth, is_jump, is_within, goes_into, none_goes_into, condition_end, last_part_at, is_entered_at, is_entered_so}
use Rattle.weak_code.specs.declared.stretch.Stretch.{Stretch}
use Rattle.weak_code.specs.Places.{begins_at, ends_before, covers}
use Rattle.weak_code.proofs.Stripping.{IsPlain, ArePlain}
use Rattle.guard_paths.specs.LoopsClosed.{is_inside, jump_keeps, act_keeps, instrs_keep, loop_is_closed}
use Rattle.guard_paths.specs.Ways.{nexts}
use Rattle.weak_valid.proofs.Tests.{both, all_at, found}
use Rattle.weak_valid.proofs.OrderFits.{plain_at, jumps_at}
use Rattle.guard_paths.proofs.Passing.{IsNested, either}
use Rattle.weak_valid.proofs.RegionsFit.{past_objects}
use Rattle.guard_paths.proofs.Standing.{one_if, Enters}

-- ---- edges

-- a jump or branch from the k-th instruction goes to j
abbrev pub Jumps : Act → ℕ → Type 0
Jumps (act.Jump to) j = j ≡ to
Jumps (act.Branch on then_at else_at) j = (j ≡ then_at) ⊎ (j ≡ else_at)
Jumps _ j = ⊥

pub edge : (a : Act) (k j : ℕ) → Contains (nexts a k) j → (Jumps a j) ⊎ ((j ≡ k + 1) × (is_end (Some a) ≡ false))
edge (act.Jump to) k j (zero, lt, e) = inl (sym e)
edge (act.Jump to) k j (suc n, lt, e) = absurd (omega (arith, lt))
edge (act.Branch on then_at else_at) k j c = inl (either then_at else_at j c)
edge (act.Return value) k j (n, lt, e) = absurd (omega (arith, lt))
edge _ k j (zero, lt, e) = inr (sym e, refl)
edge _ k j (suc n, lt, e) = absurd (omega (arith, lt))

jump_within : (n : ℕ) (a : Act) (j : ℕ) → IsPlain n a → Jumps a j → j < n
jump_within n (act.Jump to) j p e = omega (arith, p, e)
jump_within n (act.Branch on then_at else_at) j p (inl e) = omega (arith, p.0, e)
jump_within n (act.Branch on then_at else_at) j p (inr e) = omega (arith, p.1, e)
jump_within n _ j p e = absurd e

jump_fit : (is : List Instr) (k : ℕ) (a : Act) (j : ℕ) → jumps_fit_at is k a ≡ true → Jumps a j → jump_fits is k j ≡ true
jump_fit is k (act.Jump to) j f e = ap (jump_fits is k) e ∙ f
jump_fit is k (act.Branch on then_at else_at) j f (inl e) = ap (jump_fits is k) e ∙ (both (jump_fits is k then_at) (jump_fits is k else_at) f).0
jump_fit is k (act.Branch on then_at else_at) j f (inr e) = ap (jump_fits is k) e ∙ (both (jump_fits is k then_at) (jump_fits is k else_at) f).1
jump_fit is k _ j f e = absurd e

-- ---- in a function

-- where the edges of a function's instructions go
pub record AreEdges (is : List Instr) : Type 0 where
  pub within : (k j : ℕ) (i : Instr) → slice_get is k ≡ Some i → Contains (nexts i.act k) j → j < length is
  pub back : (k j : ℕ) (i : Instr) → slice_get is k ≡ Some i → Contains (nexts i.act k) j → j ≤ k → is_mark (nth is j) ≡ true
  pub objects : (k : ℕ) (i : Instr) → slice_get is k ≡ Some i → k < length (objects_of is) → is_end (Some i.act) ≡ false
  pub begins : length (objects_of is) < length is

objects_go : (is : List Instr) (k : ℕ) (i : Instr) → slice_get is k ≡ Some i → k < length (objects_of is) → is_end (Some i.act) ≡ false
objects_go is k i at lt = go i.act refl
  where
    late : object_of i.act ≡ None → is_end (Some i.act) ≡ false
    late n = absurd (omega (arith, lt, past_objects is k i at n))

    go : (a : Act) → i.act ≡ a → is_end (Some a) ≡ false
    go (act.Jump to) e = absurd (omega (arith, lt, past_objects is k i at (ap object_of e)))
    go (act.Branch on then_at else_at) e = absurd (omega (arith, lt, past_objects is k i at (ap object_of e)))
    go (act.Return value) e = absurd (omega (arith, lt, past_objects is k i at (ap object_of e)))
    go _ e = refl

end_of : (is : List Instr) (k : ℕ) (i : Instr) → ends_in_itself is ≡ true → slice_get is k ≡ Some i → k + 1 ≡ length is → is_end (Some i.act) ≡ true
end_of is k i f at e =
    let q : length is - 1 ≡ k = omega (arith, e) in
    sym (ap (λ o. is_end (act_in o)) at) ∙ ap (λ m. is_end (act_in (slice_get is m))) (sym q) ∙ f

not_both : (b : Bool) → b ≡ true → b ≡ false → ⊥
not_both true p q = cc
not_both false p q = cc

pub edges : (is : List Instr) → ArePlain (length is) is → order_fits is ≡ true → AreEdges is
edges is plain order = record { within = within; back = back; objects = objects_go is; begins = first }
  where
    in_itself : ends_in_itself is ≡ true
    in_itself = (both (ends_in_itself is) (jumps_fit is 0 is) (both (ends_in_itself is && jumps_fit is 0 is) (objects_are_first is) order).0).0

    fits : (k : ℕ) (i : Instr) → slice_get is k ≡ Some i → jumps_fit_at is k i.act ≡ true
    fits k i at =
        let z : 0 + k ≡ k = omega arith in
        subst (λ n. jumps_fit_at is n i.act ≡ true) z (jumps_at is 0 is k i (both (ends_in_itself is) (jumps_fit is 0 is) (both (ends_in_itself is && jumps_fit is 0 is) (objects_are_first is) order).0).1 at)

    within : (k j : ℕ) (i : Instr) → slice_get is k ≡ Some i → Contains (nexts i.act k) j → j < length is
    within k j i at c =
        ⊎_elim (λ (e : Jumps i.act j). jump_within (length is) i.act j (plain_at (length is) is k i plain at) e)
        (λ (e : (j ≡ k + 1) × (is_end (Some i.act) ≡ false)). ⊎_elim (λ (lt : k + 1 < length is). omega (arith, e.0, lt)) (λ ge. absurd (not_both (is_end (Some i.act)) (end_of is k i in_itself at (omega (arith, ge, slice_get_within is k i at))) e.1)) (cases_lt (k + 1) (length is)))
        (edge i.act k j c)

    marked : (k j : ℕ) → jump_fits is k j ≡ true → j ≤ k → is_mark (nth is j) ≡ true
    marked k j f le = let no : nat_lt k j ≡ false = grind (arith, nat_tests, le) in second (nat_lt k j) (is_mark (nth is j)) no f
      where
        second : (p q : Bool) → p ≡ false → (p || q) ≡ true → q ≡ true
        second true q e h = cc
        second false q e h = h

    back : (k j : ℕ) (i : Instr) → slice_get is k ≡ Some i → Contains (nexts i.act k) j → j ≤ k → is_mark (nth is j) ≡ true
    back k j i at c le =
        ⊎_elim (λ (e : Jumps i.act j). marked k j (jump_fit is k i.act j (fits k i at) e) le)
        (λ (e : (j ≡ k + 1) × (is_end (Some i.act) ≡ false)). absurd (omega (arith, e.0, le)))
        (edge i.act k j c)

    first : length (objects_of is) < length is
    first = ⊎_elim (λ (lt : length (objects_of is) < length is). lt) (λ ge. absurd (bad is in_itself ge)) (cases_lt (length (objects_of is)) (length is))
      where
        bad : (is : List Instr) → ends_in_itself is ≡ true → length is ≤ length (objects_of is) → ⊥
        bad [] h ge = cc
        bad (x ∷ xs) h ge =
            let y = found (x ∷ xs) (length xs) (omega arith) in
            not_both (is_end (Some y.0.act)) (end_of (x ∷ xs) (length xs) y.0 h y.1 (omega arith)) (objects_go (x ∷ xs) (length xs) y.0 y.1 (omega (arith, ge)))

-- ---- a region is entered at its front and left at its end

abbrev pub IsIn : Stretch → ℕ → Type 0
IsIn s k = (s.first ≤ k) × (k ≤ s.last)

abbrev pub IsOut : Stretch → ℕ → Type 0
IsOut s k = (k < s.first) ⊎ (s.last < k)

pub record IsClosed (is : List Instr) (s : Stretch) : Type 0 where
  pub long : s.first ≤ s.last
  pub following : length (objects_of is) ≤ s.first
  pub entered : (k j : ℕ) (i : Instr) → slice_get is k ≡ Some i → Contains (nexts i.act k) j → IsIn s j → IsOut s k → (k < j) × (j ≡ s.first)
  pub ended : (k j : ℕ) (i : Instr) → slice_get is k ≡ Some i → Contains (nexts i.act k) j → IsIn s k → IsOut s j → (k < j) × (j ≡ s.last + 1)

pub covers_in : (s : Stretch) (k : ℕ) → IsIn s k → covers k s ≡ true
covers_in s k h = two_true (nat_le s.first k) (nat_le k s.last) (grind (arith, nat_tests, h.0)) (grind (arith, nat_tests, h.1))
  where
    two_true : (p q : Bool) → p ≡ true → q ≡ true → (p && q) ≡ true
    two_true true q h k = k
    two_true false q h k = cc

covers_out : (s : Stretch) (k : ℕ) → IsOut s k → covers k s ≡ false
covers_out s k (inl lt) = let e : nat_le s.first k ≡ false = grind (arith, nat_tests, lt) in ap (λ b. b && nat_le k s.last) e
covers_out s k (inr lt) = let e : nat_le k s.last ≡ false = grind (arith, nat_tests, lt) in ap (λ b. nat_le s.first k && b) e ∙ none (nat_le s.first k)
  where
    none : (b : Bool) → (b && false) ≡ false
    none true = refl
    none false = refl

in_or_out : (s : Stretch) (k : ℕ) → IsIn s k ⊎ IsOut s k
in_or_out s k = ⊎_elim (λ (lt : k < s.first). inr (inl lt)) (λ ge. ⊎_elim (λ (lt : s.last < k). inr (inr lt)) (λ le. inl (ge, le)) (cases_lt s.last k)) (cases_lt k s.first)

-- by the tests
enters_by : (s : Stretch) (k j : ℕ) → s.first ≤ s.last → k < j → (s.last + 1 ≡ j) ⊎ ((s.first ≡ j) ⊎ (covers k s ≡ covers j s)) → Enters (ends_before j s) (begins_at j s) (covers j s) (if covers k s then 1 else 0)
enters_by s k j long lt h = go (ends_before j s) (begins_at j s) refl refl
  where
    few : (b : Bool) → (if b then 1 else 0) ≤ 1
    few true = omega arith
    few false = omega arith

    apart : s.first ≡ j → one_if (covers k s) ≡ 0
    apart e = ap one_if (covers_out s k (inl (omega (arith, e, lt))))

    go : (e f : Bool) → ends_before j s ≡ e → begins_at j s ≡ f → Enters e f (covers j s) (if covers k s then 1 else 0)
    go true f p q = few (covers k s)
    go false true p q = apart (grind (arith, nat_tests, q))
    go false false p q =
        ⊎_elim
        (λ (e : s.last + 1 ≡ j). absurd (let t : (s.last + 1 == j) ≡ true = grind (arith, nat_tests, e) in not_both (s.last + 1 == j) t p))
        (λ r. ⊎_elim
        (λ (e : s.first ≡ j). absurd (let t : (s.first == j) ≡ true = grind (arith, nat_tests, e) in not_both (s.first == j) t q))
        (λ (e : covers k s ≡ covers j s). ap (λ b. if b then 1 else 0) e) r)
        h

pub nests : (is : List Instr) (s : Stretch) → IsClosed is s → IsNested is s
nests is s h = record { long = h.long; following = h.following; forth = λ k j i at c lt. enters_by s k j h.long lt (forth k j i at c lt); back = back }
  where
    forth : (k j : ℕ) (i : Instr) → slice_get is k ≡ Some i → Contains (nexts i.act k) j → k < j → (s.last + 1 ≡ j) ⊎ ((s.first ≡ j) ⊎ (covers k s ≡ covers j s))
    forth k j i at c lt =
        ⊎_elim
        (λ (a : IsIn s k). ⊎_elim (λ (b : IsIn s j). inr (inr (covers_in s k a ∙ sym (covers_in s j b)))) (λ (b : IsOut s j). inl (sym (h.ended k j i at c a b).1)) (in_or_out s j))
        (λ (a : IsOut s k). ⊎_elim (λ (b : IsIn s j). inr (inl (sym (h.entered k j i at c b a).1))) (λ (b : IsOut s j). inr (inr (covers_out s k a ∙ sym (covers_out s j b)))) (in_or_out s j))
        (in_or_out s k)

    back : (k j : ℕ) (i : Instr) → slice_get is k ≡ Some i → Contains (nexts i.act k) j → j ≤ k → covers k s ≡ covers j s
    back k j i at c le =
        ⊎_elim
        (λ (a : IsIn s k). ⊎_elim (λ (b : IsIn s j). covers_in s k a ∙ sym (covers_in s j b)) (λ (b : IsOut s j). absurd (omega (arith, (h.ended k j i at c a b).0, le))) (in_or_out s j))
        (λ (a : IsOut s k). ⊎_elim (λ (b : IsIn s j). absurd (omega (arith, (h.entered k j i at c b a).0, le))) (λ (b : IsOut s j). covers_out s k a ∙ sym (covers_out s j b)) (in_or_out s j))
        (in_or_out s k)

-- ---- the region of a function

mark_late : (is : List Instr) (j : ℕ) → is_mark (nth is j) ≡ true → length (objects_of is) ≤ j
mark_late is j h = go (slice_get is j) refl h
  where
    object : (a : Act) → is_mark (Some a) ≡ true → object_of a ≡ None
    object (act.Alloc into site size) h = cc
    object _ h = refl

    go : (o : Option Instr) → slice_get is j ≡ o → is_mark (act_in o) ≡ true → length (objects_of is) ≤ j
    go None e h = cc
    go (Some i) e h = past_objects is j i e (object i.act h)

not_jump : (a : Act) (j : ℕ) → is_end (Some a) ≡ false → Jumps a j → ⊥
not_jump (act.Jump to) j e h = cc
not_jump (act.Branch on then_at else_at) j e h = cc
not_jump _ j e h = h

pub whole_closed : (is : List Instr) (s : Stretch) → AreEdges is → s.first ≡ length (objects_of is) → s.last + 1 ≡ length is → IsClosed is s
whole_closed is s es f l = record { long = omega (arith, f, l, es.begins); following = omega (arith, f); entered = entered; ended = ended }
  where
    entered : (k j : ℕ) (i : Instr) → slice_get is k ≡ Some i → Contains (nexts i.act k) j → IsIn s j → IsOut s k → (k < j) × (j ≡ s.first)
    entered k j i at c b (inr lt) = absurd (omega (arith, lt, l, slice_get_within is k i at))
    entered k j i at c b (inl lt) =
        ⊎_elim
        (λ (e : Jumps i.act j). absurd (not_jump i.act j (es.objects k i at (omega (arith, lt, f))) e))
        (λ (e : (j ≡ k + 1) × (is_end (Some i.act) ≡ false)). (omega (arith, e.0), omega (arith, e.0, lt, b.0)))
        (edge i.act k j c)

    ended : (k j : ℕ) (i : Instr) → slice_get is k ≡ Some i → Contains (nexts i.act k) j → IsIn s k → IsOut s j → (k < j) × (j ≡ s.last + 1)
    ended k j i at c a (inl lt) = absurd (omega (arith, mark_late is j (es.back k j i at c (omega (arith, lt, a.0))), lt, f))
    ended k j i at c a (inr lt) = absurd (omega (arith, lt, l, es.within k j i at c))

-- ---- the region of a counted loop

pub keeps_at : (a b n : ℕ) (is : List Instr) (k : ℕ) (i : Instr) → instrs_keep a b n is ≡ true → slice_get is k ≡ Some i → act_keeps a b (n + k) i.act ≡ true
keeps_at a b n [] k i h g = cc
keeps_at a b n (x ∷ is) zero i h g =
    let e : n ≡ n + 0 = omega arith in
    subst (λ m. act_keeps a b m i.act ≡ true) e (subst (λ (y : Instr). act_keeps a b n y.act ≡ true) (same_Some x i g) (both (act_keeps a b n x.act) (instrs_keep a b (n + 1) is) h).0)
keeps_at a b n (x ∷ is) (suc k) i h g =
    let e : (n + 1) + k ≡ n + suc k = omega arith in
    subst (λ m. act_keeps a b m i.act ≡ true) e (keeps_at a b (n + 1) is k i (both (act_keeps a b n x.act) (instrs_keep a b (n + 1) is) h).1 g)

jump_kept : (a b k : ℕ) (x : Act) (j : ℕ) → act_keeps a b k x ≡ true → Jumps x j → jump_keeps a b k j ≡ true
jump_kept a b k (act.Jump to) j h e = ap (jump_keeps a b k) e ∙ h
jump_kept a b k (act.Branch on then_at else_at) j h (inl e) = ap (jump_keeps a b k) e ∙ (both (jump_keeps a b k then_at) (jump_keeps a b k else_at) h).0
jump_kept a b k (act.Branch on then_at else_at) j h (inr e) = ap (jump_keeps a b k) e ∙ (both (jump_keeps a b k then_at) (jump_keeps a b k else_at) h).1
jump_kept a b k _ j h e = absurd e

-- out of the loop
jump_out : (a b k j : ℕ) → a ≤ k → k ≤ b → jump_keeps a b k j ≡ true → (j < a) ⊎ (b < j) → j ≡ b + 1
jump_out a b k j p q h out = go (is_inside a b k) (is_inside a b j) (j == b + 1) refl refl refl h
  where
    go : (x y z : Bool) → is_inside a b k ≡ x → is_inside a b j ≡ y → (j == b + 1) ≡ z → (if x then y || z else (nat_lt k a || not (j == a))) ≡ true → j ≡ b + 1
    go false y z e f g h = absurd (not_both (is_inside a b k) (inside a b k p q) e)
      where
        inside : (a b k : ℕ) → a ≤ k → k ≤ b → is_inside a b k ≡ true
        inside a b k p q = two_true (nat_le a k) (nat_le k b) (grind (arith, nat_tests, p)) (grind (arith, nat_tests, q))
          where
            two_true : (p q : Bool) → p ≡ true → q ≡ true → (p && q) ≡ true
            two_true true q h k = k
            two_true false q h k = cc
    go true true z e f g h =
        let b = both (nat_le a j) (nat_le j b) f in
        let l : a ≤ j = grind (arith, nat_tests, b.0) in
        let m = b.1 in
        absurd (⊎_elim (λ (lt : j < a). omega (arith, lt, l)) (λ lt. past m lt) out)
      where
        past : nat_le j b ≡ true → b < j → ⊥
        past m lt = let x : j ≤ b = grind (arith, nat_tests, m) in omega (arith, x, lt)
    go true false true e f g h = grind (arith, nat_tests, g)
    go true false false e f g h = cc

-- back to its Mark from after
jump_back : (a b k : ℕ) → b < k → a ≤ b → jump_keeps a b k a ≡ true → ⊥
jump_back a b k lt le h =
    let e : is_inside a b k ≡ false = (let x : nat_le k b ≡ false = grind (arith, nat_tests, lt) in ap (λ z. nat_le a k && z) x ∙ none (nat_le a k)) in
    let f : nat_lt k a ≡ false = grind (arith, nat_tests, lt, le) in
    let g : (a == a) ≡ true = grind (arith, nat_tests) in
    let t : (if is_inside a b k then is_inside a b a || (a == b + 1) else (nat_lt k a || not (a == a))) ≡ false = ap (λ c. if c then is_inside a b a || (a == b + 1) else (nat_lt k a || not (a == a))) e ∙ ap (λ c. c || not (a == a)) f ∙ ap not g in
    not_both (jump_keeps a b k a) h t
  where
    none : (b : Bool) → (b && false) ≡ false
    none true = refl
    none false = refl

-- into it
no_entry : (a b : ℕ) (x : Act) (j : ℕ) → not (goes_into a b x) ≡ true → Jumps x j → a < j → j ≤ b → ⊥
no_entry a b (act.Jump to) j h e lt le =
    let t : is_within a b to ≡ true = (let p : a < to = omega (arith, e, lt) in let q : to ≤ b = omega (arith, e, le) in inside a b to p q) in
    not_both (goes_into a b (act.Jump to)) t (denied (is_within a b to) h)
  where
    inside : (a b j : ℕ) → a < j → j ≤ b → is_within a b j ≡ true
    inside a b j p q = two_true (nat_lt a j) (nat_le j b) (grind (arith, nat_tests, p)) (grind (arith, nat_tests, q))
      where
        two_true : (p q : Bool) → p ≡ true → q ≡ true → (p && q) ≡ true
        two_true true q h k = k
        two_true false q h k = cc

    denied : (b : Bool) → not b ≡ true → b ≡ false
    denied true h = cc
    denied false h = refl
no_entry a b (act.Branch on then_at else_at) j h e lt le = ⊎_elim (λ (q : j ≡ then_at). one (is_within a b then_at) (is_within a b else_at) (inside a b then_at (omega (arith, q, lt)) (omega (arith, q, le))) h) (λ (q : j ≡ else_at). other (is_within a b then_at) (is_within a b else_at) (inside a b else_at (omega (arith, q, lt)) (omega (arith, q, le))) h) e
  where
    inside : (a b j : ℕ) → a < j → j ≤ b → is_within a b j ≡ true
    inside a b j p q = two_true (nat_lt a j) (nat_le j b) (grind (arith, nat_tests, p)) (grind (arith, nat_tests, q))
      where
        two_true : (p q : Bool) → p ≡ true → q ≡ true → (p && q) ≡ true
        two_true true q h k = k
        two_true false q h k = cc

    one : (p q : Bool) → p ≡ true → not (p || q) ≡ true → ⊥
    one true q e h = cc
    one false q e h = cc

    other : (p q : Bool) → q ≡ true → not (p || q) ≡ true → ⊥
    other true q e h = cc
    other false true e h = cc
    other false false e h = cc
no_entry a b _ j h e lt le = e

taken_at : {X : Type 0} (n : ℕ) (xs : List X) (k : ℕ) (x : X) → slice_get xs k ≡ Some x → k < n → slice_get (take n xs) k ≡ Some x
taken_at zero xs k x h lt = absurd (omega (arith, lt))
taken_at (suc n) [] k x h lt = cc
taken_at (suc n) (y ∷ ys) zero x h lt = h
taken_at (suc n) (y ∷ ys) (suc k) x h lt = taken_at n ys k x h (omega (arith, lt))

dropped_at : {X : Type 0} (n : ℕ) (xs : List X) (k : ℕ) (x : X) → slice_get xs k ≡ Some x → n ≤ k → slice_get (drop n xs) (k - n) ≡ Some x
dropped_at zero xs k x h le = let e : k - 0 ≡ k = omega arith in ap (slice_get xs) e ∙ h
dropped_at (suc n) [] k x h le = cc
dropped_at (suc n) (y ∷ ys) zero x h le = absurd (omega (arith, le))
dropped_at (suc n) (y ∷ ys) (suc k) x h le = let e : suc k - suc n ≡ k - n = omega arith in ap (slice_get (drop n ys)) e ∙ dropped_at n ys k x h (omega (arith, le))

pub loop_closed : (is : List Instr) (l : LoopInfo) (s : Stretch) → AreEdges is → is_mark (nth is l.at) ≡ true → is_jump l.at (nth is (l.last + 1)) ≡ true → l.at ≤ l.last → is_entered_so is l ≡ true → loop_is_closed is l ≡ true → s.first ≡ l.at → s.last ≡ l.last + 1 → IsClosed is s
loop_closed is l s es mark jump le so closed f e = record { long = omega (arith, f, e, le); following = omega (arith, f, mark_late is l.at mark); entered = entered; ended = ended }
  where
    entry : is_entered_at is l.at (l.last + 1) ≡ true
    entry = (both (is_entered_at is l.at (l.last + 1)) (is_entered_at is l.at (condition_end l)) (both (is_entered_at is l.at (l.last + 1) && is_entered_at is l.at (condition_end l)) (is_entered_at is (last_part_at is l) (l.last + 1)) so).0).0

    keeps : (k : ℕ) (i : Instr) → slice_get is k ≡ Some i → act_keeps l.at (l.last + 1) k i.act ≡ true
    keeps k i at = let z : 0 + k ≡ k = omega arith in subst (λ n. act_keeps l.at (l.last + 1) n i.act ≡ true) z (keeps_at l.at (l.last + 1) 0 is k i closed at)

    -- a jump from outside goes to the Mark
    to_mark : (k j : ℕ) (i : Instr) → slice_get is k ≡ Some i → Jumps i.act j → IsIn s j → IsOut s k → j ≡ l.at
    to_mark k j i at x b o = ⊎_elim (λ (lt : l.at < j). absurd (no_entry l.at (l.last + 1) i.act j (outside o) x lt (omega (arith, b.1, e)))) (λ ge. omega (arith, ge, b.0, f)) (cases_lt l.at j)
      where
        ways : (none_goes_into l.at (l.last + 1) (take l.at is) ≡ true) × (none_goes_into l.at (l.last + 1) (drop (l.last + 1 + 1) is) ≡ true)
        ways = both (none_goes_into l.at (l.last + 1) (take l.at is)) (none_goes_into l.at (l.last + 1) (drop (l.last + 1 + 1) is)) entry

        outside : IsOut s k → not (goes_into l.at (l.last + 1) i.act) ≡ true
        outside (inl lt) = all_at (λ (y : Instr). not (goes_into l.at (l.last + 1) y.act)) (take l.at is) k i ways.0 (taken_at l.at is k i at (omega (arith, lt, f)))
        outside (inr lt) = all_at (λ (y : Instr). not (goes_into l.at (l.last + 1) y.act)) (drop (l.last + 1 + 1) is) (k - (l.last + 1 + 1)) i ways.1 (dropped_at (l.last + 1 + 1) is k i at (omega (arith, lt, e)))

    entered : (k j : ℕ) (i : Instr) → slice_get is k ≡ Some i → Contains (nexts i.act k) j → IsIn s j → IsOut s k → (k < j) × (j ≡ s.first)
    entered k j i at c b o = ⊎_elim jumped stepped (edge i.act k j c)
      where
        jumped : Jumps i.act j → (k < j) × (j ≡ s.first)
        jumped x =
            let m = to_mark k j i at x b o in
            ⊎_elim (λ (lt : k < s.first). (omega (arith, lt, m, f), omega (arith, m, f)))
            (λ (lt : s.last < k). absurd (jump_back l.at (l.last + 1) k (omega (arith, lt, e)) (omega (arith, le)) (subst (λ n. jump_keeps l.at (l.last + 1) k n ≡ true) m (jump_kept l.at (l.last + 1) k i.act j (keeps k i at) x)))) o

        stepped : (j ≡ k + 1) × (is_end (Some i.act) ≡ false) → (k < j) × (j ≡ s.first)
        stepped x = ⊎_elim (λ (lt : k < s.first). (omega (arith, x.0), omega (arith, x.0, lt, b.0))) (λ (lt : s.last < k). absurd (omega (arith, x.0, lt, b.1))) o

    ended : (k j : ℕ) (i : Instr) → slice_get is k ≡ Some i → Contains (nexts i.act k) j → IsIn s k → IsOut s j → (k < j) × (j ≡ s.last + 1)
    ended k j i at c a o = ⊎_elim jumped stepped (edge i.act k j c)
      where
        jumped : Jumps i.act j → (k < j) × (j ≡ s.last + 1)
        jumped x =
            let m = jump_out l.at (l.last + 1) k j (omega (arith, a.0, f)) (omega (arith, a.1, e)) (jump_kept l.at (l.last + 1) k i.act j (keeps k i at) x)
            (⊎_elim (λ (lt : j < s.first). inl (omega (arith, lt, f))) (λ (lt : s.last < j). inr (omega (arith, lt, e))) o) in
            (omega (arith, m, a.1, e), omega (arith, m, e))

        jumps : (o : Option Instr) → slice_get is k ≡ o → k ≡ l.last + 1 → is_end (Some i.act) ≡ false → ⊥
        jumps o g q h = last i.act (ap (λ (z : Option Instr). is_jump l.at (act_in z)) (sym at) ∙ ap (λ n. is_jump l.at (nth is n)) q ∙ jump) h
          where
            last : (x : Act) → is_jump l.at (Some x) ≡ true → is_end (Some x) ≡ false → ⊥
            last (act.Jump to) p h = cc
            last _ p h = cc

        stepped : (j ≡ k + 1) × (is_end (Some i.act) ≡ false) → (k < j) × (j ≡ s.last + 1)
        stepped x = ⊎_elim (λ (lt : j < s.first). absurd (omega (arith, x.0, lt, a.0))) (λ (lt : s.last < j). absurd (jumps (slice_get is k) refl (omega (arith, x.0, lt, a.1, e)) x.1)) o

-- ---- a region in a block

-- no jump goes into the middle of these instructions, none but the last may end a block, the first is no Mark, and the last
-- goes on to the next
pub record IsStraight (is : List Instr) (first last : ℕ) : Type 0 where
  pub long : first ≤ last
  pub following : length (objects_of is) ≤ first
  pub inner : (k : ℕ) (i : Instr) → first ≤ k → k < last → slice_get is k ≡ Some i → ends_block i.act ≡ false
  pub apart : (k : ℕ) → first < k → k ≤ last → is_target is k ≡ false
  pub head : is_mark (nth is first) ≡ false
  pub tail : (i : Instr) → slice_get is last ≡ Some i → is_end (Some i.act) ≡ false

end_block : (a : Act) → ends_block a ≡ false → is_end (Some a) ≡ false
end_block (act.Jump to) h = cc
end_block (act.Branch on then_at else_at) h = cc
end_block (act.Return value) h = cc
end_block _ h = refl

jump_target : (a : Act) (j : ℕ) → Jumps a j → goes_to j a ≡ true
jump_target (act.Jump to) j e = grind (arith, nat_tests, e)
jump_target (act.Branch on then_at else_at) j (inl e) = let t : (then_at == j) ≡ true = grind (arith, nat_tests, e) in ap (λ b. b || (else_at == j)) t
jump_target (act.Branch on then_at else_at) j (inr e) = let t : (else_at == j) ≡ true = grind (arith, nat_tests, e) in ap (λ b. (then_at == j) || b) t ∙ any (then_at == j)
  where
    any : (b : Bool) → (b || true) ≡ true
    any true = refl
    any false = refl
jump_target _ j e = absurd e

pub any_at : {X : Type 0} (p : X → Bool) (xs : List X) (k : ℕ) (x : X) → slice_get xs k ≡ Some x → p x ≡ true → list_any p xs ≡ true
any_at p [] k x h e = cc
any_at p (y ∷ ys) zero x h e = let t : p y ≡ true = ap p (same_Some y x h) ∙ e in ap (λ b. b || list_any p ys) t
any_at p (y ∷ ys) (suc k) x h e = ap (λ b. p y || b) (any_at p ys k x h e) ∙ any (p y)
  where
    any : (b : Bool) → (b || true) ≡ true
    any true = refl
    any false = refl

pub straight_closed : (is : List Instr) (s : Stretch) → AreEdges is → IsStraight is s.first s.last → IsClosed is s
straight_closed is s es h = record { long = h.long; following = h.following; entered = entered; ended = ended }
  where
    goes_on : (k : ℕ) (i : Instr) → slice_get is k ≡ Some i → IsIn s k → is_end (Some i.act) ≡ false
    goes_on k i at a = ⊎_elim (λ (lt : k < s.last). end_block i.act (h.inner k i a.0 lt at)) (λ ge. let e : k ≡ s.last = omega (arith, ge, a.1) in h.tail i (subst (λ n. slice_get is n ≡ Some i) e at)) (cases_lt k s.last)

    entered : (k j : ℕ) (i : Instr) → slice_get is k ≡ Some i → Contains (nexts i.act k) j → IsIn s j → IsOut s k → (k < j) × (j ≡ s.first)
    entered k j i at c b o = ⊎_elim jumped stepped (edge i.act k j c)
      where
        jumped : Jumps i.act j → (k < j) × (j ≡ s.first)
        jumped x =
            let t : is_target is j ≡ true = any_at (λ (y : Instr). goes_to j y.act) is k i at (jump_target i.act j x) in
            let e : j ≡ s.first = ⊎_elim (λ (lt : s.first < j). absurd (not_both (is_target is j) t (h.apart j lt b.1))) (λ ge. omega (arith, ge, b.0)) (cases_lt s.first j) in
            (⊎_elim (λ (lt : k < j). lt) (λ ge. absurd (not_both (is_mark (nth is j)) (es.back k j i at c ge) (subst (λ n. is_mark (nth is n) ≡ false) (sym e) h.head))) (cases_lt k j), e)

        stepped : (j ≡ k + 1) × (is_end (Some i.act) ≡ false) → (k < j) × (j ≡ s.first)
        stepped x = ⊎_elim (λ (lt : k < s.first). (omega (arith, x.0), omega (arith, x.0, lt, b.0))) (λ (lt : s.last < k). absurd (omega (arith, x.0, lt, b.1))) o

    ended : (k j : ℕ) (i : Instr) → slice_get is k ≡ Some i → Contains (nexts i.act k) j → IsIn s k → IsOut s j → (k < j) × (j ≡ s.last + 1)
    ended k j i at c a o =
        ⊎_elim
        (λ (x : Jumps i.act j). absurd (not_jump i.act j (goes_on k i at a) x))
        (λ (x : (j ≡ k + 1) × (is_end (Some i.act) ≡ false)). ⊎_elim (λ (lt : j < s.first). absurd (omega (arith, x.0, lt, a.0))) (λ (lt : s.last < j). (omega (arith, x.0), omega (arith, x.0, lt, a.1))) o)
        (edge i.act k j c)
