-- The regions of a function, one access after the other.
use Rattle.std.proofs.Common.{◌≡◌, ℕ, zero, suc, ◌+◌, ◌-◌, ◌<◌, ◌&&◌, Bool, true, false, List, [], ◌∷◌, ◌++◌, length, take, get_or, refl, sym, ap, ◌∙◌, subst, arith, append_assoc, Option, Some}
use Rattle.std.specs.Prelude.{slice_get, slice_set, if◌then◌else◌, filter, option_to_list, ◌==◌, ◌||◌}
use Rattle.std.specs.List.{filter_map, list_any}
use Rattle.std.proofs.lemmas.Bool.Decides.{nat_tests}
use Rattle.std.proofs.lemmas.Option.{same_Some}
use Rattle.std.proofs.lemmas.List.Elements.{filter_map-append}
use Rattle.rr_base.proofs.Lists.{slice_get-set_same, slice_get-set_other}
use Rattle.flow_code.specs.Regions.{ascend}
use Rattle.flow_code.specs.declared.act.Instr.{Instr}
use Rattle.flow_code.specs.declared.region.Span.{Span}
use Rattle.weak_lock_facts.specs.declared.grain.Grain.{Grain}
use Rattle.weak_lock_facts.specs.declared.grain.Grain.TheVariants as grain
use Rattle.weak_code.specs.declared.stretch.RacyAccess.{RacyAccess}
use Rattle.weak_code.specs.declared.stretch.Stretch.{Stretch}
use Rattle.weak_code.specs.Stretches.{same_grain, with_grain, with_all, with_their_locks, all_locks, last_of, span_of, spans_of, function_stretch, loop_stretch}
use Rattle.weaken.specs.declared.plan.Part.{Part}
use Rattle.weaken.specs.Tables.{with_span, grown, part_of}
use Rattle.weaken.proofs.Nexts.{filter_next, filter_map_one, filter_map_next, any_default}
use Rattle.weak_code.specs.WeakLocks.{with_number}
use Rattle.flow_code.specs.declared.code.Function.{Function}
use Rattle.flow_code.specs.declared.code.LoopInfo.{LoopInfo}
use Rattle.flow_code.specs.declared.region.Region.TheVariants as region
use Rattle.flow_code.specs.Threads.{objects_of}
use Rattle.flow_code.specs.Kinds.{has_instr, has_register}
use Rattle.flow_code.specs.Regions.{loop_fits, bound_is_register}
use Rattle.flow_code.specs.Valid.{loops_fit}
use Rattle.weaken.proofs.Found.{ascend_with}
use Rattle.weaken.proofs.Chosen.{all_at, both}

-- ---- locks

with_their_locks-append : (found : List ℕ) (xs : List RacyAccess) (x : RacyAccess) → with_their_locks found (xs ++ x ∷ []) ≡ with_all (with_their_locks found xs) x.locks
with_their_locks-append found [] x = refl
with_their_locks-append found (y ∷ ys) x = with_their_locks-append (with_all found y.locks) ys x

last_of-append : (at : ℕ) (xs : List RacyAccess) (x : RacyAccess) → last_of at (xs ++ x ∷ []) ≡ x.instr
last_of-append at [] x = refl
last_of-append at (y ∷ ys) x = last_of-append y.instr ys x

pub locks_next : (g : Grain) (xs : List RacyAccess) (i : ℕ) (x : RacyAccess) → slice_get xs i ≡ Some x → all_locks (with_grain g (take (i + 1) xs)) ≡ (if same_grain g x.grain then with_all (all_locks (with_grain g (take i xs))) x.locks else all_locks (with_grain g (take i xs)))
locks_next g xs i x h = ap all_locks (filter_next (λ a. same_grain g a.grain) xs i x h) ∙ go (same_grain g x.grain)
  where
    go : (b : Bool) → all_locks (if b then with_grain g (take i xs) ++ x ∷ [] else with_grain g (take i xs)) ≡ (if b then with_all (all_locks (with_grain g (take i xs))) x.locks else all_locks (with_grain g (take i xs)))
    go true = with_their_locks-append [] (with_grain g (take i xs)) x
    go false = refl

ascend_all : (found ns : List ℕ) → ascend found ≡ true → ascend (with_all found ns) ≡ true
ascend_all found [] h = h
ascend_all found (n ∷ ns) h = ascend_all (with_number n found) ns (ascend_with n found h)

ascend_theirs : (found : List ℕ) (xs : List RacyAccess) → ascend found ≡ true → ascend (with_their_locks found xs) ≡ true
ascend_theirs found [] h = h
ascend_theirs found (x ∷ xs) h = ascend_theirs (with_all found x.locks) xs (ascend_all found x.locks h)

pub ascend_locks : (xs : List RacyAccess) → ascend (all_locks xs) ≡ true
ascend_locks xs = ascend_theirs [] xs refl

-- ---- blocks

abbrev made : RacyAccess → Part → Part
made x p = record { last = x.instr; locks = with_all p.locks x.locks }

part : (k : ℕ) → List RacyAccess → Part
part k ys = record { last = last_of k ys; locks = all_locks ys }

grown_part : (k : ℕ) (ys : List RacyAccess) (x : RacyAccess) (b : Bool) → (if b then (record { last = x.instr; locks = with_all (all_locks ys) x.locks }) else part k ys) ≡ part k (if b then ys ++ x ∷ [] else ys)
unfolding part
grown_part k ys x true = sym (ap (λ (n : ℕ). pair n (all_locks (ys ++ x ∷ []))) (last_of-append k ys x) ∙ ap (λ (l : List ℕ). pair x.instr l) (with_their_locks-append [] ys x))
  where
    pair : ℕ → List ℕ → Part
    pair n l = record { last = n; locks = l }
grown_part k ys x false = refl

pub part_next : (k : ℕ) (xs : List RacyAccess) (i : ℕ) (x : RacyAccess) → slice_get xs i ≡ Some x → grown k x (part_of k (take i xs)) ≡ part_of k (take (i + 1) xs)
unfolding part
part_next k xs i x h = grown_part k (with_grain (grain.Block k) (take i xs)) x (same_grain (grain.Block k) x.grain) ∙ ap (part k) (sym (filter_next (λ a. same_grain (grain.Block k) a.grain) xs i x h))

-- the part at one place is set
pub grown_at : (ps new : List Part) (first k : ℕ) (x : RacyAccess) (p q r : Part) → x.grain ≡ grain.Block first → slice_get ps first ≡ Some p → r ≡ record { last = x.instr; locks = with_all p.locks x.locks } → new ≡ slice_set ps first r → slice_get ps k ≡ Some q → slice_get new k ≡ Some (grown k x q)
grown_at ps new first k x p q r g h e f j = ap (λ z. slice_get z k) f ∙ go (k == first) refl
  where
    go : (b : Bool) → (k == first) ≡ b → slice_get (slice_set ps first r) k ≡ Some (grown k x q)
    go true t =
        let n : k ≡ first = grind (arith, nat_tests, t) in
        let s : p ≡ q = same_Some p q (sym h ∙ ap (slice_get ps) (sym n) ∙ j) in
        let u : same_grain (grain.Block k) x.grain ≡ true = ap (same_grain (grain.Block k)) g ∙ t in
        let v : r ≡ grown k x q = e ∙ ap (λ (z : Part). made x z) s ∙ sym (ap (λ b. if b then made x q else q) u) in
        ap (slice_get (slice_set ps first r)) n ∙ slice_get-set_same ps first r p h ∙ ap Some v
    go false t =
        let ne : k ≡ first → ⊥ = λ d. grind (arith, nat_tests, t, d) in
        let u : same_grain (grain.Block k) x.grain ≡ false = ap (same_grain (grain.Block k)) g ∙ t in
        slice_get-set_other ps first k r ne ∙ j ∙ ap Some (sym (ap (λ b. if b then made x q else q) u))

-- another part isn't
pub grown_not : (k : ℕ) (x : RacyAccess) (q : Part) → same_grain (grain.Block k) x.grain ≡ false → q ≡ grown k x q
grown_not k x q u = sym (ap (λ b. if b then made x q else q) u)

pub ascending_parts : (ps : List Part) (xs : List RacyAccess) (n : ℕ) → length ps ≡ n → ((k : ℕ) → k < n → slice_get ps k ≡ Some (part_of k xs)) → (k : ℕ) (p : Part) → slice_get ps k ≡ Some p → ascend p.locks ≡ true
ascending_parts ps xs n e h k p g = let s : part_of k xs ≡ p = same_Some (part_of k xs) p (sym (h k (subst (λ m. k < m) e (inside ps k p g))) ∙ g) in subst (λ q. ascend q.locks ≡ true) s (ascend_locks (with_grain (grain.Block k) xs))
  where
    inside : {X : Type 0} (ys : List X) (j : ℕ) (y : X) → slice_get ys j ≡ Some y → j < length ys
    inside [] j y h = cc
    inside (z ∷ zs) zero y h = omega arith
    inside (z ∷ zs) (suc j) y h = let r = inside zs j y h in omega arith

-- ---- spans

pub spans_next : (is : List Instr) (k : ℕ) (xs : List RacyAccess) (i : ℕ) (x : RacyAccess) (old new : List Span) → slice_get xs i ≡ Some x → old ≡ spans_of is k (take i xs) → new ≡ with_span is k x old → new ≡ spans_of is k (take (i + 1) xs)
spans_next is k xs i x old new h e f = f ∙ ap (with_span is k x) e ∙ go (same_grain (grain.Loop k) x.grain) ∙ sym (ap (filter_map (span_of is)) (filter_next (λ a. same_grain (grain.Loop k) a.grain) xs i x h))
  where
    go : (b : Bool) → (if b then spans_of is k (take i xs) ++ option_to_list (span_of is x) else spans_of is k (take i xs)) ≡ filter_map (span_of is) (if b then with_grain (grain.Loop k) (take i xs) ++ x ∷ [] else with_grain (grain.Loop k) (take i xs))
    go true = sym (filter_map-append (span_of is) (with_grain (grain.Loop k) (take i xs)) (x ∷ []) ∙ ap (λ z. spans_of is k (take i xs) ++ z) (filter_map_one (span_of is) x))
    go false = refl

-- ---- lists that grow

pub map_filter_next : {X Y : Type 0} (f : X → Option Y) (xs : List X) (i : ℕ) (x : X) (old now new : List Y) → slice_get xs i ≡ Some x → now ≡ old ++ filter_map f (take i xs) → new ≡ now ++ option_to_list (f x) → new ≡ old ++ filter_map f (take (i + 1) xs)
map_filter_next f xs i x old now new h e g = g ∙ ap (λ z. z ++ option_to_list (f x)) e ∙ append_assoc old (filter_map f (take i xs)) (option_to_list (f x)) ∙ ap (λ z. old ++ z) (sym (filter_map_next f xs i x h))

-- ---- the region of the function

abbrev made' : (first last : ℕ) → List ℕ → Stretch
made' first last locks = record { first = first; last = last; region = region.Whole locks }

none_pass : {X : Type 0} (p : X → Bool) (xs : List X) → list_any p xs ≡ false → filter p xs ≡ []
none_pass p [] h = refl
none_pass p (x ∷ xs) h = go (p x) h (λ e. none_pass p xs e)
  where
    go : (b : Bool) → (b || list_any p xs) ≡ false → (list_any p xs ≡ false → filter p xs ≡ []) → (if b then x ∷ filter p xs else filter p xs) ≡ []
    go true e r = cc
    go false e r = r e

some_pass : {X : Type 0} (p : X → Bool) (xs : List X) → list_any p xs ≡ true → filter p xs ≡ [] → ⊥
some_pass p [] h e = cc
some_pass p (x ∷ xs) h e = go (p x) h e (λ g. some_pass p xs g)
  where
    go : (b : Bool) → (b || list_any p xs) ≡ true → (if b then x ∷ filter p xs else filter p xs) ≡ [] → (list_any p xs ≡ true → filter p xs ≡ [] → ⊥) → ⊥
    go true g e r = cc
    go false g e r = r g e

stretch_of_some : (fn : Function) (ys : List RacyAccess) → (ys ≡ [] → ⊥) → function_stretch fn ys ≡ record { first = length (objects_of fn.instrs); last = length fn.instrs - 1; region = region.Whole (all_locks ys) } ∷ []
stretch_of_some fn [] h = absurd (h refl)
stretch_of_some fn (y ∷ ys) h = refl

append_none : {X : Type 0} (xs : List X) → xs ≡ xs ++ []
append_none [] = refl
append_none (x ∷ xs) = ap (λ zs. x ∷ zs) (append_none xs)

pub no_stretch : (fn : Function) (xs : List RacyAccess) (old : List Stretch) → list_any (λ a. same_grain grain.Function a.grain) xs ≡ false → old ≡ old ++ function_stretch fn (with_grain grain.Function xs)
no_stretch fn xs old h = append_none old ∙ ap (λ z. old ++ function_stretch fn z) (sym (none_pass (λ a. same_grain grain.Function a.grain) xs h))

pub one_stretch : (fn : Function) (xs : List RacyAccess) (old new : List Stretch) (is : List Instr) (first len : ℕ) (locks : List ℕ) → list_any (λ a. same_grain grain.Function a.grain) xs ≡ true → is ≡ fn.instrs → first ≡ length (objects_of is) → len ≡ length fn.instrs → locks ≡ all_locks (with_grain grain.Function xs) → new ≡ old ++ record { first = first; last = len - 1; region = region.Whole locks } ∷ [] → new ≡ old ++ function_stretch fn (with_grain grain.Function xs)
one_stretch fn xs old new is first len locks h i f l e g =
    g ∙ ap (λ (n : ℕ). old ++ made' n (len - 1) locks ∷ []) (f ∙ ap (λ z. length (objects_of z)) i) ∙ ap (λ (n : ℕ). old ++ made' (length (objects_of fn.instrs)) (n - 1) locks ∷ []) l ∙ ap (λ (z : List ℕ). old ++ made' (length (objects_of fn.instrs)) (length fn.instrs - 1) z ∷ []) e
    ∙ ap (λ z. old ++ z) (sym (stretch_of_some fn (with_grain grain.Function xs) (some_pass (λ a. same_grain grain.Function a.grain) xs h)))

-- ---- the regions of loops

pub loops_step : (fn : Function) (accesses : List RacyAccess) (i : ℕ) (l : LoopInfo) (is : List Instr) (spans : List (List Span)) (s t : List Span) (old now new : List Stretch) → loops_fit fn fn.loops ≡ true → slice_get fn.loops i ≡ Some l → is ≡ fn.instrs → t ≡ s → s ≡ get_or spans l.at s → ((k : ℕ) → k < length is → get_or spans k [] ≡ spans_of is k accesses) → length spans ≡ length is
    → now ≡ old ++ filter_map (λ c. loop_stretch c (spans_of fn.instrs c.at accesses)) (take i fn.loops) → new ≡ now ++ option_to_list (loop_stretch l t) → new ≡ old ++ filter_map (λ c. loop_stretch c (spans_of fn.instrs c.at accesses)) (take (i + 1) fn.loops)
loops_step fn accesses i l is spans s t old now new fit h e f g each long p q =
    let a = all_at (loop_fits fn) fn.loops i l fit h in
    let b = both (has_instr fn l.at && has_instr fn l.first && has_instr fn l.last && has_register fn l.counter) (bound_is_register fn l.bound) a in
    let c = both (has_instr fn l.at && has_instr fn l.first && has_instr fn l.last) (has_register fn l.counter) b.0 in
    let d = both (has_instr fn l.at && has_instr fn l.first) (has_instr fn l.last) c.0 in
    let u = both (has_instr fn l.at) (has_instr fn l.first) d.0 in
    let v : l.at < length fn.instrs = grind (arith, nat_tests, u.0) in
    let w : length is ≡ length fn.instrs = ap (λ z. length z) e in
    let x : t ≡ spans_of fn.instrs l.at accesses = f ∙ g ∙ any_default spans l.at s [] (omega (arith, v, w, long)) ∙ each l.at (omega (arith, v, w)) ∙ ap (λ z. spans_of z l.at accesses) e in
    map_filter_next (λ c. loop_stretch c (spans_of fn.instrs c.at accesses)) fn.loops i l old now new h p (q ∙ ap (λ z. now ++ option_to_list (loop_stretch l z)) x)
