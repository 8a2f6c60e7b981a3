-- What a Take does to the stripes and open regions of its thread.
use Rattle.std.proofs.Common.{◌≡◌, ℕ, ◌+◌, ◌-◌, ◌*◌, ◌<◌, ◌≤◌, ◌==◌, ◌&&◌, ◌||◌, not, ⊎_elim, Bool, true, false, if◌then◌else◌, List, [], ◌∷◌, ◌++◌, length, Option, Some, None, refl, sym, ap, subst, ◌∙◌, arith, append-nil, eq-eqb, eqb-true}
use Rattle.std.specs.Prelude.{slice_set}
use Rattle.std.proofs.lemmas.Bool.{cases_eq, cases_Bool, true≢false, and_parts}
use Rattle.std.proofs.lemmas.List.{length-append}
use Rattle.flow_code.specs.declared.code.Code.{Code}
use Rattle.flow_code.specs.declared.region.Region.{Region}
use Rattle.flow_code.specs.Holding.{is_listed, with_stripe, has_stripe, nesting, open_ones, with_pairs, is_opened_here, latest, pairs_at, taken_pairs, left_from, is_lacked, lacked, taken_before, latest_with, opened, taken}
use Rattle.flow_code.specs.Stripes.{wants_number, end_lock, stripes_from}
use Rattle.flow_code.specs.Threads.{Thread, OpenRegion}
use Rattle.lock_ownership.specs.ThreadStripes.{ArePairsSorted}
use Rattle.lock_ownership.proofs.Ascending.{ascend_append}
use Rattle.lock_ownership.proofs.Standings.{standing, is_there, listed_is, with_sorted, with_standing}
use Rattle.lock_ownership.proofs.Nestings.{bit, has_append, from_sorted, from_has, has_from, none_first, some_first, Recounts, nesting_set, nesting_push}
use Rattle.lock_ownership.proofs.Regions.{AreOpen, open_at, open_push, open_set, open_those, Agree}

-- ---- the open regions, once the Take has these stripes

-- the stripes so far, and the open regions with others in place of them
abbrev so_far : Thread → Option OpenRegion → List (ℕ × ℕ)
so_far th o = if is_opened_here th o then pairs_at o else []

abbrev opened_by : Thread → List (ℕ × ℕ) → Option OpenRegion → List OpenRegion
opened_by th ys o = if is_opened_here th o then latest_with o ys th.regions else th.regions ++ open_ones (record { frame = length th.below; instr = th.top.instr; stripes = ys } ∷ [])

no_pairs : (xs : List (ℕ × ℕ)) (n : ℕ) → (length xs == 0) ≡ true → has_stripe xs n ≡ false
no_pairs [] n e = refl
no_pairs (x ∷ xs) n e = let z = eqb-true (length (x ∷ xs)) 0 e in absurd (omega arith)

pushed_counts : (rs : List OpenRegion) (r : OpenRegion) (n : ℕ) → Recounts rs n [] r.stripes (rs ++ open_ones (r ∷ []))
pushed_counts rs r n = by (length r.stripes == 0) refl
  where
    by : (b : Bool) → (length r.stripes == 0) ≡ b → Recounts rs n [] r.stripes (rs ++ (if not b then r ∷ [] else []))
    by true e = subst (Recounts rs n [] r.stripes) (sym (append-nil rs)) (let z = ap bit (no_pairs r.stripes n e) in record { same = omega arith; within = omega arith })
    by false e = let p = nesting_push rs r n in record { same = omega arith; within = omega arith }

opened_counts : (th : Thread) (ys : List (ℕ × ℕ)) (n : ℕ) (o : Option OpenRegion) → latest th ≡ o → Recounts th.regions n (so_far th o) ys (opened_by th ys o)
opened_counts th ys n None e = pushed_counts th.regions (record { frame = length th.below; instr = th.top.instr; stripes = ys }) n
opened_counts th ys n (Some r) e = by (is_opened_here th (Some r))
  where
    by : (b : Bool) → Recounts th.regions n (if b then r.stripes else []) ys (if b then slice_set th.regions (length th.regions - 1) (with_pairs r ys) else th.regions ++ open_ones (record { frame = length th.below; instr = th.top.instr; stripes = ys } ∷ []))
    by true = nesting_set th.regions (length th.regions - 1) n r (with_pairs r ys) e
    by false = pushed_counts th.regions (record { frame = length th.below; instr = th.top.instr; stripes = ys }) n

opened_open : (th : Thread) (ys : List (ℕ × ℕ)) (o : Option OpenRegion) → latest th ≡ o → AreOpen th.regions → ArePairsSorted ys → length (so_far th o) ≤ length ys → AreOpen (opened_by th ys o)
opened_open th ys None e h s more = open_push th.regions _ h (open_those (record { frame = length th.below; instr = th.top.instr; stripes = ys } ∷ []) (s, tt))
opened_open th ys (Some r) e h s more = by (is_opened_here th (Some r)) more
  where
    by : (b : Bool) → length (if b then r.stripes else []) ≤ length ys → AreOpen (if b then slice_set th.regions (length th.regions - 1) (with_pairs r ys) else th.regions ++ open_ones (record { frame = length th.below; instr = th.top.instr; stripes = ys } ∷ []))
    by true m = let some = (open_at th.regions (length th.regions - 1) r h e).some in open_set th.regions (length th.regions - 1) (with_pairs r ys) (record { some = omega arith; sorted = s }) h
    by false m = open_push th.regions _ h (open_those (record { frame = length th.below; instr = th.top.instr; stripes = ys } ∷ []) (s, tt))

so_far_sorted : (th : Thread) (o : Option OpenRegion) → latest th ≡ o → AreOpen th.regions → ArePairsSorted (so_far th o)
so_far_sorted th None e h = tt
so_far_sorted th (Some r) e h = by (is_opened_here th (Some r))
  where
    by : (b : Bool) → ArePairsSorted (if b then r.stripes else [])
    by true = (open_at th.regions (length th.regions - 1) r h e).sorted
    by false = tt

-- ---- what a Take has when it has gone on to before a number

module _ (code : Code) (th : Thread) (r : Region) (to : ℕ) where
  -- the stripes that it gets on its way
  abbrev pub gained : List (ℕ × ℕ)
  gained = stripes_from (wants_number code th.top.registers r) (to - left_from th r) (left_from th r)

  abbrev pub regions_then : List OpenRegion
  regions_then = opened th (taken_before code th r to)

  before_sorted : AreOpen th.regions → ArePairsSorted (taken_before code th r to)
  before_sorted h = ascend_append 0 (left_from th r) (taken_pairs th) gained (omega arith) (omega arith) (so_far_sorted th (latest th) refl h) (from_sorted (wants_number code th.top.registers r) (to - left_from th r) (left_from th r))

  pub then_open : AreOpen th.regions → AreOpen regions_then
  then_open h = let longer = length-append (taken_pairs th) gained in opened_open th (taken_before code th r to) (latest th) refl h (before_sorted h) (omega arith)

  -- the nesting numbers
  pub record Nests (n : ℕ) : Type 0 where
    pub more : nesting th.regions n ≤ nesting regions_then n
    pub fresh : has_stripe gained n ≡ true → 0 < nesting regions_then n
    pub same : has_stripe gained n ≡ false → nesting th.regions n ≡ 0 → nesting regions_then n ≡ 0

  pub nests : (n : ℕ) → Nests n
  nests n = by (has_stripe (taken_pairs th) n) (has_stripe gained n) refl refl (has_append (taken_pairs th) gained n)
    where
      counts : Recounts th.regions n (taken_pairs th) (taken_before code th r to) regions_then
      counts = opened_counts th (taken_before code th r to) n (latest th) refl

      by : (a b : Bool) → has_stripe (taken_pairs th) n ≡ a → has_stripe gained n ≡ b → has_stripe (taken_before code th r to) n ≡ (a || b) → Nests n
      by true true e f g = let s = counts.same in let w = counts.within in let p = ap bit e in let q = ap bit g in record { more = omega arith; fresh = λ _. omega arith; same = λ h. absurd (true≢false (sym f ∙ h)) }
      by true false e f g = let s = counts.same in let w = counts.within in let p = ap bit e in let q = ap bit g in record { more = omega arith; fresh = λ h. absurd (true≢false (sym h ∙ f)); same = λ _ none. absurd (omega arith) }
      by false true e f g = let s = counts.same in let w = counts.within in let p = ap bit e in let q = ap bit g in record { more = omega arith; fresh = λ _. omega arith; same = λ h. absurd (true≢false (sym f ∙ h)) }
      by false false e f g = let s = counts.same in let w = counts.within in let p = ap bit e in let q = ap bit g in record { more = omega arith; fresh = λ h. absurd (true≢false (sym h ∙ f)); same = λ _ none. omega arith }

-- ---- a Take's next step

-- a stripe that is wanted and not lacked is listed
wanted_listed : (code : Code) (th : Thread) (r : Region) (n : ℕ) → wants_number code th.top.registers r n ≡ true → is_lacked code th r n ≡ false → is_there (standing th.stripes n) ≡ true
wanted_listed code th r n w l = sym (listed_is th.stripes n) ∙ by (wants_number code th.top.registers r n) (is_listed th.stripes n) w l
  where
    by : (a b : Bool) → a ≡ true → (a && not b) ≡ false → b ≡ true
    by true true p q = refl
    by true false p q = absurd (true≢false q)
    by false b p q = absurd (true≢false (sym p))

-- where nothing is lacked, only stripes that are listed are counted
counted_agree : (code : Code) (th : Thread) (r : Region) → lacked code th (Some r) ≡ None → Agree th.stripes th.regions → Agree th.stripes (regions_then code th r (8 * end_lock code r))
counted_agree code th r e h = record {
  sorted = h.sorted;
  opened = then_open code th r (8 * end_lock code r) h.opened;
  listed = λ n l. let before = h.listed n l in let more = (nests code th r (8 * end_lock code r) n).more in omega arith;
  only = λ n l. (nests code th r (8 * end_lock code r) n).same (none n l) (h.only n l);
}
  where
    none : (n : ℕ) → is_there (standing th.stripes n) ≡ false → has_stripe (gained code th r (8 * end_lock code r)) n ≡ false
    none n l = ⊎_elim (λ g. absurd (true≢false (sym (wrong g) ∙ l))) (λ g. g) (cases_Bool (has_stripe (gained code th r (8 * end_lock code r)) n))
      where
        wrong : has_stripe (gained code th r (8 * end_lock code r)) n ≡ true → is_there (standing th.stripes n) ≡ true
        wrong g =
            let f = from_has (wants_number code th.top.registers r) (8 * end_lock code r - left_from th r) (left_from th r) n g in
            wanted_listed code th r n f.0 (none_first (is_lacked code th r) (8 * end_lock code r - left_from th r) (left_from th r) n e f.1 f.2)

-- a stripe that is lacked isn't listed
lacked_apart : (code : Code) (th : Thread) (r : Region) (n : ℕ) → is_lacked code th r n ≡ true → (wants_number code th.top.registers r n ≡ true) × (is_there (standing th.stripes n) ≡ false)
lacked_apart code th r n e = let p = and_parts (wants_number code th.top.registers r n) (not (is_listed th.stripes n)) e in (p.0, sym (listed_is th.stripes n) ∙ by (is_listed th.stripes n) p.1)
  where
    by : (b : Bool) → not b ≡ true → b ≡ false
    by true q = absurd (true≢false (sym q))
    by false q = refl

none_there : (o : Option Bool) → is_there o ≡ false → o ≡ None
none_there None e = refl
none_there (Some b) e = absurd (true≢false e)

-- a stripe that is taken by an operation: it was neither held nor owed
pub lacked_none : (code : Code) (th : Thread) (r : Region) (n : ℕ) → lacked code th (Some r) ≡ Some n → standing th.stripes n ≡ None
lacked_none code th r n e = none_there (standing th.stripes n) (lacked_apart code th r n (some_first (is_lacked code th r) (8 * end_lock code r - left_from th r) (left_from th r) n e).passes).1

taken_agree : (code : Code) (th : Thread) (r : Region) (n : ℕ) → lacked code th (Some r) ≡ Some n → Agree th.stripes th.regions → Agree (with_stripe n th.stripes) (regions_then code th r (n + 1))
taken_agree code th r n e h = record {
  sorted = with_sorted n th.stripes apart h.sorted;
  opened = then_open code th r (n + 1) h.opened;
  listed = λ m l. by m (n == m) refl (sym (ap is_there (with_standing n m th.stripes apart)) ∙ l);
  only = λ m l. other m (n == m) refl (sym (ap is_there (with_standing n m th.stripes apart)) ∙ l);
}
  where
    apart : standing th.stripes n ≡ None
    apart = lacked_none code th r n e

    by : (m : ℕ) (b : Bool) → (n == m) ≡ b → is_there (if b then Some false else standing th.stripes m) ≡ true → 0 < nesting (regions_then code th r (n + 1)) m
    by m true q l =
        let same = eqb-true n m q in
        let f = some_first (is_lacked code th r) (8 * end_lock code r - left_from th r) (left_from th r) n e in
        let low = f.low in
        (nests code th r (n + 1) m).fresh (has_from (wants_number code th.top.registers r) (n + 1 - left_from th r) (left_from th r) m (subst (λ z. wants_number code th.top.registers r z ≡ true) same (lacked_apart code th r n f.passes).0) (omega arith) (omega arith))
    by m false q l = let before = h.listed m l in let more = (nests code th r (n + 1) m).more in omega arith

    none : (m : ℕ) → (n == m) ≡ false → is_there (standing th.stripes m) ≡ false → has_stripe (gained code th r (n + 1)) m ≡ true → is_there (standing th.stripes m) ≡ true
    none m q l g =
        let f = some_first (is_lacked code th r) (8 * end_lock code r - left_from th r) (left_from th r) n e in
        let k = from_has (wants_number code th.top.registers r) (n + 1 - left_from th r) (left_from th r) m g in
        let low = f.low in
        let from = k.1 in
        let to = k.2 in
        ⊎_elim
        (λ s. absurd (true≢false (sym (eq-eqb n m (sym s)) ∙ q)))
        (λ ne. wanted_listed code th r m k.0 (f.before m from (omega arith)))
        (cases_eq m n)

    other : (m : ℕ) (b : Bool) → (n == m) ≡ b → is_there (if b then Some false else standing th.stripes m) ≡ false → nesting (regions_then code th r (n + 1)) m ≡ 0
    other m true q l = absurd (true≢false l)
    other m false q l =
        (nests code th r (n + 1) m).same
        (⊎_elim (λ g. absurd (true≢false (sym (none m q l g) ∙ l))) (λ g. g) (cases_Bool (has_stripe (gained code th r (n + 1)) m)))
        (h.only m l)

pub take_agrees : (code : Code) (th : Thread) (r : Option Region) (next : Option ℕ) → lacked code th r ≡ next → Agree th.stripes th.regions → Agree (taken code th r next).stripes (taken code th r next).regions
take_agrees code th None next e h = h
take_agrees code th (Some r) None e h = counted_agree code th r e h
take_agrees code th (Some r) (Some n) e h = taken_agree code th r n e h
