-- What made the operands of moves, block by block, and which registers a loop keeps.
use Rattle.std.proofs.Common.{◌≡◌, ℕ, zero, suc, ◌+◌, ◌-◌, ◌<◌, ◌≤◌, Bool, true, false, List, [], ◌∷◌, ◌++◌, length, take, drop, Option, Some, None, refl, sym, ap, ◌∙◌, subst, ⊎_elim, arith, add-one}
use Rattle.std.specs.Prelude.{◌||◌, ◌&&◌, not, nat_lt, nat_le, if◌then◌else◌, slice_get, slice_index_or, slice_range, IfSome}
use Rattle.std.proofs.lemmas.Bool.{cases_lt, lt-ltb, le-ltb, le-leb, leb-true}
use Rattle.std.proofs.lemmas.Option.{same_Some, none-some, slice_get_within, slice_get-get_or}
use Rattle.flow_code.specs.declared.act.Instr.{Instr}
use Rattle.flow_code.specs.declared.code.LoopInfo.{LoopInfo}
use Rattle.flow_code.specs.declared.region.Base.{Base}
use Rattle.flow_code.specs.Next.{act_in}
use Rattle.facts.specs.Blocks.{begins_block, assigns}
use Rattle.facts.specs.Paths.{is_never_assigned}
use Rattle.weak_lock_facts.specs.Loops.{◌>>=◌, nth, keeps}
use Rattle.weak_lock_facts.specs.Ranges.{maker_at, moved_of, base_at, shift_at, moved_shift}
use Rattle.loop_bounds.specs.Tables.{AreOperands, makers_in}
use Rattle.loop_bounds.proofs.Soles.{Sole, Makerless, fits, Fits}

-- ---- makers in a block

pub places_entered : (is : List Instr) (k : ℕ) (b : Bool) (brought held : ℕ → Option ℕ) → b ≡ begins_block is k → ((r : ℕ) → held r ≡ (if b then None else brought r)) → ((r : ℕ) → (if begins_block is k then None else brought r) ≡ maker_at is k r) → (r : ℕ) → held r ≡ maker_at is k r
places_entered is k b brought held same enters was r = enters r ∙ ap (λ x. if x then None else brought r) same ∙ was r

pub places_next : (is : List Instr) (k : ℕ) (i : Instr) (held following : ℕ → Option ℕ) → slice_get is k ≡ Some i → ((r : ℕ) → held r ≡ maker_at is k r) → ((r : ℕ) → following r ≡ (if assigns r (Some i.act) then Some k else held r)) → (r : ℕ) → (if begins_block is (k + 1) then None else following r) ≡ maker_at is (k + 1) r
places_next is k i held following there was passed r =
    subst (λ n. (if begins_block is n then None else following r) ≡ maker_at is n r) (sym (add-one k))
    (ap (λ x. if begins_block is (suc k) then None else x)
    (passed r ∙ ap (λ x. if assigns r (Some i.act) then Some k else x) (was r) ∙ ap (λ o. if assigns r (act_in o) then Some k else maker_at is k r) (sym there)))

pub operands_pushed : (is : List Instr) (os : List (Option ℕ × Option ℕ)) (at : ℕ) (i : Instr) (held : ℕ → Option ℕ) (o : Option ℕ × Option ℕ) → length os ≡ at → slice_get is at ≡ Some i → ((r : ℕ) → held r ≡ maker_at is at r) → ((m : ℕ × ℕ) → moved_of (Some i.act) ≡ Some m → o ≡ (held m.0, held m.1)) → ((k : ℕ) (m : ℕ × ℕ) → k < at → moved_of (nth is k) ≡ Some m → slice_get os k ≡ Some (maker_at is k m.0, maker_at is k m.1)) → (k : ℕ) (m : ℕ × ℕ) → k < at + 1 → moved_of (nth is k) ≡ Some m → slice_get (os ++ o ∷ []) k ≡ Some (maker_at is k m.0, maker_at is k m.1)
operands_pushed is os at i held o long there was new each k m lt moves = ⊎_elim
    (λ (l : k < at). before os k (omega arith) ∙ each k m l moves)
    (λ (g : at ≤ k).
    let e : k ≡ length os = omega arith in
    let same : k ≡ at = omega arith in
    let here : moved_of (Some i.act) ≡ Some m = ap (λ o. moved_of (act_in o)) (sym there) ∙ ap (λ n. moved_of (nth is n)) (sym same) ∙ moves in
    ap (λ n. slice_get (os ++ o ∷ []) n) e ∙ seam os ∙ ap Some (new m here ∙ ap (λ x. (x, held m.1)) (was m.0) ∙ ap (λ x. (maker_at is at m.0, x)) (was m.1)) ∙ ap (λ n. Some (maker_at is n m.0, maker_at is n m.1)) (sym same))
    (cases_lt k at)
  where
    before : (xs : List (Option ℕ × Option ℕ)) (n : ℕ) → n < length xs → slice_get (xs ++ o ∷ []) n ≡ slice_get xs n
    before [] n l = absurd (omega arith)
    before (x ∷ xs) zero l = refl
    before (x ∷ xs) (suc n) l = before xs n (omega arith)

    seam : (xs : List (Option ℕ × Option ℕ)) → slice_get (xs ++ o ∷ []) (length xs) ≡ Some o
    seam [] = refl
    seam (x ∷ xs) = seam xs

pub maker_within : (is : List Instr) (k r m : ℕ) → maker_at is k r ≡ Some m → m < k
maker_within is zero r m h = absurd (none-some m h)
maker_within is (suc k) r m h = by (maker_within is k r m) (begins_block is (suc k)) (assigns r (nth is k)) h
  where
    by : (maker_at is k r ≡ Some m → m < k) → (b a : Bool) → (if b then None else if a then Some k else maker_at is k r) ≡ Some m → m < suc k
    by rest true a e = absurd (none-some m e)
    by rest false true e = let same = same_Some k m e in omega arith
    by rest false false e = let lt = rest e in omega arith

-- ---- what a loop keeps

got_dropped : (is : List Instr) (a j : ℕ) → slice_get (drop a is) j ≡ slice_get is (a + j)
got_dropped is zero j = let e : j ≡ 0 + j = omega arith in ap (slice_get is) e
got_dropped [] (suc a) j = refl
got_dropped (i ∷ is) (suc a) j = let e : suc (a + j) ≡ suc a + j = omega arith in got_dropped is a j ∙ ap (slice_get (i ∷ is)) e

got_taken : (js : List Instr) (n j : ℕ) (i : Instr) → slice_get (take n js) j ≡ Some i → (slice_get js j ≡ Some i) × (j < n)
got_taken js zero j i h = absurd (none-some i h)
got_taken [] (suc n) j i h = absurd (none-some i h)
got_taken (x ∷ js) (suc n) zero i h = (h, omega arith)
got_taken (x ∷ js) (suc n) (suc j) i h = let p = got_taken js n j i h in let lt = p.1 in (p.0, omega arith)

taken_got : (js : List Instr) (n j : ℕ) (i : Instr) → slice_get js j ≡ Some i → j < n → slice_get (take n js) j ≡ Some i
taken_got js zero j i h lt = absurd (omega arith)
taken_got [] (suc n) j i h lt = absurd (none-some i h)
taken_got (x ∷ js) (suc n) zero i h lt = h
taken_got (x ∷ js) (suc n) (suc j) i h lt = taken_got js n j i h (omega arith)

none_assigns : (js : List Instr) (r : ℕ) → ((j : ℕ) (i : Instr) → slice_get js j ≡ Some i → assigns r (Some i.act) ≡ false) → is_never_assigned js r ≡ true
none_assigns [] r h = refl
none_assigns (i ∷ js) r h = ap (λ b. not b && is_never_assigned js r) (h 0 i refl) ∙ none_assigns js r (λ j x g. h (suc j) x g)

one_assigns : (js : List Instr) (r j : ℕ) (i : Instr) → slice_get js j ≡ Some i → assigns r (Some i.act) ≡ true → is_never_assigned js r ≡ false
one_assigns [] r j i h e = absurd (none-some i h)
one_assigns (x ∷ js) r zero i h e = ap (λ (z : Instr). not (assigns r (Some z.act)) && is_never_assigned js r) (same_Some x i h) ∙ ap (λ b. not b && is_never_assigned js r) e
one_assigns (x ∷ js) r (suc j) i h e = and_none (not (assigns r (Some x.act))) (is_never_assigned js r) (one_assigns js r j i h e)
  where
    and_none : (c d : Bool) → d ≡ false → (c && d) ≡ false
    and_none true d g = g
    and_none false d g = refl

not_true : (b : Bool) → (b ≡ true → ⊥) → b ≡ false
not_true true h = absurd (h refl)
not_true false h = refl

-- where the instructions of the loop that assign it are none, as all that do lie elsewhere
kept_apart : (is : List Instr) (l : LoopInfo) (r : ℕ) → ((j : ℕ) → l.at ≤ j → j < l.last + 2 → j < length is → assigns r (nth is j) ≡ true → ⊥) → keeps is l r ≡ true
kept_apart is l r h = none_assigns (slice_range is l.at (l.last + 2)) r each
  where
    each : (j : ℕ) (i : Instr) → slice_get (slice_range is l.at (l.last + 2)) j ≡ Some i → assigns r (Some i.act) ≡ false
    each j i g =
        let p = got_taken (drop l.at is) (l.last + 2 - l.at) j i g in
        let lt = p.1 in
        let there : slice_get is (l.at + j) ≡ Some i = sym (got_dropped is l.at j) ∙ p.0 in
        let within = slice_get_within is (l.at + j) i there in
        not_true (assigns r (Some i.act)) (λ e. h (l.at + j) (omega arith) (omega arith) within (ap (λ o. assigns r (act_in o)) there ∙ e))

pub kept_without : (is : List Instr) (l : LoopInfo) (r : ℕ) → makers_in is (length is) r ≡ None → keeps is l r ≡ true
kept_without is l r h = let m : Makerless is r (length is) = subst (λ o. Fits is r (length is) o) h (fits is r (length is) (omega arith)) in kept_apart is l r (λ j from to lt e. m.unmade j lt e)

pub kept_by_one : (is : List Instr) (l : LoopInfo) (r q : ℕ) → makers_in is (length is) r ≡ Some (Some q) → keeps is l r ≡ (nat_lt q l.at || nat_le (l.last + 2) q)
kept_by_one is l r q h = ⊎_elim
    (λ (lt : q < l.at). kept_apart is l r (λ j from to within e. let same = s.alone j within e in absurd (omega arith)) ∙ sym (ap (λ b. b || nat_le (l.last + 2) q) (lt-ltb q l.at lt)))
    (λ (le : l.at ≤ q). ⊎_elim
    (λ (inside : q < l.last + 2). holds le inside ∙ sym (ap (λ b. b || nat_le (l.last + 2) q) (le-ltb q l.at le) ∙ not_true (nat_le (l.last + 2) q) (λ e. let g = leb-true (l.last + 2) q e in absurd (omega arith))))
    (λ (past : l.last + 2 ≤ q). kept_apart is l r (λ j from to within e. let same = s.alone j within e in absurd (omega arith)) ∙ sym (ap (λ b. b || nat_le (l.last + 2) q) (le-ltb q l.at le) ∙ le-leb (l.last + 2) q past))
    (cases_lt q (l.last + 2)))
    (cases_lt q l.at)
  where
    s : Sole is r (length is) q
    s = subst (λ o. Fits is r (length is) o) h (fits is r (length is) (omega arith))

    holds : l.at ≤ q → q < l.last + 2 → keeps is l r ≡ false
    holds le inside =
        let i = got_at is q s.within in
        let e : l.at + (q - l.at) ≡ q = omega arith in
        one_assigns (slice_range is l.at (l.last + 2)) r (q - l.at) i.0 (taken_got (drop l.at is) (l.last + 2 - l.at) (q - l.at) i.0 (got_dropped is l.at (q - l.at) ∙ ap (slice_get is) e ∙ i.1) (omega arith)) (ap (λ o. assigns r (act_in o)) (sym i.1) ∙ s.makes)
      where
        got_at : (is : List Instr) (n : ℕ) → n < length is → (i : Instr) × (slice_get is n ≡ Some i)
        got_at [] n lt = absurd (omega arith)
        got_at (i ∷ is) zero lt = (i, refl)
        got_at (i ∷ is) (suc n) lt = got_at is n (omega arith)

-- ---- how far a move goes

pub operand_at : (is : List Instr) (os : List (Option ℕ × Option ℕ)) (at pointer by : ℕ) → AreOperands is os → length os ≡ length is → at < length is → moved_of (nth is at) ≡ Some (pointer, by) → slice_index_or os at (None, None) ≡ (maker_at is at pointer, maker_at is at by)
operand_at is os at pointer by all long lt moves = same_Some (slice_index_or os at (None, None)) (maker_at is at pointer, maker_at is at by) (sym (slice_get-get_or os at (None, None) (omega arith)) ∙ all at (pointer, by) lt moves)

pub maker_fits : (is : List Instr) (k r : ℕ) (o : Option ℕ) → o ≡ maker_at is k r → k < length is → IfSome o (λ m. m < length is)
maker_fits is k r None e lt = tt
maker_fits is k r (Some m) e lt = let within = maker_within is k r m (sym e) in omega arith

pub not_moved : (is : List Instr) (l : LoopInfo) (k pointer by : ℕ) → moved_of (nth is k) ≡ Some (pointer, by) → base_at is l k pointer ≡ None → moved_shift is l k ≡ None
not_moved is l k pointer by moves none =
    ap (λ o. o >>= (λ m. base_at is l k m.0 >>= (λ b. shift_at is l.counter k m.1))) moves
    ∙ ap (λ o. o >>= (λ b. shift_at is l.counter k by)) none

pub moved_by : (is : List Instr) (l : LoopInfo) (k pointer by : ℕ) (b : Base) → moved_of (nth is k) ≡ Some (pointer, by) → base_at is l k pointer ≡ Some b → moved_shift is l k ≡ shift_at is l.counter k by
moved_by is l k pointer by b moves base =
    ap (λ o. o >>= (λ m. base_at is l k m.0 >>= (λ b. shift_at is l.counter k m.1))) moves
    ∙ ap (λ o. o >>= (λ b. shift_at is l.counter k by)) base
