-- Instructions that alone assign their registers.
use Rattle.std.proofs.Common.{◌≡◌, ℕ, zero, suc, ◌+◌, ◌<◌, ◌≤◌, Bool, true, false, cond, List, [], ◌∷◌, length, get_or, take, Option, Some, None, refl, sym, ap, ◌∙◌, subst, ⊎_elim, arith, add-one}
use Rattle.std.specs.Prelude.{◌&&◌, ◌==◌, nat_lt, if◌then◌else◌, slice_get}
use Rattle.std.specs.List.{count_by}
use Rattle.std.proofs.lemmas.Bool.{cases_lt, lt-ltb, le-ltb, eqb-true, eq-eqb, true≢false}
use Rattle.std.proofs.lemmas.List.Sums.{count_by_more_yes, count_by_more_no}
use Rattle.std.proofs.lemmas.Option.{same_Some, none-some, slice_get_within, slice_get-get_or}
use Rattle.flow_code.specs.declared.act.Instr.{Instr}
use Rattle.flow_code.specs.declared.code.LoopInfo.{LoopInfo}
use Rattle.flow_code.specs.Next.{act_in}
use Rattle.facts.specs.Blocks.{assigns}
use Rattle.facts.proofs.Marked.{take_all}
use Rattle.loop_bounds.specs.Tables.{one_more, makers_in, the_one, sole_maker}
use Rattle.weak_lock_facts.specs.Loops.{◌>>=◌, nth, is_entered_at}
use Rattle.weak_lock_facts.specs.Ranges.{last_maker, has_one_maker, only_maker}

got : (is : List Instr) (n : ℕ) → n < length is → (i : Instr) × (slice_get is n ≡ Some i)
got [] n lt = absurd (omega arith)
got (i ∷ is) zero lt = (i, refl)
got (i ∷ is) (suc n) lt = got is n (omega arith)

count_next : (t : Instr → Bool) (is : List Instr) (n : ℕ) (i : Instr) → slice_get is n ≡ Some i → count_by t (take (suc n) is) ≡ count_by t (take n is) + cond (t i) 1 0
count_next t is n i h =
    let lt : n < length is = slice_get_within is n i h in
    let same : get_or is n i ≡ i = same_Some (get_or is n i) i (sym (slice_get-get_or is n i lt) ∙ h) in
    by lt (t i) (ap t same)
  where
    plus_none : (a : ℕ) → a ≡ a + 0
    plus_none a = omega arith

    by : n < length is → (b : Bool) → t (get_or is n i) ≡ b → count_by t (take (suc n) is) ≡ count_by t (take n is) + cond b 1 0
    by lt true e = ap (λ m. count_by t (take m is)) (sym (add-one n)) ∙ count_by_more_yes t is n i lt e
    by lt false e = let more = ap (λ m. count_by t (take m is)) (sym (add-one n)) ∙ count_by_more_no t is n i lt e in more ∙ plus_none (count_by t (take n is))

-- what the makers among the first n instructions are
pub record Sole (is : List Instr) (r n q : ℕ) : Type 0 where
  pub one : count_by (λ i. assigns r (Some i.act)) (take n is) ≡ 1
  pub within : q < n
  pub makes : assigns r (nth is q) ≡ true
  pub alone : (j : ℕ) → j < n → assigns r (nth is j) ≡ true → j ≡ q

pub record Makerless (is : List Instr) (r n : ℕ) : Type 0 where
  pub none : count_by (λ i. assigns r (Some i.act)) (take n is) ≡ 0
  pub unmade : (j : ℕ) → j < n → assigns r (nth is j) ≡ true → ⊥

abbrev pub Fits : List Instr → (r n : ℕ) → Option (Option ℕ) → Type 0
Fits is r n None = Makerless is r n
Fits is r n (Some None) = 2 ≤ count_by (λ i. assigns r (Some i.act)) (take n is)
Fits is r n (Some (Some q)) = Sole is r n q

fits_next : (is : List Instr) (r n : ℕ) (b : Bool) (o : Option (Option ℕ)) → assigns r (nth is n) ≡ b → count_by (λ i. assigns r (Some i.act)) (take (suc n) is) ≡ count_by (λ i. assigns r (Some i.act)) (take n is) + cond b 1 0 → Fits is r n o → Fits is r (suc n) (if b then one_more n o else o)
fits_next is r n true None e c h = let z = h.none in record {
  one = omega arith;
  within = omega arith;
  makes = e;
  alone = λ j lt m. ⊎_elim (λ (l : j < n). absurd (h.unmade j l m)) (λ (g : n ≤ j). omega arith) (cases_lt j n);
}
fits_next is r n true (Some None) e c h = omega arith
fits_next is r n true (Some (Some q)) e c h = let z = h.one in omega arith
fits_next is r n false None e c h = let z = h.none in record {
  none = omega arith;
  unmade = λ j lt m. ⊎_elim (λ (l : j < n). h.unmade j l m) (λ (g : n ≤ j). let same : j ≡ n = omega arith in true≢false (sym m ∙ ap (λ k. assigns r (nth is k)) same ∙ e)) (cases_lt j n);
}
fits_next is r n false (Some None) e c h = omega arith
fits_next is r n false (Some (Some q)) e c h = let z = h.one in let w = h.within in record {
  one = omega arith;
  within = omega arith;
  makes = h.makes;
  alone = λ j lt m. ⊎_elim (λ (l : j < n). h.alone j l m) (λ (g : n ≤ j). let same : j ≡ n = omega arith in absurd (true≢false (sym m ∙ ap (λ k. assigns r (nth is k)) same ∙ e))) (cases_lt j n);
}

pub fits : (is : List Instr) (r n : ℕ) → n ≤ length is → Fits is r n (makers_in is n r)
fits is r zero le = record { none = refl; unmade = λ j lt m. absurd (omega arith) }
fits is r (suc n) le =
    let i = got is n (omega arith) in
    fits_next is r n (assigns r (nth is n)) (makers_in is n r) refl
    (count_next (λ i. assigns r (Some i.act)) is n i.0 i.1 ∙ ap (λ o. count_by (λ i. assigns r (Some i.act)) (take n is) + cond (assigns r (act_in o)) 1 0) (sym i.1))
    (fits is r n (omega arith))

-- ---- the sole maker, and what the loop asks of it

sole_fits : (is : List Instr) (r q : ℕ) → sole_maker is r ≡ Some q → Sole is r (length is) q
sole_fits is r q h = by (makers_in is (length is) r) refl (fits is r (length is) (omega arith))
  where
    by : (o : Option (Option ℕ)) → makers_in is (length is) r ≡ o → Fits is r (length is) o → Sole is r (length is) q
    by None e f = absurd (none-some q (sym (ap the_one e) ∙ h))
    by (Some None) e f = absurd (none-some q (sym (ap the_one e) ∙ h))
    by (Some (Some p)) e f = subst (λ z. Sole is r (length is) z) (same_Some p q (sym (ap the_one e) ∙ h)) f

all_counted : (is : List Instr) (r : ℕ) → count_by (λ i. assigns r (Some i.act)) (take (length is) is) ≡ count_by (λ i. assigns r (Some i.act)) is
all_counted is r = ap (count_by (λ i. assigns r (Some i.act))) (take_all is (length is) (omega arith))

has_one : (is : List Instr) (r q : ℕ) → sole_maker is r ≡ Some q → has_one_maker is r ≡ true
has_one is r q h = eq-eqb (count_by (λ i. assigns r (Some i.act)) is) 1 (sym (all_counted is r) ∙ (sole_fits is r q h).one)

not_one : (is : List Instr) (r : ℕ) → sole_maker is r ≡ None → has_one_maker is r ≡ false
not_one is r h = by (makers_in is (length is) r) refl (fits is r (length is) (omega arith))
  where
    apart : (c : ℕ) → (c ≡ 1 → ⊥) → (c == 1) ≡ false
    apart c ne = at (c == 1) refl
      where
        at : (b : Bool) → (c == 1) ≡ b → (c == 1) ≡ false
        at true e = absurd (ne (eqb-true c 1 e))
        at false e = e

    by : (o : Option (Option ℕ)) → makers_in is (length is) r ≡ o → Fits is r (length is) o → has_one_maker is r ≡ false
    by None e f = apart (count_by (λ i. assigns r (Some i.act)) is) (λ one. let z = f.none in let a = all_counted is r in omega arith)
    by (Some None) e f = apart (count_by (λ i. assigns r (Some i.act)) is) (λ one. let a = all_counted is r in omega arith)
    by (Some (Some p)) e f = absurd (none-some p (sym h ∙ ap the_one e))

last_sole : (is : List Instr) (r q k : ℕ) → Sole is r (length is) q → k ≤ length is → last_maker is k r ≡ (if nat_lt q k then Some q else None)
last_sole is r q zero s le = ap (λ b. if b then Some q else None) (sym (le-ltb q 0 (omega arith)))
last_sole is r q (suc k) s le = by (last_sole is r q k s (omega arith)) (assigns r (nth is k)) refl
  where
    by : last_maker is k r ≡ (if nat_lt q k then Some q else None) → (b : Bool) → assigns r (nth is k) ≡ b → (if b then Some k else last_maker is k r) ≡ (if nat_lt q (suc k) then Some q else None)
    by rest true e = let same = s.alone k (omega arith) e in ap Some same ∙ ap (λ b. if b then Some q else None) (sym (lt-ltb q (suc k) (omega arith)))
    by rest false e = ⊎_elim
        (λ (l : q < k). rest ∙ ap (λ b. if b then Some q else None) (lt-ltb q k l ∙ sym (lt-ltb q (suc k) (omega arith))))
        (λ (g : k ≤ q). ⊎_elim
        (λ (m : k < q). rest ∙ ap (λ b. if b then Some q else None) (le-ltb q k g ∙ sym (le-ltb q (suc k) (omega arith))))
        (λ (m : q ≤ k). let same : q ≡ k = omega arith in absurd (true≢false (sym s.makes ∙ ap (λ j. assigns r (nth is j)) same ∙ e)))
        (cases_lt k q))
        (cases_lt q k)

pub only_none : (is : List Instr) (l : LoopInfo) (k r : ℕ) → sole_maker is r ≡ None → only_maker is l k r ≡ None
only_none is l k r h = by (last_maker is k r)
  where
    gone : (a c : Bool) (q : ℕ) → (if a && false && c then Some q else None) ≡ None
    gone true c q = refl
    gone false c q = refl

    by : (o : Option ℕ) → (o >>= (λ q. if nat_lt l.at q && has_one_maker is r && is_entered_at is q k then Some q else None)) ≡ None
    by None = refl
    by (Some q) = ap (λ b. if nat_lt l.at q && b && is_entered_at is q k then Some q else None) (not_one is r h) ∙ gone (nat_lt l.at q) (is_entered_at is q k) q

pub only_past : (is : List Instr) (l : LoopInfo) (k r q : ℕ) → sole_maker is r ≡ Some q → k ≤ length is → k ≤ q → only_maker is l k r ≡ None
only_past is l k r q h le following = ap (λ o. o >>= (λ q. if nat_lt l.at q && has_one_maker is r && is_entered_at is q k then Some q else None)) (last_sole is r q k (sole_fits is r q h) le ∙ ap (λ b. if b then Some q else None) (le-ltb q k following))

pub only_before : (is : List Instr) (l : LoopInfo) (k r q : ℕ) (a c : Bool) → sole_maker is r ≡ Some q → k ≤ length is → q < k → nat_lt l.at q ≡ a → is_entered_at is q k ≡ c → only_maker is l k r ≡ (if a then (if c then Some q else None) else None)
only_before is l k r q a c h le lt first second =
    ap (λ o. o >>= (λ q. if nat_lt l.at q && has_one_maker is r && is_entered_at is q k then Some q else None)) (last_sole is r q k (sole_fits is r q h) le ∙ ap (λ b. if b then Some q else None) (lt-ltb q k lt))
    ∙ ap (λ b. if b && has_one_maker is r && is_entered_at is q k then Some q else None) first
    ∙ ap (λ b. if a && b && is_entered_at is q k then Some q else None) (has_one is r q h)
    ∙ ap (λ b. if a && true && b then Some q else None) second
    ∙ both a c
  where
    both : (a c : Bool) → (if a && true && c then Some q else None) ≡ (if a then (if c then Some q else None) else None)
    both true c = refl
    both false c = refl
