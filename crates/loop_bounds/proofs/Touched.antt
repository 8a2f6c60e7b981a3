-- What a range says of the pointer of its access.
use Rattle.std.proofs.Common.{◌≡◌, ◌≢◌, ℕ, ◌-◌, ◌≤◌, Bool, true, false, cond, ◌&&◌, ℤ, List, [], ◌∷◌, length, Option, Some, None, refl, sym, ap, subst, ◌∙◌, arith, ◌⊎◌, ⊎_elim, leb-true}
use Rattle.std.specs.Prelude.{nat_le}
use Rattle.std.specs.List.{filter}
use Rattle.std.specs.Option.{option_and_then}
use Rattle.std.proofs.lemmas.Bool.{cases_lt}
use Rattle.flow_code.specs.declared.act.Act.{Act}
use Rattle.flow_code.specs.declared.act.Act.TheVariants as act
use Rattle.flow_code.specs.declared.act.Instr.{Instr}
use Rattle.flow_code.specs.declared.code.Code.{Code}
use Rattle.flow_code.specs.declared.code.Function.{Function}
use Rattle.flow_code.specs.declared.code.LoopInfo.{LoopInfo}
use Rattle.flow_code.specs.declared.work.Work.TheVariants as work
use Rattle.word_semantics.specs.Registers.{register}
use Rattle.facts.specs.PointsTo.{Tables, list_at}
use Rattle.weak_lock_facts.specs.declared.range.Range.{Range}
use Rattle.weak_lock_facts.specs.Loops.{nth, loop_code, is_counted, counted_of}
use Rattle.weak_lock_facts.specs.Ranges.{is_number, mark_before, is_innermost, calls_nothing, loop_round, pointer_of, only_maker, moved_shift, have_single_cells, range, range_in, range_at}
use Rattle.loop_bounds.specs.Forms.{IsBorneOut}
use Rattle.loop_bounds.specs.Turns.{Setting, Comes, AreFit, IsElement}
use Rattle.loop_bounds.proofs.Steps.{both_true}
use Rattle.loop_bounds.proofs.Borne.{cond_some, chained, borne_out}
use Rattle.loop_bounds.proofs.Pointing.{pointer_word}

record IsRound (fn : Function) (k : ℕ) (l : LoopInfo) : Type 0 where
  pub bears_out : is_counted fn l ≡ true
  pub within : k ≤ l.last

round_in : (fn : Function) (k : ℕ) (l m : LoopInfo) (ms : List LoopInfo) → (loop_round fn.instrs k (filter (is_counted fn) ms) ≡ Some l → IsRound fn k l) → (b : Bool) → is_counted fn m ≡ b → loop_round fn.instrs k (cond b (m ∷ filter (is_counted fn) ms) (filter (is_counted fn) ms)) ≡ Some l → IsRound fn k l
round_in fn k l m ms rec false e h = rec h
round_in fn k l m ms rec true e h = by_test (is_innermost fn.instrs k m && calls_nothing (loop_code fn.instrs m)) refl h
  where
    by_test : (b : Bool) → is_innermost fn.instrs k m && calls_nothing (loop_code fn.instrs m) ≡ b → cond b (Some m) (loop_round fn.instrs k (filter (is_counted fn) ms)) ≡ Some l → IsRound fn k l
    by_test false n w = rec w
    by_test true n w =
        let same : m ≡ l = cc (w) in
        let inner = both_true (is_innermost fn.instrs k m) (calls_nothing (loop_code fn.instrs m)) n in
        let low = both_true (nat_le k m.last) (is_number m.at (mark_before fn.instrs k k)) inner.0 in
        subst (λ (z : LoopInfo). IsRound fn k z) same (record { bears_out = e; within = leb-true k m.last low.0 })

round_of : (fn : Function) (k : ℕ) (l : LoopInfo) (ms : List LoopInfo) → loop_round fn.instrs k (filter (is_counted fn) ms) ≡ Some l → IsRound fn k l
round_of fn k l [] h = cc
round_of fn k l (m ∷ ms) h = round_in fn k l m ms (λ w. round_of fn k l ms w) (is_counted fn m) refl h

-- an access isn't the last instruction of a counted loop
not_last : (is : List Instr) (l : LoopInfo) (k p : ℕ) → IsBorneOut is l → option_and_then pointer_of (nth is k) ≡ Some p → k ≢ l.last
not_last is l k p b h e =
    let v = b.value in
    let w : nth is k ≡ Some (act.Compute v.0 (work.Copy v.1)) = ap (λ n. nth is n) e ∙ v.2 in
    let x : option_and_then pointer_of (nth is k) ≡ None = ap (λ a. option_and_then pointer_of a) w in
    cc

pub element : (s : Setting) (code : Code) (t : Tables) (f : ℕ) (fn : Function) (k p : ℕ) (x : Act) (r : Range) (start rs : List ℕ) → nth fn.instrs k ≡ Some x → pointer_of x ≡ Some p → range_at code t f fn.instrs (counted_of fn) k x ≡ Some r → AreFit fn.instrs (length start) → Comes s fn.instrs r.loop_at start k rs → IsElement s fn start r (register rs p)
element s code t f fn k p x r start rs at acc h fit c =
    let is = fn.instrs in
    let a = chained (λ q. option_and_then (λ l. range_in code t f is k q l) (loop_round is k (counted_of fn))) (pointer_of x) r h in
    let same_p : a.0 ≡ p = cc (a.1, acc) in
    let b = chained (λ l. range_in code t f is k a.0 l) (loop_round is k (counted_of fn)) r a.2 in
    let q = chained (λ n. option_and_then (λ d. cond (have_single_cells code (list_at t.registers f a.0)) (Some (range f k b.0 d)) None) (moved_shift is b.0 n)) (only_maker is b.0 k a.0) r b.2 in
    let d = chained (λ z. cond (have_single_cells code (list_at t.registers f a.0)) (Some (range f k b.0 z)) None) (moved_shift is b.0 q.0) r q.2 in
    let y = cond_some (have_single_cells code (list_at t.registers f a.0)) (Some (range f k b.0 d.0)) r d.2 in
    let same : range f k b.0 d.0 ≡ r = cc (y.1) in
    let so = round_of fn k b.0 fn.loops b.1 in
    let borne = borne_out fn b.0 so.bears_out in
    let acc' : option_and_then pointer_of (nth is k) ≡ Some p = ap (λ z. option_and_then pointer_of z) at ∙ acc in
    let apart = not_last is b.0 k p borne acc' in
    let within : k ≤ b.0.last - 1 = strictly k b.0.last so.within apart in
    let om : only_maker is b.0 k p ≡ Some q.0 = ap (λ n. only_maker is b.0 k n) (sym same_p) ∙ q.1 in
    subst (λ (z : Range). Comes s is z.loop_at start k rs → IsElement s fn start z (register rs p)) same (λ w. there b.0 q.0 d.0 so.bears_out borne within acc' om d.1 w) c
  where
    strictly : (m n : ℕ) → m ≤ n → m ≢ n → m ≤ n - 1
    strictly m n le apart = ⊎_elim (λ lt. omega arith) (λ o. absurd (apart (omega arith))) (cases_lt m n)

    there : (l : LoopInfo) (q : ℕ) (d : ℤ) → is_counted fn l ≡ true → IsBorneOut fn.instrs l → k ≤ l.last - 1 → option_and_then pointer_of (nth fn.instrs k) ≡ Some p → only_maker fn.instrs l k p ≡ Some q → moved_shift fn.instrs l q ≡ Some d → Comes s fn.instrs l.at start k rs → IsElement s fn start (range f k l d) (register rs p)
    there l q d counted borne within acc2 om ms w =
        let z = pointer_word s fn.instrs l start (record { borne = borne; fit = fit }) k p q d within acc2 om ms rs w in
        record { counted = l; bears_out = counted; begins_at = refl; moved_base = z.0; is_moved = z.1 }
