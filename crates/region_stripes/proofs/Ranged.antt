-- What a range says of the pointer of its access in any turn.
use Rattle.std.proofs.Common.{◌≡◌, ℕ, ◌≤◌, true, false, not, cond, ℤ, List, length, Option, Some, None, refl, sym, ap, subst, ◌∙◌}
use Rattle.std.specs.Prelude.{◌<ℤ◌}
use Rattle.std.specs.Option.{option_and_then}
use Rattle.flow_code.specs.declared.act.Act.{Act}
use Rattle.flow_code.specs.declared.act.Instr.{Instr}
use Rattle.flow_code.specs.declared.code.Code.{Code}
use Rattle.flow_code.specs.declared.code.Function.{Function}
use Rattle.flow_code.specs.declared.code.LoopInfo.{LoopInfo}
use Rattle.flow_code.specs.declared.region.Base.{Base}
use Rattle.flow_code.specs.declared.region.Base.TheVariants as base
use Rattle.flow_code.specs.declared.region.Bound.{Bound}
use Rattle.flow_code.specs.declared.region.Bound.TheVariants as bound
use Rattle.flow_code.specs.Kinds.{has_register}
use Rattle.flow_code.specs.Stripes.{bound_of}
use Rattle.flow_code.specs.Works.{is_pointer}
use Rattle.word_semantics.specs.Registers.{register}
use Rattle.word_semantics.specs.Values.{number}
use Rattle.facts.specs.PointsTo.{Tables, list_at}
use Rattle.weak_lock_facts.specs.declared.range.Range.{Range}
use Rattle.weak_lock_facts.specs.Loops.{nth, keeps, is_counted, counted_of}
use Rattle.weak_lock_facts.specs.Ranges.{loop_round, pointer_of, only_maker, moved_shift, have_single_cells, range, range_in, range_at}
use Rattle.weak_code.specs.Stretches.{element_base}
use Rattle.loop_bounds.specs.Forms.{IsBorneOut}
use Rattle.loop_bounds.specs.Turns.{Setting, AreFit}
use Rattle.loop_bounds.proofs.Steps.{both_true, not_true}
use Rattle.loop_bounds.proofs.Borne.{cond_some, kept_there, borne_out}
use Rattle.loop_bounds.proofs.Pointing.{IsTurn}
use Rattle.weak_valid.proofs.RegionsFit.{counted_loop}
use Rattle.region_stripes.specs.Inside.{Inside}
use Rattle.region_stripes.specs.InRange.{HasBase, IsInRange}
use Rattle.region_stripes.proofs.Counting.{before_bound, access_past, access_before}
use Rattle.region_stripes.proofs.Elements.{KeepsBase, pointer_word}
use Rattle.region_stripes.proofs.Innermost.{round_it}
use Rattle.region_stripes.proofs.Inward.{inside_long, inside_kept, rises, in_turn}

pub kept_inside : (s : Setting) (fn : Function) (l : LoopInfo) (start : List ℕ) (r k : ℕ) (rs : List ℕ) → is_counted fn l ≡ true → keeps fn.instrs l r ≡ true → Inside s fn.instrs l start k rs → register rs r ≡ register start r
kept_inside s fn l start r k rs h e i = inside_kept s fn.instrs l (borne_out fn l h) start r (λ n low high. kept_there fn.instrs l r n e low high) k rs i

-- the counter isn't a pointer
whole_counter : (s : Setting) (fn : Function) (l : LoopInfo) → s.pointers ≡ fn.pointers → is_counted fn l ≡ true → is_pointer s.pointers l.counter ≡ false
whole_counter s fn l same h = ap (λ ps. is_pointer ps l.counter) same ∙ not_true (is_pointer fn.pointers l.counter) (both_true (has_register fn l.counter) (not (is_pointer fn.pointers l.counter)) (counted_loop fn l h).counter).1

bound_same : (s : Setting) (fn : Function) (l : LoopInfo) (start : List ℕ) → IsBorneOut fn.instrs l → (k : ℕ) (rs : List ℕ) → Inside s fn.instrs l start k rs → bound_of rs l.bound ≡ bound_of start l.bound
bound_same s fn l start b k rs i = go l.bound refl
  where
    go : (z : Bound) → l.bound ≡ z → bound_of rs z ≡ bound_of start z
    go (bound.Number z) e = refl
    go (bound.Register r) e = ap number (inside_kept s fn.instrs l b start r (λ n low high. b.keeps_bound r n e low high) k rs i)

-- the base is what it was where the loop was entered
base_same : (s : Setting) (fn : Function) (l : LoopInfo) (start rs : List ℕ) (b : Base) (v : ℕ) → is_counted fn l ≡ true → KeepsBase fn.instrs l b → (k : ℕ) → Inside s fn.instrs l start k rs → HasBase s fn.instrs rs b v → HasBase s fn.instrs start b v
base_same s fn l start rs (base.Site g) v h e k i x = x
base_same s fn l start rs (base.Register r) v h e k i x = x ∙ kept_inside s fn l start r k rs h e i

module _ (s : Setting) (fn : Function) (l : LoopInfo) (start rs : List ℕ) (k p q : ℕ) (d : ℤ) (same : s.pointers ≡ fn.pointers) (fit : AreFit fn.instrs (length start)) where
  there : is_counted fn l ≡ true → k ≤ l.last → option_and_then pointer_of (nth fn.instrs k) ≡ Some p → only_maker fn.instrs l k p ≡ Some q → moved_shift fn.instrs l q ≡ Some d → Inside s fn.instrs l start k rs → IsInRange s fn.instrs start l (element_base fn.instrs k p) d (register rs p)
  there h within acc om ms i =
      let borne = borne_out fn l h in
      let first : IsTurn s fn.instrs l start = record { borne = borne; fit = fit } in
      let x = in_turn s fn.instrs l start first (rises fn l h) k rs i in
      let t : IsTurn s fn.instrs l x.turn = record { borne = borne; fit = subst (AreFit fn.instrs) (sym (inside_long s fn.instrs l start l.at x.turn x.began)) fit } in
      let le = access_before s fn.instrs l x.turn t k p acc within in
      let y = pointer_word s fn.instrs l x.turn t k p q d le acc om ms rs x.comes in
      let lt = access_past s fn.instrs l x.turn t k p acc y.2 in
      record {
        count = number (register x.turn l.counter);
        from = x.low;
        before = subst (λ z. number (register x.turn l.counter) <ℤ z) (bound_same s fn l start borne l.at x.turn x.began) (before_bound s fn.instrs l x.turn t (whole_counter s fn l same h) k rs lt le x.comes);
        base_word = y.1.base_word;
        is_base = base_same s fn l start x.turn (element_base fn.instrs k p) y.1.base_word h y.0 l.at x.began y.1.is_base;
        moves = y.1.moves;
      }

-- what a range is of
pub record IsRangeOf (f : ℕ) (fn : Function) (k : ℕ) (x : Act) (r : Range) : Type 0 where
  pub through : ℕ
  pub loop : LoopInfo
  pub maker : ℕ
  pub accesses : pointer_of x ≡ Some through
  pub round : loop_round fn.instrs k (counted_of fn) ≡ Some loop
  pub made : only_maker fn.instrs loop k through ≡ Some maker
  pub shifts : moved_shift fn.instrs loop maker ≡ Some r.shift
  pub function : r.function ≡ f
  pub instr : r.instr ≡ k
  pub mark : r.loop_at ≡ loop.at

range_parts : (f k : ℕ) (l : LoopInfo) (d : ℤ) (r : Range) → Some (range f k l d) ≡ Some r → (r.function ≡ f) × (r.instr ≡ k) × (r.loop_at ≡ l.at) × (d ≡ r.shift)
range_parts f k l d r h =
    let e : r ≡ range f k l d = cc (h) in
    (ap (λ (z : Range). z.function) e, ap (λ (z : Range). z.instr) e, ap (λ (z : Range). z.loop_at) e, sym (ap (λ (z : Range). z.shift) e))

range_made : (code : Code) (t : Tables) (f : ℕ) (is : List Instr) (k p : ℕ) (l : LoopInfo) (r : Range) → range_in code t f is k p l ≡ Some r → (m : ℕ) × (only_maker is l k p ≡ Some m) × (moved_shift is l m ≡ Some r.shift) × (r.function ≡ f) × (r.instr ≡ k) × (r.loop_at ≡ l.at)
range_made code t f is k p l r h = maker (only_maker is l k p) refl h
  where
    single : (m : ℕ) (d : ℤ) → only_maker is l k p ≡ Some m → moved_shift is l m ≡ Some d → Some (range f k l d) ≡ Some r → (m : ℕ) × (only_maker is l k p ≡ Some m) × (moved_shift is l m ≡ Some r.shift) × (r.function ≡ f) × (r.instr ≡ k) × (r.loop_at ≡ l.at)
    single m d e g h = let x = range_parts f k l d r h in (m, e, g ∙ ap (λ (z : ℤ). Some z) x.3, x.0, x.1, x.2)

    moved : (m : ℕ) (o : Option ℤ) → only_maker is l k p ≡ Some m → moved_shift is l m ≡ o → option_and_then (λ d. cond (have_single_cells code (list_at t.registers f p)) (Some (range f k l d)) None) o ≡ Some r → (m : ℕ) × (only_maker is l k p ≡ Some m) × (moved_shift is l m ≡ Some r.shift) × (r.function ≡ f) × (r.instr ≡ k) × (r.loop_at ≡ l.at)
    moved m None e g h = cc
    moved m (Some d) e g h = single m d e g (cond_some (have_single_cells code (list_at t.registers f p)) (Some (range f k l d)) r h).1

    maker : (o : Option ℕ) → only_maker is l k p ≡ o → option_and_then (λ n. option_and_then (λ d. cond (have_single_cells code (list_at t.registers f p)) (Some (range f k l d)) None) (moved_shift is l n)) o ≡ Some r → (m : ℕ) × (only_maker is l k p ≡ Some m) × (moved_shift is l m ≡ Some r.shift) × (r.function ≡ f) × (r.instr ≡ k) × (r.loop_at ≡ l.at)
    maker None e h = cc
    maker (Some m) e h = moved m (moved_shift is l m) e refl h

pub range_of : (code : Code) (t : Tables) (f : ℕ) (fn : Function) (k : ℕ) (x : Act) (r : Range) → range_at code t f fn.instrs (counted_of fn) k x ≡ Some r → IsRangeOf f fn k x r
range_of code t f fn k x r h = pointer (pointer_of x) refl h
  where
    found : (p : ℕ) (l : LoopInfo) → pointer_of x ≡ Some p → loop_round fn.instrs k (counted_of fn) ≡ Some l → range_in code t f fn.instrs k p l ≡ Some r → IsRangeOf f fn k x r
    found p l e g h = let m = range_made code t f fn.instrs k p l r h in record { through = p; loop = l; maker = m.0; accesses = e; round = g; made = m.1; shifts = m.2; function = m.3; instr = m.4; mark = m.5 }

    round : (p : ℕ) (o : Option LoopInfo) → pointer_of x ≡ Some p → loop_round fn.instrs k (counted_of fn) ≡ o → option_and_then (λ l. range_in code t f fn.instrs k p l) o ≡ Some r → IsRangeOf f fn k x r
    round p None e g h = cc
    round p (Some l) e g h = found p l e g h

    pointer : (o : Option ℕ) → pointer_of x ≡ o → option_and_then (λ p. option_and_then (λ l. range_in code t f fn.instrs k p l) (loop_round fn.instrs k (counted_of fn))) o ≡ Some r → IsRangeOf f fn k x r
    pointer None e h = cc
    pointer (Some p) e h = round p (loop_round fn.instrs k (counted_of fn)) e refl h

pub range_inside : (s : Setting) (f : ℕ) (fn : Function) (k : ℕ) (x : Act) (r : Range) (o : IsRangeOf f fn k x r) (start rs : List ℕ) → nth fn.instrs k ≡ Some x → s.pointers ≡ fn.pointers → AreFit fn.instrs (length start) → Inside s fn.instrs o.loop start k rs → IsInRange s fn.instrs start o.loop (element_base fn.instrs k o.through) r.shift (register rs o.through)
range_inside s f fn k x r o start rs at pointers fit i =
    let so = round_it fn k o.loop o.round in
    there s fn o.loop start rs k o.through o.maker r.shift pointers fit so.counted so.within (ap (λ z. option_and_then pointer_of z) at ∙ o.accesses) o.made o.shifts i

pub in_range : (s : Setting) (code : Code) (t : Tables) (f : ℕ) (fn : Function) (k p : ℕ) (x : Act) (r : Range) (l : LoopInfo) (start rs : List ℕ) → nth fn.instrs k ≡ Some x → pointer_of x ≡ Some p → range_at code t f fn.instrs (counted_of fn) k x ≡ Some r → loop_round fn.instrs k (counted_of fn) ≡ Some l → s.pointers ≡ fn.pointers → AreFit fn.instrs (length start) → Inside s fn.instrs l start k rs → IsInRange s fn.instrs start l (element_base fn.instrs k p) r.shift (register rs p)
in_range s code t f fn k p x r l start rs at acc h round pointers fit i =
    let o = range_of code t f fn k x r h in
    let same_p : o.through ≡ p = some_number o.through p (sym o.accesses ∙ acc) in
    let same_l : o.loop ≡ l = some_loop o.loop l (sym o.round ∙ round) in
    subst (λ q. IsInRange s fn.instrs start l (element_base fn.instrs k q) r.shift (register rs q)) same_p
    (subst (λ z. Inside s fn.instrs z start k rs → IsInRange s fn.instrs start z (element_base fn.instrs k o.through) r.shift (register rs o.through)) same_l (λ j. range_inside s f fn k x r o start rs at pointers fit j) i)
  where
    some_loop : (y z : LoopInfo) → Some y ≡ Some z → y ≡ z
    some_loop y z e = cc (e)

    some_number : (y z : ℕ) → Some y ≡ Some z → y ≡ z
    some_number y z e = cc (e)
