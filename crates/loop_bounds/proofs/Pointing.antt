-- What the pointer of a range is at its access.
use Rattle.std.proofs.Common.{◌≡◌, ℕ, suc, ◌+◌, ◌-◌, ◌<◌, ◌≤◌, ◌^◌, Bool, true, false, cond, ◌&&◌, ℤ, pos, negsuc, ◌+ℤ◌, ◌-ℤ◌, ◌*ℤ◌, neg_ℤ, List, length, set, Option, Some, None, Ok, Err, refl, sym, ap, subst, ◌∙◌, arith, ◌⊎◌, ⊎_elim, eqb-true, ltb-true, eq-eqb, to_z-of_z}
use Rattle.std.specs.Prelude.{slice_set, ◌==◌, nat_lt, FitsSigned}
use mir.Syntax.{w64}
use Rattle.std.specs.Option.{option_and_then}
use Rattle.std.proofs.lemmas.Bool.{cases_lt}
use Rattle.std.proofs.lemmas.List.{get_or-set_same}
use Rattle.std.proofs.Math.IntN.{+ℤ_idr, *ℤ-one}
use Rattle.rr_base.specs.declared.layout.Site.{Site}
use Rattle.rr_base.specs.declared.trap.Trap.{Trap}
use Rattle.rr_base.specs.declared.trap.Trap.TheVariants.{Overflow}
use Rattle.rr_base.specs.Words.{site_of}
use Rattle.flow_code.specs.declared.act.Act.{Act}
use Rattle.flow_code.specs.declared.act.Act.TheVariants as act
use Rattle.flow_code.specs.declared.act.Instr.{Instr}
use Rattle.flow_code.specs.declared.code.LoopInfo.{LoopInfo}
use Rattle.flow_code.specs.declared.region.Base.{Base}
use Rattle.flow_code.specs.declared.region.Base.TheVariants as base
use Rattle.flow_code.specs.declared.work.Work.{Work}
use Rattle.flow_code.specs.declared.work.Work.TheVariants as work
use Rattle.word_semantics.specs.declared.operator.BinaryOp.TheVariants as op
use Rattle.word_semantics.specs.Values.{number, word, fits, fitting, binary_of}
use Rattle.word_semantics.specs.Pointers.{directed, moved_by}
use Rattle.flow_code.specs.Works.{is_pointer, work_of}
use Rattle.word_semantics.specs.Registers.{register}
use Rattle.word_semantics.specs.Operators.{based, either_binary_of}
use Rattle.facts.specs.Blocks.{assigns, is_target, constant_at}
use Rattle.weak_lock_facts.specs.Loops.{nth, keeps, is_entered_at}
use Rattle.weak_lock_facts.specs.Ranges.{maker_at, made_at, base_of, base_at, negative, negative_of, shift_by, made_shift, shift_at, moved_of, moved_shift, last_maker, has_one_maker, only_maker, pointer_of}
use Rattle.loop_bounds.specs.Forms.{IsBorneOut}
use Rattle.loop_bounds.specs.Turns.{Setting, Goes, Comes, AreFit, IsBaseWord, IsMoved}
use Rattle.loop_bounds.proofs.Steps.{both_true, kept, is_entered}
use Rattle.loop_bounds.proofs.Regions.{comes_in, holds_in}
use Rattle.loop_bounds.proofs.Borne.{cond_some, chained, kept_there}
use Rattle.loop_bounds.proofs.Turning.{stays}
use Rattle.loop_bounds.proofs.Making.{IsMade, made, constant_made, constant_act, IsLastMaker, last_made, targeted, after_target, made_value, as_long_as}

-- ---- numbers

pub fits_signed : (z : ℤ) → fits z ≡ true → FitsSigned w64 z
fits_signed (pos n) h = record { sfits = ltb-true n (2 ^ 63) h }
fits_signed (negsuc n) h = record { sfits = ltb-true n (2 ^ 63) h }

pub fitting_ok : (z : ℤ) (v : ℕ) → fitting z ≡ Ok v → number v ≡ z
fitting_ok z v h = by_fits (fits z) refl h
  where
    by_fits : (b : Bool) → fits z ≡ b → cond b (Ok (word z)) (Err Overflow) ≡ Ok v → number v ≡ z
    by_fits true e w = let s : v ≡ word z = cc (w) in ap number s ∙ to_z-of_z (fits_signed z e)
    by_fits false e w = cc

pub plain_sum : (s : Setting) (ps : List ℕ) (x y v : ℕ) → work_of s.slots s.sites s.pointers ps (work.Binary op.Add x y) ≡ Ok v → fitting (number (register ps x) +ℤ number (register ps y)) ≡ Ok v
plain_sum s ps x y v h = by_kind (is_pointer s.pointers x) h
  where
    by_kind : (b : Bool) → either_binary_of b s.sites op.Add (register ps x) (register ps y) ≡ Ok v → fitting (number (register ps x) +ℤ number (register ps y)) ≡ Ok v
    by_kind true w = w
    by_kind false w = w

plain_difference : (s : Setting) (ps : List ℕ) (x y v : ℕ) → work_of s.slots s.sites s.pointers ps (work.Binary op.Subtract x y) ≡ Ok v → fitting (number (register ps x) -ℤ number (register ps y)) ≡ Ok v
plain_difference s ps x y v h = by_kind (is_pointer s.pointers x) h
  where
    by_kind : (b : Bool) → either_binary_of b s.sites op.Subtract (register ps x) (register ps y) ≡ Ok v → fitting (number (register ps x) -ℤ number (register ps y)) ≡ Ok v
    by_kind true w = w
    by_kind false w = w

negated : (z d : ℤ) → negative z ≡ Some d → d ≡ neg_ℤ z
negated (pos n) d h = cc
negated (negsuc n) d h = by_least (n == 2 ^ 63 - 1) h
  where
    by_least : (b : Bool) → cond b None (Some (neg_ℤ (negsuc n))) ≡ Some d → d ≡ neg_ℤ (negsuc n)
    by_least true w = cc
    by_least false w = cc

negated_of : (o : Option ℤ) (d : ℤ) → negative_of o ≡ Some d → (z : ℤ) × (o ≡ Some z) × (d ≡ neg_ℤ z)
negated_of None d h = cc
negated_of (Some z) d h = (z, refl, negated z d h)

-- ---- what a computing instruction gives

same_into : (r into : ℕ) (w : Work) → assigns r (Some (act.Compute into w)) ≡ true → into ≡ r
same_into r into w h = eqb-true into r h

-- the word of the work, in its register
pub record Gives (s : Setting) (ps : List ℕ) (w : Work) (v : ℕ) : Type 0 where
  pub gives : work_of s.slots s.sites s.pointers ps w ≡ Ok v

pub given : (s : Setting) (is : List Instr) (mark : ℕ) (start : List ℕ) → AreFit is (length start) → (m j r into : ℕ) (w : Work) (ps qs : List ℕ) → nth is m ≡ Some (act.Compute into w) → assigns r (nth is m) ≡ true → Comes s is mark start m ps → Goes s (nth is m) m ps j qs → Gives s ps w (register qs r)
given s is mark start f m j r into w ps qs e a c g =
    let x : Goes s (Some (act.Compute into w)) m ps j qs = subst (λ (z : Option Act). Goes s z m ps j qs) e g in
    let same : into ≡ r = same_into r into w (ap (λ z. assigns r z) (sym e) ∙ a) in
    let wide : r < length ps = subst (λ n. r < n) (sym (as_long_as s is mark start m ps c)) (f.registers m r a) in
    let there : register qs r ≡ x.1.0 = ap (λ z. register z r) x.1.2 ∙ ap (λ n. register (slice_set ps n x.1.0) r) same ∙ get_or-set_same ps r x.1.0 0 wide in
    record { gives = x.1.1 ∙ ap (λ (n : ℕ). Ok n) (sym there) }

-- ---- the index

pub copy_word : (s : Setting) (ps : List ℕ) (r v : ℕ) → Gives s ps (work.Copy r) v → v ≡ register ps r
copy_word s ps r v x = cc (x.gives)

-- what a turn of the loop is known by
pub record IsTurn (s : Setting) (is : List Instr) (l : LoopInfo) (start : List ℕ) : Type 0 where
  pub borne : IsBorneOut is l
  pub fit : AreFit is (length start)

mark_target : (is : List Instr) (l : LoopInfo) → IsBorneOut is l → is_target is l.at ≡ true
mark_target is l b = targeted is (l.last + 1) l.at (act.Jump l.at) b.jumps_back (eq-eqb l.at l.at refl)

-- a maker in a block of the loop stands after the Mark
pub past_mark : (is : List Instr) (l : LoopInfo) → IsBorneOut is l → (k r m : ℕ) → IsMade is k r m → l.at < k → l.at < m
past_mark is l b k r m x lt =
    let le : l.at ≤ m = after_target is k r m l.at x (mark_target is l b) (omega arith) in
    ⊎_elim (λ h. h) (λ o. let e : m ≡ l.at = omega arith in let a : assigns r (nth is l.at) ≡ true = subst (λ n. assigns r (nth is n) ≡ true) e x.makes in let n : assigns r (nth is l.at) ≡ false = ap (λ z. assigns r z) b.marks in cc) (cases_lt l.at m)

-- a register that was made a constant has that number
constant_word : (s : Setting) (is : List Instr) (l : LoopInfo) (start : List ℕ) → IsTurn s is l start → (k r : ℕ) (z : ℤ) → l.at < k → constant_at is k r ≡ Some z → (rs : List ℕ) → Comes s is l.at start k rs → number (register rs r) ≡ z
constant_word s is l start t k r z lt h rs c =
    let x = constant_made is k r z h in
    let y = constant_act (nth is x.at) z x.is_so in
    let f : AreFit is (length start) = t.fit in
    let low : l.at < x.at = past_mark is l t.borne k r x.at x.made_so lt in
    made_value s is l.at start k r x.at (λ v. number v ≡ z) x.made_so (omega arith)
    (λ j ps qs d g. let w = given s is l.at start f x.at j r y.0 (work.Constant z) ps qs y.1 x.made_so.makes d g in let e : register qs r ≡ word z = cc (w.gives) in ap number e ∙ to_z-of_z (f.constants x.at y.0 z y.1))
    rs c

abbrev pub IsShifted : List ℕ → LoopInfo → ℤ → ℕ → Type 0
IsShifted start l d v = number v ≡ number (register start l.counter) +ℤ d

shift_made : (s : Setting) (is : List Instr) (l : LoopInfo) (start : List ℕ) → IsTurn s is l start → (m u : ℕ) (d : ℤ) (a : Option Act) → l.at < m → m ≤ l.last - 1 → assigns u (nth is m) ≡ true → nth is m ≡ a → shift_by is l.counter m a ≡ Some d → (j : ℕ) (ps qs : List ℕ) → Comes s is l.at start m ps → Goes s (nth is m) m ps j qs → IsShifted start l d (register qs u)
shift_made s is l start t m u d (Some (act.Compute into (work.Binary op.Add x y))) lt le a e h j ps qs c g =
    let n = cond_some (x == l.counter) (constant_at is m y) d h in
    let same : x ≡ l.counter = eqb-true x l.counter n.0 in
    let w = given s is l.at start t.fit m j u into (work.Binary op.Add x y) ps qs e a c g in
    let sum = fitting_ok (number (register ps x) +ℤ number (register ps y)) (register qs u) (plain_sum s ps x y (register qs u) w.gives) in
    let left : register ps x ≡ register start l.counter = ap (λ r. register ps r) same ∙ stays s is l t.borne start l.counter t.borne.keeps_counter m ps c lt le in
    let right = constant_word s is l start t m y d lt n.1 ps c in
    sum ∙ ap (λ v. number v +ℤ number (register ps y)) left ∙ ap (λ z. number (register start l.counter) +ℤ z) right
shift_made s is l start t m u d (Some (act.Compute into (work.Binary op.Subtract x y))) lt le a e h j ps qs c g =
    let n = cond_some (x == l.counter) (negative_of (constant_at is m y)) d h in
    let same : x ≡ l.counter = eqb-true x l.counter n.0 in
    let k = negated_of (constant_at is m y) d n.1 in
    let w = given s is l.at start t.fit m j u into (work.Binary op.Subtract x y) ps qs e a c g in
    let sum = fitting_ok (number (register ps x) -ℤ number (register ps y)) (register qs u) (plain_difference s ps x y (register qs u) w.gives) in
    let left : register ps x ≡ register start l.counter = ap (λ r. register ps r) same ∙ stays s is l t.borne start l.counter t.borne.keeps_counter m ps c lt le in
    let right = constant_word s is l start t m y k.0 lt k.1 ps c in
    sum ∙ ap (λ v. number v -ℤ number (register ps y)) left ∙ ap (λ z. number (register start l.counter) -ℤ z) right ∙ ap (λ z. number (register start l.counter) +ℤ z) (sym k.2)
shift_made s is l start t m u d _ lt le a e h j ps qs c g = cc

-- the index is the counter and the shift
pub index_word : (s : Setting) (is : List Instr) (l : LoopInfo) (start : List ℕ) → IsTurn s is l start → (k u : ℕ) (d : ℤ) → l.at < k → k ≤ l.last - 1 → shift_at is l.counter k u ≡ Some d → (rs : List ℕ) → Comes s is l.at start k rs → IsShifted start l d (register rs u)
index_word s is l start t k u d lt le h rs c = by (u == l.counter) refl h
  where
    by : (b : Bool) → (u == l.counter) ≡ b → cond b (Some (pos 0)) (made_shift is l.counter k u) ≡ Some d → IsShifted start l d (register rs u)
    by true same w =
        let e : u ≡ l.counter = eqb-true u l.counter same in
        let none : pos 0 ≡ d = cc (w) in
        ap (λ r. number (register rs r)) e ∙ ap number (stays s is l t.borne start l.counter t.borne.keeps_counter k rs c lt le) ∙ sym (+ℤ_idr (number (register start l.counter))) ∙ ap (λ z. number (register start l.counter) +ℤ z) none
    by false other w =
        let y = chained (λ m. shift_by is l.counter m (nth is m)) (maker_at is k u) d w in
        let x = made is k u y.0 y.1 in
        let low : l.at < y.0 = past_mark is l t.borne k u y.0 x lt in
        let high : y.0 < k = x.before in
        made_value s is l.at start k u y.0 (IsShifted start l d) x (omega arith) (λ j ps qs v g. shift_made s is l start t y.0 u d (nth is y.0) low (omega arith) x.makes refl y.2 j ps qs v g) rs c

-- ---- the base

pub address_word : (s : Setting) (ps : List ℕ) (w v : ℕ) → Gives s ps (work.Address w) v → v ≡ based s.slots w
address_word s ps w v x = cc (x.gives)

base_word : (s : Setting) (is : List Instr) (l : LoopInfo) (start : List ℕ) → IsTurn s is l start → (k r : ℕ) (b : Base) → l.at < k → k ≤ l.last - 1 → base_at is l k r ≡ Some b → (rs : List ℕ) → Comes s is l.at start k rs → IsBaseWord s start b (register rs r)
base_word s is l start t k r b lt le h rs c = at_it (made_at is k r) refl h
  where
    -- a register that the loop keeps
    held : cond (keeps is l r) (Some (base.Register r)) None ≡ Some b → IsBaseWord s start b (register rs r)
    held g =
        let x = cond_some (keeps is l r) (Some (base.Register r)) b g in
        let same : base.Register r ≡ b = cc (x.1) in
        subst (λ z. IsBaseWord s start z (register rs r)) same (stays s is l t.borne start r (λ n low high apart. kept_there is l r n x.0 low high) k rs c lt le)

    at_it : (o : Option Act) → made_at is k r ≡ o → base_of is l r o ≡ Some b → IsBaseWord s start b (register rs r)
    at_it (Some (act.Compute into (work.Address w))) e g =
        let same : base.Site (site_of w) ≡ b = cc (g) in
        let z = chained (λ m. nth is m) (maker_at is k r) (act.Compute into (work.Address w)) e in
        let x = made is k r z.0 z.1 in
        let low : l.at < z.0 = past_mark is l t.borne k r z.0 x lt in
        made_value s is l.at start k r z.0 (IsBaseWord s start b) x (omega arith)
        (λ j ps qs d y. subst (λ v. IsBaseWord s start v (register qs r)) same (w, refl, address_word s ps w (register qs r) (given s is l.at start t.fit z.0 j r into (work.Address w) ps qs z.2 x.makes d y)))
        rs c
    at_it _ e g = held g

-- ---- the pointer

pub moved_act : (a : Option Act) (m : ℕ × ℕ) → moved_of a ≡ Some m → (into : ℕ) × (a ≡ Some (act.Compute into (work.Move m.0 m.1 1 false)))
moved_act (Some (act.Compute into (work.Move pointer by element false))) m h =
    let x = cond_some (element == 1) (Some (pointer, by)) m h in
    let e : element ≡ 1 = eqb-true element 1 x.0 in
    let f : pointer ≡ m.0 = pair_first (pointer, by) m x.1 in
    let g : by ≡ m.1 = pair_second (pointer, by) m x.1 in
    (into, cc (e, f, g))
  where
    pair_first : (p q : ℕ × ℕ) → Some p ≡ Some q → p.0 ≡ q.0
    pair_first p q w = let v : p ≡ q = cc (w) in ap (λ z. z.0) v

    pair_second : (p q : ℕ × ℕ) → Some p ≡ Some q → p.1 ≡ q.1
    pair_second p q w = let v : p ≡ q = cc (w) in ap (λ z. z.1) v
moved_act _ m h = cc

pub single : (z : ℤ) → directed false z *ℤ pos 1 ≡ z
unfolding lib.IntN.one
single z = *ℤ-one z

moved_word : (s : Setting) (is : List Instr) (l : LoopInfo) (start : List ℕ) → IsTurn s is l start → (q p : ℕ) (d : ℤ) (m : ℕ × ℕ) (b : Base) → l.at < q → q ≤ l.last - 1 → assigns p (nth is q) ≡ true → moved_of (nth is q) ≡ Some m → base_at is l q m.0 ≡ Some b → shift_at is l.counter q m.1 ≡ Some d → (j : ℕ) (ps qs : List ℕ) → Comes s is l.at start q ps → Goes s (nth is q) q ps j qs → IsMoved s start l b d (register qs p)
moved_word s is l start t q p d m b lt le a mv bs sh j ps qs c g =
    let x = moved_act (nth is q) m mv in
    let w = given s is l.at start t.fit q j p x.0 (work.Move m.0 m.1 1 false) ps qs x.1 a c g in
    let index : number (register ps m.1) ≡ number (register start l.counter) +ℤ d = index_word s is l start t q m.1 d lt le sh ps c in
    record {
      base_word = register ps m.0;
      is_base = base_word s is l start t q m.0 b lt le bs ps c;
      moves = ap (λ z. moved_by s.sites (register ps m.0) z) (sym (single (number (register ps m.1)) ∙ index)) ∙ w.gives;
    }

pub accesses : (a : Option Act) (p : ℕ) → option_and_then pointer_of a ≡ Some p → (s : Setting) (k j : ℕ) (rs qs : List ℕ) → Goes s a k rs j qs → j ≡ k + 1
accesses (Some (act.LoadCell into through)) p h s k j rs qs g = g.0
accesses (Some (act.StoreCell through from)) p h s k j rs qs g = g.0
accesses _ p h s k j rs qs g = cc

pointer_kept : (s : Setting) (is : List Instr) (l : LoopInfo) (start : List ℕ) (k p q : ℕ) (d : ℤ) (b : Base) → option_and_then pointer_of (nth is k) ≡ Some p → IsLastMaker is k p q → (i j : ℕ) (ps qs : List ℕ) → q < i → i ≤ k → q < j → j ≤ k → Goes s (nth is i) i ps j qs → IsMoved s start l b d (register ps p) → IsMoved s start l b d (register qs p)
pointer_kept s is l start k p q d b acc lm i j ps qs lt le lt2 le2 g o = ⊎_elim
    (λ below. subst (λ (v : ℕ). IsMoved s start l b d v) (sym (kept s (nth is i) i j ps qs p g (lm.alone i lt below))) o)
    (λ above. absurd (at_it (omega arith)))
    (cases_lt i k)
  where
    at_it : i ≡ k → ⊥
    at_it e = let n : j ≡ k + 1 = accesses (nth is k) p acc s k j ps qs (subst (λ (n : ℕ). Goes s (nth is n) n ps j qs) e g) in omega arith

pointer_holds : (s : Setting) (is : List Instr) (l : LoopInfo) (start : List ℕ) → IsTurn s is l start → (k p q : ℕ) (d : ℤ) → k ≤ l.last - 1 → option_and_then pointer_of (nth is k) ≡ Some p → l.at < q → IsLastMaker is k p q → is_entered_at is q k ≡ true → (m : ℕ × ℕ) (b : Base) → moved_of (nth is q) ≡ Some m → base_at is l q m.0 ≡ Some b → shift_at is l.counter q m.1 ≡ Some d → (rs : List ℕ) → Comes s is l.at start k rs → IsMoved s start l b d (register rs p)
pointer_holds s is l start t k p q d le acc lt lm en m b mv bs sh rs c =
    let before : q < k = lm.before in
    let high : q ≤ l.last - 1 = omega arith in
    holds_in s is l.at start q k (λ z. IsMoved s start l b d (register z p)) (omega arith) (comes_in s is q k (is_entered is q k en))
    (λ j ps qs w g lt2 le2. moved_word s is l start t q p d m b lt high lm.makes mv bs sh j ps qs w g)
    (λ i j ps qs lt2 le2 lt3 le3 w g o. pointer_kept s is l start k p q d b acc lm i j ps qs lt2 le2 lt3 le3 g o)
    k rs c before (omega arith)

-- at its access
pub pointer_word : (s : Setting) (is : List Instr) (l : LoopInfo) (start : List ℕ) → IsTurn s is l start → (k p q : ℕ) (d : ℤ) → k ≤ l.last - 1 → option_and_then pointer_of (nth is k) ≡ Some p → only_maker is l k p ≡ Some q → moved_shift is l q ≡ Some d → (rs : List ℕ) → Comes s is l.at start k rs → (b : Base) × IsMoved s start l b d (register rs p)
pointer_word s is l start t k p q d le acc om ms rs c =
    let x = chained (λ n. cond (nat_lt l.at n && has_one_maker is p && is_entered_at is n k) (Some n) None) (last_maker is k p) q om in
    let y = cond_some (nat_lt l.at x.0 && has_one_maker is p && is_entered_at is x.0 k) (Some x.0) q x.2 in
    let same : x.0 ≡ q = cc (y.1) in
    let z = both_true (nat_lt l.at x.0 && has_one_maker is p) (is_entered_at is x.0 k) y.0 in
    let lo = both_true (nat_lt l.at x.0) (has_one_maker is p) z.0 in
    let lt : l.at < q = let h : l.at < x.0 = ltb-true l.at x.0 lo.0 in omega arith in
    let lm : IsLastMaker is k p q = subst (λ n. IsLastMaker is k p n) same (last_made is k p x.0 x.1) in
    let en : is_entered_at is q k ≡ true = subst (λ n. is_entered_at is n k ≡ true) same z.1 in
    let mv = chained (λ m. option_and_then (λ b. shift_at is l.counter q m.1) (base_at is l q m.0)) (moved_of (nth is q)) d ms in
    let bs = chained (λ b. shift_at is l.counter q mv.0.1) (base_at is l q mv.0.0) d mv.2 in
    (bs.0, pointer_holds s is l start t k p q d le acc lt lm en mv.0 bs.0 mv.1 bs.1 bs.2 rs c)
