-- Each line is that of one item.
use Rattle.std.proofs.Common.{◌≡◌, ℕ, ◌-◌, ◌≤◌, ◌<◌, ◌^◌, Bool, true, false, List, [], ◌∷◌, ◌++◌, map, Option, Some, None, refl, sym, ap, subst, ◌∙◌, arith, ⊎_elim}
use Rattle.std.specs.Prelude.{codes}
use Rattle.std.specs.List.{AllByRecursion}
use Rattle.std.proofs.lemmas.Bool.{cases_lt}
use Rattle.std.proofs.lemmas.Option.{same_Some}
use Rattle.profiles.specs.Profile.{Text}
use Rattle.sync_objects.specs.declared.object.ObjId.{ObjId}
use Rattle.order_log.specs.Line.{cut, object_in}
use Rattle.order_log.specs.Text.{number_text, object_text}
use Rattle.order_log.proofs.Entries.{object_again}
use Rattle.reads_text.specs.Text.{value_text}
use Rattle.thread_interpreter.specs.declared.part.FramePart.{FramePart}
use Rattle.thread_interpreter.specs.declared.part.StripePart.{StripePart}
use Rattle.thread_interpreter.specs.declared.part.RegionPart.{RegionPart}
use Rattle.snapshots.specs.Text.{cell_line, object_line, stripe_word, stripe_line, frame_line, pair_text, region_line, phase_fields, head_line}
use Rattle.snapshots.specs.declared.draft.Head.{Head}
use Rattle.snapshots.specs.declared.draft.HeadPhase.{HeadPhase}
use Rattle.snapshots.specs.declared.draft.HeadPhase.TheVariants as phase
use Rattle.snapshot_lines.specs.Fields.{fields_of}
use Rattle.snapshot_lines.proofs.Lines.{heads, tails, cell_fields, object_fields, stripe_fields, frame_fields, region_fields, pair_cut}
use Rattle.snapshot_lines.proofs.Phases.{head_line_fields, begun_only, byte, ended_only, fresh_only, running_only, trapped_only}
use Rattle.snapshot_lines.proofs.Values.{no_sign, same_number, value_low, value_high}

-- ---- fields

value_once : (v w : ℕ) → v < 2 ^ 64 → w < 2 ^ 64 → value_text v ≡ value_text w → v ≡ w
value_once v w small_v small_w e =
    ⊎_elim
    (λ low_v. ⊎_elim (λ low_w. same_number v w (sym (value_low v low_v) ∙ e ∙ value_low w low_w)) (λ high_w. absurd (no_sign (number_text (18446744073709551616 - w)) v (sym (value_high w high_w small_w) ∙ sym e ∙ value_low v low_v))) (cases_lt w 9223372036854775808))
    (λ high_v.
    ⊎_elim (λ low_w. absurd (no_sign (number_text (18446744073709551616 - v)) w (sym (value_high v high_v small_v) ∙ e ∙ value_low w low_w)))
    (λ high_w. both high_v high_w (same_number (18446744073709551616 - v) (18446744073709551616 - w) (tail (sym (value_high v high_v small_v) ∙ e ∙ value_high w high_w small_w))))
    (cases_lt w 9223372036854775808))
    (cases_lt v 9223372036854775808)
  where
    tail : {x y : Text} → 45 ∷ x ≡ 45 ∷ y → x ≡ y
    tail f = cc

    both : 9223372036854775808 ≤ v → 9223372036854775808 ≤ w → 18446744073709551616 - v ≡ 18446744073709551616 - w → v ≡ w
    both a b f = omega arith

values_once : (vs ws : List ℕ) → AllByRecursion (λ w. w < 2 ^ 64) vs → AllByRecursion (λ w. w < 2 ^ 64) ws → map value_text vs ≡ map value_text ws → vs ≡ ws
values_once [] [] h k e = refl
values_once [] (w ∷ ws) h k e = cc
values_once (v ∷ vs) [] h k e = cc
values_once (v ∷ vs) (w ∷ ws) h k e =
    let first = value_once v w h.0 k.0 (heads (value_text v) (value_text w) (map value_text vs) (map value_text ws) e) in
    let rest = values_once vs ws h.1 k.1 (tails (value_text v) (value_text w) (map value_text vs) (map value_text ws) e) in
    λ i. first i ∷ rest i

object_once : (x y : ObjId) → object_text x ≡ object_text y → x ≡ y
object_once x y e = same_Some x y (sym (object_again x) ∙ ap object_in e ∙ object_again y)

two_letters : (n : ℕ) → n ≡ 104 → n ≡ 111 → ⊥
two_letters n e f = omega arith

word_once : (a b : Bool) → stripe_word a ≡ stripe_word b → a ≡ b
word_once true true e = refl
word_once false false e = refl
word_once true false e = absurd (two_letters (byte (stripe_word true ∷ [])) (ap (λ (w : Text). byte (w ∷ [])) e) refl)
word_once false true e = absurd (two_letters (byte (stripe_word true ∷ [])) (ap (λ (w : Text). byte (w ∷ [])) (sym e)) refl)

pair_once : (p q : ℕ × ℕ) → pair_text p ≡ pair_text q → p ≡ q
pair_once p q e =
    let same : (number_text p.0, number_text p.1) ≡ (number_text q.0, number_text q.1) = same_Some (number_text p.0, number_text p.1) (number_text q.0, number_text q.1) (sym (pair_cut p) ∙ ap (cut 46) e ∙ pair_cut q) in
    let lock = same_number p.0 q.0 (ap (λ (z : Text × Text). z.0) same) in
    let stripe = same_number p.1 q.1 (ap (λ (z : Text × Text). z.1) same) in
    λ i. (lock i, stripe i)

pairs_once : (ps qs : List (ℕ × ℕ)) → map pair_text ps ≡ map pair_text qs → ps ≡ qs
pairs_once [] [] e = refl
pairs_once [] (q ∷ qs) e = cc
pairs_once (p ∷ ps) [] e = cc
pairs_once (p ∷ ps) (q ∷ qs) e =
    let first = pair_once p q (heads (pair_text p) (pair_text q) (map pair_text ps) (map pair_text qs) e) in
    let rest = pairs_once ps qs (tails (pair_text p) (pair_text q) (map pair_text ps) (map pair_text qs) e) in
    λ i. first i ∷ rest i

-- ---- lines

pub cell_once : (c d : ℕ × ℕ) → c.1 < 2 ^ 64 → d.1 < 2 ^ 64 → cell_line c ≡ cell_line d → c ≡ d
cell_once c d small_c small_d e =
    let f = sym (cell_fields c small_c) ∙ ap fields_of e ∙ cell_fields d small_d in
    let cell = same_number c.0 d.0 (heads _ _ _ _ f) in
    let word = value_once c.1 d.1 small_c small_d (heads _ _ _ _ (tails _ _ _ _ f)) in
    λ i. (cell i, word i)

pub object_line_once : (o p : ObjId × ℕ × ℕ) → object_line o ≡ object_line p → o ≡ p
object_line_once o p e =
    let f = sym (object_fields o) ∙ ap fields_of e ∙ object_fields p in
    let object = object_once o.0 p.0 (heads _ _ _ _ f) in
    let number = same_number o.1 p.1 (heads _ _ _ _ (tails _ _ _ _ f)) in
    let state = same_number o.2 p.2 (heads _ _ _ _ (tails _ _ _ _ (tails _ _ _ _ f))) in
    λ i. (object i, number i, state i)

pub stripe_once : (x y : StripePart) → stripe_line x ≡ stripe_line y → x ≡ y
stripe_once x y e =
    let f = sym (stripe_fields x) ∙ ap fields_of e ∙ stripe_fields y in
    let owed = word_once x.owed y.owed (heads _ _ _ _ f) in
    let g = tails _ _ _ _ f in
    let lock = same_number x.lock y.lock (heads _ _ _ _ g) in
    let stripe = same_number x.stripe y.stripe (heads _ _ _ _ (tails _ _ _ _ g)) in
    let nesting = same_number x.nesting y.nesting (heads _ _ _ _ (tails _ _ _ _ (tails _ _ _ _ g))) in
    λ i. record { lock = lock i; stripe = stripe i; owed = owed i; nesting = nesting i }

pub frame_once : (f g : FramePart) → f.kept < 2 ^ 64 → AllByRecursion (λ w. w < 2 ^ 64) f.registers → g.kept < 2 ^ 64 → AllByRecursion (λ w. w < 2 ^ 64) g.registers → frame_line f ≡ frame_line g → f ≡ g
frame_once f g small_f words_f small_g words_g e =
    let h = tails _ _ _ _ (sym (frame_fields f small_f words_f) ∙ ap fields_of e ∙ frame_fields g small_g words_g) in
    let function = same_number f.function g.function (heads _ _ _ _ h) in
    let h1 = tails _ _ _ _ h in
    let instr = same_number f.instr g.instr (heads _ _ _ _ h1) in
    let h2 = tails _ _ _ _ h1 in
    let made = same_number f.made g.made (heads _ _ _ _ h2) in
    let h3 = tails _ _ _ _ h2 in
    let kept = value_once f.kept g.kept small_f small_g (heads _ _ _ _ h3) in
    let registers = values_once f.registers g.registers words_f words_g (tails _ _ _ _ h3) in
    λ i. record { function = function i; instr = instr i; made = made i; kept = kept i; registers = registers i }

pub region_once : (r q : RegionPart) → region_line r ≡ region_line q → r ≡ q
region_once r q e =
    let h = tails _ _ _ _ (sym (region_fields r) ∙ ap fields_of e ∙ region_fields q) in
    let frame = same_number r.frame q.frame (heads _ _ _ _ h) in
    let h1 = tails _ _ _ _ h in
    let instr = same_number r.instr q.instr (heads _ _ _ _ h1) in
    let stripes = pairs_once r.stripes q.stripes (tails _ _ _ _ h1) in
    λ i. record { frame = frame i; instr = instr i; stripes = stripes i }

phase_once : (p q : HeadPhase) → phase_fields p ≡ phase_fields q → p ≡ q
phase_once phase.Fresh q e = sym (fresh_only q (sym (ap byte e)))
phase_once phase.Running q e = sym (running_only q (sym (ap byte e)))
phase_once phase.Ended q e = sym (ended_only q (sym (ap byte e)))
phase_once (phase.Begun f) q e =
    let g = begun_only q (sym (ap byte e)) in
    let fields = e ∙ ap phase_fields g.1 in
    ap phase.Begun (same_number f g.0 (heads _ _ _ _ (tails _ _ _ _ fields))) ∙ sym g.1
phase_once (phase.Trapped kind line) q e =
    let g = trapped_only q (sym (ap byte e)) in
    let fields = tails _ _ _ _ (e ∙ ap phase_fields g.2) in
    let k = same_number kind g.0 (heads _ _ _ _ fields) in
    let l = same_number line g.1 (heads _ _ _ _ (tails _ _ _ _ fields)) in
    (λ i. phase.Trapped (k i) (l i)) ∙ sym g.2

pub head_once : (h g : Head) → head_line h ≡ head_line g → h ≡ g
head_once h g e =
    let f0 = tails _ _ _ _ (sym (head_line_fields h) ∙ ap fields_of e ∙ head_line_fields g) in
    let f1 = tails _ _ _ _ f0 in
    let f2 = tails _ _ _ _ f1 in
    let f3 = tails _ _ _ _ f2 in
    let f4 = tails _ _ _ _ f3 in
    let f5 = tails _ _ _ _ f4 in
    let f6 = tails _ _ _ _ f5 in
    let f7 = tails _ _ _ _ f6 in
    let f8 = tails _ _ _ _ f7 in
    let number = same_number h.number g.number (heads _ _ _ _ f0) in
    let count = same_number h.count g.count (heads _ _ _ _ f1) in
    let arena = same_number h.arena g.arena (heads _ _ _ _ f2) in
    let entries = same_number h.entries g.entries (heads _ _ _ _ f3) in
    let revokes = same_number h.revokes g.revokes (heads _ _ _ _ f4) in
    let printed = same_number h.printed g.printed (heads _ _ _ _ f5) in
    let frames = same_number h.frames g.frames (heads _ _ _ _ f6) in
    let stripes = same_number h.stripes g.stripes (heads _ _ _ _ f7) in
    let regions = same_number h.regions g.regions (heads _ _ _ _ f8) in
    let far = phase_once h.phase g.phase (tails _ _ _ _ f8) in
    λ i. record { number = number i; count = count i; arena = arena i; entries = entries i; revokes = revokes i; printed = printed i; frames = frames i; stripes = stripes i; regions = regions i; phase = far i }
