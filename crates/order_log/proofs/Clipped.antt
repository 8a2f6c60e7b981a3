-- Entries in the code's types: what is clipped, and that nothing within the limits is.
use Rattle.std.proofs.Common.{◌≡◌, ℕ, ◌+◌, ◌<◌, ◌≤◌, min, Bool, true, false, cond, List, Some, None, refl, sym, ap, ◌∙◌, arith}
use Rattle.std.specs.Prelude.{nat_lt, nat_le, ◌&&◌}
use Rattle.std.specs.Option.{option_map}
use Rattle.profiles.specs.Profile.{Text}
use Rattle.sync_objects.specs.declared.entry.Entry.{Entry}
use Rattle.sync_objects.specs.declared.object.ObjId.{ObjId}
use Rattle.sync_objects.specs.declared.object.ObjId.TheVariants as object
use Rattle.sync_objects.specs.declared.operation.OpName.{OpName}
use Rattle.order_log.specs.Line.{cut, number_in, capped, op_among, op_rows, object_in, fits, entry_in, clipped_object, clipped}
use Rattle.order_log.specs.Log.{IsObjectWithin, last_count}
use Rattle.order_log.specs.Recogniser.{is_object_within, is_entry_within, has_room, may_follow}
use Rattle.order_log.proofs.Entries.{map_some}
use Rattle.order_log.proofs.Said.{entry_within}
use Rattle.std.proofs.lemmas.Bool.{and_left, and_parts}
use Rattle.std.proofs.lemmas.Bool.Decides.{nat_tests}
use Rattle.sync_objects.specs.Names.{is_ending}
use Rattle.sync_objects.specs.Setup.{SetupView, IsWithinLimits}

fits-clipped : (o : OpName) (x : ObjId) → fits o (clipped_object x) ≡ fits o x
fits-clipped o (object.Mutex cell) = refl
fits-clipped o (object.Cond cell) = refl
fits-clipped o (object.Barrier cell) = refl
fits-clipped o (object.Rw cell) = refl
fits-clipped o (object.Weak lock stripe) = refl
fits-clipped o (object.Slot slot) = refl
fits-clipped o object.Threads = refl
fits-clipped o object.Halt = refl
fits-clipped o object.Input = refl
fits-clipped o object.Output = refl

same_low : (n high bound : ℕ) → bound ≤ high → nat_lt (min n high) bound ≡ nat_lt n bound
same_low n high bound le = grind (arith, nat_tests)

same_most : (n high bound : ℕ) → bound < high → nat_le (min n high) bound ≡ nat_le n bound
same_most n high bound lt = grind (arith, nat_tests)

-- an entry whose parts are read
pub entry_given : (text t0 t1 c0 c1 o0 o1 : Text) (thread count : ℕ) (o : OpName) (x : ObjId) (fit : Bool)
    → Some (t0, t1) ≡ cut 32 text → Some (c0, c1) ≡ cut 32 t1 → Some (o0, o1) ≡ cut 32 c1
    → Some thread ≡ option_map capped (number_in t0) → Some count ≡ option_map capped (number_in c0) → Some o ≡ op_among op_rows o0 → Some x ≡ option_map clipped_object (object_in o1) → fits o x ≡ fit
    → option_map clipped (entry_in text) ≡ cond fit (Some (record { thread = min thread 255; count = min count 4294967295; op = o; obj = x })) None
unfolding entry_in
entry_given text t0 t1 c0 c1 o0 o1 thread count o x fit first second third is_thread is_count is_op is_object fitting =
    let m = map_some capped (number_in t0) thread (sym is_thread) in
    let n = map_some capped (number_in c0) count (sym is_count) in
    let y = map_some clipped_object (object_in o1) x (sym is_object) in
    let below : min m.0 255 ≡ min thread 255 = let e = m.2 in omega arith in
    let under : min n.0 4294967295 ≡ min count 4294967295 = let e = n.2 in omega arith in
    let same : fits o y.0 ≡ fit = sym (fits-clipped o y.0) ∙ ap (fits o) y.2 ∙ fitting in
    rw (← first, ← second, ← third, m.1, n.1, ← is_op, y.1, same) (by fit m.0 n.0 y.0 below under y.2)
  where
    by : (t : Bool) (i j : ℕ) (z : ObjId) → min i 255 ≡ min thread 255 → min j 4294967295 ≡ min count 4294967295 → clipped_object z ≡ x
        → option_map clipped (cond t (Some (record { thread = i; count = j; op = o; obj = z })) None) ≡ cond t (Some (record { thread = min thread 255; count = min count 4294967295; op = o; obj = x })) None
    by true i j z p q r = λ k. Some (record { thread = p k; count = q k; op = o; obj = r k })
    by false i j z p q r = refl

-- ---- within the limits nothing is clipped

within-clipped_object : (slots : ℕ) (x : ObjId) → slots ≤ 16 → is_object_within slots (clipped_object x) ≡ is_object_within slots x
within-clipped_object slots (object.Mutex cell) few = same_low cell 4294967295 4194304 (omega arith)
within-clipped_object slots (object.Cond cell) few = same_low cell 4294967295 4194304 (omega arith)
within-clipped_object slots (object.Barrier cell) few = same_low cell 4294967295 4194304 (omega arith)
within-clipped_object slots (object.Rw cell) few = same_low cell 4294967295 4194304 (omega arith)
within-clipped_object slots (object.Weak lock stripe) few = λ i. same_most lock 65535 65471 (omega arith) i && same_most stripe 255 7 (omega arith) i
within-clipped_object slots (object.Slot slot) few = same_low slot 255 slots (omega arith)
within-clipped_object slots object.Threads few = refl
within-clipped_object slots object.Halt few = refl
within-clipped_object slots object.Input few = refl
within-clipped_object slots object.Output few = refl

pub last_few : (limit : ℕ) (o : OpName) → limit ≤ 67108864 → last_count limit o < 4294967295
last_few limit o few = by (is_ending o)
  where
    by : (t : Bool) → cond t (limit + 1) limit < 4294967295
    by true = omega arith
    by false = omega arith

within-clipped : (s : SetupView) (e : Entry) → IsWithinLimits s → is_entry_within s (clipped e) ≡ is_entry_within s e
within-clipped s e limits =
    let slots = limits.few_slots in
    λ i. same_low e.thread 255 s.slots (omega arith) i && (same_most e.count 4294967295 (last_count s.limit e.op) (last_few s.limit e.op limits.few_events) i && within-clipped_object s.slots e.obj slots i)

same_object : (slots : ℕ) (x : ObjId) → slots ≤ 16 → IsObjectWithin slots x → clipped_object x ≡ x
same_object slots (object.Mutex cell) few h = let same : min cell 4294967295 ≡ cell = omega arith in ap object.Mutex same
same_object slots (object.Cond cell) few h = let same : min cell 4294967295 ≡ cell = omega arith in ap object.Cond same
same_object slots (object.Barrier cell) few h = let same : min cell 4294967295 ≡ cell = omega arith in ap object.Barrier same
same_object slots (object.Rw cell) few h = let same : min cell 4294967295 ≡ cell = omega arith in ap object.Rw same
same_object slots (object.Weak lock stripe) few h =
    let first : min lock 65535 ≡ lock = omega arith in
    let second : min stripe 255 ≡ stripe = omega arith in
    λ i. object.Weak (first i) (second i)
same_object slots (object.Slot slot) few h = let same : min slot 255 ≡ slot = omega arith in ap object.Slot same
same_object slots object.Threads few h = refl
same_object slots object.Halt few h = refl
same_object slots object.Input few h = refl
same_object slots object.Output few h = refl

same_entry : (s : SetupView) (e : Entry) → IsWithinLimits s → is_entry_within s e ≡ true → clipped e ≡ e
same_entry s e limits h =
    let w = entry_within s e h in
    let thread_low = w.thread in
    let slots = limits.few_slots in
    let count_low = w.count in
    let last = last_few s.limit e.op limits.few_events in
    let thread : min e.thread 255 ≡ e.thread = omega arith in
    let count : min e.count 4294967295 ≡ e.count = omega arith in
    let thing = same_object s.slots e.obj slots w.object in
    λ i. record { thread = thread i; count = count i; op = e.op; obj = thing i }

pub may_follow-clipped : (s : SetupView) (es : List Entry) (e : Entry) → IsWithinLimits s → may_follow s es (clipped e) ≡ may_follow s es e
may_follow-clipped s es e limits = by (is_entry_within s e) refl
  where
    by : (t : Bool) → is_entry_within s e ≡ t → may_follow s es (clipped e) ≡ may_follow s es e
    by true is = ap (may_follow s es) (same_entry s e limits is)
    by false is = and_left _ _ (within-clipped s e limits ∙ is) ∙ sym (and_left _ _ is)

pub clipped_same : (s : SetupView) (es : List Entry) (e : Entry) → IsWithinLimits s → may_follow s es e ≡ true → clipped e ≡ e
clipped_same s es e limits h = same_entry s e limits (and_parts (is_entry_within s e) (has_room (is_ending e.op) e.thread es) h).0
