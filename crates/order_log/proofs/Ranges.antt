-- The entries of a line in the code's types.
use Rattle.std.proofs.Common.{◌≡◌, ℕ, ◌+◌, ◌-◌, ◌<◌, min, Bool, true, false, cond, eqb, List, [], ◌∷◌, Option, Some, None, refl, sym, ap, ◌∙◌, arith}
use Rattle.std.specs.Prelude.{nat_lt, ◌&&◌}
use Rattle.std.specs.List.{AllByRecursion}
use Rattle.std.specs.Option.{option_map}
use Rattle.std.proofs.lemmas.Bool.{ltb-true}
use Rattle.std.proofs.lemmas.Bool.Decides.{nat_tests}
use Rattle.std.proofs.lemmas.Option.{none-some, same_Some}
use Rattle.profiles.specs.Profile.{Text}
use Rattle.sync_objects.specs.declared.entry.Entry.{Entry}
use Rattle.sync_objects.specs.declared.object.ObjId.{ObjId}
use Rattle.sync_objects.specs.declared.object.ObjId.TheVariants as object
use Rattle.sync_objects.specs.Setup.{SetupView, IsWithinLimits}
use Rattle.order_log.specs.declared.version.Version.{Version}
use Rattle.order_log.specs.declared.version.Version.TheVariants as version
use Rattle.order_log.specs.Log.{IsObjectWithin, IsEntryWithin}
use Rattle.order_log.specs.Text.{number_text, are_alike, is_next, shares, stripe_of}
use Rattle.order_log.specs.Line.{cut, number_in, capped, entry_in, may_share, alone, range_in, group_cut, clipped_object, clipped, clipped_group}
use Rattle.order_log.specs.Recogniser.{joins}
use Rattle.order_log.proofs.Numbers.{number_in-number_text}
use Rattle.order_log.proofs.Entries.{map_some, none_mapped, entry_is, stripe_cut}
use Rattle.order_log.proofs.Groups.{sharing_kind}
use Rattle.order_log.proofs.Clipped.{last_few}

stripe_clipped : (x : ObjId) → stripe_of (clipped_object x) ≡ min (stripe_of x) 255
stripe_clipped (object.Weak lock stripe) = refl
stripe_clipped _ = refl

-- ---- an entry alone

pub alone_given : (text : Text) (x : Entry) → Some x ≡ option_map clipped (entry_in text) → Some (record { first = x; last = stripe_of x.obj }) ≡ option_map clipped_group (group_cut text None)
alone_given text x found =
    let m = map_some clipped (entry_in text) x (sym found) in
    let e = m.0 in
    let last : min (stripe_of e.obj + 0) 255 ≡ stripe_of x.obj = (let none : min (stripe_of e.obj + 0) 255 ≡ min (stripe_of e.obj) 255 = omega arith in none ∙ sym (stripe_clipped e.obj) ∙ ap (λ (y : Entry). stripe_of y.obj) m.2) in
    sym (ap (λ (o : Option Entry). option_map clipped_group (option_map alone o)) m.1 ∙ (λ i. Some (record { first = m.2 i; last = last i })))

pub alone_none : (text : Text) → None ≡ option_map clipped (entry_in text) → None ≡ option_map clipped_group (group_cut text None)
alone_none text none = sym (ap (λ (o : Option Entry). option_map clipped_group (option_map alone o)) (none_mapped clipped (entry_in text) (sym none)))

-- ---- more than one

pub range_given : (front last before stripe : Text) (x : Entry) (k : ℕ) (t : Bool) → Some x ≡ option_map clipped (entry_in front) → Some k ≡ option_map capped (number_in last) → may_share x.op ≡ true → Some (before, stripe) ≡ cut 46 front
    → ((m n : ℕ) → number_in stripe ≡ Some m → number_in last ≡ Some n → t ≡ nat_lt m n) → option_map clipped_group (range_in (front, last)) ≡ cond t (Some (record { first = x; last = min k 255 })) None
unfolding range_in
range_given front last before stripe x k t found ended share parts less =
    let m = map_some clipped (entry_in front) x (sym found) in
    let n = map_some capped (number_in last) k (sym ended) in
    let e = m.0 in
    let is = entry_is front e m.1 in
    let shared : may_share e.op ≡ true = ap (λ (y : Entry). may_share y.op) m.2 ∙ share in
    let c = stripe_cut e (sharing_kind e shared is.fitting) in
    let same : ◌≡◌ {A = Text × Text} (before, stripe) (c.0, number_text (stripe_of e.obj)) = same_Some (before, stripe) (c.0, number_text (stripe_of e.obj)) (parts ∙ ap (cut 46) is.text ∙ c.1) in
    let digits : number_in stripe ≡ Some (stripe_of e.obj) = ap (λ (p : Text × Text). number_in p.1) same ∙ number_in-number_text (stripe_of e.obj) in
    let test : nat_lt (stripe_of e.obj) n.0 ≡ t = sym (less (stripe_of e.obj) n.0 digits n.1) in
    rw (m.1, n.1, shared, test) (by e m.2 n.0 n.2 t test)
  where
    by : (e : Entry) → clipped e ≡ x → (n : ℕ) → capped n ≡ k → (u : Bool) → nat_lt (stripe_of e.obj) n ≡ u
        → option_map clipped_group (cond u (Some (record { first = e; more = n - stripe_of e.obj })) None) ≡ cond u (Some (record { first = x; last = min k 255 })) None
    by e first n end true is =
        let lt = ltb-true _ _ is in
        let last : min (stripe_of e.obj + (n - stripe_of e.obj)) 255 ≡ min k 255 = omega arith in
        λ i. Some (record { first = first i; last = last i })
    by e first n end false is = refl

pub range_unshared : (front last : Text) (x : Entry) (k : ℕ) → Some x ≡ option_map clipped (entry_in front) → Some k ≡ option_map capped (number_in last) → may_share x.op ≡ false → None ≡ option_map clipped_group (range_in (front, last))
unfolding range_in
range_unshared front last x k found ended share =
    let m = map_some clipped (entry_in front) x (sym found) in
    let n = map_some capped (number_in last) k (sym ended) in
    let unshared : may_share (m.0).op ≡ false = ap (λ (y : Entry). may_share y.op) m.2 ∙ share in
    rw (m.1, n.1, unshared) refl

pub range_no_entry : (front last : Text) → None ≡ option_map clipped (entry_in front) → None ≡ option_map clipped_group (range_in (front, last))
unfolding range_in
range_no_entry front last none = rw (none_mapped clipped (entry_in front) (sym none)) refl

pub range_no_number : (front last : Text) (x : Entry) → Some x ≡ option_map clipped (entry_in front) → None ≡ option_map capped (number_in last) → None ≡ option_map clipped_group (range_in (front, last))
unfolding range_in
range_no_number front last x found none =
    let m = map_some clipped (entry_in front) x (sym found) in
    rw (m.1, none_mapped capped (number_in last) (sym none)) refl

-- a stripe has its point
pub no_point : (front : Text) (x : Entry) → Some x ≡ option_map clipped (entry_in front) → may_share x.op ≡ true → None ≡ cut 46 front → ⊥
no_point front x found share none =
    let m = map_some clipped (entry_in front) x (sym found) in
    let is = entry_is front m.0 m.1 in
    let shared : may_share (m.0).op ≡ true = ap (λ (y : Entry). may_share y.op) m.2 ∙ share in
    let c = stripe_cut m.0 (sharing_kind m.0 shared is.fitting) in
    none-some (c.0, number_text (stripe_of (m.0).obj)) (none ∙ ap (cut 46) is.text ∙ c.1)

-- ---- where lines begin

same_as : (a n high : ℕ) → a < high → eqb a (min n high) ≡ eqb a n
same_as a n high lt = grind (arith, nat_tests)

as_same : (a n high : ℕ) → a < high → eqb (min n high) a ≡ eqb n a
as_same a n high lt = grind (arith, nat_tests)

is_next-clipped : (slots : ℕ) (x y : ObjId) → IsObjectWithin slots x → is_next x (clipped_object y) ≡ is_next x y
is_next-clipped slots (object.Weak lock stripe) (object.Weak other next) h =
    let low = h.0 in
    let few = h.1 in
    λ i. same_as lock other 65535 (omega arith) i && as_same (stripe + 1) next 255 (omega arith) i
is_next-clipped slots _ _ h = refl

shares-clipped : (w : Version) (s : SetupView) (e f : Entry) → IsWithinLimits s → IsEntryWithin s e → shares w e (clipped f) ≡ shares w e f
shares-clipped version.One s e f limits within = refl
shares-clipped version.Two s e f limits within =
    let slots = limits.few_slots in
    let thread = within.thread in
    let count = within.count in
    let last = last_few s.limit e.op limits.few_events in
    let object = is_next-clipped s.slots e.obj f.obj within.object in
    λ i. same_as e.thread f.thread 255 (omega arith) i && (same_as e.count f.count 4294967295 (omega arith) i && (are_alike e.op f.op && object i))

-- what joins within the limits is not clipped
pub joins-clipped : (w : Version) (s : SetupView) (es : List Entry) (f : Entry) → IsWithinLimits s → AllByRecursion (IsEntryWithin s) es → joins w es (clipped f) ≡ joins w es f
joins-clipped w s [] f limits within = refl
joins-clipped w s (e ∷ []) f limits within = shares-clipped w s e f limits within.0
joins-clipped w s (e ∷ g ∷ es) f limits within = joins-clipped w s (g ∷ es) f limits within.1
