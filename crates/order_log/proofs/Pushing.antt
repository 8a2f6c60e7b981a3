-- The entries of a line, put one by one after those before.
use Rattle.std.proofs.Common.{◌≡◌, ℕ, zero, suc, ◌+◌, ◌-◌, ◌<◌, ◌≤◌, min, Bool, true, false, List, [], ◌∷◌, ◌++◌, refl, sym, ap, subst, ◌∙◌, arith, append_assoc}
use Rattle.std.specs.Prelude.{◌&&◌}
use Rattle.std.proofs.lemmas.Bool.{and_left, and_parts}
use Rattle.std.proofs.lemmas.List.{append-nil}
use Rattle.sync_objects.specs.declared.entry.Entry.{Entry}
use Rattle.sync_objects.specs.declared.object.ObjId.{ObjId}
use Rattle.sync_objects.specs.declared.object.ObjId.TheVariants as object
use Rattle.sync_objects.specs.declared.kind.ObjKind.TheVariants as kind
use Rattle.sync_objects.specs.Names.{object_kind, is_ending}
use Rattle.sync_objects.specs.Setup.{SetupView, IsWithinLimits}
use Rattle.order_log.specs.declared.entry.LineGroup.{LineGroup}
use Rattle.order_log.specs.Log.{IsObjectWithin}
use Rattle.order_log.specs.Text.{Group, stripe_of}
use Rattle.order_log.specs.Line.{next_object, next_entry, stripes_after, entries_of, IsGroup, clipped_group}
use Rattle.order_log.specs.Recogniser.{is_entry_within, has_room, may_follow, may_all_follow, AreCounted, Pushes}
use Rattle.order_log.proofs.Said.{entry_within}
use Rattle.order_log.proofs.Clipped.{may_follow-clipped, clipped_same}

-- ---- the next stripe

stripe_low : (slots : ℕ) (x : ObjId) → IsObjectWithin slots x → stripe_of x ≤ 7
stripe_low slots (object.Weak lock stripe) h = h.1
stripe_low slots _ h = omega arith

follows_low : (s : SetupView) (es : List Entry) (e : Entry) → may_follow s es e ≡ true → stripe_of e.obj ≤ 7
follows_low s es e h = stripe_low s.slots e.obj (entry_within s e (and_parts (is_entry_within s e) (has_room (is_ending e.op) e.thread es) h).0).object

pub stripe_next : (x : ObjId) → stripe_of (next_object x) ≤ stripe_of x + 1
stripe_next (object.Weak lock stripe) = omega arith
stripe_next _ = omega arith

weak_next : (x : ObjId) → object_kind x ≡ kind.Weak → stripe_of (next_object x) ≡ stripe_of x + 1
weak_next (object.Weak lock stripe) h = refl
weak_next _ h = absurd cc

kind_next : (x : ObjId) → object_kind (next_object x) ≡ object_kind x
kind_next (object.Weak lock stripe) = refl
kind_next _ = refl

-- ---- the loop

-- the entries of the line up to this one are put, and so many are left of it
pub record Pushed (s : SetupView) (r : Group) (before found : List Entry) (others endings : List ℕ) (entry : Entry) (left : ℕ) : Type 0 where
  pub more : ℕ
  pub left_is : left ≡ min more (255 - stripe_of entry.obj)
  pub low : stripe_of entry.obj ≤ 7
  pub shape : 0 < more → object_kind entry.obj ≡ kind.Weak
  pub counted : AreCounted others endings found
  pub rest : may_all_follow s before (entries_of r) ≡ may_all_follow s found (stripes_after entry more)
  pub whole : found ++ stripes_after entry more ≡ before ++ entries_of r

-- the first entry is beyond the limits
pub first_beyond : (s : SetupView) (r : Group) (before after : List Entry) (others endings : List ℕ) (x : LineGroup) → IsWithinLimits s → x ≡ clipped_group r → false ≡ may_follow s before x.first → Pushes s before (entries_of r) false after others endings
first_beyond s r before after others endings x limits shown beyond =
    let out : may_follow s before r.first ≡ false = sym (may_follow-clipped s before r.first limits) ∙ ap (λ (y : LineGroup). may_follow s before y.first) (sym shown) ∙ sym beyond in
    record { told = sym (and_left _ _ out); put = λ t. absurd cc; counted = λ t. absurd cc }

-- it may follow
pub first_pushed : (s : SetupView) (r : Group) (before after : List Entry) (others endings : List ℕ) (x : LineGroup) (left : ℕ) → IsWithinLimits s → IsGroup r → x ≡ clipped_group r → true ≡ may_follow s before x.first
    → after ≡ before ++ x.first ∷ [] → AreCounted others endings after → left ≡ x.last - stripe_of x.first.obj → Pushed s r before after others endings x.first left
first_pushed s r before after others endings x left limits is_group shown fits pushed counted left_is =
    let inside : may_follow s before r.first ≡ true = sym (may_follow-clipped s before r.first limits) ∙ ap (λ (y : LineGroup). may_follow s before y.first) (sym shown) ∙ sym fits in
    let same : x.first ≡ r.first = ap (λ (y : LineGroup). y.first) shown ∙ clipped_same s before r.first limits inside in
    let low = follows_low s before r.first inside in
    let last : x.last ≡ min (stripe_of r.first.obj + r.more) 255 = ap (λ (y : LineGroup). y.last) shown in
    let stripe : stripe_of x.first.obj ≡ stripe_of r.first.obj = ap (λ (e : Entry). stripe_of e.obj) same in
    let put : after ≡ before ++ r.first ∷ [] = pushed ∙ ap (λ (e : Entry). before ++ e ∷ []) same in
    subst (λ (e : Entry). Pushed s r before after others endings e left) (sym same) (record {
      more = r.more;
      left_is = omega arith;
      low = low;
      shape = is_group;
      counted = counted;
      rest = ap (λ (b : Bool). b && may_all_follow s (before ++ r.first ∷ []) (stripes_after r.first r.more)) inside ∙ ap (λ (es : List Entry). may_all_follow s es (stripes_after r.first r.more)) (sym put);
      whole = ap (λ (es : List Entry). es ++ stripes_after r.first r.more) put ∙ append_assoc before (r.first ∷ []) (stripes_after r.first r.more);
    })

-- the next entry is beyond the limits
pub next_beyond : (s : SetupView) (r : Group) (before found after : List Entry) (others endings others_then endings_then : List ℕ) (entry : Entry) (left : ℕ) → 0 < left → Pushed s r before found others endings entry left
    → false ≡ may_follow s found (next_entry entry) → Pushes s before (entries_of r) false after others_then endings_then
next_beyond s r before found after others endings others_then endings_then entry left some p beyond =
    record { told = sym (p.rest ∙ by p.more refl); put = λ t. absurd cc; counted = λ t. absurd cc }
  where
    by : (k : ℕ) → p.more ≡ k → may_all_follow s found (stripes_after entry k) ≡ false
    by zero is = let left_is = p.left_is in absurd (omega arith)
    by (suc k) is = and_left _ _ (sym beyond)

-- it may follow
pub next_pushed : (s : SetupView) (r : Group) (before found after : List Entry) (others endings others_then endings_then : List ℕ) (entry : Entry) (left : ℕ) → 0 < left → Pushed s r before found others endings entry left
    → true ≡ may_follow s found (next_entry entry) → after ≡ found ++ next_entry entry ∷ [] → AreCounted others_then endings_then after → Pushed s r before after others_then endings_then (next_entry entry) (left - 1)
next_pushed s r before found after others endings others_then endings_then entry left some p fits pushed counted = by p.more refl
  where
    next : Entry
    next = next_entry entry

    by : (k : ℕ) → p.more ≡ k → Pushed s r before after others_then endings_then next (left - 1)
    by zero is = let left_is = p.left_is in absurd (omega arith)
    by (suc k) is =
        let left_is = p.left_is in
        let kind_is = p.shape (omega arith) in
        let stripe = weak_next entry.obj kind_is in
        let after_next = stripes_after next k in
        record {
          more = k;
          left_is = omega arith;
          low = follows_low s found next (sym fits);
          shape = λ h. kind_next entry.obj ∙ kind_is;
          counted = counted;
          rest = p.rest ∙ ap (λ (m : ℕ). may_all_follow s found (stripes_after entry m)) is ∙ ap (λ (b : Bool). b && may_all_follow s (found ++ next ∷ []) after_next) (sym fits)
              ∙ ap (λ (es : List Entry). may_all_follow s es after_next) (sym pushed);
          whole = ap (λ (es : List Entry). es ++ after_next) pushed ∙ append_assoc found (next ∷ []) after_next ∙ ap (λ (m : ℕ). found ++ stripes_after entry m) (sym is) ∙ p.whole;
        }

-- none is left
pub all_pushed : (s : SetupView) (r : Group) (before found : List Entry) (others endings : List ℕ) (entry : Entry) (left : ℕ) → left ≤ 0 → Pushed s r before found others endings entry left → Pushes s before (entries_of r) true found others endings
all_pushed s r before found others endings entry left none p =
    let left_is = p.left_is in
    let low = p.low in
    let last : p.more ≡ 0 = omega arith in
    record {
      told = sym (p.rest ∙ ap (λ (m : ℕ). may_all_follow s found (stripes_after entry m)) last);
      put = λ t. sym (append-nil found) ∙ ap (λ (m : ℕ). found ++ stripes_after entry m) (sym last) ∙ p.whole;
      counted = λ t. p.counted;
    }
