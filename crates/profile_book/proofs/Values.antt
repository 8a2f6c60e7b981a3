-- The parts of a value that lists pairs.
use Rattle.std.proofs.Common.{◌≡◌, ◌||◌, false, List, [], ◌∷◌, length, codes, Option, Some, None, option_and_then, String, Global, refl, sym, ap, ◌∙◌, subst, arith}
use Rattle.std.specs.List.{AllByRecursion}
use Rattle.profiles.specs.Profile.{Text, Pair, IsLesserFirst}
use Rattle.serde_json.specs.Data.{Data, null, boolean, number, string, array, object, Items, no_items, item, Members, member}
use Rattle.serde_json.specs.Find.{get, get_member, as_object, as_array, as_str}
use Rattle.serde_json.specs.View.{items_view, members_view, items_of}
use Rattle.serde_json.specs.Written.{has_float, items_have_float}
use Rattle.serde_json.specs.declared.value.Value.{Value}
use Rattle.profile_book.specs.Listing.{pair_of, pair_of_items, pair_in, with_first, pairs_in, only_at, array_in, pairs_of}
use Rattle.profile_book.specs.Writing.{pair_value, items_of_pairs, profile_value}
use Rattle.profile_book.proofs.PairOrder.{lesser_is_first}

abbrev Entry : Type 0
Entry = String Global × Value

only_at-other : (key : Text) (es : List Entry) → (length es ≡ 1 → ⊥) → only_at key (members_view es) ≡ None
only_at-other key [] h = refl
only_at-other key (e ∷ []) h = absurd (h refl)
only_at-other key (e ∷ f ∷ fs) h = refl

only_at-one : (key : Text) (es : List Entry) → length es ≡ 1 → only_at key (members_view es) ≡ get_member key (members_view es)
only_at-one key [] h = absurd (cc)
only_at-one key (e ∷ []) h = refl
only_at-one key (e ∷ f ∷ fs) h = absurd (omega (arith, h))

get-object : (key : Text) (d : Data) (ms : Members) → Some ms ≡ as_object d → get key d ≡ get_member key ms
get-object key null ms e = absurd (cc)
get-object key (boolean b) ms e = absurd (cc)
get-object key (number n) ms e = absurd (cc)
get-object key (string s) ms e = absurd (cc)
get-object key (array ds) ms e = absurd (cc)
get-object key (object ns) ms e = let same : ms ≡ ns = cc in ap (get_member key) (sym same)

-- an object with no key, or with several
pub no_array : (d : Data) (es : List Entry) → Some (members_view es) ≡ as_object d → (length es ≡ 1 → ⊥) → None ≡ array_in d
no_array d es e h =
    sym (ap (λ o. option_and_then as_array (option_and_then (only_at (codes "pairs")) o)) (sym e) ∙ ap (λ o. option_and_then as_array o) (only_at-other (codes "pairs") es h))

-- an object with one key
pub array_found : (d : Data) (es : List Entry) (found : Option Data) → Some (members_view es) ≡ as_object d → length es ≡ 1 → found ≡ get (codes "pairs") d → option_and_then as_array found ≡ array_in d
array_found d es found e one is =
    ap (λ o. option_and_then as_array o) (is ∙ get-object (codes "pairs") d (members_view es) e ∙ sym (only_at-one (codes "pairs") es one))
    ∙ ap (λ o. option_and_then as_array (option_and_then (only_at (codes "pairs")) o)) e

-- an array of another length than two
pub no_pair : (d : Data) (vs : List Value) → Some (items_view vs) ≡ as_array d → (length vs ≡ 2 → ⊥) → None ≡ pair_in d
no_pair d vs e h = sym (ap (λ o. option_and_then pair_of_items o) (sym e) ∙ other vs h)
  where
    other : (ws : List Value) → (length ws ≡ 2 → ⊥) → pair_of_items (items_view ws) ≡ None
    other [] k = refl
    other (w ∷ []) k = refl
    other (w ∷ x ∷ []) k = absurd (k refl)
    other (w ∷ x ∷ y ∷ ys) k = refl

-- ---- each pair has its lesser text first

abbrev IsFirst : Option Pair → Type 0
IsFirst None = Unit {0}
IsFirst (Some p) = IsLesserFirst p

abbrev AreFirst : Option (List Pair) → Type 0
AreFirst None = Unit {0}
AreFirst (Some ps) = AllByRecursion IsLesserFirst ps

IsFirst-pair_of : (f g : Option Text) → IsFirst (pair_of f g)
IsFirst-pair_of None g = tt
IsFirst-pair_of (Some f) None = tt
IsFirst-pair_of (Some f) (Some g) = lesser_is_first f g

IsFirst-items : (ds : Items) → IsFirst (pair_of_items ds)
IsFirst-items no_items = tt
IsFirst-items (item d no_items) = tt
IsFirst-items (item d (item e no_items)) = IsFirst-pair_of (as_str d) (as_str e)
IsFirst-items (item d (item e (item f fs))) = tt

IsFirst-then : (o : Option Items) → IsFirst (option_and_then pair_of_items o)
IsFirst-then None = tt
IsFirst-then (Some ds) = IsFirst-items ds

AreFirst-with : (p : Option Pair) (ps : Option (List Pair)) → IsFirst p → AreFirst ps → AreFirst (with_first p ps)
AreFirst-with None ps h k = tt
AreFirst-with (Some p) None h k = tt
AreFirst-with (Some p) (Some ps) h k = (h, k)

AreFirst-pairs_in : (ds : Items) → AreFirst (pairs_in ds)
AreFirst-pairs_in no_items = tt
AreFirst-pairs_in (item d ds) = AreFirst-with (pair_in d) (pairs_in ds) (IsFirst-then (as_array d)) (AreFirst-pairs_in ds)

AreFirst-then : (o : Option Items) → AreFirst (option_and_then pairs_in o)
AreFirst-then None = tt
AreFirst-then (Some ds) = AreFirst-pairs_in ds

pub lesser_first-pairs_of : (d : Data) (ps : List Pair) → pairs_of d ≡ Some ps → AllByRecursion IsLesserFirst ps
lesser_first-pairs_of d ps e = let h = AreFirst-then (array_in d) in subst AreFirst e h

-- ---- the value that is written

no_floats : (ps : List Pair) → items_have_float (items_of_pairs ps) ≡ false
no_floats [] = refl
no_floats (p ∷ ps) = no_floats ps

pub no_float : (ps : List Pair) → has_float (profile_value ps) ≡ false
no_float ps = ap (λ b. b || false) (no_floats ps)

pair_kept : (p : Pair) → IsLesserFirst p → pair_in (pair_value p) ≡ Some p
pair_kept p h = rw h

pairs_kept : (ps : List Pair) → AllByRecursion IsLesserFirst ps → pairs_in (items_of_pairs ps) ≡ Some ps
pairs_kept [] h = refl
pairs_kept (p ∷ ps) h = ap (λ o. with_first o (pairs_in (items_of_pairs ps))) (pair_kept p h.0) ∙ ap (λ o. with_first (Some p) o) (pairs_kept ps h.1)

pub pairs_of-profile_value : (ps : List Pair) → AllByRecursion IsLesserFirst ps → pairs_of (profile_value ps) ≡ Some ps
pairs_of-profile_value ps h = pairs_kept ps h
