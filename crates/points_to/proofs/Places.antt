-- Places as numbers, and the places that moves and sweeps reach.
use Rattle.std.proofs.Common.{◌≡◌, ℕ, zero, suc, ◌+◌, ◌*◌, ◌/◌, ◌%◌, ◌<◌, ◌≤◌, ◌++◌, Bool, true, false, List, [], ◌∷◌, length, map, get_or, refl, sym, ap, add-one, ◌∙◌, subst, arith, ℤ, pos, Some}
use Rattle.std.specs.Prelude.{slice_index, slice_get, nat_lt, unsigned_abs, ◌+ℤ◌, if◌then◌else◌}
use Rattle.std.specs.Int.{int_rem_euclid}
use Rattle.std.proofs.lemmas.List.{get_or-append-add, get_or_append_left, length-map}
use Rattle.std.proofs.lemmas.Option.{slice_get-get_or, slice_get_within}
use Rattle.rr_base.specs.declared.layout.Place.{Place}
use Rattle.rr_base.specs.declared.layout.Site.{Site}
use Rattle.flow_code.specs.declared.code.Code.{Code}
use Rattle.flow_code.specs.declared.code.Function.{Function}
use Rattle.facts.specs.declared.constraint.Node.{Node}
use Rattle.facts.specs.declared.constraint.Node.TheVariants.{Cells}
use Rattle.facts.specs.PointsTo.{place, element_in, element_of, classes_of, class_on, place_on, IsReached, are_whole_elements, MayPoint}
use Rattle.points_to.specs.Nodes.{number_of, place_from, widths_of, IsPlace, IsNode, Has}
use Rattle.points_to.specs.Filling.{Fine, Reaches, IsSwept}
use Rattle.points_to.proofs.Spots.{place_number, number_place}

-- ---- classes

few_if : (b : Bool) (element : ℕ) → nat_lt 64 element ≡ b → (if b then 1 else element) ≤ 64
few_if true element e = omega arith
few_if false element e = grind arith

pub few_classes : (element : ℕ) → classes_of element ≤ 64
few_classes element = few_if (nat_lt 64 element) element refl

below_if : (b : Bool) (element class : ℕ) (z : ℤ) → nat_lt 64 element ≡ b → 1 ≤ element → (if b then 0 else unsigned_abs (int_rem_euclid (pos class +ℤ z) (pos element))) < (if b then 1 else element)
below_if true element class z e le = omega arith
below_if false element class z e le = rest (pos class +ℤ z)
  where
    rest : (y : ℤ) → unsigned_abs (int_rem_euclid y (pos element)) < element
    rest y = grind arith

pub class_below : (element class : ℕ) (z : ℤ) → 1 ≤ element → class_on element class z < classes_of element
class_below element class z le = below_if (nat_lt 64 element) element class z refl le

pub narrow : (sites : List Site) (p : Place) → IsPlace sites p → p.class < 64
narrow sites p h = omega (arith, h.2, few_classes (element_of sites p.site))

-- ---- places

pub on_place : (sites : List Site) (p : Place) (z : ℤ) → ((s : ℕ) → 1 ≤ element_of sites s) → IsPlace sites p → IsPlace sites (place_on sites p z)
on_place sites p z some h = (h.0, h.1, class_below (element_of sites p.site) p.class z (some p.site))

pub moved_is : (sites : List Site) (n site class made element : ℕ) (z cells : ℤ) → site ≡ n / 64 → class ≡ n % 64 → element ≡ element_of sites site → cells ≡ z → made ≡ class_on element class cells → site * 64 + made ≡ number_of (place_on sites (place_from n) z)
moved_is sites n site class made element z cells es ec ee ez em =
    let e : element ≡ element_of sites (n / 64) = ee ∙ ap (element_of sites) es in
    let m : made ≡ class_on (element_of sites (n / 64)) (n % 64) z = em ∙ ap (λ x. class_on x class cells) e ∙ ap (λ x. class_on (element_of sites (n / 64)) x cells) ec ∙ ap (λ x. class_on (element_of sites (n / 64)) (n % 64) x) ez in
    ap (λ x. x * 64 + made) es ∙ ap (λ x. n / 64 * 64 + x) m

pub fine_number : (code : Code) (n : Node) (q : ℕ) (p : Place) → q ≡ number_of p → IsPlace code.sites p → MayPoint code n p → Fine code n q
fine_number code n q p e h m =
    let back : place_from q ≡ p = ap place_from e ∙ place_number p (narrow code.sites p h) in
    (subst (IsPlace code.sites) (sym back) h, subst (MayPoint code n) (sym back) m)

-- ---- widths

classes_got : (sites : List Site) (k : ℕ) → k < length sites → get_or (map (λ (s : Site). classes_of s.layout.element) sites) k 0 ≡ classes_of (element_in (slice_get sites k))
classes_got [] k lt = absurd (omega arith)
classes_got (x ∷ xs) zero lt = refl
classes_got (x ∷ xs) (suc k) lt = classes_got xs k (omega arith)

pub registers_got : (fs : List Function) (k : ℕ) (f : Function) → slice_get fs k ≡ Some f → get_or (map (λ (f : Function). f.registers) fs) k 0 ≡ f.registers
registers_got [] k f h = cc
registers_got (x ∷ xs) zero f h = cc
registers_got (x ∷ xs) (suc k) f h = registers_got xs k f h

following : (first : ℕ) (xs ys : List ℕ) (n k : ℕ) → length xs ≡ n → get_or (first ∷ (xs ++ ys)) (n + suc k) 0 ≡ get_or ys k 0
following first xs ys n k long =
    let e : n + suc k ≡ suc (length xs + k) = omega arith in
    ap (λ j. get_or (first ∷ (xs ++ ys)) j 0) e ∙ get_or-append-add xs ys k 0

pub registers_width : (code : Code) (f : ℕ) (fn : Function) → slice_get code.functions f ≡ Some fn → slice_index (widths_of code) (f + 1) ≡ fn.registers
registers_width code f fn h =
    ap (slice_index (widths_of code)) (add-one f)
    ∙ get_or_append_left (map (λ (f : Function). f.registers) code.functions) (map (λ (s : Site). classes_of s.layout.element) code.sites) 0 f (omega (arith, slice_get_within code.functions f fn h, length-map code.functions (λ (f : Function). f.registers)))
    ∙ registers_got code.functions f fn h

pub cells_width : (code : Code) (s : ℕ) → 1 ≤ s → s ≤ length code.sites → slice_index (widths_of code) (length code.functions + s) ≡ classes_of (element_of code.sites s)
cells_width code zero le most = absurd (omega arith)
cells_width code (suc k) le most = following (length code.functions + 1) (map (λ (f : Function). f.registers) code.functions) (map (λ (s : Site). classes_of s.layout.element) code.sites) (length code.functions) k (length-map code.functions (λ (f : Function). f.registers)) ∙ classes_got code.sites k (omega arith)

pub cells_node : (code : Code) (p : Place) → IsPlace code.sites p → IsNode code (Cells p)
cells_node code p h = (h.0, omega (arith, h.2, cells_width code p.site h.0 h.1))

-- ---- sweeps

whole_if : (b : Bool) (element from to : ℕ) → b ≡ true → IsReached b element from to → to ≡ from
whole_if true element from to e h = h
whole_if false element from to e h = cc

stays_if : (b : Bool) (element from : ℕ) → b ≡ true → IsReached b element from from
stays_if true element from e = refl
stays_if false element from e = cc

within_if : (b : Bool) (element from to : ℕ) → b ≡ false → IsReached b element from to → to < classes_of element
within_if true element from to e h = cc
within_if false element from to e h = h

reached_if : (b : Bool) (element from to : ℕ) → b ≡ false → to < classes_of element → IsReached b element from to
reached_if true element from to e h = cc
reached_if false element from to e h = h

is_whole : (stride element e : ℕ) → e ≡ element → stride % e ≡ 0 → are_whole_elements stride element ≡ true
is_whole stride element e same h = grind arith

not_whole : (stride element e : ℕ) → e ≡ element → (stride % e ≡ 0 → ⊥) → are_whole_elements stride element ≡ false
not_whole stride element e same h = grind arith

-- steps of whole elements stay
pub stays : (code : Code) (stride p e : ℕ) → e ≡ element_of code.sites (p / 64) → stride % e ≡ 0 → Reaches code stride p (p % 64)
stays code stride p e same h = stays_if (are_whole_elements stride (element_of code.sites (p / 64))) (element_of code.sites (p / 64)) (p % 64) (is_whole stride (element_of code.sites (p / 64)) e same h)

pub swept_whole : (code : Code) (to : Node) (stride p e : ℕ) (rows : List (List (List ℕ))) → e ≡ element_of code.sites (p / 64) → stride % e ≡ 0 → Has (length code.functions) rows to p → IsSwept code to stride p rows
swept_whole code to stride p e rows same h is class r =
    let at : class ≡ p % 64 = whole_if (are_whole_elements stride (element_of code.sites (p / 64))) (element_of code.sites (p / 64)) (p % 64) class (is_whole stride (element_of code.sites (p / 64)) e same h) r in
    subst (λ n. Has (length code.functions) rows to n) (sym (number_place p) ∙ ap (λ k. p / 64 * 64 + k) (sym at)) is

-- any class of the site may be reached
pub reached : (code : Code) (stride p e class : ℕ) → e ≡ element_of code.sites (p / 64) → (stride % e ≡ 0 → ⊥) → class < classes_of e → Reaches code stride p class
reached code stride p e class same h lt = reached_if (are_whole_elements stride (element_of code.sites (p / 64))) (element_of code.sites (p / 64)) (p % 64) class (not_whole stride (element_of code.sites (p / 64)) e same h) (subst (λ z. class < classes_of z) same lt)

pub swept_all : (code : Code) (to : Node) (stride p e k : ℕ) (rows : List (List (List ℕ))) → e ≡ element_of code.sites (p / 64) → (stride % e ≡ 0 → ⊥) → classes_of e ≤ k → ((class : ℕ) → class < k → Has (length code.functions) rows to (number_of (place (p / 64) class))) → IsSwept code to stride p rows
swept_all code to stride p e k rows same h le all class r =
    let lt : class < classes_of (element_of code.sites (p / 64)) = within_if (are_whole_elements stride (element_of code.sites (p / 64))) (element_of code.sites (p / 64)) (p % 64) class (not_whole stride (element_of code.sites (p / 64)) e same h) r in
    all class (omega (arith, lt, ap classes_of same))

pub element_there : (sites xs : List Site) (k : ℕ) (site : Site) → xs ≡ sites → site ≡ get_or xs k site → k < length xs → ((s : ℕ) → 1 ≤ element_of sites s) → 1 ≤ site.layout.element
element_there sites xs k site e is lt some = subst (λ o. 1 ≤ element_in o) (ap (λ z. slice_get z k) (sym e) ∙ slice_get-get_or xs k site lt ∙ ap Some (sym is)) (some (suc k))
