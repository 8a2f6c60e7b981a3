-- The order of lines; and what `cmp` says of it.
use Rattle.std.proofs.Common.{◌≡◌, ℕ, Bool, true, false, cond, ◌&&◌, ◌||◌, refl, sym, ◌∙◌, arith, Ordering}
use Rattle.std.specs.Prelude.{nat_lt, ◌==◌}
use Rattle.std.specs.Ordering.{is_lt, is_eq, nat_cmp, bool_cmp, ordering_then}
use Rattle.std.specs.declared.cmp.Ordering.TheVariants.{Less, Equal, Greater}
use Rattle.std.proofs.lemmas.Bool.Decides.{nat_tests}
use Rattle.rr_base.specs.declared.layout.Place.{Place}
use Rattle.rr_base.specs.declared.position.Position.{Position}
use Rattle.facts.specs.Pairs.{place_less, place_same}
use Rattle.facts.proofs.TotalOrders.{Orders, orders_numbers, orders_by, orders_places}
use Rattle.listing.specs.declared.line.Line.{Line}
use Rattle.listing.specs.declared.line.Shown.{Shown}
use Rattle.listing.specs.Lines.{kind_less, kind_same, position_less, position_same, shown_less, shown_same, line_less}

kinds_self : (s : Bool) → kind_less s s ≡ false
kinds_self true = refl
kinds_self false = refl

kinds_same : (s t : Bool) → kind_same s t ≡ true → s ≡ t
kinds_same true t h = sym h
kinds_same false true h = cc
kinds_same false false h = refl

kinds_same_self : (s : Bool) → kind_same s s ≡ true
kinds_same_self true = refl
kinds_same_self false = refl

kinds_along : (s t u : Bool) → kind_less s t ≡ true → kind_less t u ≡ true → kind_less s u ≡ true
kinds_along true t u h k = cc
kinds_along false true u h k = cc
kinds_along false false u h k = cc

kinds_total : (s t : Bool) → kind_less s t ≡ false → kind_less t s ≡ false → s ≡ t
kinds_total true true h k = refl
kinds_total true false h k = cc
kinds_total false true h k = cc
kinds_total false false h k = refl

orders_kinds : Orders kind_less kind_same
orders_kinds = record { same_is = kinds_same; same_self = kinds_same_self; self = kinds_self; along = kinds_along; total = kinds_total }

orders_positions : Orders position_less position_same
orders_positions = orders_by (λ (p : Position). p.line) (λ p. p.column) nat_lt (λ x y. x == y) nat_lt (λ x y. x == y) orders_numbers orders_numbers (λ x y e f. λ i. record { line = e i; column = f i })

pub orders_shown : Orders shown_less shown_same
orders_shown = orders_by (λ (x : Shown). x.at) (λ x. x.store) position_less position_same kind_less kind_same orders_positions orders_kinds (λ x y e f. λ i. record { at = e i; store = f i })

-- two accesses
abbrev both_less : Shown × Shown → Shown × Shown → Bool
both_less x y = shown_less x.0 y.0 || (shown_same x.0 y.0 && shown_less x.1 y.1)

abbrev both_same : Shown × Shown → Shown × Shown → Bool
both_same x y = shown_same x.0 y.0 && shown_same x.1 y.1

orders_both : Orders both_less both_same
orders_both = orders_by (λ (x : Shown × Shown). x.0) (λ x. x.1) shown_less shown_same shown_less shown_same orders_shown orders_shown (λ x y e f. λ i. (e i, f i))

abbrev pub line_same : Line → Line → Bool
line_same l m = place_same l.place m.place && (shown_same l.first m.first && shown_same l.second m.second)

pub orders_lines : Orders line_less line_same
orders_lines = orders_by (λ (l : Line). l.place) (λ l. (l.first, l.second)) place_less place_same both_less both_same orders_places orders_both (λ x y e f. λ i. record { place = e i; first = (f i).0; second = (f i).1 })

-- ---- what `cmp` answers

then_less : (a b : Ordering) → is_lt (ordering_then a b) ≡ is_lt a || (is_eq a && is_lt b)
then_less Less b = refl
then_less Equal b = refl
then_less Greater b = refl

then_same : (a b : Ordering) → is_eq (ordering_then a b) ≡ is_eq a && is_eq b
then_same Less b = refl
then_same Equal b = refl
then_same Greater b = refl

number_less : (a b : ℕ) → is_lt (nat_cmp a b) ≡ nat_lt a b
number_less a b = go (nat_lt a b) (a == b)
  where
    go : (p q : Bool) → is_lt (cond p Less (cond q Equal Greater)) ≡ p
    go true q = refl
    go false true = refl
    go false false = refl

number_same : (a b : ℕ) → is_eq (nat_cmp a b) ≡ (a == b)
number_same a b = go (nat_lt a b) (a == b) (λ h. grind (arith, nat_tests, h))
  where
    go : (p q : Bool) → (p ≡ true → q ≡ false) → is_eq (cond p Less (cond q Equal Greater)) ≡ q
    go true q h = sym (h refl)
    go false true h = refl
    go false false h = refl

kind_cmp_less : (s t : Bool) → is_lt (bool_cmp s t) ≡ kind_less s t
kind_cmp_less true true = refl
kind_cmp_less true false = refl
kind_cmp_less false true = refl
kind_cmp_less false false = refl

abbrev pub place_cmp : Place → Place → Ordering
place_cmp p q = ordering_then (nat_cmp p.site q.site) (nat_cmp p.class q.class)

abbrev pub position_cmp : Position → Position → Ordering
position_cmp p q = ordering_then (nat_cmp p.line q.line) (nat_cmp p.column q.column)

abbrev pub shown_cmp : Shown → Shown → Ordering
shown_cmp x y = ordering_then (position_cmp x.at y.at) (bool_cmp x.store y.store)

abbrev pub line_cmp : Line → Line → Ordering
line_cmp l m = ordering_then (place_cmp l.place m.place) (ordering_then (shown_cmp l.first m.first) (shown_cmp l.second m.second))

lex : {p q s a b c : Bool} → p ≡ a → q ≡ b → s ≡ c → p || (q && s) ≡ a || (b && c)
lex e f g = λ i. e i || (f i && g i)

kind_cmp_same : (s t : Bool) → is_eq (bool_cmp s t) ≡ kind_same s t
kind_cmp_same true true = refl
kind_cmp_same true false = refl
kind_cmp_same false true = refl
kind_cmp_same false false = refl

place_cmp_less : (p q : Place) → is_lt (place_cmp p q) ≡ place_less p q
place_cmp_less p q = then_less (nat_cmp p.site q.site) (nat_cmp p.class q.class) ∙ lex (number_less p.site q.site) (number_same p.site q.site) (number_less p.class q.class)

place_cmp_same : (p q : Place) → is_eq (place_cmp p q) ≡ place_same p q
place_cmp_same p q = then_same (nat_cmp p.site q.site) (nat_cmp p.class q.class) ∙ (λ i. number_same p.site q.site i && number_same p.class q.class i)

position_cmp_less : (p q : Position) → is_lt (position_cmp p q) ≡ position_less p q
position_cmp_less p q = then_less (nat_cmp p.line q.line) (nat_cmp p.column q.column) ∙ lex (number_less p.line q.line) (number_same p.line q.line) (number_less p.column q.column)

position_cmp_same : (p q : Position) → is_eq (position_cmp p q) ≡ position_same p q
position_cmp_same p q = then_same (nat_cmp p.line q.line) (nat_cmp p.column q.column) ∙ (λ i. number_same p.line q.line i && number_same p.column q.column i)

pub shown_cmp_less : (x y : Shown) → is_lt (shown_cmp x y) ≡ shown_less x y
shown_cmp_less x y = then_less (position_cmp x.at y.at) (bool_cmp x.store y.store) ∙ lex (position_cmp_less x.at y.at) (position_cmp_same x.at y.at) (kind_cmp_less x.store y.store)

shown_cmp_same : (x y : Shown) → is_eq (shown_cmp x y) ≡ shown_same x y
shown_cmp_same x y = then_same (position_cmp x.at y.at) (bool_cmp x.store y.store) ∙ (λ i. position_cmp_same x.at y.at i && kind_cmp_same x.store y.store i)

pub line_cmp_less : (l m : Line) → is_lt (line_cmp l m) ≡ line_less l m
line_cmp_less l m =
    then_less (place_cmp l.place m.place) (ordering_then (shown_cmp l.first m.first) (shown_cmp l.second m.second))
    ∙ lex (place_cmp_less l.place m.place) (place_cmp_same l.place m.place)
    (then_less (shown_cmp l.first m.first) (shown_cmp l.second m.second) ∙ lex (shown_cmp_less l.first m.first) (shown_cmp_same l.first m.first) (shown_cmp_less l.second m.second))
