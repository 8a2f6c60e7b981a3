-- The tables of a points-to analysis are the only ones.
use Rattle.std.proofs.Common.{◌≡◌, ℕ, true, List, [], ◌∷◌, length, refl, sym, ap, ◌∙◌, arith}
use Rattle.std.specs.Prelude.{slice_get, slice_index_or, Option, Some, None}
use Rattle.rr_base.specs.declared.layout.Place.{Place}
use Rattle.rr_base.specs.declared.layout.Site.{Site}
use Rattle.flow_code.specs.declared.code.Code.{Code}
use Rattle.flow_code.specs.declared.code.Function.{Function}
use Rattle.facts.specs.PointsTo.{is_before, are_ascending, Lists, Tables, list_at, IsPointsTo, classes_of}
use Rattle.profiles.proofs.Ascending as ascending

irr : (p : Place) → is_before p p ≡ true → ⊥
irr p e = absurd (grind (arith, e))

trans : (p q r : Place) → is_before p q ≡ true → is_before q r ≡ true → is_before p r ≡ true
trans p q r d e = grind (arith, d, e)

up : (ps : List Place) → are_ascending ps ≡ true → ascending.Up is_before irr trans ps
up [] e = tt
up (p ∷ []) e = (tt, tt)
up (p ∷ q ∷ ps) e =
    let u = up (q ∷ ps) (ascending.and_right (is_before p q) (are_ascending (q ∷ ps)) e) in
    let l = ascending.and_left (is_before p q) (are_ascending (q ∷ ps)) e in
    ((l, ascending.before_less is_before irr trans p q ps l u.0), u)

-- a set has one list
one_set : (Set : Place → Type 0) (ps qs : List Place) → Lists Set ps → Lists Set qs → ps ≡ qs
one_set Set ps qs h k =
    ascending.one_list is_before irr trans ps qs (up ps h.ascending) (up qs k.ascending)
    (λ z i. ascending.In_at is_before irr trans qs z ((k.of z).1 ((h.of z).0 (ascending.at_In is_before irr trans ps z i))))
    (λ z i. ascending.In_at is_before irr trans ps z ((h.of z).1 ((k.of z).0 (ascending.at_In is_before irr trans qs z i))))

one_table : (xs ys : List (List (List Place))) → length xs ≡ length ys → ((i : ℕ) → length (slice_index_or xs i []) ≡ length (slice_index_or ys i [])) → ((i j : ℕ) → list_at xs i j ≡ list_at ys i j) → xs ≡ ys
one_table xs ys e long h = ascending.one_by_items [] xs ys e (λ i. ascending.one_by_items [] (slice_index_or xs i []) (slice_index_or ys i []) (long i) (h i))

-- the lengths of rows, each of which is that of an item
row_lengths : {Y : Type 0} (of : Y → ℕ) (xs zs : List (List (List Place))) (ys : List Y) → length xs ≡ length ys → length zs ≡ length ys → ((i : ℕ) (y : Y) → slice_get ys i ≡ Some y → length (slice_index_or xs i []) ≡ of y) → ((i : ℕ) (y : Y) → slice_get ys i ≡ Some y → length (slice_index_or zs i []) ≡ of y) → (i : ℕ) → length (slice_index_or xs i []) ≡ length (slice_index_or zs i [])
row_lengths of xs zs ys d e h k i = by (slice_get ys i) refl
  where
    by : (o : Option _) → slice_get ys i ≡ o → length (slice_index_or xs i []) ≡ length (slice_index_or zs i [])
    by (Some y) is = h i y is ∙ sym (k i y is)
    by None is = ap (λ (w : List (List Place)). length w) (ascending.no_item [] xs ys i d is ∙ sym (ascending.no_item [] zs ys i e is))

-- the tables of a code are the only ones
pub one_answer : (code : Code) (t u : Tables) → IsPointsTo code t → IsPointsTo code u → t ≡ u
one_answer code t u h k = both (one_table t.registers u.registers (h.functions ∙ sym k.functions) (row_lengths (λ (fn : Function). fn.registers) t.registers u.registers code.functions h.functions k.functions h.registers k.registers) (λ f r. one_set _ (list_at t.registers f r) (list_at u.registers f r) (h.of_registers f r) (k.of_registers f r))) (one_table t.cells u.cells (h.sites ∙ sym k.sites) (row_lengths (λ (s : Site). classes_of s.layout.element) t.cells u.cells code.sites h.sites k.sites h.classes k.classes) (λ s c. one_set _ (list_at t.cells s c) (list_at u.cells s c) (h.of_cells s c) (k.of_cells s c)))
  where
    both : t.registers ≡ u.registers → t.cells ≡ u.cells → t ≡ u
    both e f = ap (λ x. record { registers = x; cells = t.cells }) e ∙ ap (λ x. record { registers = u.registers; cells = x }) f
