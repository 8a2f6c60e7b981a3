-- Rows as lists of places: the tables of an answer.
use Rattle.std.proofs.Common.{◌≡◌, ℕ, zero, suc, ◌+◌, ◌/◌, ◌%◌, ◌<◌, ◌≤◌, Bool, true, List, [], ◌∷◌, length, map, get_or, refl, sym, ap, add-one, length-append, ◌∙◌, subst, arith, Some, ◌⊎◌, inl, inr, ⊎_elim}
use Rattle.std.specs.Prelude.{slice_get, slice_index_or, slice_index, ◌==◌, nat_lt, ◌&&◌, ◌||◌}
use Rattle.std.specs.List.{Contains}
use Rattle.std.proofs.lemmas.Bool.{cases_lt}
use Rattle.std.proofs.lemmas.List.{get_or_past, length-map, get_or-map, get_or_default}
use Rattle.std.proofs.lemmas.Option.{slice_get_within}
use Rattle.rr_base.specs.declared.layout.Place.{Place}
use Rattle.rr_base.specs.declared.layout.Site.{Site}
use Rattle.flow_code.specs.declared.code.Code.{Code}
use Rattle.flow_code.specs.declared.code.Function.{Function}
use Rattle.facts.specs.declared.constraint.Node.{Node}
use Rattle.facts.specs.declared.constraint.Node.TheVariants.{Register, Cells}
use Rattle.facts.specs.PointsTo.{place, element_of, element_in, classes_of, MayPoint, is_before, are_ascending, Lists, Tables, list_at, IsPointsTo}
use Rattle.points_to.specs.Ascending.{IsAscending, row_of, block_of, row_at, widths, AreAscending}
use Rattle.points_to.specs.Nodes.{number_of, place_from, block_at, index_at, node_row, widths_of, IsProper, IsNode, AreThere, listed}
use Rattle.points_to.specs.Filling.{AreFine, MeetsAll}
use Rattle.points_to.proofs.Blocks.{width_of}
use Rattle.points_to.proofs.Spots.{place_number}
use Rattle.points_to.proofs.Places.{narrow, cells_width, registers_width}
use Rattle.points_to.proofs.Complete.{complete}

-- ---- one row

before_if : (a b c d : ℕ) → (a < b) ⊎ ((a ≡ b) × (c < d)) → (nat_lt a b || ((a == b) && nat_lt c d)) ≡ true
before_if a b c d (inl l) = grind arith
before_if a b c d (inr (e, l)) = grind arith

before : (x y : ℕ) → x < y → is_before (place_from x) (place_from y) ≡ true
before x y lt = before_if (x / 64) (y / 64) (x % 64) (y % 64) (⊎_elim (λ (l : x / 64 < y / 64). inl l) (λ (g : y / 64 ≤ x / 64). inr (omega arith, omega arith)) (cases_lt (x / 64) (y / 64)))

ascending_places : (xs : List ℕ) → IsAscending xs → are_ascending (map place_from xs) ≡ true
ascending_places [] up = refl
ascending_places (x ∷ []) up = refl
ascending_places (x ∷ y ∷ zs) up = both (before x y (up 0 1 (omega arith) (omega arith))) (ascending_places (y ∷ zs) (λ i j lt le. up (suc i) (suc j) (omega arith) (omega arith)))
  where
    both : {a b : Bool} → a ≡ true → b ≡ true → (a && b) ≡ true
    both h k = cc

mapped_in : (xs : List ℕ) (n : ℕ) → Contains xs n → Contains (map place_from xs) (place_from n)
mapped_in xs n (k, lt, e) = (k, omega (arith, length-map xs place_from), get_or-map place_from xs k n (place_from n) lt ∙ ap place_from e)

mapped_from : (xs : List ℕ) (p : Place) → Contains (map place_from xs) p → (n : ℕ) × Contains xs n × (place_from n ≡ p)
mapped_from xs p (k, lt, e) =
    let le : k < length xs = omega (arith, length-map xs place_from) in
    (get_or xs k 0, (k, le, get_or_default xs k (get_or xs k 0) 0 le), sym (get_or-map place_from xs k 0 p le) ∙ e)

pub row_lists : (code : Code) (rows : List (List (List ℕ))) (n : Node) → AreThere code → AreFine code rows → MeetsAll code rows → AreAscending rows → IsProper (length code.functions) n → Lists (MayPoint code n) (map place_from (node_row (length code.functions) rows n))
row_lists code rows n t fine met up proper = record {
  ascending = ascending_places (node_row (length code.functions) rows n) (up (block_at (length code.functions) n) (index_at (length code.functions) n));
  of = λ p. (
    (λ h. let f = mapped_from (node_row (length code.functions) rows n) p h in subst (MayPoint code n) f.2 (fine n f.0 proper f.1).1),
    (λ m. let k = complete code rows t met m in subst (Contains (map place_from (node_row (length code.functions) rows n))) (place_number p (narrow code.sites p k.there)) (mapped_in (node_row (length code.functions) rows n) (number_of p) k.has)),
  );
}

-- a node that isn't there points nowhere
pub empty_lists : (code : Code) (rows : List (List (List ℕ))) (n : Node) → AreThere code → MeetsAll code rows → (IsNode code n → ⊥) → Lists (MayPoint code n) []
empty_lists code rows n t met not = record {
  ascending = refl;
  of = λ p. ((λ (k, lt, e). absurd (omega arith)), (λ m. absurd (not (complete code rows t met m).node)));
}

-- ---- the tables

row_got : (block : List (List ℕ)) (r : ℕ) → slice_index_or (listed block) r [] ≡ map place_from (row_of block r)
row_got [] zero = refl
row_got [] (suc r) = refl
row_got (x ∷ xs) zero = refl
row_got (x ∷ xs) (suc r) = row_got xs r

-- the table has the places of so many blocks from the first on
pub record IsTable (rows : List (List (List ℕ))) (first count : ℕ) (table : List (List (List Place))) : Type 0 where
  pub long : length table ≡ count
  pub each : (k : ℕ) → k < count → slice_index_or table k [] ≡ listed (block_of rows (first + k))

list_in : (rows : List (List (List ℕ))) (first count : ℕ) (table : List (List (List Place))) (k r b : ℕ) → IsTable rows first count table → k < count → b ≡ first + k → list_at table k r ≡ map place_from (row_at rows b r)
list_in rows first count table k r b is lt e = ap (λ z. slice_index_or z r []) (is.each k lt) ∙ row_got (block_of rows (first + k)) r ∙ ap (λ j. map place_from (row_at rows j r)) (sym e)

list_past : (rows : List (List (List ℕ))) (first count : ℕ) (table : List (List (List Place))) (k r : ℕ) → IsTable rows first count table → count ≤ k → list_at table k r ≡ []
list_past rows first count table k r is le = ap (λ z. slice_index_or z r []) (get_or_past table k [] (omega (arith, is.long))) ∙ get_or_past [] r [] (omega arith)

wide_in : (rows : List (List (List ℕ))) (ws : List ℕ) (first count : ℕ) (table : List (List (List Place))) (k b : ℕ) → IsTable rows first count table → widths rows ≡ ws → k < count → b ≡ first + k → length (slice_index_or table k []) ≡ slice_index ws b
wide_in rows ws first count table k b is wide lt e =
    ap (λ (z : List (List Place)). length z) (is.each k lt)
    ∙ length-map (block_of rows (first + k)) (λ row. map place_from row)
    ∙ width_of rows (first + k)
    ∙ ap (λ z. get_or z (first + k) 0) wide
    ∙ ap (λ j. get_or ws j 0) (sym e)

element_got : (sites : List Site) (s : ℕ) (site : Site) → slice_get sites s ≡ Some site → element_of sites (s + 1) ≡ site.layout.element
element_got sites s site h = ap (element_of sites) (add-one s) ∙ ap element_in h

past_width : (code : Code) (b : ℕ) → length code.functions + 1 + length code.sites ≤ b → slice_index (widths_of code) b ≡ 0
past_width code b le = get_or_past (widths_of code) b 0 (omega (arith, length-append (map (λ (f : Function). f.registers) code.functions) (map (λ (s : Site). classes_of s.layout.element) code.sites), length-map code.functions (λ (f : Function). f.registers), length-map code.sites (λ (s : Site). classes_of s.layout.element)))

pub are_tables : (code : Code) (rows : List (List (List ℕ))) (t : Tables) → AreThere code → widths rows ≡ widths_of code → AreFine code rows → MeetsAll code rows → AreAscending rows → IsTable rows 1 (length code.functions) t.registers → IsTable rows (length code.functions + 1) (length code.sites) t.cells → IsPointsTo code t
are_tables code rows t there wide fine met up rs cs = record {
  functions = rs.long;
  registers = λ f fn h. wide_in rows (widths_of code) 1 (length code.functions) t.registers f (f + 1) rs wide (slice_get_within code.functions f fn h) (omega arith) ∙ registers_width code f fn h;
  sites = cs.long;
  classes = λ s site h.
      let lt = slice_get_within code.sites s site h in
      wide_in rows (widths_of code) (length code.functions + 1) (length code.sites) t.cells s (length code.functions + (s + 1)) cs wide lt (omega arith)
      ∙ cells_width code (s + 1) (omega arith) (omega arith) ∙ ap classes_of (element_got code.sites s site h);
  of_registers = λ f r. ⊎_elim
      (λ (lt : f < length code.functions). subst (Lists (MayPoint code (Register f r))) (sym (list_in rows 1 (length code.functions) t.registers f r (f + 1) rs lt (omega arith))) (row_lists code rows (Register f r) there fine met up lt))
      (λ (ge : length code.functions ≤ f). subst (Lists (MayPoint code (Register f r))) (sym (list_past rows 1 (length code.functions) t.registers f r rs ge)) (empty_lists code rows (Register f r) there met (λ node. absurd (omega (arith, node.0)))))
      (cases_lt f (length code.functions));
  of_cells = λ s c. ⊎_elim
      (λ (lt : s < length code.sites). subst (Lists (MayPoint code (Cells (place (s + 1) c)))) (sym (list_in rows (length code.functions + 1) (length code.sites) t.cells s c (length code.functions + (s + 1)) cs lt (omega arith))) (row_lists code rows (Cells (place (s + 1) c)) there fine met up (omega arith)))
      (λ (ge : length code.sites ≤ s). subst (Lists (MayPoint code (Cells (place (s + 1) c)))) (sym (list_past rows (length code.functions + 1) (length code.sites) t.cells s c cs ge)) (empty_lists code rows (Cells (place (s + 1) c)) there met (λ node. absurd (omega (arith, node.1, past_width code (length code.functions + (s + 1)) (omega arith))))))
      (cases_lt s (length code.sites));
}
