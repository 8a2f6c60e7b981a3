-- Marking and counting stripes by their places.
use Rattle.std.proofs.Common.{◌≡◌, ℕ, ◌+◌, ◌*◌, ◌<◌, Bool, true, false, cond, List, [], ◌∷◌, length, refl, sym, ap, subst, ◌∙◌, arith, ⊎_elim}
use Rattle.std.specs.Prelude.{◌&&◌, ◌||◌, ◌==◌, not, slice_index, slice_set, if◌then◌else◌}
use Rattle.std.specs.List.{list_all}
use Rattle.std.proofs.lemmas.Bool.{and_parts, cases_eq, eq-eqb, eqb-true, ne_eqb}
use Rattle.std.proofs.lemmas.List.{get_or-set_same, get_or-set_other}
use Rattle.std.proofs.lemmas.List.Sums.{sum_by-cons}
use Rattle.snapshots.specs.Conditions.{has_pair, is_among, nesting_in}
use Rattle.thread_interpreter.specs.declared.part.RegionPart.{RegionPart}
use Rattle.thread_interpreter.specs.declared.part.StripePart.{StripePart}
use Rattle.snapshot_reader.specs.Tallies.{IsIn, one_if, place}

-- whether the stripe isn't marked yet
abbrev pub is_free : ℕ → List ℕ → ℕ × ℕ → Bool
is_free mark marks p = not (slice_index marks (place p) == mark)

-- what is still to be counted of a stripe: nothing once it is marked
abbrev pub pending : ℕ → List ℕ → List (ℕ × ℕ) → ℕ × ℕ → ℕ
pending mark marks rest p = if slice_index marks (place p) == mark then 0 else one_if (has_pair rest p)

-- ---- places

-- no two stripes have one place
pub same_place : (locks : ℕ) (p q : ℕ × ℕ) → IsIn locks p → IsIn locks q → place p ≡ place q → p ≡ q
same_place locks p q h k e =
    let a = h.1 in
    let b = k.1 in
    let lock : p.0 ≡ q.0 = omega arith in
    let stripe : p.1 ≡ q.1 = omega arith in
    λ i. (lock i, stripe i)

pub place_within : (locks : ℕ) (p : ℕ × ℕ) → IsIn locks p → place p < 8 * locks
place_within locks p h = let a = h.0 in let b = h.1 in omega arith

-- ---- pairs

both_eq : (p q : ℕ × ℕ) → q ≡ p → ((q.0 == p.0) && (q.1 == p.1)) ≡ true
both_eq p q e = (λ i. eq-eqb q.0 p.0 (ap (λ (z : ℕ × ℕ). z.0) e) i && eq-eqb q.1 p.1 (ap (λ (z : ℕ × ℕ). z.1) e) i)

pub pair_hit : (p q : ℕ × ℕ) (rest : List (ℕ × ℕ)) → q ≡ p → has_pair (q ∷ rest) p ≡ true
pair_hit p q rest e = ap (λ (b : Bool). b || has_pair rest p) (both_eq p q e)

pub pair_miss : (p q : ℕ × ℕ) (rest : List (ℕ × ℕ)) → (q ≡ p → ⊥) → has_pair (q ∷ rest) p ≡ has_pair rest p
pair_miss p q rest other = by ((q.0 == p.0) && (q.1 == p.1)) refl
  where
    by : (t : Bool) → ((q.0 == p.0) && (q.1 == p.1)) ≡ t → (t || has_pair rest p) ≡ has_pair rest p
    by true e =
        let h = and_parts (q.0 == p.0) (q.1 == p.1) e in
        let a = eqb-true q.0 p.0 h.0 in
        let b = eqb-true q.1 p.1 h.1 in
        absurd (other (λ i. (a i, b i)))
    by false e = refl

-- ---- one pair

module _ (locks mark : ℕ) (counts marks : List ℕ) (q : ℕ × ℕ) (rest : List (ℕ × ℕ)) where
  -- a stripe that the machine doesn't have
  pub tally_outside : (IsIn locks q → ⊥) → (p : ℕ × ℕ) → IsIn locks p → slice_index counts (place p) + pending mark marks rest p ≡ slice_index counts (place p) + pending mark marks (q ∷ rest) p
  tally_outside out p h =
      let miss = pair_miss p q rest (λ e. out (subst (IsIn locks) (sym e) h)) in
      ap (λ (b : Bool). slice_index counts (place p) + (if slice_index marks (place p) == mark then 0 else one_if b)) (sym miss)

  -- one that was marked before
  pub tally_again : IsIn locks q → slice_index marks (place q) ≡ mark → (p : ℕ × ℕ) → IsIn locks p → slice_index counts (place p) + pending mark marks rest p ≡ slice_index counts (place p) + pending mark marks (q ∷ rest) p
  tally_again k marked p h = ⊎_elim same other (cases_eq (place p) (place q))
    where
      same : place p ≡ place q → slice_index counts (place p) + pending mark marks rest p ≡ slice_index counts (place p) + pending mark marks (q ∷ rest) p
      same e =
          let here : (slice_index marks (place p) == mark) ≡ true = eq-eqb (slice_index marks (place p)) mark (ap (slice_index marks) e ∙ marked) in
          ap (λ (b : Bool). slice_index counts (place p) + (if b then 0 else one_if (has_pair rest p))) here
          ∙ sym (ap (λ (b : Bool). slice_index counts (place p) + (if b then 0 else one_if (has_pair (q ∷ rest) p))) here)

      other : (place p ≡ place q → ⊥) → slice_index counts (place p) + pending mark marks rest p ≡ slice_index counts (place p) + pending mark marks (q ∷ rest) p
      other ne =
          let miss = pair_miss p q rest (λ e. ne (ap place (sym e))) in
          ap (λ (b : Bool). slice_index counts (place p) + (if slice_index marks (place p) == mark then 0 else one_if b)) (sym miss)

  -- one that is met for the first time
  pub tally_first : IsIn locks q → length counts ≡ 8 * locks → length marks ≡ 8 * locks → (slice_index marks (place q) ≡ mark → ⊥) → (p : ℕ × ℕ) → IsIn locks p
      → slice_index (slice_set counts (place q) (slice_index counts (place q) + 1)) (place p) + pending mark (slice_set marks (place q) mark) rest p ≡ slice_index counts (place p) + pending mark marks (q ∷ rest) p
  tally_first k size_c size_m fresh p h = ⊎_elim same other (cases_eq (place p) (place q))
    where
      same : place p ≡ place q → slice_index (slice_set counts (place q) (slice_index counts (place q) + 1)) (place p) + pending mark (slice_set marks (place q) mark) rest p ≡ slice_index counts (place p) + pending mark marks (q ∷ rest) p
      same e =
          let within = place_within locks q k in
          let equal : p ≡ q = same_place locks p q h k e in
          let more : slice_index (slice_set counts (place q) (slice_index counts (place q) + 1)) (place p) ≡ slice_index counts (place p) + 1 =
          ap (slice_index (slice_set counts (place q) (slice_index counts (place q) + 1))) e ∙ get_or-set_same counts (place q) (slice_index counts (place q) + 1) 0 (omega arith) ∙ ap (λ (n : ℕ). slice_index counts n + 1) (sym e) in
          let now : (slice_index (slice_set marks (place q) mark) (place p) == mark) ≡ true =
          eq-eqb (slice_index (slice_set marks (place q) mark) (place p)) mark (ap (slice_index (slice_set marks (place q) mark)) e ∙ get_or-set_same marks (place q) mark 0 (omega arith)) in
          let before : (slice_index marks (place p) == mark) ≡ false = ne_eqb (slice_index marks (place p)) mark (λ f. fresh (ap (slice_index marks) (sym e) ∙ f)) in
          let nothing : pending mark (slice_set marks (place q) mark) rest p ≡ 0 = ap (λ (b : Bool). if b then 0 else one_if (has_pair rest p)) now in
          let one : pending mark marks (q ∷ rest) p ≡ 1 = (λ i. if before i then 0 else one_if (pair_hit p q rest (sym equal) i)) in
          omega arith

      other : (place p ≡ place q → ⊥) → slice_index (slice_set counts (place q) (slice_index counts (place q) + 1)) (place p) + pending mark (slice_set marks (place q) mark) rest p ≡ slice_index counts (place p) + pending mark marks (q ∷ rest) p
      other ne =
          let a : slice_index (slice_set counts (place q) (slice_index counts (place q) + 1)) (place p) ≡ slice_index counts (place p) = get_or-set_other counts (place q) (place p) (slice_index counts (place q) + 1) 0 ne in
          let b : slice_index (slice_set marks (place q) mark) (place p) ≡ slice_index marks (place p) = get_or-set_other marks (place q) (place p) mark 0 ne in
          let miss = pair_miss p q rest (λ e. ne (ap place (sym e))) in
          λ i. a i + (if b i == mark then 0 else one_if (sym miss i))

-- ---- regions

nesting_one : (r : RegionPart) (rs : List RegionPart) (p : ℕ × ℕ) → nesting_in (r ∷ rs) p ≡ cond (has_pair r.stripes p) 1 0 + nesting_in rs p
nesting_one r rs p = sum_by-cons (λ (q : RegionPart). cond (has_pair q.stripes p) 1 0) r rs

-- one region more is tallied
pub nestings_next : (old new : ℕ) (r : RegionPart) (rs : List RegionPart) (p : ℕ × ℕ) (all : ℕ) → old + nesting_in (r ∷ rs) p ≡ all → new ≡ old + one_if (has_pair r.stripes p) → new + nesting_in rs p ≡ all
nestings_next old new r rs p all e f = let a = nesting_one r rs p in omega arith

-- ---- pairs that differ

swap : (a l m f n : Bool) → (a && l) ≡ (a && (not m && n)) → (a && (f && l)) ≡ (a && (not m && (f && n)))
swap false l m f n e = refl
swap true l m true n e = e
swap true l true false n e = refl
swap true l false false n e = refl

neither : (a b x y : Bool) → a ≡ false → b ≡ false → (a && x) ≡ (b && y)
neither a b x y e f = (λ i. e i && x) ∙ sym (λ i. f i && y)

module _ (mark : ℕ) (marks : List ℕ) where
  -- what is said of a list that begins with a pair of a listed stripe
  abbrev StillFree : ℕ × ℕ → ℕ × ℕ → List (ℕ × ℕ) → List StripePart → Type 0
  StillFree q p rest stripes = ((true && list_all (is_among stripes) rest) && (is_free mark (slice_set marks (place q) mark) p && list_all (is_free mark (slice_set marks (place q) mark)) rest))
      ≡ ((true && list_all (is_among stripes) rest) && (not (has_pair (p ∷ rest) q) && (is_free mark marks p && list_all (is_free mark marks) rest)))

  -- after a pair is marked, those that are left have to differ from it too
  pub free_after : (locks : ℕ) (q : ℕ × ℕ) (rest : List (ℕ × ℕ)) → IsIn locks q → length marks ≡ 8 * locks → (stripes : List StripePart) → ((p : ℕ × ℕ) → is_among stripes p ≡ true → IsIn locks p)
      → (list_all (is_among stripes) rest && list_all (is_free mark (slice_set marks (place q) mark)) rest) ≡ (list_all (is_among stripes) rest && (not (has_pair rest q) && list_all (is_free mark marks) rest))
  free_after locks q [] k size stripes inside = refl
  free_after locks q (p ∷ rest) k size stripes inside = by (is_among stripes p) refl (free_after locks q rest k size stripes inside)
    where
      by : (t : Bool) → is_among stripes p ≡ t
          → (list_all (is_among stripes) rest && list_all (is_free mark (slice_set marks (place q) mark)) rest) ≡ (list_all (is_among stripes) rest && (not (has_pair rest q) && list_all (is_free mark marks) rest))
          → ((t && list_all (is_among stripes) rest) && (is_free mark (slice_set marks (place q) mark) p && list_all (is_free mark (slice_set marks (place q) mark)) rest))
          ≡ ((t && list_all (is_among stripes) rest) && (not (has_pair (p ∷ rest) q) && (is_free mark marks p && list_all (is_free mark marks) rest)))
      by false e others = refl
      by true e others = ⊎_elim same other (cases_eq (place p) (place q))
        where
          same : place p ≡ place q → StillFree q p rest stripes
          same f =
              let within = place_within locks q k in
              let now : is_free mark (slice_set marks (place q) mark) p ≡ false =
              ap not (eq-eqb (slice_index (slice_set marks (place q) mark) (place p)) mark (ap (slice_index (slice_set marks (place q) mark)) f ∙ get_or-set_same marks (place q) mark 0 (omega arith))) in
              let hit = pair_hit q p rest (same_place locks p q (inside p e) k f) in
              ap (λ (z : Bool). list_all (is_among stripes) rest && z)
              (neither (is_free mark (slice_set marks (place q) mark) p) (not (has_pair (p ∷ rest) q)) (list_all (is_free mark (slice_set marks (place q) mark)) rest) (is_free mark marks p && list_all (is_free mark marks) rest) now (ap not hit))

          other : (place p ≡ place q → ⊥) → StillFree q p rest stripes
          other ne =
              let free : is_free mark (slice_set marks (place q) mark) p ≡ is_free mark marks p = ap (λ (n : ℕ). not (n == mark)) (get_or-set_other marks (place q) (place p) mark 0 ne) in
              let miss = pair_miss q p rest (λ f. ne (ap place f)) in
              ap (λ (b : Bool). list_all (is_among stripes) rest && (b && list_all (is_free mark (slice_set marks (place q) mark)) rest)) free
              ∙ swap (list_all (is_among stripes) rest) (list_all (is_free mark (slice_set marks (place q) mark)) rest) (has_pair rest q) (is_free mark marks p) (list_all (is_free mark marks) rest) others
              ∙ ap (λ (b : Bool). list_all (is_among stripes) rest && (not b && (is_free mark marks p && list_all (is_free mark marks) rest))) (sym miss)
