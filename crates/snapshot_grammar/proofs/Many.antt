-- Many items, one after another.
use Rattle.std.proofs.Common.{◌≡◌, ℕ, zero, suc, ◌+◌, ◌-◌, ◌≤◌, ◌<◌, min, Bool, true, false, cond, eqb, List, [], ◌∷◌, ◌++◌, length, map, replicate, refl, sym, ap, subst, ◌∙◌, arith, append_assoc, length-append}
use Rattle.std.specs.List.{AllByRecursion}
use Rattle.std.proofs.lemmas.List.{append-nil, length-map, length-replicate, map-append}
use Rattle.profiles.specs.Profile.{Text}
use Rattle.order_log.specs.Reading.{lines_of, onto_first}
use Rattle.order_log.specs.Recogniser.{Lines}
use Rattle.order_log.proofs.Lists.{All-append}
use Rattle.snapshot_lines.specs.Lines.{long_most}
use Rattle.snapshot_grammar.specs.Parts.{AreMany, IsRead, IsStuckAt}
use Rattle.snapshot_grammar.proofs.Grammar.{Delimits, IsPart, passed_none, passed_then, passed_as, stuck_in}

pub All-replicate : {X : Type 0} (P : X → Type 0) (n : ℕ) (x : X) → P x → AllByRecursion P (replicate n x)
All-replicate P zero x h = tt
All-replicate P (suc n) x h = (h, All-replicate P n x h)

module _ (A : Type 0) (Is : A → Type 0) (lines : A → List Text) (all_lines : List A → List Text) (none : all_lines [] ≡ []) (one : (x : A) (xs : List A) → all_lines (x ∷ xs) ≡ lines x ++ all_lines xs) (delimits : Delimits A Is lines) where
  lines-append : (xs ys : List A) → all_lines (xs ++ ys) ≡ all_lines xs ++ all_lines ys
  lines-append [] ys = ap (λ (z : List Text). z ++ all_lines ys) (sym none)
  lines-append (x ∷ xs) ys =
      one x (xs ++ ys) ∙ ap (λ (z : List Text). lines x ++ z) (lines-append xs ys) ∙ sym (append_assoc (lines x) (all_lines xs) (all_lines ys)) ∙ ap (λ (z : List Text). z ++ all_lines ys) (sym (one x xs))

  cons_cut : (x : A) (xs : List A) (u : List Text) → all_lines (x ∷ xs) ++ u ≡ lines x ++ (all_lines xs ++ u)
  cons_cut x xs u = ap (λ (z : List Text). z ++ u) (one x xs) ∙ append_assoc (lines x) (all_lines xs) u

  -- what stands after as many items is the same
  pub after_same : (xs ys : List A) → AllByRecursion Is xs → AllByRecursion Is ys → length xs ≡ length ys → (u v : List Text) → all_lines xs ++ u ≡ all_lines ys ++ v → u ≡ v
  after_same [] [] h k same u v e = ap (λ (z : List Text). z ++ u) (sym none) ∙ e ∙ ap (λ (z : List Text). z ++ v) none
  after_same [] (y ∷ ys) h k same u v e = absurd (omega arith)
  after_same (x ∷ xs) [] h k same u v e = absurd (omega arith)
  after_same (x ∷ xs) (y ∷ ys) h k same u v e =
      after_same xs ys h.1 k.1 (omega arith) u v (delimits x y h.0 k.0 (all_lines xs ++ u) (all_lines ys ++ v) (sym (cons_cut x xs u) ∙ e ∙ cons_cut y ys v))

  -- after fewer items there is one more
  next_of : (xs ys : List A) → AllByRecursion Is xs → AllByRecursion Is ys → length xs < length ys → (u t : List Text) → all_lines ys ++ u ≡ all_lines xs ++ t → (a : A) × Is a × (w : List Text) × (lines a ++ w ≡ t)
  next_of [] [] h k fewer u t e = absurd (omega arith)
  next_of (x ∷ xs) [] h k fewer u t e = absurd (omega arith)
  next_of [] (y ∷ ys) h k fewer u t e = (y, k.0, all_lines ys ++ u, sym (cons_cut y ys u) ∙ e ∙ ap (λ (z : List Text). z ++ t) none)
  next_of (x ∷ xs) (y ∷ ys) h k fewer u t e =
      next_of xs ys h.1 k.1 (omega arith) u t (delimits y x k.0 h.0 (all_lines ys ++ u) (all_lines xs ++ t) (sym (cons_cut y ys u) ∙ e ∙ cons_cut x xs t))

  -- the next of many
  many_part : (some : A) → Is some → (n : ℕ) (xs : List A) → AllByRecursion Is xs → length xs < n → IsPart A Is lines (List A) (AreMany A Is n) all_lines (all_lines xs)
  many_part some is n xs h fewer = record {
    complete = λ a k.
        let rest = replicate (n - (length xs + 1)) some in (
          xs ++ a ∷ rest,
          record {
            count = let p = length-append xs (a ∷ rest) in let q = length-replicate (n - (length xs + 1)) some in omega arith;
            all = All-append Is xs (a ∷ rest) h (k, All-replicate Is (n - (length xs + 1)) some is);
          },
          all_lines rest,
          lines-append xs (a ∷ rest) ∙ ap (λ (z : List Text). all_lines xs ++ z) (one a rest),
        );
    project = λ c k u t e. let m = k.count in next_of xs c h k.all (omega arith) u t e;
  }

  -- ---- the loop

  module _ (B : Type 0) (view : A → B) where
    -- before the first
    pub none_read : (l : Lines) → l.at ≤ 4294967295 → IsRead (List A) (List B) (AllByRecursion Is) all_lines (map view) l [] l
    none_read l low = record { item = []; stands = tt; passed = passed_as l l [] (all_lines []) (sym none) (passed_none l low); value = refl }

    -- one more
    pub one_read : (l m k : Lines) (ys : List B) (y : B) → IsRead (List A) (List B) (AllByRecursion Is) all_lines (map view) l ys m → IsRead A B Is lines view m y k → IsRead (List A) (List B) (AllByRecursion Is) all_lines (map view) l (ys ++ y ∷ []) k
    one_read l m k ys y h g =
        let last : all_lines (h.item ++ g.item ∷ []) ≡ all_lines h.item ++ lines g.item =
        lines-append h.item (g.item ∷ []) ∙ ap (λ (z : List Text). all_lines h.item ++ z) (one g.item [] ∙ ap (λ (z : List Text). lines g.item ++ z) none ∙ append-nil (lines g.item)) in
        record {
          item = h.item ++ g.item ∷ [];
          stands = All-append Is h.item (g.item ∷ []) h.stands (g.stands, tt);
          passed = passed_as l k (all_lines h.item ++ lines g.item) (all_lines (h.item ++ g.item ∷ [])) (sym last) (passed_then l m k (all_lines h.item) (lines g.item) h.passed g.passed);
          value = (λ i. h.value i ++ g.value i ∷ []) ∙ sym (map-append view h.item (g.item ∷ []));
        }

    as_many : (ys : List B) (xs : List A) → ys ≡ map view xs → length xs ≡ length ys
    as_many ys xs e = let f = ap length e in let g = length-map xs view in omega arith

    -- as many as there are to be
    pub all_read : (n : ℕ) (l m : Lines) (ys : List B) → IsRead (List A) (List B) (AllByRecursion Is) all_lines (map view) l ys m → length ys ≡ n → IsRead (List A) (List B) (AreMany A Is n) all_lines (map view) l ys m
    all_read n l m ys h many = record { item = h.item; stands = record { count = as_many ys h.item h.value ∙ many; all = h.stands }; passed = h.passed; value = h.value }

    -- where the next is stuck, so are all
    pub next_stuck : (some : A) → Is some → (n : ℕ) (l m : Lines) (ys : List B) (line : ℕ) → IsRead (List A) (List B) (AllByRecursion Is) all_lines (map view) l ys m → length ys < n → IsStuckAt A Is lines m line
        → IsStuckAt (List A) (AreMany A Is n) all_lines l line
    next_stuck some is n l m ys line h fewer k =
        let same = as_many ys h.item h.value in
        stuck_in A Is lines (List A) (AreMany A Is n) all_lines (all_lines h.item) (many_part some is n h.item h.stands (omega arith)) l m line h.passed k

-- ---- how many lines there are at most

onto_few : (b : ℕ) (ls : List Text) → length (onto_first b ls) ≡ length ls
onto_few b [] = refl
onto_few b (l ∷ ls) = refl

lines_few : (bytes : Text) → length (lines_of bytes) ≤ length bytes
lines_few [] = omega arith
lines_few (b ∷ bs) = by (eqb b 10) (lines_few bs)
  where
    by : (t : Bool) → length (lines_of bs) ≤ length bs → length (cond t ([] ∷ lines_of bs) (onto_first b (lines_of bs))) ≤ suc (length bs)
    by true h = omega arith
    by false h = let e = onto_few b (lines_of bs) in omega arith

-- a number that is counted off line by line isn't clipped
pub not_clipped : (n count : ℕ) (bytes : Text) (first rest : List Text) → count ≡ min n long_most → length first ≡ count → lines_of bytes ≡ first ++ rest → length bytes < long_most → count ≡ n
not_clipped n count bytes first rest clip many e few =
    let a = lines_few bytes in
    let b = ap length e in
    let c = length-append first rest in
    omega arith
