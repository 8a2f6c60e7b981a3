-- Parts of a text that are read one after another.
use Rattle.std.proofs.Common.{◌≡◌, Bool, true, false, ℕ, ◌+◌, ◌≤◌, min, List, [], ◌∷◌, ◌++◌, length, Some, None, refl, sym, ap, subst, ◌∙◌, arith, append_assoc, length-append}
use Rattle.std.specs.Cmp.Lexicographic.{bytes_decides, pointwise}
use Rattle.std.specs.Prelude.{nat_eq}
use Rattle.std.proofs.lemmas.Bool.{true≢false}
use Rattle.profiles.specs.Profile.{Text}
use Rattle.order_log.specs.Line.{cut}
use Rattle.order_log.specs.Reading.{lines_of, shown}
use Rattle.order_log.specs.Recogniser.{Lines, lines_in, next}
use Rattle.order_log.proofs.Cutting.{lines_of_none, next_some}
use Rattle.order_log.proofs.Parts.{cut_free}
use Rattle.snapshot_lines.specs.Lines.{ReadsAs}
use Rattle.snapshot_grammar.specs.Parts.{GoesOnAs, IsStuck, IsStuckAt, IsRead, Passed, TakesText}

-- ---- the next line

pub line_none : (at : ℕ) (bytes : Text) → None ≡ cut 10 bytes → lines_of bytes ≡ []
line_none at bytes e = lines_of_none bytes (cut_free 10 bytes (sym e))

pub line_taken : (at more : ℕ) (bytes line rest : Text) → Some (line, rest) ≡ cut 10 bytes → more ≡ next at
    → ((lines_in at bytes).whole ≡ line ∷ (lines_in more rest).whole) × ((lines_in at bytes).rest ≡ (lines_in more rest).rest) × ((lines_in more rest).at ≡ next (lines_in at bytes).at)
line_taken at more bytes line rest e step = let n = next_some bytes line rest (sym e) in (n.lines, n.unfinished, step)

same_first : (x y : Text) (xs ys : List Text) → x ∷ xs ≡ y ∷ ys → x ≡ y
same_first x y xs ys e = cc

-- ---- lines that are passed

pub passed_none : (l : Lines) → l.at ≤ 4294967295 → Passed l l []
passed_none l low = record { whole = refl; rest = refl; at = omega arith }

pub passed_then : (l m k : Lines) (xs ys : List Text) → Passed l m xs → Passed m k ys → Passed l k (xs ++ ys)
passed_then l m k xs ys p q = record {
  whole = p.whole ∙ ap (λ (z : List Text). xs ++ z) q.whole ∙ sym (append_assoc xs ys k.whole);
  rest = p.rest ∙ q.rest;
  at = let a = p.at in let b = q.at in let e = length-append xs ys in omega arith;
}

pub passed_as : (l m : Lines) (xs ys : List Text) → xs ≡ ys → Passed l m xs → Passed l m ys
passed_as l m xs ys e p = subst (Passed l m) e p

pub passed_one : (l m : Lines) (line : Text) → l.whole ≡ line ∷ m.whole → l.rest ≡ m.rest → m.at ≡ next l.at → Passed l m (line ∷ [])
passed_one l m line whole rest at = record { whole = whole; rest = rest; at = omega arith }

-- ---- parts

-- an item's lines are known by how they begin
abbrev pub Delimits : (A : Type 0) → (A → Type 0) → (A → List Text) → Type 0
Delimits A Is lines = (x y : A) → Is x → Is y → (u v : List Text) → lines x ++ u ≡ lines y ++ v → u ≡ v

-- an item that stands in another after these lines
pub record IsPart (A : Type 0) (Is : A → Type 0) (lines : A → List Text) (C : Type 0) (IsC : C → Type 0) (whole_lines : C → List Text) (done : List Text) : Type 0 where
  pub complete : (a : A) → Is a → (c : C) × IsC c × (more : List Text) × (whole_lines c ≡ done ++ (lines a ++ more))
  pub project : (c : C) → IsC c → (u t : List Text) → whole_lines c ++ u ≡ done ++ t → (a : A) × Is a × (w : List Text) × (lines a ++ w ≡ t)

-- where the part is stuck, so is the whole
part_stuck : (A : Type 0) (Is : A → Type 0) (lines : A → List Text) (C : Type 0) (IsC : C → Type 0) (whole_lines : C → List Text) (done : List Text) → IsPart A Is lines C IsC whole_lines done
    → (whole rest : List Text) (before : ℕ) → whole ≡ done ++ rest → IsStuck A Is lines rest before → IsStuck C IsC whole_lines whole (length done + before)
part_stuck A Is lines C IsC whole_lines done part whole rest before cut k =
    let c = part.complete k.item k.stands in
    record {
      good = done ++ k.good;
      bad = k.bad;
      parts = cut ∙ ap (λ (z : List Text). done ++ z) k.parts ∙ sym (append_assoc done k.good k.bad);
      count = ap (λ (z : ℕ). length done + z) k.count ∙ sym (length-append done k.good);
      item = c.0;
      stands = c.1;
      more = k.more ++ c.2;
      begins = c.3 ∙ ap (λ (z : List Text). done ++ (z ++ c.2)) k.begins ∙ ap (λ (z : List Text). done ++ z) (append_assoc k.good k.more c.2) ∙ sym (append_assoc done k.good (k.more ++ c.2));
      stops = λ x is u t on e.
          let p = part.project x is u (k.good ++ t) (e ∙ append_assoc done k.good t) in
          k.stops p.0 p.1 p.2 t on p.3;
    }

-- its line is counted from where the whole begins
pub stuck_in : (A : Type 0) (Is : A → Type 0) (lines : A → List Text) (C : Type 0) (IsC : C → Type 0) (whole_lines : C → List Text) (done : List Text) → IsPart A Is lines C IsC whole_lines done
    → (l m : Lines) (line : ℕ) → Passed l m done → IsStuckAt A Is lines m line → IsStuckAt C IsC whole_lines l line
stuck_in A Is lines C IsC whole_lines done part l m line p k = record {
  before = length done + k.before;
  shows = let s = k.shows in let a = p.at in omega arith;
  stuck = part_stuck A Is lines C IsC whole_lines done part l.whole m.whole k.before p.whole k.stuck;
}

-- ---- one line

module _ (A : Type 0) (Is : A → Type 0) (line : A → Text) where
  line_missing : (item : A) → Is item → (whole : List Text) → whole ≡ [] → IsStuck A Is (λ x. line x ∷ []) whole 0
  line_missing item is whole none = record {
    good = [];
    bad = [];
    parts = none;
    count = refl;
    item = item;
    stands = is;
    more = line item ∷ [];
    begins = refl;
    stops = λ x k u t on e. cc (e, on);
  }

  line_other : (item : A) → Is item → (whole : List Text) (text : Text) (more : List Text) → whole ≡ text ∷ more → ((x : A) → Is x → text ≡ line x → ⊥) → IsStuck A Is (λ x. line x ∷ []) whole 0
  line_other item is whole text more cut other = record {
    good = [];
    bad = text ∷ more;
    parts = cut;
    count = refl;
    item = item;
    stands = is;
    more = line item ∷ [];
    begins = refl;
    stops = λ x k u t on e. other x k (same_head x u t on.0 e on.1);
  }
    where
      same_head : (x : A) (u t v : List Text) → line x ∷ u ≡ t → t ≡ text ∷ v → text ≡ line x
      same_head x u t v e f = cc

  -- no whole line is left
  pub line_lost : (item : A) → Is item → (l : Lines) (at : ℕ) → at ≡ l.at → l.at ≤ 4294967295 → l.whole ≡ [] → IsStuckAt A Is (λ x. line x ∷ []) l at
  line_lost item is l at here low none = record { before = 0; shows = omega arith; stuck = line_missing item is l.whole none }

  -- the next line is of no item
  pub line_wrong : (clip : A → A) (item : A) → Is item → (l m : Lines) (at : ℕ) (text : Text) → at ≡ l.at → l.at ≤ 4294967295 → l.whole ≡ text ∷ m.whole → ReadsAs Is line clip text None → IsStuckAt A Is (λ x. line x ∷ []) l at
  line_wrong clip item is l m at text here low next other = record { before = 0; shows = omega arith; stuck = line_other item is l.whole text m.whole next other }

  -- it is the line of an item
  pub line_right : (clip : A → A) (l m : Lines) (text : Text) (y : A) → (l.whole ≡ text ∷ m.whole) × (l.rest ≡ m.rest) × (m.at ≡ next l.at) → ReadsAs Is line clip text (Some y) → IsRead A A Is (λ x. line x ∷ []) clip l y m
  line_right clip l m text y t r = record {
    item = r.0;
    stands = r.1;
    passed = passed_one l m (line r.0) (t.0 ∙ ap (λ (z : Text). z ∷ m.whole) r.2) t.1 t.2;
    value = r.3;
  }

-- ---- a line that is this text

pub text_taken : (text line : Text) (l m : Lines) (b : Bool) → (l.whole ≡ line ∷ m.whole) × (l.rest ≡ m.rest) × (m.at ≡ next l.at) → b ≡ pointwise nat_eq line text → TakesText text l b m
text_taken text line l m true t e = let same : line ≡ text = (bytes_decides line text).0 (sym e) in passed_one l m text (t.0 ∙ ap (λ (z : Text). z ∷ m.whole) same) t.1 t.2
text_taken text line l m false t e = λ more f. other (line_of more f)
  where
    line_of : (more : List Text) → l.whole ≡ text ∷ more → line ≡ text
    line_of more f = same_first line text m.whole more (sym t.0 ∙ f)

    other : line ≡ text → ⊥
    other same = true≢false (sym ((bytes_decides line text).1 same) ∙ sym e)

pub no_text_left : (text : Text) (whole more : List Text) → whole ≡ [] → whole ≡ text ∷ more → ⊥
no_text_left text whole more e f = cc
