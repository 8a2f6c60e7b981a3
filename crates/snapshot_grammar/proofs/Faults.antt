-- The fault of a whole text.
use Rattle.std.proofs.Common.{◌≡◌, ℕ, suc, ◌+◌, ◌≤◌, ◌<◌, ◌⊎◌, inl, inr, List, [], ◌∷◌, ◌++◌, length, take, Result, Ok, Err, refl, sym, ap, subst, ◌∙◌, arith, append_assoc, length-append}
use Rattle.std.proofs.lemmas.List.{append-nil, take-append-le, take_all}
use Rattle.profiles.specs.Profile.{Text}
use Rattle.order_log.specs.Reading.{lines_of, shown}
use Rattle.order_log.specs.Recogniser.{Lines, lines_in, unfinished_of}
use Rattle.order_log.specs.Text.{text_of}
use Rattle.order_log.proofs.Cutting.{AreLines, lines_of-text_of, text_of-lines_of, unfinished_of-text_of}
use Rattle.snapshots.specs.Conditions.{IsForm}
use Rattle.snapshots.specs.Text.{draft_lines, draft_text}
use Rattle.snapshots.specs.declared.draft.Draft.{Draft}
use Rattle.snapshot_lines.proofs.Newlines.{draft_are_lines}
use Rattle.snapshot_grammar.specs.Drafts.{DraftIs, clipped_draft}
use Rattle.snapshot_grammar.specs.Grammar.{BeginCheckpoint, IsCheckpoint, IsSyntaxFault}
use Rattle.snapshot_grammar.specs.Parts.{GoesOnAs, IsRead, IsStuck, IsStuckAt, Reads}
use Rattle.snapshot_grammar.specs.declared.fault.DraftFault.{DraftFault}
use Rattle.snapshot_grammar.specs.declared.fault.DraftFault.TheVariants.{Syntax, OutOfMemory}
use Rattle.snapshot_grammar.proofs.Whole.{draft_delimits}

take_front : (xs ys : List Text) → take (length xs) (xs ++ ys) ≡ xs
take_front [] ys = refl
take_front (x ∷ xs) ys = ap (λ (z : List Text). x ∷ z) (take_front xs ys)

take_next : (xs : List Text) (y : Text) (ys : List Text) → take (suc (length xs)) (xs ++ y ∷ ys) ≡ xs ++ y ∷ []
take_next [] y ys = refl
take_next (x ∷ xs) y ys = ap (λ (z : List Text). x ∷ z) (take_next xs y ys)

-- the lines and what stands after them are those of the text
pub text_lines : (slots : ℕ) (bytes : Text) (d : Draft) → IsForm slots d → bytes ≡ draft_text d → (lines_of bytes ≡ draft_lines d) × (unfinished_of bytes ≡ [])
text_lines slots bytes d k e =
    let lines = draft_are_lines slots d k in
    let whole : bytes ≡ text_of (draft_lines d) ++ [] = e ∙ sym (append-nil (text_of (draft_lines d))) in
    (ap lines_of whole ∙ lines_of-text_of (draft_lines d) [] lines ∙ append-nil (draft_lines d), ap unfinished_of whole ∙ unfinished_of-text_of (draft_lines d) [] lines)

pub empty_of : (xs : Text) → length xs ≡ 0 → xs ≡ []
empty_of [] e = refl
empty_of (x ∷ xs) e = absurd (omega arith)

pub some_of : (xs : Text) → 0 < length xs → xs ≡ [] → ⊥
some_of xs lt e = let f = ap length e in omega arith

module _ (slots : ℕ) (bytes : Text) where
  abbrev all : List Text
  all = lines_of bytes

  begins_so : (good bad more : List Text) (d : Draft) → all ≡ good ++ bad → IsForm slots d → draft_lines d ≡ good ++ more → BeginCheckpoint slots (take (length good) all)
  begins_so good bad more d cut k e = record { draft = d; form = k; more = more; begins = e ∙ ap (λ (z : List Text). z ++ more) (sym (ap (take (length good)) cut ∙ take_front good bad)) }

  spoils_so : (good bad : List Text) → all ≡ good ++ bad → ((d : Draft) → IsForm slots d → (b : Text) (bs more : List Text) → bad ≡ b ∷ bs → draft_lines d ≡ good ++ b ∷ more → ⊥) → (bad ≡ [] → ¬ IsCheckpoint slots bytes)
      → ((length good < length all) × ¬ BeginCheckpoint slots (take (suc (length good)) all)) ⊎ ((length good ≡ length all) × ¬ IsCheckpoint slots bytes)
  spoils_so good [] cut stops other = inr (let e = ap length cut in let f = length-append good [] in omega arith, other refl)
  spoils_so good (b ∷ bs) cut stops other = inl (
    let e = ap length cut in let f = length-append good (b ∷ bs) in omega arith,
    λ h. let next : take (suc (length good)) all ≡ good ++ b ∷ [] = ap (take (suc (length good))) cut ∙ take_next good b bs in
        stops h.draft h.form b bs h.more refl (h.begins ∙ ap (λ (z : List Text). z ++ h.more) next ∙ append_assoc good (b ∷ []) h.more),
  )

  no_text : (good : List Text) → all ≡ good ++ [] → ((d : Draft) → IsForm slots d → (u t : List Text) → GoesOnAs [] t → draft_lines d ++ u ≡ good ++ t → ⊥) → ¬ IsCheckpoint slots bytes
  no_text good cut stops h = stops h.draft h.form [] [] refl (append-nil (draft_lines h.draft) ∙ sym (text_lines slots bytes h.draft h.form h.text).0 ∙ cut)

  -- a draft whose lines come to nowhere
  stuck_fault : (before : ℕ) → IsStuck Draft (IsForm slots) draft_lines all before → IsSyntaxFault slots bytes before
  stuck_fault before k = subst (IsSyntaxFault slots bytes) (sym k.count) (record {
    begins = begins_so k.good k.bad k.more k.item k.parts k.stands k.begins;
    spoils = spoils_so k.good k.bad k.parts (λ d f b bs more is e. k.stops d f [] (b ∷ more) (subst (λ (z : List Text). GoesOnAs z (b ∷ more)) (sym is) (more, refl)) (append-nil (draft_lines d) ∙ e)) (λ none. no_text k.good (k.parts ∙ ap (λ (z : List Text). k.good ++ z) none) (λ d f u t on e. k.stops d f u t (subst (λ (z : List Text). GoesOnAs z t) (sym none) on) e));
  })

  pub fault_reads : (m : Lines) (e : DraftFault) → Reads {A = Draft} {B = Draft} (IsForm slots) draft_lines clipped_draft (lines_in 1 bytes) (Err e) m → DraftIs slots bytes (Err e)
  fault_reads m (Syntax line) s = (s.before, let a = s.shows in omega arith, stuck_fault s.before s.stuck)
  fault_reads m OutOfMemory s = tt

  -- nothing is left
  pub draft_is : (m : Lines) (y : Draft) → IsRead Draft Draft (IsForm slots) draft_lines clipped_draft (lines_in 1 bytes) y m → m.whole ≡ [] → m.rest ≡ [] → DraftIs slots bytes (Ok y)
  draft_is m y r none over = (
    r.item,
    r.stands,
    text_of-lines_of bytes ∙ (λ i. text_of ((r.passed.whole ∙ ap (λ (z : List Text). draft_lines r.item ++ z) none ∙ append-nil (draft_lines r.item)) i) ++ (r.passed.rest ∙ over) i) ∙ append-nil (draft_text r.item),
    r.value,
  )

  -- something is left
  pub more_left : (at : ℕ) (left : Text) (y : Draft) (line : ℕ) → IsRead Draft Draft (IsForm slots) draft_lines clipped_draft (lines_in 1 bytes) y (lines_in at left) → (left ≡ [] → ⊥) → line ≡ at → DraftIs slots bytes (Err (Syntax line))
  more_left at left y line r some here =
      let d = r.item in
      let good = draft_lines d in (
        length good,
        let a = r.passed.at in omega arith,
        record {
          begins = begins_so good (lines_of left) [] d r.passed.whole r.stands (sym (append-nil good));
          spoils =
              spoils_so good (lines_of left) r.passed.whole (λ x k b bs more is e. nothing b more (draft_delimits slots x d k r.stands [] (b ∷ more) (append-nil (draft_lines x) ∙ e)))
              (λ none h. some (text_of-lines_of left ∙ (λ i. text_of (none i) ++ (sym r.passed.rest ∙ (text_lines slots bytes h.draft h.form h.text).1) i)));
        },
      )
    where
      nothing : (b : Text) (more : List Text) → [] ≡ b ∷ more → ⊥
      nothing b more e = cc
