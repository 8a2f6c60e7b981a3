-- A text cut into its lines, and put together again.
use Rattle.std.proofs.Common.{◌≡◌, ℕ, Bool, true, false, cond, eqb, List, [], ◌∷◌, ◌++◌, Some, None, Ok, Err, refl, sym, ap, ◌∙◌, append_assoc}
use Rattle.std.specs.List.{AllByRecursion}
use Rattle.std.proofs.lemmas.Bool.{eqb-true, cond-false}
use Rattle.profiles.specs.Profile.{Text}
use Rattle.order_log.specs.Text.{text_of}
use Rattle.order_log.specs.Reading.{onto_first, lines_of}
use Rattle.order_log.specs.Line.{cut}
use Rattle.order_log.specs.Recogniser.{kept, unfinished_of, lines_in, next, first_of, next_line}
use Rattle.order_log.specs.declared.fault.LogFault.TheVariants.{LogSyntax}
use Rattle.order_log.proofs.Parts.{Free, cut_is, cut_free}

-- lines without a newline in them
abbrev pub AreLines : List Text → Type 0
AreLines lines = AllByRecursion (Free 10) lines

pub lines_of_line : (line rest : Text) → Free 10 line → lines_of (line ++ 10 ∷ rest) ≡ line ∷ lines_of rest
lines_of_line [] rest h = refl
lines_of_line (b ∷ bs) rest h = cond-false (eqb b 10) _ _ h.0 ∙ ap (onto_first b) (lines_of_line bs rest h.1)

pub lines_of_none : (bytes : Text) → Free 10 bytes → lines_of bytes ≡ []
lines_of_none [] h = refl
lines_of_none (b ∷ bs) h = cond-false (eqb b 10) _ _ h.0 ∙ ap (onto_first b) (lines_of_none bs h.1)

kept_some : (b : ℕ) (line : Text) (lines : List Text) (bs rest : Text) (ls : List Text) → ls ≡ line ∷ lines → kept b ls bs rest ≡ rest
kept_some b line lines bs rest ls e = ap (λ (k : List Text). kept b k bs rest) e

kept_none : (b : ℕ) (bs rest : Text) (ls : List Text) → ls ≡ [] → kept b ls bs rest ≡ b ∷ bs
kept_none b bs rest ls e = ap (λ (k : List Text). kept b k bs rest) e

pub unfinished_of_line : (line rest : Text) → Free 10 line → unfinished_of (line ++ 10 ∷ rest) ≡ unfinished_of rest
unfinished_of_line [] rest h = refl
unfinished_of_line (b ∷ bs) rest h =
    cond-false (eqb b 10) _ _ h.0 ∙ kept_some b bs (lines_of rest) (bs ++ 10 ∷ rest) (unfinished_of (bs ++ 10 ∷ rest)) (lines_of (bs ++ 10 ∷ rest)) (lines_of_line bs rest h.1)
    ∙ unfinished_of_line bs rest h.1

pub unfinished_of_none : (bytes : Text) → Free 10 bytes → unfinished_of bytes ≡ bytes
unfinished_of_none [] h = refl
unfinished_of_none (b ∷ bs) h = cond-false (eqb b 10) _ _ h.0 ∙ kept_none b bs (unfinished_of bs) (lines_of bs) (lines_of_none bs h.1)

-- ---- lines that are put together are found again

pub lines_of-text_of : (lines : List Text) (more : Text) → AreLines lines → lines_of (text_of lines ++ more) ≡ lines ++ lines_of more
lines_of-text_of [] more h = refl
lines_of-text_of (line ∷ lines) more h =
    ap lines_of (append_assoc (line ++ 10 ∷ []) (text_of lines) more ∙ append_assoc line (10 ∷ []) (text_of lines ++ more)) ∙ lines_of_line line (text_of lines ++ more) h.0
    ∙ ap (λ (ls : List Text). line ∷ ls) (lines_of-text_of lines more h.1)

pub unfinished_of-text_of : (lines : List Text) (more : Text) → AreLines lines → unfinished_of (text_of lines ++ more) ≡ unfinished_of more
unfinished_of-text_of [] more h = refl
unfinished_of-text_of (line ∷ lines) more h =
    ap unfinished_of (append_assoc (line ++ 10 ∷ []) (text_of lines) more ∙ append_assoc line (10 ∷ []) (text_of lines ++ more)) ∙ unfinished_of_line line (text_of lines ++ more) h.0
    ∙ unfinished_of-text_of lines more h.1

-- ---- the lines of a text are lines, and with the rest they are the text

onto_lines : (b : ℕ) (lines : List Text) → eqb b 10 ≡ false → AreLines lines → AreLines (onto_first b lines)
onto_lines b [] other h = tt
onto_lines b (line ∷ lines) other h = ((other, h.0), h.1)

pub AreLines-lines_of : (bytes : Text) → AreLines (lines_of bytes)
AreLines-lines_of [] = tt
AreLines-lines_of (b ∷ bs) = by (eqb b 10) refl (AreLines-lines_of bs)
  where
    by : (t : Bool) → eqb b 10 ≡ t → AreLines (lines_of bs) → AreLines (cond t ([] ∷ lines_of bs) (onto_first b (lines_of bs)))
    by true is h = (tt, h)
    by false is h = onto_lines b (lines_of bs) is h

onto_text : (b : ℕ) (bs rest : Text) (lines : List Text) → bs ≡ text_of lines ++ rest → (lines ≡ [] → rest ≡ bs) → b ∷ bs ≡ text_of (onto_first b lines) ++ kept b lines bs rest
onto_text b bs rest [] e none = refl
onto_text b bs rest (line ∷ lines) e none = ap (λ (t : Text). b ∷ t) e

none_kept : (bs : Text) → bs ≡ text_of (lines_of bs) ++ unfinished_of bs → lines_of bs ≡ [] → unfinished_of bs ≡ bs
none_kept bs e none = let nothing : text_of (lines_of bs) ≡ [] = ap text_of none in sym (e ∙ ap (λ (t : Text). t ++ unfinished_of bs) nothing)

pub text_of-lines_of : (bytes : Text) → bytes ≡ text_of (lines_of bytes) ++ unfinished_of bytes
text_of-lines_of [] = refl
text_of-lines_of (b ∷ bs) = by (eqb b 10) refl (text_of-lines_of bs)
  where
    by : (t : Bool) → eqb b 10 ≡ t → bs ≡ text_of (lines_of bs) ++ unfinished_of bs
        → b ∷ bs ≡ text_of (cond t ([] ∷ lines_of bs) (onto_first b (lines_of bs))) ++ cond t (unfinished_of bs) (kept b (lines_of bs) bs (unfinished_of bs))
    by true is e = let head : b ≡ 10 = eqb-true b 10 is in λ i. head i ∷ e i
    by false is e = onto_text b bs (unfinished_of bs) (lines_of bs) e (none_kept bs e)

-- ---- the next line

-- what a cut at a newline tells
pub record NextLine (bytes line rest : Text) : Type 0 where
  pub lines : lines_of bytes ≡ line ∷ lines_of rest
  pub unfinished : unfinished_of bytes ≡ unfinished_of rest

pub next_some : (bytes line rest : Text) → cut 10 bytes ≡ Some (line, rest) → NextLine bytes line rest
next_some bytes line rest e =
    let c = cut_is 10 bytes (line, rest) e in
    record { lines = ap lines_of c.text ∙ lines_of_line line rest c.free; unfinished = ap unfinished_of c.text ∙ unfinished_of_line line rest c.free }

pub next_line_none : (at : ℕ) (bytes : Text) → cut 10 bytes ≡ None → next_line (lines_in at bytes) ≡ Err (LogSyntax at)
next_line_none at bytes e = ap (λ (ls : List Text). first_of at ls (unfinished_of bytes)) (lines_of_none bytes (cut_free 10 bytes e))

pub next_line_some : (at more : ℕ) (bytes line rest : Text) → Some (line, rest) ≡ cut 10 bytes → more ≡ next at → next_line (lines_in at bytes) ≡ Ok (line, lines_in more rest)
next_line_some at more bytes line rest e step =
    let n = next_some bytes line rest (sym e) in
    (λ i. first_of at (n.lines i) (n.unfinished i)) ∙ (λ i. Ok (line, lines_in (sym step i) rest))
