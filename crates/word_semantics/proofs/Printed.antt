-- What a format still prints in the midst of it.
use Rattle.std.proofs.Common.{◌≡◌, ℕ, zero, suc, ◌+◌, ◌<◌, List, [], ◌∷◌, ◌++◌, length, drop, get_or, Option, slice_get, refl, sym, ◌∙◌, ap, add-one, arith, append_assoc, length-append, if◌then◌else◌}
use Rattle.std.proofs.Math.Seq.{drop-cons}
use Rattle.word_semantics.specs.declared.library_call.Piece.{Piece}
use Rattle.word_semantics.specs.declared.library_call.Piece.TheVariants as piece
use Rattle.word_semantics.specs.Library.{text_of, takes_argument, printed_piece}

-- what is still to be printed at a piece, where an argument is next
abbrev pub still_printed : List Piece → List ℕ → ℕ → ℕ → List ℕ
still_printed format words at next = printed_piece (drop at format) (drop next words)

first_printed : (p : Piece) (ps : List Piece) (words : List ℕ) (next : ℕ) → printed_piece (p ∷ ps) (drop next words) ≡ text_of p (slice_get words next) ++ printed_piece ps (drop (if takes_argument p then suc next else next) words)
first_printed (piece.Byte b) ps words next = refl
first_printed piece.Number ps [] zero = refl
first_printed piece.Number ps (w ∷ words) zero = refl
first_printed piece.Number ps [] (suc n) = refl
first_printed piece.Number ps (w ∷ words) (suc n) = first_printed piece.Number ps words n
first_printed piece.Letter ps [] zero = refl
first_printed piece.Letter ps (w ∷ words) zero = refl
first_printed piece.Letter ps [] (suc n) = refl
first_printed piece.Letter ps (w ∷ words) (suc n) = first_printed piece.Letter ps words n

-- one piece more is printed
one_printed : (format : List Piece) (words : List ℕ) (at next following : ℕ) (d : Piece) (o : Option ℕ)
    → at < length format → o ≡ slice_get words next
    → following ≡ (if takes_argument (get_or format at d) then next + 1 else next)
    → still_printed format words at next ≡ text_of (get_or format at d) o ++ still_printed format words (at + 1) following
one_printed format words at next following d o h e n =
    let p : Piece = get_or format at d in
    let ps : List Piece = drop (at + 1) format in
    let here : drop at format ≡ p ∷ ps = rw add-one (drop-cons format at d h) in
    let onward : drop (if takes_argument p then suc next else next) words ≡ drop following words =
    ap (λ m. drop (if takes_argument p then m else next) words) (sym (add-one next)) ∙ ap (λ m. drop m words) (sym n) in
    ap (λ qs. printed_piece qs (drop next words)) here
    ∙ first_printed p ps words next
    ∙ ap (λ v. text_of p v ++ printed_piece ps (drop (if takes_argument p then suc next else next) words)) (sym e)
    ∙ ap (λ ws. text_of p o ++ printed_piece ps ws) onward

-- what was printed and what is still printed stay the same together: how many bytes, and which

pub length_step : (format : List Piece) (words : List ℕ) (at next following : ℕ) (d : Piece) (o : Option ℕ) (n m all : ℕ)
    → at < length format → o ≡ slice_get words next
    → following ≡ (if takes_argument (get_or format at d) then next + 1 else next)
    → m ≡ length (text_of (get_or format at d) o)
    → n + length (still_printed format words at next) ≡ all
    → n + m + length (still_printed format words (at + 1) following) ≡ all
length_step format words at next following d o n m all h e b t given =
    let one = ap length (one_printed format words at next following d o h e b) in
    omega (arith, one, length-append (text_of (get_or format at d) o) (still_printed format words (at + 1) following))

pub text_step : (format : List Piece) (words : List ℕ) (at next following : ℕ) (d : Piece) (o : Option ℕ) (out more all : List ℕ)
    → at < length format → o ≡ slice_get words next
    → following ≡ (if takes_argument (get_or format at d) then next + 1 else next)
    → more ≡ out ++ text_of (get_or format at d) o
    → out ++ still_printed format words at next ≡ all
    → more ++ still_printed format words (at + 1) following ≡ all
text_step format words at next following d o out more all h e b t given =
    ap (λ v. v ++ still_printed format words (at + 1) following) t
    ∙ append_assoc out (text_of (get_or format at d) o) (still_printed format words (at + 1) following)
    ∙ ap (λ v. out ++ v) (sym (one_printed format words at next following d o h e b))
    ∙ given
