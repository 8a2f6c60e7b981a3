-- Comments (C99 6.4.9): each stands for a blank.
use Rattle.std.specs.Prelude.{ℕ, suc, ◌+◌, ◌&&◌, if◌then◌else◌, ◌==◌, [], ◌∷◌, drop, slice_index, Option, Some, None, option_map}
use Rattle.rr_base.specs.Texts.{Text}
use Rattle.c_lexer.specs.declared.fault.Fault.TheVariants.{OpenComment}
use Rattle.c_lexer.specs.declared.piece.Piece.{Piece}
use Rattle.c_lexer.specs.declared.piece.Piece.TheVariants as piece

-- how many bytes there are up to the first `*/` and with it
abbrev pub comment_end : Text → Option ℕ
comment_end [] = None
comment_end (b ∷ bs) = if b == 42 && slice_index bs 0 == 47 then Some 2 else option_map suc (comment_end bs)

-- where the comment ends, counted from after its `/*`; none is a fault
abbrev pub comment_by : Option ℕ → Piece
comment_by None = piece.Fault OpenComment 0
comment_by (Some n) = piece.Blank (n + 2)

-- a text that begins with `/*`
unfoldable pub comment_at : Text → Piece
comment_at text = comment_by (comment_end (drop 2 text))
