-- Names and words (C99 6.4.1, 6.4.2).
use Rattle.std.specs.Prelude.{Bool, not, ◌&&◌, if◌then◌else◌, take, Option, Some, None, is_some, ℤ}
use Rattle.std.specs.List.{prefix_len}
use Rattle.rr_base.specs.Texts.{Text, entry_of}
use Rattle.c_lexer.specs.Bytes.{continues_name}
use Rattle.c_lexer.specs.Defined.{Defined}
use Rattle.c_lexer.specs.Tables.{words, blank_words, refused_words, is_among, is_library_name}
use Rattle.c_lexer.specs.declared.piece.Piece.{Piece}
use Rattle.c_lexer.specs.declared.piece.Piece.TheVariants as piece
use Rattle.c_lexer.specs.declared.token.Kind.{Kind}
use Rattle.c_lexer.specs.declared.token.Kind.TheVariants as kind
use Rattle.c_lexer.specs.declared.token.Word.{Word}

-- the word of the language that is spelled so
unfoldable pub word_of : Text → Option Word
word_of = entry_of words

-- a word of C that the profile refuses, such as `goto`
unfoldable pub is_refused : Text → Bool
is_refused = is_among refused_words

-- `const` or `volatile`, which stand for a blank
unfoldable pub is_blank_word : Text → Bool
is_blank_word = is_among blank_words

-- the name may be given a value: it is no word, no name of the library, and has no value yet
abbrev pub is_free : Defined → Text → Bool
is_free defined name =
    not (is_some (word_of name)) && not (is_blank_word name) && not (is_refused name) && not (is_library_name name)
    && not (is_some (entry_of defined name))

-- a name to which a `#define` gave a value is that number
abbrev pub name_by : Option ℤ → Text → Kind
name_by None name = kind.Name name
name_by (Some v) name = kind.Number v

-- words come first, then refused ones, then what `#define` made
abbrev pub word_by : Option Word → Defined → Text → Kind
word_by (Some w) defined name = kind.Word w
word_by None defined name = if is_refused name then kind.Refused name else name_by (entry_of defined name) name

-- what a name is, as a token
unfoldable pub kind_of : Defined → Text → Kind
kind_of defined name = word_by (word_of name) defined name

-- a text that begins with a letter or `_`
unfoldable pub name_at : Defined → Text → Piece
name_at defined text =
    let len = prefix_len continues_name text in
    if is_blank_word (take len text) then piece.Blank len else piece.Token (kind_of defined (take len text)) len
