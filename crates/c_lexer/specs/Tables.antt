-- The spellings that mean something of their own: punctuation (C99 6.4.6), words (6.4.1), and the names of the library.
use Rattle.std.specs.Prelude.{Bool, List, [], ◌∷◌, codes}
use Rattle.std.specs.Str.{bytes_eq}
use Rattle.std.specs.List.{list_any}
use Rattle.rr_base.specs.Texts.{Text}
use Rattle.c_lexer.specs.declared.token.Word.{Word}
use Rattle.c_lexer.specs.declared.token.Word.TheVariants as word
use Rattle.c_lexer.specs.declared.token.Punct.{Punct}
use Rattle.c_lexer.specs.declared.token.Punct.TheVariants as punct

-- the punctuation, the longest first
abbrev pub puncts : List (Text × Punct)
puncts =
    (codes "<<=", punct.ShiftLeftAssign) ∷
    (codes ">>=", punct.ShiftRightAssign) ∷
    (codes "->", punct.Arrow) ∷
    (codes "++", punct.PlusPlus) ∷
    (codes "--", punct.MinusMinus) ∷
    (codes "<<", punct.ShiftLeft) ∷
    (codes ">>", punct.ShiftRight) ∷
    (codes "<=", punct.LessEqual) ∷
    (codes ">=", punct.GreaterEqual) ∷
    (codes "==", punct.EqualEqual) ∷
    (codes "!=", punct.NotEqual) ∷
    (codes "&&", punct.AndAnd) ∷
    (codes "||", punct.OrOr) ∷
    (codes "+=", punct.PlusAssign) ∷
    (codes "-=", punct.MinusAssign) ∷
    (codes "*=", punct.StarAssign) ∷
    (codes "/=", punct.SlashAssign) ∷
    (codes "%=", punct.PercentAssign) ∷
    (codes "&=", punct.AndAssign) ∷
    (codes "|=", punct.OrAssign) ∷
    (codes "^=", punct.CaretAssign) ∷
    (codes "(", punct.OpenParen) ∷
    (codes ")", punct.CloseParen) ∷
    (codes "[", punct.OpenBracket) ∷
    (codes "]", punct.CloseBracket) ∷
    (codes "{", punct.OpenBrace) ∷
    (codes "}", punct.CloseBrace) ∷
    (codes ";", punct.Semicolon) ∷
    (codes ",", punct.Comma) ∷
    (codes ".", punct.Dot) ∷
    (codes "&", punct.And) ∷
    (codes "*", punct.Star) ∷
    (codes "+", punct.Plus) ∷
    (codes "-", punct.Minus) ∷
    (codes "~", punct.Tilde) ∷
    (codes "!", punct.Not) ∷
    (codes "/", punct.Slash) ∷
    (codes "%", punct.Percent) ∷
    (codes "<", punct.Less) ∷
    (codes ">", punct.Greater) ∷
    (codes "^", punct.Caret) ∷
    (codes "|", punct.Or) ∷
    (codes "?", punct.Question) ∷
    (codes ":", punct.Colon) ∷
    (codes "=", punct.Assign) ∷
    []

-- the words of the language
abbrev pub words : List (Text × Word)
words =
    (codes "int", word.Int) ∷
    (codes "long", word.Long) ∷
    (codes "void", word.Void) ∷
    (codes "struct", word.Struct) ∷
    (codes "if", word.If) ∷
    (codes "else", word.Else) ∷
    (codes "while", word.While) ∷
    (codes "do", word.Do) ∷
    (codes "for", word.For) ∷
    (codes "break", word.Break) ∷
    (codes "continue", word.Continue) ∷
    (codes "return", word.Return) ∷
    (codes "sizeof", word.Sizeof) ∷
    (codes "static", word.Static) ∷
    (codes "NULL", word.Null) ∷
    (codes "pthread_t", word.PthreadT) ∷
    (codes "pthread_mutex_t", word.PthreadMutexT) ∷
    (codes "pthread_cond_t", word.PthreadCondT) ∷
    (codes "pthread_barrier_t", word.PthreadBarrierT) ∷
    (codes "pthread_rwlock_t", word.PthreadRwlockT) ∷
    (codes "PTHREAD_MUTEX_INITIALIZER", word.PthreadMutexInitializer) ∷
    (codes "PTHREAD_COND_INITIALIZER", word.PthreadCondInitializer) ∷
    (codes "PTHREAD_RWLOCK_INITIALIZER", word.PthreadRwlockInitializer) ∷
    []

-- the words that stand for a blank
abbrev pub blank_words : List Text
blank_words = codes "const" ∷ codes "volatile" ∷ []

-- the words of C that the profile refuses
abbrev pub refused_words : List Text
refused_words =
    codes "char" ∷ codes "short" ∷ codes "unsigned" ∷ codes "signed" ∷ codes "float" ∷ codes "double" ∷
    codes "union" ∷ codes "enum" ∷ codes "typedef" ∷ codes "switch" ∷ codes "case" ∷ codes "default" ∷
    codes "goto" ∷ codes "auto" ∷ codes "register" ∷ codes "extern" ∷ codes "inline" ∷ codes "restrict" ∷ []

-- the calls and constants of the library
abbrev pub library_names : List Text
library_names =
    codes "pthread_create" ∷ codes "pthread_join" ∷ codes "pthread_exit" ∷ codes "pthread_self" ∷
    codes "pthread_equal" ∷
    codes "pthread_mutex_init" ∷ codes "pthread_mutex_lock" ∷ codes "pthread_mutex_unlock" ∷
    codes "pthread_mutex_trylock" ∷ codes "pthread_mutex_destroy" ∷
    codes "pthread_cond_init" ∷ codes "pthread_cond_wait" ∷ codes "pthread_cond_signal" ∷
    codes "pthread_cond_broadcast" ∷ codes "pthread_cond_destroy" ∷
    codes "pthread_barrier_init" ∷ codes "pthread_barrier_wait" ∷ codes "pthread_barrier_destroy" ∷
    codes "pthread_rwlock_init" ∷ codes "pthread_rwlock_rdlock" ∷ codes "pthread_rwlock_wrlock" ∷
    codes "pthread_rwlock_unlock" ∷ codes "pthread_rwlock_destroy" ∷
    codes "malloc" ∷ codes "free" ∷ codes "getchar" ∷ codes "printf" ∷ codes "putchar" ∷ codes "puts" ∷
    codes "EOF" ∷ codes "EBUSY" ∷ codes "EAGAIN" ∷ codes "PTHREAD_BARRIER_SERIAL_THREAD" ∷
    codes "EXIT_SUCCESS" ∷ codes "EXIT_FAILURE" ∷ []

-- the headers, as a directive names them
abbrev pub headers : List Text
headers = codes "<pthread.h>" ∷ codes "<stdio.h>" ∷ codes "<stdlib.h>" ∷ codes "<errno.h>" ∷ []

-- whether the list has this spelling
abbrev pub is_among : List Text → Text → Bool
is_among spellings text = list_any (λ s. bytes_eq s text) spellings

-- whether the name is one of the library's
unfoldable pub is_library_name : Text → Bool
is_library_name = is_among library_names
