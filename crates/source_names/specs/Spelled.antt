-- The names of a source's functions are texts.
use Rattle.std.specs.Prelude.{◌≡◌, List, Ok, Err}
use Rattle.std.specs.List.{AllByRecursion}
use Rattle.std.specs.Str.{IsUtf8}
use Rattle.rr_base.specs.Texts.{Text}
use Rattle.c_lexer.specs.Tokens.{Found}
use Rattle.c_lexer.specs.declared.token.Kind.{Kind}
use Rattle.c_lexer.specs.declared.token.Kind.TheVariants as kind
use Rattle.c_lexer.specs.declared.token.Token.{Token}
use Rattle.c_tree.specs.Tree.{Outer}
use Rattle.flow_code.specs.declared.code.Code.{Code}
use Rattle.flow_code.specs.declared.code.Function.{Function}
use Rattle.front.specs.Plain.{plain_code}
use Rattle.front.specs.Readings.{sound, IsReading}
use Rattle.lock_sound.specs.Weakened.{Analysed, IsAnalysed}

-- each function's name is a text in UTF-8
abbrev pub HaveTexts : Code → Type 0
HaveTexts code = AllByRecursion (λ (f : Function). IsUtf8 f.name) code.functions

-- those of the code of a source with its weak locks are
abbrev pub NamesAreTexts : Type 0
NamesAreTexts = (text : Text) (os : List Outer) (a : Analysed) → IsReading text (sound os) → IsAnalysed a → a.plain ≡ plain_code os → HaveTexts a.weak

-- ---- for proofs

-- where the token is a name, it is a text
abbrev pub IsSpelled : Kind → Type 0
IsSpelled (kind.Name name) = IsUtf8 name
IsSpelled _ = Unit {0}

-- a text without tokens has no names
abbrev pub AreSpelled : Found → Type 0
AreSpelled (Ok ts) = AllByRecursion (λ (t : Token). IsSpelled t.kind) ts
AreSpelled (Err f) = Unit {0}
