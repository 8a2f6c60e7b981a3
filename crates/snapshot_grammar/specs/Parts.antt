-- Reading a part of a text, line by line: what comes of it.
use Rattle.std.specs.Prelude.{◌≡◌, ℕ, ◌+◌, Bool, true, false, List, [], ◌∷◌, ◌++◌, length, Option, Some, None, Result, Ok, Err}
use Rattle.std.specs.Borrow.{Bor}
use Rattle.std.specs.List.{AllByRecursion}
use Rattle.profiles.specs.Profile.{Text}
use Rattle.order_log.specs.Reading.{shown}
use Rattle.order_log.specs.Recogniser.{Lines, lines_in, next}
use Rattle.snapshot_grammar.specs.declared.fault.DraftFault.{DraftFault}
use Rattle.snapshot_grammar.specs.declared.fault.DraftFault.TheVariants.{Syntax, OutOfMemory}
use Rattle.snapshot_grammar.specs.declared.reader.Reader.{Reader}

-- the lines that a reader has left
abbrev pub left : Reader → Lines
left r = lines_in r.line r.bytes.now

-- the next whole line is taken, or there is none
abbrev pub TakesLine : Lines → Option (Bor Text) → Lines → Type 0
TakesLine l None m = l.whole ≡ []
TakesLine l (Some line) m = (l.whole ≡ line.now ∷ m.whole) × (l.rest ≡ m.rest) × (m.at ≡ next l.at)

-- these lines stood before those that are left now
pub record Passed (l m : Lines) (lines : List Text) : Type 0 where
  pub whole : l.whole ≡ lines ++ m.whole
  pub rest : l.rest ≡ m.rest
  pub at : m.at ≡ shown (l.at + length lines)

-- the next line is this text and is taken, or it isn't
abbrev pub TakesText : Text → Lines → Bool → Lines → Type 0
TakesText text l true m = Passed l m (text ∷ [])
TakesText text l false m = (more : List Text) → l.whole ≡ text ∷ more → ⊥

-- these lines begin with the first of those, or there are none of either
abbrev pub GoesOnAs : List Text → List Text → Type 0
GoesOnAs [] t = t ≡ []
GoesOnAs (b ∷ bs) t = (more : List Text) × (t ≡ b ∷ more)

-- so many lines begin those of an item, but no item's lines agree with these and with what follows them
pub record IsStuck (A : Type 0) (Is : A → Type 0) (lines : A → List Text) (whole : List Text) (before : ℕ) : Type 0 where
  pub good : List Text
  pub bad : List Text
  pub parts : whole ≡ good ++ bad
  pub count : before ≡ length good
  pub item : A
  pub stands : Is item
  pub more : List Text
  pub begins : lines item ≡ good ++ more
  pub stops : (x : A) → Is x → (u t : List Text) → GoesOnAs bad t → lines x ++ u ≡ good ++ t → ⊥

-- the first lines that were left are those of an item, which is answered as the view has it
pub record IsRead (A B : Type 0) (Is : A → Type 0) (lines : A → List Text) (view : A → B) (l : Lines) (y : B) (m : Lines) : Type 0 where
  pub item : A
  pub stands : Is item
  pub passed : Passed l m (lines item)
  pub value : y ≡ view item

-- the line at fault is the first that spoils the lines that were left
pub record IsStuckAt (A : Type 0) (Is : A → Type 0) (lines : A → List Text) (l : Lines) (line : ℕ) : Type 0 where
  pub before : ℕ
  pub shows : line ≡ shown (l.at + before)
  pub stuck : IsStuck A Is lines l.whole before

-- what comes of reading an item
abbrev pub Reads : {A B : Type 0} → (A → Type 0) → (A → List Text) → (A → B) → Lines → Result B DraftFault → Lines → Type 0
Reads {A} {B} Is lines view l (Ok y) m = IsRead A B Is lines view l y m
Reads {A} {B} Is lines view l (Err (Syntax line)) m = IsStuckAt A Is lines l line
Reads {A} {B} Is lines view l (Err OutOfMemory) m = Unit {0}

-- so many items, each of which stands
pub record AreMany (A : Type 0) (Is : A → Type 0) (n : ℕ) (xs : List A) : Type 0 where
  pub count : length xs ≡ n
  pub all : AllByRecursion Is xs
