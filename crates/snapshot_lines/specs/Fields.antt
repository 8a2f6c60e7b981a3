-- The fields of a line, with one blank between two, and what it is to take one off the front.
use Rattle.std.specs.Prelude.{◌≡◌, ℕ, ◌<◌, ◌^◌, min, ◌==◌, Bool, true, false, if◌then◌else◌, List, [], ◌∷◌, Option, Some, None}
use Rattle.std.specs.Borrow.{Bor}
use Rattle.profiles.specs.Profile.{Text}
use Rattle.order_log.specs.Reading.{onto_first}
use Rattle.order_log.specs.Text.{number_text}
use Rattle.reads_text.specs.Text.{value_text}

-- a blank parts two fields
abbrev pub fields_of : Text → List Text
fields_of [] = [] ∷ []
fields_of (b ∷ bs) = if b == 32 then [] ∷ fields_of bs else onto_first b (fields_of bs)

-- the fields of what is left of a line, if anything is
abbrev pub fields_left : Option (Bor Text) → List Text
fields_left None = []
fields_left (Some text) = fields_of text.now

-- the first field, or none is left
abbrev pub Takes : List Text → Option (Bor Text) → List Text → Type 0
Takes before None after = before ≡ []
Takes before (Some field) after = before ≡ field.now ∷ after

-- the first field is this word, or isn't
abbrev pub TakesWord : Text → List Text → Bool → List Text → Type 0
TakesWord word before true after = before ≡ word ∷ after
TakesWord word before false after = (rest : List Text) → before ≡ word ∷ rest → ⊥

-- the first field is a number, of which the greatest stands for all from there on; or it is none
abbrev pub TakesNumber : ℕ → List Text → Option ℕ → List Text → Type 0
TakesNumber most before None after = (n : ℕ) (rest : List Text) → before ≡ number_text n ∷ rest → ⊥
TakesNumber most before (Some m) after = (n : ℕ) × (m ≡ min n most) × (before ≡ number_text n ∷ after)

-- the first three fields are numbers, of which the greatest stands for all from there on; or they are none
abbrev pub TakesThree : ℕ → List Text → Option (ℕ × ℕ × ℕ) → List Text → Type 0
TakesThree most before None after = (a b c : ℕ) (rest : List Text) → before ≡ number_text a ∷ number_text b ∷ number_text c ∷ rest → ⊥
TakesThree most before (Some x) after =
    (a : ℕ) × (b : ℕ) × (c : ℕ) × (x.0 ≡ min a most) × (x.1 ≡ min b most) × (x.2 ≡ min c most) × (before ≡ number_text a ∷ number_text b ∷ number_text c ∷ after)

-- the first field is a word of 64 bits as a signed number, or it is none
abbrev pub TakesValue : List Text → Option ℕ → List Text → Type 0
TakesValue before None after = (w : ℕ) (rest : List Text) → w < 2 ^ 64 → before ≡ value_text w ∷ rest → ⊥
TakesValue before (Some w) after = (w < 2 ^ 64) × (before ≡ value_text w ∷ after)

-- what a field is as a signed word, or that it is none
abbrev pub IsValue : Text → Option ℕ → Type 0
IsValue field None = (w : ℕ) → w < 2 ^ 64 → field ≡ value_text w → ⊥
IsValue field (Some w) = (w < 2 ^ 64) × (field ≡ value_text w)
