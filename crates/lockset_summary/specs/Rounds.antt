-- Rounds that change a state, until one changes nothing.
use Rattle.std.specs.Prelude.{◌≡◌, ℕ, ◌+◌, ◌-◌, ◌<◌, ◌^◌, Bool, true, false, List, [], ◌∷◌, length, Some, slice_get}

-- how far the state can still fall, before and after
abbrev pub Falls : Bool → ℕ → ℕ → Type 0
Falls true before after = after < before
Falls false before after = after ≡ before

-- A part of a round: a sound state stays sound, and where nothing has changed, Met holds.
pub record Changes (S : Type 0) (room : S → ℕ) (Sound Met : S → Type 0) (old new : S) (changed : Bool) : Type 0 where
  pub sound : Sound old → Sound new
  pub met : changed ≡ false → (new ≡ old) × Met new
  pub falls : Falls changed (room old) (room new)

-- a fact of each item of a list that is read from the state, of the first k, and of the k-th
abbrev pub ForEach : (S X : Type 0) → (S → List X) → (ℕ → X → S → Type 0) → S → Type 0
ForEach S X read P s = (j : ℕ) (x : X) → slice_get (read s) j ≡ Some x → P j x s

-- what a loop has come to before its k-th item
abbrev pub ForFirst : (S X : Type 0) → (S → List X) → (ℕ → X → S → Type 0) → ℕ → S → Type 0
ForFirst S X read P k s = (j : ℕ) (x : X) → j < k → slice_get (read s) j ≡ Some x → P j x s

-- what one turn of the loop adds; nothing past the end
abbrev pub ForThe : (S X : Type 0) → (S → List X) → (ℕ → X → S → Type 0) → ℕ → S → Type 0
ForThe S X read P k s = (x : X) → slice_get (read s) k ≡ Some x → P k x s

-- how much rows can still grow
abbrev pub room : (X : Type 0) → List (List X) → ℕ
room X [] = 0
room X (row ∷ rows) = (2 ^ 64 - length row) + room X rows
