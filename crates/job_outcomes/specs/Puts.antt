-- Files that are put on a shelf.
use Rattle.std.specs.Prelude.{◌≡◌, refl, ℕ, List, [], ◌∷◌, ◌++◌, Option, Some, None, option_map, codes}
use Rattle.rr_base.specs.Files.{Files, with_file, LeavesOthers}

-- a file that is put: its name and its bytes
pub record Put : Type 0 where
  pub name : List ℕ
  pub content : List ℕ

-- the files once these are put, in order
abbrev pub with_puts : List Put → Files → Files
with_puts [] files = files
with_puts (p ∷ ps) files = with_puts ps (with_file p.name p.content files)

-- the same of a shelf that may not tell its files
abbrev pub ArePut : List Put → (old new : Option Files) → Type 0
ArePut ps old new = new ≡ option_map (with_puts ps) old

-- the first of them were put, and no other
pub record ArePartlyPut (ps : List Put) (old new : Option Files) : Type 0 where
  pub made : List Put
  pub rest : List Put
  pub split : ps ≡ made ++ rest
  pub files : ArePut made old new

-- the first of them were put, and the next one failed, whose name may have any content since
pub record PutFailed (ps : List Put) (old new : Option Files) : Type 0 where
  pub made : List Put
  pub failed : Put
  pub rest : List Put
  pub split : ps ≡ made ++ failed ∷ rest
  pub before : Option Files
  pub files : ArePut made old before
  pub others : LeavesOthers failed.name before new

-- ---- a worked row: the later content of a name stays

row : with_puts (record { name = codes "a"; content = codes "x" } ∷ record { name = codes "b"; content = codes "y" } ∷ record { name = codes "a"; content = codes "z" } ∷ []) (λ _. None) (codes "a") ≡ Some (codes "z")
row = refl
