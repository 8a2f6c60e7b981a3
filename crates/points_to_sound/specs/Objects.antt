-- Objects: which there are, and which words point into them.
use Rattle.std.specs.Prelude.{◌≡◌, ℕ, ◌+◌, ◌*◌, ◌≤◌, ◌<◌, ◌%◌, List, Some, slice_get}
use Rattle.rr_base.specs.Words.{site_of, base_of, length_of, offset_of}
use Rattle.rr_base.specs.declared.layout.Site.{Site}
use Rattle.sync_objects.specs.Setup.{SetupView}
use Rattle.word_semantics.specs.Cells.{size_of}
use Rattle.word_semantics.specs.Pointers.{site_at, base_at}
use Rattle.flow_code.specs.declared.code.Code.{Code}
use Rattle.flow_code.specs.Threads.{arena_start, arena_end}
use Rattle.core_run.specs.Words.{cells_of}

-- an object: the site that made it, its first cell and its number of cells
pub record Object : Type 0 where
  pub site : ℕ
  pub base : ℕ
  pub cells : ℕ

-- the object of a global site, by its first cell as it counts from the first global one
abbrev pub global_object : Code → SetupView → (site base : ℕ) → Object
global_object code s site base = record { site = site; base = base + 2 * s.slots; cells = size_of code.sites site }

-- an object that there is: that of a global site, or one of those that threads have made
pub data IsObject (code : Code) (s : SetupView) (made : List Object) (o : Object) : Type 0 where
  global : (base : ℕ) → base_at code.global_bases o.site ≡ Some base → o ≡ global_object code s o.site base → IsObject code s made o
  made_one : (i : ℕ) → slice_get made i ≡ Some o → IsObject code s made o

-- the cell is one of the object's
pub record HasCell (o : Object) (c : ℕ) : Type 0 where
  pub from : o.base ≤ c
  pub to : c < o.base + o.cells

-- the word points to a cell of the object, or right after the last one
pub record PointsInto (o : Object) (w : ℕ) : Type 0 where
  pub site : site_of w ≡ o.site
  pub base : base_of w ≡ o.base
  pub cells : length_of w ≡ o.cells
  pub offset : offset_of w ≤ o.cells

-- the object is of a site of the code, and as many of the site's layouts in a row as its size tells
pub record IsSized (code : Code) (o : Object) : Type 0 where
  pub site : Site
  pub is_site : site_at code.sites o.site ≡ Some site
  pub some : 1 ≤ o.cells
  pub few : o.cells ≤ 65535
  pub whole : o.cells % site.layout.size ≡ 0
  pub low : o.base < 2097152 + 2097152

-- a cell of a thread's arena that is left: one from its first free cell on, where each thread's is given
pub record IsLeft (code : Code) (s : SetupView) (marks : List ℕ) (c : ℕ) : Type 0 where
  pub thread : ℕ
  pub mark : ℕ
  pub is : slice_get marks thread ≡ Some mark
  pub from : mark ≤ c
  pub to : c < arena_end code s thread

-- how objects lie: each is of a site and of cells that are after the hand-off cells, no two have a cell in common, none has
-- a cell that is left in an arena, and what is left holds 0
pub record AreLaidOut (code : Code) (s : SetupView) (made : List Object) (words marks : List ℕ) : Type 0 where
  pub sized : (o : Object) → IsObject code s made o → IsSized code o
  pub inside : (o : Object) (c : ℕ) → IsObject code s made o → HasCell o c → (2 * s.slots ≤ c) × (c < cells_of code s)
  pub one : (o p : Object) (c : ℕ) → IsObject code s made o → IsObject code s made p → HasCell o c → HasCell p c → o ≡ p
  pub unused : (o : Object) (c : ℕ) → IsObject code s made o → HasCell o c → IsLeft code s marks c → ⊥
  pub fresh : (c w : ℕ) → IsLeft code s marks c → slice_get words c ≡ Some w → w ≡ 0
  pub arenas : (t mark : ℕ) → slice_get marks t ≡ Some mark → arena_start code s t ≤ mark
