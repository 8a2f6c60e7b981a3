-- The listing of weak locks as bytes: a line for each lock, and then one for each access that is guarded.
use Rattle.std.specs.Prelude.{ℕ, ◌+◌, Bool, List, [], ◌∷◌, ◌++◌, codes, decimal}
use Rattle.std.specs.List.{flat_map}
use Rattle.flow_code.specs.declared.code.Code.{Code}
use Rattle.flow_code.specs.declared.code.LockInfo.{LockInfo}
use Rattle.facts.specs.declared.pair.AccessAt.{AccessAt}
use Rattle.weak_lock_facts.specs.declared.grain.Grain.{Grain}
use Rattle.weak_lock_facts.specs.declared.grain.Grain.TheVariants as grain
use Rattle.weak_lock_facts.specs.declared.grain.Grained.{Grained}
use Rattle.weak_lock_facts.specs.Grains.{name_of}
use Rattle.rr_base.specs.declared.position.Position.{Position}
use Rattle.listing.specs.Lines.{shown, shown_less}
use Rattle.listing.specs.Sorting.{sorted_by}
use Rattle.listing.specs.Text.{place_text, kind_text}

-- ---- locks

-- `lock w0 x+0 stripes 1`
abbrev pub lock_text : Code → ℕ → LockInfo → List ℕ
lock_text code n l = (codes "lock w" ++ decimal n) ++ codes " " ++ place_text code (record { site = l.site; class = l.class }) ++ (codes " stripes " ++ decimal l.stripes) ++ 10 ∷ []

-- the lines of these locks, the first of which has number n
abbrev pub locks_text : Code → ℕ → List LockInfo → List ℕ
locks_text code n [] = []
locks_text code n (l ∷ ls) = lock_text code n l ++ locks_text code (n + 1) ls

-- ---- accesses

-- a place in the source after a word: `loop 4:1`
abbrev pub spot_text : List ℕ → Position → List ℕ
spot_text word at = (word ++ decimal at.line) ++ (codes ":" ++ decimal at.column)

-- what stands at the k-th instruction of the same function
abbrev pub beside : AccessAt → ℕ → AccessAt
beside a k = record { function = a.function; instr = k }

-- `function main`
abbrev pub function_text : Code → ℕ → List ℕ
function_text code f = codes "function " ++ name_of code f

-- with what an access is guarded: its function, by its name; its loop, by the place of the `for`; its block, by the place of
-- the first access that is guarded with it; or the access alone, by its own place
abbrev pub grain_text : Code → AccessAt → Grain → List ℕ
grain_text code a grain.Function = function_text code a.function
grain_text code a (grain.Loop mark) = spot_text (codes "loop ") (shown code (beside a mark)).at
grain_text code a (grain.Block first) = spot_text (codes "block ") (shown code (beside a first)).at
grain_text code a grain.Instruction = spot_text (codes "instruction ") (shown code a).at

-- `access 5:9 load instruction 5:9`
abbrev pub access_text : Code → Grained → List ℕ
access_text code g = spot_text (codes "access ") (shown code g.access).at ++ kind_text (shown code g.access).store ++ grain_text code g.access g.grain ++ 10 ∷ []

-- by line, then by column, then loads before stores; accesses of one place and kind stay as they stand
abbrev pub access_before : Code → Grained → Grained → Bool
access_before code g h = shown_less (shown code g.access) (shown code h.access)

-- a line for each, in the order in which they are given
abbrev pub accesses_text : Code → List Grained → List ℕ
accesses_text code gs = flat_map (access_text code) gs

-- ---- the listing

-- of the plain code's weak locks, and of its racy accesses with their grains
abbrev pub weak_text_of : Code → List LockInfo → List Grained → List ℕ
weak_text_of code locks rows = locks_text code 0 locks ++ accesses_text code (sorted_by (access_before code) rows)
