-- The addresses of globals. A code tells of each site at which global cell its object begins: the address of a global is the
-- pointer to the whole object that begins there.
use Rattle.std.specs.Prelude.{ℕ, ◌+◌, ◌==◌, nat_le, ◌&&◌, ◌||◌, Bool, true, false, if◌then◌else◌, List, [], ◌∷◌, length, drop, Option, Some, None, is_some}
use Rattle.rr_base.specs.Words.{site_of, pack}
use Rattle.rr_base.specs.declared.layout.CellKind.{CellKind}
use Rattle.rr_base.specs.declared.layout.CellKind.TheVariants as kind
use Rattle.rr_base.specs.declared.layout.Site.{Site}
use Rattle.flow_code.specs.declared.act.Act.{Act}
use Rattle.flow_code.specs.declared.act.Act.TheVariants as act
use Rattle.flow_code.specs.declared.code.Code.{Code}
use Rattle.flow_code.specs.declared.work.Work.TheVariants as work
use Rattle.word_semantics.specs.Pointers.{site_at, base_at, same_kind}

-- the address that an instruction computes
abbrev pub address_in : Act → Option ℕ
address_in (act.Compute into (work.Address w)) = Some w
address_in _ = None

-- the address that a global cell holds at the start; the null pointer is none
abbrev pub address_at : CellKind → ℕ → Option ℕ
address_at kind.Pointer w = if w == 0 then None else Some w
address_at _ w = None

-- ---- the address of a site

-- the pointer to the whole object of a site, by its first global cell
abbrev pub whole_object : ℕ → Option Site → Option ℕ → Option ℕ
whole_object s (Some site) (Some base) = Some (pack s base site.layout.size 0)
whole_object s _ _ = None

-- the pointer to the object of a global site
abbrev pub address_of : Code → ℕ → Option ℕ
address_of code s = whole_object s (site_at code.sites s) (base_at code.global_bases s)

-- a site whose object is a global's
abbrev pub is_global : Code → ℕ → Bool
is_global code s = is_some (address_of code s)

-- the word is the given one, if one is given
abbrev pub is_given : ℕ → Option ℕ → Bool
is_given w None = false
is_given w (Some v) = w == v

-- the word is the pointer to the whole object of a global site
abbrev pub is_address : Code → ℕ → Bool
is_address code w = is_given w (address_of code (site_of w))

-- ---- how the objects of globals lie

-- the kinds of the first cells are these
abbrev pub begin_with : List CellKind → List CellKind → Bool
begin_with ks [] = true
begin_with [] (w ∷ ws) = false
begin_with (k ∷ ks) (w ∷ ws) = same_kind k w && begin_with ks ws

-- the cells from `base` on, so many, are none of those of this site's object
abbrev pub lies_apart : (base cells : ℕ) → Option ℕ → Site → Bool
lies_apart base cells None site = true
lies_apart base cells (Some other) site = nat_le (base + cells) other || nat_le (other + site.layout.size) base

-- the same for each of these sites
abbrev pub all_apart : (base cells : ℕ) → List (Option ℕ) → List Site → Bool
all_apart base cells [] sites = true
all_apart base cells (o ∷ os) [] = true
all_apart base cells (o ∷ os) (site ∷ sites) = lies_apart base cells o site && all_apart base cells os sites

-- an object lies within the global cells, whose kinds are those of its layout, and has no cell of a later one
abbrev pub object_fits : Code → Option ℕ → Site → List (Option ℕ) → List Site → Bool
object_fits code None site bases sites = true
object_fits code (Some base) site bases sites = nat_le (base + site.layout.size) (length code.globals) && begin_with (drop base code.global_kinds) site.layout.kinds && all_apart base site.layout.size bases sites

-- from this site on, each global's object fits and shares no cell with another
abbrev pub objects_fit : Code → List (Option ℕ) → List Site → Bool
objects_fit code [] sites = true
objects_fit code (o ∷ os) [] = true
objects_fit code (o ∷ os) (site ∷ sites) = object_fits code o site os sites && objects_fit code os sites

-- ---- the start words

-- a pointer cell starts out as null or as the address of a global
abbrev pub word_fits : Code → Option ℕ → Bool
word_fits code None = true
word_fits code (Some w) = is_address code w

-- the word of each pointer cell is null or an address
abbrev pub words_fit : Code → List CellKind → List ℕ → Bool
words_fit code [] ws = true
words_fit code (k ∷ ks) [] = true
words_fit code (k ∷ ks) (w ∷ ws) = word_fits code (address_at k w) && words_fit code ks ws

-- each global cell has a kind and a word that fits, and belongs to one site at most
abbrev pub globals_fit : Code → Bool
globals_fit code = (length code.global_kinds == length code.globals) && (length code.global_bases == length code.sites) && words_fit code code.global_kinds code.globals && objects_fit code code.global_bases code.sites
