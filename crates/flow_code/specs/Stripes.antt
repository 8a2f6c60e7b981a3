-- Which stripes of weak locks a region takes. Stripes are numbered, eight for each lock: stripe k of lock l has the number
-- 8 l + k.
use Rattle.std.specs.Prelude.{ℕ, zero, suc, ◌+◌, ◌-◌, ◌*◌, ◌/◌, ◌%◌, ◌==◌, nat_lt, min, ◌&&◌, ◌||◌, Bool, true, false, not, if◌then◌else◌, ℤ, pos, negsuc, ◌+ℤ◌, List, [], ◌∷◌, length, Option, Some, None, slice_get}
use Rattle.std.specs.List.{list_any}
use Rattle.rr_base.specs.Words.{site_of, length_of, offset_of, class_of}
use Rattle.rr_base.specs.declared.layout.Site.{Site}
use Rattle.flow_code.specs.declared.code.Code.{Code}
use Rattle.flow_code.specs.declared.code.LockInfo.{LockInfo}
use Rattle.flow_code.specs.declared.region.Base.{Base}
use Rattle.flow_code.specs.declared.region.Base.TheVariants as base
use Rattle.flow_code.specs.declared.region.Bound.{Bound}
use Rattle.flow_code.specs.declared.region.Bound.TheVariants as bound
use Rattle.flow_code.specs.declared.region.Span.{Span}
use Rattle.flow_code.specs.declared.region.Region.{Region}
use Rattle.flow_code.specs.declared.region.Region.TheVariants as region
use Rattle.word_semantics.specs.Values.{number}
use Rattle.word_semantics.specs.Pointers.{site_at, known, pointer_at}
use Rattle.word_semantics.specs.Registers.{register}
use Rattle.word_semantics.specs.Cells.{size_of}

-- the lock and the stripe that have a number
abbrev pub stripe_of : ℕ → ℕ × ℕ
stripe_of n = (n / 8, n % 8)

-- ---- what guards a cell

-- in which of a lock's stripes a cell of an object of so many cells lies
abbrev pub stripe_at : (stripes offset cells : ℕ) → ℕ
stripe_at stripes offset cells = if stripes == 8 then offset * 8 / cells else 0

-- which cell of one element of a site's objects it is
abbrev pub class_in : Option Site → ℕ → ℕ
class_in None offset = 0
class_in (Some site) offset = if site.layout.element == 0 then 0 else class_of site.layout.element offset

-- the lock is that of the place of the cell at this offset of the word's object, and the stripe that of the cell
abbrev pub lock_guards : Option LockInfo → List Site → (word offset stripe : ℕ) → Bool
lock_guards None sites w offset stripe = false
lock_guards (Some l) sites w offset stripe = (l.site == site_of w) && (l.class == class_in (site_at sites (site_of w)) offset) && (stripe == stripe_at l.stripes offset (length_of w))

-- that stripe of that weak lock protects the cell at this offset
abbrev pub guards : Code → (word offset lock stripe : ℕ) → Bool
guards code w offset lock stripe = lock_guards (slice_get code.locks lock) code.sites w offset stripe

-- ---- the cells of a region

-- the pointer in a register, or one to the first cell of a global; the cell's own number matters to no stripe
abbrev pub base_word : List Site → List ℕ → Base → ℕ
base_word sites registers (base.Register r) = known sites (register registers r)
base_word sites registers (base.Site k) = known sites (pointer_at k 0 (size_of sites k))

-- the word points to a cell, of whatever kind
abbrev pub points_to_cell : ℕ → Bool
points_to_cell w = not (site_of w == 0) && nat_lt (offset_of w) (length_of w)

-- the cell to which the word points is guarded by the stripe
abbrev pub cell_wants : Code → (word lock stripe : ℕ) → Bool
cell_wants code w lock stripe = points_to_cell w && guards code w (offset_of w) lock stripe

-- one of so many numbers from k on passes
abbrev pub any_from : (ℕ → Bool) → (many k : ℕ) → Bool
any_from p zero k = false
any_from p (suc n) k = p k || any_from p n (k + 1)

-- the number, but at least 0 and at most so many
abbrev pub clamped : ℕ → ℤ → ℕ
clamped most (pos n) = min n most
clamped most (negsuc n) = 0

-- a cell of the word's object from one offset to before another is guarded by the stripe
abbrev pub cells_want : Code → (word : ℕ) → (first following : ℤ) → (lock stripe : ℕ) → Bool
cells_want code w first following lock stripe =
    not (site_of w == 0) && any_from (λ offset. guards code w offset lock stripe) (clamped (length_of w) following - clamped (length_of w) first) (clamped (length_of w) first)

-- the weak lock is one of these
abbrev pub among : List ℕ → ℕ → Bool
among locks lock = list_any (λ l. l == lock) locks

-- the elements from a + shift to before b + shift, counted from where the word points to
abbrev pub range_wants : Code → (word : ℕ) → (a b shift : ℤ) → (lock stripe : ℕ) → Bool
range_wants code w a b shift lock stripe = cells_want code w (pos (offset_of w) +ℤ a +ℤ shift) (pos (offset_of w) +ℤ b +ℤ shift) lock stripe

-- those of the span, from the counter to before the bound
abbrev pub span_wants : Code → List ℕ → (counter bound : ℤ) → (lock stripe : ℕ) → Span → Bool
span_wants code registers a b lock stripe span = among span.locks lock && range_wants code (base_word code.sites registers span.base) a b span.shift lock stripe

-- the counter stays below this number, which a register may hold
abbrev pub bound_of : List ℕ → Bound → ℤ
bound_of registers (bound.Number z) = z
bound_of registers (bound.Register r) = number (register registers r)

-- a weak lock has 1 or 8 stripes, a missing one 0
abbrev pub stripes_in : Option LockInfo → ℕ
stripes_in None = 0
stripes_in (Some l) = l.stripes

-- ---- what a region takes

-- the region takes the stripe: a function's or a block's all stripes of its locks, a loop's those of the cells of its spans, an
-- instruction's that of its cell
abbrev pub wants : Code → List ℕ → Region → (lock stripe : ℕ) → Bool
wants code registers (region.Whole locks) lock stripe = among locks lock && nat_lt stripe (stripes_in (slice_get code.locks lock))
wants code registers (region.Ranged counter bound spans) lock stripe = list_any (span_wants code registers (number (register registers counter)) (bound_of registers bound) lock stripe) spans
wants code registers (region.Cell base locks) lock stripe = among locks lock && cell_wants code (base_word code.sites registers base) lock stripe

-- the same for a stripe by its number, 8 l + k
abbrev pub wants_number : Code → List ℕ → Region → ℕ → Bool
wants_number code registers r n = wants code registers r (n / 8) (n % 8)

-- lock 0 where a region has no locks
abbrev pub or_zero : Option ℕ → ℕ
or_zero None = 0
or_zero (Some l) = l

-- the number after the lock; 0 where a region has no locks
abbrev pub after_lock : Option ℕ → ℕ
after_lock None = 0
after_lock (Some l) = l + 1

-- its first lock, and the lock after its last one: its list of locks ascends
abbrev pub first_lock : Region → ℕ
first_lock (region.Whole locks) = or_zero (slice_get locks 0)
first_lock (region.Ranged counter bound spans) = 0
first_lock (region.Cell base locks) = or_zero (slice_get locks 0)

-- a region's locks are below this number; a loop's search ends at 65,536
abbrev pub end_lock : Code → Region → ℕ
end_lock code (region.Whole locks) = after_lock (slice_get locks (length locks - 1))
end_lock code (region.Ranged counter bound spans) = min (length code.locks) 65536
end_lock code (region.Cell base locks) = after_lock (slice_get locks (length locks - 1))

-- ---- lists of stripes

-- the first of so many numbers from k on that passes
abbrev pub first_from : (ℕ → Bool) → (many k : ℕ) → Option ℕ
first_from p zero k = None
first_from p (suc n) k = if p k then Some k else first_from p n (k + 1)

-- the stripe of number n in front of the rest, if it passed
abbrev pub and_stripe : Bool → ℕ → List (ℕ × ℕ) → List (ℕ × ℕ)
and_stripe false n rest = rest
and_stripe true n rest = stripe_of n ∷ rest

-- the stripes with those of so many numbers from k on that pass
abbrev pub stripes_from : (ℕ → Bool) → (many k : ℕ) → List (ℕ × ℕ)
stripes_from p zero k = []
stripes_from p (suc n) k = and_stripe (p k) k (stripes_from p n (k + 1))

-- all stripes that a region takes, ascending
abbrev pub wanted : Code → List ℕ → Region → List (ℕ × ℕ)
wanted code registers r = stripes_from (wants_number code registers r) (8 * end_lock code r - 8 * first_lock r) (8 * first_lock r)
