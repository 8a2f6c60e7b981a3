-- How a thread takes and gives the stripes of its regions. It holds or owes a stripe exactly while one of its open regions
-- has it; how many have it is the stripe's nesting number. Only the first of these regions takes the stripe by an operation,
-- and only the last one gives it by one.
use Rattle.std.specs.Prelude.{ℕ, zero, ◌+◌, ◌-◌, ◌*◌, ◌==◌, nat_lt, nat_le, max, ◌&&◌, Bool, false, not, if◌then◌else◌, List, [], ◌∷◌, ◌++◌, length, map, drop, insert, filter, count_by, position, unwrap_or, Option, Some, None, slice_get, slice_set}
use Rattle.std.specs.List.{list_any}
use Rattle.sync_objects.specs.declared.object.ObjId.TheVariants as object
use Rattle.sync_objects.specs.declared.operation.Op.TheVariants as op
use Rattle.flow_code.specs.declared.act.Act.{Act}
use Rattle.flow_code.specs.declared.act.Act.TheVariants as act
use Rattle.flow_code.specs.declared.act.Instr.{Instr}
use Rattle.word_semantics.specs.declared.library_call.LibraryCall.{LibraryCall}
use Rattle.word_semantics.specs.declared.library_call.LibraryCall.TheVariants as call
use Rattle.flow_code.specs.declared.code.Code.{Code}
use Rattle.flow_code.specs.declared.code.Function.{Function}
use Rattle.flow_code.specs.declared.region.Region.{Region}
use Rattle.flow_code.specs.declared.thread.Stripe.{Stripe}
use Rattle.word_semantics.specs.declared.event.Due.{Due}
use Rattle.word_semantics.specs.declared.event.Due.TheVariants as due
use Rattle.flow_code.specs.Stripes.{stripe_of, wants_number, first_lock, end_lock, first_from, stripes_from}
use Rattle.flow_code.specs.Threads.{Frame, Thread, OpenRegion, instr_in}

-- ---- lists of stripes

-- 8 times its weak lock's number, plus which of eight stripes it is
abbrev pub number_of_stripe : Stripe → ℕ
number_of_stripe x = 8 * x.lock + x.stripe

-- the same number where only lock and stripe are given
abbrev pub number_of_pair : ℕ × ℕ → ℕ
number_of_pair x = 8 * x.0 + x.1

-- the stripe is held or owed
abbrev pub is_listed : List Stripe → ℕ → Bool
is_listed xs n = list_any (λ x. number_of_stripe x == n) xs

-- whether the stripe of number n is among these pairs of lock and stripe
abbrev pub has_stripe : List (ℕ × ℕ) → ℕ → Bool
has_stripe xs n = list_any (λ x. number_of_pair x == n) xs

-- where a stripe belongs among ascending ones
abbrev pub place_for : ℕ → List Stripe → ℕ
place_for n xs = unwrap_or (position (λ x. nat_lt n (number_of_stripe x)) xs) (length xs)

-- one stripe more is held
abbrev pub with_stripe : ℕ → List Stripe → List Stripe
with_stripe n xs = insert xs (place_for n xs) (record { lock = (stripe_of n).0; stripe = (stripe_of n).1; owed = false })

-- a stripe less
abbrev pub without_stripe : ℕ → List Stripe → List Stripe
without_stripe n xs = filter (λ x. not (number_of_stripe x == n)) xs

-- ---- open regions

-- in how many open regions a stripe is
abbrev pub nesting : List OpenRegion → ℕ → ℕ
nesting rs n = count_by (λ r. has_stripe r.stripes n) rs

-- a region without stripes isn't open
abbrev pub has_stripes : OpenRegion → Bool
has_stripes r = not (length r.stripes == 0)

-- what stays on a thread's list: regions that still have stripes
abbrev pub open_ones : List OpenRegion → List OpenRegion
open_ones rs = filter has_stripes rs

-- the region with other stripes; frame and Take stay
abbrev pub with_pairs : OpenRegion → List (ℕ × ℕ) → OpenRegion
with_pairs r xs = record r { stripes = xs }

-- ---- taking

-- the function's region of number r; none without a function
abbrev pub region_in : Option Function → ℕ → Option Region
region_in None r = None
region_in (Some f) r = slice_get f.regions r

-- the region that a Take or Give in this frame names
abbrev pub region_of : Code → Frame → ℕ → Option Region
region_of code frame r = region_in (slice_get code.functions frame.function) r

-- the number after the last of ascending stripes
abbrev pub after_pair : Option (ℕ × ℕ) → ℕ
after_pair None = 0
after_pair (Some x) = number_of_pair x + 1

-- where the search goes on after ascending stripes; 0 where there are none
abbrev pub after_pairs : List (ℕ × ℕ) → ℕ
after_pairs xs = after_pair (slice_get xs (length xs - 1))

-- the open region is the one that the instruction opens at which the thread stands
abbrev pub is_opened_here : Thread → Option OpenRegion → Bool
is_opened_here th None = false
is_opened_here th (Some r) = (r.frame == length th.below) && (r.instr == th.top.instr)

-- the innermost open region, which stands last in the thread's list
abbrev pub latest : Thread → Option OpenRegion
latest th = slice_get th.regions (length th.regions - 1)

-- an open region's stripes; none where there is no region
abbrev pub pairs_at : Option OpenRegion → List (ℕ × ℕ)
pairs_at None = []
pairs_at (Some r) = r.stripes

-- the stripes that this Take has taken so far: those of the latest region, if it has opened it
abbrev pub taken_pairs : Thread → List (ℕ × ℕ)
taken_pairs th = if is_opened_here th (latest th) then pairs_at (latest th) else []

-- the number from which on stripes are left to it
abbrev pub left_from : Thread → Region → ℕ
left_from th r = max (8 * first_lock r) (after_pairs (taken_pairs th))

-- a stripe that the region takes and that the thread has in no region yet
abbrev pub is_lacked : Code → Thread → Region → ℕ → Bool
is_lacked code th r n = wants_number code th.top.registers r n && not (is_listed th.stripes n)

-- the stripe that a Take takes next by an operation
abbrev pub lacked : Code → Thread → Option Region → Option ℕ
lacked code th None = None
lacked code th (Some r) = first_from (is_lacked code th r) (8 * end_lock code r - left_from th r) (left_from th r)

-- what it has taken when it has gone on to before a number
abbrev pub taken_before : Code → Thread → Region → ℕ → List (ℕ × ℕ)
taken_before code th r to = taken_pairs th ++ stripes_from (wants_number code th.top.registers r) (to - left_from th r) (left_from th r)

-- the innermost open region gets these stripes, the others keep theirs
abbrev pub latest_with : Option OpenRegion → List (ℕ × ℕ) → List OpenRegion → List OpenRegion
latest_with None xs rs = rs
latest_with (Some r) xs rs = slice_set rs (length rs - 1) (with_pairs r xs)

-- the open regions once the Take at which the thread stands has these stripes
abbrev pub opened : Thread → List (ℕ × ℕ) → List OpenRegion
opened th xs =
    if is_opened_here th (latest th) then latest_with (latest th) xs th.regions
    else th.regions ++ open_ones (record { frame = length th.below; instr = th.top.instr; stripes = xs } ∷ [])

-- a Take takes one stripe after another, and then it is over
abbrev pub take_or_quiet : Option ℕ → Due
take_or_quiet None = due.Quiet
take_or_quiet (Some n) = due.Operate op.Take (object.Weak (stripe_of n).0 (stripe_of n).1)

-- what is due at a Take: an operation, or a quiet step at last
abbrev pub take_due : Code → Thread → Option Region → Due
take_due code th r = take_or_quiet (lacked code th r)

-- an operation leaves the thread where it stands; in place of none it goes on
abbrev pub taken : Code → Thread → Option Region → Option ℕ → Thread
taken code th None next = th
taken code th (Some r) None = record th { regions = opened th (taken_before code th r (8 * end_lock code r)) }
taken code th (Some r) (Some n) = record th { stripes = with_stripe n th.stripes; regions = opened th (taken_before code th r (n + 1)) }

-- ---- giving

-- the instruction is the Take of region r
abbrev pub takes_region : Act → ℕ → Bool
takes_region (act.Take k) r = k == r
takes_region _ r = false

-- the same of an instruction that may be missing
abbrev pub takes : Option Instr → ℕ → Bool
takes None r = false
takes (Some i) r = takes_region i.act r

-- the open region was opened in the running frame, by a Take of this region
abbrev pub is_open_of : Code → Thread → ℕ → OpenRegion → Bool
is_open_of code th r x = (x.frame == length th.below) && takes (instr_in (slice_get code.functions th.top.function) x.instr) r

-- the last place of a list at which something holds
abbrev pub last_place : {A : Type 0} → (A → Bool) → ℕ → Option ℕ → List A → Option ℕ
last_place p i found [] = found
last_place p i found (x ∷ xs) = last_place p (i + 1) (if p x then Some i else found) xs

-- where the open region stands that a Give of this region closes
abbrev pub open_place : Code → Thread → ℕ → Option ℕ
open_place code th r = last_place (is_open_of code th r) 0 None th.regions

-- the first of these stripes that no other open region has
abbrev pub first_alone : List OpenRegion → List (ℕ × ℕ) → Option (ℕ × ℕ)
first_alone rs [] = None
first_alone rs (x ∷ xs) = if nat_le (nesting rs (number_of_pair x)) 1 then Some x else first_alone rs xs

-- the stripe that a Give gives next by an operation
abbrev pub alone_at : List OpenRegion → Option ℕ → Option (ℕ × ℕ)
alone_at rs None = None
alone_at rs (Some i) = first_alone rs (pairs_at (slice_get rs i))

-- what a Give of region r gives up to other threads now, if anything
abbrev pub to_give : Code → Thread → ℕ → Option (ℕ × ℕ)
to_give code th r = alone_at th.regions (open_place code th r)

-- a Give gives one stripe after another, and then it is over
abbrev pub give_or_quiet : Option (ℕ × ℕ) → Due
give_or_quiet None = due.Quiet
give_or_quiet (Some x) = due.Operate op.Give (object.Weak x.0 x.1)

-- what is due at a Give: an operation, or a quiet step at last
abbrev pub give_due : Code → Thread → ℕ → Due
give_due code th r = give_or_quiet (to_give code th r)

-- those of ascending stripes that are after one of them
abbrev pub pairs_after : ℕ → List (ℕ × ℕ) → List (ℕ × ℕ)
pairs_after n xs = filter (λ x. nat_lt n (number_of_pair x)) xs

-- the region at place i gets these stripes, the others keep theirs
abbrev pub region_with : Option OpenRegion → List (ℕ × ℕ) → List OpenRegion → ℕ → List OpenRegion
region_with None xs rs i = rs
region_with (Some r) xs rs i = slice_set rs i (with_pairs r xs)

-- the open regions once the one at this place has these stripes alone
abbrev pub cut : List OpenRegion → ℕ → List (ℕ × ℕ) → List OpenRegion
cut rs i xs = open_ones (region_with (slice_get rs i) xs rs i)

-- what a region has left once it has given this stripe, or counted all down
abbrev pub left_by : Option (ℕ × ℕ) → List (ℕ × ℕ) → List (ℕ × ℕ)
left_by None xs = []
left_by (Some x) xs = pairs_after (number_of_pair x) xs

-- what the thread still holds or owes once one stripe is given
abbrev pub released : Option (ℕ × ℕ) → List Stripe → List Stripe
released None xs = xs
released (Some x) xs = without_stripe (number_of_pair x) xs

-- the thread once the region at this place, if any, has given
abbrev pub gives_at : Thread → Option ℕ → Option (ℕ × ℕ) → Thread
gives_at th None next = th
gives_at th (Some i) next = record th { stripes = released next th.stripes; regions = cut th.regions i (left_by next (pairs_at (slice_get th.regions i))) }

-- the thread after the next step of a Give
abbrev pub gave : Code → Thread → ℕ → Thread
gave code th r = gives_at th (open_place code th r) (to_give code th r)

-- ---- the end of a thread by pthread_exit

-- the stripes that are left to be given or forgotten before the first event of the call
abbrev pub parting : LibraryCall → ℕ → List Stripe → List Stripe
parting call.Exit zero xs = xs
parting _ made xs = []

-- some of these stripes were revoked and not taken again yet
abbrev pub owes : List Stripe → Bool
owes xs = list_any (λ x. x.owed) xs

-- what is owed is forgotten, and what is held is given, the least first
abbrev pub parting_due : List Stripe → Due → Due
parting_due [] d = d
parting_due (x ∷ xs) d = if owes (x ∷ xs) then due.Quiet else due.Operate op.Give (object.Weak x.lock x.stripe)

-- the stripes that other threads can't take, as none of them is owed
abbrev pub held : List Stripe → List Stripe
held xs = filter (λ x. not x.owed) xs

-- the thread with these of its stripes alone
abbrev pub keeping : Thread → List Stripe → Thread
keeping th xs = record th { stripes = xs; regions = open_ones (map (λ r. with_pairs r (filter (λ x. is_listed xs (number_of_pair x)) r.stripes)) th.regions) }

-- what is left after one parting step: debts go at once, held ones singly
abbrev pub left_of : List Stripe → List Stripe
left_of xs = if owes xs then held xs else drop 1 xs

-- at `pthread_exit` stripes go first; without any, the call's own step counts
abbrev pub left_after : Thread → List Stripe → Thread → Thread
left_after th [] q = q
left_after th (x ∷ xs) q = keeping th (left_of (x ∷ xs))
