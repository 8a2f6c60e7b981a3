-- Rows: which stripes some regions take, and how a thread takes and gives them.
use Rattle.std.proofs.Common.{◌≡◌, ℕ, ◌∷◌, [], List, Some, None, pos, negsuc, true, false, refl}
use Rattle.rr_base.specs.Words.{pack}
use Rattle.rr_base.specs.declared.layout.Site.{Site}
use Rattle.sync_objects.specs.declared.object.ObjId.TheVariants as object
use Rattle.sync_objects.specs.declared.operation.Op.TheVariants as op
use Rattle.flow_code.specs.declared.act.Act.TheVariants as act
use Rattle.flow_code.specs.declared.act.Instr.{Instr}
use Rattle.word_semantics.specs.declared.library_call.LibraryCall.TheVariants as call
use Rattle.flow_code.specs.declared.code.Code.{Code}
use Rattle.flow_code.specs.declared.code.Function.{Function}
use Rattle.flow_code.specs.declared.region.Base.TheVariants as base
use Rattle.flow_code.specs.declared.region.Bound.TheVariants as bound
use Rattle.flow_code.specs.declared.region.Region.{Region}
use Rattle.flow_code.specs.declared.region.Span.{Span}
use Rattle.flow_code.specs.declared.region.Region.TheVariants as region
use Rattle.flow_code.specs.declared.thread.Phase.TheVariants as phase
use Rattle.flow_code.specs.declared.thread.Stripe.{Stripe}
use Rattle.word_semantics.specs.declared.event.Due.TheVariants as due
use Rattle.flow_code.specs.Stripes.{wanted}
use Rattle.flow_code.specs.Holding.{take_due, taken, give_due, gave, parting, parting_due, left_after}
use Rattle.flow_code.specs.Threads.{Thread, OpenRegion}

-- an array of eight numbers, whose lock has eight stripes, and a number, whose lock has one
abbrev array : Site
array = record { name = []; layout = record { size = 8; element = 1; kinds = [] }; at = record { line = 2; column = 5 } }

abbrev alone : Site
alone = record { name = []; layout = record { size = 1; element = 1; kinds = [] }; at = record { line = 3; column = 5 } }

abbrev instr : ℕ → Instr
instr r = record { at = record { line = 1; column = 1 }; act = act.Take r }

-- function 0 takes region 0 at 0 and region 1 at 1, and gives them at 2 and 3
abbrev ofs : List Region → Function
ofs regions = record {
  name = [];
  line = 1;
  formals = 0;
  registers = 1;
  pointers = [];
  gives_pointer = false;
  instrs = instr 0 ∷ instr 1 ∷ record { at = record { line = 1; column = 1 }; act = act.Give 1 } ∷ record { at = record { line = 1; column = 1 }; act = act.Give 0 } ∷ [];
  loops = [];
  regions = regions;
}

abbrev code_of : List Region → Code
code_of regions = record {
  functions = ofs regions ∷ [];
  sites = array ∷ alone ∷ [];
  globals = [];
  global_kinds = [];
  global_bases = [];
  locks = record { site = 1; class = 0; stripes = 8 } ∷ record { site = 2; class = 0; stripes = 1 } ∷ [];
}

abbrev plain : Code
plain = code_of []

-- ---- which stripes

abbrev span : ℕ → Span
span lock = record { base = base.Site 1; shift = pos 0; locks = lock ∷ [] }

-- a loop over the first half of the array, over the second one, and over none of it
low_half : wanted plain (0 ∷ []) (region.Ranged 0 (bound.Number (pos 4)) (span 0 ∷ [])) ≡ (0, 0) ∷ (0, 1) ∷ (0, 2) ∷ (0, 3) ∷ []
low_half = refl

high_half : wanted plain (4 ∷ []) (region.Ranged 0 (bound.Number (pos 8)) (span 0 ∷ [])) ≡ (0, 4) ∷ (0, 5) ∷ (0, 6) ∷ (0, 7) ∷ []
high_half = refl

no_turn : wanted plain (4 ∷ []) (region.Ranged 0 (bound.Number (pos 4)) (span 0 ∷ [])) ≡ []
no_turn = refl

-- elements that lie outside of the array
clipped : wanted plain (0 ∷ []) (region.Ranged 0 (bound.Number (pos 4)) (record { base = base.Site 1; shift = negsuc 1; locks = 0 ∷ [] } ∷ [])) ≡ (0, 0) ∷ (0, 1) ∷ []
clipped = refl

-- the stripe of one cell, of which lock the pointer decides
of_array : wanted plain (pack 1 0 8 5 ∷ []) (region.Cell (base.Register 0) (0 ∷ 1 ∷ [])) ≡ (0, 5) ∷ []
of_array = refl

of_alone : wanted plain (pack 2 8 1 0 ∷ []) (region.Cell (base.Register 0) (0 ∷ 1 ∷ [])) ≡ (1, 0) ∷ []
of_alone = refl

-- no stripe: the null pointer, a pointer right after the array, a lock that isn't listed
of_null : wanted plain (0 ∷ []) (region.Cell (base.Register 0) (0 ∷ 1 ∷ [])) ≡ []
of_null = refl

of_end : wanted plain (pack 1 0 8 8 ∷ []) (region.Cell (base.Register 0) (0 ∷ 1 ∷ [])) ≡ []
of_end = refl

of_other : wanted plain (pack 2 8 1 0 ∷ []) (region.Cell (base.Register 0) (0 ∷ [])) ≡ []
of_other = refl

-- all stripes of both locks
of_all : wanted plain [] (region.Whole (0 ∷ 1 ∷ [])) ≡ (0, 0) ∷ (0, 1) ∷ (0, 2) ∷ (0, 3) ∷ (0, 4) ∷ (0, 5) ∷ (0, 6) ∷ (0, 7) ∷ (1, 0) ∷ []
of_all = refl

-- ---- how a thread takes and gives

abbrev outer : Region
outer = region.Cell (base.Register 0) (1 ∷ [])

abbrev inner : Region
inner = region.Ranged 0 (bound.Number (pos 2)) (span 0 ∷ record { base = base.Site 2; shift = pos 0; locks = 1 ∷ [] } ∷ [])

abbrev nested : Code
nested = code_of (outer ∷ inner ∷ [])

abbrev at : ℕ → ℕ → List Stripe → List OpenRegion → Thread
at k register stripes regions = record {
  count = 3;
  arena = 0;
  entries = 1;
  revokes = 0;
  printed = 0;
  phase = phase.Running;
  top = record { function = 0; instr = k; made = 0; kept = pos 0; registers = register ∷ [] };
  below = [];
  stripes = stripes;
  regions = regions;
}

abbrev held_one : ℕ → ℕ → Stripe
held_one lock stripe = record { lock = lock; stripe = stripe; owed = false }

abbrev owed_one : ℕ → ℕ → Stripe
owed_one lock stripe = record { lock = lock; stripe = stripe; owed = true }

abbrev open_at : ℕ → List (ℕ × ℕ) → OpenRegion
open_at k pairs = record { frame = 0; instr = k; stripes = pairs }

-- an instruction's region takes its stripe, and goes on where the pointer points nowhere
takes_cell : take_due nested (at 0 (pack 2 8 1 0) [] []) (Some outer) ≡ due.Operate op.Take (object.Weak 1 0)
takes_cell = refl

takes_nothing : take_due nested (at 0 0 [] []) (Some outer) ≡ due.Quiet
takes_nothing = refl

opens_nothing : taken nested (at 0 0 [] []) (Some outer) None ≡ at 0 0 [] []
opens_nothing = refl

opens : taken nested (at 0 (pack 2 8 1 0) [] []) (Some outer) (Some 8) ≡ at 0 (pack 2 8 1 0) (held_one 1 0 ∷ []) (open_at 0 ((1, 0) ∷ []) ∷ [])
opens = refl

takes_no_more : take_due nested (at 0 (pack 2 8 1 0) (held_one 1 0 ∷ []) (open_at 0 ((1, 0) ∷ []) ∷ [])) (Some outer) ≡ due.Quiet
takes_no_more = refl

-- a region inside takes the stripes that are not held yet, one after another, and counts the other one up
abbrev outside : OpenRegion
outside = open_at 0 ((1, 0) ∷ [])

takes_first : take_due nested (at 1 0 (held_one 1 0 ∷ []) (outside ∷ [])) (Some inner) ≡ due.Operate op.Take (object.Weak 0 0)
takes_first = refl

has_first : taken nested (at 1 0 (held_one 1 0 ∷ []) (outside ∷ [])) (Some inner) (Some 0) ≡ at 1 0 (held_one 0 0 ∷ held_one 1 0 ∷ []) (outside ∷ open_at 1 ((0, 0) ∷ []) ∷ [])
has_first = refl

takes_second : take_due nested (at 1 0 (held_one 0 0 ∷ held_one 1 0 ∷ []) (outside ∷ open_at 1 ((0, 0) ∷ []) ∷ [])) (Some inner) ≡ due.Operate op.Take (object.Weak 0 1)
takes_second = refl

has_second : taken nested (at 1 0 (held_one 0 0 ∷ held_one 1 0 ∷ []) (outside ∷ open_at 1 ((0, 0) ∷ []) ∷ [])) (Some inner) (Some 1) ≡ at 1 0 (held_one 0 0 ∷ held_one 0 1 ∷ held_one 1 0 ∷ []) (outside ∷ open_at 1 ((0, 0) ∷ (0, 1) ∷ []) ∷ [])
has_second = refl

abbrev both : List Stripe
both = held_one 0 0 ∷ held_one 0 1 ∷ held_one 1 0 ∷ []

counts_up : taken nested (at 1 0 both (outside ∷ open_at 1 ((0, 0) ∷ (0, 1) ∷ []) ∷ [])) (Some inner) None ≡ at 1 0 both (outside ∷ open_at 1 ((0, 0) ∷ (0, 1) ∷ (1, 0) ∷ []) ∷ [])
counts_up = refl

-- it gives back what no other region has, and counts the other one down
gives_first : give_due nested (at 2 0 both (outside ∷ open_at 1 ((0, 0) ∷ (0, 1) ∷ (1, 0) ∷ []) ∷ [])) 1 ≡ due.Operate op.Give (object.Weak 0 0)
gives_first = refl

gave_first : gave nested (at 2 0 both (outside ∷ open_at 1 ((0, 0) ∷ (0, 1) ∷ (1, 0) ∷ []) ∷ [])) 1 ≡ at 2 0 (held_one 0 1 ∷ held_one 1 0 ∷ []) (outside ∷ open_at 1 ((0, 1) ∷ (1, 0) ∷ []) ∷ [])
gave_first = refl

gives_no_more : give_due nested (at 2 0 (held_one 1 0 ∷ []) (outside ∷ open_at 1 ((1, 0) ∷ []) ∷ [])) 1 ≡ due.Quiet
gives_no_more = refl

closes : gave nested (at 2 0 (held_one 1 0 ∷ []) (outside ∷ open_at 1 ((1, 0) ∷ []) ∷ [])) 1 ≡ at 2 0 (held_one 1 0 ∷ []) (outside ∷ [])
closes = refl

gives_last : give_due nested (at 3 0 (held_one 1 0 ∷ []) (outside ∷ [])) 0 ≡ due.Operate op.Give (object.Weak 1 0)
gives_last = refl

gave_last : gave nested (at 3 0 (held_one 1 0 ∷ []) (outside ∷ [])) 0 ≡ at 3 0 [] []
gave_last = refl

-- a region that isn't open
not_open : gave nested (at 2 0 (held_one 1 0 ∷ []) (outside ∷ [])) 1 ≡ at 2 0 (held_one 1 0 ∷ []) (outside ∷ [])
not_open = refl

-- pthread_exit forgets the stripes that are owed, and then gives those that are held, the least first
forgets : parting_due (parting call.Exit 0 (held_one 0 3 ∷ owed_one 1 0 ∷ [])) due.Nothing ≡ due.Quiet
forgets = refl

forgot : left_after (at 3 0 (held_one 0 3 ∷ owed_one 1 0 ∷ []) (outside ∷ open_at 1 ((0, 3) ∷ (1, 0) ∷ []) ∷ [])) (held_one 0 3 ∷ owed_one 1 0 ∷ []) (at 3 0 [] []) ≡ at 3 0 (held_one 0 3 ∷ []) (open_at 1 ((0, 3) ∷ []) ∷ [])
forgot = refl

parts_first : parting_due (parting call.Exit 0 (held_one 0 3 ∷ held_one 1 0 ∷ [])) due.Nothing ≡ due.Operate op.Give (object.Weak 0 3)
parts_first = refl

parted_first : left_after (at 3 0 (held_one 0 3 ∷ held_one 1 0 ∷ []) (outside ∷ open_at 1 ((0, 3) ∷ (1, 0) ∷ []) ∷ [])) (held_one 0 3 ∷ held_one 1 0 ∷ []) (at 3 0 [] []) ≡ at 3 0 (held_one 1 0 ∷ []) (outside ∷ open_at 1 ((1, 0) ∷ []) ∷ [])
parted_first = refl

parts_no_more : parting_due (parting call.Exit 0 []) due.Nothing ≡ due.Nothing
parts_no_more = refl

no_part_of_others : parting_due (parting call.Join 0 (held_one 0 3 ∷ [])) due.Nothing ≡ due.Nothing
no_part_of_others = refl
