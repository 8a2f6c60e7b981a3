-- Rows: what is due to a thread at its limits, with stripes that it owes, and where the traps of limits stand.
use Rattle.std.proofs.Common.{◌≡◌, ℕ, ◌∷◌, [], List, Some, None, pos, false, true, refl}
use Rattle.rr_base.specs.Words.{pack}
use Rattle.rr_base.specs.declared.layout.Site.{Site}
use Rattle.rr_base.specs.declared.trap.Trap.TheVariants as trap
use Rattle.sync_objects.specs.Setup.{SetupView}
use Rattle.sync_objects.specs.declared.object.ObjId.TheVariants as object
use Rattle.sync_objects.specs.declared.operation.Op.TheVariants as op
use Rattle.word_semantics.specs.Limits.{most_entries, most_revokes}
use Rattle.word_semantics.specs.declared.event.Due.{Due}
use Rattle.word_semantics.specs.declared.event.Due.TheVariants as due
use Rattle.word_semantics.specs.declared.library_call.LibraryCall.TheVariants as call
use Rattle.flow_code.specs.declared.act.Act.{Act}
use Rattle.flow_code.specs.declared.act.Act.TheVariants as act
use Rattle.flow_code.specs.declared.act.Instr.{Instr}
use Rattle.flow_code.specs.declared.code.Code.{Code}
use Rattle.flow_code.specs.declared.code.Function.{Function}
use Rattle.flow_code.specs.declared.region.Base.TheVariants as base
use Rattle.flow_code.specs.declared.region.Bound.TheVariants as bound
use Rattle.flow_code.specs.declared.region.Region.TheVariants as region
use Rattle.flow_code.specs.declared.thread.Phase.{Phase}
use Rattle.flow_code.specs.declared.thread.Phase.TheVariants as phase
use Rattle.flow_code.specs.declared.thread.Stripe.{Stripe}
use Rattle.flow_code.specs.Next.{after_due, due_of}
use Rattle.flow_code.specs.Stripes.{wanted}
use Rattle.flow_code.specs.Threads.{Thread}

-- ---- the limits as numbers

entries_are : most_entries ≡ 1048576
entries_are = refl

revokes_are : most_revokes ≡ 16384
revokes_are = refl

-- ---- a function that takes a stripe, stores, reads the input, marks a loop, gives the stripe and returns, a line for each

abbrev number : Site
number = record { name = []; layout = record { size = 1; element = 1; kinds = [] }; at = record { line = 1; column = 5 } }

abbrev instr : ℕ → Act → Instr
instr line does = record { at = record { line = line; column = 1 }; act = does }

abbrev main : Function
main = record {
  name = 109 ∷ 97 ∷ 105 ∷ 110 ∷ [];
  line = 3;
  formals = 0;
  registers = 1;
  pointers = true ∷ [];
  gives_pointer = false;
  instrs = instr 4 (act.Take 0) ∷ instr 5 (act.StoreCell 0 0) ∷ instr 6 (act.Library call.GetChar [] None) ∷ instr 7 act.Mark ∷ instr 8 (act.Give 0) ∷ instr 9 (act.Return None) ∷ [];
  loops = [];
  regions = region.Whole (0 ∷ []) ∷ [];
}

abbrev code : Code
code = record { functions = main ∷ []; sites = number ∷ []; globals = []; global_kinds = []; global_bases = []; locks = record { site = 1; class = 0; stripes = 1 } ∷ [] }

abbrev setup : SetupView
setup = record { slots = 1; cells = 1024; limit = 100; input = [] }

-- a thread at the instruction k, with so many events and entries, and these stripes
abbrev at : (k count entries : ℕ) → List Stripe → Thread
at k count entries stripes = record {
  count = count;
  arena = 2;
  entries = entries;
  revokes = 0;
  printed = 0;
  phase = phase.Running;
  top = record { function = 0; instr = k; made = 0; kept = pos 0; registers = 0 ∷ [] };
  below = [];
  stripes = stripes;
  regions = [];
}

abbrev comes : Thread → Due
comes th = due_of code setup 0 th

abbrev full : ℕ
full = 1048576

abbrev room : ℕ
room = 1048575

abbrev owed : ℕ → ℕ → Stripe
owed lock stripe = record { lock = lock; stripe = stripe; owed = true }

abbrev held : ℕ → ℕ → Stripe
held lock stripe = record { lock = lock; stripe = stripe; owed = false }

-- ---- the list of entries

one_more_entry : comes (at 2 5 room []) ≡ due.Operate (op.GetChar 0) object.Input
one_more_entry = refl

no_more_entry : comes (at 2 5 full []) ≡ due.Trap trap.LogFull
no_more_entry = refl

one_more_take : comes (at 0 5 room []) ≡ due.Operate op.Take (object.Weak 0 0)
one_more_take = refl

no_more_take : comes (at 0 5 full []) ≡ due.Trap trap.LogFull
no_more_take = refl

-- a mark has no entry, and the operation with which a thread ends has room always
marks_when_full : comes (at 3 5 full []) ≡ due.Mark
marks_when_full = refl

ends_when_full : comes (at 5 5 full []) ≡ due.Operate op.HaltAll object.Halt
ends_when_full = refl

-- ---- the limit of events

one_more_event : comes (at 2 99 5 []) ≡ due.Operate (op.GetChar 0) object.Input
one_more_event = refl

no_more_event : comes (at 2 100 5 []) ≡ due.Trap trap.Limit
no_more_event = refl

no_more_mark : comes (at 3 100 5 []) ≡ due.Trap trap.Limit
no_more_mark = refl

-- operations on stripes come at the limit too, and so does the end
takes_at_the_limit : comes (at 0 100 5 []) ≡ due.Operate op.Take (object.Weak 0 0)
takes_at_the_limit = refl

ends_at_the_limit : comes (at 5 100 5 []) ≡ due.Operate op.HaltAll object.Halt
ends_at_the_limit = refl

-- ---- stripes that are owed: the limit is looked at first, then they, then the list of entries

pays_first : comes (at 3 5 5 (owed 0 0 ∷ [])) ≡ due.Operate op.Retake (object.Weak 0 0)
pays_first = refl

pays_before_a_take : comes (at 0 5 5 (owed 1 0 ∷ [])) ≡ due.Operate op.Retake (object.Weak 1 0)
pays_before_a_take = refl

-- of two the least, whatever is held between them
pays_the_least : comes (at 3 5 5 (held 0 0 ∷ owed 0 3 ∷ held 0 4 ∷ owed 1 0 ∷ [])) ≡ due.Operate op.Retake (object.Weak 0 3)
pays_the_least = refl

-- operations of the program come before
reads_while_it_owes : comes (at 2 5 5 (owed 0 0 ∷ [])) ≡ due.Operate (op.GetChar 0) object.Input
reads_while_it_owes = refl

-- at the limit the trap comes without a retake before it, but a take waits for one
limit_before_owed : comes (at 3 100 5 (owed 0 0 ∷ [])) ≡ due.Trap trap.Limit
limit_before_owed = refl

retake_at_the_limit : comes (at 0 100 5 (owed 1 0 ∷ [])) ≡ due.Operate op.Retake (object.Weak 1 0)
retake_at_the_limit = refl

-- where the list is full the retake is what it has no room for, and at the limit the limit counts
owed_before_full : comes (at 3 5 full (owed 0 0 ∷ [])) ≡ due.Trap trap.LogFull
owed_before_full = refl

limit_before_full : comes (at 2 100 full []) ≡ due.Trap trap.Limit
limit_before_full = refl

-- ---- where these traps stand: at the instruction that comes next, a take, a give or what waits for a retake

full_at_a_take : (after_due code setup 0 (at 0 5 full []) (comes (at 0 5 full [])) (pos 0)).phase ≡ phase.Trapped trap.LogFull 4
full_at_a_take = refl

full_at_a_retake : (after_due code setup 0 (at 3 5 full (owed 0 0 ∷ [])) (comes (at 3 5 full (owed 0 0 ∷ []))) (pos 0)).phase ≡ phase.Trapped trap.LogFull 7
full_at_a_retake = refl

abbrev holding : (entries : ℕ) → Thread
holding entries = record (at 4 5 entries (held 0 0 ∷ [])) { regions = record { frame = 0; instr = 0; stripes = (0, 0) ∷ [] } ∷ [] }

one_more_give : comes (holding room) ≡ due.Operate op.Give (object.Weak 0 0)
one_more_give = refl

full_at_a_give : (after_due code setup 0 (holding full) (comes (holding full)) (pos 0)).phase ≡ phase.Trapped trap.LogFull 8
full_at_a_give = refl

-- ---- an object of fewer cells than stripes has stripes in which no cell lies

abbrev four : Site
four = record { name = []; layout = record { size = 4; element = 1; kinds = [] }; at = record { line = 1; column = 5 } }

abbrev short : Code
short = record code { sites = four ∷ []; locks = record { site = 1; class = 0; stripes = 8 } ∷ [] }

last_two_of_four : wanted short (2 ∷ []) (region.Ranged 0 (bound.Number (pos 4)) (record { base = base.Site 1; shift = pos 0; locks = 0 ∷ [] } ∷ [])) ≡ (0, 4) ∷ (0, 6) ∷ []
last_two_of_four = refl

all_of_four : wanted short (0 ∷ []) (region.Ranged 0 (bound.Number (pos 4)) (record { base = base.Site 1; shift = pos 0; locks = 0 ∷ [] } ∷ [])) ≡ (0, 0) ∷ (0, 2) ∷ (0, 4) ∷ (0, 6) ∷ []
all_of_four = refl
