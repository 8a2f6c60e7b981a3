-- The numbers of a thread but for its counts, as the code alone changes them.
use Rattle.std.proofs.Common.{◌≡◌, ℕ, zero, suc, ◌+◌, ◌-◌, ◌<◌, ◌≤◌, Bool, true, false, if◌then◌else◌, List, [], ◌∷◌, ◌++◌, length, take, Option, Some, None, refl, subst, nat_le, arith, length-take}
use Rattle.std.specs.Prelude.{slice_get}
use Rattle.std.proofs.lemmas.Bool.{leb-true}
use Rattle.std.proofs.lemmas.Option.{slice_get_within}
use Rattle.sync_objects.specs.Setup.{SetupView}
use Rattle.rr_base.specs.declared.layout.Site.{Site}
use Rattle.flow_code.specs.declared.act.Act.{Act}
use Rattle.flow_code.specs.declared.act.Instr.{Instr}
use Rattle.flow_code.specs.declared.code.Code.{Code}
use Rattle.flow_code.specs.declared.code.Function.{Function}
use Rattle.flow_code.specs.declared.thread.Phase.{Phase}
use Rattle.word_semantics.specs.declared.event.Onward.{Onward}
use Rattle.word_semantics.specs.declared.event.Onward.TheVariants as onward
use Rattle.word_semantics.specs.Library.{most_printed}
use Rattle.flow_code.specs.Threads.{Frame, Thread, Object, object, arena_end, objects_in, fitted, instr_in, instr_at, instrs_in}
use Rattle.word_semantics.specs.Cells.{size_of}
use Rattle.flow_code.specs.Next.{past, given, act_in, act_at, in_frame, or_else, entered, one_made, resumed, back_in}
use Rattle.word_semantics.specs.Limits.{most_frames}
use Rattle.flow_code.specs.Ranges.{most_made}
use Rattle.word_semantics.proofs.Calls.{GoesOn}

-- the frame stands at an instruction of its function
abbrev pub StandsIn : Code → Frame → Type 0
StandsIn code f = f.instr < length (instrs_in (slice_get code.functions f.function))

-- where there is an instruction, the frame stands at one
instr_within : (o : Option Function) (at : ℕ) (i : Instr) → instr_in o at ≡ Some i → at < length (instrs_in o)
instr_within None at i e = cc
instr_within (Some f) at i e = slice_get_within f.instrs at i e

act_within : (o : Option Function) (at : ℕ) (i : Option Instr) (a : Act) → instr_in o at ≡ i → act_in i ≡ Some a → at < length (instrs_in o)
act_within o at None a h e = cc
act_within o at (Some i) a h e = instr_within o at i h

pub stands_in : (code : Code) (f : Frame) (a : Act) → act_at code f ≡ Some a → StandsIn code f
stands_in code f a e = act_within (slice_get code.functions f.function) f.instr (instr_at code f) a refl e

-- what holds of all frames of a list holds of those that are left when one is added or the last ones are taken away
pub each_more : (P : Frame → Type 0) (fs : List Frame) (x : Frame) → ((k : ℕ) (f : Frame) → slice_get fs k ≡ Some f → P f) → P x → (k : ℕ) (f : Frame) → slice_get (fs ++ x ∷ []) k ≡ Some f → P f
each_more P [] x h p zero f e = let same : x ≡ f = cc in subst P same p
each_more P [] x h p (suc k) f e = cc
each_more P (y ∷ fs) x h p zero f e = h zero f e
each_more P (y ∷ fs) x h p (suc k) f e = each_more P fs x (λ j. h (suc j)) p k f e

pub each_less : (P : Frame → Type 0) (n : ℕ) (fs : List Frame) → ((k : ℕ) (f : Frame) → slice_get fs k ≡ Some f → P f) → (k : ℕ) (f : Frame) → slice_get (take n fs) k ≡ Some f → P f
each_less P zero fs h k f e = cc
each_less P (suc n) [] h k f e = cc
each_less P (suc n) (y ∷ fs) h zero f e = h zero f e
each_less P (suc n) (y ∷ fs) h (suc k) f e = each_less P n fs (λ j. h (suc j)) k f e

pub record IsShaped (code : Code) (s : SetupView) (t : ℕ) (th : Thread) : Type 0 where
  pub few_printed : th.printed ≤ most_printed
  pub few_made : th.top.made ≤ most_made
  pub few_frames : length th.below + 1 ≤ most_frames
  pub room : th.arena ≤ arena_end code s t
  pub callers : (k : ℕ) (f : Frame) → slice_get th.below k ≡ Some f → StandsIn code f

module _ (code : Code) (s : SetupView) (t : ℕ) (th : Thread) where
  pub framed : (f : Frame) → f.made ≤ most_made → IsShaped code s t th → IsShaped code s t (in_frame th f)
  framed f m h = record { few_printed = h.few_printed; few_made = m; few_frames = h.few_frames; room = h.room; callers = h.callers }

  pub printed_more : (n : ℕ) → n ≤ most_printed → IsShaped code s t th → IsShaped code s t (record th { printed = n })
  printed_more n p h = record { few_printed = p; few_made = h.few_made; few_frames = h.few_frames; room = h.room; callers = h.callers }

  pub in_phase : (p : Phase) → IsShaped code s t th → IsShaped code s t (record th { phase = p })
  in_phase p h = record { few_printed = h.few_printed; few_made = h.few_made; few_frames = h.few_frames; room = h.room; callers = h.callers }

  pub goes_shaped : (into : Option ℕ) (o : Onward) → GoesOn th.top.made o → IsShaped code s t th → IsShaped code s t (resumed th into o)
  goes_shaped into (onward.Stays kept) g h = framed (one_made th.top kept) (omega arith) h
  goes_shaped into (onward.Gives w) g h = framed (past (given th.top into w)) (omega arith) h
  goes_shaped into onward.Ends g h = absurd g

  fitted_within : (sites : List Site) (end at : ℕ) (os : List Object) → at ≤ end → or_else (fitted sites end os at) at ≤ end
  fitted_within sites end at os h = by at os at h h
    where
      by : (at : ℕ) (os : List Object) (n : ℕ) → at ≤ end → n ≤ end → or_else (fitted sites end os at) n ≤ end
      by at [] n h k = h
      by at (object into site ∷ os) n h k = room (nat_le (at + size_of sites site) end) refl (by (at + size_of sites site) os n)
        where
          room : (b : Bool) → nat_le (at + size_of sites site) end ≡ b → (at + size_of sites site ≤ end → n ≤ end → or_else (fitted sites end os (at + size_of sites site)) n ≤ end) → or_else (if b then fitted sites end os (at + size_of sites site) else None) n ≤ end
          room true e again = again (leb-true (at + size_of sites site) end e) k
          room false e again = k

  pub entered_shaped : (below : List Frame) (f : ℕ) (arguments : List ℕ) → length below + 1 ≤ most_frames → ((k : ℕ) (g : Frame) → slice_get below k ≡ Some g → StandsIn code g) → IsShaped code s t th → IsShaped code s t (entered code s t th below f arguments)
  entered_shaped below f arguments n c h = record {
    few_printed = h.few_printed;
    few_made = omega arith;
    few_frames = n;
    room = fitted_within code.sites (arena_end code s t) th.arena (objects_in code f) h.room;
    callers = c;
  }

  pub back_shaped : (value : ℕ) (o : Option Frame) → IsShaped code s t th → IsShaped code s t (back_in code th value o)
  back_shaped value None h = h
  back_shaped value (Some f) h = record {
    few_printed = h.few_printed;
    few_made = omega arith;
    few_frames = fewer (length th.below - 1) th.below (omega arith) h.few_frames;
    room = h.room;
    callers = each_less (StandsIn code) (length th.below - 1) th.below h.callers;
  }
    where
      fewer : (n : ℕ) (fs : List Frame) → n ≤ length fs → length fs + 1 ≤ most_frames → length (take n fs) + 1 ≤ most_frames
      fewer n fs le h = grind (arith, length-take)
