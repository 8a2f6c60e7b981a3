-- The numbers of a job are within their limits.
use Rattle.std.proofs.Common.{◌≡◌, refl, sym, ◌∙◌, subst, ℕ, ◌≤◌, ◌&&◌, List, [], ◌∷◌, Option, Some, None, IfSome, option_map, option_and_then, bytes_eq, decimal, nat_le, codes, arith, leb-true, inl, inr}
use Rattle.std.specs.List.{after_first, before_first}
use Rattle.std.specs.Str.Parse.{digits_value}
use Rattle.std.proofs.lemmas.Bool.{and_parts, cond-true, cond-false, cases_Bool}
use Rattle.std.proofs.lemmas.Option.{same_Some}
use Rattle.thread_interpreter.specs.declared.access.Formula.{Formula}
use Rattle.command_line.specs.Arguments.{Argument, value_of, number_within, number_or}
use Rattle.command_line.specs.Events.{HasEventLimits, event_named, is_point}
use Rattle.command_line.specs.Jobs.{Asked, asked_of, chain_of, record_of, replay_of, HasLimits, told}
use Rattle.command_line.specs.Jobs.Asked.{Races, Weaken, Replay, Profile, Watch, Chain, Checkpoint, Resume, Make}
use Rattle.command_line.specs.Predicates.{accesses_asked}
use Rattle.command_line.specs.declared.command.Command.{Command}
use Rattle.command_line.specs.declared.command.Command.TheVariants as command
use Rattle.command_line.specs.declared.event.Event.{Event}
use Rattle.command_line.specs.declared.job.Job.{Job}

-- ---- limits

record Between (low high n : ℕ) : Type 0 where
  above : low ≤ n
  below : n ≤ high

within : (low high : ℕ) (text : List ℕ) (n : ℕ) → number_within low high text ≡ Some n → Between low high n
within low high text n e =
    let m = digits_value 10 text in
    elim (cases_Bool (bytes_eq (decimal m) text && (nat_le low m && nat_le m high))) [
      | inl t ↦
          let p = and_parts (bytes_eq (decimal m) text) (nat_le low m && nat_le m high) t in
          let q = and_parts (nat_le low m) (nat_le m high) p.1 in
          let same : m ≡ n = same_Some m n (sym (cond-true _ (Some m) None t) ∙ e) in
          subst (Between low high) same (record { above = leb-true low m q.0; below = leb-true m high q.1 })
      | inr f ↦
          let never : None ≡ Some n = sym (cond-false _ (Some m) None f) ∙ e in cc
    ]

of_option : (low high default : ℕ) (given : Option (List ℕ)) (n : ℕ) → low ≤ default → default ≤ high → number_or low high default given ≡ Some n → Between low high n
of_option low high default None n l h e = subst (Between low high) (same_Some default n e) (record { above = l; below = h })
of_option low high default (Some text) n l h e = within low high text n e

record Found {A B : Type 0} (o : Option A) (f : A → Option B) (b : B) : Type 0 where
  value : A
  is : o ≡ Some value
  gives : f value ≡ Some b

found : {A B : Type 0} (o : Option A) (f : A → Option B) (b : B) → option_and_then f o ≡ Some b → Found o f b
found None f b e = cc
found (Some a) f b e = record { value = a; is = refl; gives = e }

of_record : (source log : List ℕ) (given : List Argument) (a : Asked) → record_of source log given ≡ Some a → HasLimits a
of_record source log given a e =
    let slots = found _ _ a e in
    let s = of_option 1 16 8 (value_of (codes "slots") given) slots.value (omega arith) (omega arith) slots.is in
    let cells = found _ _ a slots.gives in
    let c = of_option 1024 131072 16384 (value_of (codes "cells") given) cells.value (omega arith) (omega arith) cells.is in
    let limit = found _ _ a cells.gives in
    let l = of_option 1 67108864 16777216 (value_of (codes "limit") given) limit.value (omega arith) (omega arith) limit.is in
    let budget = found _ _ a limit.gives in
    let b = of_option 1 1048576 1000 (value_of (codes "budget") given) budget.value (omega arith) (omega arith) budget.is in
    subst HasLimits (same_Some _ a budget.gives)
    (record { slots_low = s.above; slots_high = s.below; cells_low = c.above; cells_high = c.below; limit_low = l.above; limit_high = l.below; budget_low = b.above; budget_high = b.below })

of_make : (o : Option ℕ) (count name : List ℕ) (a : Asked) → o ≡ number_within 1 1000 count → option_map (λ n. Make n name) o ≡ Some a → HasLimits a
of_make None count name a is e = cc
of_make (Some n) count name a is e =
    let b = within 1 1000 count n (sym is) in
    subst HasLimits (same_Some (Make n name) a e) (b.above, b.below)

of_watch : (source log : List ℕ) (o : Option Formula) (a : Asked) → option_map (Watch source log) o ≡ Some a → HasLimits a
of_watch source log None a e = cc e
of_watch source log (Some formula) a e = subst HasLimits (same_Some (Watch source log formula) a e) tt

of_event : (word : List ℕ) (event : Event) → event_named word ≡ Some event → HasEventLimits event
of_event word event e =
    let counts = after_first is_point word in
    let threads = before_first is_point word in
    let count = found (number_within 0 67108865 counts) (λ n. option_and_then (λ t. Some (record { thread = t; count = n })) (number_within 0 15 threads)) event e in
    let thread = found (number_within 0 15 threads) (λ t. Some (record { thread = t; count = count.value })) event count.gives in
    let c = within 0 67108865 counts count.value count.is in
    let t = within 0 15 threads thread.value thread.is in
    subst HasEventLimits (same_Some (record { thread = thread.value; count = count.value }) event thread.gives) (record { thread_high = t.below; count_high = c.below })

of_chain : (source log one other : List ℕ) (a : Asked) → chain_of source log one other ≡ Some a → HasLimits a
of_chain source log one other a e =
    let i = found _ _ a e in
    let j = found _ _ a i.gives in
    subst HasLimits (same_Some (Chain source log i.value j.value) a j.gives) (of_event one i.value i.is, of_event other j.value j.is)

of_replay : (source log : List ℕ) (reads checkpoint : Option (List ℕ)) (a : Asked) → replay_of source log reads checkpoint ≡ Some a → HasLimits a
of_replay source log reads None a e = subst HasLimits (same_Some (Replay source log reads) a e) tt
of_replay source log None (Some name) a e = subst HasLimits (same_Some (Resume source log name) a e) tt
of_replay source log (Some reads) (Some name) a e = cc

of_checkpoint : (o : Option ℕ) (source log count name : List ℕ) (a : Asked) → o ≡ number_within 0 16777312 count → option_map (λ n. Checkpoint source log n name) o ≡ Some a → HasLimits a
of_checkpoint None source log count name a is e = cc
of_checkpoint (Some n) source log count name a is e =
    let b = within 0 16777312 count n (sym is) in
    subst HasLimits (same_Some (Checkpoint source log n name) a e) b.below

of_asked : (c : Command) (words : List (List ℕ)) (given : List Argument) (a : Asked) → asked_of c words given ≡ Some a → HasLimits a
of_asked command.Races (source ∷ []) given a e = subst HasLimits (same_Some (Races source) a e) tt
of_asked command.Weaken (source ∷ []) given a e = subst HasLimits (same_Some (Weaken source (value_of (codes "profile") given)) a e) tt
of_asked command.Record (source ∷ log ∷ []) given a e = of_record source log given a e
of_asked command.Replay (source ∷ log ∷ []) given a e = of_replay source log (value_of (codes "reads") given) (value_of (codes "from") given) a e
of_asked command.Profile (source ∷ log ∷ name ∷ []) given a e = subst HasLimits (same_Some (Profile source log name) a e) tt
of_asked command.Watch (source ∷ log ∷ predicate ∷ []) given a e = of_watch source log (accesses_asked predicate) a e
of_asked command.Chain (source ∷ log ∷ one ∷ other ∷ []) given a e = of_chain source log one other a e
of_asked command.Checkpoint (source ∷ log ∷ count ∷ name ∷ []) given a e = of_checkpoint (number_within 0 16777312 count) source log count name a refl e
of_asked command.Make (count ∷ name ∷ []) given a e = of_make (number_within 1 1000 count) count name a refl e
of_asked _ _ given a e = cc

-- so a job in the code has numbers within their limits
pub limits_of_job : (o : Option Job) (c : Command) (words : List (List ℕ)) (given : List Argument) → option_map told o ≡ asked_of c words given → IfSome o (λ job. HasLimits (told job))
limits_of_job None c words given e = tt
limits_of_job (Some job) c words given e = of_asked c words given (told job) (sym e)
