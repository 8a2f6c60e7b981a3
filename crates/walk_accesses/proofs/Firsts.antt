-- The first access that meets a formula, in the parts of a walk.
use Rattle.std.proofs.Common.{◌≡◌, ◌≢◌, ℕ, suc, ◌+◌, ◌⊎◌, ⊎_elim, Bool, true, false, if◌then◌else◌, List, [], ◌∷◌, ◌++◌, length, take, drop, Option, Some, None, refl, sym, ap, subst, ◌∙◌}
use Rattle.std.specs.Prelude.{slice_get, filter, option_map, replicate}
use Rattle.std.specs.List.{find}
use Rattle.std.proofs.Math.Seq.{drop-append_seam}
use Rattle.std.proofs.lemmas.Bool.{cases_eq}
use Rattle.std.proofs.lemmas.List.Elements.{filter-append}
use Rattle.std.proofs.lemmas.Option.{slice_get-map, same_Some}
use Rattle.sync_objects.specs.Setup.{SetupView, IsWithinLimits}
use Rattle.sync_objects.specs.declared.entry.Entry.{Entry}
use Rattle.flow_code.specs.declared.code.Code.{Code}
use Rattle.flow_code.specs.Settle.{IsRunnable}
use Rattle.thread_interpreter.specs.declared.access.Access.{Access}
use Rattle.thread_interpreter.specs.declared.access.Formula.{Formula}
use Rattle.thread_interpreter.specs.Flows.{Running}
use Rattle.thread_interpreter.specs.Formulas.{meets}
use Rattle.core_run.specs.Machine.{Told, machine}
use Rattle.core_run.specs.Shown.{RunAll, PartStep, AreStarted}
use Rattle.core_run.specs.Walks.{most_reads, kept_reads}
use Rattle.core_run.specs.Words.{start_words}
use Rattle.core_run.proofs.ThreadRanges.{start_thread_is}
use Rattle.core_run.proofs.WalkLoop.{Walked, walked_start}
use Rattle.run_theory.specs.Steps.{State}
use Rattle.run_theory.specs.Walk.{part}
use Rattle.walk_accesses.specs.Accesses.{Placed, placed, accesses_of, accesses_between, placed_on, placed_from, accesses_in, seen_at, first_seen}
use Rattle.walk_accesses.specs.Kept.{first_of}
use Rattle.walk_accesses.specs.declared.seen.Seen.TheVariants as seen
use Rattle.walk_accesses.proofs.Grown.{MakesPart, part_stands, part_own, part_other}
use Rattle.walk_accesses.proofs.States.{next_walked, next_is, begins}

-- ---- lists

-- where nothing is kept of a list, it has nothing
empty_kept : (n : ℕ) (xs : List Access) → first_of (Some (take (suc n) xs)) ≡ None → xs ≡ []
empty_kept n [] h = refl
empty_kept n (x ∷ xs) h = cc

module _ (f : Formula) where
  abbrev is_met : Placed → Bool
  is_met x = meets f x.access

  none_placed : (at : ℕ) (xs : List Access) (rest : List Placed) → filter (meets f) xs ≡ [] → find is_met (placed at xs ++ rest) ≡ find is_met rest
  none_placed at [] rest h = refl
  none_placed at (x ∷ xs) rest h = by (meets f x) (λ k. none_placed at xs rest k) h
    where
      by : (b : Bool) → (filter (meets f) xs ≡ [] → find is_met (placed at xs ++ rest) ≡ find is_met rest) → (if b then x ∷ filter (meets f) xs else filter (meets f) xs) ≡ [] → (if b then Some (record { part = at; access = x }) else find is_met (placed at xs ++ rest)) ≡ find is_met rest
      by true again k = cc
      by false again k = again k

  first_placed : (at n : ℕ) (xs : List Access) (rest : List Placed) (a : Access) → first_of (Some (take (suc n) (filter (meets f) xs))) ≡ Some a → find is_met (placed at xs ++ rest) ≡ Some (record { part = at; access = a })
  first_placed at n [] rest a h = cc
  first_placed at n (x ∷ xs) rest a h = by (meets f x) (λ k. first_placed at n xs rest a k) h
    where
      by : (b : Bool) → (first_of (Some (take (suc n) (filter (meets f) xs))) ≡ Some a → find is_met (placed at xs ++ rest) ≡ Some (record { part = at; access = a })) → first_of (Some (take (suc n) (if b then x ∷ filter (meets f) xs else filter (meets f) xs))) ≡ Some a → (if b then Some (record { part = at; access = x }) else find is_met (placed at xs ++ rest)) ≡ Some (record { part = at; access = a })
      by true again k = ap (λ (z : Access). Some (record { part = at; access = z })) (same_Some x a k)
      by false again k = again k

module _ (code : Code) (s : SetupView) (es : List Entry) (f : Formula) where
  -- no access so far meets the formula
  pub record Along (at : ℕ) (rest : List Entry) (flows : List Running) (words : List ℕ) (reads : List (List Access)) (out : List ℕ) : Type 0 where
    pub walked : Walked code s es f at rest flows words reads out
    pub none : (t : ℕ) (told : Told) → slice_get walked.state.threads t ≡ Some told → filter (meets f) told.accesses ≡ []
    pub same : first_seen f (accesses_in code s es) ≡ first_seen f (placed_from code s at rest walked.state)

  pub along_start : (flows : List Running) (words : List ℕ) (reads : List (List Access)) (out : List ℕ) → AreStarted code s flows → words ≡ start_words code s → reads ≡ replicate s.slots [] → out ≡ [] → Along 0 es flows words reads out
  along_start flows words reads out started ws rs os =
      let w = walked_start code s es f flows words reads started ws rs in
      let start = begins code s es f flows words reads w in
      subst (λ z. Along 0 es flows words reads z) (sym os)
      (record {
        walked = w;
        none = λ t told at. ap (λ (z : Told). filter (meets f) z.accesses) (start_thread_is code s t told (ap (λ (z : State Told). slice_get z.threads t) start ∙ at));
        same = ap (λ z. first_seen f (placed_from code s 0 es z)) start;
      })

  pub along_all : (at : ℕ) (flows : List Running) (words : List ℕ) (reads : List (List Access)) (out : List ℕ) → Along at [] flows words reads out → first_seen f (accesses_in code s es) ≡ seen.Nowhere
  along_all at flows words reads out a = a.same

  module _ (at : ℕ) (e : Entry) (rest : List Entry) (flows : List Running) (words : List ℕ) (reads : List (List Access)) (out : List ℕ) (a : Along at (e ∷ rest) flows words reads out) where
    pub along_wrong : part (machine code s) e a.walked.state ≡ None → first_seen f (accesses_in code s es) ≡ seen.Nowhere
    along_wrong h = a.same ∙ ap (λ z. first_seen f (placed_on code s (placed_from code s (at + 1) rest) at e a.walked.state z)) h

    module _ (runnable : IsRunnable code) (limits : IsWithinLimits s) (flows1 : List Running) (words1 : List ℕ) (reads1 : List (List Access)) (out1 : List ℕ) (all : RunAll code s 0 flows1) (p : PartStep code s f e a.walked.state flows1 words1 reads1 out out1 true) where
      stands : (told : Told) × (slice_get a.walked.state.threads e.thread ≡ Some told)
      stands = part_stands code s runnable limits e a.walked.state p.2.next p.2.parts

      makes : MakesPart e stands.0 p.2.next
      makes = part_own code s runnable limits e a.walked.state p.2.next stands.0 stands.1 p.2.parts

      abbrev more : List Access
      more = makes.comes.gained.more

      met : filter (meets f) makes.comes.after.accesses ≡ filter (meets f) more
      met = ap (filter (meets f)) makes.comes.gained.accesses ∙ filter-append (meets f) stands.0.accesses more ∙ ap (λ xs. xs ++ filter (meets f) more) (a.none e.thread stands.0 stands.1)

      kept : slice_get reads1 e.thread ≡ Some (take most_reads (filter (meets f) more))
      kept = ap (λ zs. slice_get zs e.thread) p.2.shown.reads_are ∙ slice_get-map (kept_reads f) p.2.next.threads e.thread ∙ ap (option_map (kept_reads f)) makes.comes.stands ∙ ap (λ xs. Some (take most_reads xs)) met

      between : accesses_between e.thread a.walked.state p.2.next ≡ more
      between =
          ap (λ z. drop (length (accesses_of z)) (accesses_of (slice_get p.2.next.threads e.thread))) stands.1 ∙ ap (λ z. drop (length stands.0.accesses) (accesses_of z)) makes.comes.stands
          ∙ ap (drop (length stands.0.accesses)) makes.comes.gained.accesses ∙ drop-append_seam stands.0.accesses more

      here : first_seen f (accesses_in code s es) ≡ seen_at (find (is_met f) (placed at more ++ placed_from code s (at + 1) rest p.2.next))
      here = a.same ∙ ap (λ z. first_seen f (placed_on code s (placed_from code s (at + 1) rest) at e a.walked.state z)) p.2.parts ∙ ap (λ xs. first_seen f (placed at xs ++ placed_from code s (at + 1) rest p.2.next)) between

      pub along_hit : (x : Access) → first_of (slice_get reads1 e.thread) ≡ Some x → first_seen f (accesses_in code s es) ≡ seen.Hit at x
      along_hit x h = here ∙ ap seen_at (first_placed f at 262143 more (placed_from code s (at + 1) rest p.2.next) x (ap first_of (sym kept) ∙ h))

      module _ (h : first_of (slice_get reads1 e.thread) ≡ None) where
        no_more : filter (meets f) more ≡ []
        no_more = empty_kept 262143 (filter (meets f) more) (ap first_of (sym kept) ∙ h)

        none_next : (t : ℕ) (told : Told) → slice_get p.2.next.threads t ≡ Some told → filter (meets f) told.accesses ≡ []
        none_next t told at_t = ⊎_elim
            (λ (same : t ≡ e.thread). ap (λ (z : Told). filter (meets f) z.accesses) (same_Some told makes.comes.after (sym at_t ∙ ap (slice_get p.2.next.threads) same ∙ makes.comes.stands)) ∙ met ∙ no_more)
            (λ (ne : t ≢ e.thread). a.none t told (sym (part_other code s runnable limits e t a.walked.state p.2.next ne p.2.parts) ∙ at_t))
            (cases_eq t e.thread)

        pub along_next : Along (at + 1) rest flows1 words1 reads1 out1
        along_next =
            let w = next_walked code s es f at e rest flows flows1 words words1 reads reads1 out out1 all a.walked p in
            let is = next_is code s es f at e rest flows flows1 words words1 reads reads1 out out1 all a.walked p in
            record {
              walked = w;
              none = λ t told at_t. none_next t told (ap (λ (z : State Told). slice_get z.threads t) is ∙ at_t);
              same = here ∙ ap seen_at (none_placed f at more (placed_from code s (at + 1) rest p.2.next) no_more) ∙ ap (λ z. first_seen f (placed_from code s (at + 1) rest z)) is;
            }
