-- The laws of logs that threads have followed.
use Rattle.std.proofs.Common.{◌≡◌, ℕ, zero, suc, ◌+◌, ◌-◌, ◌^◌, ◌<◌, ◌≤◌, List, [], ◌∷◌, ◌++◌, length, Some, None, refl, sym, ap, subst, ◌∙◌, arith, ⊎_elim}
use Rattle.std.specs.Prelude.{slice_get, take, drop, option_and_then}
use Rattle.std.proofs.lemmas.Bool.{cases_lt}
use Rattle.std.proofs.lemmas.List.{length-take}
use Rattle.std.proofs.lemmas.Option.{get_or_from_slice_get, same_Some, slice_get_within}
use Rattle.sync_objects.specs.Setup.{SetupView, IsWithinLimits}
use Rattle.sync_objects.specs.Start.{start_word}
use Rattle.sync_objects.specs.Words.{number_of}
use Rattle.sync_objects.specs.declared.entry.Entry.{Entry}
use Rattle.sync_objects.specs.declared.entry.Noted.{Noted}
use Rattle.flow_code.specs.declared.code.Code.{Code}
use Rattle.flow_code.specs.Settle.{IsRunnable}
use Rattle.core_run.specs.Histories.{HasNoRace, HaveEnded, list_in}
use Rattle.core_run.specs.Machine.{Told, machine, start_state}
use Rattle.core_run.specs.Walks.{IsRefusedAt, IsUnfinished, walk_of}
use Rattle.core_run.specs.Words.{cells_of, place_of, start_words}
use Rattle.core_run.proofs.Beginnings.{start_number, start_word_at}
use Rattle.core_run.proofs.Lawful.{lawful}
use Rattle.core_run.proofs.Told.{list_is}
use Rattle.run_theory.specs.Laws.{IsLawful}
use Rattle.run_theory.specs.Paths.{IsPrefixOf}
use Rattle.run_theory.specs.Steps.{State, entries_of, trace}
use Rattle.run_theory.proofs.Lists.{own_out}
use Rattle.run_theory.proofs.Solo.{walk-append}
use Rattle.replay_theory.specs.Following.{EndedRest, Follows, HasMade, IsFresh, LeavesAtLeast}
use Rattle.replay_theory.specs.Numbered.{numbered, numbered_after, with_number}
use Rattle.replay_theory.proofs.Whole.{refused, taken, front_taken}
use Rattle.log_walks.specs.Followed.{floor, HaveCome, Followed}
use Rattle.log_walks.specs.Known.{IsWrongAt}
use Rattle.log_walks.proofs.Floors.{ended_rests, leaves_floor}
use Rattle.log_walks.proofs.KnownWalk.{never_made}

-- ---- lists

at : {A : Type 0} (xs : List A) (k : ℕ) → k < length xs → (x : A) × (slice_get xs k ≡ Some x)
at [] k less = absurd (omega (arith, less))
at (x ∷ xs) zero less = (x, refl)
at (x ∷ xs) (suc k) less = at xs k (omega (arith, less))

split : {A : Type 0} (xs : List A) (k : ℕ) (x : A) → slice_get xs k ≡ Some x → take k xs ++ x ∷ drop (suc k) xs ≡ xs
split [] k x is = cc
split (y ∷ xs) zero x is = let e : x ≡ y = sym (same_Some y x is) in ap (λ z. z ∷ xs) e
split (y ∷ xs) (suc k) x is = ap (λ zs. y ∷ zs) (split xs k x is)

one_more : {A : Type 0} (xs : List A) (k : ℕ) (x : A) → slice_get xs k ≡ Some x → take (suc k) xs ≡ take k xs ++ x ∷ []
one_more [] k x is = cc
one_more (y ∷ xs) zero x is = let e : y ≡ x = same_Some y x is in ap (λ z. z ∷ []) e
one_more (y ∷ xs) (suc k) x is = ap (λ zs. y ∷ zs) (one_more xs k x is)

all_taken : {A : Type 0} (xs : List A) (k : ℕ) → length xs ≤ k → take k xs ≡ xs
all_taken [] zero h = refl
all_taken [] (suc k) h = refl
all_taken (x ∷ xs) zero h = absurd (omega (arith, h))
all_taken (x ∷ xs) (suc k) h = ap (λ zs. x ∷ zs) (all_taken xs k (omega (arith, h)))

in_front : {A : Type 0} (xs : List A) (n k : ℕ) (x : A) → slice_get (take n xs) k ≡ Some x → slice_get xs k ≡ Some x
in_front [] zero k x is = is
in_front [] (suc n) k x is = is
in_front (y ∷ xs) zero k x is = cc
in_front (y ∷ xs) (suc n) zero x is = is
in_front (y ∷ xs) (suc n) (suc k) x is = in_front xs n k x is

-- ---- threads

-- all entries are of these threads
abbrev AreOf : ℕ → List Entry → Type 0
AreOf n es = (k : ℕ) (e : Entry) → slice_get es k ≡ Some e → e.thread < n

none_of : (n t : ℕ) (es : List Entry) (before : List Noted) → AreOf n es → n ≤ t → entries_of t (numbered_after before es) ≡ []
none_of n t [] before of beyond = refl
none_of n t (e ∷ es) before of beyond =
    own_out t (with_number before e) (numbered_after (before ++ with_number before e ∷ []) es) (λ is. omega (arith, of 0 e refl, beyond, is))
    ∙ none_of n t es (before ++ with_number before e ∷ []) (λ k f there. of (suc k) f there) beyond

module _ (code : Code) (s : SetupView) (runnable : IsRunnable code) (limits : IsWithinLimits s) where
  law : IsLawful (machine code s)
  law = lawful code s runnable limits

  fresh : IsFresh (machine code s) (start_state code s)
  fresh o has = ap number_of (get_or_from_slice_get (start_words code s) (place_of (cells_of code s) o) (start_word o) 0 (start_word_at code s o limits has)) ∙ start_number o

  leaves : LeavesAtLeast (machine code s) floor
  leaves l told after e change old new answer is becomes = omega (arith, leaves_floor code s l told after e change old new answer is becomes)

  rests : EndedRest (machine code s)
  rests l told ended = ended_rests code s l told ended

  -- what stands by the log has come to the position
  abbrev pub come : (es : List Entry) (departure : ℕ) (end : State Told) → Followed code s es departure end → HaveCome code s es departure end
  come es departure end f = record { labels = f.labels; ran = f.ran; threads = λ t told there. (f.threads t told there).comes }

  module _ (es : List Entry) (departure : ℕ) (end : State Told) (f : HaveCome code s es departure end) (of : AreOf (length end.threads) es) where
    -- what holds of each thread of the state, and of threads that there aren't
    each : (P : ℕ → List Noted → Type 0) → ((t : ℕ) (told : Told) → slice_get end.threads t ≡ Some told → P t told.entries) → ((t : ℕ) → length end.threads ≤ t → P t []) → (t : ℕ) → P t (entries_of t (trace (machine code s) f.labels (start_state code s)))
    each P there beyond t = subst (P t) (list_is code s f.labels end t f.ran) (⊎_elim
        (λ less. let x = at end.threads t less in subst (λ o. P t (list_in o)) (sym x.1) (there t x.0 x.1))
        (λ more. subst (λ o. P t (list_in o)) (sym (none_there end.threads t more)) (beyond t more))
        (cases_lt t (length end.threads)))
      where
        none_there : (xs : List Told) (k : ℕ) → length xs ≤ k → slice_get xs k ≡ None
        none_there [] k h = refl
        none_there (x ∷ xs) zero h = absurd (omega (arith, h))
        none_there (x ∷ xs) (suc k) h = none_there xs k (omega (arith, h))

    follows : Follows (machine code s) es f.labels (start_state code s)
    follows = each (λ t xs. IsPrefixOf xs (entries_of t (numbered es))) (λ t told there. (f.threads t told there).follows) (λ t more. (entries_of t (numbered es), refl))

    has_made : HasMade (machine code s) (take departure es) f.labels (start_state code s)
    has_made = each (λ t xs. IsPrefixOf (entries_of t (numbered (take departure es))) xs) (λ t told there. (f.threads t told there).reached) (λ t more. ([], ap (λ zs. zs ++ []) (none_of (length end.threads) t (take departure es) [] (λ k e is. of k e (in_front es departure k e is)) more)))

    all_made : length es ≤ departure → HasMade (machine code s) es f.labels (start_state code s)
    all_made all t = subst (λ zs. IsPrefixOf (entries_of t (numbered zs)) (entries_of t (trace (machine code s) f.labels (start_state code s)))) (all_taken es departure all) (has_made t)

    pub whole : HasNoRace code s → length es ≤ departure → HaveEnded code s end → walk_of code s es (start_state code s) ≡ Some end
    whole free all over =
        let r = taken (machine code s) law (start_state code s) end f.labels es rests free f.ran follows (all_made all) in
        r.1 ∙ ap Some (r.3 over)

    pub unfinished : HasNoRace code s → length es ≤ departure → (HaveEnded code s end → ⊥) → IsUnfinished code s (start_state code s) es (length es)
    unfinished free all going =
        let r = taken (machine code s) law (start_state code s) end f.labels es rests free f.ran follows (all_made all) in
        record { all = refl; last = r.0; walked = r.1; open_end = λ over. going (r.2.0 over) }

    -- the walk takes the entries before the position
    pub front : HasNoRace code s → departure < length es → (before : State Told) × (walk_of code s (take departure es) (start_state code s) ≡ Some before)
    front free less =
        let x = at es departure less in
        let whole = split es departure x.0 x.1 in
        front_taken (machine code s) law (start_state code s) end f.labels (take departure es) (x.0 ∷ drop (suc departure) es) free f.ran (λ t. subst (λ zs. IsPrefixOf (entries_of t (trace (machine code s) f.labels (start_state code s))) (entries_of t (numbered zs))) (sym whole) (follows t)) has_made

    -- where the entry there is never allowed, it is refused
    pub known : HasNoRace code s → length es < 2 ^ 32 - 1 → IsWrongAt s.slots es departure → IsRefusedAt code s (start_state code s) es departure
    known free few is =
        let less = slice_get_within es departure is.0 is.1 in
        let w = front free less in
        let n : departure + 1 ≡ suc departure = omega arith in
        record {
          within = less;
          before = w.0;
          front = w.1;
          refused = ap (λ k. walk_of code s (take k es) (start_state code s)) n
              ∙ ap (λ zs. walk_of code s zs (start_state code s)) (one_more es departure is.0 is.1)
              ∙ walk-append (machine code s) (take departure es) (is.0 ∷ []) (start_state code s)
              ∙ ap (option_and_then (walk_of code s (is.0 ∷ []))) w.1
              ∙ ap (option_and_then (walk_of code s [])) (never_made code s runnable limits (take departure es) is.0 w.0 (omega (arith, few, length-take departure es)) w.1 is.2);
        }

  module _ (es : List Entry) (departure : ℕ) (end : State Told) (f : Followed code s es departure end) (of : AreOf (length end.threads) es) where
    pub wrong : HasNoRace code s → departure < length es → IsRefusedAt code s (start_state code s) es departure
    wrong free less = go (at es departure less)
      where
        go : (e : Entry) × (slice_get es departure ≡ Some e) → IsRefusedAt code s (start_state code s) es departure
        go x =
            let e = x.0 in
            let told = at end.threads e.thread (of departure e x.1) in
            let stands = f.threads e.thread told.0 told.1 in
            let c = come es departure end f in
            let departs = stands.departs e x.1 refl in
            let whole = split es departure e x.1 in
            let own : entries_of e.thread (trace (machine code s) f.labels (start_state code s)) ≡ entries_of e.thread (numbered (take departure es)) = sym (list_is code s f.labels end e.thread f.ran) ∙ ap list_in told.1 ∙ departs.0 in
            let r = refused (machine code s) law floor (start_state code s) end f.labels (take departure es) (drop (suc departure) es) e told.0 leaves free fresh f.ran (λ t. subst (λ zs. IsPrefixOf (entries_of t (trace (machine code s) f.labels (start_state code s))) (entries_of t (numbered zs))) (sym whole) (follows es departure end c of t)) (has_made es departure end c of) own told.1 departs.1 in
            let n : departure + 1 ≡ suc departure = omega arith in
            record {
              within = less;
              before = r.0;
              front = r.1;
              refused = ap (λ k. walk_of code s (take k es) (start_state code s)) n ∙ ap (λ zs. walk_of code s zs (start_state code s)) (one_more es departure e x.1) ∙ r.2;
            }
