-- Steps of running threads over words are steps of the state that they show.
use Rattle.std.proofs.Common.{◌≡◌, ℕ, zero, suc, ◌+◌, ◌<◌, ◌≤◌, Bool, true, false, List, [], ◌∷◌, ◌++◌, length, map, take, drop, Option, Some, None, refl, sym, ap, ◌∙◌, subst, arith, nat_lt, ◌&&◌}
use Rattle.std.specs.Prelude.{slice_get, slice_set, if◌then◌else◌, filter}
use Rattle.std.specs.Option.{option_map, option_and_then}
use Rattle.std.proofs.lemmas.List.{map-set, take-append-le, length-take, take_all, append-nil, length-append}
use Rattle.std.proofs.lemmas.List.Elements.{filter-append}
use Rattle.std.proofs.lemmas.Option.{slice_get-map, same_Some}
use Rattle.rr_base.proofs.Lists.{slice_set-get, slice_get-set_same}
use Rattle.sync_objects.specs.Setup.{SetupView}
use Rattle.sync_objects.specs.declared.entry.Entry.{Entry}
use Rattle.sync_objects.specs.declared.entry.Noted.{Noted}
use Rattle.flow_code.specs.declared.code.Code.{Code}
use Rattle.flow_code.specs.Threads.{Thread}
use Rattle.flow_code.specs.Settle.{next}
use Rattle.thread_interpreter.specs.declared.access.Access.{Access}
use Rattle.thread_interpreter.specs.declared.access.Formula.{Formula}
use Rattle.thread_interpreter.specs.Flows.{Running}
use Rattle.core_run.specs.Machine.{Told, machine, effect_of, marked, accessed, operated}
use Rattle.core_run.specs.Words.{cells_of, place_of}
use Rattle.core_run.specs.Walks.{most_reads, kept_reads, pieces_of, joined}
use Rattle.thread_interpreter.specs.Formulas.{meets}
use Rattle.core_run.specs.Parts.{own_outcome, made_outcome, OwnIs, MadeIs}
use Rattle.core_run.specs.declared.parts.Own.TheVariants as own
use Rattle.core_run.specs.declared.parts.Made.TheVariants as made_case
use Rattle.core_run.specs.Outside.{is_outside, ComesOutside}
use Rattle.core_run.specs.Shown.{running_thread, told_thread, RunAll, IsShown, with_read, StepsTo, MakesTo, IsStuck}
use Rattle.run_theory.specs.Labels.{Go, label_thread, label_of}
use Rattle.run_theory.specs.Same.{same_entry}
use Rattle.run_theory.specs.Steps.{State, Effect, Refused, Marks, Loads, Stores, Operates, Blocked, Leaves, change_outcome, outcome, with_thread, step_of_thread, stepped, entry_of_thread, effect_entry, added}
use Rattle.run_theory.specs.Walk.{if_nothing, if_only, alone, made}
use Rattle.run_theory.proofs.Apart.{thread_of_label}

-- ---- threads

run_all_at : (code : Code) (s : SetupView) (k t : ℕ) (rs : List Running) (r : Running) → RunAll code s k rs → slice_get rs t ≡ Some r → (r.code ≡ code) × (r.setup ≡ s) × (r.number ≡ k + t)
run_all_at code s k t [] r h e = cc
run_all_at code s k zero (x ∷ rs) r h e = let is : x ≡ r = same_Some _ _ e in subst (λ (z : Running). (z.code ≡ code) × (z.setup ≡ s) × (z.number ≡ k + 0)) is (h.0, h.1, h.2 ∙ omega arith)
run_all_at code s k (suc t) (x ∷ rs) r h e = let i = run_all_at code s (k + 1) t rs r h.3 e in (i.0, i.1, i.2 ∙ omega arith)

pub run_all_here : (code : Code) (s : SetupView) (t : ℕ) (rs : List Running) (r : Running) → RunAll code s 0 rs → slice_get rs t ≡ Some r → (r.code ≡ code) × (r.setup ≡ s) × (r.number ≡ t)
run_all_here code s t rs r h e = let i = run_all_at code s 0 t rs r h e in (i.0, i.1, i.2 ∙ omega arith)

run_all_put : (code : Code) (s : SetupView) (k t : ℕ) (rs : List Running) (r : Running) → RunAll code s k rs → r.code ≡ code → r.setup ≡ s → r.number ≡ k + t → RunAll code s k (slice_set rs t r)
run_all_put code s k t [] r h a b c = tt
run_all_put code s k zero (x ∷ rs) r h a b c = (a, b, c ∙ omega arith, h.3)
run_all_put code s k (suc t) (x ∷ rs) r h a b c = (h.0, h.1, h.2, run_all_put code s (k + 1) t rs r h.3 a b (c ∙ omega arith))

pub run_all_set : (code : Code) (s : SetupView) (t : ℕ) (rs : List Running) (r : Running) → RunAll code s 0 rs → r.code ≡ code → r.setup ≡ s → r.number ≡ t → RunAll code s 0 (slice_set rs t r)
run_all_set code s t rs r h a b c = run_all_put code s 0 t rs r h a b (c ∙ omega arith)

-- the told thread that a running one stands for
pub record Stands (st : State Told) (t : ℕ) (th : Thread) : Type 0 where
  pub told : Told
  pub at : slice_get st.threads t ≡ Some told
  pub is : told.thread ≡ th

pub stands : (f : Formula) (flows : List Running) (words : List ℕ) (reads : List (List Access)) (st : State Told) (t : ℕ) (r : Running) → IsShown f flows words reads st → slice_get flows t ≡ Some r → Stands st t r.kept.thread
stands f flows words reads st t r h e = go (slice_get st.threads t) refl
  where
    same : option_map told_thread (slice_get st.threads t) ≡ Some r.kept.thread
    same = sym (slice_get-map told_thread st.threads t) ∙ ap (λ z. slice_get z t) (sym h.threads_are) ∙ slice_get-map running_thread flows t ∙ ap (option_map running_thread) e

    go : (o : Option Told) → slice_get st.threads t ≡ o → Stands st t r.kept.thread
    go None q = let clash : None ≡ Some r.kept.thread = ap (option_map told_thread) (sym q) ∙ same in cc
    go (Some told) q = record { told = told; at = q; is = same_Some _ _ (ap (option_map told_thread) (sym q) ∙ same) }

-- ---- what is kept of accesses

kept_by : (n : ℕ) (ys : List Access) (a : Access) (b : Bool) → take n (ys ++ (if b then a ∷ [] else [])) ≡ (if b && nat_lt (length (take n ys)) n then take n ys ++ a ∷ [] else take n ys)
kept_by n ys a false = ap (take n) (append-nil ys)
kept_by n ys a true = go (nat_lt (length (take n ys)) n) refl
  where
    go : (c : Bool) → nat_lt (length (take n ys)) n ≡ c → take n (ys ++ a ∷ []) ≡ (if c then take n ys ++ a ∷ [] else take n ys)
    go true e =
        let lt : length ys < n = grind (arith, length-take n ys) in
        take_all n (ys ++ a ∷ []) (omega (arith, length-append ys (a ∷ []))) ∙ ap (λ z. z ++ a ∷ []) (sym (take_all n ys (omega arith)))
    go false e =
        let le : n ≤ length ys = grind (arith, length-take n ys) in
        take-append-le n ys (a ∷ []) le

pub kept_more : (f : Formula) (told : Told) (th : Thread) (a : Access) → kept_reads f (accessed told th a) ≡ with_read f (kept_reads f told) a
kept_more f told th a = ap (take most_reads) (filter-append (meets f) told.accesses (a ∷ [])) ∙ kept_by most_reads (filter (meets f) told.accesses) a (meets f a)

-- ---- the state after a step of a thread

pub shown_after : (f : Formula) (flows : List Running) (words ws1 : List ℕ) (reads reads1 : List (List Access)) (st : State Told) (t : ℕ) (r1 : Running) (told told1 : Told) → IsShown f flows words reads st → slice_get st.threads t ≡ Some told → told1.thread ≡ r1.kept.thread → reads1 ≡ slice_set reads t (kept_reads f told1) → IsShown f (slice_set flows t r1) ws1 reads1 (record { words = ws1; threads = slice_set st.threads t told1 })
shown_after f flows words ws1 reads reads1 st t r1 told told1 h at is reads_are = record {
  words_are = refl;
  threads_are = map-set running_thread flows t r1 ∙ ap (λ z. slice_set z t r1.kept.thread) h.threads_are ∙ ap (slice_set (map told_thread st.threads) t) (sym is) ∙ sym (map-set told_thread st.threads t told1);
  reads_are = reads_are ∙ ap (λ z. slice_set z t (kept_reads f told1)) h.reads_are ∙ sym (map-set (kept_reads f) st.threads t told1);
}

-- the reads of a thread whose accesses are the same
pub same_reads : (f : Formula) (flows : List Running) (words : List ℕ) (reads : List (List Access)) (st : State Told) (t : ℕ) (told told1 : Told) → IsShown f flows words reads st → slice_get st.threads t ≡ Some told → told1.accesses ≡ told.accesses → reads ≡ slice_set reads t (kept_reads f told1)
same_reads f flows words reads st t told told1 h at e =
    let here : slice_get reads t ≡ Some (kept_reads f told1) = ap (λ z. slice_get z t) h.reads_are ∙ slice_get-map (kept_reads f) st.threads t ∙ ap (option_map (kept_reads f)) at ∙ ap (λ z. Some (take most_reads (filter (meets f) z))) (sym e) in
    sym (slice_set-get reads t (kept_reads f told1) here)

-- the reads of a thread after one access more
pub more_reads : (f : Formula) (flows : List Running) (words : List ℕ) (reads : List (List Access)) (st : State Told) (t : ℕ) (told : Told) (th : Thread) (a : Access) (xs : List Access) → IsShown f flows words reads st → slice_get st.threads t ≡ Some told → slice_get reads t ≡ Some xs → slice_set reads t (with_read f xs a) ≡ slice_set reads t (kept_reads f (accessed told th a))
more_reads f flows words reads st t told th a xs h at e =
    let here : slice_get reads t ≡ Some (kept_reads f told) = ap (λ z. slice_get z t) h.reads_are ∙ slice_get-map (kept_reads f) st.threads t ∙ ap (option_map (kept_reads f)) at in
    let is : xs ≡ kept_reads f told = same_Some _ _ (sym e ∙ here) in
    ap (λ z. slice_set reads t (with_read f z a)) is ∙ ap (slice_set reads t) (sym (kept_more f told th a))

module _ (code : Code) (s : SetupView) (st : State Told) (t : ℕ) (told : Told) (at : slice_get st.threads t ≡ Some told) where
  own_is : (ws ws1 : List ℕ) (told1 : Told) (e : Effect Told) → own_outcome ws e ≡ Leaves ws1 told1 → (outcome (machine code s) ws e ≡ Leaves ws1 told1) × (effect_entry (machine code s) ws e ≡ [])
  own_is ws ws1 told1 Refused h = cc
  own_is ws ws1 told1 (Marks th) h = (h, refl)
  own_is ws ws1 told1 (Loads c next) h = (h, refl)
  own_is ws ws1 told1 (Stores c w th) h = (h, refl)
  own_is ws ws1 told1 (Operates e change) h = cc

  pub own_stepped : (ws1 : List ℕ) (told1 : Told) → own_outcome st.words (effect_of code s (Go t) told) ≡ Leaves ws1 told1 → (stepped (machine code s) st (Go t) ≡ Some (record { words = ws1; threads = slice_set st.threads t told1 })) × (added (machine code s) st (Go t) ≡ [])
  own_stepped ws1 told1 h =
      let q = own_is st.words ws1 told1 (effect_of code s (Go t) told) h in
      (ap (step_of_thread (machine code s) st (Go t)) at ∙ ap (with_thread (machine code s) st.threads t) q.0, ap (entry_of_thread (machine code s) st.words (Go t)) at ∙ q.1)

  own_not : (ws : List ℕ) (e : Effect Told) (next : State Told → Option (State Told)) → own_outcome ws e ≡ Blocked → if_nothing (effect_entry (machine code s) ws e) (option_and_then next (with_thread (machine code s) st.threads t (outcome (machine code s) ws e))) ≡ None
  own_not ws Refused next h = refl
  own_not ws (Marks th) next h = cc
  own_not ws (Loads c f) next h = ap (λ z. option_and_then next (with_thread (machine code s) st.threads t z)) h
  own_not ws (Stores c w th) next h = ap (λ z. option_and_then next (with_thread (machine code s) st.threads t z)) h
  own_not ws (Operates e change) next h = refl

  pub own_blocked : own_outcome st.words (effect_of code s (Go t) told) ≡ Blocked → (n : ℕ) → alone (machine code s) (suc n) t st ≡ None
  own_blocked h n =
      ap (λ z. if_nothing z (option_and_then (alone (machine code s) n t) (stepped (machine code s) st (Go t)))) (ap (entry_of_thread (machine code s) st.words (Go t)) at)
      ∙ ap (λ z. if_nothing (effect_entry (machine code s) st.words (effect_of code s (Go t) told)) (option_and_then (alone (machine code s) n t) z)) (ap (step_of_thread (machine code s) st (Go t)) at)
      ∙ own_not st.words (effect_of code s (Go t) told) (alone (machine code s) n t) h

-- ---- one own step, for the code

module _ (code : Code) (s : SetupView) (f : Formula) (t : ℕ) (st : State Told) (flows : List Running) (words : List ℕ) (reads : List (List Access)) (shown : IsShown f flows words reads st) (r r1 : Running) (at : slice_get flows t ≡ Some r) where
  here : Stands st t r.kept.thread
  here = stands f flows words reads st t r shown at

  pieces_at : (ws1 : List ℕ) (told1 : Told) → told1.pieces ≡ (here).told.pieces → pieces_of (slice_get (slice_set st.threads t told1) t) ≡ pieces_of (slice_get st.threads t)
  pieces_at ws1 told1 e = ap pieces_of (slice_get-set_same st.threads t told1 here.told here.at) ∙ e ∙ ap pieces_of (sym here.at)

  pub marked_step : (ws1 : List ℕ) → ((told : Told) → told.thread ≡ r.kept.thread → OwnIs code s t told words ws1 r1.kept.thread own.Marked) → StepsTo code s f t st (slice_set flows t r1) ws1 reads
  marked_step ws1 h =
      let told1 : Told = marked here.told r1.kept.thread in
      let o : own_outcome st.words (effect_of code s (Go t) here.told) ≡ Leaves ws1 told1 = ap (λ z. own_outcome z (effect_of code s (Go t) here.told)) (sym shown.words_are) ∙ h here.told here.is in
      let q = own_stepped code s st t here.told here.at ws1 told1 o in
      record {
        next = record { words = ws1; threads = slice_set st.threads t told1 };
        steps = q.0;
        adds = q.1;
        shown = shown_after f flows words ws1 reads reads st t r1 here.told told1 shown here.at refl (same_reads f flows words reads st t here.told told1 shown here.at refl);
        same_pieces = pieces_at ws1 told1 refl;
      }

  pub accessed_step : (ws1 : List ℕ) (a : Access) (xs : List Access) (reads1 : List (List Access)) → ((told : Told) → told.thread ≡ r.kept.thread → OwnIs code s t told words ws1 r1.kept.thread (own.Accessed a)) → slice_get reads t ≡ Some xs → reads1 ≡ slice_set reads t (with_read f xs a) → StepsTo code s f t st (slice_set flows t r1) ws1 reads1
  accessed_step ws1 a xs reads1 h e k =
      let told1 : Told = accessed here.told r1.kept.thread a in
      let o : own_outcome st.words (effect_of code s (Go t) here.told) ≡ Leaves ws1 told1 = ap (λ z. own_outcome z (effect_of code s (Go t) here.told)) (sym shown.words_are) ∙ h here.told here.is in
      let q = own_stepped code s st t here.told here.at ws1 told1 o in
      record {
        next = record { words = ws1; threads = slice_set st.threads t told1 };
        steps = q.0;
        adds = q.1;
        shown = shown_after f flows words ws1 reads reads1 st t r1 here.told told1 shown here.at refl (k ∙ more_reads f flows words reads st t here.told r1.kept.thread a xs shown here.at e);
        same_pieces = pieces_at ws1 told1 refl;
      }

  pub no_step : (ws1 : List ℕ) → ((told : Told) → told.thread ≡ r.kept.thread → OwnIs code s t told words ws1 r1.kept.thread own.Stays) → (n : ℕ) → alone (machine code s) (suc n) t st ≡ None
  no_step ws1 h = own_blocked code s st t here.told here.at (ap (λ z. own_outcome z (effect_of code s (Go t) here.told)) (sym shown.words_are) ∙ (h here.told here.is).1)

  pub step_inside : (ws1 : List ℕ) → ((told : Told) → told.thread ≡ r.kept.thread → OwnIs code s t told words ws1 r1.kept.thread own.Stays) → ComesOutside code s t st → ⊥
  step_inside ws1 h c =
      let same : here.told ≡ c.told = same_Some _ _ (sym here.at ∙ c.at) in
      let clash : false ≡ true = sym (h here.told here.is).0 ∙ ap (λ (z : Told). is_outside code s (next code s t z.thread)) same ∙ c.outside in
      cc

  pub step_outside : (ws1 : List ℕ) → ((told : Told) → told.thread ≡ r.kept.thread → OwnIs code s t told words ws1 r1.kept.thread own.Outside) → IsStuck code s t st × ComesOutside code s t st
  step_outside ws1 h =
      let o = h here.told here.is in
      (own_blocked code s st t here.told here.at (ap (λ z. own_outcome z (effect_of code s (Go t) here.told)) (sym shown.words_are) ∙ o.1), record { told = here.told; at = here.at; outside = o.0 })

-- ---- the operation of an entry

module _ (code : Code) (s : SetupView) (e : Entry) (st : State Told) (told : Told) (at : slice_get st.threads (label_thread (label_of e)) ≡ Some told) where
  abbrev t : ℕ
  t = label_thread (label_of e)

  made_is : (ws ws1 : List ℕ) (told1 : Told) (eff : Effect Told) → made_outcome (cells_of code s) e ws eff ≡ Leaves ws1 told1 → if_only e (effect_entry (machine code s) ws eff) (with_thread (machine code s) st.threads t (outcome (machine code s) ws eff)) ≡ Some (record { words = ws1; threads = slice_set st.threads t told1 })
  made_is ws ws1 told1 Refused h = cc
  made_is ws ws1 told1 (Marks th) h = cc
  made_is ws ws1 told1 (Loads c next) h = cc
  made_is ws ws1 told1 (Stores c w th) h = cc
  made_is ws ws1 told1 (Operates x change) h = go (same_entry x e) refl h
    where
      go : (b : Bool) → same_entry x e ≡ b → (if b then change_outcome ws (place_of (cells_of code s) x.obj) change (slice_get ws (place_of (cells_of code s) x.obj)) else Blocked) ≡ Leaves ws1 told1 → (if same_entry x e then with_thread (machine code s) st.threads t (outcome (machine code s) ws (Operates x change)) else None) ≡ Some (record { words = ws1; threads = slice_set st.threads t told1 })
      go true q k = ap (λ z. if z then with_thread (machine code s) st.threads t (outcome (machine code s) ws (Operates x change)) else None) q ∙ ap (with_thread (machine code s) st.threads t) k
      go false q k = cc

  not_made : (ws : List ℕ) (eff : Effect Told) → made_outcome (cells_of code s) e ws eff ≡ Blocked → if_only e (effect_entry (machine code s) ws eff) (with_thread (machine code s) st.threads t (outcome (machine code s) ws eff)) ≡ None
  not_made ws Refused h = refl
  not_made ws (Marks th) h = refl
  not_made ws (Loads c next) h = refl
  not_made ws (Stores c w th) h = refl
  not_made ws (Operates x change) h = go (same_entry x e) refl h
    where
      go : (b : Bool) → same_entry x e ≡ b → (if b then change_outcome ws (place_of (cells_of code s) x.obj) change (slice_get ws (place_of (cells_of code s) x.obj)) else Blocked) ≡ Blocked → (if same_entry x e then with_thread (machine code s) st.threads t (outcome (machine code s) ws (Operates x change)) else None) ≡ None
      go true q k = ap (λ z. if z then with_thread (machine code s) st.threads t (outcome (machine code s) ws (Operates x change)) else None) q ∙ ap (with_thread (machine code s) st.threads t) k
      go false q k = ap (λ z. if z then with_thread (machine code s) st.threads t (outcome (machine code s) ws (Operates x change)) else None) q

  made_here : made (machine code s) e st ≡ if_only e (effect_entry (machine code s) st.words (effect_of code s (label_of e) told)) (with_thread (machine code s) st.threads t (outcome (machine code s) st.words (effect_of code s (label_of e) told)))
  made_here =
      ap (λ z. if_only e z (stepped (machine code s) st (label_of e))) (ap (entry_of_thread (machine code s) st.words (label_of e)) at)
      ∙ ap (λ z. if_only e (effect_entry (machine code s) st.words (effect_of code s (label_of e) told)) z) (ap (step_of_thread (machine code s) st (label_of e)) at)

  pub makes : (ws1 : List ℕ) (told1 : Told) → made_outcome (cells_of code s) e st.words (effect_of code s (label_of e) told) ≡ Leaves ws1 told1 → made (machine code s) e st ≡ Some (record { words = ws1; threads = slice_set st.threads t told1 })
  makes ws1 told1 h = made_here ∙ made_is st.words ws1 told1 (effect_of code s (label_of e) told) h

  pub makes_not : made_outcome (cells_of code s) e st.words (effect_of code s (label_of e) told) ≡ Blocked → made (machine code s) e st ≡ None
  makes_not h = made_here ∙ not_made st.words (effect_of code s (label_of e) told) h

drop_own : (xs ys : List (List ℕ)) → drop (length xs) (xs ++ ys) ≡ ys
drop_own [] ys = refl
drop_own (x ∷ xs) ys = drop_own xs ys

module _ (code : Code) (s : SetupView) (f : Formula) (e : Entry) (st : State Told) (flows : List Running) (words : List ℕ) (reads : List (List Access)) (shown : IsShown f flows words reads st) (r r1 : Running) (at : slice_get flows e.thread ≡ Some r) where
  entry_here : Stands st e.thread r.kept.thread
  entry_here = stands f flows words reads st e.thread r shown at

  label_is : e.thread ≡ label_thread (label_of e)
  label_is = thread_of_label e (label_of e) refl

  entry_at : slice_get st.threads (label_thread (label_of e)) ≡ Some entry_here.told
  entry_at = ap (slice_get st.threads) (sym label_is) ∙ entry_here.at

  printed_step : (ws1 : List ℕ) (x : Noted) (printed : List (List ℕ)) → made_outcome (cells_of code s) e words (effect_of code s (label_of e) entry_here.told) ≡ Leaves ws1 (operated entry_here.told r1.kept.thread x printed) → MakesTo code s f e st (slice_set flows e.thread r1) ws1 reads (joined printed)
  printed_step ws1 x printed h =
      let told1 : Told = operated entry_here.told r1.kept.thread x printed in
      let o : made_outcome (cells_of code s) e st.words (effect_of code s (label_of e) entry_here.told) ≡ Leaves ws1 told1 = ap (λ z. made_outcome (cells_of code s) e z (effect_of code s (label_of e) entry_here.told)) (sym shown.words_are) ∙ h in
      record {
        next = record { words = ws1; threads = slice_set st.threads e.thread told1 };
        makes = makes code s e st entry_here.told entry_at ws1 told1 o ∙ ap (λ z. Some (record { words = ws1; threads = slice_set st.threads z told1 })) (sym label_is);
        shown = shown_after f flows words ws1 reads reads st e.thread r1 entry_here.told told1 shown entry_here.at refl (same_reads f flows words reads st e.thread entry_here.told told1 shown entry_here.at refl);
        prints =
            ap joined (sym (drop_own entry_here.told.pieces printed))
            ∙ ap (λ z. joined (drop (length entry_here.told.pieces) (pieces_of z))) (sym (slice_get-set_same st.threads e.thread told1 entry_here.told entry_here.at))
            ∙ ap (λ z. joined (drop (length (pieces_of z)) (pieces_of (slice_get (slice_set st.threads e.thread told1) e.thread)))) (sym entry_here.at);
      }

  pub refused_entry : (ws1 : List ℕ) → ((told : Told) → told.thread ≡ r.kept.thread → MadeIs code s told e words ws1 r1.kept.thread made_case.Refused) → made (machine code s) e st ≡ None
  refused_entry ws1 h = makes_not code s e st entry_here.told entry_at (ap (λ z. made_outcome (cells_of code s) e z (effect_of code s (label_of e) entry_here.told)) (sym shown.words_are) ∙ h entry_here.told entry_here.is)

  pub silent_entry : (ws1 : List ℕ) → ((told : Told) → told.thread ≡ r.kept.thread → MadeIs code s told e words ws1 r1.kept.thread made_case.Silent) → MakesTo code s f e st (slice_set flows e.thread r1) ws1 reads []
  silent_entry ws1 h = printed_step ws1 _ [] (h entry_here.told entry_here.is)

  pub printed_entry : (ws1 : List ℕ) (bytes : List ℕ) → ((told : Told) → told.thread ≡ r.kept.thread → MadeIs code s told e words ws1 r1.kept.thread (made_case.Printed bytes)) → MakesTo code s f e st (slice_set flows e.thread r1) ws1 reads bytes
  printed_entry ws1 bytes h = subst (MakesTo code s f e st (slice_set flows e.thread r1) ws1 reads) (append-nil bytes) (printed_step ws1 _ (bytes ∷ []) (h entry_here.told entry_here.is))
