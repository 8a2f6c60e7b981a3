-- A text that is read as a source without a fault has a sound core tree, so its code is valid and makes the tree's events.
use Rattle.std.proofs.Common.{◌≡◌, ℕ, zero, suc, ◌+◌, ◌^◌, ◌≤◌, true, List, [], length, Option, Some, None, Result, Ok, Err, refl, sym, ap, ◌∙◌, subst}
use Rattle.std.specs.Prelude.{IfOk}
use Rattle.std.specs.Option.{option_map}
use Rattle.rr_base.specs.Texts.{Text}
use Rattle.c_lexer.specs.declared.fault.LexFault.{LexFault}
use Rattle.c_lexer.specs.declared.token.Token.{Token}
use Rattle.c_lexer.specs.Tokens.{tokens_of}
use Rattle.c_tree.specs.Tree.{Outer}
use Rattle.c_grammar.specs.Exact.{parsed, IsExact}
use Rattle.c_parse_rules.specs.Gives.{limit, lexemes}
use Rattle.c_grammar.specs.Parse.{Outcome, Got, Stuck, Spent}
use Rattle.c_grammar.proofs.Exactly.{parsed_exactly}
use Rattle.c_types.specs.declared.fault.Found.{Found}
use Rattle.c_sites.specs.Whole.{first_fault}
use Rattle.core_tree.specs.Core.{Program}
use Rattle.core_tree.specs.Meaning.{run_of}
use Rattle.call_targets.specs.Resolved.{resolved}
use Rattle.call_targets.proofs.Places.{main_stays}
use Rattle.call_targets.proofs.Runs.{same_runs}
use Rattle.call_targets.proofs.Sounds.{resolved_sound}
use Rattle.c_elaborate.specs.Whole.{core_of_source}
use Rattle.flow_code.specs.declared.code.Code.{Code}
use Rattle.flow_code.specs.Settle.{IsRunnable}
use Rattle.flow_code.specs.Threads.{Thread}
use Rattle.flow_code.specs.declared.thread.Phase.TheVariants as phase
use Rattle.flow_code.specs.Valid.{is_valid}
use Rattle.flow_code.proofs.Runnable.{valid_runnable}
use Rattle.flow_lower.specs.Lowered.{lowered}
use Rattle.core_tree.specs.Sound.{IsSound}
use Rattle.lower_sound.specs.Follows.{Follows, IsAtStart, starts_as}
use Rattle.lower_sound.proofs.Valid.{valid}
use Rattle.lower_sound.proofs.SoundWithin.{sound_within}
use Rattle.lower_sound.proofs.Threads.{follows}
use Rattle.sync_objects.specs.Setup.{SetupView}
use Rattle.source_sound.specs.Members.{StructsHaveMembers}
use Rattle.source_sound.proofs.Law.{law_sound}
use Rattle.front.specs.declared.reading.SourceFault.{SourceFault}
use Rattle.front.specs.Plain.{plain_code}
use Rattle.front.specs.Readings.{sound, refused, by_first_fault, refusal_of, IsByTree, IsByTokens, IsReading}
use Rattle.front.proofs.Members.{program_members}

-- a source without a fault, as the grammar has it
abbrev IsGood : List Outer → Type 0
IsGood os = StructsHaveMembers os × (first_fault os ≡ None)

pub same_tree : (os ps : List Outer) → sound os ≡ sound ps → os ≡ ps
same_tree os ps e = cc e

by_fault : (os ps : List Outer) (f : Option Found) → first_fault ps ≡ f → StructsHaveMembers ps → sound os ≡ by_first_fault ps f → IsGood os
by_fault os ps None none members e = subst IsGood (sym (same_tree os ps e)) (members, none)
by_fault os ps (Some x) some members e = absurd (cc e)

by_tree : (tokens : List Token) (os : List Outer) (o : Outcome (List Outer)) → IsExact limit (lexemes tokens) o → IsByTree tokens o (sound os) → IsGood os
by_tree tokens os (Got ps rest) exact e = let says = exact.says in by_fault os ps (first_fault ps) refl (program_members ps says.1 [] says.2) e
by_tree tokens os (Stuck fault rest) exact e = absurd (cc e)
by_tree tokens os Spent exact e = absurd e

pub by_refusal : (os : List Outer) (o : Option SourceFault) → option_map refused o ≡ Some (sound os) → ⊥
by_refusal os None e = absurd (cc e)
by_refusal os (Some fault) e = absurd (cc e)

by_tokens : (os : List Outer) (ts : Result (List Token) LexFault) → IsByTokens ts (sound os) → IsGood os
by_tokens os (Ok tokens) h = by_tree tokens os (parsed limit (lexemes tokens)) (parsed_exactly limit (lexemes tokens)) h
by_tokens os (Err fault) h = absurd (by_refusal os (refusal_of fault) h)

-- the code has a function for each function and each type of pointers to functions
abbrev pub IsFew : Program → Type 0
IsFew p = length p.functions + length p.pointers ≤ 2 ^ 20

pub source_sound : (text : Text) (os : List Outer) → IsReading text (sound os) → IsFew (core_of_source os) → IsSound (core_of_source os)
source_sound text os h few = let good = by_tokens os (tokens_of text) h in law_sound os good.0 good.1 few

pub as_lowered : (os : List Outer) → plain_code os ≡ lowered (resolved (core_of_source os))
unfolding plain_code
as_lowered os = refl

pub valid_code : (text : Text) (os : List Outer) (code : Code) → IsReading text (sound os) → code ≡ plain_code os → IsFew (core_of_source os) → is_valid code ≡ true
valid_code text os code h e few = subst (λ c. is_valid c ≡ true) (sym (e ∙ as_lowered os)) (valid (resolved (core_of_source os)) (resolved_sound (core_of_source os) (source_sound text os h few)) refl)

-- a resolved tree begins where the tree with its pointers does
resolved_start : (p : Program) (s : SetupView) (t : ℕ) (m : Thread) → IsAtStart p s t m → IsAtStart (resolved p) s t m
resolved_start p s t m h = record { phase = h.phase ∙ by t; count = h.count; arena = h.arena; printed = h.printed; below = h.below; stripes = h.stripes }
  where
    by : (n : ℕ) → starts_as p n ≡ starts_as (resolved p) n
    by zero = ap phase.Begun (sym (main_stays p))
    by (suc n) = refl

pub source_events : (text : Text) (os : List Outer) (s : SetupView) (t : ℕ) (m : Thread) → IsReading text (sound os) → IsFew (core_of_source os) → 1 ≤ s.limit → IsAtStart (core_of_source os) s t m → Follows (plain_code os) s t (run_of (core_of_source os) s t) m
source_events text os s t m h few limit start =
    let p = core_of_source os in
    subst (λ c. Follows c s t (run_of p s t) m) (sym (as_lowered os))
    (subst (λ r. Follows (lowered (resolved p)) s t r m) (same_runs p s t)
    (follows (resolved p) s t m (sound_within (resolved p) (resolved_sound p (source_sound text os h few))) refl limit (resolved_start p s t m start)))

pub runnable_code : (text : Text) (os : List Outer) (code : Code) → IsReading text (sound os) → code ≡ plain_code os → IsFew (core_of_source os) → IsRunnable code
runnable_code text os code h e few = valid_runnable code (valid_code text os code h e few)

pub ok_as : {A E : Type 0} (r : Result A E) (P Q : A → Type 0) → ((a : A) → P a → Q a) → IfOk r P → IfOk r Q
ok_as (Ok a) P Q f h = f a h
ok_as (Err e) P Q f h = h
