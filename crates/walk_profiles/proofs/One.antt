-- A log has one profile on a code.
use Rattle.std.proofs.Common.{◌≡◌, refl, sym, ap, ◌∙◌, ℕ, List, [], ◌∷◌}
use Rattle.command_line.specs.declared.answer.Answer.{Answer}
use Rattle.command_line.specs.declared.answer.Answer.TheVariants as answer
use Rattle.core_run.specs.declared.outcome.Walk.{Walk}
use Rattle.core_run.specs.declared.outcome.Walk.TheVariants as walk
use Rattle.profiles.specs.Profile.{Pair}
use Rattle.flow_code.specs.declared.code.Code.{Code}
use Rattle.job_outcomes.specs.Puts.{Put}
use Rattle.job_outcomes.specs.declared.outcome.Outcome.{Outcome}
use Rattle.profile_book.proofs.PairOrder.{one_set}
use Rattle.profile_book.specs.Writing.{profile_text}
use Rattle.seen_pairs.specs.Seen.{AreSeen}
use Rattle.sync_objects.specs.Setup.{SetupView}
use Rattle.sync_objects.specs.declared.entry.Entry.{Entry}
use Rattle.walk_answers.proofs.OneWalk.{one_walk}
use Rattle.walk_answers.specs.Walking as told
use Rattle.walk_profiles.specs.Profiling.{answer_of, PutsFor, PutsSeen, ShowsProfile}

-- what is told of a walk, without what it prints
abbrev silent : Answer → Answer
silent (answer.Done out) = answer.Done []
silent (answer.Trapped out kind thread line) = answer.Trapped [] kind thread line
silent a = a

silent_of : (w : Walk) → answer_of w ≡ silent (told.answer_of w)
silent_of (walk.Done out reads ends) = refl
silent_of (walk.Trapped kind thread line out reads ends) = refl
silent_of (walk.Wrong at) = refl

module _ (code : Code) (s : SetupView) (es : List Entry) (name : List ℕ) where
  same_pairs : (ps qs : List Pair) → AreSeen code s es ps → AreSeen code s es qs → ps ≡ qs
  same_pairs ps qs h g =
      one_set qs ps qs
      (record { ascending = h.ascending; same = λ p. (λ c. (g.each p).1 ((h.each p).0 c), λ c. (h.each p).1 ((g.each p).0 c)) })
      (record { ascending = g.ascending; same = λ p. (λ c. c, λ c. c) })

  same_files : (a b : List Put) → PutsSeen code s es name a → PutsSeen code s es name b → a ≡ b
  same_files a b h g = h.are ∙ ap (λ (ps : List Pair). record { name = name; content = profile_text ps } ∷ []) (same_pairs h.pairs g.pairs h.seen g.seen) ∙ sym g.are

  same_puts : (v w : Walk) (a b : List Put) → answer_of v ≡ answer_of w → PutsFor code s es name v a → PutsFor code s es name w b → a ≡ b
  same_puts (walk.Done out reads ends) (walk.Done out' reads' ends') a b e h g = same_files a b h g
  same_puts (walk.Done out reads ends) (walk.Trapped kind thread line out' reads' ends') a b e h g = absurd (cc e)
  same_puts (walk.Done out reads ends) (walk.Wrong at) a b e h g = absurd (cc e)
  same_puts (walk.Trapped kind thread line out reads ends) (walk.Done out' reads' ends') a b e h g = absurd (cc e)
  same_puts (walk.Trapped kind thread line out reads ends) (walk.Trapped kind' thread' line' out' reads' ends') a b e h g = same_files a b h g
  same_puts (walk.Trapped kind thread line out reads ends) (walk.Wrong at) a b e h g = absurd (cc e)
  same_puts (walk.Wrong at) (walk.Done out reads ends) a b e h g = absurd (cc e)
  same_puts (walk.Wrong at) (walk.Trapped kind thread line out reads ends) a b e h g = absurd (cc e)
  same_puts (walk.Wrong at) (walk.Wrong at') a b e h g = h ∙ sym g

pub one_profile : (code : Code) (s : SetupView) (es : List Entry) (name : List ℕ) (o p : Outcome) → ShowsProfile code s es name o → ShowsProfile code s es name p → o ≡ p
one_profile code s es name o p h g =
    let one = one_walk code s es told.no_reads h.walk g.walk h.walks g.walks in
    let same : answer_of h.walk ≡ answer_of g.walk = silent_of h.walk ∙ ap silent one.0 ∙ sym (silent_of g.walk) in
    let puts : o.puts ≡ p.puts = same_puts code s es name h.walk g.walk o.puts p.puts same h.puts g.puts in
    let told : o.answer ≡ p.answer = h.told ∙ same ∙ sym g.told in
    λ i. record { puts = puts i; answer = told i }
