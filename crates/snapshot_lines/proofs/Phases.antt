-- How far a thread is, by the words of its line.
use Rattle.std.proofs.Common.{◌≡◌, ℕ, min, List, [], ◌∷◌, ◌++◌, Option, Some, None, refl, sym, ap, subst, ◌∙◌, arith}
use Rattle.std.specs.Prelude.{codes}
use Rattle.std.specs.List.{AllByRecursion}
use Rattle.profiles.specs.Profile.{Text}
use Rattle.order_log.specs.Text.{number_text}
use Rattle.order_log.proofs.Lists.{All-append}
use Rattle.order_log.proofs.Parts.{Free}
use Rattle.snapshots.specs.Text.{head_fields, head_line, phase_fields}
use Rattle.snapshots.specs.declared.draft.Head.{Head}
use Rattle.snapshots.specs.declared.draft.HeadPhase.{HeadPhase}
use Rattle.snapshots.specs.declared.draft.HeadPhase.TheVariants as phase
use Rattle.snapshot_lines.specs.Fields.{fields_of, TakesNumber, TakesThree}
use Rattle.snapshot_lines.specs.Lines.{IsBegun, IsLone, IsPhase, IsTrapped, byte_most, clipped_phase, long_most, word_most}
use Rattle.snapshot_lines.proofs.Blanks.{fields_of-spaced}
use Rattle.snapshot_lines.proofs.Lines.{free_number, heads, tails}

-- ---- by the first byte

-- the first byte of the first field
abbrev pub byte : List Text → ℕ
byte [] = 0
byte ([] ∷ fs) = 0
byte ((b ∷ bs) ∷ fs) = b

pub fresh_only : (p : HeadPhase) → byte (phase_fields p) ≡ 102 → p ≡ phase.Fresh
fresh_only phase.Fresh e = refl
fresh_only (phase.Begun f) e = absurd (omega arith)
fresh_only phase.Running e = absurd (omega arith)
fresh_only phase.Ended e = absurd (omega arith)
fresh_only (phase.Trapped kind line) e = absurd (omega arith)

pub begun_only : (p : HeadPhase) → byte (phase_fields p) ≡ 98 → (f : ℕ) × (p ≡ phase.Begun f)
begun_only phase.Fresh e = absurd (omega arith)
begun_only (phase.Begun f) e = (f, refl)
begun_only phase.Running e = absurd (omega arith)
begun_only phase.Ended e = absurd (omega arith)
begun_only (phase.Trapped kind line) e = absurd (omega arith)

pub running_only : (p : HeadPhase) → byte (phase_fields p) ≡ 114 → p ≡ phase.Running
running_only phase.Fresh e = absurd (omega arith)
running_only (phase.Begun f) e = absurd (omega arith)
running_only phase.Running e = refl
running_only phase.Ended e = absurd (omega arith)
running_only (phase.Trapped kind line) e = absurd (omega arith)

pub ended_only : (p : HeadPhase) → byte (phase_fields p) ≡ 101 → p ≡ phase.Ended
ended_only phase.Fresh e = absurd (omega arith)
ended_only (phase.Begun f) e = absurd (omega arith)
ended_only phase.Running e = absurd (omega arith)
ended_only phase.Ended e = refl
ended_only (phase.Trapped kind line) e = absurd (omega arith)

pub trapped_only : (p : HeadPhase) → byte (phase_fields p) ≡ 116 → (kind : ℕ) × (line : ℕ) × (p ≡ phase.Trapped kind line)
trapped_only phase.Fresh e = absurd (omega arith)
trapped_only (phase.Begun f) e = absurd (omega arith)
trapped_only phase.Running e = absurd (omega arith)
trapped_only phase.Ended e = absurd (omega arith)
trapped_only (phase.Trapped kind line) e = (kind, line, refl)

-- ---- the fields of a thread's line

free_phase : (p : HeadPhase) → AllByRecursion (Free 32) (phase_fields p)
free_phase phase.Fresh = ((refl, (refl, (refl, (refl, (refl, tt))))), tt)
free_phase (phase.Begun f) = ((refl, (refl, (refl, (refl, (refl, tt))))), (free_number f, tt))
free_phase phase.Running = ((refl, (refl, (refl, (refl, (refl, (refl, (refl, tt))))))), tt)
free_phase phase.Ended = ((refl, (refl, (refl, (refl, (refl, tt))))), tt)
free_phase (phase.Trapped kind line) = ((refl, (refl, (refl, (refl, (refl, (refl, (refl, tt))))))), (free_number kind, (free_number line, tt)))

free_head : (h : Head) → AllByRecursion (Free 32) (head_fields h)
free_head h =
    (free_number h.number, (free_number h.count, (free_number h.arena, (free_number h.entries, (free_number h.revokes, (free_number h.printed, (free_number h.frames, (free_number h.stripes, (free_number h.regions, tt)))))))))

pub head_line_fields : (h : Head) → fields_of (head_line h) ≡ codes "thread" ∷ (head_fields h ++ phase_fields h.phase)
head_line_fields h = fields_of-spaced (codes "thread") (head_fields h ++ phase_fields h.phase) (refl, (refl, (refl, (refl, (refl, (refl, tt)))))) (All-append (Free 32) (head_fields h) (phase_fields h.phase) (free_head h) (free_phase h.phase))

-- ---- three numbers

module _ (most : ℕ) (before : List Text) where
  pub three_one : (x after : List Text) (o : Option (ℕ × ℕ × ℕ)) → o ≡ None → TakesNumber most before None x → TakesThree most before o after
  three_one x after o none h = subst (λ (r : Option (ℕ × ℕ × ℕ)). TakesThree most before r after) (sym none) (λ a b c rest e. h a (number_text b ∷ number_text c ∷ rest) e)

  pub three_two : (x y after : List Text) (m : ℕ) (o : Option (ℕ × ℕ × ℕ)) → o ≡ None → TakesNumber most before (Some m) x → TakesNumber most x None y → TakesThree most before o after
  three_two x y after m o none h k =
      subst (λ (r : Option (ℕ × ℕ × ℕ)). TakesThree most before r after) (sym none) (λ a b c rest e. k b (number_text c ∷ rest) (tails (number_text h.0) (number_text a) x (number_text b ∷ number_text c ∷ rest) (sym h.2 ∙ e)))

  pub three_three : (x y z after : List Text) (m n : ℕ) (o : Option (ℕ × ℕ × ℕ)) → o ≡ None → TakesNumber most before (Some m) x → TakesNumber most x (Some n) y → TakesNumber most y None z → TakesThree most before o after
  three_three x y z after m n o none h k j =
      subst (λ (r : Option (ℕ × ℕ × ℕ)). TakesThree most before r after) (sym none)
      (λ a b c rest e. j c rest (tails (number_text k.0) (number_text b) y (number_text c ∷ rest) (sym k.2 ∙ tails (number_text h.0) (number_text a) x (number_text b ∷ number_text c ∷ rest) (sym h.2 ∙ e))))

  pub three_all : (x y z : List Text) (m n k : ℕ) → TakesNumber most before (Some m) x → TakesNumber most x (Some n) y → TakesNumber most y (Some k) z → TakesThree most before (Some (m, n, k)) z
  three_all x y z m n k f g h = (f.0, g.0, h.0, f.1, g.1, h.1, f.2 ∙ ap (λ (r : List Text). number_text f.0 ∷ r) (g.2 ∙ ap (λ (r : List Text). number_text g.0 ∷ r) h.2))

-- ---- phases

module _ (before after : List Text) where
  -- a word that stands for itself
  lone_phase : (word : Text) (p0 : HeadPhase) → phase_fields p0 ≡ word ∷ [] → clipped_phase p0 ≡ p0 → ((p : HeadPhase) → byte (phase_fields p) ≡ byte (word ∷ []) → p ≡ p0) → before ≡ word ∷ after
      → (r : Option HeadPhase) → IsLone after p0 r → IsPhase before r
  lone_phase word p0 is clip only first None h = λ p e.
      let fields : word ∷ after ≡ phase_fields p = sym first ∙ e in
      let same : p ≡ p0 = only p (sym (ap byte fields) ∙ alike word after []) in
      h (tails word word after [] (fields ∙ ap phase_fields same ∙ is))
    where
      alike : (w : Text) (xs ys : List Text) → byte (w ∷ xs) ≡ byte (w ∷ ys)
      alike [] xs ys = refl
      alike (b ∷ bs) xs ys = refl
  lone_phase word p0 is clip only first (Some q) h = (p0, first ∙ ap (λ (r : List Text). word ∷ r) h.0 ∙ sym is, h.1 ∙ sym clip)

  pub fresh_phase : (r : Option HeadPhase) → before ≡ codes "fresh" ∷ after → IsLone after phase.Fresh r → IsPhase before r
  fresh_phase r first h = lone_phase (codes "fresh") phase.Fresh refl refl fresh_only first r h

  pub running_phase : (r : Option HeadPhase) → before ≡ codes "running" ∷ after → IsLone after phase.Running r → IsPhase before r
  running_phase r first h = lone_phase (codes "running") phase.Running refl refl running_only first r h

  pub ended_phase : (r : Option HeadPhase) → before ≡ codes "ended" ∷ after → IsLone after phase.Ended r → IsPhase before r
  ended_phase r first h = lone_phase (codes "ended") phase.Ended refl refl ended_only first r h

  pub begun_phase : (r : Option HeadPhase) → before ≡ codes "begun" ∷ after → IsBegun after r → IsPhase before r
  begun_phase None first h = λ p e.
      let fields : codes "begun" ∷ after ≡ phase_fields p = sym first ∙ e in
      let g = begun_only p (sym (ap byte fields)) in
      h g.0 (tails (codes "begun") (codes "begun") after (number_text g.0 ∷ []) (fields ∙ ap phase_fields g.1))
  begun_phase (Some q) first h = (phase.Begun h.0, first ∙ ap (λ (r : List Text). codes "begun" ∷ r) h.1, h.2)

  pub trapped_phase : (r : Option HeadPhase) → before ≡ codes "trapped" ∷ after → IsTrapped after r → IsPhase before r
  trapped_phase None first h = λ p e.
      let fields : codes "trapped" ∷ after ≡ phase_fields p = sym first ∙ e in
      let g = trapped_only p (sym (ap byte fields)) in
      h g.0 g.1 (tails (codes "trapped") (codes "trapped") after (number_text g.0 ∷ number_text g.1 ∷ []) (fields ∙ ap phase_fields g.2))
  trapped_phase (Some q) first h = (phase.Trapped h.0 h.1, first ∙ ap (λ (r : List Text). codes "trapped" ∷ r) h.2, h.3)

-- ---- functions and traps that are left

pub begun_none : (before after : List Text) (o : Option HeadPhase) → o ≡ None → TakesNumber word_most before None after → IsBegun before o
begun_none before after o none h = subst (IsBegun before) (sym none) (λ f e. h f [] e)

pub begun_some : (before after : List Text) (m : ℕ) (r : Option HeadPhase) → TakesNumber word_most before (Some m) after → IsLone after (phase.Begun m) r → IsBegun before r
begun_some before after m None h l = λ f e. l (tails (number_text h.0) (number_text f) after [] (sym h.2 ∙ e))
begun_some before after m (Some q) h l = (h.0, h.2 ∙ ap (λ (r : List Text). number_text h.0 ∷ r) l.0, l.1 ∙ ap phase.Begun h.1)

pub trapped_none : (before after : List Text) (o : Option HeadPhase) → o ≡ None → TakesNumber byte_most before None after → IsTrapped before o
trapped_none before after o none h = subst (IsTrapped before) (sym none) (λ k l e. h k (number_text l ∷ []) e)

pub trapped_lineless : (before after rest : List Text) (m : ℕ) (o : Option HeadPhase) → o ≡ None → TakesNumber byte_most before (Some m) after → TakesNumber long_most after None rest → IsTrapped before o
trapped_lineless before after rest m o none h g = subst (IsTrapped before) (sym none) (λ k l e. g l [] (tails (number_text h.0) (number_text k) after (number_text l ∷ []) (sym h.2 ∙ e)))

pub trapped_some : (before after rest : List Text) (m n : ℕ) (r : Option HeadPhase) → TakesNumber byte_most before (Some m) after → TakesNumber long_most after (Some n) rest → IsLone rest (phase.Trapped m n) r → IsTrapped before r
trapped_some before after rest m n None h g l = λ k j e.
    l (tails (number_text g.0) (number_text j) rest [] (sym g.2 ∙ tails (number_text h.0) (number_text k) after (number_text j ∷ []) (sym h.2 ∙ e)))
trapped_some before after rest m n (Some q) h g l = (
  h.0,
  g.0,
  h.2 ∙ ap (λ (r : List Text). number_text h.0 ∷ r) (g.2 ∙ ap (λ (r : List Text). number_text g.0 ∷ r) l.0),
  l.1 ∙ (λ i. phase.Trapped (h.1 i) (g.1 i)),
)

-- a line that is over has no phase
pub no_phase : (before : List Text) (o : Option HeadPhase) → o ≡ None → before ≡ [] → IsPhase before o
no_phase before o none over = subst (IsPhase before) (sym none) (λ p e. some p (sym over ∙ e))
  where
    some : (p : HeadPhase) → [] ≡ phase_fields p → ⊥
    some phase.Fresh e = cc
    some (phase.Begun f) e = cc
    some phase.Running e = cc
    some phase.Ended e = cc
    some (phase.Trapped kind line) e = cc
