-- The first line of a thread by its fields.
use Rattle.std.proofs.Common.{◌≡◌, ℕ, min, List, [], ◌∷◌, ◌++◌, Option, Some, None, refl, sym, ap, ◌∙◌}
use Rattle.std.specs.Prelude.{codes}
use Rattle.profiles.specs.Profile.{Text}
use Rattle.order_log.specs.Text.{number_text}
use Rattle.snapshots.specs.Text.{head_fields, head_line, phase_fields}
use Rattle.snapshots.specs.declared.draft.Head.{Head}
use Rattle.snapshots.specs.declared.draft.HeadPhase.{HeadPhase}
use Rattle.snapshot_lines.specs.Fields.{fields_of, TakesThree}
use Rattle.snapshot_lines.specs.Lines.{IsAny, IsPhase, ReadsAs, clipped_head, long_most, word_most}
use Rattle.snapshot_lines.proofs.Blanks.{text_by_fields}
use Rattle.snapshot_lines.proofs.Lines.{read_none, tails}
use Rattle.snapshot_lines.proofs.Phases.{head_line_fields}

-- three numbers in front
abbrev front : ℕ → ℕ → ℕ → List Text → List Text
front a b c rest = number_text a ∷ number_text b ∷ number_text c ∷ rest

-- what stands after them
after_front : (a b c x y z : ℕ) (rest more : List Text) → front a b c rest ≡ front x y z more → rest ≡ more
after_front a b c x y z rest more e = tails _ _ _ _ (tails _ _ _ _ (tails _ _ _ _ e))

module _ (line : Text) (o : Option Head) where
  pub no_word : o ≡ None → ((rest : List Text) → fields_of line ≡ codes "thread" ∷ rest → ⊥) → (x : Head) → line ≡ head_line x → ⊥
  no_word none h x e = h (head_fields x ++ phase_fields x.phase) (ap fields_of e ∙ head_line_fields x)

  module _ (after : List Text) (word : fields_of line ≡ codes "thread" ∷ after) where
    -- the numbers of a thread's line
    numbers : (x : Head) → line ≡ head_line x → after ≡ front x.number x.count x.arena (front x.entries x.revokes x.printed (front x.frames x.stripes x.regions (phase_fields x.phase)))
    numbers x e = tails (codes "thread") (codes "thread") after (head_fields x ++ phase_fields x.phase) (sym word ∙ ap fields_of e ∙ head_line_fields x)

    pub no_first : (l1 : List Text) → o ≡ None → TakesThree word_most after None l1 → ReadsAs IsAny head_line clipped_head line o
    no_first l1 none h = read_none IsAny head_line clipped_head line o none (λ x is e. h x.number x.count x.arena _ (numbers x e))

    module _ (l1 : List Text) (a : ℕ × ℕ × ℕ) (first : TakesThree word_most after (Some a) l1) where
      second_of : (x : Head) → line ≡ head_line x → l1 ≡ front x.entries x.revokes x.printed (front x.frames x.stripes x.regions (phase_fields x.phase))
      second_of x e = after_front first.0 first.1 first.2 x.number x.count x.arena l1 _ (sym first.6 ∙ numbers x e)

      pub no_second : (l2 : List Text) → o ≡ None → TakesThree word_most l1 None l2 → ReadsAs IsAny head_line clipped_head line o
      no_second l2 none h = read_none IsAny head_line clipped_head line o none (λ x is e. h x.entries x.revokes x.printed _ (second_of x e))

      module _ (l2 : List Text) (b : ℕ × ℕ × ℕ) (second : TakesThree word_most l1 (Some b) l2) where
        third_of : (x : Head) → line ≡ head_line x → l2 ≡ front x.frames x.stripes x.regions (phase_fields x.phase)
        third_of x e = after_front second.0 second.1 second.2 x.entries x.revokes x.printed l2 _ (sym second.6 ∙ second_of x e)

        pub no_third : (l3 : List Text) → o ≡ None → TakesThree long_most l2 None l3 → ReadsAs IsAny head_line clipped_head line o
        no_third l3 none h = read_none IsAny head_line clipped_head line o none (λ x is e. h x.frames x.stripes x.regions _ (third_of x e))

        module _ (l3 : List Text) (c : ℕ × ℕ × ℕ) (third : TakesThree long_most l2 (Some c) l3) where
          pub no_end : o ≡ None → IsPhase l3 None → ReadsAs IsAny head_line clipped_head line o
          no_end none h = read_none IsAny head_line clipped_head line o none (λ x is e. h x.phase (after_front third.0 third.1 third.2 x.frames x.stripes x.regions l3 _ (sym third.6 ∙ third_of x e)))

          pub head_reads : (p : HeadPhase) → IsPhase l3 (Some p)
              → ReadsAs IsAny head_line clipped_head line
              (Some (record { number = a.0; count = a.1; arena = a.2; entries = b.0; revokes = b.1; printed = b.2; frames = c.0; stripes = c.1; regions = c.2; phase = p }))
          head_reads p h =
              let x : Head = record {
                number = first.0;
                count = first.1;
                arena = first.2;
                entries = second.0;
                revokes = second.1;
                printed = second.2;
                frames = third.0;
                stripes = third.1;
                regions = third.2;
                phase = h.0;
              } in
              let fields : fields_of line ≡ codes "thread" ∷ (head_fields x ++ phase_fields x.phase) =
              word ∙ ap (λ (r : List Text). codes "thread" ∷ r)
              (first.6 ∙ ap (front first.0 first.1 first.2) (second.6 ∙ ap (front second.0 second.1 second.2) (third.6 ∙ ap (front third.0 third.1 third.2) h.1))) in (
                x,
                tt,
                text_by_fields line (codes "thread") (head_fields x ++ phase_fields x.phase) fields,
                λ i. record {
                  number = first.3 i;
                  count = first.4 i;
                  arena = first.5 i;
                  entries = second.3 i;
                  revokes = second.4 i;
                  printed = second.5 i;
                  frames = third.3 i;
                  stripes = third.4 i;
                  regions = third.5 i;
                  phase = h.2 i;
                },
              )
