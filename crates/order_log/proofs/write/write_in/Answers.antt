use Rattle.std.proofs.Common.{ℕ, List, [], ◌∷◌, ◌++◌, length, map, ap, ◌∙◌}
use Rattle.std.specs.Prelude.{codes}
use Rattle.profiles.specs.Profile.{Text}
use Rattle.profiles.specs.declared.profile.Profile.{Profile}
use Rattle.sync_objects.specs.declared.entry.Entry.{Entry}
use Rattle.sync_objects.specs.Setup.{SetupView}
use Rattle.order_log.specs.Text.{number_text, hex_text, profile_lines, groups_of, group_line, text_of}
use Rattle.order_log.proofs.Written.{written}
use Rattle.order_log.proofs.write.write_in.Goals as goal

-- a text, and a line of a number after it
abbrev following : Text → Text → ℕ → Text
following out word n = out ++ ((word ++ number_text n) ++ 10 ∷ [])

pub returns : goal.returns
returns c =
    let setup = c.setup-setup.ensures in
    let slots = c.from.ensures ∙ c.slots.ensures.value ∙ ap (λ (s : SetupView). s.slots) setup in
    let cells = c.from-2.ensures ∙ c.cells.ensures.value ∙ ap (λ (s : SetupView). s.cells) setup in
    let limit = c.from-3.ensures ∙ c.limit.ensures.value ∙ ap (λ (s : SetupView). s.limit) setup in
    let size = c.len.ensures ∙ ap length (c.input.ensures.value ∙ ap (λ (s : SetupView). s.input) setup) in
    let input = c.as_slice.ensures ∙ c.input-2.ensures.value ∙ ap (λ (s : SetupView). s.input) setup in
    let entries = c.as_slice-2.ensures ∙ c.entries.ensures.value in
    written c.args.version c.args.log.now c.extend_from_slice.new.self c.push.new.self c.push_number_line.new.out c.push_number_line-2.new.out c.push_number_line-3.new.out c.push_profile_lines.new.out c.push_number_line-4.new.out c.push_hex.new.out
    c.push-2.new.self c.push_entry_lines.new.out
    (c.in_ok-extend_from_slice.ensures.ok ∙ (λ i. c.new-out.ensures i ++ c.line.ensures i))
    c.in_ok-push.ensures.ok
    (c.in_ok-push_number_line.ensures ∙ ap (following c.push.new.self (codes "slots ")) slots)
    (c.in_ok-push_number_line-2.ensures ∙ ap (following c.push_number_line.new.out (codes "cells ")) cells)
    (c.in_ok-push_number_line-3.ensures ∙ ap (following c.push_number_line-2.new.out (codes "limit ")) limit)
    (c.in_ok-push_profile_lines.ensures ∙ ap (λ (p : Profile). c.push_number_line-3.new.out ++ text_of (profile_lines p)) c.profile.ensures.value)
    (c.in_ok-push_number_line-4.ensures ∙ ap (following c.push_profile_lines.new.out (codes "input ")) size)
    (c.in_ok-push_hex.ensures ∙ ap (λ (bs : List ℕ). c.push_number_line-4.new.out ++ hex_text bs) input)
    c.in_ok-push-2.ensures.ok
    (c.in_ok-push_entry_lines.ensures ∙ ap (λ (es : List Entry). c.push-2.new.self ++ text_of (map group_line (groups_of c.args.version es))) entries)
