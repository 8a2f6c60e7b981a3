-- What is read where it has too many bytes.
use Rattle.std.proofs.Common.{◌≡◌, ◌<◌, ◌+◌, refl, subst, ℕ, List, length, Option, Some, None, Err, IfSome, arith}
use Rattle.std.specs.Prelude.{replicate}
use Rattle.std.proofs.lemmas.List.{length-replicate}
use Rattle.command_line.specs.Contents as contents
use Rattle.command_line.specs.declared.answer.Answer.TheVariants as answer
use Rattle.command_line.specs.declared.answer.Part.{Part}
use Rattle.rr_base.specs.Files.{Files}
use Rattle.job_outcomes.specs.Steps.{IsFile, IsInput}

-- there are contents of every length
with_length : (n : ℕ) → (xs : List ℕ) × (length xs ≡ n)
with_length n = (replicate n 0, length-replicate n 0)

pub large_file : (o : Option Files) (most : ℕ) (what : Part) (name : List ℕ) (found : Option (List ℕ)) → found ≡ None → IfSome o (λ files. contents.IsWithin most (files name) found) → IsFile o most what name (Err (answer.TooLarge what))
large_file None most what name found e h =
    let xs = with_length (most + 1) in
    record { content = xs.0; held = tt; within = (omega (arith, xs.1), refl) }
large_file (Some files) most what name found e h = by (files name) refl (subst (λ f. contents.IsWithin most (files name) f) e h)
  where
    by : (held : Option (List ℕ)) → files name ≡ held → contents.IsWithin most held None → IsFile (Some files) most what name (Err (answer.TooLarge what))
    by None is h = absurd h
    by (Some content) is h = record { content = content; held = is; within = (h, refl) }

pub large_input : (o : Option (List ℕ)) (most : ℕ) (what : Part) → IfSome o (λ left. most < length left) → IsInput o most what (Err (answer.TooLarge what))
large_input None most what h =
    let xs = with_length (most + 1) in
    record { content = xs.0; had = tt; within = (omega (arith, xs.1), refl) }
large_input (Some left) most what h = record { content = left; had = refl; within = (h, refl) }
