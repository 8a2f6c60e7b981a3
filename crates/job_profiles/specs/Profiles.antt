-- The profile that a job is given, and what a log keeps of it.
use Rattle.std.specs.Prelude.{◌≡◌, ℕ, Bool, ◌&&◌, List, filter, Option, Some, None, Result, Ok, Err}
use Rattle.command_line.specs.declared.answer.Answer.{Answer}
use Rattle.command_line.specs.declared.answer.Answer.TheVariants as answer
use Rattle.command_line.specs.declared.answer.Part.TheVariants as part
use Rattle.profiles.specs.Profile.{Pair}
use Rattle.profiles.specs.declared.profile.Profile.{Profile}
use Rattle.profiles.specs.declared.profile.Profile.TheVariants as profile
use Rattle.order_log.specs.Line.{is_name}
use Rattle.job_outcomes.specs.Steps.{IsFile, Lacks}
use Rattle.profile_book.specs.Faults.{number_of}
use Rattle.profile_book.specs.Reading.{Answers}
use Rattle.profile_book.specs.declared.fault.ProfileFault.{ProfileFault}
use Rattle.rr_base.specs.Files.{Files}

-- the profile that a file spells, or the fault for which it is refused
abbrev pub IsSpelled : (file : Result (List ℕ) Answer) → Result Profile Answer → Type 0
IsSpelled (Err a) r = r ≡ Err a
IsSpelled (Ok bytes) (Ok p) = Answers bytes (Ok p)
IsSpelled (Ok bytes) (Err a) = (fault : ProfileFault) × (number : ℕ) × Answers bytes (Err fault) × (number_of fault ≡ Some number) × (a ≡ answer.ProfileRefused number)

-- reading a profile by its name; without a name any two functions may be at work at once
abbrev pub IsProfile : Option Files → (name : Option (List ℕ)) → Result Profile Answer → Type 0
IsProfile files None r = r ≡ Ok profile.All
IsProfile files (Some name) r = (file : Result (List ℕ) Answer) × IsFile files 1048576 part.Profile name file × IsSpelled file r

-- a profile is named, and the name isn't held
abbrev pub LacksProfile : Option Files → (name : Option (List ℕ)) → Type 0
LacksProfile files None = ⊥
LacksProfile files (Some name) = Lacks files name

-- ---- what a log keeps

-- both texts are names of the language, as all functions have
abbrev pub are_names : Pair → Bool
are_names p = is_name p.0 && is_name p.1

-- the pairs that a source can have
abbrev pub named : Profile → Profile
named profile.All = profile.All
named (profile.Pairs ps) = profile.Pairs (filter are_names ps)
