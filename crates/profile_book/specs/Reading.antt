-- The profile that bytes spell.
use Rattle.std.specs.Prelude.{◌≡◌, ℕ, List, Some, None, Result, Ok, Err}
use Rattle.std.specs.Str.{IsUtf8}
use Rattle.profiles.specs.Profile.{Pair}
use Rattle.profiles.specs.declared.profile.Profile.{Profile}
use Rattle.profiles.specs.declared.profile.Profile.TheVariants as profile
use Rattle.serde_json.specs.Data.{Data}
use Rattle.serde_json.specs.Read.{read}
use Rattle.profile_book.specs.Listing.{pairs_of, IsSetOf}
use Rattle.profile_book.specs.declared.fault.ProfileFault.{ProfileFault}
use Rattle.profile_book.specs.declared.fault.ProfileFault.TheVariants as fault

-- the bytes are a JSON text of this value
pub record Spells (bytes : List ℕ) (value : Data) : Type 0 where
  pub utf8 : IsUtf8 bytes
  pub reads : read bytes ≡ Some value

-- the bytes are a JSON text of no value
abbrev pub IsNoJson : List ℕ → Type 0
IsNoJson bytes = (value : Data) → Spells bytes value → ⊥

-- the bytes are a JSON text of another form
pub record IsNoProfile (bytes : List ℕ) : Type 0 where
  pub value : Data
  pub spells : Spells bytes value
  pub form : pairs_of value ≡ None

-- the bytes are a JSON text that lists these pairs, in whatever order and how often
pub record IsProfile (bytes : List ℕ) (ps : List Pair) : Type 0 where
  pub value : Data
  pub listed : List Pair
  pub spells : Spells bytes value
  pub form : pairs_of value ≡ Some listed
  pub pairs : IsSetOf listed ps

-- what reading answers
abbrev pub Answers : List ℕ → Result Profile ProfileFault → Type 0
Answers bytes (Ok profile.All) = ⊥
Answers bytes (Ok (profile.Pairs ps)) = IsProfile bytes ps
Answers bytes (Err fault.NotJson) = IsNoJson bytes
Answers bytes (Err fault.NotProfile) = IsNoProfile bytes
Answers bytes (Err fault.OutOfMemory) = Unit {0}

-- ---- for private clauses

-- why no value was read
abbrev pub IsUnread : List ℕ → ProfileFault → Type 0
IsUnread bytes fault.NotJson = IsNoJson bytes
IsUnread bytes fault.NotProfile = ⊥
IsUnread bytes fault.OutOfMemory = Unit {0}
