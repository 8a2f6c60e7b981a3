-- The pairs of texts that a JSON value lists.
use Rattle.std.specs.Prelude.{◌↔◌, List, [], ◌∷◌, Option, Some, None, option_map, option_and_then, codes, Contains}
use Rattle.profiles.specs.Profile.{Text, Pair, AreAscending, ordered}
use Rattle.serde_json.specs.Data.{Data, Items, no_items, item, Members, no_members, member}
use Rattle.serde_json.specs.Find.{get_member, as_object, as_array, as_str}

-- two function names with the lesser first, in byte order
abbrev pub pair_of : Option Text → Option Text → Option Pair
pair_of (Some f) (Some g) = Some (ordered f g)
pair_of _ _ = None

-- the pair of an array of exactly two texts
abbrev pub pair_of_items : Items → Option Pair
pair_of_items (item d (item e no_items)) = pair_of (as_str d) (as_str e)
pair_of_items _ = None

-- the pair in a JSON array of two strings
abbrev pub pair_in : Data → Option Pair
pair_in d = option_and_then pair_of_items (as_array d)

-- one pair before the others, where all are there
abbrev pub with_first : Option Pair → Option (List Pair) → Option (List Pair)
with_first p ps = option_and_then (λ q. option_map (λ qs. q ∷ qs) ps) p

-- the pairs of an array, where each item has one
abbrev pub pairs_in : Items → Option (List Pair)
pairs_in no_items = Some []
pairs_in (item d ds) = with_first (pair_in d) (pairs_in ds)

-- what stands at a key, where it is the only one
abbrev pub only_at : Text → Members → Option Data
only_at key (member k d no_members) = get_member key (member k d no_members)
only_at key _ = None

-- the array of an object with the one key `pairs`
abbrev pub array_in : Data → Option Items
array_in d = option_and_then as_array (option_and_then (only_at (codes "pairs")) (as_object d))

-- what an object with the one key `pairs` lists there, pair by pair
abbrev pub pairs_of : Data → Option (List Pair)
pairs_of d = option_and_then pairs_in (array_in d)

-- the strictly ascending list that has exactly the listed pairs
pub record IsSetOf (listed ps : List Pair) : Type 0 where
  pub ascending : AreAscending ps
  pub same : (p : Pair) → Contains ps p ↔ Contains listed p
