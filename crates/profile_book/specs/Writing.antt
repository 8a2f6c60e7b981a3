-- The text of a profile's pairs.
use Rattle.std.specs.Prelude.{List, map, codes}
use Rattle.profiles.specs.Profile.{Text, Pair}
use Rattle.serde_json.specs.Data.{Data, string, array, object, Items, no_items, item, no_members, member}
use Rattle.serde_json.specs.View.{items_of}
use Rattle.serde_json.specs.Written.{compact_text}

-- `["f","g"]`
abbrev pub pair_value : Pair → Data
pair_value p = array (item (string p.0) (item (string p.1) no_items))

-- `["f","g"],["f","main"]`
abbrev pub items_of_pairs : List Pair → Items
items_of_pairs ps = items_of (map pair_value ps)

-- `{"pairs":[["f","g"],["f","main"]]}`
abbrev pub profile_value : List Pair → Data
profile_value ps = object (member (codes "pairs") (array (items_of_pairs ps)) no_members)

-- as JSON with no space, and escapes only where JSON asks for them
unfoldable pub profile_text : List Pair → Text
profile_text ps = compact_text (profile_value ps)
