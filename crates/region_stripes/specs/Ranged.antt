-- Regions of loops.
use Rattle.std.specs.Prelude.{Bool, true, false}
use Rattle.flow_code.specs.declared.region.Region.{Region}
use Rattle.flow_code.specs.declared.region.Region.TheVariants as region

-- the region is that of a loop, which takes the stripes of its range
abbrev pub is_ranged : Region → Bool
is_ranged (region.Whole locks) = false
is_ranged (region.Ranged counter bound spans) = true
is_ranged (region.Cell base locks) = false
