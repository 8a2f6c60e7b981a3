-- Which layouts the objects of a site have.
use Rattle.std.specs.Prelude.{◌%◌, ◌==◌, nat_le, ◌&&◌, Bool, List, length}
use Rattle.std.specs.List.{list_all}
use Rattle.rr_base.specs.declared.layout.Layout.{Layout}
use Rattle.rr_base.specs.declared.layout.Site.{Site}

-- an object of the site has 1 to 65,535 cells with a kind for each, and is a whole number of elements
abbrev pub layout_fits : Layout → Bool
layout_fits l = nat_le 1 l.size && nat_le l.size 65535 && (length l.kinds == l.size) && nat_le 1 l.element && (l.size % l.element == 0)

-- all objects that a code can make have proper layouts
abbrev pub sites_fit : List Site → Bool
sites_fit sites = list_all (λ s. layout_fits s.layout) sites
