-- Places in a text.
use Rattle.std.specs.Prelude.{ℕ}
use Rattle.rr_base.specs.declared.position.Position.{Position}

-- line and column, both from 1; a column counts bytes
abbrev pub position_at : ℕ → ℕ → Position
position_at line column = record { line = line; column = column }
