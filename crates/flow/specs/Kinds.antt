-- The kinds of a step as the numbers by which a step is packed. This page holds definitions only.
use Rattle.std.specs.Prelude.{ℕ}
use Rattle.flow.specs.declared.kind.Kind.{Kind}
use Rattle.flow.specs.declared.kind.Kind.TheVariants.{Room, Left, Entered, Unused}

abbrev pub number_of : Kind → ℕ
number_of Room = 0
number_of Left = 1
number_of Entered = 2
number_of Unused = 3
