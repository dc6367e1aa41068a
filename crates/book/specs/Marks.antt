-- The numbers of the marks: 0 free, 1 meter, 2 maker. This page holds definitions only.
use Rattle.std.specs.Prelude.{ℕ}
use Rattle.book.specs.declared.mark.Mark.{Mark}
use Rattle.book.specs.declared.mark.Mark.TheVariants.{Free, Meter, Maker}

abbrev pub number_of : Mark → ℕ
number_of Free = 0
number_of Meter = 1
number_of Maker = 2
