-- The number of the parts that the reader keeps. No public clause cites this module.
use Rattle.fixed_milli.specs.declared.numeral.Numeral.{Numeral}
use Rattle.fixed_milli.specs.Number.{Number}

-- the number with these parts
abbrev pub number_of : Numeral → Number
number_of n = record {
  negative = n.negative;
  whole = n.whole.now;
  fraction = n.fraction.now;
  shrinks = n.shrinks;
  exponent = n.exponent.now;
}
