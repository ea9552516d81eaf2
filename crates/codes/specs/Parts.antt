-- A code's parts as the code takes them apart, over m: its name, a flag and the bit at a place.
use Rattle.std.specs.Prelude.{ℕ, ◌^◌, ◌/◌, ◌%◌, Bool, eqb}
use Rattle.meaning.specs.Code.{worth}
use Rattle.meaning.specs.Table.{Dir}

abbrev pub name_by : ℕ → ℕ → ℕ
name_by m code = code / 2 ^ m / 16

abbrev pub flag_by : ℕ → ℕ → Dir → Bool
flag_by m code d = eqb (code / 2 ^ m / worth d % 2) 1

abbrev pub bit_by : ℕ → ℕ → Bool
bit_by code place = eqb (code / 2 ^ place % 2) 1
