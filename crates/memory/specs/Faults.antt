-- The numbers of the faults, and what a reading comes to that may have one: section "The numbers" of
-- document 01.
-- Assumes nothing.
use Rattle.std.specs.Prelude.{ℕ, Result, Ok, Err}
use Rattle.memory.specs.declared.faults.Fault.{Fault}
use Rattle.memory.specs.declared.faults.Fault.TheVariants.{NotNames, Unreadable, TooLarge, NotAllowed, NotDue, NotFormed, NotComplete, BelowEmpty, RangeDiffers, ShuffleDiffers, Outside, Empty, NotMember, OutputShort, ScratchShort}
use Rattle.memory.specs.declared.Row.{Row}

-- column "no." of the table
abbrev pub fault_number : Fault → ℕ
fault_number NotNames = 1
fault_number Unreadable = 2
fault_number TooLarge = 3
fault_number NotAllowed = 4
fault_number NotDue = 5
fault_number NotFormed = 6
fault_number NotComplete = 7
fault_number BelowEmpty = 8
fault_number RangeDiffers = 9
fault_number ShuffleDiffers = 10
fault_number Outside = 11
fault_number Empty = 12
fault_number NotMember = 13
fault_number OutputShort = 14
fault_number ScratchShort = 15

-- the number of what may have a fault; 0 where there is none
abbrev pub fault_of : {A : Type 0} → Result A Fault → ℕ
fault_of (Ok x) = 0
fault_of (Err f) = fault_number f

-- what is read, or the number of its fault
abbrev pub numbered : {A : Type 0} → Result A Fault → Result A ℕ
numbered (Ok x) = Ok x
numbered (Err f) = Err (fault_number f)

-- What a row line reads as: a row, or a number for its fault
abbrev pub Parsed : Type 0
Parsed = Result Row ℕ
