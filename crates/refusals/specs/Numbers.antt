-- The number of each refusal, and the place that goes with a wrong or missing digit.
use Rattle.std.specs.Prelude.{ℕ, Some, None, Option}
use Rattle.refusals.specs.declared.refusal.Refusal.{Refusal}
use Rattle.refusals.specs.declared.refusal.Refusal.TheVariants.{PortBeyond, CellLength, CellMemoryLength, NoteMemoryLength, SlotBytesLength, IdleOrLookLength, PortCount, PeriodRange, OutputReserved, LineTooLong, WrongDigit, UnknownKind, FrameLength, UnknownArbiter, WrongTicket, SlotOpen, NoSlotNumber, TurnUsed, NoRoute, InputFull, RoutesFull, NoSuchRoute, GrantsUnsent, NoGrantLeft, NotesFull, NoNote, NoCell, OutOfPlace}

-- 1 to 14 are refused for what was handed in, 20 to 33 for the state
abbrev pub number_of : Refusal → ℕ
number_of PortBeyond = 1
number_of CellLength = 2
number_of CellMemoryLength = 3
number_of NoteMemoryLength = 4
number_of SlotBytesLength = 5
number_of IdleOrLookLength = 6
number_of PortCount = 7
number_of PeriodRange = 8
number_of OutputReserved = 9
number_of LineTooLong = 10
number_of (WrongDigit place) = 11
number_of UnknownKind = 12
number_of FrameLength = 13
number_of UnknownArbiter = 14
number_of WrongTicket = 20
number_of SlotOpen = 21
number_of NoSlotNumber = 22
number_of TurnUsed = 23
number_of NoRoute = 24
number_of InputFull = 25
number_of RoutesFull = 26
number_of NoSuchRoute = 27
number_of GrantsUnsent = 28
number_of NoGrantLeft = 29
number_of NotesFull = 30
number_of NoNote = 31
number_of NoCell = 32
number_of OutOfPlace = 33

-- the place in the line, in bytes from 0
abbrev pub place_of : Refusal → Option ℕ
place_of PortBeyond = None
place_of CellLength = None
place_of CellMemoryLength = None
place_of NoteMemoryLength = None
place_of SlotBytesLength = None
place_of IdleOrLookLength = None
place_of PortCount = None
place_of PeriodRange = None
place_of OutputReserved = None
place_of LineTooLong = None
place_of (WrongDigit place) = Some place
place_of UnknownKind = None
place_of FrameLength = None
place_of UnknownArbiter = None
place_of WrongTicket = None
place_of SlotOpen = None
place_of NoSlotNumber = None
place_of TurnUsed = None
place_of NoRoute = None
place_of InputFull = None
place_of RoutesFull = None
place_of NoSuchRoute = None
place_of GrantsUnsent = None
place_of NoGrantLeft = None
place_of NotesFull = None
place_of NoNote = None
place_of NoCell = None
place_of OutOfPlace = None
