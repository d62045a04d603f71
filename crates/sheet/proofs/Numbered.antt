-- The numbers of refusals. Assumes nothing.
use Rattle.std.specs.Prelude.{Ok, Err}
use mathlib.Core.Path.{refl}
use native.Mathlib.Omega.{arith}
use Rattle.sheet.specs.declared.Reason.TheVariants.{WrongLength, TooManyRows, UnknownKind, UnusedField, OutOfRange, NotEarlier, WrongSort, LargeDenominator, TooWide, EndsInNumber, FewRecords, ShortMap, FewSlots, ValueCount, ValueOutside, ModelLength, NotABit, ShortBuffer, FalseClause, BadLine, BadClaim, NoSuchRow}
use Rattle.sheet.specs.Statements.{RefusalsNumbered, ZeroIsDone}

pub refusals_numbered : RefusalsNumbered
refusals_numbered WrongLength = (omega arith, omega arith)
refusals_numbered TooManyRows = (omega arith, omega arith)
refusals_numbered UnknownKind = (omega arith, omega arith)
refusals_numbered UnusedField = (omega arith, omega arith)
refusals_numbered OutOfRange = (omega arith, omega arith)
refusals_numbered NotEarlier = (omega arith, omega arith)
refusals_numbered WrongSort = (omega arith, omega arith)
refusals_numbered LargeDenominator = (omega arith, omega arith)
refusals_numbered TooWide = (omega arith, omega arith)
refusals_numbered EndsInNumber = (omega arith, omega arith)
refusals_numbered FewRecords = (omega arith, omega arith)
refusals_numbered ShortMap = (omega arith, omega arith)
refusals_numbered FewSlots = (omega arith, omega arith)
refusals_numbered ValueCount = (omega arith, omega arith)
refusals_numbered ValueOutside = (omega arith, omega arith)
refusals_numbered ModelLength = (omega arith, omega arith)
refusals_numbered NotABit = (omega arith, omega arith)
refusals_numbered ShortBuffer = (omega arith, omega arith)
refusals_numbered FalseClause = (omega arith, omega arith)
refusals_numbered BadLine = (omega arith, omega arith)
refusals_numbered BadClaim = (omega arith, omega arith)
refusals_numbered NoSuchRow = (omega arith, omega arith)

pub zero_is_done : ZeroIsDone
zero_is_done A (Ok a) e = (a, refl)
zero_is_done A (Err refusal) e = let n = (refusals_numbered refusal.reason).0 in absurd (omega (arith, n, e))
