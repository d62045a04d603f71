-- What reads come to, one after the other, by what each of them answered. Assumes nothing.
use Rattle.std.specs.Prelude.{◌≡◌, Bool, true, false, List, [], ◌∷◌, ◌++◌, ℕ, ◌+◌, ◌-◌, ◌<◌, ◌≤◌, ⊤, eqb, length, take, Result, Ok, Err, IfOk}
use Rattle.std.specs.declared.option.Option.{Option}
use Rattle.std.specs.Io.KnownBytes.{Consumes, IsAtEnd}
use Rattle.std.specs.IoError.{error_kind}
use Rattle.std_io.specs.declared.io.error.Error.{Error}
use Rattle.std_io.specs.declared.io.kind.ErrorKind.{ErrorKind}
use Rattle.std_io.specs.declared.io.kind.ErrorKind.TheVariants.{Interrupted}
use Rattle.whole.specs.Tests.{if◌then◌otherwise◌}
use Rattle.standard_input.specs.declared.Progress.{Progress}
use Rattle.standard_input.specs.declared.Progress.TheVariants.{Going, Whole, Failed}

-- what a read answered: how many bytes came, or the kind of its error
abbrev pub Read : Type 0
Read = Result ℕ ErrorKind

abbrev pub told : Result ℕ Error → Read
told (Ok n) = Ok n
told (Err e) = Err (error_kind e)

abbrev pub interrupted : ErrorKind → Bool
interrupted Interrupted = true
interrupted _ = false

-- `at` bytes of `size` were there before; 0 is the end, an interrupted read is tried again, and any other error ends all
unfoldable pub after_read : (at patience size : ℕ) → Read → Progress
after_read at patience size (Ok n) =
    if eqb n 0 then Whole at otherwise
    if eqb (at + n) size then Whole (at + n) otherwise
    Going (at + n) patience
after_read at patience size (Err kind) = if interrupted kind then (if eqb patience 0 then Failed otherwise Going at (patience - 1)) otherwise Failed

-- reads one after the other; none follows the end or a failure
unfoldable pub after : List Read → (size : ℕ) → Progress → Progress
after [] size progress = progress
after (r ∷ rs) size (Going at patience) = after rs size (after_read at patience size r)
after (r ∷ rs) size (Whole n) = Whole n
after (r ∷ rs) size Failed = Failed

-- nothing is there yet, and a million interrupted reads are put up with
abbrev pub begun : Progress
begun = Going 0 1000000

-- reading into so many bytes has come so far, by reads that answered something
pub record Reached (size : ℕ) (progress : Progress) : Type 0 where
  pub reads : List Read
  pub come : after reads size begun ≡ progress

-- one read more, which moved no more than it was handed
pub record OneMore (at patience size : ℕ) (progress : Progress) : Type 0 where
  pub read : Read
  pub come : after_read at patience size read ≡ progress
  pub moved : IfOk read (λ n. n ≤ size - at)

-- all is there, within so many bytes, or a read failed
abbrev pub Over : (size : ℕ) → Progress → Type 0
Over size (Going at patience) = ⊥
Over size (Whole n) = n ≤ size
Over size Failed = Unit {0}

-- where a reader's bytes are known, those that are there are the first of them, and `left` is behind; and a whole input that leaves room has none behind
abbrev pub Holds : Progress → (known left : Option (List ℕ)) (buf : List ℕ) → Type 0
Holds (Going at patience) known left buf = Consumes known left (take at buf)
Holds (Whole n) known left buf = Consumes known left (take n buf) × (n < length buf → IsAtEnd left)
Holds Failed known left buf = ⊤

-- the bytes that are there; none counts before all are
abbrev pub bytes : Progress → ℕ
bytes (Going at patience) = 0
bytes (Whole n) = n
bytes Failed = 0

-- these bytes are a whole input
abbrev pub IsWhole : Progress → (input : List ℕ) → Type 0
IsWhole read input = read ≡ Whole (length input)

-- a read that failed and was not interrupted is never taken for the end of the input, whatever was read before and whatever would be after it
abbrev pub FailedIsNoInput : Type 0
FailedIsNoInput =
    (size : ℕ) (before : List Read) (kind : ErrorKind) (later : List Read) (at patience : ℕ)
    → after before size begun ≡ Going at patience → interrupted kind ≡ false
    → after (before ++ Err kind ∷ later) size begun ≡ Failed

-- and an interrupted one is tried again
abbrev pub InterruptedIsTriedAgain : Type 0
InterruptedIsTriedAgain = (size at patience : ℕ) → after_read at (patience + 1) size (Err Interrupted) ≡ Going at patience
