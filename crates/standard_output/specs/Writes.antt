-- What a write that did not end well leaves. Assumes nothing.
use Rattle.std.specs.Prelude.{List, ℕ, ◌≤◌, length, take}
use Rattle.std.specs.declared.option.Option.{Option}
use Rattle.std.specs.Io.KnownBytes.{Appends}

-- where a writer's bytes are known, a first part of these bytes is behind them, and nothing else
pub record AppendsPart (old new : Option (List ℕ)) (bytes : List ℕ) : Type 0 where
  pub taken : ℕ
  pub within : taken ≤ length bytes
  pub behind : Appends old new (take taken bytes)
