-- A text that was printed over the front of a buffer, as the part that a program writes. Assumes nothing.
use mathlib.Core.Path.{◌≡◌, sym}
use mathlib.Core.List.{List}
use Prim.Native.Nat.{ℕ, ◌≤◌}
use native.Mathlib.Omega.{arith}
use lib.ListN.{length, take, drop, length-append}
use lib.Seq.{take_at, length-take-le}
use Rattle.frame.specs.Frame.{front}

module _ (text before : List ℕ) {after : List ℕ} {size : ℕ} (e : size ≡ length text) (f : after ≡ front text before) where
  pub printed_part : take size after ≡ text
  unfolding front
  printed_part = rw f (take_at text (drop (length text) before) size (sym e))

  pub printed_within : size ≤ length after
  unfolding front
  printed_within = rw (f, e, length-append text (drop (length text) before)) (omega arith)

  pub printed_long : size ≡ length (take size after)
  printed_long = sym (length-take-le size after printed_within)
