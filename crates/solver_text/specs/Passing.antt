-- What stands behind a part that a text begins with, and that nothing may. Assumes nothing.
use Rattle.std.specs.Prelude.{Option, Some, None, Ok, Bool, List, ℕ, eqb, length, drop}
use Rattle.whole.specs.Tests.{if◌then◌otherwise◌}
use Rattle.sheet.specs.declared.Reason.TheVariants.{BadClaim}
use Rattle.sheet.specs.Acceptance.{Outcome, refused}
use Rattle.sheet.specs.Texts.{starts}

unfoldable pub behind : (part text : List ℕ) → Option (List ℕ)
behind part text = if starts part text then Some (drop (length part) text) otherwise None

abbrev pub alone : (rest : List ℕ) (claimed : Bool) (line : ℕ) → Outcome Bool
alone rest claimed line = if eqb (length rest) 0 then Ok claimed otherwise refused BadClaim line
